-- The programs with the closer rows are programs, rise with the bounds, and follow them only by the jobs that can run.
use Rattle.std.proofs.Common.{◌≡◌, ℕ, ◌+◌, ◌*◌, ◌<◌, ◌≤◌, ◌^◌, ◌++◌, ◌∷◌, Bool, List, length, arith}
use Rattle.std.specs.Prelude.{slice_index}
use Rattle.std.specs.List.{All}
use Rattle.std.proofs.Math.Nat.{mul-le-mul_right}
use Rattle.std.proofs.lemmas.List.{length-append}
use Rattle.std.proofs.lemmas.List.Elements.{All-append, All-cons}
use Rattle.number_laws.specs.Sums.{only_if}
use Rattle.number_laws.proofs.CountLaws.{flag-at_most}
use Rattle.number_laws.proofs.SumLaws.{only_if-at_most, sum_below-monotone}
use Rattle.number_laws.proofs.OnlyIfLaws.{only_if-rises}
use Rattle.program_form.specs.Program.{IsProgram, IsCovered, columns}
use Rattle.program_form.specs.Limits.{HasLimitsAtMost}
use Rattle.sporadic_model.specs.SetDef.{SetDef}
use Rattle.sporadic_model.specs.Users.{count_of}
use Rattle.sporadic_model.specs.Accepted.{IsAccepted}
use Rattle.sporadic_model.specs.Bounds.{AtMost, AreWithinDeadlines}
use Rattle.program_sources.specs.Fitting.{ComesUpAbove}
use Rattle.program_sources.proofs.RecurrenceLaws.{comes_up_above}
use Rattle.fragments.specs.Constraints.{ConstraintDef, per, per_pair}
use Rattle.blocking_columns.proofs.KnownColumns.{passing_known}
use Rattle.direct_constraints.specs.Rows.{common_rows}
use Rattle.program_laws.specs.Written.{IsSmallRow, Rises, HasJobsAtMost, KeepsJobs}
use Rattle.program_laws.proofs.Lists.{sum_at_most}
use Rattle.program_laws.proofs.RowKinds.{all_per, all_per_pair}
use Rattle.program_laws.proofs.RisingLimits.{jobs_rise, jobs_stay, common_rises}
use Rattle.program_laws.proofs.SmallNumbers.{common_small, count_small, flag_small}
use Rattle.program_laws.proofs.CoveredColumns.{covered_by, request_row_among}
use Rattle.program_laws.proofs.ListLengths.{Few, few, common_few, per_at_most, pair_at_most}
use Rattle.program_laws.proofs.GivenPrograms.{limits_at_most, limits_stay, is_program, written_where}
use Rattle.spin_charging.specs.SpinPrograms.{is_spin_column, spin_columns, lower_request_row, own_spinning_row, is_used_below}
use Rattle.spin_charging.specs.SpinPrograms.{higher_requests, upper_requests}
use Rattle.spin_charging.proofs.SpinPrograms.{higher_rise, higher_small}
use Rattle.closer_spin_laws.specs.CloserSpinRows.{is_spun_below, is_spun_beside, is_spun_with, is_lone, closer_spinning_row, together_row}
use Rattle.closer_spin_laws.specs.CloserSpinRows.{lower_spinning_row, other_lower_spinning_row, lone_spinning_with_row, lone_spinning_row}
use Rattle.closer_spin_laws.specs.CloserSpinRows.{closer_spinning_rows, own_spinning_rows, together_rows, lone_spinning_rows}
use Rattle.closer_spin_laws.specs.CloserSpinRows.{spin_closer_rows, spin_closer_program, spin_closer_source}

-- Is P true of each kind of row that spin locks have of their own?
pub record EachSpinning (P : ConstraintDef → Type 0) (set : SetDef) (i : ℕ) : Type 0 where
  pub lower : P lower_request_row
  pub spinning : (k q : ℕ) → k < set.processors → q < length set.resources → P (closer_spinning_row set i (k + 1) q)
  pub own : (k q : ℕ) → k < set.processors → q < length set.resources → P (own_spinning_row set i (k + 1) q)
  pub together : (k least : ℕ) (passes : ℕ → Bool) → k < set.processors → P (together_row set i (k + 1) least passes)

together_each : (P : ConstraintDef → Type 0) (set : SetDef) (i : ℕ) → EachSpinning P set i → All P (together_rows set i)
together_each P set i each =
    All-append P (per set.processors (λ k. lower_spinning_row set i (k + 1)))
    (others ++ with_one)
    (all_per P set.processors (λ k. lower_spinning_row set i (k + 1)) (λ k a. each.together k 1 (is_spun_below set i (k + 1)) a))
    (All-append P others with_one
    (all_per_pair P set.processors (length set.resources) (λ k q. other_lower_spinning_row set i (k + 1) q)
    (λ k q a b. each.together k 0 (is_spun_beside set i (k + 1) q) a))
    (all_per_pair P set.processors (length set.resources) (λ k q. lone_spinning_with_row set i (k + 1) q)
    (λ k q a b. each.together k 3 (is_spun_with set i (k + 1) q) a))) where
      others : List ConstraintDef
      others = per_pair set.processors (length set.resources) (λ k q. other_lower_spinning_row set i (k + 1) q)

      with_one : List ConstraintDef
      with_one = per_pair set.processors (length set.resources) (λ k q. lone_spinning_with_row set i (k + 1) q)

lone_each : (P : ConstraintDef → Type 0) (set : SetDef) (i : ℕ) → EachSpinning P set i → All P (lone_spinning_rows set i)
lone_each P set i each =
    all_per P set.processors (λ k. lone_spinning_row set i (k + 1)) (λ k a. each.together k 0 (is_lone set i (k + 1)) a)

-- Then it is true of all rows, where it is of those that every protocol has.
pub spin_closer_each : (P : ConstraintDef → Type 0) (set : SetDef) (i : ℕ) → All P (common_rows set i) → EachSpinning P set i
    → All P (spin_closer_rows set i)
spin_closer_each P set i common each =
    All-append P (common_rows set i) (lower_request_row ∷ rest) common
    (All-cons P lower_request_row rest each.lower
    (All-append P (own_spinning_rows set i) (together_rows set i ++ last)
    (all_per_pair P set.processors (length set.resources) (λ k q. own_spinning_row set i (k + 1) q) each.own)
    (All-append P (together_rows set i) last (together_each P set i each)
    (All-append P (lone_spinning_rows set i) (closer_spinning_rows set i) (lone_each P set i each)
    (all_per_pair P set.processors (length set.resources) (λ k q. closer_spinning_row set i (k + 1) q) each.spinning))))) where
      last : List ConstraintDef
      last = lone_spinning_rows set i ++ closer_spinning_rows set i

      rest : List ConstraintDef
      rest = own_spinning_rows set i ++ (together_rows set i ++ last)

-- The requests of i and of higher tasks rise with the jobs that can run, and are not many.
upper_rise : (set : SetDef) (i : ℕ) (passes : ℕ → Bool) (r s : List ℕ) → i < length set.tasks → HasJobsAtMost set i r s
    → upper_requests set (slice_index r) i passes ≤ upper_requests set (slice_index s) i passes
upper_rise set i passes r s here h = sum_below-monotone (length set.resources) _ _ (λ q l.
    only_if-rises (passes q) (count_of set i q + higher_requests set (slice_index r) i q)
    (count_of set i q + higher_requests set (slice_index s) i q) (λ counts. omega (arith, higher_rise set i q r s here h)))

upper_small : (set : SetDef) (i : ℕ) (passes : ℕ → Bool) (r : List ℕ) → IsAccepted set → AreWithinDeadlines set r
    → i < length set.tasks → upper_requests set (slice_index r) i passes ≤ 4096000000032000
upper_small set i passes r accepted within here =
    let f : Few set = few set accepted in
    let sum = sum_at_most (length set.resources) 128000000001000
    (λ q. only_if (passes q) (count_of set i q + higher_requests set (slice_index r) i q)) (λ q l. omega (
      arith,
      only_if-at_most (passes q) (count_of set i q + higher_requests set (slice_index r) i q),
      count_small set i q accepted here,
      higher_small set i q r accepted within here,
    )) in
    omega (arith, sum, f.resources)

rises : (set : SetDef) (i : ℕ) (r s : List ℕ) → i < length set.tasks → HasJobsAtMost set i r s → EachSpinning (Rises r s) set i
rises set i r s here h = record {
  lower = omega arith;
  spinning = λ k q a b. omega (arith, higher_rise set i q r s here h);
  own = λ k q a b. omega arith;
  together = λ k least passes a. omega (arith, upper_rise set i passes r s here h);
}

rows_rise : (set : SetDef) (i : ℕ) (r s : List ℕ) → i < length set.tasks → HasJobsAtMost set i r s → All (Rises r s) (spin_closer_rows set i)
rows_rise set i r s here h = spin_closer_each (Rises r s) set i (common_rises set i r s h) (rises set i r s here h)

pub spin_closer_rises : (set : SetDef) (i : ℕ) (r s : List ℕ) → i < length set.tasks → AtMost (length set.tasks) r s
    → HasLimitsAtMost (spin_closer_program set i r) (spin_closer_program set i s)
spin_closer_rises set i r s here h =
    limits_at_most set (spin_columns set i) (spin_closer_rows set i) r s (rows_rise set i r s here (jobs_rise set r s i here h))

pub spin_closer_follows : (set : SetDef) (i : ℕ) (r s : List ℕ) → i < length set.tasks → KeepsJobs set i r s
    → (spin_closer_program set i r).limits ≡ (spin_closer_program set i s).limits
spin_closer_follows set i r s here same =
    let both = jobs_stay set r s i same in
    limits_stay set (spin_columns set i) (spin_closer_rows set i) r s (rows_rise set i r s here both.0) (rows_rise set i s r here both.1)

small : (set : SetDef) (i : ℕ) (r : List ℕ) → IsAccepted set → AreWithinDeadlines set r → i < length set.tasks
    → EachSpinning (IsSmallRow r) set i
small set i r accepted within here = record {
  lower = record { coefficients = λ c. flag_small _; limit = omega arith };
  spinning = λ k q a b. record {
    coefficients = λ c. flag_small _;
    limit = omega (
      arith,
      count_small set i q accepted here,
      higher_small set i q r accepted within here,
      flag-at_most (is_used_below set i q),
    );
  };
  own = λ k q a b. record { coefficients = λ c. flag_small _; limit = omega (arith, count_small set i q accepted here) };
  together = λ k least passes a.
      record { coefficients = λ c. flag_small _; limit = omega (arith, upper_small set i passes r accepted within here) };
}

rows_to : (set : SetDef) (i : ℕ) → IsAccepted set → length (spin_closer_rows set i) < 2 ^ 32
rows_to set i accepted =
    let f : Few set = few set accepted in
    let m : ℕ = length set.resources in
    let each = per set.processors (λ k. lower_spinning_row set i (k + 1)) in
    let others = per_pair set.processors m (λ k q. other_lower_spinning_row set i (k + 1) q) in
    let with_one = per_pair set.processors m (λ k q. lone_spinning_with_row set i (k + 1) q) in
    let last = lone_spinning_rows set i ++ closer_spinning_rows set i in
    let pairs : set.processors * m ≤ 64 * m = mul-le-mul_right m f.processors in
    omega (
      arith,
      length-append (common_rows set i) (lower_request_row ∷ (own_spinning_rows set i ++ (together_rows set i ++ last))),
      length-append (own_spinning_rows set i) (together_rows set i ++ last),
      length-append (together_rows set i) last,
      length-append (lone_spinning_rows set i) (closer_spinning_rows set i),
      length-append each (others ++ with_one),
      length-append others with_one,
      common_few set i f,
      pair_at_most set.processors m (λ k q. closer_spinning_row set i (k + 1) q),
      pair_at_most set.processors m (λ k q. own_spinning_row set i (k + 1) q),
      per_at_most set.processors (λ k. lower_spinning_row set i (k + 1)),
      pair_at_most set.processors m (λ k q. other_lower_spinning_row set i (k + 1) q),
      pair_at_most set.processors m (λ k q. lone_spinning_with_row set i (k + 1) q),
      per_at_most set.processors (λ k. lone_spinning_row set i (k + 1)),
      pairs,
      f.resources,
      f.processors,
    )

-- What stands behind the rows that every protocol has.
abbrev spinning_behind : SetDef → ℕ → List ConstraintDef
spinning_behind set i = lower_request_row
    ∷ (own_spinning_rows set i ++ (together_rows set i ++ (lone_spinning_rows set i ++ closer_spinning_rows set i)))

pub spin_closer_is_program : (set : SetDef) (i : ℕ) (r : List ℕ) → IsAccepted set → i < length set.tasks → AreWithinDeadlines set r
    → IsProgram (spin_closer_program set i r)
spin_closer_is_program set i r accepted here within = is_program set i (spin_columns set i) (spin_closer_rows set i) r accepted
    (written_where (is_spin_column set i) set i (spin_closer_rows set i) r accepted
    (λ x q a b. request_row_among set i x q (spinning_behind set i) a b)
    (spin_closer_each (IsSmallRow r) set i (common_small set i r accepted within here) (small set i r accepted within here))
    (rows_to set i accepted))

pub spin_closer_covered : (set : SetDef) (i : ℕ) (r : List ℕ) (c : ℕ) → c < columns (spin_closer_program set i r)
    → IsCovered (spin_closer_program set i r) c
spin_closer_covered set i r c within =
    covered_by set i (spin_columns set i) (spin_closer_rows set i) r c (passing_known (is_spin_column set i) set)
    (λ x q a b. request_row_among set i x q (spinning_behind set i) a b) within

-- What comes up at some bounds, no less comes up at greater ones.
pub spin_closer_above : (set : SetDef) → ComesUpAbove (spin_closer_source set)
spin_closer_above set = comes_up_above (spin_closer_source set) (λ i r s here most. spin_closer_rises set i r s here most)
