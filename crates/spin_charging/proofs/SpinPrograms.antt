-- The lists that are written down are a program, and no limit falls where bounds rise or as many jobs can run.
use Rattle.std.proofs.Common.{◌≡◌, ℕ, ◌+◌, ◌*◌, ◌<◌, ◌≤◌, ◌^◌, ◌∷◌, List, length, arith}
use Rattle.std.specs.Prelude.{slice_index}
use Rattle.std.specs.List.{All}
use Rattle.std.proofs.Math.Nat.{mul-le-mul_right}
use Rattle.std.proofs.lemmas.List.{length-append}
use Rattle.std.proofs.lemmas.List.Elements.{All-append, All-cons}
use Rattle.number_laws.specs.Sums.{only_if}
use Rattle.number_laws.proofs.CountLaws.{flag-at_most}
use Rattle.number_laws.proofs.SumLaws.{only_if-at_most, sum_below-monotone}
use Rattle.number_laws.proofs.OnlyIfLaws.{only_if-rises}
use Rattle.program_form.specs.Program.{IsProgram, IsCovered, columns}
use Rattle.program_form.specs.Limits.{HasLimitsAtMost}
use Rattle.sporadic_model.specs.SetDef.{SetDef, task_at}
use Rattle.sporadic_model.specs.Accepted.{IsAccepted, TaskNumbers}
use Rattle.sporadic_model.specs.Bounds.{AtMost, AreWithinDeadlines}
use Rattle.sporadic_model.proofs.Laws.{sizes_of_accepted}
use Rattle.blocking_columns.specs.Columns.{have_one_processor}
use Rattle.fragments.specs.Constraints.{ConstraintDef, per_pair}
use Rattle.blocking_columns.specs.Windows.{requests_in}
use Rattle.blocking_columns.proofs.KnownColumns.{passing_known}
use Rattle.direct_constraints.specs.Rows.{common_rows}
use Rattle.program_laws.specs.Written.{IsSmallRow, Rises, HasJobsAtMost, KeepsJobs}
use Rattle.program_laws.proofs.Lists.{sum_at_most}
use Rattle.program_laws.proofs.RowKinds.{all_per_pair}
use Rattle.program_laws.proofs.RisingLimits.{jobs_rise, jobs_stay, common_rises, requests_rise}
use Rattle.program_laws.proofs.SmallNumbers.{common_small, count_small, requests_small, flag_small}
use Rattle.program_laws.proofs.CoveredColumns.{covered_by, request_row_among}
use Rattle.program_laws.proofs.ListLengths.{Few, few, common_few, pair_at_most}
use Rattle.program_laws.proofs.GivenPrograms.{limits_at_most, limits_stay, is_program, written_where}
use Rattle.spin_charging.specs.SpinPrograms.{is_spin_column, spin_columns, lower_request_row, higher_requests, is_used_below}
use Rattle.spin_charging.specs.SpinPrograms.{spinning_row, own_spinning_row, spinning_rows, spin_rows, spin_program}

-- What is true of each row of spinning and of own spinning is true of all of them; with the row of lower requests and those that
-- every protocol has, of all rows.
pub spinning_each : (P : ConstraintDef → Type 0) (set : SetDef) (i : ℕ)
    → ((k q : ℕ) → k < set.processors → q < length set.resources → P (spinning_row set i (k + 1) q))
    → ((k q : ℕ) → k < set.processors → q < length set.resources → P (own_spinning_row set i (k + 1) q)) → All P (spinning_rows set i)
spinning_each P set i all own =
    All-append P (per_pair set.processors (length set.resources) (λ k q. spinning_row set i (k + 1) q))
    (per_pair set.processors (length set.resources) (λ k q. own_spinning_row set i (k + 1) q))
    (all_per_pair P set.processors (length set.resources) (λ k q. spinning_row set i (k + 1) q) all)
    (all_per_pair P set.processors (length set.resources) (λ k q. own_spinning_row set i (k + 1) q) own)

pub spin_each : (P : ConstraintDef → Type 0) (set : SetDef) (i : ℕ) → All P (common_rows set i) → P lower_request_row
    → ((k q : ℕ) → k < set.processors → q < length set.resources → P (spinning_row set i (k + 1) q))
    → ((k q : ℕ) → k < set.processors → q < length set.resources → P (own_spinning_row set i (k + 1) q)) → All P (spin_rows set i)
spin_each P set i common lower all own =
    All-append P (common_rows set i) (lower_request_row ∷ spinning_rows set i) common
    (All-cons P lower_request_row (spinning_rows set i) lower (spinning_each P set i all own))

-- The requests of higher tasks rise with the jobs that can run, and are not many.
pub higher_rise : (set : SetDef) (i q : ℕ) (r s : List ℕ) → i < length set.tasks → HasJobsAtMost set i r s
    → higher_requests set (slice_index r) i q ≤ higher_requests set (slice_index s) i q
higher_rise set i q r s here h = sum_below-monotone i _ _ (λ x l.
    only_if-rises (have_one_processor set x i) (requests_in set (slice_index r) i x q) (requests_in set (slice_index s) i x q)
    (λ counts. requests_rise set r s i x q (h x (omega arith))))

pub higher_small : (set : SetDef) (i q : ℕ) (r : List ℕ) → IsAccepted set → AreWithinDeadlines set r → i < length set.tasks
    → higher_requests set (slice_index r) i q ≤ 128000000000000
higher_small set i q r accepted within here =
    let sizes = sizes_of_accepted set accepted in
    let sum = sum_at_most i 2000000000000 (λ h. only_if (have_one_processor set h i) (requests_in set (slice_index r) i h q)) (λ h l.
    omega (
      arith,
      only_if-at_most (have_one_processor set h i) (requests_in set (slice_index r) i h q),
      requests_small set r i h q accepted within here (omega arith),
    )) in
    omega (arith, sum, sizes.tasks_to)

rows_rise : (set : SetDef) (i : ℕ) (r s : List ℕ) → i < length set.tasks → HasJobsAtMost set i r s → All (Rises r s) (spin_rows set i)
rows_rise set i r s here h = spin_each (Rises r s) set i (common_rises set i r s h) (omega arith)
    (λ k q a b. omega (arith, higher_rise set i q r s here h)) (λ k q a b. omega arith)

pub spin_rises : (set : SetDef) (i : ℕ) (r s : List ℕ) → i < length set.tasks → AtMost (length set.tasks) r s
    → HasLimitsAtMost (spin_program set i r) (spin_program set i s)
spin_rises set i r s here h =
    limits_at_most set (spin_columns set i) (spin_rows set i) r s (rows_rise set i r s here (jobs_rise set r s i here h))

pub spin_follows : (set : SetDef) (i : ℕ) (r s : List ℕ) → i < length set.tasks → KeepsJobs set i r s
    → (spin_program set i r).limits ≡ (spin_program set i s).limits
spin_follows set i r s here same =
    let both = jobs_stay set r s i same in
    limits_stay set (spin_columns set i) (spin_rows set i) r s (rows_rise set i r s here both.0) (rows_rise set i s r here both.1)

rows_few : (set : SetDef) (i : ℕ) → IsAccepted set → length (spin_rows set i) < 2 ^ 32
rows_few set i accepted =
    let f : Few set = few set accepted in
    let all = per_pair set.processors (length set.resources) (λ k q. spinning_row set i (k + 1) q) in
    let own = per_pair set.processors (length set.resources) (λ k q. own_spinning_row set i (k + 1) q) in
    let pairs : set.processors * length set.resources ≤ 64 * length set.resources =
    mul-le-mul_right (length set.resources) f.processors in
    omega (
      arith,
      length-append (common_rows set i) (lower_request_row ∷ spinning_rows set i),
      length-append all own,
      common_few set i f,
      pair_at_most set.processors (length set.resources) (λ k q. spinning_row set i (k + 1) q),
      pair_at_most set.processors (length set.resources) (λ k q. own_spinning_row set i (k + 1) q),
      pairs,
      f.resources,
    )

pub spin_is_program : (set : SetDef) (i : ℕ) (r : List ℕ) → IsAccepted set → i < length set.tasks → AreWithinDeadlines set r
    → IsProgram (spin_program set i r)
spin_is_program set i r accepted here within = is_program set i (spin_columns set i) (spin_rows set i) r accepted
    (written_where (is_spin_column set i) set i (spin_rows set i) r accepted
    (λ x q a b. request_row_among set i x q (lower_request_row ∷ spinning_rows set i) a b)
    (spin_each (IsSmallRow r) set i (common_small set i r accepted within here)
    (record { coefficients = λ c. flag_small _; limit = omega arith })
    (λ k q a b. record {
      coefficients = λ c. flag_small _;
      limit = omega (
        arith,
        count_small set i q accepted here,
        higher_small set i q r accepted within here,
        flag-at_most (is_used_below set i q),
      );
    })
    (λ k q a b. record { coefficients = λ c. flag_small _; limit = omega (arith, count_small set i q accepted here) }))
    (rows_few set i accepted))

pub spin_covered : (set : SetDef) (i : ℕ) (r : List ℕ) (c : ℕ) → c < columns (spin_program set i r) → IsCovered (spin_program set i r) c
spin_covered set i r c within =
    covered_by set i (spin_columns set i) (spin_rows set i) r c (passing_known (is_spin_column set i) set)
    (λ x q a b. request_row_among set i x q (lower_request_row ∷ spinning_rows set i) a b) within

-- The interfering cost is from 1 to the task's cost.
pub cost_least : (set : SetDef) (h : ℕ) → TaskNumbers set h → 1 ≤ (task_at set h).cost
cost_least set h numbers = omega (arith, numbers.cost_from)

pub cost_most : (set : SetDef) (h : ℕ) → (task_at set h).cost ≤ (task_at set h).cost
cost_most set h = omega arith
