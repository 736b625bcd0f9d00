-- The programs with the closer rows are programs, rise with the bounds, and have few rows.
use Rattle.std.proofs.Common.{◌≡◌, ℕ, ◌+◌, ◌<◌, ◌≤◌, ◌++◌, ◌==◌, ◌&&◌, not, Bool, true, [], ◌∷◌, List, length, map, arith}
use Rattle.std.specs.List.{All, Contains, filter}
use Rattle.std.proofs.lemmas.Bool.{and_parts, eqb-true}
use Rattle.std.proofs.lemmas.List.{length-append, length-map, append_assoc}
use Rattle.std.proofs.lemmas.List.Elements.{All-append, All-cons, All-nil, filter-append}
use Rattle.number_laws.specs.Sums.{flag}
use Rattle.number_laws.proofs.CountLaws.{flag-passes}
use Rattle.program_form.specs.Program.{IsProgram, IsCovered, columns, height}
use Rattle.program_form.specs.Limits.{HasLimitsAtMost}
use Rattle.sporadic_model.specs.SetDef.{SetDef}
use Rattle.sporadic_model.specs.Accepted.{IsAccepted}
use Rattle.sporadic_model.specs.declared.ids.Protocol.{Protocol}
use Rattle.sporadic_model.specs.declared.ids.Protocol.TheVariants as protocol
use Rattle.sporadic_model.specs.Bounds.{AtMost, AreWithinDeadlines}
use Rattle.program_sources.specs.Fitting.{ComesUpAbove}
use Rattle.program_sources.proofs.RecurrenceLaws.{comes_up_above}
use Rattle.blocking_columns.specs.ColumnDef.{ColumnDef, is_direct, is_preemption, is_indirect}
use Rattle.blocking_columns.specs.Columns.{is_column, columns_of, is_lower_local}
use Rattle.fragments.specs.Constraints.{ConstraintDef, per, per_where, per_pair, holds_some, rows_there}
use Rattle.blocking_columns.proofs.KnownColumns.{passing_known, columns_are_requests, columns_are_of_others}
use Rattle.direct_constraints.specs.Rows.{common_rows, request_row}
use Rattle.preempt_constraints.specs.Rows.{preemption_rows}
use Rattle.program_laws.specs.Programs.{protocol_rows, rows_of}
use Rattle.program_laws.specs.Written.{IsSmallRow, Rises, HasJobsAtMost, KeepsJobs}
use Rattle.program_laws.proofs.Lists.{filter_shorter}
use Rattle.program_laws.proofs.RowKinds.{each_row, all_per, all_per_pair, all_per_where}
use Rattle.program_laws.proofs.RisingLimits.{jobs_rise, jobs_stay, limits_rise}
use Rattle.program_laws.proofs.SmallNumbers.{rows_small, home_small, small_flags}
use Rattle.program_laws.proofs.CoveredColumns.{covered_by, request_row_among}
use Rattle.program_laws.proofs.ListLengths.{Few, few, per_at_most, pair_at_most, where_at_most, rows_few}
use Rattle.program_laws.proofs.FewRows.{IsOfTask, IsOfPair, pair_rows_few, task_rows_few, where_rows_few, rows_at_most}
use Rattle.program_laws.proofs.GivenPrograms.{limits_at_most, limits_stay, is_program, written_where}
use Rattle.closer_laws.specs.CloserRows.{requests_where, holder_row, other_holder_row, lower_row, local_preemption_row, local_wait_row}
use Rattle.closer_laws.specs.CloserRows.{is_shared_out, is_held_there, is_held_beside, local_runner_row, closer_rows, fmlp_closer_rows, fmlp_closer_program, fmlp_closer_source}

-- Is P true of each kind of closer row?
pub record EachCloser (P : ConstraintDef → Type 0) (set : SetDef) (i : ℕ) : Type 0 where
  pub holder : (x : ℕ) → x < length set.tasks → P (holder_row set i x)
  pub other : (x q : ℕ) → x < length set.tasks → q < length set.resources → P (other_holder_row set i x q)
  pub lower : (x : ℕ) → x < length set.tasks → is_lower_local set i x ≡ true → P (lower_row set i x)
  pub preemption : P (local_preemption_row set i)
  pub wait : P (local_wait_row set i)
  pub runner : P (local_runner_row set i)

abbrev holders : SetDef → ℕ → List ConstraintDef
holders set i = per (length set.tasks) (holder_row set i)

abbrev others : SetDef → ℕ → List ConstraintDef
others set i = per_pair (length set.tasks) (length set.resources) (other_holder_row set i)

abbrev lowers : SetDef → ℕ → List ConstraintDef
lowers set i = per_where (is_lower_local set i) (length set.tasks) (lower_row set i)

abbrev singles : SetDef → ℕ → List ConstraintDef
singles set i = local_preemption_row set i ∷ local_wait_row set i ∷ local_runner_row set i ∷ []

pub closer_each : (P : ConstraintDef → Type 0) (set : SetDef) (i : ℕ) → EachCloser P set i → All P (closer_rows set i)
closer_each P set i each =
    All-append P (holders set i) (others set i ++ (lowers set i ++ singles set i))
    (all_per P (length set.tasks) (holder_row set i) each.holder)
    (All-append P (others set i) (lowers set i ++ singles set i)
    (all_per_pair P (length set.tasks) (length set.resources) (other_holder_row set i) each.other)
    (All-append P (lowers set i) (singles set i)
    (all_per_where P (is_lower_local set i) (length set.tasks) (lower_row set i) each.lower)
    (All-cons P (local_preemption_row set i) (local_wait_row set i ∷ local_runner_row set i ∷ []) each.preemption
    (All-cons P (local_wait_row set i) (local_runner_row set i ∷ []) each.wait
    (All-cons P (local_runner_row set i) [] each.runner (All-nil P))))))

-- Whatever is true of each row of FMLP+ and of each closer row is true of all.
pub fmlp_closer_each : (P : ConstraintDef → Type 0) (set : SetDef) (i : ℕ) → All P (rows_of protocol.FmlpPlus set i) → EachCloser P set i
    → All P (fmlp_closer_rows set i)
fmlp_closer_each P set i rows each =
    All-append P (rows_of protocol.FmlpPlus set i) (closer_rows set i) rows (closer_each P set i each)

-- No limit of a closer row depends on the bounds.
rises : (set : SetDef) (i : ℕ) (r s : List ℕ) → EachCloser (Rises r s) set i
rises set i r s = record {
  holder = λ x a. omega arith;
  other = λ x q a b. omega arith;
  lower = λ x a l. omega arith;
  preemption = omega arith;
  wait = omega arith;
  runner = omega arith;
}

rows_rise : (set : SetDef) (i : ℕ) (r s : List ℕ) → i < length set.tasks → HasJobsAtMost set i r s → All (Rises r s) (fmlp_closer_rows set i)
rows_rise set i r s here h = fmlp_closer_each (Rises r s) set i
    (each_row (Rises r s) protocol.FmlpPlus set i (limits_rise protocol.FmlpPlus set i r s here h)) (rises set i r s)

pub fmlp_closer_rises : (set : SetDef) (i : ℕ) (r s : List ℕ) → i < length set.tasks → AtMost (length set.tasks) r s
    → HasLimitsAtMost (fmlp_closer_program set i r) (fmlp_closer_program set i s)
fmlp_closer_rises set i r s here h =
    limits_at_most set (columns_of protocol.FmlpPlus set i) (fmlp_closer_rows set i) r s
    (rows_rise set i r s here (jobs_rise set r s i here h))

pub fmlp_closer_follows : (set : SetDef) (i : ℕ) (r s : List ℕ) → i < length set.tasks → KeepsJobs set i r s
    → (fmlp_closer_program set i r).limits ≡ (fmlp_closer_program set i s).limits
fmlp_closer_follows set i r s here same =
    let both = jobs_stay set r s i same in
    limits_stay set (columns_of protocol.FmlpPlus set i) (fmlp_closer_rows set i) r s (rows_rise set i r s here both.0)
    (rows_rise set i s r here both.1)

pub requests_small : (set : SetDef) (i : ℕ) (passes : ℕ → Bool) → IsAccepted set → i < length set.tasks → requests_where set i passes ≤ 32000
requests_small set i passes accepted here = home_small set i passes accepted here

small : (set : SetDef) (i : ℕ) (r : List ℕ) → IsAccepted set → i < length set.tasks → EachCloser (IsSmallRow r) set i
small set i r accepted here = record {
  holder = λ x a. small_flags r (λ c. (c.task == x) && not (is_preemption c.class)) (λ bounds. requests_where set i (is_held_there set i x))
      (few (is_held_there set i x));
  other = λ x q a b. small_flags r (λ c. ((c.task == x) && (c.resource == q)) && is_indirect c.class)
      (λ bounds. requests_where set i (λ p. not (p == q) && is_held_beside set i x p)) (few (λ p. not (p == q) && is_held_beside set i x p));
  lower = λ x a l. small_flags r (λ c. c.task == x) (λ bounds. 1 + requests_where set i (is_shared_out set i)) one_more;
  preemption = small_flags r (λ c. is_preemption c.class && not (is_shared_out set i c.resource))
      (λ bounds. 1 + requests_where set i (is_shared_out set i)) one_more;
  wait = small_flags r (λ c. is_direct c.class && not (is_shared_out set i c.resource)) (λ bounds. 0) (omega arith);
  runner = small_flags r (λ c. is_indirect c.class && not (is_shared_out set c.task c.resource)) (λ bounds. 0) (omega arith);
} where
  few : (passes : ℕ → Bool) → requests_where set i passes ≤ 9223372036854775807
  few passes = omega (arith, requests_small set i passes accepted here)

  one_more : 1 + requests_where set i (is_shared_out set i) ≤ 9223372036854775807
  one_more = omega (arith, requests_small set i (is_shared_out set i) accepted here)

closer_few : (set : SetDef) (i : ℕ) → Few set → length (closer_rows set i) ≤ 2179
closer_few set i f = omega (
  arith,
  length-append (holders set i) (others set i ++ (lowers set i ++ singles set i)),
  length-append (others set i) (lowers set i ++ singles set i),
  length-append (lowers set i) (singles set i),
  per_at_most (length set.tasks) (holder_row set i),
  pair_at_most (length set.tasks) (length set.resources) (other_holder_row set i),
  where_at_most (is_lower_local set i) (length set.tasks) (lower_row set i),
  f.tasks,
  f.pairs,
)

rows_to : (set : SetDef) (i : ℕ) → IsAccepted set → length (fmlp_closer_rows set i) < 4294967296
rows_to set i accepted = omega (
  arith,
  length-append (rows_of protocol.FmlpPlus set i) (closer_rows set i),
  rows_few protocol.FmlpPlus set i accepted,
  closer_few set i (few set accepted),
)

-- The rows of requests stand among those of a protocol with further rows behind.
pub request_among : (p : Protocol) (set : SetDef) (i : ℕ) (more : List ConstraintDef) (x q : ℕ) → x < length set.tasks
    → q < length set.resources → Contains (rows_of p set i ++ more) (request_row set i x q)
request_among p set i more x q a b =
    let rest : List ConstraintDef = preemption_rows set i ++ protocol_rows p set i in
    rw (append_assoc (common_rows set i) rest more) (request_row_among set i x q (rest ++ more) a b)

among : (set : SetDef) (i x q : ℕ) → x < length set.tasks → q < length set.resources
    → Contains (fmlp_closer_rows set i) (request_row set i x q)
among set i x q a b = request_among protocol.FmlpPlus set i (closer_rows set i) x q a b

pub fmlp_closer_is_program : (set : SetDef) (i : ℕ) (r : List ℕ) → IsAccepted set → i < length set.tasks → AreWithinDeadlines set r
    → IsProgram (fmlp_closer_program set i r)
fmlp_closer_is_program set i r accepted here within =
    is_program set i (columns_of protocol.FmlpPlus set i) (fmlp_closer_rows set i) r accepted
    (written_where (is_column protocol.FmlpPlus set i) set i (fmlp_closer_rows set i) r accepted (λ x q a b. among set i x q a b)
    (fmlp_closer_each (IsSmallRow r) set i
    (each_row (IsSmallRow r) protocol.FmlpPlus set i (rows_small protocol.FmlpPlus set i r accepted within here))
    (small set i r accepted here)) (rows_to set i accepted))

-- Each column has a coefficient above zero in some row.
pub fmlp_closer_covered : (set : SetDef) (i : ℕ) (r : List ℕ) (c : ℕ) → c < columns (fmlp_closer_program set i r)
    → IsCovered (fmlp_closer_program set i r) c
fmlp_closer_covered set i r c within =
    covered_by set i (columns_of protocol.FmlpPlus set i) (fmlp_closer_rows set i) r c
    (passing_known (is_column protocol.FmlpPlus set i) set) (λ x q a b. among set i x q a b) within

-- What comes up at some bounds, no less comes up at greater ones.
pub fmlp_closer_above : (set : SetDef) → ComesUpAbove (fmlp_closer_source set)
fmlp_closer_above set = comes_up_above (fmlp_closer_source set) (λ i r s here most. fmlp_closer_rises set i r s here most)

-- Of these rows, beside those of FMLP+, few are there.
pub first_of : (a b : Bool) → 0 < flag (a && b) → a ≡ true
first_of a b h = (and_parts a b (flag-passes (a && b) h)).0

holder_of : (set : SetDef) (i x : ℕ) → IsOfTask x (holder_row set i x)
holder_of set i x c some = eqb-true _ _ (first_of (c.task == x) (not (is_preemption c.class)) some)

other_of : (set : SetDef) (i x q : ℕ) → IsOfPair x q (other_holder_row set i x q)
other_of set i x q c some =
    let both : ((c.task == x) ≡ true) × ((c.resource == q) ≡ true) =
    and_parts _ _ (first_of ((c.task == x) && (c.resource == q)) (is_indirect c.class) some) in
    (eqb-true _ _ both.0, eqb-true _ _ both.1)

lower_of : (set : SetDef) (i x : ℕ) → IsOfTask x (lower_row set i x)
lower_of set i x c some = eqb-true _ _ (flag-passes (c.task == x) some)

closer_there : (set : SetDef) (i : ℕ) → IsAccepted set → i < length set.tasks
    → length (rows_there (columns_of protocol.FmlpPlus set i) (closer_rows set i)) ≤ 385
closer_there set i accepted here =
    let there : ConstraintDef → Bool = holds_some (columns_of protocol.FmlpPlus set i) in
    let test : ColumnDef → Bool = is_column protocol.FmlpPlus set i in
    rw (
      filter-append there (holders set i) (others set i ++ (lowers set i ++ singles set i)),
      filter-append there (others set i) (lowers set i ++ singles set i),
      filter-append there (lowers set i) (singles set i),
      length-append (filter there (holders set i)) (filter there (others set i) ++ (filter there (lowers set i) ++ filter there (singles set i))),
      length-append (filter there (others set i)) (filter there (lowers set i) ++ filter there (singles set i)),
      length-append (filter there (lowers set i)) (filter there (singles set i)),
    ) (omega (
      arith,
      task_rows_few test set i (holder_row set i) accepted here (columns_are_of_others protocol.FmlpPlus set i) (holder_of set i),
      pair_rows_few test set (other_holder_row set i) accepted (columns_are_requests protocol.FmlpPlus set i) (other_of set i),
      where_rows_few test set i (is_lower_local set i) (lower_row set i) accepted here (columns_are_of_others protocol.FmlpPlus set i)
          (lower_of set i),
      filter_shorter there (singles set i),
    ))

pub fmlp_closer_height : (set : SetDef) (i : ℕ) (r : List ℕ) → IsAccepted set → i < length set.tasks
    → height (fmlp_closer_program set i r) ≤ 1086
fmlp_closer_height set i r accepted here =
    let there : ConstraintDef → Bool = holds_some (columns_of protocol.FmlpPlus set i) in
    let few : length (rows_there (columns_of protocol.FmlpPlus set i) (fmlp_closer_rows set i)) ≤ 1086 =
    rw (
      filter-append there (rows_of protocol.FmlpPlus set i) (closer_rows set i),
      length-append (filter there (rows_of protocol.FmlpPlus set i)) (filter there (closer_rows set i)),
    ) (omega (arith, rows_at_most protocol.FmlpPlus set i accepted here, closer_there set i accepted here)) in
    rw (length-map (rows_there (columns_of protocol.FmlpPlus set i) (fmlp_closer_rows set i))
    (λ (k : ConstraintDef). map k.coefficient (columns_of protocol.FmlpPlus set i))) few
