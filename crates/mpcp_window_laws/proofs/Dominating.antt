-- Each row of MPCP is dominated by one of the closer analysis: a row of holdings by one of shared holdings, a row of intervals by one of
-- shared intervals, and each other one by itself.
use Rattle.std.proofs.Common.{◌≡◌, ℕ, ◌+◌, ◌<◌, ◌≤◌, ◌&&◌, not, Bool, true, false, List, [], ◌∷◌, ◌++◌, length, refl, arith}
use Rattle.std.proofs.Common.{if◌then◌else◌}
use Rattle.std.specs.Prelude.{slice_index}
use Rattle.std.specs.List.{All, Contains}
use Rattle.std.proofs.lemmas.List.Elements.{Contains-append_left, Contains-append_right}
use Rattle.number_laws.specs.Sums.{only_if}
use Rattle.number_laws.proofs.SumLaws.{sum_below-monotone, only_if-at_most}
use Rattle.number_laws.proofs.OnlyIfLaws.{only_if-rises}
use Rattle.sporadic_model.specs.SetDef.{SetDef}
use Rattle.sporadic_model.specs.Users.{count_of, is_user}
use Rattle.sporadic_model.specs.declared.ids.Protocol.TheVariants as protocol
use Rattle.blocking_columns.specs.Columns.{have_one_processor, is_lower_local}
use Rattle.blocking_columns.specs.Windows.{requests_in, requests_by_higher}
use Rattle.fragments.specs.Constraints.{ConstraintDef, per, per_pair, per_where}
use Rattle.direct_constraints.specs.Rows.{request_row, time_row, lower_holder_row, common_rows}
use Rattle.preempt_constraints.specs.Rows.{interval_row}
use Rattle.indirect_constraints.specs.Rows.{is_beside, lower_holdings, holdings, holding_row}
use Rattle.program_laws.specs.Programs.{rows_of}
use Rattle.program_laws.proofs.Lists.{contains_collected}
use Rattle.program_laws.proofs.RowKinds.{each_row}
use Rattle.closer_laws.specs.CloserRows.{is_shared_out, local_preemption_row}
use Rattle.closer_laws.proofs.Dominated.{Dominates, IsDominated, itself_dominated}
use Rattle.closer_mpcp_laws.specs.CloserMpcpRows.{goes_before, shared_holdings, shared_holding_row, resource_holding_row, away_row}
use Rattle.closer_mpcp_laws.specs.CloserMpcpRows.{shared_interval_row, lower_wait_row, further_rows}
use Rattle.mpcp_window_laws.specs.WaitRows.{requests_in_waits, held_in_waits, wait_rows, mpcp_closer_rows}
use Rattle.mpcp_window_laws.proofs.Programs.{behind, holders, holders_and_behind}

-- Shared intervals: no more requests are shared out than there are.
interval_dominates : (bounds : List ℕ) (set : SetDef) (i x : ℕ) → Dominates bounds (shared_interval_row set i x) (interval_row set i x)
interval_dominates bounds set i x = record {
  coefficients = λ c. omega arith;
  limit = omega (
    arith,
    sum_below-monotone (length set.resources) (λ q. only_if (is_shared_out set i q) (count_of set i q)) (λ q. count_of set i q)
        (λ q l. only_if-at_most (is_shared_out set i q) (count_of set i q)),
  );
}

-- Higher tasks hold no more requests of r in the waits of a job than they make while it runs.
held_within : (set : SetDef) (bounds : ℕ → ℕ) (i x r : ℕ)
    → held_in_waits set i bounds x r ≤ requests_by_higher set bounds i (is_beside set x) r
held_within set bounds i x r = sum_below-monotone i (λ y. only_if (is_beside set x y) (requests_in_waits set bounds i r y r))
    (λ y. only_if (is_beside set x y) (requests_in set bounds i y r))
    (λ y l. only_if-rises (is_beside set x y) (requests_in_waits set bounds i r y r) (requests_in set bounds i y r) (λ beside. omega arith))

-- A number counts no more where one more test has to pass.
fewer : (user passes : Bool) (less more : ℕ) → less ≤ more → only_if (user && passes) less ≤ only_if user more
fewer true true less more most = most
fewer true false less more most = omega arith
fewer false passes less more most = omega arith

-- Shared holdings: they are no more than all holdings.
holdings_within : (set : SetDef) (bounds : ℕ → ℕ) (i x : ℕ) (passes : ℕ → Bool)
    → shared_holdings set (held_in_waits set i bounds x) i x passes ≤ holdings set bounds i x
holdings_within set bounds i x passes = sum_below-monotone (length set.resources)
    (λ r. only_if (is_user set r i && (is_shared_out set i r && passes r)) (few r))
    (λ r. only_if (is_user set r i) (all r))
    (λ r l. fewer (is_user set r i) (is_shared_out set i r && passes r) (few r) (all r) (omega (
      arith,
      held_within set bounds i x r,
      only_if-at_most (not (have_one_processor set x i)) (lower_holdings set i x r),
    ))) where
      few : ℕ → ℕ
      few r = held_in_waits set i bounds x r + only_if (not (have_one_processor set x i)) (lower_holdings set i x r)

      all : ℕ → ℕ
      all r = requests_by_higher set bounds i (is_beside set x) r + lower_holdings set i x r

holding_dominates : (bounds : List ℕ) (set : SetDef) (i x : ℕ)
    → Dominates bounds (shared_holding_row set (held_in_waits set i) i x) (holding_row set i x)
holding_dominates bounds set i x =
    record { coefficients = λ c. omega arith; limit = holdings_within set (slice_index bounds) i x (goes_before set x) }

per_among : (n k : ℕ) (row : ℕ → ConstraintDef) → k < n → Contains (per n row) (row k)
per_among n k row l = contains_collected n k (λ j. row j ∷ []) (row k) l (0, omega arith, refl)

where_among : (test : ℕ → Bool) (n k : ℕ) (row : ℕ → ConstraintDef) → k < n → test k ≡ true → Contains (per_where test n row) (row k)
where_among test n k row l passes =
    contains_collected n k (λ j. if test j then row j ∷ [] else []) (row k) l (rw passes (0, omega arith, refl))

pair_among : (m n k q : ℕ) (row : ℕ → ℕ → ConstraintDef) → k < m → q < n → Contains (per_pair m n row) (row k q)
pair_among m n k q row a b = contains_collected m k (λ x. per n (row x)) (row k q) a (per_among n q (row k) b)

-- So each row of MPCP is dominated.
pub mpcp_rows_dominated : (bounds : List ℕ) (set : SetDef) (i : ℕ)
    → All (IsDominated bounds (mpcp_closer_rows set i)) (rows_of protocol.Mpcp set i)
mpcp_rows_dominated bounds set i = each_row (IsDominated bounds rows) protocol.Mpcp set i (record {
  request = λ x q a b. itself (request_row set i x q) (in_common (request_row set i x q)
      (Contains-append_left requests times (request_row set i x q)
      (pair_among (length set.tasks) (length set.resources) x q (request_row set i) a b)));
  time = λ x a. itself (time_row set i x) (in_common (time_row set i x)
      (Contains-append_right requests times (time_row set i x) (per_among (length set.tasks) x (time_row set i) a)));
  interval = λ x a lower. record {
    row = shared_interval_row set i x;
    among = in_further (shared_interval_row set i x) (Contains-append_right of_tasks (of_resources ++ (aways ++ (intervals ++ singles)))
        (shared_interval_row set i x) (Contains-append_right of_resources (aways ++ (intervals ++ singles)) (shared_interval_row set i x)
        (Contains-append_right aways (intervals ++ singles) (shared_interval_row set i x)
        (Contains-append_left intervals singles (shared_interval_row set i x)
        (where_among (is_lower_local set i) (length set.tasks) x (shared_interval_row set i) a lower)))));
    says = interval_dominates bounds set i x;
  };
  turn = λ e. absurd (cc);
  queue = λ e. absurd (cc);
  lower_holder = λ e q a. itself (lower_holder_row set i q) (Contains-append_right (common_rows set i) (holders_and_behind set i)
      (lower_holder_row set i q) (Contains-append_left (holders set i) (behind set i) (lower_holder_row set i q)
      (per_among (length set.resources) q (lower_holder_row set i) a)));
  holding = λ e x a. record {
    row = shared_holding_row set (held_in_waits set i) i x;
    among = in_further (shared_holding_row set (held_in_waits set i) i x) (Contains-append_left of_tasks
        (of_resources ++ (aways ++ (intervals ++ singles))) (shared_holding_row set (held_in_waits set i) i x)
        (per_among (length set.tasks) x (shared_holding_row set (held_in_waits set i) i) a));
    says = holding_dominates bounds set i x;
  };
  home = λ e. absurd (cc);
}) where
  rows : List ConstraintDef
  rows = mpcp_closer_rows set i

  requests : List ConstraintDef
  requests = per_pair (length set.tasks) (length set.resources) (request_row set i)

  times : List ConstraintDef
  times = per (length set.tasks) (time_row set i)

  of_tasks : List ConstraintDef
  of_tasks = per (length set.tasks) (shared_holding_row set (held_in_waits set i) i)

  of_resources : List ConstraintDef
  of_resources = per_pair (length set.tasks) (length set.resources) (resource_holding_row set (held_in_waits set i) i)

  aways : List ConstraintDef
  aways = per (length set.tasks) (away_row set i)

  intervals : List ConstraintDef
  intervals = per_where (is_lower_local set i) (length set.tasks) (shared_interval_row set i)

  singles : List ConstraintDef
  singles = local_preemption_row set i ∷ lower_wait_row set i ∷ []

  itself : (row : ConstraintDef) → Contains rows row → IsDominated bounds rows row
  itself row among = itself_dominated bounds rows row among

  in_common : (row : ConstraintDef) → Contains (common_rows set i) row → Contains rows row
  in_common row among = Contains-append_left (common_rows set i) (holders_and_behind set i) row among

  in_further : (row : ConstraintDef) → Contains (further_rows set (held_in_waits set i) i) row → Contains rows row
  in_further row among = Contains-append_right (common_rows set i) (holders_and_behind set i) row
      (Contains-append_right (holders set i) (behind set i) row
      (Contains-append_left (further_rows set (held_in_waits set i) i) (wait_rows set i) row among))
