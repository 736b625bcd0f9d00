-- The window of a wait under MPCP in cycles. All that is counted for it in ticks is k times as great, so the window is at most k times as
-- long, and no more requests run while a job waits.
use Rattle.std.proofs.Common.{◌≡◌, ◌∙◌, ℕ, suc, ◌+◌, ◌*◌, ◌<◌, ◌≤◌, ◌==◌, ◌&&◌, not, length, refl, sym, arith, nat_lt, inl, inr}
use Rattle.std.proofs.Common.{Option, Some, None, min}
use Rattle.std.specs.Prelude.{unwrap_or}
use Rattle.std.proofs.Math.Nat.{mul-add}
use Rattle.number_laws.specs.Sums.{sum_below, only_if}
use Rattle.number_laws.proofs.SumLaws.{sum_below-times, sum_below-monotone}
use Rattle.number_laws.proofs.OnlyIfLaws.{only_if-rises}
use Rattle.sporadic_model.specs.SetDef.{SetDef, task_at}
use Rattle.sporadic_model.specs.Users.{count_of, length_of}
use Rattle.sporadic_model.specs.declared.ids.Protocol.TheVariants as protocol
use Rattle.schedule_model.specs.Measures.{greatest_below}
use Rattle.blocking_columns.specs.Windows.{jobs_during, requests_in, requests_during}
use Rattle.indirect_constraints.specs.Rows.{is_beside}
use Rattle.window_laws.proofs.Least.{Found}
use Rattle.closer_mpcp_laws.specs.CloserMpcpRows.{goes_first}
use Rattle.mpcp_window_laws.specs.MpcpWindows.{longest_first, may_run_instead, holding_ticks, may_hold_before, longest_lower_holding}
use Rattle.mpcp_window_laws.specs.MpcpWindows.{own_ticks, holdings_beside, time_first, ticks_instead, ticks_held, is_enough_wait, wait_window}
use Rattle.mpcp_window_laws.specs.WaitRows.{requests_in_waits, held_in_waits}
use Rattle.mpcp_window_laws.proofs.WaitLimits.{lesser_rises}
use Rattle.clock_laws.specs.Cycles.{in_cycles}
use Rattle.clock_laws.proofs.Scaled.{swapped, min_times, greatest_of_times, sum_of_times}
use Rattle.clock_laws.proofs.Sets.{tasks_in, processor_in, count_in, length_in, request_ticks_in, users_in, one_processor_in}
use Rattle.clock_laws.proofs.Columns.{run_before_in}
use Rattle.clock_laws.proofs.Jobs.{fine, factor, jobs_in_cycles, requests_in_cycles}
use Rattle.clock_laws.proofs.BaseRows.{beside_in}
use Rattle.clock_laws.proofs.FineWindows.{fine_least, fewer_in_cycles}

pub first_in : (k : ℕ) (set : SetDef) → goes_first (in_cycles k set) ≡ goes_first set
first_in k set = λ j x q r. not (q == r) && run_before_in protocol.Mpcp k set j (processor_in k set x j) q r

longest_first_in : (k : ℕ) (set : SetDef) (x q : ℕ) → longest_first (in_cycles k set) x q ≡ k * longest_first set x q
longest_first_in k set x q =
    (λ j. greatest_below (length set.resources) (λ r. only_if (first_in k set j x r q) (length_in k set x r j)))
    ∙ greatest_of_times k (length set.resources) (λ r. goes_first set x r q) (length_of set x)

-- Who may run in place of a holder, and who may hold a resource at the start, is the same.
instead_in : (k : ℕ) (set : SetDef) → may_run_instead (in_cycles k set) ≡ may_run_instead set
instead_in k set = λ j i y x. beside_in k set j y x && not (x == i)

hold_before_in : (k : ℕ) (set : SetDef) → may_hold_before (in_cycles k set) ≡ may_hold_before set
hold_before_in k set = λ j i q y. nat_lt i y && (users_in k set j q y && not (one_processor_in k set j y i))

-- A holding takes k times as many cycles as ticks;
holding_ticks_in : (k : ℕ) (set : SetDef) (i q y : ℕ) → holding_ticks (in_cycles k set) i q y ≡ k * holding_ticks set i q y
holding_ticks_in k set i q y =
    (λ j. length_in k set y q j + sum_below (tasks_in k set j) (λ x. only_if (instead_in k set j i y x) (longest_first_in k set x q j)))
    ∙ ((λ j. k * length_of set y q + sum_of_times k (length set.tasks) (may_run_instead set i y) (λ x. longest_first set x q) j)
    ∙ sym (mul-add k (length_of set y q) (sum_below (length set.tasks) (λ x. only_if (may_run_instead set i y x) (longest_first set x q)))))

lower_holding_in : (k : ℕ) (set : SetDef) (i q : ℕ) → longest_lower_holding (in_cycles k set) i q ≡ k * longest_lower_holding set i q
lower_holding_in k set i q =
    (λ j. greatest_below (tasks_in k set j) (λ y. only_if (hold_before_in k set j i q y) (holding_ticks_in k set i q y j)))
    ∙ greatest_of_times k (length set.tasks) (may_hold_before set i q) (holding_ticks set i q)

-- and so do, in k times as many cycles, the requests of a higher task
own_ticks_in : (k : ℕ) (set : SetDef) (bounds : ℕ → ℕ) (q w x : ℕ) → 0 < k
    → own_ticks (in_cycles k set) (fine k bounds) q (k * w) x ≡ k * own_ticks set bounds q w x
own_ticks_in k set bounds q w x some = (λ j. jobs_in_cycles k set bounds w x some j * request_ticks_in k set x q j)
    ∙ swapped k (jobs_during set bounds w x) (count_of set x q * length_of set x q)

-- and what runs in place of holders.
holdings_beside_in : (k : ℕ) (set : SetDef) (bounds : ℕ → ℕ) (i q w x : ℕ) → 0 < k
    → holdings_beside (in_cycles k set) (fine k bounds) i q (k * w) x ≡ holdings_beside set bounds i q w x
holdings_beside_in k set bounds i q w x some =
    λ j. sum_below i (λ y. only_if (instead_in k set j i y x) (requests_in_cycles k set bounds w y q some j))

time_first_in : (k : ℕ) (set : SetDef) (x q : ℕ) → time_first (in_cycles k set) x q ≡ k * time_first set x q
time_first_in k set x q = (λ j. sum_below (length set.resources) (λ r. only_if (first_in k set j x r q) (request_ticks_in k set x r j)))
    ∙ sum_of_times k (length set.resources) (λ r. goes_first set x r q) (λ r. count_of set x r * length_of set x r)

ticks_instead_in : (k : ℕ) (set : SetDef) (bounds : ℕ → ℕ) (i q w x : ℕ) → 0 < k
    → ticks_instead (in_cycles k set) (fine k bounds) i q (k * w) x ≡ k * ticks_instead set bounds i q w x
ticks_instead_in k set bounds i q w x some =
    (λ j. min (holdings_beside_in k set bounds i q w x some j * longest_first_in k set x q j)
    (jobs_in_cycles k set bounds w x some j * time_first_in k set x q j))
    ∙ ((λ j. min (swapped k (holdings_beside set bounds i q w x) (longest_first set x q) j)
    (swapped k (jobs_during set bounds w x) (time_first set x q) j))
    ∙ min_times k (holdings_beside set bounds i q w x * longest_first set x q) (jobs_during set bounds w x * time_first set x q))

ticks_held_in : (k : ℕ) (set : SetDef) (bounds : ℕ → ℕ) (i q w : ℕ) → 0 < k
    → ticks_held (in_cycles k set) (fine k bounds) i q (k * w) ≡ k * ticks_held set bounds i q w
ticks_held_in k set bounds i q w some =
    (λ j. lower_holding_in k set i q j + (sum_below i (λ x. own_ticks_in k set bounds q w x some j)
    + sum_below (tasks_in k set j) (λ x. ticks_instead_in k set bounds i q w x some j)))
    ∙ ((λ j. k * longest_lower_holding set i q + (sum_below-times i k (own_ticks set bounds q w) j
    + sum_below-times (length set.tasks) k (ticks_instead set bounds i q w) j))
    ∙ factor k (longest_lower_holding set i q) (sum_below i (own_ticks set bounds q w))
    (sum_below (length set.tasks) (ticks_instead set bounds i q w)))

-- So a wait that has a window in ticks has one in cycles, which is at most k times as long.
pub fine_wait : (k : ℕ) (set : SetDef) (bounds : ℕ → ℕ) (i q b : ℕ) → 0 < k → wait_window set bounds i q ≡ Some b
    → Found (suc (task_at (in_cycles k set) i).deadline) (is_enough_wait (in_cycles k set) (fine k bounds) i q) (k * b)
fine_wait k set bounds i q b some e =
    fine_least k set i b (ticks_held set bounds i q) (ticks_held (in_cycles k set) (fine k bounds) i q) some
    (ticks_held_in k set bounds i q b some) e

-- No more requests run while the job waits, nor do higher tasks hold more.
pub waits_fine : (k : ℕ) (set : SetDef) (bounds : ℕ → ℕ) (i q x r : ℕ) → 0 < k
    → requests_in_waits (in_cycles k set) (fine k bounds) i q x r ≤ requests_in_waits set bounds i q x r
waits_fine k set bounds i q x r some = go (wait_window set bounds i q) refl where
  whole : requests_in (in_cycles k set) (fine k bounds) i x r ≤ requests_in set bounds i x r
  whole = omega (arith, requests_in_cycles k set bounds (bounds i) x r some)

  within : ℕ → ℕ
  within b = requests_during (in_cycles k set) (fine k bounds) b x r

  go : (o : Option ℕ) → wait_window set bounds i q ≡ o
      → requests_in_waits (in_cycles k set) (fine k bounds) i q x r ≤ requests_in_waits set bounds i q x r
  go None e = rw (e, count_in k set i q) (lesser_rises (count_of set i q) (requests_in (in_cycles k set) (fine k bounds) i x r)
      (requests_in set bounds i x r) (within (unwrap_or (wait_window (in_cycles k set) (fine k bounds) i q) (k * bounds i)))
      (requests_in set bounds i x r) whole (inr refl))
  go (Some b) e =
      let f = fine_wait k set bounds i q b some e in
      let there : wait_window (in_cycles k set) (fine k bounds) i q ≡ Some f.least = f.is_it in
      rw (e, there, count_in k set i q) (lesser_rises (count_of set i q) (requests_in (in_cycles k set) (fine k bounds) i x r)
      (requests_in set bounds i x r) (within f.least) (requests_during set bounds b x r) whole
      (inl (fewer_in_cycles k set bounds f.least b x r some f.at_most)))

pub held_fine : (k : ℕ) (set : SetDef) (bounds : ℕ → ℕ) (i x r : ℕ) → 0 < k
    → held_in_waits (in_cycles k set) i (fine k bounds) x r ≤ held_in_waits set i bounds x r
held_fine k set bounds i x r some =
    let same : held_in_waits (in_cycles k set) i (fine k bounds) x r
    ≡ sum_below i (λ y. only_if (is_beside set x y) (requests_in_waits (in_cycles k set) (fine k bounds) i r y r)) =
    λ j. sum_below i (λ y. only_if (beside_in k set j x y) (requests_in_waits (in_cycles k set) (fine k bounds) i r y r)) in
    let most : sum_below i (λ y. only_if (is_beside set x y) (requests_in_waits (in_cycles k set) (fine k bounds) i r y r))
    ≤ held_in_waits set i bounds x r =
    sum_below-monotone i (λ y. only_if (is_beside set x y) (requests_in_waits (in_cycles k set) (fine k bounds) i r y r))
    (λ y. only_if (is_beside set x y) (requests_in_waits set bounds i r y r))
    (λ y l. only_if-rises (is_beside set x y) (requests_in_waits (in_cycles k set) (fine k bounds) i r y r)
    (requests_in_waits set bounds i r y r) (λ h. waits_fine k set bounds i r y r some)) in
    omega (arith, same, most)
