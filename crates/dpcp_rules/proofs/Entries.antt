-- What the tables say of the first job that waits at a processor, and of what is barred there.
use Rattle.std.proofs.Common.{◌≡◌, ◌⊎◌, ℕ, ◌<◌, ◌≤◌, ◌==◌, ◌&&◌, ◌||◌, not, Bool, true, false, List, length, refl, sym}
use Rattle.std.proofs.Common.{ap, ◌∙◌, arith, inl, inr, Option, Some, None, cond, leb, ltb}
use Rattle.std.specs.Prelude.{is_some}
use Rattle.std.specs.Option.{option_map_or}
use Rattle.std.proofs.Math.Bool.{and_assoc}
use Rattle.std.proofs.lemmas.Bool.{cases_Bool, cases_lt, and_parts, and_from, false_from_ne_true, eq-eqb, eqb-true}
use Rattle.std.proofs.lemmas.Bool.{ne_eqb, leb-true, le-leb, leb-false, lt-ltb, ltb-true, not-true, or_left, or_right}
use Rattle.std.proofs.lemmas.Bool.{not_from_false, and_right}
use Rattle.number_laws.specs.Tests.{all_below, any_below}
use Rattle.number_laws.proofs.TestLaws.{all_below-each, all_below-from, any_below-from, any_below-some, any_below-agree}
use Rattle.sporadic_model.specs.Homes.{EachHasHome}
use Rattle.sporadic_model.specs.Accepted.{IsAccepted}
use Rattle.sporadic_model.specs.declared.limits.TheConstants.{MOST_PROCESSORS}
use Rattle.schedule_model.specs.RowDef.{RowDef, is_job, held_before}
use Rattle.schedule_model.specs.Phase.{Phase, is_local, phase_of}
use Rattle.schedule_model.specs.Phase.Phase.{Local, Asking, Finished}
use Rattle.schedule_model.specs.Activity.{task_of, is_active, is_requester, holds_by}
use Rattle.schedule_model.specs.DpcpRules.{home_of, ceiling_rank, is_at, has_request_at, is_kept, waits_at}
use Rattle.schedule_model.specs.DpcpRules.{is_first_waiting, is_barred, is_granted}
use Rattle.schedule_model.proofs.RuleTests.{or_other}
use Rattle.schedule_laws.proofs.ActiveJobs.{active_listed}
use Rattle.schedule_laws.proofs.DpcpStretches.{RequestAt, request_at_is}
use Rattle.phase_machine.specs.MachineDef.{MachineDef, task_in, under}
use Rattle.phase_machine.specs.Now.{current_now, holder_now, requester_now, waiting_now, is_ready_before, is_waiting_before}
use Rattle.phase_machine.specs.Shows.{Shows}
use Rattle.phase_machine.proofs.Lawful.{task_listed}
use Rattle.phase_machine.proofs.Facts.{phase_shown, current_shown, current_from, requester_shown, waiting_shown}
use Rattle.shared_choosing.specs.Scene.{stays}
use Rattle.phase_machine.proofs.Facts.{same_bool}
use Rattle.dpcp_rules.specs.Homes.{home_now, ceiling_now, column_in, column_now, waiting_place, kept_place, entry_at, IsLeast}
use Rattle.dpcp_rules.specs.RowTests.{is_due}
use Rattle.dpcp_rules.proofs.Shown.{unfinished, column_within, processors_within}

-- A place that is none where a test fails.
placed : (b : Bool) (c k : ℕ) → 1 ≤ k → (cond b c 0 == k) ≡ ((c == k) && b)
placed true c k l = go (c == k) where
  go : (x : Bool) → x ≡ (x && true)
  go true = refl
  go false = refl
placed false c k l = ne_eqb 0 k (λ e. absurd (omega arith)) ∙ sym (and_right (c == k) false refl)

-- Whether a job waits at a processor, by what its phase is.
waits_in : (m : MachineDef) (rows : ℕ → RowDef) (held : ℕ → Option ℕ) (j k : ℕ) (p : Phase) → 1 ≤ k → (p ≡ Finished → ⊥)
    → (cond (not (is_local p || holds_by held j p)) (column_in m j p) 0 == k) ≡ (is_at (under m rows) k p && not (holds_by held j p))
waits_in m rows held j k Local l unended = placed false (column_in m j Local) k l ∙ and_right (column_in m j Local == k) false refl
waits_in m rows held j k Finished l unended = absurd (unended refl)
waits_in m rows held j k (Asking n q) l unended = placed (not (is_job j (held q))) (home_now m q) k l

-- An active job waits at a processor where the machine says so.
pub waits_shown : (m : MachineDef) (rows : ℕ → RowDef) (j k : ℕ) → Shows m rows → is_active (under m rows) m.tick j ≡ true → 1 ≤ k
    → (cond (waiting_now m j) (column_now m j) 0 == k) ≡ waits_at (under m rows) m.tick k j
unfolding waits_at has_request_at is_waiting_before is_ready_before
waits_shown m rows j k shows a l =
    rw (waiting_shown m rows j shows, phase_shown m rows j shows (active_listed (under m rows) m.tick j a), a)
    (waits_in m rows (held_before (under m rows) m.tick) j k (phase_of (under m rows) m.tick j) l
    (λ e. unfinished (under m rows) m.tick j a e))

-- So it waits where the machine says that it waits and runs.
pub waits_from : (m : MachineDef) (rows : ℕ → RowDef) (j : ℕ) → Shows m rows → is_active (under m rows) m.tick j ≡ true
    → 1 ≤ column_now m j → waiting_now m j ≡ true
    → waits_at (under m rows) m.tick (column_now m j) j ≡ true
waits_from m rows j shows a l h =
    sym (waits_shown m rows j (column_now m j) shows a l) ∙ ap (λ b. cond b (column_now m j) 0 == column_now m j) h
    ∙ eq-eqb (column_now m j) (column_now m j) refl

pub record Waits (m : MachineDef) (j k : ℕ) : Type 0 where
  pub waiting : waiting_now m j ≡ true
  pub column : column_now m j ≡ k

pub waits_is : (m : MachineDef) (rows : ℕ → RowDef) (j k : ℕ) → Shows m rows → is_active (under m rows) m.tick j ≡ true
    → 1 ≤ k → waits_at (under m rows) m.tick k j ≡ true → Waits m j k
waits_is m rows j k shows a l h = go (cases_Bool (waiting_now m j)) where
  same : (cond (waiting_now m j) (column_now m j) 0 == k) ≡ true
  same = waits_shown m rows j k shows a l ∙ h

  go : (waiting_now m j ≡ true) ⊎ (waiting_now m j ≡ false) → Waits m j k
  go (inl truly) = record {
    waiting = truly;
    column = eqb-true (column_now m j) k (sym (ap (λ b. cond b (column_now m j) 0 == k) truly) ∙ same);
  }
  go (inr fails) = let none : 0 ≡ k = eqb-true 0 k (sym (ap (λ b. cond b (column_now m j) 0 == k) fails) ∙ same) in absurd (omega arith)

pub waits_active : (m : MachineDef) (rows : ℕ → RowDef) (k j : ℕ) → waits_at (under m rows) m.tick k j ≡ true
    → is_active (under m rows) m.tick j ≡ true
unfolding waits_at
waits_active m rows k j h =
    let r : RequestAt (under m rows) m.tick k j =
    request_at_is (under m rows) m.tick k j (and_parts (has_request_at (under m rows) m.tick k j)
    (not (holds_by (held_before (under m rows) m.tick) j (phase_of (under m rows) m.tick j))) h).0 in
    r.active

-- The place of a task whose active job is j.
pub place_of_active : (m : MachineDef) (rows : ℕ → RowDef) (j k : ℕ) → Shows m rows → is_active (under m rows) m.tick j ≡ true → 1 ≤ k
    → (waiting_place m (task_in m.list.jobs j) == k) ≡ waits_at (under m rows) m.tick k j
place_of_active m rows j k shows a l =
    ap (λ o. option_map_or (λ i. cond (waiting_now m i) (column_now m i) 0) o 0 == k) (current_from m rows j shows a)
    ∙ waits_shown m rows j k shows a l

-- A task that has its place at a processor has an active job that waits there.
pub record WaitsOf (m : MachineDef) (rows : ℕ → RowDef) (x k : ℕ) : Type 0 where
  pub job : ℕ
  pub active : is_active (under m rows) m.tick job ≡ true
  pub own : task_in m.list.jobs job ≡ x
  pub waits : waits_at (under m rows) m.tick k job ≡ true

pub waits_of : (m : MachineDef) (rows : ℕ → RowDef) (x k : ℕ) → Shows m rows → x < length m.list.set.tasks → 1 ≤ k
    → (waiting_place m x == k) ≡ true → WaitsOf m rows x k
waits_of m rows x k shows l least h = go (current_now m x) refl where
  go : (o : Option ℕ) → current_now m x ≡ o → WaitsOf m rows x k
  go None e =
      let none : 0 ≡ k = eqb-true 0 k (sym (ap (λ o. option_map_or (λ i. cond (waiting_now m i) (column_now m i) 0) o 0 == k) e) ∙ h) in
      absurd (omega arith)
  go (Some j) e =
      let s : (is_active (under m rows) m.tick j ≡ true) × (task_of (under m rows) j ≡ x) = current_shown m rows x j shows l e in
      record {
        job = j;
        active = s.0;
        own = s.1;
        waits = sym (waits_shown m rows j k shows s.0 least)
            ∙ sym (ap (λ o. option_map_or (λ i. cond (waiting_now m i) (column_now m i) 0) o 0 == k) e) ∙ h;
      }

-- Whether q is kept, and where.
kept_some : (asks : ℕ → Bool) (o : Option ℕ) → is_some (stays asks o) ≡ option_map_or asks o false
kept_some asks None = refl
kept_some asks (Some j) = go (asks j) refl where
  go : (b : Bool) → asks j ≡ b → is_some (stays asks (Some j)) ≡ asks j
  go true e = rw e refl
  go false e = rw e refl

asks_same : (f g : ℕ → Bool) (o : Option ℕ) → ((j : ℕ) → f j ≡ g j) → option_map_or f o false ≡ option_map_or g o false
asks_same f g None h = refl
asks_same f g (Some j) h = h j

pub kept_shown : (m : MachineDef) (rows : ℕ → RowDef) (q k : ℕ) → Shows m rows → 1 ≤ k
    → (kept_place m q == k) ≡ ((home_of (under m rows) q == k) && is_kept (under m rows) m.tick q)
unfolding is_kept
kept_shown m rows q k shows l =
    placed (is_some (stays (requester_now m q) (holder_now m q))) (home_now m q) k l
    ∙ ap (λ b. (home_now m q == k) && b)
    (kept_some (requester_now m q) (holder_now m q) ∙ asks_same (requester_now m q)
    (λ j. is_requester (under m rows) m.tick q j) (holder_now m q) (λ j. requester_shown m rows q j shows)
    ∙ ap (λ o. option_map_or (λ j. is_requester (under m rows) m.tick q j) o false) (shows.holders q))

-- The table of kept ceilings says which tasks are barred.
pub barred_shown : (m : MachineDef) (rows : ℕ → RowDef) (bars : List ℕ) (k x : ℕ) → Shows m rows
    → IsLeast (kept_place m) (ceiling_now m) (length m.list.set.tasks) (length m.list.set.resources) bars
    → 1 ≤ k → k ≤ MOST_PROCESSORS → x < length m.list.set.tasks → leb (entry_at bars k) x ≡ is_barred (under m rows) m.tick k x
unfolding is_barred
barred_shown m rows bars k x shows least l h t =
    least k x h t
    ∙ any_below-agree (length m.list.set.resources) (λ q. (kept_place m q == k) && leb (ceiling_now m q) x)
    (λ q. (home_of (under m rows) q == k) && (is_kept (under m rows) m.tick q && leb (ceiling_rank (under m rows) q) x))
    (λ q b. each q) where
      each : (q : ℕ) → ((kept_place m q == k) && leb (ceiling_now m q) x) ≡ ((home_of (under m rows) q == k)
          && (is_kept (under m rows) m.tick q && leb (ceiling_rank (under m rows) q) x))
      each q =
          ap (λ b. b && leb (ceiling_now m q) x) (kept_shown m rows q k shows l)
          ∙ and_assoc (home_of (under m rows) q == k) (is_kept (under m rows) m.tick q) (leb (ceiling_now m q) x)

-- A task that waits is no higher than the table's entry.
pub entry_low : (m : MachineDef) (rows : ℕ → RowDef) (first : List ℕ) (k i : ℕ) → Shows m rows
    → IsLeast (waiting_place m) (λ x. x) (length m.list.set.tasks) (length m.list.set.tasks) first
    → 1 ≤ k → k ≤ MOST_PROCESSORS → waits_at (under m rows) m.tick k i ≡ true → entry_at first k ≤ task_in m.list.jobs i
entry_low m rows first k i shows least l h w =
    let a : is_active (under m rows) m.tick i ≡ true = waits_active m rows k i w in
    let b : task_in m.list.jobs i < length m.list.set.tasks =
    task_listed m.list i shows.machine.lawful (active_listed (under m rows) m.tick i a) in
    let here : ((waiting_place m (task_in m.list.jobs i) == k) && leb (task_in m.list.jobs i) (task_in m.list.jobs i)) ≡ true =
    and_from (waiting_place m (task_in m.list.jobs i) == k) (leb (task_in m.list.jobs i) (task_in m.list.jobs i))
    (place_of_active m rows i k shows a l ∙ w) (le-leb (task_in m.list.jobs i) (task_in m.list.jobs i) (omega arith)) in
    leb-true (entry_at first k) (task_in m.list.jobs i)
    (least k (task_in m.list.jobs i) h b ∙ any_below-from (length m.list.set.tasks)
    (λ x. (waiting_place m x == k) && leb x (task_in m.list.jobs i)) (task_in m.list.jobs i) b here)

-- Where the table has an entry, the job of the first task that waits there is one of its.
pub first_of : (m : MachineDef) (rows : ℕ → RowDef) (first : List ℕ) (k : ℕ) → Shows m rows
    → IsLeast (waiting_place m) (λ x. x) (length m.list.set.tasks) (length m.list.set.tasks) first
    → 1 ≤ k → k ≤ MOST_PROCESSORS → entry_at first k < length m.list.set.tasks → (x : ℕ) × (x ≤ entry_at first k) × WaitsOf m rows x k
first_of m rows first k shows least l h b =
    let some : any_below (length m.list.set.tasks) (λ x. (waiting_place m x == k) && leb x (entry_at first k)) ≡ true =
    sym (least k (entry_at first k) h b) ∙ le-leb (entry_at first k) (entry_at first k) (omega arith) in
    let found : (x : ℕ) × (x < length m.list.set.tasks) × (((waiting_place m x == k) && leb x (entry_at first k)) ≡ true) =
    any_below-some (length m.list.set.tasks) (λ x. (waiting_place m x == k) && leb x (entry_at first k)) some in
    let parts : ((waiting_place m found.0 == k) ≡ true) × (leb found.0 (entry_at first k) ≡ true) =
    and_parts (waiting_place m found.0 == k) (leb found.0 (entry_at first k)) found.2 in
    (found.0, leb-true found.0 (entry_at first k) parts.1, waits_of m rows found.0 k shows found.1 l parts.0)

-- The table of waiting tasks says which waits first.
pub first_shown : (m : MachineDef) (rows : ℕ → RowDef) (first : List ℕ) (k j : ℕ) → Shows m rows
    → IsLeast (waiting_place m) (λ x. x) (length m.list.set.tasks) (length m.list.set.tasks) first
    → 1 ≤ k → k ≤ MOST_PROCESSORS → waits_at (under m rows) m.tick k j ≡ true
    → leb (task_in m.list.jobs j) (entry_at first k) ≡ is_first_waiting (under m rows) m.tick k j
unfolding is_first_waiting
first_shown m rows first k j shows least l h waits =
    same_bool (leb (task_in m.list.jobs j) (entry_at first k))
    (waits_at (under m rows) m.tick k j && all_below (length m.list.jobs) (others)) there back where
      others : ℕ → Bool
      others = λ i. not (waits_at (under m rows) m.tick k i) || leb (task_in m.list.jobs j) (task_in m.list.jobs i)

      task_of_active : (i : ℕ) → is_active (under m rows) m.tick i ≡ true → task_in m.list.jobs i < length m.list.set.tasks
      task_of_active i a = task_listed m.list i shows.machine.lawful (active_listed (under m rows) m.tick i a)

      there : leb (task_in m.list.jobs j) (entry_at first k) ≡ true
          → (waits_at (under m rows) m.tick k j && all_below (length m.list.jobs) others) ≡ true
      there e = and_from (waits_at (under m rows) m.tick k j) (all_below (length m.list.jobs) others) waits
          (all_below-from (length m.list.jobs) others (λ i b. each i))
        where
          each : (i : ℕ) → others i ≡ true
          each i = elim (cases_Bool (waits_at (under m rows) m.tick k i)) [
            | inl w ↦ or_right (not (waits_at (under m rows) m.tick k i)) (leb (task_in m.list.jobs j) (task_in m.list.jobs i))
                (le-leb (task_in m.list.jobs j) (task_in m.list.jobs i) (omega (
                  arith,
                  leb-true (task_in m.list.jobs j) (entry_at first k) e,
                  entry_low m rows first k i shows least l h w,
                )))
            | inr fails ↦
                or_left (not (waits_at (under m rows) m.tick k i)) (leb (task_in m.list.jobs j) (task_in m.list.jobs i))
                (not_from_false (waits_at (under m rows) m.tick k i) fails)
          ]

      back : (waits_at (under m rows) m.tick k j && all_below (length m.list.jobs) others) ≡ true
          → leb (task_in m.list.jobs j) (entry_at first k) ≡ true
      back e = elim (cases_lt (entry_at first k) (task_in m.list.jobs j)) [
        | inr low ↦ le-leb (task_in m.list.jobs j) (entry_at first k) low
        | inl high ↦ absurd (lower high)
      ] where
        each : all_below (length m.list.jobs) others ≡ true
        each = (and_parts (waits_at (under m rows) m.tick k j) (all_below (length m.list.jobs) others) e).1

        lower : entry_at first k < task_in m.list.jobs j → ⊥
        lower high =
            let b : task_in m.list.jobs j < length m.list.set.tasks = task_of_active j (waits_active m rows k j waits) in
            let some : (x : ℕ) × (x ≤ entry_at first k) × WaitsOf m rows x k =
            first_of m rows first k shows least l h (omega (arith, high, b)) in
            let w : WaitsOf m rows some.0 k = some.2 in
            let o : others w.job ≡ true = all_below-each (length m.list.jobs) others each w.job
            (active_listed (under m rows) m.tick w.job w.active) in
            let le : task_in m.list.jobs j ≤ task_in m.list.jobs w.job =
            leb-true (task_in m.list.jobs j) (task_in m.list.jobs w.job)
            (or_other (not (waits_at (under m rows) m.tick k w.job))
            (leb (task_in m.list.jobs j) (task_in m.list.jobs w.job)) o (ap not w.waits)) in
            omega (arith, le, w.own, some.1, high)

-- A task is below the entry exactly where the entry isn't at most it.
pub below_is : (a b : ℕ) → ltb a b ≡ not (leb b a)
below_is a b = same_bool (ltb a b) (not (leb b a)) there back where
  there : ltb a b ≡ true → not (leb b a) ≡ true
  there h = not_from_false (leb b a) (false_from_ne_true (leb b a) (λ e. apart e)) where
    apart : leb b a ≡ true → ⊥
    apart e = absurd (omega (arith, ltb-true a b h, leb-true b a e))

  back : not (leb b a) ≡ true → ltb a b ≡ true
  back h = lt-ltb a b (leb-false b a (not-true (leb b a) h))

-- Both together say which job is granted.
pub due_shown : (m : MachineDef) (rows : ℕ → RowDef) (first bars : List ℕ) (j : ℕ) → Shows m rows
    → IsAccepted m.list.set → EachHasHome m.list.set
    → IsLeast (waiting_place m) (λ x. x) (length m.list.set.tasks) (length m.list.set.tasks) first
    → IsLeast (kept_place m) (ceiling_now m) (length m.list.set.tasks) (length m.list.set.resources) bars
    → is_active (under m rows) m.tick j ≡ true → waiting_now m j ≡ true
    → is_due m first bars j ≡ is_granted (under m rows) m.tick (column_now m j) j
unfolding is_granted
due_shown m rows first bars j shows accepted suits waiting kept a w =
    let within : (1 ≤ column_now m j) × (column_now m j ≤ m.list.set.processors) = column_within m rows j shows accepted suits a in
    let most : column_now m j ≤ MOST_PROCESSORS = omega (arith, within.1, processors_within m.list.set accepted) in
    let task : task_in m.list.jobs j < length m.list.set.tasks =
    task_listed m.list j shows.machine.lawful (active_listed (under m rows) m.tick j a) in
    ap (λ b. b && ltb (task_in m.list.jobs j) (entry_at bars (column_now m j)))
    (first_shown m rows first (column_now m j) j shows waiting within.0 most (waits_from m rows j shows a within.0 w))
    ∙ ap (λ b. is_first_waiting (under m rows) m.tick (column_now m j) j && b)
    (below_is (task_in m.list.jobs j) (entry_at bars (column_now m j))
    ∙ ap not (barred_shown m rows bars (column_now m j) (task_in m.list.jobs j) shows kept within.0 most task))
