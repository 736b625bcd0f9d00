-- Counting ticks as the first of them: for the active job of each task in turn.
use Rattle.std.proofs.Common.{◌≡◌, ℕ, ◌+◌, ◌<◌, ◌≤◌, ◌==◌, ◌&&◌, Bool, true, false, length, refl, sym, ap, ◌∙◌}
use Rattle.std.proofs.Common.{arith, inl, inr, Option, Some, None}
use Rattle.std.specs.Prelude.{nat_lt, unwrap_or, option_map, cond}
use Rattle.std.specs.Ordering.{is_eq}
use Rattle.std.specs.Option.{option_and_then}
use Rattle.std.proofs.lemmas.Bool.{cases_lt, cases_order, cases_Bool, cases_eq, lt-ltb, le-ltb, eq-eqb, eqb-true, ne_eqb, and_left, and_right}
use Rattle.std.specs.BTreeMap.{BTreeMap, get}
use Rattle.number_laws.specs.Sums.{only_if}
use Rattle.number_laws.proofs.CountLaws.{count_below-at_most, count_below-split, count_below-same}
use Rattle.schedule_model.specs.RowDef.{RowDef, Trace}
use Rattle.schedule_model.specs.Phase.{Phase, phase_of}
use Rattle.schedule_model.specs.Activity.{task_of, is_active}
use Rattle.schedule_laws.proofs.ActiveJobs.{active_listed}
use Rattle.phase_machine.specs.MachineDef.{MachineDef, task_in, under}
use Rattle.phase_machine.specs.Now.{current_now}
use Rattle.phase_machine.specs.Shows.{Shows}
use Rattle.phase_machine.proofs.Facts.{current_own, not_current}
use Rattle.phase_machine.proofs.Lawful.{task_listed}
use Rattle.charge_laws.specs.Charges.{Charge}
use Rattle.charge_laws.specs.Windows.{bound_end}
use Rattle.charge.specs.declared.tally.ChargePlace.{ChargePlace}
use Rattle.charge.specs.Requests.{ChargedRequest, request_in, charged_request}
use Rattle.charge.specs.Tally.{IsTally, AreCountedAlike, positive, count_at, place_cmp, is_same_place, is_place, place_of, place_at}
use Rattle.charge.specs.Tally.{ticks_before, ticks_with}
use Rattle.charge.proofs.Places.{same_by_order, same_place}

-- How ticks are charged, of active jobs alone.
abbrev pub Charges : Type 0
Charges = Trace → ℕ → ℕ → Option Charge

abbrev pub OfActive : Charges → Trace → ℕ → Type 0
OfActive charges w t = (k : ℕ) (c : Charge) → charges w t k ≡ Some c → is_active w t k ≡ true

-- Counts that agree are the same tally.
pub tally_agree : (ticks : BTreeMap ChargePlace ℕ) (f g : ChargePlace → ℕ) → ((p : ChargePlace) → f p ≡ g p) → IsTally ticks f → IsTally ticks g
tally_agree ticks f g same tally p = tally p ∙ ap positive (same p)

-- What the map has is the count.
pub count_is : (ticks : BTreeMap ChargePlace ℕ) (f : ChargePlace → ℕ) (p : ChargePlace) → IsTally ticks f → count_at ticks p ≡ f p
count_is ticks f p tally = ap (λ o. unwrap_or o 0) (tally p) ∙ back (f p) where
  back : (n : ℕ) → unwrap_or (positive n) 0 ≡ n
  back n = elim (cases_Bool (n == 0)) [
    | inl none ↦ rw none (sym (eqb-true n 0 none))
    | inr some ↦ rw some refl
  ]

-- A tick without a charge is counted nowhere, and a job that isn't active has none.
pub uncharged_nowhere : (charges : Charges) (w : Trace) (bound : ℕ → ℕ) (t k : ℕ) → charges w t k ≡ None
    → place_at charges w bound t k ≡ None
uncharged_nowhere charges w bound t k e = elim (cases_Bool (nat_lt t (bound_end w bound k))) [
  | inl within ↦ rw (within, e) refl
  | inr past ↦ rw past refl
]

pub inactive_uncharged : (charges : Charges) (w : Trace) (t k : ℕ) → OfActive charges w t → (is_active w t k ≡ true → ⊥)
    → charges w t k ≡ None
inactive_uncharged charges w t k only idle = go (charges w t k) refl where
  go : (o : Option Charge) → charges w t k ≡ o → charges w t k ≡ None
  go None e = e
  go (Some c) e = absurd (idle (only k c e))

inactive_nowhere : (charges : Charges) (w : Trace) (bound : ℕ → ℕ) (t k : ℕ) → OfActive charges w t → (is_active w t k ≡ true → ⊥)
    → place_at charges w bound t k ≡ None
inactive_nowhere charges w bound t k only idle = uncharged_nowhere charges w bound t k (inactive_uncharged charges w t k only idle)

-- A tick of job j is counted for job j.
other_place : (charges : Charges) (w : Trace) (bound : ℕ → ℕ) (t j : ℕ) (p : ChargePlace) → (j ≡ p.blocked → ⊥)
    → is_place p (place_at charges w bound t j) ≡ false
other_place charges w bound t j p other = elim (cases_Bool (nat_lt t (bound_end w bound j))) [
  | inr past ↦ rw past refl
  | inl within ↦ rw within (go (charged_request charges w t j))
] where
  go : (o : Option ChargedRequest) → is_place p (option_map (place_of j) o) ≡ false
  go None = refl
  go (Some r) = and_left (j == p.blocked) _ (ne_eqb j p.blocked other)

-- One task more.
one_task_more : (a x n : ℕ) (b : Bool)
    → only_if (nat_lt a (x + 1) && b) n ≡ only_if (nat_lt a x && b) n + only_if ((a == x) && b) n
one_task_more a x n b = elim (cases_order a x) [
  | inl same ↦
      let one : nat_lt a (x + 1) ≡ true = lt-ltb a (x + 1) (omega arith) in
      let two : nat_lt a x ≡ false = le-ltb a x (omega arith) in
      let three : (a == x) ≡ true = eq-eqb a x same in
      rw (one, two, three) (omega arith)
  | inr other ↦ elim other [
    | inl less ↦
        let one : nat_lt a (x + 1) ≡ true = lt-ltb a (x + 1) (omega arith) in
        let two : nat_lt a x ≡ true = lt-ltb a x less in
        let three : (a == x) ≡ false = ne_eqb a x (λ e. absurd (omega (arith, e, less))) in
        rw (one, two, three) (omega arith)
    | inr greater ↦
        let one : nat_lt a (x + 1) ≡ false = le-ltb a (x + 1) (omega arith) in
        let two : nat_lt a x ≡ false = le-ltb a x (omega arith) in
        let three : (a == x) ≡ false = ne_eqb a x (λ e. absurd (omega (arith, e, greater))) in
        rw (one, two, three) refl
  ]
]

-- A job of task x is counted where the task's active job is.
counted_here : (charges : Charges) (m : MachineDef) (rows : ℕ → RowDef) (bound : ℕ → ℕ) (x : ℕ) (p : ChargePlace) (o : Option ℕ) → Shows m rows
    → OfActive charges (under m rows) m.tick → x < length m.list.set.tasks → current_now m x ≡ o
    → ((task_of (under m rows) p.blocked == x) && is_place p (place_at charges (under m rows) bound m.tick p.blocked))
    ≡ is_place p (option_and_then (place_at charges (under m rows) bound m.tick) o)
counted_here charges m rows bound x p o shows only l e = elim (cases_eq (task_of (under m rows) p.blocked) x) [
  | inl same ↦ let t : (task_of (under m rows) p.blocked == x) ≡ true = eq-eqb _ _ same in rw t (go o e same)
  | inr other ↦ let t : (task_of (under m rows) p.blocked == x) ≡ false = ne_eqb _ _ other in rw t (sym (none o e other))
] where
  nowhere : (o : Option ℕ) → current_now m x ≡ o → (o ≡ Some p.blocked → ⊥) → task_of (under m rows) p.blocked ≡ x
      → is_place p (place_at charges (under m rows) bound m.tick p.blocked) ≡ false
  nowhere o f not same = ap (is_place p) (inactive_nowhere charges (under m rows) bound m.tick p.blocked only
      (not_current m rows x p.blocked o shows f not same))

  go : (o : Option ℕ) → current_now m x ≡ o → task_of (under m rows) p.blocked ≡ x
      → is_place p (place_at charges (under m rows) bound m.tick p.blocked)
      ≡ is_place p (option_and_then (place_at charges (under m rows) bound m.tick) o)
  go None f same = nowhere None f (λ (g : None ≡ Some p.blocked). cc) same
  go (Some j) f same = elim (cases_eq j p.blocked) [
    | inl here ↦ ap (λ k. is_place p (place_at charges (under m rows) bound m.tick k)) (sym here)
    | inr there ↦
        nowhere (Some j) f (λ (g : Some j ≡ Some p.blocked). there (cc)) same
        ∙ sym (other_place charges (under m rows) bound m.tick j p there)
  ]

  none : (o : Option ℕ) → current_now m x ≡ o → (task_of (under m rows) p.blocked ≡ x → ⊥)
      → is_place p (option_and_then (place_at charges (under m rows) bound m.tick) o) ≡ false
  none None f other = refl
  none (Some j) f other = other_place charges (under m rows) bound m.tick j p
      (λ here. other (ap (task_in m.list.jobs) (sym here) ∙ current_own m x j shows.machine l f))

-- Ticks are counted at a place, and at no other.
pub counted_there : (ticks new : BTreeMap ChargePlace ℕ) (place : ChargePlace) (before more : ℕ) (count : ChargePlace → ℕ) (p : ChargePlace)
    → 1 ≤ more → before ≡ count_at ticks place → IsTally ticks count
    → get place_cmp new p ≡ cond (is_eq (place_cmp place p)) (Some (before + more)) (get place_cmp ticks p)
    → get place_cmp new p ≡ positive (count p + only_if (is_same_place place p) more)
counted_there ticks new place before more count p some is tally updated = elim (cases_Bool (is_eq (place_cmp place p))) [
  | inl here ↦
      let same : place ≡ p = same_by_order place p here in
      let counted : before ≡ count p = is ∙ count_is ticks count place tally ∙ ap count same in
      let now : get place_cmp new p ≡ Some (count p + more) = updated ∙ rw (here, counted) refl in
      now ∙ there (count p + more) (omega (arith, some)) ∙ rw (← same_place place p, here) refl
  | inr elsewhere ↦
      let kept : get place_cmp new p ≡ get place_cmp ticks p = updated ∙ rw elsewhere refl in
      let none : count p ≡ count p + 0 = omega arith in
      kept ∙ tally p ∙ rw (← same_place place p, elsewhere) (ap positive none)
] where
  some_there : (n : ℕ) → 0 < n → (n == 0) ≡ false
  some_there n l = ne_eqb n 0 (λ e. absurd (omega (arith, e, l)))

  there : (n : ℕ) → 0 < n → Some n ≡ positive n
  there n l = rw (some_there n l) refl

-- One task more is counted.
pub count_more : (charges : Charges) (m : MachineDef) (rows : ℕ → RowDef) (bound : ℕ → ℕ) (n x : ℕ) (p : ChargePlace) → Shows m rows
    → OfActive charges (under m rows) m.tick → x < length m.list.set.tasks
    → ticks_with charges (under m rows) bound m.tick n x p
    + only_if (is_place p (option_and_then (place_at charges (under m rows) bound m.tick) (current_now m x))) n
    ≡ ticks_with charges (under m rows) bound m.tick n (x + 1) p
unfolding ticks_with
count_more charges m rows bound n x p shows only l =
    let here : only_if ((task_of (under m rows) p.blocked == x) && is_place p (place_at charges (under m rows) bound m.tick p.blocked)) n
    ≡ only_if (is_place p (option_and_then (place_at charges (under m rows) bound m.tick) (current_now m x))) n =
    ap (λ b. only_if b n) (counted_here charges m rows bound x p (current_now m x) shows only l refl) in
    omega (
      arith,
      here,
      one_task_more (task_of (under m rows) p.blocked) x n (is_place p (place_at charges (under m rows) bound m.tick p.blocked)),
    )

-- Before the first task none of the ticks is counted.
pub count_first : (charges : Charges) (w : Trace) (bound : ℕ → ℕ) (t n : ℕ) (p : ChargePlace)
    → ticks_before charges w bound t p ≡ ticks_with charges w bound t n 0 p
unfolding ticks_with
count_first charges w bound t n p =
    let none : nat_lt (task_of w p.blocked) 0 ≡ false = le-ltb _ _ (omega arith) in
    rw none (omega arith)

-- Where ticks are counted alike, they are counted to a place all or none.
counted_on : (charges : Charges) (w : Trace) (bound : ℕ → ℕ) (t n : ℕ) (p : ChargePlace) → AreCountedAlike charges w bound t n
    → ticks_before charges w bound t p + only_if (is_place p (place_at charges w bound t p.blocked)) n
    ≡ ticks_before charges w bound (t + n) p
unfolding ticks_before
counted_on charges w bound t n p alike =
    omega (
      arith,
      count_below-split t n (λ u. is_place p (place_at charges w bound u p.blocked)),
      count_below-same n (λ i. is_place p (place_at charges w bound (t + i) p.blocked))
          (is_place p (place_at charges w bound t p.blocked))
          (λ i l. ap (is_place p) (alike i p.blocked l)),
    )

-- After the last one all of them are.
pub count_all : (charges : Charges) (m : MachineDef) (rows : ℕ → RowDef) (bound : ℕ → ℕ) (n x : ℕ) (p : ChargePlace) → Shows m rows
    → OfActive charges (under m rows) m.tick → AreCountedAlike charges (under m rows) bound m.tick n → length m.list.set.tasks ≤ x
    → ticks_with charges (under m rows) bound m.tick n x p ≡ ticks_before charges (under m rows) bound (m.tick + n) p
unfolding ticks_with
count_all charges m rows bound n x p shows only alike l =
    ap (λ b. ticks_before charges (under m rows) bound m.tick p + only_if b n)
    (all (place_at charges (under m rows) bound m.tick p.blocked) refl)
    ∙ counted_on charges (under m rows) bound m.tick n p alike where
      all : (o : Option ChargePlace) → place_at charges (under m rows) bound m.tick p.blocked ≡ o
          → (nat_lt (task_of (under m rows) p.blocked) x && is_place p (place_at charges (under m rows) bound m.tick p.blocked))
          ≡ is_place p (place_at charges (under m rows) bound m.tick p.blocked)
      all o e = elim (cases_lt p.blocked (length m.list.jobs)) [
        | inl listed ↦
            let t : nat_lt (task_of (under m rows) p.blocked) x ≡ true =
            lt-ltb _ _ (omega (arith, task_listed m.list p.blocked shows.machine.lawful listed, l)) in
            rw t refl
        | inr past ↦
            let none : place_at charges (under m rows) bound m.tick p.blocked ≡ None =
            inactive_nowhere charges (under m rows) bound m.tick p.blocked only
            (λ h. absurd (omega (arith, past, active_listed (under m rows) m.tick p.blocked h))) in
            rw none (and_right (nat_lt (task_of (under m rows) p.blocked) x) false refl)
      ]

-- And it is no more than the ticks so far.
pub count_most : (charges : Charges) (w : Trace) (bound : ℕ → ℕ) (t n x : ℕ) (p : ChargePlace) → ticks_with charges w bound t n x p ≤ t + n
unfolding ticks_with ticks_before
count_most charges w bound t n x p =
    omega (
      arith,
      count_below-at_most t (λ u. is_place p (place_at charges w bound u p.blocked)),
      most (nat_lt (task_of w p.blocked) x && is_place p (place_at charges w bound t p.blocked)),
    ) where
      most : (b : Bool) → only_if b n ≤ n
      most true = omega arith
      most false = omega arith

-- The place of a charge whose job is in this phase.
pub placed : (charges : Charges) (w : Trace) (bound : ℕ → ℕ) (t j : ℕ) (charge : Charge) {p : Phase}
    → nat_lt t (bound_end w bound j) ≡ true → charges w t j ≡ Some charge → p ≡ phase_of w t charge.job
    → option_map (place_of j) (request_in charge p) ≡ place_at charges w bound t j
placed charges w bound t j charge within is_it phase = rw (within, is_it, phase) refl
