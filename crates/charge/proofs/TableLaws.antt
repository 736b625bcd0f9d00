-- The items of the places are the table of the schedule.
use Rattle.std.proofs.Common.{◌≡◌, ℕ, zero, suc, ◌+◌, ◌<◌, ◌==◌, ◌&&◌, Bool, true, false, List, length, map, refl, sym}
use Rattle.std.proofs.Common.{ap, ◌∙◌, arith, inl, inr, min, Option, Some, None}
use Rattle.std.specs.Prelude.{nat_lt, option_map}
use Rattle.std.specs.List.{All, Contains}
use Rattle.std.specs.BTreeMap.{BTreeMap, get, IsOrdered}
use Rattle.std.proofs.lemmas.Bool.{cases_lt, cases_Bool, and_parts, lt-ltb, le-ltb, eq-eqb, eqb-true, ne_eqb}
use Rattle.std.proofs.lemmas.List.{get_or-map, length-map}
use Rattle.std.proofs.lemmas.List.Elements.{All-map, All-weaker, recursion_from_All}
use Rattle.std.proofs.lemmas.Map.Views.{All-found, Contains-from_lookup}
use Rattle.number_laws.specs.Sums.{flag}
use Rattle.number_laws.specs.Tests.{count_below}
use Rattle.number_laws.proofs.CountLaws.{count_below-agree, count_below-some, count_below-from}
use Rattle.schedule_model.specs.RowDef.{Trace}
use Rattle.schedule_model.specs.Phase.{Phase, phase_of}
use Rattle.schedule_model.specs.Phase.Phase.{Local, Asking, Finished}
use Rattle.schedule_model.specs.BlockedTicks.{is_blocked}
use Rattle.schedule_laws.proofs.ActiveJobs.{active_listed}
use Rattle.blocking_columns.specs.ClassOrder.{class_rank}
use Rattle.charge_laws.specs.Charges.{Charge, Executes}
use Rattle.charge_laws.specs.Windows.{bound_end, window_end}
use Rattle.charge.specs.declared.tally.ChargePlace.{ChargePlace}
use Rattle.charge.specs.Requests.{ChargedRequest, request_in, charged_request}
use Rattle.charge.specs.Table.{ItemDef, is_of, charged_ticks, IsChargeTable}
use Rattle.charge.specs.Tally.{IsTally, positive, place_cmp, is_same_place, is_place, place_of, place_at}
use Rattle.charge.specs.Tally.{item_of, ticks_before}
use Rattle.charge.proofs.TallyLaws.{Charges, OfActive}
use Rattle.charge.proofs.Places.{places_total, same_by_order, same_itself, rank_one, Known, table_sorted}

-- A number that is there is the count, and positive.
some_count : (n v : ℕ) → Some v ≡ positive n → (v ≡ n) × (0 < n)
some_count n v e = elim (cases_Bool (n == 0)) [
  | inl none ↦ let x : Some v ≡ None = rw none at e in absurd (cc)
  | inr some ↦
      let same : Some v ≡ Some n = rw some at e in
      let is : v ≡ n = cc in
      (is, above n some)
] where
  above : (n : ℕ) → (n == 0) ≡ false → 0 < n
  above zero h = absurd (cc)
  above (suc n) h = omega arith

-- A tick that is charged to a request.
record Asked (charges : Charges) (w : Trace) (t j : ℕ) (r : ChargedRequest) : Type 0 where
  charge : Charge
  is_it : charges w t j ≡ Some charge
  request : phase_of w t r.job ≡ Asking r.number r.resource

asked_is : (charges : Charges) (w : Trace) (t j : ℕ) (r : ChargedRequest) → charged_request charges w t j ≡ Some r → Asked charges w t j r
asked_is charges w t j r h = go (charges w t j) refl where
  in_phase : (c : Charge) (p : Phase) → charges w t j ≡ Some c → phase_of w t c.job ≡ p → request_in c p ≡ Some r → Asked charges w t j r
  in_phase c (Asking n q) e f g =
      let job : c.job ≡ r.job = cc in
      let number : n ≡ r.number = cc in
      let resource : q ≡ r.resource = cc in
      record { charge = c; is_it = e; request = ap (phase_of w t) (sym job) ∙ f ∙ rw (number, resource) refl }
  in_phase c Local e f g = absurd (cc)
  in_phase c Finished e f g = absurd (cc)

  go : (o : Option Charge) → charges w t j ≡ o → Asked charges w t j r
  go None e = let x : None ≡ Some r = rw e at h in absurd (cc)
  go (Some c) e = in_phase c (phase_of w t c.job) e refl (rw e at h)

-- The parts of a place.
record SamePlace (j : ℕ) (r : ChargedRequest) (p : ChargePlace) : Type 0 where
  blocked : j ≡ p.blocked
  blocker : r.job ≡ p.blocker
  request : r.number ≡ p.request
  resource : r.resource ≡ p.resource
  class : r.class ≡ p.class

place_parts : (j : ℕ) (r : ChargedRequest) (p : ChargePlace) → is_same_place (place_of j r) p ≡ true → SamePlace j r p
place_parts j r p h =
    let one = and_parts _ _ h in
    let two = and_parts _ _ one.1 in
    let three = and_parts _ _ two.1 in
    let four = and_parts _ _ three.1 in
    record {
      blocked = eqb-true _ _ one.0;
      blocker = eqb-true _ _ two.0;
      request = eqb-true _ _ three.0;
      resource = eqb-true _ _ four.0;
      class = rank_one _ _ (eqb-true _ _ four.1);
    }

-- A tick that is counted to a place.
record Spot (charges : Charges) (w : Trace) (bound : ℕ → ℕ) (t j : ℕ) (p : ChargePlace) : Type 0 where
  request : ChargedRequest
  is_it : charged_request charges w t j ≡ Some request
  same : SamePlace j request p

spot_is : (charges : Charges) (w : Trace) (bound : ℕ → ℕ) (t j : ℕ) (p : ChargePlace) → is_place p (place_at charges w bound t j) ≡ true
    → Spot charges w bound t j p
spot_is charges w bound t j p h = elim (cases_Bool (nat_lt t (bound_end w bound j))) [
  | inl within ↦ go (charged_request charges w t j) refl (rw within at h)
  | inr past ↦ let x : false ≡ true = rw past at h in absurd (cc)
] where
  go : (o : Option ChargedRequest) → charged_request charges w t j ≡ o → is_place p (option_map (place_of j) o) ≡ true
      → Spot charges w bound t j p
  go None e g = absurd (cc)
  go (Some r) e g = record { request = r; is_it = e; same = place_parts j r p g }

-- What is known of a place with ticks.
record Counted (charges : Charges) (w : Trace) (e : ChargePlace × ℕ) : Type 0 where
  known : Known w e
  tick : ℕ
  charge : Charge
  is_it : charges w tick e.0.blocked ≡ Some charge

counted_is : (charges : Charges) (w : Trace) (bound : ℕ → ℕ) (n : ℕ) (e : ChargePlace × ℕ) → 0 < ticks_before charges w bound n e.0
    → Counted charges w e
unfolding ticks_before
counted_is charges w bound n e some =
    let at : (u : ℕ) × (u < n) × (is_place e.0 (place_at charges w bound u e.0.blocked) ≡ true) =
    count_below-some n (λ u. is_place e.0 (place_at charges w bound u e.0.blocked)) some in
    let spot : Spot charges w bound at.0 e.0.blocked e.0 = spot_is charges w bound at.0 e.0.blocked e.0 at.2 in
    let asked : Asked charges w at.0 e.0.blocked spot.request = asked_is charges w at.0 e.0.blocked spot.request spot.is_it in
    record {
      known = record {
        tick = at.0;
        request = ap (phase_of w at.0) (sym spot.same.blocker) ∙ asked.request ∙ rw (spot.same.request, spot.same.resource) refl;
      };
      tick = at.0;
      charge = asked.charge;
      is_it = asked.is_it;
    }

-- Counting within a window.
count_within : (e n : ℕ) (f : ℕ → Bool) → count_below n (λ u. nat_lt u e && f u) ≡ count_below (min e n) f
count_within e zero f = let none : min e 0 ≡ 0 = omega arith in rw none refl
count_within e (suc n) f = elim (cases_lt n e) [
  | inl within ↦
      let t : nat_lt n e ≡ true = lt-ltb n e within in
      let least : min e n ≡ n = omega arith in
      let next : min e (suc n) ≡ suc n = omega arith in
      rw (next, t) (ap (λ k. k + flag (f n)) (count_within e n f ∙ ap (λ k. count_below k f) least))
  | inr past ↦
      let t : nat_lt n e ≡ false = le-ltb n e past in
      let least : min e n ≡ e = omega arith in
      let next : min e (suc n) ≡ e = omega arith in
      let same : count_below n (λ u. nat_lt u e && f u) ≡ count_below e f = count_within e n f ∙ ap (λ k. count_below k f) least in
      rw (next, t) (omega (arith, same))
]

-- The ticks of a place are those of its item.
ticks_of_item : (charges : Charges) (w : Trace) (bound : ℕ → ℕ) (n : ℕ) (e : ChargePlace × ℕ)
    → ticks_before charges w bound n e.0 ≡ charged_ticks charges w bound n (item_of e)
unfolding ticks_before charged_ticks
ticks_of_item charges w bound n e =
    count_below-agree n (λ u. is_place e.0 (place_at charges w bound u e.0.blocked))
    (λ u. nat_lt u (bound_end w bound e.0.blocked) && is_of (item_of e) (charged_request charges w u e.0.blocked)) (λ u l. same u)
    ∙ count_within (bound_end w bound e.0.blocked) n (λ t. is_of (item_of e) (charged_request charges w t e.0.blocked)) where
      inside : (o : Option ChargedRequest) → is_place e.0 (option_map (place_of e.0.blocked) o) ≡ is_of (item_of e) o
      inside None = refl
      inside (Some r) = rw (eq-eqb e.0.blocked e.0.blocked refl) refl

      same : (u : ℕ) → is_place e.0 (place_at charges w bound u e.0.blocked)
          ≡ (nat_lt u (bound_end w bound e.0.blocked) && is_of (item_of e) (charged_request charges w u e.0.blocked))
      same u = elim (cases_Bool (nat_lt u (bound_end w bound e.0.blocked))) [
        | inl within ↦ rw within (inside (charged_request charges w u e.0.blocked))
        | inr past ↦ rw past refl
      ]

contains_map : {X Y : Type 0} (f : X → Y) (xs : List X) (x : X) → Contains xs x → Contains (map f xs) (f x)
contains_map f xs x c = (c.0, rw (length-map xs f) c.1, get_or-map f xs c.0 x (f x) c.1 ∙ ap f c.2)

-- Each blocked tick of a window is in the table.
tick_there : (charges : Charges) (w : Trace) (bound : ℕ → ℕ) (n : ℕ) (ticks : BTreeMap ChargePlace ℕ) (t j : ℕ)
    → IsTally ticks (ticks_before charges w bound n) → t < window_end w bound n j → (charge : Charge) → charges w t j ≡ Some charge
    → Executes w t charge
    → (item : ItemDef) × Contains (map item_of ticks.entries) item × (item.blocked ≡ j)
    × (is_of item (charged_request charges w t j) ≡ true)
unfolding ticks_before
tick_there charges w bound n ticks t j tally l charge is_it executes =
    (item_of (p, count), contains_map item_of ticks.entries (p, count) among, refl, here) where
      r : ChargedRequest
      r = record { job = charge.job; number = executes.number; resource = executes.resource; class = charge.class }

      p : ChargePlace
      p = place_of j r

      asked : charged_request charges w t j ≡ Some r
      asked = rw (is_it, executes.request) refl

      within : nat_lt t (bound_end w bound j) ≡ true
      within = lt-ltb _ _ (omega arith)

      at : place_at charges w bound t j ≡ Some p
      at = rw (within, asked) refl

      count : ℕ
      count = count_below n (λ u. is_place p (place_at charges w bound u j))

      some : 0 < count
      some = count_below-from n (λ u. is_place p (place_at charges w bound u j)) t (omega arith) (rw at (same_itself p))

      found : get place_cmp ticks p ≡ Some count
      found = tally p ∙ above count some where
        above : (m : ℕ) → 0 < m → positive m ≡ Some m
        above m h = let f : (m == 0) ≡ false = ne_eqb m 0 (λ e. absurd (omega (arith, e, h))) in rw f refl

      among : Contains ticks.entries (p, count)
      among = Contains-from_lookup same_by_order p count ticks.entries found

      here : is_of (item_of (p, count)) (charged_request charges w t j) ≡ true
      here = rw asked (
          rw (
            eq-eqb charge.job charge.job refl,
            eq-eqb executes.number executes.number refl,
            eq-eqb executes.resource executes.resource refl,
            eq-eqb (class_rank charge.class) (class_rank charge.class) refl,
          ) refl)

-- So the items of a tally of all rows are the table.
pub table_is : (charges : Charges) (interferes : Trace → ℕ → ℕ → Bool) (w : Trace) (bound : ℕ → ℕ) (n : ℕ) (ticks : BTreeMap ChargePlace ℕ)
    → IsTally ticks (ticks_before charges w bound n) → IsOrdered place_cmp ticks
    → ((t : ℕ) → OfActive charges w t)
    → ((t j : ℕ) → t < n → is_blocked interferes w t j ≡ true → (charge : Charge) × (charges w t j ≡ Some charge) × Executes w t charge)
    → IsChargeTable charges interferes w bound n (map item_of ticks.entries)
table_is charges interferes w bound n ticks tally ordered only charged = record {
  sorted = table_sorted w ticks.entries (recursion_from_All (Known w) ticks.entries
      (All-weaker Counts (Known w) (λ e c. (counted e c).known) ticks.entries counts)) ordered;
  listed = All-map (λ item. item.blocked < length w.jobs) item_of ticks.entries
      (All-weaker Counts (λ e. e.0.blocked < length w.jobs) (λ e c. let a : Counted charges w e = counted e c in
      active_listed w a.tick e.0.blocked (only a.tick e.0.blocked a.charge a.is_it)) ticks.entries counts);
  some = All-map (λ item. 0 < item.ticks) item_of ticks.entries
      (All-weaker Counts (λ e. 0 < e.1) (λ e c. omega (arith, c.0, c.1)) ticks.entries counts);
  counted = All-map (λ item. item.ticks ≡ charged_ticks charges w bound n item) item_of ticks.entries
      (All-weaker Counts (λ e. e.1 ≡ charged_ticks charges w bound n (item_of e))
      (λ e c. c.0 ∙ ticks_of_item charges w bound n e) ticks.entries counts);
  all = λ t j listed l blocked.
      let a : (charge : Charge) × (charges w t j ≡ Some charge) × Executes w t charge = charged t j (omega (arith, l)) blocked in
      tick_there charges w bound n ticks t j tally l a.0 a.1 a.2;
} where
  Counts : ChargePlace × ℕ → Type 0
  Counts e = (e.1 ≡ ticks_before charges w bound n e.0) × (0 < ticks_before charges w bound n e.0)

  counts : All Counts ticks.entries
  counts = All-weaker (λ (e : ChargePlace × ℕ). get place_cmp ticks e.0 ≡ Some e.1) Counts
      (λ e found. some_count (ticks_before charges w bound n e.0) e.1 (sym found ∙ tally e.0)) ticks.entries
      (All-found places_total ticks ordered)

  counted : (e : ChargePlace × ℕ) → Counts e → Counted charges w e
  counted e c = counted_is charges w bound n e c.1
