-- The row of holdings, under MPCP: the sum of the parts by resource and by holder.
use Rattle.std.proofs.Common.{◌≡◌, ℕ, ◌+◌, ◌*◌, ◌<◌, ◌≤◌, ◌&&◌, not, Bool, true, false, length, refl, sym, ap}
use Rattle.std.proofs.Common.{◌∙◌, arith, inl, inr, nat_lt}
use Rattle.std.proofs.Math.Nat.{mul_comm, mul-add}
use Rattle.std.proofs.lemmas.Bool.{cases_lt, cases_Bool, both_ways, and_from, ltb-true, ltb-false, not-true}
use Rattle.number_laws.specs.Sums.{sum_below, only_if}
use Rattle.number_laws.specs.Tests.{any_below}
use Rattle.number_laws.proofs.SumLaws.{sum_below-agree, sum_below-plus, sum_below-zero}
use Rattle.number_laws.proofs.TestLaws.{any_below-none}
use Rattle.sporadic_model.specs.Users.{count_of, is_user}
use Rattle.schedule_model.specs.RowDef.{Trace}
use Rattle.schedule_model.specs.Activity.{task_of, is_active}
use Rattle.schedule_model.specs.Ranks.{mpcp}
use Rattle.schedule_model.specs.Protocols.{shared_rule}
use Rattle.schedule_model.specs.Keeping.{KeepsBefore}
use Rattle.schedule_laws.proofs.ActiveJobs.{Active, active_is}
use Rattle.schedule_laws.proofs.Holders.{open_active}
use Rattle.indirect_constraints.specs.Rows.{is_beside, higher_holdings, lower_holdings, holding_row}
use Rattle.charge_laws.specs.Charges.{shared_charge}
use Rattle.charge_laws.specs.Windows.{window_end}
use Rattle.row_laws.specs.Meeting.{TicksMeet}
use Rattle.row_laws.proofs.Brings.{Window, Hit, only_if-parts}
use Rattle.row_laws.proofs.Holdings.{own_resource, first_holder, holding_share, Held, held_at}
use Rattle.row_laws.proofs.HeldResources.{HigherAt, by_higher, by_resource}
use Rattle.row_laws.proofs.HoldingParts.{Holding, amount, for_resource, is_low, low_part, high_part}
use Rattle.row_laws.proofs.HoldingParts.{ForResource, for_resource_is, low_paid, job_paid}

-- A holder is active.
holder_active : (w : Trace) (bound : ℕ → ℕ) (n j x s : ℕ) (share : ℕ → ℕ → ℕ) (q t : ℕ) → Holding w bound n j x s share
    → t < window_end w bound n j → ForResource w j x share q t → is_active w t (first_holder w j t) ≡ true
holder_active w bound n j x s share q t c l a =
    open_active w n t (first_holder w j t) a.facts.holding (own_resource w j t) c.window.active (omega arith)
    (c.window.lawful.each (first_holder w j t) a.facts.listed).script a.facts.held

-- While higher tasks hold q, there is one for each request of q that jobs of those beside x make in the window.
pub high_paid : (w : Trace) (bound : ℕ → ℕ) (n j x s : ℕ) (share : ℕ → ℕ → ℕ) (q : ℕ) → Holding w bound n j x s share
    → sum_below (window_end w bound n j) (λ t. high_part w j x share q t) ≤ s * higher_holdings w.set bound (task_of w j) x q
high_paid w bound n j x s share q c =
    by_higher shared_charge w bound n j q s (is_beside w.set x) (λ t. first_holder w j t) (λ t. t) (λ t. high_part w j x share q t) c.window
    (λ t l some. higher t l some) (λ y z b task. job_paid w bound n j x s share q y z c b task) where
      higher : (t : ℕ) → t < window_end w bound n j → 0 < high_part w j x share q t
          → HigherAt w bound j (is_beside w.set x) (first_holder w j t) t
      higher t l some =
          let three : (not (is_low w j t) ≡ true) × (0 < for_resource w j x share q t) =
          only_if-parts (not (is_low w j t)) (for_resource w j x share q t) some in
          let a : ForResource w j x share q t = for_resource_is w bound n j x s share q t c l three.1 in
          let most : task_of w (first_holder w j t) ≤ task_of w j = ltb-false _ _ (not-true _ three.0) in
          let own : Active w t j = active_is w t j a.facts.active in
          record {
            active = holder_active w bound n j x s share q t c l a;
            higher = elim (cases_lt (task_of w (first_holder w j t)) (task_of w j)) [
              | inl less ↦ less
              | inr same ↦ absurd (a.facts.other (omega arith))
            ];
            passes = a.facts.beside;
            from = own.released;
            before = omega arith;
          }

-- While lower tasks hold q, if one beside x uses it.
lower_paid : (w : Trace) (bound : ℕ → ℕ) (n j x s : ℕ) (share : ℕ → ℕ → ℕ) (q : ℕ) → Holding w bound n j x s share
    → sum_below (window_end w bound n j) (λ t. low_part w j x share q t) ≤ s * lower_holdings w.set (task_of w j) x q
lower_paid w bound n j x s share q c =
    elim (cases_Bool (any_below (length w.set.tasks) (λ y. nat_lt (task_of w j) y && (is_beside w.set x y && is_user w.set q y)))) [
      | inl on ↦ rw on (omega (arith, low_paid w bound n j x s share q c, mul_comm (count_of w.set (task_of w j) q) s))
      | inr off ↦
          let none : sum_below (window_end w bound n j) (λ t. low_part w j x share q t) ≡ 0 =
          sum_below-zero (window_end w bound n j) (λ t. low_part w j x share q t) (λ t b. nothing off t b) in
          omega arith
    ] where
      nothing : any_below (length w.set.tasks) (λ y. nat_lt (task_of w j) y && (is_beside w.set x y && is_user w.set q y)) ≡ false → (t : ℕ)
          → t < window_end w bound n j → low_part w j x share q t ≡ 0
      nothing off t b = elim (cases_lt 0 (low_part w j x share q t)) [
        | inr none ↦ omega arith
        | inl some ↦
            let parts : (is_low w j t ≡ true) × (0 < for_resource w j x share q t) =
            only_if-parts (is_low w j t) (for_resource w j x share q t) some in
            let a : ForResource w j x share q t = for_resource_is w bound n j x s share q t c b parts.1 in
            let z : ℕ = first_holder w j t in
            let uses : is_user w.set q (task_of w z) ≡ true = ap (λ r. is_user w.set r (task_of w z)) (sym a.resource) ∙ a.facts.uses in
            absurd (both_ways (nat_lt (task_of w j) (task_of w z) && (is_beside w.set x (task_of w z) && is_user w.set q (task_of w z)))
            (any_below-none (length w.set.tasks)
            (λ y. nat_lt (task_of w j) y && (is_beside w.set x y && is_user w.set q y)) off (task_of w z)
            (c.window.lawful.each z a.facts.listed).task)
            (and_from _ _ parts.0 (and_from _ _ a.facts.beside uses)))
      ]

-- What is known of the ticks that count: j requests a resource that passes, and where a lower task holds it, one that passes a second
-- test.
pub record HeldWhere (w : Trace) (bound : ℕ → ℕ) (n j x : ℕ) (share : ℕ → ℕ → ℕ) (ok low : ℕ → Bool) : Type 0 where
  pub waited : (t : ℕ) → t < window_end w bound n j → Hit shared_charge w (holding_share x share) j t → ok (own_resource w j t) ≡ true
  pub lower : (t : ℕ) → t < window_end w bound n j → Hit shared_charge w (holding_share x share) j t
      → task_of w j < task_of w (first_holder w j t) → low (own_resource w j t) ≡ true

-- While lower tasks hold q, where they may.
low_where : (w : Trace) (bound : ℕ → ℕ) (n j x s : ℕ) (share : ℕ → ℕ → ℕ) (ok low : ℕ → Bool) (q : ℕ) → Holding w bound n j x s share
    → HeldWhere w bound n j x share ok low
    → sum_below (window_end w bound n j) (λ t. low_part w j x share q t)
    ≤ s * only_if (low q) (lower_holdings w.set (task_of w j) x q)
low_where w bound n j x s share ok low q c known = elim (cases_Bool (low q)) [
  | inl on ↦ rw on (lower_paid w bound n j x s share q c)
  | inr off ↦
      let none : sum_below (window_end w bound n j) (λ t. low_part w j x share q t) ≡ 0 =
      sum_below-zero (window_end w bound n j) (λ t. low_part w j x share q t) (λ t b. nothing off t b) in
      omega (arith, none)
] where
  nothing : low q ≡ false → (t : ℕ) → t < window_end w bound n j → low_part w j x share q t ≡ 0
  nothing off t b = elim (cases_lt 0 (low_part w j x share q t)) [
    | inr none ↦ omega arith
    | inl some ↦
        let parts : (is_low w j t ≡ true) × (0 < for_resource w j x share q t) =
        only_if-parts (is_low w j t) (for_resource w j x share q t) some in
        let a : ForResource w j x share q t = for_resource_is w bound n j x s share q t c b parts.1 in
        let passes : low q ≡ true = ap low (sym a.resource) ∙ known.lower t b a.hits (ltb-true _ _ parts.0) in
        absurd (both_ways (low q) off passes)
  ]

split_parts : (b : Bool) (n : ℕ) → n ≡ only_if b n + only_if (not b) n
split_parts true n = omega arith
split_parts false n = omega arith

-- So all that is charged to x indirectly is paid for by the holdings of such resources beside x, where so many by higher tasks pay for what
-- is charged while these hold a resource.
pub holdings_paid : (w : Trace) (bound : ℕ → ℕ) (n j x s : ℕ) (share : ℕ → ℕ → ℕ) (ok low : ℕ → Bool) (higher : ℕ → ℕ)
    → Holding w bound n j x s share → HeldWhere w bound n j x share ok low
    → ((q : ℕ) → sum_below (window_end w bound n j) (λ t. high_part w j x share q t) ≤ s * higher q)
    → sum_below (window_end w bound n j) (λ t. amount w j x share t)
    ≤ s * sum_below (length w.set.resources) (λ q. only_if (ok q)
    (higher q + only_if (low q) (lower_holdings w.set (task_of w j) x q)))
holdings_paid w bound n j x s share ok low higher c known paid =
    by_resource shared_charge w bound n j s (holding_share x share) ok
    (λ q. higher q + only_if (low q) (lower_holdings w.set (task_of w j) x q))
    (λ t l h. let a : Held w t j x h.charge.job = held_at mpcp w bound n t j x share c.window c.keeps (omega arith) h in
    record { within = a.within; passes = known.waited t l h })
    (λ q l on. each q) where
      each : (q : ℕ) → sum_below (window_end w bound n j) (λ t. for_resource w j x share q t)
          ≤ s * (higher q + only_if (low q) (lower_holdings w.set (task_of w j) x q))
      each q =
          let split : sum_below (window_end w bound n j) (λ t. for_resource w j x share q t)
          ≡ sum_below (window_end w bound n j) (λ t. low_part w j x share q t + high_part w j x share q t) =
          sum_below-agree (window_end w bound n j) (λ t. for_resource w j x share q t)
          (λ t. low_part w j x share q t + high_part w j x share q t) (λ t l. split_parts (is_low w j t) (for_resource w j x share q t)) in
          let plus : sum_below (window_end w bound n j) (λ t. low_part w j x share q t + high_part w j x share q t)
          ≡ sum_below (window_end w bound n j) (λ t. low_part w j x share q t) + sum_below (window_end w bound n j)
          (λ t. high_part w j x share q t) =
          sum_below-plus (window_end w bound n j) (λ t. low_part w j x share q t) (λ t. high_part w j x share q t) in
          let both : s * (higher q + only_if (low q) (lower_holdings w.set (task_of w j) x q))
          ≡ s * higher q + s * only_if (low q) (lower_holdings w.set (task_of w j) x q) =
          mul-add s (higher q) (only_if (low q) (lower_holdings w.set (task_of w j) x q)) in
          omega (arith, split, plus, both, paid q, low_where w bound n j x s share ok low q c known)

-- The row of holdings.
pub holding_row_met : (w : Trace) (bound : ℕ → ℕ) (n j x : ℕ) → Window shared_charge w bound n j → KeepsBefore (shared_rule mpcp) w n
    → TicksMeet shared_charge w bound n j (holding_row w.set (task_of w j) x)
holding_row_met w bound n j x window keeps s share fair =
    holdings_paid w bound n j x s share (λ q. is_user w.set q (task_of w j)) (λ q. true)
    (λ q. higher_holdings w.set bound (task_of w j) x q) c
    (record {
      waited = λ t l h. let a : Held w t j x h.charge.job = held_at mpcp w bound n t j x share window keeps (omega arith) h in a.user;
      lower = λ t l h low. refl;
    })
    (λ q. high_paid w bound n j x s share q c) where
      c : Holding w bound n j x s share
      c = record { window = window; keeps = keeps; fair = fair }
