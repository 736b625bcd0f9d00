-- Which lower tasks make requests of a resource, told from sums of these requests.
use Rattle.std.proofs.Common.{◌≡◌, ℕ, zero, suc, ◌+◌, ◌<◌, ◌&&◌, ◌||◌, ◌==◌, not, Bool, true, false, nat_lt, length}
use Rattle.std.proofs.Common.{refl, sym, ap, ◌∙◌, arith, inl, inr}
use Rattle.std.specs.Prelude.{slice_index}
use Rattle.std.proofs.lemmas.Bool.{lt-ltb, cases_eq, eq-eqb, eqb-true, ne_eqb}
use Rattle.number_laws.specs.Sums.{sum_below, only_if}
use Rattle.number_laws.specs.Tests.{any_below}
use Rattle.number_laws.proofs.SumLaws.{sum_below-agree, sum_below-plus, only_if-true}
use Rattle.sporadic_model.specs.SetDef.{SetDef, task_at}
use Rattle.sporadic_model.specs.Users.{count_of, is_user}
use Rattle.blocking_columns.specs.Columns.{have_one_processor}
use Rattle.indirect_constraints.specs.Rows.{is_beside}
use Rattle.closer_mpcp_laws.specs.CloserMpcpRows.{is_away}
use Rattle.closer_mpcp.specs.Holdings.{has_lower}
use Rattle.closer_mpcp.specs.Sums.{made_on, made_beside, made_away, made_away_from_both, AreLowerSumsOf}
use Rattle.closer_mpcp.specs.declared.places.Place.TheVariants as place
use Rattle.closer_mpcp.specs.declared.sums.Sums.{Sums}

some_of_two : (a b : ℕ) → (nat_lt 0 a || nat_lt 0 b) ≡ nat_lt 0 (a + b)
some_of_two zero b = let same : b ≡ 0 + b = omega arith in ap (nat_lt 0) same
some_of_two (suc a) b = rw (lt-ltb 0 (suc a) (omega arith)) (sym (lt-ltb 0 (suc a + b) (omega arith)))

-- Some number passes exactly where the sum is of a term that isn't 0.
any_is_some : (n : ℕ) (p : ℕ → Bool) (f : ℕ → ℕ) → ((k : ℕ) → k < n → p k ≡ nat_lt 0 (f k)) → any_below n p ≡ nat_lt 0 (sum_below n f)
any_is_some zero p f each = refl
any_is_some (suc n) p f each =
    rw (any_is_some n p f (λ k l. each k (omega (arith, l))), each n (omega arith)) (some_of_two (sum_below n f) (f n))

both_pass : (lower at : Bool) (n : ℕ) → (lower && (at && nat_lt 0 n)) ≡ nat_lt 0 (only_if at (only_if lower n))
both_pass true true n = refl
both_pass true false n = refl
both_pass false true n = refl
both_pass false false n = refl

-- What one lower task makes.
own_of : (set : SetDef) (i r y : ℕ) (s : Sums) → AreLowerSumsOf set i r s → y < length set.tasks
    → slice_index s.own y ≡ only_if (nat_lt i y) (count_of set y r)
own_of set i r y s sums here = sums.each y here ∙ only_if-true (nat_lt y (length set.tasks)) _ (lt-ltb y (length set.tasks) here)

-- A lower task that passes uses r exactly where those that pass make some requests.
some_lower : (set : SetDef) (i r : ℕ) (at : ℕ → Bool) (s : Sums) → AreLowerSumsOf set i r s
    → any_below (length set.tasks) (λ y. nat_lt i y && (at y && is_user set r y))
    ≡ nat_lt 0 (sum_below (length set.tasks) (λ y. only_if (at y) (slice_index s.own y)))
some_lower set i r at s sums =
    any_is_some (length set.tasks) (λ y. nat_lt i y && (at y && is_user set r y)) (λ y. only_if (at y) (slice_index s.own y))
    (λ y l. both_pass (nat_lt i y) (at y) (count_of set y r) ∙ ap (λ n. nat_lt 0 (only_if (at y) n)) (sym (own_of set i r y s sums l)))

pub lower_beside : (set : SetDef) (i x r : ℕ) (s : Sums) → AreLowerSumsOf set i r s
    → has_lower place.Beside set i x r ≡ nat_lt 0 (made_beside set (slice_index s.own) x)
lower_beside set i x r s sums = some_lower set i r (is_beside set x) s sums

pub lower_elsewhere : (set : SetDef) (i x r : ℕ) (s : Sums) → AreLowerSumsOf set i r s
    → has_lower place.Away set i x r ≡ nat_lt 0 (made_away_from_both set (slice_index s.own) i x)
lower_elsewhere set i x r s sums = some_lower set i r (λ y. is_away set x y && is_away set i y) s sums

same_twice : (b : Bool) → b ≡ (b && b)
same_twice true = refl
same_twice false = refl

-- If x and i share a processor, what is away from x is away from both.
pub away_from_one : (set : SetDef) (f : ℕ → ℕ) (i x : ℕ) → have_one_processor set x i ≡ true
    → made_away set f x ≡ made_away_from_both set f i x
away_from_one set f i x one =
    let same : (task_at set x).processor ≡ (task_at set i).processor = eqb-true (task_at set x).processor (task_at set i).processor one in
    sum_below-agree (length set.tasks) (λ y. only_if (is_away set x y) (f y)) (λ y. only_if (is_away set x y && is_away set i y) (f y))
    (λ y l. ap (λ b. only_if b (f y)) (same_twice (is_away set x y)
    ∙ ap (λ k. is_away set x y && not ((task_at set y).processor == k)) same))

-- If not, the tasks of i's processor are away from x alone.
away_or_there : (set : SetDef) (i x y m : ℕ) → have_one_processor set x i ≡ false
    → only_if (is_away set x y && is_away set i y) m + only_if ((task_at set y).processor == (task_at set i).processor) m
    ≡ only_if (is_away set x y) m
away_or_there set i x y m apart = elim (cases_eq (task_at set y).processor (task_at set i).processor) [
  | inl there ↦
      let other : (task_at set y).processor == (task_at set x).processor ≡ false =
      ne_eqb (task_at set y).processor (task_at set x).processor (λ e.
      let one : have_one_processor set x i ≡ true = eq-eqb (task_at set x).processor (task_at set i).processor (sym e ∙ there) in
      absurd (cc)) in
      rw (eq-eqb (task_at set y).processor (task_at set i).processor there, other) (omega arith)
  | inr elsewhere ↦ rw (ne_eqb (task_at set y).processor (task_at set i).processor elsewhere) (none_there (is_away set x y))
] where
  none_there : (b : Bool) → only_if (b && true) m + 0 ≡ only_if b m
  none_there true = omega arith
  none_there false = refl

pub away_from_two : (set : SetDef) (f : ℕ → ℕ) (i x : ℕ) → have_one_processor set x i ≡ false
    → made_away_from_both set f i x + made_on set f (task_at set i).processor ≡ made_away set f x
away_from_two set f i x apart =
    let n = length set.tasks in
    let there : ℕ → Bool = λ y. (task_at set y).processor == (task_at set i).processor in
    sym (sum_below-plus n (λ y. only_if (is_away set x y && is_away set i y) (f y)) (λ y. only_if (there y) (f y)))
    ∙ sum_below-agree n (λ y. only_if (is_away set x y && is_away set i y) (f y) + only_if (there y) (f y))
    (λ y. only_if (is_away set x y) (f y)) (λ y l. away_or_there set i x y (f y) apart)
