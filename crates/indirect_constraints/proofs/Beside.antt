-- Sums over the other tasks of a task's processor, and a table in which one number is raised.
use Rattle.std.proofs.Common.{◌≡◌, ℕ, zero, suc, ◌+◌, ◌<◌, ◌==◌, ◌&&◌, Bool, true, false, nat_lt, List, length, set}
use Rattle.std.proofs.Common.{refl, sym, ap, ◌∙◌, arith, inl, inr}
use Rattle.std.specs.Prelude.{slice_index}
use Rattle.std.proofs.lemmas.List.{get_or-set_same, get_or-set_other}
use Rattle.std.proofs.lemmas.Bool.{cases_Bool, cases_eq, eq-eqb, ne_eqb, lt-ltb, le-ltb, ltb-true, ltb-false}
use Rattle.number_laws.specs.Sums.{sum_below, only_if, flag}
use Rattle.number_laws.specs.Tests.{any_below, count_below}
use Rattle.number_laws.proofs.SumLaws.{sum_below-agree}
use Rattle.number_laws.proofs.CountLaws.{count_below-from, count_below-none}
use Rattle.number_laws.proofs.TestLaws.{any_below-some, any_below-none}
use Rattle.sporadic_model.specs.SetDef.{SetDef, task_at}
use Rattle.blocking_columns.specs.Columns.{have_one_processor}
use Rattle.sporadic_model.specs.Users.{is_user, count_of}
use Rattle.indirect_constraints.specs.Rows.{is_beside, lower_holdings}
use Rattle.indirect_constraints.specs.Tables.{lower_user}

-- The sum of the numbers that f gives the other tasks of x's processor, over the tasks below n.
abbrev pub sum_beside : SetDef → (ℕ → ℕ) → ℕ → ℕ → ℕ
sum_beside set f n x = sum_below n (λ y. only_if (is_beside set x y) (f y))

other_below : (k y : ℕ) → (y ≡ k → ⊥) → nat_lt k (suc y) ≡ nat_lt k y
other_below k y apart = elim (cases_Bool (nat_lt k y)) [
  | inl below ↦ lt-ltb k (suc y) (omega (arith, ltb-true k y below)) ∙ sym below
  | inr above ↦ le-ltb k (suc y) (omega (arith, ltb-false k y above, apart)) ∙ sym above
]

-- The sum over the tasks of a processor is the sum over all but one of them, and that one's own number.
pub beside_and_own : (set : SetDef) (x n : ℕ) (f : ℕ → ℕ)
    → sum_below n (λ y. only_if (have_one_processor set y x) (f y))
    ≡ sum_below n (λ y. only_if (is_beside set x y) (f y)) + only_if (nat_lt x n) (f x)
beside_and_own set x zero f = rw (le-ltb x 0 (omega arith)) refl
beside_and_own set x (suc n) f = elim (cases_eq n x) [
  | inl same ↦
      let before = beside_and_own set x n f in
      let own : only_if (have_one_processor set n x) (f n) ≡ f x =
      rw same (rw (eq-eqb (task_at set x).processor (task_at set x).processor refl) refl) in
      let away : only_if (is_beside set x n) (f n) ≡ 0 = rw (eq-eqb n x same) refl in
      let earlier : only_if (nat_lt x n) (f x) ≡ 0 = rw (le-ltb x n (omega (arith, same))) refl in
      let now : only_if (nat_lt x (suc n)) (f x) ≡ f x = rw (lt-ltb x (suc n) (omega (arith, same))) refl in
      omega (arith, before, own, away, earlier, now)
  | inr apart ↦
      let before = beside_and_own set x n f in
      let other : only_if (is_beside set x n) (f n) ≡ only_if (have_one_processor set n x) (f n) = rw (ne_eqb n x apart) refl in
      let own : only_if (nat_lt x (suc n)) (f x) ≡ only_if (nat_lt x n) (f x) =
      ap (λ (b : Bool). only_if b (f x)) (other_below x n apart) in
      omega (arith, before, other, own)
]

any_counted : (n : ℕ) (p : ℕ → Bool) → any_below n p ≡ nat_lt 0 (count_below n p)
any_counted n p = elim (cases_Bool (any_below n p)) [
  | inl some ↦
      let k = any_below-some n p some in
      some ∙ sym (lt-ltb 0 (count_below n p) (count_below-from n p k.0 k.1 k.2))
  | inr none ↦ none ∙ sym (rw (count_below-none n p (any_below-none n p none)) refl)
]

user_parts : (lower beside user : Bool) → flag (lower && (beside && user)) ≡ only_if beside (flag (lower && user))
user_parts true true user = refl
user_parts true false user = refl
user_parts false true user = refl
user_parts false false user = refl

-- Another task of the processor is a lower user exactly if the sum over the others isn't zero.
pub any_beside : (n : ℕ) (lower beside user : ℕ → Bool) → any_below n (λ y. lower y && (beside y && user y))
    ≡ nat_lt 0 (sum_below n (λ y. only_if (beside y) (flag (lower y && user y))))
any_beside n lower beside user = any_counted n (λ y. lower y && (beside y && user y))
    ∙ ap (nat_lt 0) (sum_below-agree n (λ y. flag (lower y && (beside y && user y))) (λ y. only_if (beside y) (flag (lower y && user y)))
    (λ y l. user_parts (lower y) (beside y) (user y)))

-- One number of a table is raised, and no other.
pub added_at : (table : List ℕ) (place number k : ℕ) → place < length table
    → slice_index (set table place (slice_index table place + number)) k ≡ slice_index table k + only_if (place == k) number
added_at table place number k l = elim (cases_eq place k) [
  | inl same ↦
      rw (← same) (rw (eq-eqb place place refl) (get_or-set_same table place (slice_index table place + number) 0 l))
  | inr apart ↦
      let kept = get_or-set_other table place k (slice_index table place + number) 0 (λ e. apart (sym e)) in
      rw (ne_eqb place k apart) (omega (arith, kept))
]

-- If numbers agree, so do their sums over the other tasks of a processor.
pub beside_same : (set : SetDef) (f g : ℕ → ℕ) (m n x : ℕ) → m ≡ n → ((y : ℕ) → y < n → f y ≡ g y)
    → sum_beside set f m x ≡ sum_beside set g n x
beside_same set f g m n x size each = rw size (sum_below-agree n (λ y. only_if (is_beside set x y) (f y))
    (λ y. only_if (is_beside set x y) (g y)) (λ y l. ap (only_if (is_beside set x y)) (each y l)))

-- Lower tasks beside x hold requests of q exactly if the sum of the users beside it isn't zero.
pub lower_there : (set : SetDef) (i x q : ℕ)
    → lower_holdings set i x q ≡ only_if (nat_lt 0 (sum_beside set (lower_user set i q) (length set.tasks) x)) (count_of set i q)
lower_there set i x q = ap (λ (b : Bool). only_if b (count_of set i q))
    (any_beside (length set.tasks) (nat_lt i) (is_beside set x) (is_user set q))
