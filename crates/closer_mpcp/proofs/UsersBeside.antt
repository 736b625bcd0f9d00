-- Requests of a task go first only while another task of its processor holds the resource, and so uses it.
use Rattle.std.proofs.Common.{◌≡◌, ℕ, ◌*◌, ◌<◌, ◌==◌, not, true, false, nat_lt, length}
use Rattle.std.proofs.Common.{refl, sym, ap, ◌∙◌, arith, inl, inr}
use Rattle.std.specs.Prelude.{slice_index}
use Rattle.std.proofs.lemmas.Bool.{cases_Bool, and_parts, lt-ltb, ltb-true, ltb-false, eq-eqb, eqb-true, ne_eqb, cases_eq}
use Rattle.number_laws.specs.Sums.{only_if}
use Rattle.number_laws.proofs.SumLaws.{sum_below-agree, sum_below-zero, sum_below-term, sum_below-no_term, only_if-true, only_if-false}
use Rattle.sporadic_model.specs.SetDef.{SetDef, task_at}
use Rattle.sporadic_model.specs.Users.{count_of, is_user}
use Rattle.blocking_columns.specs.Windows.{jobs_during, requests_during}
use Rattle.indirect_constraints.specs.Rows.{is_beside}
use Rattle.mpcp_window_laws.specs.MpcpWindows.{longest_first, may_run_instead, holdings_beside, ticks_instead}
use Rattle.closer_mpcp.specs.Sums.{made_beside, AreSumsOfAll}
use Rattle.closer_mpcp.specs.Tables.{is_used_beside, longest_beside}
use Rattle.closer_mpcp.specs.declared.sums.Sums.{Sums}

-- What the sums say is made beside x.
pub used_beside : (set : SetDef) (x q : ℕ) (s : Sums) → AreSumsOfAll set q s
    → made_beside set (slice_index s.own) x ≡ made_beside set (λ y. count_of set y q) x
used_beside set x q s sums = sum_below-agree (length set.tasks) (λ y. only_if (is_beside set x y) (slice_index s.own y))
    (λ y. only_if (is_beside set x y) (count_of set y q))
    (λ y l. ap (only_if (is_beside set x y)) (sums.each y l ∙ only_if-true (nat_lt y (length set.tasks)) (count_of set y q) (lt-ltb y (length set.tasks) l)))

-- A task beside y has y beside it.
turned : (set : SetDef) (x y : ℕ) → is_beside set y x ≡ true → is_beside set x y ≡ true
turned set x y beside =
    let parts : (not (x == y) ≡ true) × ((task_at set x).processor == (task_at set y).processor ≡ true) = and_parts _ _ beside in
    let there : (task_at set x).processor ≡ (task_at set y).processor = eqb-true _ _ parts.1 in
    elim (cases_eq y x) [
      | inl same ↦
          let no : not (x == y) ≡ false = ap not (eq-eqb x y (sym same)) in
          absurd (cc)
      | inr other ↦ rw (ne_eqb y x other, eq-eqb (task_at set y).processor (task_at set x).processor (sym there)) refl
    ]

-- Beside a user of q, each task has a user of q beside it.
one_beside : (set : SetDef) (x y q : ℕ) → y < length set.tasks → is_user set q y ≡ true → is_beside set y x ≡ true → is_used_beside set x q ≡ true
one_beside set x y q here user beside =
    let term = sum_below-term (length set.tasks) (λ z. only_if (is_beside set x z) (count_of set z q)) y here in
    let some : only_if (is_beside set x y) (count_of set y q) ≡ count_of set y q = only_if-true (is_beside set x y) (count_of set y q) (turned set x y beside) in
    lt-ltb 0 (made_beside set (λ z. count_of set z q) x) (omega (arith, term, some, ltb-true 0 (count_of set y q) user))

pub all_beside : (set : SetDef) (y q : ℕ) → y < length set.tasks → is_user set q y ≡ true
    → made_beside set (λ x. longest_beside set x q) y ≡ made_beside set (λ x. longest_first set x q) y
all_beside set y q here user = sum_below-agree (length set.tasks) (λ x. only_if (is_beside set y x) (longest_beside set x q))
    (λ x. only_if (is_beside set y x) (longest_first set x q)) (λ x l. elim (cases_Bool (is_beside set y x)) [
      | inl there ↦ ap (only_if (is_beside set y x))
          (only_if-true (is_used_beside set x q) (longest_first set x q) (one_beside set x y q here user there))
      | inr elsewhere ↦ rw elsewhere refl
    ])

-- A task that may run instead of y has y beside it.
instead_beside : (set : SetDef) (i x y : ℕ) → may_run_instead set i y x ≡ true → is_beside set x y ≡ true
instead_beside set i x y may =
    let parts : (is_beside set y x ≡ true) × (not (x == i) ≡ true) = and_parts _ _ may in
    turned set x y parts.0

-- Where no task beside x uses q, none holds it.
none_held : (set : SetDef) (bounds : ℕ → ℕ) (i q w x : ℕ) → i < length set.tasks → is_used_beside set x q ≡ false
    → holdings_beside set bounds i q w x ≡ 0
none_held set bounds i q w x here unused =
    let none : made_beside set (λ y. count_of set y q) x ≡ 0 = omega (arith, ltb-false 0 (made_beside set (λ y. count_of set y q) x) unused) in
    sum_below-zero i (λ y. only_if (may_run_instead set i y x) (requests_during set bounds w y q)) (λ y l. elim (cases_Bool (may_run_instead set i y x)) [
      | inl may ↦
          let zero : only_if (is_beside set x y) (count_of set y q) ≡ 0 =
          sum_below-no_term (length set.tasks) (λ z. only_if (is_beside set x z) (count_of set z q)) none y (omega (arith, l, here)) in
          let count : count_of set y q ≡ 0 = sym (only_if-true (is_beside set x y) (count_of set y q) (instead_beside set i x y may)) ∙ zero in
          let nothing : 0 * jobs_during set bounds w y ≡ 0 = omega arith in
          only_if-true (may_run_instead set i y x) (requests_during set bounds w y q) may
          ∙ (ap (λ n. n * jobs_during set bounds w y) count ∙ nothing)
      | inr not_now ↦ only_if-false (may_run_instead set i y x) (requests_during set bounds w y q) not_now
    ])

-- So x runs for no ticks instead if it has no request that goes first then.
pub none_instead : (set : SetDef) (bounds : ℕ → ℕ) (i q w x : ℕ) → i < length set.tasks → longest_beside set x q ≡ 0
    → ticks_instead set bounds i q w x ≡ 0
none_instead set bounds i q w x here none = elim (cases_Bool (is_used_beside set x q)) [
  | inl used ↦
      let longest : longest_first set x q ≡ 0 = sym (only_if-true (is_used_beside set x q) (longest_first set x q) used) ∙ none in
      let nothing : holdings_beside set bounds i q w x * 0 ≡ 0 = omega arith in
      let product : holdings_beside set bounds i q w x * longest_first set x q ≡ 0 = ap (λ n. holdings_beside set bounds i q w x * n) longest ∙ nothing in
      omega (arith, product)
  | inr unused ↦
      let nothing : 0 * longest_first set x q ≡ 0 = omega arith in
      let product : holdings_beside set bounds i q w x * longest_first set x q ≡ 0 = ap (λ n. n * longest_first set x q) (none_held set bounds i q w x here unused) ∙ nothing in
      omega (arith, product)
]

-- If it has one, q is used beside it.
pub some_used : (set : SetDef) (x q : ℕ) → (longest_beside set x q ≡ 0 → ⊥) → is_used_beside set x q ≡ true
some_used set x q some = elim (cases_Bool (is_used_beside set x q)) [
  | inl used ↦ used
  | inr unused ↦ absurd (some (only_if-false (is_used_beside set x q) (longest_first set x q) unused))
]
