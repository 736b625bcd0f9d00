-- Holdings summed by processor, and those beside a task.
use Rattle.std.proofs.Common.{◌≡◌, ℕ, ◌+◌, ◌<◌, ◌≤◌, ◌==◌, ◌&&◌, Bool, not, true, false, nat_lt, List, length, drop}
use Rattle.std.proofs.Common.{refl, sym, ap, ◌∙◌, arith, inl, inr}
use Rattle.std.specs.Prelude.{slice_index, slice_index_or, slice_set}
use Rattle.std.proofs.Math.Bool.{and-true, and-false}
use Rattle.std.proofs.lemmas.Bool.{and_right, cases_eq, cases_lt, eq-eqb, ne_eqb, lt-ltb, le-ltb}
use Rattle.std.proofs.lemmas.List.{get_or-set_other}
use Rattle.std.proofs.lemmas.Grind.{get_or-set_at}
use Rattle.number_laws.specs.Sums.{sum_below, only_if}
use Rattle.number_laws.proofs.SumLaws.{sum_below-agree, sum_below-plus, sum_below-one, sum_below-zero, only_if-true, only_if-false}
use Rattle.sporadic_model.specs.SetDef.{SetDef, task_at}
use Rattle.sporadic_model.specs.declared.ids.TaskId.{TaskId}
use Rattle.blocking_columns.specs.Columns.{have_one_processor}
use Rattle.indirect_constraints.specs.Rows.{is_beside}
use Rattle.closer_mpcp_laws.specs.CloserMpcpRows.{is_away}
use Rattle.mpcp_window_laws.specs.MpcpWindows.{may_run_instead}
use Rattle.closer_mpcp.specs.Sums.{made_on, made_beside, made_away, AreSumsOf}
use Rattle.closer_mpcp.specs.declared.sums.Sums.{Sums}
use Rattle.closer_mpcp.proofs.ListedSums.{made_by, one_term_more, sum_of_own}

-- One listed task's holdings are added at its processor.
pub added : (i : ℕ) (p f : ℕ → ℕ) (ys : List TaskId) (d : TaskId) (j k at n total : ℕ) (holdings : List ℕ) → j < length ys
    → n ≡ only_if (nat_lt (slice_index_or ys j d).0 i) (f (slice_index_or ys j d).0) → at ≡ p (slice_index_or ys j d).0 → at < length holdings
    → slice_index holdings k + made_by i (λ y. p y == k) f (drop j ys) ≡ total
    → slice_index (slice_set holdings at (slice_index holdings at + n)) k + made_by i (λ y. p y == k) f (drop (j + 1) ys) ≡ total
added i p f ys d j k at n total holdings l made here within sums =
    let y : TaskId = slice_index_or ys j d in
    let g : TaskId → ℕ = λ y. only_if (nat_lt y.0 i && (p y.0 == k)) (f y.0) in
    let more : (slice_index holdings k + g y) + made_by i (λ y. p y == k) f (drop (j + 1) ys) ≡ total =
    one_term_more g ys d j (g y) (slice_index holdings k) total l sums refl in
    elim (cases_eq k at) [
      | inl same ↦
          let new : slice_index (slice_set holdings at (slice_index holdings at + n)) k ≡ slice_index holdings at + n =
          get_or-set_at holdings at k (slice_index holdings at + n) 0 same within in
          let old : slice_index holdings k ≡ slice_index holdings at = ap (slice_index holdings) same in
          let term : g y ≡ n = rw (eq-eqb (p y.0) k (sym here ∙ sym same), and-true (nat_lt y.0 i)) (sym made) in
          omega (arith, new, old, term, more)
      | inr other ↦
          let new : slice_index (slice_set holdings at (slice_index holdings at + n)) k ≡ slice_index holdings k =
          get_or-set_other holdings at k (slice_index holdings at + n) 0 other in
          let term : g y ≡ 0 = only_if-false (nat_lt y.0 i && (p y.0 == k)) (f y.0)
          (and_right (nat_lt y.0 i) (p y.0 == k) (ne_eqb (p y.0) k (λ e. other (sym e ∙ sym here)))) in
          omega (arith, new, term, more)
    ]

-- None of the sums grows by more than what is added.
pub added_most : (at k n most more : ℕ) (holdings : List ℕ) → at < length holdings
    → ((k : ℕ) → k < length holdings → slice_index holdings k ≤ most) → n ≤ more → k < length holdings
    → slice_index (slice_set holdings at (slice_index holdings at + n)) k ≤ most + more
added_most at k n most more holdings within each few l = elim (cases_eq k at) [
  | inl same ↦ omega (arith, get_or-set_at holdings at k (slice_index holdings at + n) 0 same within, each at within, few)
  | inr other ↦ omega (arith, get_or-set_other holdings at k (slice_index holdings at + n) 0 other, each k l, few)
]

-- On x's processor another task makes the one, and x itself the other.
beside_or_own : (set : SetDef) (x y m : ℕ)
    → only_if (is_beside set x y) m + only_if (y == x) m ≡ only_if ((task_at set y).processor == (task_at set x).processor) m
beside_or_own set x y m = elim (cases_eq y x) [
  | inl same ↦ rw (
    eq-eqb y x same,
    eq-eqb (task_at set y).processor (task_at set x).processor (ap (λ t. (task_at set t).processor) same),
  ) (omega arith)
  | inr apart ↦ rw (ne_eqb y x apart) (omega arith)
]

-- All tasks of x's processor make what the others do, and what x does.
pub all_on : (set : SetDef) (x : ℕ) (f : ℕ → ℕ) → x < length set.tasks → made_beside set f x + f x ≡ made_on set f (task_at set x).processor
all_on set x f here =
    let n = length set.tasks in
    let one : sum_below n (λ y. only_if (y == x) (f y)) ≡ f x =
    sum_below-one n (λ y. only_if (y == x) (f y)) x here (λ y l other. only_if-false (y == x) (f y) (ne_eqb y x other))
    ∙ only_if-true (x == x) (f x) (eq-eqb x x refl) in
    let parts : sum_below n (λ y. only_if (is_beside set x y) (f y) + only_if (y == x) (f y))
    ≡ sum_below n (λ y. only_if (is_beside set x y) (f y)) + sum_below n (λ y. only_if (y == x) (f y)) =
    sum_below-plus n (λ y. only_if (is_beside set x y) (f y)) (λ y. only_if (y == x) (f y)) in
    let all : sum_below n (λ y. only_if (is_beside set x y) (f y) + only_if (y == x) (f y)) ≡ made_on set f (task_at set x).processor =
    sum_below-agree n (λ y. only_if (is_beside set x y) (f y) + only_if (y == x) (f y))
    (λ y. only_if ((task_at set y).processor == (task_at set x).processor) (f y)) (λ y l. beside_or_own set x y (f y)) in
    omega (arith, one, parts, all)

either : (b : Bool) (n : ℕ) → only_if (not b) n + only_if b n ≡ n
either true n = omega arith
either false n = omega arith

-- All tasks make what those of other processors do, and those of x's processor.
pub all_away : (set : SetDef) (x : ℕ) (f : ℕ → ℕ)
    → made_away set f x + made_on set f (task_at set x).processor ≡ sum_below (length set.tasks) f
all_away set x f =
    let n = length set.tasks in
    let at : ℕ → Bool = λ y. (task_at set y).processor == (task_at set x).processor in
    sym (sum_below-plus n (λ y. only_if (not (at y)) (f y)) (λ y. only_if (at y) (f y)))
    ∙ sum_below-agree n (λ y. only_if (not (at y)) (f y) + only_if (at y) (f y)) f (λ y l. either (at y) (f y))

-- Where only tasks higher than i make something, these do.
pub higher_away : (set : SetDef) (i x : ℕ) (f : ℕ → ℕ) (s : Sums) → i < length set.tasks → AreSumsOf set i f s
    → made_away set (slice_index s.own) x ≡ sum_below i (λ y. only_if (is_away set x y) (f y))
higher_away set i x f s here sums =
    sum_of_own (length set.tasks) i (is_away set x) f (slice_index s.own) (omega (arith, here)) sums.each

pub higher_beside : (set : SetDef) (i x : ℕ) (f : ℕ → ℕ) (s : Sums) → i < length set.tasks → AreSumsOf set i f s
    → made_beside set (slice_index s.own) x ≡ sum_below i (λ y. only_if (is_beside set x y) (f y))
higher_beside set i x f s here sums =
    sum_of_own (length set.tasks) i (is_beside set x) f (slice_index s.own) (omega (arith, here)) sums.each

-- Another task on x's processor than x and i makes the one, and x itself the other.
split : (set : SetDef) (i x y m : ℕ) → (x ≡ i → ⊥)
    → only_if (may_run_instead set i y x) m + only_if (y == x) m ≡ only_if ((task_at set y).processor == (task_at set x).processor) m
split set i x y m other = elim (cases_eq x y) [
  | inl same ↦ rw (
    eq-eqb x y same,
    eq-eqb y x (sym same),
    eq-eqb (task_at set y).processor (task_at set x).processor (ap (λ t. (task_at set t).processor) (sym same)),
  ) (omega arith)
  | inr apart ↦ elim (cases_eq (task_at set x).processor (task_at set y).processor) [
    | inl there ↦ rw (
      ne_eqb x y apart,
      ne_eqb y x (λ e. apart (sym e)),
      ne_eqb x i other,
      eq-eqb (task_at set x).processor (task_at set y).processor there,
      eq-eqb (task_at set y).processor (task_at set x).processor (sym there),
    ) (omega arith)
    | inr away ↦ rw (
      ne_eqb x y apart,
      ne_eqb y x (λ e. apart (sym e)),
      ne_eqb (task_at set x).processor (task_at set y).processor away,
      ne_eqb (task_at set y).processor (task_at set x).processor (λ e. away (sym e)),
    ) refl
  ]
]

-- Of the tasks higher than i one may be x.
pub own_term : (i x : ℕ) (f : ℕ → ℕ) → sum_below i (λ y. only_if (y == x) (f y)) ≡ only_if (nat_lt x i) (f x)
own_term i x f = elim (cases_lt x i) [
  | inl higher ↦ sum_below-one i (λ y. only_if (y == x) (f y)) x higher (λ y l other. only_if-false (y == x) (f y) (ne_eqb y x other))
      ∙ (only_if-true (x == x) (f x) (eq-eqb x x refl) ∙ sym (only_if-true (nat_lt x i) (f x) (lt-ltb x i higher)))
  | inr lower ↦ sum_below-zero i (λ y. only_if (y == x) (f y))
      (λ y l. only_if-false (y == x) (f y) (ne_eqb y x (λ e. absurd (omega (arith, e, l, lower)))))
      ∙ sym (only_if-false (nat_lt x i) (f x) (le-ltb x i (omega (arith, lower))))
]

-- What higher tasks make on x's processor, x itself makes, or those that x may run instead of.
pub beside_and_own : (set : SetDef) (i x : ℕ) (f : ℕ → ℕ) → (x ≡ i → ⊥)
    → sum_below i (λ y. only_if (may_run_instead set i y x) (f y)) + only_if (nat_lt x i) (f x)
    ≡ sum_below i (λ y. only_if ((task_at set y).processor == (task_at set x).processor) (f y))
beside_and_own set i x f other =
    ap (λ m. sum_below i (λ y. only_if (may_run_instead set i y x) (f y)) + m) (sym (own_term i x f))
    ∙ (sym (sum_below-plus i (λ y. only_if (may_run_instead set i y x) (f y)) (λ y. only_if (y == x) (f y)))
    ∙ sum_below-agree i (λ y. only_if (may_run_instead set i y x) (f y) + only_if (y == x) (f y))
    (λ y. only_if ((task_at set y).processor == (task_at set x).processor) (f y)) (λ y l. split set i x y (f y) other))

-- The analysed task runs instead of none.
pub none_for_itself : (set : SetDef) (i : ℕ) (f : ℕ → ℕ) → sum_below i (λ y. only_if (may_run_instead set i y i) (f y)) ≡ 0
none_for_itself set i f = sum_below-zero i (λ y. only_if (may_run_instead set i y i) (f y))
    (λ y l. rw (eq-eqb i i refl) (only_if-false _ (f y) (and-false _)))

-- While i waits on another processor than y's, each other task there may run instead of y.
pub others_run : (set : SetDef) (i y : ℕ) (f : ℕ → ℕ) → have_one_processor set y i ≡ false
    → sum_below (length set.tasks) (λ x. only_if (may_run_instead set i y x) (f x)) ≡ made_beside set f y
others_run set i y f away = sum_below-agree (length set.tasks) (λ x. only_if (may_run_instead set i y x) (f x))
    (λ x. only_if (is_beside set y x) (f x)) (λ x l. elim (cases_eq x i) [
      | inl same ↦
          let apart : (task_at set x).processor == (task_at set y).processor ≡ false = ne_eqb (task_at set x).processor (task_at set y).processor (λ e.
          let one : have_one_processor set y i ≡ true = eq-eqb (task_at set y).processor (task_at set i).processor
          (sym e ∙ ap (λ t. (task_at set t).processor) same) in
          absurd (cc)) in
          rw (apart, and-false (not (x == y))) refl
      | inr other ↦ rw (ne_eqb x i other) (ap (λ b. only_if b (f x)) (and-true (is_beside set y x)))
    ])
