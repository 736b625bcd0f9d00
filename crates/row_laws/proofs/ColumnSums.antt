-- Sums over the columns of a program, as sums over ticks. Each tick is charged in at most one column.
use Rattle.std.proofs.Common.{◌≡◌, ℕ, zero, suc, ◌+◌, ◌*◌, ◌<◌, ◌≤◌, ◌==◌, ◌&&◌, Bool, true, false, List, [], ◌∷◌}
use Rattle.std.proofs.Common.{length, get_or, refl, sym, ap, ◌∙◌, arith, inl, inr, Option, Some, None, cond, sum_by}
use Rattle.std.specs.List.{filter, Contains}
use Rattle.std.specs.Option.{option_map_or}
use Rattle.std.proofs.lemmas.Bool.{cases_Bool, eqb-true, eq-eqb, and_from}
use Rattle.std.proofs.lemmas.List.Sums.{sum_by-cons, sum_by-append}
use Rattle.number_laws.specs.Sums.{sum_below, flag, only_if, collect_below}
use Rattle.number_laws.specs.Tests.{count_below}
use Rattle.number_laws.proofs.SumLaws.{sum_below-agree, sum_below-plus, sum_below-monotone, sum_below-zero}
use Rattle.number_laws.proofs.SumLaws.{sum_below-times_right, sum_below-list_by, sum_below-term}
use Rattle.number_laws.proofs.CountLaws.{flag-at_most}
use Rattle.blocking_columns.specs.declared.columns.Class.{Class}
use Rattle.blocking_columns.specs.declared.columns.Class.TheVariants.{Direct, Indirect, Preemption}
use Rattle.blocking_columns.specs.ColumnDef.{ColumnDef, classes_of, all_columns}
use Rattle.charge_laws.specs.Fractions.{is_same_class, is_same_column, is_in}
use Rattle.row_laws.specs.Meeting.{brought}
use Rattle.row_laws.proofs.Numbers.{sum_below-only}

-- The elements that a filter keeps sum to no more.
pub sum_by-kept : {X : Type 0} (p : X → Bool) (f : X → ℕ) → (xs : List X) → sum_by f (filter p xs) ≤ sum_by f xs
sum_by-kept p f [] = omega arith
sum_by-kept p f (x ∷ xs) = omega (arith, first (p x), sum_by-cons f x xs, sum_by-kept p f xs) where
  first : (b : Bool) → sum_by f (cond b (x ∷ filter p xs) (filter p xs)) ≤ f x + sum_by f (filter p xs)
  first true = omega (arith, sum_by-cons f x (filter p xs))
  first false = omega arith

-- The sum over lists that are collected is the sum of their sums.
pub sum_by-collected : {X : Type 0} (f : X → ℕ) (n : ℕ) (g : ℕ → List X)
    → sum_by f (collect_below n g) ≡ sum_below n (λ k. sum_by f (g k))
sum_by-collected f zero g = refl
sum_by-collected f (suc n) g = sum_by-append f (collect_below n g) (g n) ∙ ap (λ z. z + sum_by f (g n)) (sum_by-collected f n g)

-- A sum over a list of sums below a bound may be exchanged.
pub sum_by-swap : {X : Type 0} (e : ℕ) (h : X → ℕ → ℕ) (xs : List X)
    → sum_by (λ x. sum_below e (h x)) xs ≡ sum_below e (λ t. sum_by (λ x. h x t) xs)
sum_by-swap e h [] = sym (sum_below-zero e (λ t. 0) (λ k l. refl))
sum_by-swap e h (x ∷ xs) =
    sum_by-cons (λ y. sum_below e (h y)) x xs ∙ ap (λ z. sum_below e (h x) + z) (sum_by-swap e h xs)
    ∙ sym (sum_below-plus e (h x) (λ t. sum_by (λ y. h y t) xs))
    ∙ sum_below-agree e (λ t. h x t + sum_by (λ y. h y t) xs) (λ t. sum_by (λ y. h y t) (x ∷ xs))
    (λ t l. sym (sum_by-cons (λ y. h y t) x xs))

-- Functions that agree have one sum over a list.
pub sum_by-agree : {X : Type 0} (f g : X → ℕ) → ((x : X) → f x ≡ g x) → (xs : List X) → sum_by f xs ≡ sum_by g xs
sum_by-agree f g h [] = refl
sum_by-agree f g h (x ∷ xs) = omega (arith, sum_by-cons f x xs, sum_by-cons g x xs, h x, sum_by-agree f g h xs)

-- The value of an element is at most the sum.
pub sum_by-element : {X : Type 0} (f : X → ℕ) (xs : List X) (x : X) → Contains xs x → f x ≤ sum_by f xs
sum_by-element f xs x (k, l, e) = let same : f (get_or xs k x) ≡ f x = ap f e in
    omega (arith, same, sum_below-list_by f x xs, sum_below-term (length xs) (λ i. f (get_or xs i x)) k l)

pub same_class_is : (a b : Class) → is_same_class a b ≡ true → a ≡ b
same_class_is Direct Direct h = refl
same_class_is Indirect Indirect h = refl
same_class_is Preemption Preemption h = refl
same_class_is Direct Indirect h = absurd (cc)
same_class_is Direct Preemption h = absurd (cc)
same_class_is Indirect Direct h = absurd (cc)
same_class_is Indirect Preemption h = absurd (cc)
same_class_is Preemption Direct h = absurd (cc)
same_class_is Preemption Indirect h = absurd (cc)

pub same_class_itself : (a : Class) → is_same_class a a ≡ true
same_class_itself Direct = refl
same_class_itself Indirect = refl
same_class_itself Preemption = refl

pub same_column_itself : (c : ColumnDef) → is_same_column c c ≡ true
same_column_itself c =
    and_from _ _ (eq-eqb c.task c.task refl) (and_from _ _ (eq-eqb c.resource c.resource refl) (same_class_itself c.class))

-- At most one of the three classes of a task and a resource is the column's.
one_class : (f : Class → ℕ) (b : Bool) (d : Class)
    → flag (b && is_same_class Direct d) * f Direct +
    (flag (b && is_same_class Indirect d) * f Indirect + flag (b && is_same_class Preemption d) * f Preemption) ≤ only_if b (f d)
one_class f false d = omega arith
one_class f true Direct = omega arith
one_class f true Indirect = omega arith
one_class f true Preemption = omega arith

classes_sum : (f : ColumnDef → ℕ) (d : ColumnDef) (x q : ℕ)
    → sum_by (λ c. flag (is_same_column c d) * f c) (classes_of x q) ≤ only_if (x == d.task) (only_if (q == d.resource) (f d))
classes_sum f d x q = elim (cases_Bool (x == d.task)) [
  | inr off ↦ rw off (omega arith)
  | inl on ↦ elim (cases_Bool (q == d.resource)) [
    | inr other ↦ rw (on, other) (omega arith)
    | inl same ↦
        let task : x ≡ d.task = eqb-true _ _ on in
        let resource : q ≡ d.resource = eqb-true _ _ same in
        let whole : f (record { task = x; resource = q; class = d.class }) ≡ f d =
        ap (λ z. f (record { task = z; resource = q; class = d.class })) task
        ∙ ap (λ z. f (record { task = d.task; resource = z; class = d.class })) resource in
        rw (on, same) (omega (arith, whole, one_class (λ k. f (record { task = x; resource = q; class = k })) true d.class))
  ]
]

-- So it is for all columns.
pub all_sum : (f : ColumnDef → ℕ) (d : ColumnDef) (n m : ℕ) → sum_by (λ c. flag (is_same_column c d) * f c) (all_columns n m) ≤ f d
all_sum f d n m =
    let tasks : sum_by h (all_columns n m) ≡ sum_below n (λ x. sum_by h (collect_below m (λ q. classes_of x q))) =
    sum_by-collected h n (λ x. collect_below m (λ q. classes_of x q)) in
    let each : sum_below n (λ x. sum_by h (collect_below m (λ q. classes_of x q))) ≤ sum_below n (λ x. only_if (x == d.task) (f d)) =
    sum_below-monotone n (λ x. sum_by h (collect_below m (λ q. classes_of x q))) (λ x. only_if (x == d.task) (f d)) (λ x l. of_task x) in
    omega (arith, tasks, each, sum_below-only n d.task (λ x. f d)) where
      h : ColumnDef → ℕ
      h = λ c. flag (is_same_column c d) * f c

      swapped : (a b : Bool) (k : ℕ) → only_if a (only_if b k) ≡ only_if b (only_if a k)
      swapped true b k = refl
      swapped false true k = refl
      swapped false false k = refl

      of_task : (x : ℕ) → sum_by h (collect_below m (λ q. classes_of x q)) ≤ only_if (x == d.task) (f d)
      of_task x =
          let resources : sum_by h (collect_below m (λ q. classes_of x q)) ≡ sum_below m (λ q. sum_by h (classes_of x q)) =
          sum_by-collected h m (λ q. classes_of x q) in
          let each : sum_below m (λ q. sum_by h (classes_of x q))
          ≤ sum_below m (λ q. only_if (q == d.resource) (only_if (x == d.task) (f d))) =
          sum_below-monotone m (λ q. sum_by h (classes_of x q)) (λ q. only_if (q == d.resource) (only_if (x == d.task) (f d)))
          (λ q l. omega (arith, classes_sum f d x q, swapped (x == d.task) (q == d.resource) (f d))) in
          omega (arith, resources, each, sum_below-only m d.resource (λ q. only_if (x == d.task) (f d)))

-- What the columns of a program are worth, each by the ticks charged in it, is at most what the ticks contribute.
pub columns_bring : (f : ColumnDef → ℕ) (named : ℕ → Option ColumnDef) (e n m : ℕ) (p : ColumnDef → Bool)
    → sum_by (λ c. count_below e (λ t. is_in c (named t)) * f c) (filter p (all_columns n m)) ≤ sum_below e (λ t. brought f (named t))
columns_bring f named e n m p =
    let cs : List ColumnDef = filter p (all_columns n m) in
    let times : sum_by (λ c. count_below e (λ t. is_in c (named t)) * f c) cs
    ≡ sum_by (λ c. sum_below e (λ t. flag (is_in c (named t)) * f c)) cs =
    sum_by-agree (λ c. count_below e (λ t. is_in c (named t)) * f c) (λ c. sum_below e (λ t. flag (is_in c (named t)) * f c))
    (λ c. sym (sum_below-times_right e (f c) (λ t. flag (is_in c (named t))))) cs in
    let swap : sum_by (λ c. sum_below e (λ t. flag (is_in c (named t)) * f c)) cs
    ≡ sum_below e (λ t. sum_by (λ c. flag (is_in c (named t)) * f c) cs) = sum_by-swap e (λ c t. flag (is_in c (named t)) * f c) cs in
    let each : sum_below e (λ t. sum_by (λ c. flag (is_in c (named t)) * f c) cs) ≤ sum_below e (λ t. brought f (named t)) =
    sum_below-monotone e (λ t. sum_by (λ c. flag (is_in c (named t)) * f c) cs) (λ t. brought f (named t)) (λ t l. at_tick (named t)) in
    omega (arith, times, swap, each) where
      nothing : (xs : List ColumnDef) → sum_by (λ c. 0 * f c) xs ≡ 0
      nothing [] = refl
      nothing (x ∷ xs) = omega (arith, sum_by-cons (λ c. 0 * f c) x xs, nothing xs)

      at_tick : (o : Option ColumnDef) → sum_by (λ c. flag (is_in c o) * f c) (filter p (all_columns n m)) ≤ brought f o
      at_tick None = omega (arith, nothing (filter p (all_columns n m)))
      at_tick (Some d) = omega (arith, sum_by-kept p (λ c. flag (is_same_column c d) * f c) (all_columns n m), all_sum f d n m)

-- If each tick that counts is charged in one of the columns, there are no more such ticks than the columns have.
pub columns_hold : (named : ℕ → Option ColumnDef) (counts : ℕ → Bool) (e : ℕ) (cs : List ColumnDef)
    → ((t : ℕ) → t < e → counts t ≡ true → (d : ColumnDef) × (named t ≡ Some d) × Contains cs d)
    → count_below e counts ≤ sum_by (λ c. count_below e (λ t. is_in c (named t))) cs
columns_hold named counts e cs placed =
    let swap : sum_by (λ c. count_below e (λ t. is_in c (named t))) cs ≡ sum_below e (λ t. sum_by (λ c. flag (is_in c (named t))) cs) =
    sum_by-swap e (λ c t. flag (is_in c (named t))) cs in
    let each : sum_below e (λ t. flag (counts t)) ≤ sum_below e (λ t. sum_by (λ c. flag (is_in c (named t))) cs) =
    sum_below-monotone e (λ t. flag (counts t)) (λ t. sum_by (λ c. flag (is_in c (named t))) cs) (λ t l. at_tick t l) in
    omega (arith, swap, each) where
      at_tick : (t : ℕ) → t < e → flag (counts t) ≤ sum_by (λ c. flag (is_in c (named t))) cs
      at_tick t l = elim (cases_Bool (counts t)) [
        | inr off ↦ rw off (omega arith)
        | inl on ↦
            let a : (d : ColumnDef) × (named t ≡ Some d) × Contains cs d = placed t l on in
            let here : is_in a.0 (named t) ≡ true = ap (λ o. option_map_or (is_same_column a.0) o false) a.1 ∙ same_column_itself a.0 in
            let one : flag (is_in a.0 (named t)) ≡ 1 = rw here refl in
            omega (arith, one, flag-at_most (counts t), sum_by-element (λ c. flag (is_in c (named t))) cs a.0 a.2)
      ]
