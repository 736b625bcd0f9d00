-- What lower tasks hold, by processor: all of it, and what one task holds there alone.
use Rattle.std.proofs.Common.{◌≡◌, ℕ, zero, suc, ◌+◌, ◌<◌, ◌≤◌, ◌==◌, ◌&&◌, Bool, true, false, nat_lt, List, length, map}
use Rattle.std.proofs.Common.{refl, ap, ◌∙◌, arith, inl, inr}
use Rattle.std.specs.Prelude.{slice_index}
use Rattle.std.specs.List.{sum_by}
use Rattle.std.proofs.lemmas.Bool.{cases_Bool, lt-ltb, ltb-false, ne_eqb}
use Rattle.number_laws.specs.Sums.{only_if, flag, sum_below}
use Rattle.number_laws.proofs.SumLaws.{sum_below-agree, sum_below-plus, sum_below-no_term, sum_below-zero, only_if-true, only_if-at_most}
use Rattle.number_laws.proofs.OnlyIfLaws.{only_if-nothing}
use Rattle.sporadic_model.specs.SetDef.{SetDef, task_at}
use Rattle.sporadic_model.specs.Users.{is_user, count_of, users_of}
use Rattle.sporadic_model.specs.declared.ids.TaskId.{TaskId}
use Rattle.indirect_constraints.specs.Rows.{lower_holdings, holdings}
use Rattle.indirect_constraints.specs.Tables.{AreSums, AreRaised, AreAwaited, HaveRoomAfter}
use Rattle.indirect_constraints.specs.Tables.{awaited, held_on, held_alone, all_held_on, all_held_alone, lower_user, over_used, sum_on}
use Rattle.indirect_constraints.proofs.Beside.{sum_beside, beside_and_own, beside_same, lower_there}
use Rattle.indirect_constraints.proofs.ByTask.{only_if_plus, holdings_parts}
use Rattle.indirect_constraints.proofs.ByUser.{kept_at}

-- What user y holds alone.
abbrev pub alone_there : SetDef → ℕ → ℕ → ℕ → ℕ
alone_there set i q y = only_if (nat_lt i y)
    (only_if (sum_on set (lower_user set i q) (length set.tasks) (task_at set y).processor == 1) (count_of set i q))

pub users_alone : (set : SetDef) (i q k : ℕ) (ys : List TaskId) → map (λ (y : TaskId). y.0) ys ≡ users_of set q → k < length set.tasks
    → sum_by (λ (y : TaskId). only_if (y.0 == k) (alone_there set i q y.0)) ys ≡ held_alone set i k q
users_alone set i q k ys same l =
    kept_at (λ (y : TaskId). y.0) ys (is_user set q) (alone_there set i q) (length set.tasks) k same l

-- None holds more than is requested.
pub on_few : (set : SetDef) (i q k : ℕ) → held_on set i k q ≤ count_of set i q
on_few set i q k = only_if-at_most (nat_lt 0 (sum_on set (lower_user set i q) (length set.tasks) k)) (count_of set i q)

pub alone_few : (set : SetDef) (i q x : ℕ) → held_alone set i x q ≤ count_of set i q
alone_few set i q x =
    let one = sum_on set (lower_user set i q) (length set.tasks) (task_at set x).processor == 1 in
    let count = count_of set i q in
    omega (
      arith,
      only_if-at_most (is_user set q x) (only_if (nat_lt i x) (only_if one count)),
      only_if-at_most (nat_lt i x) (only_if one count),
      only_if-at_most one count,
    )

-- Where no lower task uses the resource, none of it is held.
nobody_on : (set : SetDef) (i q k : ℕ) → sum_below (length set.tasks) (lower_user set i q) ≡ 0
    → sum_on set (lower_user set i q) (length set.tasks) k ≡ 0
nobody_on set i q k none =
    let n = length set.tasks in
    sum_below-zero n (λ y. only_if ((task_at set y).processor == k) (lower_user set i q y))
    (λ y l. rw (sum_below-no_term n (lower_user set i q) none y l) (only_if-nothing ((task_at set y).processor == k)))

pub none_alone : (set : SetDef) (i q x : ℕ) → sum_below (length set.tasks) (lower_user set i q) ≡ 0 → held_alone set i x q ≡ 0
none_alone set i q x none =
    ap (λ (s : ℕ). only_if (is_user set q x) (only_if (nat_lt i x) (only_if (s == 1) (count_of set i q))))
    (nobody_on set i q (task_at set x).processor none)
    ∙ (ap (only_if (is_user set q x)) (only_if-nothing (nat_lt i x)) ∙ only_if-nothing (is_user set q x))

-- If some task uses it, it is the own one alone, or another one beside it.
alone_or_beside : (own : Bool) (beside all count : ℕ) → all ≡ beside + flag own
    → only_if (nat_lt 0 all) count ≡ only_if own (only_if (all == 1) count) + only_if (nat_lt 0 beside) count
alone_or_beside true zero all count same = rw same (omega arith)
alone_or_beside true (suc beside) all count same =
    rw (lt-ltb 0 all (omega (arith, same)), ne_eqb all 1 (omega (arith, same)), lt-ltb 0 (suc beside) (omega arith)) (omega arith)
alone_or_beside false beside all count same = let alike : all ≡ beside = omega (arith, same) in rw alike (omega arith)

lower_and_user : (lower user : Bool) (n : ℕ) → only_if user (only_if lower n) ≡ only_if (lower && user) n
lower_and_user true true n = refl
lower_and_user true false n = refl
lower_and_user false true n = refl
lower_and_user false false n = refl

held_parts : (set : SetDef) (i q x : ℕ) → x < length set.tasks
    → held_on set i (task_at set x).processor q ≡ held_alone set i x q + lower_holdings set i x q
held_parts set i q x l =
    let n = length set.tasks in
    let f : ℕ → ℕ = lower_user set i q in
    let all : ℕ = sum_on set f n (task_at set x).processor in
    let count : ℕ = count_of set i q in
    let own : only_if (nat_lt x n) (f x) ≡ f x = only_if-true (nat_lt x n) (f x) (lt-ltb x n l) in
    let left : all ≡ sum_beside set f n x + f x = beside_and_own set x n f ∙ ap (λ (s : ℕ). sum_beside set f n x + s) own in
    omega (
      arith,
      alone_or_beside (nat_lt i x && is_user set q x) (sum_beside set f n x) all count left,
      lower_and_user (nat_lt i x) (is_user set q x) (only_if (all == 1) count),
      lower_there set i x q,
    )

all_held_parts : (set : SetDef) (i x : ℕ) → x < length set.tasks
    → over_used set i (held_on set i (task_at set x).processor)
    ≡ over_used set i (held_alone set i x) + over_used set i (lower_holdings set i x)
all_held_parts set i x l =
    let m = length set.resources in
    let all : ℕ → ℕ = held_on set i (task_at set x).processor in
    let alone : ℕ → ℕ = held_alone set i x in
    let beside : ℕ → ℕ = lower_holdings set i x in
    sum_below-agree m (λ q. only_if (is_user set q i) (all q))
    (λ q. only_if (is_user set q i) (alone q) + only_if (is_user set q i) (beside q))
    (λ q h. ap (only_if (is_user set q i)) (held_parts set i q x l) ∙ only_if_plus (is_user set q i) (alone q) (beside q))
    ∙ sum_below-plus m (λ q. only_if (is_user set q i) (alone q)) (λ q. only_if (is_user set q i) (beside q))

-- A processor's total is the holdings beside one of its tasks, and the task's own number.
total_parts : (set : SetDef) (bounds : ℕ → ℕ) (i x : ℕ) (numbers : ℕ → ℕ) → x < length set.tasks
    → ((y : ℕ) → y < i → numbers y ≡ awaited set bounds i (length set.resources) y)
    → ((y : ℕ) → i ≤ y → y < length set.tasks → numbers y ≡ 0)
    → sum_on set numbers i (task_at set x).processor + over_used set i (held_on set i (task_at set x).processor)
    ≡ holdings set bounds i x + (numbers x + over_used set i (held_alone set i x))
total_parts set bounds i x numbers l each others =
    let own : only_if (nat_lt x i) (numbers x) ≡ numbers x = elim (cases_Bool (nat_lt x i)) [
      | inl higher ↦ only_if-true (nat_lt x i) (numbers x) higher
      | inr other ↦ rw (others x (ltb-false x i other) l) (only_if-nothing (nat_lt x i))
    ] in
    omega (
      arith,
      own,
      beside_and_own set x i numbers,
      beside_same set numbers (awaited set bounds i (length set.resources)) i i x refl each,
      all_held_parts set i x l,
      holdings_parts set bounds i x,
    )

-- The same, of tables.
pub own_in_total : (set : SetDef) (bounds : ℕ → ℕ) (i x : ℕ) (higher numbers sums totals : List ℕ) → x < length set.tasks
    → (task_at set x).processor ≤ set.processors → AreAwaited set bounds i higher → AreSums set (slice_index higher) i sums
    → AreRaised (set.processors + 1) (all_held_on set i) sums totals → AreRaised (length set.tasks) (all_held_alone set i) higher numbers
    → slice_index totals (task_at set x).processor ≡ holdings set bounds i x + slice_index numbers x
own_in_total set bounds i x higher numbers sums totals l there are sum on alone = omega (
  arith,
  total_parts set bounds i x (slice_index higher) l are.each are.others,
  sum.each (task_at set x).processor there,
  on.each (task_at set x).processor (omega (arith, there)),
  alone.each x l,
)

-- Where there is room after some requests, there is room after more.
pub room_stays : (set : SetDef) (m n : ℕ) (totals numbers : List ℕ) → m ≤ n → HaveRoomAfter set m totals numbers
    → HaveRoomAfter set n totals numbers
room_stays set m n totals numbers more room = record {
  on_processors = record {
    size = room.on_processors.size;
    each = λ k l. omega (arith, more, room.on_processors.each k l);
  };
  of_tasks = record {
    size = room.of_tasks.size;
    each = λ x l. omega (arith, more, room.of_tasks.each x l);
  };
}
