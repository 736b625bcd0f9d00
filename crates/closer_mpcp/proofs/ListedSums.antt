-- Sums over the users of a resource and over the resources of a task, which are lists.
use Rattle.std.proofs.Common.{◌≡◌, ℕ, suc, ◌+◌, ◌-◌, ◌*◌, ◌<◌, ◌≤◌, ◌&&◌, Bool, true, false, nat_lt, List, [], length, map, drop}
use Rattle.std.proofs.Common.{refl, sym, ap, subst, ◌∙◌, arith}
use Rattle.std.specs.Prelude.{slice_index, slice_index_or}
use Rattle.std.specs.List.{sum_by}
use Rattle.std.proofs.Math.Bool.{and-true}
use Rattle.std.proofs.Math.Numerals.{add-one}
use Rattle.std.proofs.Math.Seq.{drop-cons}
use Rattle.std.proofs.lemmas.Bool.{lt-ltb, le-ltb, ltb-false}
use Rattle.std.proofs.lemmas.List.{drop_all, get_or-map, length-map}
use Rattle.std.proofs.lemmas.List.Sums.{sum_by-cons}
use Rattle.number_laws.specs.Sums.{sum_below, only_if}
use Rattle.number_laws.proofs.SumLaws.{sum_below-agree, sum_below-split, sum_below-zero}
use Rattle.number_laws.proofs.OnlyIfLaws.{only_if-nothing}
use Rattle.sporadic_model.specs.SetDef.{SetDef}
use Rattle.sporadic_model.specs.Users.{count_of, length_of, is_user, users_of, used_by}
use Rattle.sporadic_model.specs.declared.ids.TaskId.{TaskId}
use Rattle.sporadic_model.specs.declared.ids.ResourceId.{ResourceId}
use Rattle.blocking_columns.specs.Windows.{jobs_during}
use Rattle.blocking_columns.proofs.KeptNumbers.{sum_of_kept, sum_where_kept, kept_few}
use Rattle.mpcp_window_laws.specs.MpcpWindows.{own_ticks}

-- Terms of tasks from i on are none.
sum_of_higher : (i n : ℕ) (at : ℕ → Bool) (f : ℕ → ℕ) → i ≤ n
    → sum_below n (λ y. only_if (nat_lt y i && at y) (f y)) ≡ sum_below i (λ y. only_if (at y) (f y))
sum_of_higher i n at f within =
    let g : ℕ → ℕ = λ y. only_if (nat_lt y i && at y) (f y) in
    let whole : n ≡ i + (n - i) = omega (arith, within) in
    let rest : sum_below (n - i) (λ k. g (i + k)) ≡ 0 =
    sum_below-zero (n - i) (λ k. g (i + k)) (λ k l. rw (le-ltb (i + k) i (omega arith)) refl) in
    let first : sum_below i g ≡ sum_below i (λ y. only_if (at y) (f y)) =
    sum_below-agree i g (λ y. only_if (at y) (f y)) (λ y l. rw (lt-ltb y i l) refl) in
    ap (λ m. sum_below m g) whole ∙ (sum_below-split i (n - i) g ∙ omega (arith, rest, first))

-- Two tests are asked one after the other.
pub both_asked : (a b : Bool) (n : ℕ) → only_if b (only_if a n) ≡ only_if (a && b) n
both_asked true b n = refl
both_asked false true n = refl
both_asked false false n = refl

-- Sums over what each task makes by itself, where it makes something only if it is higher than i.
pub sum_of_own : (n i : ℕ) (at : ℕ → Bool) (f own : ℕ → ℕ) → i ≤ n → ((y : ℕ) → y < n → own y ≡ only_if (nat_lt y i) (f y))
    → sum_below n (λ y. only_if (at y) (own y)) ≡ sum_below i (λ y. only_if (at y) (f y))
sum_of_own n i at f own within each = sum_below-agree n (λ y. only_if (at y) (own y)) (λ y. only_if (nat_lt y i && at y) (f y))
    (λ y l. ap (only_if (at y)) (each y l) ∙ both_asked (nat_lt y i) (at y) (f y))
    ∙ sum_of_higher i n at f within

-- What those of the listed tasks make that are higher than i and pass.
abbrev pub made_by : ℕ → (ℕ → Bool) → (ℕ → ℕ) → List TaskId → ℕ
made_by i at f ys = sum_by (λ (y : TaskId). only_if (nat_lt y.0 i && at y.0) (f y.0)) ys

-- If no other task makes anything, the users of r make what all higher tasks make that pass.
higher_users : (set : SetDef) (i r : ℕ) (at : ℕ → Bool) (f : ℕ → ℕ) (ys : List TaskId)
    → map (λ (y : TaskId). y.0) ys ≡ users_of set r → i ≤ length set.tasks → ((y : ℕ) → is_user set r y ≡ false → f y ≡ 0)
    → made_by i at f ys ≡ sum_below i (λ y. only_if (at y) (f y))
higher_users set i r at f ys same here none =
    sum_where_kept (λ (y : TaskId). y.0) ys (is_user set r) (λ y. only_if (nat_lt y i && at y) (f y)) (length set.tasks) same
    (λ y unused. ap (only_if (nat_lt y i && at y)) (none y unused) ∙ only_if-nothing (nat_lt y i && at y))
    ∙ sum_of_higher i (length set.tasks) at f here

-- So much is the total behind the last of them.
pub all_users : (set : SetDef) (i r : ℕ) (at : ℕ → Bool) (f : ℕ → ℕ) (ys : List TaskId) (k total : ℕ)
    → map (λ (y : TaskId). y.0) ys ≡ users_of set r → i ≤ length set.tasks → ((y : ℕ) → is_user set r y ≡ false → f y ≡ 0)
    → length ys ≤ k → total + made_by i at f (drop k ys) ≡ made_by i at f ys → total ≡ sum_below i (λ y. only_if (at y) (f y))
all_users set i r at f ys k total same here none past sums =
    let whole : total + made_by i at f [] ≡ made_by i at f ys = rw (drop_all k ys past) at sums in
    omega (arith, whole, higher_users set i r at f ys same here none)

-- The same where all higher ones pass.
pub all_higher_users : (set : SetDef) (i r : ℕ) (f : ℕ → ℕ) (ys : List TaskId) (k total : ℕ)
    → map (λ (y : TaskId). y.0) ys ≡ users_of set r → i ≤ length set.tasks → ((y : ℕ) → is_user set r y ≡ false → f y ≡ 0)
    → length ys ≤ k → total + sum_by (λ (y : TaskId). only_if (nat_lt y.0 i) (f y.0)) (drop k ys)
    ≡ sum_by (λ (y : TaskId). only_if (nat_lt y.0 i) (f y.0)) ys → total ≡ sum_below i f
all_higher_users set i r f ys k total same here none past sums =
    all_users set i r (λ y. true) f ys k total same here none past (subst (λ (t : ℕ → Bool).
    total + sum_by (λ (y : TaskId). only_if (t y.0) (f y.0)) (drop k ys) ≡ sum_by (λ (y : TaskId). only_if (t y.0) (f y.0)) ys)
    (λ j. λ y. sym (and-true (nat_lt y i)) j) sums)

pub none_own : (set : SetDef) (bounds : ℕ → ℕ) (q w y : ℕ) → is_user set q y ≡ false → own_ticks set bounds q w y ≡ 0
none_own set bounds q w y unused =
    let none : count_of set y q ≡ 0 = omega (arith, ltb-false 0 (count_of set y q) unused) in
    let nothing : jobs_during set bounds w y * (0 * length_of set y q) ≡ 0 = omega arith in
    ap (λ n. jobs_during set bounds w y * (n * length_of set y q)) none ∙ nothing

pub users_few : (set : SetDef) (r : ℕ) (ys : List TaskId) → map (λ (y : TaskId). y.0) ys ≡ users_of set r → length ys ≤ length set.tasks
users_few set r ys same = kept_few (λ (y : TaskId). y.0) ys (is_user set r) (length set.tasks) same

both : (a b : Bool) (n : ℕ) → only_if a (only_if b n) ≡ only_if (a && b) n
both true b n = refl
both false b n = refl

-- A sum over the resources of a task is one over all resources that it uses.
pub used_sum : (set : SetDef) (i : ℕ) (test : ℕ → Bool) (f : ℕ → ℕ) (rs : List ResourceId) → map (λ (r : ResourceId). r.0) rs ≡ used_by set i
    → sum_by (λ (r : ResourceId). only_if (test r.0) (f r.0)) rs
    ≡ sum_below (length set.resources) (λ r. only_if (is_user set r i && test r) (f r))
used_sum set i test f rs same =
    sum_of_kept (λ (r : ResourceId). r.0) rs (λ r. is_user set r i) (λ r. only_if (test r) (f r)) (length set.resources) same
    ∙ sum_below-agree (length set.resources) (λ r. only_if (is_user set r i) (only_if (test r) (f r)))
    (λ r. only_if (is_user set r i && test r) (f r)) (λ r l. both (is_user set r i) (test r) (f r))

pub used_few : (set : SetDef) (i : ℕ) (rs : List ResourceId) → map (λ (r : ResourceId). r.0) rs ≡ used_by set i → length rs ≤ length set.resources
used_few set i rs same = kept_few (λ (r : ResourceId). r.0) rs (λ r. is_user set r i) (length set.resources) same

-- There are as many as resources that the task uses.
pub long_as : (set : SetDef) (i : ℕ) (rs : List ResourceId) → map (λ (r : ResourceId). r.0) rs ≡ used_by set i
    → length rs ≡ length (used_by set i)
long_as set i rs same = sym (length-map rs (λ (r : ResourceId). r.0)) ∙ ap length same

-- The k-th number of a list is that of its k-th resource.
pub number_of : (set : SetDef) (i : ℕ) (rs : List ResourceId) (k : ℕ) (d : ResourceId) → map (λ (r : ResourceId). r.0) rs ≡ used_by set i
    → k < length rs → slice_index (used_by set i) k ≡ (slice_index_or rs k d).0
number_of set i rs k d same l = ap (λ (ns : List ℕ). slice_index ns k) (sym same) ∙ get_or-map (λ (r : ResourceId). r.0) rs k d 0 l

-- What is summed grows by the k-th term.
pub one_term_more : {A : Type 0} (f : A → ℕ) (xs : List A) (d : A) (k n total whole : ℕ) → k < length xs
    → total + sum_by f (drop k xs) ≡ whole → n ≡ f (slice_index_or xs k d) → (total + n) + sum_by f (drop (k + 1) xs) ≡ whole
one_term_more f xs d k n total whole l sums term =
    let rest : sum_by f (drop (k + 1) xs) ≡ sum_by f (drop (suc k) xs) = ap (λ m. sum_by f (drop m xs)) (add-one k) in
    let step : sum_by f (drop k xs) ≡ f (slice_index_or xs k d) + sum_by f (drop (suc k) xs) =
    ap (sum_by f) (drop-cons xs k d l) ∙ sum_by-cons f (slice_index_or xs k d) (drop (suc k) xs) in
    omega (arith, rest, step, sums, term)
