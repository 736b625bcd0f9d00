-- A task uses at most as many resources as it has request entries. So a program has at most three columns for each entry.
use Rattle.std.proofs.Common.{◌≡◌, ℕ, zero, suc, ◌*◌, ◌<◌, ◌≤◌, ◌||◌, Bool, true, false, nat_lt, List}
use Rattle.std.proofs.Common.{[], ◌∷◌, length, refl, sym, ◌∙◌, arith, inl, inr, cond, Option, Some}
use Rattle.std.specs.Prelude.{find}
use Rattle.std.specs.List.{All, filter}
use Rattle.std.specs.Option.{option_map_or}
use Rattle.std.specs.Str.{bytes_eq}
use Rattle.std.proofs.lemmas.Bool.{cases_lt, cases_Bool, both_ways}
use Rattle.std.proofs.lemmas.List.{length-append}
use Rattle.std.proofs.lemmas.List.Elements.{filter-append, All-nil, All-cons, All-head, All-tail}
use Rattle.std.proofs.lemmas.Slice.Eq.{bytes_eq-Decides}
use Rattle.number_laws.specs.Sums.{sum_below, flag, collect_below}
use Rattle.number_laws.specs.Tests.{count_below}
use Rattle.number_laws.proofs.SumLaws.{sum_below-monotone, sum_below-list_by, sum_below-times}
use Rattle.number_laws.proofs.CountLaws.{count_below-monotone, count_below-either, count_below-one, count_below-none}
use Rattle.sporadic_model.specs.SetDef.{SetDef, TaskDef, RequestDef, task_at, resource_at, no_task, request_count}
use Rattle.sporadic_model.specs.Users.{is_user}
use Rattle.sporadic_model.specs.Accepted.{IsAccepted, AreNamed}
use Rattle.sporadic_model.specs.declared.ids.Protocol.{Protocol}
use Rattle.sporadic_model.proofs.Laws.{sizes_of_accepted, names_of_accepted}
use Rattle.blocking_columns.specs.declared.columns.Class.TheVariants as class
use Rattle.blocking_columns.specs.ColumnDef.{ColumnDef, classes_of}
use Rattle.blocking_columns.specs.Columns.{is_column, columns_where, columns_of, AreRequests}
use Rattle.blocking_columns.proofs.KnownColumns.{columns_are_requests}
use Rattle.program_laws.proofs.Lists.{filter_shorter}

-- Is the entry one of a resource of this name?
abbrev names : RequestDef → List ℕ → Bool
names e name = bytes_eq e.resource name

-- Does one of the entries name it?
abbrev named : List RequestDef → List ℕ → Bool
named [] name = false
named (e ∷ es) name = names e name || named es name

step_named : (b rest : Bool) (e : RequestDef) (o : Option RequestDef) → nat_lt 0 (option_map_or (λ e. e.count) (cond b (Some e) o) 0) ≡ true
    → (nat_lt 0 (option_map_or (λ e. e.count) o 0) ≡ true → rest ≡ true) → (b || rest) ≡ true
step_named true rest e o h later = refl
step_named false rest e o h later = later h

-- A task that uses a resource has an entry that names it.
found_named : (es : List RequestDef) (name : List ℕ)
    → nat_lt 0 (option_map_or (λ e. e.count) (find (λ e. bytes_eq e.resource name) es) 0) ≡ true → named es name ≡ true
found_named [] name h = absurd cc
found_named (e ∷ es) name h = step_named (names e name) (named es name) e (find (λ e. bytes_eq e.resource name) es) h (found_named es name)

-- The entries name no more different names than there are entries.
named_few : (m : ℕ) (name : ℕ → List ℕ) → ((p q : ℕ) → p < m → q < m → name p ≡ name q → p ≡ q) → (es : List RequestDef)
    → count_below m (λ q. named es (name q)) ≤ length es
named_few m name apart [] = omega (arith, count_below-none m (λ q. false) (λ k l. refl))
named_few m name apart (e ∷ es) =
    let first : count_below m (λ q. names e (name q)) ≤ 1 = count_below-one m (λ q. names e (name q)) (λ p q a b here there.
    apart p q a b (sym ((bytes_eq-Decides e.resource (name p)).0 here) ∙ (bytes_eq-Decides e.resource (name q)).0 there)) in
    omega (arith, count_below-either m (λ q. names e (name q)) (λ q. named es (name q)), first, named_few m name apart es)

names_apart : (set : SetDef) → AreNamed set → (p q : ℕ) → p < length set.resources → q < length set.resources
    → (resource_at set p).name ≡ (resource_at set q).name → p ≡ q
names_apart set all p q a b same = elim (cases_lt p q) [
  | inl below ↦ absurd (all.resources_apart p q below b same)
  | inr rest ↦ elim (cases_lt q p) [
    | inl above ↦ absurd (all.resources_apart q p above a (sym same))
    | inr level ↦ omega arith
  ]
]

-- A task uses at most as many resources as it has entries.
pub used_few : (set : SetDef) (x : ℕ) → IsAccepted set
    → count_below (length set.resources) (λ q. is_user set q x) ≤ length (task_at set x).requests
used_few set x accepted =
    let entries : List RequestDef = (task_at set x).requests in
    let named_all = named_few (length set.resources) (λ q. (resource_at set q).name)
    (names_apart set (names_of_accepted set accepted)) entries in
    let used = count_below-monotone (length set.resources) (λ q. is_user set q x)
    (λ q. named entries (resource_at set q).name) (λ q l user. found_named entries (resource_at set q).name user) in
    omega (arith, named_all, used)

pub filtered_sum : {X : Type 0} (p : X → Bool) (n : ℕ) (f : ℕ → List X)
    → length (filter p (collect_below n f)) ≡ sum_below n (λ k. length (filter p (f k)))
filtered_sum p zero f = refl
filtered_sum p (suc n) f = rw (
  filter-append p (collect_below n f) (f n),
  length-append (filter p (collect_below n f)) (filter p (f n)),
  filtered_sum p n f,
) refl

filtered_none : {X : Type 0} (p : X → Bool) (xs : List X) → All (λ x. p x ≡ false) xs → length (filter p xs) ≡ 0
filtered_none p [] h = refl
filtered_none p (x ∷ xs) h = rw (All-head (λ x. p x ≡ false) x xs h) (filtered_none p xs (All-tail (λ x. p x ≡ false) x xs h))

column_apart : (test : ColumnDef → Bool) (set : SetDef) (x q : ℕ) → AreRequests test set → is_user set q x ≡ false → (c : ColumnDef)
    → c.task ≡ x → c.resource ≡ q → test c ≡ false
column_apart test set x q users none c task resource = elim (cases_Bool (test c)) [
  | inr fails ↦ fails
  | inl passes ↦
      let used : is_user set c.resource c.task ≡ true = users c passes in
      let unused : is_user set c.resource c.task ≡ false = rw (task, resource) none in
      absurd (both_ways _ unused used)
]

class_apart : (test : ColumnDef → Bool) (set : SetDef) (x q : ℕ) → AreRequests test set → is_user set q x ≡ false
    → All (λ c. test c ≡ false) (classes_of x q)
class_apart test set x q users none =
    let P : ColumnDef → Type 0 = λ c. test c ≡ false in
    let direct : ColumnDef = record { task = x; resource = q; class = class.Direct } in
    let indirect : ColumnDef = record { task = x; resource = q; class = class.Indirect } in
    let preemption : ColumnDef = record { task = x; resource = q; class = class.Preemption } in
    All-cons P direct (indirect ∷ preemption ∷ []) (column_apart test set x q users none direct refl refl)
    (All-cons P indirect (preemption ∷ []) (column_apart test set x q users none indirect refl refl)
    (All-cons P preemption [] (column_apart test set x q users none preemption refl refl) (All-nil P)))

by_user : (test : ColumnDef → Bool) (set : SetDef) (x q : ℕ) (b : Bool) → AreRequests test set → is_user set q x ≡ b
    → length (filter test (classes_of x q)) ≤ 3 * flag b
by_user test set x q true users user = omega (arith, filter_shorter test (classes_of x q))
by_user test set x q false users none = omega (arith, filtered_none test (classes_of x q) (class_apart test set x q users none))

task_columns : (test : ColumnDef → Bool) (set : SetDef) (x : ℕ) → IsAccepted set → AreRequests test set
    → length (filter test (collect_below (length set.resources) (λ q. classes_of x q))) ≤ 3 * length (task_at set x).requests
task_columns test set x accepted users =
    let m = length set.resources in
    let parts = filtered_sum test m (λ q. classes_of x q) in
    let each = sum_below-monotone m (λ q. length (filter test (classes_of x q)))
    (λ q. 3 * flag (is_user set q x)) (λ q l. by_user test set x q (is_user set q x) users refl) in
    let thrice = sum_below-times m 3 (λ q. flag (is_user set q x)) in
    omega (arith, parts, each, thrice, used_few set x accepted)

-- A set has at most 256 entries.
entries_few : (set : SetDef) → IsAccepted set → sum_below (length set.tasks) (λ x. length (task_at set x).requests) ≤ 256
entries_few set accepted =
    let all : sum_below (length set.tasks) (λ x. length (task_at set x).requests) ≡ request_count set =
    sum_below-list_by (λ (t : TaskDef). length t.requests) no_task set.tasks in
    let sizes = sizes_of_accepted set accepted in
    omega (arith, all, sizes.requests_to)

-- So there are at most 256 pairs of a task and a resource that it uses.
pub pairs_few : (set : SetDef) → IsAccepted set
    → sum_below (length set.tasks) (λ x. count_below (length set.resources) (λ q. is_user set q x)) ≤ 256
pairs_few set accepted =
    let each = sum_below-monotone (length set.tasks) (λ x. count_below (length set.resources) (λ q. is_user set q x))
    (λ x. length (task_at set x).requests) (λ x l. used_few set x accepted) in
    omega (arith, each, entries_few set accepted)

-- There are at most three columns for each entry that are requests by a user, so at most 768.
pub requests_at_most : (test : ColumnDef → Bool) (set : SetDef) → IsAccepted set → AreRequests test set
    → length (columns_where test set) ≤ 768
requests_at_most test set accepted users =
    let n = length set.tasks in
    let m = length set.resources in
    let parts = filtered_sum test n (λ x. collect_below m (λ q. classes_of x q)) in
    let each = sum_below-monotone n (λ x. length (filter test (collect_below m (λ q. classes_of x q))))
    (λ x. 3 * length (task_at set x).requests) (λ x l. task_columns test set x accepted users) in
    let thrice = sum_below-times n 3 (λ x. length (task_at set x).requests) in
    omega (arith, parts, each, thrice, entries_few set accepted)

pub columns_at_most : (p : Protocol) (set : SetDef) (i : ℕ) → IsAccepted set → length (columns_of p set i) ≤ 768
columns_at_most p set i accepted = requests_at_most (is_column p set i) set accepted (columns_are_requests p set i)
