-- What is known of each column that passes a test: it passes it, and is of a task and a resource of the set. So it is with the
-- columns of a task.
use Rattle.std.proofs.Common.{◌≡◌, ℕ, zero, suc, ◌<◌, ◌==◌, Bool, true, List, [], ◌∷◌, map, length, arith}
use Rattle.std.proofs.lemmas.Bool.{and_parts, not-true}
use Rattle.std.proofs.lemmas.List.Elements.{All-nil, All-cons, All-head, All-tail, All-append, All-filter, All-same, filter_passes}
use Rattle.std.specs.List.{All}
use Rattle.number_laws.specs.Sums.{collect_below}
use Rattle.sporadic_model.specs.SetDef.{SetDef}
use Rattle.sporadic_model.specs.declared.ids.Protocol.{Protocol}
use Rattle.blocking_columns.specs.ColumnDef.{ColumnDef, column_seen, classes_of, all_columns, IsKnown, AreKnown}
use Rattle.blocking_columns.specs.Columns.{is_column, columns_where, columns_of, AreRequests, AreOfOthers}
use Rattle.blocking_columns.specs.declared.columns.Class.TheVariants as class
use Rattle.blocking_columns.specs.declared.columns.Fragment.{Fragment}

pub all_collected : {X : Type 0} (P : X → Type 0) (n : ℕ) (f : ℕ → List X) → ((k : ℕ) → k < n → All P (f k)) → All P (collect_below n f)
all_collected P zero f each = All-nil P
all_collected P (suc n) f each =
    All-append P (collect_below n f) (f n) (all_collected P n f (λ k l. each k (omega arith))) (each n (omega arith))

pub all_mapped : {X Y : Type 0} (P : Y → Type 0) (f : X → Y) (xs : List X) → All P (map f xs) → All (λ x. P (f x)) xs
all_mapped P f [] h = All-nil (λ x. P (f x))
all_mapped P f (x ∷ xs) h = All-cons (λ x. P (f x)) x xs (All-head P (f x) (map f xs) h) (all_mapped P f xs (All-tail P (f x) (map f xs) h))

classes_known : (n m x q : ℕ) → x < n → q < m → All (IsKnown n m) (classes_of x q)
classes_known n m x q a b =
    let direct : ColumnDef = record { task = x; resource = q; class = class.Direct } in
    let indirect : ColumnDef = record { task = x; resource = q; class = class.Indirect } in
    let preemption : ColumnDef = record { task = x; resource = q; class = class.Preemption } in
    All-cons (IsKnown n m) direct (indirect ∷ preemption ∷ []) (a, b)
    (All-cons (IsKnown n m) indirect (preemption ∷ []) (a, b) (All-cons (IsKnown n m) preemption [] (a, b) (All-nil (IsKnown n m))))

pub all_known : (n m : ℕ) → All (IsKnown n m) (all_columns n m)
all_known n m = all_collected (IsKnown n m) n (λ x. collect_below m (λ q. classes_of x q)) (λ x a.
    all_collected (IsKnown n m) m (λ q. classes_of x q) (λ q b. classes_known n m x q a b))

-- Each column that passes is of a task and a resource of the set.
pub passing_known : (test : ColumnDef → Bool) (set : SetDef)
    → All (IsKnown (length set.tasks) (length set.resources)) (columns_where test set)
passing_known test set = All-filter test (IsKnown (length set.tasks) (length set.resources))
    (all_columns (length set.tasks) (length set.resources)) (all_known (length set.tasks) (length set.resources))

pub passing_pass : (test : ColumnDef → Bool) (set : SetDef) → All (λ c. test c ≡ true) (columns_where test set)
passing_pass test set = filter_passes test (all_columns (length set.tasks) (length set.resources))

-- The same of the fragments that show these columns.
pub given_known : (test : ColumnDef → Bool) (set : SetDef) (cs : List Fragment) → map column_seen cs ≡ columns_where test set
    → AreKnown (length set.tasks) (length set.resources) cs
given_known test set cs same = all_mapped (IsKnown (length set.tasks) (length set.resources)) column_seen cs
    (All-same (IsKnown (length set.tasks) (length set.resources)) (map column_seen cs) (columns_where test set) same
    (passing_known test set))

pub columns_known : (p : Protocol) (set : SetDef) (i : ℕ) → All (IsKnown (length set.tasks) (length set.resources)) (columns_of p set i)
columns_known p set i = passing_known (is_column p set i) set

pub columns_pass : (p : Protocol) (set : SetDef) (i : ℕ) → All (λ c. is_column p set i c ≡ true) (columns_of p set i)
columns_pass p set i = passing_pass (is_column p set i) set

pub fragments_known : (p : Protocol) (set : SetDef) (i : ℕ) (cs : List Fragment)
    → map column_seen cs ≡ columns_of p set i → AreKnown (length set.tasks) (length set.resources) cs
fragments_known p set i cs same = given_known (is_column p set i) set cs same

-- The columns of a task are requests of other tasks.
pub columns_are_requests : (p : Protocol) (set : SetDef) (i : ℕ) → AreRequests (is_column p set i) set
columns_are_requests p set i c passes = (and_parts _ _ (and_parts _ _ passes).0).1

pub columns_are_of_others : (p : Protocol) (set : SetDef) (i : ℕ) → AreOfOthers (is_column p set i) i
columns_are_of_others p set i c passes = not-true (c.task == i) (and_parts _ _ (and_parts _ _ passes).0).0
