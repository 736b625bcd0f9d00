-- Rows over stretches of columns: where a row's columns are, and that the coefficients outside are zero.
use Rattle.std.proofs.Common.{◌≡◌, ℕ, ◌+◌, ◌<◌, ◌≤◌, ◌==◌, ◌&&◌, false, List, map, length, nat_lt, ◌∙◌, arith, inl, inr}
use Rattle.std.specs.Prelude.{slice_index}
use Rattle.std.proofs.Math.ListN.{get_or}
use Rattle.std.proofs.lemmas.Bool.{cases_Bool, and_parts, eqb-true, ne_eqb, le-ltb}
use Rattle.std.specs.List.{AllWithin}
use Rattle.sporadic_model.proofs.Mapped.{list_any-map}
use Rattle.sporadic_model.specs.SetDef.{SetDef}
use Rattle.blocking_columns.specs.ColumnDef.{ColumnDef, column_seen, AreKnown}
use Rattle.blocking_columns.specs.Given.{AreLaidOut}
use Rattle.blocking_columns.specs.declared.columns.Fragment.{Fragment}
use Rattle.blocking_columns.specs.declared.stretches.TaskPlace.{TaskPlace}
use Rattle.blocking_columns.specs.Stretches.{slot, slot_of, BeginsAt}
use Rattle.blocking_columns.proofs.TaskPlaces.{stretch_between}
use Rattle.fragments.specs.Constraints.{ConstraintDef, holds_some, CountsOnly}
use Rattle.fragments.specs.RowStretch.{IsStretch, IsRowOver}
use Rattle.fragments.specs.Given.{AreColumnsOfTask, AreColumnsOfRequests}
use Rattle.fragments.proofs.Zeros.{none_above}

other_numbers : (a b c d : ℕ) → (a ≡ b → c ≡ d → ⊥) → ((a == b) && (c == d)) ≡ false
other_numbers a b c d apart = elim (cases_Bool ((a == b) && (c == d))) [
  | inl same ↦ let both = and_parts (a == b) (c == d) same in absurd (apart (eqb-true a b both.0) (eqb-true c d both.1))
  | inr other ↦ other
]

-- The columns of the first slot begin at the first place.
pub begins_first : (cs : List Fragment) → BeginsAt (slot 0 0) cs 0
begins_first cs = record { within = omega arith; before = λ k d l m. absurd (omega arith); behind = λ k d l m. omega arith }

-- The columns of the next task follow those of a task's last resource.
pub begins_next : (n m x : ℕ) (cs : List Fragment) (a : ℕ) → AreKnown n m cs → m ≤ 4294967296 → BeginsAt (slot x m) cs a
    → BeginsAt (slot (x + 1) 0) cs a
begins_next n m x cs a known few at = record {
  within = at.within;
  before = λ k d l b.
      let here : slot_of (get_or cs k d) < slot x m = at.before k d l b in
      omega (arith, here);
  behind = λ k d l b.
      let here : slot x m ≤ slot_of (get_or cs k d) = at.behind k d l b in
      let q : (get_or cs k d).resource.0 < m = (known k d b).1 in
      omega (arith, here, q);
}

-- A row that counts columns of task x alone counts those from the place where they begin up to the place where the next task's begin.
stretch_of_task : (n m x : ℕ) (cs : List Fragment) (row : ConstraintDef) (a b : ℕ) → AreKnown n m cs → m ≤ 4294967296
    → BeginsAt (slot x 0) cs a → BeginsAt (slot (x + 1) 0) cs b → a ≤ b
    → CountsOnly (λ c. c.task == x) row → IsStretch row cs a b
stretch_of_task n m x cs row a b known few from to order zero = record {
  order = order;
  within = to.within;
  before = λ k d l h.
      let here : slot_of (get_or cs k d) < slot x 0 = from.before k d l h in
      zero (column_seen (get_or cs k d)) (ne_eqb (get_or cs k d).task.0 x (λ e. absurd (omega (arith, here, e))));
  behind = λ k d l h.
      let here : slot (x + 1) 0 ≤ slot_of (get_or cs k d) = to.behind k d l h in
      let q : (get_or cs k d).resource.0 < m = (known k d h).1 in
      zero (column_seen (get_or cs k d)) (ne_eqb (get_or cs k d).task.0 x (λ e. absurd (omega (arith, here, q, e))));
}

-- A row that counts columns of the requests of x for q alone counts those up to the place where the next resource's begin.
stretch_of_requests : (x q : ℕ) (cs : List Fragment) (row : ConstraintDef) (a b : ℕ)
    → BeginsAt (slot x q) cs a → BeginsAt (slot x (q + 1)) cs b → a ≤ b
    → CountsOnly (λ c. (c.task == x) && (c.resource == q)) row → IsStretch row cs a b
stretch_of_requests x q cs row a b from to order zero = record {
  order = order;
  within = to.within;
  before = λ k d l h.
      let here : slot_of (get_or cs k d) < slot x q = from.before k d l h in
      zero (column_seen (get_or cs k d))
      (other_numbers (get_or cs k d).task.0 x (get_or cs k d).resource.0 q (λ e f. absurd (omega (arith, here, e, f))));
  behind = λ k d l h.
      let here : slot x (q + 1) ≤ slot_of (get_or cs k d) = to.behind k d l h in
      zero (column_seen (get_or cs k d))
      (other_numbers (get_or cs k d).task.0 x (get_or cs k d).resource.0 q (λ e f. absurd (omega (arith, here, e, f))));
}

-- A row that counts columns of tasks lower than i alone counts those from the place where they begin.
stretch_of_lower : (i : ℕ) (cs : List Fragment) (row : ConstraintDef) (a : ℕ) → BeginsAt (slot (i + 1) 0) cs a
    → CountsOnly (λ c. nat_lt i c.task) row → IsStretch row cs a (length cs)
stretch_of_lower i cs row a from zero = record {
  order = from.within;
  within = omega arith;
  before = λ k d l h.
      let here : slot_of (get_or cs k d) < slot (i + 1) 0 = from.before k d l h in
      zero (column_seen (get_or cs k d)) (le-ltb i (get_or cs k d).task.0 (omega (arith, here)));
  behind = λ k d l h. absurd (omega (arith, l, h));
}

-- A row with an empty stretch has no column.
pub none_held : (row : ConstraintDef) (cs : List Fragment) (a b : ℕ) → IsStretch row cs a b → b ≤ a
    → holds_some (map column_seen cs) row ≡ false
none_held row cs a b h empty =
    list_any-map column_seen (λ c. nat_lt 0 (row.coefficient c)) cs ∙ none_above row cs b a empty h.before h.behind

-- Each column of these stretches is of the task; of the task and the resource; of a lower task.
columns_of_task : (n m x : ℕ) (cs : List Fragment) (a b : ℕ) → AreKnown n m cs → m ≤ 4294967296
    → BeginsAt (slot x 0) cs a → BeginsAt (slot (x + 1) 0) cs b → AllWithin (λ c. (column_seen c).task ≡ x) cs a b
columns_of_task n m x cs a b known few from to k d l h =
    let within : k < length cs = omega (arith, h, to.within) in
    let low : slot x 0 ≤ slot_of (get_or cs k d) = from.behind k d l within in
    let high : slot_of (get_or cs k d) < slot (x + 1) 0 = to.before k d (omega arith) h in
    let r : (get_or cs k d).resource.0 < m = (known k d within).1 in
    omega (arith, low, high, r, few)

columns_of_requests : (n m x q : ℕ) (cs : List Fragment) (a b : ℕ) → AreKnown n m cs → m ≤ 4294967296 → q < m
    → BeginsAt (slot x q) cs a → BeginsAt (slot x (q + 1)) cs b
    → AllWithin (λ c. ((column_seen c).task ≡ x) × ((column_seen c).resource ≡ q)) cs a b
columns_of_requests n m x q cs a b known few here from to k d l h =
    let within : k < length cs = omega (arith, h, to.within) in
    let low : slot x q ≤ slot_of (get_or cs k d) = from.behind k d l within in
    let high : slot_of (get_or cs k d) < slot x (q + 1) = to.before k d (omega arith) h in
    let r : (get_or cs k d).resource.0 < m = (known k d within).1 in
    (omega (arith, low, high, r, few, here), omega (arith, low, high, r, few, here))

columns_of_lower : (n m i : ℕ) (cs : List Fragment) (a : ℕ) → AreKnown n m cs → m ≤ 4294967296
    → BeginsAt (slot (i + 1) 0) cs a → AllWithin (λ c. i < (column_seen c).task) cs a (length cs)
columns_of_lower n m i cs a known few from k d l h =
    let low : slot (i + 1) 0 ≤ slot_of (get_or cs k d) = from.behind k d l h in
    let r : (get_or cs k d).resource.0 < m = (known k d h).1 in
    omega (arith, low, r, few)

-- So a row that counts columns of task x alone can be given over x's own. The same of those of its requests of q, and of those of lower tasks.
pub row_over_task : {set : SetDef} {bounds : List ℕ} {i x n : ℕ} {cs : List Fragment} {a b : ℕ} (row : ConstraintDef)
    → AreColumnsOfTask set bounds i x n cs a b → length set.resources ≤ 4294967296 → CountsOnly (λ c. c.task == x) row
    → IsRowOver set i row (λ c. c.task ≡ x) cs a b
row_over_task {set = set} {x = x} {cs = cs} {a = a} {b = b} row at few alone = record {
  task = at.counted.task;
  known = at.known;
  stretch = stretch_of_task (length set.tasks) (length set.resources) x cs row a b at.known few at.stretch.from at.stretch.to at.stretch.order alone;
  over = columns_of_task (length set.tasks) (length set.resources) x cs a b at.known few at.stretch.from at.stretch.to;
}

pub row_over_requests : {set : SetDef} {bounds : List ℕ} {i x q n : ℕ} {cs : List Fragment} {a b : ℕ} (row : ConstraintDef)
    → AreColumnsOfRequests set bounds i x q n cs a b → length set.resources ≤ 4294967296
    → CountsOnly (λ c. (c.task == x) && (c.resource == q)) row → IsRowOver set i row (λ c. (c.task ≡ x) × (c.resource ≡ q)) cs a b
row_over_requests {set = set} {x = x} {q = q} {cs = cs} {a = a} {b = b} row at few alone = record {
  task = at.counted.task;
  known = at.known;
  stretch = stretch_of_requests x q cs row a b at.stretch.from at.stretch.to at.stretch.order alone;
  over = columns_of_requests (length set.tasks) (length set.resources) x q cs a b at.known few at.resource at.stretch.from at.stretch.to;
}

pub row_over_lower : (set : SetDef) (i : ℕ) (cs : List Fragment) (row : ConstraintDef) (a : ℕ) → i < length set.tasks
    → AreKnown (length set.tasks) (length set.resources) cs → length set.resources ≤ 4294967296 → BeginsAt (slot (i + 1) 0) cs a
    → CountsOnly (λ c. nat_lt i c.task) row → IsRowOver set i row (λ c. i < c.task) cs a (length cs)
row_over_lower set i cs row a task known few from alone = record {
  task = task;
  known = known;
  stretch = stretch_of_lower i cs row a from alone;
  over = columns_of_lower (length set.tasks) (length set.resources) i cs a known few from;
}

-- A row that can be given for every column can be given over all of them.
pub row_over_all : (set : SetDef) (i : ℕ) (cs : List Fragment) (row : ConstraintDef) (gives : ColumnDef → Type 0) → i < length set.tasks
    → AreKnown (length set.tasks) (length set.resources) cs → ((c : ColumnDef) → gives c) → IsRowOver set i row gives cs 0 (length cs)
row_over_all set i cs row gives task known each = record {
  task = task;
  known = known;
  stretch = record {
    order = omega arith;
    within = omega arith;
    before = λ k d l h. absurd (omega (arith, h));
    behind = λ k d l h. absurd (omega (arith, l, h));
  };
  over = λ k d l h. each (column_seen (get_or cs k d));
}

-- The columns of a task where columns are laid out.
pub columns_between : (set : SetDef) (bounds : List ℕ) (i x : ℕ) (cs : List Fragment) (ps : List TaskPlace) (d e : TaskPlace)
    → AreLaidOut set bounds i cs ps → x < length set.tasks
    → AreColumnsOfTask set bounds i x (get_or ps x d).jobs cs (get_or ps x d).from (get_or ps (x + 1) e).from
columns_between set bounds i x cs ps d e laid below = record {
  counted = record {
    task = laid.task;
    within = laid.within;
    other = below;
    jobs = (laid.places.each x d below).jobs;
    most = (laid.places.each x d below).most;
  };
  known = laid.known;
  stretch = stretch_between set (slice_index bounds) i (length set.tasks) x cs ps d e laid.places below;
}
