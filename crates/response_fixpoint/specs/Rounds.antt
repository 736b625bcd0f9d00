-- The rounds, and how they end. Each vector of bounds is the recurrence, task by task, at the vector before it.
use Rattle.std.specs.Prelude.{◌≡◌, ◌≢◌, ℕ, zero, suc, ◌+◌, ◌-◌, ◌<◌, ◌≤◌, List, [], ◌∷◌, ◌++◌}
use Rattle.program_form.specs.Certificate.{DualDef}

-- How does the run of one task's program end, where `left` units are left? With the units that it used, the recurrence's value and the
-- program's dual. Or it forms a number that is too wide. Or it needs more units than are left.
pub data RunEnd : Type 0 where
  Valued : ℕ → ℕ → DualDef → RunEnd
  TooWide : RunEnd
  OutOfUnits : RunEnd

-- How do the rounds end? With bounds and duals that are the answer. At a task whose value passes its latest bound. At a task whose
-- program is too wide. Or without enough units in the allowance.
pub data Ending : Type 0 where
  Schedulable : List ℕ → List DualDef → Ending
  NotShown : ℕ → ℕ → Ending
  Wide : ℕ → Ending
  Allowance : Ending

-- What one round has found so far: the units used in it, and a value and a dual for each task that passed.
pub record Found : Type 0 where
  pub used : ℕ
  pub values : List ℕ
  pub duals : List DualDef

abbrev pub nothing_found : Found
nothing_found = record { used = 0; values = []; duals = [] }

-- What is found once one more task has passed.
abbrev pub with_task : Found → ℕ → ℕ → DualDef → Found
with_task found used value dual = record { used = found.used + used; values = found.values ++ value ∷ []; duals = found.duals ++ dual ∷ [] }

-- The input of the rounds: the number of tasks, the first vector and each task's latest bound. Besides `runs r i left e`: the run of
-- task i's program at the vector r ends in e where `left` units are left.
pub record RoundsOf : Type 1 where
  pub tasks : ℕ
  pub first : List ℕ
  pub latest : ℕ → ℕ
  pub runs : List ℕ → ℕ → ℕ → RunEnd → Type 0

-- In a round at r that begins with `left` units, do the first i tasks pass, and is this what is found then? A task passes if its
-- program's run ends in a value that is at most the latest bound.
abbrev pub Passes : RoundsOf → List ℕ → ℕ → ℕ → Found → Type 0
Passes o r left zero found = found ≡ nothing_found
Passes o r left (suc i) found = (before : Found) × (used : ℕ) × (value : ℕ) × (dual : DualDef)
    × (Passes o r left i before) × (o.runs r i (left - before.used) (Valued used value dual)) × (value ≤ o.latest i)
    × (found ≡ with_task before used value dual)

-- With this allowance of units, do k rounds go by, each of which gives another vector than it began with? Is r the vector after them,
-- and `used` the units of all of them?
abbrev pub Reaches : RoundsOf → ℕ → ℕ → ℕ → List ℕ → Type 0
Reaches o allowance zero used r = (used ≡ 0) × (r ≡ o.first)
Reaches o allowance (suc k) used r = (before : ℕ) × (q : List ℕ) × (found : Found)
    × (Reaches o allowance k before q) × (Passes o q (allowance - before) o.tasks found) × (r ≡ found.values) × (q ≢ r)
    × (used ≡ before + found.used)

-- Do the rounds come to task i of a round at r that begins with `left` units, having found this in the round?
pub record ComesTo (o : RoundsOf) (allowance : ℕ) (r : List ℕ) (i : ℕ) (left : ℕ) (found : Found) : Type 0 where
  pub rounds : ℕ
  pub spent : ℕ
  pub reached : Reaches o allowance rounds spent r
  pub passed : Passes o r (allowance - spent) i found
  pub units : left ≡ allowance - spent - found.used

-- Do the rounds end so? They end at the first of these: a task's run needs more units than are left; a task's run is too wide; a task's
-- value passes its latest bound; a round gives the vector that it began with.
abbrev pub EndsIn : RoundsOf → ℕ → Ending → Type 0
EndsIn o allowance (Schedulable bounds duals) = (left : ℕ) × (found : Found)
    × (ComesTo o allowance bounds o.tasks left found) × (found.values ≡ bounds) × (found.duals ≡ duals)
EndsIn o allowance (NotShown i value) = (r : List ℕ) × (left : ℕ) × (found : Found) × (used : ℕ) × (dual : DualDef)
    × (i < o.tasks) × (ComesTo o allowance r i left found) × (o.runs r i left (Valued used value dual)) × (o.latest i < value)
EndsIn o allowance (Wide i) = (r : List ℕ) × (left : ℕ) × (found : Found) × (i < o.tasks)
    × (ComesTo o allowance r i left found) × (o.runs r i left TooWide)
EndsIn o allowance Allowance = (r : List ℕ) × (i : ℕ) × (left : ℕ) × (found : Found) × (i < o.tasks)
    × (ComesTo o allowance r i left found) × (o.runs r i left OutOfUnits)
