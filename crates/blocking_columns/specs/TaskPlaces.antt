-- Where the columns of each task begin, and how many of its jobs can run while a job of the analysed task does.
use Rattle.std.specs.Prelude.{◌≡◌, ℕ, ◌+◌, ◌<◌, ◌≤◌, List, length, get_or}
use Rattle.sporadic_model.specs.SetDef.{SetDef}
use Rattle.blocking_columns.specs.declared.columns.Fragment.{Fragment}
use Rattle.blocking_columns.specs.declared.stretches.TaskPlace.{TaskPlace}
use Rattle.blocking_columns.specs.Stretches.{slot, BeginsAt}
use Rattle.blocking_columns.specs.Windows.{jobs_in}

-- Does the entry say where the columns of task x begin, and how many of its jobs can run within the bound of a job of i?
pub record IsPlace (set : SetDef) (bounds : ℕ → ℕ) (i x : ℕ) (columns : List Fragment) (place : TaskPlace) : Type 0 where
  pub begins : BeginsAt (slot x 0) columns place.from
  pub jobs : place.jobs ≡ jobs_in set bounds i x
  pub most : place.jobs ≤ 2000000000

-- Do entries say so of each task below n?
abbrev pub ArePlacesBelow : SetDef → (ℕ → ℕ) → ℕ → ℕ → List Fragment → List TaskPlace → Type 0
ArePlacesBelow set bounds i n columns places = (x : ℕ) (d : TaskPlace) → x < n → IsPlace set bounds i x columns (get_or places x d)

-- Do they, with one more entry behind them that says where the columns of those tasks end?
pub record ArePlaces (set : SetDef) (bounds : ℕ → ℕ) (i n : ℕ) (columns : List Fragment) (places : List TaskPlace) : Type 0 where
  pub one_more : length places ≡ n + 1
  pub each : ArePlacesBelow set bounds i n columns places
  pub ends : (d : TaskPlace) → BeginsAt (slot n 0) columns (get_or places n d).from
