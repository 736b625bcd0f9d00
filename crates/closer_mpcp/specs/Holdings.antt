-- Which holdings a limit of the closer rows counts, as its code names them. In each, i is the analysed task.
use Rattle.std.specs.Prelude.{ℕ, ◌+◌, ◌&&◌, not, nat_lt, Bool, length, Option, None, Some}
use Rattle.number_laws.specs.Sums.{only_if}
use Rattle.number_laws.specs.Tests.{any_below}
use Rattle.sporadic_model.specs.SetDef.{SetDef}
use Rattle.sporadic_model.specs.Users.{count_of, is_user}
use Rattle.sporadic_model.specs.declared.ids.ResourceId.{ResourceId}
use Rattle.blocking_columns.specs.Columns.{have_one_processor}
use Rattle.indirect_constraints.specs.Rows.{is_beside}
use Rattle.closer_laws.specs.CloserRows.{is_shared_out, is_held_there}
use Rattle.closer_mpcp_laws.specs.CloserMpcpRows.{goes_first, goes_before, is_away, away_holdings, shared_holdings}
use Rattle.mpcp_window_laws.specs.WaitRows.{held_in_waits}
use Rattle.closer_mpcp.specs.declared.places.Place.{Place}
use Rattle.closer_mpcp.specs.declared.places.Place.TheVariants as place

-- May x run its requests of this resource, or any of its own where none is named, while another task is ready on its processor that holds r?
abbrev pub passes : SetDef → ℕ → Option ResourceId → ℕ → Bool
passes set x None r = goes_before set x r
passes set x (Some q) r = goes_first set x q.0 r

-- Is a lower task y?
abbrev pub is_lower_at : Place → SetDef → ℕ → ℕ → ℕ → Bool
is_lower_at place.Beside set i x y = is_beside set x y
is_lower_at place.Away set i x y = is_away set x y && is_away set i y

-- Is there a lower task at this place of x that uses r?
abbrev pub has_lower : Place → SetDef → ℕ → ℕ → ℕ → Bool
has_lower p set i x r = any_below (length set.tasks) (λ y. nat_lt i y && (is_lower_at p set i x y && is_user set r y))

-- How many requests of r can lower tasks at this place hold while a job of i waits for them? One for each request of i, if there is one.
abbrev pub lower_held : Place → SetDef → ℕ → ℕ → ℕ → ℕ
lower_held p set i x r = only_if (has_lower p set i x r) (count_of set i r)

-- How many requests of r can be held beside x while i waits for them?
abbrev pub held_beside : SetDef → (ℕ → ℕ) → ℕ → ℕ → ℕ → ℕ
held_beside set bounds i x r = held_in_waits set i bounds x r
    + only_if (not (have_one_processor set x i)) (lower_held place.Beside set i x r)

-- Do they count: is r shared out, and may x run requests meanwhile?
abbrev pub counts : SetDef → ℕ → ℕ → Option ResourceId → ℕ → Bool
counts set i x q r = is_shared_out set i r && passes set x q r

-- How many requests that i waits for, and that are shared out, can be held beside x, where x may run its requests of q meanwhile?
abbrev pub holdings_in_waits : SetDef → (ℕ → ℕ) → ℕ → ℕ → Option ResourceId → ℕ
holdings_in_waits set bounds i x q = shared_holdings set (held_in_waits set i bounds x) i x (passes set x q)

-- How many requests of x can run while i waits for r, and a task of x's processor holds it?
abbrev pub runs_there : SetDef → (ℕ → ℕ) → ℕ → ℕ → ℕ → ℕ
runs_there set bounds i x r = count_of set i r + away_holdings set bounds i x r

-- The same if a task of x's processor can hold r while i waits for it, and none if not.
abbrev pub run_of : SetDef → (ℕ → ℕ) → ℕ → ℕ → ℕ → ℕ
run_of set bounds i x r = only_if (is_held_there set i x r) (runs_there set bounds i x r)
