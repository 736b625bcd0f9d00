-- The steps of rounds, in the order of the rounds, and within a round in the order of its tasks.
use Rattle.std.specs.Prelude.{◌≡◌, refl, ℕ, zero, suc, ◌+◌, nat_lt, if◌then◌else◌, List, [], ◌∷◌, ◌++◌, slice_index}
use Rattle.number_laws.specs.Sums.{collect_below}
use Rattle.program_form.specs.Certificate.{DualDef}
use Rattle.program_sources.specs.Valid.{dual_at}
use Rattle.refusal_laws.specs.Steps.{StepDef}
use Rattle.response_fixpoint.specs.Rounds.{Ending, Schedulable, NotShown, Wide, Allowance, Found, RoundsOf, Reaches, EndsIn}

-- The step of task i. A step counts tasks from 1.
abbrev pub step_of : ℕ → ℕ → DualDef → StepDef
step_of i value point = record { task = i + 1; value = value; point = point }

-- The step for task i's value, if the value is above the bound that the task had. If not, there is none.
abbrev pub steps_over : ℕ → ℕ → ℕ → DualDef → List StepDef
steps_over bound i value point = if nat_lt bound value then step_of i value point ∷ [] else []

-- The steps of the first n tasks of a round at r that has found these values and points.
abbrev pub round_steps : List ℕ → Found → ℕ → List StepDef
round_steps r found n = collect_below n (λ i. steps_over (slice_index r i) i (slice_index found.values i) (dual_at found.duals i))

-- The steps of the k rounds that go by on the way to r.
abbrev pub way_steps : (o : RoundsOf) (allowance k used : ℕ) (r : List ℕ) → Reaches o allowance k used r → List StepDef
way_steps o allowance zero used r way = []
way_steps o allowance (suc k) used r (before, q, found, reached, passed, is, other, units) =
    way_steps o allowance k before q reached ++ round_steps q found o.tasks

-- The refusal of rounds that end in NotShown: the steps of the rounds that went by, those of the last round, and the step of the task
-- that isn't shown. Rounds with another end have none.
abbrev pub refusal_of : (o : RoundsOf) (allowance : ℕ) (e : Ending) → EndsIn o allowance e → List StepDef
refusal_of o allowance (NotShown i value) (r, left, found, used, point, below, comes, run, late) =
    way_steps o allowance comes.rounds comes.spent r comes.reached ++ round_steps r found i ++ step_of i value point ∷ []
refusal_of o allowance (Schedulable bounds points) ends = []
refusal_of o allowance (Wide i) ends = []
refusal_of o allowance Allowance ends = []

-- A task with the bound 3 whose value is 5, and one whose value is 3.
abbrev one_over_one : DualDef
one_over_one = record { den = 1; num = 1 ∷ [] }

pub five_is_above : steps_over 3 0 5 one_over_one ≡ record { task = 1; value = 5; point = one_over_one } ∷ []
five_is_above = refl

pub three_is_not : steps_over 3 0 3 one_over_one ≡ []
three_is_not = refl
