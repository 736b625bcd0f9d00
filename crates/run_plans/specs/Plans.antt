-- What a command is: inputs that are read in order, and then a work. And what it answers, from what is known of the inputs. All this holds
-- for any command. The commands themselves are in `Commands`.
use Rattle.std.specs.Prelude.{◌≡◌, ℕ, ◌⊎◌, List, [], ◌∷◌, Ok}
use Rattle.outside_ports.specs.Past.{Asked, wholly}
use Rattle.command_inputs.specs.Known.{Answer, Input, Known, past, read_fault, IsStopped, IsRead}

-- The work on what was read: what it answers, the condition for status 0 or 1, and the condition for at most one answer.
pub record Work : Type 1 where
  pub answers : Answer → Type 0
  pub ends : Type 0
  pub one : Type 0

-- What a command does. It reads named inputs, one after another. Each is read with the bytes and values of those before it. Then it works.
pub data Plan : Type 1 where
  Working : Work → Plan
  Reading : (input : Input) → List ℕ → (List ℕ → input.Value → Plan) → Plan

-- Is no input left to be read?
abbrev pub IsWorking : Plan → Type 0
IsWorking (Working work) = Unit {0}
IsWorking (Reading input name next) = ⊥

-- Is this an outcome of the plan? It is that of the first input that gives no value. If all give one, it is that of the work, and no
-- further input is asked for.
abbrev pub IsOutcomeOf : Known → Plan → Answer → Type 0
IsOutcomeOf known (Working work) answer = work.answers answer × known.asked []
IsOutcomeOf known (Reading input name next) answer = IsStopped known input name answer
    ⊎ ((bytes : List ℕ) × (value : input.Value) × (IsRead known input name bytes value)
    × (IsWorking (next bytes value) → known.last bytes) × (IsOutcomeOf (past known (wholly name bytes)) (next bytes value) answer))

-- Is this the answer that one of the inputs couldn't be read? Every input before it is there and accepted. It is the last that is asked
-- for.
abbrev pub IsReadFaultOf : Known → Plan → Answer → Type 0
IsReadFaultOf known (Working work) answer = ⊥
IsReadFaultOf known (Reading input name next) answer =
    (((one : Asked) × (one.name ≡ name) × known.asked (one ∷ [])) × (answer ≡ read_fault input.word))
    ⊎ ((bytes : List ℕ) × (value : input.Value) × (IsRead known input name bytes value)
    × (IsReadFaultOf (past known (wholly name bytes)) (next bytes value) answer))

-- Are these the readings of a plan that comes to its work? Each input that it names is given whole, in its order, and accepted. There is no
-- other.
abbrev pub AsksAll : Plan → List Asked → Type 0
AsksAll (Working work) readings = readings ≡ []
AsksAll (Reading input name next) readings = (bytes : List ℕ) × (value : input.Value) × (later : List Asked)
    × (readings ≡ wholly name bytes ∷ later) × input.reads bytes (Ok value) × AsksAll (next bytes value) later

-- Are these the readings of a plan that stops at an input? That input is the last, whatever its result. Each one before it is given whole
-- and accepted.
abbrev pub AsksPart : Plan → List Asked → Type 0
AsksPart (Working work) readings = ⊥
AsksPart (Reading input name next) readings = ((one : Asked) × (one.name ≡ name) × (readings ≡ one ∷ []))
    ⊎ ((bytes : List ℕ) × (value : input.Value) × (later : List Asked)
    × (readings ≡ wholly name bytes ∷ later) × input.reads bytes (Ok value) × AsksPart (next bytes value) later)

-- Is every input there and accepted, and does the work then end with status 0 or 1?
abbrev pub EndsWell : Known → Plan → Type 0
EndsWell known (Working work) = work.ends
EndsWell known (Reading input name next) =
    (bytes : List ℕ) × (value : input.Value) × (IsRead known input name bytes value) × (EndsWell known (next bytes value))

-- Is there at most one answer, whatever the inputs are read as?
abbrev pub HasOneAnswer : Known → Plan → Type 0
HasOneAnswer known (Working work) = work.one
HasOneAnswer known (Reading input name next) =
    (bytes : List ℕ) (value : input.Value) → IsRead known input name bytes value → HasOneAnswer known (next bytes value)
