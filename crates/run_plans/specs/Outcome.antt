-- The outcome of words: the status, and the text that goes out.
use Rattle.std.specs.Prelude.{◌≡◌, ℕ, ◌≤◌, ◌⊎◌, List, MatchOption}
use Rattle.outside_ports.specs.Counts.{Rose}
use Rattle.outside_ports.specs.Names.{Inputs}
use Rattle.outside_ports.specs.declared.whole.TheConstants.{GREATEST_INPUT_BYTES}
use Rattle.reply_texts.specs.Texts.{no_form_text}
use Rattle.command_inputs.specs.Known.{Answer, Known, Shown, told, shown_by}
use Rattle.command_words.specs.Words.{form_of}
use Rattle.run_plans.specs.Plans.{Plan, HasOneAnswer, IsOutcomeOf, IsReadFaultOf}
use Rattle.run_plans.specs.Commands.{plan_of}

-- The answer to words that have none of the forms.
abbrev pub refused_words : Answer
refused_words = record { status = 2; text = no_form_text }

-- The outcome of words, from what is known of the inputs.
abbrev pub IsOutcomeBy : Known → List (List ℕ) → Answer → Type 0
IsOutcomeBy known words answer =
    MatchOption (form_of words) (answer ≡ refused_words) (λ form. IsOutcomeOf known (plan_of form) answer)

-- The outcome of words, if these are the named inputs.
abbrev pub IsOutcome : Inputs → List (List ℕ) → Answer → Type 0
IsOutcome inputs words answer = IsOutcomeBy (told inputs) words answer

-- Do the words have at most one outcome for these inputs? All do, except those of `settle` for a set that the rounds leave open.
abbrev pub HasOneOutcome : Inputs → List (List ℕ) → Type 0
HasOneOutcome inputs words = MatchOption (form_of words) (Unit {0}) (λ form. HasOneAnswer (told inputs) (plan_of form))

-- A reply of a plan is an outcome. Or it says that an input couldn't be read, and the shelf's count of faults rose.
abbrev pub IsReplyOf : Shown → Plan → Answer → Type 0
IsReplyOf shelf plan answer =
    (Rose shelf.before shelf.now × (shelf.given ≤ GREATEST_INPUT_BYTES) × IsReadFaultOf (shown_by shelf) plan answer)
    ⊎ IsOutcomeOf (shown_by shelf) plan answer

-- A reply to words. If they have no form, nothing was asked for.
abbrev pub IsReply : Shown → List (List ℕ) → Answer → Type 0
IsReply shelf words answer =
    MatchOption (form_of words) ((answer ≡ refused_words) × (shelf.has ≡ shelf.had)) (λ form. IsReplyOf shelf (plan_of form) answer)
