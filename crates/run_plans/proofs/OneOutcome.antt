-- All words but those of `settle` have at most one outcome.
use Rattle.std.proofs.Common.{◌≡◌, ℕ, List, refl, subst, Some, None}
use Rattle.std.specs.Prelude.{Option, MatchOption}
use Rattle.outside_ports.specs.Names.{Inputs}
use Rattle.protocol_names.specs.declared.ProtocolName.{ProtocolName}
use Rattle.command_words.specs.Words.{Form, Analyse, Refute, Settle, Check, Confirm, Upgrade, Report, FullReport, Conform, Simulate, Study, Audit}
use Rattle.command_words.specs.Words.{form_of}
use Rattle.command_words.specs.Spelled.{settle_words, IsSpelled}
use Rattle.command_words.proofs.SpelledLaws.{only_spelled}
use Rattle.command_inputs.specs.Known.{told}
use Rattle.run_plans.specs.Plans.{HasOneAnswer}
use Rattle.run_plans.specs.Commands.{plan_of}
use Rattle.run_plans.specs.Outcome.{HasOneOutcome}

one_answer : (inputs : Inputs) (form : Form) → ((p : ProtocolName) (set : List ℕ) (n : ℕ) → form ≡ Settle p set n → ⊥)
    → HasOneAnswer (told inputs) (plan_of form)
one_answer inputs (Analyse p name n) other = λ bytes set read. tt
one_answer inputs (Refute p name n) other = λ bytes set read. tt
one_answer inputs (Settle p name n) other = absurd (other p name n refl)
one_answer inputs (Check p set cert) other = λ bytes tasks read text file also. tt
one_answer inputs (Confirm p set cert) other = λ bytes tasks read text file also. tt
one_answer inputs (Upgrade p set cert) other = λ bytes tasks read text c also. tt
one_answer inputs (FullReport p set cert) other = λ bytes tasks read text file also. tt
one_answer inputs (Report p name) other = λ bytes set read. tt
one_answer inputs (Conform p set jobs rows) other = λ bytes tasks read b list also c schedule too. tt
one_answer inputs (Simulate p set jobs n) other = λ bytes tasks read b list also. tt
one_answer inputs (Study seed sets) other = tt
one_answer inputs (Audit p set cert jobs rows) other = λ bytes tasks read text file also b list too c schedule last. tt

one_of : (inputs : Inputs) (o : Option Form) → ((form : Form) → o ≡ Some form → HasOneAnswer (told inputs) (plan_of form))
    → MatchOption o (Unit {0}) (λ form. HasOneAnswer (told inputs) (plan_of form))
one_of inputs None each = tt
one_of inputs (Some form) each = each form refl

pub others_have_one : (inputs : Inputs) (words : List (List ℕ))
    → ((p : ProtocolName) (set : List ℕ) (more : List (List ℕ)) → words ≡ settle_words p set more → ⊥) → HasOneOutcome inputs words
others_have_one inputs words other = one_of inputs (form_of words) (λ form is. one_answer inputs form (λ p set n settles.
    (let spelled = subst (λ (f : Form). IsSpelled f words) settles (only_spelled words form is) in other p set spelled.0 spelled.1)))
