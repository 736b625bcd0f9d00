-- What a contract sees of a command: the form of its words.
use Rattle.std.specs.Prelude.{◌≤◌, ℕ, List}
use Rattle.protocol_names.specs.declared.ProtocolName.{ProtocolName}
use Rattle.sporadic_model.specs.declared.limits.TheConstants.{MOST_TICKS}
use Rattle.command_words.specs.Words.{Form, Analyse, Refute, Settle, Check, Confirm, Upgrade, Report, FullReport, Conform, Simulate, Study, Audit}
use Rattle.command_words.specs.declared.words.Command.{Command}
use Rattle.command_words.specs.declared.words.Command.TheVariants as command
use Rattle.command_words.specs.declared.words.Work.{Work}
use Rattle.command_words.specs.declared.words.Work.TheVariants as work
use Rattle.command_words.specs.declared.words.PlainWork.{PlainWork}
use Rattle.command_words.specs.declared.words.PlainWork.TheVariants as plain
use Rattle.command_words.specs.declared.words.TiedWork.{TiedWork}
use Rattle.command_words.specs.declared.words.TiedWork.TheVariants as tied

abbrev pub plain_form : ProtocolName → List ℕ → PlainWork → Form
plain_form protocol set plain.Report = Report protocol set
plain_form protocol set (plain.Conform jobs rows) = Conform protocol set jobs.now rows.now
plain_form protocol set (plain.Simulate jobs ticks) = Simulate protocol set jobs.now ticks

abbrev pub tied_form : ProtocolName → List ℕ → TiedWork → Form
tied_form protocol set (tied.Analyse allowance) = Analyse protocol set allowance
tied_form protocol set (tied.Refute allowance) = Refute protocol set allowance
tied_form protocol set (tied.Settle allowance) = Settle protocol set allowance
tied_form protocol set (tied.Check certificate) = Check protocol set certificate.now
tied_form protocol set (tied.Confirm refusal) = Confirm protocol set refusal.now
tied_form protocol set (tied.Upgrade certificate) = Upgrade protocol set certificate.now
tied_form protocol set (tied.FullReport certificate) = FullReport protocol set certificate.now
tied_form protocol set (tied.Audit inputs) = Audit protocol set inputs.certificate.now inputs.jobs.now inputs.rows.now

abbrev pub form_on : ProtocolName → List ℕ → Work → Form
form_on protocol set (work.Plain plain) = plain_form protocol set plain
form_on protocol set (work.Tied tied) = tied_form protocol set tied

abbrev pub form_seen : Command → Form
form_seen (command.OnSet protocol set work) = form_on protocol set.now work
form_seen (command.Study seed sets) = Study seed sets

-- Are the ticks of a simulation, if the form is one, within the limit of a schedule? Are the sets of a study within the limit of a step?
abbrev pub HasFittingNumbers : Form → Type 0
HasFittingNumbers (Simulate protocol set jobs ticks) = (1 ≤ ticks) × (ticks ≤ MOST_TICKS)
HasFittingNumbers (Study seed sets) = (1 ≤ sets) × (sets ≤ 1000)
HasFittingNumbers _ = Unit {0}
