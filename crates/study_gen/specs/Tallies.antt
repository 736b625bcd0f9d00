-- How the counts of a study grow, set by set.
use Rattle.std.specs.Prelude.{◌≡◌, ℕ, ◌+◌, ◌<◌, ◌≤◌}
use Rattle.sporadic_model.specs.SetDef.{SetDef}
use Rattle.sporadic_model.specs.declared.ids.Protocol.{Protocol}
use Rattle.sporadic_model.specs.declared.ids.Protocol.TheVariants as protocol
use Rattle.study_gen.specs.Sets.{behind_set}
use Rattle.study_gen.specs.Counts.{IsShown, IsStopped, CountsShown, CountsStopped, behind_sets}
use Rattle.study_gen.specs.declared.counting.Outcome.{Outcome}
use Rattle.study_gen.specs.declared.counting.Outcome.TheVariants as outcome
use Rattle.study_gen.specs.declared.counting.Tally.{Tally}
use Rattle.study_gen.specs.declared.counting.StepTally.{StepTally}

-- Does the analysis of the set under the protocol end in this way?
abbrev pub IsOutcome : Outcome → Protocol → SetDef → Type 0
IsOutcome outcome.Shown p set = IsShown p set × (IsStopped p set → ⊥)
IsOutcome outcome.NotShown p set = (IsShown p set → ⊥) × (IsStopped p set → ⊥)
IsOutcome outcome.Stopped p set = (IsShown p set → ⊥) × IsStopped p set

-- Has the tally room for one more analysis?
pub record HasRoom (t : Tally) : Type 0 where
  pub shown : t.shown < 1000
  pub stopped : t.stopped < 1000

-- Has each tally of a step room for one more?
pub record HaveRoom (t : StepTally) : Type 0 where
  pub mpcp : HasRoom t.mpcp
  pub fmlp : HasRoom t.fmlp
  pub dpcp : HasRoom t.dpcp

-- The tally with one more analysis.
abbrev pub tally_with : Tally → Outcome → Tally
tally_with t outcome.Shown = record { shown = t.shown + 1; stopped = t.stopped }
tally_with t outcome.NotShown = t
tally_with t outcome.Stopped = record { shown = t.shown; stopped = t.stopped + 1 }

-- Has the tally grown by the analysis of this set?
abbrev pub Adds : Tally → Tally → Protocol → SetDef → Type 0
Adds before after p set = (o : Outcome) × (IsOutcome o p set) × (after ≡ tally_with before o)

-- Have the tallies of a step grown by this set, and is the state now the one after it?
pub record AddsSet (before after : StepTally) (set : SetDef) : Type 0 where
  pub mpcp : Adds before.mpcp after.mpcp protocol.Mpcp set
  pub fmlp : Adds before.fmlp after.fmlp protocol.FmlpPlus set
  pub dpcp : Adds before.dpcp after.dpcp protocol.Dpcp set
  pub state : after.state ≡ behind_set before.state

-- Is this the tally of the first n sets of a step under the protocol?
pub record IsTally (p : Protocol) (step s n : ℕ) (t : Tally) : Type 0 where
  pub shown : CountsShown p step s n t.shown
  pub stopped : CountsStopped p step s n t.stopped
  pub shown_most : t.shown ≤ n
  pub stopped_most : t.stopped ≤ n

-- Are these the tallies of all three protocols, and the state after the sets?
pub record IsStepTally (step s n : ℕ) (t : StepTally) : Type 0 where
  pub mpcp : IsTally protocol.Mpcp step s n t.mpcp
  pub fmlp : IsTally protocol.FmlpPlus step s n t.fmlp
  pub dpcp : IsTally protocol.Dpcp step s n t.dpcp
  pub state : t.state ≡ behind_sets s n
