-- What a study counts: how many of the sets of each step are schedulable under each protocol.
use Rattle.std.specs.Prelude.{◌≡◌, ◌⊎◌, ℕ, zero, suc, ◌+◌, List, length, Some, slice_get, slice_index}
use Rattle.program_form.specs.Certificate.{DualDef}
use Rattle.sporadic_model.specs.SetDef.{SetDef}
use Rattle.sporadic_model.specs.declared.ids.Protocol.{Protocol}
use Rattle.sporadic_model.specs.declared.ids.Protocol.TheVariants as protocol
use Rattle.response_fixpoint.specs.Rounds.{EndsIn, Schedulable, Wide, Allowance}
use Rattle.response_fixpoint.specs.Runs.{rounds_of}
use Rattle.program_laws.specs.Programs.{source_of}
use Rattle.study_gen.specs.Sets.{set_made, behind_set}
use Rattle.study_gen.specs.declared.counting.StudyCounts.{StudyCounts}

-- Do the rounds of the set end in Schedulable with the study's allowance?
abbrev pub IsShown : Protocol → SetDef → Type 0
IsShown p set = (bounds : List ℕ) × (duals : List DualDef) × EndsIn (rounds_of (source_of p set)) 1000000 (Schedulable bounds duals)

-- Do they end in Wide or Allowance?
abbrev pub IsStopped : Protocol → SetDef → Type 0
IsStopped p set = ((i : ℕ) × EndsIn (rounds_of (source_of p set)) 1000000 (Wide i)) ⊎ (EndsIn (rounds_of (source_of p set)) 1000000 Allowance)

-- Do exactly c of the numbers below n have the property?
abbrev pub Counts : (ℕ → Type 0) → ℕ → ℕ → Type 0
Counts P zero c = c ≡ 0
Counts P (suc n) c = (P n × (b : ℕ) × (Counts P n b) × (c ≡ b + 1)) ⊎ ((P n → ⊥) × Counts P n c)

-- The state after n sets that are made one after another.
abbrev pub behind_sets : ℕ → ℕ → ℕ
behind_sets s zero = s
behind_sets s (suc n) = behind_set (behind_sets s n)

-- Set number k of a step whose sets begin at the state s.
abbrev pub set_of_step : ℕ → ℕ → ℕ → SetDef
set_of_step step s k = set_made step (behind_sets s k)

-- The state at which the sets of step number i begin, counted from 0: step 1 is number 0.
abbrev pub step_begins : ℕ → ℕ → ℕ → ℕ
step_begins seed sets zero = seed
step_begins seed sets (suc i) = behind_sets (step_begins seed sets i) sets

-- Are exactly c of the step's sets schedulable under the protocol?
abbrev pub CountsShown : Protocol → ℕ → ℕ → ℕ → ℕ → Type 0
CountsShown p step s sets c = Counts (λ k. IsShown p (set_of_step step s k)) sets c

-- Did exactly c of their analyses stop?
abbrev pub CountsStopped : Protocol → ℕ → ℕ → ℕ → ℕ → Type 0
CountsStopped p step s sets c = Counts (λ k. IsStopped p (set_of_step step s k)) sets c

-- Did exactly this many analyses of the first i steps stop, of all protocols together?
abbrev pub StoppedBefore : ℕ → ℕ → ℕ → ℕ → Type 0
StoppedBefore seed sets zero c = c ≡ 0
StoppedBefore seed sets (suc i) c = (before : ℕ) × (a : ℕ) × (b : ℕ) × (d : ℕ) × (StoppedBefore seed sets i before)
    × (CountsStopped protocol.Mpcp (i + 1) (step_begins seed sets i) sets a)
    × (CountsStopped protocol.FmlpPlus (i + 1) (step_begins seed sets i) sets b)
    × (CountsStopped protocol.Dpcp (i + 1) (step_begins seed sets i) sets d) × (c ≡ before + a + b + d)

-- Are these the three counts of step number i: of schedulable sets under MPCP, FMLP+ and DPCP?
pub record IsStepCount (seed sets i : ℕ) (row : List ℕ) : Type 0 where
  pub mpcp : CountsShown protocol.Mpcp (i + 1) (step_begins seed sets i) sets (slice_index row 0)
  pub fmlp : CountsShown protocol.FmlpPlus (i + 1) (step_begins seed sets i) sets (slice_index row 1)
  pub dpcp : CountsShown protocol.Dpcp (i + 1) (step_begins seed sets i) sets (slice_index row 2)

-- Are these the counts of the study: those of its eight steps, and how many analyses stopped?
pub record IsStudy (seed sets : ℕ) (c : StudyCounts) : Type 0 where
  pub steps : length c.counts.items ≡ 8
  pub shown : (i : ℕ) (row : List ℕ) → slice_get c.counts.items i ≡ Some row → IsStepCount seed sets i row
  pub stopped : StoppedBefore seed sets 8 c.stopped
