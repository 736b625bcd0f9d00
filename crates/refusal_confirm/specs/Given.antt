-- What the tests of points are given.
use Rattle.std.specs.Prelude.{◌≡◌, ℕ, ◌+◌, ◌<◌, ◌≤◌, List, length}
use Rattle.program_form.specs.Certificate.{DualDef}
use Rattle.program_form.specs.Program.{ProgramDef, height}
use Rattle.program_sources.specs.Recurrence.{SourceDef}
use Rattle.refusal_laws.specs.Steps.{StepDef, HasDenominators, place_of}
use Rattle.refusal_confirm.specs.Batches.{IsTrial, AreTrials}
use Rattle.refusal_confirm.specs.Tests.{HasSize}
use Rattle.refusal_confirm.specs.declared.batches.Trial.{Trial}
use Rattle.sporadic_model.specs.SetDef.{SetDef}
use Rattle.sporadic_model.specs.Bounds.{IsInRange}

-- Has the point a number for each column of the program, and is r one of its rows?
pub record HasSizeForRow (p : ProgramDef) (point : DualDef) (r : ℕ) : Type 0 where
  pub row : r < height p
  pub size : HasSize p point

-- Has it these numbers, over a denominator of at least 1?
pub record IsPointFor (p : ProgramDef) (point : DualDef) : Type 0 where
  pub denominator : 1 ≤ point.den
  pub size : HasSize p point

-- Is it a step of task i of the set whose point has a denominator, and are the bounds ones at which a program can be made?
pub record IsStepOf (set : SetDef) (i : ℕ) (bounds : List ℕ) (s : StepDef) : Type 0 where
  pub task : i < length set.tasks
  pub place : i ≡ place_of s
  pub range : IsInRange set bounds
  pub denominator : 1 ≤ s.point.den

-- Is p the program of task i at the bounds, and has the step's point a number for each of its columns?
pub record IsProgramFor (f : SourceDef) (i : ℕ) (bounds : List ℕ) (s : StepDef) (p : ProgramDef) : Type 0 where
  pub program : p ≡ f.program i bounds
  pub size : HasSize p s.point

-- Can the point of step k be tested? This is the step's trial, and each denominator is at least 1.
pub record IsTestable (set : SetDef) (steps : List StepDef) (k : ℕ) (t : Trial) : Type 0 where
  pub denominators : HasDenominators steps
  pub trial : IsTrial set steps k t

-- Can those of the steps from this one on be tested?
pub record AreTestable (set : SetDef) (steps : List StepDef) (start : ℕ) (tested : List Trial) : Type 0 where
  pub denominators : HasDenominators steps
  pub within : start + length tested ≤ length steps
  pub trials : AreTrials set steps start tested
