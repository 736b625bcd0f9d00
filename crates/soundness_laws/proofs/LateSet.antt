-- The worked set with a jitter: its certificate is valid, and a schedule reaches the second task's bound.
use Rattle.std.proofs.Common.{◌≡◌, ℕ, zero, suc, ◌<◌, ◌≤◌, [], ◌∷◌, refl, sym, ◌∙◌, arith}
use Rattle.std.specs.Prelude.{slice_index}
use Rattle.std.proofs.lemmas.Bool.{leb-true}
use Rattle.sporadic_model.specs.Accepted.{IsAccepted}
use Rattle.sporadic_model.specs.Refusals.{is_due, size_refusals}
use Rattle.sporadic_model.specs.declared.ids.Protocol.TheVariants as protocol
use Rattle.sporadic_model.proofs.Ranges.{accepted_from_free}
use Rattle.schedule_model.specs.RowDef.{runs_in}
use Rattle.schedule_model.specs.Phase.{phase_from, executed, phase_of}
use Rattle.schedule_model.specs.Phase.Phase.{Local, Finished}
use Rattle.schedule_model.specs.BlockedTicks.{is_shared_interference}
use Rattle.schedule_model.specs.Ranks.{fmlp_plus}
use Rattle.schedule_model.specs.Protocols.{shared_rule}
use Rattle.schedule_model.proofs.WorkedFiles.{trace_jit}
use Rattle.schedule_model.proofs.JitterExamples.{jit_lawful, jit_keeps_fmlp}
use Rattle.program_sources.specs.Valid.{IsValid, IsProvedBound, value_at}
use Rattle.program_laws.specs.Programs.{source_of}
use Rattle.soundness_laws.specs.Sound.{IsLawfulSchedule, KeepsBounds, Sound}
use Rattle.soundness_laws.specs.Analyses.{AreValues}
use Rattle.soundness_laws.specs.Worked.{late_tasks, bounds_alone}
use Rattle.soundness_laws.proofs.WorkedSet.{proved_from}

pub late_accepted : IsAccepted late_tasks
unfolding is_due size_refusals
late_accepted = accepted_from_free late_tasks refl

pub late_valid : IsValid (source_of protocol.FmlpPlus late_tasks) (bounds_alone (2 ∷ 9 ∷ []))
late_valid = record { bound_each = refl; dual_each = refl; proved = proved } where
  proved : (i : ℕ) → i < 2 → IsProvedBound (source_of protocol.FmlpPlus late_tasks) (bounds_alone (2 ∷ 9 ∷ [])) i
  proved zero l = proved_from _ _ 0 refl refl (omega arith) refl refl
  proved (suc zero) l = proved_from _ _ 1 refl refl (omega arith) refl refl
  proved (suc (suc i)) l = absurd (omega arith)

pub late_values : AreValues (source_of protocol.FmlpPlus late_tasks) (bounds_alone (2 ∷ 9 ∷ [])) (0 ∷ 0 ∷ [])
late_values = record { one_each = refl; each = each } where
  each : (i : ℕ) → i < 2
      → slice_index (0 ∷ 0 ∷ []) i ≡ value_at (source_of protocol.FmlpPlus late_tasks) (bounds_alone (2 ∷ 9 ∷ [])) i
  each zero l = refl
  each (suc zero) l = refl
  each (suc (suc i)) l = absurd (omega arith)

-- With the jitter of 4 a bound of 7 is above the deadline of 10.
pub too_late : IsValid (source_of protocol.FmlpPlus late_tasks) (bounds_alone (7 ∷ 9 ∷ [])) → ⊥
too_late valid = let within : 7 ≤ 6 = (valid.proved 0 (leb-true _ _ refl)).within in omega arith

schedule : IsLawfulSchedule (shared_rule fmlp_plus) late_tasks trace_jit 13
schedule = record { set_is = refl; jobs = jit_lawful; rows = jit_keeps_fmlp }

-- The second task's job is released at tick 4, and not finished at tick 12.
twelfth : phase_of trace_jit 12 2 ≡ Local
unfolding phase_of phase_from executed runs_in
twelfth = refl

pub late_bound_is_reached : Sound (shared_rule fmlp_plus) is_shared_interference late_tasks (2 ∷ 8 ∷ []) (0 ∷ 0 ∷ []) → ⊥
late_bound_is_reached sound =
    let kept : KeepsBounds is_shared_interference trace_jit 13 (2 ∷ 8 ∷ []) (0 ∷ 0 ∷ []) = sound trace_jit 13 schedule in
    let done : phase_of trace_jit 12 2 ≡ Finished = kept.finished 2 (leb-true _ _ refl) (leb-true _ _ refl) in
    let apart : Local ≡ Finished = sym twelfth ∙ done in
    cc
