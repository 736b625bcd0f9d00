-- The laws of `BlockingProtocol` for spin locks.
use Rattle.std.proofs.Common.{ℕ, sym, ◌∙◌}
use Rattle.schedule_model.specs.declared.rule.Rule.TheVariants as rule
use Rattle.schedule_model.specs.RowDef.{Trace}
use Rattle.schedule_model.specs.SharedRules.{KeepsRun, KeepsGrant}
use Rattle.schedule_model.specs.Ranks.{fmlp_plus}
use Rattle.schedule_model.specs.Keeping.{KeepsRow}
use Rattle.schedule_model.specs.BlockedTicks.{is_shared_interference}
use Rattle.schedule_model.specs.ProtocolLaws.{IsSoundRow}
use Rattle.schedule_laws.proofs.ActiveJobs.{requester_listed}
use Rattle.schedule_laws.proofs.Rows.{ready_active, ready_listed}
use Rattle.schedule_laws.proofs.SharedLaws.{shared_interfering}
use Rattle.spin_rules.specs.SpinRules.{spin_rule}

-- A row that keeps the rules is sound.
pub spin_sound_row : (w : Trace) (t : ℕ) → KeepsRow spin_rule w t → IsSoundRow is_shared_interference w t
spin_sound_row w t keeps =
    let run : KeepsRun w t = keeps rule.Run in
    let grant : KeepsGrant fmlp_plus w t = keeps rule.Grant in
    record {
      running_listed = λ k j e. ready_listed w t j (run.ready k j e);
      holders_listed = λ q j e. requester_listed w t q j (grant.requests q j e);
      active = λ k j e. ready_active w t j (run.ready k j e);
      one_column = λ k l j e f. run.column k j e ∙ sym (run.column l j f);
      interfering = λ j h. shared_interfering w t j h;
    }
