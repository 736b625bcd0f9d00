-- A protocol chooses one schedule for jobs, by its name.
use Rattle.std.proofs.Common.{◌≡◌, ℕ, List, refl, sym, ◌∙◌, arith}
use Rattle.sporadic_model.specs.declared.ids.Protocol.TheVariants as protocol
use Rattle.schedule_model.specs.JobDef.{JobsDef}
use Rattle.schedule_model.specs.RowDef.{RunDef, Trace, trace_in}
use Rattle.schedule_laws.specs.Agreement.{AgreeBefore}
use Rattle.schedule_laws.proofs.SharedChoice.{mpcp_choice_one, fmlp_plus_choice_one, schedules_one}
use Rattle.schedule_laws.proofs.DpcpChoice.{dpcp_choice_one}
use Rattle.sim_engine.specs.Simulated.{IsSimulated}
use Rattle.sim_engine.proofs.JoinedRuns.{joined_once}
use Rattle.protocol_names.specs.declared.ProtocolName.{ProtocolName}
use Rattle.protocol_names.specs.declared.ProtocolName.TheVariants as name
use Rattle.named_laws.specs.Named.{choice_of}
use Rattle.named_laws.proofs.DflpChoice.{dflp_choice_one}
use Rattle.spin_rules.proofs.SpinChoice.{spin_choice_one}

-- After the same rows each protocol has at most one chosen row.
choice_one : (n : ProtocolName) (v w : Trace) (t : ℕ) → AgreeBefore v w t → choice_of n v t → choice_of n w t → v.row t ≡ w.row t
choice_one (name.Base protocol.Mpcp) v w t same c d = mpcp_choice_one v w t same c d
choice_one (name.Base protocol.FmlpPlus) v w t same c d = fmlp_plus_choice_one v w t same c d
choice_one (name.Base protocol.Dpcp) v w t same c d = dpcp_choice_one v w t same c d
choice_one name.Dflp v w t same c d = dflp_choice_one v w t same c d
choice_one name.Spin v w t same c d = spin_choice_one v w t same c d
choice_one name.DpcpWindows v w t same c d = dpcp_choice_one v w t same c d
choice_one name.FmlpPlusCloser v w t same c d = fmlp_plus_choice_one v w t same c d
choice_one name.SpinCloser v w t same c d = spin_choice_one v w t same c d
choice_one name.DpcpCloser v w t same c d = dpcp_choice_one v w t same c d
choice_one name.DflpCloser v w t same c d = dflp_choice_one v w t same c d
choice_one name.MpcpCloser v w t same c d = mpcp_choice_one v w t same c d

pub named_simulated_once : (p : ProtocolName) (jobs : JobsDef) (n : ℕ) (a b : List RunDef) → IsSimulated (choice_of p) jobs n a
    → IsSimulated (choice_of p) jobs n b → a ≡ b
named_simulated_once p jobs n a b s r =
    let v = trace_in jobs a in
    let w = trace_in jobs b in
    let same : AgreeBefore v w n = schedules_one (choice_of p) v w n (λ t. choice_one p v w t) refl refl s.chosen r.chosen in
    joined_once a b s.lasting r.lasting s.joined r.joined (s.ticks ∙ sym r.ticks) (λ t l. same.rows t (omega (arith, s.ticks, l)))
