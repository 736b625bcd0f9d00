use Rattle.std.proofs.Common.{refl, inl}
use Rattle.sporadic_model.specs.declared.ids.Protocol.TheVariants as protocol
use Rattle.protocol_names.specs.declared.ProtocolName.TheVariants as name
use Rattle.run_plans.proofs.CloserGain.{raises_no_bound, stays_shown}
use Rattle.run_plans.proofs.laws.windows_lose_nothing.Goals as goal

pub returns-clause-bounds : goal.returns-clause-bounds
returns-clause-bounds c = λ first second set. raises_no_bound (name.Base protocol.Dpcp) name.DpcpWindows first second set (inl refl)

pub returns-clause-shown : goal.returns-clause-shown
returns-clause-shown c = λ first second set. stays_shown (name.Base protocol.Dpcp) name.DpcpWindows first second set (inl refl)
