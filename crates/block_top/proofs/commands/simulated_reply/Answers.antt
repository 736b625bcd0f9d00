use Rattle.std.proofs.Common.{sym, subst}
use Rattle.sporadic_model.specs.SetDef.{SetDef}
use Rattle.named_laws.specs.Named.{HasHomes}
use Rattle.block_top.proofs.commands.simulated_reply.Goals as goal

pub simulation-requires-clause-suits : goal.simulation-requires-clause-suits
simulation-requires-clause-suits g c =
    subst (λ (s : SetDef). HasHomes c.args.protocol s) (sym c.in_ok-jobs.ensures.holds) c.requires.suits
