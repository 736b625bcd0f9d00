use Rattle.std.proofs.Common.{◌∙◌}
use Rattle.std.proofs.lemmas.List.{get_or_default}
use Rattle.whole_runs.specs.declared.stands.Stand.TheVariants.{Outside, Basic}
use Rattle.whole_runs.proofs.choice.first_above.Goals as goal

pub num-requires : goal.num-requires
num-requires c =
    c.requires.places c.loop-v.v c.in-Outside.k c.loop-v-test.true
    (get_or_default c.args.stands.now c.loop-v.v (Basic 0) (Outside 0) c.loop-v-test.true ∙ c.in-Outside.is)
