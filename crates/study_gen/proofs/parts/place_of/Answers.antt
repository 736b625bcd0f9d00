use Rattle.std.proofs.Common.{rules}
use Rattle.study_gen.proofs.OrderLaws.{place_is}
use Rattle.study_gen.proofs.parts.place_of.Goals as goal

pub returns : goal.returns
returns c = record {
  value = place_is _ c.args.period c.args.tasks.now _ c.first_longer.ensures.value c.unwrap_or.ensures;
  within = search rules;
}
