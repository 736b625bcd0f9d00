use Rattle.std.proofs.Common.{rules}
use Rattle.std.proofs.lemmas.Bool.Decides.{Decides-eqb}
use Rattle.sim_engine.proofs.NamedPlaces.{places_decide}
use Rattle.sim_engine.proofs.places.are_same.Goals as goal

pub returns : goal.returns
returns c = places_decide _ (λ a b. search (rules, Decides-eqb)) c.args.a.now c.args.b.now c.eq.result c.eq.ensures
