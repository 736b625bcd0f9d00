use Rattle.std.proofs.Common.{sym, ◌∙◌, rules, tests}
use Rattle.std.specs.Str.{bytes_eq}
use Rattle.std.specs.Prelude.{string_bytes}
use Rattle.std.proofs.lemmas.Iterator.{YieldsList-from_slice}
use Rattle.std.proofs.lemmas.Iterator.Search.{position_from_yields_List}
use Rattle.sporadic_model.specs.Seen.{resource_seen}
use Rattle.sporadic_model.proofs.Mapped.{position-map}
use Rattle.sporadic_model.proofs.lookup.place_of_resource.Goals as goal

pub returns : goal.returns
returns c =
    position_from_yields_List (λ x. bytes_eq (string_bytes x.name) c.args.name.now) _ _ _ c.position.ensures.ran
    (YieldsList-from_slice c.args.resources.now cc) (λ x b q k. search (rules, tests))
    ∙ sym (position-map resource_seen (λ x. bytes_eq x.name c.args.name.now) c.args.resources.now)
