use Rattle.std.proofs.Common.{ap, sym, ◌∙◌, rules, tests}
use Rattle.std.specs.Str.{bytes_eq}
use Rattle.std.specs.Prelude.{string_bytes}
use Rattle.std.specs.Option.{option_map}
use Rattle.std.proofs.lemmas.Iterator.{YieldsList-from_slice}
use Rattle.std.proofs.lemmas.Iterator.Search.{find_from_yields_List}
use Rattle.sporadic_model.specs.Seen.{request_seen}
use Rattle.sporadic_model.proofs.Mapped.{find-map, option_map-twice}
use Rattle.sporadic_model.proofs.lookup.entry_for.Goals as goal

pub returns : goal.returns
returns c =
    sym (option_map-twice request_seen (λ e. e.now) c.find.result)
    ∙ ap (option_map request_seen) (find_from_yields_List (λ x. bytes_eq (string_bytes x.resource) c.args.name.now) _ _ c.find.result
    c.find.ensures.ran (YieldsList-from_slice c.args.entries.now cc) (λ x b q k. search (rules, tests)))
    ∙ sym (find-map request_seen (λ e. bytes_eq e.resource c.args.name.now) c.args.entries.now)
