use Rattle.std.proofs.Common.{sym, ◌∙◌, rules, tests}
use Rattle.std.specs.Str.{bytes_eq}
use Rattle.std.specs.Prelude.{string_bytes}
use Rattle.std.proofs.lemmas.Iterator.{YieldsList-from_slice}
use Rattle.std.proofs.lemmas.Iterator.Search.{any_from_yields_List}
use Rattle.sporadic_model.specs.Seen.{request_seen}
use Rattle.sporadic_model.proofs.Mapped.{list_any-map}
use Rattle.sporadic_model.proofs.names.is_entry_for.Goals as goal

pub returns : goal.returns
returns c =
    any_from_yields_List (λ x. bytes_eq (string_bytes x.resource) c.args.name.now) _ _ _ c.any.ensures.ran
    (YieldsList-from_slice c.args.entries.now cc) (λ x b q k. search (rules, tests))
    ∙ sym (list_any-map request_seen (λ x. bytes_eq x.resource c.args.name.now) c.args.entries.now)
