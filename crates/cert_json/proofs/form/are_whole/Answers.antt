use Rattle.std.proofs.Common.{◌∙◌, sym, rules, tests}
use Rattle.std.proofs.lemmas.Iterator.{YieldsList-from_slice}
use Rattle.std.proofs.lemmas.Iterator.Search.{all_from_yields_List}
use Rattle.std.proofs.lemmas.List.Folds.{list_all-map}
use Rattle.serde_json.specs.View.{view}
use Rattle.cert_json.specs.FormParts.{is_whole}
use Rattle.cert_json.proofs.form.are_whole.Goals as goal

pub returns : goal.returns
returns c =
    all_from_yields_List (λ x. is_whole (view x)) _ _ _ c.all.ensures.ran (YieldsList-from_slice c.args.values.now cc) (λ x b q k. search (rules, tests))
    ∙ sym (list_all-map is_whole view c.args.values.now)
