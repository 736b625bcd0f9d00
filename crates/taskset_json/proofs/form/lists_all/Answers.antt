use Rattle.std.proofs.Common.{◌∙◌, rules, tests, string_bytes}
use Rattle.std.specs.List.{list_any}
use Rattle.std.specs.BTreeMap.{keys}
use Rattle.std.specs.Str.{bytes_eq}
use Rattle.std.proofs.lemmas.Iterator.Consumers.{YieldsList-from_rest}
use Rattle.std.proofs.lemmas.Iterator.Search.{all_from_yields_List}
use Rattle.taskset_json.proofs.Views.{each_listed}
use Rattle.taskset_json.proofs.form.lists_all.Goals as goal

pub returns : goal.returns
returns c =
    all_from_yields_List (λ name. list_any (λ m. bytes_eq m.name.now (string_bytes name)) c.args.form.now) _ _ _ c.all.ensures.ran
    (YieldsList-from_rest (keys c.args.members.now) cc) (λ x b q k. search (rules, tests))
    ∙ each_listed c.args.form.now c.args.members.now.entries
