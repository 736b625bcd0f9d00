use Rattle.std.proofs.Common.{◌∙◌, sym, rules, tests}
use Rattle.std.proofs.lemmas.Iterator.{YieldsList-from_slice}
use Rattle.std.proofs.lemmas.Iterator.Search.{all_from_yields_List}
use Rattle.std.proofs.lemmas.List.Folds.{list_all-map}
use Rattle.schedule_model.specs.Fitting.{fits_row}
use Rattle.schedule_model.specs.RowDef.{RunDef}
use Rattle.schedule_model.specs.Seen.{run_seen}
use Rattle.schedule_model.proofs.row_list.all_fit.Goals as goal

pub returns : goal.returns
returns c =
    let fits : RunDef → _ = λ run. fits_row c.args.processors c.args.resources c.args.jobs run.row in
    all_from_yields_List (λ x. fits (run_seen x)) _ _ _ c.all.ensures.ran (YieldsList-from_slice c.args.runs.now cc) (λ x b q k. search (rules, tests))
    ∙ sym (list_all-map fits run_seen c.args.runs.now)
