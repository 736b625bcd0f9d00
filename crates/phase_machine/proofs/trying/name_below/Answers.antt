use Rattle.std.proofs.Common.{◌∙◌, sym, rules, tests}
use Rattle.std.proofs.lemmas.Iterator.{YieldsList-from_slice}
use Rattle.std.proofs.lemmas.Iterator.Search.{all_from_yields_List}
use Rattle.std.proofs.lemmas.List.Folds.{list_all-map}
use Rattle.schedule_model.specs.Fitting.{is_below}
use Rattle.schedule_model.specs.Seen.{place_seen}
use Rattle.phase_machine.proofs.trying.name_below.Goals as goal

pub returns : goal.returns
returns c =
    all_from_yields_List (λ x. is_below c.args.jobs (place_seen x)) _ _ _ c.all.ensures.ran (YieldsList-from_slice c.args.places.now cc) (λ x b q k. search (rules, tests))
    ∙ sym (list_all-map (is_below c.args.jobs) place_seen c.args.places.now)
