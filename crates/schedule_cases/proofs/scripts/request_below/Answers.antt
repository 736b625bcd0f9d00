use Rattle.std.proofs.Common.{◌∙◌, sym}
use Rattle.std.proofs.lemmas.List.Folds.{list_all-map}
use Rattle.schedule_model.specs.LawfulJobs.{is_resource_in}
use Rattle.schedule_model.specs.Seen.{segment_seen}
use Rattle.schedule_cases.proofs.scripts.request_below.Goals as goal

pub returns : goal.returns
returns c = c.each_requests_below.ensures ∙ sym (list_all-map (is_resource_in c.args.resources) segment_seen c.args.script.now)
