use Rattle.std.proofs.Common.{◌∙◌, sym, ap, map}
use Rattle.serde_json.specs.View.{view}
use Rattle.taskset_json.specs.Members.{values_in}
use Rattle.taskset_json.proofs.Views.{values_of-items_view}
use Rattle.taskset_json.proofs.members.list_at.Goals as goal

pub returns-in-Some : goal.returns-in-Some
returns-in-Some c =
    ap (map view) c.as_slice.ensures.value
    ∙ sym (values_of-items_view c.in-Some.list.now.items)
    ∙ ap values_in c.in-Some.ensures
