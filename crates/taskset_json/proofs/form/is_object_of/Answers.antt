use Rattle.std.proofs.Common.{◌∙◌, sym}
use Rattle.std.proofs.lemmas.List.Folds.{list_all-map}
use Rattle.serde_json.specs.View.{view}
use Rattle.taskset_json.specs.Form.{gives}
use Rattle.taskset_json.specs.Seen.{member_seen}
use Rattle.taskset_json.proofs.form.is_object_of.Goals as goal

pub returns-then-has_listed_only : goal.returns-then-has_listed_only
returns-then-has_listed_only c =
    rw (sym c.has_listed_only.ensures ∙ c.if-has_listed_only.true)
    (c.gives_all.ensures ∙ sym (list_all-map (gives (view c.args.value.now)) member_seen c.args.form.now))
