use Rattle.std.proofs.Common.{[], ◌∙◌, ap, refl}
use Rattle.serde_json.specs.View.{view}
use Rattle.taskset_json.specs.Form.{is_object_of}
use Rattle.taskset_json.proofs.Lists.{cons_same}
use Rattle.cert_json.proofs.form.has_old_members.Goals as goal

pub returns : goal.returns
returns c =
    c.is_object_of.ensures
    ∙ ap (λ form. is_object_of form (view c.args.value.now))
    (cons_same c.must.ensures (cons_same c.must-2.ensures
    (cons_same c.must-3.ensures (cons_same c.must-4.ensures (cons_same {xs = []} {ys = []} c.must-5.ensures refl)))))
