use Rattle.std.proofs.Common.{◌<◌, ◌+◌, [], ◌∷◌, map, sym, ◌∙◌}
use Rattle.std.proofs.lemmas.Bool.{ltb-true, ltb-false}
use Rattle.std.proofs.lemmas.List.{map-append}
use Rattle.program_form.specs.Certificate.{dual_seen}
use Rattle.refusal_laws.specs.Seen.{step_seen}
use Rattle.refusal_laws.specs.declared.refusal.RefusalStep.{RefusalStep}
use Rattle.refusal_cert.proofs.RunLaws.{none_written, step_written}
use Rattle.refusal_cert.proofs.task_run.write_step.Goals as goal
use Rattle.refusal_cert.proofs.task_run.write_step.Goals.{in-Ok-push, in-Err-push}

pub returns-then-not-gives_step : goal.returns-then-not-gives_step
returns-then-not-gives_step c = none_written c.args.bound c.args.task.0 c.args.value c.args.best.now
    (map step_seen c.args.steps.now.items)
    (ltb-false c.args.bound c.args.value (sym c.gives_step.ensures ∙ c.if-not-gives_step.true))

pub returns : goal.returns
returns c =
    let past : c.args.bound < c.args.value =
    ltb-true c.args.bound c.args.value (sym c.gives_step.ensures ∙ c.if-not-gives_step.false) in
    let step : RefusalStep = record { task = c.args.task.0 + 1; value = c.args.value; point = c.in-Ok.point } in
    elim c.match-push.branch [
      | in-Ok-push w ↦ rw w.result-is (step_written c.args.bound c.args.task.0 c.args.value c.args.best.now (dual_seen c.in-Ok.point)
          (map step_seen c.args.steps.now.items) (map step_seen c.push.new.self.items) past c.in-Ok.ensures
          (rw w.in-Ok-push.ensures.items (map-append step_seen c.args.steps.now.items (step ∷ []))))
      | in-Err-push w ↦ rw w.result-is tt
    ]
