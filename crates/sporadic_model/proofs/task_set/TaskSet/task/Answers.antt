use Rattle.std.proofs.Common.{subst, ap, ◌∙◌, map}
use Rattle.std.specs.List.{slice_index_or}
use Rattle.sporadic_model.specs.SetDef.{task_at, no_task}
use Rattle.sporadic_model.specs.Seen.{task_seen}
use Rattle.sporadic_model.specs.Accepted.{IsAccepted}
use Rattle.sporadic_model.proofs.Laws.{numbers_of_accepted, sizes_of_accepted}
use Rattle.sporadic_model.proofs.task_set.TaskSet.task.Goals as goal

pub returns : goal.returns
returns c =
    let accepted : IsAccepted c.args.self.now = subst IsAccepted c.self.view_is c.self.invariant.accepted in
    record {
      seen = c.task_part.ensures ∙ ap (λ l. slice_index_or (map task_seen l) c.args.x.0 no_task) c.deref.ensures.value
          ∙ ap (λ s. task_at s c.args.x.0) c.self.view_is;
      accepted = accepted;
      numbers = numbers_of_accepted c.args.self.now c.args.x.0 accepted c.requires;
      sizes = sizes_of_accepted c.args.self.now accepted;
    }
