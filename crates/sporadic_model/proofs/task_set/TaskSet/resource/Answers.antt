use Rattle.std.proofs.Common.{subst, ap, ◌∙◌, map}
use Rattle.std.specs.List.{slice_index_or}
use Rattle.sporadic_model.specs.SetDef.{resource_at, no_resource}
use Rattle.sporadic_model.specs.Seen.{resource_seen}
use Rattle.sporadic_model.specs.Accepted.{IsAccepted}
use Rattle.sporadic_model.proofs.Laws.{sizes_of_accepted, homes_of_accepted}
use Rattle.sporadic_model.proofs.task_set.TaskSet.resource.Goals as goal

pub returns : goal.returns
returns c =
    let accepted : IsAccepted c.args.self.now = subst IsAccepted c.self.view_is c.self.invariant.accepted in
    record {
      seen = c.resource_part.ensures ∙ ap (λ l. slice_index_or (map resource_seen l) c.args.q.0 no_resource) c.deref.ensures.value
          ∙ ap (λ s. resource_at s c.args.q.0) c.self.view_is;
      homes = homes_of_accepted c.args.self.now accepted;
      sizes = sizes_of_accepted c.args.self.now accepted;
    }
