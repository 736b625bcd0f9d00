use Rattle.std.proofs.Common.{◌≡◌, List, [], map, length, ap, ◌∙◌, sym, subst, arith}
use Rattle.std.specs.List.{slice_index_or}
use Rattle.std.proofs.lemmas.List.{length-map}
use Rattle.sporadic_model.specs.SetDef.{SetDef, task_at, resource_at}
use Rattle.sporadic_model.specs.Accepted.{IsAccepted}
use Rattle.sporadic_model.specs.Demands.{demands_in, demand_for, IsDemand}
use Rattle.sporadic_model.specs.declared.demands.Demand.{Demand}
use Rattle.sporadic_model.proofs.Kept.{rows_kept, row_length, demand_kept, demand_ranges}
use Rattle.sporadic_model.proofs.Laws.{numbers_of_accepted}
use Rattle.sporadic_model.proofs.task_set.TaskSet.demand.Goals as goal

pub demand_at-requires : goal.demand_at-requires
demand_at-requires c =
    let set : SetDef = c.args.self.now in
    let rows : List (List Demand) = map (λ row. row.items) c.deref.result.now in
    let kept : rows ≡ demands_in set =
    ap (map (λ row. row.items)) c.deref.ensures.value ∙ c.self.invariant.demands ∙ ap demands_in c.self.view_is in
    let many : length rows ≡ length set.tasks = rows_kept set rows kept in
    let same : length rows ≡ length c.deref.result.now = length-map c.deref.result.now (λ row. row.items) in
    let long : length (slice_index_or rows c.args.x.0 []) ≡ length set.resources = row_length set rows c.args.x.0 kept c.requires.task in
    record { row = omega (arith, c.requires.task, many, same); entry = omega (arith, c.requires.resource, long) }

pub returns : goal.returns
returns c =
    let set : SetDef = c.args.self.now in
    let rows : List (List Demand) = map (λ row. row.items) c.deref.result.now in
    let kept : rows ≡ demands_in set =
    ap (map (λ row. row.items)) c.deref.ensures.value ∙ c.self.invariant.demands ∙ ap demands_in c.self.view_is in
    let accepted : IsAccepted set = subst IsAccepted c.self.view_is c.self.invariant.accepted in
    let same : c.demand_at.result ≡ demand_for (task_at set c.args.x.0) (resource_at set c.args.q.0) =
    c.demand_at.ensures ∙ demand_kept set rows c.args.x.0 c.args.q.0 kept c.requires.task c.requires.resource in
    record {
      count = ap (λ d. d.count) same;
      length = ap (λ d. d.length) same;
      numbers = subst (IsDemand set c.args.x.0) (sym same) (demand_ranges set c.args.x.0 c.args.q.0 accepted c.requires.task);
      task = numbers_of_accepted set c.args.x.0 accepted c.requires.task;
    }
