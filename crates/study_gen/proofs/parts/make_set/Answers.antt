use Rattle.std.proofs.Common.{◌≡◌, ℕ, ◌∙◌, sym, ap, subst, arith}
use Rattle.sporadic_model.specs.SetDef.{SetDef}
use Rattle.sporadic_model.specs.Accepted.{IsAccepted}
use Rattle.sporadic_model.specs.Homes.{EachHasHome}
use Rattle.study_gen.specs.Sets.{task_drawn, behind_tasks}
use Rattle.study_gen.proofs.SetLaws.{placed_more, behind_more, made_parts, set_is_accepted, set_has_homes}
use Rattle.study_gen.proofs.parts.make_set.Goals as goal

pub loop-j-preserved : goal.loop-j-preserved
loop-j-preserved c =
    let placed = rw (c.loop-j.invariant.tasks) at c.in_ok-put_in_place.ensures in
    record {
      tasks = placed_more c.args.step c.args.state c.loop-j.j _ _ placed
          (c.in_ok-task.ensures.task ∙ ap (λ s. task_drawn c.args.step c.loop-j.j s) c.loop-j.invariant.state);
      state = behind_more c.args.state c.loop-j.j _ _ c.loop-j.invariant.state c.in_ok-task.ensures.state;
    }

pub returns-clause-parts : goal.returns-clause-parts
returns-clause-parts c = made_parts c.args.step c.args.state c.loop-j.j _ _ c.in_ok-make_resources.ensures
    c.loop-j.invariant.tasks (omega arith)

pub returns-clause-state : goal.returns-clause-state
returns-clause-state c =
    let all : c.loop-j.j ≡ 8 = omega arith in
    c.loop-j.invariant.state ∙ ap (λ (j : ℕ). behind_tasks c.args.state j) all

pub returns-clause-accepted : goal.returns-clause-accepted
returns-clause-accepted c =
    let is = made_parts c.args.step c.args.state c.loop-j.j _ _ c.in_ok-make_resources.ensures c.loop-j.invariant.tasks (omega arith) in
    subst (λ (x : SetDef). IsAccepted x) (sym is)
    (set_is_accepted c.args.step c.args.state (omega (arith, c.requires.from)) (omega (arith, c.requires.to)))

pub returns-clause-homes : goal.returns-clause-homes
returns-clause-homes c =
    let is = made_parts c.args.step c.args.state c.loop-j.j _ _ c.in_ok-make_resources.ensures c.loop-j.invariant.tasks (omega arith) in
    subst (λ (x : SetDef). EachHasHome x) (sym is) (set_has_homes c.args.step c.args.state)
