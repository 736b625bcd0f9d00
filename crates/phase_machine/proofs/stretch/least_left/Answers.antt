use Rattle.std.proofs.Common.{◌≡◌, ◌+◌, get_or, map, Some, None, subst, sym, ap, ◌∙◌, arith, min}
use Rattle.schedule_model.specs.Seen.{place_seen}
use Rattle.phase_machine.specs.MachineDef.{task_in, no_place}
use Rattle.phase_machine.specs.Stretch.{left_at}
use Rattle.phase_machine.specs.Least.{IsLeastOf, IsLeft}
use Rattle.phase_machine.proofs.Named.{seen_at}
use Rattle.phase_machine.proofs.TakenColumns.{current_job}
use Rattle.phase_machine.proofs.Least.{least_left_named, least_left_unnamed}
use Rattle.phase_machine.proofs.stretch.least_left.Goals.{in-Some, in_default}
use Rattle.phase_machine.proofs.stretch.least_left.Goals as goal

pub left_of-requires : goal.left_of-requires
left_of-requires c =
    current_job c.args.jobs.now c.args.places.now (map place_seen c.args.running.now) c.loop-named.named-index c.in-Some.j.0
    c.list_is_lawful.ensures.lawful c.requires.at
    (seen_at c.args.running.now c.loop-named.named-index (Some c.in-Some.j) c.loop-named-test.true c.in-Some.is)

pub loop-named-preserved : goal.loop-named-preserved
loop-named-preserved c = elim c.match-named.branch [
  | in-Some w ↦
      let e : get_or (map place_seen c.args.running.now) c.loop-named.named-index None ≡ Some w.in-Some.j.0 =
      seen_at c.args.running.now c.loop-named.named-index (Some w.in-Some.j) c.loop-named-test.true w.in-Some.is in
      let value : c.match-named.least ≡ min c.loop-named.least
      (left_at c.args.jobs.now.jobs (get_or c.args.places.now (task_in c.args.jobs.now.jobs w.in-Some.j.0) no_place)) =
      w.least-is ∙ w.min-least.ensures ∙ ap (min c.loop-named.least) w.left_of.ensures.value in
      record {
        some = omega (arith, w.least-is, w.min-least.ensures, c.loop-named.invariant.some, w.left_of.ensures.some);
        least = subst
            (IsLeastOf c.args.most (IsLeft c.args.jobs.now.jobs c.args.places.now (map place_seen c.args.running.now)
            (c.loop-named.named-index + 1))) (sym value)
            (least_left_named c.args.jobs.now.jobs c.args.places.now (map place_seen c.args.running.now) c.args.most
            c.loop-named.least c.loop-named.named-index w.in-Some.j.0 e
            c.loop-named.invariant.least);
      }
  | in_default w ↦ record {
    some = omega (arith, w.least-is, c.loop-named.invariant.some);
    least = subst
        (IsLeastOf c.args.most (IsLeft c.args.jobs.now.jobs c.args.places.now (map place_seen c.args.running.now)
        (c.loop-named.named-index + 1))) (sym w.least-is)
        (least_left_unnamed c.args.jobs.now.jobs c.args.places.now (map place_seen c.args.running.now) c.args.most
        c.loop-named.least c.loop-named.named-index
        (seen_at c.args.running.now c.loop-named.named-index None c.loop-named-test.true w.in_default.is) c.loop-named.invariant.least);
  }
]
