use Rattle.std.proofs.Common.{◌≡◌, get_or, map, Some, None, refl, ◌∙◌, ap}
use Rattle.schedule_model.specs.Seen.{place_seen}
use Rattle.phase_machine.specs.MachineDef.{no_place}
use Rattle.phase_machine.proofs.Named.{seen_at, in_columns}
use Rattle.phase_machine.proofs.TakenColumns.{column_moves, moved_past, still_current}
use Rattle.phase_machine.proofs.stepping.step_all.Goals.{in-Some, in_default}
use Rattle.phase_machine.proofs.stepping.step_all.Goals as goal

pub step_one-requires-clause-at : goal.step_one-requires-clause-at
step_one-requires-clause-at c =
    still_current c.args.jobs.now c.args.after c.args.more (map place_seen c.args.running.now) c.loop-named.named-index
    c.in-Some.j.0 c.args.places.now c.loop-named.places c.list_is_lawful.ensures.lawful c.requires.at
    (seen_at c.args.running.now c.loop-named.named-index (Some c.in-Some.j) c.loop-named-test.true c.in-Some.is)
    c.loop-named.invariant.len c.loop-named.invariant.moved

pub loop-named-preserved : goal.loop-named-preserved
loop-named-preserved c = elim c.match-named.branch [
  | in-Some w ↦
      let e : get_or (map place_seen c.args.running.now) c.loop-named.named-index None ≡ Some w.in-Some.j.0 =
      seen_at c.args.running.now c.loop-named.named-index (Some w.in-Some.j) c.loop-named-test.true w.in-Some.is in
      record {
        len = c.match-named.auto.places ∙ c.loop-named.invariant.len;
        moved = λ x l. rw w.places-is (column_moves c.args.jobs.now c.args.after c.args.more
            (map place_seen c.args.running.now) c.loop-named.named-index w.in-Some.j.0 c.args.places.now
            c.loop-named.places w.step_one.new.places c.requires.at.places c.requires.at.running
            (in_columns c.args.running.now c.loop-named.named-index c.loop-named-test.true) e
            c.loop-named.invariant.moved w.step_one.ensures.own w.step_one.ensures.others x l);
      }
  | in_default w ↦ record {
    len = c.match-named.auto.places ∙ c.loop-named.invariant.len;
    moved = λ x l. moved_past c.args.jobs.now.jobs c.args.after c.args.more x (map place_seen c.args.running.now)
        c.loop-named.named-index None (get_or c.args.places.now x no_place)
        (get_or c.loop-named.places x no_place) (get_or c.match-named.places x no_place)
        (in_columns c.args.running.now c.loop-named.named-index c.loop-named-test.true)
        (seen_at c.args.running.now c.loop-named.named-index None c.loop-named-test.true w.in_default.is) refl
        (ap (λ places. get_or places x no_place) w.places-is)
        (c.loop-named.invariant.moved x l);
  }
]
