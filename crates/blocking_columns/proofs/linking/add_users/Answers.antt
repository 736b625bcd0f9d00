use Rattle.std.proofs.Common.{◌<◌, ◌==◌, not, List, length, take, take_all, subst, sym, refl}
use Rattle.std.specs.Prelude.{slice_index_or}
use Rattle.std.proofs.lemmas.List.{take_more}
use Rattle.sporadic_model.specs.declared.ids.TaskId.{TaskId}
use Rattle.blocking_columns.specs.Links.{AreRivalsAmong, IsKnownRival, rival_at}
use Rattle.blocking_columns.proofs.Rivals.{all_with, next_rival_among, rivals_at}
use Rattle.blocking_columns.proofs.linking.add_users.Goals as goal

pub loop-y-preserved : goal.loop-y-preserved
loop-y-preserved c =
    let p = c.args.protocol in
    let set = c.args.set.now in
    let i = c.args.i.0 in
    let users = c.users-users.result.now in
    let index = c.loop-y.y-index in
    let y : TaskId = slice_index_or users index (record { 0 = 0 }) in
    let within : y.0 < length set.tasks = c.users-users.ensures.within index (record { 0 = 0 }) c.loop-y-test.true in
    record {
      users = subst (λ (ys : List TaskId). AreRivalsAmong i c.args.r.0 ys c.args.rivals.now.items c.add_rival.new.rivals.items)
          (sym (take_more users index (record { 0 = 0 }) c.loop-y-test.true))
          (next_rival_among p set i y c.args.r (take index users) c.args.rivals.now.items c.loop-y.rivals.items
          c.add_rival.new.rivals.items c.loop-y.invariant.users c.in_ok-add_rival.ensures);
      known = all_with (IsKnownRival p set) (not (y.0 == i)) (rival_at p set y c.args.r) c.loop-y.rivals.items
          c.add_rival.new.rivals.items c.loop-y.invariant.known (within, refl, refl) c.in_ok-add_rival.ensures;
    }

pub returns : goal.returns
returns c =
    let set = c.args.set.now in
    let users = c.users-users.result.now in
    record {
      users = rivals_at set c.args.i.0 c.args.r.0 users c.args.rivals.now.items c.loop-y.rivals.items c.users-users.ensures.value
          (subst (λ (ys : List TaskId). AreRivalsAmong c.args.i.0 c.args.r.0 ys c.args.rivals.now.items c.loop-y.rivals.items)
          (take_all c.loop-y.y-index users c.loop-y-test.false) c.loop-y.invariant.users);
      known = c.loop-y.invariant.known;
    }
