use Rattle.std.proofs.Common.{arith}
use Rattle.closer_mpcp.proofs.ListedSums.{used_few}
use Rattle.closer_mpcp.proofs.FirstUsed.{longest_of_used, time_of_used}
use Rattle.closer_mpcp.proofs.first_ticks.first_ticks.Goals as goal

pub overflow_add-all : goal.overflow_add-all
overflow_add-all c =
    let few = used_few c.args.set.now c.args.x.0 c.used_by-used.result.now c.used_by-used.ensures.value in
    omega (
      arith,
      few,
      c.loop-r-test.true,
      c.resources-resources.ensures.value,
      c.resources-resources.ensures.most,
      c.loop-r.invariant.all_to,
      c.first_of_resource-some.ensures.all_to,
    )

pub returns : goal.returns
returns c =
    let set = c.args.set.now in
    let x = c.args.x.0 in
    let q = c.args.q.0 in
    let used = c.used_by-used.result.now in
    let k = c.loop-r.r-index in
    record {
      longest = longest_of_used set x q used k c.loop-r.longest c.used_by-used.ensures.value c.keeps_the_model.ensures.accepted
          c.requires.task (omega (arith, c.loop-r-test.false)) c.loop-r.invariant.longest;
      all = time_of_used set x q used k c.loop-r.all c.used_by-used.ensures.value (omega (arith, c.loop-r-test.false))
          c.loop-r.invariant.all;
      longest_to = c.loop-r.invariant.longest_to;
      all_to = omega (
        arith,
        used_few set x used c.used_by-used.ensures.value,
        c.loop-r.auto.r-index-end,
        c.resources-resources.ensures.value,
        c.resources-resources.ensures.most,
        c.loop-r.invariant.all_to,
      );
    }
