use Rattle.std.proofs.Common.{◌≡◌, sym, arith}
use Rattle.std.specs.Prelude.{slice_index}
use Rattle.closer_mpcp.specs.Tables.{longest_beside}
use Rattle.closer_mpcp.proofs.UsersBeside.{none_instead}
use Rattle.closer_mpcp.proofs.ticks.ticks_by.Goals as goal

pub returns-then-of_runner-eq0 : goal.returns-then-of_runner-eq0
returns-then-of_runner-eq0 c =
    let set = c.args.set.now in
    let q = c.args.q.0 in
    let x = c.args.x.0 in
    let none : longest_beside set x q ≡ 0 =
    omega (arith, (c.requires.first.each x c.requires.holdings.runner).longest, c.if-of_runner-eq0.true) in
    record {
      value = sym (none_instead set (slice_index c.args.bounds.now) c.args.i.0 q c.args.span x c.requires.holdings.request.task none);
      most = omega arith;
    }
