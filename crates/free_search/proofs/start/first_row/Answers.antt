use Rattle.std.proofs.Common.{◌≡◌, length, pos, ap, ◌∙◌, arith}
use Rattle.program_form.specs.Program.{columns, limit}
use Rattle.whole_runs.proofs.Starting.{first_row_is}
use Rattle.free_search.proofs.Written.{refilled}
use Rattle.free_search.proofs.start.first_row.Goals as goal

pub returns : goal.returns
returns c =
    let p = c.args.program.now in
    let cs = c.coefficients.result.now in
    let h = c.coefficients.ensures in
    let full : length c.write_all.new.nums ≡ c.in_ok-nums.nums.len =
    omega (arith, c.write_all.ensures.as_many, c.deref_mut.ensures.len, c.in_ok-nums.nums.ok.0) in
    let long : length c.write_all.new.nums ≡ columns c.args.program.now =
    omega (arith, full, c.in_ok-nums.nums.ok.0, c.in_ok-nums.ensures.as_many, c.columns.ensures.value) in
    let limit_is : c.of-limit.result ≡ pos (limit c.args.program.now c.args.i)
    = c.of-limit.ensures ∙ ap pos (c.of.ensures ∙ c.limit.ensures.value) in
    let kept = refilled c.in_ok-nums.nums.len c.in_ok-nums.nums.items c.write_all.new.nums (omega (arith, c.in_ok-nums.nums.ok.0)) full in
    rw (c.over_one.ensures, kept)
    (first_row_is p c.args.i cs c.write_all.new.nums c.of-limit.result h.program c.requires h.listed h.row long
    c.write_all.ensures.each limit_is)
