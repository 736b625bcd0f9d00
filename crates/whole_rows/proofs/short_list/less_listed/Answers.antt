use Rattle.std.proofs.Common.{◌≡◌, ◌<◌, ◌^◌, ◌==◌, if◌then◌else◌, pos, ◌-ℤ◌, ◌*ℤ◌, FitsSigned, w64, arith, rules}
use Rattle.whole_rows.specs.EntrySteps.{IsPushed}
use Rattle.whole_rows.proofs.Read.{read}
use Rattle.whole_rows.proofs.ShortLists.{can_read, next_within, read_on, left_more, left_at_end}
use Rattle.whole_rows.proofs.short_list.less_listed.Goals as goal

pub num_from-other-requires : goal.num_from-other-requires
num_from-other-requires c =
    let inv = c.loop-place.invariant in
    (can_read c.args.end c.args.entries.now c.args.f c.loop-place.i c.args.others.now c.loop-place.j c.loop-place.from c.in-Some.place
    c.requires inv.own inv.other c.in-Some.ensures).1

pub overflow_add-from : goal.overflow_add-from
overflow_add-from c =
    let inv = c.loop-place.invariant in
    let within : c.in-Some.place < c.args.end =
    next_within c.args.end c.args.entries.now c.args.f c.loop-place.i c.args.others.now c.loop-place.j c.loop-place.from c.in-Some.place
    c.requires inv.own inv.other c.in-Some.ensures in
    let most : c.args.end < 2 ^ 64 = search rules in
    omega (arith, within, most)

pub loop-place-smaller : goal.loop-place-smaller
loop-place-smaller c =
    read_on c.args.entries.now c.loop-place.i c.args.others.now c.loop-place.j c.in-Some.place _ _ c.num_from-own.result.1
    c.num_from-other.result.1 c.in-Some.ensures c.num_from-own.ensures c.num_from-other.ensures

pub loop-place-preserved : goal.loop-place-preserved
loop-place-preserved c =
    let inv = c.loop-place.invariant in
    let fits_f : FitsSigned w64 c.args.f = search rules in
    let fits_own : FitsSigned w64 c.num_from-own.result.0 = search rules in
    let fits_other : FitsSigned w64 c.num_from-other.result.0 = search rules in
    let fits_left : FitsSigned w64 c.left_of.result = search rules in
    let within : c.in-Some.place < c.args.end =
    next_within c.args.end c.args.entries.now c.args.f c.loop-place.i c.args.others.now c.loop-place.j c.loop-place.from c.in-Some.place
    c.requires inv.own inv.other c.in-Some.ensures in
    let left : c.left_of.result ≡
    (if c.in-Some.place == c.args.k then pos 0 else c.num_from-own.result.0) -ℤ (c.args.f *ℤ c.num_from-other.result.0) =
    rw (read _ fits_own, read _ fits_f, read _ fits_other) at c.left_of.ensures in
    let pushed : IsPushed c.loop-place.list.items c.in-Some.place c.left_of.result c.push_num.new.list.items =
    rw (read _ fits_left) at c.in_ok-push_num.ensures in
    record {
      within = omega (arith, within);
      own = c.num_from-own.ensures.passed;
      other = c.num_from-other.ensures.passed;
      listed = rw (read _ fits_f)
          (left_more c.args.end c.args.entries.now c.args.k c.args.f c.args.others.now c.loop-place.i c.loop-place.j c.loop-place.from
          c.in-Some.place c.num_from-own.result.1 c.num_from-other.result.1 c.num_from-own.result.0 c.num_from-other.result.0
          c.left_of.result c.loop-place.list.items c.push_num.new.list.items c.requires inv.own inv.other c.in-Some.ensures
          (rw (read _ fits_f) at inv.listed) c.num_from-own.ensures c.num_from-other.ensures left pushed);
    }

pub returns : goal.returns
returns c =
    let inv = c.loop-place.invariant in
    let fits_f : FitsSigned w64 c.args.f = search rules in
    left_at_end c.args.end c.args.entries.now c.args.k c.args.f c.args.others.now c.loop-place.i c.loop-place.j c.loop-place.from
    c.loop-place.list.items c.requires inv.own inv.other inv.within c.in_default.ensures.0 c.in_default.ensures.1
    (rw (read _ fits_f) at inv.listed)
