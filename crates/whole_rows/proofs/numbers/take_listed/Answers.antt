use Rattle.std.proofs.Common.{◌<◌, ◌^◌, length, FitsSigned, ◌*ℤ◌, ◌-ℤ◌, unsigned_abs, w64, ap, arith, rules, refl}
use Rattle.whole_rows.specs.Numbers.{number_at}
use Rattle.whole_rows.specs.Rows.{entry_at}
use Rattle.whole_rows.proofs.Listed.{listed_entry}
use Rattle.whole_rows.proofs.Loops.{next_untouched, less_more, less_all}
use Rattle.whole_rows.proofs.Read.{read, less_fits, less_read}
use Rattle.whole_rows.proofs.numbers.take_listed.Goals as goal

pub overflow_sub-nums : goal.overflow_sub-nums
overflow_sub-nums c =
    let i = c.loop-entry.entry-index in
    let es = c.args.entries.now in
    let fits_f : FitsSigned w64 c.args.f = search rules in
    let fits : FitsSigned w64 (number_at c.loop-entry.nums (entry_at c.args.entries.now c.loop-entry.entry-index).place) = search rules in
    let fits_entry : FitsSigned w64 (entry_at c.args.entries.now c.loop-entry.entry-index).num = search rules in
    let own_f = read c.args.f fits_f in
    let kept = rw own_f at c.loop-entry.invariant in
    let same = next_untouched i c.args.nums.now c.args.f es c.loop-entry.nums kept c.requires.sparse c.loop-entry-test.true in
    let own = listed_entry es i (entry_at es i).place c.requires.sparse.rise c.loop-entry-test.true refl in
    less_fits _ c.args.f _ fits fits_f fits_entry (c.requires.products i) (rw (same, ← own) (c.requires.room (entry_at es i).place))

pub loop-entry-preserved : goal.loop-entry-preserved
loop-entry-preserved c =
    let i = c.loop-entry.entry-index in
    let es = c.args.entries.now in
    let fits_f : FitsSigned w64 c.args.f = search rules in
    let fits : FitsSigned w64 (number_at c.loop-entry.nums (entry_at c.args.entries.now c.loop-entry.entry-index).place) = search rules in
    let fits_entry : FitsSigned w64 (entry_at c.args.entries.now c.loop-entry.entry-index).num = search rules in
    let own_f = read c.args.f fits_f in
    let kept = rw own_f at c.loop-entry.invariant in
    let same = next_untouched i c.args.nums.now c.args.f es c.loop-entry.nums kept c.requires.sparse c.loop-entry-test.true in
    let own = listed_entry es i (entry_at es i).place c.requires.sparse.rise c.loop-entry-test.true refl in
    let room : unsigned_abs (number_at c.loop-entry.nums (entry_at es i).place -ℤ (c.args.f *ℤ (entry_at es i).num)) < 2 ^ 63 =
    rw (same, ← own) (c.requires.room (entry_at es i).place) in
    let below : (entry_at es i).place < length c.args.nums.now = c.requires.below i c.loop-entry-test.true in
    rw (less_read _ c.args.f _ fits fits_f fits_entry (c.requires.products i) room, own_f)
    (less_more i c.args.nums.now c.args.f es c.loop-entry.nums _ _ kept c.requires.sparse c.loop-entry-test.true refl
    (omega (arith, c.loop-entry.auto.nums))
    (ap (λ n. n -ℤ (c.args.f *ℤ (entry_at es i).num)) same))

pub returns : goal.returns
returns c =
    let fits_f : FitsSigned w64 c.args.f = search rules in
    let kept = rw (read c.args.f fits_f) at c.loop-entry.invariant in
    less_all c.loop-entry.entry-index c.args.nums.now c.args.f c.args.entries.now c.loop-entry.nums c.requires.sparse
    (omega (arith, c.loop-entry-test.false, c.loop-entry.auto.entry-index-end)) kept
