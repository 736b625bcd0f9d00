use Rattle.std.proofs.Common.{◌≡◌, ◌∙◌, ℕ, List, length, slice_index, ap, arith}
use Rattle.std.proofs.lemmas.List.{get_or_default, with_items_is}
use Rattle.program_form.specs.Certificate.{dual_seen}
use Rattle.dual_check.proofs.Lacking.{one_more_row}
use Rattle.dual_check.proofs.lacks.lacks_of.Goals as goal

pub loop-r-preserved : goal.loop-r-preserved
loop-r-preserved c =
    let r : ℕ = c.loop-r.r in
    let num : List ℕ = c.args.dual.now.num.items in
    let numerator : c.index.result.now ≡ slice_index num r = c.index.ensures ∙ get_or_default num r c.index.result.now 0 (omega arith) in
    let long = c.take_row.ensures.one_each ∙ ap length c.deref_mut.ensures.value in
    let written = with_items_is c.loop-r.lacks c.take_row.new.lacks (c.take_row.ensures.one_each ∙ c.deref_mut.ensures.len) in
    rw written (one_more_row c.args.program.now (dual_seen c.args.dual.now) r c.index.result.now c.loop-r.lacks.items
    c.take_row.new.lacks c.coefficients.result.now c.loop-r.invariant numerator c.coefficients.ensures.row long
    (rw (c.deref_mut.ensures.value) at c.take_row.ensures.each))
