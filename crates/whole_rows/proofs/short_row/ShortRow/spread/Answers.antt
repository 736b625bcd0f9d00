use Rattle.std.proofs.Common.{◌≡◌, ◌∙◌, length, FitsSigned, w64, rules}
use Rattle.std.proofs.lemmas.List.{with_items_is}
use Rattle.whole_rows.proofs.Read.{read}
use Rattle.whole_rows.proofs.ShortRows.{can_spread, spread_nums}
use Rattle.whole_rows.proofs.short_row.ShortRow.spread.Goals as goal

pub take_listed-requires : goal.take_listed-requires
take_listed-requires c =
    let row = c.self.inside in
    let kept = c.self.invariant in
    rw (c.deref_mut.ensures.value, c.deref.ensures.value)
    (can_spread row.places row.most row.entries.items row.limit c.in_ok-nums.nums.items kept.sparse kept.below kept.bounded
    (c.in_ok-nums.ensures.items_if_clones_equal (λ y same. same)))

pub over_one-requires-clause-nums : goal.over_one-requires-clause-nums
over_one-requires-clause-nums c k =
    let row = c.self.inside in
    let many : length c.take_listed.new.nums ≡ c.in_ok-nums.nums.len = c.take_listed.ensures.as_many ∙ c.deref_mut.ensures.len in
    let items = with_items_is c.in_ok-nums.nums c.take_listed.new.nums many in
    let nums = spread_nums row.places row.entries.items c.in_ok-nums.nums.items c.take_listed.new.nums
    (c.in_ok-nums.ensures.items_if_clones_equal (λ y same. same))
    (rw (c.deref_mut.ensures.value, c.deref.ensures.value) at c.take_listed.ensures) in
    rw (items, nums) (c.self.invariant.bounded.nums k)

pub returns : goal.returns
returns c =
    let row = c.self.inside in
    let many : length c.take_listed.new.nums ≡ c.in_ok-nums.nums.len = c.take_listed.ensures.as_many ∙ c.deref_mut.ensures.len in
    let items = with_items_is c.in_ok-nums.nums c.take_listed.new.nums many in
    let nums = spread_nums row.places row.entries.items c.in_ok-nums.nums.items c.take_listed.new.nums
    (c.in_ok-nums.ensures.items_if_clones_equal (λ y same. same))
    (rw (c.deref_mut.ensures.value, c.deref.ensures.value) at c.take_listed.ensures) in
    let fits_limit : FitsSigned w64 c.self.inside.limit = search rules in
    (rw (items, nums, read _ fits_limit) at c.over_one.ensures) ∙ c.self.view_is
