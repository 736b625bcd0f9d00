use Rattle.std.proofs.Common.{◌≡◌, length, FitsSigned, w64, rules, ◌∙◌}
use Rattle.std.proofs.lemmas.List.{with_items_is}
use Rattle.whole_rows.specs.Rows.{RowDef}
use Rattle.whole_rows.specs.DenseView.{dense_view}
use Rattle.whole_rows.specs.Numbers.{IsSameRow}
use Rattle.whole_rows.proofs.Read.{read}
use Rattle.whole_rows.proofs.Entering.{same_bounded, small_cells}
use Rattle.whole_rows.proofs.dense_row.DenseRow.reduce.Goals as goal

pub invariant_of-self : goal.invariant_of-self
invariant_of-self c =
    let fits_limit : FitsSigned w64 c.divide_parts-limit.result.0 = search rules in
    let fits_den : FitsSigned w64 c.divide_parts-limit.result.1 = search rules in
    let own_limit : FitsSigned w64 c.self.inside.limit = search rules in
    let own_den : FitsSigned w64 c.self.inside.den = search rules in
    let many : length c.divide_parts-limit.new.nums ≡ c.self.inside.nums.len =
    c.divide_parts-limit.ensures.same.nums.as_many ∙ c.deref_mut.ensures.len in
    let items = with_items_is c.self.inside.nums c.divide_parts-limit.new.nums many in
    let left : RowDef = record {
      nums = c.divide_parts-limit.new.nums;
      limit = c.divide_parts-limit.result.0;
      den = c.divide_parts-limit.result.1;
    } in
    let same : IsSameRow (dense_view c.self.inside) left =
    rw (c.deref_mut.ensures.value, read _ own_limit, read _ own_den) at c.divide_parts-limit.ensures.same in
    rw (items, read _ fits_limit, read _ fits_den) (same_bounded (dense_view c.self.inside) left c.self.inside.most c.self.invariant same)

pub returns-clause-reduced : goal.returns-clause-reduced
returns-clause-reduced c =
    let fits_limit : FitsSigned w64 c.divide_parts-limit.result.0 = search rules in
    let fits_den : FitsSigned w64 c.divide_parts-limit.result.1 = search rules in
    let own_limit : FitsSigned w64 c.self.inside.limit = search rules in
    let own_den : FitsSigned w64 c.self.inside.den = search rules in
    let many : length c.divide_parts-limit.new.nums ≡ c.self.inside.nums.len =
    c.divide_parts-limit.ensures.same.nums.as_many ∙ c.deref_mut.ensures.len in
    let items = with_items_is c.self.inside.nums c.divide_parts-limit.new.nums many in
    rw (items, read _ fits_limit, read _ fits_den, ← c.self.view_is)
    (rw (c.deref_mut.ensures.value, read _ own_limit, read _ own_den) at c.divide_parts-limit.ensures)

pub returns-clause-small : goal.returns-clause-small
returns-clause-small c = small_cells _ _ (invariant_of-self c)
