use Rattle.std.proofs.Common.{ap, ◌∙◌, ◌≡◌, unsigned_abs, to_z, of_z, w64}
use Rattle.fraction128.proofs.Products.{own_part_read}
use Rattle.whole_rows.proofs.Sizes.{listed_small}
use Rattle.whole_rows.proofs.pivot.Pivot.read.Goals as goal

pub invariant_of-self : goal.invariant_of-self
invariant_of-self c =
    let small = c.list-listed.ensures.small in
    let limit = own_part_read c.limit-self-inside.result (rw c.limit-self-inside.ensures.value small.limit.small_num) in
    let den = own_part_read c.den-self-inside.result (rw c.den-self-inside.ensures.value small.limit.small_den) in
    let size : c.unsigned_abs.result ≡ unsigned_abs (to_z w64 (of_z w64 c.limit-self-inside.result)) =
    c.unsigned_abs.ensures.value ∙ ap (λ z. unsigned_abs (to_z w64 (of_z w64 z))) limit in
    listed_small c.args.row.now _ _ small c.list-listed.ensures.listed.from
    (limit ∙ c.limit-self-inside.ensures.value) (den ∙ c.den-self-inside.ensures.value)
    (rw (size, c.deref.ensures.value) at c.greatest_listed-self-inside.ensures)
