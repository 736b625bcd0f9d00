use Rattle.std.proofs.Common.{◌≡◌, pos, to_z, w64, arith, length}
use Rattle.std.proofs.lemmas.Int.{to_z_pos}
use Rattle.whole_rows.specs.Numbers.{AreFirst}
use Rattle.whole_rows.proofs.Coefficients.{first_sparse, first_below}
use Rattle.whole_rows.proofs.ShortRows.{coefficients_bounded, listed_coefficients}
use Rattle.whole_rows.proofs.short_row.ShortRow.of_coefficients.Goals as goal

pub invariant_of-result : goal.invariant_of-result
invariant_of-result c =
    let n = c.args.places in
    let cs = c.args.coefficients.now in
    let first : AreFirst (length c.args.coefficients.now) c.args.coefficients.now c.list_coefficients.new.list.items =
    c.in_ok-list_coefficients.ensures.all in
    let limit_is : to_z w64 c.args.limit ≡ pos c.args.limit = to_z_pos w64 c.args.limit (omega (arith, c.requires.limit)) in
    record {
      sparse = rw first (first_sparse n (length cs) cs c.requires.listed);
      below = rw first (first_below n (length cs) cs c.requires.listed);
      bounded = rw limit_is
          (coefficients_bounded n cs c.list_coefficients.new.list.items c.args.limit c.greatest_listed-most.result c.requires.listed
          c.requires.small c.requires.limit first (rw (c.deref.ensures.value, c.max.ensures) at c.greatest_listed-most.ensures));
    }

pub returns : goal.returns
returns c =
    let limit_is : to_z w64 c.args.limit ≡ pos c.args.limit = to_z_pos w64 c.args.limit (omega (arith, c.requires.limit)) in
    let first : AreFirst (length c.args.coefficients.now) c.args.coefficients.now c.list_coefficients.new.list.items =
    c.in_ok-list_coefficients.ensures.all in
    rw limit_is (listed_coefficients c.args.places c.args.coefficients.now c.list_coefficients.new.list.items c.args.limit first)
