use Rattle.std.proofs.Common.{FitsSigned, w64, ◌-ℤ◌, ◌*ℤ◌, rules}
use Rattle.fraction128.proofs.Products.{fits_part, own_part_read}
use Rattle.whole_rows.proofs.Read.{product_read}
use Rattle.whole_rows.proofs.Taking.{less_times_fits}
use Rattle.whole_rows.proofs.dense_row.less_times.Goals as goal

pub overflow_sub-result : goal.overflow_sub-result
overflow_sub-result c =
    let fits_num : FitsSigned w64 c.args.num = search rules in
    let fits_p : FitsSigned w64 c.args.p = search rules in
    let fits_f : FitsSigned w64 c.args.f = search rules in
    let fits_other : FitsSigned w64 c.args.other = search rules in
    let sizes = less_times_fits c.args.num c.args.p c.args.f c.args.other c.requires in
    rw (product_read c.args.num c.args.p fits_num fits_p sizes.0, product_read c.args.f c.args.other fits_f fits_other sizes.1)
    (fits_part ((c.args.num *ℤ c.args.p) -ℤ (c.args.f *ℤ c.args.other)) sizes.2)

pub returns : goal.returns
returns c =
    let fits_num : FitsSigned w64 c.args.num = search rules in
    let fits_p : FitsSigned w64 c.args.p = search rules in
    let fits_f : FitsSigned w64 c.args.f = search rules in
    let fits_other : FitsSigned w64 c.args.other = search rules in
    let sizes = less_times_fits c.args.num c.args.p c.args.f c.args.other c.requires in
    rw (product_read c.args.num c.args.p fits_num fits_p sizes.0, product_read c.args.f c.args.other fits_f fits_other sizes.1)
    (own_part_read ((c.args.num *ℤ c.args.p) -ℤ (c.args.f *ℤ c.args.other)) sizes.2)
