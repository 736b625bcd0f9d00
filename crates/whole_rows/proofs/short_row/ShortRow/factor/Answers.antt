use Rattle.std.proofs.Common.{◌≡◌, pos, FitsSigned, w64, rules}
use Rattle.whole_rows.specs.Rows.{num_at}
use Rattle.whole_rows.specs.Numbers.{IsCancelled}
use Rattle.whole_rows.proofs.Read.{read}
use Rattle.whole_rows.proofs.short_row.ShortRow.factor.Goals as goal

pub returns : goal.returns
returns c =
    let fits_f : FitsSigned w64 c.lowest_terms-f.result.0 = search rules in
    let fits_p : FitsSigned w64 c.lowest_terms-f.result.1 = search rules in
    let fits_num : FitsSigned w64 c.num.result = search rules in
    let fits_den : FitsSigned w64 c.den.result = search rules in
    let one : c.lowest_terms-f.result.1 ≡ pos 1 = search rules in
    let cut : IsCancelled (num_at c.args.self.now c.args.k) c.args.pivot.now.den c.lowest_terms-f.result.0 (pos 1) =
    rw (read _ fits_num, c.num.ensures.value, read _ fits_den, c.den.ensures.value, one) at c.lowest_terms-f.ensures.form in
    rw (read _ fits_f) (record {
      cut = cut;
      most = c.self.inside.most;
      others = c.most.result;
      bounded = rw (← c.self.view_is) c.self.invariant.bounded;
      pivot_bounded = c.most.ensures;
      is = rw (read _ fits_f, read _ fits_p, one) at c.in_ok-bound.ensures.value;
      fits = c.in_ok-bound.ensures.fits;
    })
