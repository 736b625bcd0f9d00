use Rattle.std.proofs.Common.{◌≤◌, arith}
use Rattle.std.specs.Prelude.{slice_index}
use Rattle.program_form.specs.Duals.{dual_value}
use Rattle.settling.proofs.laws.no_rounded_dual_keeps_the_whole_part.Goals as goal

pub returns : goal.returns
returns c p k t w m blocking loses end rounded power greatest =
    let own = loses.of_end in
    let most : dual_value p loses.dual.den (λ r. slice_index loses.dual.num r) ≤ dual_value p w.den (λ r. slice_index w.num r) =
    c.no_rounded_dual_is_worth_less.ensures p k own.0 t own.1 w loses.dual m end own.2 rounded power own.3 in
    let same : blocking ≤ loses.blocking = loses.greatest.greatest blocking greatest.reached in
    omega (arith, most, same, loses.above)
