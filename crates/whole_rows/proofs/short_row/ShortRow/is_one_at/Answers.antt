use Rattle.std.proofs.Common.{◌≡◌, ◌∙◌, sym, ap, pos, to_z, of_z, FitsSigned, w64, refl, rules}
use Rattle.std.proofs.lemmas.Bool.{eqb-true}
use Rattle.whole_rows.proofs.Read.{read}
use Rattle.whole_rows.proofs.ShortRows.{stays_divided}
use Rattle.whole_rows.proofs.short_row.ShortRow.is_one_at.Goals as goal

pub returns : goal.returns
returns c is =
    let fits : FitsSigned w64 c.num.result = search rules in
    let bits : of_z w64 c.num.result ≡ 1 = eqb-true (of_z w64 c.num.result) 1 is in
    let number : c.num.result ≡ pos 1 = sym (read _ fits) ∙ ap (to_z w64) bits in
    stays_divided c.args.self.now c.args.k c.requires (rw (← c.self.view_is) refl) (sym c.num.ensures.value ∙ number) c.num.ensures.small
