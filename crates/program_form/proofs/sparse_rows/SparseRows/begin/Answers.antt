use Rattle.std.proofs.Common.{◌≡◌, [], ◌∷◌, ◌++◌, ◌∙◌, refl, ap, length, arith}
use Rattle.program_form.specs.SparseRows.{SparseRowsDef}
use Rattle.program_form.specs.RowCuts.{rows_cut}
use Rattle.program_form.proofs.RowCuts.{rows_begun}
use Rattle.program_form.proofs.sparse_rows.SparseRows.begin.Goals as goal

pub returns : goal.returns
returns c =
    let cs = c.self.inside.coefficients.items in
    let all : c.len.result ≡ length cs = omega (arith, c.len.ensures) in
    let starts : c.push.new.self.items ≡ c.self.inside.starts.items ++ length cs ∷ [] = rw all at c.in_ok-push.ensures.items in
    let rows : rows_cut cs c.push.new.self.items ≡ c.args.self.now.rows ++ [] ∷ [] =
    ap (rows_cut cs) starts
    ∙ (rows_begun cs c.self.inside.starts.items
    ∙ ap (λ (b : SparseRowsDef). b.rows ++ [] ∷ []) c.self.view_is) in
    let limits : c.push-2.new.self.items ≡ c.args.self.now.limits ++ c.args.limit ∷ [] =
    c.in_ok-push-2.ensures.items ∙ ap (λ (b : SparseRowsDef). b.limits ++ c.args.limit ∷ []) c.self.view_is in
    rw (rows, limits) refl
