use Rattle.std.proofs.Common.{◌≡◌, ◌<◌, length, slice_index, sym, ◌∙◌, ap, arith}
use Rattle.std.proofs.lemmas.List.{get_or_default}
use Rattle.program_form.specs.SparseRows.{SparseRowsDef, list_at}
use Rattle.program_form.specs.RowCuts.{end_of}
use Rattle.program_form.proofs.RowCuts.{length_rows_cut, rows_cut_at}
use Rattle.program_form.proofs.sparse_rows.SparseRows.row.Goals as goal

pub index-start-requires : goal.index-start-requires
index-start-requires c =
    let long : length c.self.inside.starts.items ≡ length c.args.self.now.rows =
    sym (length_rows_cut c.self.inside.coefficients.items c.self.inside.starts.items)
    ∙ ap (λ (b : SparseRowsDef). length b.rows) c.self.view_is in
    omega (arith, long, c.requires)

pub end_of-end-requires : goal.end_of-end-requires
end_of-end-requires c =
    let long : length c.self.inside.starts.items ≡ length c.args.self.now.rows =
    sym (length_rows_cut c.self.inside.coefficients.items c.self.inside.starts.items)
    ∙ ap (λ (b : SparseRowsDef). length b.rows) c.self.view_is in
    rw c.deref.ensures.value (omega (arith, long, c.requires))

pub part-requires-clause-order : goal.part-requires-clause-order
part-requires-clause-order c =
    let cs = c.self.inside.coefficients.items in
    let starts = c.self.inside.starts.items in
    let long : length starts ≡ length c.args.self.now.rows =
    sym (length_rows_cut cs starts) ∙ ap (λ (b : SparseRowsDef). length b.rows) c.self.view_is in
    let within : c.args.r < length starts = omega (arith, long, c.requires) in
    let all : c.len.result ≡ length cs = omega (arith, c.len.ensures) in
    let start : c.index-start.result.now ≡ slice_index starts c.args.r =
    c.index-start.ensures ∙ get_or_default starts c.args.r c.index-start.result.now 0 within in
    let end : c.end_of-end.result ≡ end_of (length cs) starts c.args.r = rw (c.deref.ensures.value, all) at c.end_of-end.ensures in
    rw (start, end) (c.self.invariant.rise c.args.r within)

pub part-requires-clause-within : goal.part-requires-clause-within
part-requires-clause-within c =
    let cs = c.self.inside.coefficients.items in
    let all : c.len.result ≡ length cs = omega (arith, c.len.ensures) in
    let end : c.end_of-end.result ≡ end_of (length cs) c.self.inside.starts.items c.args.r =
    rw (c.deref.ensures.value, all) at c.end_of-end.ensures in
    rw (end, c.deref-2.ensures.value) (c.self.invariant.within c.args.r)

pub returns : goal.returns
returns c =
    let cs = c.self.inside.coefficients.items in
    let starts = c.self.inside.starts.items in
    let long : length starts ≡ length c.args.self.now.rows =
    sym (length_rows_cut cs starts) ∙ ap (λ (b : SparseRowsDef). length b.rows) c.self.view_is in
    let within : c.args.r < length starts = omega (arith, long, c.requires) in
    let all : c.len.result ≡ length cs = omega (arith, c.len.ensures) in
    let start : c.index-start.result.now ≡ slice_index starts c.args.r =
    c.index-start.ensures ∙ get_or_default starts c.args.r c.index-start.result.now 0 within in
    let end : c.end_of-end.result ≡ end_of (length cs) starts c.args.r = rw (c.deref.ensures.value, all) at c.end_of-end.ensures in
    (rw (c.deref-2.ensures.value, start, end) at c.part.ensures)
    ∙ (sym (rows_cut_at cs starts c.args.r within) ∙ ap (λ (b : SparseRowsDef). list_at b.rows c.args.r) c.self.view_is)
