use Rattle.std.proofs.Common.{◌<◌, ◌+◌, inl, inr, sym, ◌∙◌, arith}
use Rattle.std.proofs.lemmas.Bool.{cases_eq}
use Rattle.program_form.specs.Program.{columns, height}
use Rattle.whole_rows.proofs.Marking.{room_kept}
use Rattle.whole_runs.proofs.Starting.{number_of_row}
use Rattle.whole_runs.proofs.start.first_marks.Goals as goal

pub loop-i-preserved : goal.loop-i-preserved
loop-i-preserved c =
    let p = c.args.program.now in
    let n = c.loop-i.i in
    let inv = c.loop-i.invariant in
    let row = c.coefficients.ensures in
    let kept = c.mark_all.ensures.kept in
    let inside : c.loop-i.i < height c.args.program.now = omega (arith, c.loop-i-test.true, c.rows-rows.ensures.value) in
    record {
      room = room_kept (columns p) (height p + 1) c.loop-i.marks c.mark_all.new.marks inv.room kept;
      entries = λ k i lk li some. elim (cases_eq i n) [
        | inl here ↦
            let number = number_of_row p n c.coefficients.result.now k row.program inside row.listed row.row in
            rw here (c.mark_all.ensures.own k (λ none. (rw here at some) (sym number ∙ none)))
        | inr earlier ↦ kept.marked k i (inv.entries k i lk (omega (arith, li, earlier)) some)
      ];
      costs = λ k lk some. kept.marked k (height p) (inv.costs k lk some);
    }
