use Rattle.std.proofs.Common.{◌<◌, length, take, inl, inr, ◌∙◌, arith}
use Rattle.std.proofs.lemmas.List.{take_more}
use Rattle.program_form.specs.SparseRows.{coefficient_at}
use Rattle.whole_runs.proofs.Starting.{number_or_last}
use Rattle.whole_runs.proofs.start.mark_all.Goals as goal

pub loop-coefficient-preserved : goal.loop-coefficient-preserved
loop-coefficient-preserved c =
    let cs = c.args.coefficients.now in
    let i = c.loop-coefficient.coefficient-index in
    let inside : c.loop-coefficient.coefficient-index < length c.args.coefficients.now = omega (arith, c.loop-coefficient-test.true) in
    let kept = c.mark.ensures.kept in
    let before = c.loop-coefficient.invariant.kept in
    record {
      own = λ v some. elim (number_or_last (take i cs) (coefficient_at cs i) v
          (rw (take_more cs i (record { column = 0; number = 0 }) inside) at some)) [
            | inl earlier ↦ kept.marked v c.args.i (c.loop-coefficient.invariant.own v earlier)
            | inr last ↦ rw (← last) c.mark.ensures.own
          ];
      kept = record {
        words = kept.words ∙ before.words;
        as_many = kept.as_many ∙ before.as_many;
        marked = λ v j h. kept.marked v j (before.marked v j h);
      };
    }
