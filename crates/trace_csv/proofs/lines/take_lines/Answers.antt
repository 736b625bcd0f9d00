use Rattle.std.proofs.Common.{◌≡◌, ◌≤◌, ◌∙◌, [], List, length, take, None, arith, below_more, add-one, subst, inr}
use Rattle.std.proofs.lemmas.List.{take_all}
use Rattle.trace_csv.specs.Records.{Fields, fields_seen}
use Rattle.trace_csv.specs.LinesTaken.{reason_at}
use Rattle.trace_csv.proofs.LinesLeft.{line_of, none_left}
use Rattle.trace_csv.proofs.LinesTaken.{reason_here, taken_more, first_here}
use Rattle.trace_csv.proofs.lines.take_lines.Goals as goal

pub take-requires : goal.take-requires
take-requires g c = (take c.lines.line c.args.lines, c.lines.invariant.taken)

pub lines-preserved : goal.lines-preserved
lines-preserved g c =
    let reason = g.F.LineForm.reason c.args.form.now in
    let lines = c.args.lines in
    let i = c.lines.line in
    let inv = c.lines.invariant in
    let fields = fields_seen c.in-Record.fields.items in
    let first = rw c.in-Record.is at c.in-Ok.ensures in
    let at = line_of lines i fields c.next.new.self [] (inv.left ∙ first) in
    let done = rw c.deref.ensures.value at (c.in-Ok-take.ensures (take i lines) inv.taken) in
    record {
      taken = taken_more (g.T.LineTaker.has c.args.form.now) lines i fields c.take.new.self at.within at.here done.1;
      earlier = below_more (λ j. reason_at reason lines j ≡ None) i inv.earlier (reason_here reason lines i fields at.here ∙ done.0);
      left = rw add-one at.behind;
    }

pub returns-in-Long : goal.returns-in-Long
returns-in-Long g c =
    let reason = g.F.LineForm.reason c.args.form.now in
    let lines = c.args.lines in
    let i = c.lines.line in
    let inv = c.lines.invariant in
    let long = rw c.in-Long.is at c.in-Ok.ensures in
    let at = line_of lines i long.0 long.1 [] (inv.left ∙ long.2) in
    inr (first_here reason lines i long.0 c.too_long.result at.within at.here inv.earlier
    (c.too_long.ensures (take i lines) long.0 (omega (arith, long.3, c.most_fields-most.ensures))))

pub returns-in-End : goal.returns-in-End
returns-in-End g c =
    let lines = c.args.lines in
    let i = c.lines.line in
    let inv = c.lines.invariant in
    let none = rw c.in-End.is at c.in-Ok.ensures in
    let past : length lines ≤ i = none_left lines i (inv.left ∙ none.0) in (
      (λ j h. inv.earlier j (omega (arith, past))),
      subst (λ (ls : List Fields). g.T.LineTaker.has c.args.form.now ls c.lines.taker) (take_all i lines past) inv.taken,
    )
