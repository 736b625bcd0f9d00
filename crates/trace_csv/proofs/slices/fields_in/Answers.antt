use Rattle.std.proofs.Common.{◌≤◌, add-one, length, sym, arith}
use Rattle.std.proofs.lemmas.List.{map-append}
use Rattle.csv.specs.Records.{fields_of}
use Rattle.trace_csv.proofs.Fields.{take_field, no_field}
use Rattle.trace_csv.proofs.slices.fields_in.Goals as goal
use Rattle.trace_csv.proofs.slices.fields_in.Goals.{in-Some+in_ok-push-in-Some, in-None}

pub loop-i-preserved : goal.loop-i-preserved
loop-i-preserved c =
    let fs = fields_of c.args.row.now in
    let i = c.loop-i.i in
    elim c.match-get.branch [
      | in-Some+in_ok-push-in-Some w ↦
          let field = w.in-Some.field in
          rw (w.fields-is, w.in_ok-push-in-Some.ensures.items, map-append, c.loop-i.invariant, add-one)
          (sym (take_field fs i field.now (sym w.in-Some.ensures.value)))
      | in-None w ↦
          let past : length fs ≤ i = no_field fs i (sym w.in-None.ensures.value) in
          absurd (omega (arith, c.len-i-end.ensures))
    ]
