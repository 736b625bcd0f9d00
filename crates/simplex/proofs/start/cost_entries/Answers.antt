use Rattle.std.proofs.Common.{◌≡◌, ◌<◌, ◌^◌, sym, ◌∙◌, arith}
use Rattle.program_form.specs.Program.{columns, height}
use Rattle.exchange_runs.specs.Table.{first_number}
use Rattle.exchange_runs.proofs.FirstTable.{number_at_cost}
use Rattle.simplex.proofs.Listed.{sparse_none}
use Rattle.simplex.proofs.Ending.{numbers_zero, numbers_more, entries_of_costs}
use Rattle.simplex.proofs.start.cost_entries.Goals as goal
use Rattle.simplex.proofs.start.cost_entries.Goals.{then-cost-ne0+in_ok-push, else-cost-ne0}

pub loop-c-init : goal.loop-c-init
loop-c-init c = rw c.new-entries.ensures.items
    (record { sparse = sparse_none; below = λ k l. absurd (omega arith); numbers = λ v l. absurd (omega arith) })

pub loop-c-preserved : goal.loop-c-preserved
loop-c-preserved c =
    let p = c.args.program.now in
    let within : c.loop-c.c < columns c.args.program.now = omega (arith, c.loop-c-test.true, c.columns-c-end.ensures.value) in
    let number : c.cost-cost.result ≡ first_number c.args.program.now (height c.args.program.now) c.loop-c.c
    = c.cost-cost.ensures.value ∙ sym (number_at_cost p c.loop-c.c within) in
    let small : c.cost-cost.result < 2 ^ 63 = omega (arith, c.cost-cost.ensures.most) in
    elim c.if-cost-ne0.branch [
      | then-cost-ne0+in_ok-push w ↦
          rw (w.entries-is, w.in_ok-push.ensures.items)
          (numbers_more p (height p) c.loop-c.c c.cost-cost.result c.loop-c.entries.items
          w.whole.result c.loop-c.invariant number w.whole.ensures w.if-cost-ne0.true small)
      | else-cost-ne0 w ↦
          rw w.entries-is
          (numbers_zero p (height p) c.loop-c.c c.cost-cost.result c.loop-c.entries.items
          c.loop-c.invariant number w.if-cost-ne0.false)
    ]

pub returns : goal.returns
returns c =
    let p = c.args.program.now in
    let end : c.loop-c.c ≡ columns c.args.program.now =
    omega (arith, c.loop-c-test.false, c.loop-c.auto.c-end, c.columns-c-end.ensures.value) in
    entries_of_costs p (height p) c.loop-c.entries.items (omega arith) (rw (← end) c.loop-c.invariant)
