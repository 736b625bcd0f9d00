use Rattle.std.specs.Prelude.{IfOk}
use Rattle.audit_figures.specs.Given.{ArePutTogether}
use Rattle.audit_figures.proofs.Together.{answer_is}
use Rattle.audit_figures.proofs.beside.figures.Goals as goal

pub returns : goal.returns
returns c =
    let put : IfOk c.put_together.result
    (λ v. ArePutTogether c.args.measured.now.tasks.items c.args.bounds.now c.args.values.now c.in_ok-sums.sums.items v.items) =
    rw (c.deref.ensures.value, c.deref-2.ensures.value) at c.put_together.ensures in
    answer_is c.put_together.result c.args.jobs.now c.args.measured.now c.args.bounds.now c.args.values.now c.args.table.now.charges.items
    c.in_ok-sums.sums.items c.keeps_its_rules.ensures.listed.most c.requires.measured c.in_ok-sums.ensures.each put
