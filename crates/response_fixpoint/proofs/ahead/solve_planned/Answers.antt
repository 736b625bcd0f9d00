use Rattle.std.proofs.Common.{◌≡◌, ℕ, ◌+◌, length, refl, sym, subst, arith}
use Rattle.std.proofs.lemmas.Option.{slice_get_read}
use Rattle.program_form.specs.Program.{ProgramDef}
use Rattle.program_sources.specs.Recurrence.{SourceDef, source_at}
use Rattle.response_fixpoint.specs.Solutions.{GivesSolution, IsPlanned}
use Rattle.response_fixpoint.specs.declared.plan.Planned.{Planned}
use Rattle.response_fixpoint.proofs.ahead.solve_planned.Goals as goal

pub returns : goal.returns
returns g c =
    let f : SourceDef = source_at (g.P.ProgramSource.source c.args.protocol.now) c.args.set.now in
    let here : Planned = c.index-plan-i.result in
    let place : 0 + c.args.i.0 ≡ c.args.i.0 = omega arith in
    let planned : IsPlanned f c.args.bounds.now c.args.left c.args.i.0 here =
    subst (λ (k : ℕ). IsPlanned f c.args.bounds.now c.args.left k here) place
    (c.requires.plan.planned c.args.i.0 here (slice_get_read c.args.plan.now (length c.args.plan.now) c.args.i.0 here refl
    (omega (arith, c.requires.task, c.requires.plan.one_each)) c.index-plan-i.is)) in
    record {
      gives = subst (λ (p : ProgramDef). GivesSolution c.solve_program.result p c.args.left) planned.program
          (subst (λ (x : Planned). GivesSolution c.solve_program.result x.program c.args.left) (sym c.index-plan-i.is)
          c.solve_program.ensures);
    }
