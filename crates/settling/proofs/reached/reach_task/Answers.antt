use Rattle.std.proofs.Common.{◌≡◌, length, refl, Some}
use Rattle.std.specs.Prelude.{slice_get}
use Rattle.std.proofs.lemmas.Option.{slice_get_read}
use Rattle.program_form.specs.Program.{ProgramDef}
use Rattle.program_sources.specs.Recurrence.{SourceDef, source_at}
use Rattle.response_fixpoint.proofs.VectorLaws.{same_vectors}
use Rattle.settling.specs.Rising.{IsFoundOf}
use Rattle.settling.proofs.FindingLaws.{needs_more}
use Rattle.settling.proofs.RiseLaws.{found_before, taken_over}
use Rattle.settling.proofs.reached.reach_task.Goals as goal

pub returns-then-last-units-clause-stops : goal.returns-then-last-units-clause-stops
returns-then-last-units-clause-stops g c =
    let f : SourceDef = source_at (g.P.ProgramSource.source c.args.protocol.now) c.args.set.now in
    let p : ProgramDef = f.program c.args.i.0 c.args.bounds.now in
    let look = c.in-Some.ensures.lookup in
    let last = c.in-Some.last.now in
    let at : slice_get c.args.before.now c.args.i.0 ≡ Some c.in-Some.last.now =
    slice_get_read c.args.before.now (length c.args.before.now) c.args.i.0 last refl look.3.0 look.1 in
    let stay : c.in-Some.last.now.limits.items ≡ c.in_ok-limits.limits.items =
    same_vectors last.limits.items c.in_ok-limits.limits.items c.if-eq.ensures in
    let found : IsFoundOf c.args.points p last =
    found_before c.args.points f c.requires.begun.before.0 c.args.bounds.now c.args.i.0 c.args.before.now last c.in_ok-limits.limits.items
    (λ u v most. g.met.P.ProgramSource.rises c.args.protocol.now c.args.set.now c.args.i.0 u v c.requires.serves c.requires.task most)
    c.requires.begun.before.1 at stay c.in_ok-limits.ensures in
    needs_more c.args.points p last c.args.units found c.if-last-units.true

pub returns-then-eq-clause-found : goal.returns-then-eq-clause-found
returns-then-eq-clause-found g c =
    let f : SourceDef = source_at (g.P.ProgramSource.source c.args.protocol.now) c.args.set.now in
    let look = c.in-Some.ensures.lookup in
    let last = c.in-Some.last.now in
    let at : slice_get c.args.before.now c.args.i.0 ≡ Some c.in-Some.last.now =
    slice_get_read c.args.before.now (length c.args.before.now) c.args.i.0 last refl look.3.0 look.1 in
    let stay : c.in-Some.last.now.limits.items ≡ c.in_ok-limits.limits.items =
    same_vectors last.limits.items c.in_ok-limits.limits.items c.if-eq.ensures in
    taken_over c.args.points f c.requires.begun.before.0 c.args.bounds.now c.args.i.0 c.args.before.now last c.in_ok-reached.reached
    c.in_ok-limits.limits.items
    (λ u v most. g.met.P.ProgramSource.rises c.args.protocol.now c.args.set.now c.args.i.0 u v c.requires.serves c.requires.task most)
    c.requires.begun.before.1 at stay c.in_ok-limits.ensures c.in_ok-reached.ensures
