use Rattle.std.proofs.Common.{rules, ◌<◌, ◌^◌, refl}
use Rattle.program_form.specs.Program.{ProgramDef}
use Rattle.settling.specs.Rising.{IsFoundBy}
use Rattle.free_search.specs.declared.found.SearchStop.TheVariants.{Lost}
use Rattle.settling.proofs.FindingLaws.{stopped_at, found_in, found_of}
use Rattle.settling.proofs.reached.search_task.Goals as goal

pub returns-in-Err-Lost-clause-stops : goal.returns-in-Err-Lost-clause-stops
returns-in-Err-Lost-clause-stops g c =
    let p : ProgramDef = (g.P.ProgramSource.source c.args.protocol.now c.args.set.now).program c.args.i.0 c.args.bounds.now in (
      refl,
      stopped_at c.args.points p c.in_ok-program.program c.args.units c.in-Err-Lost.field-0 Lost c.in_ok-program.ensures
          c.in-Err-Lost.field-0-is c.in-Err-Lost.ensures.stops,
    )

pub returns-clause-found : goal.returns-clause-found
returns-clause-found g c =
    let p : ProgramDef = (g.P.ProgramSource.source c.args.protocol.now c.args.set.now).program c.args.i.0 c.args.bounds.now in
    let found : IsFoundBy c.args.points p c.args.units c.in-Ok.found =
    found_in c.args.points p c.in_ok-program.program c.args.units c.in-Ok.found c.in_ok-program.ensures c.in-Ok.ensures.found in
    let small : c.in-Ok.found.ticks < 2 ^ 63 = search rules in
    found_of c.args.points p c.args.units c.in-Ok.found _ c.what_is_found_is_best.ensures.greatest found small
    (rw c.deref-2.ensures.value at c.in_ok-small_point.ensures) refl refl refl c.requires.limits
