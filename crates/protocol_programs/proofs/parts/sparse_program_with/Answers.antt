use Rattle.std.proofs.Common.{◌≡◌, map}
use Rattle.blocking_columns.specs.ColumnDef.{column_seen}
use Rattle.program_laws.specs.Programs.{cost_of}
use Rattle.protocol_programs.proofs.Over.{sparse_is_program}
use Rattle.protocol_programs.proofs.parts.sparse_program_with.Goals as goal

pub over-requires-clause-listed : goal.over-requires-clause-listed
over-requires-clause-listed g c =
    let set = c.args.set.now in
    let i = c.args.i.0 in
    let parts = c.args.parts.now in
    let seen = map column_seen c.in_ok-columns.columns.items in
    let worth : c.in_ok-costs.costs.items ≡ map (cost_of set) seen = rw c.deref.ensures.value at c.in_ok-costs.ensures in
    let is = g.met.P.ProgramParts.is_program parts set i c.args.bounds.now c.requires.serves c.tasks-tasks.ensures.accepted c.requires.task
    c.requires.within in
    (sparse_is_program set seen (g.P.ProgramParts.columns parts set i) (g.P.ProgramParts.rows parts set i) c.args.bounds.now
    c.in_ok-costs.costs.items c.in_ok-taken.taken c.take_rows.new.taker
    c.in_ok-columns.ensures.columns worth c.in_ok-taken.ensures c.in_ok-columns.ensures.rows is).0

pub over-requires-clause-program : goal.over-requires-clause-program
over-requires-clause-program g c =
    let set = c.args.set.now in
    let i = c.args.i.0 in
    let parts = c.args.parts.now in
    let seen = map column_seen c.in_ok-columns.columns.items in
    let worth : c.in_ok-costs.costs.items ≡ map (cost_of set) seen = rw c.deref.ensures.value at c.in_ok-costs.ensures in
    let is = g.met.P.ProgramParts.is_program parts set i c.args.bounds.now c.requires.serves c.tasks-tasks.ensures.accepted c.requires.task
    c.requires.within in
    (sparse_is_program set seen (g.P.ProgramParts.columns parts set i) (g.P.ProgramParts.rows parts set i) c.args.bounds.now
    c.in_ok-costs.costs.items c.in_ok-taken.taken c.take_rows.new.taker
    c.in_ok-columns.ensures.columns worth c.in_ok-taken.ensures c.in_ok-columns.ensures.rows is).1
