use Rattle.std.proofs.Common.{◌≡◌, ◌∙◌, ℕ, sym, ap, subst}
use Rattle.std.specs.Prelude.{slice_index}
use Rattle.sporadic_model.specs.Accepted.{IsAccepted}
use Rattle.schedule_model.specs.LawfulJobs.{AreLawfulJobs}
use Rattle.schedule_model.specs.RowDef.{Trace, row_in, trace_in, ticks_of}
use Rattle.schedule_model.specs.Seen.{place_seen}
use Rattle.charge_laws.specs.Windows.{bound_end}
use Rattle.charge.specs.Passed.{first_passed}
use Rattle.charge.proofs.PassedNext.{passed_at_end, none_noted}
use Rattle.charge.proofs.RowsMet.{ended_within}
use Rattle.charge.proofs.charging.charge_rows_with.Goals as goal

pub walk-requires-clause-first : goal.walk-requires-clause-first
walk-requires-clause-first g c =
    c.new-ledger.ensures (g.P.ChargedProtocol.charges c.args.protocol.now) (trace_in c.args.jobs.now (g.R.RowReader.rows c.args.rows.now).runs)
    (slice_index c.args.bounds.now)

pub returns-in-Some-clause-charged : goal.returns-in-Some-clause-charged
returns-in-Some-clause-charged g c =
    let passed : place_seen c.first_of_due.result
    ≡ first_passed (trace_in c.args.jobs.now (g.R.RowReader.rows c.args.rows.now).runs) (slice_index c.args.bounds.now) (ticks_of (g.R.RowReader.rows c.args.rows.now).runs) =
    passed_at_end c.in-Ok.machine (row_in (g.R.RowReader.rows c.args.rows.now).runs) c.args.bounds.now c.args.jobs.now (ticks_of (g.R.RowReader.rows c.args.rows.now).runs)
    (place_seen c.walk.new.notes.passed) (place_seen c.first_of_due.result) c.in-Ok.ensures.shows c.in-Ok.ensures.list
    c.in-Ok.ensures.tick c.requires.bounds c.in-Ok.ensures.are_kept.passed c.first_of_due.ensures in
    (c.in-Ok.ensures.lawful, sym passed ∙ ap place_seen c.in-Some.is)

pub returns-clause-charged : goal.returns-clause-charged
returns-clause-charged g c =
    let w : Trace = trace_in c.args.jobs.now (g.R.RowReader.rows c.args.rows.now).runs in
    let n : ℕ = ticks_of (g.R.RowReader.rows c.args.rows.now).runs in
    let passed : place_seen c.first_of_due.result ≡ first_passed w (slice_index c.args.bounds.now) n =
    passed_at_end c.in-Ok.machine (row_in (g.R.RowReader.rows c.args.rows.now).runs) c.args.bounds.now c.args.jobs.now n
    (place_seen c.walk.new.notes.passed) (place_seen c.first_of_due.result) c.in-Ok.ensures.shows c.in-Ok.ensures.list
    c.in-Ok.ensures.tick c.requires.bounds c.in-Ok.ensures.are_kept.passed c.first_of_due.ensures in (
      c.in-Ok.ensures.lawful,
      sym passed ∙ none_noted c.first_of_due.result c.in_default.not-Some,
      c.in_ok-table_of.ensures c.args.protocol.now w (slice_index c.args.bounds.now) n c.requires.suits
          (subst AreLawfulJobs c.in-Ok.ensures.list c.in-Ok.ensures.shows.machine.lawful) c.in-Ok.ensures.lawful
          c.in-Ok.ensures.are_kept,
    )

pub returns-clause-rows : goal.returns-clause-rows
returns-clause-rows g c = λ j l.
    let w : Trace = trace_in c.args.jobs.now (g.R.RowReader.rows c.args.rows.now).runs in
    let n : ℕ = ticks_of (g.R.RowReader.rows c.args.rows.now).runs in
    let passed : place_seen c.first_of_due.result ≡ first_passed w (slice_index c.args.bounds.now) n =
    passed_at_end c.in-Ok.machine (row_in (g.R.RowReader.rows c.args.rows.now).runs) c.args.bounds.now c.args.jobs.now n
    (place_seen c.walk.new.notes.passed) (place_seen c.first_of_due.result) c.in-Ok.ensures.shows c.in-Ok.ensures.list
    c.in-Ok.ensures.tick c.requires.bounds c.in-Ok.ensures.are_kept.passed c.first_of_due.ensures in
    let accepted : IsAccepted w.set = subst IsAccepted c.set.ensures c.keeps_the_model.ensures.accepted in
    g.met.P.ChargedProtocol.meets_rows c.args.protocol.now w c.args.bounds.now n j c.requires.suits accepted
    (subst AreLawfulJobs c.in-Ok.ensures.list c.in-Ok.ensures.shows.machine.lawful) c.in-Ok.ensures.lawful l
    (ended_within w (slice_index c.args.bounds.now) (bound_end w (slice_index c.args.bounds.now) j) n
    (sym passed ∙ none_noted c.first_of_due.result c.in_default.not-Some))
