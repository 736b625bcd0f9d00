use Rattle.std.proofs.Common.{◌≡◌, ◌∷◌, ◌∙◌, subst, sym, ap, refl, arith}
use Rattle.trace_csv.specs.Records.{Fields, fields_seen}
use Rattle.trace_csv.specs.RowsFile.{HasRowsHeader, rows_header}
use Rattle.trace_csv.proofs.Headers.{no_long_header}
use Rattle.trace_csv.proofs.rows.take_header.Goals as goal

pub returns : goal.returns
returns c =
    let jobs = c.args.jobs.now in
    let header = fields_seen c.in-Record.header.items in
    let first = rw c.in-Record.is at c.in_ok-header.ensures in
    let slices = rw c.deref.ensures.value at c.in_ok-header-2.ensures in
    let same = rw c.deref-2.ensures.value at (c.in_ok-is_rows_header.ensures.0 c.if-not-branch.false) in
    let is : header ≡ rows_header jobs.set = sym slices ∙ same ∙ ap rows_header c.set.ensures in
    first ∙ ap (λ (h : Fields). h ∷ c.next.new.self) is

pub returns-in-Long : goal.returns-in-Long
returns-in-Long c =
    let jobs = c.args.jobs.now in
    let long = rw c.in-Long.is at c.in_ok-header.ensures in (
      refl,
      λ here.
          no_long_header jobs long.0 long.1 (omega (arith, long.3, c.fields_per_line.ensures))
          (subst (HasRowsHeader jobs.set) long.2 here),
    )
