use Rattle.std.proofs.Common.{◌≡◌, ap, refl, arith}
use Rattle.simplex.specs.Entries.{entry_at}
use Rattle.simplex.specs.declared.entries.Entry.{Entry}
use Rattle.simplex.proofs.Listed.{entry_read, listed_entry, first_listed, none_listed}
use Rattle.simplex.proofs.entries.first_above.Goals as goal

pub returns-then-is_above_zero : goal.returns-then-is_above_zero
returns-then-is_above_zero c =
    let es = c.args.entries.now in
    let k = c.loop-entry.entry-index in
    let read = entry_read c.args.entries.now c.loop-entry.entry-index c.entry-item.result c.loop-entry-test.true c.entry-item.is in
    let own : (entry_at c.args.entries.now c.loop-entry.entry-index).variable ≡ c.entry-item.result.variable =
    ap (λ (e : Entry). e.variable) read in (
      (k, c.loop-entry-test.true, own),
      rw (listed_entry es k c.entry-item.result.variable c.requires.rise c.loop-entry-test.true own, read)
          (c.if-is_above_zero.ensures.0 refl),
      λ v l. first_listed es k c.requires c.loop-entry-test.true c.loop-entry.invariant v (rw own l),
    )

pub returns : goal.returns
returns c = none_listed c.args.entries.now c.requires (λ i l. c.loop-entry.invariant i (omega (arith, c.loop-entry-test.false)))
