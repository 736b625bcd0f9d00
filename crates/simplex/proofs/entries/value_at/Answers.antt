use Rattle.std.proofs.Common.{◌≡◌, ap, sym, ◌∙◌, arith}
use Rattle.fraction128.proofs.Forms.{form_of_zero}
use Rattle.simplex.specs.Entries.{entry_at}
use Rattle.simplex.specs.declared.entries.Entry.{Entry}
use Rattle.simplex.proofs.Listed.{entry_read, listed_entry, listed_none}
use Rattle.simplex.proofs.entries.value_at.Goals as goal

pub returns-then-entry-v : goal.returns-then-entry-v
returns-then-entry-v c =
    let es = c.args.entries.now in
    let k = c.loop-entry.entry-index in
    let read = entry_read es k c.entry-item.result c.loop-entry-test.true c.entry-item.is in
    let at : (entry_at c.args.entries.now c.loop-entry.entry-index).variable ≡ c.args.v
    = ap (λ (e : Entry). e.variable) read ∙ c.if-entry-v.true in
    record {
      value = sym (listed_entry es k c.args.v c.requires.rise c.loop-entry-test.true at ∙ ap (λ (e : Entry). e.value) read);
      form = rw (← read) (c.requires.forms k c.loop-entry-test.true);
    }

pub returns : goal.returns
returns c = record {
  value = c.whole.ensures
      ∙ sym (listed_none c.args.entries.now c.args.v (λ k l. c.loop-entry.invariant k (omega (arith, c.loop-entry-test.false))));
  form = rw c.whole.ensures form_of_zero;
}
