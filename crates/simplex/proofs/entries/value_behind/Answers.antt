use Rattle.std.proofs.Common.{sym, ap, ◌∙◌}
use Rattle.fraction128.proofs.Forms.{form_of_zero}
use Rattle.simplex.specs.declared.entries.Entry.{Entry}
use Rattle.simplex.proofs.Listed.{entry_same, listed_entry, split_none}
use Rattle.simplex.proofs.entries.value_behind.Goals as goal

pub returns-then-is_at : goal.returns-then-is_at
returns-then-is_at c =
    let at = c.if-is_at.ensures in
    let same = entry_same c.args.entries.now c.args.count c.index-entries-count.result at.0 in
    record {
      value = ap (λ (e : Entry). e.value) (sym same)
          ∙ sym (listed_entry c.args.entries.now c.args.count c.args.v c.requires.sparse.rise at.0 at.1);
      form = rw (← same) (c.requires.sparse.forms c.args.count at.0);
    }

pub returns-else-is_at : goal.returns-else-is_at
returns-else-is_at c = record {
  value = c.whole.ensures ∙ sym (split_none c.args.entries.now c.args.count c.args.v c.requires.sparse c.requires.split c.if-is_at.ensures);
  form = rw c.whole.ensures form_of_zero;
}
