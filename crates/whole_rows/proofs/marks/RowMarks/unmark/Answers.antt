use Rattle.std.proofs.Common.{◌+◌, ◌*◌, ◌/◌, ◌%◌, ◌<◌, ◌∙◌, arith}
use Rattle.std.proofs.lemmas.List.{with_items_is}
use Rattle.whole_rows.proofs.Marking.{bits_apart}
use Rattle.whole_rows.proofs.marks.RowMarks.unmark.Goals as goal

pub returns-clause-others : goal.returns-clause-others
returns-clause-others c u j apart l is =
    let words = c.args.self.now.words in
    let bits = with_items_is c.args.self.now.bits c.clear_bit.new.words (c.clear_bit.ensures.as_many ∙ c.deref_mut.ensures.len) in
    let low : j % 64 < 64 = omega arith in
    let same = c.clear_bit.ensures.others (u * words + j / 64) (j % 64)
    (bits_apart u c.args.v j c.args.i words apart c.requires.row l) low in
    rw (bits, same, c.deref_mut.ensures.value) is
