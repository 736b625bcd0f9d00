use Rattle.std.proofs.Common.{FitsSigned, w64, rules}
use Rattle.whole_rows.proofs.Read.{read}
use Rattle.whole_rows.proofs.Taking.{products_fit, room_kept}
use Rattle.whole_rows.proofs.numbers.take_from.Goals as goal

pub take_listed-requires : goal.take_listed-requires
take_listed-requires c =
    let fits : FitsSigned w64 c.args.f = search rules in
    let fits_p : FitsSigned w64 c.args.p = search rules in
    record {
      sparse = c.requires.sparse;
      below = search rules;
      products = rw (read c.args.f fits)
          (products_fit c.args.nums.now c.args.p c.args.f c.args.entries.now c.requires.sparse c.requires.room);
      room = rw (read c.args.f fits)
          (room_kept c.args.nums.now c.multiply_all.new.nums c.args.k c.args.p c.args.f c.args.entries.now c.requires.place
          (rw (read c.args.p fits_p) at c.multiply_all.ensures) c.requires.room);
    }
