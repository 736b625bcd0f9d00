use Rattle.std.proofs.Common.{arith}
use Rattle.fraction128.proofs.OddParts.{odd_part_of}
use Rattle.fraction128.proofs.divisor.odd_part.Goals as goal

pub returns : goal.returns
returns c = odd_part_of c.args.n c.requires (omega arith)
