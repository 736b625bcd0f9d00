use Rattle.std.proofs.Common.{arith, w64}
use Rattle.std.proofs.lemmas.Int.{to_z_pos}
use Rattle.fraction128.proofs.Forms.{form_of_whole}
use Rattle.fraction128.proofs.Frac.whole.Goals as goal

pub of_parts-requires : goal.of_parts-requires
of_parts-requires c = rw (to_z_pos w64 c.args.n (omega arith)) (form_of_whole c.args.n c.requires)
