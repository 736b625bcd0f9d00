use Rattle.std.proofs.Common.{rules}
use Rattle.shared_choosing.proofs.choosing.faster.Goals as goal

pub returns-then-is_outrun : goal.returns-then-is_outrun
returns-then-is_outrun g c = record { value = λ column. search rules; listed = c.requires.listed }
