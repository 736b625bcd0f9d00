use Rattle.named_laws.proofs.FigureLaws.{proved_figures}
use Rattle.named_laws.proofs.laws.figures_are_proved.Goals as goal

pub returns : goal.returns
returns c = proved_figures
