-- Steps as contracts see them.
use Rattle.std.proofs.Common.{◌≡◌, ℕ, ◌<◌, List, length, map, get_or, sym, ap, ◌∙◌}
use Rattle.std.proofs.lemmas.List.{get_or-map}
use Rattle.refusal_laws.specs.Steps.{no_step, step_at}
use Rattle.refusal_laws.specs.Seen.{step_seen}
use Rattle.refusal_laws.specs.declared.refusal.RefusalStep.{RefusalStep}

-- Step k, as contracts see it.
pub step_seen_at : (steps : List RefusalStep) (k : ℕ) (step : RefusalStep) → k < length steps → step ≡ get_or steps k step
    → step_seen step ≡ step_at (map step_seen steps) k
step_seen_at steps k step here is = sym (get_or-map step_seen steps k step no_step here ∙ ap step_seen (sym is))
