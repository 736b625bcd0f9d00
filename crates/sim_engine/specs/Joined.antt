-- Runs of equal rows, each as long as it can be.
use Rattle.std.specs.Prelude.{◌≢◌, List, [], ◌∷◌}
use Rattle.schedule_model.specs.RowDef.{RunDef}

-- Has each run another row than the run before it?
abbrev pub AreJoined : List RunDef → Type 0
AreJoined [] = Unit {0}
AreJoined (run ∷ []) = Unit {0}
AreJoined (run ∷ next ∷ runs) = (run.row ≢ next.row) × AreJoined (next ∷ runs)
