-- The duals of any certificate have values.
use Rattle.std.proofs.Common.{ℕ, List, map, arith}
use Rattle.std.specs.List.{range_with_len}
use Rattle.std.proofs.lemmas.List.FromFn.{length-map-range_with_len, get_or-map-range_with_len}
use Rattle.program_form.specs.Certificate.{CertificateDef}
use Rattle.program_sources.specs.Recurrence.{SourceDef}
use Rattle.program_sources.specs.Fitting.{tasks_of}
use Rattle.program_sources.specs.Valid.{value_at}
use Rattle.soundness_laws.specs.Analyses.{AreValues}

pub values_of : (f : SourceDef) (c : CertificateDef) → List ℕ
values_of f c = map (value_at f c) (range_with_len 0 (tasks_of f))

pub are_values : (f : SourceDef) (c : CertificateDef) → AreValues f c (values_of f c)
unfolding values_of
are_values f c = record {
  one_each = length-map-range_with_len (value_at f c) 0 (tasks_of f);
  each = λ i here. get_or-map-range_with_len (value_at f c) 0 (tasks_of f) i i 0 here (omega arith);
}
