-- Is the value of a task's dual in a certificate a whole number: does the dual's denominator divide its total?
use Rattle.std.specs.Prelude.{ℕ, ◌%◌, ◌==◌, Bool, slice_index}
use Rattle.program_form.specs.Certificate.{CertificateDef}
use Rattle.program_form.specs.Duals.{dual_total}
use Rattle.program_sources.specs.Recurrence.{SourceDef}
use Rattle.program_sources.specs.Valid.{dual_at}

abbrev pub is_whole : SourceDef → CertificateDef → ℕ → Bool
is_whole f c i = dual_total (f.program i c.bounds) (λ r. slice_index (dual_at c.duals i).num r) % (dual_at c.duals i).den == 0
