-- What contracts see of duals and certificates: their numbers.
use Rattle.std.specs.Prelude.{ℕ, List, map}
use Rattle.program_form.specs.declared.certificate.Dual.{Dual}
use Rattle.program_form.specs.declared.certificate.Certificate.{Certificate}

-- A dual of a program: a multiplier for each row. All of them have one denominator.
pub record DualDef : Type 0 where
  pub den : ℕ
  pub num : List ℕ

-- A certificate: for each task a bound, in ticks, and a dual of its program.
pub record CertificateDef : Type 0 where
  pub bounds : List ℕ
  pub duals : List DualDef

abbrev pub dual_seen : Dual → DualDef
dual_seen d = record { den = d.den; num = d.num.items }

abbrev pub certificate_seen : Certificate → CertificateDef
certificate_seen c = record { bounds = c.bounds.items; duals = map dual_seen c.duals.items }
