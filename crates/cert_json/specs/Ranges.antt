-- The ranges of the numbers in a certificate.
use Rattle.std.specs.Prelude.{◌^◌, ◌<◌, ◌≤◌, All}
use Rattle.program_form.specs.Certificate.{DualDef, CertificateDef}
use Rattle.program_form.specs.declared.TheConstants.{MOST_NUMBER}

-- Is the denominator positive, and is each number at most the greatest that a program may hold?
pub record IsSmallDual (d : DualDef) : Type 0 where
  pub positive : 1 ≤ d.den
  pub small : d.den ≤ MOST_NUMBER
  pub numerators : All (λ n. n ≤ MOST_NUMBER) d.num

abbrev pub HasSmallDuals : CertificateDef → Type 0
HasSmallDuals c = All IsSmallDual c.duals

-- Does the text of the certificate have the form? It does if each bound has 64 bits, and the duals are small.
pub record IsWritable (c : CertificateDef) : Type 0 where
  pub bounds : All (λ n. n < 2 ^ 64) c.bounds
  pub duals : HasSmallDuals c
