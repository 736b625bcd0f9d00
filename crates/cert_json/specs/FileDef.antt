-- The contents of a certificate's file: the certificate, and the digest of its set's bytes.
use Rattle.std.specs.Prelude.{ℕ, List}
use Rattle.program_form.specs.Certificate.{CertificateDef}

pub record FileDef : Type 0 where
  pub certificate : CertificateDef
  pub digest : List ℕ
