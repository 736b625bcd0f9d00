-- What contracts see of a certificate's file.
use Rattle.program_form.specs.Certificate.{certificate_seen}
use Rattle.cert_json.specs.FileDef.{FileDef}
use Rattle.cert_json.specs.declared.file.CertFile.{CertFile}

abbrev pub file_seen : CertFile → FileDef
file_seen f = record { certificate = certificate_seen f.certificate; digest = f.digest }
