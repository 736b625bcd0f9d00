use Rattle.std.specs.Prelude.{string_bytes}
use Rattle.serde_json.specs.View.{view}
use Rattle.program_form.specs.Certificate.{certificate_seen}
use Rattle.cert_json.specs.Value.{certificate_data}
use Rattle.cert_json.proofs.ValueLaws.{whole-certificate, written_whole}
use Rattle.cert_json.proofs.writing.compact.Goals as goal

pub returns : goal.returns
returns c = written_whole string_bytes c.to_string.result (view c.in_ok-value_of.field-0)
    (certificate_data c.args.word.now c.args.digest.now (certificate_seen c.args.certificate.now)) c.in_ok-value_of.ensures
    (whole-certificate c.args.word.now c.args.digest.now (certificate_seen c.args.certificate.now)) c.to_string.ensures.text
