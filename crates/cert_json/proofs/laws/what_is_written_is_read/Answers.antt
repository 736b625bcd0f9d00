use Rattle.cert_json.proofs.ReadBack.{is_value, read_back}
use Rattle.cert_json.proofs.laws.what_is_written_is_read.Goals as goal

pub returns : goal.returns
returns c = record { value = λ word f. is_value word f.digest f.certificate; same = read_back }
