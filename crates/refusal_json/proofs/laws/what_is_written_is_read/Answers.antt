use Rattle.refusal_json.proofs.ReadBack.{is_value, read_back}
use Rattle.refusal_json.proofs.laws.what_is_written_is_read.Goals as goal

pub returns : goal.returns
returns c = record { value = is_value; same = read_back }
