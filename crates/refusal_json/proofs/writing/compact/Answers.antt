use Rattle.std.specs.Prelude.{string_bytes}
use Rattle.serde_json.specs.View.{view}
use Rattle.cert_json.proofs.ValueLaws.{written_whole}
use Rattle.refusal_laws.specs.Seen.{steps_seen}
use Rattle.refusal_json.specs.Value.{refusal_data}
use Rattle.refusal_json.proofs.ValueLaws.{whole-refusal}
use Rattle.refusal_json.proofs.writing.compact.Goals as goal

pub returns : goal.returns
returns c = written_whole string_bytes c.to_string.result (view c.in_ok-value_of.field-0)
    (refusal_data c.args.word.now c.args.digest.now (steps_seen c.args.refusal.now)) c.in_ok-value_of.ensures
    (whole-refusal c.args.word.now c.args.digest.now (steps_seen c.args.refusal.now)) c.to_string.ensures.text
