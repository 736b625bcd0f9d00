use Rattle.response_fixpoint.proofs.WrittenLaws.{no_columns}
use Rattle.response_fixpoint.proofs.laws.no_requests_no_columns.Goals as goal

pub returns : goal.returns
returns c = no_columns
