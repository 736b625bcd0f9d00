use Rattle.std.proofs.Common.{refl, arith}
use Rattle.csv.specs.declared.parser.State.TheVariants as st
use Rattle.trace_csv.proofs.Reading.{few_left}
use Rattle.trace_csv.proofs.records.Records.new.Goals as goal

pub returns-clause-few : goal.returns-clause-few
returns-clause-few c = omega (arith, few_left st.StartRecord c.without_mark.result.now refl)
