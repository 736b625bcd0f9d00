use Rattle.std.proofs.Common.{arith}
use Rattle.sporadic_model.specs.Accepted.{TaskNumbers}
use Rattle.sporadic_model.proofs.Laws.{numbers_of_accepted}
use Rattle.program_sources.proofs.RecurrenceLaws.{cost_below_fitting, valid_fits}
use Rattle.charged_protocols.proofs.laws.valid_certificates_bound_each_task.Goals as goal

pub returns : goal.returns
returns c = λ f certificate accepted valid. record {
  from = λ x l. let numbers : TaskNumbers f.set x = numbers_of_accepted f.set x accepted l in
      omega (arith, numbers.cost_from, cost_below_fitting f certificate.bounds x (valid_fits f certificate valid) l);
  latest = λ x l. (valid.proved x l).within;
}
