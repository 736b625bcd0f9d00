use Rattle.std.proofs.Common.{rules, ℕ, arith}
use Rattle.std.proofs.lemmas.List.{get_or-replicate}
use Rattle.closer_mpcp.proofs.lower_holders.longest_on.Goals as goal

pub loop-x-init : goal.loop-x-init
loop-x-init c = record {
  processors = search rules;
  sum = λ k l. omega (arith, get_or-replicate {A = ℕ} 65 k 0 0 l);
  most = λ k l. omega (arith, get_or-replicate {A = ℕ} 65 k 0 0 l);
}
