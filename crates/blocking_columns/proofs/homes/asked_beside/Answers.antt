use Rattle.std.proofs.Common.{arith}
use Rattle.std.proofs.lemmas.List.{get_or-replicate}
use Rattle.blocking_columns.proofs.homes.asked_beside.Goals as goal

pub count_homes-requires-clause-none : goal.count_homes-requires-clause-none
count_homes-requires-clause-none c = record { room = omega arith; none = λ k l. get_or-replicate 65 k 0 0 l }
