use Rattle.std.proofs.Common.{arith}
use Rattle.trace_csv.proofs.Tokens.{one_token, more_tokens}
use Rattle.trace_csv.proofs.script.first_token.Goals as goal

pub returns-in-Some : goal.returns-in-Some
returns-in-Some c =
    let h = c.in-Some.ensures in
    record {
      tokens = rw (h.0, h.1) (more_tokens c.args.text.now h.3);
      smaller = omega (arith, h.2);
    }

pub returns-in-None : goal.returns-in-None
returns-in-None c = record { tokens = one_token c.args.text.now c.in-None.ensures; smaller = omega arith }
