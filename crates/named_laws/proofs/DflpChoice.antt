-- After the same rows there is one chosen row under the distributed FIFO protocol.
use Rattle.std.proofs.Common.{◌≡◌, ℕ, arith}
use Rattle.schedule_model.specs.declared.rule.Rule.TheVariants as rule
use Rattle.schedule_model.specs.RowDef.{Trace, holder_in}
use Rattle.schedule_model.specs.Activity.{issue_tick_of}
use Rattle.schedule_laws.specs.Agreement.{AgreeBefore}
use Rattle.schedule_laws.proofs.Agreement.{issue_agree}
use Rattle.schedule_laws.proofs.SharedChoice.{rows_same}
use Rattle.schedule_laws.proofs.DpcpChoice.{RunsByRank, one_running}
use Rattle.dflp_laws.specs.Rules.{IsDflpChoice}
use Rattle.named_laws.proofs.FifoHolders.{GrantsInTurn, holders_same}

in_turn : (w : Trace) (t : ℕ) → IsDflpChoice w t → GrantsInTurn w t
in_turn w t c = record { keep = c.keeps rule.Keep; grant = c.keeps rule.Grant; ties = c.grants }

by_rank : (w : Trace) (t : ℕ) → IsDflpChoice w t → RunsByRank issue_tick_of w t
by_rank w t c = record { run = c.keeps rule.Run; idle = c.keeps rule.Idle; priority = c.keeps rule.Priority; ties = c.runs }

pub dflp_choice_one : (v w : Trace) (t : ℕ) → AgreeBefore v w t → IsDflpChoice v t → IsDflpChoice w t → v.row t ≡ w.row t
dflp_choice_one v w t a c d = rows_same v w t a.set c.sized d.sized
    (one_running issue_tick_of v w t a (λ j. issue_agree v w t t j a (omega arith)) holders (by_rank v t c) (by_rank w t d)) holders
  where
    holders : (q : ℕ) → holder_in (v.row t) q ≡ holder_in (w.row t) q
    holders = holders_same v w t a (in_turn v t c) (in_turn w t d)
