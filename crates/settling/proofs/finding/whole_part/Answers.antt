use Rattle.std.proofs.Common.{◌≡◌, ℕ, ◌/◌, ◌≤◌, ◌^◌, MatchOption, subst}
use Rattle.settling.proofs.RoundedLaws.{quotient_is}
use Rattle.settling.proofs.finding.whole_part.Goals as goal

pub returns : goal.returns
returns c =
    let quotient : ℕ = c.in_ok-division.division.quotient in
    let part : quotient ≡ c.args.number.now / c.args.den.now =
    quotient_is quotient c.args.den.now c.in_ok-division.division.rest c.args.number.now c.in_ok-division.ensures.whole
    c.in_ok-division.ensures.less in
    subst (λ (n : ℕ). MatchOption c.as_u64.result (2 ^ 64 ≤ n) (λ ticks. ticks ≡ n)) part c.as_u64.ensures
