use Rattle.std.proofs.Common.{◌≡◌, ◌*◌, ◌≤◌, ◌∙◌, Bool, true, false, ℕ, nat_lt, ap, arith}
use Rattle.std.specs.Prelude.{slice_index}
use Rattle.std.proofs.Math.Nat.{mul_assoc, mul_comm, mul-le-mul}
use Rattle.number_laws.specs.Sums.{only_if}
use Rattle.sporadic_model.specs.Users.{count_of, length_of}
use Rattle.blocking_columns.specs.Windows.{jobs_during}
use Rattle.closer_mpcp.proofs.ticks.own_ticks_of.Goals as goal

-- Each of these requests lasts so long.
time_of : (b : Bool) (jobs count length held : ℕ) → held ≡ only_if b (count * jobs) → held * length ≡ only_if b (jobs * (count * length))
time_of true jobs count length held made =
    ap (λ m. m * length) (made ∙ mul_comm count jobs) ∙ mul_assoc jobs count length
time_of false jobs count length held made = ap (λ m. m * length) made ∙ omega arith

pub returns : goal.returns
returns c =
    let set = c.args.set.now in
    let i = c.args.i.0 in
    let q = c.args.q.0 in
    let x = c.args.x.0 in
    let jobs = jobs_during set (slice_index c.args.bounds.now) c.args.span x in
    let held : c.from.result ≡ only_if (nat_lt x i) (count_of set x q * jobs) = c.from.ensures ∙ c.requires.holdings.each x c.requires.runner in
    let long : c.from-2.result ≡ length_of set x q = c.from-2.ensures ∙ c.length.ensures.value in
    let few : c.from.result ≤ 128000000000000 = omega (
      arith,
      c.from.ensures,
      c.requires.holdings.sums.own_small x (omega (arith, c.requires.runner, c.tasks-tasks.ensures.value, c.tasks-tasks.ensures.most)),
    ) in
    let short : c.from-2.result ≤ 1000000000 = omega (arith, c.from-2.ensures, c.length.ensures.ticks) in
    let product : c.from.result * c.from-2.result ≤ 128000000000000 * 1000000000 = mul-le-mul few short in
    record {
      value = ap (λ m. c.from.result * m) long ∙ time_of (nat_lt x i) jobs (count_of set x q) (length_of set x q) c.from.result held;
      most = omega (arith, product);
    }
