use Rattle.std.proofs.Common.{◌≡◌, ℕ, suc, ◌-◌, ◌∙◌, sym, ap, arith}
use Rattle.schedule_model.specs.Kept.{start_of}
use Rattle.schedule_model.proofs.KeptJobLaws.{start_of-first, start_of-next}
use Rattle.schedule_model.proofs.kept_jobs.start_of.Goals as goal

pub returns-then-j-eq0 : goal.returns-then-j-eq0
returns-then-j-eq0 c = rw c.if-j-eq0.true (start_of-first 0 c.args.jobs.now)

pub returns : goal.returns
returns c =
    let before : ℕ = c.args.j - 1 in
    let next : c.args.j ≡ suc before = omega (arith, c.if-j-eq0.false) in
    sym (ap (start_of 0 c.args.jobs.now) next ∙ start_of-next 0 c.args.jobs.now before _ (omega arith))
