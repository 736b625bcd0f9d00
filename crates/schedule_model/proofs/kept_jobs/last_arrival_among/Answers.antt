use Rattle.std.proofs.Common.{◌≡◌, ◌∙◌, ◌-◌, ℕ, suc, Some, None, [], drop, sym, ap, subst, arith}
use Rattle.schedule_model.specs.JobLists.{last_arrival}
use Rattle.schedule_model.specs.Kept.{kept_jobs}
use Rattle.schedule_model.proofs.Arrivals.{last_arrival-found}
use Rattle.schedule_model.proofs.KeptJobLaws.{last_arrival-missed}
use Rattle.schedule_model.proofs.kept_jobs.last_arrival_among.Goals as goal

pub loop-left-preserved : goal.loop-left-preserved
loop-left-preserved c =
    let jobs = c.args.jobs.now in
    let n : ℕ = c.loop-left.left - 1 in
    let next : c.loop-left.left ≡ suc n = omega arith in
    let none : last_arrival (kept_jobs [] 0 (drop (suc n) jobs)) c.args.x.0 ≡ None =
    subst (λ k. last_arrival (kept_jobs [] 0 (drop k jobs)) c.args.x.0 ≡ None) next c.loop-left.invariant.none in
    record {
      within = omega (arith, c.loop-left.invariant.within);
      none = last_arrival-missed [] 0 0 jobs n c.args.x.0 _ (omega (arith, c.loop-left.invariant.within)) none
          (sym c.eq.ensures ∙ c.if-eq.false);
    }

pub returns-then-eq : goal.returns-then-eq
returns-then-eq c =
    let jobs = c.args.jobs.now in
    let n : ℕ = c.loop-left.left - 1 in
    let next : c.loop-left.left ≡ suc n = omega arith in
    let none : last_arrival (kept_jobs [] 0 (drop (suc n) jobs)) c.args.x.0 ≡ None =
    subst (λ k. last_arrival (kept_jobs [] 0 (drop k jobs)) c.args.x.0 ≡ None) next c.loop-left.invariant.none in
    ap (λ (r : ℕ). Some r) c.from.ensures
    ∙ sym (last_arrival-found [] 0 0 jobs n c.args.x.0 _ (omega (arith, c.loop-left.invariant.within)) none
    (sym c.eq.ensures ∙ c.if-eq.true))
