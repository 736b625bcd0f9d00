use Rattle.std.proofs.Common.{◌≡◌, ℕ, ◌++◌, ◌∷◌, [], List, length, get_or, sym, subst, ap, arith}
use Rattle.std.proofs.lemmas.List.{length_push}
use Rattle.phase_machine.specs.MachineDef.{IsComing}
use Rattle.phase_machine.proofs.Pushed.{one_pushed}
use Rattle.phase_machine.proofs.starting.first_coming.Goals as goal

pub loop-x-preserved : goal.loop-x-preserved
loop-x-preserved c =
    let first : ℕ = c.coming_after.result in
    let pushed : c.push.new.self.items ≡ c.loop-x.coming.items ++ first ∷ [] = c.in_ok-push.ensures.items in
    record {
      len = omega (arith, length_push c.loop-x.coming.items first, ap length pushed, c.loop-x.invariant.len);
      each = λ x below. subst (λ (l : List ℕ). IsComing c.args.jobs.now.jobs 0 x (get_or l x 0)) (sym pushed)
          (one_pushed (λ (y j : ℕ). IsComing c.args.jobs.now.jobs 0 y j) c.loop-x.coming.items first 0 c.loop-x.x
          c.loop-x.invariant.len c.loop-x.invariant.each c.coming_after.ensures x (omega (arith, below)));
    }
