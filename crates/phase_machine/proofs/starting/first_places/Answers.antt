use Rattle.std.proofs.Common.{◌≡◌, ℕ, ◌+◌, ◌++◌, ◌∷◌, [], length, refl, sym, subst, ap, arith}
use Rattle.std.proofs.lemmas.List.{length_push}
use Rattle.phase_machine.specs.MachineDef.{IsNext, no_place}
use Rattle.phase_machine.specs.Shows.{ArePlacesAtFirst}
use Rattle.phase_machine.specs.declared.place.ScriptPlace.{ScriptPlace}
use Rattle.phase_machine.proofs.Pushed.{one_pushed}
use Rattle.phase_machine.proofs.starting.first_places.Goals as goal

pub loop-x-preserved : goal.loop-x-preserved
loop-x-preserved c =
    let place : ScriptPlace = record { job = c.next_of.result; segment = 0; ticks = 0; issued = 0 } in
    let pushed : c.push.new.self.items ≡ c.loop-x.places.items ++ place ∷ [] = c.in_ok-push.ensures.items in
    let each : ArePlacesAtFirst c.args.jobs.now.jobs (c.loop-x.x + 1) (c.loop-x.places.items ++ place ∷ []) =
    λ x below. one_pushed (λ (y : ℕ) (p : ScriptPlace). IsNext c.args.jobs.now.jobs y 0 p.job × (p.segment ≡ 0) × (p.ticks ≡ 0))
    c.loop-x.places.items place no_place c.loop-x.x c.loop-x.invariant.len c.loop-x.invariant.each
    (c.next_of.ensures, refl, refl) x (omega (arith, below)) in
    record {
      len = omega (arith, length_push c.loop-x.places.items place, ap length pushed, c.loop-x.invariant.len);
      each = subst (ArePlacesAtFirst c.args.jobs.now.jobs (c.loop-x.x + 1)) (sym pushed) each;
    }
