use Rattle.std.proofs.Common.{◌≡◌, suc, List, Option, ◌∷◌, ◌∙◌, sym, ap, length, arith}
use Rattle.std.proofs.lemmas.List.{length-set}
use Rattle.std.specs.Prelude.{slice_get}
use Rattle.response_fixpoint.specs.Places.{places_with}
use Rattle.response_fixpoint.specs.declared.places.Placed.{Placed}
use Rattle.response_fixpoint.proofs.PlaceLaws.{first_put, none_put}
use Rattle.response_fixpoint.proofs.places.put_all.Goals as goal

pub loop-placed-preserved : goal.loop-placed-preserved
loop-placed-preserved g c =
    let rest : List (Placed _) = c.next.new.self.rest.items in
    let split : c.loop-placed.placed-iterator.rest.items ≡ c.in-Some.placed ∷ rest = c.in-Some.ensures.steps.0 in
    record {
      len = ap length c.put.ensures ∙ length-set _ _ _ ∙ c.loop-placed.invariant.len;
      below = λ k a here. c.loop-placed.invariant.below (suc k) a (ap (λ (xs : List _). slice_get xs (suc k)) split ∙ here);
      each = ap (λ (xs : List (Option _)). places_with xs rest) c.put.ensures
          ∙ sym (first_put c.loop-placed.places c.in-Some.placed rest)
          ∙ sym (ap (λ (xs : List (Placed _)). places_with c.loop-placed.places xs) split) ∙ c.loop-placed.invariant.each;
    }

pub returns : goal.returns
returns g c =
    let none : length c.loop-placed.placed-iterator.rest.items ≡ 0 =
    omega (arith, c.in-None.ensures.steps.0, c.loop-placed.placed-iterator.rest.ok.0) in
    sym (none_put c.loop-placed.places c.loop-placed.placed-iterator.rest.items none) ∙ c.loop-placed.invariant.each
