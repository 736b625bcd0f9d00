use Rattle.std.proofs.Common.{◌≡◌, suc, List, Option, ◌∷◌, ◌∙◌, sym, ap, length, arith}
use Rattle.std.proofs.lemmas.List.{with_items_is}
use Rattle.std.specs.Prelude.{slice_get}
use Rattle.response_fixpoint.specs.Places.{AreBelow, places_with, parts_with}
use Rattle.response_fixpoint.proofs.PlaceLaws.{put_length, first_part, none_part}
use Rattle.response_fixpoint.proofs.places.in_places.Goals as goal

pub put_all-requires : goal.put_all-requires
put_all-requires g c =
    let split : c.loop-part.part-iterator.rest.items ≡ c.in-Some.part ∷ c.next.new.self.rest.items = c.in-Some.ensures.steps.0 in
    let below : AreBelow c.args.count c.in_ok-part.field-0.items =
    rw c.in_ok-part.was at (c.loop-part.invariant.below 0 c.in-Some.part (ap (λ (xs : List _). slice_get xs 0) split)) in
    let long : length c.deref_mut.result.now ≡ length c.loop-part.places.items = ap length c.deref_mut.ensures.value in
    λ k a here. omega (arith, below k a here, long, c.loop-part.invariant.len)

pub loop-part-preserved : goal.loop-part-preserved
loop-part-preserved g c =
    let rest : List _ = c.next.new.self.rest.items in
    let split : c.loop-part.part-iterator.rest.items ≡ c.in-Some.part ∷ rest = c.in-Some.ensures.steps.0 in
    let found = c.in_ok-part.field-0 in
    let long : length c.deref_mut.result.now ≡ length c.loop-part.places.items = ap length c.deref_mut.ensures.value in
    let same : length c.put_all.new.places ≡ length c.deref_mut.result.now =
    ap length c.put_all.ensures ∙ put_length c.deref_mut.result.now found.items in
    let written = with_items_is c.loop-part.places c.put_all.new.places (same ∙ c.deref_mut.ensures.len) in
    let put : c.put_all.new.places ≡ places_with c.loop-part.places.items found.items = c.put_all.ensures
    ∙ ap (λ (xs : List (Option _)). places_with xs found.items) c.deref_mut.ensures.value in
    record {
      len = ap length written ∙ same ∙ long ∙ c.loop-part.invariant.len;
      below = λ k part here. c.loop-part.invariant.below (suc k) part (ap (λ (xs : List _). slice_get xs (suc k)) split ∙ here);
      each = ap (λ (xs : List (Option _)). parts_with xs rest) (written ∙ put)
          ∙ sym (first_part c.loop-part.places.items found rest)
          ∙ ap (λ (part : _). parts_with c.loop-part.places.items (part ∷ rest)) (sym c.in_ok-part.was)
          ∙ sym (ap (λ (xs : List _). parts_with c.loop-part.places.items xs) split) ∙ c.loop-part.invariant.each;
    }

pub returns : goal.returns
returns g c =
    let none : length c.loop-part.part-iterator.rest.items ≡ 0 =
    omega (arith, c.in-None.ensures.steps.0, c.loop-part.part-iterator.rest.ok.0) in
    sym (none_part c.loop-part.places.items c.loop-part.part-iterator.rest.items none) ∙ c.loop-part.invariant.each
