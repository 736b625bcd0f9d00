-- Rivals parted by processor, and that they are the links of each.
use Rattle.std.proofs.Common.{◌≡◌, ℕ, ◌+◌, ◌-◌, ◌≤◌, List, [], ◌∷◌, ◌++◌, length, take, drop, refl, sym, ◌∙◌, subst, arith, inl, inr}
use Rattle.std.specs.Prelude.{slice_index}
use Rattle.std.specs.List.{filter}
use Rattle.std.proofs.Math.ListN.{get_or, get_or-append}
use Rattle.std.proofs.Math.Seq.{get_or-append_seam, drop-append_seam, take-length}
use Rattle.std.proofs.lemmas.Bool.{cases_lt}
use Rattle.std.proofs.lemmas.List.{length-append, length-drop, take-append-le, drop-append-le}
use Rattle.sporadic_model.specs.SetDef.{SetDef}
use Rattle.sporadic_model.specs.declared.ids.Protocol.{Protocol}
use Rattle.sporadic_model.specs.declared.ids.Protocol.TheVariants as protocol
use Rattle.blocking_columns.specs.declared.linking.Rival.{Rival}
use Rattle.blocking_columns.specs.Links.{is_at, AreParted, HaveLinks, AreRivals, AreKnownRivals, AreLinks, AreSeenFrom}
use Rattle.blocking_columns.proofs.Rivals.{rivals_are_links, rivals_seen}

-- What stands within the list stands there still when more comes behind.
part_grows : (parted further : List Rival) (a b : ℕ) → a ≤ b → b ≤ length parted
    → take (b - a) (drop a (parted ++ further)) ≡ take (b - a) (drop a parted)
part_grows parted further a b order within =
    let most : b - a ≤ length (drop a parted) = rw (length-drop) (omega (arith, order, within)) in
    rw (drop-append-le a parted further (omega (arith, order, within))) (take-append-le (b - a) (drop a parted) further most)

-- What comes behind is the part from there to the end.
part_behind : (parted further : List Rival)
    → take (length (parted ++ further) - length parted) (drop (length parted) (parted ++ further)) ≡ further
part_behind parted further =
    let size : length (parted ++ further) - length parted ≡ length further = rw (length-append) (omega arith) in
    rw (size, drop-append_seam parted further) (take-length further)

pub no_parts : (rivals : List Rival) → AreParted 0 rivals [] (0 ∷ [])
no_parts rivals = record {
  size = refl;
  last = refl;
  order = λ k l. absurd (omega (arith, l));
  within = λ k l. absurd (omega (arith, l));
  parts = λ k l. absurd (omega (arith, l));
}

-- One more processor's rivals, behind the others.
pub next_part : (m : ℕ) (rivals parted more : List Rival) (begins after : List ℕ) → AreParted m rivals parted begins
    → more ≡ parted ++ filter (is_at m) rivals → after ≡ begins ++ length more ∷ [] → AreParted (m + 1) rivals more after
next_part m rivals parted more begins after are grown ends = record {
  size = rw (ends, length-append) (omega (arith, are.size));
  last = last;
  order = λ k l. elim (cases_lt k m) [
    | inl before ↦ rw (kept k (omega (arith, before)), kept (k + 1) (omega (arith, before))) (are.order k before)
    | inr here ↦
        let same : k ≡ m = omega (arith, l, here) in
        rw (same, kept m (omega arith), last, are.last) grows
  ];
  within = λ k l. elim (cases_lt k m) [
    | inl before ↦
        let most : slice_index begins (k + 1) ≤ length parted = are.within k before in
        rw (kept (k + 1) (omega (arith, before))) (omega (arith, most, grows))
    | inr here ↦
        let same : k ≡ m = omega (arith, l, here) in
        rw (same, last) (omega arith)
  ];
  parts = λ k l. elim (cases_lt k m) [
    | inl before ↦
        rw (kept k (omega (arith, before)), kept (k + 1) (omega (arith, before)), grown)
        (part_grows parted (filter (is_at m) rivals) (slice_index begins k) (slice_index begins (k + 1)) (are.order k before)
        (are.within k before) ∙ are.parts k before)
    | inr here ↦
        let same : k ≡ m = omega (arith, l, here) in
        rw (same, kept m (omega arith), last, are.last, grown) (part_behind parted (filter (is_at m) rivals))
  ];
} where
  grows : length parted ≤ length more
  grows = rw (grown, length-append) (omega arith)

  kept : (k : ℕ) → k ≤ m → slice_index after k ≡ slice_index begins k
  kept k l = rw ends (get_or-append begins (length more ∷ []) 0 k (omega (arith, are.size, l)))

  last : slice_index after (m + 1) ≡ length more
  last = rw ends (subst (λ (n : ℕ). get_or (begins ++ length more ∷ []) n 0 ≡ length more) are.size
      (get_or-append_seam begins (length more) [] 0))

-- The parts of all processors have the links of their tasks.
pub have_links : (p : Protocol) (set : SetDef) (i : ℕ) (rivals parted : List Rival) (begins : List ℕ) → (p ≡ protocol.Dpcp → ⊥)
    → AreRivals set i rivals → AreKnownRivals p set rivals → AreParted (set.processors + 1) rivals parted begins
    → HaveLinks p set i parted begins
have_links p set i rivals parted begins sharing rivals_are known are = record {
  size = omega (arith, are.size);
  order = λ k l. are.order k (omega (arith, l));
  within = λ k l. are.within k (omega (arith, l));
  links = λ k l. subst (λ (es : List Rival). AreLinks p set i k es) (sym (are.parts k (omega (arith, l))))
      (rivals_are_links p set i k rivals sharing rivals_are known);
  seen = λ k l. subst (λ (es : List Rival). AreSeenFrom p set k es) (sym (are.parts k (omega (arith, l))))
      (rivals_seen p set k rivals known);
}
