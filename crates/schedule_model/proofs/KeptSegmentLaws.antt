-- The segments of three lists: how many there are, which is where, and what more of them add.
use Rattle.std.proofs.Common.{◌≡◌, ℕ, zero, suc, ◌<◌, ◌==◌, ◌++◌, true, false, List, [], ◌∷◌, map, length, get_or, refl}
use Rattle.std.proofs.Common.{ap, arith, inl, inr, Option, Some, None}
use Rattle.std.specs.Option.{option_map_or}
use Rattle.std.specs.List.{list_all}
use Rattle.std.specs.Int.{is_in_range}
use Rattle.std.proofs.lemmas.Bool.{cases_Bool, and_parts, ltb-true, eqb-true}
use Rattle.sporadic_model.specs.declared.limits.TheConstants.{MOST_TICKS}
use Rattle.schedule_model.specs.JobDef.{SegmentDef, request_ticks, no_segment}
use Rattle.schedule_model.specs.JobLists.{is_listed_segment}
use Rattle.schedule_model.specs.Kept.{requested, kept_segment, kept_segments}
use Rattle.schedule_model.proofs.Scripts.{from_one}

-- There are as many as each list has numbers.
pub kept_segments-length : (ls ts qs : List ℕ) → length ts ≡ length ls → length qs ≡ length ls
    → length (kept_segments ls ts qs) ≡ length ls
kept_segments-length [] ts qs t q = refl
kept_segments-length (l ∷ ls) [] qs t q = absurd (cc)
kept_segments-length (l ∷ ls) (x ∷ ts) [] t q = absurd (cc)
kept_segments-length (l ∷ ls) (x ∷ ts) (y ∷ qs) t q = ap suc (kept_segments-length ls ts qs (omega arith) (omega arith))

-- The one at a place is that of the numbers there.
pub kept_segments-at : (ls ts qs : List ℕ) (n a b c : ℕ) → length ts ≡ length ls → length qs ≡ length ls → n < length ls
    → get_or (kept_segments ls ts qs) n no_segment ≡ kept_segment (get_or ls n a) (get_or ts n b) (get_or qs n c)
kept_segments-at [] ts qs n a b c t q l = absurd (omega arith)
kept_segments-at (l ∷ ls) [] qs n a b c t q m = absurd (cc)
kept_segments-at (l ∷ ls) (x ∷ ts) [] n a b c t q m = absurd (cc)
kept_segments-at (l ∷ ls) (x ∷ ts) (y ∷ qs) zero a b c t q m = refl
kept_segments-at (l ∷ ls) (x ∷ ts) (y ∷ qs) (suc n) a b c t q m =
    kept_segments-at ls ts qs n a b c (omega arith) (omega arith) (omega arith)

-- A request takes a tick if its segment is one that a list takes.
request_some : (l : ℕ) (r : ℕ × ℕ) → is_listed_segment (record { local = l; request = Some r }) ≡ true → (r.1 == 0) ≡ false
request_some l r h =
    let parts : (is_in_range 1 MOST_TICKS l ≡ true) × (is_in_range 1 MOST_TICKS r.1 ≡ true) =
    and_parts (is_in_range 1 MOST_TICKS l) (is_in_range 1 MOST_TICKS r.1) h in
    let some : 0 < r.1 = ltb-true 0 r.1 (from_one r.1 parts.1) in
    elim (cases_Bool (r.1 == 0)) [
      | inl none ↦ let e : r.1 ≡ 0 = eqb-true _ _ none in absurd (omega arith)
      | inr there ↦ there
    ]

kept_segment-same : (l : ℕ) (o : Option (ℕ × ℕ)) → is_listed_segment (record { local = l; request = o }) ≡ true
    → kept_segment l (option_map_or (λ r. r.1) o 0) (option_map_or (λ r. r.0) o 0) ≡ record { local = l; request = o }
kept_segment-same l None h = refl
kept_segment-same l (Some r) h = rw (request_some l r h) refl

kept_segments-same : (ss : List SegmentDef) → list_all is_listed_segment ss ≡ true
    → kept_segments (map (λ s. s.local) ss) (map request_ticks ss) (map requested ss) ≡ ss
kept_segments-same [] h = refl
kept_segments-same (s ∷ ss) h =
    let parts : (is_listed_segment s ≡ true) × (list_all is_listed_segment ss ≡ true) =
    and_parts (is_listed_segment s) (list_all is_listed_segment ss) h in
    rw (kept_segment-same s.local s.request parts.0, kept_segments-same ss parts.1) refl

-- If the numbers of further segments come after those of the first ones, these segments are added.
pub kept_segments-append : (ls ts qs : List ℕ) (ss : List SegmentDef) → length ts ≡ length ls → length qs ≡ length ls
    → list_all is_listed_segment ss ≡ true
    → kept_segments (ls ++ map (λ s. s.local) ss) (ts ++ map request_ticks ss) (qs ++ map requested ss)
    ≡ kept_segments ls ts qs ++ ss
kept_segments-append [] [] [] ss t q h = kept_segments-same ss h
kept_segments-append [] (x ∷ ts) qs ss t q h = absurd (cc)
kept_segments-append [] [] (y ∷ qs) ss t q h = absurd (cc)
kept_segments-append (l ∷ ls) [] qs ss t q h = absurd (cc)
kept_segments-append (l ∷ ls) (x ∷ ts) [] ss t q h = absurd (cc)
kept_segments-append (l ∷ ls) (x ∷ ts) (y ∷ qs) ss t q h =
    ap (λ (more : List SegmentDef). kept_segment l x y ∷ more) (kept_segments-append ls ts qs ss (omega arith) (omega arith) h)
