use Rattle.std.proofs.Common.{◌≡◌, map, ℕ, ◌&&◌, List, [], ◌∷◌, Bor, refl, ap, ◌∙◌}
use Rattle.std.specs.Str.{bytes_eq}
use Rattle.std.specs.Cmp.Lexicographic.{pointwise}
use Rattle.std.proofs.lemmas.Slice.Eq.{slice_eq-Decides, bytes_eq-Decides}
use Rattle.trace_csv.proofs.header.are_same.Goals as goal

behind : (xs ys : List (Bor (List ℕ))) → pointwise (λ (x y : Bor (List ℕ)). bytes_eq x.now y.now) xs ys
    ≡ pointwise bytes_eq (map (λ (f : Bor (List ℕ)). f.now) xs) (map (λ (f : Bor (List ℕ)). f.now) ys)
behind [] [] = refl
behind [] (y ∷ ys) = refl
behind (x ∷ xs) [] = refl
behind (x ∷ xs) (y ∷ ys) = ap (λ b. bytes_eq x.now y.now && b) (behind xs ys)

pub returns : goal.returns
returns c =
    slice_eq-Decides bytes_eq-Decides (map (λ (f : Bor (List ℕ)). f.now) c.args.fields.now)
    (map (λ (f : Bor (List ℕ)). f.now) c.args.others.now) c.eq.result
    (c.eq.ensures ∙ behind c.args.fields.now c.args.others.now)
