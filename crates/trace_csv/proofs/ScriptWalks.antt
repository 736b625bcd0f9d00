-- Walks over the parts of a script: those before, and what is left.
use Rattle.std.proofs.Common.{◌≡◌, ◌++◌, ◌&&◌, Bool, true, false, List, [], ◌∷◌, Option, None, Some, refl, sym, ap, ◌∙◌, append_assoc}
use Rattle.std.proofs.lemmas.List.{append-nil}
use Rattle.std.proofs.lemmas.List.Folds.{list_all-append}
use Rattle.std.specs.List.{list_all}
use Rattle.std.proofs.lemmas.Bool.{and_right}
use Rattle.trace_csv.specs.Scripts.{PartDef, with_front}

more_front : (xs ys : List PartDef) (rest : Option (List PartDef)) → with_front (xs ++ ys) rest ≡ with_front xs (with_front ys rest)
more_front xs ys None = refl
more_front xs ys (Some zs) = ap (λ (l : List PartDef). Some l) (append_assoc xs ys zs)

pub no_front : (rest : Option (List PartDef)) → with_front [] rest ≡ rest
no_front None = refl
no_front (Some parts) = refl

-- One more part goes from what is left to those before.
pub one_further : (front : List PartDef) (part : PartDef) (left now script : Option (List PartDef)) → with_front front now ≡ script
    → now ≡ with_front (part ∷ []) left → with_front (front ++ part ∷ []) left ≡ script
one_further front part left now script h e = more_front front (part ∷ []) left ∙ ap (with_front front) (sym e) ∙ h

-- Where nothing is left, those before are the script; and where what is left is no script, none is there.
pub at_end : (front : List PartDef) (script : Option (List PartDef)) → with_front front (Some []) ≡ script → script ≡ Some front
at_end front script h = sym h ∙ ap (λ (l : List PartDef). Some l) (append-nil front)

pub broken : (front : List PartDef) (now script : Option (List PartDef)) → with_front front now ≡ script → now ≡ None → script ≡ None
broken front now script h e = sym h ∙ ap (with_front front) e

same_parts : (xs ys : List PartDef) → Some xs ≡ Some ys → xs ≡ ys
same_parts xs ys h = cc

fails_within : (p : PartDef → Bool) (xs ys : List PartDef) (part : PartDef) → p part ≡ false → list_all p (xs ++ part ∷ ys) ≡ false
fails_within p xs ys part h = list_all-append p xs (part ∷ ys) ∙ rw h (and_right (list_all p xs) false refl)

-- A part that fails a test is one of the script.
pub fails_here : (p : PartDef → Bool) (front : List PartDef) (part : PartDef) (left now script : Option (List PartDef))
    → with_front front now ≡ script → now ≡ with_front (part ∷ []) left → p part ≡ false
    → (parts : List PartDef) → script ≡ Some parts → list_all p parts ≡ false
fails_here p front part None now script h e bad parts is =
    let none : script ≡ None = broken front now script h e in absurd (cc)
fails_here p front part (Some rest) now script h e bad parts is =
    let whole : Some (front ++ part ∷ rest) ≡ Some parts = ap (with_front front) (sym e) ∙ h ∙ is in
    ap (list_all p) (sym (same_parts (front ++ part ∷ rest) parts whole)) ∙ fails_within p front rest part bad

-- A test of the parts with one more.
pub all_further : (p : PartDef → Bool) (front : List PartDef) (part : PartDef) (a b : Bool) → list_all p front ≡ a → p part ≡ b
    → list_all p (front ++ part ∷ []) ≡ (a && b)
all_further p front part a b e f = list_all-append p front (part ∷ []) ∙ rw (e, f) (same a b) where
  same : (a b : Bool) → (a && (b && true)) ≡ (a && b)
  same a true = refl
  same a false = refl
