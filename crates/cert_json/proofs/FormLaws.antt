-- A value is refused nowhere exactly where it has the form.
use Rattle.std.proofs.Common.{◌≡◌, ℕ, suc, ◌+◌, ◌<◌, ◌&&◌, ◌==◌, not, Bool, true, false, cond, List, [], ◌∷◌, length}
use Rattle.std.proofs.Common.{Option, Some, None, option_map, inl, inr, ◌⊎◌, refl, ap, ap₂, sym, ◌∙◌, arith, codes}
use Rattle.std.proofs.Common.{IfNone, subst, Err, if◌then◌else◌}
use Rattle.std.proofs.lemmas.Bool.{lt-ltb, le-ltb}
use Rattle.std.specs.List.{list_all, position, position_or_len}
use Rattle.std.specs.Option.{is_none, option_or, option_map_or}
use Rattle.serde_json.specs.Data.{Data}
use Rattle.taskset_json.specs.Members.{whole_at, list_at}
use Rattle.cert_json.specs.declared.version.Version.{Version}
use Rattle.cert_json.specs.declared.refusal.CertRefusal.{CertRefusal}
use Rattle.cert_json.specs.declared.refusal.CertRefusal.TheVariants as refusal
use Rattle.cert_json.specs.declared.refusal.CertPlace.TheVariants as place
use Rattle.cert_json.specs.Form.{is_dual}
use Rattle.cert_json.specs.FormParts.{is_whole, is_for}
use Rattle.cert_json.specs.Versions.{number_of, is_certificate_of, has_form_of}
use Rattle.cert_json.specs.Answers.{JudgesValue}
use Rattle.cert_json.specs.Refusals.{version_refusal, refused_unless, first_bad_dual, first_refusal}

-- ---- the first that fails a test

one_more : (b a : Bool) (k n : ℕ) → ((a ≡ true) × (k ≡ n)) ⊎ ((a ≡ false) × (k < n))
    → (((b && a) ≡ true) × (cond (not (not b)) (1 + k) 0 ≡ suc n)) ⊎ (((b && a) ≡ false) × (cond (not (not b)) (1 + k) 0 < suc n))
one_more true a k n (inl h) = inl (h.0, omega (arith, h.1))
one_more true a k n (inr h) = inr (h.0, omega (arith, h.1))
one_more false a k n h = inr (refl, omega arith)

all_or_first : {X : Type 0} (g : X → Bool) (xs : List X)
    → ((list_all g xs ≡ true) × (position_or_len (λ x. not (g x)) xs ≡ length xs))
    ⊎ ((list_all g xs ≡ false) × (position_or_len (λ x. not (g x)) xs < length xs))
all_or_first g [] = inl (refl, refl)
all_or_first g (x ∷ xs) = one_more (g x) (list_all g xs) (position_or_len (λ y. not (g y)) xs) (length xs) (all_or_first g xs)

none_fails : {X : Type 0} (g : X → Bool) (xs : List X) → is_none (position (λ x. not (g x)) xs) ≡ list_all g xs
none_fails g xs = go (all_or_first g xs) where
  go : ((list_all g xs ≡ true) × (position_or_len (λ x. not (g x)) xs ≡ length xs))
      ⊎ ((list_all g xs ≡ false) × (position_or_len (λ x. not (g x)) xs < length xs))
      → is_none (position (λ x. not (g x)) xs) ≡ list_all g xs
  go (inl h) = rw (le-ltb (position_or_len (λ x. not (g x)) xs) (length xs) (omega (arith, h.1))) (sym h.0)
  go (inr h) = rw (lt-ltb (position_or_len (λ x. not (g x)) xs) (length xs) h.1) (sym h.0)

-- ---- each cause in turn

none_or : (a b : Option CertRefusal) → is_none (option_or a b) ≡ (is_none a && is_none b)
none_or None b = refl
none_or (Some r) b = refl

none_unless : (b : Bool) (r : CertRefusal) → is_none (refused_unless b r) ≡ b
none_unless true r = refl
none_unless false r = refl

none_map : (f : ℕ → CertRefusal) (o : Option ℕ) → is_none (option_map f o) ≡ is_none o
none_map f None = refl
none_map f (Some k) = refl

one_or_other : (b : Bool) → is_none {T = CertRefusal} (if b then None else Some refusal.Version) ≡ b
one_or_other true = refl
one_or_other false = refl

none_version : (v : Version) (o : Option ℕ) → is_none (version_refusal v o) ≡ option_map_or (λ n. n == number_of v) o false
none_version v None = refl
none_version v (Some n) = one_or_other (n == number_of v)

both : {a b c d : Bool} → a ≡ b → c ≡ d → (a && c) ≡ (b && d)
both e f = ap₂ (λ x y. x && y) e f

none_refused : (v : Version) (word : List ℕ) (d : Data) → is_none (first_refusal v word d) ≡ has_form_of v word d
none_refused v word d =
    none_or (version_refusal v (whole_at (codes "version") d)) _
    ∙ both (none_version v (whole_at (codes "version") d))
    (none_or (refused_unless (is_certificate_of v d) (refusal.Shape place.Root)) _
    ∙ both (none_unless (is_certificate_of v d) (refusal.Shape place.Root))
    (none_or (refused_unless (list_all is_whole (list_at (codes "bounds") d)) (refusal.Shape place.Bounds)) _
    ∙ both (none_unless (list_all is_whole (list_at (codes "bounds") d)) (refusal.Shape place.Bounds))
    (none_or (option_map (λ k. refusal.Shape (place.Dual k)) (first_bad_dual d)) _
    ∙ both
    (none_map (λ k. refusal.Shape (place.Dual k)) (first_bad_dual d) ∙ none_fails is_dual (list_at (codes "duals") d))
    (none_unless (is_for word d) refusal.OtherProtocol))))

-- Where there is no cause the value has the form.
pub form_from : (v : Version) (word : List ℕ) (d : Data) → first_refusal v word d ≡ None → has_form_of v word d ≡ true
form_from v word d h = sym (none_refused v word d) ∙ ap is_none h

is_there : (o : Option CertRefusal) → is_none o ≡ true → o ≡ None
is_there None e = refl
is_there (Some r) e = absurd (cc)

-- Where the value has the form there is no cause.
pub none_from_form : (v : Version) (word : List ℕ) (d : Data) → has_form_of v word d ≡ true → first_refusal v word d ≡ None
none_from_form v word d h = is_there (first_refusal v word d) (none_refused v word d ∙ h)

pub form_of : (o : Option CertRefusal) (v : Version) (word : List ℕ) (d : Data) → o ≡ first_refusal v word d → IfNone o (has_form_of v word d ≡ true)
form_of None v word d h = form_from v word d (sym h)
form_of (Some r) v word d h = tt

-- ---- a cause tells of a value, so it is not that there is none

abbrev IsOfValue : CertRefusal → Type 0
IsOfValue refusal.NotJson = ⊥
IsOfValue (refusal.Shape at) = Unit {0}
IsOfValue refusal.Version = Unit {0}
IsOfValue refusal.OtherProtocol = Unit {0}
IsOfValue refusal.Memory = Unit {0}

abbrev IfRefused : Option CertRefusal → Type 0
IfRefused None = Unit {0}
IfRefused (Some r) = IsOfValue r

or_refused : (a b : Option CertRefusal) → IfRefused a → IfRefused b → IfRefused (option_or a b)
or_refused None b h k = k
or_refused (Some r) b h k = h

unless_refused : (b : Bool) (r : CertRefusal) → IsOfValue r → IfRefused (refused_unless b r)
unless_refused true r h = tt
unless_refused false r h = h

one_refused : (b : Bool) → IfRefused (if b then None else Some refusal.Version)
one_refused true = tt
one_refused false = tt

version_refused : (v : Version) (o : Option ℕ) → IfRefused (version_refusal v o)
version_refused v None = tt
version_refused v (Some n) = one_refused (n == number_of v)

dual_refused : (o : Option ℕ) → IfRefused (option_map (λ k. refusal.Shape (place.Dual k)) o)
dual_refused None = tt
dual_refused (Some k) = tt

refused : (v : Version) (word : List ℕ) (d : Data) → IfRefused (first_refusal v word d)
refused v word d =
    or_refused (version_refusal v (whole_at (codes "version") d)) _ (version_refused v (whole_at (codes "version") d))
    (or_refused (refused_unless (is_certificate_of v d) (refusal.Shape place.Root)) _
    (unless_refused (is_certificate_of v d) (refusal.Shape place.Root) tt)
    (or_refused (refused_unless (list_all is_whole (list_at (codes "bounds") d)) (refusal.Shape place.Bounds)) _
    (unless_refused (list_all is_whole (list_at (codes "bounds") d)) (refusal.Shape place.Bounds) tt)
    (or_refused (option_map (λ k. refusal.Shape (place.Dual k)) (first_bad_dual d)) _ (dual_refused (first_bad_dual d))
    (unless_refused (is_for word d) refusal.OtherProtocol tt))))

pub judged_by_cause : {T : Type 0} (IsOf : T → Data → Type 0) (r : CertRefusal) (v : Version) (word : List ℕ) (d : Data)
    → first_refusal v word d ≡ Some r → JudgesValue v IsOf (Err r) word d
judged_by_cause IsOf refusal.NotJson v word d h = subst IfRefused h (refused v word d)
judged_by_cause IsOf (refusal.Shape at) v word d h = h
judged_by_cause IsOf refusal.Version v word d h = h
judged_by_cause IsOf refusal.OtherProtocol v word d h = h
judged_by_cause IsOf refusal.Memory v word d h = tt
