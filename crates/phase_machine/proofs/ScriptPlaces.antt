-- Places in a script: the phase after the segments before a place's and some ticks of its own, and where a script ends.
use Rattle.std.proofs.Common.{◌≡◌, ℕ, zero, suc, ◌+◌, ◌-◌, ◌<◌, ◌≤◌, List, [], ◌∷◌, length, get_or, take, refl, sym, ap}
use Rattle.std.proofs.Common.{◌∙◌, arith, inl, inr, Option, Some, None}
use Rattle.std.specs.Option.{option_map_or}
use Rattle.std.proofs.lemmas.Bool.{cases_lt, lt-ltb, le-ltb}
use Rattle.std.proofs.lemmas.List.Sums.{sum_by-cons}
use Rattle.schedule_model.specs.JobDef.{SegmentDef, segment_ticks, request_ticks, total_ticks, no_segment}
use Rattle.schedule_model.specs.Phase.{asking, phase_from}
use Rattle.schedule_model.specs.Phase.Phase.{Local, Asking}
use Rattle.schedule_laws.proofs.Phases.{phase_local, phase_request, phase_later}
use Rattle.phase_machine.specs.Now.{phase_in}

-- In the local ticks of a segment, and in its request.
pub phase_in_local : (n : ℕ) (s : SegmentDef) (i : ℕ) → i < s.local → phase_in n s i ≡ Local
phase_in_local n s i l = rw (lt-ltb i s.local l) refl

pub phase_in_request : (n : ℕ) (s : SegmentDef) (i : ℕ) → s.local ≤ i → phase_in n s i ≡ asking n s.request
phase_in_request n s i l = rw (le-ltb i s.local l) refl

-- A tick of a segment past its local ones is of its request.
pub request_inside : (s : SegmentDef) (i : ℕ) → s.local ≤ i → i < segment_ticks s → (r : ℕ × ℕ) × (s.request ≡ Some r)
request_inside s i a b = go s.request refl where
  go : (o : Option (ℕ × ℕ)) → s.request ≡ o → (r : ℕ × ℕ) × (s.request ≡ Some r)
  go None e = let none : request_ticks s ≡ 0 = ap (λ o. option_map_or (λ r. r.1) o 0) e in absurd (omega arith)
  go (Some r) e = (r, e)

pub asking_inside : (n : ℕ) (s : SegmentDef) (i : ℕ) → s.local ≤ i → i < segment_ticks s → (q : ℕ) × (phase_in n s i ≡ Asking n q)
asking_inside n s i a b = let r : (r : ℕ × ℕ) × (s.request ≡ Some r) = request_inside s i a b in
    (r.0.0, phase_in_request n s i a ∙ ap (asking n) r.1)

first_phase : (n : ℕ) (s : SegmentDef) (script : List SegmentDef) (i : ℕ) → i < segment_ticks s
    → phase_from n (s ∷ script) i ≡ phase_in n s i
first_phase n s script i l = elim (cases_lt i s.local) [
  | inl local ↦ phase_local n s script i local ∙ sym (phase_in_local n s i local)
  | inr request ↦ phase_request n s script i request l ∙ sym (phase_in_request n s i request)
]

-- The phase after the segments before number n and i ticks of that one.
pub phase_after : (k : ℕ) (script : List SegmentDef) (n i : ℕ) → n < length script → i < segment_ticks (get_or script n no_segment)
    → phase_from k script (total_ticks (take n script) + i) ≡ phase_in (k + n) (get_or script n no_segment) i
phase_after k [] n i l h = absurd (omega arith)
phase_after k (s ∷ script) zero i l h =
    let none : total_ticks (take 0 (s ∷ script)) + i ≡ i = omega arith in
    let number : k ≡ k + 0 = omega arith in
    ap (phase_from k (s ∷ script)) none ∙ first_phase k s script i h ∙ ap (λ m. phase_in m s i) number
phase_after k (s ∷ script) (suc n) i l h =
    let total : total_ticks (s ∷ take n script) ≡ segment_ticks s + total_ticks (take n script) =
    sum_by-cons segment_ticks s (take n script) in
    let rest : (total_ticks (s ∷ take n script) + i) - segment_ticks s ≡ total_ticks (take n script) + i = omega arith in
    let number : suc k + n ≡ k + suc n = omega arith in
    phase_later k s script (total_ticks (s ∷ take n script) + i) (omega arith)
    ∙ ap (phase_from (suc k) script) rest
    ∙ phase_after (suc k) script n i (omega arith) h
    ∙ ap (λ m. phase_in m (get_or script n no_segment) i) number

-- One segment more.
pub segment_more : (script : List SegmentDef) (n : ℕ) → n < length script
    → total_ticks (take (suc n) script) ≡ total_ticks (take n script) + segment_ticks (get_or script n no_segment)
segment_more [] n l = absurd (omega arith)
segment_more (s ∷ script) zero l =
    let one : total_ticks (s ∷ take 0 script) ≡ segment_ticks s + total_ticks (take 0 script) =
    sum_by-cons segment_ticks s (take 0 script) in
    omega arith
segment_more (s ∷ script) (suc n) l =
    let more : total_ticks (s ∷ take (suc n) script) ≡ segment_ticks s + total_ticks (take (suc n) script) =
    sum_by-cons segment_ticks s (take (suc n) script) in
    let before : total_ticks (s ∷ take n script) ≡ segment_ticks s + total_ticks (take n script) =
    sum_by-cons segment_ticks s (take n script) in
    let rest : total_ticks (take (suc n) script)
    ≡ total_ticks (take n script) + segment_ticks (get_or script n no_segment) = segment_more script n (omega arith) in
    omega arith

-- The last segment ends the script.
pub script_ends : (script : List SegmentDef) (n : ℕ) → n < length script → length script ≤ suc n
    → total_ticks script ≡ total_ticks (take n script) + segment_ticks (get_or script n no_segment)
script_ends [] n l h = absurd (omega arith)
script_ends (s ∷ []) zero l h =
    let one : total_ticks (s ∷ []) ≡ segment_ticks s + total_ticks [] = sum_by-cons segment_ticks s [] in omega arith
script_ends (s ∷ r ∷ script) zero l h = absurd (omega arith)
script_ends (s ∷ script) (suc n) l h =
    let whole : total_ticks (s ∷ script) ≡ segment_ticks s + total_ticks script = sum_by-cons segment_ticks s script in
    let before : total_ticks (s ∷ take n script) ≡ segment_ticks s + total_ticks (take n script) =
    sum_by-cons segment_ticks s (take n script) in
    let rest : total_ticks script ≡ total_ticks (take n script) + segment_ticks (get_or script n no_segment) =
    script_ends script n (omega arith) (omega arith) in
    omega arith

-- Inside a segment some ticks of the script are left.
pub ticks_left : (script : List SegmentDef) (n i : ℕ) → n < length script → i < segment_ticks (get_or script n no_segment)
    → total_ticks (take n script) + i < total_ticks script
ticks_left [] n i l h = absurd (omega arith)
ticks_left (s ∷ script) zero i l h =
    let whole : total_ticks (s ∷ script) ≡ segment_ticks s + total_ticks script = sum_by-cons segment_ticks s script in
    omega arith
ticks_left (s ∷ script) (suc n) i l h =
    let whole : total_ticks (s ∷ script) ≡ segment_ticks s + total_ticks script = sum_by-cons segment_ticks s script in
    let before : total_ticks (s ∷ take n script) ≡ segment_ticks s + total_ticks (take n script) =
    sum_by-cons segment_ticks s (take n script) in
    let rest : total_ticks (take n script) + i < total_ticks script = ticks_left script n i (omega arith) h in
    omega arith
