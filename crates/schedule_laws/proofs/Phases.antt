-- The phase of a script after a number of executed ticks. It moves forward along the script, and before each request there is a Local tick.
use Rattle.std.proofs.Common.{◌≡◌, ℕ, suc, ◌+◌, ◌-◌, ◌<◌, ◌≤◌, ◌==◌, true, false, List, [], ◌∷◌, refl, sym, ◌∙◌, arith}
use Rattle.std.proofs.Common.{inl, inr, Option, Some, None, nat_lt}
use Rattle.std.specs.Option.{option_map_or}
use Rattle.std.specs.List.{list_all}
use Rattle.std.proofs.lemmas.Bool.{cases_lt, and_parts, lt-ltb, le-ltb, ltb-true, eq-eqb}
use Rattle.std.proofs.lemmas.List.Sums.{sum_by-cons}
use Rattle.schedule_model.specs.JobDef.{SegmentDef, segment_ticks, request_ticks, total_ticks}
use Rattle.schedule_model.specs.LawfulJobs.{is_segment}
use Rattle.schedule_model.specs.Phase.{is_same_request, asking, phase_from}
use Rattle.schedule_model.specs.Phase.Phase.{Local, Asking, Finished}

-- Where it is in the first segment: in its local ticks, in its request, or past both.
pub phase_local : (n : ℕ) (s : SegmentDef) (script : List SegmentDef) (d : ℕ) → d < s.local → phase_from n (s ∷ script) d ≡ Local
unfolding phase_from
phase_local n s script d l = rw (lt-ltb d s.local l) refl

-- In its request.
pub phase_request : (n : ℕ) (s : SegmentDef) (script : List SegmentDef) (d : ℕ) → s.local ≤ d → d < segment_ticks s
    → phase_from n (s ∷ script) d ≡ asking n s.request
unfolding phase_from
phase_request n s script d h l = rw (le-ltb d s.local h, lt-ltb d (segment_ticks s) l) refl

-- Past both.
pub phase_later : (n : ℕ) (s : SegmentDef) (script : List SegmentDef) (d : ℕ) → segment_ticks s ≤ d
    → phase_from n (s ∷ script) d ≡ phase_from (suc n) script (d - segment_ticks s)
unfolding phase_from
phase_later n s script d h =
    let past : s.local ≤ d = omega arith in
    rw (le-ltb d s.local past, le-ltb d (segment_ticks s) h) refl

-- A script without a segment is finished.
pub phase_of_none : (n d : ℕ) → phase_from n [] d ≡ Finished
unfolding phase_from
phase_of_none n d = refl

-- A segment of a script has a local tick.
pub segment_local : (s : SegmentDef) → is_segment s ≡ true → 0 < s.local
segment_local s h =
    let parts : (nat_lt 0 s.local ≡ true) × (option_map_or (λ r. nat_lt 0 r.1) s.request true ≡ true) = and_parts _ _ h in
    ltb-true 0 s.local parts.0

-- The phase of a segment's request has the segment's number and the resource that it asks for.
pub asking_at : (n m q : ℕ) (o : Option (ℕ × ℕ)) → asking n o ≡ Asking m q → (m ≡ n) × (option_map_or (λ r. r.0 == q) o false ≡ true)
asking_at n m q None h = absurd (cc)
asking_at n m q (Some r) h = let e : n ≡ m = cc in let f : r.0 ≡ q = cc in (sym e, eq-eqb r.0 q f)

asking_some : (n : ℕ) (o : Option (ℕ × ℕ)) → asking n o ≡ Finished → o ≡ None
asking_some n None h = refl
asking_some n (Some r) h = absurd (cc)

asking_not_local : (n : ℕ) (o : Option (ℕ × ℕ)) → asking n o ≡ Local → ⊥
asking_not_local n None h = cc
asking_not_local n (Some r) h = cc

-- It is finished from the script's last tick on, and not before.
pub finished_from : (n : ℕ) (script : List SegmentDef) (d : ℕ) → total_ticks script ≤ d → phase_from n script d ≡ Finished
finished_from n [] d h = phase_of_none n d
finished_from n (s ∷ script) d h =
    let total : total_ticks (s ∷ script) ≡ segment_ticks s + total_ticks script = sum_by-cons segment_ticks s script in
    phase_later n s script d (omega arith) ∙ finished_from (suc n) script (d - segment_ticks s) (omega arith)

-- Where it is finished, all ticks of the script are executed.
pub finished_total : (n : ℕ) (script : List SegmentDef) (d : ℕ) → phase_from n script d ≡ Finished → total_ticks script ≤ d
finished_total n [] d h = omega arith
finished_total n (s ∷ script) d h =
    let total : total_ticks (s ∷ script) ≡ segment_ticks s + total_ticks script = sum_by-cons segment_ticks s script in
    elim (cases_lt d (segment_ticks s)) [
      | inr later ↦
          let rest : total_ticks script ≤ d - segment_ticks s =
          finished_total (suc n) script (d - segment_ticks s) (sym (phase_later n s script d later) ∙ h) in
          omega arith
      | inl first ↦ elim (cases_lt d s.local) [
        | inl local ↦ let e : Local ≡ Finished = sym (phase_local n s script d local) ∙ h in absurd (cc)
        | inr request ↦
            let none : s.request ≡ None = asking_some n s.request (sym (phase_request n s script d request first) ∙ h) in
            let e : request_ticks s ≡ 0 = rw none refl in
            absurd (omega arith)
      ]
    ]

-- The number of a request is that of its segment, which asks for its resource.
pub asking_from : (n : ℕ) (script : List SegmentDef) (d m q : ℕ) → phase_from n script d ≡ Asking m q → n ≤ m
asking_from n [] d m q h = let e : Finished ≡ Asking m q = sym (phase_of_none n d) ∙ h in absurd (cc)
asking_from n (s ∷ script) d m q h = elim (cases_lt d (segment_ticks s)) [
  | inr later ↦
      let back : suc n ≤ m = asking_from (suc n) script (d - segment_ticks s) m q (sym (phase_later n s script d later) ∙ h) in
      omega arith
  | inl first ↦ elim (cases_lt d s.local) [
    | inl local ↦ let e : Local ≡ Asking m q = sym (phase_local n s script d local) ∙ h in absurd (cc)
    | inr request ↦ let e : m ≡ n = (asking_at n m q s.request (sym (phase_request n s script d request first) ∙ h)).0 in omega arith
  ]
]

-- The numbers of requests rise with the executed ticks.
pub asking_forward : (n : ℕ) (script : List SegmentDef) (d e m k q r : ℕ) → d ≤ e → phase_from n script d ≡ Asking m q
    → phase_from n script e ≡ Asking k r → m ≤ k
asking_forward n [] d e m k q r l h g = let none : Finished ≡ Asking m q = sym (phase_of_none n d) ∙ h in absurd (cc)
asking_forward n (s ∷ script) d e m k q r l h g = elim (cases_lt d (segment_ticks s)) [
  | inr later ↦ asking_forward (suc n) script (d - segment_ticks s) (e - segment_ticks s) m k q r (omega arith)
      (sym (phase_later n s script d later) ∙ h) (sym (phase_later n s script e (omega arith)) ∙ g)
  | inl first ↦ elim (cases_lt d s.local) [
    | inl local ↦ let none : Local ≡ Asking m q = sym (phase_local n s script d local) ∙ h in absurd (cc)
    | inr request ↦
        let here : m ≡ n = (asking_at n m q s.request (sym (phase_request n s script d request first) ∙ h)).0 in
        let least : n ≤ k = asking_from n (s ∷ script) e k r g in
        omega arith
  ]
]

-- A request stays open between two ticks of it.
pub asking_between : (n : ℕ) (script : List SegmentDef) (c e d m q r : ℕ) → phase_from n script c ≡ Asking m q
    → phase_from n script d ≡ Asking m r → c ≤ e → e ≤ d
    → phase_from n script e ≡ Asking m q
asking_between n [] c e d m q r h g a b = let x : Finished ≡ Asking m q = sym (phase_of_none n c) ∙ h in absurd (cc)
asking_between n (s ∷ script) c e d m q r h g a b = elim (cases_lt c (segment_ticks s)) [
  | inr later ↦
      phase_later n s script e (omega arith)
      ∙ asking_between (suc n) script (c - segment_ticks s) (e - segment_ticks s) (d - segment_ticks s) m q r
      (sym (phase_later n s script c later) ∙ h) (sym (phase_later n s script d (omega arith)) ∙ g) (omega arith) (omega arith)
  | inl first ↦ elim (cases_lt c s.local) [
    | inl local ↦ let x : Local ≡ Asking m q = sym (phase_local n s script c local) ∙ h in absurd (cc)
    | inr request ↦
        let here : asking n s.request ≡ Asking m q = sym (phase_request n s script c request first) ∙ h in
        let number : m ≡ n = (asking_at n m q s.request here).0 in
        elim (cases_lt d (segment_ticks s)) [
          | inl within ↦ phase_request n s script e (omega arith) (omega arith) ∙ here
          | inr past ↦
              let more : suc n ≤ m = asking_from (suc n) script (d - segment_ticks s) m r (sym (phase_later n s script d past) ∙ g) in
              absurd (omega arith)
        ]
  ]
]

-- A Local tick of a script.
pub record LocalTick (n : ℕ) (script : List SegmentDef) (c d : ℕ) : Type 0 where
  pub tick : ℕ
  pub from : c ≤ tick
  pub before : tick < d
  pub local : phase_from n script tick ≡ Local

first_local : (n : ℕ) (script : List SegmentDef) (c d m q : ℕ) → list_all is_segment script ≡ true → c ≤ d → c ≡ 0
    → phase_from n script d ≡ Asking m q → LocalTick n script c d
first_local n [] c d m q p a z h = let x : Finished ≡ Asking m q = sym (phase_of_none n d) ∙ h in absurd (cc)
first_local n (s ∷ script) c d m q p a z h =
    let parts : (is_segment s ≡ true) × (list_all is_segment script ≡ true) = and_parts _ _ p in
    let some : 0 < s.local = segment_local s parts.0 in
    let local : phase_from n (s ∷ script) 0 ≡ Local = phase_local n s script 0 some in
    elim (cases_lt 0 d) [
      | inl more ↦ record { tick = 0; from = omega arith; before = more; local = local }
      | inr none ↦
          let e : d ≡ 0 = omega arith in
          let g : phase_from n (s ∷ script) 0 ≡ Asking m q = rw (← e) h in
          let x : Local ≡ Asking m q = sym local ∙ g in
          absurd (cc)
    ]

-- A Local tick of the rest of a script is one of the whole.
moved : (n : ℕ) (s : SegmentDef) (script : List SegmentDef) (b c d : ℕ)
    → LocalTick (suc n) script b (d - segment_ticks s) → c ≤ b + segment_ticks s → segment_ticks s ≤ d
    → LocalTick n (s ∷ script) c d
moved n s script b c d l a h =
    let back : (l.tick + segment_ticks s) - segment_ticks s ≡ l.tick = omega arith in
    let later : phase_from n (s ∷ script) (l.tick + segment_ticks s)
    ≡ phase_from (suc n) script (l.tick + segment_ticks s - segment_ticks s) =
    phase_later n s script (l.tick + segment_ticks s) (omega arith) in
    record {
      tick = l.tick + segment_ticks s;
      from = omega (arith, l.from);
      before = omega (arith, l.before);
      local = later ∙ rw back l.local;
    }

-- A request that is open after d ticks and was not after c has a Local tick between.
pub local_before : (n : ℕ) (script : List SegmentDef) (c d m q : ℕ) → list_all is_segment script ≡ true → c ≤ d
    → phase_from n script d ≡ Asking m q
    → is_same_request (phase_from n script c) (Asking m q) ≡ false → LocalTick n script c d
local_before n [] c d m q p a h g = let x : Finished ≡ Asking m q = sym (phase_of_none n d) ∙ h in absurd (cc)
local_before n (s ∷ script) c d m q p a h g =
    let parts : (is_segment s ≡ true) × (list_all is_segment script ≡ true) = and_parts _ _ p in
    elim (cases_lt d (segment_ticks s)) [
      | inl first ↦ elim (cases_lt c s.local) [
        | inl local ↦ elim (cases_lt c d) [
          | inl less ↦ record { tick = c; from = omega arith; before = less; local = phase_local n s script c local }
          | inr same ↦
              let x : Local ≡ Asking m q = sym (phase_local n s script d (omega arith)) ∙ h in
              absurd (cc)
        ]
        | inr request ↦
            let e : phase_from n (s ∷ script) c ≡ Asking m q =
            phase_request n s script c request (omega arith) ∙ sym (phase_request n s script d (omega arith) first) ∙ h in
            let one : is_same_request (phase_from n (s ∷ script) c) (Asking m q) ≡ true = rw e (eq-eqb m m refl) in
            absurd (cc)
      ]
      | inr later ↦
          let there : phase_from (suc n) script (d - segment_ticks s) ≡ Asking m q = sym (phase_later n s script d later) ∙ h in
          elim (cases_lt c (segment_ticks s)) [
            | inl before ↦
                let l : LocalTick (suc n) script 0 (d - segment_ticks s) =
                first_local (suc n) script 0 (d - segment_ticks s) m q parts.1 (omega arith) refl there in
                moved n s script 0 c d l (omega arith) later
            | inr after ↦
                let l : LocalTick (suc n) script (c - segment_ticks s) (d - segment_ticks s) =
                local_before (suc n) script (c - segment_ticks s) (d - segment_ticks s) m q parts.1 (omega arith) there
                (rw (← phase_later n s script c after) g) in
                moved n s script (c - segment_ticks s) c d l (omega arith) later
          ]
    ]
