-- The number of requests that a job has begun: it rises, is bounded by the script's requests, and tells which request is open.
use Rattle.std.proofs.Common.{◌≡◌, ℕ, suc, ◌+◌, ◌-◌, ◌<◌, ◌≤◌, List, [], ◌∷◌, refl, sym, ◌∙◌, arith, inl, inr, Option, Some, None, is_some}
use Rattle.std.proofs.lemmas.Bool.{cases_lt, lt-ltb, le-ltb}
use Rattle.number_laws.specs.Sums.{flag}
use Rattle.schedule_model.specs.JobDef.{SegmentDef, job_of, request_ticks, segment_ticks}
use Rattle.schedule_model.specs.RowDef.{Trace}
use Rattle.schedule_model.specs.Phase.{phase_from, executed, phase_of}
use Rattle.schedule_model.specs.Phase.Phase.{Local, Asking, Finished}
use Rattle.schedule_laws.specs.Counting.{requests_in, begun_after, requests_begun}
use Rattle.schedule_laws.proofs.Phases.{phase_of_none, phase_local, phase_request, phase_later, asking_at, asking_from}
use Rattle.schedule_laws.proofs.Ticks.{executed_up}
use Rattle.number_laws.proofs.ListCounts.{count_by-first}

-- The three places in the first segment.
begun_local : (s : SegmentDef) (script : List SegmentDef) (d : ℕ) → d < s.local → begun_after (s ∷ script) d ≡ 0
begun_local s script d l = rw (lt-ltb d s.local l) refl

begun_request : (s : SegmentDef) (script : List SegmentDef) (d : ℕ) → s.local ≤ d → d < segment_ticks s → begun_after (s ∷ script) d ≡ 1
begun_request s script d h l = rw (le-ltb d s.local h, lt-ltb d (segment_ticks s) l) refl

begun_later : (s : SegmentDef) (script : List SegmentDef) (d : ℕ) → segment_ticks s ≤ d
    → begun_after (s ∷ script) d ≡ flag (is_some s.request) + begun_after script (d - segment_ticks s)
begun_later s script d h =
    let past : s.local ≤ d = omega arith in
    rw (le-ltb d s.local past, le-ltb d (segment_ticks s) h) refl

-- A segment in whose request it can be has one.
has_request : (s : SegmentDef) → s.local < segment_ticks s → flag (is_some s.request) ≡ 1
has_request s l = go s.request refl where
  go : (o : Option (ℕ × ℕ)) → s.request ≡ o → flag (is_some s.request) ≡ 1
  go None e = let none : request_ticks s ≡ 0 = rw e refl in absurd (omega arith)
  go (Some r) e = rw e refl

-- The number of requests begun rises.
pub begun_up : (script : List SegmentDef) (c d : ℕ) → c ≤ d → begun_after script c ≤ begun_after script d
begun_up [] c d l = omega arith
begun_up (s ∷ script) c d l = elim (cases_lt c (segment_ticks s)) [
  | inr after ↦
      omega (
        arith,
        begun_later s script c after,
        begun_later s script d (omega arith),
        begun_up script (c - segment_ticks s) (d - segment_ticks s) (omega arith),
      )
  | inl first ↦ elim (cases_lt c s.local) [
    | inl local ↦ omega (arith, begun_local s script c local)
    | inr request ↦ elim (cases_lt d (segment_ticks s)) [
      | inl within ↦ omega (arith, begun_request s script c request first, begun_request s script d (omega arith) within)
      | inr past ↦ omega (arith, begun_request s script c request first, begun_later s script d past, has_request s (omega arith))
    ]
  ]
]

-- It is at most the number of the script's requests.
pub begun_at_most : (script : List SegmentDef) (d : ℕ) → begun_after script d ≤ requests_in script
begun_at_most [] d = omega arith
begun_at_most (s ∷ script) d =
    let total : requests_in (s ∷ script) ≡ flag (is_some s.request) + requests_in script =
    count_by-first (λ r. is_some r.request) s script in
    elim (cases_lt d (segment_ticks s)) [
      | inr later ↦ omega (arith, total, begun_later s script d later, begun_at_most script (d - segment_ticks s))
      | inl first ↦ elim (cases_lt d s.local) [
        | inl local ↦ omega (arith, begun_local s script d local)
        | inr request ↦ omega (arith, total, begun_request s script d request first, has_request s (omega arith))
      ]
    ]

-- Where a request is open, one was begun.
pub begun_some : (n : ℕ) (script : List SegmentDef) (d m q : ℕ) → phase_from n script d ≡ Asking m q → 0 < begun_after script d
begun_some n [] d m q h = let x : Finished ≡ Asking m q = sym (phase_of_none n d) ∙ h in absurd (cc)
begun_some n (s ∷ script) d m q h = elim (cases_lt d (segment_ticks s)) [
  | inr later ↦ omega (
    arith,
    begun_later s script d later,
    begun_some (suc n) script (d - segment_ticks s) m q (sym (phase_later n s script d later) ∙ h),
  )
  | inl first ↦ elim (cases_lt d s.local) [
    | inl local ↦ let x : Local ≡ Asking m q = sym (phase_local n s script d local) ∙ h in absurd (cc)
    | inr request ↦ omega (arith, begun_request s script d request first)
  ]
]

-- A request that is open, and none begun since c: it was open at c.
pub begun_open : (n : ℕ) (script : List SegmentDef) (c d m q : ℕ) → c ≤ d → begun_after script c ≡ begun_after script d
    → phase_from n script d ≡ Asking m q → phase_from n script c ≡ Asking m q
begun_open n [] c d m q l e h = let x : Finished ≡ Asking m q = sym (phase_of_none n d) ∙ h in absurd (cc)
begun_open n (s ∷ script) c d m q l e h = elim (cases_lt d (segment_ticks s)) [
  | inl within ↦ elim (cases_lt d s.local) [
    | inl local ↦ let x : Local ≡ Asking m q = sym (phase_local n s script d local) ∙ h in absurd (cc)
    | inr request ↦ elim (cases_lt c s.local) [
      | inl before ↦ absurd (omega (arith, begun_local s script c before, begun_request s script d request within))
      | inr after ↦ phase_request n s script c after (omega arith) ∙ sym (phase_request n s script d request within) ∙ h
    ]
  ]
  | inr past ↦
      let there : phase_from (suc n) script (d - segment_ticks s) ≡ Asking m q = sym (phase_later n s script d past) ∙ h in
      let some : 0 < begun_after script (d - segment_ticks s) = begun_some (suc n) script (d - segment_ticks s) m q there in
      let count : begun_after (s ∷ script) d ≡ flag (is_some s.request) + begun_after script (d - segment_ticks s) =
      begun_later s script d past in
      elim (cases_lt c (segment_ticks s)) [
        | inr after ↦
            let same : begun_after script (c - segment_ticks s) ≡ begun_after script (d - segment_ticks s) =
            omega (arith, count, begun_later s script c after) in
            phase_later n s script c after
            ∙ begun_open (suc n) script (c - segment_ticks s) (d - segment_ticks s) m q (omega arith) same there
        | inl first ↦ elim (cases_lt c s.local) [
          | inl local ↦ absurd (omega (arith, count, some, begun_local s script c local))
          | inr request ↦ absurd (omega (arith, count, some, begun_request s script c request first, has_request s (omega arith)))
        ]
      ]
]

-- At two ticks of one request as many are begun.
pub begun_same : (n : ℕ) (script : List SegmentDef) (c d m q r : ℕ) → phase_from n script c ≡ Asking m q
    → phase_from n script d ≡ Asking m r → begun_after script c ≡ begun_after script d
begun_same n [] c d m q r h g = refl
begun_same n (s ∷ script) c d m q r h g = elim (cases_lt c (segment_ticks s)) [
  | inl first ↦ elim (cases_lt c s.local) [
    | inl local ↦ let x : Local ≡ Asking m q = sym (phase_local n s script c local) ∙ h in absurd (cc)
    | inr request ↦
        let number : m ≡ n = (asking_at n m q s.request (sym (phase_request n s script c request first) ∙ h)).0 in
        elim (cases_lt d (segment_ticks s)) [
          | inl within ↦ elim (cases_lt d s.local) [
            | inl before ↦ let x : Local ≡ Asking m r = sym (phase_local n s script d before) ∙ g in absurd (cc)
            | inr after ↦ omega (arith, begun_request s script c request first, begun_request s script d after within)
          ]
          | inr past ↦
              let more : suc n ≤ m = asking_from (suc n) script (d - segment_ticks s) m r (sym (phase_later n s script d past) ∙ g) in
              absurd (omega arith)
        ]
  ]
  | inr later ↦
      let there : phase_from (suc n) script (c - segment_ticks s) ≡ Asking m q = sym (phase_later n s script c later) ∙ h in
      let more : suc n ≤ m = asking_from (suc n) script (c - segment_ticks s) m q there in
      elim (cases_lt d (segment_ticks s)) [
        | inr past ↦
            omega (
              arith,
              begun_later s script c later,
              begun_later s script d past,
              begun_same (suc n) script (c - segment_ticks s) (d - segment_ticks s) m q r there (sym (phase_later n s script d past) ∙ g),
            )
        | inl within ↦ elim (cases_lt d s.local) [
          | inl before ↦ let x : Local ≡ Asking m r = sym (phase_local n s script d before) ∙ g in absurd (cc)
          | inr after ↦
              let number : m ≡ n = (asking_at n m r s.request (sym (phase_request n s script d after within) ∙ g)).0 in
              absurd (omega arith)
        ]
      ]
]

-- The same from tick to tick.
pub requests_begun_up : (w : Trace) (u t j : ℕ) → u ≤ t → requests_begun w u j ≤ requests_begun w t j
unfolding requests_begun
requests_begun_up w u t j l = begun_up (job_of w.jobs j).script (executed w u j) (executed w t j) (executed_up w u t j l)

-- A job has begun no more requests than its script has.
pub requests_begun_at_most : (w : Trace) (t j : ℕ) → requests_begun w t j ≤ requests_in (job_of w.jobs j).script
unfolding requests_begun
requests_begun_at_most w t j = begun_at_most (job_of w.jobs j).script (executed w t j)

-- A request that is open, and none begun since tick u: it was open at u.
pub open_if_begun : (w : Trace) (u t j m q : ℕ) → u ≤ t → requests_begun w u j ≡ requests_begun w t j
    → phase_of w t j ≡ Asking m q → phase_of w u j ≡ Asking m q
unfolding requests_begun phase_of
open_if_begun w u t j m q l e h = begun_open 0 (job_of w.jobs j).script (executed w u j) (executed w t j) m q (executed_up w u t j l) e h

-- While a request is open none is begun.
pub begun_while_open : (w : Trace) (u t j m q r : ℕ) → phase_of w u j ≡ Asking m q → phase_of w t j ≡ Asking m r
    → requests_begun w u j ≡ requests_begun w t j
unfolding requests_begun phase_of
begun_while_open w u t j m q r h g = begun_same 0 (job_of w.jobs j).script (executed w u j) (executed w t j) m q r h g
