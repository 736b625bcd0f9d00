-- The stands of the variables after an exchange: the entering variable is basic in the row that leaves, and the leaving one has its place.
use Rattle.std.proofs.Common.{◌≡◌, ◌≢◌, ◌⊎◌, inl, inr, ℕ, ◌<◌, List, length, slice_index, set, sym, ap, ◌∙◌, arith}
use Rattle.std.proofs.Common.{get_or-set_same, get_or-set_other, length-set}
use Rattle.std.proofs.lemmas.Bool.{cases_eq}
use Rattle.program_form.specs.Program.{ProgramDef, height}
use Rattle.exchange_runs.specs.Table.{variables}
use Rattle.whole_runs.specs.States.{stand_at, AreStands}
use Rattle.whole_runs.specs.declared.stands.Stand.{Stand}
use Rattle.whole_runs.specs.declared.stands.Stand.TheVariants.{Outside, Basic}

-- Is variable e, which enters at place k, outside the basis, and row r one of the program's?
pub record IsBegun (p : ProgramDef) (basis : List ℕ) (stands : List Stand) (e k r : ℕ) : Type 0 where
  pub basic_each : length basis ≡ height p
  pub stand_each : length stands ≡ variables p
  pub are : AreStands p basis stands
  pub enters : e < variables p
  pub place : stand_at stands e ≡ Outside k
  pub row : r < height p

abbrev pub stands_after : List ℕ → List Stand → ℕ → ℕ → ℕ → List Stand
stands_after basis stands e k r = set (set stands e (Basic r)) (slice_index basis r) (Outside k)

pub outside_apart : (stands : List Stand) (v w k j : ℕ) → stand_at stands v ≡ Outside k → stand_at stands w ≡ Basic j → v ≢ w
outside_apart stands v w k j out basic same =
    let there : Outside k ≡ Basic j = sym out ∙ (ap (λ x. stand_at stands x) same ∙ basic) in cc

basic_same : (i j : ℕ) → Basic i ≡ Basic j → i ≡ j
basic_same i j h = cc

outside_same : (i j : ℕ) → Outside i ≡ Outside j → i ≡ j
outside_same i j h = cc

pub left_basic : (p : ProgramDef) (basis : List ℕ) (stands : List Stand) (e k r : ℕ) → IsBegun p basis stands e k r
    → stand_at stands (slice_index basis r) ≡ Basic r
left_basic p basis stands e k r h = h.are.basic r h.row

pub left_apart : (p : ProgramDef) (basis : List ℕ) (stands : List Stand) (e k r : ℕ) → IsBegun p basis stands e k r
    → e ≢ slice_index basis r
left_apart p basis stands e k r h =
    outside_apart stands e (slice_index basis r) k r h.place (left_basic p basis stands e k r h)

pub stand_left : (p : ProgramDef) (basis : List ℕ) (stands : List Stand) (e k r : ℕ) → IsBegun p basis stands e k r
    → stand_at (stands_after basis stands e k r) (slice_index basis r) ≡ Outside k
stand_left p basis stands e k r h =
    let within = h.are.basic_within r h.row in
    get_or-set_same (set stands e (Basic r)) (slice_index basis r) (Outside k) (Basic 0)
    (omega (arith, within, length-set stands e (Basic r), h.stand_each))

pub stand_entered : (p : ProgramDef) (basis : List ℕ) (stands : List Stand) (e k r : ℕ) → IsBegun p basis stands e k r
    → stand_at (stands_after basis stands e k r) e ≡ Basic r
stand_entered p basis stands e k r h =
    get_or-set_other (set stands e (Basic r)) (slice_index basis r) e (Outside k) (Basic 0) (left_apart p basis stands e k r h)
    ∙ get_or-set_same stands e (Basic r) (Basic 0) (omega (arith, h.enters, h.stand_each))

pub stand_other : (basis : List ℕ) (stands : List Stand) (e k r v : ℕ) → v ≢ e → v ≢ slice_index basis r
    → stand_at (stands_after basis stands e k r) v ≡ stand_at stands v
stand_other basis stands e k r v apart_e apart_b =
    get_or-set_other (set stands e (Basic r)) (slice_index basis r) v (Outside k) (Basic 0) apart_b
    ∙ get_or-set_other stands e v (Basic r) (Basic 0) apart_e

-- A variable is the one that enters, the one that leaves, or another one, which is where it was.
pub variable_cases : (basis : List ℕ) (stands : List Stand) (e k r v : ℕ)
    → (v ≡ e) ⊎ ((v ≡ slice_index basis r) ⊎ ((v ≢ e) × (v ≢ slice_index basis r)
    × (stand_at (stands_after basis stands e k r) v ≡ stand_at stands v)))
variable_cases basis stands e k r v = elim (cases_eq v e) [
  | inl here ↦ inl here
  | inr apart ↦ elim (cases_eq v (slice_index basis r)) [
    | inl there ↦ inr (inl there)
    | inr away ↦ inr (inr (apart, away, stand_other basis stands e k r v apart away))
  ]
]

-- the place of the entering variable is no other's
pub place_apart : (p : ProgramDef) (basis : List ℕ) (stands : List Stand) (e k r v j : ℕ) → IsBegun p basis stands e k r → v < variables p
    → v ≢ e → stand_at stands v ≡ Outside j → j ≢ k
place_apart p basis stands e k r v j h l apart at same =
    apart (h.are.once v e k l h.enters (at ∙ ap Outside same) h.place)

-- and the row that leaves is no other basic variable's
pub row_apart : (p : ProgramDef) (basis : List ℕ) (stands : List Stand) (e k r v j : ℕ) → IsBegun p basis stands e k r → v < variables p
    → v ≢ slice_index basis r → stand_at stands v ≡ Basic j → j ≢ r
row_apart p basis stands e k r v j h l apart at same =
    apart (sym (h.are.of_row v j l at).1 ∙ ap (λ i. slice_index basis i) same)

pub new_basis_other : (basis : List ℕ) (r e i : ℕ) → i ≢ r → slice_index (set basis r e) i ≡ slice_index basis i
new_basis_other basis r e i apart = get_or-set_other basis r i e 0 apart

pub new_basis_own : (p : ProgramDef) (basis : List ℕ) (stands : List Stand) (e k r : ℕ) → IsBegun p basis stands e k r
    → slice_index (set basis r e) r ≡ e
new_basis_own p basis stands e k r h = get_or-set_same basis r e 0 (omega (arith, h.row, h.basic_each))

basic_after : (p : ProgramDef) (basis : List ℕ) (stands : List Stand) (e k r i : ℕ) → IsBegun p basis stands e k r → i < height p
    → stand_at (stands_after basis stands e k r) (slice_index (set basis r e) i) ≡ Basic i
basic_after p basis stands e k r i h l = elim (cases_eq i r) [
  | inl here ↦ rw (here, new_basis_own p basis stands e k r h) (stand_entered p basis stands e k r h)
  | inr away ↦
      let old = h.are.basic i l in
      let apart_e : slice_index basis i ≢ e = λ same. outside_apart stands e (slice_index basis i) k i h.place old (sym same) in
      let apart_b : slice_index basis i ≢ slice_index basis r = λ same.
      away (basic_same i r (sym old ∙ (ap (λ x. stand_at stands x) same ∙ left_basic p basis stands e k r h))) in
      rw (new_basis_other basis r e i away) (stand_other basis stands e k r (slice_index basis i) apart_e apart_b ∙ old)
]

of_row_after : (p : ProgramDef) (basis : List ℕ) (stands : List Stand) (e k r v i : ℕ) → IsBegun p basis stands e k r → v < variables p
    → stand_at (stands_after basis stands e k r) v ≡ Basic i → (i < height p) × (slice_index (set basis r e) i ≡ v)
of_row_after p basis stands e k r v i h l at = elim (variable_cases basis stands e k r v) [
  | inl entered ↦
      let here : i ≡ r = basic_same i r (sym at ∙ (ap (λ x. stand_at (stands_after basis stands e k r) x) entered
      ∙ stand_entered p basis stands e k r h)) in
      rw (here, entered) (h.row, new_basis_own p basis stands e k r h)
  | inr (inl left) ↦
      let there : Basic i ≡ Outside k = sym at ∙ (ap (λ x. stand_at (stands_after basis stands e k r) x) left
      ∙ stand_left p basis stands e k r h) in
      absurd (clash i k there)
  | inr (inr other) ↦
      let old : stand_at stands v ≡ Basic i = sym other.2 ∙ at in
      let row = h.are.of_row v i l old in
      (row.0, new_basis_other basis r e i (row_apart p basis stands e k r v i h l other.1 old) ∙ row.1)
]
  where
    clash : (i k : ℕ) → Basic i ≡ Outside k → ⊥
    clash i k h = cc

-- Which variable is outside at place j after the exchange: the leaving one at k, or one that was there.
pub outside_cases : (p : ProgramDef) (basis : List ℕ) (stands : List Stand) (e k r v j : ℕ) → IsBegun p basis stands e k r → v < variables p
    → stand_at (stands_after basis stands e k r) v ≡ Outside j
    → ((v ≡ slice_index basis r) × (j ≡ k)) ⊎ ((j ≢ k) × (stand_at stands v ≡ Outside j))
outside_cases p basis stands e k r v j h l at = elim (variable_cases basis stands e k r v) [
  | inl entered ↦
      let there : Outside j ≡ Basic r = sym at ∙ (ap (λ x. stand_at (stands_after basis stands e k r) x) entered
      ∙ stand_entered p basis stands e k r h) in
      absurd (clash j r there)
  | inr (inl left) ↦ inl (
    left,
    outside_same j k (sym at ∙ (ap (λ x. stand_at (stands_after basis stands e k r) x) left
        ∙ stand_left p basis stands e k r h)),
  )
  | inr (inr other) ↦
      let old : stand_at stands v ≡ Outside j = sym other.2 ∙ at in
      inr (place_apart p basis stands e k r v j h l other.0 old, old)
]
  where
    clash : (j r : ℕ) → Outside j ≡ Basic r → ⊥
    clash j r h = cc

once_after : (p : ProgramDef) (basis : List ℕ) (stands : List Stand) (e k r v w j : ℕ) → IsBegun p basis stands e k r
    → v < variables p → w < variables p
    → stand_at (stands_after basis stands e k r) v ≡ Outside j → stand_at (stands_after basis stands e k r) w ≡ Outside j → v ≡ w
once_after p basis stands e k r v w j h lv lw at_v at_w =
    elim (outside_cases p basis stands e k r v j h lv at_v) [
      | inl left ↦ elim (outside_cases p basis stands e k r w j h lw at_w) [
        | inl also ↦ left.0 ∙ sym also.0
        | inr other ↦ absurd (other.0 left.1)
      ]
      | inr here ↦ elim (outside_cases p basis stands e k r w j h lw at_w) [
        | inl left ↦ absurd (here.0 left.1)
        | inr also ↦ h.are.once v w j lv lw here.1 also.1
      ]
    ]

pub stands_exchanged : (p : ProgramDef) (basis : List ℕ) (stands : List Stand) (e k r : ℕ) → IsBegun p basis stands e k r
    → AreStands p (set basis r e) (stands_after basis stands e k r)
stands_exchanged p basis stands e k r h = record {
  basic_within = λ i l. elim (cases_eq i r) [
    | inl here ↦ rw (here, new_basis_own p basis stands e k r h) h.enters
    | inr away ↦ rw (new_basis_other basis r e i away) (h.are.basic_within i l)
  ];
  basic = λ i l. basic_after p basis stands e k r i h l;
  of_row = λ v i l at. of_row_after p basis stands e k r v i h l at;
  place = λ v j l at. elim (outside_cases p basis stands e k r v j h l at) [
    | inl left ↦ rw left.1 (h.are.place e k h.enters h.place)
    | inr other ↦ h.are.place v j l other.1
  ];
  once = λ v w j lv lw at_v at_w. once_after p basis stands e k r v w j h lv lw at_v at_w;
}
