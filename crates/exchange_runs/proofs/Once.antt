-- A program has one run: each table has one entering variable, one leaving row and one next table, and a run that ends or is wide
-- goes no further.
use Rattle.std.proofs.Common.{◌≡◌, ◌⊎◌, inl, inr, ℕ, zero, suc, ◌+◌, ◌-◌, ◌^◌, ◌<◌, ◌≤◌, slice_index, ℤ}
use Rattle.std.proofs.Common.{◌∙◌, sym, subst, arith}
use Rattle.std.proofs.lemmas.Bool.{cases_lt, cases_eq, lt-ltb, le-ltb}
use lib.Signed.{clash_ℤ}
use Rattle.fraction128.specs.Fraction.{Fraction, IsForm, IsAtMost}
use Rattle.fraction128.proofs.Unique.{one_difference, one_product, one_quotient, apart_of_positive}
use Rattle.fraction128.proofs.Forms.{form_of_whole}
use Rattle.program_form.specs.Program.{ProgramDef, IsProgram, columns, height}
use Rattle.exchange_runs.specs.Table.{Table, variables, slack, objective, first_entries, first_limit, first_number}
use Rattle.exchange_runs.specs.Exchange.{IsEntering, IsLast, HasRatio, IsRatio, IsLeaving, IsLess, IsExchange}
use Rattle.exchange_runs.specs.Run.{Reached, IsSameTable}
use Rattle.fraction128.specs.Gives.{IsWideLess}
use Rattle.exchange_runs.specs.WideExchange.{IsWideRatio, IsWideQuotient, IsWideTaking, IsWideStep, IsWideExchange}
use Rattle.exchange_runs.proofs.FirstTable.{first_of-column, first_of-own, first_of-other, first_of-limit, first_of-past}
use Rattle.exchange_runs.proofs.Shadows.{IsShadow, shadow_reached}
use Rattle.exchange_runs.proofs.Best.{basics_apart}

-- Each first number is small, as the program's numbers are.
first_entry_small : (p : ProgramDef) (i v : ℕ) → IsProgram p → slice_index (first_entries p i) v < 2 ^ 63
first_entry_small p i v accepted = elim (cases_lt i (height p)) [
  | inl row ↦ rw (lt-ltb i (height p) row) (omega (arith, accepted.small.entries i v))
  | inr objective ↦ rw (le-ltb i (height p) objective) (omega (arith, accepted.small.costs v))
]

first_limit_small : (p : ProgramDef) (i : ℕ) → IsProgram p → first_limit p i < 2 ^ 63
first_limit_small p i accepted = elim (cases_lt i (height p)) [
  | inl row ↦ rw (lt-ltb i (height p) row) (omega (arith, accepted.small.limits i))
  | inr objective ↦ rw (le-ltb i (height p) objective) (omega arith)
]

pub first_number_small : (p : ProgramDef) (i v : ℕ) → IsProgram p → first_number p i v < 2 ^ 63
first_number_small p i v accepted =
    let entries = first_entries p i in
    elim (cases_lt v (columns p)) [
      | inl column ↦ rw (first_of-column (columns p) entries (slack p i) (variables p) (first_limit p i) v column)
          (first_entry_small p i v accepted)
      | inr behind ↦ elim (cases_lt v (variables p)) [
        | inl variable ↦ elim (cases_eq v (slack p i)) [
          | inl own ↦
              rw (
                own,
                first_of-own (columns p) entries (slack p i) (variables p) (first_limit p i) (omega arith)
                    (omega (arith, own, variable)),
              ) (omega arith)
          | inr other ↦ rw
              (first_of-other (columns p) entries (slack p i) (variables p) (first_limit p i) v behind variable other)
              (omega arith)
        ]
        | inr past ↦ elim (cases_eq v (variables p)) [
          | inl at ↦
              rw (at, first_of-limit (columns p) entries (slack p i) (variables p) (first_limit p i) (omega arith))
              (first_limit_small p i accepted)
          | inr beyond ↦ rw
              (first_of-past (columns p) entries (slack p i) (variables p) (first_limit p i) v (omega arith)
              (omega arith)) (omega arith)
        ]
      ]
    ]

-- Each cell of a table that a run reaches has a form.
pub forms : (p : ProgramDef) (k : ℕ) (t : Table) → IsProgram p → Reached p k t → (i v : ℕ) → i ≤ height p → IsForm (t.cell i v)
forms p zero t accepted h i v l = rw (h.cells i v l) (form_of_whole (first_number p i v) (first_number_small p i v accepted))
forms p (suc k) t accepted h i v l = elim (cases_eq i h.2) [
  | inl here ↦ rw here (h.4.divided_form v)
  | inr away ↦ (h.4.taken i v l away).form
]

pub same_back : (p : ProgramDef) (t u : Table) → IsSameTable p t u → IsSameTable p u t
same_back p t u same = record { cells = λ i v l. sym (same.cells i v l); basis = λ i l. sym (same.basis i l) }

-- What enters one of two same tables is not passed over in the other.
not_earlier : (p : ProgramDef) (t u : Table) (e f : ℕ) → IsSameTable p t u → IsEntering p t e → IsEntering p u f → e < f → ⊥
not_earlier p t u e f same h k l =
    clash_ℤ h.above (rw (same.cells (height p) e (omega arith)) (k.least e l))

pub one_entering : (p : ProgramDef) (t u : Table) (e f : ℕ) → IsSameTable p t u → IsEntering p t e → IsEntering p u f → e ≡ f
one_entering p t u e f same h k = elim (cases_lt e f) [
  | inl earlier ↦ absurd (not_earlier p t u e f same h k earlier)
  | inr back ↦ elim (cases_lt f e) [
    | inl later ↦ absurd (not_earlier p u t f e (same_back p t u same) k h later)
    | inr forth ↦ omega arith
  ]
]

ratio_same : (p : ProgramDef) (t u : Table) (e i : ℕ) (f : Fraction) → IsSameTable p t u → i ≤ height p
    → IsRatio (variables p) u e i f → IsRatio (variables p) t e i f
ratio_same p t u e i f same l h = record {
  form = h.form;
  quotient = rw (same.cells i (variables p) l, same.cells i e l) h.quotient;
}

has_same : (p : ProgramDef) (t u : Table) (e i : ℕ) → IsSameTable p t u → i ≤ height p → HasRatio u e i → HasRatio t e i
has_same p t u e i same l h = record { above = rw (same.cells i e l) h.above }

-- A row has one ratio.
pub one_ratio : (w : ℕ) (t : Table) (e i : ℕ) (f g : Fraction) → IsForm (t.cell i w) → HasRatio t e i
    → IsRatio w t e i f → IsRatio w t e i g → f ≡ g
one_ratio w t e i f g form has h k =
    one_quotient (t.cell i w) (t.cell i e) f g form (apart_of_positive (t.cell i e).num has.above) h.form k.form h.quotient k.quotient

pub one_leaving : (p : ProgramDef) (t u : Table) (e r s : ℕ) → IsSameTable p t u
    → ((i v : ℕ) → i ≤ height p → IsForm (t.cell i v))
    → ((i j : ℕ) → i < height p → j < height p → (j ≡ i → ⊥) → t.basic j ≡ t.basic i → ⊥)
    → IsLeaving p t e r → IsLeaving p u e s → r ≡ s
one_leaving p t u e r s same form apart h k =
    let w : ℕ = variables p in
    let in_r : r < height p = h.least.within in
    let in_s : s < height p = k.least.within in
    -- the ratio of s in t, and that of r in u
    let of_s = h.least.least s in_s (has_same p t u e s same (omega arith) k.least.has) in
    let of_r = k.least.least r in_r (has_same p u t e r (same_back p t u same) (omega arith) h.least.has) in
    let s_is : of_s.0 ≡ k.ratio
    = one_ratio w t e s of_s.0 k.ratio (form s w (omega arith)) (has_same p t u e s same (omega arith) k.least.has)
    of_s.1 (ratio_same p t u e s k.ratio same (omega arith) k.least.ratio) in
    let r_is : of_r.0 ≡ h.ratio
    = one_ratio w t e r of_r.0 h.ratio (form r w (omega arith)) h.least.has
    (ratio_same p t u e r of_r.0 same (omega arith) of_r.1) h.least.ratio in
    let r_at_most : IsAtMost h.ratio k.ratio = subst (λ (f : Fraction). IsAtMost h.ratio f) s_is of_s.2 in
    let s_at_most : IsAtMost k.ratio h.ratio = subst (λ (f : Fraction). IsAtMost k.ratio f) r_is of_r.2 in
    let first : t.basic r ≤ t.basic s = of_s.3 (subst (λ (f : Fraction). IsAtMost f h.ratio) (sym s_is) s_at_most) in
    let second : u.basic s ≤ u.basic r = of_r.3 (subst (λ (f : Fraction). IsAtMost f k.ratio) (sym r_is) r_at_most) in
    let equal : t.basic r ≡ t.basic s = omega (arith, first, second, same.basis r in_r, same.basis s in_s) in
    elim (cases_eq r s) [
      | inl one ↦ one
      | inr two ↦ absurd (apart s r in_s in_r two equal)
    ]

pub one_less : (a f y b c : Fraction) → IsForm a → IsForm f → IsForm y → IsLess a f y b → IsLess a f y c → b ≡ c
one_less a f y b c fa ff fy h k =
    let same : h.product ≡ k.product = one_product f y h.product k.product ff fy h.product_form k.product_form h.is_product k.is_product in
    one_difference a h.product b c fa h.product_form h.form k.form h.is_difference (rw same k.is_difference)

less_same : (a f y b a' f' y' : Fraction) → a ≡ a' → f ≡ f' → y ≡ y' → IsLess a' f' y' b → IsLess a f y b
less_same a f y b a' f' y' p q r h = rw (p, q, r) h

-- One exchange, of one entering variable and one leaving row.
pub one_exchange : (p : ProgramDef) (t t' u u' : Table) (e r : ℕ) → IsSameTable p t t'
    → ((i v : ℕ) → i ≤ height p → IsForm (t.cell i v))
    → IsExchange p t u e r → IsExchange p t' u' e r → IsSameTable p u u'
one_exchange p t t' u u' e r same form h k =
    let within : r ≤ height p = omega (arith, h.leaves.least.within) in
    let pivot : (v : ℕ) → u.cell r v ≡ u'.cell r v = λ v.
    one_quotient (t.cell r v) (t.cell r e) (u.cell r v) (u'.cell r v) (form r v within) (apart_of_positive (t.cell r e).num h.leaves.least.has.above)
    (h.divided_form v) (k.divided_form v) (h.divided v) (rw (same.cells r v within, same.cells r e within) (k.divided v)) in
    record {
      cells = λ i v l. elim (cases_eq i r) [
        | inl here ↦ rw here (pivot v)
        | inr away ↦
            one_less (t.cell i v) (t.cell i e) (u.cell r v) (u.cell i v) (u'.cell i v) (form i v l) (form i e l)
            (h.divided_form v) (h.taken i v l away)
            (less_same (t.cell i v) (t.cell i e) (u.cell r v) (u'.cell i v) (t'.cell i v) (t'.cell i e) (u'.cell r v)
            (same.cells i v l) (same.cells i e l) (pivot v) (k.taken i v l away))
      ];
      basis = λ i l. elim (cases_eq i r) [
        | inl here ↦ rw here (h.entered ∙ sym k.entered)
        | inr away ↦ h.stayed i l away ∙ (same.basis i l ∙ sym (k.stayed i l away))
      ];
    }

-- No variable is basic in two rows of a table that a run reaches.
pub apart_in_run : (p : ProgramDef) (k : ℕ) (t : Table) → Reached p k t → (i j : ℕ) → i < height p → j < height p
    → (j ≡ i → ⊥) → t.basic j ≡ t.basic i → ⊥
apart_in_run p k t reached i j li lj away =
    let behind : (d : ℤ) × (z : ℕ → ℕ → ℤ) × IsShadow p t d z = shadow_reached p k t reached in
    basics_apart p t behind.0 behind.1 i j behind.2 li lj away

-- After as many exchanges there is one table.
pub one_run : (p : ProgramDef) (k : ℕ) (t u : Table) → IsProgram p → Reached p k t → Reached p k u → IsSameTable p t u
one_run p zero t u accepted h j = record {
  cells = λ i v l. h.cells i v l ∙ sym (j.cells i v l);
  basis = λ i l. h.basis i l ∙ sym (j.basis i l);
}
one_run p (suc k) t u accepted h j =
    let before : IsSameTable p h.0 j.0 = one_run p k h.0 j.0 accepted h.3 j.3 in
    let form = forms p k h.0 accepted h.3 in
    let entering : h.1 ≡ j.1 = one_entering p h.0 j.0 h.1 j.1 before h.4.enters j.4.enters in
    let same_e : IsExchange p j.0 u h.1 j.2 = rw entering j.4 in
    let leaving : h.2 ≡ j.2 = one_leaving p h.0 j.0 h.1 h.2 j.2 before form (apart_in_run p k h.0 h.3) h.4.leaves same_e.leaves in
    let same_r : IsExchange p j.0 u h.1 h.2 = rw leaving same_e in
    one_exchange p h.0 j.0 t u h.1 h.2 before form h.4 same_r

-- A table with an exchange is not the last.
pub not_last : (p : ProgramDef) (t u : Table) (e : ℕ) → IsSameTable p t u → IsEntering p t e → IsLast p u → ⊥
not_last p t u e same h last = clash_ℤ h.above (rw (same.cells (height p) e (omega arith)) (last.none e h.within))

-- nor is its exchange wide
wide_ratio : (p : ProgramDef) (t u s : Table) (e r : ℕ) → IsSameTable p t u → IsExchange p t s e r
    → IsWideRatio (variables p) (height p) u e → ⊥
wide_ratio p t u s e r same h wide =
    let i : ℕ = wide.of_row in
    let of_i = h.leaves.least.least i wide.within (has_same p t u e i same (omega (arith, wide.within)) wide.has) in
    let there : IsRatio (variables p) u e i of_i.0 =
    ratio_same p u t e i of_i.0 (same_back p t u same) (omega (arith, wide.within)) of_i.1 in
    wide.wide of_i.0 there.form there.quotient

wide_quotient : (p : ProgramDef) (t u s : Table) (e r : ℕ) → IsSameTable p t u → IsExchange p t s e r → IsWideQuotient u e r → ⊥
wide_quotient p t u s e r same h wide =
    let within : r ≤ height p = omega (arith, h.leaves.least.within) in
    wide.wide (s.cell r wide.at_place) (h.divided_form wide.at_place)
    (rw (← same.cells r wide.at_place within, ← same.cells r e within) (h.divided wide.at_place))

wide_less : (a f y b : Fraction) → IsForm f → IsForm y → IsLess a f y b → IsWideLess a f y → ⊥
wide_less a f y b ff fy h wide = elim wide [
  | inl product ↦ product h.product h.product_form h.is_product
  | inr difference ↦
      let same : difference.0 ≡ h.product =
      one_product f y difference.0 h.product ff fy difference.1 h.product_form difference.2 h.is_product in
      difference.3 b h.form (rw same h.is_difference)
]

wide_taking : (p : ProgramDef) (t u s : Table) (e r : ℕ) → IsSameTable p t u
    → ((i v : ℕ) → i ≤ height p → IsForm (t.cell i v)) → IsExchange p t s e r
    → IsWideTaking (height p) u e r → ⊥
wide_taking p t u s e r same form h wide =
    let within : r ≤ height p = omega (arith, h.leaves.least.within) in
    let i : ℕ = wide.of_row in
    let v : ℕ = wide.at_place in
    let pivot : wide.divided v ≡ s.cell r v
    = one_quotient (t.cell r v) (t.cell r e) (wide.divided v) (s.cell r v) (form r v within)
    (apart_of_positive (t.cell r e).num h.leaves.least.has.above)
    (wide.divided_form v) (h.divided_form v) (rw (same.cells r v within, same.cells r e within) (wide.is_divided v)) (h.divided v) in
    wide_less (t.cell i v) (t.cell i e) (s.cell r v) (s.cell i v) (form i e wide.within) (h.divided_form v)
    (h.taken i v wide.within wide.other)
    (rw (same.cells i v wide.within, same.cells i e wide.within, ← pivot) wide.wide)

pub not_wide : (p : ProgramDef) (k : ℕ) (t u s : Table) (e r : ℕ) → IsProgram p → Reached p k t → IsSameTable p t u
    → IsExchange p t s e r → IsWideExchange p u → ⊥
not_wide p k t u s e r accepted reached same h wide =
    let form = forms p k t accepted reached in
    let entering : wide.entering ≡ e = sym (one_entering p t u e wide.entering same h.enters wide.enters) in
    elim wide.wide [
      | inl ratio ↦ wide_ratio p t u s e r same h (subst (λ (n : ℕ). IsWideRatio (variables p) (height p) u n) entering ratio)
      | inr step ↦
          let leaves : IsLeaving p u e step.0 = subst (λ (n : ℕ). IsLeaving p u n step.0) entering step.1 in
          let leaving : step.0 ≡ r = sym (one_leaving p t u e r step.0 same form (apart_in_run p k t reached) h.leaves leaves) in
          let at : IsWideStep (height p) u e r = subst (λ (n : ℕ). IsWideStep (height p) u e n) leaving
          (subst (λ (n : ℕ). IsWideStep (height p) u n step.0) entering step.2) in
          elim at [
            | inl quotient ↦ wide_quotient p t u s e r same h quotient
            | inr taking ↦ wide_taking p t u s e r same form h taking
          ]
    ]

-- The exchange that a longer run makes after k others.
exchange_before : (p : ProgramDef) (k n : ℕ) (u : Table) → Reached p (suc (k + n)) u
    → (t : Table) × (s : Table) × (e : ℕ) × (r : ℕ) × (Reached p k t) × IsExchange p t s e r
exchange_before p k zero u h =
    let at : k + zero ≡ k = omega arith in
    (h.0, u, h.1, h.2, subst (λ (n : ℕ). Reached p n h.0) at h.3, h.4)
exchange_before p k (suc n) u h =
    let at : k + suc n ≡ suc (k + n) = omega arith in
    exchange_before p k n h.0 (subst (λ (n : ℕ). Reached p n h.0) at h.3)

-- A run that ends or is wide after k exchanges makes no more.
pub no_later : (p : ProgramDef) (k j : ℕ) (t u : Table) → IsProgram p → Reached p k t
    → (IsLast p t ⊎ IsWideExchange p t) → Reached p j u → j ≤ k
no_later p k j t u accepted h ends later = elim (cases_lt k j) [
  | inr within ↦ within
  | inl past ↦
      let n : ℕ = j - suc k in
      let at : j ≡ suc (k + n) = omega arith in
      let more = exchange_before p k n u (subst (λ (i : ℕ). Reached p i u) at later) in
      let same : IsSameTable p more.0 t = one_run p k more.0 t accepted more.4 h in
      absurd (elim ends [
        | inl last ↦ not_last p more.0 t more.2 same more.5.enters last
        | inr wide ↦ not_wide p k more.0 t more.1 more.2 more.3 accepted more.4 same more.5 wide
      ])
]
