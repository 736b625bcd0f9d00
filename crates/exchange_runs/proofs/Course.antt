-- Every run goes on until it ends, is wide or needs more units.
use Rattle.std.proofs.Common.{◌≡◌, ◌⊎◌, inl, inr, ℕ, zero, suc, ◌+◌, ◌*◌, ◌/◌, ◌^◌, ◌<◌, ◌≤◌, add-one, nat_eq}
use Rattle.std.proofs.Common.{if◌then◌else◌, List, length, All, pos, ◌≤ℤ◌, ◌<ℤ◌, unsigned_abs, refl, ap, ◌∙◌, sym}
use Rattle.std.proofs.Common.{subst, arith}
use Rattle.std.specs.Int.{◌∣◌}
use Rattle.std.proofs.lemmas.Int.{by_lt_z}
use Rattle.std.proofs.lemmas.Bool.{cases_lt, cases_eq, eq-eqb, ne_eqb}
use Rattle.std.proofs.lemmas.List.Elements.{All-from_get_or}
use lib.Signed.{clash_ℤ}
use Rattle.fraction128.specs.Fraction.{Fraction, IsForm, IsQuotient, whole}
use Rattle.fraction128.specs.Gives.{HasNoForm, IsWideLess}
use Rattle.fraction128.specs.Scaling.{IsLeastCommon, IsScaled, fraction_at}
use Rattle.fraction128.proofs.Forms.{form_of_negated, form_of_zero}
use Rattle.fraction128.proofs.Unique.{one_quotient, apart_of_positive}
use Rattle.fraction128.proofs.ScalingLemmas.{least_exists, scaled_over}
use Rattle.program_form.specs.Program.{ProgramDef, IsProgram, columns, height}
use Rattle.program_form.specs.Certificate.{DualDef}
use Rattle.exchange_runs.specs.Table.{Table, variables, slack, objective, first_entries, first_limit, first_number}
use Rattle.exchange_runs.specs.Exchange.{IsEntering, IsLast, HasRatio, IsRatio, IsLeaving, IsLess, IsExchange}
use Rattle.exchange_runs.specs.Run.{Reached, IsExchangeRun}
use Rattle.exchange_runs.specs.WideExchange.{IsWideRatio, IsWideQuotient, IsWideTaking, IsWideExchange}
use Rattle.exchange_runs.specs.Readings.{value_of, dual_at, IsValueOf, IsPrimal, AreDuals, IsWrittenDual, IsWideEnd}
use Rattle.exchange_runs.specs.Outcomes.{HasOutcome}
use Rattle.exchange_runs.proofs.FirstTable.{first_of-past}
use Rattle.exchange_runs.proofs.Bounded.{has_ratio}
use Rattle.exchange_runs.proofs.Once.{forms, one_less}
use Rattle.exchange_runs.proofs.Leasts.{least_among}
use Rattle.exchange_runs.proofs.Loops.{reached_next, less_at_zero, quotient_of_zero, value_none, value_here, value_more, duals_not_below}
use Rattle.exchange_runs.proofs.Found.{quotient_found, less_found, all_or_some, listed}

-- Past the place of the limit every cell of a run is zero.
pub zero_past_run : (p : ProgramDef) (k : ℕ) (t : Table) → IsProgram p → Reached p k t → (i v : ℕ) → i ≤ height p
    → variables p < v → t.cell i v ≡ whole (pos 0)
zero_past_run p zero t accepted h i v l past =
    h.cells i v l
    ∙ ap (λ n. whole (pos n))
    (first_of-past (columns p) (first_entries p i) (slack p i) (variables p) (first_limit p i) v (omega arith) past)
zero_past_run p (suc k) t accepted h i v l past =
    let s : Table = h.0 in
    let e : ℕ = h.1 in
    let r : ℕ = h.2 in
    let within : r ≤ height p = omega (arith, h.4.leaves.least.within) in
    let form = forms p k s accepted h.3 in
    let pivot : t.cell r v ≡ whole (pos 0)
    = one_quotient (s.cell r v) (s.cell r e) (t.cell r v) (whole (pos 0)) (form r v within)
    (apart_of_positive (s.cell r e).num h.4.leaves.least.has.above)
    (h.4.divided_form v) form_of_zero (h.4.divided v)
    (quotient_of_zero (s.cell r v) (s.cell r e) (ap (λ c. c.num) (zero_past_run p k s accepted h.3 r v within past))) in
    elim (cases_eq i r) [
      | inl here ↦ rw here pivot
      | inr away ↦
          one_less (s.cell i v) (s.cell i e) (t.cell r v) (t.cell i v) (s.cell i v) (form i v l) (form i e l)
          (h.4.divided_form v) (h.4.taken i v l away)
          (less_at_zero (s.cell i v) (s.cell i e) (t.cell r v) (ap (λ c. c.num) pivot) (form i v l))
          ∙ zero_past_run p k s accepted h.3 i v l past
    ]

-- Of the first n variables the least whose objective cell is above zero, or none.
entering_among : (p : ProgramDef) (t : Table) (n : ℕ)
    → ((e : ℕ) × (e < n) × (pos 0 <ℤ (objective p t e).num) × ((v : ℕ) → v < e → (objective p t v).num ≤ℤ pos 0))
    ⊎ ((v : ℕ) → v < n → (objective p t v).num ≤ℤ pos 0)
entering_among p t zero = inr (λ v l. absurd (omega arith))
entering_among p t (suc n) = elim (entering_among p t n) [
  | inl there ↦ inl (there.0, omega (arith, there.1), there.2, there.3)
  | inr none ↦ by_lt_z (pos 0) (objective p t n).num
      (λ above. inl (n, omega arith, above, none))
      (λ below. inr (λ v l. elim (cases_lt v n) [
        | inl earlier ↦ none v earlier
        | inr last ↦ let same : v ≡ n = omega arith in rw same below
      ]))
]

pub entering_or_last : (p : ProgramDef) (t : Table) → ((e : ℕ) × IsEntering p t e) ⊎ IsLast p t
entering_or_last p t = elim (entering_among p t (variables p)) [
  | inl there ↦ inl (there.0, record { within = there.1; above = there.2; least = there.3 })
  | inr none ↦ inr (record { none = none })
]

-- A row has no ratio, or one with a form, or one with none.
ratio_found : (w : ℕ) (t : Table) (e i : ℕ) → IsForm (t.cell i w)
    → (HasRatio t e i → (g : Fraction) × IsRatio w t e i g)
    ⊎ (HasRatio t e i × HasNoForm (IsQuotient (t.cell i w) (t.cell i e)))
ratio_found w t e i form =
    by_lt_z (pos 0) (t.cell i e).num
    (λ above. elim (quotient_found (t.cell i w) (t.cell i e) form above) [
      | inl there ↦ inl (λ has. (there.0, record { form = there.1; quotient = there.2 }))
      | inr none ↦ inr (record { above = above }, none)
    ])
    (λ below. inl (λ has. clash_ℤ has.above below))

-- The leaving row, or a ratio without a form.
leaving_or_wide : (p : ProgramDef) (k : ℕ) (t : Table) (e : ℕ) → IsProgram p → Reached p k t → e < variables p
    → ((r : ℕ) × IsLeaving p t e r) ⊎ IsWideRatio (variables p) (height p) t e
leaving_or_wide p k t e accepted reached within =
    elim (all_or_some (λ i. HasRatio t e i → (g : Fraction) × IsRatio (variables p) t e i g)
    (λ i. HasRatio t e i × HasNoForm (IsQuotient (t.cell i (variables p)) (t.cell i e))) (height p)
    (λ i l. ratio_found (variables p) t e i (forms p k t accepted reached i (variables p) (omega (arith, l))))) [
      | inr wide ↦ inr (record { of_row = wide.0; within = wide.1; has = wide.2.0; wide = wide.2.1 })
      | inl ratios ↦ elim (least_among IsForm (variables p) t e (height p) (λ f form. form.positive) ratios) [
        | inl none ↦ let some = has_ratio p k t e accepted reached within in absurd (none some.0 some.1 some.2)
        | inr least ↦ inl (least.0, record { ratio = least.1; least = least.2 })
      ]
    ]

-- The row that leaves, divided, or a quotient without a form.
divided_or_wide : (p : ProgramDef) (k : ℕ) (t : Table) (e r : ℕ) → IsProgram p → Reached p k t → r < height p → HasRatio t e r
    → ((v : ℕ) → (f : Fraction) × (IsForm f) × IsQuotient (t.cell r v) (t.cell r e) f) ⊎ IsWideQuotient t e r
divided_or_wide p k t e r accepted reached within has =
    elim (all_or_some (λ v. (f : Fraction) × (IsForm f) × IsQuotient (t.cell r v) (t.cell r e) f)
    (λ v. HasNoForm (IsQuotient (t.cell r v) (t.cell r e))) (variables p + 1)
    (λ v l. quotient_found (t.cell r v) (t.cell r e) (forms p k t accepted reached r v (omega (arith, within))) has.above)) [
      | inr wide ↦ inr (record { at_place = wide.0; wide = wide.2 })
      | inl all ↦ inl (λ v. elim (cases_lt v (variables p + 1)) [
        | inl inside ↦ all v inside
        | inr past ↦ (
          whole (pos 0),
          form_of_zero,
          quotient_of_zero (t.cell r v) (t.cell r e) (ap (λ c. c.num)
              (zero_past_run p k t accepted reached r v (omega (arith, within)) (omega (arith, past)))),
        )
      ])
    ]

-- What is left of the other rows, or a product or difference without a form.
left_or_wide : (p : ProgramDef) (k : ℕ) (t : Table) (e r : ℕ) → IsProgram p → Reached p k t → r < height p → HasRatio t e r
    → (divided : (v : ℕ) → (f : Fraction) × (IsForm f) × IsQuotient (t.cell r v) (t.cell r e) f)
    → ((i v : ℕ) → i ≤ height p → (i ≡ r → ⊥) → (b : Fraction) × IsLess (t.cell i v) (t.cell i e) (divided v).0 b)
    ⊎ IsWideTaking (height p) t e r
left_or_wide p k t e r accepted reached within has divided =
    let form = forms p k t accepted reached in
    elim (all_or_some
    (λ i. (i ≡ r → ⊥) → (v : ℕ) → v < variables p + 1 → (b : Fraction) × IsLess (t.cell i v) (t.cell i e) (divided v).0 b)
    (λ i. (i ≡ r → ⊥) × ((v : ℕ) × (v < variables p + 1) × IsWideLess (t.cell i v) (t.cell i e) (divided v).0))
    (height p + 1)
    (λ i l. elim (cases_eq i r) [
      | inl same ↦ inl (λ away. absurd (away same))
      | inr away ↦ elim (all_or_some (λ v. (b : Fraction) × IsLess (t.cell i v) (t.cell i e) (divided v).0 b)
          (λ v. IsWideLess (t.cell i v) (t.cell i e) (divided v).0) (variables p + 1)
          (λ v m. less_found (t.cell i v) (t.cell i e) (divided v).0 (form i v (omega (arith, l)))
          (form i e (omega (arith, l))) (divided v).1)) [
            | inl all ↦ inl (λ other. all)
            | inr wide ↦ inr (away, wide)
          ]
    ])) [
      | inr wide ↦
          inr (record {
            divided = λ v. (divided v).0;
            divided_form = λ v. (divided v).1;
            is_divided = λ v. (divided v).2;
            of_row = wide.0;
            at_place = wide.2.1.0;
            within = omega (arith, wide.1);
            other = wide.2.0;
            wide = wide.2.1.2;
          })
      | inl all ↦ inl (λ i v l away. elim (cases_lt v (variables p + 1)) [
        | inl inside ↦ all i (omega (arith, l)) away v inside
        | inr past ↦
            let zero_there : t.cell r v ≡ whole (pos 0) =
            zero_past_run p k t accepted reached r v (omega (arith, within)) (omega (arith, past)) in
            let zero_divided : (divided v).0 ≡ whole (pos 0)
            = one_quotient (t.cell r v) (t.cell r e) (divided v).0 (whole (pos 0)) (form r v (omega (arith, within)))
            (apart_of_positive (t.cell r e).num has.above)
            (divided v).1 form_of_zero (divided v).2 (quotient_of_zero (t.cell r v) (t.cell r e) (ap (λ c. c.num) zero_there)) in
            (t.cell i v, less_at_zero (t.cell i v) (t.cell i e) (divided v).0 (ap (λ c. c.num) zero_divided) (form i v l))
      ])
    ]

-- The table after the exchange, of its parts.
exchange_of : (p : ProgramDef) (t : Table) (e r : ℕ) → IsEntering p t e → IsLeaving p t e r
    → (divided : (v : ℕ) → (f : Fraction) × (IsForm f) × IsQuotient (t.cell r v) (t.cell r e) f)
    → ((i v : ℕ) → i ≤ height p → (i ≡ r → ⊥) → (b : Fraction) × IsLess (t.cell i v) (t.cell i e) (divided v).0 b)
    → (u : Table) × IsExchange p t u e r
exchange_of p t e r enters leaves divided left =
    let picked : (i v : ℕ)
    → (b : Fraction) × (i ≤ height p → (i ≡ r → ⊥) → IsLess (t.cell i v) (t.cell i e) (divided v).0 b) =
    λ i v. elim (cases_lt (height p) i) [
      | inl past ↦ (whole (pos 0), λ l away. absurd (omega (arith, past, l)))
      | inr inside ↦ elim (cases_eq i r) [
        | inl same ↦ (whole (pos 0), λ l away. absurd (away same))
        | inr other ↦ ((left i v inside other).0, λ l away. (left i v inside other).1)
      ]
    ] in
    let u : Table = record {
      cell = λ i v. if nat_eq i r then (divided v).0 else (picked i v).0;
      basic = λ i. if nat_eq i r then e else t.basic i;
    } in
    let here : (v : ℕ) → u.cell r v ≡ (divided v).0 = λ v. rw (eq-eqb r r refl) refl in
    let there : (i v : ℕ) → (i ≡ r → ⊥) → u.cell i v ≡ (picked i v).0 = λ i v away. rw (ne_eqb i r away) refl in (
      u,
      record {
        enters = enters;
        leaves = leaves;
        divided_form = λ v. subst IsForm (sym (here v)) (divided v).1;
        divided = λ v. subst (λ (c : Fraction). IsQuotient (t.cell r v) (t.cell r e) c) (sym (here v)) (divided v).2;
        taken = λ i v l away.
            subst (λ (y : Fraction). IsLess (t.cell i v) (t.cell i e) y (u.cell i v)) (sym (here v))
            (subst (λ (b : Fraction). IsLess (t.cell i v) (t.cell i e) (divided v).0 b) (sym (there i v away)) ((picked i v).1 l away));
        entered = rw (eq-eqb r r refl) refl;
        stayed = λ i l away. rw (ne_eqb i r away) refl;
      },
    )

-- Where a variable enters, there is a next table or the exchange is wide.
pub next_or_wide : (p : ProgramDef) (k : ℕ) (t : Table) (e : ℕ) → IsProgram p → Reached p k t → IsEntering p t e
    → ((u : Table) × (r : ℕ) × IsExchange p t u e r) ⊎ IsWideExchange p t
next_or_wide p k t e accepted reached enters = elim (leaving_or_wide p k t e accepted reached enters.within) [
  | inr wide ↦ inr (record { entering = e; enters = enters; wide = inl wide })
  | inl leaves ↦
      let r : ℕ = leaves.0 in
      elim (divided_or_wide p k t e r accepted reached leaves.1.least.within leaves.1.least.has) [
        | inr wide ↦ inr (record { entering = e; enters = enters; wide = inr (r, leaves.1, inl wide) })
        | inl divided ↦ elim (left_or_wide p k t e r accepted reached leaves.1.least.within leaves.1.least.has divided) [
          | inr wide ↦ inr (record { entering = e; enters = enters; wide = inr (r, leaves.1, inr wide) })
          | inl left ↦ let next = exchange_of p t e r enters leaves.1 divided left in inl (next.0, r, next.1)
        ]
      ]
]

-- Each variable has a value.
value_among : (w : ℕ) (t : Table) (v k : ℕ) → (f : Fraction) × IsValueOf w t k v f
value_among w t v zero = (whole (pos 0), value_none w t v)
value_among w t v (suc k) = elim (cases_eq (t.basic k) v) [
  | inl here ↦ (t.cell k w, subst (λ (n : ℕ). IsValueOf w t n v (t.cell k w)) (add-one k) (value_here w t k v here))
  | inr other ↦
      let before : (f : Fraction) × IsValueOf w t k v f = value_among w t v k in
      (before.0, subst (λ (n : ℕ). IsValueOf w t n v before.0) (add-one k) (value_more w t k v before.0 other before.1))
]

primal_found : (p : ProgramDef) (t : Table) → (primal : List Fraction) × IsPrimal p t primal
primal_found p t =
    let values : ℕ → Fraction = λ c. (value_among (variables p) t c (height p)).0 in
    let xs = listed Fraction (whole (pos 0)) (columns p) values in (
      xs.0,
      record {
        value_each = xs.1;
        values = λ c l. subst (λ (f : Fraction). IsValueOf (variables p) t (height p) c f) (sym (xs.2 c l))
            (value_among (variables p) t c (height p)).1;
      },
    )

number_found : (l : ℕ) (f : Fraction) → IsForm f → pos 0 ≤ℤ f.num → unsigned_abs f.den ∣ l
    → ((k : ℕ) × (IsScaled l f k) × (k < 2 ^ 63)) ⊎ ((k : ℕ) × (IsScaled l f k) × (2 ^ 63 ≤ k))
number_found l f form above divides =
    let k : ℕ = l / unsigned_abs f.den * unsigned_abs f.num in
    let is : IsScaled l f k = scaled_over l f form above divides in
    elim (cases_lt k (2 ^ 63)) [
      | inl small ↦ inl (k, is, small)
      | inr wide ↦ inr (k, is, wide)
    ]

-- The last table's dual can be written, or its end is wide.
written_or_wide : (p : ProgramDef) (k : ℕ) (t : Table) → IsProgram p → IsExchangeRun p k t
    → ((d : DualDef) × IsWrittenDual p t d) ⊎ IsWideEnd p t
written_or_wide p k t accepted run =
    let xs = listed Fraction (whole (pos 0)) (height p) (dual_at p t) in
    let fs : List Fraction = xs.0 in
    let are : AreDuals p t fs = record { dual_each = xs.1; duals_are = xs.2 } in
    let form : All IsForm fs
    = All-from_get_or IsForm fs (whole (pos 0)) (λ i l.
    let within : i < height p = rw (← xs.1) l in
    let cell : Fraction = objective p t (slack p i) in
    subst IsForm (sym (xs.2 i within))
    (form_of_negated cell.num cell.den (forms p k t accepted run.reached (height p) (slack p i) (omega arith)))) in
    let least : (l : ℕ) × IsLeastCommon fs l = least_exists fs form in
    elim (cases_lt least.0 (2 ^ 63)) [
      | inr wide ↦ inr (record { duals = fs; are_duals = are; common = least.0; least = least.1; wide = inl wide })
      | inl small ↦ elim (all_or_some
          (λ i. (n : ℕ) × (IsScaled least.0 (fraction_at fs i) n) × (n < 2 ^ 63))
          (λ i. (n : ℕ) × (IsScaled least.0 (fraction_at fs i) n) × (2 ^ 63 ≤ n)) (length fs)
          (λ i l. number_found least.0 (fraction_at fs i) (form i (whole (pos 0)) l)
          (duals_not_below p t fs run.last are i (whole (pos 0)) l) (least.1.common i (whole (pos 0)) l))) [
            | inr wide ↦
                inr (record {
                  duals = fs;
                  are_duals = are;
                  common = least.0;
                  least = least.1;
                  wide = inr (wide.0, wide.2.0, wide.1, wide.2.1, wide.2.2);
                })
            | inl all ↦
                let picked : (i : ℕ)
                → (n : ℕ) × (i < length fs → (IsScaled least.0 (fraction_at fs i) n) × (n < 2 ^ 63)) =
                λ i. elim (cases_lt i (length fs)) [
                  | inl inside ↦ ((all i inside).0, λ l. ((all i inside).1, (all i inside).2))
                  | inr past ↦ (0, λ l. absurd (omega (arith, past, l)))
                ] in
                let ns = listed ℕ 0 (length fs) (λ i. (picked i).0) in
                inl (
                  record { den = least.0; num = ns.0 },
                  record {
                    duals = fs;
                    are_duals = are;
                    least = least.1;
                    scaled = record {
                      len = ns.1;
                      each = λ i l.
                          subst (λ (n : ℕ). IsScaled least.0 (fraction_at fs i) n) (sym (ns.2 i l)) ((picked i).1 l).0;
                    };
                    small_den = small;
                    small_num = All-from_get_or (λ n. n < 2 ^ 63) ns.0 0 (λ i l.
                        let within : i < length fs = rw (← ns.1) l in
                        subst (λ (n : ℕ). n < 2 ^ 63) (sym (ns.2 i within)) ((picked i).1 within).1);
                  },
                )
          ]
    ]

end_outcome : (p : ProgramDef) (units k : ℕ) (t : Table) → IsProgram p → IsExchangeRun p k t → k < units → HasOutcome p units
end_outcome p units k t accepted run within = elim (written_or_wide p k t accepted run) [
  | inr wide ↦ inr (inl (record { exchanges = k; table = t; reached = run.reached; wide = inr (within, run, wide) }))
  | inl dual ↦
      let primal : (primal : List Fraction) × IsPrimal p t primal = primal_found p t in
      inl (
        k,
        value_of p t,
        primal.0,
        dual.0,
        record {
          table = t;
          run = run;
          within = within;
          read_off = record { is_value = refl; is_primal = primal.1; is_dual = dual.1 };
        },
      )
]

-- The run goes on from a table, with n units left.
goes_on : (p : ProgramDef) (units n k : ℕ) (t : Table) → IsProgram p → Reached p k t → k + n ≡ units → 0 < n → HasOutcome p units
goes_on p units zero k t accepted reached sum left = absurd (omega arith)
goes_on p units (suc zero) k t accepted reached sum left = elim (entering_or_last p t) [
  | inr last ↦ end_outcome p units k t accepted (record { reached = reached; last = last }) (omega arith)
  | inl entering ↦ inr (inr (inr (k, t, entering.0, sum, reached, entering.1)))
]
goes_on p units (suc (suc n)) k t accepted reached sum left = elim (entering_or_last p t) [
  | inr last ↦ end_outcome p units k t accepted (record { reached = reached; last = last }) (omega arith)
  | inl entering ↦ elim (next_or_wide p k t entering.0 accepted reached entering.1) [
    | inr wide ↦ inr (inl (record { exchanges = k; table = t; reached = reached; wide = inl (omega arith, wide) }))
    | inl next ↦ goes_on p units (suc n) (k + 1) next.0 accepted
        (reached_next p k t next.0 entering.0 next.1 reached next.2) (omega arith) (omega arith)
  ]
]

-- Every run has an outcome.
pub has_outcome : (p : ProgramDef) (units : ℕ) → IsProgram p → HasOutcome p units
has_outcome p units accepted = elim (cases_lt 0 units) [
  | inr none ↦ inr (inr (inl (omega arith)))
  | inl some ↦ goes_on p units units 0 first accepted (record { cells = λ i v l. refl; basis = λ i l. refl }) (omega arith) some
]
  where
    first : Table
    first = record { cell = λ i v. whole (pos (first_number p i v)); basic = λ i. slack p i }
