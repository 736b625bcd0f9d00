-- The exchange run of a program without columns: it ends at its first table, with one unit.
use Rattle.std.proofs.Common.{◌≡◌, ℕ, ◌<◌, ◌^◌, List, [], replicate, pos, ◌≤ℤ◌, unsigned_abs, refl, sym, ◌∙◌, ap, subst, arith}
use Rattle.std.specs.Int.{◌∣◌}
use Rattle.std.specs.Prelude.{slice_index}
use Rattle.std.proofs.Math.Nat.{one-dvd}
use Rattle.std.proofs.lemmas.Int.{ints}
use Rattle.std.proofs.lemmas.List.{get_or-replicate, length-replicate}
use Rattle.std.proofs.lemmas.List.Elements.{All-replicate}
use Rattle.fraction128.specs.Fraction.{Fraction, whole}
use Rattle.fraction128.specs.Scaling.{IsLeastCommon, AreScaled, fraction_at}
use Rattle.program_form.specs.Program.{ProgramDef, IsProgram, columns, height}
use Rattle.program_form.specs.Certificate.{DualDef}
use Rattle.exchange_runs.specs.Table.{Table, variables, slack, first_entries, first_limit, first_number}
use Rattle.exchange_runs.specs.Exchange.{IsLast}
use Rattle.exchange_runs.specs.Readings.{AreDuals, minus, value_of}
use Rattle.exchange_runs.specs.Outcomes.{EndsWithin, IsWideWithin, NeedsMoreThan}
use Rattle.exchange_runs.proofs.FirstTable.{first_of-other}
use Rattle.exchange_runs.proofs.Finals.{one_answer, ends_not_wide, ends_not_more}

-- The first table of a run.
abbrev pub first_table : ProgramDef → Table
first_table p = record { cell = λ i v. whole (pos (first_number p i v)); basic = λ i. slack p i }

-- The objective row holds no number above zero.
no_cost : (p : ProgramDef) (v : ℕ) → columns p ≡ 0 → v < variables p → first_number p (height p) v ≡ 0
no_cost p v none here =
    first_of-other (columns p) (first_entries p (height p)) (slack p (height p)) (variables p)
    (first_limit p (height p)) v (omega (arith, none)) here (λ is. absurd (omega (arith, is, here)))

is_last : (p : ProgramDef) → columns p ≡ 0 → IsLast p (first_table p)
is_last p none = record { none = λ v here. subst (λ (k : ℕ). pos k ≤ℤ pos 0) (sym (no_cost p v none here)) (omega (arith, ints)) }

-- Its dual has no numerator above zero.
abbrev pub empty_dual : ProgramDef → DualDef
empty_dual p = record { den = 1; num = replicate (height p) 0 }

are_duals : (p : ProgramDef) → columns p ≡ 0 → AreDuals p (first_table p) (replicate (height p) (whole (pos 0)))
are_duals p none = record {
  dual_each = length-replicate (height p) (whole (pos 0));
  duals_are = λ r here.
      let zero : first_number p (height p) (slack p r) ≡ 0 = no_cost p (slack p r) none (omega (arith, here)) in
      get_or-replicate (height p) r (whole (pos 0)) (whole (pos 0)) here ∙ sym (ap (λ (k : ℕ). minus (whole (pos k))) zero);
}

least_common : (n : ℕ) → IsLeastCommon (replicate n (whole (pos 0))) 1
least_common n = record {
  positive = omega arith;
  common = All-replicate (λ f. unsigned_abs f.den ∣ 1) n (whole (pos 0)) (one-dvd 1);
  least = λ k common. one-dvd k;
}

are_scaled : (n : ℕ) → AreScaled 1 (replicate n (whole (pos 0))) (replicate n 0)
are_scaled n = record {
  len = length-replicate n 0 ∙ sym (length-replicate n (whole (pos 0)));
  each = λ i l.
      let here : i < n = subst (λ (k : ℕ). i < k) (length-replicate n (whole (pos 0))) l in
      let nothing : ℕ = 0 in
      let one : fraction_at (replicate n (whole (pos 0))) i ≡ whole (pos 0) = get_or-replicate n i (whole (pos 0)) (whole (pos 0)) here in
      let other : slice_index (replicate n 0) i ≡ 0 = get_or-replicate n i nothing nothing here in
      rw (one, other) (record { same = refl });
}

-- The run ends with any units at all.
pub empty_end : (p : ProgramDef) (units : ℕ) → columns p ≡ 0 → 0 < units
    → EndsWithin p units 0 (value_of p (first_table p)) [] (empty_dual p)
empty_end p units none some = record {
  table = first_table p;
  run = record { reached = record { cells = λ i v l. refl; basis = λ i l. refl }; last = is_last p none };
  within = some;
  read_off = record {
    is_value = refl;
    is_primal = record { value_each = sym none; values = λ c here. absurd (omega (arith, none, here)) };
    is_dual = record {
      duals = replicate (height p) (whole (pos 0));
      are_duals = are_duals p none;
      least = least_common (height p);
      scaled = are_scaled (height p);
      small_den = omega arith;
      small_num = All-replicate (λ k. k < 2 ^ 63) (height p) 0 (omega arith);
    };
  };
}

-- So such a run makes no exchange, is never wide, and never needs more than one unit.
pub no_exchange : (p : ProgramDef) (units k : ℕ) (value : Fraction) (primal : List Fraction) (d : DualDef) → IsProgram p → columns p ≡ 0
    → EndsWithin p units k value primal d → k ≡ 0
no_exchange p units k value primal d is none ends =
    (one_answer p units 1 k 0 value (value_of p (first_table p)) primal [] d (empty_dual p) is ends (empty_end p 1 none (omega arith))).0

pub never_wide : (p : ProgramDef) (units : ℕ) → IsProgram p → columns p ≡ 0 → IsWideWithin p units → ⊥
never_wide p units is none wide =
    ends_not_wide p 1 units 0 (value_of p (first_table p)) [] (empty_dual p) is (empty_end p 1 none (omega arith)) wide

pub no_more : (p : ProgramDef) (units : ℕ) → IsProgram p → columns p ≡ 0 → 0 < units → NeedsMoreThan p units → ⊥
no_more p units is none some more =
    ends_not_more p units 0 (value_of p (first_table p)) [] (empty_dual p) is (empty_end p units none some) more
