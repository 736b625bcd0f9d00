-- If the analysis ends with a certificate, no task needs more than 63 bits at any vector of the recurrence's rounds.
use Rattle.std.proofs.Common.{◌≡◌, ◌∙◌, ℕ, zero, suc, ◌+◌, ◌-◌, ◌*◌, ◌/◌, ◌^◌, ◌<◌, ◌≤◌, List, length, slice_index, inl, inr}
use Rattle.std.proofs.Common.{pos, ◌<ℤ◌, unsigned_abs, sym, ap, subst, arith}
use Rattle.std.proofs.Math.Nat.{div-le_self, dvd-mul_left, le_of_dvd}
use Rattle.std.proofs.lemmas.Bool.{cases_lt}
use Rattle.std.proofs.lemmas.Int.{ints, unsigned_abs-mul}
use Rattle.std.proofs.lemmas.List.Elements.{All-from_get_or}
use Rattle.std.proofs.lemmas.Nat.Gcd.{IsGcd-swap}
use Rattle.std.specs.Int.{◌∣◌}
use Rattle.number_laws.proofs.Divisors.{euclid, gcd_of_coprime}
use Rattle.fraction128.specs.Fraction.{Fraction, IsForm, IsFloor, whole}
use Rattle.fraction128.specs.Scaling.{IsScaled}
use Rattle.fraction128.proofs.Forms.{form_of_negated}
use Rattle.program_form.specs.Certificate.{DualDef}
use Rattle.program_form.specs.Duals.{dual_value}
use Rattle.program_form.specs.Points.{IsGreatestReached}
use Rattle.program_form.specs.Program.{ProgramDef, IsProgram, height}
use Rattle.program_form.proofs.Duality.{optimum_reached, one_greatest}
use Rattle.exchange_runs.specs.Feasible.{IsOptimumValue}
use Rattle.exchange_runs.specs.Readings.{minus, value_of, dual_at, IsWrittenDual}
use Rattle.exchange_runs.specs.Run.{IsExchangeRun}
use Rattle.exchange_runs.specs.Table.{Table, variables, slack, objective}
use Rattle.exchange_runs.proofs.Finals.{value_is_best}
use Rattle.exchange_runs.proofs.FreeRuns.{freely}
use Rattle.exchange_runs.proofs.Once.{forms}
use Rattle.free_search.specs.Ends.{IsRoundedUp, IsExactDual, IsFoundDual, HasGreatDual, IsEndAfter}
use Rattle.program_sources.specs.Recurrence.{SourceDef}
use Rattle.program_sources.specs.Fitting.{tasks_of}
use Rattle.response_fixpoint.specs.Rounds.{Schedulable, Found, Passes, Reaches, EndsIn}
use Rattle.response_fixpoint.specs.Runs.{rounds_of}
use Rattle.response_fixpoint.proofs.OneEnd.{passed_round}
use Rattle.response_fixpoint.proofs.RoundLaws.{passed_task, values_length}
use Rattle.response_fixpoint.proofs.RunLaws.{round_value}
use Rattle.settling.specs.Ways.{IsAfterRounds, AreResponses, EndsTooGreat, LosesWhole, NeedsMoreBits}
use Rattle.settling.proofs.WayLaws.{rounds_once, stays_fixed}

-- What is known of any two ends of a program's run over unbounded fractions. If a dual is found at one, no multiplier of the other is too
-- great. If one has an exact dual, the dual that is found at the other keeps the whole part of the optimum. And the whole part of the value
-- is the greatest that is reached.
pub record OneEnd : Type 0 where
  pub fits : (p : ProgramDef) (k j : ℕ) (t u : Table) (d : DualDef) → IsEndAfter p k t → IsEndAfter p j u → IsFoundDual p t d
      → HasGreatDual p u 1 → ⊥
  pub keeps : (p : ProgramDef) (k j : ℕ) (t u : Table) (w d : DualDef) → IsEndAfter p k t → IsEndAfter p j u → IsExactDual p t w
      → IsFoundDual p u d → IsGreatestReached p (dual_value p d.den (λ r. slice_index d.num r))
  pub greatest : (p : ProgramDef) (k : ℕ) (t : Table) (n : ℕ) → IsEndAfter p k t → IsFloor (value_of p t) (pos n) → IsGreatestReached p n

-- Is t the end of a program's bounded run, with the dual that is written there?
record IsBoundedEnd (p : ProgramDef) (k : ℕ) (t : Table) (d : DualDef) : Type 0 where
  is_program : IsProgram p
  run : IsExchangeRun p k t
  written : IsWrittenDual p t d

-- It is an end over unbounded fractions too.
free_end : (p : ProgramDef) (k : ℕ) (t : Table) (d : DualDef) → IsBoundedEnd p k t d → IsEndAfter p k t
free_end p k t d end = record { reached = freely p k t end.run.reached; last = end.run.last }

-- What is read in the objective row has a form.
objective_form : (p : ProgramDef) (k : ℕ) (t : Table) (d : DualDef) (v : ℕ) → IsBoundedEnd p k t d → IsForm (minus (objective p t v))
objective_form p k t d v end =
    let cell : Fraction = objective p t v in
    form_of_negated cell.num cell.den (forms p k t end.is_program end.run.reached (height p) v (omega arith))

-- What is exact is rounded up.
exact_up : (f : Fraction) (m k : ℕ) → pos 0 <ℤ f.den → IsScaled m f k → IsRoundedUp f m k
exact_up f m k positive is = record {
  not_below = omega (arith, ints, is.same);
  least = omega (arith, ints, is.same, positive);
}

-- The denominator of a fraction in lowest terms divides each one over which the fraction is a whole number.
divides : (f : Fraction) (l k : ℕ) → IsForm f → IsScaled l f k → unsigned_abs f.den ∣ l
divides f l k form is =
    let num : ℕ = unsigned_abs f.num in
    let den : ℕ = unsigned_abs f.den in
    let sizes : k * den ≡ num * l =
    sym (unsigned_abs-mul (pos k) f.den) ∙ (ap unsigned_abs is.same ∙ unsigned_abs-mul f.num (pos l)) in
    euclid den num l (IsGcd-swap num den 1 (gcd_of_coprime num den form.lowest))
    (subst (λ (n : ℕ). den ∣ n) sizes (dvd-mul_left den k))

-- The dual that a bounded run writes is exact.
written_number : (p : ProgramDef) (t : Table) (d : DualDef) (r : ℕ) → IsWrittenDual p t d → r < height p
    → IsScaled d.den (dual_at p t r) (slice_index d.num r)
written_number p t d r written l =
    subst (λ (f : Fraction). IsScaled d.den f (slice_index d.num r)) (written.are_duals.duals_are r l)
    (written.scaled.each r (rw written.are_duals.dual_each l))

written_is_exact : (p : ProgramDef) (k : ℕ) (t : Table) (d : DualDef) → IsBoundedEnd p k t d → IsExactDual p t d
written_is_exact p k t d end =
    let written : IsWrittenDual p t d = end.written in
    let number_each : length d.num ≡ height p = written.scaled.len ∙ written.are_duals.dual_each in
    record {
      rounded = record {
        number_each = number_each;
        positive = omega (arith, written.least.positive);
        small_den = written.small_den;
        rounded = λ r l. exact_up (dual_at p t r) d.den (slice_index d.num r) (objective_form p k t d (slack p r) end).positive
            (written_number p t d r written l);
        small = λ r l. written.small_num r 0 (rw number_each l);
      };
      exact = λ r l. written_number p t d r written l;
    }

-- It is over the least denominator. So it is the dual that a search finds.
least_written : (p : ProgramDef) (k : ℕ) (t : Table) (d other : DualDef) → IsBoundedEnd p k t d → IsExactDual p t other
    → d.den ≤ other.den
least_written p k t d other end exact =
    let written : IsWrittenDual p t d = end.written in
    le_of_dvd exact.rounded.positive (written.least.least other.den
    (All-from_get_or (λ f. unsigned_abs f.den ∣ other.den) written.duals (whole (pos 0)) (λ r l.
    let within : r < height p = rw (← written.are_duals.dual_each) l in
    subst (λ (f : Fraction). unsigned_abs f.den ∣ other.den) (sym (written.are_duals.duals_are r within))
    (divides (dual_at p t r) other.den (slice_index other.num r) (objective_form p k t d (slack p r) end) (exact.exact r within)))))

written_is_found : (p : ProgramDef) (k : ℕ) (t : Table) (d : DualDef) → IsBoundedEnd p k t d → IsFoundDual p t d
written_is_found p k t d end = inl record {
  exact = written_is_exact p k t d end;
  least = λ other exact. least_written p k t d other end exact;
}

-- The greatest whole number that is reached has 63 bits.
small_greatest : (p : ProgramDef) (k : ℕ) (t : Table) (d : DualDef) (n : ℕ) → IsBoundedEnd p k t d → IsGreatestReached p n → n < 2 ^ 63
small_greatest p k t d n end greatest =
    let f : Fraction = value_of p t in
    let best : IsOptimumValue p f = value_is_best p k t end.run in
    let own : IsGreatestReached p (unsigned_abs f.num / unsigned_abs f.den) =
    optimum_reached p (unsigned_abs f.num) (unsigned_abs f.den) best.optimum in
    let same : n ≡ unsigned_abs f.num / unsigned_abs f.den = one_greatest p n (unsigned_abs f.num / unsigned_abs f.den) greatest own in
    let most : unsigned_abs f.num / unsigned_abs f.den ≤ unsigned_abs f.num = div-le_self (unsigned_abs f.num) (unsigned_abs f.den) in
    let small : unsigned_abs f.num < 2 ^ 63 = (objective_form p k t d (variables p) end).small_num in
    omega (arith, same, most, small)

no_great_value : (p : ProgramDef) (k j : ℕ) (t u : Table) (d : DualDef) (n : ℕ) → OneEnd → IsBoundedEnd p k t d → IsEndAfter p j u
    → IsFloor (value_of p u) (pos n) → 2 ^ 63 ≤ n → ⊥
no_great_value p k j t u d n one end other floor great =
    let small : n < 2 ^ 63 = small_greatest p k t d n end (one.greatest p j u n other floor) in
    omega (arith, small, great)

-- A program whose bounded run ends has no end that is too great.
not_too_great : (p : ProgramDef) (k : ℕ) (t : Table) (d : DualDef) → OneEnd → IsBoundedEnd p k t d → EndsTooGreat p → ⊥
not_too_great p k t d one end (j, u, other, inl (inl great)) =
    one.fits p k j t u d (free_end p k t d end) other (written_is_found p k t d end) great
not_too_great p k t d one end (j, u, other, inl (inr (n, floor, great))) =
    no_great_value p k j t u d n one end other floor (omega (arith, great))
not_too_great p k t d one end (j, u, other, inr (n, floor, great)) = no_great_value p k j t u d n one end other floor great

-- And no dual of its end loses the whole part of the optimum.
loses_nothing : (p : ProgramDef) (k : ℕ) (t : Table) (d : DualDef) → OneEnd → IsBoundedEnd p k t d → LosesWhole p → ⊥
loses_nothing p k t d one end loses =
    let other = loses.of_end in
    let value : ℕ = dual_value p loses.dual.den (λ r. slice_index loses.dual.num r) in
    let kept : IsGreatestReached p value =
    one.keeps p k other.0 t other.1 d loses.dual (free_end p k t d end) other.2 (written_is_exact p k t d end) other.3 in
    omega (arith, one_greatest p loses.blocking value loses.greatest kept, loses.above)

-- What a round gives is the next vector of the recurrence.
round_responses : (f : SourceDef) (q : List ℕ) (left : ℕ) (found : Found) → Passes (rounds_of f) q left (tasks_of f) found
    → AreResponses f q found.values
round_responses f q left found passed = record {
  one_each = values_length (rounds_of f) q left (tasks_of f) found passed;
  each = λ i here. (round_value f q left found passed i here).0;
}

-- The vector of a round of the analysis is that of the recurrence.
vector_reached : (f : SourceDef) (a k spent : ℕ) (r : List ℕ) → Reaches (rounds_of f) a k spent r → IsAfterRounds f k r
vector_reached f a zero spent r (nothing, first) = first
vector_reached f a (suc k) spent r (before, q, found, reached, passed, is, differs, sum) = (
  q,
  vector_reached f a k before q reached,
  subst (λ (x : List ℕ). AreResponses f q x) (sym is) (round_responses f q (a - before) found passed),
)

-- Do all tasks pass in some round at the vector v?
record IsPassed (f : SourceDef) (v : List ℕ) : Type 0 where
  left : ℕ
  found : Found
  passed : Passes (rounds_of f) v left (tasks_of f) found

-- The analysis passes each vector of the recurrence's rounds.
passes_each : (f : SourceDef) (a : ℕ) (bounds : List ℕ) (duals : List DualDef) (j : ℕ) (v : List ℕ)
    → EndsIn (rounds_of f) a (Schedulable bounds duals) → IsAfterRounds f j v → IsPassed f v
passes_each f a bounds duals j v (left, found, comes, same, rest) after = elim (cases_lt j comes.rounds) [
  | inl earlier ↦
      let round = passed_round (rounds_of f) a comes.rounds comes.spent bounds comes.reached j earlier in
      let vector : v ≡ round.vector = rounds_once f j v round.vector after (vector_reached f a j round.spent round.vector round.reached) in
      let here : IsPassed f round.vector = record { left = a - round.spent; found = round.found; passed = round.passed } in
      subst (IsPassed f) (sym vector) here
  | inr later ↦
      let sum : j ≡ j - comes.rounds + comes.rounds = omega (arith, later) in
      let fixed : AreResponses f bounds bounds =
      subst (λ (x : List ℕ). AreResponses f bounds x) same (round_responses f bounds (a - comes.spent) found comes.passed) in
      let vector : v ≡ bounds = stays_fixed f comes.rounds (j - comes.rounds) bounds v
      (vector_reached f a comes.rounds comes.spent bounds comes.reached) fixed
      (subst (λ (n : ℕ). IsAfterRounds f n v) sum after) in
      let here : IsPassed f bounds = record { left = a - comes.spent; found = found; passed = comes.passed } in
      subst (IsPassed f) (sym vector) here
]

-- So each task's program there has a bounded run that ends.
pub analysis_needs_no_more : (f : SourceDef) (allowance : ℕ) (bounds : List ℕ) (duals : List DualDef) → OneEnd
    → EndsIn (rounds_of f) allowance (Schedulable bounds duals) → (i : ℕ) → NeedsMoreBits f i → ⊥
analysis_needs_no_more f allowance bounds duals one ends i (j, v, after, here, needs) =
    let p : ProgramDef = f.program i v in
    let round : IsPassed f v = passes_each f allowance bounds duals j v ends after in
    let task = passed_task (rounds_of f) v round.left (tasks_of f) round.found round.passed i here in
    let k : ℕ = task.run.ends.exchanges in
    let t : Table = task.run.ends.ends.table in
    let end : IsBoundedEnd p k t task.dual =
    record { is_program = task.run.is_program; run = task.run.ends.ends.run; written = task.run.ends.ends.read_off.is_dual } in
    elim needs [ inl great ↦ not_too_great p k t task.dual one end great | inr loses ↦ loses_nothing p k t task.dual one end loses.1 ]
