-- What follows from how the rounds of a source end: the least fitting bounds with optimal duals, or that nothing fits.
use Rattle.std.proofs.Common.{◌≡◌, ℕ, zero, suc, ◌-◌, ◌<◌, ◌≤◌, List, length, refl, sym, subst}
use Rattle.std.proofs.lemmas.List.{length-map}
use Rattle.std.specs.Prelude.{slice_index}
use Rattle.program_form.specs.Certificate.{DualDef, CertificateDef}
use Rattle.program_form.specs.Duals.{IsOptimalDual, dual_total}
use Rattle.program_form.proofs.Duality.{optimum_reached}
use Rattle.exchange_runs.proofs.Finals.{ends_with_dual}
use Rattle.sporadic_model.specs.SetDef.{TaskDef}
use Rattle.program_sources.specs.Recurrence.{SourceDef, IsResponse, response_with}
use Rattle.program_sources.specs.Fitting.{AreFitting, AreBelowAllFitting, AreLeastFitting, ComesUpAbove, tasks_of, latest_of}
use Rattle.program_sources.specs.Valid.{IsValid, AreOptimalDuals, dual_at, value_at}
use Rattle.program_sources.proofs.RecurrenceLaws.{response_comes_up}
use Rattle.response_fixpoint.specs.Rounds.{Schedulable, NotShown, Reaches, EndsIn}
use Rattle.response_fixpoint.specs.Runs.{rounds_of}
use Rattle.response_fixpoint.specs.Answers.{IsBest, IsSmallDual}
use Rattle.response_fixpoint.proofs.LeastFixpoint.{below_next, none_fits, least_fits}
use Rattle.response_fixpoint.proofs.LeastExists.{costs_of, costs_below}
use Rattle.response_fixpoint.proofs.RoundLaws.{passed_task, values_length, duals_length}
use Rattle.response_fixpoint.proofs.RunLaws.{round_value}

-- What is known of a vector that is reached: it has a place for each task, and is below every fitting vector.
record IsLow (f : SourceDef) (r : List ℕ) : Type 0 where
  one_each : length r ≡ tasks_of f
  below : AreBelowAllFitting f r

reached_low : (f : SourceDef) (allowance k spent : ℕ) (r : List ℕ) → ComesUpAbove f → Reaches (rounds_of f) allowance k spent r → IsLow f r
reached_low f allowance zero spent r above (none, first) =
    let low : IsLow f (costs_of f) = record { one_each = length-map f.set.tasks (λ (t : TaskDef). t.cost); below = costs_below f } in
    subst (λ (q : List ℕ). IsLow f q) (sym first) low
reached_low f allowance (suc k) spent r above (before, q, found, reached, passed, is, differs, sum) =
    let low = reached_low f allowance k before q above reached in
    let next : IsLow f found.values = record {
      one_each = values_length (rounds_of f) q (allowance - before) (tasks_of f) found passed;
      below = below_next f q found.values above low.below
          (λ i here. response_comes_up f q i (slice_index found.values i) (round_value f q (allowance - before) found passed i here).0);
    } in
    subst (λ (v : List ℕ). IsLow f v) (sym is) next

-- Rounds that end in Schedulable give the least bounds that fit.
pub schedulable_least : (f : SourceDef) (allowance : ℕ) (bounds : List ℕ) (duals : List DualDef) → ComesUpAbove f
    → EndsIn (rounds_of f) allowance (Schedulable bounds duals) → AreLeastFitting f bounds
schedulable_least f allowance bounds duals above (left, found, comes, same, rest) =
    let low = reached_low f allowance comes.rounds comes.spent bounds above comes.reached in
    let value = round_value f bounds (allowance - comes.spent) found comes.passed in
    least_fits f bounds low.one_each low.below
    (λ i here. subst (λ (v : List ℕ). IsResponse f bounds i (slice_index v i)) same (value i here).0)
    (λ i here. subst (λ (v : List ℕ). slice_index v i ≤ latest_of f i) same (value i here).1)

-- Their duals are optimal.
pub schedulable_optimal : (f : SourceDef) (allowance : ℕ) (bounds : List ℕ) (duals : List DualDef)
    → EndsIn (rounds_of f) allowance (Schedulable bounds duals) → AreOptimalDuals f bounds duals
schedulable_optimal f allowance bounds duals (left, found, comes, same, rest) =
    let n = tasks_of f in
    let first = allowance - comes.spent in
    let mine : AreOptimalDuals f bounds found.duals = record {
      one_each = duals_length (rounds_of f) bounds first n found comes.passed;
      optimal = λ i here.
          let t = passed_task (rounds_of f) bounds first n found comes.passed i here in
          let ends = t.run.ends in
          subst (λ (d : DualDef). IsOptimalDual (f.program i bounds) d) (sym t.dual_here)
          (ends_with_dual (f.program i bounds) (first - t.before.used) ends.exchanges ends.optimum ends.best t.dual ends.ends);
    } in
    subst (λ (ds : List DualDef). AreOptimalDuals f bounds ds) rest mine

-- And their numbers are small.
pub schedulable_small : (f : SourceDef) (allowance : ℕ) (bounds : List ℕ) (duals : List DualDef)
    → EndsIn (rounds_of f) allowance (Schedulable bounds duals) → (i : ℕ) → i < tasks_of f → IsSmallDual (dual_at duals i)
schedulable_small f allowance bounds duals (left, found, comes, same, rest) i here =
    let t = passed_task (rounds_of f) bounds (allowance - comes.spent) (tasks_of f) found comes.passed i here in
    let written = t.run.ends.ends.read_off.is_dual in
    let small : IsSmallDual t.dual = record { den = written.small_den; num = written.small_num } in
    subst (λ (ds : List DualDef). IsSmallDual (dual_at ds i)) rest (subst (λ (d : DualDef). IsSmallDual d) (sym t.dual_here) small)

-- Fitting bounds with optimal duals are a valid certificate.
pub optimal_valid : (f : SourceDef) (bounds : List ℕ) (duals : List DualDef) → AreFitting f bounds → AreOptimalDuals f bounds duals
    → IsValid f (record { bounds = bounds; duals = duals })
optimal_valid f bounds duals fits best = record {
  bound_each = fits.one_each;
  dual_each = best.one_each;
  proved = λ i here.
      let p = f.program i bounds in
      let optimal : IsOptimalDual p (dual_at duals i) = best.optimal i here in
      let reached = optimum_reached p (dual_total p (λ r. slice_index (dual_at duals i).num r)) (dual_at duals i).den optimal.optimum in
      let c : CertificateDef = record { bounds = bounds; duals = duals } in
      record {
        within = fits.within i here;
        feasible = optimal.feasible;
        enough = fits.kept i (response_with f bounds i (value_at f c i)) here
            (record { blocking = value_at f c i; reached = reached.reached; response = refl });
      };
}

-- All of these together.
pub schedulable_best : (f : SourceDef) (allowance : ℕ) (bounds : List ℕ) (duals : List DualDef) → ComesUpAbove f
    → EndsIn (rounds_of f) allowance (Schedulable bounds duals) → IsBest f (record { bounds = bounds; duals = duals })
schedulable_best f allowance bounds duals above ends =
    let least = schedulable_least f allowance bounds duals above ends in
    let optimal = schedulable_optimal f allowance bounds duals ends in
    record {
      least = least;
      optimal = optimal;
      valid = optimal_valid f bounds duals least.fitting optimal;
      small = schedulable_small f allowance bounds duals ends;
    }

-- Rounds that end in NotShown show that nothing fits.
pub not_shown_none : (f : SourceDef) (allowance i v : ℕ) → ComesUpAbove f
    → EndsIn (rounds_of f) allowance (NotShown i v) → (s : List ℕ) → AreFitting f s → ⊥
not_shown_none f allowance i v above (r, left, found, used, dual, here, comes, run, passes) =
    let low = reached_low f allowance comes.rounds comes.spent r above comes.reached in
    none_fits f r i v above low.below here (response_comes_up f r i v run.ends.response) passes
