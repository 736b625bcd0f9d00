-- The recurrence's rounds from the costs on, and where a walk with exact points stops.
use Rattle.std.proofs.Common.{◌≡◌, ◌∙◌, ℕ, zero, suc, ◌+◌, ◌<◌, ◌≤◌, List, length, refl, sym, ap, subst, arith}
use Rattle.std.specs.Prelude.{slice_index, slice_get, Some}
use Rattle.std.proofs.lemmas.Grind.{same_number_lists}
use Rattle.sporadic_model.specs.SetDef.{task_at}
use Rattle.sporadic_model.specs.Bounds.{AtMost, IsInRange}
use Rattle.program_sources.specs.Recurrence.{SourceDef, IsResponse, response_with}
use Rattle.program_sources.specs.Fitting.{AreBelowAllFitting, AreLeastFitting, ComesUpAbove, tasks_of}
use Rattle.program_sources.proofs.RecurrenceLaws.{one_response, response_comes_up, response_is_greatest}
use Rattle.response_fixpoint.proofs.LeastExists.{cost_at, cost_below}
use Rattle.settling.specs.Rising.{AreFoundAt, AreNextBounds}
use Rattle.settling.specs.Ways.{AreResponses, IsAfterRounds}
use Rattle.settling.specs.declared.finding.Points.TheVariants.{Exact}
use Rattle.settling.specs.declared.reached.Reached.{Reached}
use Rattle.settling.proofs.RiseLaws.{found_there, found_at}

-- The recurrence never falls on its way from the costs.
pub way_rises : (f : SourceDef) (k : ℕ) (v : List ℕ) → ComesUpAbove f → IsAfterRounds f k v → (i w : ℕ) → i < tasks_of f
    → IsResponse f v i w → slice_index v i ≤ w
way_rises f zero v above first i w here is =
    let at : slice_index v i ≡ (task_at f.set i).cost = ap (λ (u : List ℕ). slice_index u i) first ∙ cost_at f i here in
    omega (arith, at, cost_below f v i w is)
way_rises f (suc k) v above (before, way, are) i w here is =
    let most : AtMost (tasks_of f) before v = λ j there. way_rises f k before above way j (slice_index v j) there (are.each j there) in
    let up = above before v i (slice_index v i) here most (response_comes_up f before i (slice_index v i) (are.each i here)) in
    let within : up.0 ≤ w = response_is_greatest f v i w up.0 is up.1 in
    omega (arith, within, up.2)

-- Its rounds give one vector each.
same_responses : (f : SourceDef) (u v w : List ℕ) → AreResponses f u v → AreResponses f u w → v ≡ w
same_responses f u v w one two = same_number_lists v w (one.one_each ∙ sym two.one_each) (λ i here.
    let within : i < tasks_of f = rw (← one.one_each) here in
    one_response f u i (slice_index v i) (slice_index w i) (one.each i within) (two.each i within))

pub rounds_once : (f : SourceDef) (k : ℕ) (v w : List ℕ) → IsAfterRounds f k v → IsAfterRounds f k w → v ≡ w
rounds_once f zero v w one two = one ∙ sym two
rounds_once f (suc k) v w (u, way, are) (x, other, too) =
    let same : x ≡ u = rounds_once f k x u other way in
    same_responses f u v w are (subst (λ (y : List ℕ). AreResponses f y w) same too)

-- A vector that is its own next one stays.
pub stays_fixed : (f : SourceDef) (k n : ℕ) (v w : List ℕ) → IsAfterRounds f k v → AreResponses f v v → IsAfterRounds f (n + k) w → w ≡ v
stays_fixed f k zero v w way fixed later =
    let same : 0 + k ≡ k = omega arith in rounds_once f k w v (subst (λ (n : ℕ). IsAfterRounds f n w) same later) way
stays_fixed f k (suc n) v w way fixed later =
    let count : suc n + k ≡ suc (n + k) = omega arith in
    let on : IsAfterRounds f (suc (n + k)) w = subst (λ (m : ℕ). IsAfterRounds f m w) count later in
    stays_next f k n v w on.0 fixed on.2 (stays_fixed f k n v on.0 way fixed on.1)
  where
    stays_next : (f : SourceDef) (k n : ℕ) (v w u : List ℕ) → AreResponses f v v → AreResponses f u w → u ≡ v → w ≡ v
    stays_next f k n v w u fixed are same = same_responses f v w v (subst (λ (y : List ℕ). AreResponses f y w) same are) fixed

-- What was found with exact points gives the recurrence's value.
pub response_of : (f : SourceDef) (v : List ℕ) (found : List Reached) (i : ℕ) (r : Reached) → AreFoundAt Exact f v found
    → slice_get found i ≡ Some r → IsResponse f v i (response_with f v i r.ticks)
response_of f v found i r all at = record {
  blocking = r.ticks;
  greatest = (found_at Exact f v found i r all at).greatest refl;
  response = refl;
}

-- Bounds that don't rise any more are the least that fit.
pub fixed_are_least : (f : SourceDef) (v : List ℕ) (found : List Reached) → IsInRange f.set v → AreBelowAllFitting f v
    → AreFoundAt Exact f v found → length found ≡ tasks_of f → AreNextBounds f v (tasks_of f) found v → AreLeastFitting f v
fixed_are_least f v found range below all size are = record {
  fitting = record {
    one_each = range.one_each;
    kept = λ i w here comes.
        let r = found_there found i (tasks_of f) size here in
        let value : IsResponse f v i (response_with f v i r.0.ticks) = response_of f v found i r.0 all r.1 in
        let most : w ≤ response_with f v i r.0.ticks = response_is_greatest f v i (response_with f v i r.0.ticks) w value comes in
        omega (arith, most, (are.each i r.0 here r.1).greater);
    within = range.to_latest;
  };
  least = below;
}
