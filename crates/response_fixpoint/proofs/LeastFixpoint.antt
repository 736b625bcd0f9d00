-- The least fixpoint of a monotone recurrence: what stays below every fitting vector, and what fits.
use Rattle.std.proofs.Common.{◌≡◌, ℕ, zero, suc, ◌+◌, ◌<◌, ◌≤◌, List, length, sym, subst, arith, inl, inr}
use Rattle.std.proofs.lemmas.Bool.{cases_lt}
use Rattle.std.specs.Prelude.{slice_index}
use Rattle.sporadic_model.specs.Bounds.{AtMost}
use Rattle.program_sources.specs.Recurrence.{SourceDef, ComesUp, IsResponse}
use Rattle.program_sources.specs.Fitting.{AreFitting, AreBelowAllFitting, AreLeastFitting, NeverFalls, ComesUpAbove, tasks_of, latest_of}
use Rattle.program_sources.proofs.RecurrenceLaws.{response_comes_up, response_is_greatest}
use Rattle.response_fixpoint.proofs.VectorLaws.{total, total_rises, same_total}

-- What comes up at a vector below all fitting ones is below them too.
pub below_next : (f : SourceDef) (r next : List ℕ) → ComesUpAbove f → AreBelowAllFitting f r
    → ((i : ℕ) → i < tasks_of f → ComesUp f r i (slice_index next i)) → AreBelowAllFitting f next
below_next f r next above below step = λ s fits i here.
    let up = above r s i (slice_index next i) here (below s fits) (step i here) in
    let kept : up.0 ≤ slice_index s i = fits.kept i up.0 here up.1 in
    let least : slice_index next i ≤ up.0 = up.2 in
    omega (arith, kept, least)

-- If what comes up at a vector below all fitting ones passes the latest bound, nothing fits.
pub none_fits : (f : SourceDef) (r : List ℕ) (i v : ℕ) → ComesUpAbove f → AreBelowAllFitting f r
    → i < tasks_of f → ComesUp f r i v → latest_of f i < v → (s : List ℕ) → AreFitting f s → ⊥
none_fits f r i v above below here comes passes s fits =
    let up = above r s i v here (below s fits) comes in
    let kept : up.0 ≤ slice_index s i = fits.kept i up.0 here up.1 in
    let least : v ≤ up.0 = up.2 in
    let within : slice_index s i ≤ latest_of f i = fits.within i here in
    absurd (omega (arith, kept, least, within, passes))

-- Take a vector that is below all fitting ones, is within the latest bounds and is its own next vector. It is the least that fits.
pub least_fits : (f : SourceDef) (r : List ℕ) → length r ≡ tasks_of f → AreBelowAllFitting f r
    → ((i : ℕ) → i < tasks_of f → IsResponse f r i (slice_index r i)) → ((i : ℕ) → i < tasks_of f → slice_index r i ≤ latest_of f i)
    → AreLeastFitting f r
least_fits f r one_each below step within = record {
  fitting = record {
    one_each = one_each;
    kept = λ i v here up. response_is_greatest f r i (slice_index r i) v (step i here) up;
    within = within;
  };
  least = below;
}

-- Does `next` give the recurrence's values at each vector?
abbrev pub GivesNext : SourceDef → (List ℕ → List ℕ) → Type 0
GivesNext f next = (r : List ℕ) → (length (next r) ≡ tasks_of f) × ((i : ℕ) → i < tasks_of f → IsResponse f r i (slice_index (next r) i))

-- If something fits, there is a least vector that fits. The vectors that `next` gives, from one below all fitting vectors on, rise and
-- stay below the fitting one. So one of them is its own next vector.
pub least_from : (f : SourceDef) (next : List ℕ → List ℕ) → ComesUpAbove f → NeverFalls f → GivesNext f next
    → (s : List ℕ) → AreFitting f s
    → (fuel : ℕ) (r : List ℕ) → length r ≡ tasks_of f → AreBelowAllFitting f r → AtMost (tasks_of f) r (next r)
    → total (tasks_of f) s ≤ fuel + total (tasks_of f) r
    → (b : List ℕ) × AreLeastFitting f b
least_from f next above monotone steps s fits fuel r one_each below rises enough = go fuel r one_each below rises enough where
  settled : (r : List ℕ) → length r ≡ tasks_of f → AreBelowAllFitting f r → AtMost (tasks_of f) r (next r)
      → total (tasks_of f) (next r) ≤ total (tasks_of f) r → (b : List ℕ) × AreLeastFitting f b
  settled r one_each below rises same =
      let step = steps r in
      let at : (i : ℕ) → i < tasks_of f → slice_index r i ≡ slice_index (next r) i = same_total (tasks_of f) r (next r) rises same in
      let holds : (i : ℕ) → i < tasks_of f → IsResponse f r i (slice_index r i) =
      λ i here. subst (λ v. IsResponse f r i v) (sym (at i here)) (step.1 i here) in
      let within : (i : ℕ) → i < tasks_of f → slice_index r i ≤ latest_of f i = λ i here.
      let low : slice_index r i ≤ slice_index s i = below s fits i here in
      let high : slice_index s i ≤ latest_of f i = fits.within i here in
      omega (arith, low, high) in
      (r, least_fits f r one_each below holds within)

  below_too : (r : List ℕ) → AreBelowAllFitting f r → AreBelowAllFitting f (next r)
  below_too r below = below_next f r (next r) above below (λ i here. response_comes_up f r i (slice_index (next r) i) ((steps r).1 i here))

  go : (fuel : ℕ) (r : List ℕ) → length r ≡ tasks_of f → AreBelowAllFitting f r → AtMost (tasks_of f) r (next r)
      → total (tasks_of f) s ≤ fuel + total (tasks_of f) r → (b : List ℕ) × AreLeastFitting f b
  go zero r one_each below rises enough =
      let most : total (tasks_of f) (next r) ≤ total (tasks_of f) s = total_rises (tasks_of f) (next r) s (below_too r below s fits) in
      settled r one_each below rises (omega (arith, most, enough))
  go (suc fuel) r one_each below rises enough =
      let rises_too : AtMost (tasks_of f) (next r) (next (next r)) = λ i here.
      monotone r (next r) i (slice_index (next r) i) (slice_index (next (next r)) i) here rises ((steps r).1 i here)
      ((steps (next r)).1 i here) in
      elim (cases_lt (total (tasks_of f) r) (total (tasks_of f) (next r))) [
        | inl grows ↦ go fuel (next r) (steps r).0 (below_too r below) rises_too (omega (arith, grows, enough))
        | inr same ↦ settled r one_each below rises same
      ]
