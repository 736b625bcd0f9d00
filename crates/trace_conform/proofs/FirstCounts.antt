-- What is counted before the first row, and after a stretch.
use Rattle.std.proofs.Common.{◌≡◌, ℕ, ◌+◌, ◌<◌, ◌≤◌, Bool, List, length, replicate, refl, ap, ◌∙◌, sym, arith, inl, inr}
use Rattle.std.proofs.lemmas.Bool.{cases_lt}
use Rattle.std.proofs.lemmas.List.{length-replicate, get_or-replicate, get_or_past}
use Rattle.sporadic_model.specs.declared.limits.TheConstants.{MOST_TICKS}
use Rattle.number_laws.proofs.CountLaws.{count_below-at_most}
use Rattle.schedule_model.specs.RowDef.{Trace}
use Rattle.schedule_model.specs.BlockedTicks.{is_blocked}
use Rattle.schedule_model.specs.Measures.{finish_of, blocking_of}
use Rattle.trace_conform.specs.declared.counts.JobCount.{JobCount}
use Rattle.trace_conform.specs.Counts.{count_at, no_count, AreCounts}

nothing_at : (n j : ℕ) → count_at (replicate n no_count) j ≡ no_count
nothing_at n j = elim (cases_lt j n) [
  | inl within ↦ get_or-replicate n j no_count no_count within
  | inr past ↦ get_or_past (replicate n no_count) j no_count (omega (arith, length-replicate n no_count, past))
]

-- Nothing is counted of no ticks.
pub counted_first : (interferes : Trace → ℕ → ℕ → Bool) (w : Trace) (n : ℕ) → length w.jobs ≡ n
    → AreCounts interferes w 0 (replicate n no_count)
unfolding blocking_of finish_of
counted_first interferes w n size = record {
  size = length-replicate n no_count ∙ sym size;
  blocked = λ j l. ap (λ c. c.blocked) (nothing_at n j);
  end = λ j l h. ap (λ c. c.end) (nothing_at n j) ∙ finish_first j;
} where
  finish_first : (j : ℕ) → 0 ≡ finish_of w 0 j
  finish_first j = refl

-- A job was blocked at no more ticks than there were.
pub room_left : (interferes : Trace → ℕ → ℕ → Bool) (w : Trace) (t n : ℕ) (counts : List JobCount) (j : ℕ)
    → AreCounts interferes w t counts → j < length w.jobs → t + n ≤ MOST_TICKS
    → (count_at counts j).blocked + n ≤ MOST_TICKS
unfolding blocking_of
room_left interferes w t n counts j are l early = omega (arith, are.blocked j l, most, early) where
  most : blocking_of interferes w t j ≤ t
  most = count_below-at_most t (λ u. is_blocked interferes w u j)
