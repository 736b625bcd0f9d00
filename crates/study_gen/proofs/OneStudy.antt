-- A study counts in one way only.
use Rattle.std.proofs.Common.{◌≡◌, ℕ, zero, suc, ◌+◌, ◌<◌, [], sym, ◌∙◌, ap, arith, inl, inr}
use Rattle.std.specs.Prelude.{slice_index, slice_index_or}
use Rattle.std.proofs.lemmas.Option.{slice_get-get_or}
use Rattle.sporadic_model.specs.declared.ids.Protocol.TheVariants as protocol
use Rattle.study_gen.specs.Counts.{IsShown, IsStopped, Counts, set_of_step, step_begins, StoppedBefore, IsStepCount, IsStudy}
use Rattle.study_gen.specs.declared.counting.StudyCounts.{StudyCounts}

counts_once : (P : ℕ → Type 0) (n a b : ℕ) → Counts P n a → Counts P n b → a ≡ b
counts_once P zero a b p q = p ∙ sym q
counts_once P (suc n) a b (inl (has, c, p, is)) (inl (has', d, q, is')) = is ∙ ap (λ k. k + 1) (counts_once P n c d p q) ∙ sym is'
counts_once P (suc n) a b (inl (has, c, p, is)) (inr (none, q)) = absurd (none has)
counts_once P (suc n) a b (inr (none, p)) (inl (has, d, q, is)) = absurd (none has)
counts_once P (suc n) a b (inr (none, p)) (inr (none', q)) = counts_once P n a b p q

stopped_once : (seed sets n a b : ℕ) → StoppedBefore seed sets n a → StoppedBefore seed sets n b → a ≡ b
stopped_once seed sets zero a b p q = p ∙ sym q
stopped_once seed sets (suc i) a b (c, m, f, d, p, pm, pf, pd, is) (c', m', f', d', q, qm, qf, qd, is') =
    let s : ℕ = step_begins seed sets i in
    let before : c ≡ c' = stopped_once seed sets i c c' p q in
    let mpcp : m ≡ m' = counts_once (λ k. IsStopped protocol.Mpcp (set_of_step (i + 1) s k)) sets m m' pm qm in
    let fmlp : f ≡ f' = counts_once (λ k. IsStopped protocol.FmlpPlus (set_of_step (i + 1) s k)) sets f f' pf qf in
    let dpcp : d ≡ d' = counts_once (λ k. IsStopped protocol.Dpcp (set_of_step (i + 1) s k)) sets d d' pd qd in
    omega (arith, before, mpcp, fmlp, dpcp, is, is')

-- The counts of step number i in the rows of a study.
pub step_once : (seed sets : ℕ) (c d : StudyCounts) → IsStudy seed sets c → IsStudy seed sets d → (i : ℕ) → i < 8
    → (slice_index (slice_index_or c.counts.items i []) 0 ≡ slice_index (slice_index_or d.counts.items i []) 0)
    × (slice_index (slice_index_or c.counts.items i []) 1 ≡ slice_index (slice_index_or d.counts.items i []) 1)
    × (slice_index (slice_index_or c.counts.items i []) 2 ≡ slice_index (slice_index_or d.counts.items i []) 2)
step_once seed sets c d p q i here =
    let s : ℕ = step_begins seed sets i in
    let mine : IsStepCount seed sets i (slice_index_or c.counts.items i []) =
    p.shown i _ (slice_get-get_or c.counts.items i [] (omega (arith, here, p.steps))) in
    let other : IsStepCount seed sets i (slice_index_or d.counts.items i []) =
    q.shown i _ (slice_get-get_or d.counts.items i [] (omega (arith, here, q.steps))) in (
      counts_once (λ k. IsShown protocol.Mpcp (set_of_step (i + 1) s k)) sets _ _ mine.mpcp other.mpcp,
      counts_once (λ k. IsShown protocol.FmlpPlus (set_of_step (i + 1) s k)) sets _ _ mine.fmlp other.fmlp,
      counts_once (λ k. IsShown protocol.Dpcp (set_of_step (i + 1) s k)) sets _ _ mine.dpcp other.dpcp,
    )

pub stopped_is_one : (seed sets : ℕ) (c d : StudyCounts) → IsStudy seed sets c → IsStudy seed sets d → c.stopped ≡ d.stopped
stopped_is_one seed sets c d p q = stopped_once seed sets 8 c.stopped d.stopped p.stopped q.stopped
