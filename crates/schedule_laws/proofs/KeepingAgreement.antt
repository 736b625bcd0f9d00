-- Which rows keep the rules, and which is the first that breaks one, where the rules read the rows up to theirs alone.
use Rattle.std.proofs.Common.{◌≡◌, ℕ, suc, ◌<◌, ◌≤◌, arith, inl, inr}
use Rattle.schedule_model.specs.declared.rule.Rule.{Rule}
use Rattle.schedule_model.specs.RowDef.{Trace}
use Rattle.schedule_model.specs.Keeping.{KeepsRow, KeepsBefore, Breaks, IsFirstUnlawful}
use Rattle.schedule_laws.specs.Agreement.{AgreeBefore, RulesReadUpTo}
use Rattle.schedule_laws.proofs.Agreement.{agree_back}
use Rattle.std.proofs.lemmas.Bool.{cases_lt}

-- The rows before tick m keep the rules in both schedules or in neither.
pub keeps_before_agree : (keeps : Rule → Trace → ℕ → Type 0) (v w : Trace) (n m : ℕ) → RulesReadUpTo keeps
    → AgreeBefore v w n → m ≤ n → KeepsBefore keeps v m → KeepsBefore keeps w m
keeps_before_agree keeps v w n m reads a l h t b r = reads r v w n t a (omega arith) (h t b r)

-- A row breaks the same rule first.
pub breaks_agree : (keeps : Rule → Trace → ℕ → Type 0) (v w : Trace) (n t : ℕ) (r : Rule) → RulesReadUpTo keeps
    → AgreeBefore v w n → t < n → Breaks keeps v t r → Breaks keeps w t r
breaks_agree keeps v w n t r reads a l h = record {
  earlier = λ s b. reads s v w n t a l (h.earlier s b);
  broken = λ k. h.broken (reads r w v n t (agree_back v w n a) l k);
}

-- The first unlawful row is the same.
pub first_unlawful_agree : (keeps : Rule → Trace → ℕ → Type 0) (v w : Trace) (n m t : ℕ) (r : Rule)
    → RulesReadUpTo keeps → AgreeBefore v w n → m ≤ n → IsFirstUnlawful keeps v m t r → IsFirstUnlawful keeps w m t r
first_unlawful_agree keeps v w n m t r reads a l h = record {
  within = h.within;
  before = keeps_before_agree keeps v w n t reads a (omega (arith, h.within)) h.before;
  breaks = breaks_agree keeps v w n t r reads a (omega (arith, h.within)) h.breaks;
}

-- One more row that keeps the rules.
pub keeps_before_more : (keeps : Rule → Trace → ℕ → Type 0) (w : Trace) (n : ℕ) → KeepsBefore keeps w n
    → KeepsRow keeps w n → KeepsBefore keeps w (suc n)
keeps_before_more keeps w n before last t l r = elim (cases_lt t n) [
  | inl earlier ↦ before t earlier r
  | inr here ↦ let e : t ≡ n = omega arith in rw e (last r)
]
