-- Laws of works by the shape of their answers, for any command.
use Rattle.std.proofs.Common.{◌≡◌, ℕ, List, refl, sym, ◌∙◌, ap, arith, inl, inr, ◌⊎◌}
use Rattle.response_fixpoint.specs.Rounds.{Ending, Schedulable, NotShown, Wide, Allowance}
use Rattle.command_inputs.specs.Known.{Answer}
use Rattle.run_plans.specs.Plans.{Work}
use Rattle.run_plans.specs.Commands.{IfOfSet}
use Rattle.run_plans.specs.Run.{IsWideEnding, IsAllowanceEnding}
use Rattle.run_plans.proofs.PlanLaws.{IsPlain, IsLawfulWork, plain_is, plain_of_status, not_zero, at_most_one}

-- A work that always ends with status 0 or 1, and has one answer.
abbrev pub always : (Answer → Type 0) → Work
always answers = record { answers = answers; ends = Unit {0}; one = Unit {0} }

pub always_lawful : (answers : Answer → Type 0) → ((a b : Answer) → answers a → answers b → a ≡ b)
    → ((a : Answer) → answers a → (a.status ≡ 0) ⊎ (a.status ≡ 1)) → IsLawfulWork (always answers)
always_lawful answers one status = record {
  one = λ always. one;
  plain = λ a is. plain_of_status a (status a is);
  well = λ ends a is. status a is;
}

-- ---- this answer alone

pub fixed_lawful : (b : Answer) → b.status ≡ 0 → IsLawfulWork (always (λ a. a ≡ b))
fixed_lawful b zero = always_lawful (λ a. a ≡ b) (λ a c p q. p ∙ sym q) (λ a is. inl (ap (λ (x : Answer). x.status) is ∙ zero))

-- ---- something holds, or this fails first

one_judged : {E : Type 0} (holds : Type 0) (says : Answer → Type 0) (fails : E → Type 0) (failing : E → Answer)
    → IsLawfulWork (always says) → ((e : E) → fails e → holds → ⊥) → ((d e : E) → fails d → fails e → d ≡ e) → (a b : Answer)
    → (holds × says a) ⊎ ((e : E) × fails e × (a ≡ failing e))
    → (holds × says b) ⊎ ((e : E) × fails e × (b ≡ failing e)) → a ≡ b
one_judged holds says fails failing own apart once a b (inl (h, is)) (inl (h', is')) = own.one tt a b is is'
one_judged holds says fails failing own apart once a b (inl (h, is)) (inr (e, f, is')) = absurd (apart e f h)
one_judged holds says fails failing own apart once a b (inr (e, f, is)) (inl (h, is')) = absurd (apart e f h)
one_judged holds says fails failing own apart once a b (inr (d, f, is)) (inr (e, g, is')) = is ∙ ap failing (once d e f g) ∙ sym is'

judged_status : {E : Type 0} (holds : Type 0) (says : Answer → Type 0) (fails : E → Type 0) (failing : E → Answer)
    → IsLawfulWork (always says) → ((e : E) → (failing e).status ≡ 1) → (a : Answer)
    → (holds × says a) ⊎ ((e : E) × fails e × (a ≡ failing e)) → (a.status ≡ 0) ⊎ (a.status ≡ 1)
judged_status holds says fails failing own status a (inl (h, is)) = own.well tt a is
judged_status holds says fails failing own status a (inr (e, f, is)) = inr (ap (λ (x : Answer). x.status) is ∙ status e)

pub judged_lawful : {E : Type 0} (holds : Type 0) (says : Answer → Type 0) (fails : E → Type 0) (failing : E → Answer)
    → IsLawfulWork (always says) → ((e : E) → (failing e).status ≡ 1) → ((e : E) → fails e → holds → ⊥)
    → ((d e : E) → fails d → fails e → d ≡ e)
    → IsLawfulWork (always (λ a. (holds × says a) ⊎ ((e : E) × fails e × (a ≡ failing e))))
judged_lawful {E} holds says fails failing own status apart once =
    always_lawful (λ a. (holds × says a) ⊎ ((e : E) × fails e × (a ≡ failing e)))
    (λ a b p q. one_judged holds says fails failing own apart once a b p q)
    (λ a is. judged_status holds says fails failing own status a is)

-- ---- a file is of the set, or it is of another one

one_tied : (digest named : List ℕ) (says : Answer → Type 0) → IsLawfulWork (always says) → (a b : Answer) → IfOfSet digest named says a
    → IfOfSet digest named says b → a ≡ b
one_tied digest named says own a b (inl (other, is)) (inl (other', is')) = is ∙ sym is'
one_tied digest named says own a b (inl (other, is)) (inr (same, is')) = absurd (other same)
one_tied digest named says own a b (inr (same, is)) (inl (other, is')) = absurd (other same)
one_tied digest named says own a b (inr (same, is)) (inr (same', is')) = own.one tt a b is is'

tied_status : (digest named : List ℕ) (says : Answer → Type 0) → IsLawfulWork (always says) → (a : Answer) → IfOfSet digest named says a
    → (a.status ≡ 0) ⊎ (a.status ≡ 1)
tied_status digest named says own a (inl (other, is)) = inr (ap (λ (x : Answer). x.status) is)
tied_status digest named says own a (inr (same, is)) = own.well tt a is

pub tied_lawful : (digest named : List ℕ) (says : Answer → Type 0) → IsLawfulWork (always says)
    → IsLawfulWork (always (IfOfSet digest named says))
tied_lawful digest named says own =
    always_lawful (IfOfSet digest named says) (one_tied digest named says own) (tied_status digest named says own)

-- With status 0 the file is of the set, and the answer is the one on what the file holds.
pub tied_at_zero : (digest named : List ℕ) (says : Answer → Type 0) (a : Answer) → IfOfSet digest named says a → a.status ≡ 0
    → (named ≡ digest) × says a
tied_at_zero digest named says a (inl (other, is)) zero = absurd (not_zero 0 is refl zero)
tied_at_zero digest named says a (inr own) zero = own

-- ---- how rounds ended

-- Does the status tell how rounds ended: with a verdict, or without one?
abbrev pub TellsEnding : Ending → Answer → Type 0
TellsEnding (Schedulable bounds duals) a = (a.status ≡ 0) ⊎ (a.status ≡ 1)
TellsEnding (NotShown i value) a = (a.status ≡ 0) ⊎ (a.status ≡ 1)
TellsEnding (Wide i) a = a.status ≡ 5
TellsEnding Allowance a = a.status ≡ 6

pub told_plain : (e : Ending) (a : Answer) → TellsEnding e a → IsPlain a
told_plain (Schedulable bounds duals) a verdict = plain_of_status a verdict
told_plain (NotShown i value) a verdict = plain_of_status a verdict
told_plain (Wide i) a five = plain_is a 5 five refl
told_plain Allowance a six = plain_is a 6 six refl

-- If rounds of this kind come to no other end, they come to a verdict.
pub told_well : (ends : Ending → Type 0) (e : Ending) (a : Answer) → TellsEnding e a → ends e → ((i : ℕ) → ends (Wide i) → ⊥)
    → (ends Allowance → ⊥) → (a.status ≡ 0) ⊎ (a.status ≡ 1)
told_well ends (Schedulable bounds duals) a verdict is no_wide no_allowance = verdict
told_well ends (NotShown i value) a verdict is no_wide no_allowance = verdict
told_well ends (Wide i) a five is no_wide no_allowance = absurd (no_wide i is)
told_well ends Allowance a six is no_wide no_allowance = absurd (no_allowance is)

pub told_wide : (e : Ending) (a : Answer) → TellsEnding e a → a.status ≡ 5 → IsWideEnding e
told_wide (Schedulable bounds duals) a verdict five = absurd (omega (arith, at_most_one a verdict, five))
told_wide (NotShown i value) a verdict five = absurd (omega (arith, at_most_one a verdict, five))
told_wide (Wide i) a tells five = (i, refl)
told_wide Allowance a six five = absurd (omega (arith, six, five))

pub told_short : (e : Ending) (a : Answer) → TellsEnding e a → a.status ≡ 6 → IsAllowanceEnding e
told_short (Schedulable bounds duals) a verdict six = absurd (omega (arith, at_most_one a verdict, six))
told_short (NotShown i value) a verdict six = absurd (omega (arith, at_most_one a verdict, six))
told_short (Wide i) a five six = absurd (omega (arith, five, six))
told_short Allowance a tells six = refl
