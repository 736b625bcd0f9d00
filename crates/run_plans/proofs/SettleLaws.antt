-- Laws of the work of `settle`: its status is one of its own, and tells how the rounds ended. If they don't leave the set open, there is
-- one answer.
use Rattle.std.proofs.Common.{◌≡◌, ℕ, List, refl, sym, ◌∙◌, ap, subst, arith, inl, inr, ◌⊎◌}
use Rattle.program_form.specs.Certificate.{CertificateDef}
use Rattle.sporadic_model.specs.SetDef.{SetDef}
use Rattle.program_sources.specs.Recurrence.{SourceDef}
use Rattle.protocol_names.specs.declared.ProtocolName.{ProtocolName}
use Rattle.response_fixpoint.specs.Rounds.{Ending, Schedulable, NotShown, Wide, Allowance, EndsIn}
use Rattle.response_fixpoint.specs.Runs.{rounds_of}
use Rattle.response_fixpoint.proofs.RunLaws.{one_ending}
use Rattle.refusal_laws.specs.Steps.{StepDef}
use Rattle.refusal_cert.specs.Refuting.{refuting}
use Rattle.refusal_cert.specs.Steps.{refusal_of}
use Rattle.refusal_cert.proofs.OneEnding.{refuting_once}
use Rattle.settling.specs.Answers.{IsNotShown, IsLeftOpen, IsWalkedTo, IsToRefuse, MayBeWide, MayWantMore}
use Rattle.settling.proofs.AnswerLaws.{open_of, open_if_wide}
use Rattle.named_laws.specs.Named.{source_of}
use Rattle.command_inputs.specs.Known.{Answer}
use Rattle.run_plans.specs.Settling.{AreStepsOfRounds, settled_answer, refused_answer, short_answer}
use Rattle.run_plans.specs.Settling.{IsSettlement, settlement_of, SettlingEnds}
use Rattle.run_plans.specs.Commands.{ending_answer}
use Rattle.run_plans.specs.Run.{IsWideEnding, IsAllowanceEnding}
use Rattle.run_plans.proofs.PlanLaws.{IsPlain, IsLawfulWork, plain_is, plain_of_status}
use Rattle.run_plans.proofs.RefusalLaws.{answered_once}

-- ---- statuses

plain_settlement : (p : ProtocolName) (digest : List ℕ) (set : SetDef) (n : ℕ) (a : Answer) → IsSettlement p digest set n a → IsPlain a
plain_settlement p digest set n a (inl (c, settled, is)) = plain_of_status a (inl (ap (λ x. x.status) is))
plain_settlement p digest set n a (inr (inl (steps, refused, is))) = plain_of_status a (inr (ap (λ x. x.status) is))
plain_settlement p digest set n a (inr (inr (inl (i, here, left, is)))) = plain_is a 5 (ap (λ x. x.status) is) refl
plain_settlement p digest set n a (inr (inr (inr (short, is)))) = plain_is a 6 (ap (λ x. x.status) is) refl

well_settlement : (p : ProtocolName) (digest : List ℕ) (set : SetDef) (n : ℕ) (a : Answer)
    → (MayWantMore (source_of p set) n → ⊥) × ((i : ℕ) → MayBeWide (source_of p set) n i → ⊥) → IsSettlement p digest set n a
    → (a.status ≡ 0) ⊎ (a.status ≡ 1)
well_settlement p digest set n a enough (inl (c, settled, is)) = inl (ap (λ x. x.status) is)
well_settlement p digest set n a enough (inr (inl (steps, refused, is))) = inr (ap (λ x. x.status) is)
well_settlement p digest set n a enough (inr (inr (inl (i, here, left, is)))) = absurd (enough.1 i left)
well_settlement p digest set n a enough (inr (inr (inr (short, is)))) = absurd (enough.0 short)

-- Rounds that leave the set open end wide.
open_ends : (f : SourceDef) (n : ℕ) → IsLeftOpen f n → (e : Ending) × (SettlingEnds f n e) × IsWideEnding e
open_ends f n (inl (i, ends)) = (Wide i, inl ends, (i, refl))
open_ends f n (inr (late, (i, ends))) = (Wide i, inr (late, ends), (i, refl))

short_ends : (f : SourceDef) (n : ℕ) → MayWantMore f n → (e : Ending) × (SettlingEnds f n e) × ((IsAllowanceEnding e) ⊎ IsWideEnding e)
short_ends f n (inl ends) = (Allowance, inl ends, inl refl)
short_ends f n (inr (inl ((i, wide), ends))) = (Wide i, inl wide, inr (i, refl))
short_ends f n (inr (inr (to, ends))) = let w = open_ends f n (open_of f n to) in (w.0, w.1, inr w.2)

pub wide_settlement : (p : ProtocolName) (digest : List ℕ) (set : SetDef) (n : ℕ) (a : Answer) → IsSettlement p digest set n a
    → a.status ≡ 5 → (e : Ending) × (SettlingEnds (source_of p set) n e) × IsWideEnding e
wide_settlement p digest set n a (inl (c, settled, is)) five = (let s : a.status ≡ 0 = ap (λ x. x.status) is in absurd (omega (arith, s, five)))
wide_settlement p digest set n a (inr (inl (steps, refused, is))) five =
    (let s : a.status ≡ 1 = ap (λ x. x.status) is in absurd (omega (arith, s, five)))
wide_settlement p digest set n a (inr (inr (inl (i, here, left, is)))) five =
    open_ends (source_of p set) n (open_if_wide (source_of p set) n i left)
wide_settlement p digest set n a (inr (inr (inr (short, is)))) five =
    (let s : a.status ≡ 6 = ap (λ x. x.status) is in absurd (omega (arith, s, five)))

pub short_settlement : (p : ProtocolName) (digest : List ℕ) (set : SetDef) (n : ℕ) (a : Answer) → IsSettlement p digest set n a
    → a.status ≡ 6 → (e : Ending) × (SettlingEnds (source_of p set) n e) × ((IsAllowanceEnding e) ⊎ IsWideEnding e)
short_settlement p digest set n a (inl (c, settled, is)) six = (let s : a.status ≡ 0 = ap (λ x. x.status) is in absurd (omega (arith, s, six)))
short_settlement p digest set n a (inr (inl (steps, refused, is))) six =
    (let s : a.status ≡ 1 = ap (λ x. x.status) is in absurd (omega (arith, s, six)))
short_settlement p digest set n a (inr (inr (inl (i, here, left, is)))) six =
    (let s : a.status ≡ 5 = ap (λ x. x.status) is in absurd (omega (arith, s, six)))
short_settlement p digest set n a (inr (inr (inr (short, is)))) six = short_ends (source_of p set) n short

-- ---- one answer

-- The answer for a set that isn't shown, if the rounds of refusals end in this way, and not wide.
abbrev late_answer : ProtocolName → List ℕ → Ending → List StepDef → Answer
late_answer p digest (Schedulable bounds points) steps = short_answer
late_answer p digest (NotShown i value) steps = refused_answer p digest steps
late_answer p digest (Wide i) steps = short_answer
late_answer p digest Allowance steps = short_answer

-- Did the analysis end in another way than at a task that isn't shown?
abbrev IsNotLate : Ending → Type 0
IsNotLate (Schedulable bounds duals) = Unit {0}
IsNotLate (NotShown i value) = ⊥
IsNotLate (Wide i) = Unit {0}
IsNotLate Allowance = Unit {0}

-- The answer if the rounds don't leave the set open. It is that of the analysis. Or, for a set that the analysis doesn't show, it is that
-- of the rounds of refusals.
abbrev IsClosed : ProtocolName → List ℕ → SetDef → ℕ → Answer → Type 0
IsClosed p digest set n a =
    ((e : Ending) × (EndsIn (rounds_of (source_of p set)) n e) × (IsNotLate e) × (a ≡ ending_answer p digest set e))
    ⊎ ((IsNotShown (source_of p set) n) × ((g : Ending) × (ends : EndsIn (refuting (source_of p set)) n g)
    × (a ≡ late_answer p digest g (refusal_of (refuting (source_of p set)) n g ends))))

close_certified : (p : ProtocolName) (digest : List ℕ) (set : SetDef) (n : ℕ) (c : CertificateDef) (a : Answer)
    → (IsLeftOpen (source_of p set) n → ⊥) → a ≡ settled_answer p digest c
    → (EndsIn (rounds_of (source_of p set)) n (Schedulable c.bounds c.duals)) ⊎ IsWalkedTo (source_of p set) n c.bounds c.duals
    → IsClosed p digest set n a
close_certified p digest set n c a closed is (inl ends) = inl (Schedulable c.bounds c.duals, ends, tt, is)
close_certified p digest set n c a closed is (inr (wide, ends)) = absurd (closed (inl wide))

close_refused : (p : ProtocolName) (digest : List ℕ) (set : SetDef) (n : ℕ) (steps : List StepDef) (a : Answer)
    → (IsLeftOpen (source_of p set) n → ⊥) → a ≡ refused_answer p digest steps
    → ((IsNotShown (source_of p set) n) × AreStepsOfRounds (source_of p set) n steps) ⊎ IsToRefuse (source_of p set) n
    → IsClosed p digest set n a
close_refused p digest set n steps a closed is (inl (late, (i, v, ends, same))) =
    inr (late, (NotShown i v, ends, is ∙ ap (refused_answer p digest) same))
close_refused p digest set n steps a closed is (inr to) = absurd (closed (open_of (source_of p set) n to))

close : (p : ProtocolName) (digest : List ℕ) (set : SetDef) (n : ℕ) (a : Answer) → (IsLeftOpen (source_of p set) n → ⊥)
    → IsSettlement p digest set n a → IsClosed p digest set n a
close p digest set n a closed (inl (c, settled, is)) = close_certified p digest set n c a closed is settled.from
close p digest set n a closed (inr (inl (steps, refused, is))) = close_refused p digest set n steps a closed is refused.from
close p digest set n a closed (inr (inr (inl (i, here, left, is)))) =
    absurd (closed (open_if_wide (source_of p set) n i left))
close p digest set n a closed (inr (inr (inr (inl ends, is)))) = inl (Allowance, ends, tt, is)
close p digest set n a closed (inr (inr (inr (inr (inl (wide, ends)), is)))) = absurd (closed (inl wide))
close p digest set n a closed (inr (inr (inr (inr (inr (to, ends)), is)))) = absurd (closed (open_of (source_of p set) n to))

one_closed : (p : ProtocolName) (digest : List ℕ) (set : SetDef) (n : ℕ) (a b : Answer) → IsClosed p digest set n a
    → IsClosed p digest set n b → a ≡ b
one_closed p digest set n a b (inl (e, ends, other, is)) (inl (g, ends', other', is')) =
    is ∙ ap (ending_answer p digest set) (one_ending (source_of p set) n e g ends ends') ∙ sym is'
one_closed p digest set n a b (inl (e, ends, other, is)) (inr ((i, v, late), rounds)) =
    absurd (subst IsNotLate (one_ending (source_of p set) n e (NotShown i v) ends late) other)
one_closed p digest set n a b (inr ((i, v, late), rounds)) (inl (e, ends, other, is)) =
    absurd (subst IsNotLate (one_ending (source_of p set) n e (NotShown i v) ends late) other)
one_closed p digest set n a b (inr (late, (e, ends, is))) (inr (late', (g, ends', is'))) =
    is ∙ answered_once p set n (late_answer p digest) e g (refuting_once (source_of p set) n e g ends ends') ends ends' ∙ sym is'

pub settlement_lawful : (p : ProtocolName) (digest : List ℕ) (set : SetDef) (n : ℕ) → IsLawfulWork (settlement_of p digest set n)
settlement_lawful p digest set n = record {
  one = λ closed a b is is'. one_closed p digest set n a b (close p digest set n a closed is) (close p digest set n b closed is');
  plain = plain_settlement p digest set n;
  well = λ enough a is. well_settlement p digest set n a enough is;
}
