-- Laws of the works on refusals: each has one answer, with one of its own statuses. And what status 0 says.
use Rattle.std.proofs.Common.{◌≡◌, ℕ, List, refl, sym, ◌∙◌, ap, subst, inl, inr}
use Rattle.sporadic_model.specs.SetDef.{SetDef}
use Rattle.sporadic_model.specs.Accepted.{IsAccepted}
use Rattle.protocol_names.specs.Names.{word_of}
use Rattle.protocol_names.specs.declared.ProtocolName.{ProtocolName}
use Rattle.response_fixpoint.specs.Rounds.{Ending, Schedulable, NotShown, Wide, Allowance, EndsIn}
use Rattle.refusal_laws.specs.Steps.{StepDef, Holds}
use Rattle.refusal_confirm.specs.Faults.{IsFault}
use Rattle.refusal_confirm.proofs.FaultLaws.{no_fault, one_fault}
use Rattle.program_sources.specs.Recurrence.{SourceDef}
use Rattle.refusal_cert.specs.Refuting.{refuting}
use Rattle.refusal_cert.specs.Steps.{refusal_of}
use Rattle.refusal_cert.proofs.OneEnding.{points_once, refuting_once, one_refusal}
use Rattle.refusal_json.specs.Text.{refusal_text}
use Rattle.named_laws.specs.Named.{source_of}
use Rattle.named_laws.proofs.Refusals.{named_holds}
use Rattle.command_inputs.specs.Known.{Answer}
use Rattle.command_inputs.specs.RefusalDef.{RefusalDef}
use Rattle.run_plans.specs.Refuting.{refuting_answer, IsRefutation, refutation_of, IsConfirmation, confirmed_answer, unconfirmed_answer}
use Rattle.run_plans.specs.Commands.{IsTiedConfirmation, confirmation_of}
use Rattle.run_plans.proofs.PlanLaws.{IsLawfulWork, not_zero}
use Rattle.run_plans.proofs.WorkLaws.{always, fixed_lawful, judged_lawful, tied_lawful, tied_at_zero, TellsEnding, told_plain, told_well}

-- ---- the rounds that refuse

-- Rounds that end in one way give the same steps, however this ending is shown.
same_steps : (p : ProtocolName) (set : SetDef) (n : ℕ) (e : Ending) (a b : EndsIn (refuting (source_of p set)) n e)
    → refusal_of (refuting (source_of p set)) n e a ≡ refusal_of (refuting (source_of p set)) n e b
same_steps p set n (Schedulable bounds points) a b = refl
same_steps p set n (NotShown i v) a b = one_refusal (refuting (source_of p set)) (points_once (source_of p set)) n i v a b
same_steps p set n (Wide i) a b = refl
same_steps p set n Allowance a b = refl

-- So there is one answer from the ending and the steps.
pub answered_once : (p : ProtocolName) (set : SetDef) (n : ℕ) (says : Ending → List StepDef → Answer) (e g : Ending) → e ≡ g
    → (a : EndsIn (refuting (source_of p set)) n e) (b : EndsIn (refuting (source_of p set)) n g)
    → says e (refusal_of (refuting (source_of p set)) n e a) ≡ says g (refusal_of (refuting (source_of p set)) n g b)
answered_once p set n says e g same a =
    subst (λ (x : Ending). (b : EndsIn (refuting (source_of p set)) n x)
    → says e (refusal_of (refuting (source_of p set)) n e a) ≡ says x (refusal_of (refuting (source_of p set)) n x b)) same
    (λ b. ap (says e) (same_steps p set n e a b))

one_refutation : (p : ProtocolName) (digest : List ℕ) (set : SetDef) (n : ℕ) (a b : Answer) → IsRefutation p digest set n a
    → IsRefutation p digest set n b → a ≡ b
one_refutation p digest set n a b (e, ends, is) (g, ends', is') =
    is ∙ answered_once p set n (refuting_answer p digest set) e g (refuting_once (source_of p set) n e g ends ends') ends ends' ∙ sym is'

-- The status of the answer tells how the rounds ended.
pub refuting_tells : (p : ProtocolName) (digest : List ℕ) (set : SetDef) (e : Ending) (steps : List StepDef) (a : Answer)
    → a ≡ refuting_answer p digest set e steps → TellsEnding e a
refuting_tells p digest set (Schedulable bounds points) steps a is = inr (ap (λ x. x.status) is)
refuting_tells p digest set (NotShown i v) steps a is = inl (ap (λ x. x.status) is)
refuting_tells p digest set (Wide i) steps a is = ap (λ x. x.status) is
refuting_tells p digest set Allowance steps a is = ap (λ x. x.status) is

refutation_tells : (p : ProtocolName) (digest : List ℕ) (set : SetDef) (n : ℕ) (a : Answer) (is : IsRefutation p digest set n a)
    → TellsEnding is.0 a
refutation_tells p digest set n a (e, ends, is) = refuting_tells p digest set e (refusal_of (refuting (source_of p set)) n e ends) a is

pub refutation_lawful : (p : ProtocolName) (digest : List ℕ) (set : SetDef) (n : ℕ) → IsLawfulWork (refutation_of p digest set n)
refutation_lawful p digest set n = record {
  one = λ always. one_refutation p digest set n;
  plain = λ a is. told_plain is.0 a (refutation_tells p digest set n a is);
  well = λ well a is. told_well (EndsIn (refuting (source_of p set)) n) is.0 a (refutation_tells p digest set n a is) is.1 well.0 well.1;
}

-- With status 0 the answer is the text of a refusal of these rounds, and this refusal holds.
pub record RefusedSo (p : ProtocolName) (digest : List ℕ) (set : SetDef) (n : ℕ) (a : Answer) : Type 0 where
  pub task : ℕ
  pub value : ℕ
  pub ends : EndsIn (refuting (source_of p set)) n (NotShown task value)
  pub steps : List StepDef
  pub steps_are : steps ≡ refusal_of (refuting (source_of p set)) n (NotShown task value) ends
  pub text : a.text ≡ refusal_text (word_of p) digest steps
  pub holds : Holds (source_of p set) steps

refused_ending : (p : ProtocolName) (digest : List ℕ) (set : SetDef) (n : ℕ) (e : Ending) (ends : EndsIn (refuting (source_of p set)) n e)
    (a : Answer) → IsAccepted set → a ≡ refuting_answer p digest set e (refusal_of (refuting (source_of p set)) n e ends) → a.status ≡ 0
    → RefusedSo p digest set n a
refused_ending p digest set n (Schedulable bounds points) ends a accepted is zero = absurd (not_zero 0 is refl zero)
refused_ending p digest set n (NotShown i v) ends a accepted is zero = record {
  task = i;
  value = v;
  ends = ends;
  steps = refusal_of (refuting (source_of p set)) n (NotShown i v) ends;
  steps_are = refl;
  text = ap (λ x. x.text) is;
  holds = named_holds p set n i v accepted ends;
}
refused_ending p digest set n (Wide i) ends a accepted is zero = absurd (not_zero 4 is refl zero)
refused_ending p digest set n Allowance ends a accepted is zero = absurd (not_zero 5 is refl zero)

pub refused_at_zero : (p : ProtocolName) (digest : List ℕ) (set : SetDef) (n : ℕ) (a : Answer) → IsAccepted set
    → IsRefutation p digest set n a → a.status ≡ 0 → RefusedSo p digest set n a
refused_at_zero p digest set n a accepted (e, ends, is) zero = refused_ending p digest set n e ends a accepted is zero

-- ---- judging a refusal

own_confirmation : (p : ProtocolName) (set : SetDef) (steps : List StepDef) → IsLawfulWork (always (IsConfirmation p set steps))
own_confirmation p set steps =
    let f : SourceDef = source_of p set in
    judged_lawful (Holds f steps) (λ a. a ≡ confirmed_answer) (λ e. IsFault e f steps) unconfirmed_answer
    (fixed_lawful confirmed_answer refl) (λ e. refl) (λ e fault holds. no_fault e f steps fault holds)
    (λ d e fault fault'. one_fault d e f steps fault fault')

pub confirmation_lawful : (p : ProtocolName) (digest : List ℕ) (set : SetDef) (file : RefusalDef)
    → IsLawfulWork (confirmation_of p digest set file)
confirmation_lawful p digest set file =
    tied_lawful digest file.digest (IsConfirmation p set file.steps) (own_confirmation p set file.steps)

-- With status 0 the refusal is of the set, and holds.
holds_at_zero : (p : ProtocolName) (set : SetDef) (steps : List StepDef) (a : Answer) → IsConfirmation p set steps a → a.status ≡ 0
    → Holds (source_of p set) steps
holds_at_zero p set steps a (inl (holds, is)) zero = holds
holds_at_zero p set steps a (inr (e, fault, is)) zero = absurd (not_zero 0 is refl zero)

pub confirmed_at_zero : (p : ProtocolName) (digest : List ℕ) (set : SetDef) (file : RefusalDef) (a : Answer)
    → IsTiedConfirmation p digest set file a → a.status ≡ 0 → (file.digest ≡ digest) × Holds (source_of p set) file.steps
confirmed_at_zero p digest set file a tied zero =
    let own = tied_at_zero digest file.digest (IsConfirmation p set file.steps) a tied zero in
    (own.0, holds_at_zero p set file.steps a own.1 zero)
