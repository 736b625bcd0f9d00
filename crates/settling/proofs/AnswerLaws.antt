-- What answers of settling mean, from where they come.
use Rattle.std.proofs.Common.{◌≡◌, ℕ, ◌<◌, List, map, Ok, Err, IfOk, inl, inr, subst}
use Rattle.std.specs.Prelude.{◌↔◌, Bool, Result}
use Rattle.std.specs.declared.option.Option.{Option}
use Rattle.program_form.specs.Certificate.{CertificateDef, DualDef, dual_seen, certificate_seen}
use Rattle.program_sources.specs.Recurrence.{SourceDef}
use Rattle.program_sources.specs.Fitting.{AreFitting, AreLeastFitting, tasks_of}
use Rattle.response_fixpoint.specs.Answers.{Answers, IsBest, IsRight as IsRightVerdict}
use Rattle.response_fixpoint.specs.Rounds.{Ending, Schedulable, NotShown, Wide, Allowance, EndsIn}
use Rattle.response_fixpoint.specs.Runs.{rounds_of}
use Rattle.refusal_cert.specs.Refuting.{refuting}
use Rattle.refusal_cert.proofs.Analyses.{forget_allowance}
use Rattle.refusal_cert.specs.Answers.{Refutes, IsRight as IsRightRefutation}
use Rattle.refusal_cert.specs.declared.answer.Answer.{Answer}
use Rattle.refusal_cert.specs.declared.answer.Answer.TheVariants as refutation
use Rattle.refusal_cert.specs.declared.answer.RefuteStop.{RefuteStop}
use Rattle.refusal_cert.specs.declared.answer.RefuteStop.TheVariants as refute_stop
use Rattle.refusal_laws.specs.Seen.{steps_seen}
use Rattle.refusal_laws.specs.declared.refusal.Refusal.{Refusal}
use Rattle.response_fixpoint.specs.declared.verdict.Verdict.{Verdict}
use Rattle.response_fixpoint.specs.declared.verdict.Verdict.TheVariants as verdict
use Rattle.response_fixpoint.specs.declared.verdict.Stop.{Stop}
use Rattle.response_fixpoint.specs.declared.verdict.Stop.TheVariants as analysis_stop
use Rattle.sporadic_model.specs.declared.ids.TaskId.{TaskId}
use Rattle.program_sources.specs.Valid.{IsValid}
use Rattle.schedule_model.specs.RowDef.{Trace}
use Rattle.schedule_model.specs.declared.rule.Rule.{Rule}
use Rattle.soundness_laws.specs.Sound.{Sound}
use Rattle.soundness_laws.specs.Analyses.{AreValues}
use Rattle.settling.specs.Answers.{Settles, IsRight, IsSchedulable, Keeps, IsNotShown, IsLeftOpen, IsWideToAnalyse, IsToRefuse}
use Rattle.settling.specs.Answers.{Has64Bits, IsAnswered, IsRefusedSo, IsSound, MayBeWide, RefusesIn64Bits}
use Rattle.settling.specs.Rising.{IsProvedLeast, Rises, ShowsNothingFits, StopsLost, StopsWalk}
use Rattle.settling.specs.Walks.{walk, IsUnrefuted}
use Rattle.settling.specs.Ways.{LosesWhole, NeedsMoreBits, NoneNeedsMore}
use Rattle.settling.specs.declared.finding.Points.{Points}
use Rattle.settling.specs.declared.finding.Points.TheVariants.{Exact, Rounded}
use Rattle.settling.specs.declared.rising.Risen.{Risen}
use Rattle.settling.specs.declared.rising.Risen.TheVariants as risen
use Rattle.settling.specs.declared.answer.Settled.{Settled}
use Rattle.settling.specs.declared.answer.Settled.TheVariants as settled
use Rattle.settling.specs.declared.answer.SettleStop.{SettleStop}
use Rattle.settling.specs.declared.answer.SettleStop.TheVariants as stop
use Rattle.program_form.specs.declared.certificate.Certificate.{Certificate}

-- The rounds of an analysis end in one way.
abbrev pub HasOneEnding : SourceDef → ℕ → Type 0
HasOneEnding f allowance = (e g : Ending) → EndsIn (rounds_of f) allowance e → EndsIn (rounds_of f) allowance g → e ≡ g

left_open : (f : SourceDef) (allowance : ℕ) → HasOneEnding f allowance → IsLeftOpen f allowance → (e : Ending)
    → EndsIn (rounds_of f) allowance e → Keeps (Err (stop.Wide (record { 0 = 0 }))) e
left_open f allowance one (inl (i, wide)) e ends = inr (i, one e (Wide i) ends wide)
left_open f allowance one (inr ((i, value, late), left)) e ends = inl (i, value, one e (NotShown i value) ends late)

-- If it is left to a walk to refuse a set, the rounds leave the set open.
pub open_of : (f : SourceDef) (allowance : ℕ) → IsToRefuse f allowance → IsLeftOpen f allowance
open_of f allowance to = elim to.left [
  | inl (wide, late) ↦ inl wide
  | inr left ↦ inr left
]

-- A walk with exact points that ends late leaves it so.
pub to_refuse_of : (f : SourceDef) (allowance : ℕ) (r : Risen) (refusal : Option Refusal) → IsWideToAnalyse f allowance
    → Rises Exact f allowance r → r ≡ risen.Late refusal → IsToRefuse f allowance
to_refuse_of f allowance r refusal wide rises is =
    let shows : ShowsNothingFits Exact f allowance refusal = subst (λ (x : Risen). Rises Exact f allowance x) is rises in
    record { none = shows.none; left = inl (wide, shows.late) }

pub open_if_wide : (f : SourceDef) (allowance i : ℕ) → MayBeWide f allowance i → IsLeftOpen f allowance
open_if_wide f allowance i (inl (wide, walks, needs)) = inl wide
open_if_wide f allowance i (inr (to, unrefuted)) = open_of f allowance to

pub keeps_of : (f : SourceDef) (allowance : ℕ) (r : Result Settled SettleStop) → HasOneEnding f allowance → Settles r f allowance
    → (e : Ending) → EndsIn (rounds_of f) allowance e → Keeps r e
keeps_of f allowance (Ok (settled.Schedulable certificate)) one (inl own) e ends =
    inl (one e (Schedulable certificate.bounds.items (map dual_seen certificate.duals.items)) ends own)
keeps_of f allowance (Ok (settled.Schedulable certificate)) one (inr ((i, wide), walked)) e ends = inr (i, one e (Wide i) ends wide)
keeps_of f allowance (Ok (settled.Refused refusal)) one (inl ((i, value, late), refutes)) e ends =
    inl (i, value, one e (NotShown i value) ends late)
keeps_of f allowance (Ok (settled.Refused refusal)) one (inr (to, small)) e ends = left_open f allowance one (open_of f allowance to) e ends
keeps_of f allowance (Err (stop.Wide task)) one may e ends = left_open f allowance one (open_if_wide f allowance task.0 may) e ends
keeps_of f allowance (Err stop.Allowance) one (inl own) e ends = inl (one e Allowance ends own)
keeps_of f allowance (Err stop.Allowance) one (inr (inl ((i, wide), walked))) e ends = inr (inr (i, one e (Wide i) ends wide))
keeps_of f allowance (Err stop.Allowance) one (inr (inr (to, walked))) e ends =
    inr (left_open f allowance one (open_of f allowance to) e ends)
keeps_of f allowance (Err stop.Memory) one settles e ends = tt

-- Each verdict comes if it is right, and only then.
pub exactly_of : (f : SourceDef) (r : Result Settled SettleStop) → IfOk r (λ settled. IsRight settled f)
    → IfOk r (λ settled. IsSchedulable settled ↔ ((s : List ℕ) × AreFitting f s))
exactly_of f (Ok (settled.Schedulable certificate)) right = ((λ _. (certificate.bounds.items, right.least.fitting)), λ _. tt)
exactly_of f (Ok (settled.Refused refusal)) right = ((λ h. absurd h), λ h. absurd (right.1 h.0 h.1))
exactly_of f (Err e) right = tt

walk_within : (points : Points) (f : SourceDef) (allowance i : ℕ) → EndsIn (walk points f) allowance (Wide i) → i < tasks_of f
walk_within points f allowance i (r, left, found, here, comes, run) = here

-- The answer if the analysis gives a certificate, and if it or memory runs out.
pub answers_best : (f : SourceDef) (allowance : ℕ) (c : Certificate)
    → EndsIn (rounds_of f) allowance (Schedulable c.bounds.items (map dual_seen c.duals.items)) → IsBest f (certificate_seen c)
    → NoneNeedsMore f → IsAnswered f allowance (Ok (settled.Schedulable c))
answers_best f allowance c ends best enough = record {
  settles = inl ends;
  right = record { least = best.least; valid = best.valid; small = best.small };
  enough = enough;
  names = tt;
  bits = tt;
}

pub answers_short : (f : SourceDef) (allowance : ℕ) → EndsIn (rounds_of f) allowance Allowance → IsAnswered f allowance (Err stop.Allowance)
answers_short f allowance ends = record { settles = inl ends; right = tt; enough = tt; names = tt; bits = tt }

pub answers_nothing : (f : SourceDef) (allowance : ℕ) → IsAnswered f allowance (Err stop.Memory)
answers_nothing f allowance = record { settles = tt; right = tt; enough = tt; names = tt; bits = tt }

-- The answer of rounds of refusals that aren't wide.
pub answers_refutation : (f : SourceDef) (allowance : ℕ) (refusal : Refusal) → IsNotShown f allowance
    → Refutes (Ok (refutation.Refused refusal)) f allowance → IsRight (settled.Refused refusal) f → Has64Bits (steps_seen refusal)
    → IsAnswered f allowance (Ok (settled.Refused refusal))
answers_refutation f allowance refusal late refutes right bits =
    record { settles = inl (late, refutes); right = right; enough = tt; names = tt; bits = bits }

-- The answers of a walk with exact points: a certificate, or why it stops, or why there is no certificate.
pub answers_walked : (f : SourceDef) (allowance : ℕ) (c : Certificate) → IsWideToAnalyse f allowance
    → EndsIn (walk Exact f) allowance (Schedulable c.bounds.items (map dual_seen c.duals.items))
    → IsProvedLeast f (certificate_seen c) → NoneNeedsMore f → IsAnswered f allowance (Ok (settled.Schedulable c))
answers_walked f allowance c wide ends proved enough =
    record { settles = inr (wide, ends); right = proved; enough = enough; names = tt; bits = tt }

abbrev pub NeedsMoreIfWide : SourceDef → ℕ → Type 0
NeedsMoreIfWide f allowance = (i : ℕ) → EndsIn (walk Exact f) allowance (Wide i) → NeedsMoreBits f i

pub answers_stop : (f : SourceDef) (allowance : ℕ) (e : SettleStop) → IsWideToAnalyse f allowance → NeedsMoreIfWide f allowance
    → StopsWalk Exact f allowance e → IsAnswered f allowance (Err e)
answers_stop f allowance (stop.Wide task) wide needs ends = record {
  settles = inl (wide, inl ends, needs task.0 ends);
  right = tt;
  enough = tt;
  names = walk_within Exact f allowance task.0 ends;
  bits = tt;
}
answers_stop f allowance stop.Allowance wide needs ends =
    record { settles = inr (inl (wide, ends)); right = tt; enough = tt; names = tt; bits = tt }
answers_stop f allowance stop.Memory wide needs ends = answers_nothing f allowance

pub answers_lost : (f : SourceDef) (allowance : ℕ) (v : List ℕ) (duals : List DualDef) (e : SettleStop) → IsWideToAnalyse f allowance
    → EndsIn (walk Exact f) allowance (Schedulable v duals)
    → ((i : ℕ) → i < tasks_of f → AreLeastFitting f v → LosesWhole (f.program i v) → NeedsMoreBits f i) → StopsLost f v e
    → IsAnswered f allowance (Err e)
answers_lost f allowance v duals (stop.Wide task) wide ends needs (within, least, loses) = record {
  settles = inl (wide, inr (v, duals, ends, least, loses), needs task.0 within least loses);
  right = tt;
  enough = tt;
  names = within;
  bits = tt;
}
answers_lost f allowance v duals stop.Allowance wide ends needs stops = absurd stops
answers_lost f allowance v duals stop.Memory wide ends needs stops = answers_nothing f allowance

-- The answers where it is left to a walk to refuse the set: a refusal, or why there is none.
pub answers_refused : (f : SourceDef) (allowance : ℕ) (s : Settled) → IsToRefuse f allowance → IsRefusedSo f s
    → IsAnswered f allowance (Ok s)
answers_refused f allowance (settled.Schedulable certificate) to is = absurd is
answers_refused f allowance (settled.Refused refusal) to (right, small, bits) =
    record { settles = inr (to, small); right = right; enough = tt; names = tt; bits = bits }

pub answers_unrefuted : (f : SourceDef) (allowance : ℕ) (task : TaskId) → IsToRefuse f allowance → IsUnrefuted f allowance
    → task.0 < tasks_of f → IsAnswered f allowance (Err (stop.Wide task))
answers_unrefuted f allowance task to unrefuted within =
    record { settles = inr (to, unrefuted); right = tt; enough = tt; names = within; bits = tt }

pub answers_rounded_stop : (f : SourceDef) (allowance : ℕ) (e : SettleStop) → IsToRefuse f allowance → StopsWalk Rounded f allowance e
    → IsAnswered f allowance (Err e)
answers_rounded_stop f allowance (stop.Wide task) to ends =
    answers_unrefuted f allowance task to (inl (task.0, ends)) (walk_within Rounded f allowance task.0 ends)
answers_rounded_stop f allowance stop.Allowance to ends =
    record { settles = inr (inr (to, ends)); right = tt; enough = tt; names = tt; bits = tt }
answers_rounded_stop f allowance stop.Memory to ends = answers_nothing f allowance

-- Rounds of refusals want no more units than an analysis that doesn't show the set.
pub never_short : (f : SourceDef) (allowance : ℕ) → HasOneEnding f allowance → IsNotShown f allowance
    → EndsIn (refuting f) allowance Allowance → ⊥
never_short f allowance one (i, value, late) short =
    let same : NotShown i value ≡ Allowance = one (NotShown i value) Allowance late (forget_allowance f allowance short) in cc

-- What the endings of an analysis and of a refutation say, for each variant of the answers.
pub not_shown_of : (f : SourceDef) (allowance : ℕ) (r : Result Verdict Stop) (v : Verdict) (task : TaskId) (bound : ℕ)
    → Answers r f allowance → r ≡ Ok v → v ≡ verdict.NotShown task bound → IsNotShown f allowance
not_shown_of f allowance r v task bound answers is same =
    let ends : Answers (Ok (verdict.NotShown task bound)) f allowance =
    subst (λ (x : Verdict). Answers (Ok x) f allowance) same (subst (λ (x : Result Verdict Stop). Answers x f allowance) is answers) in
    (task.0, bound, ends)

pub shown_of : (f : SourceDef) (allowance : ℕ) (r : Result Verdict Stop) (v : Verdict) (c : Certificate)
    → Answers r f allowance → r ≡ Ok v → v ≡ verdict.Schedulable c
    → EndsIn (rounds_of f) allowance (Schedulable c.bounds.items (map dual_seen c.duals.items))
shown_of f allowance r v c answers is same =
    subst (λ (x : Verdict). Answers (Ok x) f allowance) same (subst (λ (x : Result Verdict Stop). Answers x f allowance) is answers)

pub wide_analysis_of : (f : SourceDef) (allowance : ℕ) (r : Result Verdict Stop) (e : Stop) (task : TaskId)
    → Answers r f allowance → r ≡ Err e → e ≡ analysis_stop.Wide task → EndsIn (rounds_of f) allowance (Wide task.0)
wide_analysis_of f allowance r e task answers is same =
    subst (λ (x : Stop). Answers (Err x) f allowance) same (subst (λ (x : Result Verdict Stop). Answers x f allowance) is answers)

pub short_analysis_of : (f : SourceDef) (allowance : ℕ) (r : Result Verdict Stop) (e : Stop) → Answers r f allowance → r ≡ Err e
    → e ≡ analysis_stop.Allowance → EndsIn (rounds_of f) allowance Allowance
short_analysis_of f allowance r e answers is same =
    subst (λ (x : Stop). Answers (Err x) f allowance) same (subst (λ (x : Result Verdict Stop). Answers x f allowance) is answers)

pub best_of : (f : SourceDef) (r : Result Verdict Stop) (v : Verdict) (c : Certificate) → IfOk r (λ v. IsRightVerdict v f) → r ≡ Ok v
    → v ≡ verdict.Schedulable c → IsBest f (certificate_seen c)
best_of f r v c right is same =
    subst (λ (x : Verdict). IsRightVerdict x f) same (subst (λ (x : Result Verdict Stop). IfOk x (λ v. IsRightVerdict v f)) is right)

pub wide_within : (f : SourceDef) (allowance i : ℕ) → EndsIn (rounds_of f) allowance (Wide i) → i < tasks_of f
wide_within f allowance i (r, left, found, here, comes, run) = here

pub wide_refutation_within : (f : SourceDef) (allowance i : ℕ) → EndsIn (refuting f) allowance (Wide i) → i < tasks_of f
wide_refutation_within f allowance i (r, left, found, here, comes, run) = here

pub refuted_of : (f : SourceDef) (allowance : ℕ) (r : Result Answer RefuteStop) (v : Answer) (refusal : Refusal)
    → Refutes r f allowance → r ≡ Ok v → v ≡ refutation.Refused refusal → Refutes (Ok (refutation.Refused refusal)) f allowance
refuted_of f allowance r v refusal rounds is same =
    subst (λ (x : Answer). Refutes (Ok x) f allowance) same (subst (λ (x : Result Answer RefuteStop). Refutes x f allowance) is rounds)

pub right_refusal_of : (f : SourceDef) (r : Result Answer RefuteStop) (v : Answer) (refusal : Refusal)
    → IfOk r (λ a. IsRightRefutation a f) → r ≡ Ok v → v ≡ refutation.Refused refusal → IsRight (settled.Refused refusal) f
right_refusal_of f r v refusal right is same =
    subst (λ (x : Answer). IsRightRefutation x f) same
    (subst (λ (x : Result Answer RefuteStop). IfOk x (λ a. IsRightRefutation a f)) is right)

pub wide_refutation_of : (f : SourceDef) (allowance : ℕ) (r : Result Answer RefuteStop) (e : RefuteStop) (task : TaskId)
    → Refutes r f allowance → r ≡ Err e → e ≡ refute_stop.Wide task → EndsIn (refuting f) allowance (Wide task.0)
wide_refutation_of f allowance r e task rounds is same =
    subst (λ (x : RefuteStop). Refutes (Err x) f allowance) same
    (subst (λ (x : Result Answer RefuteStop). Refutes x f allowance) is rounds)

pub short_refutation_of : (f : SourceDef) (allowance : ℕ) (r : Result Answer RefuteStop) (e : RefuteStop) → Refutes r f allowance
    → r ≡ Err e → e ≡ refute_stop.Allowance → EndsIn (refuting f) allowance Allowance
short_refutation_of f allowance r e rounds is same =
    subst (λ (x : RefuteStop). Refutes (Err x) f allowance) same
    (subst (λ (x : Result Answer RefuteStop). Refutes x f allowance) is rounds)

-- The bounds of a certificate are sound, if those of valid certificates are.
pub sound_of : (f : SourceDef) (keeps : Rule → Trace → ℕ → Type 0) (interferes : Trace → ℕ → ℕ → Bool) (r : Result Settled SettleStop)
    → IfOk r (λ settled. IsRight settled f)
    → ((c : CertificateDef) (values : List ℕ) → IsValid f c → AreValues f c values → Sound keeps interferes f.set c.bounds values)
    → IfOk r (λ settled. IsSound keeps interferes f settled)
sound_of f keeps interferes (Ok (settled.Schedulable certificate)) right law =
    λ values are. law (certificate_seen certificate) values right.valid are
sound_of f keeps interferes (Ok (settled.Refused refusal)) right law = tt
sound_of f keeps interferes (Err e) right law = tt
