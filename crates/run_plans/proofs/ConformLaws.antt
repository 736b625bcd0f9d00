-- Laws of judging a schedule: there is one answer, with status 0 or 1.
use Rattle.std.proofs.Common.{◌≡◌, ℕ, ◌<◌, ◌++◌, ◌==◌, refl, sym, ◌∙◌, ap, subst, inl, inr, ◌⊎◌}
use Rattle.std.proofs.lemmas.Bool.{cases_order}
use Rattle.std.specs.Prelude.{Bool, List, length, codes, decimal, if◌then◌else◌, slice_index_or}
use Rattle.number_laws.specs.Sums.{collect_below}
use Rattle.number_laws.proofs.SumLaws.{collect_below-agree}
use Rattle.sporadic_model.specs.SetDef.{SetDef, task_at}
use Rattle.protocol_names.specs.declared.ProtocolName.{ProtocolName}
use Rattle.schedule_model.specs.JobDef.{JobsDef}
use Rattle.schedule_model.specs.RowDef.{Trace, trace_in, ticks_of}
use Rattle.schedule_model.specs.Fitting.{RowsDef}
use Rattle.schedule_model.specs.Keeping.{rule_number, KeepsBefore, IsFirstUnlawful}
use Rattle.schedule_model.specs.Measures.{MeasuresDef, measures_of}
use Rattle.schedule_model.specs.declared.rule.Rule.{Rule}
use Rattle.schedule_model.specs.declared.rule.Rule.TheVariants as rule
use Rattle.named_laws.specs.Named.{interference_of, rules_of}
use Rattle.schedule_answers.specs.TaskAnswers.{measure_seen, no_measure}
use Rattle.schedule_answers.specs.Conforming.{AreMeasures}
use Rattle.schedule_answers.specs.declared.judged.Measured.{Measured}
use Rattle.command_inputs.specs.Known.{Answer}
use Rattle.reply_texts.specs.Texts.{measures_line, lawful_text}
use Rattle.run_plans.specs.Commands.{IsKept, broken_answer, lawful_answer, IsConformance, conformance_of}
use Rattle.run_plans.proofs.PlanLaws.{IsLawfulWork}
use Rattle.run_plans.proofs.WorkLaws.{always, always_lawful}

-- A rule is known by its number.
rule_with : ℕ → Rule
rule_with n = if n == 1 then rule.Run else if n == 2 then rule.Keep else if n == 3 then rule.Grant
    else if n == 4 then rule.Idle else rule.Priority

rule_with_own : (r : Rule) → rule_with (rule_number r) ≡ r
unfolding rule_with
rule_with_own rule.Run = refl
rule_with_own rule.Keep = refl
rule_with_own rule.Grant = refl
rule_with_own rule.Idle = refl
rule_with_own rule.Priority = refl

same_rule : (r s : Rule) → rule_number r ≡ rule_number s → r ≡ s
same_rule r s same = sym (rule_with_own r) ∙ ap rule_with same ∙ rule_with_own s

-- No two rows are the first that breaks a rule, and no two rules are the first that this row breaks.
no_later : (keeps : Rule → Trace → ℕ → Type 0) (w : Trace) (n t u : ℕ) (r s : Rule) → IsFirstUnlawful keeps w n t r
    → IsFirstUnlawful keeps w n u s → t < u → ⊥
no_later keeps w n t u r s p q less = p.breaks.broken (q.before t less r)

no_earlier_rule : (keeps : Rule → Trace → ℕ → Type 0) (w : Trace) (n t : ℕ) (r s : Rule) → IsFirstUnlawful keeps w n t r
    → IsFirstUnlawful keeps w n t s → rule_number r < rule_number s → ⊥
no_earlier_rule keeps w n t r s p q less = p.breaks.broken (q.breaks.earlier r less)

one_tick : (keeps : Rule → Trace → ℕ → Type 0) (w : Trace) (n t u : ℕ) (r s : Rule) → IsFirstUnlawful keeps w n t r
    → IsFirstUnlawful keeps w n u s → t ≡ u
one_tick keeps w n t u r s p q = elim (cases_order t u) [
  | inl same ↦ same
  | inr (inl less) ↦ absurd (no_later keeps w n t u r s p q less)
  | inr (inr more) ↦ absurd (no_later keeps w n u t s r q p more)
]

one_rule : (keeps : Rule → Trace → ℕ → Type 0) (w : Trace) (n t : ℕ) (r s : Rule) → IsFirstUnlawful keeps w n t r
    → IsFirstUnlawful keeps w n t s → r ≡ s
one_rule keeps w n t r s p q = elim (cases_order (rule_number r) (rule_number s)) [
  | inl same ↦ same_rule r s same
  | inr (inl less) ↦ absurd (no_earlier_rule keeps w n t r s p q less)
  | inr (inr more) ↦ absurd (no_earlier_rule keeps w n t s r q p more)
]

one_broken : (keeps : Rule → Trace → ℕ → Type 0) (w : Trace) (n t u : ℕ) (r s : Rule)
    → IsFirstUnlawful keeps w n t r → IsFirstUnlawful keeps w n u s → broken_answer t r ≡ broken_answer u s
one_broken keeps w n t u r s p q =
    let ticks : t ≡ u = one_tick keeps w n t u r s p q in
    let p' : IsFirstUnlawful keeps w n u r = subst (λ x. IsFirstUnlawful keeps w n x r) ticks p in
    ap (λ x. broken_answer x r) ticks ∙ ap (λ x. broken_answer u x) (one_rule keeps w n u r s p' q)

-- A schedule that keeps the rules has no row that breaks one.
not_both : (keeps : Rule → Trace → ℕ → Type 0) (w : Trace) (n t : ℕ) (r : Rule) → KeepsBefore keeps w n
    → IsFirstUnlawful keeps w n t r → ⊥
not_both keeps w n t r kept p = p.breaks.broken (kept t p.within r)

one_kept : (keeps : Rule → Trace → ℕ → Type 0) (w : Trace) (n : ℕ) (kept a b : Answer) → IsKept keeps w n kept a
    → IsKept keeps w n kept b → a ≡ b
one_kept keeps w n kept a b (inl (holds, is)) (inl (holds', is')) = is ∙ sym is'
one_kept keeps w n kept a b (inl (holds, is)) (inr (t, r, first, is')) = absurd (not_both keeps w n t r holds first)
one_kept keeps w n kept a b (inr (t, r, first, is)) (inl (holds, is')) = absurd (not_both keeps w n t r holds first)
one_kept keeps w n kept a b (inr (t, r, first, is)) (inr (u, s, first', is')) = is ∙ one_broken keeps w n t u r s first first' ∙ sym is'

kept_status : (keeps : Rule → Trace → ℕ → Type 0) (w : Trace) (n : ℕ) (kept a : Answer) → kept.status ≡ 0 → IsKept keeps w n kept a
    → (a.status ≡ 0) ⊎ (a.status ≡ 1)
kept_status keeps w n kept a zero (inl (holds, is)) = inl (ap (λ x. x.status) is ∙ zero)
kept_status keeps w n kept a zero (inr (t, r, first, is)) = inr (ap (λ x. x.status) is)

pub kept_lawful : (keeps : Rule → Trace → ℕ → Type 0) (w : Trace) (n : ℕ) (kept : Answer) → kept.status ≡ 0
    → IsLawfulWork (always (IsKept keeps w n kept))
kept_lawful keeps w n kept zero =
    always_lawful (IsKept keeps w n kept) (one_kept keeps w n kept) (λ a is. kept_status keeps w n kept a zero is)

pub conformance_lawful : (protocol : ProtocolName) (jobs : JobsDef) (rows : RowsDef) → IsLawfulWork (conformance_of protocol jobs rows)
conformance_lawful protocol jobs rows =
    let w = trace_in jobs rows.runs in
    let n = ticks_of rows.runs in
    kept_lawful (rules_of protocol) w n (lawful_answer (interference_of protocol) w n) refl

-- Lines of tasks are the same if they say the same of each task.
pub task_lines_same : {F : Type 0} (set : SetDef) (line : List ℕ → F → List ℕ) (f g : ℕ → F)
    → ((x : ℕ) → x < length set.tasks → f x ≡ g x)
    → collect_below (length set.tasks) (λ x. line (task_at set x).name (f x))
    ≡ collect_below (length set.tasks) (λ x. line (task_at set x).name (g x))
task_lines_same set line f g same =
    collect_below-agree (length set.tasks) (λ x. line (task_at set x).name (f x)) (λ x. line (task_at set x).name (g x))
    (λ x below. ap (line (task_at set x).name) (same x below))

-- So the text with the measures that were taken is the text with the schedule's measures.
lawful_same : (set : SetDef) (n : ℕ) (f g : ℕ → MeasuresDef) → ((x : ℕ) → x < length set.tasks → f x ≡ g x)
    → lawful_text set n f ≡ lawful_text set n g
lawful_same set n f g same =
    ap (λ t. codes "lawful " ++ (decimal n ++ (codes "\n" ++ t))) (task_lines_same set measures_line f g same)

pub measured_conformance : (keeps : Rule → Trace → ℕ → Type 0) (interferes : Trace → ℕ → ℕ → Bool) (w : Trace) (n : ℕ)
    (m : Measured) (a : Answer) → KeepsBefore keeps w n × AreMeasures interferes w n m
    → a
    ≡ record { status = 0; text = lawful_text w.set n (λ x. measure_seen (slice_index_or m.tasks.items x no_measure)) }
    → IsConformance keeps interferes w n a
measured_conformance keeps interferes w n m a (kept, measures) is =
    let texts = lawful_same w.set n (λ x. measure_seen (slice_index_or m.tasks.items x no_measure))
    (measures_of interferes w n) measures.each in
    inl (kept, is ∙ ap (λ t. record { status = 0; text = t }) texts)
