-- The jobs that a file of jobs gives are lawful.
use Rattle.std.proofs.Common.{◌≡◌, ℕ, zero, suc, ◌+◌, ◌<◌, ◌≤◌, ◌&&◌, not, Bool, true, false, List, [], ◌∷◌, length, map, take, refl, sym, ap, ap₂}
use Rattle.std.proofs.Common.{subst, arith, Option, Some, None, Ok, option_map, is_some, is_none, if◌then◌else◌}
use Rattle.std.specs.Prelude.{unwrap_or}
use Rattle.std.specs.Option.{option_or}
use Rattle.std.specs.List.{list_all}
use Rattle.std.proofs.lemmas.Bool.{and_parts, lt-ltb, not-false}
use Rattle.std.proofs.lemmas.List.{take_more, map-append}
use Rattle.sporadic_model.specs.SetDef.{SetDef}
use Rattle.sporadic_model.specs.Users.{task_with_name, resource_with_name}
use Rattle.sporadic_model.proofs.Laws.{named_task, named_resource}
use Rattle.schedule_model.specs.JobDef.{JobDef, JobsDef}
use Rattle.schedule_model.specs.JobLists.{first_refusal, with_job}
use Rattle.schedule_model.specs.LawfulJobs.{is_resource_in, AreLawfulJobs}
use Rattle.schedule_model.specs.declared.refusal.JobRefusal.{JobRefusal}
use Rattle.schedule_model.proofs.JobListLaws.{lawful_more}
use Rattle.trace_csv.specs.Records.{Fields, line_at, records_in}
use Rattle.trace_csv.specs.Scripts.{NamedRequest, PartDef, script_in}
use Rattle.trace_csv.specs.JobLines.{tick_in, segment_written, has_known_resource, job_written, fields_refusal, form_refusal}
use Rattle.trace_csv.specs.JobLines.{at_line, line_refusal, jobs_written, refusal_at}
use Rattle.trace_csv.specs.JobAnswers.{IsOfSet}
use Rattle.trace_csv.specs.JobsFile.{job_lines}
use Rattle.trace_csv.specs.declared.refusal.JobsRefusal.{JobsRefusal}
use Rattle.trace_csv.specs.declared.refusal.JobsRefusal.TheVariants as refusal
use Rattle.command_inputs.specs.Inputs.{ReadsJobs}

-- ---- if nothing is refused

unless : (b : Bool) (r : JobsRefusal) (o : Option JobsRefusal) → (if b then Some r else o) ≡ None → (b ≡ false) × (o ≡ None)
unless true r o e = absurd (cc)
unless false r o e = (refl, e)

neither : (a b : Option JobsRefusal) → option_or a b ≡ None → (a ≡ None) × (b ≡ None)
neither None b e = (refl, e)
neither (Some r) b e = absurd (cc)

unmapped : (f : JobRefusal → JobsRefusal) (o : Option JobRefusal) → option_map f o ≡ None → o ≡ None
unmapped f None e = refl
unmapped f (Some r) e = absurd (cc)

-- ---- the job of a line is of the set

task_within : (set : SetDef) (name : List ℕ) (o : Option ℕ) → task_with_name set name ≡ o → is_none o ≡ false
    → unwrap_or o 0 < length set.tasks
task_within set name None found some = absurd (cc)
task_within set name (Some x) found some = (named_task set name x found).0

resource_within : (set : SetDef) (name : List ℕ) (o : Option ℕ) → resource_with_name set name ≡ o → is_some o ≡ true
    → unwrap_or o 0 < length set.resources
resource_within set name None found some = absurd (cc)
resource_within set name (Some q) found some = (named_resource set name q found).0

request_within : (set : SetDef) (local : ℕ) (o : Option NamedRequest)
    → has_known_resource set (record { local = local; request = o }) ≡ true
    → is_resource_in (length set.resources) (segment_written set (record { local = local; request = o })) ≡ true
request_within set local None is = refl
request_within set local (Some r) is = lt-ltb _ _ (resource_within set r.resource (resource_with_name set r.resource) refl is)

requests_within : (set : SetDef) (parts : List PartDef) → list_all (has_known_resource set) parts ≡ true
    → list_all (is_resource_in (length set.resources)) (map (segment_written set) parts) ≡ true
requests_within set [] is = refl
requests_within set (part ∷ parts) is =
    let here = and_parts (has_known_resource set part) (list_all (has_known_resource set) parts) is in
    ap₂ (λ a b. a && b) (request_within set part.local part.request here.0) (requests_within set parts here.1)

fields_of_set : (set : SetDef) (name arrival release script : List ℕ) (k : ℕ) → fields_refusal set name arrival release script k ≡ None
    → IsOfSet set (job_written set (name ∷ arrival ∷ release ∷ script ∷ []))
fields_of_set set name arrival release script k none =
    let a = unless (is_none (tick_in arrival)) (refusal.Number k) _ none in
    let b = unless (is_none (tick_in release)) (refusal.Number k) _ a.1 in
    let c = unless (is_none (task_with_name set name)) (refusal.UnknownName k) _ b.1 in
    let d = unless (is_none (script_in script)) (refusal.Script k) _ c.1 in
    let e = unless (not (list_all (has_known_resource set) (unwrap_or (script_in script) []))) (refusal.UnknownName k) None d.1 in
    record {
      task = task_within set name (task_with_name set name) refl c.0;
      resources = requests_within set (unwrap_or (script_in script) []) (not-false _ e.0);
    }

line_of_set : (set : SetDef) (line : Fields) (k : ℕ) → form_refusal set line k ≡ None → IsOfSet set (job_written set line)
line_of_set set [] k none = absurd (cc)
line_of_set set (a ∷ []) k none = absurd (cc)
line_of_set set (a ∷ b ∷ []) k none = absurd (cc)
line_of_set set (a ∷ b ∷ c ∷ []) k none = absurd (cc)
line_of_set set (a ∷ b ∷ c ∷ d ∷ []) k none = fields_of_set set a b c d k none
line_of_set set (a ∷ b ∷ c ∷ d ∷ e ∷ line) k none = absurd (cc)

-- ---- so the jobs of the lines are lawful, one line after another

one_more : (before : JobsDef) (line : Fields) (k : ℕ) → AreLawfulJobs before → line_refusal before line k ≡ None
    → AreLawfulJobs (with_job before (job_written before.set line))
one_more before line k lawful none =
    let job : JobDef = job_written before.set line in
    let parts = neither (form_refusal before.set line k) (option_map (at_line k) (first_refusal before job)) none in
    let own = line_of_set before.set line k parts.0 in
    lawful_more before job lawful own.task own.resources (unmapped (at_line k) (first_refusal before job) parts.1)

no_jobs : (set : SetDef) → AreLawfulJobs (record { set = set; jobs = [] })
no_jobs set = record { each = λ j l. absurd (omega (arith, l)); apart = λ a b l m same. absurd (omega (arith, m)) }

with_line : (set : SetDef) (lines : List Fields) (n : ℕ) → n < length lines
    → with_job (jobs_written set (take n lines)) (job_written set (line_at lines n)) ≡ jobs_written set (take (n + 1) lines)
with_line set lines n here =
    rw (take_more lines n [] here, map-append (job_written set) (take n lines) (line_at lines n ∷ [])) refl

lines_lawful : (set : SetDef) (lines : List Fields) → ((i : ℕ) → i < length lines → refusal_at set lines i ≡ None) → (n : ℕ)
    → n ≤ length lines → AreLawfulJobs (jobs_written set (take n lines))
lines_lawful set lines none zero most = no_jobs set
lines_lawful set lines none (suc n) most =
    let here : n < length lines = omega (arith, most) in
    let before : JobsDef = jobs_written set (take n lines) in
    let line : Fields = line_at lines n in
    let next : with_job before (job_written set line) ≡ jobs_written set (take (n + 1) lines) =
    with_line set lines n here in
    let more : AreLawfulJobs (with_job before (job_written set line)) =
    one_more before line (n + 1) (lines_lawful set lines none n (omega (arith, most))) (none n here) in
    let same : n + 1 ≡ suc n = omega arith in
    subst (λ m. AreLawfulJobs (jobs_written set (take m lines))) same (subst AreLawfulJobs next more)

take_all : (lines : List Fields) → take (length lines) lines ≡ lines
take_all [] = refl
take_all (line ∷ lines) = ap (λ l. line ∷ l) (take_all lines)

-- The input of jobs reads lawful jobs of the set.
pub read_lawful : (set : SetDef) (bytes : List ℕ) (list : JobsDef) → ReadsJobs set bytes (Ok list) → (list.set ≡ set) × AreLawfulJobs list
read_lawful set bytes list (are, same) =
    let lines : List Fields = job_lines (records_in bytes) in
    let all : AreLawfulJobs (jobs_written set lines) =
    subst (λ (l : List Fields). AreLawfulJobs (jobs_written set l)) (take_all lines)
    (lines_lawful set lines are.lines (length lines) (omega arith)) in
    (ap (λ (j : JobsDef). j.set) same, subst AreLawfulJobs (sym same) all)
