-- The bytes of jobs, and those of rows, are read in one way.
use Rattle.std.proofs.Common.{◌≡◌, ℕ, ◌<◌, List, length, drop, sym, ◌∙◌, ap, inl, inr, ◌⊎◌, Ok, Err, Some, None}
use Rattle.std.proofs.lemmas.Bool.{cases_order}
use Rattle.std.proofs.lemmas.Option.{none-some, same_Some}
use Rattle.std.specs.Prelude.{Option, Result}
use Rattle.sporadic_model.specs.SetDef.{SetDef}
use Rattle.schedule_model.specs.JobDef.{JobsDef}
use Rattle.trace_csv.specs.Records.{Fields, records_in}
use Rattle.trace_csv.specs.JobLines as jobs_lines
use Rattle.trace_csv.specs.JobsFile as jobs_file
use Rattle.trace_csv.specs.JobsFile.{HasJobsHeader, job_lines}
use Rattle.trace_csv.specs.RowLines as rows_lines
use Rattle.trace_csv.specs.RowsFile as rows_file
use Rattle.trace_csv.specs.RowsFile.{HasRowsHeader}
use Rattle.trace_csv.specs.declared.refusal.JobsRefusal.{JobsRefusal}
use Rattle.trace_csv.specs.declared.refusal.JobsRefusal.TheVariants as jobs
use Rattle.trace_csv.specs.declared.refusal.RowsRefusal.{RowsRefusal}
use Rattle.trace_csv.specs.declared.refusal.RowsRefusal.TheVariants as rows
use Rattle.command_inputs.specs.Inputs.{ReadsJobs, jobs_input, ReadsRows, rows_input}
use Rattle.run_plans.proofs.PlanLaws.{ReadsOnce}

-- There is at most one first line that is refused.
first_once : {R : Type 0} (due : ℕ → Option R) (i j : ℕ) (r s : R) → ((k : ℕ) → k < i → due k ≡ None) → due i ≡ Some r
    → ((k : ℕ) → k < j → due k ≡ None) → due j ≡ Some s → r ≡ s
first_once due i j r s before here before' here' = elim (cases_order i j) [
  | inl same ↦ same_Some r s (sym here ∙ (ap due same ∙ here'))
  | inr (inl less) ↦ absurd (none-some r (sym (before' i less) ∙ here))
  | inr (inr more) ↦ absurd (none-some s (sym (before j more) ∙ here'))
]

-- What a refusal says of a file, for any kind of lines: its header is missing, or this is the first line that is refused.
abbrev IsFileRefused : {R : Type 0} → R → Type 0 → (ℕ → R → Type 0) → R → Type 0
IsFileRefused missing HasHeader IsFirst r = ((r ≡ missing) × (HasHeader → ⊥)) ⊎ (HasHeader × ((i : ℕ) × IsFirst i r))

file_refused_once : {R : Type 0} (missing : R) (HasHeader : Type 0) (IsFirst : ℕ → R → Type 0)
    → ((i j : ℕ) (r s : R) → IsFirst i r → IsFirst j s → r ≡ s) → (r s : R)
    → IsFileRefused missing HasHeader IsFirst r → IsFileRefused missing HasHeader IsFirst s → r ≡ s
file_refused_once missing HasHeader IsFirst once r s (inl (is, without)) (inl (is', without')) = is ∙ sym is'
file_refused_once missing HasHeader IsFirst once r s (inl (is, without)) (inr (header, first)) = absurd (without header)
file_refused_once missing HasHeader IsFirst once r s (inr (header, first)) (inl (is, without)) = absurd (without header)
file_refused_once missing HasHeader IsFirst once r s (inr (header, (i, p))) (inr (header', (j, q))) = once i j r s p q

-- A file isn't refused if it has its header and none of its lines is refused.
file_accepted : {R : Type 0} (missing : R) (HasHeader : Type 0) (IsFirst : ℕ → R → Type 0) → HasHeader
    → ((i : ℕ) (r : R) → IsFirst i r → ⊥) → (r : R) → IsFileRefused missing HasHeader IsFirst r → ⊥
file_accepted missing HasHeader IsFirst there none r (inl (is, without)) = without there
file_accepted missing HasHeader IsFirst there none r (inr (header, (i, p))) = none i r p

-- An input reads such bytes in one way if it accepts them with one value, or refuses them with one refusal.
read_once : {A R : Type 0} (says : Result A R → Type 0) (Accepts : Type 0) (value : A) (Refuses : R → Type 0)
    → ((a : A) → says (Ok a) → Accepts × (a ≡ value)) → ((r : R) → says (Err r) → Refuses r)
    → (Accepts → (r : R) → Refuses r → ⊥) → ((r s : R) → Refuses r → Refuses s → r ≡ s)
    → (r s : Result A R) → says r → says s → r ≡ s
read_once says Accepts value Refuses ok err apart once (Ok a) (Ok b) p q = ap (λ x. Ok x) ((ok a p).1 ∙ sym (ok b q).1)
read_once says Accepts value Refuses ok err apart once (Ok a) (Err s) p q = absurd (apart (ok a p).0 s (err s q))
read_once says Accepts value Refuses ok err apart once (Err r) (Ok b) p q = absurd (apart (ok b q).0 r (err r p))
read_once says Accepts value Refuses ok err apart once (Err r) (Err s) p q = ap (λ x. Err x) (once r s (err r p) (err s q))

-- So a file is read in one way if it is accepted when it has its header and none of its n lines is due to be refused.
file_read_once : {A R : Type 0} (says : Result A R → Type 0) (value : A) (missing : R) (HasHeader : Type 0) (n : ℕ) (due : ℕ → Option R)
    (IsFirst : ℕ → R → Type 0) → ((a : A) → says (Ok a) → (HasHeader × ((i : ℕ) → i < n → due i ≡ None)) × (a ≡ value))
    → ((r : R) → says (Err r) → IsFileRefused missing HasHeader IsFirst r)
    → ((i : ℕ) (r : R) → IsFirst i r → (i < n) × ((k : ℕ) → k < i → due k ≡ None) × (due i ≡ Some r))
    → (r s : Result A R) → says r → says s → r ≡ s
file_read_once says value missing HasHeader n due IsFirst ok err parts =
    read_once says (HasHeader × ((i : ℕ) → i < n → due i ≡ None)) value (IsFileRefused missing HasHeader IsFirst) ok err
    (λ are. file_accepted missing HasHeader IsFirst are.0
    (λ i r p. (let first = parts i r p in none-some r (sym (are.1 i first.0) ∙ first.2))))
    (file_refused_once missing HasHeader IsFirst
    (λ i j r s p q. (let mine = parts i r p in let other = parts j s q in first_once due i j r s mine.1 mine.2 other.1 other.2)))

-- What a refusal of jobs says of their records.
abbrev AreJobsRefused : SetDef → List Fields → JobsRefusal → Type 0
AreJobsRefused set records = IsFileRefused (jobs.Fields 0) (HasJobsHeader records) (jobs_file.IsFirstRefused set (job_lines records))

jobs_refused : (set : SetDef) (bytes : List ℕ) (r : JobsRefusal) → ReadsJobs set bytes (Err r) → AreJobsRefused set (records_in bytes) r
jobs_refused set bytes (jobs.Fields line) reads = reads
jobs_refused set bytes (jobs.Number line) reads = reads
jobs_refused set bytes (jobs.UnknownName line) reads = reads
jobs_refused set bytes (jobs.Script line) reads = reads
jobs_refused set bytes (jobs.OverBudget line) reads = reads
jobs_refused set bytes (jobs.TooClose line) reads = reads
jobs_refused set bytes (jobs.TooMany line) reads = reads
jobs_refused set bytes (jobs.Late line) reads = reads
jobs_refused set bytes jobs.Memory reads = absurd reads

pub jobs_read_once : (set : SetDef) → ReadsOnce (jobs_input set)
jobs_read_once set bytes =
    let lines : List Fields = job_lines (records_in bytes) in
    file_read_once (ReadsJobs set bytes) (jobs_lines.jobs_written set lines) (jobs.Fields 0) (HasJobsHeader (records_in bytes))
    (length lines) (jobs_lines.refusal_at set lines) (jobs_file.IsFirstRefused set lines)
    (λ list reads. ((reads.0.header, reads.0.lines), reads.1)) (jobs_refused set bytes)
    (λ i r first. (first.within, first.earlier, first.here))

-- What a refusal of rows says of their records.
abbrev AreRowsRefused : JobsDef → List Fields → RowsRefusal → Type 0
AreRowsRefused list records =
    IsFileRefused (rows.Fields 0) (HasRowsHeader list.set records) (rows_file.IsFirstRefused list (drop 1 records))

rows_refused : (list : JobsDef) (bytes : List ℕ) (r : RowsRefusal) → ReadsRows list bytes (Err r) → AreRowsRefused list (records_in bytes) r
rows_refused list bytes (rows.Fields line) reads = reads
rows_refused list bytes (rows.Number line) reads = reads
rows_refused list bytes (rows.UnknownJob line) reads = reads
rows_refused list bytes (rows.TooLong line) reads = reads
rows_refused list bytes rows.Memory reads = absurd reads

pub rows_read_once : (list : JobsDef) → ReadsOnce (rows_input list)
rows_read_once list bytes =
    let lines : List Fields = drop 1 (records_in bytes) in
    file_read_once (ReadsRows list bytes) (rows_file.rows_with list (rows_lines.runs_written list lines)) (rows.Fields 0)
    (HasRowsHeader list.set (records_in bytes)) (length lines) (rows_lines.refusal_at list lines) (rows_file.IsFirstRefused list lines)
    (λ read reads. ((reads.0.header, reads.0.lines), reads.1)) (rows_refused list bytes)
    (λ i r first. (first.within, first.earlier, first.here))
