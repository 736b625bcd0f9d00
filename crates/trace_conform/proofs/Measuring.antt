-- The measures by the counts are those of the schedule.
use Rattle.std.proofs.Common.{◌≡◌, ℕ, zero, suc, ◌+◌, ◌-◌, ◌<◌, ◌==◌, ◌&&◌, Bool, true, false, List, length, refl, ap}
use Rattle.std.proofs.Common.{◌∙◌, sym, subst, arith, get_or, None, Some, max}
use Rattle.std.specs.Prelude.{if◌then◌else◌}
use Rattle.std.proofs.lemmas.Bool.{and_parts}
use Rattle.number_laws.specs.Sums.{only_if}
use Rattle.number_laws.specs.Tests.{count_below}
use Rattle.number_laws.proofs.CountLaws.{count_below-agree}
use Rattle.schedule_model.specs.JobDef.{job_of}
use Rattle.schedule_model.specs.JobDef.{JobsDef}
use Rattle.schedule_model.specs.RowDef.{Trace, RowDef, jobs_of}
use Rattle.schedule_model.specs.Phase.{is_finished}
use Rattle.schedule_model.specs.Measures.{MeasuresDef, greatest_below, has_finished, response_of, blocking_of}
use Rattle.schedule_model.specs.Measures.{counts_for, finished_jobs, measures_of}
use Rattle.phase_machine.specs.MachineDef.{MachineDef, task_in, under}
use Rattle.phase_machine.specs.Shows.{Shows}
use Rattle.phase_machine.proofs.Facts.{phase_shown}
use Rattle.trace_conform.specs.declared.counts.JobCount.{JobCount}
use Rattle.trace_conform.specs.Counts.{count_at, AreCounts}
use Rattle.schedule_answers.specs.declared.judged.Measured.{Measured}
use Rattle.schedule_answers.specs.Conforming.{AreMeasures}
use Rattle.trace_walk.proofs.Reaching.{over}
use Rattle.schedule_answers.specs.TaskAnswers.{no_measure, measure_seen}
use Rattle.trace_conform.specs.Measured.{counts_now, response_now, blocking_now, measures_now}

-- One value more.
pub greatest_next : (n : ℕ) (f : ℕ → ℕ) → greatest_below (n + 1) f ≡ max (greatest_below n f) (f n)
greatest_next n f = let e : n + 1 ≡ suc n = omega arith in ap (λ k. greatest_below k f) e

greatest_agree : (n : ℕ) (f g : ℕ → ℕ) → ((k : ℕ) → k < n → f k ≡ g k) → greatest_below n f ≡ greatest_below n g
greatest_agree zero f g h = refl
greatest_agree (suc n) f g h = ap (λ a. max a (f n)) (greatest_agree n f g (λ k l. h k (omega arith)))
    ∙ ap (max (greatest_below n g)) (h n (omega arith))

only_same : (b : Bool) (n m : ℕ) → (b ≡ true → n ≡ m) → only_if b n ≡ only_if b m
only_same true n m h = h refl
only_same false n m h = refl

-- The measures made of these numbers.
abbrev measures_from : ℕ → ℕ → ℕ → MeasuresDef
measures_from finished response blocking =
    record { finished = finished; response = if finished == 0 then None else Some response; blocking = blocking }

counts_shown : (m : MachineDef) (rows : ℕ → RowDef) (x j : ℕ) → Shows m rows → j < length m.list.jobs
    → counts_now m x j ≡ counts_for (under m rows) m.tick x j
unfolding counts_now counts_for has_finished
counts_shown m rows x j shows l = ap (λ p. (task_in m.list.jobs j == x) && is_finished p) (phase_shown m rows j shows l)

finished_of : (w : Trace) (n x j : ℕ) → counts_for w n x j ≡ true → has_finished w n j ≡ true
unfolding counts_for
finished_of w n x j h = (and_parts _ _ h).1

response_shown : (interferes : Trace → ℕ → ℕ → Bool) (m : MachineDef) (rows : ℕ → RowDef) (counts : List JobCount)
    (x j : ℕ) → Shows m rows → AreCounts interferes (under m rows) m.tick counts → j < length m.list.jobs
    → response_now m counts x j ≡ only_if (counts_for (under m rows) m.tick x j) (response_of (under m rows) m.tick j)
unfolding response_now response_of
response_shown interferes m rows counts x j shows are l =
    ap (λ b. only_if b ((count_at counts j).end - (job_of m.list.jobs j).release)) (counts_shown m rows x j shows l)
    ∙ only_same (counts_for (under m rows) m.tick x j) _ _
    (λ h. ap (λ e. e - (job_of m.list.jobs j).release) (are.end j l (finished_of (under m rows) m.tick x j h)))

blocking_shown : (interferes : Trace → ℕ → ℕ → Bool) (m : MachineDef) (rows : ℕ → RowDef) (counts : List JobCount)
    (x j : ℕ) → AreCounts interferes (under m rows) m.tick counts → j < length m.list.jobs
    → blocking_now m counts x j ≡ only_if (task_in m.list.jobs j == x) (blocking_of interferes (under m rows) m.tick j)
unfolding blocking_now
blocking_shown interferes m rows counts x j are l = ap (only_if (task_in m.list.jobs j == x)) (are.blocked j l)

-- The measures of task x.
pub measured : (interferes : Trace → ℕ → ℕ → Bool) (m : MachineDef) (rows : ℕ → RowDef) (counts : List JobCount) (x : ℕ)
    → Shows m rows → AreCounts interferes (under m rows) m.tick counts
    → measures_now m counts x ≡ measures_of interferes (under m rows) m.tick x
unfolding measures_now measures_of finished_jobs
measured interferes m rows counts x shows are =
    let a : count_below (length m.list.jobs) (counts_now m x) ≡ count_below (length m.list.jobs) (counts_for (under m rows) m.tick x) =
    count_below-agree (length m.list.jobs) (counts_now m x) (counts_for (under m rows) m.tick x) (λ j l. counts_shown m rows x j shows l) in
    let b : greatest_below (length m.list.jobs) (response_now m counts x) ≡ greatest_below (length m.list.jobs)
    (λ j. only_if (counts_for (under m rows) m.tick x j) (response_of (under m rows) m.tick j)) =
    greatest_agree (length m.list.jobs) _ _ (λ j l. response_shown interferes m rows counts x j shows are l) in
    let c : greatest_below (length m.list.jobs) (blocking_now m counts x) ≡ greatest_below (length m.list.jobs)
    (λ j. only_if (task_in m.list.jobs j == x) (blocking_of interferes (under m rows) m.tick j)) =
    greatest_agree (length m.list.jobs) _ _ (λ j l. blocking_shown interferes m rows counts x j are l) in
    ap
    (λ n. measures_from n (greatest_below (length m.list.jobs) (response_now m counts x))
    (greatest_below (length m.list.jobs) (blocking_now m counts x))) a
    ∙ ap
    (λ n. measures_from (count_below (length m.list.jobs) (counts_for (under m rows) m.tick x)) n
    (greatest_below (length m.list.jobs) (blocking_now m counts x))) b
    ∙ ap (measures_from (count_below (length m.list.jobs) (counts_for (under m rows) m.tick x))
    (greatest_below (length m.list.jobs) (λ j. only_if (counts_for (under m rows) m.tick x j) (response_of (under m rows) m.tick j)))) c

-- So are those of all tasks, of the schedule whose rows the machine has taken.
pub measures_are : (m : MachineDef) (counts : List JobCount) (answer : Measured) → length answer.tasks.items ≡ length m.list.set.tasks
    → ((x : ℕ) → x < length m.list.set.tasks → measure_seen (get_or answer.tasks.items x no_measure) ≡ measures_now m counts x)
    → (interferes : Trace → ℕ → ℕ → Bool) (w : Trace) → m.list ≡ jobs_of w → Shows m w.row → AreCounts interferes w m.tick counts
    → AreMeasures interferes w m.tick answer
measures_are m counts answer size each interferes w list shows counted =
    let of_machine : AreCounts interferes (over m.list w.row) m.tick counts =
    subst (λ (l : JobsDef). AreCounts interferes (over l w.row) m.tick counts) (sym list) counted in
    let measures : AreMeasures interferes (over m.list w.row) m.tick answer = record {
      size = size;
      each = λ x l. each x l ∙ measured interferes m w.row counts x shows of_machine;
    } in
    subst (λ (l : JobsDef). AreMeasures interferes (over l w.row) m.tick answer) list measures
