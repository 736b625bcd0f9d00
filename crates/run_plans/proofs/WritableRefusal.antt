-- A refusal that the rounds give can be written: its tasks and values have 64 bits, and its points are small.
use Rattle.std.proofs.Common.{◌≡◌, ℕ, zero, suc, ◌+◌, ◌-◌, ◌*◌, ◌/◌, ◌^◌, ◌<◌, ◌≤◌}
use Rattle.std.proofs.Common.{List, [], ◌∷◌, ◌++◌, length, sym, ap, subst, arith, inl, inr}
use Rattle.std.specs.Prelude.{slice_index, neg_ℤ, unsigned_abs}
use Rattle.std.proofs.Math.Nat.{div-le_self, mul-le-mul_left}
use Rattle.std.proofs.lemmas.Bool.{cases_lt}
use Rattle.std.proofs.lemmas.Int.{ints}
use Rattle.std.proofs.lemmas.Grind.{div_ceil_times}
use Rattle.std.proofs.lemmas.List.Elements.{All-nil, All-cons, All-append}
use Rattle.number_laws.specs.Sums.{only_if, collect_below}
use Rattle.number_laws.proofs.SumLaws.{sum_below-monotone, sum_below-constant}
use Rattle.fraction128.specs.Fraction.{Fraction, IsForm}
use Rattle.program_form.specs.Program.{ProgramDef, height}
use Rattle.program_form.specs.Certificate.{DualDef}
use Rattle.program_form.proofs.Duality.{optimum_reached}
use Rattle.exchange_runs.specs.Table.{variables}
use Rattle.exchange_runs.specs.Outcomes.{EndsWithin}
use Rattle.exchange_runs.proofs.Once.{forms}
use Rattle.exchange_runs.proofs.Finals.{ends_at_optimum}
use Rattle.sporadic_model.specs.SetDef.{SetDef, task_at, is_higher_local, jobs_within, latest_bound}
use Rattle.sporadic_model.specs.Accepted.{IsAccepted, TaskNumbers}
use Rattle.sporadic_model.proofs.Laws.{numbers_of_accepted, sizes_of_accepted}
use Rattle.sporadic_model.specs.declared.ids.Protocol.TheVariants as protocol
use Rattle.program_sources.specs.Recurrence.{SourceDef, interference_of, interference_by}
use Rattle.program_sources.specs.Valid.{dual_at}
use Rattle.program_laws.proofs.SmallNumbers.{only_if_small}
use Rattle.program_laws.proofs.WrittenPrograms.{interfering_most}
use Rattle.spin_charging.proofs.SpinPrograms.{cost_most}
use Rattle.response_fixpoint.specs.Rounds.{NotShown, Valued, Found, Reaches, Passes, EndsIn}
use Rattle.response_fixpoint.proofs.RoundLaws.{passed_task}
use Rattle.refusal_laws.specs.Steps.{StepDef, costs_of}
use Rattle.refusal_laws.proofs.StepLaws.{cost_at}
use Rattle.refusal_cert.specs.Refuting.{IsWritten, PointRuns, refuting}
use Rattle.refusal_cert.specs.Steps.{step_of, steps_over, round_steps, way_steps, refusal_of}
use Rattle.refusal_cert.proofs.RoundSteps.{step_above, no_step_below}
use Rattle.refusal_cert.proofs.Led.{point_value}
use Rattle.cert_json.specs.Ranges.{IsSmallDual}
use Rattle.refusal_json.specs.Ranges.{IsWritableStep, IsWritable}
use Rattle.protocol_names.specs.declared.ProtocolName.{ProtocolName}
use Rattle.protocol_names.specs.declared.ProtocolName.TheVariants as name
use Rattle.named_laws.specs.Named.{source_of}

-- ---- points

small_point : (best : List Fraction) (point : DualDef) → IsWritten best point → IsSmallDual point
small_point best point w = record {
  positive = omega (arith, w.least.positive);
  small = omega (arith, w.small_den);
  numerators = λ k d here. omega (arith, w.small_num k d here);
}

-- ---- values

-- The whole part of an optimum that a run ends at has 63 bits.
small_optimum : (p : ProgramDef) (left k : ℕ) (value : Fraction) (best : List Fraction) (d : DualDef)
    (is : EndsWithin p left k value best d)
    → IsForm (is.table.cell (height p) (variables p)) → unsigned_abs value.num < 2 ^ 63
small_optimum p left k value best d is form =
    let cell : Fraction = is.table.cell (height p) (variables p) in
    let same : unsigned_abs value.num ≡ unsigned_abs (neg_ℤ cell.num) =
    ap (λ (f : Fraction). unsigned_abs f.num) is.read_off.is_value in
    omega (arith, ints, same, form.small_num)

-- The ticks that count for jobs of a higher task are at most three of the greatest periods.
one_task_small : (window bound period cost : ℕ) → 1 ≤ period → cost ≤ period → window ≤ 1000000000 → bound ≤ 1000000000
    → period ≤ 1000000000 → jobs_within window bound period * cost ≤ 3000000000
one_task_small window bound period cost some within w b p =
    let jobs : ℕ = jobs_within window bound period in
    let times = div_ceil_times (window + bound) period some in
    let more : jobs * cost ≤ jobs * period = mul-le-mul_left jobs within in
    omega (arith, more, times.1, w, b, p)

interfering_small : (n : ProtocolName) (set : SetDef) (h : ℕ) → TaskNumbers set h → (source_of n set).interfering h ≤ (task_at set h).cost
interfering_small (name.Base p) set h numbers = interfering_most p set h numbers
interfering_small name.Dflp set h numbers = numbers.local_to
interfering_small name.Spin set h numbers = cost_most set h
interfering_small name.DpcpWindows set h numbers = interfering_most protocol.Dpcp set h numbers
interfering_small name.FmlpPlusCloser set h numbers = interfering_most protocol.FmlpPlus set h numbers
interfering_small name.SpinCloser set h numbers = cost_most set h
interfering_small name.DpcpCloser set h numbers = interfering_most protocol.Dpcp set h numbers
interfering_small name.DflpCloser set h numbers = numbers.local_to
interfering_small name.MpcpCloser set h numbers = interfering_most protocol.Mpcp set h numbers

interference_small : (n : ProtocolName) (set : SetDef) (r : List ℕ) (i : ℕ) → IsAccepted set → i < length set.tasks
    → ((h : ℕ) → h < length set.tasks → slice_index r h ≤ latest_bound (task_at set h))
    → interference_of (source_of n set).interfering set r i ≤ i * 3000000000
interference_small n set r i accepted here within =
    let g : ℕ → ℕ = (source_of n set).interfering in
    let each : (h : ℕ) → h < i → only_if (is_higher_local set i h) (interference_by g set r i h) ≤ 3000000000 = λ h below.
    (let there : h < length set.tasks = omega (arith, below, here) in
    let own = numbers_of_accepted set i accepted here in
    let other = numbers_of_accepted set h accepted there in
    only_if_small (is_higher_local set i h) (interference_by g set r i h) 3000000000
    (one_task_small (slice_index r i) (slice_index r h + (task_at set h).jitter - g h) (task_at set h).period (g h)
    (omega (arith, other.cost_from, other.cost_to, other.deadline_to))
    (omega (arith, interfering_small n set h other, other.cost_to, other.deadline_to))
    (omega (arith, within i here, own.deadline_to, own.period_to))
    (omega (arith, within h there, other.jitter_to, other.deadline_to, other.period_to))
    (omega (arith, other.period_to)))) in
    omega (
      arith,
      sum_below-monotone i (λ h. only_if (is_higher_local set i h) (interference_by g set r i h)) (λ h. 3000000000) each,
      sum_below-constant i 3000000000,
    )

-- The value of a run has 64 bits.
value_small : (n : ProtocolName) (set : SetDef) (r : List ℕ) (i left used value : ℕ) (point : DualDef) → IsAccepted set
    → i < length set.tasks → ((h : ℕ) → h < length set.tasks → slice_index r h ≤ latest_bound (task_at set h))
    → PointRuns (source_of n set) r i left (Valued used value point) → value < 2 ^ 64
value_small n set r i left used value point accepted here within (dual, run, given) =
    let f : SourceDef = source_of n set in
    let p : ProgramDef = f.program i r in
    let solved = run.ends in
    let optimum = ends_at_optimum p left solved.exchanges solved.optimum solved.best dual solved.ends in
    let num : ℕ = unsigned_abs solved.optimum.num in
    let den : ℕ = unsigned_abs solved.optimum.den in
    let own = optimum_reached p num den optimum.optimum in
    let b : ℕ = solved.response.blocking in
    let most : b ≤ num / den = own.greatest b solved.response.greatest.reached in
    let whole : num / den ≤ num = div-le_self num den in
    let form = forms p solved.exchanges solved.ends.table run.is_program solved.ends.run.reached (height p) (variables p) (omega arith) in
    let short = small_optimum p left solved.exchanges solved.optimum solved.best dual solved.ends form in
    let numbers = numbers_of_accepted set i accepted here in
    let few = sizes_of_accepted set accepted in
    omega (
      arith,
      solved.response.response,
      most,
      whole,
      short,
      interference_small n set r i accepted here within,
      numbers.cost_to,
      numbers.deadline_to,
      numbers.period_to,
      here,
      few.tasks_to,
    )

-- ---- steps

-- The step of a run whose value is above the task's bound can be written.
step_writable : (n : ProtocolName) (set : SetDef) (r : List ℕ) (i left used value : ℕ) (point : DualDef) → IsAccepted set
    → i < length set.tasks → ((h : ℕ) → h < length set.tasks → slice_index r h ≤ latest_bound (task_at set h))
    → PointRuns (source_of n set) r i left (Valued used value point) → slice_index r i < value → IsWritableStep (step_of i value point)
step_writable n set r i left used value point accepted here within (dual, run, given) above = record {
  task = let few = sizes_of_accepted set accepted in omega (arith, here, few.tasks_to);
  value = value_small n set r i left used value point accepted here within (dual, run, given);
  point = small_point run.ends.best point (given.above above);
}

steps_writable : (n : ProtocolName) (set : SetDef) (r : List ℕ) (i left used value : ℕ) (point : DualDef) → IsAccepted set
    → i < length set.tasks → ((h : ℕ) → h < length set.tasks → slice_index r h ≤ latest_bound (task_at set h))
    → PointRuns (source_of n set) r i left (Valued used value point) → IsWritable (steps_over (slice_index r i) i value point)
steps_writable n set r i left used value point accepted here within run = elim (cases_lt (slice_index r i) value) [
  | inl above ↦
      subst (λ (xs : List StepDef). IsWritable xs) (sym (step_above (slice_index r i) i value point above))
      (All-cons IsWritableStep (step_of i value point) []
      (step_writable n set r i left used value point accepted here within run above) (All-nil IsWritableStep))
  | inr most ↦
      subst (λ (xs : List StepDef). IsWritable xs) (sym (no_step_below (slice_index r i) i value point most)) (All-nil IsWritableStep)
]

all_below : (n : ℕ) (f : ℕ → List StepDef) → ((k : ℕ) → k < n → IsWritable (f k)) → IsWritable (collect_below n f)
all_below zero f each = All-nil IsWritableStep
all_below (suc n) f each =
    All-append IsWritableStep (collect_below n f) (f n) (all_below n f (λ k below. each k (omega (arith, below)))) (each n (omega arith))

round_writable : (n : ProtocolName) (set : SetDef) (r : List ℕ) (left i : ℕ) (found : Found) → IsAccepted set → i ≤ length set.tasks
    → ((h : ℕ) → h < length set.tasks → slice_index r h ≤ latest_bound (task_at set h))
    → Passes (refuting (source_of n set)) r left i found → IsWritable (round_steps r found i)
round_writable n set r left i found accepted most within passed =
    all_below i (λ k. steps_over (slice_index r k) k (slice_index found.values k) (dual_at found.duals k)) (λ k below.
    (let t = passed_task (refuting (source_of n set)) r left i found passed k below in
    let own = steps_writable n set r k (left - t.before.used) t.used t.value t.dual accepted (omega (arith, below, most)) within t.run in
    subst (λ (v : ℕ). IsWritable (steps_over (slice_index r k) k v (dual_at found.duals k))) (sym t.here)
    (subst (λ (d : DualDef). IsWritable (steps_over (slice_index r k) k t.value d)) (sym t.dual_here) own)))

-- The vectors on the way are within the latest bounds.
reached_within : (n : ProtocolName) (set : SetDef) (a k used : ℕ) (r : List ℕ) → IsAccepted set
    → Reaches (refuting (source_of n set)) a k used r
    → (h : ℕ) → h < length set.tasks → slice_index r h ≤ latest_bound (task_at set h)
reached_within n set a zero used r accepted (nothing, first) h here =
    let numbers = numbers_of_accepted set h accepted here in
    let same : slice_index r h ≡ slice_index (costs_of set) h = ap (λ (x : List ℕ). slice_index x h) first in
    omega (arith, same, cost_at set h here, numbers.jitter_to)
reached_within n set a (suc k) used r accepted (before, q, found, reached, passed, is, differs, sum) h here =
    let value = point_value (source_of n set) q (a - before) found passed h here in
    let same : slice_index r h ≡ slice_index found.values h = ap (λ (x : List ℕ). slice_index x h) is in
    omega (arith, same, value.1)

way_writable : (n : ProtocolName) (set : SetDef) (a k used : ℕ) (r : List ℕ) → IsAccepted set
    → (way : Reaches (refuting (source_of n set)) a k used r) → IsWritable (way_steps (refuting (source_of n set)) a k used r way)
way_writable n set a zero used r accepted way = All-nil IsWritableStep
way_writable n set a (suc k) used r accepted (before, q, found, reached, passed, is, differs, sum) =
    All-append IsWritableStep (way_steps (refuting (source_of n set)) a k before q reached) (round_steps q found (length set.tasks))
    (way_writable n set a k before q accepted reached)
    (round_writable n set q (a - before) (length set.tasks) found accepted (omega arith)
    (reached_within n set a k before q accepted reached)
    passed)

pub refusal_writable : (n : ProtocolName) (set : SetDef) (a i v : ℕ) → IsAccepted set
    → (ends : EndsIn (refuting (source_of n set)) a (NotShown i v))
    → IsWritable (refusal_of (refuting (source_of n set)) a (NotShown i v) ends)
refusal_writable n set a i v accepted (r, left, found, used, point, below, comes, run, late) =
    let within = reached_within n set a comes.rounds comes.spent r accepted comes.reached in
    let past : slice_index r i < v = omega (arith, within i below, late) in
    let way : List StepDef = way_steps (refuting (source_of n set)) a comes.rounds comes.spent r comes.reached in
    All-append IsWritableStep (way ++ round_steps r found i) (step_of i v point ∷ [])
    (All-append IsWritableStep way (round_steps r found i) (way_writable n set a comes.rounds comes.spent r accepted comes.reached)
    (round_writable n set r (a - comes.spent) i found accepted (omega (arith, below)) within comes.passed))
    (All-cons IsWritableStep (step_of i v point) [] (step_writable n set r i left used v point accepted below within run past)
    (All-nil IsWritableStep))
