-- Laws of the runs of a source's programs: a run ends in one way, takes units that are there, and gives the recurrence's value.
use Rattle.std.proofs.Common.{◌≡◌, ◌≢◌, ℕ, zero, suc, ◌+◌, ◌-◌, ◌*◌, ◌<◌, ◌≤◌, List, length, refl, sym, ◌∙◌, ap, subst, arith}
use Rattle.std.proofs.Math.Nat.{mul-le-mul_right, mul_comm}
use Rattle.std.proofs.lemmas.List.{length-map}
use Rattle.std.specs.Prelude.{slice_index}
use Rattle.number_laws.specs.Sums.{sum_below}
use Rattle.number_laws.proofs.SumLaws.{sum_below-monotone, sum_below-agree, sum_below-plus}
use Rattle.program_form.specs.Program.{IsProgram}
use Rattle.exchange_runs.proofs.Finals.{one_answer, ends_not_wide, ends_not_more, wide_not_more}
use Rattle.sporadic_model.specs.SetDef.{TaskDef, task_at}
use Rattle.sporadic_model.specs.Bounds.{AtMost}
use Rattle.program_sources.specs.Recurrence.{SourceDef, IsResponse}
use Rattle.program_sources.specs.Fitting.{NeverFalls, tasks_of, latest_of}
use Rattle.program_sources.proofs.RecurrenceLaws.{one_response}
use Rattle.response_fixpoint.specs.Rounds.{RunEnd, Valued, TooWide, OutOfUnits, Ending, Allowance, Wide, Found, Passes, Reaches, EndsIn}
use Rattle.response_fixpoint.specs.Runs.{RunEnds, rounds_of, HasNoColumns, slack_of}
use Rattle.response_fixpoint.proofs.VectorLaws.{total, total_grows}
use Rattle.response_fixpoint.proofs.RoundLaws.{passed_task, values_length}
use Rattle.response_fixpoint.proofs.OneEnd.{HaveOneEnd, one_end}
use Rattle.response_fixpoint.proofs.LeastExists.{costs_of, cost_at, cost_below}
use Rattle.response_fixpoint.proofs.EmptyRuns.{no_exchange, never_wide, no_more}

runs_once : (f : SourceDef) (r : List ℕ) (i left : ℕ) (e g : RunEnd) → IsProgram (f.program i r) → RunEnds f r i left e
    → RunEnds f r i left g → e ≡ g
runs_once f r i left (Valued u v d) (Valued u' v' d') is p q =
    let same = one_answer (f.program i r) left left p.exchanges q.exchanges p.optimum q.optimum p.best q.best d d' is p.ends q.ends in
    let units : u ≡ u' = omega (arith, p.units, q.units, same.0) in
    let values : v ≡ v' = one_response f r i v v' p.response q.response in
    ap (λ x. Valued x v d) units ∙ ap (λ x. Valued u' x d) values ∙ ap (λ x. Valued u' v' x) same.3
runs_once f r i left (Valued u v d) TooWide is p q =
    absurd (ends_not_wide (f.program i r) left left p.exchanges p.optimum p.best d is p.ends q)
runs_once f r i left (Valued u v d) OutOfUnits is p q =
    absurd (ends_not_more (f.program i r) left p.exchanges p.optimum p.best d is p.ends q)
runs_once f r i left TooWide (Valued u v d) is p q =
    absurd (ends_not_wide (f.program i r) left left q.exchanges q.optimum q.best d is q.ends p)
runs_once f r i left TooWide TooWide is p q = refl
runs_once f r i left TooWide OutOfUnits is p q = absurd (wide_not_more (f.program i r) left is p q)
runs_once f r i left OutOfUnits (Valued u v d) is p q =
    absurd (ends_not_more (f.program i r) left q.exchanges q.optimum q.best d is q.ends p)
runs_once f r i left OutOfUnits TooWide is p q = absurd (wide_not_more (f.program i r) left is q p)
runs_once f r i left OutOfUnits OutOfUnits is p q = refl

pub have_one_end : (f : SourceDef) → HaveOneEnd (rounds_of f)
have_one_end f r i left e g p q = runs_once f r i left e g p.is_program p.ends q.ends

-- The rounds of a source end in one way only.
pub one_ending : (f : SourceDef) (a : ℕ) (e g : Ending) → EndsIn (rounds_of f) a e → EndsIn (rounds_of f) a g → e ≡ g
one_ending f = one_end (rounds_of f) (have_one_end f)

-- What the tasks of a whole round have found is the recurrence, within the latest bounds.
pub round_value : (f : SourceDef) (r : List ℕ) (left : ℕ) (found : Found) → Passes (rounds_of f) r left (tasks_of f) found
    → (i : ℕ) → i < tasks_of f → IsResponse f r i (slice_index found.values i) × (slice_index found.values i ≤ latest_of f i)
round_value f r left found p i here =
    let t = passed_task (rounds_of f) r left (tasks_of f) found p i here in
    let most : t.value ≤ latest_of f i = t.within in
    (subst (λ (v : ℕ). IsResponse f r i v) (sym t.here) t.run.ends.response, rw t.here most)

-- Each program without columns takes one unit.
one_unit_each : (f : SourceDef) (r : List ℕ) (left i : ℕ) (found : Found) → HasNoColumns f → i ≤ tasks_of f
    → Passes (rounds_of f) r left i found → found.used ≡ i
one_unit_each f r left zero found none most p = ap (λ x. x.used) p
one_unit_each f r left (suc i) found none most (before, used, value, dual, passed, run, within, same) =
    let rest = one_unit_each f r left i before none (omega (arith, most)) passed in
    let solved = run.ends in
    let no : solved.exchanges ≡ 0 = no_exchange (f.program i r) (left - before.used) solved.exchanges solved.optimum
    solved.best dual run.is_program (none i r (omega (arith, most))) solved.ends in
    let sum : found.used ≡ before.used + used = ap (λ x. x.used) same in
    omega (arith, rest, no, solved.units, sum)

-- What is known of a vector that is reached: units, that the recurrence doesn't fall there, and its sum.
record IsOnTheWay (f : SourceDef) (k spent : ℕ) (r : List ℕ) : Type 0 where
  units : spent ≡ k * tasks_of f
  one_each : length r ≡ tasks_of f
  rises : (i v : ℕ) → i < tasks_of f → IsResponse f r i v → slice_index r i ≤ v
  within : (i : ℕ) → i < tasks_of f → slice_index r i ≤ latest_of f i
  grown : k + total (tasks_of f) (costs_of f) ≤ total (tasks_of f) r

-- Is each cost at most its latest bound?
abbrev pub CostsFit : SourceDef → Type 0
CostsFit f = (i : ℕ) → i < tasks_of f → (task_at f.set i).cost ≤ latest_of f i

on_the_way : (f : SourceDef) (a k spent : ℕ) (r : List ℕ) → HasNoColumns f → NeverFalls f → CostsFit f
    → Reaches (rounds_of f) a k spent r → IsOnTheWay f k spent r
on_the_way f a zero spent r none monotone fit (nothing, first) =
    let at_first : IsOnTheWay f zero spent (costs_of f) = record {
      units = nothing ∙ omega arith;
      one_each = length-map f.set.tasks (λ (t : TaskDef). t.cost);
      rises = λ i v here h. omega (arith, cost_at f i here, cost_below f (costs_of f) i v h);
      within = λ i here. omega (arith, cost_at f i here, fit i here);
      grown = omega arith;
    } in
    subst (λ (q : List ℕ). IsOnTheWay f zero spent q) (sym first) at_first
on_the_way f a (suc k) spent r none monotone fit (before, q, found, reached, passed, is, differs, sum) =
    let old = on_the_way f a k before q none monotone fit reached in
    let n = tasks_of f in
    let value = round_value f q (a - before) found passed in
    let up : AtMost n q found.values = λ i here. old.rises i (slice_index found.values i) here (value i here).0 in
    let count : length found.values ≡ n = values_length (rounds_of f) q (a - before) n found passed in
    let other : q ≢ found.values = λ e. differs (e ∙ sym is) in
    let grows : total n q < total n found.values = total_grows n q found.values old.one_each count up other in
    let one = one_unit_each f q (a - before) n found none (omega arith) passed in
    let units : spent ≡ suc k * n = sum ∙ rw (old.units, one) (omega arith) in
    let next : IsOnTheWay f (suc k) spent found.values = record {
      units = units;
      one_each = count;
      rises = λ i v here h. monotone q found.values i (slice_index found.values i) v here up (value i here).0 h;
      within = λ i here. (value i here).1;
      grown = omega (arith, grows, old.grown);
    } in
    subst (λ (x : List ℕ). IsOnTheWay f (suc k) spent x) (sym is) next

-- Without columns the rounds never end in Wide.
pub rounds_never_wide : (f : SourceDef) (a i : ℕ) → HasNoColumns f → EndsIn (rounds_of f) a (Wide i) → ⊥
rounds_never_wide f a i none (r, left, found, here, comes, run) = never_wide (f.program i r) left run.is_program (none i r here) run.ends

-- Without columns an allowance of a unit for each task and each tick of slack, and one round more, is enough.
pub never_short : (f : SourceDef) (a : ℕ) → HasNoColumns f → NeverFalls f → CostsFit f
    → tasks_of f * (1 + slack_of f) ≤ a → EndsIn (rounds_of f) a Allowance → ⊥
never_short f a none monotone fit enough (r, i, left, found, here, comes, run) =
    let n = tasks_of f in
    let way = on_the_way f a comes.rounds comes.spent r none monotone fit comes.reached in
    let at_costs : total n (costs_of f) ≡ sum_below n (λ k. (task_at f.set k).cost) =
    sum_below-agree n _ _ (λ k below. cost_at f k below) in
    let most : total n r ≤ sum_below n (latest_of f) = sum_below-monotone n _ _ way.within in
    let parts : sum_below n (λ k. (latest_of f k - (task_at f.set k).cost) + (task_at f.set k).cost)
    ≡ slack_of f + sum_below n (λ k. (task_at f.set k).cost)
    = sum_below-plus n (λ k. latest_of f k - (task_at f.set k).cost) (λ k. (task_at f.set k).cost) in
    let whole : sum_below n (λ k. (latest_of f k - (task_at f.set k).cost) + (task_at f.set k).cost) ≡ sum_below n (latest_of f)
    = sum_below-agree n _ _ (λ k below. omega (arith, fit k below)) in
    let rounds : comes.rounds ≤ slack_of f = omega (arith, way.grown, at_costs, most, parts, whole) in
    let used : found.used ≡ i = one_unit_each f r (a - comes.spent) i found none (omega (arith, here)) comes.passed in
    let times : (comes.rounds + 1) * n ≤ (1 + slack_of f) * n = mul-le-mul_right n (omega (arith, rounds)) in
    let some : 0 < left = omega (arith, comes.units, used, way.units, times, enough, here, mul_comm n (1 + slack_of f)) in
    no_more (f.program i r) left run.is_program (none i r here) some run.ends
