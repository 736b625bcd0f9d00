-- The row of holdings, under MPCP. What is charged indirectly is divided by the resource that the job waits for and by the task that holds
-- it. The holdings of that resource by that task pay for each part.
use Rattle.std.proofs.Common.{◌≡◌, ℕ, ◌*◌, ◌<◌, ◌≤◌, ◌==◌, ◌&&◌, not, Bool, true, length, sym, ap, ◌∙◌, arith, Some, nat_lt}
use Rattle.std.proofs.lemmas.Bool.{eqb-true, ltb-true}
use Rattle.number_laws.specs.Sums.{sum_below, only_if}
use Rattle.number_laws.proofs.SumLaws.{only_if-at_most}
use Rattle.sporadic_model.specs.Users.{count_of, length_of}
use Rattle.schedule_model.specs.RowDef.{Trace, holder_in}
use Rattle.schedule_model.specs.Phase.{phase_of}
use Rattle.schedule_model.specs.Phase.Phase.{Asking}
use Rattle.schedule_model.specs.Activity.{task_of, processor_of}
use Rattle.schedule_model.specs.Ranks.{mpcp}
use Rattle.schedule_model.specs.Protocols.{shared_rule}
use Rattle.schedule_model.specs.Keeping.{KeepsBefore}
use Rattle.schedule_laws.proofs.Ticks.{open_between}
use Rattle.schedule_laws.proofs.Holders.{shared_holder_stays}
use Rattle.blocking_columns.specs.ColumnDef.{is_indirect}
use Rattle.charge_laws.specs.Charges.{shared_charge}
use Rattle.charge_laws.specs.Windows.{window_end}
use Rattle.row_laws.specs.Meeting.{brings}
use Rattle.row_laws.proofs.Brings.{Window, Hit, hit, flag_times-at_most, only_if-parts}
use Rattle.row_laws.proofs.SlotRow.{OneRequest, Shares}
use Rattle.row_laws.proofs.Numbers.{paid_by_each}
use Rattle.row_laws.proofs.LowerHolders.{Asks, asks_between, held_since}
use Rattle.row_laws.proofs.Holdings.{holding_share, own_resource, first_holder, Held, held_at, holding_one}

-- What is known of the row that is met.
pub record Holding (w : Trace) (bound : ℕ → ℕ) (n j x s : ℕ) (share : ℕ → ℕ → ℕ) : Type 0 where
  pub window : Window shared_charge w bound n j
  pub keeps : KeepsBefore (shared_rule mpcp) w n
  pub fair : (y q : ℕ) → share y q * length_of w.set y q ≤ s

-- What a tick contributes to the row. Of that, what is contributed while j waits for q. Of that, the part while lower tasks hold q, and
-- while others do. And of the latter the part while task y does, and while its job z does.
abbrev pub amount : Trace → ℕ → ℕ → (ℕ → ℕ → ℕ) → ℕ → ℕ
amount w j x share t = brings shared_charge w (holding_share x share) j t

abbrev pub for_resource : Trace → ℕ → ℕ → (ℕ → ℕ → ℕ) → ℕ → ℕ → ℕ
for_resource w j x share q t = only_if (own_resource w j t == q) (amount w j x share t)

abbrev pub is_low : Trace → ℕ → ℕ → Bool
is_low w j t = nat_lt (task_of w j) (task_of w (first_holder w j t))

abbrev pub low_part : Trace → ℕ → ℕ → (ℕ → ℕ → ℕ) → ℕ → ℕ → ℕ
low_part w j x share q t = only_if (is_low w j t) (for_resource w j x share q t)

abbrev pub high_part : Trace → ℕ → ℕ → (ℕ → ℕ → ℕ) → ℕ → ℕ → ℕ
high_part w j x share q t = only_if (not (is_low w j t)) (for_resource w j x share q t)

abbrev pub task_part : Trace → ℕ → ℕ → (ℕ → ℕ → ℕ) → ℕ → ℕ → ℕ → ℕ
task_part w j x share q y t = only_if (task_of w (first_holder w j t) == y) (high_part w j x share q t)

abbrev pub job_part : Trace → ℕ → ℕ → (ℕ → ℕ → ℕ) → ℕ → ℕ → ℕ → ℕ → ℕ
job_part w j x share q y z t = only_if (first_holder w j t == z) (task_part w j x share q y t)

shares_of : (w : Trace) (bound : ℕ → ℕ) (n j x s : ℕ) (share : ℕ → ℕ → ℕ) → Holding w bound n j x s share
    → Shares w s share (holding_share x share)
shares_of w bound n j x s share c =
    record { fair = c.fair; small = λ k. flag_times-at_most ((k.task == x) && is_indirect k.class) (share k.task k.resource) }

-- What a tick that counts for q says.
pub record ForResource (w : Trace) (j x : ℕ) (share : ℕ → ℕ → ℕ) (q t : ℕ) : Type 0 where
  pub resource : own_resource w j t ≡ q
  pub hits : Hit shared_charge w (holding_share x share) j t
  pub facts : Held w t j x hits.charge.job

pub for_resource_is : (w : Trace) (bound : ℕ → ℕ) (n j x s : ℕ) (share : ℕ → ℕ → ℕ) (q t : ℕ) → Holding w bound n j x s share
    → t < window_end w bound n j → 0 < for_resource w j x share q t
    → ForResource w j x share q t
for_resource_is w bound n j x s share q t c l some =
    let parts : ((own_resource w j t == q) ≡ true) × (0 < amount w j x share t) =
    only_if-parts (own_resource w j t == q) (amount w j x share t) some in
    let h : Hit shared_charge w (holding_share x share) j t = hit shared_charge w (holding_share x share) j t parts.1 in
    record { resource = eqb-true _ _ parts.0; hits = h; facts = held_at mpcp w bound n t j x share c.window c.keeps (omega arith) h }

-- While lower tasks hold q there is one for each request of q by j.
pub low_paid : (w : Trace) (bound : ℕ → ℕ) (n j x s : ℕ) (share : ℕ → ℕ → ℕ) (q : ℕ) → Holding w bound n j x s share
    → sum_below (window_end w bound n j) (λ t. low_part w j x share q t) ≤ count_of w.set (task_of w j) q * s
low_paid w bound n j x s share q c =
    paid_by_each shared_charge w bound n j j q s share (holding_share x share) (λ t. low_part w j x share q t) c.window
    (shares_of w bound n j x s share c) c.window.listed
    (record {
      below = λ t l. below t;
      asks = λ t l some h. let a : ForResource w j x share q t = (low t l some).1 in (a.facts.number, asks_q t a);
      one = λ u v k order l first second a b early late. together u v k order l (low u (omega arith) first).1 (low v l second).0
          (low v l second).1 a b early late;
    }) where
      below : (t : ℕ) → low_part w j x share q t ≤ amount w j x share t
      below t = omega (
        arith,
        only_if-at_most (is_low w j t) (for_resource w j x share q t),
        only_if-at_most (own_resource w j t == q)
            (amount w j x share t),
      )

      low : (t : ℕ) → t < window_end w bound n j → 0 < low_part w j x share q t
          → (task_of w j < task_of w (first_holder w j t)) × ForResource w j x share q t
      low t l some =
          let parts : (is_low w j t ≡ true) × (0 < for_resource w j x share q t) =
          only_if-parts (is_low w j t) (for_resource w j x share q t) some in
          (ltb-true _ _ parts.0, for_resource_is w bound n j x s share q t c l parts.1)

      asks_q : (t : ℕ) → (a : ForResource w j x share q t) → phase_of w t j ≡ Asking a.facts.number q
      asks_q t a = a.facts.asks ∙ ap (Asking a.facts.number) a.resource

      together : (u v k : ℕ) → u ≤ v → v < window_end w bound n j → ForResource w j x share q u
          → task_of w j < task_of w (first_holder w j v) → ForResource w j x share q v
          → (a : Hit shared_charge w (holding_share x share) j u) → (b : Hit shared_charge w (holding_share x share) j v)
          → phase_of w u j ≡ Asking k q → phase_of w v j ≡ Asking k q → OneRequest w u v a.charge.job b.charge.job
      together u v k order l early lower late a b here there =
          let asks : Asks w u v q j = asks_between w u v k q q j order early.facts.active here there in
          let holder : holder_in (w.row v) q ≡ Some (first_holder w j v) =
          ap (holder_in (w.row v)) (sym late.resource) ∙ late.facts.holder in
          let b_facts : Held w v j x b.charge.job = held_at mpcp w bound n v j x share c.window c.keeps (omega arith) b in
          holding_one mpcp w bound n u v q (first_holder w j v) j x share c.window c.keeps order l a b b_facts.processor
          (held_since w n u v q (first_holder w j v) j c.keeps (omega arith) asks lower holder)

-- Job z holds q, in its request of that number, and j waits for it.
pub record JobHolds (w : Trace) (j q z t : ℕ) : Type 0 where
  pub number : ℕ
  pub phase : phase_of w t z ≡ Asking number q
  pub holder : holder_in (w.row t) q ≡ Some z
  pub first : first_holder w j t ≡ z

-- While job z of y holds q there is one for each request of q by z.
pub job_paid : (w : Trace) (bound : ℕ → ℕ) (n j x s : ℕ) (share : ℕ → ℕ → ℕ) (q y z : ℕ) → Holding w bound n j x s share
    → z < length w.jobs → task_of w z ≡ y
    → sum_below (window_end w bound n j) (λ t. job_part w j x share q y z t) ≤ count_of w.set y q * s
job_paid w bound n j x s share q y z c listed task =
    rw task at (paid_by_each shared_charge w bound n j z q s share (holding_share x share) (λ t. job_part w j x share q y z t) c.window
    (shares_of w bound n j x s share c) listed
    (record {
      below = λ t l. below t;
      asks = λ t l some h. let a : JobHolds w j q z t = holds t l some in (a.number, a.phase);
      one = λ u v k order l first second a b early late. together u v k order l (holds u (omega arith) first) (holds v l second) a b
          early late;
    })) where
      below : (t : ℕ) → job_part w j x share q y z t ≤ amount w j x share t
      below t = omega (
        arith,
        only_if-at_most (first_holder w j t == z) (task_part w j x share q y t),
        only_if-at_most
            (task_of w (first_holder w j t) == y) (high_part w j x share q t),
        only_if-at_most (not (is_low w j t))
            (for_resource w j x share q t),
        only_if-at_most (own_resource w j t == q) (amount w j x share t),
      )

      holds : (t : ℕ) → t < window_end w bound n j → 0 < job_part w j x share q y z t → JobHolds w j q z t
      holds t l some =
          let one : ((first_holder w j t == z) ≡ true) × (0 < task_part w j x share q y t) =
          only_if-parts (first_holder w j t == z) (task_part w j x share q y t) some in
          let two : ((task_of w (first_holder w j t) == y) ≡ true) × (0 < high_part w j x share q t) =
          only_if-parts (task_of w (first_holder w j t) == y) (high_part w j x share q t) one.1 in
          let three : (not (is_low w j t) ≡ true) × (0 < for_resource w j x share q t) =
          only_if-parts (not (is_low w j t)) (for_resource w j x share q t) two.1 in
          let a : ForResource w j x share q t = for_resource_is w bound n j x s share q t c l three.1 in
          let job : first_holder w j t ≡ z = eqb-true _ _ one.0 in
          record {
            number = a.facts.holding;
            phase = ap (phase_of w t) (sym job) ∙ a.facts.held ∙ ap (Asking a.facts.holding) a.resource;
            holder = ap (holder_in (w.row t)) (sym a.resource) ∙ a.facts.holder ∙ ap (λ i. Some i) job;
            first = job;
          }

      together : (u v k : ℕ) → u ≤ v → v < window_end w bound n j → JobHolds w j q z u → JobHolds w j q z v
          → (a : Hit shared_charge w (holding_share x share) j u) → (b : Hit shared_charge w (holding_share x share) j v)
          → phase_of w u z ≡ Asking k q → phase_of w v z ≡ Asking k q → OneRequest w u v a.charge.job b.charge.job
      together u v k order l early late a b here there =
          let b_facts : Held w v j x b.charge.job = held_at mpcp w bound n v j x share c.window c.keeps (omega arith) b in
          holding_one mpcp w bound n u v q z j x share c.window c.keeps order l a b (b_facts.processor ∙ ap (processor_of w) late.first)
          (λ t from before. shared_holder_stays mpcp w n u t q z k q c.keeps from (omega arith) here
          (open_between w u t v z k q q here there from before) early.holder)
