-- What is true of each kind of row is true of each row of a protocol.
use Rattle.std.proofs.Common.{◌≡◌, ℕ, ◌+◌, ◌<◌, Bool, true, false, [], ◌∷◌, ◌++◌, length, refl, if◌then◌else◌}
use Rattle.std.specs.List.{All}
use Rattle.std.proofs.lemmas.List.Elements.{All-nil, All-cons, All-append}
use Rattle.sporadic_model.specs.SetDef.{SetDef}
use Rattle.sporadic_model.specs.declared.ids.Protocol.{Protocol}
use Rattle.sporadic_model.specs.declared.ids.Protocol.TheVariants as protocol
use Rattle.blocking_columns.specs.Columns.{is_lower_local}
use Rattle.fragments.specs.Constraints.{ConstraintDef, per, per_where, per_pair}
use Rattle.blocking_columns.proofs.KnownColumns.{all_collected}
use Rattle.direct_constraints.specs.Rows.{request_row, time_row, turn_row, lower_holder_row, common_rows, own_rows}
use Rattle.preempt_constraints.specs.Rows.{interval_row, preemption_rows}
use Rattle.indirect_constraints.specs.Rows.{queue_row, holding_row, home_row, indirect_rows}
use Rattle.program_laws.specs.Programs.{protocol_rows, rows_of}

pub all_per : (P : ConstraintDef → Type 0) (n : ℕ) (row : ℕ → ConstraintDef) → ((k : ℕ) → k < n → P (row k)) → All P (per n row)
all_per P n row each = all_collected P n (λ k. row k ∷ []) (λ k l. All-cons P (row k) [] (each k l) (All-nil P))

pub all_per_pair : (P : ConstraintDef → Type 0) (m n : ℕ) (row : ℕ → ℕ → ConstraintDef)
    → ((x q : ℕ) → x < m → q < n → P (row x q)) → All P (per_pair m n row)
all_per_pair P m n row each = all_collected P m (λ x. per n (row x)) (λ x a. all_per P n (row x) (λ q b. each x q a b))

all_if : (P : ConstraintDef → Type 0) (b : Bool) (row : ConstraintDef) → (b ≡ true → P row) → All P (if b then row ∷ [] else [])
all_if P true row holds = All-cons P row [] (holds refl) (All-nil P)
all_if P false row holds = All-nil P

pub all_per_where : (P : ConstraintDef → Type 0) (test : ℕ → Bool) (n : ℕ) (row : ℕ → ConstraintDef)
    → ((k : ℕ) → k < n → test k ≡ true → P (row k)) → All P (per_where test n row)
all_per_where P test n row each = all_collected P n (λ k. if test k then row k ∷ [] else []) (λ k l. all_if P (test k) (row k) (each k l))

-- What is true of each row of requests and of each row of time is true of the rows that every protocol has.
pub common_each : (P : ConstraintDef → Type 0) (set : SetDef) (i : ℕ)
    → ((x q : ℕ) → x < length set.tasks → q < length set.resources → P (request_row set i x q))
    → ((x : ℕ) → x < length set.tasks → P (time_row set i x)) → All P (common_rows set i)
common_each P set i request time =
    All-append P (per_pair (length set.tasks) (length set.resources) (request_row set i)) (per (length set.tasks) (time_row set i))
    (all_per_pair P (length set.tasks) (length set.resources) (request_row set i) request)
    (all_per P (length set.tasks) (time_row set i) time)

-- What is true of each row of intervals is true of the rows of preemption.
pub preemption_each : (P : ConstraintDef → Type 0) (set : SetDef) (i : ℕ)
    → ((x : ℕ) → x < length set.tasks → is_lower_local set i x ≡ true → P (interval_row set i x)) → All P (preemption_rows set i)
preemption_each P set i interval = all_per_where P (is_lower_local set i) (length set.tasks) (interval_row set i) interval

-- Does P hold of each kind of row that the protocol has, for the analysed task i?
pub record EachKind (P : ConstraintDef → Type 0) (p : Protocol) (set : SetDef) (i : ℕ) : Type 0 where
  pub request : (x q : ℕ) → x < length set.tasks → q < length set.resources → P (request_row set i x q)
  pub time : (x : ℕ) → x < length set.tasks → P (time_row set i x)
  pub interval : (x : ℕ) → x < length set.tasks → is_lower_local set i x ≡ true → P (interval_row set i x)
  pub turn : p ≡ protocol.FmlpPlus → (x q : ℕ) → x < length set.tasks → q < length set.resources → P (turn_row set i x q)
  pub queue : p ≡ protocol.FmlpPlus → (x : ℕ) → x < length set.tasks → P (queue_row set i x)
  pub lower_holder : p ≡ protocol.Mpcp → (q : ℕ) → q < length set.resources → P (lower_holder_row set i q)
  pub holding : p ≡ protocol.Mpcp → (x : ℕ) → x < length set.tasks → P (holding_row set i x)
  pub home : p ≡ protocol.Dpcp → (k : ℕ) → k < set.processors → P (home_row set i (k + 1))

protocol_each : (P : ConstraintDef → Type 0) (p : Protocol) (set : SetDef) (i : ℕ) → EachKind P p set i → All P (protocol_rows p set i)
protocol_each P protocol.FmlpPlus set i each = All-append P
    (per_pair (length set.tasks) (length set.resources) (turn_row set i)) (per (length set.tasks) (queue_row set i))
    (all_per_pair P (length set.tasks) (length set.resources) (turn_row set i) (each.turn refl))
    (all_per P (length set.tasks) (queue_row set i) (each.queue refl))
protocol_each P protocol.Mpcp set i each = All-append P
    (per (length set.resources) (lower_holder_row set i)) (per (length set.tasks) (holding_row set i))
    (all_per P (length set.resources) (lower_holder_row set i) (each.lower_holder refl))
    (all_per P (length set.tasks) (holding_row set i) (each.holding refl))
protocol_each P protocol.Dpcp set i each = all_per P set.processors (λ k. home_row set i (k + 1)) (each.home refl)

pub each_row : (P : ConstraintDef → Type 0) (p : Protocol) (set : SetDef) (i : ℕ) → EachKind P p set i → All P (rows_of p set i)
each_row P p set i each =
    All-append P (common_rows set i) (preemption_rows set i ++ protocol_rows p set i) (common_each P set i each.request each.time)
    (All-append P (preemption_rows set i) (protocol_rows p set i) (preemption_each P set i each.interval) (protocol_each P p set i each))

-- A protocol's own rows are those of direct blocking, and after them those of indirect blocking.
pub direct_then_indirect : (p : Protocol) (set : SetDef) (i : ℕ) → own_rows p set i ++ indirect_rows p set i ≡ protocol_rows p set i
direct_then_indirect protocol.FmlpPlus set i = refl
direct_then_indirect protocol.Mpcp set i = refl
direct_then_indirect protocol.Dpcp set i = refl
