-- The columns of a task are of requests that are made, and rows of others are not there.
use Rattle.std.proofs.Common.{◌≡◌, ℕ, ◌==◌, ◌&&◌, not, true, false, List, [], ◌∷◌, map, refl, nat_lt, inl, inr}
use Rattle.std.proofs.Math.Bool.{and-false}
use Rattle.std.proofs.lemmas.Bool.{and_parts, cases_Bool, both_ways, eqb-true}
use Rattle.std.proofs.lemmas.List.Elements.{All-head, All-tail, All-same, All-weaker}
use Rattle.sporadic_model.specs.SetDef.{SetDef, is_higher_local}
use Rattle.sporadic_model.specs.Users.{is_user}
use Rattle.sporadic_model.specs.declared.ids.Protocol.{Protocol}
use Rattle.sporadic_model.specs.declared.ids.Protocol.TheVariants as protocol
use Rattle.blocking_columns.specs.declared.columns.Class.{Class}
use Rattle.blocking_columns.specs.declared.columns.Class.TheVariants as class
use Rattle.blocking_columns.specs.declared.columns.Fragment.{Fragment}
use Rattle.blocking_columns.specs.ColumnDef.{ColumnDef, column_seen, is_direct}
use Rattle.blocking_columns.specs.Columns.{is_column, may_block, columns_of}
use Rattle.fragments.specs.Constraints.{ConstraintDef, holds_some}
use Rattle.blocking_columns.proofs.KnownColumns.{columns_pass, all_mapped}
use Rattle.direct_constraints.specs.Asked.{IsAskedFor, AreAskedFor}
use Rattle.direct_constraints.specs.Rows.{lower_holder_row}

-- What blocks directly is of a resource that the analysed task uses.
direct_user : (p : Protocol) (set : SetDef) (i x q : ℕ) (k : Class) → may_block p set i x q k ≡ true
    → is_direct k ≡ true → is_user set q i ≡ true
direct_user protocol.Mpcp set i x q class.Direct h d = (and_parts (not (is_higher_local set i x)) (is_user set q i) h).1
direct_user protocol.FmlpPlus set i x q class.Direct h d = (and_parts (not (is_higher_local set i x)) (is_user set q i) h).1
direct_user protocol.Dpcp set i x q class.Direct h d = h
direct_user p set i x q class.Indirect h d = absurd cc
direct_user p set i x q class.Preemption h d = absurd cc

asked_for : (p : Protocol) (set : SetDef) (i : ℕ) (c : ColumnDef) → is_column p set i c ≡ true → IsAskedFor set i c
asked_for p set i c h =
    let parts = and_parts (not (c.task == i) && is_user set c.resource c.task) (may_block p set i c.task c.resource c.class) h in
    ((and_parts (not (c.task == i)) (is_user set c.resource c.task) parts.0).1, direct_user p set i c.task c.resource c.class parts.1)

pub columns_asked : (p : Protocol) (set : SetDef) (i : ℕ) (cs : List Fragment) → map column_seen cs ≡ columns_of p set i
    → AreAskedFor set i cs
columns_asked p set i cs same = all_mapped (IsAskedFor set i) column_seen cs
    (All-same (IsAskedFor set i) (map column_seen cs) (columns_of p set i) same
    (All-weaker (λ c. is_column p set i c ≡ true) (IsAskedFor set i) (asked_for p set i) (columns_of p set i) (columns_pass p set i)))

-- A row in which each column fails is not there.
none_held : (set : SetDef) (i : ℕ) (row : ConstraintDef) → ((c : ColumnDef) → IsAskedFor set i c → nat_lt 0 (row.coefficient c) ≡ false)
    → (cs : List Fragment) → AreAskedFor set i cs → holds_some (map column_seen cs) row ≡ false
none_held set i row fails [] h = refl
none_held set i row fails (c ∷ cs) h =
    let P : Fragment → Type 0 = λ f. IsAskedFor set i (column_seen f) in
    rw (fails (column_seen c) (All-head P c cs h)) (none_held set i row fails cs (All-tail P c cs h))

lower_holder_fails : (set : SetDef) (i q : ℕ) → is_user set q i ≡ false → (c : ColumnDef) → IsAskedFor set i c
    → nat_lt 0 ((lower_holder_row set i q).coefficient c) ≡ false
lower_holder_fails set i q unused c asked = elim (cases_Bool (((c.resource == q) && is_direct c.class) && nat_lt i c.task)) [
  | inl all ↦
      let parts = and_parts (c.resource == q) (is_direct c.class)
      (and_parts ((c.resource == q) && is_direct c.class) (nat_lt i c.task) all).0 in
      let resource : c.resource ≡ q = eqb-true c.resource q parts.0 in
      let none : is_user set c.resource i ≡ false = rw resource unused in
      absurd (both_ways (is_user set c.resource i) none (asked.1 parts.1))
  | inr apart ↦ rw apart refl
]

-- No column waits for lower holders of a resource that the analysed task doesn't use.
pub no_lower_holders : (set : SetDef) (i q : ℕ) → is_user set q i ≡ false → (cs : List Fragment) → AreAskedFor set i cs
    → holds_some (map column_seen cs) (lower_holder_row set i q) ≡ false
no_lower_holders set i q unused cs asked = none_held set i (lower_holder_row set i q) (lower_holder_fails set i q unused) cs asked

-- No column of a task that isn't lower has a coefficient in a row of lower holders.
pub lower_holders_alone : (set : SetDef) (i q : ℕ) (c : ColumnDef) → nat_lt i c.task ≡ false → (lower_holder_row set i q).coefficient c ≡ 0
lower_holders_alone set i q c other = rw (other, and-false) refl
