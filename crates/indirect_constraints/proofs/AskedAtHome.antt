-- The columns of a task under DPCP are of homes where it makes requests, and rows of other homes are not there.
use Rattle.std.proofs.Common.{◌≡◌, ℕ, ◌<◌, ◌==◌, ◌&&◌, ◌||◌, not, true, false, List, [], ◌∷◌, map, length, refl}
use Rattle.std.proofs.Common.{◌∙◌, nat_lt, nat_le, inl, inr}
use Rattle.std.proofs.Math.Bool.{and-false}
use Rattle.std.proofs.lemmas.Bool.{and_parts, cases_Bool, both_ways, eqb-true, eq-eqb, not-true}
use Rattle.std.proofs.lemmas.List.Elements.{All-head, All-tail, All-same}
use Rattle.number_laws.specs.Sums.{sum_below, only_if}
use Rattle.number_laws.proofs.SumLaws.{sum_below-no_term}
use Rattle.number_laws.proofs.TestLaws.{any_below-some}
use Rattle.sporadic_model.specs.SetDef.{SetDef}
use Rattle.sporadic_model.specs.Users.{is_user, count_of}
use Rattle.sporadic_model.specs.Homes.{home_in}
use Rattle.sporadic_model.specs.declared.ids.Protocol.TheVariants as protocol
use Rattle.blocking_columns.specs.declared.columns.Class.{Class}
use Rattle.blocking_columns.specs.declared.columns.Class.TheVariants as class
use Rattle.blocking_columns.specs.declared.columns.Fragment.{Fragment}
use Rattle.blocking_columns.specs.Ceilings.{ceiling_rank}
use Rattle.blocking_columns.specs.ColumnDef.{ColumnDef, column_seen, is_preemption}
use Rattle.blocking_columns.specs.Columns.{is_column, may_block, requests_beside, columns_of}
use Rattle.fragments.specs.Constraints.{holds_some}
use Rattle.blocking_columns.proofs.KnownColumns.{columns_pass, columns_known, all_mapped}
use Rattle.indirect_constraints.specs.Asked.{IsAskedAtHome, AreAskedAtHome}
use Rattle.indirect_constraints.specs.Rows.{home_row}

-- What blocks directly or indirectly is of a home where the analysed task requests something.
asked_there : (set : SetDef) (i x q : ℕ) (k : Class) → q < length set.resources → may_block protocol.Dpcp set i x q k ≡ true
    → is_preemption k ≡ false
    → (r : ℕ) × (r < length set.resources) × (is_user set r i ≡ true) × (home_in set r ≡ home_in set q)
asked_there set i x q class.Direct l h p = (q, l, h, refl)
asked_there set i x q class.Indirect l h p =
    let beside = (and_parts (not (nat_lt i x) || nat_le (ceiling_rank set q) i) (requests_beside set i q) h).1 in
    let some = any_below-some (length set.resources) (λ r. not (r == q) && (is_user set r i && (home_in set r == home_in set q))) beside in
    let parts = and_parts (is_user set some.0 i) (home_in set some.0 == home_in set q)
    (and_parts (not (some.0 == q)) (is_user set some.0 i && (home_in set some.0 == home_in set q)) some.2).1 in
    (some.0, some.1, parts.0, eqb-true (home_in set some.0) (home_in set q) parts.1)
asked_there set i x q class.Preemption l h p = absurd cc

asked_at_home : (set : SetDef) (i : ℕ) (c : ColumnDef) → c.resource < length set.resources
    → is_column protocol.Dpcp set i c ≡ true → IsAskedAtHome set i c
asked_at_home set i c l h p = asked_there set i c.task c.resource c.class l
    (and_parts (not (c.task == i) && is_user set c.resource c.task) (may_block protocol.Dpcp set i c.task c.resource c.class) h).1 p

pub columns_asked_at_home : (set : SetDef) (i : ℕ) (cs : List Fragment)
    → map column_seen cs ≡ columns_of protocol.Dpcp set i → AreAskedAtHome set i cs
columns_asked_at_home set i cs same = all_mapped (IsAskedAtHome set i) column_seen cs
    (All-same (IsAskedAtHome set i) (map column_seen cs) (columns_of protocol.Dpcp set i) same
    (λ k d l. asked_at_home set i _ (columns_known protocol.Dpcp set i k d l).1 (columns_pass protocol.Dpcp set i k d l)))

-- A sum of requests at a home that is zero counts no user of one of its resources.
no_count : (set : SetDef) (i k : ℕ) → sum_below (length set.resources) (λ q. only_if (home_in set q == k) (count_of set i q)) ≡ 0
    → (q : ℕ) → q < length set.resources → is_user set q i ≡ true → home_in set q ≡ k → ⊥
no_count set i k none q l user home =
    let term : only_if (home_in set q == k) (count_of set i q) ≡ 0 =
    sum_below-no_term (length set.resources) (λ q. only_if (home_in set q == k) (count_of set i q)) none q l in
    let here : (home_in set q == k) ≡ true = eq-eqb (home_in set q) k home in
    let zero : count_of set i q ≡ 0 = rw here at term in
    both_ways (is_user set q i) (rw zero refl) user

home_fails : (set : SetDef) (i k : ℕ) → sum_below (length set.resources) (λ q. only_if (home_in set q == k) (count_of set i q)) ≡ 0
    → (c : ColumnDef) → IsAskedAtHome set i c → nat_lt 0 ((home_row set i k).coefficient c) ≡ false
home_fails set i k none c asked = elim (cases_Bool ((not (is_preemption c.class) && nat_lt i c.task) && (home_in set c.resource == k))) [
  | inl all ↦
      let parts = and_parts (not (is_preemption c.class) && nat_lt i c.task) (home_in set c.resource == k) all in
      let waits : not (is_preemption c.class) ≡ true = (and_parts (not (is_preemption c.class)) (nat_lt i c.task) parts.0).0 in
      let own = asked (not-true (is_preemption c.class) waits) in
      let home : home_in set own.0 ≡ k = own.3 ∙ eqb-true (home_in set c.resource) k parts.1 in
      absurd (no_count set i k none own.0 own.1 own.2 home)
  | inr apart ↦ rw apart refl
]

-- A row of a home where the analysed task requests nothing is not there.
pub no_home : (set : SetDef) (i k : ℕ) → sum_below (length set.resources) (λ q. only_if (home_in set q == k) (count_of set i q)) ≡ 0
    → (cs : List Fragment) → AreAskedAtHome set i cs → holds_some (map column_seen cs) (home_row set i k) ≡ false
no_home set i k none [] h = refl
no_home set i k none (c ∷ cs) h =
    let P : Fragment → Type 0 = λ f. IsAskedAtHome set i (column_seen f) in
    rw (home_fails set i k none (column_seen c) (All-head P c cs h)) (no_home set i k none cs (All-tail P c cs h))

-- No column of a task that isn't lower has a coefficient in the row of a home.
pub home_alone : (set : SetDef) (i k : ℕ) (c : ColumnDef) → nat_lt i c.task ≡ false → (home_row set i k).coefficient c ≡ 0
home_alone set i k c other = rw (other, and-false) refl
