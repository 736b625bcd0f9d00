-- How ticks are counted while a schedule is judged: by places of the table, in its order.
use Rattle.std.specs.Prelude.{◌≡◌, ℕ, ◌+◌, ◌<◌, ◌≤◌, ◌==◌, ◌&&◌, Bool, false, nat_lt, if◌then◌else◌, Option, None, Some, option_map}
use Rattle.std.specs.Prelude.{unwrap_or}
use Rattle.std.specs.Option.{option_map_or}
use Rattle.std.specs.Ordering.{nat_cmp, ordering_then}
use Rattle.std.specs.declared.cmp.Ordering.{Ordering}
use Rattle.std.specs.BTreeMap.{BTreeMap, get}
use Rattle.number_laws.specs.Sums.{only_if}
use Rattle.number_laws.specs.Tests.{count_below}
use Rattle.sporadic_model.specs.declared.limits.TheConstants.{MOST_TICKS}
use Rattle.schedule_model.specs.RowDef.{Trace}
use Rattle.schedule_model.specs.Activity.{task_of}
use Rattle.blocking_columns.specs.ClassOrder.{class_rank}
use Rattle.blocking_columns.specs.contracts.columns.ClassOrd.TheImpl as class_order
use Rattle.blocking_columns.specs.declared.columns.Class.{Class}
use Rattle.charge_laws.specs.Charges.{Charge}
use Rattle.charge_laws.specs.Windows.{bound_end}
use Rattle.charge.specs.declared.tally.ChargePlace.{ChargePlace}
use Rattle.charge.specs.Requests.{ChargedRequest, charged_request}
use Rattle.charge.specs.Table.{ItemDef}

-- The place of a request to which job j is charged.
abbrev pub place_of : ℕ → ChargedRequest → ChargePlace
place_of j r = record { blocked = j; blocker = r.job; request = r.number; resource = r.resource; class = r.class }

-- The item of a place with this many ticks.
abbrev pub item_of : ChargePlace × ℕ → ItemDef
item_of e = record {
  blocked = e.0.blocked;
  blocker = e.0.blocker;
  request = e.0.request;
  resource = e.0.resource;
  class = e.0.class;
  ticks = e.1;
}

-- The order of classes as keys.
abbrev pub by_class : Class → Class → Ordering
by_class = (class_order.ghosts).cmp

-- The order of places.
abbrev pub place_cmp : ChargePlace → ChargePlace → Ordering
place_cmp a b =
    ordering_then (nat_cmp a.blocked b.blocked) (ordering_then (nat_cmp a.blocker b.blocker)
    (ordering_then (nat_cmp a.request b.request) (ordering_then (nat_cmp a.resource b.resource) (by_class a.class b.class))))

abbrev pub is_same_place : ChargePlace → ChargePlace → Bool
is_same_place a b =
    (a.blocked == b.blocked) && ((a.blocker == b.blocker)
    && ((a.request == b.request) && ((a.resource == b.resource) && (class_rank a.class == class_rank b.class))))

-- Is it the named place?
abbrev pub is_place : ChargePlace → Option ChargePlace → Bool
is_place p named = option_map_or (λ q. is_same_place q p) named false

-- The number, or none if it is 0.
abbrev pub positive : ℕ → Option ℕ
positive n = if n == 0 then None else Some n

-- Has the map each place's count, and no entry for a count of 0?
abbrev pub IsTally : BTreeMap ChargePlace ℕ → (ChargePlace → ℕ) → Type 0
IsTally ticks count = (p : ChargePlace) → get place_cmp ticks p ≡ positive (count p)

-- What the map has at the place.
abbrev pub count_at : BTreeMap ChargePlace ℕ → ChargePlace → ℕ
count_at ticks p = unwrap_or (get place_cmp ticks p) 0

-- Can this many ticks be added at any place? They are one at least, and neither they nor the count of a place are more than a schedule has.
pub record CanAddTicks (ticks : BTreeMap ChargePlace ℕ) (more : ℕ) : Type 0 where
  pub some : 1 ≤ more
  pub most : more ≤ MOST_TICKS
  pub room : (p : ChargePlace) → count_at ticks p ≤ MOST_TICKS

-- Has the map this many more ticks than before at the named place, and else the counts that it had?
abbrev pub CountsMore : BTreeMap ChargePlace ℕ → BTreeMap ChargePlace ℕ → Option ChargePlace → ℕ → Type 0
CountsMore before after named more =
    (count : ChargePlace → ℕ) → IsTally before count → IsTally after (λ p. count p + only_if (is_place p named) more)

-- To which place is tick t counted for job j? To none if j's window has ended.
abbrev pub place_at : (Trace → ℕ → ℕ → Option Charge) → Trace → (ℕ → ℕ) → ℕ → ℕ → Option ChargePlace
place_at charges w bound t j =
    if nat_lt t (bound_end w bound j) then option_map (place_of j) (charged_request charges w t j) else None

-- How many ticks before t are counted to the place, for its blocked job?
unfoldable pub ticks_before : (Trace → ℕ → ℕ → Option Charge) → Trace → (ℕ → ℕ) → ℕ → ChargePlace → ℕ
ticks_before charges w bound t p = count_below t (λ u. is_place p (place_at charges w bound u p.blocked))

-- For each job: are the n ticks from tick t on all counted to the same place as the first of them?
abbrev pub AreCountedAlike : (Trace → ℕ → ℕ → Option Charge) → Trace → (ℕ → ℕ) → ℕ → ℕ → Type 0
AreCountedAlike charges w bound t n = (i j : ℕ) → i < n → place_at charges w bound (t + i) j ≡ place_at charges w bound t j

-- The count before t and n ticks more that are counted as tick t is, for the jobs of the first x tasks.
unfoldable pub ticks_with : (Trace → ℕ → ℕ → Option Charge) → Trace → (ℕ → ℕ) → ℕ → ℕ → ℕ → ChargePlace → ℕ
ticks_with charges w bound t n x p =
    ticks_before charges w bound t p
    + only_if (nat_lt (task_of w p.blocked) x && is_place p (place_at charges w bound t p.blocked)) n
