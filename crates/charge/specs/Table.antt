-- The table of charges: each blocked tick of each job's window, counted with the request to which it is charged.
use Rattle.std.specs.Prelude.{◌≡◌, ℕ, ◌<◌, ◌==◌, ◌&&◌, Bool, true, false, List, length, Option}
use Rattle.std.specs.Option.{option_map_or}
use Rattle.std.specs.List.{All, Contains}
use Rattle.std.specs.List.Sorted.{IsStrictlySortedBy}
use Rattle.std.specs.Ordering.{nat_cmp, ordering_then}
use Rattle.std.specs.declared.cmp.Ordering.{Ordering}
use Rattle.number_laws.specs.Tests.{count_below}
use Rattle.schedule_model.specs.RowDef.{Trace}
use Rattle.schedule_model.specs.BlockedTicks.{is_blocked}
use Rattle.blocking_columns.specs.ClassOrder.{class_rank, class_cmp}
use Rattle.blocking_columns.specs.declared.columns.Class.{Class}
use Rattle.charge_laws.specs.Charges.{Charge}
use Rattle.charge_laws.specs.Windows.{window_end}
use Rattle.charge.specs.declared.item.ChargeItem.{ChargeItem}
use Rattle.charge.specs.Requests.{ChargedRequest, charged_request}

-- A number of ticks of job `blocked` that are charged to this request of job `blocker`, in this way.
pub record ItemDef : Type 0 where
  pub blocked : ℕ
  pub blocker : ℕ
  pub request : ℕ
  pub resource : ℕ
  pub class : Class
  pub ticks : ℕ

-- What a contract sees of an item.
abbrev pub item_seen : ChargeItem → ItemDef
item_seen i = record {
  blocked = i.blocked.0;
  blocker = i.blocker.0;
  request = i.request;
  resource = i.resource.0;
  class = i.class;
  ticks = i.ticks;
}

-- Is it the item's request?
abbrev pub is_of : ItemDef → Option ChargedRequest → Bool
is_of item named =
    option_map_or (λ r. (r.job == item.blocker) && ((r.number == item.request)
    && ((r.resource == item.resource) && (class_rank r.class == class_rank item.class)))) named false

-- How many ticks of its window is the item's blocked job charged to the item's request, in a schedule of n rows?
unfoldable pub charged_ticks : (Trace → ℕ → ℕ → Option Charge) → Trace → (ℕ → ℕ) → ℕ → ItemDef → ℕ
charged_ticks charges w bound n item =
    count_below (window_end w bound n item.blocked) (λ t. is_of item (charged_request charges w t item.blocked))

-- The order of the table: by the blocked job, its blocker, the request, and the class.
abbrev pub item_cmp : ItemDef → ItemDef → Ordering
item_cmp a b =
    ordering_then (nat_cmp a.blocked b.blocked) (ordering_then (nat_cmp a.blocker b.blocker)
    (ordering_then (nat_cmp a.request b.request) (class_cmp a.class b.class)))

-- Is it the table of a schedule of n rows? It is strictly in order. Each item is of a listed job, and has all its ticks, at least one. Each
-- blocked tick of each job's window has an item.
pub record IsChargeTable (charges : Trace → ℕ → ℕ → Option Charge) (interferes : Trace → ℕ → ℕ → Bool) (w : Trace) (bound : ℕ → ℕ)
    (n : ℕ) (items : List ItemDef) : Type 0 where
  pub sorted : IsStrictlySortedBy item_cmp items
  pub listed : All (λ item. item.blocked < length w.jobs) items
  pub some : All (λ item. 0 < item.ticks) items
  pub counted : All (λ item. item.ticks ≡ charged_ticks charges w bound n item) items
  pub all : (t j : ℕ) → j < length w.jobs → t < window_end w bound n j → is_blocked interferes w t j ≡ true
      → (item : ItemDef) × Contains items item × (item.blocked ≡ j) × (is_of item (charged_request charges w t j) ≡ true)
