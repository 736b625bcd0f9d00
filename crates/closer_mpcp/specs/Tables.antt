-- What searches and limits look up. In each, i is the analysed task.
use Rattle.std.specs.Prelude.{◌≡◌, ℕ, ◌*◌, ◌<◌, ◌≤◌, nat_lt, Bool, List, [], length, slice_index, slice_index_or}
use Rattle.number_laws.specs.Sums.{sum_below, only_if}
use Rattle.sporadic_model.specs.SetDef.{SetDef}
use Rattle.sporadic_model.specs.Users.{used_by, count_of, length_of}
use Rattle.blocking_columns.specs.Windows.{requests_in, requests_during}
use Rattle.closer_laws.specs.CloserRows.{is_shared_out}
use Rattle.closer_mpcp_laws.specs.CloserMpcpRows.{goes_first}
use Rattle.mpcp_window_laws.specs.MpcpWindows.{longest_first, time_first, longest_lower_holding, ticks_instead}
use Rattle.mpcp_window_laws.specs.WaitRows.{requests_in_waits}
use Rattle.shared_requests.specs.Held.{AreSharedOut}
use Rattle.closer_mpcp.specs.Given.{AreRequestsIn}
use Rattle.closer_mpcp.specs.Holdings.{held_beside}
use Rattle.closer_mpcp.specs.Sums.{made_on, made_beside, AreSumsOf, AreSumsOfUsed, AreLowerSums}
use Rattle.closer_mpcp.specs.declared.first_ticks.FirstTicks.{FirstTicks}
use Rattle.closer_mpcp.specs.declared.lower_holders.OtherHolders.{OtherHolders}
use Rattle.closer_mpcp.specs.declared.sums.Sums.{Sums}

-- Is it said how long x's requests of r last, if they go first while another task of its processor holds q: one, and all that one job makes?
pub record AreFirstOfResource (set : SetDef) (x q r : ℕ) (first : FirstTicks) : Type 0 where
  pub longest : first.longest ≡ only_if (goes_first set x r q) (length_of set x r)
  pub all : first.all ≡ only_if (goes_first set x r q) (count_of set x r * length_of set x r)
  pub longest_to : first.longest ≤ 1000000000
  pub all_to : first.all ≤ 1000000000000

-- Is it said how long x's requests last that go first while another task of its processor holds q: the longest one, and all that one job
-- makes?
pub record AreFirstOf (set : SetDef) (x q : ℕ) (first : FirstTicks) : Type 0 where
  pub longest : first.longest ≡ longest_first set x q
  pub all : first.all ≡ time_first set x q
  pub longest_to : first.longest ≤ 1000000000
  pub all_to : first.all ≤ 32000000000000

-- Can another task of x's processor hold q at all: does it use q?
abbrev pub is_used_beside : SetDef → ℕ → ℕ → Bool
is_used_beside set x q = nat_lt 0 (made_beside set (λ y. count_of set y q) x)

-- For how many ticks may the longest of these requests of x last, if so?
abbrev pub longest_beside : SetDef → ℕ → ℕ → ℕ
longest_beside set x q = only_if (is_used_beside set x q) (longest_first set x q)

-- Is it said how long they last, if so?
pub record AreFirstBeside (set : SetDef) (x q : ℕ) (first : FirstTicks) : Type 0 where
  pub longest : first.longest ≡ longest_beside set x q
  pub all : first.all ≡ only_if (is_used_beside set x q) (time_first set x q)
  pub longest_to : first.longest ≤ 1000000000
  pub all_to : first.all ≤ 32000000000000

-- Is it said of each task?
pub record AreFirst (set : SetDef) (q : ℕ) (first : List FirstTicks) : Type 0 where
  pub enough : length set.tasks ≤ length first
  pub each : (x : ℕ) → x < length set.tasks → AreFirstBeside set x q (slice_index_or first x (record { longest = 0; all = 0 }))

-- Is it said how long these last on each processor, the longest one of each of its tasks?
pub record AreLongestOn (set : SetDef) (q : ℕ) (ticks : List ℕ) : Type 0 where
  pub processors : length ticks ≡ 65
  pub sum : (k : ℕ) → k < 65 → slice_index ticks k ≡ made_on set (λ x. longest_beside set x q) k
  pub small : (k : ℕ) → k < 65 → slice_index ticks k ≤ 64000000000

-- Is it said of each task and of each processor?
pub record AreFirstOn (set : SetDef) (q : ℕ) (first : List FirstTicks) (ticks : List ℕ) : Type 0 where
  pub each : AreFirst set q first
  pub on : AreLongestOn set q ticks

-- Is this what others may do with q while i waits for it?
pub record AreHolders (set : SetDef) (i q : ℕ) (holders : OtherHolders) : Type 0 where
  pub first : AreFirst set q holders.first
  pub lower : holders.lower ≡ longest_lower_holding set i q
  pub lower_to : holders.lower ≤ 65000000000

-- Does the table say how often jobs of higher tasks may hold q in a span of ticks?
abbrev pub AreHoldings : SetDef → (ℕ → ℕ) → ℕ → ℕ → ℕ → Sums → Type 0
AreHoldings set bounds i q span s = AreSumsOf set i (λ y. requests_during set bounds span y q) s

-- Does it while a request of q by i waits, at these bounds, and is x a task?
pub record AreHoldingsFor (set : SetDef) (bounds : List ℕ) (i q span : ℕ) (s : Sums) (x : ℕ) : Type 0 where
  pub request : AreRequestsIn set bounds span i q
  pub holdings : AreHoldings set (slice_index bounds) i q span s
  pub runner : x < length set.tasks

-- For how many ticks may all tasks run instead of the holders, in a span of ticks?
abbrev pub all_ticks_instead : SetDef → (ℕ → ℕ) → ℕ → ℕ → ℕ → ℕ
all_ticks_instead set bounds i q span = sum_below (length set.tasks) (ticks_instead set bounds i q span)

-- Does the table say how many requests of r higher tasks can make while i waits for it?
abbrev pub AreInWaits : SetDef → (ℕ → ℕ) → ℕ → ℕ → Sums → Type 0
AreInWaits set bounds i r s = AreSumsOf set i (λ y. requests_in_waits set bounds i r y r) s

-- Do the tables say it of each resource that i requests, in their order?
abbrev pub AreInWaitsEach : SetDef → (ℕ → ℕ) → ℕ → List Sums → Type 0
AreInWaitsEach set bounds i tables = AreSumsOfUsed set i (λ r y. requests_in_waits set bounds i r y r) tables

-- Does the table say how many requests of r higher tasks can make within the bound of a job of i?
abbrev pub AreInBound : SetDef → (ℕ → ℕ) → ℕ → ℕ → Sums → Type 0
AreInBound set bounds i r s = AreSumsOf set i (λ y. requests_in set bounds i y r) s

-- Do the tables say it of each resource that i requests, in their order?
abbrev pub AreInBoundEach : SetDef → (ℕ → ℕ) → ℕ → List Sums → Type 0
AreInBoundEach set bounds i tables = AreSumsOfUsed set i (λ r y. requests_in set bounds i y r) tables

-- Does s say of each resource whether it is shared out, do the tables say how many requests higher tasks can make so, and l which lower tasks
-- make some?
pub record AreAwayTables (set : SetDef) (bounds : List ℕ) (i : ℕ) (s : List Bool) (tables l : List Sums) : Type 0 where
  pub shared : AreSharedOut set i s
  pub sums : AreInBoundEach set (slice_index bounds) i tables
  pub lower : AreLowerSums set i l

-- How many requests of r can be held beside x while i waits for them, if r is shared out?
abbrev pub shared_beside : SetDef → (ℕ → ℕ) → ℕ → ℕ → ℕ → ℕ
shared_beside set bounds i x r = only_if (is_shared_out set i r) (held_beside set bounds i x r)

-- Is that said of each resource that i requests, in their order?
pub record AreHeldBeside (set : SetDef) (bounds : ℕ → ℕ) (i x : ℕ) (held : List ℕ) : Type 0 where
  pub enough : length held ≡ 32
  pub each : (k : ℕ) → k < length (used_by set i) → slice_index held k ≡ shared_beside set bounds i x (slice_index (used_by set i) k)
  pub small : (k : ℕ) → k < length (used_by set i) → slice_index held k ≤ 128000000001000

-- And of each task?
pub record AreHeldBesideEach (set : SetDef) (bounds : ℕ → ℕ) (i : ℕ) (held : List (List ℕ)) : Type 0 where
  pub one_each : length held ≡ length set.tasks
  pub each : (x : ℕ) → x < length set.tasks → AreHeldBeside set bounds i x (slice_index_or held x [])
