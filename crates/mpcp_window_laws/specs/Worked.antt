-- A worked set, and how many ticks are enough for a wait in it.
use Rattle.std.specs.Prelude.{◌≡◌, refl, ℕ, true, false, List, [], ◌∷◌, None, slice_index}
use Rattle.sporadic_model.specs.SetDef.{SetDef, TaskDef, RequestDef}
use Rattle.mpcp_window_laws.specs.MpcpWindows.{longest_first, holding_ticks, may_hold_before, own_ticks, ticks_instead, ticks_held}
use Rattle.mpcp_window_laws.specs.MpcpWindows.{is_enough_wait}

-- A task may request resource q, or r, so often and for so many ticks.
abbrev pub for_q : ℕ → ℕ → RequestDef
for_q count ticks = record { resource = 113 ∷ []; count = count; length = ticks }

abbrev pub for_r : ℕ → ℕ → RequestDef
for_r count ticks = record { resource = 114 ∷ []; count = count; length = ticks }

abbrev with_requests : ℕ → ℕ → ℕ → List RequestDef → TaskDef
with_requests processor period jitter requests = record {
  name = [];
  processor = processor;
  period = period;
  deadline = period;
  cost = 10;
  local = 10;
  jitter = jitter;
  requests = requests;
}

-- The highest task is on processor 1, with these requests and this jitter, and so is the lowest, which may request q for a tick. On
-- processor 2 one task may request q twice for 2 ticks, and one below it r for 3.
abbrev pub four_users : List RequestDef → ℕ → SetDef
four_users requests jitter = record {
  processors = 2;
  resources = record { name = 113 ∷ []; home = None } ∷ record { name = 114 ∷ []; home = None } ∷ [];
  tasks = with_requests 1 20 jitter requests ∷ with_requests 2 50 0 (for_q 2 2 ∷ []) ∷ with_requests 2 100 0 (for_r 1 3 ∷ [])
      ∷ with_requests 1 200 0 (for_q 1 1 ∷ []) ∷ [];
}

-- The set in which the highest task uses both resources, and bounds of its tasks.
abbrev pub both_used : SetDef
both_used = four_users (for_q 1 1 ∷ for_r 1 1 ∷ []) 0

abbrev pub some_bounds : ℕ → ℕ
some_bounds = slice_index (15 ∷ 30 ∷ 40 ∷ 60 ∷ [])

-- If the highest task uses both, r's ceiling is no lower than q's. So while the second task holds q, the third one may run its request of r.
pub one_goes_first : longest_first both_used 2 0 ≡ 3
one_goes_first = refl

pub both_run : holding_ticks both_used 0 0 1 ≡ 5
both_run = refl

-- If it uses q alone, the third task's request doesn't go first.
pub none_goes_first : longest_first (four_users (for_q 1 1 ∷ []) 0) 2 0 ≡ 0
none_goes_first = refl

pub own_runs : holding_ticks (four_users (for_q 1 1 ∷ []) 0) 0 0 1 ≡ 2
own_runs = refl

-- The highest task waits for one holding of the second task, and for none of the lowest, which is on its own processor. So 5 ticks are
-- enough for it, and 4 aren't.
pub lowest_is_beside : may_hold_before both_used 0 0 3 ≡ false
lowest_is_beside = refl

pub five_are_enough : is_enough_wait both_used some_bounds 0 0 5 ≡ true
five_are_enough = refl

pub four_are_short : is_enough_wait both_used some_bounds 0 0 4 ≡ false
four_are_short = refl

-- The lowest task waits for higher ones. One job of the highest holds q for a tick, and one job of the second task for 2 ticks twice. The
-- third task may run its request in either of these two holdings, but a job of it makes only one.
pub one_tick : own_ticks both_used some_bounds 0 1 0 ≡ 1
one_tick = refl

pub four_ticks : own_ticks both_used some_bounds 0 1 1 ≡ 4
four_ticks = refl

pub one_instead : ticks_instead both_used some_bounds 3 0 1 2 ≡ 3
one_instead = refl

pub eight_in_all : ticks_held both_used some_bounds 3 0 1 ≡ 8
eight_in_all = refl

-- In 8 ticks a second job of the highest task may run. So 9 ticks are enough, and 8 aren't.
pub eight_are_short : is_enough_wait both_used some_bounds 3 0 8 ≡ false
eight_are_short = refl

pub nine_are_enough : is_enough_wait both_used some_bounds 3 0 9 ≡ true
nine_are_enough = refl

-- With a jitter of 5 ticks two of its jobs may run in one tick.
pub two_jobs : own_ticks (four_users (for_q 1 1 ∷ []) 5) some_bounds 0 1 0 ≡ 2
two_jobs = refl
