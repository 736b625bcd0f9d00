-- The rounds of three tasks that request nothing. Their programs have no column and no row.
use Rattle.std.proofs.Common.{◌≡◌, ℕ, zero, suc, ◌*◌, ◌<◌, ◌≤◌, List, [], ◌∷◌, refl, sym, subst, inl, arith}
use Rattle.program_form.specs.Certificate.{DualDef}
use Rattle.program_form.specs.Points.{Reaches as ReachesNumber, IsGreatestReached}
use Rattle.program_form.specs.Program.{ProgramDef, IsProgram}
use Rattle.program_form.proofs.Points.{zero_reached}
use Rattle.program_sources.specs.Recurrence.{SourceDef, response_with}
use Rattle.exchange_runs.specs.Readings.{value_of}
use Rattle.response_fixpoint.specs.Rounds.{Valued, Schedulable, Allowance, Found, nothing_found, with_task, Passes, Reaches, EndsIn}
use Rattle.response_fixpoint.specs.Runs.{TaskRuns, rounds_of}
use Rattle.response_fixpoint.specs.Worked.{source_alone, bounds_alone, duals_alone}
use Rattle.response_fixpoint.proofs.EmptyRuns.{empty_end, first_table}

abbrev no_lists : ProgramDef
no_lists = record { costs = []; rows = []; limits = [] }

no_lists_is : IsProgram no_lists
no_lists_is = record {
  lengths = record { limit_each = refl; entry_each = λ r here. absurd (omega (arith, here)) };
  covered = λ c here. absurd (omega (arith, here));
  small = record { costs = λ c. omega arith; entries = λ r c. omega arith; limits = λ r. omega arith };
  columns_to = omega arith;
  rows_to = omega arith;
}

-- No number above zero is reached.
none_reached : (c : ℕ) → ReachesNumber no_lists c → c ≤ 0
none_reached zero h = omega arith
none_reached (suc c) h = absurd (let more : (suc c) * h.scale ≤ 0 = h.reached in
    let some : 0 < h.scale = h.is_point.positive in grind (arith, more, some))

abbrev no_dual : DualDef
no_dual = record { den = 1; num = [] }

-- The run of such a program takes one unit, and its task isn't blocked.
runs_alone : (f : SourceDef) (r : List ℕ) (i left v : ℕ) → f.program i r ≡ no_lists → 0 < left → v ≡ response_with f r i 0
    → TaskRuns f r i left (Valued 1 v no_dual)
runs_alone f r i left v same some value = record {
  is_program = subst IsProgram (sym same) no_lists_is;
  ends = record {
    exchanges = 0;
    optimum = value_of no_lists (first_table no_lists);
    best = [];
    ends = rw same (empty_end no_lists left refl some);
    units = refl;
    response = record {
      blocking = 0;
      greatest = subst (λ (p : ProgramDef). IsGreatestReached p 0) (sym same)
          (record { reached = zero_reached no_lists; greatest = none_reached });
      response = value;
    };
  };
}

-- What a round has found of the first task, of two and of all.
abbrev found_1 : Found
found_1 = with_task nothing_found 1 1 no_dual

abbrev found_2 : ℕ → Found
found_2 second = with_task found_1 1 second no_dual

abbrev found_3 : ℕ → ℕ → Found
found_3 second third = with_task (found_2 second) 1 third no_dual

-- The first two tasks of a round whose bounds are these, and the whole round.
two_alone : (r : List ℕ) (left second : ℕ) → 1 < left → 1 ≡ response_with source_alone r 0 0
    → second ≡ response_with source_alone r 1 0 → second ≤ 6
    → Passes (rounds_of source_alone) r left 2 (found_2 second)
two_alone r left second enough first_is second_is second_fits =
    let one : Passes (rounds_of source_alone) r left 1 found_1 =
    (nothing_found, 1, 1, no_dual, refl, runs_alone source_alone r 0 _ 1 refl (omega (arith, enough)) first_is, omega arith, refl) in
    (found_1, 1, second, no_dual, one, runs_alone source_alone r 1 _ second refl (omega (arith, enough)) second_is, second_fits, refl)

round_alone : (r : List ℕ) (left second third : ℕ) → 2 < left
    → 1 ≡ response_with source_alone r 0 0 → second ≡ response_with source_alone r 1 0 → third ≡ response_with source_alone r 2 0
    → second ≤ 6 → third ≤ 20
    → Passes (rounds_of source_alone) r left 3 (found_3 second third)
round_alone r left second third enough first_is second_is third_is second_fits third_fits =
    let two = two_alone r left second (omega (arith, enough)) first_is second_is second_fits in
    (found_2 second, 1, third, no_dual, two, runs_alone source_alone r 2 _ third refl (omega (arith, enough)) third_is, third_fits, refl)

-- Three rounds go by, with three units each.
pub reached_alone : (a : ℕ) → 9 ≤ a → Reaches (rounds_of source_alone) a 3 9 bounds_alone
reached_alone a most =
    let first : Reaches (rounds_of source_alone) a 1 3 (1 ∷ 3 ∷ 6 ∷ []) = (
      0,
      (1 ∷ 2 ∷ 3 ∷ []),
      found_3 3 6,
      (refl, refl),
      round_alone _ _ 3 6 (omega (arith, most)) refl refl refl (omega arith) (omega arith),
      refl,
      (λ e. cc),
      refl,
    ) in
    let second : Reaches (rounds_of source_alone) a 2 6 (1 ∷ 3 ∷ 9 ∷ []) = (
      3,
      (1 ∷ 3 ∷ 6 ∷ []),
      found_3 3 9,
      first,
      round_alone _ _ 3 9 (omega (arith, most)) refl refl refl (omega arith) (omega arith),
      refl,
      (λ e. cc),
      refl,
    ) in (
      6,
      (1 ∷ 3 ∷ 9 ∷ []),
      found_3 3 10,
      second,
      round_alone _ _ 3 10 (omega (arith, most)) refl refl refl (omega arith) (omega arith),
      refl,
      (λ e. cc),
      refl,
    )

-- The fourth changes nothing.
pub ends_alone : EndsIn (rounds_of source_alone) 12 (Schedulable bounds_alone duals_alone)
ends_alone = (
  0,
  found_3 3 10,
  record {
    rounds = 3;
    spent = 9;
    reached = reached_alone 12 (omega arith);
    passed = round_alone _ _ 3 10 (omega arith) refl refl refl (omega arith) (omega arith);
    units = refl;
  },
  refl,
  refl,
)

-- With one unit less, the rounds don't come to the last task.
pub short_alone : EndsIn (rounds_of source_alone) 11 Allowance
short_alone = (
  bounds_alone,
  2,
  0,
  found_2 3,
  omega arith,
  record {
    rounds = 3;
    spent = 9;
    reached = reached_alone 11 (omega arith);
    passed = two_alone _ _ 3 (omega arith) refl refl (omega arith);
    units = refl;
  },
  record { is_program = no_lists_is; ends = inl refl },
)
