-- The columns of a row one after the other. A running job is in a column, and the places move with each column that is taken.
use Rattle.std.proofs.Common.{◌≡◌, ℕ, ◌+◌, ◌<◌, ◌≤◌, ◌||◌, true, false, List, length, get_or, take}
use Rattle.std.proofs.Common.{sym, ap, ◌∙◌, arith, inl, inr, Option, Some, None}
use Rattle.std.specs.List.{list_any}
use Rattle.std.proofs.lemmas.Bool.{cases_lt, cases_eq, false_from_ne_true, or_right, ne_eqb}
use Rattle.std.proofs.lemmas.List.{get_or-take, get_or_past, length-take}
use Rattle.std.proofs.lemmas.List.Folds.{list_any_more}
use Rattle.std.proofs.Math.Bool.{or-false}
use Rattle.schedule_model.specs.JobDef.{JobDef, JobsDef}
use Rattle.schedule_model.specs.LawfulJobs.{AreLawfulJobs}
use Rattle.schedule_model.specs.RowDef.{is_job}
use Rattle.schedule_laws.proofs.Rows.{named_job, any_place}
use Rattle.phase_machine.specs.declared.place.ScriptPlace.{ScriptPlace}
use Rattle.phase_machine.specs.MachineDef.{task_in, no_place}
use Rattle.phase_machine.specs.Steps.{StepsTo, MovesTo, ArePlaces, AreCurrent}
use Rattle.phase_machine.specs.Given.{RunFromPlaces, IsCurrentJob}
use Rattle.phase_machine.proofs.Lawful.{task_listed}

-- The first columns name a job only where some column before names it.
pub named_before : (names : List (Option ℕ)) (n j : ℕ) → list_any (is_job j) (take n names) ≡ true
    → (c : ℕ) × (c < n) × (get_or names c None ≡ Some j)
named_before names n j h =
    let at : (c : ℕ) × (get_or (take n names) c None ≡ Some j) = any_place (take n names) j h in
    elim (cases_lt at.0 n) [
      | inl before ↦ (at.0, before, sym (get_or-take n names at.0 None before) ∙ at.1)
      | inr past ↦
          let short : length (take n names) ≤ at.0 = omega (arith, length-take n names) in
          let none : get_or (take n names) at.0 None ≡ None = get_or_past (take n names) at.0 None short in
          let x : None ≡ Some j = sym none ∙ at.1 in
          absurd (cc)
    ]

-- A job in a column is in no column before.
pub not_before : (jobs : List JobDef) (places : List ScriptPlace) (names : List (Option ℕ)) (n j : ℕ)
    → AreCurrent jobs places names → get_or names n None ≡ Some j
    → list_any (is_job j) (take n names) ≡ false
not_before jobs places names n j current e =
    false_from_ne_true (list_any (is_job j) (take n names)) (λ h. twice (named_before names n j h))
  where
    twice : (c : ℕ) × (c < n) × (get_or names c None ≡ Some j) → ⊥
    twice at = let same : at.0 ≡ n = current.one_column at.0 n j at.2 e in absurd (omega (arith, at.1))

-- One column more.
pub column_more : (names : List (Option ℕ)) (n j : ℕ) (o : Option ℕ) → n < length names → get_or names n None ≡ o
    → list_any (is_job j) (take (n + 1) names) ≡ (list_any (is_job j) (take n names) || is_job j o)
column_more names n j o l e = list_any_more (is_job j) names n None l ∙ ap (λ o. list_any (is_job j) (take n names) || is_job j o) e

-- A column that names another job, or none, moves no place.
pub moved_past : (jobs : List JobDef) (after more x : ℕ) (names : List (Option ℕ)) (n : ℕ) (o : Option ℕ)
    (p q r : ScriptPlace) → n < length names → get_or names n None ≡ o
    → is_job p.job o ≡ false → r ≡ q → MovesTo jobs after more (take n names) x p q → MovesTo jobs after more (take (n + 1) names) x p r
moved_past jobs after more x names n o p q r l e other same moves = record {
  runs = λ h. rw same (moves.runs (sym before ∙ h));
  stays = λ h. same ∙ moves.stays (sym before ∙ h);
} where
  before : list_any (is_job p.job) (take (n + 1) names) ≡ list_any (is_job p.job) (take n names)
  before = column_more names n p.job o l e ∙ ap (λ b. list_any (is_job p.job) (take n names) || b) other
      ∙ or-false (list_any (is_job p.job) (take n names))

-- The column that names a place's job makes it step.
pub moved_here : (jobs : List JobDef) (after more x : ℕ) (names : List (Option ℕ)) (n j : ℕ) (p q r : ScriptPlace)
    → n < length names → get_or names n None ≡ Some j → p.job ≡ j
    → q ≡ p → StepsTo jobs after more x q r → MovesTo jobs after more (take (n + 1) names) x p r
moved_here jobs after more x names n j p q r l e own still steps = record {
  runs = λ h. rw (← still) steps;
  stays = λ h. absurd (both h);
} where
  named : list_any (is_job p.job) (take (n + 1) names) ≡ true
  named = column_more names n p.job (Some j) l e ∙ or_right (list_any (is_job p.job) (take n names))
      (is_job p.job (Some j)) (named_job p.job (Some j) (ap (λ k. Some k) (sym own)))

  both : list_any (is_job p.job) (take (n + 1) names) ≡ false → ⊥
  both h = let x : true ≡ false = sym named ∙ h in cc

-- So all places move with the column.
pub column_moves : (list : JobsDef) (after more : ℕ) (names : List (Option ℕ)) (n j : ℕ) (first now next : List ScriptPlace)
    → ArePlaces list first → AreCurrent list.jobs first names
    → n < length names → get_or names n None ≡ Some j
    → ((x : ℕ) → x < length list.set.tasks
    → MovesTo list.jobs after more (take n names) x (get_or first x no_place) (get_or now x no_place))
    → StepsTo list.jobs after more (task_in list.jobs j) (get_or now (task_in list.jobs j) no_place)
    (get_or next (task_in list.jobs j) no_place)
    → ((x : ℕ) → (x ≡ task_in list.jobs j → ⊥) → get_or next x no_place ≡ get_or now x no_place)
    → (x : ℕ) → x < length list.set.tasks
    → MovesTo list.jobs after more (take (n + 1) names) x (get_or first x no_place) (get_or next x no_place)
column_moves list after more names n j first now next places current l e moves own others x b = elim (cases_eq x (task_in list.jobs j)) [
  | inl same ↦
      let here : (get_or first x no_place).job ≡ j = rw same (current.current n j e) in
      let none : list_any (is_job (get_or first x no_place).job) (take n names) ≡ false =
      rw here (not_before list.jobs first names n j current e) in
      moved_here list.jobs after more x names n j (get_or first x no_place) (get_or now x no_place)
      (get_or next x no_place) l e here ((moves x b).stays none) (rw same own)
  | inr other ↦
      moved_past list.jobs after more x names n (Some j) (get_or first x no_place) (get_or now x no_place)
      (get_or next x no_place) l e (elsewhere other) (others x other) (moves x b)
] where
  elsewhere : (x ≡ task_in list.jobs j → ⊥) → is_job (get_or first x no_place).job (Some j) ≡ false
  elsewhere other = ne_eqb j (get_or first x no_place).job (λ same. other (own_task same))
    where
      own_task : j ≡ (get_or first x no_place).job → x ≡ task_in list.jobs j
      own_task same =
          let listed : (get_or first x no_place).job < length list.jobs = omega (arith, current.listed n j e) in
          sym ((places.each x b).own listed) ∙ ap (task_in list.jobs) (sym same)

-- At a column the place of its job's task is where it was at first.
still_there : (list : JobsDef) (after more : ℕ) (names : List (Option ℕ)) (n j : ℕ) (first now : List ScriptPlace)
    → AreCurrent list.jobs first names → get_or names n None ≡ Some j
    → MovesTo list.jobs after more (take n names) (task_in list.jobs j) (get_or first (task_in list.jobs j) no_place)
    (get_or now (task_in list.jobs j) no_place)
    → get_or now (task_in list.jobs j) no_place ≡ get_or first (task_in list.jobs j) no_place
still_there list after more names n j first now current e moves =
    moves.stays (rw (current.current n j e) (not_before list.jobs first names n j current e))

-- A job that is named in a column is the one at its task's place.
pub current_job : (list : JobsDef) (places : List ScriptPlace) (names : List (Option ℕ)) (n j : ℕ) → AreLawfulJobs list
    → RunFromPlaces list places names → get_or names n None ≡ Some j → IsCurrentJob list places j
current_job list places names n j lawful at e =
    let listed : j < length list.jobs = at.running.listed n j e in
    record {
      len = at.places.size;
      listed = listed;
      place = at.places.each (task_in list.jobs j) (task_listed list j lawful listed);
      current = at.running.current n j e;
    }

-- It still is once the columns before have moved their places.
pub still_current : (list : JobsDef) (after more : ℕ) (names : List (Option ℕ)) (n j : ℕ) (first now : List ScriptPlace)
    → AreLawfulJobs list → RunFromPlaces list first names → get_or names n None ≡ Some j → length now ≡ length first
    → ((x : ℕ) → x < length list.set.tasks
    → MovesTo list.jobs after more (take n names) x (get_or first x no_place) (get_or now x no_place))
    → IsCurrentJob list now j
still_current list after more names n j first now lawful at e size moves =
    let was : IsCurrentJob list first j = current_job list first names n j lawful at e in
    let still : get_or now (task_in list.jobs j) no_place ≡ get_or first (task_in list.jobs j) no_place =
    still_there list after more names n j first now at.running e
    (moves (task_in list.jobs j) (task_listed list j lawful was.listed)) in
    record {
      len = size ∙ was.len;
      listed = was.listed;
      place = rw still was.place;
      current = ap (λ p. p.job) still ∙ was.current;
    }
