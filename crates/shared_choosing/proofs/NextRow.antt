-- After any rows there is a chosen row.
use Rattle.std.proofs.Common.{◌≡◌, ℕ, ◌<◌, ◌≤◌, ◌==◌, true, false, length, List, zero, suc, refl, sym, ◌∙◌, arith, inl}
use Rattle.std.proofs.Common.{inr, Option, Some, None, get_or, map, subst, cond}
use Rattle.std.specs.List.{range_with_len}
use Rattle.std.proofs.lemmas.Bool.{cases_lt, eq-eqb, ne_eqb}
use Rattle.std.proofs.lemmas.List.{get_or_past}
use Rattle.std.proofs.lemmas.List.FromFn.{get_or-map-range_with_len, length-map-range_with_len}
use Rattle.sporadic_model.specs.Accepted.{IsAccepted, TaskNumbers}
use Rattle.sporadic_model.proofs.Laws.{numbers_of_accepted}
use Rattle.schedule_model.specs.LawfulJobs.{AreLawfulJobs}
use Rattle.schedule_model.specs.RowDef.{RowDef, Trace, jobs_of, holder_in, running_on}
use Rattle.schedule_model.specs.Activity.{task_of, is_active, is_requester, active_job_of}
use Rattle.schedule_model.specs.SharedRules.{Ranks}
use Rattle.schedule_model.specs.Ranks.{mpcp, fmlp_plus}
use Rattle.schedule_model.specs.Chosen.{IsSized}
use Rattle.schedule_laws.specs.Agreement.{AgreeBefore}
use Rattle.schedule_laws.proofs.Agreement.{phase_agree, active_agree, held_before_agree}
use Rattle.schedule_laws.proofs.SharedAgreement.{RanksAgree, mpcp_agree, fmlp_plus_agree}
use Rattle.schedule_laws.proofs.ActiveJobs.{active_listed, one_active, active_job_is, active_job_none, Requester}
use Rattle.schedule_laws.proofs.ActiveJobs.{requester_is, requester_listed}
use Rattle.schedule_laws.proofs.Segments.{open_resource}
use Rattle.phase_machine.proofs.Lawful.{task_listed}
use Rattle.shared_choosing.specs.Scene.{Scene, scene_at, IsActiveJob, place_in}
use Rattle.shared_choosing.specs.Choosing.{Granted, Placed}
use Rattle.shared_choosing.specs.NextRow.{with_row, HasChoice}
use Rattle.shared_choosing.proofs.Walks.{held_at, running_at, granted_at, granted_same, placed_at, placed_same}
use Rattle.shared_choosing.proofs.Chosen.{IsSceneOf, chosen_from}

-- The active jobs of the tasks.
pub active_job_at : (o : Ranks) (w : Trace) (t x : ℕ) → IsActiveJob (scene_at o w t) x (active_job_of w t x)
active_job_at o w t x = go (active_job_of w t x) refl where
  none : active_job_of w t x ≡ None → (i : ℕ) → is_active w t i ≡ true → task_of w i ≡ x → ⊥
  none e i a own = let f : is_active w t i ≡ false = active_job_none w t x i e own in let two : true ≡ false = sym a ∙ f in cc

  go : (p : Option ℕ) → active_job_of w t x ≡ p → IsActiveJob (scene_at o w t) x (active_job_of w t x)
  go None e = subst (IsActiveJob (scene_at o w t) x) (sym e) (none e)
  go (Some j) e =
      let a : (is_active w t j ≡ true) × (task_of w j ≡ x) = active_job_is w t x j e in
      subst (IsActiveJob (scene_at o w t) x) (sym e) (a.0, a.1, λ i h own. one_active w t i j h a.0 (own ∙ sym a.1))

-- Lists with these places.
pub places_of : (ℕ → Option ℕ) → ℕ → List (Option ℕ)
places_of f n = map f (range_with_len 0 n)

pub place_of_list : (f : ℕ → Option ℕ) (n k : ℕ) → ((j : ℕ) → f k ≡ Some j → k < n) → get_or (places_of f n) k None ≡ f k
unfolding places_of
place_of_list f n k within = elim (cases_lt k n) [
  | inl below ↦ get_or-map-range_with_len f 0 n k k None below (omega arith)
  | inr past ↦ let l : length (map f (range_with_len 0 n)) ≤ k = omega (arith, length-map-range_with_len f 0 n) in
      get_or_past (map f (range_with_len 0 n)) k None l ∙ nothing (f k) refl past
] where
  nothing : (p : Option ℕ) → f k ≡ p → n ≤ k → None ≡ f k
  nothing None e past = sym e
  nothing (Some j) e past = let l : k < n = within j e in absurd (omega arith)

-- A row whose list has what runs on the processors from 1 to n has it there.
pub running_placed : (runs : ℕ → Option ℕ) (n : ℕ) (holders : List (Option ℕ)) → ((k r : ℕ) → runs k ≡ Some r → (1 ≤ k) × (k ≤ n))
    → (k : ℕ) → running_on (record { running = places_of (λ c. runs (suc c)) n; holders = holders }) k ≡ runs k
running_placed runs n holders within zero = at_zero (runs 0) refl where
  at_zero : (p : Option ℕ) → runs 0 ≡ p → None ≡ runs 0
  at_zero None e = sym e
  at_zero (Some r) e = let b : (1 ≤ 0) × (0 ≤ n) = within 0 r e in absurd (omega (arith, b.0))
running_placed runs n holders within (suc c) = place_of_list (λ y. runs (suc y)) n c
    (λ r e. let b : (1 ≤ suc c) × (suc c ≤ n) = within (suc c) r e in omega (arith, b.1))

pub places_length : (f : ℕ → Option ℕ) (n : ℕ) → length (places_of f n) ≡ n
unfolding places_of
places_length f n = length-map-range_with_len f 0 n

-- A schedule with another row has the same rows before.
pub same_before : (w : Trace) (t : ℕ) (row : RowDef) → AgreeBefore w (with_row w t row) t
same_before w t row = record { set = refl; jobs = refl; rows = λ u l. sym (earlier u l) } where
  earlier : (u : ℕ) → u < t → cond (u == t) row (w.row u) ≡ w.row u
  earlier u l = let f : (u == t) ≡ false = ne_eqb u t (λ e. let x : u < t = l in omega arith) in rw f refl

pub row_there : (w : Trace) (t : ℕ) (row : RowDef) → (with_row w t row).row t ≡ row
row_there w t row = let e : (t == t) ≡ true = eq-eqb t t refl in rw e refl

pub scene_stays : (o : Ranks) (w : Trace) (t : ℕ) (row : RowDef) → AreLawfulJobs (jobs_of w)
    → RanksAgree o w (with_row w t row) t → IsSceneOf o (scene_at o w t) (with_row w t row) t
scene_stays o w t row lawful ranks = record {
  within = λ j a. task_listed (jobs_of w) j lawful
      (active_listed w t j (active_agree w (with_row w t row) t t j (same_before w t row) (omega arith) ∙ a));
  actives = λ j. active_agree w (with_row w t row) t t j (same_before w t row) (omega arith);
  own = λ j. refl;
  column = λ j. refl;
  doing = λ j a. phase_agree w (with_row w t row) t t j (same_before w t row) (omega arith);
  held = λ q. held_before_agree w (with_row w t row) t t q (same_before w t row) (omega arith);
  grants = λ q j a. ranks.grant j;
  runs = λ q j a. ranks.run j;
}

-- What holds is a resource of the set, and what runs is on a processor of the set.
pub resource_within : (o : Ranks) (w : Trace) (t x q j : ℕ) (held : ℕ → Option ℕ) → AreLawfulJobs (jobs_of w)
    → Granted (scene_at o w t) x held → held q ≡ Some j → q < length w.set.resources
unfolding is_requester
resource_within o w t x q j held lawful g e =
    let asks : is_requester w t q j ≡ true = g.asks q j e in
    let r : Requester w t q j = requester_is w t q j asks in
    open_resource w.set w t j r.number q (lawful.each j (requester_listed w t q j asks)) r.phase

processor_within : (o : Ranks) (w : Trace) (t x k r : ℕ) (held running : ℕ → Option ℕ) → AreLawfulJobs (jobs_of w)
    → ((y : ℕ) → y < length w.set.tasks → TaskNumbers w.set y)
    → Placed (scene_at o w t) held x running → running k ≡ Some r → (1 ≤ k) × (k ≤ w.set.processors)
processor_within o w t x k r held running lawful numbers p e =
    let n : TaskNumbers w.set (task_of w r) =
    numbers (task_of w r) (task_listed (jobs_of w) r lawful (active_listed w t r (p.active k r e))) in
    (omega (arith, n.processor_from, p.column k r e), omega (arith, n.processor_to, p.column k r e))

pub next_row : (o : Ranks) (w : Trace) (t : ℕ) → IsAccepted w.set → AreLawfulJobs (jobs_of w)
    → ((row : RowDef) → RanksAgree o w (with_row w t row) t) → HasChoice o w t
next_row o w t accepted lawful ranks = record {
  row = row;
  chosen = chosen_from o s (with_row w t row) t (scene_stays o w t row lawful (ranks row))
      (subst (IsSized w.set) (sym (row_there w t row)) sized)
      (subst (λ r. Granted s s.tasks (holder_in r)) (sym (row_there w t row)) granted)
      (subst (λ r. Placed s (holder_in r) s.tasks (running_on r)) (sym (row_there w t row))
      (placed_same s (place_in row.holders) s.tasks runs (running_on row) placed
      (running_placed runs w.set.processors holders within)));
} where
  s : Scene
  s = scene_at o w t

  held : ℕ → Option ℕ
  held = held_at s (active_job_of w t) (length w.set.tasks)

  all_granted : Granted s (length w.set.tasks) held
  all_granted = granted_at s (active_job_of w t) (length w.set.tasks) (λ x l. active_job_at o w t x)

  holders : List (Option ℕ)
  holders = places_of held (length w.set.resources)

  runs : ℕ → Option ℕ
  runs = running_at s (place_in holders) (active_job_of w t) (length w.set.tasks)

  placed : Placed s (place_in holders) (length w.set.tasks) runs
  placed = placed_at s (place_in holders) (active_job_of w t) (length w.set.tasks) (λ x l. active_job_at o w t x)

  row : RowDef
  row = record { running = places_of (λ c. runs (suc c)) w.set.processors; holders = holders }

  sized : IsSized w.set row
  sized = record {
    processors = places_length (λ c. runs (suc c)) w.set.processors;
    resources = places_length held (length w.set.resources);
  }

  granted : Granted s (length w.set.tasks) (place_in holders)
  granted = granted_same s (length w.set.tasks) held (place_in holders) all_granted
      (λ q. place_of_list held (length w.set.resources) q (λ j e. resource_within o w t (length w.set.tasks) q j held lawful all_granted e))

  within : (k r : ℕ) → runs k ≡ Some r → (1 ≤ k) × (k ≤ w.set.processors)
  within k r e = processor_within o w t (length w.set.tasks) k r (place_in holders) runs lawful (λ y l. numbers_of_accepted w.set y accepted l) placed e

pub next_row_mpcp : (w : Trace) (t : ℕ) → IsAccepted w.set → AreLawfulJobs (jobs_of w) → HasChoice mpcp w t
next_row_mpcp w t accepted lawful =
    next_row mpcp w t accepted lawful (λ row. mpcp_agree w (with_row w t row) t t (same_before w t row) (omega arith))

pub next_row_fmlp_plus : (w : Trace) (t : ℕ) → IsAccepted w.set → AreLawfulJobs (jobs_of w) → HasChoice fmlp_plus w t
next_row_fmlp_plus w t accepted lawful = next_row fmlp_plus w t accepted lawful
    (λ row. fmlp_plus_agree w (with_row w t row) t t (same_before w t row) (omega arith))
