-- Writing a place of a row, and what the walks over the active jobs begin and end with.
use Rattle.std.proofs.Common.{◌≡◌, ℕ, ◌+◌, ◌<◌, ◌≤◌, ◌==◌, length, List, zero, suc, refl, sym, ap, ◌∙◌, arith, inl, inr}
use Rattle.std.proofs.Common.{Option, Some, None, map, subst, add-one}
use Rattle.std.specs.Prelude.{IfSome}
use Rattle.std.proofs.Math.ListN.{set}
use Rattle.std.proofs.lemmas.Bool.{cases_Bool, cases_lt, and_parts, eqb-true, eqb-false}
use Rattle.std.proofs.lemmas.List.{get_or-set_same, get_or-set_other, get_or_past, length-map}
use Rattle.schedule_model.specs.declared.job.JobId.{JobId}
use Rattle.schedule_model.specs.Seen.{place_seen}
use Rattle.schedule_model.specs.RowDef.{RowDef, running_on, holder_in}
use Rattle.schedule_model.specs.SharedRules.{Ranks}
use Rattle.schedule_model.specs.Chosen.{IsSized, IsSharedChoice}
use Rattle.phase_machine.specs.MachineDef.{MachineDef, IsMachine, under}
use Rattle.phase_machine.specs.Now.{holder_now, requester_now}
use Rattle.phase_machine.specs.Shows.{Shows}
use Rattle.phase_machine.proofs.Facts.{active_now_listed}
use Rattle.phase_machine.specs.Order.{GivesRanks}
use Rattle.shared_choosing.specs.Scene.{scene_now, stays, place_in, running_in, NamesBelow}
use Rattle.shared_choosing.specs.Choosing.{Granted, Placed}
use Rattle.shared_choosing.proofs.Granting.{kept_some}
use Rattle.shared_choosing.proofs.Walks.{placed_same}
use Rattle.shared_choosing.proofs.Scenes.{scene_shown, place_shown, running_same}
use Rattle.shared_choosing.proofs.Chosen.{chosen_from}

pub put_here : (places : List (Option JobId)) (i : ℕ) (job : Option JobId) → i < length places
    → place_in (map place_seen (set places i job)) i ≡ place_seen job
put_here places i job l = place_shown (set places i job) i ∙ ap place_seen (get_or-set_same places i job None l)

pub put_others : (places : List (Option JobId)) (i : ℕ) (job : Option JobId) (k : ℕ) → (k ≡ i → ⊥)
    → place_in (map place_seen (set places i job)) k ≡ place_in (map place_seen places) k
put_others places i job k other = place_shown (set places i job) k
    ∙ ap place_seen (get_or-set_other places i k job None other) ∙ sym (place_shown places k)

-- A write that names a listed job, or none, keeps the names listed.
pub put_named : (n : ℕ) (old more : ℕ → Option ℕ) (i : ℕ) (job : Option JobId) → more i ≡ place_seen job
    → ((k : ℕ) → (k ≡ i → ⊥) → more k ≡ old k) → ((k j : ℕ) → old k ≡ Some j → j < n) → IfSome job (λ j. j.0 < n)
    → (k j : ℕ) → more k ≡ Some j → j < n
put_named n old more i job here others named listed k j e = elim (cases_Bool (k == i)) [
  | inl same ↦ at_place job listed (sym here ∙ sym (ap more (eqb-true k i same)) ∙ e)
  | inr other ↦ named k j (sym (others k (λ f. eqb-false k i other f)) ∙ e)
] where
  at_place : (o : Option JobId) → IfSome o (λ j. j.0 < n) → place_seen o ≡ Some j → j < n
  at_place None l f = absurd (cc)
  at_place (Some y) l f = let same : y.0 ≡ j = cc in omega (arith, l, same)

-- Processors count from 1, and columns from 0.
pub column_of : (places : List (Option ℕ)) (k c : ℕ) → k ≡ c + 1 → running_in places k ≡ place_in places c
column_of places k c e = let f : k ≡ suc c = e ∙ add-one c in ap (running_in places) f

pub others_on : (old more : List (Option ℕ)) (k c : ℕ) → k ≡ c + 1
    → ((i : ℕ) → (i ≡ c → ⊥) → place_in more i ≡ place_in old i) → (r : ℕ) → (r ≡ k → ⊥)
    → running_in more r ≡ running_in old r
others_on old more k c e others zero other = refl
others_on old more k c e others (suc i) other = others i (λ f. other (let g : suc i ≡ k = omega arith in g))

-- What is past the end names no one.
empty_past : (places : List (Option ℕ)) (n i : ℕ) → length places ≡ n → ((i : ℕ) → i < n → place_in places i ≡ None)
    → place_in places i ≡ None
empty_past places n i size empty = elim (cases_lt i n) [
  | inl within ↦ empty i within
  | inr past ↦ let l : length places ≤ i = omega arith in get_or_past places i None l
]

pub nothing_runs : (places : List (Option JobId)) (n : ℕ) → length places ≡ n
    → ((i : ℕ) → i < n → place_in (map place_seen places) i ≡ None) → (k : ℕ)
    → running_in (map place_seen places) k ≡ None
nothing_runs places n size empty zero = refl
nothing_runs places n size empty (suc c) = empty_past (map place_seen places) n c (length-map places place_seen ∙ size) empty

-- Before any job asks, each place names the kept holder.
pub kept_places : (m : MachineDef) (places : List (Option JobId)) → IsMachine m → length places ≡ length m.list.set.resources
    → ((q : ℕ) → q < length m.list.set.resources → place_in (map place_seen places) q ≡ stays (requester_now m q) (holder_now m q))
    → (q : ℕ) → place_in (map place_seen places) q ≡ stays (requester_now m q) (holder_now m q)
kept_places m places machine size each q = elim (cases_lt q (length m.list.set.resources)) [
  | inl within ↦ each q within
  | inr past ↦
      let l : length (map place_seen places) ≤ q = omega (arith, length-map places place_seen) in
      let h : length m.holders ≤ q = omega (arith, machine.holders_length) in
      let none : holder_now m q ≡ None = get_or_past m.holders q None h in
      get_or_past (map place_seen places) q None l ∙ sym (ap (stays (requester_now m q)) none)
]

-- They are listed jobs.
pub kept_named : (m : MachineDef) (places : List (Option JobId))
    → ((q : ℕ) → place_in (map place_seen places) q ≡ stays (requester_now m q) (holder_now m q))
    → NamesBelow (length m.list.jobs) (map place_seen places)
unfolding requester_now
kept_named m places same q j e =
    active_now_listed m j (and_parts _ _ (kept_some (scene_now (λ i. 0) (λ i. 0) m) q j (holder_now m q) (sym (same q) ∙ e)).1).0

-- If nothing is named, no unlisted job is.
pub nothing_named : (places : List (Option JobId)) (n : ℕ) → ((k : ℕ) → running_in (map place_seen places) k ≡ None)
    → NamesBelow n (map place_seen places)
nothing_named places n empty c j e = let two : None ≡ Some j = sym (empty (suc c)) ∙ e in absurd (cc)

-- The row that the walks end with is the chosen one.
pub choice_made : (o : Ranks) (grants runs : MachineDef → ℕ → ℕ) (m : MachineDef) (rows : ℕ → RowDef) (row : RowDef)
    → GivesRanks o grants runs → Shows m rows → rows m.tick ≡ row → IsSized m.list.set row
    → Granted (scene_now (grants m) (runs m) m) (length m.list.set.tasks) (place_in row.holders)
    → Placed (scene_now (grants m) (runs m) m) (place_in row.holders) (length m.list.set.tasks) (running_in row.running)
    → IsSharedChoice o (under m rows) m.tick
choice_made o grants runs m rows row gives shows e sized g p =
    chosen_from o (scene_now (grants m) (runs m) m) (under m rows) m.tick (scene_shown o grants runs m rows gives shows)
    (subst (λ r. IsSized m.list.set r) (sym e) sized)
    (subst (λ r. Granted (scene_now (grants m) (runs m) m) (length m.list.set.tasks) (holder_in r)) (sym e) g)
    (subst (λ r. Placed (scene_now (grants m) (runs m) m) (holder_in r) (length m.list.set.tasks) (running_on r)) (sym e)
    (placed_same (scene_now (grants m) (runs m) m) (place_in row.holders) (length m.list.set.tasks)
    (running_in row.running) (running_on row) p (running_same row)))
