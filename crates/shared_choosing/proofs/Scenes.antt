-- The scene at a machine, and how one job's coming shows in it.
use Rattle.std.proofs.Common.{◌≡◌, ℕ, ◌<◌, ◌==◌, ◌&&◌, true, false, length, List, [], ◌∷◌, zero, suc, refl, sym}
use Rattle.std.proofs.Common.{ap, ◌∙◌, inl, inr, Option, Some, None, cond, get_or, map, subst}
use Rattle.std.proofs.lemmas.Bool.{eq-eqb, eqb-true, cases_Bool}
use Rattle.schedule_model.specs.declared.job.JobId.{JobId}
use Rattle.schedule_model.specs.Seen.{place_seen}
use Rattle.schedule_model.specs.RowDef.{RowDef, running_on}
use Rattle.schedule_model.specs.Phase.{Phase, is_asking}
use Rattle.schedule_model.specs.Phase.Phase.{Local, Asking, Finished}
use Rattle.schedule_model.specs.SharedRules.{Ranks}
use Rattle.schedule_laws.proofs.ActiveJobs.{active_listed}
use Rattle.schedule_laws.proofs.Rows.{named_job}
use Rattle.phase_machine.specs.MachineDef.{MachineDef, IsMachine, task_in, under}
use Rattle.phase_machine.specs.Now.{current_now, active_now, holder_now, requester_now}
use Rattle.phase_machine.specs.Shows.{Shows}
use Rattle.phase_machine.proofs.Lawful.{task_listed}
use Rattle.phase_machine.proofs.Facts.{phase_shown, active_shown, active_current, current_own}
use Rattle.phase_machine.specs.Order.{GivesRanks}
use Rattle.phase_machine.specs.Now.{processor_now}
use Rattle.shared_choosing.specs.Scene.{Scene, scene_in, scene_now, IsActiveJob, gives_way, asked, stays, kept, may_run, is_outrun}
use Rattle.shared_choosing.specs.Scene.{entered, running_in, resource_in}
use Rattle.shared_choosing.proofs.Chosen.{IsSceneOf}

-- The scene at a machine is that of each schedule that it shows.
pub scene_shown : (o : Ranks) (grants runs : MachineDef → ℕ → ℕ) (m : MachineDef) (rows : ℕ → RowDef)
    → GivesRanks o grants runs → Shows m rows
    → IsSceneOf o (scene_now (grants m) (runs m) m) (under m rows) m.tick
scene_shown o grants runs m rows gives shows = record {
  within = λ j a. task_listed m.list j shows.machine.lawful (active_listed (under m rows) m.tick j a);
  actives = λ j. active_shown m rows j shows;
  own = λ j. refl;
  column = λ j. refl;
  doing = λ j a. phase_shown m rows j shows (active_listed (under m rows) m.tick j a);
  held = shows.holders;
  grants = gives.grant m rows shows;
  runs = gives.run m rows shows;
}

-- The active job of a task.
pub active_job_in : (m : MachineDef) (column grant run : ℕ → ℕ) (x : ℕ) → IsMachine m → x < length m.list.set.tasks
    → IsActiveJob (scene_in column grant run m) x (current_now m x)
unfolding active_now
active_job_in m column grant run x machine l = go (current_now m x) refl where
  the_one : (i : ℕ) → active_now m i ≡ true → task_in m.list.jobs i ≡ x → current_now m x ≡ Some i
  the_one i a own = sym (ap (current_now m) own) ∙ active_current m i a

  none : current_now m x ≡ None → (i : ℕ) → active_now m i ≡ true → task_in m.list.jobs i ≡ x → ⊥
  none e i a own = let two : None ≡ Some i = sym e ∙ the_one i a own in cc

  same : (j : ℕ) → current_now m x ≡ Some j → (i : ℕ) → active_now m i ≡ true → task_in m.list.jobs i ≡ x → i ≡ j
  same j e i a own = let two : Some i ≡ Some j = sym (the_one i a own) ∙ e in cc

  go : (o : Option ℕ) → current_now m x ≡ o → IsActiveJob (scene_in column grant run m) x (current_now m x)
  go None e = subst (IsActiveJob (scene_in column grant run m) x) (sym e) (none e)
  go (Some j) e =
      let own : task_in m.list.jobs j ≡ x = current_own m x j machine l e in
      let active : active_now m j ≡ true = named_job j (current_now m (task_in m.list.jobs j)) (ap (current_now m) own ∙ e) in
      subst (IsActiveJob (scene_in column grant run m) x) (sym e) (active, own, same j e)

pub active_job_now : (m : MachineDef) (grant run : ℕ → ℕ) (x : ℕ) → IsMachine m → x < length m.list.set.tasks
    → IsActiveJob (scene_now grant run m) x (current_now m x)
active_job_now m grant run x machine l = active_job_in m (processor_now m) grant run x machine l

-- The kept holders, by what the machine says of requesters.
pub kept_now : (m : MachineDef) (grant run : ℕ → ℕ) (q : ℕ) → stays (requester_now m q) (holder_now m q) ≡ kept (scene_now grant run m) q
unfolding requester_now
kept_now m grant run q = refl

-- What names a place of a row, as contracts see it.
pub place_shown : (places : List (Option JobId)) (k : ℕ) → get_or (map place_seen places) k None ≡ place_seen (get_or places k None)
place_shown [] k = refl
place_shown (o ∷ places) zero = refl
place_shown (o ∷ places) (suc k) = place_shown places k

-- What a job's asking does to the holders: where it requests nothing, and where it requests q.
pub asked_nothing : (s : Scene) (j : ℕ) (held more : ℕ → Option ℕ) → resource_in (s.phase j) ≡ None
    → ((q : ℕ) → more q ≡ held q) → (q : ℕ) → more q ≡ asked s j q (held q)
asked_nothing s j held more nothing same q = same q ∙ go (s.phase j) refl where
  go : (p : Phase) → s.phase j ≡ p → held q ≡ asked s j q (held q)
  go Local e = rw e refl
  go Finished e = rw e refl
  go (Asking n r) e = let two : Some r ≡ None = sym (ap resource_in e) ∙ nothing in absurd (cc)

asking_of : (q : ℕ) (p : Phase) → resource_in p ≡ Some q → (r : ℕ) → is_asking r p ≡ (q == r)
asking_of q Local e r = absurd (cc)
asking_of q Finished e r = absurd (cc)
asking_of q (Asking n y) e r = let same : y ≡ q = cc in ap (λ z. z == r) same

pub asked_one : (s : Scene) (j q : ℕ) (held more : ℕ → Option ℕ) → resource_in (s.phase j) ≡ Some q
    → more q ≡ cond (gives_way s q j (held q)) (Some j) (held q)
    → ((r : ℕ) → (r ≡ q → ⊥) → more r ≡ held r) → (r : ℕ) → more r ≡ asked s j r (held r)
asked_one s j q held more asks here others r = elim (cases_Bool (q == r)) [
  | inl same ↦ let e : q ≡ r = eqb-true q r same in subst (λ y. more y ≡ asked s j y (held y)) e (at_q)
  | inr other ↦
      let no_ask : is_asking r (s.phase j) ≡ false = asking_of q (s.phase j) asks r ∙ other in
      let left : asked s j r (held r) ≡ held r = rw no_ask refl in
      others r (λ e. differ e other) ∙ sym left
] where
  at_q : more q ≡ asked s j q (held q)
  at_q = let ask : is_asking q (s.phase j) ≡ true = asking_of q (s.phase j) asks q ∙ eq-eqb q q refl in here ∙ rw ask refl

  differ : r ≡ q → (q == r) ≡ false → ⊥
  differ e f = let t : (q == r) ≡ true = eq-eqb q r (sym e) in let x : true ≡ false = sym t ∙ f in cc

-- What a job's coming does to what runs, k being its processor.
pub entered_one : (s : Scene) (held : ℕ → Option ℕ) (j k : ℕ) (running more : ℕ → Option ℕ) → s.processor j ≡ k
    → more k ≡ cond (may_run s held j && is_outrun s held j (running k)) (Some j) (running k)
    → ((r : ℕ) → (r ≡ k → ⊥) → more r ≡ running r) → (r : ℕ) → more r ≡ entered s held j r (running r)
entered_one s held j k running more own here others r = elim (cases_Bool (s.processor j == r)) [
  | inl same ↦ let e : k ≡ r = sym own ∙ eqb-true (s.processor j) r same in subst (λ y. more y ≡ entered s held j y (running y)) e at_k
  | inr other ↦
      let left : entered s held j r (running r) ≡ running r = rw other refl in
      others r (λ e. differ e other) ∙ sym left
] where
  at_k : more k ≡ entered s held j k (running k)
  at_k = let t : (s.processor j == k) ≡ true = eq-eqb (s.processor j) k own in here ∙ rw t refl

  differ : r ≡ k → (s.processor j == r) ≡ false → ⊥
  differ e f = let t : (s.processor j == r) ≡ true = eq-eqb (s.processor j) r (own ∙ sym e) in let x : true ≡ false = sym t ∙ f in cc

-- What runs on a processor is read off the row's columns.
pub running_same : (row : RowDef) (k : ℕ) → running_on row k ≡ running_in row.running k
running_same row zero = refl
running_same row (suc c) = refl
