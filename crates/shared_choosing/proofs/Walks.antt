-- What the walks over the active jobs end with.
use Rattle.std.proofs.Common.{◌≡◌, ℕ, ◌+◌, ◌<◌, zero, suc, length, refl, sym, ap, ◌∙◌, arith, Option, None, subst, add-one}
use Rattle.phase_machine.specs.MachineDef.{MachineDef, IsMachine}
use Rattle.phase_machine.specs.Now.{current_now, holder_now, requester_now}
use Rattle.shared_choosing.specs.Walks.{come_to, walked}
use Rattle.shared_choosing.specs.Scene.{Scene, scene_in, scene_now, IsActiveJob, stays, kept, asked, entered}
use Rattle.shared_choosing.specs.Choosing.{Granted, Placed}
use Rattle.shared_choosing.proofs.Granting.{granted_first, granted_next}
use Rattle.shared_choosing.proofs.Placing.{placed_first, placed_next}
use Rattle.shared_choosing.proofs.Scenes.{active_job_in, active_job_now, kept_now}

-- One more job comes.
pub walked_next : (step : ℕ → ℕ → Option ℕ → Option ℕ) (current : ℕ → Option ℕ) (x k : ℕ) (o p q : Option ℕ)
    → p ≡ walked step current x k o → q ≡ come_to step (current x) k p → q ≡ walked step current (x + 1) k o
unfolding walked
walked_next step current x k o p q before now = rw add-one (now ∙ ap (come_to step (current x) k) before)

-- The holders, and what runs, once the tasks below x have come.
pub held_at : Scene → (ℕ → Option ℕ) → ℕ → ℕ → Option ℕ
held_at s current x q = walked (asked s) current x q (kept s q)

pub running_at : Scene → (ℕ → Option ℕ) → (ℕ → Option ℕ) → ℕ → ℕ → Option ℕ
running_at s held current x k = walked (entered s held) current x k None

pub granted_at : (s : Scene) (current : ℕ → Option ℕ) (x : ℕ) → ((y : ℕ) → y < x → IsActiveJob s y (current y)) → Granted s x (held_at s current x)
unfolding held_at walked
granted_at s current zero own = granted_first s (held_at s current zero) (λ q. refl)
granted_at s current (suc x) own =
    subst (λ n. Granted s n (held_at s current (suc x))) (add-one x)
    (granted_next s x (current x) (held_at s current x) (held_at s current (suc x))
    (granted_at s current x (λ y l. own y (omega arith))) (own x (omega arith)) (λ q. refl))

pub placed_at : (s : Scene) (held current : ℕ → Option ℕ) (x : ℕ) → ((y : ℕ) → y < x → IsActiveJob s y (current y))
    → Placed s held x (running_at s held current x)
unfolding running_at walked
placed_at s held current zero own = placed_first s held (running_at s held current zero) (λ k. refl)
placed_at s held current (suc x) own =
    subst (λ n. Placed s held n (running_at s held current (suc x))) (add-one x)
    (placed_next s held x (current x) (running_at s held current x) (running_at s held current (suc x))
    (placed_at s held current x (λ y l. own y (omega arith))) (own x (omega arith)) (λ k. refl))

-- The same places.
pub granted_same : (s : Scene) (x : ℕ) (held more : ℕ → Option ℕ) → Granted s x held → ((q : ℕ) → more q ≡ held q) → Granted s x more
granted_same s x held more g same = record {
  asks = λ q j e. g.asks q j (sym (same q) ∙ e);
  keeps = λ q j e h. same q ∙ g.keeps q j e h;
  early = λ q j e. g.early q j (sym (same q) ∙ e);
  leads = λ q j e. g.leads q j (sym (same q) ∙ e);
  free = λ q e. g.free q (sym (same q) ∙ e);
}

pub placed_same : (s : Scene) (held : ℕ → Option ℕ) (x : ℕ) (running more : ℕ → Option ℕ) → Placed s held x running
    → ((k : ℕ) → more k ≡ running k) → Placed s held x more
placed_same s held x running more p same = record {
  active = λ k r e. p.active k r (sym (same k) ∙ e);
  ready = λ k r e. p.ready k r (sym (same k) ∙ e);
  column = λ k r e. p.column k r (sym (same k) ∙ e);
  early = λ k r e. p.early k r (sym (same k) ∙ e);
  busy = λ k e. p.busy k (sym (same k) ∙ e);
  holders = λ k r e. p.holders k r (sym (same k) ∙ e);
  locals = λ k r e. p.locals k r (sym (same k) ∙ e);
}

-- So a walk over a machine's active jobs grants and places.
pub walk_granted : (m : MachineDef) (grant run : ℕ → ℕ) (start more : ℕ → Option ℕ) → IsMachine m
    → ((q : ℕ) → start q ≡ stays (requester_now m q) (holder_now m q))
    → ((q : ℕ) → more q ≡ walked (asked (scene_now grant run m)) (current_now m) (length m.list.set.tasks) q (start q))
    → Granted (scene_now grant run m) (length m.list.set.tasks) more
unfolding held_at
walk_granted m grant run start more machine kept each =
    granted_same (scene_now grant run m) (length m.list.set.tasks)
    (held_at (scene_now grant run m) (current_now m) (length m.list.set.tasks)) more
    (granted_at (scene_now grant run m) (current_now m) (length m.list.set.tasks) (λ y l. active_job_now m grant run y machine l))
    (λ q. each q ∙ ap (walked (asked (scene_now grant run m)) (current_now m) (length m.list.set.tasks) q)
    (kept q ∙ kept_now m grant run q))

pub walk_placed : (m : MachineDef) (column grant run : ℕ → ℕ) (held start more : ℕ → Option ℕ) → IsMachine m
    → ((k : ℕ) → start k ≡ None)
    → ((k : ℕ) → more k ≡ walked (entered (scene_in column grant run m) held) (current_now m) (length m.list.set.tasks) k (start k))
    → Placed (scene_in column grant run m) held (length m.list.set.tasks) more
unfolding running_at
walk_placed m column grant run held start more machine empty each =
    placed_same (scene_in column grant run m) held (length m.list.set.tasks)
    (running_at (scene_in column grant run m) held (current_now m) (length m.list.set.tasks)) more
    (placed_at (scene_in column grant run m) held (current_now m) (length m.list.set.tasks) (λ y l. active_job_in m column grant run y machine l))
    (λ k. each k ∙ ap (walked (entered (scene_in column grant run m) held) (current_now m) (length m.list.set.tasks) k) (empty k))

-- Where jobs run makes no difference to the holders.
pub granted_in : (m : MachineDef) (column grant run : ℕ → ℕ) (x : ℕ) (held : ℕ → Option ℕ) → Granted (scene_now grant run m) x held
    → Granted (scene_in column grant run m) x held
granted_in m column grant run x held g = record {
  asks = g.asks;
  keeps = g.keeps;
  early = g.early;
  leads = g.leads;
  free = g.free;
}
