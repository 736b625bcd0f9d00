-- A schedule whose rows are chosen, from stretch to stretch.
use Rattle.std.proofs.Common.{◌≡◌, ℕ, ◌+◌, ◌-◌, ◌<◌, Bool, refl, sym, subst, arith, inl, inr, ltb, cond}
use Rattle.std.proofs.lemmas.Bool.{cases_lt, lt-ltb, le-ltb}
use Rattle.schedule_model.specs.JobDef.{JobsDef}
use Rattle.schedule_model.specs.RowDef.{RowDef, Trace}
use Rattle.schedule_model.specs.Chosen.{IsSized}
use Rattle.schedule_model.specs.Keeping.{KeepsRow, KeepsBefore}
use Rattle.schedule_model.specs.ProtocolLaws.{IsSoundRow}
use Rattle.schedule_model.specs.declared.rule.Rule.{Rule}
use Rattle.schedule_laws.specs.Agreement.{ChoiceReadsUpTo}
use Rattle.schedule_laws.proofs.TakenRows.{sound_taken}
use Rattle.phase_machine.specs.MachineDef.{MachineDef, under}
use Rattle.phase_machine.specs.Shows.{Shows}
use Rattle.phase_machine.specs.Taking.{CanTake}
use Rattle.phase_machine.proofs.Facts.{reads_before, can_take}
use Rattle.sim_engine.specs.Choosing.{AreChosenSoFar}

-- The jobs of a list under rows.
abbrev pub over : JobsDef → (ℕ → RowDef) → Trace
over list rows = record { set = list.set; jobs = list.jobs; row = rows }

-- A schedule with another row from tick n on.
ending : (ℕ → RowDef) → ℕ → RowDef → ℕ → RowDef
ending rows n row t = cond (ltb t n) (rows t) row

ending_here : (rows : ℕ → RowDef) (n : ℕ) (row : RowDef) → ending rows n row n ≡ row
unfolding ending
ending_here rows n row = rw (le-ltb n n (omega arith)) refl

ending_before : (rows : ℕ → RowDef) (n : ℕ) (row : RowDef) (t : ℕ) → t < n → rows t ≡ ending rows n row t
unfolding ending
ending_before rows n row t l = rw (lt-ltb t n l) refl

-- What is chosen so far depends on the rows before the machine's tick alone.
pub chosen_again : (chooses : Trace → ℕ → Type 0) (rows more : ℕ → RowDef) (m : MachineDef) → ChoiceReadsUpTo chooses
    → ((t : ℕ) → t < m.tick → rows t ≡ more t)
    → AreChosenSoFar chooses rows m → AreChosenSoFar chooses more m
chosen_again chooses rows more m reads same far = record {
  shows = reads_before m rows more same far.shows;
  chosen = λ t l. reads (under m rows) (under m more) m.tick t (record { set = refl; jobs = refl; rows = same }) l (far.chosen t l);
}

-- What a protocol's laws give where the machine's set suits it, and what its choice of a row at the machine's tick does.
pub record Picks (chooses : Trace → ℕ → Type 0) (keeps : Rule → Trace → ℕ → Type 0) (interferes : Trace → ℕ → ℕ → Bool)
    (m : MachineDef) (row : RowDef) : Type 0
  where
    pub reads : ChoiceReadsUpTo chooses
    pub kept : (rows : ℕ → RowDef) (t : ℕ) → chooses (under m rows) t → KeepsRow keeps (under m rows) t
    pub sound : (rows : ℕ → RowDef) (t : ℕ) → KeepsRow keeps (under m rows) t → IsSoundRow interferes (under m rows) t
    pub sized : IsSized m.list.set row
    pub picks : (rows : ℕ → RowDef) → Shows m rows → rows m.tick ≡ row → KeepsBefore keeps (under m rows) m.tick
        → chooses (under m rows) m.tick

-- The row is the chosen one of each schedule that has it and is chosen so far.
pub picked : (chooses : Trace → ℕ → Type 0) (keeps : Rule → Trace → ℕ → Type 0) (interferes : Trace → ℕ → ℕ → Bool)
    (m : MachineDef) (row : RowDef) → Picks chooses keeps interferes m row
    → (rows : ℕ → RowDef) → AreChosenSoFar chooses rows m → rows m.tick ≡ row → chooses (under m rows) m.tick
picked chooses keeps interferes m row p rows far here = p.picks rows far.shows here (λ t l. p.kept rows t (far.chosen t l))

-- So the machine can take it.
pub picked_taken : (chooses : Trace → ℕ → Type 0) (keeps : Rule → Trace → ℕ → Type 0)
    (interferes : Trace → ℕ → ℕ → Bool) (m : MachineDef) (row : RowDef) → Picks chooses keeps interferes m row
    → (rows : ℕ → RowDef) → AreChosenSoFar chooses rows m → CanTake m row
picked_taken chooses keeps interferes m row p rows far =
    let more : ℕ → RowDef = ending rows m.tick row in
    let here : more m.tick ≡ row = ending_here rows m.tick row in
    let again : AreChosenSoFar chooses more m = chosen_again chooses rows more m p.reads (ending_before rows m.tick row) far in
    let sound : IsSoundRow interferes (under m more) m.tick =
    p.sound more m.tick (p.kept more m.tick (picked chooses keeps interferes m row p more again here)) in
    let sized : IsSized m.list.set (more m.tick) = subst (λ (r : RowDef). IsSized m.list.set r) (sym here) p.sized in
    subst (λ (r : RowDef). CanTake m r) here (can_take m more again.shows (sound_taken interferes (under m more) m.tick sized sound))

-- And after it more rows are chosen.
pub chosen_on : (chooses : Trace → ℕ → Type 0) (m n : MachineDef) (rows : ℕ → RowDef) (more : ℕ) → n.list ≡ m.list
    → n.tick ≡ m.tick + more → AreChosenSoFar chooses rows m
    → ((i : ℕ) → i < more → chooses (under m rows) (m.tick + i)) → Shows n rows → AreChosenSoFar chooses rows n
chosen_on chooses m n rows more list tick far each shows = record {
  shows = shows;
  chosen = λ t l. subst (λ (list : JobsDef). chooses (over list rows) t) (sym list) (at t (omega (arith, l, tick)));
} where
  at : (t : ℕ) → t < m.tick + more → chooses (over m.list rows) t
  at t l = elim (cases_lt t m.tick) [
    | inl early ↦ far.chosen t early
    | inr late ↦ let e : m.tick + (t - m.tick) ≡ t = omega (arith, late) in
        subst (λ (u : ℕ). chooses (over m.list rows) u) e (each (t - m.tick) (omega (arith, l, late)))
  ]
