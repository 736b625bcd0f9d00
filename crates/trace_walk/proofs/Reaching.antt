-- How far a schedule is walked, from stretch to stretch.
use Rattle.std.proofs.Common.{◌≡◌, ℕ, ◌+◌, ◌-◌, ◌<◌, ◌≤◌, List, sym, subst, arith, inl, inr}
use Rattle.std.proofs.lemmas.Bool.{cases_lt}
use Rattle.schedule_model.specs.JobDef.{JobsDef}
use Rattle.schedule_model.specs.RowDef.{Trace, RowDef, RunDef, row_in, ticks_of}
use Rattle.schedule_model.specs.Keeping.{KeepsRow, KeepsBefore, Breaks, IsFirstUnlawful}
use Rattle.schedule_model.specs.declared.rule.Rule.{Rule}
use Rattle.phase_machine.specs.MachineDef.{MachineDef, under}
use Rattle.phase_machine.specs.Shows.{Shows}
use Rattle.trace_walk.specs.Reached.{IsReached}
use Rattle.trace_walk.specs.Walked.{IsWalked}

-- The jobs of a list under rows.
abbrev pub over : JobsDef → (ℕ → RowDef) → Trace
over list rows = record { set = list.set; jobs = list.jobs; row = rows }

-- What is kept of n ticks under one machine is kept of them under another with the same jobs, and by another name of n.
kept_by : {R : Type 0} (kept : Trace → ℕ → R → Type 0) (rows : ℕ → RowDef) (a b : JobsDef) (t u : ℕ) (now : R) → a ≡ b → t ≡ u
    → kept (over a rows) t now → kept (over b rows) u now
kept_by kept rows a b t u now list tick h =
    subst (λ (t : ℕ). kept (over b rows) t now) tick (subst (λ (l : JobsDef). kept (over l rows) t now) list h)

lawful_by : (keeps : Rule → Trace → ℕ → Type 0) (rows : ℕ → RowDef) (a b : JobsDef) (t u : ℕ) → a ≡ b → t ≡ u
    → KeepsBefore keeps (over a rows) t → KeepsBefore keeps (over b rows) u
lawful_by keeps rows a b t u list tick h =
    subst (λ (t : ℕ). KeepsBefore keeps (over b rows) t) tick (subst (λ (l : JobsDef). KeepsBefore keeps (over l rows) t) list h)

-- Rows that keep the rules, and some more.
keeps_more : (keeps : Rule → Trace → ℕ → Type 0) (w : Trace) (t n : ℕ) → KeepsBefore keeps w t
    → ((i : ℕ) → i < n → KeepsRow keeps w (t + i)) → KeepsBefore keeps w (t + n)
keeps_more keeps w t n before rows u l = elim (cases_lt u t) [
  | inl early ↦ before u early
  | inr late ↦ let e : t + (u - t) ≡ u = omega (arith, late) in
      subst (λ (u : ℕ). KeepsRow keeps w u) e (rows (u - t) (omega (arith, late, l)))
]

-- At the start no row was judged, and what is kept is what is kept of no ticks.
pub reached_first : {R : Type 0} (keeps : Rule → Trace → ℕ → Type 0) (kept : Trace → ℕ → R → Type 0) (rows : ℕ → RowDef)
    (m : MachineDef) (list : JobsDef) (now : R) → Shows m rows → m.list ≡ list → m.tick ≡ 0 → kept (over list rows) 0 now
    → IsReached keeps kept rows m now
reached_first keeps kept rows m list now shows same start first = record {
  shows = shows;
  keeps_before = λ t l. absurd (omega (arith, l, start));
  are_kept = kept_by kept rows list m.list 0 m.tick now (sym same) (sym start) first;
}

-- Some rows more that keep the rules, kept and taken.
pub reached_on : {R : Type 0} (keeps : Rule → Trace → ℕ → Type 0) (kept : Trace → ℕ → R → Type 0) (rows : ℕ → RowDef)
    (m n : MachineDef) (more : ℕ) (before after : R) → IsReached keeps kept rows m before → n.list ≡ m.list → n.tick ≡ m.tick + more
    → Shows n rows → ((i : ℕ) → i < more → KeepsRow keeps (under m rows) (m.tick + i)) → kept (under m rows) (m.tick + more) after
    → IsReached keeps kept rows n after
reached_on keeps kept rows m n more before after reached list tick shows lawful now = record {
  shows = shows;
  keeps_before = lawful_by keeps rows m.list n.list (m.tick + more) n.tick (sym list) (sym tick)
      (keeps_more keeps (under m rows) m.tick more reached.keeps_before lawful);
  are_kept = kept_by kept rows m.list n.list (m.tick + more) n.tick after (sym list) (sym tick) now;
}

-- After all rows.
pub walked_all : {R : Type 0} (keeps : Rule → Trace → ℕ → Type 0) (kept : Trace → ℕ → R → Type 0) (jobs : JobsDef) (runs : List RunDef)
    (m : MachineDef) (now : R) → m.list ≡ jobs → m.tick ≡ ticks_of runs → IsReached keeps kept (row_in runs) m now
    → IsWalked keeps kept jobs runs now m
walked_all keeps kept jobs runs m now list tick reached = record {
  list = list;
  tick = tick;
  shows = reached.shows;
  lawful = lawful_by keeps (row_in runs) m.list jobs m.tick (ticks_of runs) list tick reached.keeps_before;
  are_kept = kept_by kept (row_in runs) m.list jobs m.tick (ticks_of runs) now list tick reached.are_kept;
}

-- The row at the machine's tick is the first that breaks a rule.
pub broken_here : {R : Type 0} (keeps : Rule → Trace → ℕ → Type 0) (kept : Trace → ℕ → R → Type 0) (rows : ℕ → RowDef)
    (m : MachineDef) (now : R) (left : ℕ) (r : Rule) → IsReached keeps kept rows m now → 1 ≤ left → Breaks keeps (under m rows) m.tick r
    → IsFirstUnlawful keeps (under m rows) (m.tick + left) m.tick r
broken_here keeps kept rows m now left r reached some breaks =
    record { within = omega (arith, some); before = reached.keeps_before; breaks = breaks }

-- It is the first of more rows too, and of the same jobs by another machine.
pub broken_within : (keeps : Rule → Trace → ℕ → Type 0) (rows : ℕ → RowDef) (m n : MachineDef) (a b t : ℕ) (r : Rule)
    → n.list ≡ m.list → a ≤ b
    → IsFirstUnlawful keeps (under n rows) a t r → IsFirstUnlawful keeps (under m rows) b t r
broken_within keeps rows m n a b t r list l first = subst (λ (l : JobsDef). IsFirstUnlawful keeps (over l rows) b t r) list more where
  more : IsFirstUnlawful keeps (over n.list rows) b t r
  more = record { within = omega (arith, first.within, l); before = first.before; breaks = first.breaks }
