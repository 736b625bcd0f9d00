-- Jobs that are named in lists of places, as contracts see them.
use Rattle.std.proofs.Common.{◌≡◌, ℕ, zero, suc, ◌<◌, true, inl, inr, List, [], ◌∷◌, length, get_or, map, ap, ◌∙◌, sym}
use Rattle.std.proofs.Common.{refl, arith, Option, Some, None}
use Rattle.std.specs.Prelude.{IfSome}
use Rattle.std.proofs.lemmas.Bool.{cases_order, cases_lt}
use Rattle.std.proofs.lemmas.List.{get_or-map, get_or_default, get_or_past, length-map}
use Rattle.schedule_model.specs.declared.job.JobId.{JobId}
use Rattle.schedule_model.specs.declared.row.Row.{Row}
use Rattle.schedule_model.specs.RowDef.{running_on}
use Rattle.schedule_model.specs.JobDef.{JobsDef}
use Rattle.schedule_model.specs.Seen.{place_seen, row_seen}
use Rattle.phase_machine.specs.MachineDef.{MachineDef}
use Rattle.phase_machine.specs.Now.{active_now}
use Rattle.phase_machine.specs.Taking.{CanTake, IsRowFor, AreAlone}

-- What a place names, as the contracts see it.
pub seen_at : (places : List (Option JobId)) (i : ℕ) (o : Option JobId) → i < length places → get_or places i None ≡ o
    → get_or (map place_seen places) i None ≡ place_seen o
seen_at places i o l e = get_or-map place_seen places i None None l ∙ ap place_seen e

some_below : (n : ℕ) (o : Option JobId) → ((j : ℕ) → place_seen o ≡ Some j → j < n) → IfSome o (λ j. j.0 < n)
some_below n None h = tt
some_below n (Some j) h = h j.0 refl

-- A job that is read from a list that names jobs below n alone is below n.
pub read_below : (places : List (Option JobId)) (i n : ℕ) (o : Option JobId) → i < length places → o ≡ get_or places i o
    → ((j : ℕ) → get_or (map place_seen places) i None ≡ Some j → j < n) → IfSome o (λ j. j.0 < n)
read_below places i n o l e h = some_below n o (λ j f. h j (seen_at places i o l (sym (e ∙ get_or_default places i o None l)) ∙ f))

-- As many places are seen as there are.
pub in_columns : (places : List (Option JobId)) (i : ℕ) → i < length places → i < length (map place_seen places)
in_columns places i l = omega (arith, l, length-map places place_seen)

-- A place that is seen to name a job is one of the list, and names it.
pub record Names (places : List (Option JobId)) (c j : ℕ) : Type 0 where
  pub within : c < length places
  pub job : JobId
  pub named : get_or places c None ≡ Some job
  pub number : job.0 ≡ j

pub names_at : (places : List (Option JobId)) (c j : ℕ) → get_or (map place_seen places) c None ≡ Some j → Names places c j
names_at [] c j e = absurd (cc)
names_at (None ∷ places) zero j e = absurd (cc)
names_at (Some job ∷ places) zero j e = record { within = omega arith; job = job; named = refl; number = cc }
names_at (o ∷ places) (suc c) j e = let n : Names places c j = names_at places c j e in
    record { within = omega (arith, n.within); job = n.job; named = n.named; number = n.number }

-- In a row for these jobs a column names a listed one.
pub named_listed : (list : JobsDef) (row : Row) → IsRowFor list (row_seen row) → (c : ℕ) (j : JobId)
    → get_or row.running.items c None ≡ Some j → j.0 < length list.jobs
named_listed list row fits c j e = elim (cases_lt c (length row.running.items)) [
  | inl l ↦ fits.running (suc c) j.0 (seen_at row.running.items c (Some j) l e)
  | inr past ↦ let none : get_or row.running.items c None ≡ None = get_or_past row.running.items c None past in absurd (cc)
]

-- A row for the machine's jobs whose columns run active jobs, each once, can be taken.
pub can_take_from : (m : MachineDef) (row : Row) → IsRowFor m.list (row_seen row) → AreAlone m row.running.items
    → CanTake m (row_seen row)
can_take_from m row fits alone = record { fits = fits; active = act; one_column = one } where
  act : (k j : ℕ) → running_on (row_seen row) k ≡ Some j → active_now m j ≡ true
  act zero j e = absurd (cc)
  act (suc c) j e = let n : Names row.running.items c j = names_at row.running.items c j e in
      rw (← n.number) ((alone c n.within).active n.job n.named)

  same_job : (i j : JobId) (n : ℕ) → i.0 ≡ n → j.0 ≡ n → i ≡ j
  same_job i j n e f = ap (λ k. record { 0 = k }) (e ∙ sym f)

  one : (k l j : ℕ) → running_on (row_seen row) k ≡ Some j → running_on (row_seen row) l ≡ Some j → k ≡ l
  one zero l j e f = absurd (cc)
  one (suc c) zero j e f = absurd (cc)
  one (suc c) (suc d) j e f =
      let n : Names row.running.items c j = names_at row.running.items c j e in
      let o : Names row.running.items d j = names_at row.running.items d j f in
      let same : o.job ≡ n.job = same_job o.job n.job j o.number n.number in
      elim (cases_order c d) [
        | inl equal ↦ ap suc equal
        | inr other ↦ elim other [
          | inl before ↦ absurd ((alone d o.within).once c o.job before o.named (n.named ∙ ap (λ k. Some k) (sym same)))
          | inr behind ↦ absurd ((alone c n.within).once d n.job behind n.named (o.named ∙ ap (λ k. Some k) same))
        ]
      ]

-- And the columns of a row that can be taken do.
pub alone_from : (m : MachineDef) (row : Row) → CanTake m (row_seen row) → AreAlone m row.running.items
alone_from m row takes c l = record { active = act; once = one } where
  act : (j : JobId) → get_or row.running.items c None ≡ Some j → active_now m j.0 ≡ true
  act j e = takes.active (suc c) j.0 (seen_at row.running.items c (Some j) l e)

  one : (b : ℕ) (j : JobId) → b < c → get_or row.running.items c None ≡ Some j → get_or row.running.items b None ≡ Some j → ⊥
  one b j h e f =
      let same : suc c ≡ suc b = takes.one_column (suc c) (suc b) j.0 (seen_at row.running.items c (Some j) l e)
      (seen_at row.running.items b (Some j) (omega arith) f) in
      absurd (omega (arith, same, h))
