-- How tallies follow from the answers of analyses, and how they grow.
use Rattle.std.proofs.Common.{◌≡◌, ℕ, suc, ◌+◌, ◌<◌, ◌≤◌, List, [], ◌∷◌, ◌++◌, length, map, Some, Ok, Err, refl, sym}
use Rattle.std.proofs.Common.{◌∙◌, ap, subst, arith, inl, inr, length-append}
use Rattle.std.specs.Prelude.{Result, slice_get, slice_index_or}
use Rattle.std.proofs.lemmas.Bool.{cases_lt}
use Rattle.std.proofs.lemmas.List.{get_or_push, get_or_append_left}
use Rattle.std.proofs.lemmas.Option.{slice_get_within, slice_get_read, get_or_from_slice_get}
use Rattle.program_form.specs.Certificate.{dual_seen}
use Rattle.sporadic_model.specs.SetDef.{SetDef}
use Rattle.sporadic_model.specs.declared.ids.Protocol.{Protocol}
use Rattle.sporadic_model.specs.declared.ids.Protocol.TheVariants as protocol
use Rattle.response_fixpoint.specs.Rounds.{Ending, EndsIn, Schedulable, NotShown, Wide, Allowance}
use Rattle.response_fixpoint.specs.Runs.{rounds_of}
use Rattle.program_laws.specs.Programs.{source_of}
use Rattle.response_fixpoint.specs.Answers.{Answers, IsAnswerOf}
use Rattle.response_fixpoint.specs.declared.verdict.Verdict.{Verdict}
use Rattle.response_fixpoint.specs.declared.verdict.Verdict.TheVariants as verdict
use Rattle.response_fixpoint.specs.declared.verdict.Stop.{Stop}
use Rattle.response_fixpoint.specs.declared.verdict.Stop.TheVariants as stop
use Rattle.study_gen.specs.Sets.{set_made, behind_set}
use Rattle.study_gen.specs.Counts.{CountsShown, CountsStopped, behind_sets, set_of_step, step_begins, StoppedBefore, IsStepCount}
use Rattle.study_gen.specs.Tallies.{IsOutcome, HasRoom, HaveRoom, Adds, AddsSet, IsTally, IsStepTally}
use Rattle.study_gen.specs.declared.counting.Outcome.TheVariants as outcome
use Rattle.study_gen.specs.declared.counting.Tally.{Tally}
use Rattle.study_gen.specs.declared.counting.StepTally.{StepTally}

-- The only endings that an answer leaves.
abbrev pub Only : Result Verdict Stop → Protocol → SetDef → Type 0
Only r p set = (e : Ending) → EndsIn (rounds_of (source_of p set)) 1000000 e → IsAnswerOf r e

-- What an answer says of how the analysis ended.
abbrev pub SaysOutcome : Result Verdict Stop → Protocol → SetDef → Type 0
SaysOutcome (Ok (verdict.Schedulable certificate)) p set = IsOutcome outcome.Shown p set
SaysOutcome (Ok (verdict.NotShown task bound)) p set = IsOutcome outcome.NotShown p set
SaysOutcome (Err (stop.Wide task)) p set = IsOutcome outcome.Stopped p set
SaysOutcome (Err stop.Allowance) p set = IsOutcome outcome.Stopped p set
SaysOutcome (Err stop.Memory) p set = Unit {0}

pub says_outcome : (p : Protocol) (set : SetDef) (r : Result Verdict Stop) → Answers r (source_of p set) 1000000
    → Only r p set → SaysOutcome r p set
says_outcome p set (Ok (verdict.Schedulable certificate)) ends only = (
  (certificate.bounds.items, map dual_seen certificate.duals.items, ends),
  (λ stopped. elim stopped [
    | inl wide ↦ (let no : Wide wide.0 ≡ Schedulable certificate.bounds.items (map dual_seen certificate.duals.items) =
        only (Wide wide.0) wide.1 in
        cc)
    | inr short ↦ (let no : Allowance ≡ Schedulable certificate.bounds.items (map dual_seen certificate.duals.items) =
        only Allowance short in
        cc)
  ]),
)
says_outcome p set (Ok (verdict.NotShown task bound)) ends only = (
  (λ shown. let no : Schedulable shown.0 shown.1 ≡ NotShown task.0 bound = only (Schedulable shown.0 shown.1) shown.2 in cc),
  (λ stopped. elim stopped [
    | inl wide ↦ (let no : Wide wide.0 ≡ NotShown task.0 bound = only (Wide wide.0) wide.1 in cc)
    | inr short ↦ (let no : Allowance ≡ NotShown task.0 bound = only Allowance short in cc)
  ]),
)
says_outcome p set (Err (stop.Wide task)) ends only = (
  (λ shown. let no : Schedulable shown.0 shown.1 ≡ Wide task.0 = only (Schedulable shown.0 shown.1) shown.2 in cc),
  inl (task.0, ends),
)
says_outcome p set (Err stop.Allowance) ends only = (
  (λ shown. let no : Schedulable shown.0 shown.1 ≡ Allowance = only (Schedulable shown.0 shown.1) shown.2 in cc),
  inr ends,
)
says_outcome p set (Err stop.Memory) ends only = tt

-- The same of a verdict, and of a stop, that the answer is.
pub verdict_says : (p : Protocol) (set : SetDef) (r : Result Verdict Stop) (v w : Verdict)
    → Answers r (source_of p set) 1000000 → Only r p set
    → r ≡ Ok v → v ≡ w → SaysOutcome (Ok w) p set
verdict_says p set r v w ends only is same =
    subst (λ (x : Verdict). SaysOutcome (Ok x) p set) same
    (subst (λ (x : Result Verdict Stop). SaysOutcome x p set) is (says_outcome p set r ends only))

pub stop_says : (p : Protocol) (set : SetDef) (r : Result Verdict Stop) (e f : Stop) → Answers r (source_of p set) 1000000 → Only r p set
    → r ≡ Err e → e ≡ f → SaysOutcome (Err f) p set
stop_says p set r e f ends only is same =
    subst (λ (x : Stop). SaysOutcome (Err x) p set) same
    (subst (λ (x : Result Verdict Stop). SaysOutcome x p set) is (says_outcome p set r ends only))

-- One more set grows the tally of a protocol.
pub tally_more : (p : Protocol) (step s n : ℕ) (before after : Tally) → IsTally p step s n before
    → Adds before after p (set_of_step step s n)
    → IsTally p step s (suc n) after
tally_more p step s n before after old (outcome.Shown, is, grown) =
    let shown : after.shown ≡ before.shown + 1 = ap (λ (t : Tally). t.shown) grown in
    let stopped : after.stopped ≡ before.stopped = ap (λ (t : Tally). t.stopped) grown in
    record {
      shown = inl (is.0, before.shown, old.shown, shown);
      stopped = inr (is.1, subst (λ (k : ℕ). CountsStopped p step s n k) (sym stopped) old.stopped);
      shown_most = omega (arith, shown, old.shown_most);
      stopped_most = omega (arith, stopped, old.stopped_most);
    }
tally_more p step s n before after old (outcome.NotShown, is, grown) =
    let shown : after.shown ≡ before.shown = ap (λ (t : Tally). t.shown) grown in
    let stopped : after.stopped ≡ before.stopped = ap (λ (t : Tally). t.stopped) grown in
    record {
      shown = inr (is.0, subst (λ (k : ℕ). CountsShown p step s n k) (sym shown) old.shown);
      stopped = inr (is.1, subst (λ (k : ℕ). CountsStopped p step s n k) (sym stopped) old.stopped);
      shown_most = omega (arith, shown, old.shown_most);
      stopped_most = omega (arith, stopped, old.stopped_most);
    }
tally_more p step s n before after old (outcome.Stopped, is, grown) =
    let shown : after.shown ≡ before.shown = ap (λ (t : Tally). t.shown) grown in
    let stopped : after.stopped ≡ before.stopped + 1 = ap (λ (t : Tally). t.stopped) grown in
    record {
      shown = inr (is.0, subst (λ (k : ℕ). CountsShown p step s n k) (sym shown) old.shown);
      stopped = inl (is.1, before.stopped, old.stopped, stopped);
      shown_most = omega (arith, shown, old.shown_most);
      stopped_most = omega (arith, stopped, old.stopped_most);
    }

pub step_more : (step s n : ℕ) (before after : StepTally) → IsStepTally step s n before → AddsSet before after (set_made step before.state)
    → IsStepTally step s (n + 1) after
step_more step s n before after old adds =
    let at : set_made step before.state ≡ set_of_step step s n = ap (λ (k : ℕ). set_made step k) old.state in
    let count : suc n ≡ n + 1 = omega arith in
    let next : IsStepTally step s (suc n) after = record {
      mpcp = tally_more protocol.Mpcp step s n before.mpcp after.mpcp old.mpcp
          (subst (λ (x : SetDef). Adds before.mpcp after.mpcp protocol.Mpcp x) at adds.mpcp);
      fmlp = tally_more protocol.FmlpPlus step s n before.fmlp after.fmlp old.fmlp
          (subst (λ (x : SetDef). Adds before.fmlp after.fmlp protocol.FmlpPlus x) at adds.fmlp);
      dpcp = tally_more protocol.Dpcp step s n before.dpcp after.dpcp old.dpcp
          (subst (λ (x : SetDef). Adds before.dpcp after.dpcp protocol.Dpcp x) at adds.dpcp);
      state = adds.state ∙ ap behind_set old.state;
    } in
    subst (λ (k : ℕ). IsStepTally step s k after) count next

-- The rows of the steps so far with that of the next one.
abbrev pub AreRows : ℕ → ℕ → List (List ℕ) → Type 0
AreRows seed sets rows = (i : ℕ) (row : List ℕ) → slice_get rows i ≡ Some row → IsStepCount seed sets i row

pub no_rows : (seed sets : ℕ) → AreRows seed sets []
no_rows seed sets = λ i row here. cc

pub rows_more : (seed sets n : ℕ) (rows : List (List ℕ)) (row : List ℕ) → length rows ≡ n → AreRows seed sets rows
    → IsStepCount seed sets n row
    → AreRows seed sets (rows ++ row ∷ [])
rows_more seed sets n rows row count old new = λ k x here.
    let most = slice_get_within (rows ++ row ∷ []) k x here in
    let grown = length-append rows (row ∷ []) in
    let at : slice_index_or (rows ++ row ∷ []) k x ≡ x = get_or_from_slice_get (rows ++ row ∷ []) k x x here in
    elim (cases_lt k n) [
      | inl before ↦
          let there : k < length rows = omega (arith, before, count) in
          let left : slice_index_or (rows ++ row ∷ []) k x ≡ slice_index_or rows k x = get_or_append_left rows (row ∷ []) x k there in
          old k x (slice_get_read rows (length rows) k x refl there (sym at ∙ left))
      | inr behind ↦
          let last : n ≡ k = omega (arith, behind, most, grown, count) in
          let seat : slice_index_or (rows ++ row ∷ []) k x ≡ row = get_or_push rows row x k (count ∙ last) in
          subst (λ (y : List ℕ). IsStepCount seed sets k y) (sym seat ∙ at) (subst (λ (m : ℕ). IsStepCount seed sets m row) last new)
    ]

-- What a whole step gives to the study.
pub step_counts : (seed sets i s : ℕ) (t : StepTally) → IsStepTally (i + 1) s sets t → s ≡ step_begins seed sets i
    → IsStepCount seed sets i (t.mpcp.shown ∷ t.fmlp.shown ∷ t.dpcp.shown ∷ [])
step_counts seed sets i s t is at =
    let here = subst (λ (k : ℕ). IsStepTally (i + 1) k sets t) at is in
    record { mpcp = here.mpcp.shown; fmlp = here.fmlp.shown; dpcp = here.dpcp.shown }

pub stopped_more : (seed sets i s before now : ℕ) (t : StepTally) → IsStepTally (i + 1) s sets t → s ≡ step_begins seed sets i
    → StoppedBefore seed sets i before → now ≡ before + (t.mpcp.stopped + t.fmlp.stopped + t.dpcp.stopped)
    → StoppedBefore seed sets (i + 1) now
stopped_more seed sets i s before now t is at old sum =
    let here = subst (λ (k : ℕ). IsStepTally (i + 1) k sets t) at is in
    let count : suc i ≡ i + 1 = omega arith in
    let whole : now ≡ before + t.mpcp.stopped + t.fmlp.stopped + t.dpcp.stopped = omega (arith, sum) in
    subst (λ (k : ℕ). StoppedBefore seed sets k now) count
    (before, t.mpcp.stopped, t.fmlp.stopped, t.dpcp.stopped, old, here.mpcp.stopped, here.fmlp.stopped, here.dpcp.stopped, whole)

pub begins_more : (seed sets i s : ℕ) (t : StepTally) → IsStepTally (i + 1) s sets t → s ≡ step_begins seed sets i
    → t.state ≡ step_begins seed sets (i + 1)
begins_more seed sets i s t is at =
    let count : suc i ≡ i + 1 = omega arith in
    subst (λ (k : ℕ). t.state ≡ step_begins seed sets k) count (is.state ∙ ap (λ (k : ℕ). behind_sets k sets) at)

pub stopped_most : (i s sets : ℕ) (t : StepTally) → IsStepTally (i + 1) s sets t → sets ≤ 1000
    → t.mpcp.stopped + t.fmlp.stopped + t.dpcp.stopped ≤ 3000
stopped_most i s sets t is most = omega (arith, is.mpcp.stopped_most, is.fmlp.stopped_most, is.dpcp.stopped_most, most)

-- There is room for one more set where fewer than 1000 are counted.
has_room : (p : Protocol) (step s n : ℕ) (t : Tally) → IsTally p step s n t → n < 1000 → HasRoom t
has_room p step s n t is few =
    record { shown = omega (arith, is.shown_most, few); stopped = omega (arith, is.stopped_most, few) }

pub step_has_room : (step s n : ℕ) (t : StepTally) → IsStepTally step s n t → n < 1000 → HaveRoom t
step_has_room step s n t is few = record {
  mpcp = has_room protocol.Mpcp step s n t.mpcp is.mpcp few;
  fmlp = has_room protocol.FmlpPlus step s n t.fmlp is.fmlp few;
  dpcp = has_room protocol.Dpcp step s n t.dpcp is.dpcp few;
}

-- The tallies of no set.
pub no_tally : (step s : ℕ) (t : StepTally) → t.mpcp ≡ record { shown = 0; stopped = 0 }
    → t.fmlp ≡ record { shown = 0; stopped = 0 } → t.dpcp ≡ record { shown = 0; stopped = 0 } → t.state ≡ s
    → IsStepTally step s 0 t
no_tally step s t a b d at = record {
  mpcp = none protocol.Mpcp t.mpcp a;
  fmlp = none protocol.FmlpPlus t.fmlp b;
  dpcp = none protocol.Dpcp t.dpcp d;
  state = at;
} where
  none : (p : Protocol) (x : Tally) → x ≡ record { shown = 0; stopped = 0 } → IsTally p step s 0 x
  none p x is =
      let shown : x.shown ≡ 0 = ap (λ (y : Tally). y.shown) is in
      let stopped : x.stopped ≡ 0 = ap (λ (y : Tally). y.stopped) is in
      record { shown = shown; stopped = stopped; shown_most = omega (arith, shown); stopped_most = omega (arith, stopped) }
