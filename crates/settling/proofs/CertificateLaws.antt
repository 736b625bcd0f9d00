-- Why a certificate of found duals isn't valid: only since a dual loses the whole part of its optimum.
use Rattle.std.proofs.Common.{◌≡◌, ◌∙◌, ℕ, ◌<◌, ◌≤◌, ◌^◌, List, length, map, Err, refl, sym, ap, subst, arith}
use Rattle.std.specs.Prelude.{slice_index, slice_get, Some}
use Rattle.std.proofs.lemmas.List.{length-map, get_or_default}
use Rattle.std.proofs.lemmas.Option.{slice_get-map, get_or_from_slice_get}
use Rattle.program_form.specs.Certificate.{DualDef, CertificateDef, dual_seen}
use Rattle.program_form.specs.Duals.{IsFeasibleDual, dual_value}
use Rattle.program_form.specs.Program.{ProgramDef}
use Rattle.program_form.specs.declared.certificate.Dual.{Dual}
use Rattle.program_sources.specs.Recurrence.{SourceDef, response_with}
use Rattle.program_sources.specs.Fitting.{AreLeastFitting, tasks_of}
use Rattle.program_sources.specs.Valid.{IsValid, dual_at, no_dual, value_at}
use Rattle.response_fixpoint.specs.Answers.{IsSmallDual}
use Rattle.exchange_runs.specs.Table.{Table}
use Rattle.free_search.specs.Ends.{IsEndAfter, IsRoundedDual, IsFoundDual}
use Rattle.free_search.proofs.Ends.{found_is_rounded}
use Rattle.dual_check.specs.Answers.{Judges, HasDenominators}
use Rattle.schedule_answers.specs.Tests.{IsEnough}
use Rattle.schedule_answers.specs.declared.checked.Invalid.{Invalid}
use Rattle.schedule_answers.specs.declared.checked.Invalid.TheVariants as invalid
use Rattle.settling.specs.Rising.{IsNextBound, IsFixed, IsLastFailure, StopsFor, StopsLost, IsProvedLeast}
use Rattle.settling.specs.Ways.{LosesWhole}
use Rattle.settling.specs.declared.finding.Points.TheVariants.{Exact}
use Rattle.settling.specs.declared.reached.Reached.{Reached}
use Rattle.settling.specs.declared.answer.SettleStop.{SettleStop}
use Rattle.settling.proofs.RiseLaws.{found_there, found_at}
use Rattle.settling.proofs.WayLaws.{fixed_are_least}

-- The dual of a run's end covers its program.
abbrev pub EndsCover : Type 0
EndsCover = (p : ProgramDef) (k : ℕ) (t : Table) (d : DualDef) → IsEndAfter p k t → IsRoundedDual p t d → IsFeasibleDual p d

-- The certificate of these bounds, with the duals that were found.
abbrev pub certificate_with : List ℕ → List Reached → CertificateDef
certificate_with v found = record { bounds = v; duals = map dual_seen (map (λ r. r.dual) found) }

-- Its dual at a place is the one found there.
pub dual_there : (found : List Reached) (i : ℕ) (r : Reached) → slice_get found i ≡ Some r
    → dual_at (map dual_seen (map (λ (x : Reached). x.dual) found)) i ≡ dual_seen r.dual
dual_there found i r at =
    let duals : List Dual = map (λ (x : Reached). x.dual) found in
    let one : slice_get duals i ≡ Some r.dual = rw (slice_get-map (λ (x : Reached). x.dual) found i, at) refl in
    let seen : slice_get (map dual_seen duals) i ≡ Some (dual_seen r.dual) = rw (slice_get-map dual_seen duals i, one) refl in
    get_or_from_slice_get (map dual_seen duals) i (dual_seen r.dual) no_dual seen

-- So it covers its task's program, and is small.
pub record IsGoodDual (p : ProgramDef) (d : DualDef) : Type 0 where
  pub feasible : IsFeasibleDual p d
  pub positive : 1 ≤ d.den
  pub small : IsSmallDual d

good_end : (p : ProgramDef) (k : ℕ) (t : Table) (d : DualDef) → EndsCover → IsEndAfter p k t → IsFoundDual p t d → IsGoodDual p d
good_end p k t d covers end found =
    let rounded : IsRoundedDual p t d = found_is_rounded p t d found in
    record {
      feasible = covers p k t d end rounded;
      positive = rounded.positive;
      small = record {
        den = rounded.small_den;
        num = λ r x here. subst (λ (n : ℕ). n < 2 ^ 63) (sym (get_or_default d.num r x 0 here))
            (rounded.small r (rw (← rounded.number_each) here));
      };
    }

good_dual : (f : SourceDef) (allowance : ℕ) (v : List ℕ) (found : List Reached) (i : ℕ) → EndsCover → IsFixed Exact f allowance v found
    → i < tasks_of f → IsGoodDual (f.program i v) (dual_at (certificate_with v found).duals i)
good_dual f allowance v found i covers fixed here =
    let r = found_there found i (tasks_of f) fixed.one_each here in
    let own = found_at Exact f v found i r.0 fixed.found r.1 in
    subst (λ (d : DualDef). IsGoodDual (f.program i v) d) (sym (dual_there found i r.0 r.1))
    (good_end (f.program i v) own.exchanges own.table (dual_seen r.0.dual) covers own.end own.dual)

duals_each : (found : List Reached) → length (map dual_seen (map (λ (x : Reached). x.dual) found)) ≡ length found
duals_each found =
    length-map (map (λ (x : Reached). x.dual) found) dual_seen ∙ length-map found (λ (x : Reached). x.dual)

pub has_denominators : (f : SourceDef) (allowance : ℕ) (v : List ℕ) (found : List Reached) → EndsCover
    → IsFixed Exact f allowance v found → HasDenominators (certificate_with v found)
has_denominators f allowance v found covers fixed i here =
    (good_dual f allowance v found i covers fixed (omega (arith, here, duals_each found, fixed.one_each))).positive

-- It passes all tests but the last.
passes_size : (f : SourceDef) (allowance : ℕ) (v : List ℕ) (found : List Reached) → IsFixed Exact f allowance v found
    → Judges (Err invalid.Size) f (certificate_with v found) → ⊥
passes_size f allowance v found fixed fails =
    fails (record { bound_each = fixed.range.one_each; dual_each = duals_each found ∙ fixed.one_each })

pub passes_others : (f : SourceDef) (allowance : ℕ) (v : List ℕ) (found : List Reached) (e : Invalid) → EndsCover
    → IsFixed Exact f allowance v found → Judges (Err e) f (certificate_with v found) → IsLastFailure e
passes_others f allowance v found invalid.Size covers fixed fails = absurd (passes_size f allowance v found fixed fails)
passes_others f allowance v found (invalid.Bound i) covers fixed (before, first) =
    absurd (first.fails (fixed.range.to_latest i.0 first.below))
passes_others f allowance v found (invalid.DualSize i) covers fixed (before, first) =
    absurd (first.fails (good_dual f allowance v found i.0 covers fixed first.below).feasible.number_each)
passes_others f allowance v found (invalid.Cover i k) covers fixed (before, first, column) =
    absurd (column.fails ((good_dual f allowance v found i.0 covers fixed first.below).feasible.covers.covered k column.below))
passes_others f allowance v found (invalid.Small i) covers fixed fails = tt
passes_others f allowance v found invalid.Memory covers fixed fails = tt

-- The last one fails only where the dual's value is above the ticks that were found.
loses_whole : (f : SourceDef) (allowance : ℕ) (v : List ℕ) (found : List Reached) (i : ℕ) → IsFixed Exact f allowance v found
    → i < tasks_of f → (IsEnough f (certificate_with v found) i → ⊥) → LosesWhole (f.program i v)
loses_whole f allowance v found i fixed here fails =
    let r = found_there found i (tasks_of f) fixed.one_each here in
    let own = found_at Exact f v found i r.0 fixed.found r.1 in
    let next : IsNextBound f v i r.0.ticks (slice_index v i) = fixed.fixed.each i r.0 here r.1 in
    let value : ℕ = dual_value (f.program i v) (dual_seen r.0.dual).den (λ n. slice_index (dual_seen r.0.dual).num n) in
    let same : value_at f (certificate_with v found) i ≡ value =
    ap (λ (d : DualDef). dual_value (f.program i v) d.den (λ n. slice_index d.num n)) (dual_there found i r.0 r.1) in
    let more : response_with f v i value ≤ slice_index v i → ⊥ = λ enough. fails (rw same enough) in
    record {
      dual = dual_seen r.0.dual;
      of_end = (own.exchanges, own.table, own.end, own.dual);
      blocking = r.0.ticks;
      greatest = own.greatest refl;
      above = omega (arith, next.greater, more);
    }

-- So a stop for it says that.
pub stops_lost : (f : SourceDef) (allowance : ℕ) (v : List ℕ) (found : List Reached) (e : Invalid) (s : SettleStop)
    → IsFixed Exact f allowance v found → Judges (Err e) f (certificate_with v found) → StopsFor e s → StopsLost f v s
stops_lost f allowance v found (invalid.Small i) s fixed (before, first) is = subst (λ (x : SettleStop). StopsLost f v x) (sym is) (
  first.below,
  fixed_are_least f v found fixed.range fixed.below fixed.found fixed.one_each fixed.fixed,
  loses_whole f allowance v found i.0 fixed first.below first.fails,
)
stops_lost f allowance v found invalid.Memory s fixed fails is = subst (λ (x : SettleStop). StopsLost f v x) (sym is) tt
stops_lost f allowance v found invalid.Size s fixed fails is = absurd is
stops_lost f allowance v found (invalid.Bound i) s fixed fails is = absurd is
stops_lost f allowance v found (invalid.DualSize i) s fixed fails is = absurd is
stops_lost f allowance v found (invalid.Cover i k) s fixed fails is = absurd is

-- And if it is valid, its bounds are proved to be the least.
pub proved_least : (f : SourceDef) (allowance : ℕ) (v : List ℕ) (found : List Reached) → EndsCover → IsFixed Exact f allowance v found
    → AreLeastFitting f v → IsValid f (certificate_with v found) → IsProvedLeast f (certificate_with v found)
proved_least f allowance v found covers fixed least valid = record {
  least = least;
  valid = valid;
  small = λ i here. (good_dual f allowance v found i covers fixed here).small;
}
