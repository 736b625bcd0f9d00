-- How the bounds of a walk stay in their range, rise, and stay at most every fitting vector.
use Rattle.std.proofs.Common.{◌≡◌, ◌∙◌, ℕ, ◌+◌, ◌<◌, ◌≤◌, List, [], ◌∷◌, ◌++◌, length, refl, sym, ap, subst, arith, inl, inr}
use Rattle.std.specs.Prelude.{slice_index, slice_get, Some, None, IfSome}
use Rattle.std.specs.declared.option.Option.{Option}
use Rattle.std.proofs.lemmas.Bool.{cases_lt}
use Rattle.std.proofs.lemmas.List.{get_or_append_left, get_or_push, length_push}
use Rattle.std.proofs.lemmas.Option.{slice_get_cases, slice_get-get_or}
use Rattle.program_form.specs.Certificate.{DualDef}
use Rattle.program_form.specs.Points.{Reaches, IsGreatestReached}
use Rattle.program_form.specs.Program.{ProgramDef}
use Rattle.sporadic_model.specs.Bounds.{AtMost, IsInRange}
use Rattle.program_sources.specs.Recurrence.{SourceDef, response_with}
use Rattle.program_sources.specs.Fitting.{AreFitting, AreBelowAllFitting, tasks_of, latest_of}
use Rattle.response_fixpoint.proofs.PlaceLaws.{each_more, each_none}
use Rattle.response_fixpoint.proofs.SolutionLaws.{Rises, renewed_program}
use Rattle.free_search.specs.Ends.{IsFoundDual}
use Rattle.settling.specs.Rising.{IsFoundOf, AreFoundAt, IsSame, IsNextBound, AreNextBounds, IsPointFor, seen_point}
use Rattle.settling.specs.Walks.{Reads}
use Rattle.settling.specs.Ways.{NothingFits}
use Rattle.settling.specs.declared.finding.Points.{Points}
use Rattle.settling.specs.declared.reached.Reached.{Reached}

-- What the laws of least bounds say of a source. If bounds are at most every fitting vector, so are the responses that are reached at them.
abbrev pub RespondsBelow : SourceDef → Type 0
RespondsBelow f = (v s : List ℕ) (i blocking : ℕ) → AreBelowAllFitting f v → AreFitting f s → i < tasks_of f
    → Reaches (f.program i v) blocking → response_with f v i blocking ≤ slice_index s i

-- At each place something was found.
pub found_there : (found : List Reached) (i n : ℕ) → length found ≡ n → i < n → (r : Reached) × (slice_get found i ≡ Some r)
found_there found i n size here = elim (slice_get_cases found i).1 [
  | inl (r, within, at, same) ↦ (r, at)
  | inr past ↦ absurd (omega (arith, past.0, size, here))
]

-- What was found of the program of a task, by the task's place.
pub found_at : (points : Points) (f : SourceDef) (v : List ℕ) (found : List Reached) (i : ℕ) (r : Reached) → AreFoundAt points f v found
    → slice_get found i ≡ Some r → IsFoundOf points (f.program i v) r
found_at points f v found i r are here =
    let first : 0 + i ≡ i = omega arith in
    subst (λ (k : ℕ). IsFoundOf points (f.program k v) r) first (are i r here)

-- A program whose limits stay stays, and what was found of it too.
same_program : (f : SourceDef) (u v : List ℕ) (i : ℕ) → Rises f i → (f.program i u).limits ≡ (f.program i v).limits
    → f.program i u ≡ f.program i v
same_program f u v i rises same = renewed_program f i u v (f.program i u) (f.program i u).limits rises refl same

same_found : (points : Points) (p : ProgramDef) (before now : Reached) → IsSame before now → IsFoundOf points p before
    → IsFoundOf points p now
same_found points p before now same found = record {
  limits = same.limits ∙ found.limits;
  exchanges = found.exchanges;
  table = found.table;
  end = found.end;
  units = same.used ∙ found.units;
  dual = subst (λ (d : DualDef). IsFoundDual p found.table d) (sym same.dual) found.dual;
  whole = found.whole;
  floor = found.floor;
  counted = found.counted;
  reads = subst (λ (n : ℕ). Reads points p found.table n) (sym same.ticks) found.reads;
  is_reached = record { reached = rw same.ticks found.is_reached.reached; small = rw same.ticks found.is_reached.small };
  point = subst (λ (o : Option DualDef). IfSome o (IsPointFor p now.ticks)) (sym same.point)
      (subst (λ (n : ℕ). IfSome (seen_point before.point) (IsPointFor p n)) (sym same.ticks) found.point);
  written = λ rounded none. found.written rounded (sym same.point ∙ none);
  greatest = λ exact. subst (λ (n : ℕ). IsGreatestReached p n) (sym same.ticks) (found.greatest exact);
}

-- What was found of a task's program at other bounds, where it has the same limits.
pub found_before : (points : Points) (f : SourceDef) (u v : List ℕ) (i : ℕ) (found : List Reached) (before : Reached) (limits : List ℕ)
    → Rises f i → AreFoundAt points f u found → slice_get found i ≡ Some before → before.limits.items ≡ limits
    → limits ≡ (f.program i v).limits → IsFoundOf points (f.program i v) before
found_before points f u v i found before limits rises are here stay own =
    let old = found_at points f u found i before are here in
    let program : f.program i u ≡ f.program i v = same_program f u v i rises (sym old.limits ∙ (stay ∙ own)) in
    subst (λ (p : ProgramDef). IsFoundOf points p before) program old

pub taken_over : (points : Points) (f : SourceDef) (u v : List ℕ) (i : ℕ) (found : List Reached) (before now : Reached) (limits : List ℕ)
    → Rises f i → AreFoundAt points f u found → slice_get found i ≡ Some before → before.limits.items ≡ limits
    → limits ≡ (f.program i v).limits → IsSame before now → IsFoundOf points (f.program i v) now
taken_over points f u v i found before now limits rises are here stay own same =
    same_found points (f.program i v) before now same (found_before points f u v i found before limits rises are here stay own)

-- The same with one more task, and with none.
pub one_more_found : (points : Points) (f : SourceDef) (v : List ℕ) (found : List Reached) (i : ℕ) (r : Reached) → length found ≡ i
    → AreFoundAt points f v found → IsFoundOf points (f.program i v) r → AreFoundAt points f v (found ++ r ∷ [])
one_more_found points f v found i r size are is =
    let last : i ≡ 0 + length found = omega (arith, size) in
    each_more (λ k (x : Reached). IsFoundOf points (f.program k v) x) 0 found r are
    (subst (λ (k : ℕ). IsFoundOf points (f.program k v) r) last is)

pub none_found : (points : Points) (f : SourceDef) (v : List ℕ) (found : List Reached) → length found ≡ 0 → AreFoundAt points f v found
none_found points f v found none = each_none (λ k (x : Reached). IsFoundOf points (f.program k v) x) 0 found none

ticks_of : Option Reached → ℕ
ticks_of (Some r) = r.ticks
ticks_of None = 0

same_ticks : (r s : Reached) → Some r ≡ Some s → r.ticks ≡ s.ticks
unfolding ticks_of
same_ticks r s same = ap ticks_of same

-- What stands in a list with one more element.
get_before : (found : List Reached) (r : Reached) (k : ℕ) → k < length found → slice_get found k ≡ slice_get (found ++ r ∷ []) k
get_before found r k here =
    let grown = length_push found r in
    slice_get-get_or found k r here ∙ (ap Some (sym (get_or_append_left found (r ∷ []) r k here))
    ∙ sym (slice_get-get_or (found ++ r ∷ []) k r (omega (arith, here, grown))))

get_last : (found : List Reached) (r : Reached) (k : ℕ) → length found ≡ k → slice_get (found ++ r ∷ []) k ≡ Some r
get_last found r k last =
    let grown = length_push found r in
    slice_get-get_or (found ++ r ∷ []) k r (omega (arith, last, grown)) ∙ ap Some (get_or_push found r r k last)

-- One more bound.
pub one_more_bound : (f : SourceDef) (v next : List ℕ) (found : List Reached) (i b : ℕ) (r : Reached) → length found ≡ i
    → AreNextBounds f v i found next → IsNextBound f v i r.ticks b → AreNextBounds f v (i + 1) (found ++ r ∷ []) (next ++ b ∷ [])
one_more_bound f v next found i b r count are here = record {
  one_each = omega (arith, length_push next b, are.one_each);
  each = λ k x below there. elim (cases_lt k i) [
    | inl earlier ↦
        let same : slice_index (next ++ b ∷ []) k ≡ slice_index next k =
        get_or_append_left next (b ∷ []) 0 k (omega (arith, earlier, are.one_each)) in
        let old : slice_get found k ≡ Some x = get_before found r k (omega (arith, earlier, count)) ∙ there in
        subst (λ (n : ℕ). IsNextBound f v k x.ticks n) (sym same) (are.each k x earlier old)
    | inr late ↦
        let last : i ≡ k = omega (arith, late, below) in
        let same : slice_index (next ++ b ∷ []) k ≡ b = get_or_push next b 0 k (are.one_each ∙ last) in
        let at : slice_get (found ++ r ∷ []) k ≡ Some r = get_last found r k (count ∙ last) in
        let one : Some r ≡ Some x = sym at ∙ there in
        let own : IsNextBound f v k r.ticks b = subst (λ (j : ℕ). IsNextBound f v j r.ticks b) last here in
        let ticks : r.ticks ≡ x.ticks = same_ticks r x one in
        subst (λ (n : ℕ). IsNextBound f v k x.ticks n) (sym same) (subst (λ (t : ℕ). IsNextBound f v k t b) ticks own)
  ];
}

pub no_bounds : (f : SourceDef) (v next : List ℕ) (found : List Reached) → length next ≡ 0 → AreNextBounds f v 0 found next
no_bounds f v next found none = record { one_each = none; each = λ i r here at. absurd (omega (arith, here)) }

-- Bounds that rise.
pub next_at_least : (f : SourceDef) (v next : List ℕ) (found : List Reached) → AreNextBounds f v (tasks_of f) found next
    → length found ≡ tasks_of f → AtMost (tasks_of f) v next
next_at_least f v next found are size i here =
    let r = found_there found i (tasks_of f) size here in
    omega (arith, (are.each i r.0 here r.1).greater)

pub next_in_range : (f : SourceDef) (v next : List ℕ) (found : List Reached) → AreNextBounds f v (tasks_of f) found next
    → length found ≡ tasks_of f → IsInRange f.set v → IsInRange f.set next
next_in_range f v next found are size range = record {
  one_each = are.one_each;
  from_cost = λ i here. omega (arith, range.from_cost i here, next_at_least f v next found are size i here);
  to_latest = λ i here. (let r = found_there found i (tasks_of f) size here in omega (arith, (are.each i r.0 here r.1).within));
}

pub next_below : (points : Points) (f : SourceDef) (v next : List ℕ) (found : List Reached) → RespondsBelow f
    → AreNextBounds f v (tasks_of f) found next → length found ≡ tasks_of f → AreFoundAt points f v found
    → AreBelowAllFitting f v → AreBelowAllFitting f next
next_below points f v next found responds are size all below s fits i here =
    let r = found_there found i (tasks_of f) size here in
    let b : IsNextBound f v i r.0.ticks (slice_index next i) = are.each i r.0 here r.1 in
    let response : response_with f v i r.0.ticks ≤ slice_index s i =
    responds v s i r.0.ticks below fits here (found_at points f v found i r.0 all r.1).is_reached.reached in
    let own : slice_index v i ≤ slice_index s i = below s fits i here in
    omega (arith, response, own, b.greater)

-- If a response time passes its latest bound, nothing fits.
pub late_fits_nothing : (f : SourceDef) (v : List ℕ) (i ticks : ℕ) → RespondsBelow f → AreBelowAllFitting f v → i < tasks_of f
    → Reaches (f.program i v) ticks → latest_of f i < response_with f v i ticks → NothingFits f
late_fits_nothing f v i ticks responds below here reached late s fits =
    let response : response_with f v i ticks ≤ slice_index s i = responds v s i ticks below fits here reached in
    let within : slice_index s i ≤ latest_of f i = fits.within i here in
    absurd (omega (arith, response, within, late))
