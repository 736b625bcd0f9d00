-- What a search finds of a program, and why it stops.
use Rattle.std.proofs.Common.{◌≡◌, inl, inr, ℕ, zero, suc, ◌+◌, ◌*◌, ◌<◌, ◌≤◌, ◌^◌, List, length, arith, refl, sym, subst}
use Rattle.std.specs.Prelude.{slice_index, pos, Some, None, Result, Ok, Err, IfOk, IfErr, IfSome, MatchOption}
use Rattle.std.specs.declared.option.Option.{Option}
use Rattle.std.proofs.lemmas.Bool.{cases_lt}
use Rattle.fraction128.specs.Fraction.{IsFloor}
use Rattle.program_form.specs.Certificate.{dual_seen}
use Rattle.program_form.specs.Points.{IsScaledPoint, IsGreatestReached, worth}
use Rattle.program_form.specs.Program.{ProgramDef, columns}
use Rattle.program_form.specs.declared.certificate.Dual.{Dual}
use Rattle.exchange_runs.specs.Readings.{value_of}
use Rattle.exchange_runs.specs.Table.{Table}
use Rattle.exchange_runs.specs.Unbounded.{FreelyReached}
use Rattle.free_search.specs.Ends.{Searches, IsEndAfter, IsPointOf, NeedsMoreThan}
use Rattle.free_search.specs.declared.found.Found.{Found}
use Rattle.free_search.specs.declared.found.SearchStop.{SearchStop}
use Rattle.free_search.specs.declared.found.SearchStop.TheVariants.{Memory, Units, Lost}
use Rattle.point_tests.specs.Worth.{IsWorth}
use Rattle.refusal_laws.specs.Steps.{whole_worth}
use Rattle.settling.specs.Rising.{IsWrittenOver, AreGreat, IsPointFor, seen_point, IsFoundOf, HasRounded, IsRoundedFrom, IsFoundBy, StopsSo}
use Rattle.settling.specs.Walks.{Reads}
use Rattle.settling.specs.declared.finding.Points.{Points}
use Rattle.settling.specs.declared.finding.Points.TheVariants.{Exact, Rounded}
use Rattle.settling.specs.declared.reached.Reached.{Reached}
use Rattle.settling.proofs.RoundedLaws.{rounded_is_point, rounded_is_no_greater, rounded_is_not_great, worth_covers, worth_at_least}

-- What the end of a run is: its point is worth the whole part of its value, and that is the greatest that is reached.
abbrev pub EndsAtPoint : Type 0
EndsAtPoint = (p : ProgramDef) (k : ℕ) (t : Table) (den : ℕ) (num : List ℕ) (n : ℕ) → IsEndAfter p k t → IsPointOf p t den num
    → IsFloor (value_of p t) (pos n) → (IsScaledPoint p den (slice_index num)) × (n * den ≤ worth p (slice_index num))

abbrev pub EndsAtGreatest : Type 0
EndsAtGreatest = (p : ProgramDef) (k : ℕ) (t : Table) (n : ℕ) → IsEndAfter p k t → IsFloor (value_of p t) (pos n) → IsGreatestReached p n

-- What a search answers, with its point as it is.
found_exact : (p : ProgramDef) (units : ℕ) (found : Found) → EndsAtPoint → found.ticks < 2 ^ 64 → Searches (Ok found) p units
    → IsFoundBy Exact p units found
found_exact p units found law counted (at, used) =
    let point = law p at.exchanges at.table found.den found.num.items found.ticks at.end at.read.point at.read.ticks in record {
      exchanges = at.exchanges;
      table = at.table;
      end = at.end;
      used = at.read.used;
      within = used;
      dual = at.read.dual;
      whole = found.ticks;
      floor = at.read.ticks;
      counted = counted;
      reads = at.read.ticks;
      one_each = at.read.point.value_each;
      small = λ rounded. cc rounded;
      worth = record { point = point.0; enough = point.1 };
    }

pub found_by_search : (points : Points) (p : ProgramDef) (units : ℕ) (found : Found) → points ≡ Exact → EndsAtPoint
    → found.ticks < 2 ^ 64 → Searches (Ok found) p units → IsFoundBy points p units found
found_by_search points p units found exact law counted is =
    subst (λ (x : Points). IsFoundBy x p units found) (sym exact) (found_exact p units found law counted is)

-- The same with its point rounded.
worth_rounded : (p : ProgramDef) (found rounded : Found) → HasRounded p found rounded → length found.num.items ≡ columns p
    → IsScaledPoint p found.den (slice_index found.num.items) → IsWorth p rounded.den rounded.num.items rounded.ticks
worth_rounded p found rounded is size point =
    rw (is.den, is.num, is.ticks) (record {
      point = rounded_is_point p found.den found.num.items is.point size point is.written;
      enough = worth_covers p is.point;
    })

small_rounded : (p : ProgramDef) (found rounded : Found) → HasRounded p found rounded → AreGreat rounded.den rounded.num.items → ⊥
small_rounded p found rounded is = rw (is.den, is.num) (rounded_is_not_great found.den found.num.items is.point is.written)

rounded_by_search : (p : ProgramDef) (units : ℕ) (found rounded : Found) → EndsAtPoint → found.ticks < 2 ^ 64
    → Searches (Ok found) p units → HasRounded p found rounded → IsFoundBy Rounded p units rounded
rounded_by_search p units found rounded law counted (at, used) is =
    let point = law p at.exchanges at.table found.den found.num.items found.ticks at.end at.read.point at.read.ticks in
    let size : length found.num.items ≡ columns p = at.read.point.value_each in
    let low = rounded_is_no_greater found.den found.num.items is.point is.written in record {
      exchanges = at.exchanges;
      table = at.table;
      end = at.end;
      used = omega (arith, is.used, at.read.used);
      within = omega (arith, is.used, used);
      dual = rw is.dual at.read.dual;
      whole = found.ticks;
      floor = at.read.ticks;
      counted = counted;
      reads = (is.point, (found.den, found.num.items, at.read.point, is.written), is.ticks);
      one_each = rw is.num (omega (arith, low.as_many, size));
      small = λ same. small_rounded p found rounded is;
      worth = worth_rounded p found rounded is size point.0;
    }

pub found_rounded : (points : Points) (p : ProgramDef) (units : ℕ) (found : Found) (r : Result Found SearchStop) → points ≡ Rounded
    → EndsAtPoint → found.ticks < 2 ^ 64 → Searches (Ok found) p units → IsRoundedFrom p found r → IfOk r (IsFoundBy points p units)
found_rounded points p units found (Ok rounded) is law counted searches has =
    subst (λ (x : Points). IsFoundBy x p units rounded) (sym is) (rounded_by_search p units found rounded law counted searches has)
found_rounded points p units found (Err e) is law counted searches has = tt

-- Why the rounding stops.
rounding_stops : (p : ProgramDef) (units : ℕ) (found : Found) (e : SearchStop) → Searches (Ok found) p units → IsRoundedFrom p found (Err e)
    → StopsSo Rounded p units e
rounding_stops p units found Memory is h = tt
rounding_stops p units found Units is h = absurd h
rounding_stops p units found Lost (at, used) (inl great) =
    (at.exchanges, at.table, omega (arith, used, at.read.used), at.end, inr (inl (found.den, found.num.items, at.read.point, great)))
rounding_stops p units found Lost (at, used) (inr much) =
    let reads : Reads Rounded p at.table (whole_worth p much.point) =
    (much.point, (found.den, found.num.items, at.read.point, much.written), refl) in
    let great : 2 ^ 63 ≤ whole_worth p much.point = omega (arith, much.great) in
    (at.exchanges, at.table, omega (arith, used, at.read.used), at.end, inr (inr (whole_worth p much.point, reads, great)))

pub stops_rounding : (points : Points) (p : ProgramDef) (units : ℕ) (found : Found) (r : Result Found SearchStop) → points ≡ Rounded
    → Searches (Ok found) p units → IsRoundedFrom p found r → IfErr r (StopsSo points p units)
stops_rounding points p units found (Ok rounded) is searches from = tt
stops_rounding points p units found (Err e) is searches from =
    subst (λ (x : Points). StopsSo x p units e) (sym is) (rounding_stops p units found e searches from)

-- What is kept of the point.
point_kept : (p : ProgramDef) (den : ℕ) (num : List ℕ) (ticks : ℕ) (o : Option Dual)
    → MatchOption o (AreGreat den num) (λ d. IsWrittenOver den num (dual_seen d)) → length num ≡ columns p → IsWorth p den num ticks
    → IfSome (seen_point o) (IsPointFor p ticks)
point_kept p den num ticks (Some d) is size worth =
    let point : IsScaledPoint p (dual_seen d).den (slice_index (dual_seen d).num) = rw (is.den_is, is.num_are) worth.point in record {
      size = rw is.num_are size;
      rows = point;
      worth = worth_at_least p (dual_seen d) ticks point.positive (rw (is.den_is, is.num_are) worth.enough);
      small = is.small;
    }
point_kept p den num ticks None is size worth = tt

point_written : (den : ℕ) (num : List ℕ) (o : Option Dual) → MatchOption o (AreGreat den num) (λ d. IsWrittenOver den num (dual_seen d))
    → (AreGreat den num → ⊥) → seen_point o ≡ None → ⊥
point_written den num (Some d) is small none = cc none
point_written den num None is small none = small is

greatest_found : (points : Points) (p : ProgramDef) (units : ℕ) (found : Found) → EndsAtGreatest → IsFoundBy points p units found
    → points ≡ Exact → IsGreatestReached p found.ticks
greatest_found points p units found law is exact =
    let reads : Reads Exact p is.table found.ticks = subst (λ (x : Points). Reads x p is.table found.ticks) exact is.reads in
    law p is.exchanges is.table found.ticks is.end reads

pub found_of : (points : Points) (p : ProgramDef) (units : ℕ) (found : Found) (reached : Reached) → EndsAtGreatest
    → IsFoundBy points p units found → found.ticks < 2 ^ 63
    → MatchOption reached.point (AreGreat found.den found.num.items) (λ d. IsWrittenOver found.den found.num.items (dual_seen d))
    → reached.ticks ≡ found.ticks → reached.dual ≡ found.dual → reached.used ≡ found.used → reached.limits.items ≡ p.limits
    → IsFoundOf points p reached
found_of points p units found reached law is small point ticks dual used limits = record {
  limits = limits;
  exchanges = is.exchanges;
  table = is.table;
  end = is.end;
  units = omega (arith, used, is.used);
  dual = rw dual is.dual;
  whole = is.whole;
  floor = is.floor;
  counted = is.counted;
  reads = rw ticks is.reads;
  is_reached = rw ticks (record {
    reached = record { scale = found.den; point = slice_index found.num.items; is_point = is.worth.point; reached = is.worth.enough };
    small = small;
  });
  point = rw ticks (point_kept p found.den found.num.items found.ticks reached.point point is.one_each is.worth);
  written = λ rounded. point_written found.den found.num.items reached.point point (is.small rounded);
  greatest = λ exact. rw ticks (greatest_found points p units found law is exact);
}

-- The same of a program that is given by its place in the source.
pub stopped_at : (points : Points) (p q : ProgramDef) (units : ℕ) (e s : SearchStop) → q ≡ p → e ≡ s → StopsSo points q units e
    → StopsSo points p units s
stopped_at points p q units e s same is stops =
    let there : StopsSo points q units s = subst (λ (x : SearchStop). StopsSo points q units x) is stops in
    subst (λ (x : ProgramDef). StopsSo points x units s) same there

pub found_in : (points : Points) (p q : ProgramDef) (units : ℕ) (found : Found) → q ≡ p → IsFoundBy points q units found
    → IsFoundBy points p units found
found_in points p q units found same is = subst (λ (x : ProgramDef). IsFoundBy points x units found) same is

-- A run of k exchanges takes k + 1 units. It needs more than any fewer.
pub run_needs_more : (p : ProgramDef) (k : ℕ) (t : Table) (units : ℕ) → FreelyReached p k t → units < k + 1 → NeedsMoreThan p units
run_needs_more p zero t units reached few = inl (omega (arith, few))
run_needs_more p (suc k) t units (s, e, r, before, exchange) few = elim (cases_lt units (k + 1)) [
  | inl fewer ↦ run_needs_more p k s units before fewer
  | inr enough ↦ inr (k, s, e, omega (arith, few, enough), before, exchange.enters)
]

pub needs_more : (points : Points) (p : ProgramDef) (found : Reached) (units : ℕ) → IsFoundOf points p found → units < found.used
    → NeedsMoreThan p units
needs_more points p found units is few =
    run_needs_more p is.exchanges is.table units is.end.reached (omega (arith, is.units, few))
