-- The rounds of a walk with exact points are those of the recurrence. So its ends say which tasks need more than 63 bits.
use Rattle.std.proofs.Common.{◌≡◌, inl, inr, ℕ, zero, suc, ◌+◌, ◌-◌, ◌<◌, ◌≤◌, ◌^◌, List, refl, sym, ap, subst, arith}
use Rattle.std.proofs.Common.{pos, ◌∙◌}
use Rattle.std.specs.Prelude.{slice_index}
use Rattle.std.proofs.lemmas.Bool.{cases_lt}
use Rattle.std.proofs.lemmas.Grind.{same_number_lists}
use Rattle.fraction128.specs.Fraction.{IsFloor}
use Rattle.program_form.specs.Certificate.{DualDef, dual_seen}
use Rattle.program_form.specs.Duals.{dual_value}
use Rattle.program_form.specs.Program.{ProgramDef}
use Rattle.program_sources.specs.Recurrence.{SourceDef, IsResponse, response_with}
use Rattle.program_sources.specs.Fitting.{AreLeastFitting, ComesUpAbove, tasks_of}
use Rattle.program_sources.specs.Valid.{IsValid, value_at}
use Rattle.exchange_runs.specs.Readings.{value_of}
use Rattle.exchange_runs.specs.Table.{Table}
use Rattle.free_search.specs.Ends.{IsEndAfter, IsFoundDual, HasGreatDual}
use Rattle.response_fixpoint.specs.Rounds.{Schedulable, Wide, Found, Passes, Reaches, EndsIn}
use Rattle.response_fixpoint.proofs.RoundLaws.{passed_task, values_length}
use Rattle.settling.specs.Rising.{IsFixed, IsProvedLeast, duals_found}
use Rattle.settling.specs.Walks.{IsPastReading, IsWalked, walk}
use Rattle.settling.specs.Ways.{AreResponses, IsAfterRounds, EndsTooGreat, LosesWhole, NeedsMoreBits, NoneNeedsMore}
use Rattle.settling.specs.declared.finding.Points.TheVariants.{Exact}
use Rattle.settling.specs.declared.reached.Reached.{Reached}
use Rattle.settling.proofs.FindingLaws.{EndsAtGreatest}
use Rattle.settling.proofs.RiseLaws.{found_there, found_at}
use Rattle.settling.proofs.WayLaws.{way_rises, rounds_once, stays_fixed, response_of}
use Rattle.settling.proofs.CertificateLaws.{certificate_with, dual_there}

-- Is the end of no task's run too great at the bounds v? And at no vector of fewer than k rounds?
abbrev pub AllFitAt : SourceDef → List ℕ → Type 0
AllFitAt f v = (i : ℕ) → i < tasks_of f → EndsTooGreat (f.program i v) → ⊥

abbrev pub AllFitBefore : SourceDef → ℕ → Type 0
AllFitBefore f k = (j : ℕ) (v : List ℕ) → j < k → IsAfterRounds f j v → AllFitAt f v

-- Is v the vector after some rounds, before which all fit?
pub record IsOnWay (f : SourceDef) (v : List ℕ) : Type 0 where
  pub rounds : ℕ
  pub after : IsAfterRounds f rounds v
  pub fit : AllFitBefore f rounds

-- The end of a run is read in one way: it has one dual as a search writes it, and where one is written none is too great.
abbrev pub EndsFit : Type 0
EndsFit = (p : ProgramDef) (k j : ℕ) (t u : Table) (d : DualDef) → IsEndAfter p k t → IsEndAfter p j u → IsFoundDual p t d
    → HasGreatDual p u 1 → ⊥

abbrev pub EndsOnce : Type 0
EndsOnce = (p : ProgramDef) (k j : ℕ) (t u : Table) (d e : DualDef) → IsEndAfter p k t → IsEndAfter p j u → IsFoundDual p t d
    → IsFoundDual p u e → d ≡ e

-- The end of a run that is past reading is too great.
past_is_too_great : (p : ProgramDef) (k : ℕ) (t : Table) → IsEndAfter p k t → IsPastReading Exact p t → EndsTooGreat p
past_is_too_great p k t end (inl great) = (k, t, end, inl great)
past_is_too_great p k t end (inr (inl none)) = absurd none
past_is_too_great p k t end (inr (inr (ticks, reads, great))) = (k, t, end, inr (ticks, reads, great))

-- Where a run is walked, its end fits.
small_value : (f : SourceDef) (v : List ℕ) (i left used value : ℕ) (dual : DualDef) (j n : ℕ) (u : Table) → EndsAtGreatest
    → IsWalked Exact f v i left used value dual → IsEndAfter (f.program i v) j u → IsFloor (value_of (f.program i v) u) (pos n) → n < 2 ^ 63
small_value f v i left used value dual j n u at run end floor =
    let within : n ≤ run.ticks = (at (f.program i v) run.exchanges run.table run.ticks run.end run.reads).greatest n
    (at (f.program i v) j u n end floor).reached in
    omega (arith, within, run.small)

walked_fits : (f : SourceDef) (v : List ℕ) (i left used value : ℕ) (dual : DualDef) → EndsFit → EndsAtGreatest
    → IsWalked Exact f v i left used value dual → EndsTooGreat (f.program i v) → ⊥
walked_fits f v i left used value dual fit at run (j, u, end, inl (inl great)) =
    fit (f.program i v) run.exchanges j run.table u dual run.end end run.dual_is great
walked_fits f v i left used value dual fit at run (j, u, end, inl (inr (n, floor, most))) =
    absurd (omega (arith, most, small_value f v i left used value dual j n u at run end floor))
walked_fits f v i left used value dual fit at run (j, u, end, inr (n, floor, most)) =
    absurd (omega (arith, most, small_value f v i left used value dual j n u at run end floor))

-- And its value is the recurrence's.
walked_response : (f : SourceDef) (k : ℕ) (v : List ℕ) (i left used value : ℕ) (dual : DualDef) → EndsAtGreatest → ComesUpAbove f
    → IsAfterRounds f k v → i < tasks_of f → IsWalked Exact f v i left used value dual → IsResponse f v i value
walked_response f k v i left used value dual at above way here run =
    let response : IsResponse f v i (response_with f v i run.ticks) = record {
      blocking = run.ticks;
      greatest = at (f.program i v) run.exchanges run.table run.ticks run.end run.reads;
      response = refl;
    } in
    let rises : slice_index v i ≤ response_with f v i run.ticks =
    way_rises f k v above way i (response_with f v i run.ticks) here response in
    let same : response_with f v i run.ticks ≡ value = omega (arith, run.value_is, rises) in
    subst (λ (n : ℕ). IsResponse f v i n) same response

-- So where a round goes by, all fit, and it gives the recurrence's values.
round_fits : (f : SourceDef) (v : List ℕ) (left : ℕ) (found : Found) → EndsFit → EndsAtGreatest
    → Passes (walk Exact f) v left (tasks_of f) found → AllFitAt f v
round_fits f v left found fit at passed i here =
    let task = passed_task (walk Exact f) v left (tasks_of f) found passed i here in
    walked_fits f v i (left - task.before.used) task.used task.value task.dual fit at task.run

round_responses : (f : SourceDef) (k : ℕ) (v : List ℕ) (left : ℕ) (found : Found) → EndsAtGreatest → ComesUpAbove f → IsAfterRounds f k v
    → Passes (walk Exact f) v left (tasks_of f) found → AreResponses f v found.values
round_responses f k v left found at above way passed = record {
  one_each = values_length (walk Exact f) v left (tasks_of f) found passed;
  each = λ i here.
      let task = passed_task (walk Exact f) v left (tasks_of f) found passed i here in
      subst (λ (n : ℕ). IsResponse f v i n) (sym task.here)
      (walked_response f k v i (left - task.before.used) task.used task.value task.dual at above way here task.run);
}

-- The walk goes by the recurrence's rounds.
way_goes_on : (f : SourceDef) (v next : List ℕ) → IsOnWay f v → AllFitAt f v → AreResponses f v next → IsOnWay f next
way_goes_on f v next way here are = record {
  rounds = suc way.rounds;
  after = (v, way.after, are);
  fit = λ j w below later. elim (cases_lt j way.rounds) [
    | inl earlier ↦ way.fit j w earlier later
    | inr late ↦
        let last : j ≡ way.rounds = omega (arith, late, below) in
        let same : v ≡ w = rounds_once f way.rounds v w way.after (subst (λ (n : ℕ). IsAfterRounds f n w) last later) in
        subst (λ (y : List ℕ). AllFitAt f y) same here
  ];
}

way_of_walk : (f : SourceDef) → EndsFit → EndsAtGreatest → ComesUpAbove f → (allowance k used : ℕ) (r : List ℕ)
    → Reaches (walk Exact f) allowance k used r → IsOnWay f r
way_of_walk f fit at above allowance zero used r (nothing, first) =
    record { rounds = 0; after = first; fit = λ j w below later. absurd (omega (arith, below)) }
way_of_walk f fit at above allowance (suc k) used r (before, q, found, reached, passed, is, differs, sum) =
    let way : IsOnWay f q = way_of_walk f fit at above allowance k before q reached in
    let are : AreResponses f q found.values =
    round_responses f way.rounds q (allowance - before) found at above way.after passed in
    way_goes_on f q r way (round_fits f q (allowance - before) found fit at passed)
    (subst (λ (y : List ℕ). AreResponses f q y) (sym is) are)

-- If the walk is wide at a task, that task needs more bits.
pub wide_needs_more : (f : SourceDef) → EndsFit → EndsAtGreatest → ComesUpAbove f → (allowance i : ℕ)
    → EndsIn (walk Exact f) allowance (Wide i) → NeedsMoreBits f i
wide_needs_more f fit at above allowance i (r, left, found, below, comes, (k, t, within, end, past)) =
    let way : IsOnWay f r = way_of_walk f fit at above allowance comes.rounds comes.spent r comes.reached in
    (way.rounds, r, way.after, below, inl (past_is_too_great (f.program i r) k t end past))

-- What the end of a walk says of its bounds: they are on the way, all fit there too, and the recurrence gives them again.
record IsEndOfWay (f : SourceDef) (v : List ℕ) : Type 0 where
  way : IsOnWay f v
  fit : AllFitAt f v
  stays : AreResponses f v v

end_of_way : (f : SourceDef) → EndsFit → EndsAtGreatest → ComesUpAbove f → (allowance : ℕ) (v : List ℕ) (duals : List DualDef)
    → EndsIn (walk Exact f) allowance (Schedulable v duals) → IsEndOfWay f v
end_of_way f fit at above allowance v duals (left, found, comes, same, rest) =
    let way : IsOnWay f v = way_of_walk f fit at above allowance comes.rounds comes.spent v comes.reached in
    record {
      way = way;
      fit = round_fits f v (allowance - comes.spent) found fit at comes.passed;
      stays = subst (λ (y : List ℕ). AreResponses f v y) same
          (round_responses f way.rounds v (allowance - comes.spent) found at above way.after comes.passed);
    }

-- Least bounds are one vector.
one_least : (f : SourceDef) (v w : List ℕ) → AreLeastFitting f v → AreLeastFitting f w → v ≡ w
one_least f v w one two = same_number_lists v w (one.fitting.one_each ∙ sym two.fitting.one_each) (λ i here.
    let within : i < tasks_of f = rw (← one.fitting.one_each) here in
    let most : slice_index v i ≤ slice_index w i = one.least w two.fitting i within in
    let least : slice_index w i ≤ slice_index v i = two.least v one.fitting i within in
    omega (arith, most, least))

-- The dual that was found doesn't lose the whole part where it makes a valid certificate.
keeps_whole : (f : SourceDef) (allowance k : ℕ) (v : List ℕ) (found : List Reached) (i : ℕ) → EndsOnce → ComesUpAbove f
    → IsFixed Exact f allowance v found → IsAfterRounds f k v → IsValid f (certificate_with v found) → i < tasks_of f
    → LosesWhole (f.program i v) → ⊥
keeps_whole f allowance k v found i once above fixed way valid here loses =
    let r = found_there found i (tasks_of f) fixed.one_each here in
    let own = found_at Exact f v found i r.0 fixed.found r.1 in
    let p : ProgramDef = f.program i v in
    let dual : loses.dual ≡ dual_seen r.0.dual =
    once p loses.of_end.0 own.exchanges loses.of_end.1 own.table loses.dual (dual_seen r.0.dual) loses.of_end.2 own.end loses.of_end.3
    own.dual in
    let blocking : r.0.ticks ≤ loses.blocking = loses.greatest.greatest r.0.ticks (own.greatest refl).reached in
    let value : ℕ = dual_value p (dual_seen r.0.dual).den (λ n. slice_index (dual_seen r.0.dual).num n) in
    let at : value_at f (certificate_with v found) i ≡ value =
    ap (λ (d : DualDef). dual_value p d.den (λ n. slice_index d.num n)) (dual_there found i r.0 r.1) in
    let enough : response_with f v i value ≤ slice_index v i = rw (← at) (valid.proved i here).enough in
    let rises : slice_index v i ≤ response_with f v i r.0.ticks =
    way_rises f k v above way i (response_with f v i r.0.ticks) here (response_of f v found i r.0 fixed.found r.1) in
    let more : loses.blocking < value =
    subst (λ (d : DualDef). loses.blocking < dual_value p d.den (λ n. slice_index d.num n)) dual loses.above in
    absurd (omega (arith, blocking, enough, rises, more))

-- A walk that ends in a valid certificate needs no more bits.
pub needs_no_more : (f : SourceDef) → EndsFit → EndsOnce → EndsAtGreatest → ComesUpAbove f → (allowance : ℕ) (v : List ℕ)
    (found : List Reached) → IsFixed Exact f allowance v found → IsProvedLeast f (certificate_with v found) → NoneNeedsMore f
needs_no_more f fit once at above allowance v found fixed proved i (j, w, later, here, inl great) =
    let end = end_of_way f fit at above allowance v (duals_found found) fixed.ends in
    elim (cases_lt j end.way.rounds) [
      | inl earlier ↦ end.way.fit j w earlier later i here great
      | inr late ↦
          let parts : j ≡ j - end.way.rounds + end.way.rounds = omega (arith, late) in
          let same : w ≡ v = stays_fixed f end.way.rounds (j - end.way.rounds) v w end.way.after end.stays
          (subst (λ (n : ℕ). IsAfterRounds f n w) parts later) in
          end.fit i here (subst (λ (y : List ℕ). EndsTooGreat (f.program i y)) same great)
    ]
needs_no_more f fit once at above allowance v found fixed proved i (j, w, later, here, inr (least, loses)) =
    let end = end_of_way f fit at above allowance v (duals_found found) fixed.ends in
    let same : w ≡ v = one_least f w v least proved.least in
    keeps_whole f allowance end.way.rounds v found i once above fixed end.way.after proved.valid here
    (subst (λ (y : List ℕ). LosesWhole (f.program i y)) same loses)

-- If a dual at its end loses the whole part, that task needs more bits.
pub lost_needs_more : (f : SourceDef) → EndsFit → EndsAtGreatest → ComesUpAbove f → (allowance : ℕ) (v : List ℕ) (found : List Reached)
    (i : ℕ) → IsFixed Exact f allowance v found → AreLeastFitting f v → LosesWhole (f.program i v) → i < tasks_of f → NeedsMoreBits f i
lost_needs_more f fit at above allowance v found i fixed least loses here =
    let end = end_of_way f fit at above allowance v (duals_found found) fixed.ends in
    (end.way.rounds, v, end.way.after, here, inr (least, loses))
