-- The rounds of refusals end in one way only, with the same steps.
use Rattle.std.proofs.Common.{◌≡◌, ℕ, zero, suc, ◌-◌, ◌<◌, ◌≤◌, List, [], ◌∷◌, ◌++◌, refl, sym, ◌∙◌, ap, subst, arith, inl, inr}
use Rattle.std.specs.Prelude.{slice_index}
use Rattle.std.proofs.lemmas.Bool.{cases_lt}
use Rattle.fraction128.specs.Fraction.{Fraction}
use Rattle.program_form.specs.Certificate.{DualDef}
use Rattle.program_sources.specs.Recurrence.{SourceDef}
use Rattle.exchange_runs.proofs.Finals.{one_answer}
use Rattle.refusal_laws.specs.Steps.{StepDef}
use Rattle.response_fixpoint.specs.Rounds.{Valued, TooWide, OutOfUnits, Ending, NotShown, Found, RoundsOf, Passes, Reaches}
use Rattle.response_fixpoint.specs.Rounds.{EndsIn}
use Rattle.response_fixpoint.specs.Runs.{TaskRuns}
use Rattle.response_fixpoint.proofs.OneEnd.{HaveOneEnd, place_of, passes_once, reaches_once, one_place, one_end}
use Rattle.response_fixpoint.proofs.RunLaws.{have_one_end}
use Rattle.refusal_cert.specs.Refuting.{IsWritten, IsUnwritable, GivesPoint, PointRuns, refuting}
use Rattle.refusal_cert.specs.Steps.{step_of, round_steps, way_steps, refusal_of}
use Rattle.refusal_cert.proofs.PointLaws.{best_forms, one_written, written_or_not}

-- Two ends of one run have one best point.
pub one_best : (f : SourceDef) (r : List ℕ) (i left u v u' v' : ℕ) (d d' : DualDef) (p : TaskRuns f r i left (Valued u v d))
    (q : TaskRuns f r i left (Valued u' v' d')) → p.ends.best ≡ q.ends.best
one_best f r i left u v u' v' d d' p q =
    (one_answer (f.program i r) left left p.ends.exchanges q.ends.exchanges p.ends.optimum q.ends.optimum p.ends.best q.ends.best
    d d' p.is_program p.ends.ends q.ends.ends).2

one_point : (f : SourceDef) (r : List ℕ) (i left u v u' v' : ℕ) (d d' x y : DualDef) (p : TaskRuns f r i left (Valued u v d))
    (q : TaskRuns f r i left (Valued u' v' d')) → v ≡ v' → GivesPoint (slice_index r i) v p.ends.best x
    → GivesPoint (slice_index r i) v' q.ends.best y → x ≡ y
one_point f r i left u v u' v' d d' x y p q same h k =
    elim (cases_lt (slice_index r i) v) [
      | inl above ↦
          let other : slice_index r i < v' = omega (arith, above, same) in
          let best : p.ends.best ≡ q.ends.best = one_best f r i left u v u' v' d d' p q in
          let moved : IsWritten p.ends.best y = subst (λ (b : List Fraction). IsWritten b y) (sym best) (k.above other) in
          one_written p.ends.best x y
          (best_forms (f.program i r) left p.ends.exchanges p.ends.optimum p.ends.best d p.is_program p.ends.ends) (h.above above) moved
      | inr most ↦
          let other : v' ≤ slice_index r i = omega (arith, most, same) in
          h.none most ∙ sym (k.none other)
    ]

-- The end of a run with a point isn't too wide.
not_wide : (f : SourceDef) (r : List ℕ) (i left u v : ℕ) (x : DualDef) → PointRuns f r i left (Valued u v x)
    → PointRuns f r i left TooWide → ⊥
not_wide f r i left u v x (d, p, h) wide = elim wide [
  | inl run ↦ (let ends : Valued u v d ≡ TooWide = have_one_end f r i left (Valued u v d) TooWide p run in cc)
  | inr w ↦
      let ends : Valued u v d ≡ Valued w.0 w.1 w.2 = have_one_end f r i left (Valued u v d) (Valued w.0 w.1 w.2) p w.3 in
      let vs : v ≡ w.1 = cc in
      let above : slice_index r i < v = omega (arith, vs, w.4) in
      let best : p.ends.best ≡ w.3.ends.best = one_best f r i left u v w.0 w.1 d w.2 p w.3 in
      written_or_not p.ends.best x
      (best_forms (f.program i r) left p.ends.exchanges p.ends.optimum p.ends.best d p.is_program p.ends.ends) (h.above above)
      (subst (λ (b : List Fraction). IsUnwritable b) (sym best) w.5)
]

not_more : (f : SourceDef) (r : List ℕ) (i left u v : ℕ) (x : DualDef) → PointRuns f r i left (Valued u v x)
    → PointRuns f r i left OutOfUnits → ⊥
not_more f r i left u v x (d, p, h) more =
    let ends : Valued u v d ≡ OutOfUnits = have_one_end f r i left (Valued u v d) OutOfUnits p more in cc

wide_not_more : (f : SourceDef) (r : List ℕ) (i left : ℕ) → PointRuns f r i left TooWide → PointRuns f r i left OutOfUnits → ⊥
wide_not_more f r i left wide more = elim wide [
  | inl run ↦ (let ends : TooWide ≡ OutOfUnits = have_one_end f r i left TooWide OutOfUnits run more in cc)
  | inr w ↦ (let ends : Valued w.0 w.1 w.2 ≡ OutOfUnits = have_one_end f r i left (Valued w.0 w.1 w.2) OutOfUnits w.3 more in cc)
]

pub points_once : (f : SourceDef) → HaveOneEnd (refuting f)
points_once f r i left (Valued u v x) (Valued u' v' y) (d, p, h) (d', q, k) =
    let ends : Valued u v d ≡ Valued u' v' d' = have_one_end f r i left (Valued u v d) (Valued u' v' d') p q in
    let us : u ≡ u' = cc in
    let vs : v ≡ v' = cc in
    let points : x ≡ y = one_point f r i left u v u' v' d d' x y p q vs h k in
    ap (λ a. Valued a v x) us ∙ ap (λ a. Valued u' a x) vs ∙ ap (λ a. Valued u' v' a) points
points_once f r i left (Valued u v x) TooWide p q = absurd (not_wide f r i left u v x p q)
points_once f r i left (Valued u v x) OutOfUnits p q = absurd (not_more f r i left u v x p q)
points_once f r i left TooWide (Valued u v x) p q = absurd (not_wide f r i left u v x q p)
points_once f r i left TooWide TooWide p q = refl
points_once f r i left TooWide OutOfUnits p q = absurd (wide_not_more f r i left p q)
points_once f r i left OutOfUnits (Valued u v x) p q = absurd (not_more f r i left u v x q p)
points_once f r i left OutOfUnits TooWide p q = absurd (wide_not_more f r i left q p)
points_once f r i left OutOfUnits OutOfUnits p q = refl

pub refuting_once : (f : SourceDef) (a : ℕ) (e g : Ending) → EndsIn (refuting f) a e → EndsIn (refuting f) a g → e ≡ g
refuting_once f = one_end (refuting f) (points_once f)

-- If rounds have one end each, they give the same steps on the way to one place.
way_once : (o : RoundsOf) → HaveOneEnd o → (a k j u v : ℕ) (r s : List ℕ) → k ≡ j → (p : Reaches o a k u r) (q : Reaches o a j v s)
    → way_steps o a k u r p ≡ way_steps o a j v s q
way_once o one a zero zero u v r s same p q = refl
way_once o one a zero (suc j) u v r s same p q = absurd (omega (arith, same))
way_once o one a (suc k) zero u v r s same p q = absurd (omega (arith, same))
way_once o one a (suc k) (suc j) u v r s same (b, x, f, reached, passed, is, other, sum) (c, y, g, reached', passed', is', other', sum') =
    let less : k ≡ j = omega (arith, same) in
    let before = way_once o one a k j b c x y less reached reached' in
    let moved : Reaches o a j b x = subst (λ (n : ℕ). Reaches o a n b x) less reached in
    let both = reaches_once o one a j b c x y moved reached' in
    let there : Passes o y (a - c) o.tasks f = subst (λ (n : ℕ). Passes o y (a - n) o.tasks f) both.0
    (subst (λ (z : List ℕ). Passes o z (a - b) o.tasks f) both.1 passed) in
    let founds : f ≡ g = passes_once o one y (a - c) o.tasks f g there passed' in
    ap (λ (z : List StepDef). z ++ round_steps x f o.tasks) before
    ∙ ap (λ (z : List ℕ). way_steps o a j c y reached' ++ round_steps z f o.tasks) both.1
    ∙ ap (λ (z : Found). way_steps o a j c y reached' ++ round_steps y z o.tasks) founds

-- So they have one refusal.
pub one_refusal : (o : RoundsOf) → HaveOneEnd o → (a i v : ℕ) (p q : EndsIn o a (NotShown i v))
    → refusal_of o a (NotShown i v) p ≡ refusal_of o a (NotShown i v) q
one_refusal o one a i v (r, left, f, u, d, below, comes, run, late) (r', left', g, u', d', below', comes', run', late') =
    let x = place_of o a r i left f (NotShown i v) (Valued u v d) below comes run (late, refl) in
    let y = place_of o a r' i left' g (NotShown i v) (Valued u' v d') below' comes' run' (late', refl) in
    let same = one_place o one a (NotShown i v) (NotShown i v) x y in
    let spents : comes.spent ≡ comes'.spent = same.spent in
    let vectors : r ≡ r' = same.vector in
    let founds : f ≡ g = same.found in
    let used : f.used ≡ g.used = ap (λ (z : Found). z.used) founds in
    let lefts : left ≡ left' = omega (arith, comes.units, comes'.units, spents, used) in
    let run_there : o.runs r' i left' (Valued u v d) = subst (λ (n : ℕ). o.runs r' i n (Valued u v d)) lefts
    (subst (λ (z : List ℕ). o.runs z i left (Valued u v d)) vectors run) in
    let ends : Valued u v d ≡ Valued u' v d' = one r' i left' (Valued u v d) (Valued u' v d') run_there run' in
    let ds : d ≡ d' = cc in
    let way = way_once o one a comes.rounds comes'.rounds comes.spent comes'.spent r r' same.rounds comes.reached comes'.reached in
    ap (λ (z : List StepDef). z ++ round_steps r f i ++ step_of i v d ∷ []) way
    ∙ ap (λ (z : List ℕ). way_steps o a comes'.rounds comes'.spent r' comes'.reached ++ round_steps z f i ++ step_of i v d ∷ []) vectors
    ∙ ap (λ (z : Found). way_steps o a comes'.rounds comes'.spent r' comes'.reached ++ round_steps r' z i ++ step_of i v d ∷ []) founds
    ∙ ap (λ (z : DualDef). way_steps o a comes'.rounds comes'.spent r' comes'.reached ++ round_steps r' g i ++ step_of i v z ∷ []) ds
