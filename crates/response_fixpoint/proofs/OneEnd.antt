-- If each run has one end, the rounds have one end.
use Rattle.std.proofs.Common.{◌≡◌, ◌≢◌, ℕ, zero, suc, ◌+◌, ◌-◌, ◌<◌, ◌≤◌, List, refl, sym, ◌∙◌, ap, subst, arith, inl, inr, ◌⊎◌}
use Rattle.std.proofs.lemmas.Bool.{cases_lt}
use Rattle.program_form.specs.Certificate.{DualDef}
use Rattle.response_fixpoint.specs.Rounds.{RunEnd, Valued, TooWide, OutOfUnits, Ending, Schedulable, NotShown, Wide}
use Rattle.response_fixpoint.specs.Rounds.{Allowance, Found, with_task, RoundsOf, Passes, Reaches, ComesTo, EndsIn}
use Rattle.response_fixpoint.proofs.RoundLaws.{passed_task}

-- Does each run have one end?
abbrev pub HaveOneEnd : RoundsOf → Type 0
HaveOneEnd o = (r : List ℕ) (i left : ℕ) (e f : RunEnd) → o.runs r i left e → o.runs r i left f → e ≡ f

pub passes_once : (o : RoundsOf) → HaveOneEnd o → (r : List ℕ) (left i : ℕ) (f g : Found) → Passes o r left i f → Passes o r left i g
    → f ≡ g
passes_once o one r left zero f g p q = p ∙ sym q
passes_once o one r left (suc i) f g (b, u, v, d, p, run, within, is) (c, u', v', d', q, run', within', is') =
    let same : b ≡ c = passes_once o one r left i b c p q in
    let moved : o.runs r i (left - b.used) (Valued u' v' d') =
    subst (λ (x : Found). o.runs r i (left - x.used) (Valued u' v' d')) (sym same) run' in
    let ends : Valued u v d ≡ Valued u' v' d' = one r i (left - b.used) (Valued u v d) (Valued u' v' d') run moved in
    let us : u ≡ u' = cc in
    let vs : v ≡ v' = cc in
    let ds : d ≡ d' = cc in
    is ∙ ap (λ x. with_task x u v d) same ∙ ap (λ x. with_task c x v d) us ∙ ap (λ x. with_task c u' x d) vs
    ∙ ap (λ x. with_task c u' v' x) ds ∙ sym is'

pub reaches_once : (o : RoundsOf) → HaveOneEnd o → (a k u v : ℕ) (r s : List ℕ) → Reaches o a k u r → Reaches o a k v s → (u ≡ v) × (r ≡ s)
reaches_once o one a zero u v r s p q = (p.0 ∙ sym q.0, p.1 ∙ sym q.1)
reaches_once o one a (suc k) u v r s (b, q, f, reached, passed, is, differs, sum) (c, q', g, reached', passed', is', differs', sum') =
    let same = reaches_once o one a k b c q q' reached reached' in
    let units : b ≡ c = same.0 in
    let vector : q ≡ q' = same.1 in
    let moved : Passes o q' (a - c) o.tasks f = subst (λ (x : ℕ). Passes o q' (a - x) o.tasks f) units
    (subst (λ (x : List ℕ). Passes o x (a - b) o.tasks f) vector passed) in
    let founds : f ≡ g = passes_once o one q' (a - c) o.tasks f g moved passed' in
    (sum ∙ ap (λ x. x + f.used) units ∙ ap (λ x. c + x.used) founds ∙ sym sum', is ∙ ap (λ x. x.values) founds ∙ sym is')

-- A round that goes by before another one is reached.
pub record PassedRound (o : RoundsOf) (a k : ℕ) : Type 0 where
  pub spent : ℕ
  pub vector : List ℕ
  pub found : Found
  pub reached : Reaches o a k spent vector
  pub passed : Passes o vector (a - spent) o.tasks found
  pub differs : vector ≢ found.values

pub passed_round : (o : RoundsOf) (a j u : ℕ) (r : List ℕ) → Reaches o a j u r → (k : ℕ) → k < j → PassedRound o a k
passed_round o a zero u r reached k below = absurd (omega arith)
passed_round o a (suc j) u r (b, q, f, reached, passed, is, differs, sum) k below =
    elim (cases_lt k j) [
      | inl earlier ↦ passed_round o a j b q reached k earlier
      | inr later ↦
          let last : j ≡ k = omega arith in
          let other : q ≢ f.values = λ e. differs (e ∙ sym is) in
          let at_j : PassedRound o a j = record { spent = b; vector = q; found = f; reached = reached; passed = passed; differs = other } in
          subst (λ (x : ℕ). PassedRound o a x) last at_j
    ]

-- The end of the rounds that follows from a run's end, if one follows.
abbrev pub Stops : ℕ → ℕ → RunEnd → Ending → Type 0
Stops i latest (Valued used value dual) e = (latest < value) × (e ≡ NotShown i value)
Stops i latest TooWide e = e ≡ Wide i
Stops i latest OutOfUnits e = e ≡ Allowance

-- A place at which the rounds end in e: a task, or the end of a round behind its last task.
pub record AtTask (o : RoundsOf) (r : List ℕ) (i left : ℕ) (e : Ending) : Type 0 where
  pub below : i < o.tasks
  pub run : RunEnd
  pub runs : o.runs r i left run
  pub stops : Stops i (o.latest i) run e

pub record AtEnd (o : RoundsOf) (r : List ℕ) (i : ℕ) (found : Found) (e : Ending) : Type 0 where
  pub last : i ≡ o.tasks
  pub same : found.values ≡ r
  pub is : e ≡ Schedulable r found.duals

pub record Place (o : RoundsOf) (a : ℕ) (e : Ending) : Type 0 where
  pub rounds : ℕ
  pub spent : ℕ
  pub vector : List ℕ
  pub task : ℕ
  pub found : Found
  pub reached : Reaches o a rounds spent vector
  pub passed : Passes o vector (a - spent) task found
  pub ends : AtTask o vector task (a - spent - found.used) e ⊎ AtEnd o vector task found e

-- A task at which the rounds end is such a place.
abbrev pub place_of : (o : RoundsOf) (a : ℕ) (r : List ℕ) (i left : ℕ) (found : Found) (e : Ending) (run : RunEnd) → i < o.tasks
    → ComesTo o a r i left found → o.runs r i left run → Stops i (o.latest i) run e → Place o a e
place_of o a r i left found e run below comes runs stops =
    let moved : o.runs r i (a - comes.spent - found.used) run = subst (λ (x : ℕ). o.runs r i x run) comes.units runs in
    let here : AtTask o r i (a - comes.spent - found.used) e = record { below = below; run = run; runs = moved; stops = stops } in
    record {
      rounds = comes.rounds;
      spent = comes.spent;
      vector = r;
      task = i;
      found = found;
      reached = comes.reached;
      passed = comes.passed;
      ends = inl here;
    }

place : (o : RoundsOf) (a : ℕ) (e : Ending) → EndsIn o a e → Place o a e
place o a (Schedulable bounds duals) (left, found, comes, same, rest) =
    let here : AtEnd o bounds o.tasks found (Schedulable bounds duals) =
    record { last = refl; same = same; is = ap (λ x. Schedulable bounds x) (sym rest) } in
    record {
      rounds = comes.rounds;
      spent = comes.spent;
      vector = bounds;
      task = o.tasks;
      found = found;
      reached = comes.reached;
      passed = comes.passed;
      ends = inr here;
    }
place o a (NotShown i value) (r, left, found, used, dual, below, comes, run, passes) =
    place_of o a r i left found (NotShown i value) (Valued used value dual) below comes run (passes, refl)
place o a (Wide i) (r, left, found, below, comes, run) = place_of o a r i left found (Wide i) TooWide below comes run refl
place o a Allowance (r, i, left, found, below, comes, run) = place_of o a r i left found Allowance OutOfUnits below comes run refl

-- The rounds don't end at a task that passes.
stops_pass : (i latest used value : ℕ) (dual : DualDef) (e : Ending) (run : RunEnd) → run ≡ Valued used value dual
    → value ≤ latest → Stops i latest run e → ⊥
stops_pass i latest used value dual e (Valued u v d) same within stops = let vs : v ≡ value = cc in absurd (omega (arith, stops.0))
stops_pass i latest used value dual e TooWide same within stops = cc
stops_pass i latest used value dual e OutOfUnits same within stops = cc

pub task_passes : (o : RoundsOf) → HaveOneEnd o → (r : List ℕ) (left i j : ℕ) (f g : Found) (e : Ending)
    → Passes o r left i f → Passes o r left j g → i < j → AtTask o r i (left - f.used) e → ⊥
task_passes o one r left i j f g e p q below ends =
    let t = passed_task o r left j g q i below in
    let same : t.before ≡ f = passes_once o one r left i t.before f t.passed p in
    let moved : o.runs r i (left - f.used) (Valued t.used t.value t.dual) =
    subst (λ (x : Found). o.runs r i (left - x.used) (Valued t.used t.value t.dual)) same t.run in
    let is : ends.run ≡ Valued t.used t.value t.dual = one r i (left - f.used) ends.run (Valued t.used t.value t.dual) ends.runs moved in
    stops_pass i (o.latest i) t.used t.value t.dual e ends.run is t.within ends.stops

-- The rounds don't end in a round that goes by.
pub round_passes : (o : RoundsOf) → HaveOneEnd o → (a : ℕ) (e : Ending) (p : Place o a e) → PassedRound o a p.rounds → ⊥
round_passes o one a e p w =
    let both = reaches_once o one a p.rounds w.spent p.spent w.vector p.vector w.reached p.reached in
    let moved : Passes o p.vector (a - p.spent) o.tasks w.found =
    subst (λ (x : ℕ). Passes o p.vector (a - x) o.tasks w.found) both.0
    (subst (λ (x : List ℕ). Passes o x (a - w.spent) o.tasks w.found) both.1 w.passed) in
    elim p.ends [
      | inl ends ↦ task_passes o one p.vector (a - p.spent) p.task o.tasks p.found w.found e p.passed moved ends.below ends
      | inr ends ↦
          let whole : Passes o p.vector (a - p.spent) o.tasks p.found =
          subst (λ (x : ℕ). Passes o p.vector (a - p.spent) x p.found) ends.last p.passed in
          let founds : w.found ≡ p.found = passes_once o one p.vector (a - p.spent) o.tasks w.found p.found moved whole in
          w.differs (both.1 ∙ sym ends.same ∙ ap (λ x. x.values) (sym founds))
    ]

stops_once : (i latest : ℕ) (x y : RunEnd) (e f : Ending) → x ≡ y → Stops i latest x e → Stops i latest y f → e ≡ f
stops_once i latest (Valued u v d) (Valued u' v' d') e f same s t = let vs : v ≡ v' = cc in s.1 ∙ ap (λ x. NotShown i x) vs ∙ sym t.1
stops_once i latest (Valued u v d) TooWide e f same s t = cc
stops_once i latest (Valued u v d) OutOfUnits e f same s t = cc
stops_once i latest TooWide (Valued u' v' d') e f same s t = cc
stops_once i latest TooWide TooWide e f same s t = s ∙ sym t
stops_once i latest TooWide OutOfUnits e f same s t = cc
stops_once i latest OutOfUnits (Valued u' v' d') e f same s t = cc
stops_once i latest OutOfUnits TooWide e f same s t = cc
stops_once i latest OutOfUnits OutOfUnits e f same s t = s ∙ sym t

-- Two ends at one place are one.
ends_once : (o : RoundsOf) → HaveOneEnd o → (r : List ℕ) (i left : ℕ) (found : Found) (e f : Ending)
    → (AtTask o r i left e ⊎ AtEnd o r i found e) → (AtTask o r i left f ⊎ AtEnd o r i found f) → e ≡ f
ends_once o one r i left found e f (inl x) (inl y) =
    stops_once i (o.latest i) x.run y.run e f (one r i left x.run y.run x.runs y.runs) x.stops y.stops
ends_once o one r i left found e f (inl x) (inr y) = let a = x.below in let b = y.last in absurd (omega arith)
ends_once o one r i left found e f (inr x) (inl y) = let a = y.below in let b = x.last in absurd (omega arith)
ends_once o one r i left found e f (inr x) (inr y) = x.is ∙ sym y.is

-- The last task that a place may be at.
task_most : (o : RoundsOf) (a : ℕ) (e : Ending) (p : Place o a e) → p.task ≤ o.tasks
task_most o a e p = elim p.ends [ inl x ↦ (let b = x.below in omega arith) | inr x ↦ (let b = x.last in omega arith) ]

-- Of two places in one round, the one at the earlier task isn't an end.
earlier_task : (o : RoundsOf) → HaveOneEnd o → (a : ℕ) (e f : Ending) (spent : ℕ) (r : List ℕ) (i j : ℕ) (g h : Found)
    → Passes o r (a - spent) i g → (AtTask o r i (a - spent - g.used) e ⊎ AtEnd o r i g e)
    → Passes o r (a - spent) j h → j ≤ o.tasks → i < j → ⊥
earlier_task o one a e f spent r i j g h p (inl x) q most below = task_passes o one r (a - spent) i j g h e p q below x
earlier_task o one a e f spent r i j g h p (inr x) q most below = let b = x.last in absurd (omega arith)

-- Two places at which the rounds end are one place.
pub record SamePlace (o : RoundsOf) (a : ℕ) (e f : Ending) (p : Place o a e) (q : Place o a f) : Type 0 where
  pub rounds : p.rounds ≡ q.rounds
  pub spent : p.spent ≡ q.spent
  pub vector : p.vector ≡ q.vector
  pub task : p.task ≡ q.task
  pub found : p.found ≡ q.found

same_round : (o : RoundsOf) → HaveOneEnd o → (a : ℕ) (e f : Ending) (p : Place o a e) (q : Place o a f) → p.rounds ≡ q.rounds
    → SamePlace o a e f p q
same_round o one a e f p q same =
    let moved : Reaches o a q.rounds p.spent p.vector = subst (λ (x : ℕ). Reaches o a x p.spent p.vector) same p.reached in
    let both = reaches_once o one a q.rounds p.spent q.spent p.vector q.vector moved q.reached in
    let passed : Passes o q.vector (a - q.spent) p.task p.found =
    subst (λ (x : ℕ). Passes o q.vector (a - x) p.task p.found) both.0
    (subst (λ (x : List ℕ). Passes o x (a - p.spent) p.task p.found) both.1 p.passed) in
    let ends : AtTask o q.vector p.task (a - q.spent - p.found.used) e ⊎ AtEnd o q.vector p.task p.found e =
    subst (λ (x : ℕ). AtTask o q.vector p.task (a - x - p.found.used) e ⊎ AtEnd o q.vector p.task p.found e) both.0
    (subst (λ (x : List ℕ). AtTask o x p.task (a - p.spent - p.found.used) e ⊎ AtEnd o x p.task p.found e) both.1 p.ends) in
    let p_most = task_most o a e p in
    let q_most = task_most o a f q in
    elim (cases_lt p.task q.task) [
      | inl less ↦ absurd (earlier_task o one a e f q.spent q.vector p.task q.task p.found q.found passed ends q.passed q_most less)
      | inr more ↦ elim (cases_lt q.task p.task) [
        | inl less ↦ absurd (earlier_task o one a f e q.spent q.vector q.task p.task q.found p.found q.passed q.ends passed p_most less)
        | inr least ↦
            let tasks : p.task ≡ q.task = omega arith in
            let there : Passes o q.vector (a - q.spent) q.task p.found =
            subst (λ (x : ℕ). Passes o q.vector (a - q.spent) x p.found) tasks passed in
            let founds : p.found ≡ q.found = passes_once o one q.vector (a - q.spent) q.task p.found q.found there q.passed in
            record { rounds = same; spent = both.0; vector = both.1; task = tasks; found = founds }
      ]
    ]

pub one_place : (o : RoundsOf) → HaveOneEnd o → (a : ℕ) (e f : Ending) (p : Place o a e) (q : Place o a f) → SamePlace o a e f p q
one_place o one a e f p q =
    elim (cases_lt p.rounds q.rounds) [
      | inl less ↦ absurd (round_passes o one a e p (passed_round o a q.rounds q.spent q.vector q.reached p.rounds less))
      | inr more ↦ elim (cases_lt q.rounds p.rounds) [
        | inl less ↦ absurd (round_passes o one a f q (passed_round o a p.rounds p.spent p.vector p.reached q.rounds less))
        | inr least ↦ same_round o one a e f p q (omega (arith, more, least))
      ]
    ]

-- The rounds end in one way only.
pub one_end : (o : RoundsOf) → HaveOneEnd o → (a : ℕ) (e f : Ending) → EndsIn o a e → EndsIn o a f → e ≡ f
one_end o one a e f p q =
    let x = place o a e p in
    let y = place o a f q in
    let s = one_place o one a e f x y in
    let there : AtTask o y.vector x.task (a - y.spent - x.found.used) e ⊎ AtEnd o y.vector x.task x.found e =
    subst (λ (n : ℕ). AtTask o y.vector x.task (a - n - x.found.used) e ⊎ AtEnd o y.vector x.task x.found e) s.spent
    (subst (λ (r : List ℕ). AtTask o r x.task (a - x.spent - x.found.used) e ⊎ AtEnd o r x.task x.found e) s.vector x.ends) in
    let ends : AtTask o y.vector y.task (a - y.spent - y.found.used) e ⊎ AtEnd o y.vector y.task y.found e =
    subst (λ (g : Found). AtTask o y.vector y.task (a - y.spent - g.used) e ⊎ AtEnd o y.vector y.task g e) s.found
    (subst (λ (i : ℕ). AtTask o y.vector i (a - y.spent - x.found.used) e ⊎ AtEnd o y.vector i x.found e) s.task there) in
    ends_once o one y.vector y.task (a - y.spent - y.found.used) y.found e f ends y.ends
