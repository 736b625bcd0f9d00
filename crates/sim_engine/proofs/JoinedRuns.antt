-- Joined runs are known by their rows.
use Rattle.std.proofs.Common.{◌≡◌, ℕ, ◌+◌, ◌<◌, List, [], ◌∷◌, refl, sym, ◌∙◌, ap, arith, inl, inr}
use Rattle.std.proofs.lemmas.Bool.{cases_lt, lt-ltb, le-ltb}
use Rattle.std.proofs.lemmas.List.Sums.{sum_by-cons}
use Rattle.schedule_model.specs.RowDef.{RunDef, row_in, ticks_of}
use Rattle.sim_engine.specs.Joined.{AreJoined}
use Rattle.sim_engine.specs.Simulated.{EachLasts}

-- The first run is at its ticks, and the later runs come after them.
row_first : (run : RunDef) (runs : List RunDef) (t : ℕ) → t < run.ticks → row_in (run ∷ runs) t ≡ run.row
row_first run runs t l = rw (lt-ltb t run.ticks l) refl

row_later : (run : RunDef) (runs : List RunDef) (t : ℕ) → row_in (run ∷ runs) (run.ticks + t) ≡ row_in runs t
row_later run runs t = rw (le-ltb (run.ticks + t) run.ticks (omega arith)) (ap (row_in runs) (omega arith))

ticks_first : (run : RunDef) (runs : List RunDef) → ticks_of (run ∷ runs) ≡ run.ticks + ticks_of runs
ticks_first run runs = sum_by-cons (λ (r : RunDef). r.ticks) run runs

joined_rest : (run : RunDef) (runs : List RunDef) → AreJoined (run ∷ runs) → AreJoined runs
joined_rest run [] joined = tt
joined_rest run (next ∷ runs) joined = joined.1

-- Have the lists the same rows before tick n?
abbrev pub SameRows : List RunDef → List RunDef → ℕ → Type 0
SameRows a b n = (t : ℕ) → t < n → row_in a t ≡ row_in b t

same_first : (x y : RunDef) (a b : List RunDef) → EachLasts (x ∷ a) → EachLasts (y ∷ b)
    → SameRows (x ∷ a) (y ∷ b) (ticks_of (x ∷ a)) → x.row ≡ y.row
same_first x y a b l m same =
    let some : 0 < ticks_of (x ∷ a) = omega (arith, ticks_first x a, l.0) in
    sym (row_first x a 0 (omega (arith, l.0))) ∙ same 0 some ∙ row_first y b 0 (omega (arith, m.0))

-- Where the rows are the same, the first run of the one doesn't end before that of the other.
not_shorter : (x y : RunDef) (a b : List RunDef) → EachLasts a → AreJoined (x ∷ a) → ticks_of (x ∷ a) ≡ ticks_of (y ∷ b)
    → SameRows (x ∷ a) (y ∷ b) (ticks_of (x ∷ a)) → x.row ≡ y.row → x.ticks < y.ticks → ⊥
not_shorter x y [] b l joined total same rows less = absurd (omega (arith, total, ticks_first x [], ticks_first y b, less))
not_shorter x y (z ∷ a) b l joined total same rows less =
    let within : x.ticks + 0 < ticks_of (x ∷ z ∷ a) = omega (arith, ticks_first x (z ∷ a), ticks_first z a, l.0) in
    let there : row_in (x ∷ z ∷ a) (x.ticks + 0) ≡ z.row = row_later x (z ∷ a) 0 ∙ row_first z a 0 (omega (arith, l.0)) in
    let here : row_in (y ∷ b) (x.ticks + 0) ≡ y.row = row_first y b (x.ticks + 0) (omega (arith, less)) in
    joined.0 (rows ∙ sym here ∙ sym (same (x.ticks + 0) within) ∙ there)

same_ticks : (x y : RunDef) (a b : List RunDef) → EachLasts (x ∷ a) → EachLasts (y ∷ b) → AreJoined (x ∷ a)
    → AreJoined (y ∷ b) → ticks_of (x ∷ a) ≡ ticks_of (y ∷ b)
    → SameRows (x ∷ a) (y ∷ b) (ticks_of (x ∷ a)) → x.ticks ≡ y.ticks
same_ticks x y a b l m joined joined' total same =
    let rows = same_first x y a b l m same in
    let back : SameRows (y ∷ b) (x ∷ a) (ticks_of (y ∷ b)) = λ t h. sym (same t (omega (arith, total, h))) in
    elim (cases_lt x.ticks y.ticks) [
      | inl less ↦ absurd (not_shorter x y a b l.1 joined total same rows less)
      | inr most ↦ elim (cases_lt y.ticks x.ticks) [
        | inl less ↦ absurd (not_shorter y x b a m.1 joined' (sym total) back (sym rows) less)
        | inr least ↦ omega arith
      ]
    ]

same_run : (x y : RunDef) → x.ticks ≡ y.ticks → x.row ≡ y.row → x ≡ y
same_run x y ticks rows = ap (λ n. record { ticks = n; row = x.row }) ticks ∙ ap (λ r. record { ticks = y.ticks; row = r }) rows

same_rest : (x y : RunDef) (a b : List RunDef) → x.ticks ≡ y.ticks → SameRows (x ∷ a) (y ∷ b) (ticks_of (x ∷ a)) → SameRows a b (ticks_of a)
same_rest x y a b ticks same t l =
    let within : x.ticks + t < ticks_of (x ∷ a) = omega (arith, ticks_first x a, l) in
    sym (row_later x a t) ∙ same (x.ticks + t) within ∙ ap (λ n. row_in (y ∷ b) (n + t)) ticks ∙ row_later y b t

-- Lists of joined runs with the same rows at all their ticks are one.
pub joined_once : (a b : List RunDef) → EachLasts a → EachLasts b → AreJoined a → AreJoined b → ticks_of a ≡ ticks_of b
    → SameRows a b (ticks_of a) → a ≡ b
joined_once [] [] l m joined joined' total same = refl
joined_once [] (y ∷ b) l m joined joined' total same = absurd (omega (arith, total, ticks_first y b, m.0))
joined_once (x ∷ a) [] l m joined joined' total same = absurd (omega (arith, total, ticks_first x a, l.0))
joined_once (x ∷ a) (y ∷ b) l m joined joined' total same =
    let ticks = same_ticks x y a b l m joined joined' total same in
    let rest : ticks_of a ≡ ticks_of b = omega (arith, total, ticks, ticks_first x a, ticks_first y b) in
    ap (λ run. run ∷ a) (same_run x y ticks (same_first x y a b l m same))
    ∙ ap (λ runs. y ∷ runs) (joined_once a b l.1 m.1 (joined_rest x a joined) (joined_rest y b joined') rest (same_rest x y a b ticks same))
