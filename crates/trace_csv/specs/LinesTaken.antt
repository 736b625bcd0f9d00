-- What is said when the lines of a file are taken, one after another, whatever is made of them.
use Rattle.std.specs.Prelude.{◌≡◌, ◌<◌, ◌+◌, ◌⊎◌, ◌++◌, ℕ, List, [], ◌∷◌, length, take, Option, None, Some, Result, Ok, Err}
use Rattle.trace_csv.specs.Records.{Fields, line_at}

-- Why a line of this number is refused after these lines, if it is.
abbrev pub Reasons : Type 0 → Type 0
Reasons R = List Fields → Fields → ℕ → Option R

-- Why line i is refused after the lines before it. Here lines are counted from 0, and their numbers from 1.
abbrev pub reason_at : {R : Type 0} → Reasons R → List Fields → ℕ → Option R
reason_at reason lines i = reason (take i lines) (line_at lines i) (i + 1)

-- Line i is the first one that is refused, and this is why.
pub record IsFirst {R : Type 0} (reason : Reasons R) (lines : List Fields) (i : ℕ) (r : R) : Type 0 where
  pub within : i < length lines
  pub earlier : (j : ℕ) → j < i → reason_at reason lines j ≡ None
  pub here : reason_at reason lines i ≡ Some r

-- Either the line is not refused, and is taken after those before it. Or it is refused, or there was no memory.
abbrev pub LineDone : {T R : Type 0} → Reasons R → (R → Type 0) → (List Fields → T → Type 0) → List Fields → Fields → ℕ → T
    → Result (Unit {0}) R → Type 0
LineDone reason is_memory has before line k taker (Ok _) = (reason before line k ≡ None) × has (before ++ line ∷ []) taker
LineDone reason is_memory has before line k taker (Err r) = is_memory r ⊎ (reason before line k ≡ Some r)

-- Either no line is refused, and all are taken. Or this is why the first one that is refused is, or there was no memory.
abbrev pub LinesDone : {T R : Type 0} → Reasons R → (R → Type 0) → (List Fields → T → Type 0) → List Fields → T
    → Result (Unit {0}) R → Type 0
LinesDone reason is_memory has lines taker (Ok _) =
    ((i : ℕ) → i < length lines → reason_at reason lines i ≡ None) × has lines taker
LinesDone reason is_memory has lines taker (Err r) = is_memory r ⊎ ((i : ℕ) × IsFirst reason lines i r)
