-- One more line of a file, whatever is made of it.
use Rattle.std.proofs.Common.{◌≡◌, ◌<◌, ◌+◌, ◌++◌, ℕ, List, [], ◌∷◌, length, take, None, Some, sym, ap, ◌∙◌, subst}
use Rattle.std.proofs.lemmas.List.{take_more}
use Rattle.trace_csv.specs.Records.{Fields, line_at}
use Rattle.trace_csv.specs.LinesTaken.{Reasons, reason_at, IsFirst}

-- Why a line is refused at its place.
pub reason_here : {R : Type 0} (reason : Reasons R) (lines : List Fields) (i : ℕ) (line : Fields) → line_at lines i ≡ line
    → reason_at reason lines i ≡ reason (take i lines) line (i + 1)
reason_here reason lines i line at = ap (λ (l : Fields). reason (take i lines) l (i + 1)) at

-- The lines before it with it are the lines up to it.
pub taken_more : {T : Type 0} (has : List Fields → T → Type 0) (lines : List Fields) (i : ℕ) (line : Fields) (taker : T)
    → i < length lines → line_at lines i ≡ line → has (take i lines ++ line ∷ []) taker → has (take (i + 1) lines) taker
taken_more has lines i line taker h at done =
    subst (λ (ls : List Fields). has ls taker)
    (sym (take_more lines i [] h ∙ ap (λ (l : Fields). take i lines ++ (l ∷ [])) at)) done

-- A line that is refused after those before it, none of which is, is the first that is refused.
pub first_here : {R : Type 0} (reason : Reasons R) (lines : List Fields) (i : ℕ) (line : Fields) (r : R)
    → i < length lines → line_at lines i ≡ line → ((j : ℕ) → j < i → reason_at reason lines j ≡ None)
    → reason (take i lines) line (i + 1) ≡ Some r → (k : ℕ) × IsFirst reason lines k r
first_here reason lines i line r within at earlier refused =
    (i, record { within = within; earlier = earlier; here = reason_here reason lines i line at ∙ refused })
