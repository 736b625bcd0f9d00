use Rattle.std.proofs.Common.{◌≡◌, ◌==◌, ℕ, Bool, cond, true, false, List, Option, None, refl, sym}
use Rattle.std.specs.List.{before_first, list_any}
use Rattle.trace_csv.specs.Scripts.{NamedRequest, colon, is_name, request_in}
use Rattle.trace_csv.proofs.Dividing.{none_after}
use Rattle.trace_csv.proofs.script.request_of.Goals as goal

either_none : (b : Bool) → cond {A = Option NamedRequest} b None None ≡ None
either_none true = refl
either_none false = refl

no_request : (token : List ℕ) → list_any (λ b. b == colon) token ≡ false → request_in token ≡ None
no_request token none = rw (none_after (λ b. b == colon) token none) (either_none (is_name (before_first (λ b. b == colon) token)))

pub returns-in_default : goal.returns-in_default
returns-in_default c = sym (no_request c.args.token.now c.in_default.ensures)
