-- The requests that run on other processors are all but those that run on the task's own.
use Rattle.std.proofs.Common.{◌≡◌, ℕ, zero, suc, ◌+◌, ◌==◌, not, Bool, true, false, length, refl, arith}
use Rattle.number_laws.specs.Sums.{sum_below, only_if}
use Rattle.sporadic_model.specs.SetDef.{SetDef, task_at}
use Rattle.sporadic_model.specs.Users.{count_of}
use Rattle.sporadic_model.specs.Homes.{home_in}
use Rattle.blocking_columns.specs.Windows.{all_requests, requests_at}
use Rattle.closer_distributed_laws.specs.CloserRows.{requests_away}

either : (b : Bool) (n : ℕ) → only_if (not b) n + only_if b n ≡ n
either true n = omega arith
either false n = omega arith

parted : (n : ℕ) (p : ℕ → Bool) (f : ℕ → ℕ)
    → sum_below n (λ q. only_if (not (p q)) (f q)) + sum_below n (λ q. only_if (p q) (f q)) ≡ sum_below n f
parted zero p f = refl
parted (suc n) p f = omega (arith, parted n p f, either (p n) (f n))

pub away_and_here : (set : SetDef) (i : ℕ)
    → requests_away set i + requests_at set i (task_at set i).processor ≡ all_requests set i
away_and_here set i = parted (length set.resources) (λ q. home_in set q == (task_at set i).processor) (λ q. count_of set i q)
