-- A program is in a thread's share if and only if its number, divided by the number of threads, leaves the thread's number.
use Rattle.std.proofs.Common.{◌≡◌, ℕ, ◌+◌, ◌*◌, ◌/◌, ◌%◌, ◌<◌, sym, ◌∙◌, ap}
use Rattle.std.proofs.Math.Nat.{mod-add-div', add-mul-mod_self_right, mod-eq_of_lt}

pub left_shared : (n thread threads : ℕ) → n % threads ≡ thread → (k : ℕ) × (n ≡ thread + k * threads)
left_shared n thread threads left = (n / threads, sym (mod-add-div' n threads) ∙ ap (λ x. x + n / threads * threads) left)

pub shared_left : (n thread threads k : ℕ) → thread < threads → n ≡ thread + k * threads → n % threads ≡ thread
shared_left n thread threads k l e = ap (λ x. x % threads) e ∙ (add-mul-mod_self_right thread k threads ∙ mod-eq_of_lt l)
