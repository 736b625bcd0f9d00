-- The windows of the worked set's lower task.
use Rattle.std.proofs.Common.{◌≡◌, ℕ, zero, suc, ◌≤◌, true, [], ◌∷◌, Some, refl, arith}
use Rattle.std.specs.Prelude.{slice_index}
use Rattle.window_laws.specs.Windows.{is_enough, window_of}
use Rattle.window_laws.specs.Worked.{two_users}
use Rattle.window_laws.proofs.Least.{found_is}

none_less : (m : ℕ) → is_enough (two_users 0) (slice_index (4 ∷ 21 ∷ [])) 1 0 m ≡ true → 2 ≤ m
none_less zero h = absurd (cc)
none_less (suc zero) h = absurd (cc)
none_less (suc (suc m)) h = omega arith

pub window_is_two : window_of (two_users 0) (slice_index (4 ∷ 21 ∷ [])) 1 0 ≡ Some 2
window_is_two = found_is 101 (is_enough (two_users 0) (slice_index (4 ∷ 21 ∷ [])) 1 0) 2 (omega arith) refl none_less

late_less : (m : ℕ) → is_enough (two_users 5) (slice_index (4 ∷ 21 ∷ [])) 1 0 m ≡ true → 3 ≤ m
late_less zero h = absurd (cc)
late_less (suc zero) h = absurd (cc)
late_less (suc (suc zero)) h = absurd (cc)
late_less (suc (suc (suc m))) h = omega arith

pub window_is_three : window_of (two_users 5) (slice_index (4 ∷ 21 ∷ [])) 1 0 ≡ Some 3
window_is_three = found_is 101 (is_enough (two_users 5) (slice_index (4 ∷ 21 ∷ [])) 1 0) 3 (omega arith) refl late_less
