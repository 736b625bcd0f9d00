-- The windows of waits in the worked set.
use Rattle.std.proofs.Common.{◌≡◌, ℕ, zero, suc, ◌≤◌, true, Some, refl, arith}
use Rattle.window_laws.proofs.Least.{found_is}
use Rattle.mpcp_window_laws.specs.MpcpWindows.{is_enough_wait, wait_window}
use Rattle.mpcp_window_laws.specs.Worked.{both_used, some_bounds}

none_less : (m : ℕ) → is_enough_wait both_used some_bounds 0 0 m ≡ true → 5 ≤ m
none_less zero h = absurd (cc)
none_less (suc zero) h = absurd (cc)
none_less (suc (suc zero)) h = absurd (cc)
none_less (suc (suc (suc zero))) h = absurd (cc)
none_less (suc (suc (suc (suc zero)))) h = absurd (cc)
none_less (suc (suc (suc (suc (suc m))))) h = omega arith

pub window_is_five : wait_window both_used some_bounds 0 0 ≡ Some 5
window_is_five = found_is 21 (is_enough_wait both_used some_bounds 0 0) 5 (omega arith) refl none_less

none_less_of_lowest : (m : ℕ) → is_enough_wait both_used some_bounds 3 0 m ≡ true → 9 ≤ m
none_less_of_lowest zero h = absurd (cc)
none_less_of_lowest (suc zero) h = absurd (cc)
none_less_of_lowest (suc (suc zero)) h = absurd (cc)
none_less_of_lowest (suc (suc (suc zero))) h = absurd (cc)
none_less_of_lowest (suc (suc (suc (suc zero)))) h = absurd (cc)
none_less_of_lowest (suc (suc (suc (suc (suc zero))))) h = absurd (cc)
none_less_of_lowest (suc (suc (suc (suc (suc (suc zero)))))) h = absurd (cc)
none_less_of_lowest (suc (suc (suc (suc (suc (suc (suc zero))))))) h = absurd (cc)
none_less_of_lowest (suc (suc (suc (suc (suc (suc (suc (suc zero)))))))) h = absurd (cc)
none_less_of_lowest (suc (suc (suc (suc (suc (suc (suc (suc (suc m))))))))) h = omega arith

pub window_is_nine : wait_window both_used some_bounds 3 0 ≡ Some 9
window_is_nine = found_is 201 (is_enough_wait both_used some_bounds 3 0) 9 (omega arith) refl none_less_of_lowest
