-- The least number of ticks that is enough, for windows of each kind. A function says how many ticks are taken in so many: what may run in
-- them, or how long others may hold a resource.
use Rattle.std.proofs.Common.{◌≡◌, ℕ, ◌<◌, ◌≤◌, ◌&&◌, Bool, true, nat_lt, nat_le, arith, inl, inr, None, Some}
use Rattle.std.proofs.lemmas.Bool.{cases_Bool, and_parts, and_from, lt-ltb, ltb-true, leb-true, le-leb}
use Rattle.number_laws.specs.Tests.{found_below}
use Rattle.number_laws.proofs.TestLaws.{found_below-is, found_below-none_from}
use Rattle.window_laws.proofs.Least.{Found, found_from, found_is}

-- Are w ticks enough: at least one, and as many as are taken in them?
abbrev pub is_enough_of : (ℕ → ℕ) → ℕ → Bool
is_enough_of taken w = nat_lt 0 w && nat_le (taken w) w

pub enough_is : (taken : ℕ → ℕ) (w : ℕ) → is_enough_of taken w ≡ true → (0 < w) × (taken w ≤ w)
enough_is taken w h =
    let parts : (nat_lt 0 w ≡ true) × (nat_le (taken w) w ≡ true) = and_parts _ _ h in
    (ltb-true 0 w parts.0, leb-true (taken w) w parts.1)

pub enough_from : (taken : ℕ → ℕ) (w : ℕ) → 0 < w → taken w ≤ w → is_enough_of taken w ≡ true
enough_from taken w some most = and_from _ _ (lt-ltb 0 w some) (le-leb (taken w) w most)

-- What is enough where more is taken is enough. So where a least number is found there, one is found here, which isn't greater.
pub found_if_fewer : (taken more : ℕ → ℕ) (n b : ℕ) → ((w : ℕ) → taken w ≤ more w) → found_below n (is_enough_of more) ≡ Some b
    → Found n (is_enough_of taken) b
found_if_fewer taken more n b fewer e =
    let found : (b < n) × (is_enough_of more b ≡ true) = found_below-is n (is_enough_of more) b e in
    let enough : (0 < b) × (more b ≤ b) = enough_is more b found.1 in
    found_from n (is_enough_of taken) b found.0 (enough_from taken b enough.0 (omega (arith, fewer b, enough.1)))

-- The search from below: after each number of ticks that isn't enough comes how many are taken in so many. Are no fewer than span enough?
abbrev pub NoneBelow : (ℕ → ℕ) → ℕ → Type 0
NoneBelow taken span = (m : ℕ) → is_enough_of taken m ≡ true → span ≤ m

-- No number of ticks is enough that is less than how many are taken in fewer.
pub none_below_next : (taken : ℕ → ℕ) (span : ℕ) → ((v w : ℕ) → v ≤ w → taken v ≤ taken w) → NoneBelow taken span
    → NoneBelow taken (taken span)
none_below_next taken span rising none m enough =
    let parts : _ × (taken m ≤ m) = enough_is taken m enough in
    omega (arith, parts.1, rising span m (none m enough))

-- What is enough, and below which nothing is, is found.
pub least_is : (taken : ℕ → ℕ) (n span : ℕ) → NoneBelow taken span → 1 ≤ span → span < n → taken span ≤ span
    → found_below n (is_enough_of taken) ≡ Some span
least_is taken n span none from below most = found_is n (is_enough_of taken) span below (enough_from taken span from most) none

-- If no number below n is enough, none is found.
pub none_is : (taken : ℕ → ℕ) (n span : ℕ) → NoneBelow taken span → n ≤ span → found_below n (is_enough_of taken) ≡ None
none_is taken n span none past =
    found_below-none_from n (is_enough_of taken)
    (λ k l. elim (cases_Bool (is_enough_of taken k)) [
      | inl enough ↦ absurd (omega (arith, none k enough, l, past))
      | inr short ↦ short
    ])
