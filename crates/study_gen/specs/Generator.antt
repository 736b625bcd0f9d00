-- Numbers that are drawn from a generator, whose state is a number of 64 bits.
use Rattle.std.specs.Prelude.{◌≡◌, ℕ, ◌+◌, ◌-◌, ◌*◌, ◌/◌, ◌%◌, ◌^◌, ◌<◌, ◌≤◌}

-- The next state of the generator: a linear congruence modulo 2^64.
abbrev pub next_state : ℕ → ℕ
next_state s = (6364136223846793005 * s + 1442695040888963407) % 2 ^ 64

-- The number that is drawn at a state: the next state without its low 33 bits.
abbrev pub drawn : ℕ → ℕ
drawn s = next_state s / 2 ^ 33

-- Which number from `least` to `most` is picked at a state?
abbrev pub picked : ℕ → ℕ → ℕ → ℕ
picked s least most = least + drawn s % (most - least + 1)

-- Is n the number that is drawn at the state s, and t the state after it?
pub record IsDrawn (n s t : ℕ) : Type 0 where
  pub value : n ≡ drawn s
  pub state : t ≡ next_state s

-- Can a number from `least` to `most` be picked?
pub record AreEnds (least most : ℕ) : Type 0 where
  pub order : least ≤ most
  pub small : most < 2 ^ 63

-- Is n the number that is picked from these at the state s, and t the state after it?
pub record IsPicked (n least most s t : ℕ) : Type 0 where
  pub value : n ≡ picked s least most
  pub state : t ≡ next_state s
  pub from : least ≤ n
  pub to : n ≤ most
