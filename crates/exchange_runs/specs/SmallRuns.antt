-- Runs over fractions with small parts, in lowest terms or not, and the table in lowest terms of each table.
use Rattle.std.specs.Prelude.{◌≡◌, ℕ, ◌<◌, ◌≤◌, ◌^◌, pos, ◌<ℤ◌, unsigned_abs, refl}
use Rattle.std.proofs.Common.{arith}
use Rattle.std.proofs.lemmas.Int.{ints}
use Rattle.std.proofs.Math.Nat.{eq-one_of_dvd-one}
use Rattle.fraction128.specs.Fraction.{Fraction, IsForm, IsSame, over}
use Rattle.program_form.specs.Program.{ProgramDef, height}
use Rattle.exchange_runs.specs.Table.{Table}
use Rattle.exchange_runs.specs.Run.{ReachedOver}

-- Are both parts below 2^63 in size, with a denominator above zero? Common divisors are allowed.
pub record IsSmall (f : Fraction) : Type 0 where
  pub positive : pos 0 <ℤ f.den
  pub small_num : unsigned_abs f.num < 2 ^ 63
  pub small_den : unsigned_abs f.den < 2 ^ 63

-- Two quarters is small, though it is not in lowest terms and so has no form.
pub two_quarters_small : IsSmall (over (pos 2) (pos 4))
two_quarters_small = record { positive = omega (arith, ints); small_num = omega arith; small_den = omega arith }

-- Is w the table of the run of p over small fractions after k exchanges?
abbrev pub SmallReached : ProgramDef → ℕ → Table → Type 0
SmallReached p k w = ReachedOver IsSmall p k w

-- Is f the value of a small fraction in lowest terms?
pub record IsLowestOf (small f : Fraction) : Type 0 where
  pub positive : pos 0 <ℤ small.den
  pub form : IsForm f
  pub same : IsSame small f

-- Two quarters in lowest terms is a half.
pub half_of_two_quarters : IsLowestOf (over (pos 2) (pos 4)) (over (pos 1) (pos 2))
half_of_two_quarters = record {
  positive = omega (arith, ints);
  form = record { positive = omega (arith, ints); small_num = omega arith; small_den = omega arith; lowest = λ d p q. eq-one_of_dvd-one p };
  same = record { same = refl };
}

-- Is t the table w in lowest terms, with the same basis?
pub record IsLowestTable (p : ProgramDef) (w t : Table) : Type 0 where
  pub cells : (i v : ℕ) → i ≤ height p → IsLowestOf (w.cell i v) (t.cell i v)
  pub basis : (i : ℕ) → i < height p → t.basic i ≡ w.basic i
