-- What is written into the memory of a list of nonzero numbers? If there isn't enough for all of them, some are.
use Rattle.std.specs.Prelude.{ℕ, List, length, Result, IfOk, ℤ}
use Rattle.std.specs.declared.alloc.AllocError.{AllocError}
use Rattle.program_form.specs.declared.sparse_rows.Coefficient.{Coefficient}
use Rattle.whole_rows.specs.Numbers.{AreFirst, AreFrom}
use Rattle.whole_rows.specs.declared.entries.Entry.{Entry}

-- Are these nonzero numbers of the list, and is each one listed that should be, unless memory ran out?
pub record Lists (result : Result (Unit {0}) AllocError) (nums : List ℤ) (entries : List Entry) (Listed : List Entry → Type 0) : Type 0 where
  pub from : AreFrom nums entries
  pub all : IfOk result (λ _. Listed entries)

-- Are these the first coefficients, and all of them, unless memory ran out?
pub record ListsCoefficients (result : Result (Unit {0}) AllocError) (cs : List Coefficient) (entries : List Entry) : Type 0 where
  pub first : (m : ℕ) × AreFirst m cs entries
  pub all : IfOk result (λ _. AreFirst (length cs) cs entries)
