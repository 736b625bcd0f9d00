-- The run of the worked program of seven rows: variables 0 to 2 are its columns, and 3 to 9 the slacks of its rows.
use Rattle.std.specs.Prelude.{List, [], ◌∷◌, pos}
use Rattle.fraction128.specs.Fraction.{Fraction, over, whole}
use Rattle.exchange_runs.specs.Account.{ExchangeLine}

-- Column 0 enters for the slack of row 0, column 1 for that of row 3, column 2 for that of row 5, and then the slack of row 0
-- for that of row 1. The last exchange comes first.
abbrev pub seven_rows_account : List ExchangeLine
seven_rows_account =
    record { entered = 3; left = 4; ratio = over (pos 1) (pos 3); value = over (pos 14) (pos 3) }
    ∷ record { entered = 2; left = 8; ratio = whole (pos 0); value = whole (pos 4) }
    ∷ record { entered = 1; left = 6; ratio = over (pos 1) (pos 2); value = whole (pos 4) }
    ∷ record { entered = 0; left = 3; ratio = whole (pos 1); value = whole (pos 3) }
    ∷ []

-- Its best point.
abbrev pub seven_rows_primal : List Fraction
seven_rows_primal = over (pos 2) (pos 3) ∷ whole (pos 1) ∷ over (pos 1) (pos 3) ∷ []
