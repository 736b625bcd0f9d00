-- Holdings, summed up by task first.
use Rattle.std.proofs.Common.{◌≡◌, ℕ, ◌+◌, Bool, true, false, length, refl, sym, ap, ◌∙◌}
use Rattle.number_laws.specs.Sums.{sum_below, only_if}
use Rattle.number_laws.proofs.SumLaws.{sum_below-agree, sum_below-plus, sum_below-swap, sum_below-zero}
use Rattle.sporadic_model.specs.SetDef.{SetDef}
use Rattle.sporadic_model.specs.Users.{is_user}
use Rattle.blocking_columns.specs.Windows.{requests_in}
use Rattle.indirect_constraints.specs.Rows.{is_beside, higher_holdings, lower_holdings, holdings}
use Rattle.indirect_constraints.specs.Tables.{awaited}

-- How many requests of all resources can those tasks beside x make that are higher than i?
abbrev pub awaited_beside : SetDef → (ℕ → ℕ) → ℕ → ℕ → ℕ
awaited_beside set bounds i x = sum_below i (λ y. only_if (is_beside set x y) (awaited set bounds i (length set.resources) y))

pub only_if_plus : (b : Bool) (m n : ℕ) → only_if b (m + n) ≡ only_if b m + only_if b n
only_if_plus true m n = refl
only_if_plus false m n = refl

only_if_sum : (b : Bool) (n : ℕ) (f : ℕ → ℕ) → only_if b (sum_below n f) ≡ sum_below n (λ k. only_if b (f k))
only_if_sum true n f = refl
only_if_sum false n f = sym (sum_below-zero n (λ k. 0) (λ k l. refl))

only_if_both : (a b : Bool) (n : ℕ) → only_if a (only_if b n) ≡ only_if b (only_if a n)
only_if_both true true n = refl
only_if_both true false n = refl
only_if_both false true n = refl
only_if_both false false n = refl

-- What is summed up by resource and then by task may be summed up by task first.
by_task : (m n : ℕ) (u b : ℕ → Bool) (g : ℕ → ℕ → ℕ)
    → sum_below m (λ q. only_if (u q) (sum_below n (λ y. only_if (b y) (g y q))))
    ≡ sum_below n (λ y. only_if (b y) (sum_below m (λ q. only_if (u q) (g y q))))
by_task m n u b g =
    sum_below-agree m (λ q. only_if (u q) (sum_below n (λ y. only_if (b y) (g y q))))
    (λ q. sum_below n (λ y. only_if (u q) (only_if (b y) (g y q)))) (λ q l. only_if_sum (u q) n (λ y. only_if (b y) (g y q)))
    ∙ (sum_below-swap m n (λ q y. only_if (u q) (only_if (b y) (g y q)))
    ∙ sum_below-agree n (λ y. sum_below m (λ q. only_if (u q) (only_if (b y) (g y q))))
    (λ y. only_if (b y) (sum_below m (λ q. only_if (u q) (g y q)))) (λ y l.
    sum_below-agree m (λ q. only_if (u q) (only_if (b y) (g y q))) (λ q. only_if (b y) (only_if (u q) (g y q)))
    (λ q h. only_if_both (u q) (b y) (g y q))
    ∙ sym (only_if_sum (b y) m (λ q. only_if (u q) (g y q)))))

-- The holdings beside a task are those of higher tasks, added up by task, and those of lower ones.
pub holdings_parts : (set : SetDef) (bounds : ℕ → ℕ) (i x : ℕ)
    → awaited_beside set bounds i x + sum_below (length set.resources) (λ q. only_if (is_user set q i) (lower_holdings set i x q))
    ≡ holdings set bounds i x
holdings_parts set bounds i x =
    let m = length set.resources in
    let higher : ℕ → ℕ = λ q. only_if (is_user set q i) (higher_holdings set bounds i x q) in
    let lower : ℕ → ℕ = λ q. only_if (is_user set q i) (lower_holdings set i x q) in
    let each : sum_below m (λ q. only_if (is_user set q i) (higher_holdings set bounds i x q + lower_holdings set i x q))
    ≡ sum_below m (λ q. higher q + lower q) =
    sum_below-agree m (λ q. only_if (is_user set q i) (higher_holdings set bounds i x q + lower_holdings set i x q))
    (λ q. higher q + lower q)
    (λ q l. only_if_plus (is_user set q i) (higher_holdings set bounds i x q) (lower_holdings set i x q)) in
    sym (each ∙ (sum_below-plus m higher lower ∙ ap (λ s. s + sum_below m lower)
    (by_task m i (λ q. is_user set q i) (is_beside set x) (λ y q. requests_in set bounds i y q))))
