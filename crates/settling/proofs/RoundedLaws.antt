-- Points whose numbers are rounded down.
use Rattle.std.proofs.Common.{◌≡◌, ◌∙◌, inl, inr, ℕ, ◌+◌, ◌*◌, ◌/◌, ◌<◌, ◌≤◌, ◌^◌, List, length, arith, sym, ap}
use Rattle.std.specs.Prelude.{slice_index}
use Rattle.std.proofs.Math.Nat.{mul-le-mul_left, le_of_mul-le-mul_left, div-mul-le_self, le-div_iff_mul-le}
use Rattle.std.proofs.lemmas.Nat.{div-mul-add}
use Rattle.number_laws.specs.Sums.{sum_below}
use Rattle.number_laws.proofs.SumLaws.{sum_below-monotone, sum_below-times}
use Rattle.program_form.specs.Certificate.{DualDef}
use Rattle.program_form.specs.Points.{IsScaledPoint, worth}
use Rattle.program_form.specs.Program.{ProgramDef, columns, entry, limit}
use Rattle.free_search.specs.Rounding.{AreWrittenDown}
use Rattle.refusal_laws.specs.Steps.{whole_worth}
use Rattle.settling.specs.Rising.{AreGreat}

-- Are the point's numbers over its denominator at most these over `den`, with 63 bits?
pub record IsNoGreater (den : ℕ) (num : List ℕ) (point : DualDef) : Type 0 where
  pub as_many : length point.num ≡ length num
  pub positive : 1 ≤ point.den
  pub small_den : point.den < 2 ^ 63
  pub each : (c : ℕ) → c < length num → slice_index point.num c * den ≤ slice_index num c * point.den
  pub small : (c : ℕ) → c < length num → slice_index point.num c < 2 ^ 63

pub rounded_is_no_greater : (den : ℕ) (num : List ℕ) (point : DualDef) → AreWrittenDown num den point → IsNoGreater den num point
rounded_is_no_greater den num point (inl lowest) =
    let is = lowest.exact in record {
      as_many = is.as_many;
      positive = is.positive;
      small_den = is.small_den;
      each = λ c here. omega (arith, is.each c here);
      small = is.small;
    }
rounded_is_no_greater den num point (inr (none, rounded)) =
    let is = rounded.rounded in record {
      as_many = is.as_many;
      positive = is.positive;
      small_den = is.small_den;
      each = λ c here. (is.each c here).0;
      small = is.small;
    }

-- So no number of the point is great.
pub rounded_is_not_great : (den : ℕ) (num : List ℕ) (point : DualDef) → AreWrittenDown num den point → AreGreat point.den point.num → ⊥
rounded_is_not_great den num point is (inl great) = omega (arith, great, (rounded_is_no_greater den num point is).small_den)
rounded_is_not_great den num point is (inr (c, here, great)) =
    let low = rounded_is_no_greater den num point is in
    omega (arith, great, low.small c (omega (arith, here, low.as_many)))

term_at_most : (e k d n m : ℕ) → k * d ≤ n * m → d * (e * k) ≤ m * (e * n)
term_at_most e k d n m below =
    let times : e * (k * d) ≤ e * (n * m) = mul-le-mul_left e below in
    omega (arith, times)

row_at_most : (d m s t b : ℕ) → d * s ≤ m * t → t ≤ d * b → 0 < d → s ≤ m * b
row_at_most d m s t b sums row positive =
    let times : m * t ≤ m * (d * b) = mul-le-mul_left m row in
    let all : d * s ≤ d * (m * b) = omega (arith, sums, times) in
    le_of_mul-le-mul_left all positive

-- If no number is greater, the point keeps each row too.
row_kept : (p : ProgramDef) (den : ℕ) (num : List ℕ) (point : DualDef) (r : ℕ) → length num ≡ columns p → 0 < den
    → IsNoGreater den num point → sum_below (columns p) (λ c. entry p r c * slice_index num c) ≤ den * limit p r
    → sum_below (columns p) (λ c. entry p r c * slice_index point.num c) ≤ point.den * limit p r
row_kept p den num point r size positive low kept =
    let n : ℕ = columns p in
    let own : ℕ → ℕ = λ c. entry p r c * slice_index point.num c in
    let first : ℕ → ℕ = λ c. entry p r c * slice_index num c in
    let sums : sum_below n (λ c. den * own c) ≤ sum_below n (λ c. point.den * first c) =
    sum_below-monotone n (λ c. den * own c) (λ c. point.den * first c)
    (λ c here. term_at_most (entry p r c) (slice_index point.num c) den (slice_index num c) point.den
    (low.each c (omega (arith, here, size)))) in
    let left = sum_below-times n den own in
    let right = sum_below-times n point.den first in
    row_at_most den point.den (sum_below n own) (sum_below n first) (limit p r) (omega (arith, sums, left, right)) kept positive

pub rounded_is_point : (p : ProgramDef) (den : ℕ) (num : List ℕ) (point : DualDef) → length num ≡ columns p
    → IsScaledPoint p den (slice_index num) → AreWrittenDown num den point → IsScaledPoint p point.den (slice_index point.num)
rounded_is_point p den num point size is rounded =
    let low = rounded_is_no_greater den num point rounded in record {
      positive = low.positive;
      kept = λ r here. row_kept p den num point r size is.positive low (is.kept r here);
    }

-- What so many ticks come to over the denominator of a point.
pub worth_covers : (p : ProgramDef) (point : DualDef) → whole_worth p point * point.den ≤ worth p (slice_index point.num)
worth_covers p point = div-mul-le_self (worth p (slice_index point.num)) point.den

pub worth_at_least : (p : ProgramDef) (point : DualDef) (ticks : ℕ) → 0 < point.den → ticks * point.den ≤ worth p (slice_index point.num)
    → ticks ≤ whole_worth p point
worth_at_least p point ticks positive covers =
    (le-div_iff_mul-le {k = point.den} {x = ticks} {y = worth p (slice_index point.num)} positive).1 covers

-- A quotient with what remains.
pub quotient_is : (quotient divisor rest n : ℕ) → quotient * divisor + rest ≡ n → rest < divisor → quotient ≡ n / divisor
quotient_is quotient divisor rest n whole less = sym (div-mul-add quotient divisor rest less) ∙ ap (λ x. x / divisor) whole
