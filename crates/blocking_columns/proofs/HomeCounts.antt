-- Another resource of the same home, by how many resources that a task uses have each home.
use Rattle.std.proofs.Common.{◌≡◌, ℕ, ◌+◌, ◌<◌, ◌≤◌, ◌==◌, ◌&&◌, not, Bool, true, false, cond, List, map, length, refl, sym, ap, ◌∙◌, arith, inl, inr, count_by, take, Option, Some, None}
use Rattle.std.specs.Prelude.{nat_lt, nat_le, slice_index, unwrap_or}
use Rattle.std.proofs.lemmas.Bool.{cases_Bool, cases_lt, lt-ltb, le-ltb, eq-eqb, ne_eqb}
use Rattle.std.proofs.lemmas.List.{length-take}
use Rattle.std.proofs.lemmas.List.Sums.{count_by-le-length}
use Rattle.number_laws.specs.Sums.{flag, only_if}
use Rattle.number_laws.specs.Tests.{any_below, count_below}
use Rattle.number_laws.proofs.CountLaws.{count_below-parts, count_below-from, count_below-none, count_below-agree}
use Rattle.number_laws.proofs.SumLaws.{sum_below-one, sum_below-agree}
use Rattle.number_laws.proofs.TestLaws.{any_below-some, any_below-none}
use Rattle.sporadic_model.specs.SetDef.{SetDef, task_at, resource_at}
use Rattle.sporadic_model.specs.Users.{is_user, used_by}
use Rattle.sporadic_model.specs.Homes.{home_in}
use Rattle.sporadic_model.specs.Accepted.{IsAccepted, AreHomes, SetSizes}
use Rattle.sporadic_model.specs.declared.limits.TheConstants.{MOST_PROCESSORS, MOST_RESOURCES}
use Rattle.sporadic_model.proofs.Laws.{homes_of_accepted}
use Rattle.sporadic_model.specs.declared.ids.ResourceId.{ResourceId}
use Rattle.blocking_columns.specs.Ceilings.{ceiling_rank}
use Rattle.blocking_columns.specs.Columns.{requests_beside}
use Rattle.blocking_columns.specs.HomeMarks.{mark_of}
use Rattle.blocking_columns.specs.Asked.{AreHomeCounts, used_at_home}
use Rattle.blocking_columns.proofs.KeptNumbers.{sum_of_kept, kept_few}

-- Each home has a place in a list that has one for each processor that a set may have, and one for none.
pub home_placed : (set : SetDef) (q n : ℕ) → IsAccepted set → SetSizes set → MOST_PROCESSORS < n → q < length set.resources
    → home_in set q < n
home_placed set q n accepted sizes room l =
    let homes : AreHomes set = homes_of_accepted set accepted in
    let most = by_home (resource_at set q).home (λ k e. homes.homes_to q k l e) in
    omega (arith, most, sizes.processors_to, room) where
      by_home : (home : Option ℕ) → ((k : ℕ) → home ≡ Some k → k ≤ set.processors) → unwrap_or home 0 ≤ set.processors
      by_home None most = omega arith
      by_home (Some k) most = most k refl

any_counted : (n : ℕ) (p : ℕ → Bool) → nat_lt 0 (count_below n p) ≡ any_below n p
any_counted n p = elim (cases_Bool (any_below n p)) [
  | inl some ↦
      let k = any_below-some n p some in
      lt-ltb 0 (count_below n p) (count_below-from n p k.0 k.1 k.2) ∙ sym some
  | inr none ↦ rw (count_below-none n p (any_below-none n p none)) (sym none)
]

turned : (a b : Bool) → (a && not b) ≡ (not b && a)
turned true true = refl
turned true false = refl
turned false true = refl
turned false false = refl

both_fail : (a b : Bool) → b ≡ false → flag (a && b) ≡ 0
both_fail true b fails = rw fails refl
both_fail false b fails = refl

both_pass : (a b : Bool) → b ≡ true → (a && b) ≡ a
both_pass true b passes = passes
both_pass false b passes = refl

-- A count is that of the numbers but one, and that one where it passes.
count_but_one : (n q : ℕ) (p : ℕ → Bool) → q < n → count_below n p ≡ count_below n (λ r. not (r == q) && p r) + flag (p q)
count_but_one n q p l =
    let own : count_below n (λ r. p r && (r == q)) ≡ flag (p q) =
    sum_below-one n (λ r. flag (p r && (r == q))) q l (λ r m other. both_fail (p r) (r == q) (ne_eqb r q other))
    ∙ ap flag (both_pass (p q) (q == q) (eq-eqb q q refl)) in
    let others : count_below n (λ r. p r && not (r == q)) ≡ count_below n (λ r. not (r == q) && p r) =
    count_below-agree n (λ r. p r && not (r == q)) (λ r. not (r == q) && p r) (λ r m. turned (p r) (r == q)) in
    omega (arith, count_below-parts n p (λ r. r == q), own, others)

above_flag : (b : Bool) (n : ℕ) → nat_lt (flag b) (n + flag b) ≡ nat_lt 0 n
above_flag true n = elim (cases_lt 0 n) [
  | inl some ↦ lt-ltb 1 (n + 1) (omega (arith, some)) ∙ sym (lt-ltb 0 n some)
  | inr none ↦ le-ltb 1 (n + 1) (omega (arith, none)) ∙ sym (le-ltb 0 n (omega (arith, none)))
]
above_flag false n =
    let same : n + 0 ≡ n = omega arith in ap (nat_lt 0) same

-- Where more numbers pass than the given one, another one does.
any_but_one : (n q : ℕ) (p : ℕ → Bool) → q < n → nat_lt (flag (p q)) (count_below n p) ≡ any_below n (λ r. not (r == q) && p r)
any_but_one n q p l = ap (nat_lt (flag (p q))) (count_but_one n q p l)
    ∙ (above_flag (p q) (count_below n (λ r. not (r == q) && p r)) ∙ any_counted n (λ r. not (r == q) && p r))

-- Where more resources that i uses have the home of q than q itself, it requests another one of that home.
beside_counted : (set : SetDef) (i q : ℕ) → q < length set.resources
    → nat_lt (flag (is_user set q i)) (used_at_home set i (home_in set q)) ≡ requests_beside set i q
beside_counted set i q l =
    let test : ℕ → Bool = λ r. is_user set r i && (home_in set r == home_in set q) in
    let own : test q ≡ is_user set q i = both_pass (is_user set q i) (home_in set q == home_in set q)
    (eq-eqb (home_in set q) (home_in set q) refl) in
    ap (λ (b : Bool). nat_lt (flag b) (used_at_home set i (home_in set q))) (sym own) ∙ any_but_one (length set.resources) q test l

-- So it is read from the counts, where own is 1 if i uses q, and else 0.
pub beside_read : (set : SetDef) (i q there own : ℕ) (asked : Bool) (counts : List ℕ) → q < length set.resources → AreHomeCounts set i counts
    → there ≡ home_in set q → asked ≡ is_user set q i → (asked ≡ true → own ≡ 1) → (asked ≡ false → own ≡ 0)
    → nat_lt own (slice_index counts there) ≡ requests_beside set i q
beside_read set i q there own asked counts l are place uses one none =
    let is_flag : own ≡ flag asked = elim (cases_Bool asked) [
      | inl asks ↦ one asks ∙ sym (rw asks refl)
      | inr apart ↦ none apart ∙ sym (rw apart refl)
    ] in
    rw (is_flag, uses, place, are.each (home_in set q) (are.within q l)) (beside_counted set i q l)

-- And so is its mark.
pub mark_read : (set : SetDef) (i q there own : ℕ) (asked here high : Bool) (counts : List ℕ) → q < length set.resources
    → AreHomeCounts set i counts → there ≡ home_in set q → asked ≡ is_user set q i → (asked ≡ true → own ≡ 1) → (asked ≡ false → own ≡ 0)
    → here ≡ (home_in set q == (task_at set i).processor) → high ≡ nat_le (ceiling_rank set q) i
    → record { asked = asked; beside = nat_lt own (slice_index counts there); here = here; high = high } ≡ mark_of set i q
mark_read set i q there own asked here high counts l are place uses one none same above =
    rw (beside_read set i q there own asked counts l are place uses one none, uses, same, above) refl

counts_both : (a b : Bool) → only_if a (cond b 1 0) ≡ flag (a && b)
counts_both true true = refl
counts_both true false = refl
counts_both false b = refl

-- They are counted on the list of those that i uses.
used_counted : (set : SetDef) (i k : ℕ) (rs : List ResourceId) → map (λ r. r.0) rs ≡ used_by set i
    → count_by (λ r. home_in set r.0 == k) rs ≡ used_at_home set i k
used_counted set i k rs same =
    let here : ℕ → ℕ = λ r. cond (home_in set r == k) 1 0 in
    sum_of_kept (λ (r : ResourceId). r.0) rs (λ r. is_user set r i) here (length set.resources) same
    ∙ sum_below-agree (length set.resources) (λ r. only_if (is_user set r i) (here r))
    (λ r. flag (is_user set r i && (home_in set r == k))) (λ r l. counts_both (is_user set r i) (home_in set r == k))

-- No count is above the number of resources.
pub few_counted : (set : SetDef) (i t : ℕ) (p : ResourceId → Bool) (rs : List ResourceId) → map (λ r. r.0) rs ≡ used_by set i
    → SetSizes set → count_by p (take t rs) ≤ MOST_RESOURCES
few_counted set i t p rs same sizes =
    let few : length rs ≤ length set.resources =
    kept_few (λ (r : ResourceId). r.0) rs (λ q. is_user set q i) (length set.resources) same in
    let part : length (take t rs) ≤ length rs = rw (length-take) (omega arith) in
    omega (arith, count_by-le-length p (take t rs), part, few, sizes.resources_to)

-- The counts over the whole list are those that are read.
pub are_counts : (set : SetDef) (i : ℕ) (rs : List ResourceId) (counts : List ℕ) → map (λ r. r.0) rs ≡ used_by set i → IsAccepted set
    → SetSizes set → MOST_PROCESSORS < length counts
    → ((k : ℕ) → k < length counts → slice_index counts k ≡ count_by (λ r. home_in set r.0 == k) rs) → AreHomeCounts set i counts
are_counts set i rs counts same accepted sizes room each = record {
  within = λ q l. home_placed set q (length counts) accepted sizes room l;
  each = λ k l. each k l ∙ used_counted set i k rs same;
}
