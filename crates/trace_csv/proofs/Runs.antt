-- The run that a line of a file of rows writes is one for the jobs.
use Rattle.std.proofs.Common.{◌≡◌, ◌≤◌, ◌+◌, ◌-◌, min, ℕ, true, List, [], ◌∷◌, length, map, take, drop, Option, None, Some}
use Rattle.std.proofs.Common.{refl, sym, ap, ◌∙◌, subst, arith, inl, inr}
use Rattle.std.specs.Prelude.{nat_le, option_map}
use Rattle.std.specs.Option.{option_and_then}
use Rattle.std.specs.Int.{is_in_range}
use Rattle.std.specs.List.{list_all}
use Rattle.std.proofs.lemmas.Bool.{and_parts, cases_Bool, cases_lt, lt-ltb, leb-true, eq-eqb}
use Rattle.std.proofs.lemmas.List.{length-take, length-drop, length-map, take_all, drop_all}
use Rattle.sporadic_model.specs.declared.limits.TheConstants.{MOST_TICKS}
use Rattle.schedule_model.specs.JobDef.{JobsDef}
use Rattle.schedule_model.specs.Fitting.{is_below, names_below, is_sized}
use Rattle.text_pieces.specs.Numbers.{if_in_range, number_in}
use Rattle.trace_csv.specs.RowLines.{is_cell, is_listed, job_in, job_count, processor_count, resource_count}
use Rattle.trace_csv.specs.RowLines.{row_of_cells, run_written, ticks_in, cells_refusal}
use Rattle.trace_csv.specs.RowAnswers.{IsRunOf}

-- A number that was found in a range is in it.
pub in_range : (least most n : ℕ) (o : Option ℕ) → option_and_then (if_in_range least most) o ≡ Some n → is_in_range least most n ≡ true
in_range least most n None e = cc
in_range least most n (Some m) e = elim (cases_Bool (is_in_range least most m)) [
  | inl inside ↦ subst (λ k. is_in_range least most k ≡ true) (same m (rw inside at e)) inside
  | inr outside ↦ absurd (none_some (rw outside at e))
]
  where
    same : (m : ℕ) → Some m ≡ Some n → m ≡ n
    same m e = cc

    none_some : None ≡ Some n → ⊥
    none_some e = cc

-- The job that a cell names is one of the first n.
below_of : (n : ℕ) (o : Option ℕ) → is_below n (option_map (λ m. m - 1) (option_and_then (if_in_range 1 n) o)) ≡ true
below_of n None = refl
below_of n (Some m) = elim (cases_Bool (is_in_range 1 n m)) [
  | inl inside ↦
      let range = and_parts (nat_le 1 m) (nat_le m n) inside in
      let low : 1 ≤ m = leb-true 1 m range.0 in
      let high : m ≤ n = leb-true m n range.1 in
      rw inside (lt-ltb (m - 1) n (omega arith))
  | inr outside ↦ rw outside refl
]

all_below_of : (n : ℕ) (cells : List (List ℕ)) → names_below n (map (job_in n) cells) ≡ true
all_below_of n [] = refl
all_below_of n (cell ∷ cells) = rw (below_of n (number_in cell)) (all_below_of n cells)

-- The row of as many cells as there are processors and resources.
sized_row : (processors resources n : ℕ) (cells : List (List ℕ)) → length cells ≡ processors + resources
    → is_sized processors resources (row_of_cells processors n cells) ≡ true
sized_row processors resources n cells e =
    let running : length (map (job_in n) (take processors cells)) ≡ processors =
    omega (arith, length-map (take processors cells) (job_in n), length-take processors cells) in
    let holders : length (map (job_in n) (drop processors cells)) ≡ resources =
    omega (arith, length-map (drop processors cells) (job_in n), length-drop processors cells) in
    rw (
      eq-eqb (length (map (job_in n) (take processors cells))) processors running,
      eq-eqb (length (map (job_in n) (drop processors cells))) resources holders,
    ) refl

pub is_run : (jobs : JobsDef) (ticks : List ℕ) (cells : List (List ℕ)) (n : ℕ)
    → length cells ≡ processor_count jobs + resource_count jobs → ticks_in ticks ≡ Some n
    → IsRunOf jobs (run_written jobs (ticks ∷ cells))
is_run jobs ticks cells n size e = record {
  sized = sized_row (processor_count jobs) (resource_count jobs) (job_count jobs) cells size;
  named = rw (
    all_below_of (job_count jobs) (take (processor_count jobs) cells),
    all_below_of (job_count jobs) (drop (processor_count jobs) cells),
  ) refl;
  ticks = rw e (in_range 1 MOST_TICKS n (number_in ticks) e);
}

-- Such a line isn't refused.
pub none_due : (jobs : JobsDef) (ticks : List ℕ) (cells : List (List ℕ)) (k n : ℕ)
    → length cells ≡ processor_count jobs + resource_count jobs → ticks_in ticks ≡ Some n
    → list_all is_cell cells ≡ true → list_all (is_listed (job_count jobs)) cells ≡ true → cells_refusal jobs ticks cells k ≡ None
none_due jobs ticks cells k n size e form listed =
    rw (eq-eqb (length cells) (processor_count jobs + resource_count jobs) size, e, form, listed) refl

-- A row of fewer cells than processors is one of as many processors as cells.
module _ {A : Type 0} (p : ℕ) (xs : List A) where
  take_least : take (min p (length xs)) xs ≡ take p xs
  take_least = elim (cases_lt p (length xs)) [
    | inl less ↦ let e : min p (length xs) ≡ p = omega (arith, less) in ap (λ k. take k xs) e
    | inr more ↦
        let e : min p (length xs) ≡ length xs = omega (arith, more) in
        ap (λ k. take k xs) e ∙ take_all (length xs) xs (omega arith) ∙ sym (take_all p xs more)
  ]

  drop_least : drop (min p (length xs)) xs ≡ drop p xs
  drop_least = elim (cases_lt p (length xs)) [
    | inl less ↦ let e : min p (length xs) ≡ p = omega (arith, less) in ap (λ k. drop k xs) e
    | inr more ↦
        let e : min p (length xs) ≡ length xs = omega (arith, more) in
        ap (λ k. drop k xs) e ∙ drop_all (length xs) xs (omega arith) ∙ sym (drop_all p xs more)
  ]

pub row_of_all : (p n : ℕ) (cells : List (List ℕ)) → row_of_cells (min p (length cells)) n cells ≡ row_of_cells p n cells
row_of_all p n cells = λ i. record {
  running = map (job_in n) (take_least p cells i);
  holders = map (job_in n) (drop_least p cells i);
}
