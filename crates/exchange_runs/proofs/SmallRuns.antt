-- A run over small fractions is, in lowest terms, the program's run.
use Rattle.std.proofs.Common.{inl, inr, ℕ, zero, suc, ◌+◌, ◌<◌, ◌≤◌, add-one, refl, ◌∙◌, sym, arith}
use Rattle.std.proofs.lemmas.Bool.{cases_eq}
use Rattle.fraction128.specs.Fraction.{Fraction}
use Rattle.fraction128.proofs.Forms.{form_of_whole}
use Rattle.program_form.specs.Program.{ProgramDef, IsProgram, height}
use Rattle.exchange_runs.specs.Table.{Table, variables, first_number, IsStart}
use Rattle.exchange_runs.specs.Exchange.{IsEntering, IsLast, HasRatio, IsRatioOver, IsRatio, IsLeavingOver, IsLeaving, IsLessOver, IsLess}
use Rattle.exchange_runs.specs.Exchange.{IsExchangeOver, IsExchange}
use Rattle.exchange_runs.specs.Run.{Reached}
use Rattle.exchange_runs.proofs.Once.{first_number_small}
use Rattle.exchange_runs.specs.SmallRuns.{IsSmall, SmallReached, IsLowestOf, IsLowestTable}
use Rattle.exchange_runs.proofs.SmallLowest.{in_lowest_terms, lowest, lowest_of_form, small_of_form, above_lowest, above_of_lowest}
use Rattle.exchange_runs.proofs.SmallLowest.{at_most_zero_lowest}
use Rattle.exchange_runs.proofs.SmallOperations.{quotient_lowest, product_lowest, difference_lowest, at_most_lowest, at_most_of_lowest}

-- Each cell of w in lowest terms.
abbrev pub lowest_table : Table → Table
lowest_table w = record { cell = λ i v. in_lowest_terms (w.cell i v); basic = w.basic }

pub table_lowest : (p : ProgramDef) (w : Table) → ((i v : ℕ) → i ≤ height p → IsSmall (w.cell i v)) → IsLowestTable p w (lowest_table w)
table_lowest p w small = record {
  cells = λ i v l. lowest (w.cell i v) (small i v l);
  basis = λ i l. refl;
}

-- The same variable enters, or none does.
pub entering_lowest : (p : ProgramDef) (w t : Table) (e : ℕ) → IsLowestTable p w t → IsEntering p w e → IsEntering p t e
entering_lowest p w t e is h = record {
  within = h.within;
  above = above_lowest (w.cell (height p) e) (t.cell (height p) e) (is.cells (height p) e (omega arith)) h.above;
  least = λ v l. at_most_zero_lowest (w.cell (height p) v) (t.cell (height p) v) (is.cells (height p) v (omega arith)) (h.least v l);
}

pub last_lowest : (p : ProgramDef) (w t : Table) → IsLowestTable p w t → IsLast p w → IsLast p t
last_lowest p w t is h = record {
  none = λ v l. at_most_zero_lowest (w.cell (height p) v) (t.cell (height p) v) (is.cells (height p) v (omega arith)) (h.none v l);
}

-- The same rows have a ratio.
pub has_ratio_lowest : (p : ProgramDef) (w t : Table) (e i : ℕ) → IsLowestTable p w t → i ≤ height p → HasRatio w e i → HasRatio t e i
has_ratio_lowest p w t e i is l has = record { above = above_lowest (w.cell i e) (t.cell i e) (is.cells i e l) has.above }

pub has_ratio_of_lowest : (p : ProgramDef) (w t : Table) (e i : ℕ) → IsLowestTable p w t → i ≤ height p → HasRatio t e i
    → HasRatio w e i
has_ratio_of_lowest p w t e i is l has = record { above = above_of_lowest (w.cell i e) (t.cell i e) (is.cells i e l) has.above }

-- And the same ratio.
pub ratio_lowest : (p : ProgramDef) (w t : Table) (e i : ℕ) (f g : Fraction) → IsLowestTable p w t → i ≤ height p
    → HasRatio w e i → IsRatioOver IsSmall (variables p) w e i f → IsLowestOf f g → IsRatio (variables p) t e i g
ratio_lowest p w t e i f g is l has ratio of_f = record {
  form = of_f.form;
  quotient = quotient_lowest (w.cell i (variables p)) (w.cell i e) f (t.cell i (variables p)) (t.cell i e) g has.above
      (is.cells i (variables p) l) (is.cells i e l) of_f ratio.quotient;
}

-- The same row leaves.
pub leaving_lowest : (p : ProgramDef) (w t : Table) (e r : ℕ) → IsLowestTable p w t → IsLeavingOver IsSmall p w e r → IsLeaving p t e r
leaving_lowest p w t e r is h =
    let within : r < height p = h.least.within in
    let ratio : IsLowestOf h.ratio (in_lowest_terms h.ratio) = lowest h.ratio h.least.ratio.form in
    record {
      ratio = in_lowest_terms h.ratio;
      least = record {
        within = within;
        has = has_ratio_lowest p w t e r is (omega arith) h.least.has;
        ratio = ratio_lowest p w t e r h.ratio (in_lowest_terms h.ratio) is (omega arith) h.least.has h.least.ratio ratio;
        least = λ i l has.
            let has_w : HasRatio w e i = has_ratio_of_lowest p w t e i is (omega arith) has in
            let other = h.least.least i l has_w in
            let other_ratio : IsLowestOf other.0 (in_lowest_terms other.0) = lowest other.0 other.1.form in (
              in_lowest_terms other.0,
              ratio_lowest p w t e i other.0 (in_lowest_terms other.0) is (omega arith) has_w other.1 other_ratio,
              at_most_lowest h.ratio other.0 (in_lowest_terms h.ratio) (in_lowest_terms other.0) ratio other_ratio other.2,
              λ no_greater.
                  rw (is.basis r within, is.basis i l)
                  (other.3 (at_most_of_lowest other.0 h.ratio (in_lowest_terms other.0) (in_lowest_terms h.ratio)
                  other_ratio ratio no_greater)),
            );
      };
    }

pub less_lowest : (a f y b a' f' y' b' : Fraction) → IsLowestOf a a' → IsLowestOf f f' → IsLowestOf y y' → IsLowestOf b b'
    → IsLessOver IsSmall a f y b → IsLess a' f' y' b'
less_lowest a f y b a' f' y' b' of_a of_f of_y of_b is =
    let product : IsLowestOf is.product (in_lowest_terms is.product) = lowest is.product is.product_form in
    record {
      product = in_lowest_terms is.product;
      product_form = product.form;
      is_product = product_lowest f y is.product f' y' (in_lowest_terms is.product) of_f of_y product is.is_product;
      form = of_b.form;
      is_difference = difference_lowest a is.product b a' (in_lowest_terms is.product) b' of_a product of_b is.is_difference;
    }

-- An exchange over small fractions is one between the tables in lowest terms.
pub exchange_lowest : (p : ProgramDef) (w w' t u : Table) (e r : ℕ) → IsLowestTable p w t → IsLowestTable p w' u
    → IsExchangeOver IsSmall p w w' e r → IsExchange p t u e r
exchange_lowest p w w' t u e r is next x =
    let within : r < height p = x.leaves.least.within in
    record {
      enters = entering_lowest p w t e is x.enters;
      leaves = leaving_lowest p w t e r is x.leaves;
      divided_form = λ v. (next.cells r v (omega arith)).form;
      divided = λ v.
          quotient_lowest (w.cell r v) (w.cell r e) (w'.cell r v) (t.cell r v) (t.cell r e) (u.cell r v) x.leaves.least.has.above
          (is.cells r v (omega arith)) (is.cells r e (omega arith)) (next.cells r v (omega arith)) (x.divided v);
      taken = λ i v l away.
          less_lowest (w.cell i v) (w.cell i e) (w'.cell r v) (w'.cell i v) (t.cell i v) (t.cell i e) (u.cell r v) (u.cell i v)
          (is.cells i v l) (is.cells i e l) (next.cells r v (omega arith)) (next.cells i v l) (x.taken i v l away);
      entered = next.basis r within ∙ x.entered;
      stayed = λ i l away. next.basis i l ∙ (x.stayed i l away ∙ sym (is.basis i l));
    }

-- After an exchange over small fractions each cell is small.
pub small_after : (p : ProgramDef) (w w' : Table) (e r : ℕ) → IsExchangeOver IsSmall p w w' e r → (i v : ℕ) → i ≤ height p
    → IsSmall (w'.cell i v)
small_after p w w' e r x i v l = elim (cases_eq i r) [
  | inl here ↦ rw here (x.divided_form v)
  | inr away ↦ (x.taken i v l away).form
]

-- The values of the first table have forms, so they are small.
pub small_at_start : (p : ProgramDef) (w : Table) → IsProgram p → IsStart p w → (i v : ℕ) → i ≤ height p → IsSmall (w.cell i v)
small_at_start p w accepted h i v l =
    rw (h.cells i v l) (small_of_form _ (form_of_whole (first_number p i v) (first_number_small p i v accepted)))

pub start_lowest : (p : ProgramDef) (w : Table) → IsProgram p → IsStart p w → IsLowestTable p w w
start_lowest p w accepted h = record {
  cells = λ i v l. rw (h.cells i v l) (lowest_of_form _ (form_of_whole (first_number p i v) (first_number_small p i v accepted)));
  basis = λ i l. refl;
}

-- Each cell of a table that a run over small fractions reaches is small.
pub small_cells : (p : ProgramDef) (k : ℕ) (w : Table) → IsProgram p → SmallReached p k w → (i v : ℕ) → i ≤ height p
    → IsSmall (w.cell i v)
small_cells p zero w accepted h i v l = small_at_start p w accepted h i v l
small_cells p (suc k) w accepted h i v l = small_after p h.0 w h.1 h.2 h.4 i v l

-- Such a run goes on by an exchange.
pub small_reached_next : (p : ProgramDef) (k : ℕ) (w w' : Table) (e r : ℕ) → SmallReached p k w → IsExchangeOver IsSmall p w w' e r
    → SmallReached p (k + 1) w'
small_reached_next p k w w' e r h x = rw add-one (w, e, r, h, x)

-- A step of the run in lowest terms.
pub small_step : (p : ProgramDef) (w w' t : Table) (e r : ℕ) → IsLowestTable p w t → IsExchangeOver IsSmall p w w' e r
    → (u : Table) × (IsLowestTable p w' u) × IsExchange p t u e r
small_step p w w' t e r is x =
    let next : IsLowestTable p w' (lowest_table w') = table_lowest p w' (small_after p w w' e r x) in
    (lowest_table w', next, exchange_lowest p w w' t (lowest_table w') e r is next x)

pub small_run : (p : ProgramDef) (k : ℕ) (w : Table) → IsProgram p → SmallReached p k w
    → (t : Table) × (IsLowestTable p w t) × Reached p k t
small_run p zero w accepted h = (w, start_lowest p w accepted h, h)
small_run p (suc k) w accepted h =
    let before = small_run p k h.0 accepted h.3 in
    let step = small_step p h.0 w before.0 h.1 h.2 before.1 h.4 in
    (step.0, step.1, (before.0, h.1, h.2, before.2, step.2))
