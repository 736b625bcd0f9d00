-- Rows one after another in one list of coefficients: a row that is begun, and a coefficient that is added to the last one.
use Rattle.std.proofs.Common.{◌≡◌, inl, inr, ℕ, zero, suc, ◌+◌, ◌-◌, ◌<◌, ◌≤◌, List, [], ◌∷◌, ◌++◌, map, length, take, drop}
use Rattle.std.proofs.Common.{get_or, slice_index, refl, sym, ◌∙◌, ap, arith}
use Rattle.std.proofs.lemmas.Bool.{cases_lt}
use Rattle.std.proofs.lemmas.List.{length_push, length-drop, get_or_at, get_or_append_left, get_or_past, get_or_default, ext_get_or}
use Rattle.std.proofs.lemmas.List.{take_all, take-append-le, drop_all, drop-append-le}
use Rattle.std.proofs.lemmas.List.FromFn.{length-map-range_with_len, get_or-map-range_with_len, map-range_with_len_more}
use Rattle.std.specs.List.{range_with_len}
use Rattle.program_form.specs.SparseRows.{list_at}
use Rattle.program_form.specs.RowCuts.{end_of, row_cut, rows_cut, AreStarts}
use Rattle.program_form.specs.declared.sparse_rows.Coefficient.{Coefficient}

push_of_default : (xs : List ℕ) (d i : ℕ) → get_or (xs ++ d ∷ []) i d ≡ get_or xs i d
push_of_default [] d zero = refl
push_of_default [] d (suc i) = refl
push_of_default (x ∷ xs) d zero = refl
push_of_default (x ∷ xs) d (suc i) = push_of_default xs d i

parts_of_push : {X : Type 0} (xs ys : List X) (x y : X) → length xs ≡ length ys → xs ++ x ∷ [] ≡ ys ++ y ∷ [] → (xs ≡ ys) × (x ≡ y)
parts_of_push [] [] x y long same = (refl, cc same)
parts_of_push [] (b ∷ ys) x y long same = absurd (omega (arith, long))
parts_of_push (a ∷ xs) [] x y long same = absurd (omega (arith, long))
parts_of_push (a ∷ xs) (b ∷ ys) x y long same =
    let heads : a ≡ b = cc same in
    let tails : xs ++ x ∷ [] ≡ ys ++ y ∷ [] = cc same in
    let rest = parts_of_push xs ys x y (omega (arith, long)) tails in
    (cc (heads, rest.0), rest.1)

same_below : (f g : ℕ → List Coefficient) (n : ℕ) → ((r : ℕ) → r < n → f r ≡ g r) → map f (range_with_len 0 n) ≡ map g (range_with_len 0 n)
same_below f g n h =
    let own = length-map-range_with_len f 0 n in
    ext_get_or [] (map f (range_with_len 0 n)) (map g (range_with_len 0 n)) (own ∙ sym (length-map-range_with_len g 0 n))
    (λ r l.
    let within : r < n = omega (arith, own, l) in
    get_or-map-range_with_len f 0 n r r [] within (omega arith)
    ∙ (h r within ∙ sym (get_or-map-range_with_len g 0 n r r [] within (omega arith))))

-- as many rows as places where one begins
pub length_rows_cut : (cs : List Coefficient) (starts : List ℕ) → length (rows_cut cs starts) ≡ length starts
length_rows_cut cs starts = length-map-range_with_len (row_cut cs starts) 0 (length starts)

-- and each is the part of the list from there on
pub rows_cut_at : (cs : List Coefficient) (starts : List ℕ) (r : ℕ) → r < length starts → list_at (rows_cut cs starts) r ≡ row_cut cs starts r
rows_cut_at cs starts r l = get_or-map-range_with_len (row_cut cs starts) 0 (length starts) r r [] l (omega arith)

-- A row that begins at the end of the list has no coefficient, and those before it stay.
pub rows_begun : (cs : List Coefficient) (starts : List ℕ) → rows_cut cs (starts ++ length cs ∷ []) ≡ rows_cut cs starts ++ [] ∷ []
rows_begun cs starts =
    let n = length starts in
    let more = starts ++ length cs ∷ [] in
    let before : (r : ℕ) → r < n → row_cut cs more r ≡ row_cut cs starts r = λ r l.
    rw (get_or_append_left starts (length cs ∷ []) 0 r l, push_of_default starts (length cs) (r + 1)) refl in
    let start : slice_index more n ≡ length cs = get_or_at starts (length cs) [] 0 n refl in
    let none : row_cut cs more n ≡ [] =
    ap (λ (k : ℕ). take (end_of (length cs) more n - k) (drop k cs)) start
    ∙ rw (drop_all (length cs) cs (omega arith)) (take_all (end_of (length cs) more n - length cs) [] (omega arith)) in
    ap (λ (m : ℕ). map (row_cut cs more) (range_with_len 0 m)) (length_push starts (length cs))
    ∙ (map-range_with_len_more (row_cut cs more) 0 n n (omega arith)
    ∙ (ap (λ (xs : List (List Coefficient)). xs ++ row_cut cs more n ∷ []) (same_below (row_cut cs more) (row_cut cs starts) n before)
    ∙ ap (λ (x : List Coefficient). rows_cut cs starts ++ x ∷ []) none))

-- A coefficient after all others is one more of the last row, and the rows before it stay.
pub rows_added : (cs : List Coefficient) (starts : List ℕ) (c : Coefficient) (before : List (List Coefficient)) (last : List Coefficient)
    → AreStarts (length cs) starts → rows_cut cs starts ≡ before ++ last ∷ []
    → rows_cut (cs ++ c ∷ []) starts ≡ before ++ (last ++ c ∷ []) ∷ []
rows_added cs starts c before last h are =
    let m = length before in
    let old = row_cut cs starts in
    let new = row_cut (cs ++ c ∷ []) starts in
    let long : length starts ≡ m + 1 = sym (length_rows_cut cs starts) ∙ (ap length are ∙ length_push before last) in
    let grown : length (cs ++ c ∷ []) ≡ length cs + 1 = length_push cs c in
    let parted : map old (range_with_len 0 m) ++ old m ∷ [] ≡ before ++ last ∷ [] =
    sym (map-range_with_len_more old 0 m m (omega arith)) ∙ (ap (λ (k : ℕ). map old (range_with_len 0 k)) (sym long) ∙ are) in
    let parts = parts_of_push (map old (range_with_len 0 m)) before (old m) last (length-map-range_with_len old 0 m) parted in
    let earlier : (r : ℕ) → r < m → new r ≡ old r = λ r l.
    let start = slice_index starts r in
    let order : start ≤ end_of (length cs) starts r = h.rise r (omega (arith, l, long)) in
    let within : end_of (length cs) starts r ≤ length cs = h.within r in
    let same : end_of (length (cs ++ c ∷ [])) starts r ≡ end_of (length cs) starts r =
    get_or_default starts (r + 1) (length (cs ++ c ∷ [])) (length cs) (omega (arith, l, long)) in
    ap (λ (k : ℕ). take (k - start) (drop start (cs ++ c ∷ []))) same
    ∙ (ap (take (end_of (length cs) starts r - start)) (drop-append-le start cs (c ∷ []) (omega (arith, order, within)))
    ∙ take-append-le (end_of (length cs) starts r - start) (drop start cs) (c ∷ [])
    (omega (arith, order, within, length-drop start cs))) in
    let here : new m ≡ old m ++ c ∷ [] =
    let start = slice_index starts m in
    let order : start ≤ end_of (length cs) starts m = h.rise m (omega (arith, long)) in
    let ends : end_of (length cs) starts m ≡ length cs = get_or_past starts (m + 1) (length cs) (omega (arith, long)) in
    let new_ends : end_of (length (cs ++ c ∷ [])) starts m ≡ length (cs ++ c ∷ []) =
    get_or_past starts (m + 1) (length (cs ++ c ∷ [])) (omega (arith, long)) in
    let tail : drop start (cs ++ c ∷ []) ≡ drop start cs ++ c ∷ [] = drop-append-le start cs (c ∷ []) (omega (arith, order, ends)) in
    let all : old m ≡ drop start cs =
    take_all (end_of (length cs) starts m - start) (drop start cs) (omega (arith, ends, length-drop start cs)) in
    take_all (end_of (length (cs ++ c ∷ [])) starts m - start) (drop start (cs ++ c ∷ []))
    (omega (arith, new_ends, length-drop start (cs ++ c ∷ [])))
    ∙ (tail ∙ ap (λ (xs : List Coefficient). xs ++ c ∷ []) (sym all)) in
    ap (λ (k : ℕ). map new (range_with_len 0 k)) long
    ∙ (map-range_with_len_more new 0 m m (omega arith)
    ∙ (ap (λ (xs : List (List Coefficient)). xs ++ new m ∷ []) (same_below new old m earlier ∙ parts.0)
    ∙ ap (λ (x : List Coefficient). before ++ x ∷ []) (here ∙ ap (λ (xs : List Coefficient). xs ++ c ∷ []) parts.1)))

-- The places stay in order if the list has one more coefficient.
pub starts_added : (all : ℕ) (starts : List ℕ) → AreStarts all starts → AreStarts (all + 1) starts
starts_added all starts h = record {
  rise = λ r l. elim (cases_lt (r + 1) (length starts)) [
    | inl earlier ↦ rw (get_or_default starts (r + 1) (all + 1) all earlier) (h.rise r l)
    | inr last ↦
        let old : slice_index starts r ≤ end_of all starts r = h.rise r l in
        rw (get_or_past starts (r + 1) (all + 1) last) (omega (arith, old, h.within r))
  ];
  within = λ r. elim (cases_lt (r + 1) (length starts)) [
    | inl earlier ↦ rw (get_or_default starts (r + 1) (all + 1) all earlier) (omega (arith, h.within r))
    | inr last ↦ rw (get_or_past starts (r + 1) (all + 1) last) (omega arith)
  ];
}
