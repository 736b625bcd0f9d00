-- Tasks in the order of their periods: a task more goes before the first of a longer period.
use Rattle.std.proofs.Common.{◌≡◌, ◌≢◌, ◌⊎◌, ℕ, suc, ◌+◌, ◌<◌, ◌≤◌, ◌==◌, nat_lt, not, cond, Bool, true, false, Option}
use Rattle.std.proofs.Common.{Some, None, map, zero, List, [], ◌∷◌, ◌++◌, length, take, drop, refl, sym, ◌∙◌, ap, subst}
use Rattle.std.proofs.Common.{arith, inl, inr}
use Rattle.std.proofs.lemmas.Bool.{cond-true, cond-false, cond_both, eq-eqb, ne_eqb, eqb-true, lt-ltb, le-ltb, ltb-false}
use Rattle.std.proofs.lemmas.List.{append_assoc}
use Rattle.std.proofs.lemmas.List.Kept.{AllPairs-cons}
use Rattle.std.specs.Prelude.{unwrap_or}
use Rattle.std.specs.List.{AllPairs, filter, flat_map, insert, position, position_or_len}
use Rattle.sporadic_model.specs.SetDef.{TaskDef}
use Rattle.sporadic_model.specs.Seen.{task_seen}
use Rattle.sporadic_model.specs.declared.parts.TaskPart.{TaskPart}
use Rattle.sporadic_model.proofs.Mapped.{position_or_len-map}
use Rattle.study_gen.specs.Sets.{with_task_in_place}
use Rattle.study_gen.proofs.EachLaws.{Each, each_all, each_append}

-- The same as `with_task_in_place`, by recursion.
abbrev pub put : TaskDef → List TaskDef → List TaskDef
put t [] = t ∷ []
put t (x ∷ xs) = cond (nat_lt t.period x.period) (t ∷ x ∷ xs) (x ∷ put t xs)

pub in_place_is_put : (tasks : List TaskDef) (t : TaskDef) → with_task_in_place tasks t ≡ put t tasks
in_place_is_put [] t = refl
in_place_is_put (x ∷ xs) t =
    let n : ℕ = position_or_len (λ (y : TaskDef). nat_lt t.period y.period) xs in
    let one : 1 + n ≡ suc n = omega arith in
    elim (nat_lt t.period x.period) as (λ b. take (cond (not b) (1 + n) 0) (x ∷ xs) ++ t
    ∷ drop (cond (not b) (1 + n) 0) (x ∷ xs) ≡ cond b (t ∷ x ∷ xs) (x ∷ put t xs))
    [ true ↦ refl | false ↦ rw one (ap (λ (l : List TaskDef). x ∷ l) (in_place_is_put xs t)) ]

pub each_put : (P : TaskDef → Type 0) (t : TaskDef) (xs : List TaskDef) → P t → Each P xs → Each P (put t xs)
each_put P t [] here all = (here, tt)
each_put P t (x ∷ xs) here (first, rest) =
    cond_both (nat_lt t.period x.period) (t ∷ x ∷ xs) (x ∷ put t xs) (λ l. Each P l) (λ e. (here, (first, rest)))
    (λ e. (first, each_put P t xs here rest))

pub length-put : (t : TaskDef) (xs : List TaskDef) → length (put t xs) ≡ suc (length xs)
length-put t [] = refl
length-put t (x ∷ xs) =
    cond_both (nat_lt t.period x.period) (t ∷ x ∷ xs) (x ∷ put t xs) (λ l. length l ≡ suc (suc (length xs))) (λ e. refl)
    (λ e. ap suc (length-put t xs))

-- Has no task the name of a later one?
abbrev pub AreApart : List TaskDef → Type 0
AreApart [] = Unit {0}
AreApart (x ∷ xs) = (Each (λ y. x.name ≢ y.name) xs) × AreApart xs

apart_both : (t : TaskDef) (xs : List TaskDef) → Each (λ x. x.name ≢ t.name) xs → Each (λ y. t.name ≢ y.name) xs
apart_both t [] all = tt
apart_both t (x ∷ xs) (first, rest) = ((λ e. first (sym e)), apart_both t xs rest)

pub apart-put : (t : TaskDef) (xs : List TaskDef) → Each (λ x. x.name ≢ t.name) xs → AreApart xs → AreApart (put t xs)
apart-put t [] new apart = (tt, tt)
apart-put t (x ∷ xs) (first, rest) (here, apart) =
    cond_both (nat_lt t.period x.period) (t ∷ x ∷ xs) (x ∷ put t xs) AreApart
    (λ e. (apart_both t (x ∷ xs) (first, rest), (here, apart)))
    (λ e. (each_put (λ y. x.name ≢ y.name) t xs first here, apart-put t xs rest apart))

pub apart_pairs : (xs : List TaskDef) → AreApart xs → AllPairs (λ x y. x.name ≢ y.name) xs
apart_pairs [] apart = λ i j d before within. absurd (omega arith)
apart_pairs (x ∷ xs) (here, apart) =
    AllPairs-cons (λ x y. x.name ≢ y.name) x xs (each_all (λ y. x.name ≢ y.name) xs here) (apart_pairs xs apart)

-- Tasks with these periods, in the order of the list of periods.
abbrev pub ordered : List ℕ → List TaskDef → List TaskDef
ordered ps tasks = flat_map (λ p. filter (λ t. t.period == p) tasks) ps

drops : (p : ℕ) (ts : List TaskDef) (t : TaskDef) → (t.period ≡ p → ⊥)
    → filter (λ x. x.period == p) (ts ++ t ∷ []) ≡ filter (λ x. x.period == p) ts
drops p [] t other = cond-false (t.period == p) (t ∷ []) [] (ne_eqb t.period p other)
drops p (x ∷ xs) t other = ap (λ (l : List TaskDef). cond (x.period == p) (x ∷ l) l) (drops p xs t other)

keeps : (p : ℕ) (ts : List TaskDef) (t : TaskDef) → t.period ≡ p
    → filter (λ x. x.period == p) (ts ++ t ∷ []) ≡ filter (λ x. x.period == p) ts ++ t ∷ []
keeps p [] t same = cond-true (t.period == p) (t ∷ []) [] (eq-eqb t.period p same)
keeps p (x ∷ xs) t same =
    let rest = keeps p xs t same in
    let kept : List TaskDef = filter (λ x. x.period == p) xs in
    let grown : List TaskDef = filter (λ x. x.period == p) (xs ++ t ∷ []) in
    elim (x.period == p) as (λ b. cond b (x ∷ grown) grown ≡ cond b (x ∷ kept) kept ++ t ∷ [])
    [ true ↦ ap (λ (l : List TaskDef). x ∷ l) rest | false ↦ rest ]

-- What holds of a period holds of the tasks that have it.
filtered : (P : ℕ → Type 0) (p : ℕ) (ts : List TaskDef) → P p → Each (λ x. P x.period) (filter (λ x. x.period == p) ts)
filtered P p [] here = tt
filtered P p (x ∷ xs) here =
    cond_both (x.period == p) (x ∷ filter (λ x. x.period == p) xs) (filter (λ x. x.period == p) xs) (λ l. Each (λ x. P x.period) l)
    (λ e. (subst P (sym (eqb-true x.period p e)) here, filtered P p xs here)) (λ e. filtered P p xs here)

above : (q : ℕ) (ps : List ℕ) (ts : List TaskDef) → Each (λ p. q < p) ps → Each (λ x. q < x.period) (ordered ps ts)
above q [] ts all = tt
above q (p ∷ ps) ts (first, rest) =
    each_append (λ x. q < x.period) (filter (λ x. x.period == p) ts) (ordered ps ts) (filtered (λ k. q < k) p ts first) (above q ps ts rest)

absent : (ps : List ℕ) (ts : List TaskDef) (t : TaskDef) → Each (λ p. t.period < p) ps → ordered ps (ts ++ t ∷ []) ≡ ordered ps ts
absent [] ts t all = refl
absent (p ∷ ps) ts t (first, rest) =
    ap (λ (l : List TaskDef). l ++ ordered ps (ts ++ t ∷ [])) (drops p ts t (λ e. absurd (omega (arith, e, first))))
    ∙ ap (λ (l : List TaskDef). filter (λ x. x.period == p) ts ++ l) (absent ps ts t rest)

put_first : (t : TaskDef) (xs : List TaskDef) → Each (λ x. t.period < x.period) xs → put t xs ≡ t ∷ xs
put_first t [] all = refl
put_first t (x ∷ xs) (first, rest) = cond-true (nat_lt t.period x.period) (t ∷ x ∷ xs) (x ∷ put t xs) (lt-ltb t.period x.period first)

put_behind : (t : TaskDef) (xs ys : List TaskDef) → Each (λ x. x.period ≤ t.period) xs → put t (xs ++ ys) ≡ xs ++ put t ys
put_behind t [] ys all = refl
put_behind t (x ∷ xs) ys (first, rest) =
    cond-false (nat_lt t.period x.period) (t ∷ x ∷ xs ++ ys) (x ∷ put t (xs ++ ys)) (le-ltb t.period x.period first)
    ∙ ap (λ (l : List TaskDef). x ∷ l) (put_behind t xs ys rest)

-- Does the list rise, and is q among it?
abbrev pub IsRising : List ℕ → Type 0
IsRising [] = Unit {0}
IsRising (p ∷ ps) = (Each (λ q. p < q) ps) × IsRising ps

abbrev pub IsAmong : ℕ → List ℕ → Type 0
IsAmong q [] = ⊥
IsAmong q (p ∷ ps) = (q ≡ p) ⊎ IsAmong q ps

among_above : (q p : ℕ) (ps : List ℕ) → Each (λ k. p < k) ps → IsAmong q ps → p < q
among_above q p [] all among = absurd among
among_above q p (k ∷ ks) (first, rest) (inl same) = omega (arith, same, first)
among_above q p (k ∷ ks) (first, rest) (inr later) = among_above q p ks rest later

-- The order of tasks with one more is the order of the tasks with that one put in its place.
pub ordered_more : (ps : List ℕ) (ts : List TaskDef) (t : TaskDef) → IsRising ps → IsAmong t.period ps
    → ordered ps (ts ++ t ∷ []) ≡ put t (ordered ps ts)
ordered_more [] ts t rising among = absurd among
ordered_more (p ∷ ps) ts t (low, rising) (inl same) =
    let here : List TaskDef = filter (λ x. x.period == p) ts in
    let longer : Each (λ k. t.period < k) ps = subst (λ (k : ℕ). Each (λ q. k < q) ps) (sym same) low in
    let left : ordered (p ∷ ps) (ts ++ t ∷ []) ≡ (here ++ t ∷ []) ++ ordered ps ts =
    ap (λ (l : List TaskDef). l ++ ordered ps (ts ++ t ∷ [])) (keeps p ts t same)
    ∙ ap (λ (l : List TaskDef). (here ++ t ∷ []) ++ l) (absent ps ts t longer) in
    let behind : put t (here ++ ordered ps ts) ≡ here ++ put t (ordered ps ts) =
    put_behind t here (ordered ps ts) (filtered (λ k. k ≤ t.period) p ts (omega (arith, same))) in
    let first : put t (ordered ps ts) ≡ t ∷ ordered ps ts = put_first t (ordered ps ts) (above t.period ps ts longer) in
    left ∙ append_assoc here (t ∷ []) (ordered ps ts) ∙ ap (λ (l : List TaskDef). here ++ l) (sym first) ∙ sym behind
ordered_more (p ∷ ps) ts t (low, rising) (inr later) =
    let here : List TaskDef = filter (λ x. x.period == p) ts in
    let less : p < t.period = among_above t.period p ps low later in
    let left : ordered (p ∷ ps) (ts ++ t ∷ []) ≡ here ++ put t (ordered ps ts) =
    ap (λ (l : List TaskDef). l ++ ordered ps (ts ++ t ∷ [])) (drops p ts t (λ e. absurd (omega (arith, e, less))))
    ∙ ap (λ (l : List TaskDef). here ++ l) (ordered_more ps ts t rising later) in
    let behind : put t (here ++ ordered ps ts) ≡ here ++ put t (ordered ps ts) =
    put_behind t here (ordered ps ts) (filtered (λ k. k ≤ t.period) p ts (omega (arith, less))) in
    left ∙ sym behind

-- Where a place is found or not, it is the first one or the end.
first_within : (test : TaskPart → Bool) (xs : List TaskPart) → position_or_len test xs ≤ length xs
first_within test [] = omega arith
first_within test (x ∷ xs) =
    let rest = first_within test xs in
    cond_both (not (test x)) (1 + position_or_len test xs) 0 (λ n. n ≤ suc (length xs)) (λ e. omega (arith, rest)) (λ e. omega arith)

first_or_end : (test : TaskPart → Bool) (xs : List TaskPart) → unwrap_or (position test xs) (length xs) ≡ position_or_len test xs
first_or_end test xs =
    let n : ℕ = position_or_len test xs in
    let most : n ≤ length xs = first_within test xs in
    cond_both (nat_lt n (length xs)) (Some n) None (λ o. unwrap_or o (length xs) ≡ n) (λ e. refl)
    (λ e. omega (arith, most, ltb-false n (length xs) e))

pub place_is : (place period : ℕ) (tasks : List TaskPart) (found : Option ℕ)
    → found ≡ position (λ t. nat_lt period t.period) tasks → place ≡ unwrap_or found (length tasks)
    → place ≡ position_or_len (λ t. nat_lt period t.period) (map task_seen tasks)
place_is place period tasks found is or_end =
    or_end ∙ ap (λ (o : Option ℕ). unwrap_or o (length tasks)) is ∙ first_or_end (λ t. nat_lt period t.period) tasks
    ∙ sym (position_or_len-map task_seen (λ t. nat_lt period t.period) tasks)

seen_insert : (xs : List TaskPart) (n : ℕ) (x : TaskPart)
    → map task_seen (take n xs ++ x ∷ drop n xs) ≡ take n (map task_seen xs) ++ task_seen x ∷ drop n (map task_seen xs)
seen_insert [] zero x = refl
seen_insert [] (suc n) x = refl
seen_insert (y ∷ ys) zero x = refl
seen_insert (y ∷ ys) (suc n) x = ap (λ (l : List TaskDef). task_seen y ∷ l) (seen_insert ys n x)

-- A task that is inserted at its place.
pub inserted : (xs ys : List TaskPart) (n : ℕ) (x : TaskPart)
    → n ≡ position_or_len (λ t. nat_lt x.period t.period) (map task_seen xs) → ys ≡ insert xs n x
    → map task_seen ys ≡ with_task_in_place (map task_seen xs) (task_seen x)
inserted xs ys n x at is =
    let seen : map task_seen ys ≡ take n (map task_seen xs) ++ task_seen x ∷ drop n (map task_seen xs) =
    ap (λ (l : List TaskPart). map task_seen l) is ∙ seen_insert xs n x in
    seen ∙ ap (λ (k : ℕ). take k (map task_seen xs) ++ task_seen x ∷ drop k (map task_seen xs)) at
