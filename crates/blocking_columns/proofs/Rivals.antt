-- Rivals and links as they are listed one after another.
use Rattle.std.proofs.Common.{◌≡◌, ℕ, ◌==◌, ◌&&◌, ◌||◌, not, Bool, true, false, List, [], ◌∷◌, ◌++◌}
use Rattle.std.proofs.Common.{map, length, refl, sym, ap, ◌∙◌, if◌then◌else◌, inl, inr}
use Rattle.std.proofs.Math.ListN.{get_or}
use Rattle.std.proofs.lemmas.List.Folds.{list_any-append}
use Rattle.std.proofs.lemmas.List.Elements.{All-nil, All-cons, All-head, All-tail, All-same, All-append, All-filter, filter_passes}
use Rattle.std.specs.List.{All, list_any, filter}
use Rattle.std.proofs.Math.Bool.{or-false}
use Rattle.number_laws.specs.Tests.{any_below}
use Rattle.number_laws.proofs.TestLaws.{any_below-agree}
use Rattle.sporadic_model.specs.SetDef.{SetDef, task_at}
use Rattle.sporadic_model.specs.Users.{is_user, used_by, users_of}
use Rattle.sporadic_model.specs.declared.ids.Protocol.{Protocol}
use Rattle.sporadic_model.specs.declared.ids.Protocol.TheVariants as protocol
use Rattle.sporadic_model.specs.declared.ids.ResourceId.{ResourceId}
use Rattle.sporadic_model.specs.declared.ids.TaskId.{TaskId}
use Rattle.blocking_columns.specs.declared.linking.Rival.{Rival}
use Rattle.blocking_columns.specs.Columns.{have_one_processor}
use Rattle.blocking_columns.specs.Ceilings.{place_in}
use Rattle.blocking_columns.specs.Links.{is_used_beside, AreLinks, is_rival, AreRivals, AreRivalsOf, AreRivalsAt, AreRivalsAmong, is_beside}
use Rattle.blocking_columns.specs.Links.{rival_at, passes_another}
use Rattle.blocking_columns.specs.Links.{IsKnownRival, AreKnownRivals, AreSeenFrom, is_at}
use Rattle.std.proofs.lemmas.Bool.{cases_Bool, eqb-true}
use Rattle.blocking_columns.proofs.Paths.{any_below-both}
use Rattle.blocking_columns.proofs.KeptNumbers.{any_if, any_of_kept}

or_assoc : (a b c : Bool) → ((a || b) || c) ≡ (a || (b || c))
or_assoc true b c = refl
or_assoc false b c = refl

-- A test passes in a list with one more element, which is there where b says so, where it did or passes there.
pub any_with : {X : Type 0} (p : X → Bool) (b : Bool) (x : X) (xs ys : List X) → ys ≡ xs ++ (if b then x ∷ [] else [])
    → list_any p ys ≡ (list_any p xs || (b && p x))
any_with p b x xs ys now =
    ap (list_any p) now ∙ (list_any-append p xs (if b then x ∷ [] else []) ∙ ap (λ (c : Bool). list_any p xs || c) (any_if p b x))

-- What holds of all of them still does.
pub all_with : {X : Type 0} (P : X → Type 0) (b : Bool) (x : X) (xs ys : List X) → All P xs → P x
    → ys ≡ xs ++ (if b then x ∷ [] else []) → All P ys
all_with P b x xs ys before here now = All-same P ys (xs ++ (if b then x ∷ [] else [])) now
    (All-append P xs (if b then x ∷ [] else []) before (one b)) where
      one : (c : Bool) → All P (if c then x ∷ [] else [])
      one true = All-cons P x [] here (All-nil P)
      one false = All-nil P

any_behind : {X : Type 0} (p : X → Bool) (xs : List X) (x : X) → (list_any p xs || p x) ≡ list_any p (xs ++ x ∷ [])
any_behind p xs x = sym (list_any-append p xs (x ∷ []) ∙ ap (λ (b : Bool). list_any p xs || b) (or-false (p x)))

pub no_rivals_among : (i r : ℕ) (xs : List Rival) → AreRivalsAmong i r [] xs xs
no_rivals_among i r xs test = sym (or-false (list_any (λ (e : Rival). test e.task.0 e.resource.0) xs))

-- One more task.
pub next_rival_among : (p : Protocol) (set : SetDef) (i : ℕ) (y : TaskId) (r : ResourceId) (tasks : List TaskId) (old xs ys : List Rival)
    → AreRivalsAmong i r.0 tasks old xs → ys ≡ xs ++ (if not (y.0 == i) then rival_at p set y r ∷ [] else [])
    → AreRivalsAmong i r.0 (tasks ++ y ∷ []) old ys
next_rival_among p set i y r tasks old xs ys before now test =
    let seen : Rival → Bool = λ e. test e.task.0 e.resource.0 in
    let passes : TaskId → Bool = λ y. not (y.0 == i) && test y.0 r.0 in
    any_with seen (not (y.0 == i)) (rival_at p set y r) xs ys now
    ∙ (ap (λ (c : Bool). c || passes y) (before test) ∙ (or_assoc (list_any seen old) (list_any passes tasks) (passes y)
    ∙ ap (λ (c : Bool). list_any seen old || c) (any_behind passes tasks y)))

-- The users of a resource are all tasks that use it.
pub rivals_at : (set : SetDef) (i r : ℕ) (tasks : List TaskId) (old xs : List Rival) → map (λ y. y.0) tasks ≡ users_of set r
    → AreRivalsAmong i r tasks old xs → AreRivalsAt set i r old xs
rivals_at set i r tasks old xs same among test =
    let seen : Rival → Bool = λ e. test e.task.0 e.resource.0 in
    among test ∙ ap (λ (c : Bool). list_any seen old || c)
    (any_of_kept (λ (y : TaskId). y.0) tasks (is_user set r) (λ y. not (y == i) && test y r) (length set.tasks) same)

pub no_rivals : (set : SetDef) (i : ℕ) → AreRivalsOf set i [] []
no_rivals set i test = refl

-- One more resource.
pub next_rivals : (set : SetDef) (i : ℕ) (rs : List ResourceId) (r : ResourceId) (xs ys : List Rival) → AreRivalsOf set i rs xs
    → AreRivalsAt set i r.0 xs ys → AreRivalsOf set i (rs ++ r ∷ []) ys
next_rivals set i rs r xs ys before now test =
    let passes : ResourceId → Bool = λ r. passes_another set i test r.0 in
    now test ∙ (ap (λ (c : Bool). c || passes r) (before test) ∙ any_behind passes rs r)

used_parts : (mine its apart test : Bool) → (mine && (its && (apart && test))) ≡ ((apart && (mine && its)) && test)
used_parts false its true test = refl
used_parts false its false test = refl
used_parts true false true test = refl
used_parts true false false test = refl
used_parts true true true test = refl
used_parts true true false test = refl

-- Those of the resources that i uses are all.
pub all_rivals : (set : SetDef) (i : ℕ) (rs : List ResourceId) (xs : List Rival) → map (λ r. r.0) rs ≡ used_by set i
    → AreRivalsOf set i rs xs → AreRivals set i xs
all_rivals set i rs xs same of test =
    let each : (r : ℕ) → (is_user set r i && passes_another set i test r)
    ≡ any_below (length set.tasks) (λ y. is_rival set i y r && test y r) = λ r.
    sym (any_below-both (is_user set r i) (length set.tasks) (λ y. is_user set r y && (not (y == i) && test y r)))
    ∙ any_below-agree (length set.tasks) (λ y. is_user set r i && (is_user set r y && (not (y == i) && test y r)))
    (λ y. is_rival set i y r && test y r) (λ y l.
    used_parts (is_user set r i) (is_user set r y) (not (y == i)) (test y r)) in
    of test ∙ (any_of_kept (λ (r : ResourceId). r.0) rs (λ r. is_user set r i) (passes_another set i test) (length set.resources) same
    ∙ any_below-agree (length set.resources) (λ r. is_user set r i && passes_another set i test r)
    (λ r. any_below (length set.tasks) (λ y. is_rival set i y r && test y r)) (λ r l. each r))

pub any_agree : {X : Type 0} (f g : X → Bool) (xs : List X) → All (λ x. f x ≡ g x) xs → list_any f xs ≡ list_any g xs
any_agree f g [] same = refl
any_agree f g (x ∷ xs) same =
    rw (All-head (λ y. f y ≡ g y) x xs same, any_agree f g xs (All-tail (λ y. f y ≡ g y) x xs same)) refl

any_filter : {X : Type 0} (f p : X → Bool) (xs : List X) → list_any p (filter f xs) ≡ list_any (λ x. f x && p x) xs
any_filter f p [] = refl
any_filter f p (x ∷ xs) = elim (cases_Bool (f x)) [
  | inl passes ↦ rw (passes, any_filter f p xs) refl
  | inr fails ↦ rw (fails, any_filter f p xs) refl
]

and_together : (a b c : Bool) → (a && (b && c)) ≡ ((a && b) && c)
and_together true b c = refl
and_together false b c = refl

-- A rival on x's processor, and not x, is beside it.
beside_here : (p : Protocol) (set : SetDef) (x k : ℕ) (e : Rival) (test : Bool) → IsKnownRival p set e → k ≡ (task_at set x).processor
    → (is_at k e && (not (e.task.0 == x) && test)) ≡ (is_beside set x e.task.0 && test)
beside_here p set x k e test known here =
    rw (known.1, here) (and_together (have_one_processor set e.task.0 x) (not (e.task.0 == x)) test)

rival_parts : (apart mine its share other test : Bool)
    → ((apart && (mine && its)) && ((share && other) && test)) ≡ ((mine && test) && ((share && (other && apart)) && its))
rival_parts false false its share other test = refl
rival_parts false true its share other false = refl
rival_parts false true its false other true = refl
rival_parts false true its true false true = refl
rival_parts false true its true true true = refl
rival_parts true false its share other test = refl
rival_parts true true false share other false = refl
rival_parts true true false false other true = refl
rival_parts true true false true false true = refl
rival_parts true true false true true true = refl
rival_parts true true true false other false = refl
rival_parts true true true true false false = refl
rival_parts true true true true true false = refl
rival_parts true true true false other true = refl
rival_parts true true true true false true = refl
rival_parts true true true true true true = refl

test_last : (mine test beside : Bool) → ((mine && test) && beside) ≡ ((mine && beside) && test)
test_last false test beside = refl
test_last true false false = refl
test_last true false true = refl
test_last true true false = refl
test_last true true true = refl

-- Rivals beside x are links.
rivals_link : (p : Protocol) (set : SetDef) (i x k : ℕ) (rivals : List Rival) → AreRivals set i rivals → AreKnownRivals p set rivals
    → k ≡ (task_at set x).processor → (test : ℕ → Bool)
    → list_any (λ e. not (e.task.0 == x) && test e.resource.0) (filter (is_at k) rivals)
    ≡ any_below (length set.resources) (λ r. (is_user set r i && is_used_beside set i x r) && test r)
rivals_link p set i x k rivals are known here test =
    let used : ℕ → ℕ → Bool = λ r y. (have_one_processor set y x && (not (y == x) && not (y == i))) && is_user set r y in
    let each : (r : ℕ) → any_below (length set.tasks) (λ y. is_rival set i y r && (is_beside set x y && test r))
    ≡ ((is_user set r i && is_used_beside set i x r) && test r) = λ r.
    any_below-agree (length set.tasks) (λ y. is_rival set i y r && (is_beside set x y && test r))
    (λ y. (is_user set r i && test r) && used r y) (λ y l.
    rival_parts (not (y == i)) (is_user set r i) (is_user set r y) (have_one_processor set y x) (not (y == x)) (test r))
    ∙ (any_below-both (is_user set r i && test r) (length set.tasks) (used r)
    ∙ test_last (is_user set r i) (test r) (is_used_beside set i x r)) in
    any_filter (is_at k) (λ (e : Rival). not (e.task.0 == x) && test e.resource.0) rivals
    ∙ (any_agree (λ (e : Rival). is_at k e && (not (e.task.0 == x) && test e.resource.0))
    (λ (e : Rival). is_beside set x e.task.0 && test e.resource.0) rivals (λ n d l.
    beside_here p set x k (get_or rivals n d) (test (get_or rivals n d).resource.0) (known n d l) here)
    ∙ (are (λ y r. is_beside set x y && test r)
    ∙ any_below-agree (length set.resources)
    (λ r. any_below (length set.tasks) (λ y. is_rival set i y r && (is_beside set x y && test r)))
    (λ r. (is_user set r i && is_used_beside set i x r) && test r) (λ r l. each r)))

pub rivals_are_links : (p : Protocol) (set : SetDef) (i k : ℕ) (rivals : List Rival)
    → (p ≡ protocol.Dpcp → ⊥) → AreRivals set i rivals → AreKnownRivals p set rivals → AreLinks p set i k (filter (is_at k) rivals)
rivals_are_links protocol.Mpcp set i k rivals sharing are known x here test =
    rivals_link protocol.Mpcp set i x k rivals are known here test
rivals_are_links protocol.FmlpPlus set i k rivals sharing are known x here test =
    rivals_link protocol.FmlpPlus set i x k rivals are known here test
rivals_are_links protocol.Dpcp set i k rivals sharing are known x here test = absurd (sharing refl)

-- Those on processor k have their places as it sees them.
pub rivals_seen : (p : Protocol) (set : SetDef) (k : ℕ) (rivals : List Rival) → AreKnownRivals p set rivals
    → AreSeenFrom p set k (filter (is_at k) rivals)
rivals_seen p set k rivals known n d l =
    let e : Rival = get_or (filter (is_at k) rivals) n d in
    let own : IsKnownRival p set e = All-filter (is_at k) (IsKnownRival p set) rivals known n d l in
    let here : is_at k e ≡ true = filter_passes (is_at k) rivals n d l in
    own.2 ∙ ap (λ (m : ℕ). place_in p set m e.resource.0) (sym own.1 ∙ eqb-true e.processor k here)
