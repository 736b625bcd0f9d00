-- Paths, looked for among the links alone.
use Rattle.std.proofs.Common.{◌≡◌, ℕ, ◌==◌, ◌&&◌, not, Bool, true, false, List, [], ◌∷◌, length, refl, sym, ap, subst, ◌∙◌, arith}
use Rattle.std.proofs.Math.ListN.{get_or}
use Rattle.std.specs.List.{list_any}
use Rattle.std.proofs.lemmas.Bool.{eqb-true}
use Rattle.number_laws.specs.Tests.{any_below}
use Rattle.number_laws.proofs.TestLaws.{any_below-agree}
use Rattle.sporadic_model.specs.SetDef.{SetDef, task_at}
use Rattle.sporadic_model.specs.Users.{is_user}
use Rattle.sporadic_model.specs.declared.ids.Protocol.{Protocol}
use Rattle.sporadic_model.specs.declared.ids.Protocol.TheVariants as protocol
use Rattle.blocking_columns.specs.Columns.{is_path, has_path, may_run_before}
use Rattle.blocking_columns.specs.Links.{is_used_beside, is_link, AreLinks, AreSeenFrom}
use Rattle.blocking_columns.specs.Ceilings.{place_in, may_precede}
use Rattle.blocking_columns.specs.declared.linking.Rival.{Rival}
use Rattle.blocking_columns.proofs.Paths.{any_below-swap, paths_by}
use Rattle.blocking_columns.proofs.Rivals.{any_agree}

used_parts : (mine beside apart before : Bool) → ((mine && beside) && (apart && before)) ≡ ((apart && (mine && before)) && beside)
used_parts true true true true = refl
used_parts true true true false = refl
used_parts true true false before = refl
used_parts true false true true = refl
used_parts true false true false = refl
used_parts true false false before = refl
used_parts false beside true before = refl
used_parts false beside false before = refl

never_parts : (mine beside apart : Bool) → (mine && (apart && false)) ≡ ((apart && (mine && false)) && beside)
never_parts true beside true = refl
never_parts true beside false = refl
never_parts false beside true = refl
never_parts false beside false = refl

-- A link, and what else makes a path of it.
link_parts : (p : Protocol) (set : SetDef) (i x q r : ℕ)
    → (is_link p set i x r && (not (r == q) && may_run_before p set (task_at set x).processor q r))
    ≡ any_below (length set.tasks) (λ y. is_path p set i x q y r)
link_parts protocol.Mpcp set i x q r = used_parts (is_user set r i) (is_used_beside set i x r) (not (r == q))
    (may_run_before protocol.Mpcp set (task_at set x).processor q r)
    ∙ sym (paths_by protocol.Mpcp set i x q r)
link_parts protocol.FmlpPlus set i x q r = used_parts (is_user set r i) (is_used_beside set i x r) (not (r == q)) true
    ∙ sym (paths_by protocol.FmlpPlus set i x q r)
link_parts protocol.Dpcp set i x q r =
    never_parts (is_user set r i) (is_used_beside set i x r) (not (r == q)) ∙ sym (paths_by protocol.Dpcp set i x q r)

linked_paths : (p : Protocol) (set : SetDef) (i x q : ℕ) (es : List Rival) → AreLinks p set i (task_at set x).processor es
    → list_any (λ e. not (e.task.0 == x) && (not (e.resource.0 == q) && may_run_before p set (task_at set x).processor q e.resource.0)) es
    ≡ has_path p set i x q
linked_paths p set i x q es links =
    let test : ℕ → Bool = λ r. not (r == q) && may_run_before p set (task_at set x).processor q r in
    let below : any_below (length set.resources) (λ r. is_link p set i x r && test r)
    ≡ any_below (length set.resources) (λ r. any_below (length set.tasks) (λ y. is_path p set i x q y r))
    = any_below-agree (length set.resources) (λ r. is_link p set i x r && test r)
    (λ r. any_below (length set.tasks) (λ y. is_path p set i x q y r)) (λ r l. link_parts p set i x q r) in
    links x refl test ∙ (below ∙ sym (any_below-swap (length set.tasks) (length set.resources) (is_path p set i x q)))

is_nothing : {X : Type 0} (xs : List X) → (length xs == 0) ≡ true → xs ≡ []
is_nothing [] h = refl
is_nothing (x ∷ xs) h = absurd (omega (arith, eqb-true (length (x ∷ xs)) 0 h))

-- Without links there is no path.
pub no_paths : (p : Protocol) (set : SetDef) (i x q : ℕ) (es : List Rival) → AreLinks p set i (task_at set x).processor es
    → (length es == 0) ≡ true → false ≡ has_path p set i x q
no_paths p set i x q es links none =
    subst (λ (fs : List Rival). list_any (λ (e : Rival). not (e.task.0 == x)
    && (not (e.resource.0 == q) && may_run_before p set (task_at set x).processor q e.resource.0)) fs ≡ has_path p set i x q)
    (is_nothing es none) (linked_paths p set i x q es links)

may_precede_as_seen : (p : Protocol) (set : SetDef) (k q r a b : ℕ) → a ≡ place_in p set k q → b ≡ place_in p set k r
    → may_precede p a b ≡ may_run_before p set k q r
may_precede_as_seen protocol.Mpcp set k q r a b mine its = rw (mine, its) refl
may_precede_as_seen protocol.FmlpPlus set k q r a b mine its = refl
may_precede_as_seen protocol.Dpcp set k q r a b mine its = refl

-- A path is looked for by the places alone.
pub seen_paths : (p : Protocol) (set : SetDef) (i x q place : ℕ) (es : List Rival) → AreLinks p set i (task_at set x).processor es
    → place ≡ place_in p set (task_at set x).processor q → AreSeenFrom p set (task_at set x).processor es
    → list_any (λ e. not (e.task.0 == x) && (not (e.resource.0 == q) && may_precede p place e.place)) es ≡ has_path p set i x q
seen_paths p set i x q place es links mine seen =
    let k = (task_at set x).processor in
    any_agree (λ e. not (e.task.0 == x) && (not (e.resource.0 == q) && may_precede p place e.place))
    (λ e. not (e.task.0 == x) && (not (e.resource.0 == q) && may_run_before p set k q e.resource.0)) es
    (λ n d l. ap (λ (b : Bool). not ((get_or es n d).task.0 == x) && (not ((get_or es n d).resource.0 == q) && b))
    (may_precede_as_seen p set k q (get_or es n d).resource.0 place (get_or es n d).place mine (seen n d l)))
    ∙ linked_paths p set i x q es links
