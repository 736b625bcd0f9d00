-- Which words have the forms of the commands with the strongest claims.
use Rattle.std.proofs.Common.{◌≡◌, ℕ, ◌-◌, ◌^◌, Bool, true, false, List, [], ◌∷◌, Option, Some, None, option_map, IfSome, bytes_eq, codes}
use Rattle.std.proofs.Common.{refl, ◌∙◌, ap, ap₂, subst, if◌then◌else◌}
use Rattle.std.proofs.lemmas.Slice.Eq.{bytes_eq-Decides}
use Rattle.sporadic_model.specs.declared.ids.Protocol.TheVariants as protocol
use Rattle.sporadic_model.specs.declared.limits.TheConstants.{MOST_TICKS}
use Rattle.protocol_names.specs.Names.{word_of, name_of}
use Rattle.protocol_names.specs.declared.ProtocolName.{ProtocolName}
use Rattle.protocol_names.specs.declared.ProtocolName.TheVariants as name
use Rattle.text_pieces.specs.Numbers.{number_between}
use Rattle.command_words.specs.declared.words.TheConstants.{DEFAULT_ALLOWANCE, GREATEST_ALLOWANCE, MOST_SETS}
use Rattle.command_words.specs.Words.{Form, Analyse, Refute, Settle, Check, Confirm, Upgrade, Report, FullReport, Conform, Audit, study_form}
use Rattle.command_words.specs.Words.{form_of_three, both, allowed, form_of_four, simulate_form, form_of_five, form_of_six, form_of}
use Rattle.command_words.specs.Spelled.{analyse_words, refute_words, settle_words, allowance_of, check_words, confirm_words}
use Rattle.command_words.specs.Spelled.{upgrade_words, audit_words, IsSpelled}

-- ---- words that are spelled in this way have the form

named : (p : ProtocolName) → name_of (word_of p) ≡ Some p
named (name.Base protocol.Mpcp) = refl
named (name.Base protocol.FmlpPlus) = refl
named (name.Base protocol.Dpcp) = refl
named name.Dflp = refl
named name.Spin = refl
named name.DpcpWindows = refl
named name.FmlpPlusCloser = refl
named name.SpinCloser = refl
named name.DpcpCloser = refl
named name.DflpCloser = refl
named name.MpcpCloser = refl

allowed_under : (make : ProtocolName → ℕ → Form) (p : ProtocolName) (o : Option ℕ)
    → option_map (λ a. make a.0 a.1) (both (Some p) o) ≡ option_map (make p) o
allowed_under make p None = refl
allowed_under make p (Some n) = refl

given_allowance : (make : ProtocolName → ℕ → Form) (p : ProtocolName) (o : Option ℕ)
    → option_map (λ a. make a.0 a.1) (both (name_of (word_of p)) o) ≡ option_map (make p) o
given_allowance make p o = ap (λ q. option_map (λ a. make a.0 a.1) (both q o)) (named p) ∙ allowed_under make p o

pub form_of_analyse : (p : ProtocolName) (set : List ℕ) (more : List (List ℕ))
    → form_of (analyse_words p set more) ≡ option_map (λ n. Analyse p set n) (allowance_of more)
form_of_analyse p set [] = ap (option_map (λ q. Analyse q set DEFAULT_ALLOWANCE)) (named p)
form_of_analyse p set (last ∷ []) = given_allowance (λ q n. Analyse q set n) p (number_between 1 GREATEST_ALLOWANCE last)
form_of_analyse p set (a ∷ b ∷ []) = refl
form_of_analyse p set (a ∷ b ∷ c ∷ []) = refl
form_of_analyse p set (a ∷ b ∷ c ∷ d ∷ more) = refl

pub form_of_refute : (p : ProtocolName) (set : List ℕ) (more : List (List ℕ))
    → form_of (refute_words p set more) ≡ option_map (λ n. Refute p set n) (allowance_of more)
form_of_refute p set [] = ap (option_map (λ q. Refute q set DEFAULT_ALLOWANCE)) (named p)
form_of_refute p set (last ∷ []) = given_allowance (λ q n. Refute q set n) p (number_between 1 GREATEST_ALLOWANCE last)
form_of_refute p set (a ∷ b ∷ []) = refl
form_of_refute p set (a ∷ b ∷ c ∷ []) = refl
form_of_refute p set (a ∷ b ∷ c ∷ d ∷ more) = refl

pub form_of_settle : (p : ProtocolName) (set : List ℕ) (more : List (List ℕ))
    → form_of (settle_words p set more) ≡ option_map (λ n. Settle p set n) (allowance_of more)
form_of_settle p set [] = ap (option_map (λ q. Settle q set DEFAULT_ALLOWANCE)) (named p)
form_of_settle p set (last ∷ []) = given_allowance (λ q n. Settle q set n) p (number_between 1 GREATEST_ALLOWANCE last)
form_of_settle p set (a ∷ b ∷ []) = refl
form_of_settle p set (a ∷ b ∷ c ∷ []) = refl
form_of_settle p set (a ∷ b ∷ c ∷ d ∷ more) = refl

pub form_of_check : (p : ProtocolName) (set cert : List ℕ) → form_of (check_words p set cert) ≡ Some (Check p set cert)
form_of_check p set cert = ap (option_map (λ q. Check q set cert)) (named p)

pub form_of_confirm : (p : ProtocolName) (set cert : List ℕ) → form_of (confirm_words p set cert) ≡ Some (Confirm p set cert)
form_of_confirm p set cert = ap (option_map (λ q. Confirm q set cert)) (named p)

pub form_of_upgrade : (p : ProtocolName) (set cert : List ℕ) → form_of (upgrade_words p set cert) ≡ Some (Upgrade p set cert)
form_of_upgrade p set cert = ap (option_map (λ q. Upgrade q set cert)) (named p)

pub form_of_audit : (p : ProtocolName) (set cert jobs rows : List ℕ)
    → form_of (audit_words p set cert jobs rows) ≡ Some (Audit p set cert jobs rows)
form_of_audit p set cert jobs rows = ap (option_map (λ q. Audit q set cert jobs rows)) (named p)

-- If such words have a form, it is that of some allowance.
some_allowance : (make : ℕ → Form) (o : Option ℕ) (form : Option Form) → form ≡ option_map make o
    → (form ≡ None → ⊥) → (n : ℕ) × (form ≡ Some (make n))
some_allowance make None form is some = absurd (some is)
some_allowance make (Some n) form is some = (n, is)

pub analyse_has_form : (words : List (List ℕ)) (p : ProtocolName) (set : List ℕ) (more : List (List ℕ)) → words ≡ analyse_words p set more
    → (form_of words ≡ None → ⊥) → (n : ℕ) × (form_of words ≡ Some (Analyse p set n))
analyse_has_form words p set more is some =
    some_allowance (λ n. Analyse p set n) (allowance_of more) (form_of words) (ap form_of is ∙ form_of_analyse p set more) some

pub refute_has_form : (words : List (List ℕ)) (p : ProtocolName) (set : List ℕ) (more : List (List ℕ)) → words ≡ refute_words p set more
    → (form_of words ≡ None → ⊥) → (n : ℕ) × (form_of words ≡ Some (Refute p set n))
refute_has_form words p set more is some =
    some_allowance (λ n. Refute p set n) (allowance_of more) (form_of words) (ap form_of is ∙ form_of_refute p set more) some

pub settle_has_form : (words : List (List ℕ)) (p : ProtocolName) (set : List ℕ) (more : List (List ℕ)) → words ≡ settle_words p set more
    → (form_of words ≡ None → ⊥) → (n : ℕ) × (form_of words ≡ Some (Settle p set n))
settle_has_form words p set more is some =
    some_allowance (λ n. Settle p set n) (allowance_of more) (form_of words) (ap form_of is ∙ form_of_settle p set more) some

pub analyse_is_form : (words : List (List ℕ)) (p : ProtocolName) (set : List ℕ) (more : List (List ℕ)) (n : ℕ)
    → words ≡ analyse_words p set more → allowance_of more ≡ Some n → form_of words ≡ Some (Analyse p set n)
analyse_is_form words p set more n is allows =
    ap form_of is ∙ form_of_analyse p set more ∙ ap (option_map (λ m. Analyse p set m)) allows

pub refute_is_form : (words : List (List ℕ)) (p : ProtocolName) (set : List ℕ) (more : List (List ℕ)) (n : ℕ)
    → words ≡ refute_words p set more → allowance_of more ≡ Some n → form_of words ≡ Some (Refute p set n)
refute_is_form words p set more n is allows =
    ap form_of is ∙ form_of_refute p set more ∙ ap (option_map (λ m. Refute p set m)) allows

pub settle_is_form : (words : List (List ℕ)) (p : ProtocolName) (set : List ℕ) (more : List (List ℕ)) (n : ℕ)
    → words ≡ settle_words p set more → allowance_of more ≡ Some n → form_of words ≡ Some (Settle p set n)
settle_is_form words p set more n is allows =
    ap form_of is ∙ form_of_settle p set more ∙ ap (option_map (λ m. Settle p set m)) allows

pub check_is_form : (words : List (List ℕ)) (p : ProtocolName) (set cert : List ℕ) → words ≡ check_words p set cert
    → form_of words ≡ Some (Check p set cert)
check_is_form words p set cert is = ap form_of is ∙ form_of_check p set cert

pub confirm_is_form : (words : List (List ℕ)) (p : ProtocolName) (set cert : List ℕ) → words ≡ confirm_words p set cert
    → form_of words ≡ Some (Confirm p set cert)
confirm_is_form words p set cert is = ap form_of is ∙ form_of_confirm p set cert

pub upgrade_is_form : (words : List (List ℕ)) (p : ProtocolName) (set cert : List ℕ) → words ≡ upgrade_words p set cert
    → form_of words ≡ Some (Upgrade p set cert)
upgrade_is_form words p set cert is = ap form_of is ∙ form_of_upgrade p set cert

pub audit_is_form : (words : List (List ℕ)) (p : ProtocolName) (set cert jobs rows : List ℕ) → words ≡ audit_words p set cert jobs rows
    → form_of words ≡ Some (Audit p set cert jobs rows)
audit_is_form words p set cert jobs rows is = ap form_of is ∙ form_of_audit p set cert jobs rows

-- ---- and no other words have it

same : (a b : List ℕ) → bytes_eq a b ≡ true → a ≡ b
same a b = (bytes_eq-Decides a b).0

-- What holds for both sides holds for a choice between them. A map carries a property of a value over to its result.
either : {X : Type 0} (P : X → Type 0) (b : Bool) (x y : Option X) → (b ≡ true → IfSome x P) → IfSome y P → IfSome (if b then x else y) P
either P true x y first other = first refl
either P false x y first other = other

mapped : {X Y : Type 0} (P : X → Type 0) (Q : Y → Type 0) (f : X → Y) (o : Option X) → IfSome o P → ((x : X) → P x → Q (f x))
    → IfSome (option_map f o) Q
mapped P Q f None is keeps = tt
mapped P Q f (Some x) is keeps = keeps x is

abbrev Names : List ℕ → ProtocolName → Type 0
Names word p = word ≡ word_of p

word_names : (word : List ℕ) → IfSome (name_of word) (Names word)
word_names word =
    either (Names word) (bytes_eq word (codes "mpcp")) (Some (name.Base protocol.Mpcp)) _ (same word (codes "mpcp"))
    (either (Names word) (bytes_eq word (codes "fmlp+")) (Some (name.Base protocol.FmlpPlus)) _ (same word (codes "fmlp+"))
    (either (Names word) (bytes_eq word (codes "dpcp")) (Some (name.Base protocol.Dpcp)) _ (same word (codes "dpcp"))
    (either (Names word) (bytes_eq word (codes "dflp")) (Some name.Dflp) _ (same word (codes "dflp"))
    (either (Names word) (bytes_eq word (codes "spin")) (Some name.Spin) _ (same word (codes "spin"))
    (either (Names word) (bytes_eq word (codes "dpcp-w")) (Some name.DpcpWindows) _ (same word (codes "dpcp-w"))
    (either (Names word) (bytes_eq word (codes "fmlp+-c")) (Some name.FmlpPlusCloser) _ (same word (codes "fmlp+-c"))
    (either (Names word) (bytes_eq word (codes "spin-c")) (Some name.SpinCloser) _ (same word (codes "spin-c"))
    (either (Names word) (bytes_eq word (codes "dpcp-c")) (Some name.DpcpCloser) _ (same word (codes "dpcp-c"))
    (either (Names word) (bytes_eq word (codes "dflp-c")) (Some name.DflpCloser) _ (same word (codes "dflp-c"))
    (either (Names word) (bytes_eq word (codes "mpcp-c")) (Some name.MpcpCloser) None (same word (codes "mpcp-c")) tt))))))))))

abbrev Spells : List (List ℕ) → Form → Type 0
Spells words form = IsSpelled form words

study_spelled : (words : List (List ℕ)) (seed sets : Option ℕ) → IfSome (study_form seed sets) (Spells words)
study_spelled words None sets = tt
study_spelled words (Some seed) None = tt
study_spelled words (Some seed) (Some sets) = tt

simulate_spelled : (words : List (List ℕ)) (p : Option ProtocolName) (set jobs : List ℕ) (n : Option ℕ)
    → IfSome (simulate_form p set jobs n) (Spells words)
simulate_spelled words None set jobs n = tt
simulate_spelled words (Some p) set jobs None = tt
simulate_spelled words (Some p) set jobs (Some n) = tt

-- If an allowance is given last.
allowance_spelled : (make : ProtocolName → ℕ → Form) (words : List (List ℕ)) (word last : List ℕ) (o : Option ProtocolName) (n : Option ℕ)
    → ((p : ProtocolName) (m : ℕ) → Names word p → number_between 1 GREATEST_ALLOWANCE last ≡ Some m → Spells words (make p m))
    → IfSome o (Names word) → number_between 1 GREATEST_ALLOWANCE last ≡ n
    → IfSome (option_map (λ a. make a.0 a.1) (both o n)) (Spells words)
allowance_spelled make words word last None n spells names reads = tt
allowance_spelled make words word last (Some p) None spells names reads = tt
allowance_spelled make words word last (Some p) (Some n) spells names reads = spells p n names reads

three_spelled : (command word last : List ℕ) → IfSome (form_of_three command word last) (Spells (command ∷ word ∷ last ∷ []))
three_spelled command word last =
    let words : List (List ℕ) = command ∷ word ∷ last ∷ [] in
    either (Spells words) (bytes_eq command (codes "analyse")) (option_map (λ p. Analyse p last DEFAULT_ALLOWANCE) (name_of word)) _
    (λ is. mapped (Names word) (Spells words) (λ p. Analyse p last DEFAULT_ALLOWANCE) (name_of word) (word_names word)
    (λ p names. ([], ap₂ (λ a b. a ∷ b ∷ last ∷ []) (same command (codes "analyse") is) names, refl)))
    (either (Spells words) (bytes_eq command (codes "refute")) (option_map (λ p. Refute p last DEFAULT_ALLOWANCE) (name_of word)) _
    (λ is. mapped (Names word) (Spells words) (λ p. Refute p last DEFAULT_ALLOWANCE) (name_of word) (word_names word)
    (λ p names. ([], ap₂ (λ a b. a ∷ b ∷ last ∷ []) (same command (codes "refute") is) names, refl)))
    (either (Spells words) (bytes_eq command (codes "settle")) (option_map (λ p. Settle p last DEFAULT_ALLOWANCE) (name_of word)) _
    (λ is. mapped (Names word) (Spells words) (λ p. Settle p last DEFAULT_ALLOWANCE) (name_of word) (word_names word)
    (λ p names. ([], ap₂ (λ a b. a ∷ b ∷ last ∷ []) (same command (codes "settle") is) names, refl)))
    (either (Spells words) (bytes_eq command (codes "report")) (option_map (λ p. Report p last) (name_of word)) _
    (λ is. mapped (Names word) (Spells words) (λ p. Report p last) (name_of word) (word_names word) (λ p names. tt))
    (either (Spells words) (bytes_eq command (codes "study"))
    (study_form (number_between 0 (2 ^ 64 - 1) word) (number_between 1 MOST_SETS last)) None
    (λ is. study_spelled words (number_between 0 (2 ^ 64 - 1) word) (number_between 1 MOST_SETS last)) tt))))

four_spelled : (command word set last : List ℕ) → IfSome (form_of_four command word set last) (Spells (command ∷ word ∷ set ∷ last ∷ []))
four_spelled command word set last =
    let words : List (List ℕ) = command ∷ word ∷ set ∷ last ∷ [] in
    either (Spells words) (bytes_eq command (codes "analyse"))
    (option_map (λ a. Analyse a.0 set a.1) (allowed word last)) _
    (λ is. allowance_spelled (λ p n. Analyse p set n) words word last (name_of word) (number_between 1 GREATEST_ALLOWANCE last)
    (λ p n names reads. (last ∷ [], ap₂ (λ a b. a ∷ b ∷ set ∷ last ∷ []) (same command (codes "analyse") is) names, reads))
    (word_names word) refl)
    (either (Spells words) (bytes_eq command (codes "refute"))
    (option_map (λ a. Refute a.0 set a.1) (allowed word last)) _
    (λ is. allowance_spelled (λ p n. Refute p set n) words word last (name_of word) (number_between 1 GREATEST_ALLOWANCE last)
    (λ p n names reads. (last ∷ [], ap₂ (λ a b. a ∷ b ∷ set ∷ last ∷ []) (same command (codes "refute") is) names, reads))
    (word_names word) refl)
    (either (Spells words) (bytes_eq command (codes "settle"))
    (option_map (λ a. Settle a.0 set a.1) (allowed word last)) _
    (λ is. allowance_spelled (λ p n. Settle p set n) words word last (name_of word) (number_between 1 GREATEST_ALLOWANCE last)
    (λ p n names reads. (last ∷ [], ap₂ (λ a b. a ∷ b ∷ set ∷ last ∷ []) (same command (codes "settle") is) names, reads))
    (word_names word) refl)
    (either (Spells words) (bytes_eq command (codes "check")) (option_map (λ p. Check p set last) (name_of word)) _
    (λ is. mapped (Names word) (Spells words) (λ p. Check p set last) (name_of word) (word_names word)
    (λ p names. ap₂ (λ a b. a ∷ b ∷ set ∷ last ∷ []) (same command (codes "check") is) names))
    (either (Spells words) (bytes_eq command (codes "confirm")) (option_map (λ p. Confirm p set last) (name_of word)) _
    (λ is. mapped (Names word) (Spells words) (λ p. Confirm p set last) (name_of word) (word_names word)
    (λ p names. ap₂ (λ a b. a ∷ b ∷ set ∷ last ∷ []) (same command (codes "confirm") is) names))
    (either (Spells words) (bytes_eq command (codes "upgrade")) (option_map (λ p. Upgrade p set last) (name_of word)) _
    (λ is. mapped (Names word) (Spells words) (λ p. Upgrade p set last) (name_of word) (word_names word)
    (λ p names. ap₂ (λ a b. a ∷ b ∷ set ∷ last ∷ []) (same command (codes "upgrade") is) names))
    (either (Spells words) (bytes_eq command (codes "report")) (option_map (λ p. FullReport p set last) (name_of word)) None
    (λ is. mapped (Names word) (Spells words) (λ p. FullReport p set last) (name_of word) (word_names word) (λ p names. tt)) tt))))))

five_spelled : (command word set jobs last : List ℕ)
    → IfSome (form_of_five command word set jobs last) (Spells (command ∷ word ∷ set ∷ jobs ∷ last ∷ []))
five_spelled command word set jobs last =
    let words : List (List ℕ) = command ∷ word ∷ set ∷ jobs ∷ last ∷ [] in
    either (Spells words) (bytes_eq command (codes "conform")) (option_map (λ p. Conform p set jobs last) (name_of word)) _
    (λ is. mapped (Names word) (Spells words) (λ p. Conform p set jobs last) (name_of word) (word_names word) (λ p names. tt))
    (either (Spells words) (bytes_eq command (codes "simulate"))
    (simulate_form (name_of word) set jobs (number_between 1 MOST_TICKS last)) None
    (λ is. simulate_spelled words (name_of word) set jobs (number_between 1 MOST_TICKS last)) tt)

six_spelled : (command word set cert jobs rows : List ℕ)
    → IfSome (form_of_six command word set cert jobs rows) (Spells (command ∷ word ∷ set ∷ cert ∷ jobs ∷ rows ∷ []))
six_spelled command word set cert jobs rows =
    let words : List (List ℕ) = command ∷ word ∷ set ∷ cert ∷ jobs ∷ rows ∷ [] in
    either (Spells words) (bytes_eq command (codes "audit")) (option_map (λ p. Audit p set cert jobs rows) (name_of word)) None
    (λ is. mapped (Names word) (Spells words) (λ p. Audit p set cert jobs rows) (name_of word) (word_names word)
    (λ p names. ap₂ (λ a b. a ∷ b ∷ set ∷ cert ∷ jobs ∷ rows ∷ []) (same command (codes "audit") is) names)) tt

all_spelled : (words : List (List ℕ)) → IfSome (form_of words) (Spells words)
all_spelled [] = tt
all_spelled (a ∷ []) = tt
all_spelled (a ∷ b ∷ []) = tt
all_spelled (a ∷ b ∷ c ∷ []) = three_spelled a b c
all_spelled (a ∷ b ∷ c ∷ d ∷ []) = four_spelled a b c d
all_spelled (a ∷ b ∷ c ∷ d ∷ e ∷ []) = five_spelled a b c d e
all_spelled (a ∷ b ∷ c ∷ d ∷ e ∷ f ∷ []) = six_spelled a b c d e f
all_spelled (a ∷ b ∷ c ∷ d ∷ e ∷ f ∷ g ∷ words) = tt

pub only_spelled : (words : List (List ℕ)) (form : Form) → form_of words ≡ Some form → IsSpelled form words
only_spelled words form is = subst (λ (o : Option Form). IfSome o (Spells words)) is (all_spelled words)
