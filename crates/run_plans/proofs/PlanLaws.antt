-- Laws of plans, for any command.
use Rattle.std.proofs.Common.{Bool, true, not, ◌&&◌, ◌==◌, nat_le}
use Rattle.std.proofs.Common.{◌≡◌, ◌≢◌, ℕ, suc, ◌<◌, ◌≤◌, List, [], ◌∷◌, ◌++◌, length, refl, sym, ◌∙◌, ap, subst, arith, inl, inr, ◌⊎◌, Ok, Err, Some, None}
use Rattle.std.specs.Prelude.{Option, Result, IsSomeAnd, codes}
use Rattle.std.proofs.lemmas.Bool.{and_parts, eqb-false, leb-true, not-true}
use Rattle.std.proofs.lemmas.List.{length-append}
use Rattle.std.proofs.lemmas.Option.{none-some, same_Some}
use Rattle.outside_ports.specs.Counts.{Rose}
use Rattle.outside_ports.specs.Names.{Inputs, bytes_of, IsNamed, IsLonger, IsAbsent}
use Rattle.outside_ports.specs.Past.{Asked, wholly, partly, unbegun}
use Rattle.outside_ports.specs.declared.whole.TheConstants.{GREATEST_INPUT_BYTES}
use Rattle.outside_ports.specs.declared.shelf.ShelfFault.TheVariants.{Absent}
use Rattle.command_inputs.specs.Known.{Answer, Input, refused, Known, past, readings_after, IsStopped, IsRead, Shown, shown_by, told}
use Rattle.command_inputs.specs.Known.{FitAll, AreInputs}
use Rattle.run_plans.specs.Plans.{Work, Plan, Working, Reading, IsWorking, HasOneAnswer}
use Rattle.run_plans.specs.Plans.{IsOutcomeOf, IsReadFaultOf, EndsWell, AsksAll, AsksPart}
use Rattle.run_plans.specs.Outcome.{IsReplyOf}

-- Is everything that is known by the first also known by the second?
pub record Implies (k l : Known) : Type 0 where
  pub absent : (name : List ℕ) → k.absent name → l.absent name
  pub longer : (name : List ℕ) → k.longer name → l.longer name
  pub has : (name bytes : List ℕ) → k.has name bytes → l.has name bytes
  pub last : (bytes : List ℕ) → k.last bytes → l.last bytes
  pub asked : (readings : List Asked) → k.asked readings → l.asked readings

-- Then the same holds for the rest, after an input was asked for.
past_implied : (k l : Known) → Implies k l → (one : Asked) → Implies (past k one) (past l one)
past_implied k l i one = record {
  absent = i.absent;
  longer = i.longer;
  has = i.has;
  last = i.last;
  asked = λ readings asked. i.asked (one ∷ readings) asked;
}

stopped_implied : (k l : Known) → Implies k l → (input : Input) (name : List ℕ) (a : Answer) → IsStopped k input name a
    → IsStopped l input name a
stopped_implied k l i input name a (inl (absent, asked, is)) = inl (i.absent name absent, i.asked _ asked, is)
stopped_implied k l i input name a (inr (inl (part, longer, more, asked, is))) =
    inr (inl (part, i.longer name longer, more, i.asked _ asked, is))
stopped_implied k l i input name a (inr (inr (bytes, refusal, has, last, asked, reads, is))) =
    inr (inr (bytes, refusal, i.has name bytes has, i.last bytes last, i.asked _ asked, reads, is))

pub outcome_implied : (k l : Known) → Implies k l → (p : Plan) (a : Answer) → IsOutcomeOf k p a → IsOutcomeOf l p a
outcome_implied k l i (Working work) a (out, asked) = (out, i.asked [] asked)
outcome_implied k l i (Reading input name next) a (inl stopped) = inl (stopped_implied k l i input name a stopped)
outcome_implied k l i (Reading input name next) a (inr (bytes, value, read, last, out)) =
    let one : Asked = wholly name bytes in
    inr (
      bytes,
      value,
      (i.has name bytes read.0, read.1),
      λ w. i.last bytes (last w),
      outcome_implied (past k one) (past l one) (past_implied k l i one) (next bytes value) a out,
    )

pub fault_implied : (k l : Known) → Implies k l → (p : Plan) (a : Answer) → IsReadFaultOf k p a → IsReadFaultOf l p a
fault_implied k l i (Working work) a fault = absurd fault
fault_implied k l i (Reading input name next) a (inl ((one, named, asked), is)) = inl ((one, named, i.asked _ asked), is)
fault_implied k l i (Reading input name next) a (inr (bytes, value, read, fault)) =
    let one : Asked = wholly name bytes in
    inr (
      bytes,
      value,
      (i.has name bytes read.0, read.1),
      fault_implied (past k one) (past l one) (past_implied k l i one) (next bytes value) a fault,
    )

-- If a shelf tells its inputs, what it shows holds for these inputs.
told_implied : (shelf : Shown) (inputs : Inputs) → shelf.names ≡ Some inputs → Implies (shown_by shelf) (told inputs)
told_implied shelf inputs is = record {
  absent = λ name h. subst (λ (n : Option Inputs). IsAbsent n name shelf.before shelf.now) is h.0;
  longer = λ name h. subst (λ (n : Option Inputs). IsLonger n name GREATEST_INPUT_BYTES) is h.0;
  has = λ name bytes h. (subst (λ (n : Option Inputs). IsNamed n name bytes) is h.0, h.1);
  last = λ bytes h. tt;
  asked = λ readings h. tt;
}

-- What is shown of the later part of a call holds for the whole call.
absent_before : (names : Option Inputs) (name : List ℕ) (before mid now : ℕ) → before ≤ mid
    → IsAbsent names name mid now → IsAbsent names name before now
absent_before None name before mid now later rose = omega (arith, later, rose)
absent_before (Some inputs) name before mid now later absent = absent

later_implied : (names : Option Inputs) (before mid now given : ℕ) (had has : List Asked) → before ≤ mid
    → Implies (shown_by (record { names = names; before = mid; now = now; given = given; had = had; has = has }))
    (shown_by (record { names = names; before = before; now = now; given = given; had = had; has = has }))
later_implied names before mid now given had has later = record {
  absent = λ name h. (absent_before names name before mid now later h.0, h.1);
  longer = λ name h. h;
  has = λ name bytes h. h;
  last = λ bytes h. h;
  asked = λ readings h. h;
}

-- The reply of a plan, from an input that is read and the reply of the rest.
pub then_reply : (names : Option Inputs) (before mid now given : ℕ) (had has : List Asked) (input : Input) (name : List ℕ)
    (next : List ℕ → input.Value → Plan) (bytes : List ℕ) (value : input.Value) (a : Answer)
    → before ≤ mid → IsNamed names name bytes × (length bytes ≤ GREATEST_INPUT_BYTES) → input.reads bytes (Ok value)
    → (IsWorking (next bytes value) → length bytes ≡ given)
    → IsReplyOf (record { names = names; before = mid; now = now; given = given; had = wholly name bytes ∷ had; has = has }) (next bytes value) a
    → IsReplyOf (record { names = names; before = before; now = now; given = given; had = had; has = has }) (Reading input name next) a
then_reply names before mid now given had has input name next bytes value a later named reads last (inl (rose, small, fault)) =
    let rose' : Rose before now = omega (arith, later, rose) in
    let i = later_implied names before mid now given (wholly name bytes ∷ had) has later in
    inl (rose', small, inr (bytes, value, (named, reads), fault_implied _ _ i (next bytes value) a fault))
then_reply names before mid now given had has input name next bytes value a later named reads last (inr out) =
    let i = later_implied names before mid now given (wholly name bytes ∷ had) has later in
    inr (inr (bytes, value, (named, reads), last, outcome_implied _ _ i (next bytes value) a out))

-- An input that gives no value is refused.
stopped_reason : (k : Known) (input : Input) (name : List ℕ) (a : Answer) → IsStopped k input name a
    → (reason : List ℕ) × (a ≡ refused input.word reason)
stopped_reason k input name a (inl (absent, asked, is)) = (codes "absent", is)
stopped_reason k input name a (inr (inl (part, longer, more, asked, is))) = (codes "toolong", is)
stopped_reason k input name a (inr (inr (bytes, refusal, has, last, asked, reads, is))) = (input.reason refusal, is)

pub stopped_status : (k : Known) (input : Input) (name : List ℕ) (a : Answer) → IsStopped k input name a → a.status ≡ 3
stopped_status k input name a stopped = ap (λ x. x.status) (stopped_reason k input name a stopped).1

-- ---- what was asked for

-- What was asked for if a plan has this outcome: all inputs that it names, or those up to the one that stopped it.
pub record AsksFor (known : Known) (plan : Plan) (three : Type 0) : Type 0 where
  pub readings : List Asked
  pub asked : known.asked readings
  pub are : AsksAll plan readings ⊎ (AsksPart plan readings × three)

-- An input that stops the plan is the last one.
stopped_asks : (k : Known) (input : Input) (name : List ℕ) (next : List ℕ → input.Value → Plan) (a : Answer) (three : Type 0)
    → IsStopped k input name a → three → AsksFor k (Reading input name next) three
stopped_asks k input name next a three (inl (absent, asked, is)) why = record {
  readings = unbegun name Absent ∷ [];
  asked = asked;
  are = inr (inl (unbegun name Absent, refl, refl), why);
}
stopped_asks k input name next a three (inr (inl (part, longer, more, asked, is))) why = record {
  readings = partly name part ∷ [];
  asked = asked;
  are = inr (inl (partly name part, refl, refl), why);
}
stopped_asks k input name next a three (inr (inr (bytes, refusal, has, last, asked, reads, is))) why = record {
  readings = wholly name bytes ∷ [];
  asked = asked;
  are = inr (inl (wholly name bytes, refl, refl), why);
}

-- An input that is read comes before those that are asked for after it.
then_asks : (k : Known) (input : Input) (name bytes : List ℕ) (value : input.Value) (next : List ℕ → input.Value → Plan) (three : Type 0)
    → input.reads bytes (Ok value) → AsksFor (past k (wholly name bytes)) (next bytes value) three → AsksFor k (Reading input name next) three
then_asks k input name bytes value next three reads later = record {
  readings = wholly name bytes ∷ later.readings;
  asked = later.asked;
  are = elim later.are [
    | inl all ↦ inl (bytes, value, later.readings, refl, reads, all)
    | inr (part, why) ↦ inr (inr (bytes, value, later.readings, refl, reads, part), why)
  ];
}

pub outcome_asks : (k : Known) (p : Plan) (a : Answer) → IsOutcomeOf k p a → AsksFor k p (a.status ≡ 3)
outcome_asks k (Working work) a (out, asked) = record { readings = []; asked = asked; are = inl refl }
outcome_asks k (Reading input name next) a (inl stopped) =
    stopped_asks k input name next a (a.status ≡ 3) stopped (stopped_status k input name a stopped)
outcome_asks k (Reading input name next) a (inr (bytes, value, read, last, out)) =
    then_asks k input name bytes value next (a.status ≡ 3) read.1 (outcome_asks (past k (wholly name bytes)) (next bytes value) a out)

pub fault_asks : (k : Known) (p : Plan) (a : Answer) → IsReadFaultOf k p a → AsksFor k p (Unit {0})
fault_asks k (Working work) a fault = absurd fault
fault_asks k (Reading input name next) a (inl ((one, named, asked), is)) =
    record { readings = one ∷ []; asked = asked; are = inr (inl (one, named, refl), tt) }
fault_asks k (Reading input name next) a (inr (bytes, value, read, fault)) =
    then_asks k input name bytes value next (Unit {0}) read.1 (fault_asks (past k (wholly name bytes)) (next bytes value) a fault)

-- ---- inputs that fit what was asked for and given

-- If the reading of an input fits named inputs, its result holds for them.
longer_told : (o : Option (List ℕ)) (part rest : List ℕ) → o ≡ Some (part ++ rest) → GREATEST_INPUT_BYTES < length part
    → IsSomeAnd o (λ bytes. GREATEST_INPUT_BYTES < length bytes)
longer_told o part rest is more =
    let all : GREATEST_INPUT_BYTES < length (part ++ rest) = omega (arith, more, length-append part rest) in
    subst (λ (x : Option (List ℕ)). IsSomeAnd x (λ bytes. GREATEST_INPUT_BYTES < length bytes)) (sym is) all

stopped_told : (shelf : Shown) (inputs : Inputs)
    → ((readings : List Asked) → shelf.has ≡ readings_after shelf.had readings → FitAll inputs readings)
    → (input : Input) (name : List ℕ) (a : Answer) → IsStopped (shown_by shelf) input name a → IsStopped (told inputs) input name a
stopped_told shelf inputs fit input name a (inl (absent, asked, is)) = inl ((fit (unbegun name Absent ∷ []) asked).0, tt, is)
stopped_told shelf inputs fit input name a (inr (inl (part, longer, more, asked, is))) =
    let cut = (fit (partly name part ∷ []) asked).0 in
    inr (inl (part, longer_told (bytes_of inputs name) part cut.0 cut.1 more, more, tt, is))
stopped_told shelf inputs fit input name a (inr (inr (bytes, refusal, has, last, asked, reads, is))) =
    inr (inr (bytes, refusal, ((fit (wholly name bytes ∷ []) asked).0, has.1), tt, tt, reads, is))

-- The shelf after one more input was asked for.
abbrev shelf_past : Shown → Asked → Shown
shelf_past shelf one = record {
  names = shelf.names;
  before = shelf.before;
  now = shelf.now;
  given = shelf.given;
  had = one ∷ shelf.had;
  has = shelf.has;
}

-- So the outcome is the outcome for the inputs that fit.
fitting_told : (p : Plan) (shelf : Shown) (inputs : Inputs)
    → ((readings : List Asked) → shelf.has ≡ readings_after shelf.had readings → FitAll inputs readings)
    → (a : Answer) → IsOutcomeOf (shown_by shelf) p a → IsOutcomeOf (told inputs) p a
fitting_told (Working work) shelf inputs fit a (out, asked) = (out, tt)
fitting_told (Reading input name next) shelf inputs fit a (inl stopped) = inl (stopped_told shelf inputs fit input name a stopped)
fitting_told (Reading input name next) shelf inputs fit a (inr (bytes, value, read, last, out)) =
    let one : Asked = wholly name bytes in
    let then : Shown = shelf_past shelf one in
    let asks = outcome_asks (shown_by then) (next bytes value) a out in
    let own : bytes_of inputs name ≡ Some bytes = (fit (one ∷ asks.readings) asks.asked).0 in
    inr (
      bytes,
      value,
      ((own, read.0.1), read.1),
      (λ works. tt),
      fitting_told (next bytes value) then inputs (λ later is. (fit (one ∷ later) is).1) a out,
    )

pub outcome_told : (p : Plan) (shelf : Shown) (inputs : Inputs) → AreInputs shelf inputs → (a : Answer)
    → IsOutcomeOf (shown_by shelf) p a → IsOutcomeOf (told inputs) p a
outcome_told p shelf inputs (inl tells) a out = outcome_implied (shown_by shelf) (told inputs) (told_implied shelf inputs tells) p a out
outcome_told p shelf inputs (inr fit) a out = fitting_told p shelf inputs fit a out

-- Statuses that the outcome of words with a form may have.
pub record IsPlain (a : Answer) : Type 0 where
  pub words : a.status ≢ 2
  pub fault : a.status ≢ 4
  pub most : a.status ≤ 6

abbrev is_plain : ℕ → Bool
is_plain n = nat_le n 6 && (not (n == 2) && not (n == 4))

pub plain_is : (a : Answer) (n : ℕ) → a.status ≡ n → is_plain n ≡ true → IsPlain a
plain_is a n is plain =
    let parts = and_parts (nat_le n 6) (not (n == 2) && not (n == 4)) plain in
    let others = and_parts (not (n == 2)) (not (n == 4)) parts.1 in
    record {
      words = λ h. eqb-false n 2 (not-true (n == 2) others.0) (sym is ∙ h);
      fault = λ h. eqb-false n 4 (not-true (n == 4) others.1) (sym is ∙ h);
      most = omega (arith, is, leb-true n 6 parts.0);
    }

pub plain_of_status : (a : Answer) → (a.status ≡ 0) ⊎ (a.status ≡ 1) → IsPlain a
plain_of_status a (inl zero) = plain_is a 0 zero refl
plain_of_status a (inr one) = plain_is a 1 one refl

-- An answer of another status doesn't have status 0.
pub not_zero : {a b : Answer} (n : ℕ) → a ≡ b → b.status ≡ suc n → a.status ≡ 0 → ⊥
not_zero n is other zero = let same = ap (λ (x : Answer). x.status) is in absurd (omega (arith, same, other, zero))

pub at_most_one : (a : Answer) → (a.status ≡ 0) ⊎ (a.status ≡ 1) → a.status ≤ 1
at_most_one a (inl zero) = omega (arith, zero)
at_most_one a (inr one) = omega (arith, one)

-- Are bytes read in one way?
abbrev pub ReadsOnce : Input → Type 0
ReadsOnce input = (bytes : List ℕ) (r s : Result input.Value input.Refusal) → input.reads bytes r → input.reads bytes s → r ≡ s

-- Does the work have at most one answer under its condition for that? Does each answer have such a status, which is 0 or 1 under the other
-- condition?
pub record IsLawfulWork (work : Work) : Type 0 where
  pub one : work.one → (a b : Answer) → work.answers a → work.answers b → a ≡ b
  pub plain : (a : Answer) → work.answers a → IsPlain a
  pub well : work.ends → (a : Answer) → work.answers a → (a.status ≡ 0) ⊎ (a.status ≡ 1)

abbrev pub IsLawful : Plan → Type 0
IsLawful (Working work) = IsLawfulWork work
IsLawful (Reading input name next) = ReadsOnce input × ((bytes : List ℕ) (value : input.Value) → IsLawful (next bytes value))

-- Named bytes are not too long.
not_longer : (o : Option (List ℕ)) (bytes : List ℕ) → o ≡ Some bytes → length bytes ≤ GREATEST_INPUT_BYTES
    → IsSomeAnd o (λ b. GREATEST_INPUT_BYTES < length b) → ⊥
not_longer o bytes some short longer =
    let more : GREATEST_INPUT_BYTES < length bytes =
    subst (λ (x : Option (List ℕ)). IsSomeAnd x (λ b. GREATEST_INPUT_BYTES < length b)) some longer in
    absurd (omega (arith, short, more))

absent_not_longer : (o : Option (List ℕ)) → o ≡ None → IsSomeAnd o (λ b. GREATEST_INPUT_BYTES < length b) → ⊥
absent_not_longer o none longer = subst (λ (x : Option (List ℕ)). IsSomeAnd x (λ b. GREATEST_INPUT_BYTES < length b)) none longer

-- Two readings of the same bytes are the same.
same_reading : (input : Input) → ReadsOnce input → (bytes other : List ℕ) (r s : Result input.Value input.Refusal)
    → bytes ≡ other → input.reads bytes r → input.reads other s → r ≡ s
same_reading input once bytes other r s same p q = once other r s (subst (λ (x : List ℕ). input.reads x r) same p) q

ok_not_err : {A B : Type 0} (a : A) (b : B) (x : Result A B) → Ok a ≡ x → x ≡ Err b → ⊥
ok_not_err a b (Ok y) p q = cc
ok_not_err a b (Err y) p q = cc

same_ok : {A B : Type 0} (a b : A) (x y : Result A B) → x ≡ Ok a → y ≡ Ok b → x ≡ y → a ≡ b
same_ok a b x y p q same = cc

same_err : {A B : Type 0} (a b : B) (x y : Result A B) → x ≡ Err a → y ≡ Err b → x ≡ y → a ≡ b
same_err a b x y p q same = cc

-- An input that is read doesn't stop the plan.
not_stopped : (inputs : Inputs) (input : Input) (name bytes : List ℕ) (value : input.Value) (a : Answer)
    → ReadsOnce input → IsRead (told inputs) input name bytes value
    → IsStopped (told inputs) input name a → ⊥
not_stopped inputs input name bytes value a once read (inl (absent, asked, is)) = none-some bytes (sym absent ∙ read.0.0)
not_stopped inputs input name bytes value a once read (inr (inl (part, longer, more, asked, is))) =
    not_longer (bytes_of inputs name) bytes read.0.0 read.0.1 longer
not_stopped inputs input name bytes value a once read (inr (inr (other, refusal, has, last, asked, reads, is))) =
    ok_not_err value refusal (Err refusal)
    (same_reading input once bytes other (Ok value) (Err refusal)
    (same_Some bytes other (sym read.0.0 ∙ has.0)) read.1 reads) refl

-- If an input is read, the outcome is that of the rest.
pub rest_of : (inputs : Inputs) (input : Input) (name : List ℕ) (next : List ℕ → input.Value → Plan) (bytes : List ℕ)
    (value : input.Value) (a : Answer) → ReadsOnce input
    → IsRead (told inputs) input name bytes value → IsOutcomeOf (told inputs) (Reading input name next) a
    → IsOutcomeOf (told inputs) (next bytes value) a
rest_of inputs input name next bytes value a once read (inl stopped) =
    absurd (not_stopped inputs input name bytes value a once read stopped)
rest_of inputs input name next bytes value a once read (inr (other, found, has, last, out)) =
    let same : other ≡ bytes = same_Some other bytes (sym has.0.0 ∙ read.0.0) in
    let both : Ok found ≡ Ok value = same_reading input once other bytes (Ok found) (Ok value) same has.1 read.1 in
    let values : found ≡ value = same_ok found value (Ok found) (Ok value) refl refl both in
    subst (λ (x : input.Value). IsOutcomeOf (told inputs) (next bytes x) a) values
    (subst (λ (x : List ℕ). IsOutcomeOf (told inputs) (next x found) a) same out)

stopped_once : (inputs : Inputs) (input : Input) (name : List ℕ) (a b : Answer) → ReadsOnce input
    → IsStopped (told inputs) input name a → IsStopped (told inputs) input name b → a ≡ b
stopped_once inputs input name a b once (inl (absent, asked, is)) (inl (absent', asked', is')) = is ∙ sym is'
stopped_once inputs input name a b once (inl (absent, asked, is)) (inr (inl (part, longer, more, asked', is'))) =
    absurd (absent_not_longer (bytes_of inputs name) absent longer)
stopped_once inputs input name a b once (inl (absent, asked, is)) (inr (inr (bytes, refusal, has, last, asked', reads, is'))) =
    absurd (none-some bytes (sym absent ∙ has.0))
stopped_once inputs input name a b once (inr (inl (part, longer, more, asked, is))) (inl (absent, asked', is')) =
    absurd (absent_not_longer (bytes_of inputs name) absent longer)
stopped_once inputs input name a b once (inr (inl (part, longer, more, asked, is))) (inr (inl (part', longer', more', asked', is'))) = is ∙ sym is'
stopped_once inputs input name a b once (inr (inl (part, longer, more, asked, is))) (inr (inr (bytes, refusal, has, last, asked', reads, is'))) =
    absurd (not_longer (bytes_of inputs name) bytes has.0 has.1 longer)
stopped_once inputs input name a b once (inr (inr (bytes, refusal, has, last, asked, reads, is))) (inl (absent, asked', is')) =
    absurd (none-some bytes (sym absent ∙ has.0))
stopped_once inputs input name a b once (inr (inr (bytes, refusal, has, last, asked, reads, is))) (inr (inl (part, longer, more, asked', is'))) =
    absurd (not_longer (bytes_of inputs name) bytes has.0 has.1 longer)
stopped_once inputs input name a b once (inr (inr (bytes, refusal, has, last, asked, reads, is)))
    (inr (inr (other, found, has', last', asked', reads', is'))) =
    let same : bytes ≡ other = same_Some bytes other (sym has.0 ∙ has'.0) in
    let both : Err refusal ≡ Err found = same_reading input once bytes other (Err refusal) (Err found) same reads reads' in
    is ∙ ap (λ r. refused input.word (input.reason r)) (same_err refusal found (Err refusal) (Err found) refl refl both) ∙ sym is'

-- Named inputs have at most one outcome if the plan has at most one answer.
pub one_of_plan : (inputs : Inputs) (p : Plan) → IsLawful p → HasOneAnswer (told inputs) p → (a b : Answer) → IsOutcomeOf (told inputs) p a
    → IsOutcomeOf (told inputs) p b → a ≡ b
one_of_plan inputs (Working work) lawful one a b out out' = lawful.one one a b out.0 out'.0
one_of_plan inputs (Reading input name next) lawful one a b (inl stopped) (inl stopped') =
    stopped_once inputs input name a b lawful.0 stopped stopped'
one_of_plan inputs (Reading input name next) lawful one a b (inl stopped) (inr (bytes, value, read, last, out)) =
    absurd (not_stopped inputs input name bytes value a lawful.0 read stopped)
one_of_plan inputs (Reading input name next) lawful one a b (inr (bytes, value, read, last, out)) other =
    one_of_plan inputs (next bytes value) (lawful.1 bytes value) (one bytes value read) a b out
    (rest_of inputs input name next bytes value b lawful.0 read other)

-- The statuses of answers.
pub stopped_not_zero : (k : Known) (input : Input) (name : List ℕ) (a : Answer) → IsStopped k input name a → a.status ≡ 0 → ⊥
stopped_not_zero k input name a stopped zero = absurd (omega (arith, stopped_status k input name a stopped, zero))

pub plan_plain : (k : Known) (p : Plan) → IsLawful p → (a : Answer) → IsOutcomeOf k p a → IsPlain a
plan_plain k (Working work) lawful a out = lawful.plain a out.0
plan_plain k (Reading input name next) lawful a (inl stopped) =
    plain_is a 3 (stopped_status k input name a stopped) refl
plan_plain k (Reading input name next) lawful a (inr (bytes, value, read, last, out)) =
    plan_plain (past k (wholly name bytes)) (next bytes value) (lawful.1 bytes value) a out

pub fault_status : (k : Known) (p : Plan) (a : Answer) → IsReadFaultOf k p a → a.status ≡ 4
fault_status k (Working work) a fault = absurd fault
fault_status k (Reading input name next) a (inl (one, is)) = ap (λ x. x.status) is
fault_status k (Reading input name next) a (inr (bytes, value, read, fault)) =
    fault_status (past k (wholly name bytes)) (next bytes value) a fault

-- If every input is there and accepted and the work ends well, the status is 0 or 1.
pub plan_well : (inputs : Inputs) (p : Plan) → IsLawful p → EndsWell (told inputs) p → (a : Answer)
    → IsOutcomeOf (told inputs) p a → (a.status ≡ 0) ⊎ (a.status ≡ 1)
plan_well inputs (Working work) lawful ends a out = lawful.well ends a out.0
plan_well inputs (Reading input name next) lawful (bytes, value, read, ends) a out =
    plan_well inputs (next bytes value) (lawful.1 bytes value) ends a (rest_of inputs input name next bytes value a lawful.0 read out)

-- If more bytes were given than an input may have, the outcome is that an input is too long.
pub plan_longer : (shelf : Shown) (p : Plan) → (IsWorking p → ⊥) → (a : Answer) → IsOutcomeOf (shown_by shelf) p a
    → GREATEST_INPUT_BYTES < shelf.given
    → (word : List ℕ) × (a ≡ refused word (codes "toolong"))
plan_longer shelf (Working work) more a out long = absurd (more tt)
plan_longer shelf (Reading input name next) more a (inl (inl (absent, asked, is))) long =
    let small = absent.1 in absurd (omega (arith, small, long))
plan_longer shelf (Reading input name next) more a (inl (inr (inl (part, longer, past_limit, asked, is)))) long = (input.word, is)
plan_longer shelf (Reading input name next) more a (inl (inr (inr (bytes, refusal, has, last, asked, reads, is)))) long =
    let short = has.1 in absurd (omega (arith, short, last, long))
plan_longer shelf (Reading input name next) more a (inr (bytes, value, read, last, out)) long =
    let short = read.0.1 in
    plan_longer (shelf_past shelf (wholly name bytes)) (next bytes value) (λ working. (let given = last working in absurd (omega (arith, short, given, long)))) a out long
