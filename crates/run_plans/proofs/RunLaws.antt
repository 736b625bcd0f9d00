-- What is true of a call, from what was replied and what was written.
use Rattle.std.proofs.Common.{◌≡◌, ◌≢◌, ℕ, ◌+◌, ◌<◌, ◌≤◌, ◌↔◌, List, [], length, refl, sym, ◌∙◌, ap, subst, arith, inl, inr, ◌⊎◌, Some, None}
use Rattle.std.specs.Prelude.{Option, MatchOption, codes}
use Rattle.std.proofs.lemmas.Option.{none-some, same_Some}
use Rattle.outside_ports.specs.Counts.{Rose}
use Rattle.outside_ports.specs.Names.{Inputs}
use Rattle.outside_ports.specs.Past.{Asked}
use Rattle.outside_ports.specs.declared.whole.TheConstants.{GREATEST_INPUT_BYTES}
use Rattle.sha2.specs.Sha256.{sha256}
use Rattle.program_form.specs.Certificate.{DualDef}
use Rattle.sporadic_model.specs.SetDef.{SetDef}
use Rattle.sporadic_model.specs.Accepted.{IsAccepted}
use Rattle.protocol_names.specs.declared.ProtocolName.{ProtocolName}
use Rattle.response_fixpoint.specs.Rounds.{Ending, Schedulable, NotShown, Wide, Allowance, EndsIn}
use Rattle.response_fixpoint.specs.Runs.{rounds_of, RequestsNothing}
use Rattle.named_laws.specs.Named.{source_of}
use Rattle.response_fixpoint.proofs.EndLaws.{schedulable_best, not_shown_none}
use Rattle.named_laws.proofs.EachName.{named_above, named_no_columns}
use Rattle.response_fixpoint.proofs.RunLaws.{rounds_never_wide}
use Rattle.program_sources.specs.Fitting.{AreFitting}
use Rattle.command_inputs.specs.Known.{Answer, refused, Shown, shown_by, told, AreInputs}
use Rattle.run_plans.specs.Plans.{Working, IsWorking, HasOneAnswer, IsOutcomeOf, AsksAll, AsksPart}
use Rattle.command_words.specs.Words.{Form, Analyse, Refute, Settle, Check, Confirm, Upgrade, Audit, form_of}
use Rattle.command_words.specs.Spelled.{analyse_words, refute_words, settle_words, check_words, confirm_words}
use Rattle.command_words.proofs.SpelledLaws.{analyse_has_form, analyse_is_form, refute_has_form, check_is_form, confirm_is_form}
use Rattle.command_words.proofs.SpelledLaws.{settle_has_form, settle_is_form, upgrade_is_form, audit_is_form}
use Rattle.command_inputs.specs.Inputs.{set_input}
use Rattle.run_plans.specs.Commands.{ending_answer, IsAnalysis, analysis_of, plan_of}
use Rattle.run_plans.specs.Outcome.{refused_words, IsOutcome, HasOneOutcome, IsReplyOf, IsReply}
use Rattle.run_plans.specs.Headline.{Call, Asks, RanOut, WritesSchedulable, Analyses, IsHeadline, IsProvedAnalysis, IsProvedCheck}
use Rattle.run_plans.specs.Run.{shelf_of, Gives, FailsToWrite, Replies, GivesOutcome, AsksInOrder, IsRun, RoundsEnd, IsWideEnding, IsShortEnding}
use Rattle.run_plans.proofs.PlanLaws.{not_zero, outcome_told, outcome_asks, fault_asks, rest_of, one_of_plan, plan_plain, plan_well}
use Rattle.run_plans.proofs.PlanLaws.{plan_longer, fault_status, at_most_one}
use Rattle.run_plans.proofs.InputLaws.{set_reads_once}
use Rattle.run_plans.proofs.CommandLaws.{lawful, of_form, ending_tells, only_wide, only_short}
use Rattle.run_plans.proofs.WorkLaws.{told_wide}
use Rattle.run_plans.proofs.SoundLaws.{sound_outcome}
use Rattle.run_plans.proofs.ShownLaws.{best_writes, proved_analysis, bounded_analysis, proved_check}
use Rattle.run_plans.proofs.BoundLaws.{check_bounds}
use Rattle.run_plans.proofs.OnClocks.{analysis_on_clocks, settlement_on_clocks, check_on_clocks, not_on_clocks}
use Rattle.run_plans.proofs.KeptLaws.{proved_audit}
use Rattle.run_plans.proofs.RefusedLaws.{proved_refutation, proved_confirmation}
use Rattle.run_plans.specs.Refused.{IsProvedRefutation, IsProvedConfirmation}
use Rattle.run_plans.specs.Settled.{SettlesExactly, IsSettling, IsProvedSettlement, IsLeftWide, IsLeftShort}
use Rattle.run_plans.proofs.SettledLaws.{proved_settlement, bounded_settlement, proved_settled_refusal, left_wide, left_short, settle_allows}
use Rattle.run_plans.proofs.SettledLaws.{outcome_exactly}
use Rattle.run_plans.proofs.UpgradedLaws.{proved_upgrade}
use Rattle.run_plans.proofs.SetTextLaws.{told_reads}

-- What follows from a reply to words of this form, or of none.
pub record Replied (shelf : Shown) (o : Option Form) (a : Answer) : Type 0 where
  pub two : a.status ≡ 2 → o ≡ None
  pub none : o ≡ None → a ≡ refused_words
  pub four : a.status ≡ 4 → Rose shelf.before shelf.now
  pub five : a.status ≡ 5 → (form : Form) × (o ≡ Some form) × RoundsEnd (shown_by shelf) form IsWideEnding
  pub six : a.status ≡ 6 → (form : Form) × (o ≡ Some form) × RoundsEnd (shown_by shelf) form (IsShortEnding form)
  pub most : a.status ≤ 6
  pub long : (form : Form) → o ≡ Some form → (IsWorking (plan_of form) → ⊥) → GREATEST_INPUT_BYTES < shelf.given
      → (word : List ℕ) × (a ≡ refused word (codes "toolong"))
  pub shows : (form : Form) → o ≡ Some form → (a.status ≡ 0) ⊎ (a.status ≡ 1) → IsOutcomeOf (shown_by shelf) (plan_of form) a
  pub stop_shows : (form : Form) → o ≡ Some form → (a.status ≡ 5) ⊎ (a.status ≡ 6) → IsOutcomeOf (shown_by shelf) (plan_of form) a
  pub asks : (readings : List Asked) × (shown_by shelf).asked readings × MatchOption o (readings ≡ [])
      (λ form. AsksAll (plan_of form) readings ⊎ (AsksPart (plan_of form) readings × ((a.status ≡ 3) ⊎ (a.status ≡ 4))))
  pub outcome : (inputs : Inputs) → AreInputs shelf inputs
      → (MatchOption o (a ≡ refused_words) (λ form. IsOutcomeOf (told inputs) (plan_of form) a))
      ⊎ (Rose shelf.before shelf.now × (a.status ≡ 4))

pub replied : (shelf : Shown) (o : Option Form) (a : Answer)
    → MatchOption o ((a ≡ refused_words) × (shelf.has ≡ shelf.had)) (λ form. IsReplyOf shelf (plan_of form) a) → Replied shelf o a
replied shelf None a (is, none) =
    let two : a.status ≡ 2 = ap (λ x. x.status) is in
    record {
      two = λ e. refl;
      none = λ e. is;
      four = λ e. absurd (omega (arith, two, e));
      five = λ e. absurd (omega (arith, two, e));
      six = λ e. absurd (omega (arith, two, e));
      most = omega (arith, two);
      long = λ form some more long. absurd (none-some form some);
      shows = λ form some verdict. absurd (none-some form some);
      stop_shows = λ form some e. absurd (none-some form some);
      asks = ([], none, refl);
      outcome = λ inputs tells. inl is;
    }
replied shelf (Some form) a (inl (rose, small, fault)) =
    let four : a.status ≡ 4 = fault_status (shown_by shelf) (plan_of form) a fault in
    record {
      two = λ e. absurd (omega (arith, four, e));
      none = λ e. absurd (none-some form (sym e));
      four = λ e. rose;
      five = λ e. absurd (omega (arith, four, e));
      six = λ e. absurd (omega (arith, four, e));
      most = omega (arith, four);
      long = λ other some more long. absurd (omega (arith, small, long));
      shows = λ other some verdict. absurd (omega (arith, four, at_most_one a verdict));
      stop_shows = λ other some e. elim e [ inl five ↦ absurd (omega (arith, four, five)) | inr six ↦ absurd (omega (arith, four, six)) ];
      asks = (
          let asks = fault_asks (shown_by shelf) (plan_of form) a fault in
          (asks.readings, asks.asked, elim asks.are [ inl all ↦ inl all | inr (part, why) ↦ inr (part, inr four) ]));
      outcome = λ inputs tells. inr (rose, four);
    }
replied shelf (Some form) a (inr out) =
    let plain = plan_plain (shown_by shelf) (plan_of form) (lawful form) a out in
    record {
      two = λ e. absurd (plain.words e);
      none = λ e. absurd (none-some form (sym e));
      four = λ e. absurd (plain.fault e);
      five = λ e. (form, refl, only_wide (shown_by shelf) form a out e);
      six = λ e. (form, refl, only_short (shown_by shelf) form a out e);
      most = plain.most;
      long = λ other some more long. (
          let same : form ≡ other = same_Some form other some in
          plan_longer shelf (plan_of form) (λ w. more (subst (λ (x : Form). IsWorking (plan_of x)) same w)) a out long);
      shows = λ other some verdict. subst (λ (x : Form). IsOutcomeOf (shown_by shelf) (plan_of x) a) (same_Some form other some) out;
      stop_shows = λ other some e. subst (λ (x : Form). IsOutcomeOf (shown_by shelf) (plan_of x) a) (same_Some form other some) out;
      asks = (
          let asks = outcome_asks (shown_by shelf) (plan_of form) a out in
          (asks.readings, asks.asked, elim asks.are [ inl all ↦ inl all | inr (part, three) ↦ inr (part, inl three) ]));
      outcome = λ inputs are. inl (outcome_told (plan_of form) shelf inputs are a out);
    }

-- Words and named inputs have at most one outcome if their plan has at most one answer.
one_of_form : (inputs : Inputs) (o : Option Form) (a b : Answer)
    → MatchOption o (Unit {0}) (λ form. HasOneAnswer (told inputs) (plan_of form))
    → MatchOption o (a ≡ refused_words) (λ form. IsOutcomeOf (told inputs) (plan_of form) a)
    → MatchOption o (b ≡ refused_words) (λ form. IsOutcomeOf (told inputs) (plan_of form) b) → a ≡ b
one_of_form inputs None a b one p q = p ∙ sym q
one_of_form inputs (Some form) a b one p q = one_of_plan inputs (plan_of form) (lawful form) one a b p q

one_outcome : (inputs : Inputs) (words : List (List ℕ)) (a b : Answer) → HasOneOutcome inputs words → IsOutcome inputs words a
    → IsOutcome inputs words b → a ≡ b
one_outcome inputs words a b one p q = one_of_form inputs (form_of words) a b one p q

-- The answer of a call that analyses a set, if the call gives its outcome.
record Ended (protocol : ProtocolName) (digest : List ℕ) (set : SetDef) (allowance : ℕ) (a : Answer) : Type 0 where
  ending : Ending
  ends : EndsIn (rounds_of (source_of protocol set)) allowance ending
  is : a ≡ ending_answer protocol digest set ending

ended : (call : Call) (protocol : ProtocolName) (set : SetDef) (analyses : Analyses call protocol set) (a : Answer)
    → IsOutcome analyses.inputs call.words a → Ended protocol (sha256 analyses.read.bytes) set analyses.allowance a
ended call protocol set analyses a out =
    let form = analyse_is_form call.words protocol analyses.name analyses.more analyses.allowance analyses.words analyses.allows in
    let plan = of_form analyses.inputs call.words (Analyse protocol analyses.name analyses.allowance) a form out in
    let read = analyses.read in
    let analysis : IsAnalysis protocol (sha256 read.bytes) set analyses.allowance a =
    (rest_of analyses.inputs (set_input protocol) analyses.name
    (λ bytes x. Working (analysis_of protocol (sha256 bytes) x analyses.allowance)) read.bytes set a (set_reads_once protocol)
    (told_reads call analyses.inputs protocol analyses.name set read analyses.named_set) plan).0 in
    record { ending = analysis.0; ends = analysis.1; is = analysis.2 }

writes : (call : Call) (protocol : ProtocolName) (digest : List ℕ) (set : SetDef) (allowance : ℕ) (bounds : List ℕ) (duals : List DualDef)
    (a : Answer) → IsAccepted set → EndsIn (rounds_of (source_of protocol set)) allowance (Schedulable bounds duals)
    → a ≡ ending_answer protocol digest set (Schedulable bounds duals) → Gives call a → WritesSchedulable call protocol digest set
writes call protocol digest set allowance bounds duals a accepted ends is gives =
    let best = schedulable_best (source_of protocol set) allowance bounds duals (named_above protocol set) ends in
    let moved : Gives call (ending_answer protocol digest set (Schedulable bounds duals)) = subst (λ (x : Answer). Gives call x) is gives in
    best_writes call protocol digest set (record { bounds = bounds; duals = duals }) accepted best moved.0 moved.1

-- The headline's fields `least` and `none`, for a call that gives its answer.
least_of : (call : Call) (protocol : ProtocolName) (digest : List ℕ) (set : SetDef) (n : ℕ) (e : Ending) (a : Answer)
    → IsAccepted set → EndsIn (rounds_of (source_of protocol set)) n e → a ≡ ending_answer protocol digest set e → Gives call a → call.status ≡ 0
    → WritesSchedulable call protocol digest set
least_of call protocol digest set n (Schedulable bounds duals) a accepted ends is gives zero = writes call protocol digest set n bounds duals a accepted ends is gives
least_of call protocol digest set n (NotShown i value) a accepted ends is gives zero = absurd (not_zero 0 is refl (sym gives.0 ∙ zero))
least_of call protocol digest set n (Wide i) a accepted ends is gives zero = absurd (not_zero 4 is refl (sym gives.0 ∙ zero))
least_of call protocol digest set n Allowance a accepted ends is gives zero = absurd (not_zero 5 is refl (sym gives.0 ∙ zero))

none_of : (call : Call) (protocol : ProtocolName) (digest : List ℕ) (set : SetDef) (n : ℕ) (e : Ending) (a : Answer)
    → EndsIn (rounds_of (source_of protocol set)) n e → a ≡ ending_answer protocol digest set e → Gives call a → call.status ≡ 1
    → (s : List ℕ) → AreFitting (source_of protocol set) s → ⊥
none_of call protocol digest set n (Schedulable bounds duals) a ends is gives one =
    let s : a.status ≡ 0 = ap (λ x. x.status) is in absurd (omega (arith, gives.0))
none_of call protocol digest set n (NotShown i value) a ends is gives one =
    not_shown_none (source_of protocol set) n i value (named_above protocol set) ends
none_of call protocol digest set n (Wide i) a ends is gives one = let s : a.status ≡ 5 = ap (λ x. x.status) is in absurd (omega (arith, gives.0))
none_of call protocol digest set n Allowance a ends is gives one = let s : a.status ≡ 6 = ap (λ x. x.status) is in absurd (omega (arith, gives.0))

exactly_of : (call : Call) (protocol : ProtocolName) (digest : List ℕ) (set : SetDef) (n : ℕ) (e : Ending) (a : Answer)
    → IsAccepted set → EndsIn (rounds_of (source_of protocol set)) n e → a ≡ ending_answer protocol digest set e → Gives call a
    → call.status ≢ 5 → call.status ≢ 6 → WritesSchedulable call protocol digest set ↔ ((s : List ℕ) × AreFitting (source_of protocol set) s)
exactly_of call protocol digest set n (Schedulable bounds duals) a accepted ends is gives no_wide no_allowance =
    (λ w. (w.certificate.bounds, w.least.fitting), λ fits. writes call protocol digest set n bounds duals a accepted ends is gives)
exactly_of call protocol digest set n (NotShown i value) a accepted ends is gives no_wide no_allowance = (
  λ w. (w.certificate.bounds, w.least.fitting),
  λ fits. absurd (not_shown_none (source_of protocol set) n i value (named_above protocol set) ends fits.0 fits.1),
)
exactly_of call protocol digest set n (Wide i) a accepted ends is gives no_wide no_allowance = absurd (no_wide (gives.0 ∙ ap (λ x. x.status) is))
exactly_of call protocol digest set n Allowance a accepted ends is gives no_wide no_allowance = absurd (no_allowance (gives.0 ∙ ap (λ x. x.status) is))

headline_of : (call : Call) (protocol : ProtocolName) (digest : List ℕ) (set : SetDef) (n : ℕ) (a : Answer) → IsAccepted set → Ended protocol digest set n a
    → Gives call a → IsHeadline call protocol digest set
headline_of call protocol digest set n a accepted e gives = record {
  exactly = λ shelf sink ran no_wide no_allowance. exactly_of call protocol digest set n e.ending a accepted e.ends e.is gives no_wide no_allowance;
  least = least_of call protocol digest set n e.ending a accepted e.ends e.is gives;
  none = none_of call protocol digest set n e.ending a e.ends e.is gives;
}

-- An analysis of a set that requests nothing is never wide.
never_five : (protocol : ProtocolName) (digest : List ℕ) (set : SetDef) (n : ℕ) (a : Answer) → Ended protocol digest set n a → RequestsNothing set → a.status ≡ 5 → ⊥
never_five protocol digest set n a e nothing five =
    let wide = told_wide e.ending a (ending_tells protocol digest set e.ending a e.is) five in
    rounds_never_wide (source_of protocol set) n wide.0 (named_no_columns protocol set nothing)
    (subst (λ (x : Ending). EndsIn (rounds_of (source_of protocol set)) n x) wide.1 e.ends)

-- A call that ends with a fault or without memory has no other status.
apart : (call : Call) (n : ℕ) → ((call.status ≡ 4) ⊎ RanOut call) → n ≢ 4 → n ≢ 7 → call.status ≡ n → ⊥
apart call n (inl f) four seven is = four (sym is ∙ f)
apart call n (inr ran) four seven is = seven (sym is ∙ ran.status)

-- The headline for a call that ends with a fault or without memory, from its cause.
other_headline : (call : Call) (protocol : ProtocolName) (digest : List ℕ) (set : SetDef) → ((call.status ≡ 4) ⊎ RanOut call)
    → (Rose call.shelf_before.faults call.shelf_now.faults ⊎ (Rose call.sink_before.faults call.sink_now.faults ⊎ RanOut call))
    → IsHeadline call protocol digest set
other_headline call protocol digest set status cause = record {
  exactly = λ no_shelf no_sink no_want no_wide no_allowance. elim cause [
    | inl shelf ↦ absurd (no_shelf shelf)
    | inr other ↦ elim other [ inl sink ↦ absurd (no_sink sink) | inr ran ↦ absurd (no_want ran) ]
  ];
  least = λ zero. absurd (apart call 0 status (λ e. absurd (omega (arith, e))) (λ e. absurd (omega (arith, e))) zero);
  none = λ one. absurd (apart call 1 status (λ e. absurd (omega (arith, e))) (λ e. absurd (omega (arith, e))) one);
}

-- If a count of faults rose or memory ran out, `SettlesExactly` holds, since one of its premises fails.
caused : (call : Call) (protocol : ProtocolName) (digest : List ℕ) (set : SetDef)
    → (Rose call.shelf_before.faults call.shelf_now.faults ⊎ (Rose call.sink_before.faults call.sink_now.faults ⊎ RanOut call))
    → SettlesExactly call protocol digest set
caused call protocol digest set (inl shelf) no_shelf no_sink no_want no_wide no_allowance = absurd (no_shelf shelf)
caused call protocol digest set (inr (inl sink)) no_shelf no_sink no_want no_wide no_allowance = absurd (no_sink sink)
caused call protocol digest set (inr (inr ran)) no_shelf no_sink no_want no_wide no_allowance = absurd (no_want ran)

-- The same for a call that settles a set.
other_settling : (call : Call) → ((call.status ≡ 4) ⊎ RanOut call)
    → (Rose call.shelf_before.faults call.shelf_now.faults ⊎ (Rose call.sink_before.faults call.sink_now.faults ⊎ RanOut call))
    → IsSettling call
other_settling call status cause = record {
  least = λ protocol name more words zero.
      absurd (apart call 0 status (λ e. absurd (omega (arith, e))) (λ e. absurd (omega (arith, e))) zero);
  refused = λ protocol name more words one.
      absurd (apart call 1 status (λ e. absurd (omega (arith, e))) (λ e. absurd (omega (arith, e))) one);
  wide = λ protocol name more words five.
      absurd (apart call 5 status (λ e. absurd (omega (arith, e))) (λ e. absurd (omega (arith, e))) five);
  short = λ protocol name more words six.
      absurd (apart call 6 status (λ e. absurd (omega (arith, e))) (λ e. absurd (omega (arith, e))) six);
  exactly = λ protocol set settles. caused call protocol (sha256 settles.read.bytes) set cause;
}

-- Readings that fit one status fit another, if the other is 3 or 4 whenever the first is.
asks_with : (o : Option Form) (readings : List Asked) (m n : ℕ) → ((m ≡ 3) ⊎ (m ≡ 4) → (n ≡ 3) ⊎ (n ≡ 4))
    → MatchOption o (readings ≡ []) (λ form. AsksAll (plan_of form) readings ⊎ (AsksPart (plan_of form) readings × ((m ≡ 3) ⊎ (m ≡ 4))))
    → MatchOption o (readings ≡ []) (λ form. AsksAll (plan_of form) readings ⊎ (AsksPart (plan_of form) readings × ((n ≡ 3) ⊎ (n ≡ 4))))
asks_with None readings m n so are = are
asks_with (Some form) readings m n so (inl all) = inl all
asks_with (Some form) readings m n so (inr (part, why)) = inr (part, so why)

-- A call whose reply went out whole.
gave_run : (call : Call) (replies : Replies call) → Replied (shelf_of call) (form_of call.words) replies.reply
    → Gives call replies.reply → IsRun call
gave_run call replies r gives =
    let a = replies.reply in
    let is : call.status ≡ a.status = gives.0 in
    record {
      answers = inl replies;
      refused_words = λ e. r.two (sym is ∙ e);
      no_form = λ none. inl (is ∙ ap (λ x. x.status) (r.none none));
      faults = λ e. inl (r.four (sym is ∙ e));
      want = λ e. (let most = r.most in absurd (omega (arith, most, is, e)));
      asked = inl (asked_of r.asks);
      exactly = λ inputs b has one out. elim (r.outcome inputs has) [
        | inl mine ↦ inl (subst (λ (x : Answer). Gives call x) (one_outcome inputs call.words a b one mine out) gives)
        | inr fault ↦ inr (inl (is ∙ fault.1))
      ];
      wide = λ e. r.five (sym is ∙ e);
      never_wide = λ protocol set analyses nothing e. elim (r.outcome analyses.inputs analyses.has) [
        | inl mine ↦ never_five protocol (sha256 analyses.read.bytes) set analyses.allowance a (ended call protocol set analyses a mine) nothing (sym is ∙ e)
        | inr fault ↦ absurd (omega (arith, is, fault.1, e))
      ];
      allowance = λ e. r.six (sym is ∙ e);
      complete = λ inputs form premise. elim (r.outcome inputs premise.has) [
        | inl mine ↦ inl (well inputs form premise.form_is mine (plan_well inputs (plan_of form) (lawful form)
            premise.ends a (of_form inputs call.words form a premise.form_is mine)))
        | inr fault ↦ absurd (premise.shelf fault.0)
      ];
      headline = λ protocol set analyses. elim (r.outcome analyses.inputs analyses.has) [
        | inl mine ↦ headline_of call protocol (sha256 analyses.read.bytes) set analyses.allowance a analyses.read.text.accepted (ended call protocol set analyses a mine) gives
        | inr fault ↦ other_headline call protocol (sha256 analyses.read.bytes) set (inl (is ∙ fault.1)) (inl fault.0)
      ];
      sound = λ protocol set c checks zero. elim (r.outcome checks.inputs checks.has) [
        | inl mine ↦ sound_outcome call protocol set c checks a
            (of_form checks.inputs call.words (Check protocol checks.name checks.cert) a
            (check_is_form call.words protocol checks.name checks.cert checks.words) mine)
            (sym is ∙ zero)
        | inr fault ↦ absurd (omega (arith, is, fault.1, zero))
      ];
      analysed = analysed;
      checked = checked;
      bounding = record {
        analysed = λ protocol name more words zero. (
            let form = analyse_has_form call.words protocol name more words (some_form zero) in
            bounded_analysis call protocol name form.0 a (r.shows (Analyse protocol name form.0) form.1 (inl (sym is ∙ zero))) gives zero);
        settled = λ protocol name more words zero. (
            let form = settle_has_form call.words protocol name more words (some_form zero) in
            bounded_settlement call protocol name form.0 a (r.shows (Settle protocol name form.0) form.1 (inl (sym is ∙ zero))) gives zero);
        checked = λ protocol name cert words zero. (
            let c = checked protocol name cert words zero in
            let p = c.proved in (p.bytes, p.named, (check_bounds call protocol name cert p, c.asked)));
      };
      on_clocks = record {
        analysed = λ protocol name more words zero. (
            let form = analyse_has_form call.words protocol name more words (some_form zero) in
            analysis_on_clocks call protocol name form.0 a (r.shows (Analyse protocol name form.0) form.1 (inl (sym is ∙ zero))) gives zero);
        settled = λ protocol name more words zero. (
            let form = settle_has_form call.words protocol name more words (some_form zero) in
            settlement_on_clocks call protocol name form.0 a (r.shows (Settle protocol name form.0) form.1 (inl (sym is ∙ zero))) gives zero);
        checked = λ protocol name cert words zero. (
            let c = checked protocol name cert words zero in
            let p = c.proved in (p.bytes, p.named, (check_on_clocks call protocol name cert p, c.asked)));
      };
      audited = λ protocol name cert jobs rows words zero. proved_audit call protocol name cert jobs rows a
          (r.shows (Audit protocol name cert jobs rows) (audit_is_form call.words protocol name cert jobs rows words) (inl (sym is ∙ zero)))
          gives zero;
      refuted = refuted;
      confirmed = confirmed;
      settled = record {
        least = least;
        refused = refused;
        wide = left_open;
        short = short;
        exactly = λ protocol set settles. elim (r.outcome settles.inputs settles.has) [
          | inl mine ↦ λ shelf sink ran. outcome_exactly call protocol set settles a mine gives
          | inr fault ↦ caused call protocol (sha256 settles.read.bytes) set (inl fault.0)
        ];
      };
      upgraded = λ protocol name cert words zero. proved_upgrade call protocol name cert a
          (r.shows (Upgrade protocol name cert) (upgrade_is_form call.words protocol name cert words) (inl (sym is ∙ zero))) gives zero;
    } where
      asked_of : (readings : List Asked) × Asks call readings × MatchOption (form_of call.words) (readings ≡ [])
          (λ form. AsksAll (plan_of form) readings
          ⊎ (AsksPart (plan_of form) readings × ((replies.reply.status ≡ 3) ⊎ (replies.reply.status ≡ 4)))) → AsksInOrder call
      asked_of (readings, asked, are) = (
        readings,
        asked,
        asks_with (form_of call.words) readings replies.reply.status call.status
            (λ why. elim why [ inl three ↦ inl (gives.0 ∙ three) | inr four ↦ inr (gives.0 ∙ four) ]) are,
      )

      some_form : call.status ≡ 0 → form_of call.words ≡ None → ⊥
      some_form zero none = let two : call.status ≡ 2 = gives.0 ∙ ap (λ x. x.status) (r.none none) in absurd (omega (arith, two, zero))

      least : (protocol : ProtocolName) (name : List ℕ) (more : List (List ℕ)) → call.words ≡ settle_words protocol name more
          → call.status ≡ 0 → IsProvedSettlement call protocol name
      least protocol name more words zero =
          let form = settle_has_form call.words protocol name more words (some_form zero) in
          proved_settlement call protocol name form.0 replies.reply
          (r.shows (Settle protocol name form.0) form.1 (inl (sym gives.0 ∙ zero))) gives zero

      refused : (protocol : ProtocolName) (name : List ℕ) (more : List (List ℕ)) → call.words ≡ settle_words protocol name more
          → call.status ≡ 1 → IsProvedRefutation call protocol name
      refused protocol name more words one =
          let form = settle_has_form call.words protocol name more words
          (λ none. (let two : call.status ≡ 2 = gives.0 ∙ ap (λ x. x.status) (r.none none) in absurd (omega (arith, two, one)))) in
          proved_settled_refusal call protocol name form.0 replies.reply
          (r.shows (Settle protocol name form.0) form.1 (inr (sym gives.0 ∙ one))) gives one

      -- The words of a call with such a status have a form.
      stop_form : (status : ℕ) → 2 < status → call.status ≡ status → form_of call.words ≡ None → ⊥
      stop_form status above is none = let two : call.status ≡ 2 = gives.0 ∙ ap (λ x. x.status) (r.none none) in absurd (omega (arith, two, is, above))

      left_open : (protocol : ProtocolName) (name : List ℕ) (more : List (List ℕ)) → call.words ≡ settle_words protocol name more
          → call.status ≡ 5 → IsLeftWide call protocol name more
      left_open protocol name more words five =
          let allows = settle_allows call.words protocol name more words (stop_form 5 (omega arith) five) in
          let form = settle_is_form call.words protocol name more allows.0 words allows.1 in
          left_wide call protocol name more allows.0 replies.reply allows.1
          (r.stop_shows (Settle protocol name allows.0) form (inl (sym gives.0 ∙ five))) gives five

      short : (protocol : ProtocolName) (name : List ℕ) (more : List (List ℕ)) → call.words ≡ settle_words protocol name more
          → call.status ≡ 6 → IsLeftShort call protocol name more
      short protocol name more words six =
          let allows = settle_allows call.words protocol name more words (stop_form 6 (omega arith) six) in
          let form = settle_is_form call.words protocol name more allows.0 words allows.1 in
          left_short call protocol name more allows.0 replies.reply allows.1
          (r.stop_shows (Settle protocol name allows.0) form (inr (sym gives.0 ∙ six))) gives six

      analysed : (protocol : ProtocolName) (name : List ℕ) (more : List (List ℕ)) → call.words ≡ analyse_words protocol name more
          → call.status ≡ 0 → IsProvedAnalysis call protocol name
      analysed protocol name more words zero =
          let form = analyse_has_form call.words protocol name more words (some_form zero) in
          proved_analysis call protocol name form.0 replies.reply
          (r.shows (Analyse protocol name form.0) form.1 (inl (sym gives.0 ∙ zero))) gives zero

      checked : (protocol : ProtocolName) (name cert : List ℕ) → call.words ≡ check_words protocol name cert
          → call.status ≡ 0 → IsProvedCheck call protocol name cert
      checked protocol name cert words zero = proved_check call protocol name cert replies.reply
          (r.shows (Check protocol name cert) (check_is_form call.words protocol name cert words) (inl (sym gives.0 ∙ zero))) gives zero

      refuted : (protocol : ProtocolName) (name : List ℕ) (more : List (List ℕ)) → call.words ≡ refute_words protocol name more
          → call.status ≡ 0 → IsProvedRefutation call protocol name
      refuted protocol name more words zero =
          let form = refute_has_form call.words protocol name more words (some_form zero) in
          proved_refutation call protocol name form.0 replies.reply
          (r.shows (Refute protocol name form.0) form.1 (inl (sym gives.0 ∙ zero))) gives zero

      confirmed : (protocol : ProtocolName) (name cert : List ℕ) → call.words ≡ confirm_words protocol name cert
          → call.status ≡ 0 → IsProvedConfirmation call protocol name cert
      confirmed protocol name cert words zero = proved_confirmation call protocol name cert replies.reply
          (r.shows (Confirm protocol name cert) (confirm_is_form call.words protocol name cert words) (inl (sym gives.0 ∙ zero))) gives zero

      well : (inputs : Inputs) (form : Form) → form_of call.words ≡ Some form
          → IsOutcome inputs call.words replies.reply → (replies.reply.status ≡ 0) ⊎ (replies.reply.status ≡ 1)
          → ((call.status ≡ 0) ⊎ (call.status ≡ 1)) × GivesOutcome call inputs
      well inputs form form_is mine (inl zero) = (inl (gives.0 ∙ zero), record { outcome = replies.reply; is = mine; gives = gives })
      well inputs form form_is mine (inr one) = (inr (gives.0 ∙ one), record { outcome = replies.reply; is = mine; gives = gives })

-- A call whose reply was not written whole.
cut_run : (call : Call) (replies : Replies call) → Replied (shelf_of call) (form_of call.words) replies.reply
    → FailsToWrite call replies.reply → IsRun call
cut_run call replies r fails =
    let four : call.status ≡ 4 = fails.status in
    record {
      answers = inl replies;
      refused_words = λ e. absurd (omega (arith, four, e));
      no_form = λ none. inr (inl (subst (λ (x : Answer). FailsToWrite call x) (r.none none) fails));
      faults = λ e. inr fails.rose;
      want = λ e. absurd (omega (arith, four, e));
      asked = inl (asked_cut r.asks);
      exactly = λ inputs b has one out. inr (inl four);
      wide = λ e. absurd (omega (arith, four, e));
      never_wide = λ protocol set analyses nothing e. absurd (omega (arith, four, e));
      allowance = λ e. absurd (omega (arith, four, e));
      complete = λ inputs form premise. absurd (premise.sink fails.rose);
      headline = λ protocol set analyses. other_headline call protocol (sha256 analyses.read.bytes) set (inl four) (inr (inl fails.rose));
      sound = λ protocol set c checks zero. absurd (omega (arith, four, zero));
      analysed = λ protocol name more words zero. absurd (omega (arith, four, zero));
      checked = λ protocol name cert words zero. absurd (omega (arith, four, zero));
      bounding = record {
        analysed = λ protocol name more words zero. absurd (omega (arith, four, zero));
        settled = λ protocol name more words zero. absurd (omega (arith, four, zero));
        checked = λ protocol name cert words zero. absurd (omega (arith, four, zero));
      };
      on_clocks = not_on_clocks call (λ zero. absurd (omega (arith, four, zero)));
      audited = λ protocol name cert jobs rows words zero. absurd (omega (arith, four, zero));
      refuted = λ protocol name more words zero. absurd (omega (arith, four, zero));
      confirmed = λ protocol name cert words zero. absurd (omega (arith, four, zero));
      settled = other_settling call (inl four) (inr (inl fails.rose));
      upgraded = λ protocol name cert words zero. absurd (omega (arith, four, zero));
    } where
      asked_cut : (readings : List Asked) × Asks call readings × MatchOption (form_of call.words) (readings ≡ [])
          (λ form. AsksAll (plan_of form) readings
          ⊎ (AsksPart (plan_of form) readings × ((replies.reply.status ≡ 3) ⊎ (replies.reply.status ≡ 4)))) → AsksInOrder call
      asked_cut (readings, asked, are) =
          (readings, asked, asks_with (form_of call.words) readings replies.reply.status call.status (λ why. inr fails.status) are)

-- A call that ran out of memory.
pub run_ran_out : (call : Call) → RanOut call → IsRun call
run_ran_out call ran =
    let seven : call.status ≡ 7 = ran.status in
    record {
      answers = inr ran;
      refused_words = λ e. absurd (omega (arith, seven, e));
      no_form = λ none. inr (inr ran);
      faults = λ e. absurd (omega (arith, seven, e));
      want = λ e. ran;
      asked = inr ran;
      exactly = λ inputs b has one out. inr (inr ran);
      wide = λ e. absurd (omega (arith, seven, e));
      never_wide = λ protocol set analyses nothing e. absurd (omega (arith, seven, e));
      allowance = λ e. absurd (omega (arith, seven, e));
      complete = λ inputs form premise. inr ran;
      headline = λ protocol set analyses. other_headline call protocol (sha256 analyses.read.bytes) set (inr ran) (inr (inr ran));
      sound = λ protocol set c checks zero. absurd (omega (arith, seven, zero));
      analysed = λ protocol name more words zero. absurd (omega (arith, seven, zero));
      checked = λ protocol name cert words zero. absurd (omega (arith, seven, zero));
      bounding = record {
        analysed = λ protocol name more words zero. absurd (omega (arith, seven, zero));
        settled = λ protocol name more words zero. absurd (omega (arith, seven, zero));
        checked = λ protocol name cert words zero. absurd (omega (arith, seven, zero));
      };
      on_clocks = not_on_clocks call (λ zero. absurd (omega (arith, seven, zero)));
      audited = λ protocol name cert jobs rows words zero. absurd (omega (arith, seven, zero));
      refuted = λ protocol name more words zero. absurd (omega (arith, seven, zero));
      confirmed = λ protocol name cert words zero. absurd (omega (arith, seven, zero));
      settled = other_settling call (inr ran) (inr (inr ran));
      upgraded = λ protocol name cert words zero. absurd (omega (arith, seven, zero));
    }

-- What the sink promised for a reply of this length.
abbrev pub HasRoom : Call → Answer → Type 0
HasRoom call a = length a.text ≤ call.sink_before.room → Gives call a
    × (call.sink_before.room ≤ call.sink_now.room + length a.text) × (call.sink_now.faults ≡ call.sink_before.faults)

-- The reply went out whole, or it didn't.
pub run_replied : (call : Call) (a : Answer) → IsReply (shelf_of call) call.words a
    → (Gives call a ⊎ FailsToWrite call a) → HasRoom call a → IsRun call
run_replied call a reply out room =
    let r = replied (shelf_of call) (form_of call.words) a reply in
    let replies : Replies call = record { reply = a; is = reply; out = out; room = room; longer = r.long } in
    elim out [ inl gives ↦ gave_run call replies r gives | inr fails ↦ cut_run call replies r fails ]

-- The same, from what writing the text promises.
pub run_written : (call : Call) (a : Answer) → IsReply (shelf_of call) call.words a → Gives call a
    → (length a.text ≤ call.sink_before.room
    → (call.sink_before.room ≤ call.sink_now.room + length a.text) × (call.sink_now.faults ≡ call.sink_before.faults)) → IsRun call
run_written call a reply gives takes = run_replied call a reply (inl gives)
    (λ fits. (let kept = takes fits in (gives, kept.0, kept.1)))

pub run_cut : (call : Call) (a : Answer) → IsReply (shelf_of call) call.words a → FailsToWrite call a
    → (length a.text ≤ call.sink_before.room → ⊥) → IsRun call
run_cut call a reply fails none = run_replied call a reply (inr fails) (λ fits. absurd (none fits))
