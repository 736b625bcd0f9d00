-- The reply, from the results of the inputs and of the work.
use Rattle.std.proofs.Common.{◌≡◌, ℕ, List, ◌∷◌, refl, sym, ◌∙◌, subst, inl, inr, Ok, Err, map}
use Rattle.std.specs.Prelude.{Option, Result}
use Rattle.outside_ports.specs.Names.{Inputs}
use Rattle.outside_ports.specs.Past.{Asked, wholly}
use Rattle.outside_ports.specs.Ports.{ShelfDef}
use Rattle.program_form.specs.Certificate.{dual_seen}
use Rattle.sporadic_model.specs.SetDef.{SetDef}
use Rattle.protocol_names.specs.declared.ProtocolName.{ProtocolName}
use Rattle.response_fixpoint.specs.Rounds.{Schedulable, NotShown, Wide, Allowance}
use Rattle.named_laws.specs.Named.{source_of}
use Rattle.response_fixpoint.specs.Answers.{Answers}
use Rattle.response_fixpoint.specs.declared.verdict.Verdict.{Verdict}
use Rattle.response_fixpoint.specs.declared.verdict.Verdict.TheVariants as verdict
use Rattle.response_fixpoint.specs.declared.verdict.Stop.{Stop}
use Rattle.response_fixpoint.specs.declared.verdict.Stop.TheVariants as stop
use Rattle.command_inputs.specs.Known.{Answer, Input, Shown, shown, shown_by}
use Rattle.run_plans.specs.Plans.{Work, Plan, Working, Reading, IsWorking, IsOutcomeOf}
use Rattle.sha2.specs.Sha256.{sha256}
use Rattle.command_inputs.specs.Inputs.{set_input}
use Rattle.run_plans.specs.Commands.{IsAnalysis}
use Rattle.run_plans.specs.Outcome.{IsReplyOf}
use Rattle.command_inputs.specs.Got.{IsUngot, IsGiven, IsGotTied, Keeps}
use Rattle.command_inputs.specs.Halts.{reply_seen, HaltsWith, Answered}
use Rattle.run_plans.specs.Replies.{AnswersPlan, RepliesTo}
use Rattle.run_plans.specs.Reached.{NamesTask}
use Rattle.command_inputs.specs.declared.halt.Reply.{Reply}
use Rattle.command_inputs.specs.declared.halt.Halt.{Halt}
use Rattle.command_inputs.specs.declared.halt.Halt.TheVariants as halt
use Rattle.run_plans.proofs.PlanLaws.{then_reply}

-- The answer of a halt has each property that follows from one that it has.
pub halts_also : (P Q : Answer → Type 0) → ((a : Answer) → P a → Q a) → (h : Halt) → HaltsWith h P → HaltsWith h Q
halts_also P Q f (halt.Reply r) says = f (reply_seen r) says
halts_also P Q f halt.Memory says = tt

pub answered_also : (P Q : Answer → Type 0) → ((a : Answer) → P a → Q a) → (r : Result Reply Halt) → Answered r P → Answered r Q
answered_also P Q f (Ok r) says = f (reply_seen r) says
answered_also P Q f (Err h) says = halts_also P Q f h says

-- The answer to an input that gives nothing is the reply of the plan.
ungot_reply : (shelf : Shown) (input : Input) (name : List ℕ) (next : List ℕ → input.Value → Plan) (a : Answer)
    → IsUngot shelf input name a → IsReplyOf shelf (Reading input name next) a
ungot_reply shelf input name next a (inl (rose, small, asked, is)) = inl (rose, small, inl (asked, is))
ungot_reply shelf input name next a (inr stopped) = inr (inl stopped)

pub replied_ungot : (shelf : Shown) (input : Input) (name : List ℕ) (next : List ℕ → input.Value → Plan) (h : Halt)
    → HaltsWith h (IsUngot shelf input name)
    → HaltsWith h (IsReplyOf shelf (Reading input name next))
replied_ungot shelf input name next h says = halts_also (IsUngot shelf input name)
    (IsReplyOf shelf (Reading input name next)) (ungot_reply shelf input name next) h says

-- The reply after an input was got is the reply of the plan.
pub replied_got : (old mid new : ShelfDef) (input : Input) (name : List ℕ) (next : List ℕ → input.Value → Plan) (value : input.Value)
    (r : Result Reply Halt) → Keeps old mid → (given : IsGiven (shown old mid) input name value)
    → (IsWorking (next given.0 value) → new.given ≡ mid.given)
    → AnswersPlan r mid new (next given.0 value) → AnswersPlan r old new (Reading input name next)
replied_got old mid new input name next value r keeps (bytes, read, size, asked) last says =
    answered_also (IsReplyOf (shown mid new) (next bytes value)) (IsReplyOf (shown old new) (Reading input name next))
    (λ a is. then_reply old.names old.faults mid.faults new.faults new.given old.readings new.readings input name next bytes value a
    keeps.later read.0 read.1 (λ works. size ∙ sym (last works)) (later_part a is)) r says where
      later_part : (a : Answer) → IsReplyOf (shown mid new) (next bytes value) a → IsReplyOf (record {
        names = old.names;
        before = mid.faults;
        now = new.faults;
        given = new.given;
        had = wholly name bytes ∷ old.readings;
        has = new.readings;
      }) (next bytes value) a
      later_part a is = subst (λ (n : Option Inputs). IsReplyOf (record {
        names = n;
        before = mid.faults;
        now = new.faults;
        given = new.given;
        had = wholly name bytes ∷ old.readings;
        has = new.readings;
      }) (next bytes value) a) keeps.names
          (subst (λ (h : List Asked). IsReplyOf (record {
            names = mid.names;
            before = mid.faults;
            now = new.faults;
            given = new.given;
            had = h;
            has = new.readings;
          }) (next bytes value) a) asked is)

-- The same if the work comes next. It takes nothing from the shelf.
pub replied_work : (old new : ShelfDef) (input : Input) (name : List ℕ) (next : List ℕ → input.Value → Plan) (value : input.Value)
    (says : Answer → Type 0) (r : Result Reply Halt) → Keeps old new → (given : IsGiven (shown old new) input name value)
    → ((a : Answer) → says a → IsOutcomeOf (shown_by (shown new new)) (next given.0 value) a)
    → Answered r says → AnswersPlan r old new (Reading input name next)
replied_work old new input name next value says r keeps given works answered =
    replied_got old new new input name next value r keeps given (λ w. refl)
    (answered_also says (IsReplyOf (shown new new) (next given.0 value)) (λ a is. inr (works a is)) r answered)

-- The same for a set that is got with the digest of its bytes. The rest of the plan, or the work, is given the digest.
pub replied_tied : (old mid new : ShelfDef) (protocol : ProtocolName) (name : List ℕ) (next : List ℕ → SetDef → Plan)
    (got : SetDef × List ℕ) (r : Result Reply Halt) → Keeps old mid → IsGotTied (shown old mid) protocol name (Ok got)
    → ((digest : List ℕ) (set : SetDef) → IsWorking (next digest set) → ⊥)
    → AnswersPlan r mid new (next got.1 got.0)
    → AnswersPlan r old new (Reading (set_input protocol) name (λ bytes set. next (sha256 bytes) set))
replied_tied old mid new protocol name next got r keeps (given, tied) reads says =
    replied_got old mid new (set_input protocol) name (λ bytes set. next (sha256 bytes) set) got.0 r keeps given
    (λ works. absurd (reads (sha256 given.0) got.0 works))
    (subst (λ (digest : List ℕ). AnswersPlan r mid new (next digest got.0)) tied says)

pub replied_tied_work : (old new : ShelfDef) (protocol : ProtocolName) (name : List ℕ) (work : List ℕ → SetDef → Work)
    (got : SetDef × List ℕ) (r : Result Reply Halt) → Keeps old new → IsGotTied (shown old new) protocol name (Ok got)
    → Answered r ((work got.1 got.0).answers)
    → AnswersPlan r old new (Reading (set_input protocol) name (λ bytes set. Working (work (sha256 bytes) set)))
replied_tied_work old new protocol name work got r keeps (given, tied) says =
    replied_work old new (set_input protocol) name (λ bytes set. Working (work (sha256 bytes) set)) got.0
    ((work (sha256 given.0) got.0).answers) r keeps given (λ (a : Answer) is. (is, refl))
    (subst (λ (digest : List ℕ). Answered r ((work digest got.0).answers)) tied says)

-- The answer to an analysis with this result is the outcome of the analysis.
analysis_of_verdict : (protocol : ProtocolName) (digest : List ℕ) (set : SetDef) (allowance : ℕ) (r : Result Verdict Stop) (a : Answer)
    → Answers r (source_of protocol set) allowance → RepliesTo protocol digest set r a
    → IsAnalysis protocol digest set allowance a
analysis_of_verdict protocol digest set allowance (Ok (verdict.Schedulable certificate)) a ends is =
    (Schedulable certificate.bounds.items (map dual_seen certificate.duals.items), ends, is)
analysis_of_verdict protocol digest set allowance (Ok (verdict.NotShown task bound)) a ends is = (NotShown task.0 bound, ends, is)
analysis_of_verdict protocol digest set allowance (Err (stop.Wide task)) a ends is = (Wide task.0, ends, is)
analysis_of_verdict protocol digest set allowance (Err stop.Allowance) a ends is = (Allowance, ends, is)
analysis_of_verdict protocol digest set allowance (Err stop.Memory) a ends is = absurd is

pub analysis_replied : (protocol : ProtocolName) (digest : List ℕ) (set : SetDef) (allowance : ℕ) (r : Result Verdict Stop) (reply : Reply)
    → Answers r (source_of protocol set) allowance
    → RepliesTo protocol digest set r (reply_seen reply) → IsAnalysis protocol digest set allowance (reply_seen reply)
analysis_replied protocol digest set allowance r reply ends is = analysis_of_verdict protocol digest set allowance r (reply_seen reply) ends is

-- An analysis names a task of the set.
pub names_task : (protocol : ProtocolName) (set : SetDef) (allowance : ℕ) (r : Result Verdict Stop)
    → Answers r (source_of protocol set) allowance → NamesTask set r
names_task protocol set allowance (Ok (verdict.Schedulable certificate)) ends = tt
names_task protocol set allowance (Ok (verdict.NotShown task bound)) ends = ends.5
names_task protocol set allowance (Err (stop.Wide task)) ends = ends.3
names_task protocol set allowance (Err stop.Allowance) ends = tt
names_task protocol set allowance (Err stop.Memory) ends = tt
