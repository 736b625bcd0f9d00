use Rattle.std.proofs.Common.{◌≡◌, ◌↔◌, ℕ, List, sym, subst}
use Rattle.std.specs.Prelude.{Result, IfOk, IsErrOf}
use Rattle.program_sources.specs.Fitting.{AreFitting}
use Rattle.sporadic_model.specs.SetDef.{SetDef}
use Rattle.response_fixpoint.specs.Rounds.{Ending, EndsIn}
use Rattle.response_fixpoint.specs.Runs.{rounds_of, HasNoColumns}
use Rattle.response_fixpoint.specs.Answers.{Answers, IsAnswerOf, IsRight, IsSchedulable}
use Rattle.response_fixpoint.specs.declared.verdict.Verdict.{Verdict}
use Rattle.response_fixpoint.specs.declared.verdict.Stop.{Stop}
use Rattle.response_fixpoint.specs.declared.verdict.Stop.TheVariants as stop
use Rattle.protocol_names.specs.declared.ProtocolName.{ProtocolName}
use Rattle.protocol_names.specs.declared.ProtocolName.TheVariants as name
use Rattle.named_laws.specs.Named.{source_of}
use Rattle.named_laws.proofs.EachName.{named_no_columns}
use Rattle.named_protocols.specs.Analysed.{IsAnalysed}
use Rattle.named_protocols.proofs.calls.analyse.Goals as goal

-- What is promised for the source of a protocol is promised by its name. No program of a set that requests nothing has a column.
analysed : (n m : ProtocolName) (set : SetDef) (allowance : ℕ) (r : Result Verdict Stop) → n ≡ m → Answers r (source_of m set) allowance
    → ((e : Ending) → EndsIn (rounds_of (source_of m set)) allowance e → IsAnswerOf r e)
    → IfOk r (λ verdict. IsRight verdict (source_of m set))
    → IfOk r (λ verdict. IsSchedulable verdict ↔ ((s : List ℕ) × AreFitting (source_of m set) s))
    → (HasNoColumns (source_of m set) → (task : ℕ) → IsErrOf r (stop.Wide (record { 0 = task })) → ⊥)
    → IsAnalysed (source_of n set) allowance r
analysed n m set allowance r is rounds only right exactly wide =
    let all : IsAnalysed (source_of m set) allowance r = record {
      rounds = rounds;
      only = only;
      right = right;
      exactly = exactly;
      never_wide = λ nothing. wide (named_no_columns m set nothing);
    } in
    subst (λ (p : ProtocolName). IsAnalysed (source_of p set) allowance r) (sym is) all

pub returns-in-Dflp : goal.returns-in-Dflp
returns-in-Dflp g c = let e = c.analyse_with.ensures in
    analysed c.args.protocol name.Dflp c.args.set.now c.args.allowance c.analyse_with.result c.in-Dflp.is
    e.rounds e.only e.right e.exactly e.never_wide

pub returns-in-Spin : goal.returns-in-Spin
returns-in-Spin g c = let e = c.analyse_with-in-Spin.ensures in
    analysed c.args.protocol name.Spin c.args.set.now c.args.allowance c.analyse_with-in-Spin.result c.in-Spin.is
    e.rounds e.only e.right e.exactly e.never_wide

pub returns-in-DpcpWindows : goal.returns-in-DpcpWindows
returns-in-DpcpWindows g c = let e = c.analyse_with-in-DpcpWindows.ensures in
    analysed c.args.protocol name.DpcpWindows c.args.set.now c.args.allowance c.analyse_with-in-DpcpWindows.result c.in-DpcpWindows.is
    e.rounds e.only e.right e.exactly e.never_wide

pub returns-in-FmlpPlusCloser : goal.returns-in-FmlpPlusCloser
returns-in-FmlpPlusCloser g c = let e = c.analyse_with-in-FmlpPlusCloser.ensures in
    analysed c.args.protocol name.FmlpPlusCloser c.args.set.now c.args.allowance c.analyse_with-in-FmlpPlusCloser.result c.in-FmlpPlusCloser.is
    e.rounds e.only e.right e.exactly e.never_wide

pub returns-in-SpinCloser : goal.returns-in-SpinCloser
returns-in-SpinCloser g c = let e = c.analyse_with-in-SpinCloser.ensures in
    analysed c.args.protocol name.SpinCloser c.args.set.now c.args.allowance c.analyse_with-in-SpinCloser.result c.in-SpinCloser.is
    e.rounds e.only e.right e.exactly e.never_wide

pub returns-in-DpcpCloser : goal.returns-in-DpcpCloser
returns-in-DpcpCloser g c = let e = c.analyse_with-in-DpcpCloser.ensures in
    analysed c.args.protocol name.DpcpCloser c.args.set.now c.args.allowance c.analyse_with-in-DpcpCloser.result c.in-DpcpCloser.is
    e.rounds e.only e.right e.exactly e.never_wide

pub returns-in-DflpCloser : goal.returns-in-DflpCloser
returns-in-DflpCloser g c = let e = c.analyse_with-in-DflpCloser.ensures in
    analysed c.args.protocol name.DflpCloser c.args.set.now c.args.allowance c.analyse_with-in-DflpCloser.result c.in-DflpCloser.is
    e.rounds e.only e.right e.exactly e.never_wide

pub returns-in-MpcpCloser : goal.returns-in-MpcpCloser
returns-in-MpcpCloser g c = let e = c.analyse_with-in-MpcpCloser.ensures in
    analysed c.args.protocol name.MpcpCloser c.args.set.now c.args.allowance c.analyse_with-in-MpcpCloser.result c.in-MpcpCloser.is
    e.rounds e.only e.right e.exactly e.never_wide
