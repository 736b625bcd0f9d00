-- Laws of studies: there is one answer, with status 0.
use Rattle.std.proofs.Common.{◌≡◌, ℕ, List, [], ◌++◌, codes, decimal, refl, sym, ◌∙◌, ap, inl}
use Rattle.std.specs.Prelude.{slice_index, slice_index_or}
use Rattle.number_laws.specs.Sums.{collect_below}
use Rattle.number_laws.proofs.SumLaws.{collect_below-agree}
use Rattle.study_gen.specs.Counts.{IsStudy}
use Rattle.study_gen.specs.declared.counting.StudyCounts.{StudyCounts}
use Rattle.study_gen.proofs.OneStudy.{step_once, stopped_is_one}
use Rattle.reply_texts.specs.Texts.{step_line, study_text}
use Rattle.command_inputs.specs.Known.{Answer}
use Rattle.run_plans.specs.Commands.{IsStudyAnswer, study_of}
use Rattle.run_plans.proofs.PlanLaws.{IsLawfulWork}
use Rattle.run_plans.proofs.WorkLaws.{always_lawful}

same_line : (i : ℕ) (r s : List ℕ) → slice_index r 0 ≡ slice_index s 0 → slice_index r 1 ≡ slice_index s 1
    → slice_index r 2 ≡ slice_index s 2 → step_line i r ≡ step_line i s
same_line i r s a b c = rw (a, b, c) refl

same_text : (seed sets : ℕ) (c d : StudyCounts) → IsStudy seed sets c → IsStudy seed sets d
    → study_text c.counts.items c.stopped ≡ study_text d.counts.items d.stopped
same_text seed sets c d p q =
    let f : ℕ → List ℕ = λ i. step_line i (slice_index_or c.counts.items i []) in
    let g : ℕ → List ℕ = λ i. step_line i (slice_index_or d.counts.items i []) in
    let lines : collect_below 8 f ≡ collect_below 8 g = collect_below-agree 8 f g (λ i here.
    let same = step_once seed sets c d p q i here in
    same_line i (slice_index_or c.counts.items i []) (slice_index_or d.counts.items i []) same.0 same.1 same.2) in
    ap (λ l. codes "step mpcp fmlp+ dpcp\n" ++ (l ++ (codes "stopped " ++ (decimal c.stopped ++ codes "\n")))) lines
    ∙ ap (λ n. codes "step mpcp fmlp+ dpcp\n" ++ (collect_below 8 g ++ (codes "stopped " ++ (decimal n ++ codes "\n"))))
    (stopped_is_one seed sets c d p q)

one_study : (seed sets : ℕ) (a b : Answer) → IsStudyAnswer seed sets a → IsStudyAnswer seed sets b → a ≡ b
one_study seed sets a b (c, p, is) (d, q, is') = is ∙ ap (λ t. record { status = 0; text = t }) (same_text seed sets c d p q) ∙ sym is'

pub study_lawful : (seed sets : ℕ) → IsLawfulWork (study_of seed sets)
study_lawful seed sets = always_lawful (IsStudyAnswer seed sets) (one_study seed sets) (λ a is. inl (ap (λ x. x.status) is.2))
