-- Bounds that a valid certificate proves in ticks are sound on clocks, for every source whose programs and interfering costs are
-- rescaled. In cycles, the sum of what a job may execute, its value and its interference is at most k times its bound.
use Rattle.std.proofs.Common.{◌≡◌, ℕ, zero, suc, ◌+◌, ◌-◌, ◌*◌, ◌%◌, ◌<◌, ◌≤◌, Bool, true, false, List, [], ◌∷◌, length, refl}
use Rattle.std.proofs.Common.{arith, inl, inr, if◌then◌else◌}
use Rattle.std.specs.Prelude.{slice_index}
use Rattle.std.proofs.Math.Nat.{mul-le-mul_left, mul-sub}
use Rattle.std.proofs.lemmas.Bool.{cases_Bool, eqb-true}
use Rattle.program_form.specs.Certificate.{CertificateDef}
use Rattle.program_form.specs.Duals.{Covers, dual_total}
use Rattle.sporadic_model.specs.SetDef.{SetDef, task_at, latest_bound}
use Rattle.sporadic_model.specs.Accepted.{IsAccepted, IsFormed}
use Rattle.sporadic_model.proofs.Laws.{formed_of_accepted, cost_of_formed}
use Rattle.schedule_model.specs.RowDef.{Trace}
use Rattle.schedule_model.specs.Keeping.{KeepsRow}
use Rattle.schedule_model.specs.ProtocolLaws.{IsOneOfThree, IsSoundRow}
use Rattle.schedule_model.specs.declared.rule.Rule.{Rule}
use Rattle.program_sources.specs.Recurrence.{SourceDef, source_at, interference_of}
use Rattle.program_sources.specs.Valid.{IsValid, IsProvedBound, dual_at, value_at}
use Rattle.soundness_laws.specs.Analyses.{AreValues, Analyses}
use Rattle.soundness_laws.proofs.Soundness.{AreShown, HasDual, shown_sound}
use Rattle.clock_laws.specs.Cycles.{in_cycles, times_each, own_cycles}
use Rattle.clock_laws.specs.Clock.{SoundOnClocks, values_in_cycles}
use Rattle.clock_laws.specs.Whole.{is_whole}
use Rattle.clock_laws.proofs.Scaled.{each_at}
use Rattle.clock_laws.proofs.Sets.{tasks_in, deadline_in, cost_in, jitter_in}
use Rattle.clock_laws.proofs.Formed.{formed_in_cycles}
use Rattle.clock_laws.proofs.Jobs.{interference_scaled}
use Rattle.clock_laws.proofs.Programs.{IsRescaled, fine_dual, covers_rescaled, value_rescaled, whole_rescaled}

-- The programs and interfering costs of a source, for a set in cycles beside those for the set in ticks.
pub record IsRescaledSource (source : SetDef → SourceDef) : Type 0 where
  pub programs : (k : ℕ) (set : SetDef) (bounds : List ℕ) (i : ℕ) → 0 < k
      → IsRescaled k ((source set).program i bounds) ((source (in_cycles k set)).program i (times_each k bounds))
  pub interfering : (k : ℕ) (set : SetDef) (h : ℕ) → (source (in_cycles k set)).interfering h ≡ k * (source set).interfering h

-- For how many cycles a job of task i may be blocked.
fine_value : ℕ → SourceDef → CertificateDef → ℕ → ℕ
fine_value k f c i = if is_whole f c i then k * value_at f c i else k * value_at f c i + (k - 1)

fine_is : (k : ℕ) (f : SourceDef) (c : CertificateDef) (i : ℕ) → is_whole f c i ≡ true → fine_value k f c i ≡ k * value_at f c i
unfolding fine_value
fine_is k f c i whole = rw whole refl

fine_else : (k : ℕ) (f : SourceDef) (c : CertificateDef) (i : ℕ) → is_whole f c i ≡ false
    → fine_value k f c i ≡ k * value_at f c i + (k - 1)
unfolding fine_value
fine_else k f c i part = rw part refl

own_is : (k : ℕ) (whole : ℕ → Bool) (set : SetDef) (i : ℕ) → whole i ≡ true → own_cycles whole k set i ≡ k * (task_at set i).cost
own_is k whole set i h = rw h refl

own_else : (k : ℕ) (whole : ℕ → Bool) (set : SetDef) (i : ℕ) → whole i ≡ false
    → own_cycles whole k set i ≡ k * ((task_at set i).cost - 1) + 1
own_else k whole set i h = rw h refl

values_at : (k : ℕ) (values : List ℕ) (i : ℕ) → i < length values
    → slice_index (values_in_cycles k values) i ≡ k * slice_index values i + (k - 1)
values_at k [] i l = absurd (omega (arith, l))
values_at k (v ∷ values) zero l = refl
values_at k (v ∷ values) (suc i) l = values_at k values i (omega (arith, l))

-- A job's own cycles, its blocked ones and its interference are at most its bound.
together : (k : ℕ) (source : SetDef → SourceDef) (set : SetDef) (c : CertificateDef) (i : ℕ) → 1 ≤ k → 1 ≤ (task_at set i).cost
    → IsRescaledSource source → IsProvedBound (source_at source set) c i
    → own_cycles (is_whole (source_at source set) c) k set i + fine_value k (source_at source set) c i
    + interference_of (source (in_cycles k set)).interfering (in_cycles k set) (times_each k c.bounds) i
    ≤ slice_index (times_each k c.bounds) i
together k source set c i some cost rescaled proved =
    let f : SourceDef = source_at source set in
    let whole : ℕ → Bool = is_whole f c in
    let interference : interference_of (source (in_cycles k set)).interfering (in_cycles k set) (times_each k c.bounds) i
    ≡ k * interference_of (source set).interfering set c.bounds i =
    interference_scaled k (source set).interfering (source (in_cycles k set)).interfering set c.bounds i some (rescaled.interfering k set) in
    let most : k * ((task_at set i).cost + value_at f c i + interference_of (source set).interfering set c.bounds i)
    ≤ k * slice_index c.bounds i = mul-le-mul_left k proved.enough in
    let parted : k * ((task_at set i).cost - 1 + 1) ≡ k * (task_at set i).cost = λ j. k * back (task_at set i).cost cost j in
    let bound : slice_index (times_each k c.bounds) i ≡ k * slice_index c.bounds i = each_at k c.bounds i in
    elim (cases_Bool (whole i)) [
      | inl is ↦ omega (arith, own_is k whole set i is, fine_is k f c i is, interference, most, bound)
      | inr part ↦ omega (arith, some, own_else k whole set i part, fine_else k f c i part, interference, most, bound, parted)
    ] where
      back : (n : ℕ) → 1 ≤ n → n - 1 + 1 ≡ n
      back n l = omega (arith, l)

-- The dual of a task, carried over.
dual_in : (k : ℕ) (source : SetDef → SourceDef) (set : SetDef) (c : CertificateDef) (i : ℕ) → 1 ≤ k → IsRescaledSource source
    → IsProvedBound (source_at source set) c i
    → HasDual ((source (in_cycles k set)).program i (times_each k c.bounds)) (fine_value k (source_at source set) c i)
dual_in k source set c i some rescaled proved =
    let f : SourceDef = source_at source set in
    let den : ℕ = (dual_at c.duals i).den in
    let num : ℕ → ℕ = λ r. slice_index (dual_at c.duals i).num r in
    let s : IsRescaled k ((source set).program i c.bounds) ((source (in_cycles k set)).program i (times_each k c.bounds)) =
    rescaled.programs k set c.bounds i some in
    let covers : Covers ((source set).program i c.bounds) den num = proved.feasible.covers in
    record {
      den = den;
      num = fine_dual s num;
      covers = covers_rescaled k ((source set).program i c.bounds) ((source (in_cycles k set)).program i (times_each k c.bounds)) s den num covers;
      worth = elim (cases_Bool (is_whole f c i)) [
        | inl is ↦ omega (
          arith,
          fine_is k f c i is,
          whole_rescaled k ((source set).program i c.bounds) ((source (in_cycles k set)).program i (times_each k c.bounds)) s den num
              covers.positive (eqb-true (dual_total ((source set).program i c.bounds) num % den) 0 is),
        )
        | inr part ↦ omega (
          arith,
          fine_else k f c i part,
          value_rescaled k ((source set).program i c.bounds) ((source (in_cycles k set)).program i (times_each k c.bounds)) s den num some
              covers.positive,
        )
      ];
    }

-- So the bounds are shown in cycles.
shown_in : (keeps : Rule → Trace → ℕ → Type 0) (interferes : Trace → ℕ → ℕ → Bool) (k : ℕ) (source : SetDef → SourceDef) (set : SetDef)
    (c : CertificateDef) → 1 ≤ k → IsFormed set → IsRescaledSource source
    → Analyses keeps interferes (source_at source (in_cycles k set)) → IsValid (source_at source set) c
    → AreShown (source_at source (in_cycles k set)) (own_cycles (is_whole (source_at source set) c) k set) (times_each k c.bounds)
    (fine_value k (source_at source set) c)
shown_in keeps interferes k source set c some formed rescaled analyses valid = record {
  enough = record {
    from = λ i l. omega (arith, cost_from i (task i l), at_least i (task i l), each_at k c.bounds i, some);
    within = λ i l. latest i (task i l);
    less = λ i l. omega (arith, analyses.most i l, cost_in k set i, at_least i (task i l), each_at k c.bounds i);
    enough = λ i l. together k source set c i some (cost_from i (task i l)) rescaled (valid.proved i (task i l));
  };
  duals = λ i l. dual_in k source set c i some rescaled (valid.proved i (task i l));
} where
  task : (i : ℕ) → i < length (in_cycles k set).tasks → i < length set.tasks
  task i l = omega (arith, l, tasks_in k set)

  cost_from : (i : ℕ) → i < length set.tasks → 1 ≤ (task_at set i).cost
  cost_from i l = cost_of_formed set i formed l

  at_least : (i : ℕ) → i < length set.tasks → (k * 1 ≤ k * slice_index c.bounds i) × (k * (task_at set i).cost ≤ k * slice_index c.bounds i)
  at_least i l = let proved : IsProvedBound (source_at source set) c i = valid.proved i l in (
    mul-le-mul_left k (omega (arith, proved.enough, cost_from i l)),
    mul-le-mul_left k (omega (arith, proved.enough)),
  )

  latest : (i : ℕ) → i < length set.tasks → slice_index (times_each k c.bounds) i ≤ latest_bound (task_at (in_cycles k set) i)
  latest i l =
      let proved : IsProvedBound (source_at source set) c i = valid.proved i l in
      let most : k * slice_index c.bounds i ≤ k * ((task_at set i).deadline - (task_at set i).jitter) = mul-le-mul_left k proved.within in
      omega (
        arith,
        most,
        mul-sub k (task_at set i).deadline (task_at set i).jitter,
        each_at k c.bounds i,
        deadline_in k set i,
        jitter_in k set i,
      )

pub sound_on_clocks : (keeps : Rule → Trace → ℕ → Type 0) (interferes : Trace → ℕ → ℕ → Bool) (source : SetDef → SourceDef) (set : SetDef)
    (c : CertificateDef) (values : List ℕ)
    → ((w : Trace) (t j : ℕ) → IsOneOfThree interferes w t j)
    → ((w : Trace) (t : ℕ) → KeepsRow keeps w t → IsSoundRow interferes w t)
    → ((of : SetDef) → IsFormed of → Analyses keeps interferes (source_at source of))
    → IsRescaledSource source → IsAccepted set → IsValid (source_at source set) c → AreValues (source_at source set) c values
    → SoundOnClocks keeps interferes (is_whole (source_at source set) c) set c.bounds values
sound_on_clocks keeps interferes source set c values three sound analyse rescaled accepted valid are = λ k w n some lawful.
    let formed : IsFormed set = formed_of_accepted set accepted in
    let fine : IsFormed (in_cycles k set) = formed_in_cycles k set some formed in
    let analyses : Analyses keeps interferes (source_at source (in_cycles k set)) = analyse (in_cycles k set) fine in
    shown_sound keeps interferes (source_at source (in_cycles k set)) (own_cycles (is_whole (source_at source set) c) k set)
    (times_each k c.bounds) (fine_value k (source_at source set) c) (values_in_cycles k values) w n (λ w t j same. three w t j)
    (λ w t same kept. sound w t kept) fine analyses (shown_in keeps interferes k source set c some formed rescaled analyses valid)
    (λ i l. at_most k i some (omega (arith, l, tasks_in k set))) lawful.schedule lawful.spare where
      at_most : (k i : ℕ) → 1 ≤ k → i < length set.tasks
          → fine_value k (source_at source set) c i ≤ slice_index (values_in_cycles k values) i
      at_most k i some l =
          let f : SourceDef = source_at source set in
          let here : slice_index (values_in_cycles k values) i ≡ k * slice_index values i + (k - 1) =
          values_at k values i (omega (arith, l, are.one_each)) in
          let same : k * slice_index values i ≡ k * value_at f c i = λ j. k * are.each i l j in
          elim (cases_Bool (is_whole f c i)) [
            | inl is ↦ omega (arith, fine_is k f c i is, here, same)
            | inr part ↦ omega (arith, fine_else k f c i part, here, same)
          ]
