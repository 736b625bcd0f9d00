-- The programs with the closer rows analyse spin locks, so valid certificates over them are sound. And they raise no bound: each row of
-- spin locks is dominated by one of theirs.
use Rattle.std.proofs.Common.{◌≡◌, ℕ, ◌+◌, ◌<◌, ◌≤◌, ◌==◌, ◌&&◌, ◌∷◌, ◌++◌, not, Bool, true, false, List, [], length, refl, inl, inr, arith, if◌then◌else◌}
use Rattle.std.specs.List.{All, Contains}
use Rattle.std.proofs.lemmas.Bool.{cases_Bool}
use Rattle.std.proofs.lemmas.List.Elements.{All-weaker, All-contains_itself, Contains-append_left, Contains-append_right}
use Rattle.number_laws.specs.Sums.{flag}
use Rattle.program_form.specs.Certificate.{CertificateDef}
use Rattle.sporadic_model.specs.SetDef.{SetDef, task_at}
use Rattle.sporadic_model.specs.Accepted.{IsAccepted, IsFormed}
use Rattle.sporadic_model.specs.Bounds.{AtMost}
use Rattle.sporadic_model.proofs.Laws.{formed_of_accepted}
use Rattle.schedule_model.specs.BlockedTicks.{is_shared_interference}
use Rattle.schedule_laws.proofs.SharedLaws.{shared_one_of_three}
use Rattle.program_sources.specs.Fitting.{AreFitting, AreLeastFitting}
use Rattle.program_sources.specs.Valid.{IsValid}
use Rattle.blocking_columns.specs.ColumnDef.{is_preemption}
use Rattle.fragments.specs.Constraints.{ConstraintDef, per, per_pair}
use Rattle.direct_constraints.specs.Rows.{common_rows}
use Rattle.program_laws.proofs.Lists.{contains_collected}
use Rattle.soundness_laws.specs.Sound.{Sound}
use Rattle.soundness_laws.specs.Analyses.{Analyses, AreValues}
use Rattle.soundness_laws.proofs.Soundness.{sound_of}
use Rattle.soundness_laws.proofs.Instances.{analyses_over}
use Rattle.spin_rules.specs.SpinRules.{spin_rule}
use Rattle.spin_rules.proofs.SpinLaws.{spin_sound_row}
use Rattle.spin_charging.specs.SpinCharges.{spin_charge}
use Rattle.spin_charging.specs.SpinPrograms.{blocks_by_spinning, lower_request_row, is_from, spinning_row, own_spinning_row}
use Rattle.spin_charging.specs.SpinPrograms.{spin_columns, spin_rows, spin_source}
use Rattle.spin_charging.proofs.SpinPlacement.{spin_charges_blocked}
use Rattle.spin_charging.proofs.SpinPrograms.{spin_each}
use Rattle.spin_charging.proofs.SpinPoints.{spin_interferes_within}
use Rattle.closer_spin_laws.specs.CloserSpinRows.{is_spun_below, is_left_out, closer_spinning_row, lone_spinning_row, closer_spinning_rows}
use Rattle.closer_spin_laws.specs.CloserSpinRows.{own_spinning_rows, together_rows, lone_spinning_rows, spin_closer_rows, spin_closer_source}
use Rattle.closer_laws.proofs.Dominated.{Dominates, IsDominated, itself_dominated, fitting_where_dominated}
use Rattle.closer_spin_laws.proofs.Lone.{lone_dominates}
use Rattle.closer_spin_laws.proofs.Points.{spin_closer_point}

pub spin_closer_analyses : (set : SetDef) → IsFormed set → Analyses spin_rule is_shared_interference (spin_closer_source set)
spin_closer_analyses set =
    analyses_over spin_rule is_shared_interference spin_charge spin_columns spin_closer_rows (λ of h. (task_at of h).cost) set (record {
      most = λ of h a l. omega arith;
      interfering = spin_interferes_within;
      point = λ w bounds n j premises keeps.
          spin_closer_point w bounds n j premises.formed premises.lawful keeps premises.listed premises.ended;
      charged = spin_charges_blocked;
    })

pub spin_closer_sound : (set : SetDef) (c : CertificateDef) (values : List ℕ) → IsAccepted set → IsValid (spin_closer_source set) c
    → AreValues (spin_closer_source set) c values → Sound spin_rule is_shared_interference set c.bounds values
spin_closer_sound set c values accepted valid are =
    let formed : IsFormed set = formed_of_accepted set accepted in
    sound_of spin_rule is_shared_interference (spin_closer_source set) c values (λ w t j same. shared_one_of_three w t j)
    (λ w t same kept. spin_sound_row w t kept) formed (spin_closer_analyses set formed) valid are

-- Spinning counts no more than the row in its place, up to the same limit.
spinning_dominates : (bounds : List ℕ) (set : SetDef) (i k q : ℕ) → is_left_out set i k q ≡ false
    → Dominates bounds (closer_spinning_row set i k q) (spinning_row set i k q)
spinning_dominates bounds set i k q other = record {
  coefficients = λ c. rw other (flags (is_preemption c.class) (is_spun_below set i k q && not (c.resource == q)) (is_from set k q c));
  limit = omega arith;
} where
  flags : (p a b : Bool) → flag (b && not p) ≤ flag (if p then a else b)
  flags true a true = omega arith
  flags true a false = omega arith
  flags false a true = omega arith
  flags false a false = omega arith

pair_among : (m n k q : ℕ) (row : ℕ → ℕ → ConstraintDef) → k < m → q < n → Contains (per_pair m n row) (row k q)
pair_among m n k q row a b =
    contains_collected m k (λ x. per n (row x)) (row k q) a (contains_collected n q (λ r. row k r ∷ []) (row k q) b (0, omega arith, refl))

-- So each row of spin locks is dominated.
rows_dominated : (bounds : List ℕ) (set : SetDef) (i : ℕ) → All (IsDominated bounds (spin_closer_rows set i)) (spin_rows set i)
rows_dominated bounds set i =
    spin_each (IsDominated bounds rows) set i common
    (itself_dominated bounds rows lower_request_row (Contains-append_right (common_rows set i) (lower_request_row ∷ rest) lower_request_row
    (0, omega arith, refl)))
    (λ k q a b. elim (cases_Bool (is_left_out set i (k + 1) q)) [
      | inl one ↦ record {
        row = lone_spinning_row set i (k + 1);
        among = last_among (lone_spinning_row set i (k + 1)) (Contains-append_left (lone_spinning_rows set i) (closer_spinning_rows set i)
            (lone_spinning_row set i (k + 1)) (contains_collected set.processors k (λ m. lone_spinning_row set i (m + 1) ∷ [])
            (lone_spinning_row set i (k + 1)) a (0, omega arith, refl)));
        says = lone_dominates bounds set i (k + 1) q one;
      }
      | inr other ↦ record {
        row = closer_spinning_row set i (k + 1) q;
        among = last_among (closer_spinning_row set i (k + 1) q) (Contains-append_right (lone_spinning_rows set i) (closer_spinning_rows set i)
            (closer_spinning_row set i (k + 1) q)
            (pair_among set.processors (length set.resources) k q (λ m r. closer_spinning_row set i (m + 1) r) a b));
        says = spinning_dominates bounds set i (k + 1) q other;
      }
    ])
    (λ k q a b. itself_dominated bounds rows (own_spinning_row set i (k + 1) q) (behind (own_spinning_row set i (k + 1) q)
    (Contains-append_left (own_spinning_rows set i) further (own_spinning_row set i (k + 1) q)
    (pair_among set.processors (length set.resources) k q (λ m r. own_spinning_row set i (m + 1) r) a b)))) where
      rows : List ConstraintDef
      rows = spin_closer_rows set i

      last : List ConstraintDef
      last = lone_spinning_rows set i ++ closer_spinning_rows set i

      further : List ConstraintDef
      further = together_rows set i ++ last

      rest : List ConstraintDef
      rest = own_spinning_rows set i ++ further

      common : All (IsDominated bounds rows) (common_rows set i)
      common = All-weaker (Contains (common_rows set i)) (IsDominated bounds rows)
          (λ row among. itself_dominated bounds rows row (Contains-append_left (common_rows set i) (lower_request_row ∷ rest) row among))
          (common_rows set i) (All-contains_itself (common_rows set i))

      behind : (row : ConstraintDef) → Contains rest row → Contains rows row
      behind row among = Contains-append_right (common_rows set i) (lower_request_row ∷ rest) row
          (Contains-append_right (lower_request_row ∷ []) rest row among)

      last_among : (row : ConstraintDef) → Contains last row → Contains rows row
      last_among row among = behind row (Contains-append_right (own_spinning_rows set i) further row
          (Contains-append_right (together_rows set i) last row among))

-- What fits under spin locks fits with the closer rows, so no least bound with them is greater than one that fits under spin locks.
pub spin_closer_fitting : (set : SetDef) (s : List ℕ) → AreFitting (spin_source set) s → AreFitting (spin_closer_source set) s
spin_closer_fitting set s fits =
    fitting_where_dominated set (blocks_by_spinning set) (spin_rows set) (spin_closer_rows set) (λ h. (task_at set h).cost) s
    (rows_dominated s set) fits

pub spin_closer_no_greater : (set : SetDef) (r s : List ℕ) → AreLeastFitting (spin_closer_source set) r → AreFitting (spin_source set) s
    → AtMost (length set.tasks) r s
spin_closer_no_greater set r s least fits = least.least s (spin_closer_fitting set s fits)
