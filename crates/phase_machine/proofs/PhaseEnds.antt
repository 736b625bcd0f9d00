-- Once what is left of a phase was executed, the job is in another one.
use Rattle.std.proofs.Common.{◌≡◌, ℕ, zero, suc, ◌+◌, ◌-◌, ◌<◌, ◌≤◌, ◌==◌, ◌&&◌, not, true, false, List, length, get_or}
use Rattle.std.proofs.Common.{take, refl, sym, ap, ◌∙◌, arith, add-one, inl, inr, Option, Some, None, is_some, nat_lt}
use Rattle.std.specs.Option.{option_map_or}
use Rattle.std.specs.List.{list_all}
use Rattle.std.proofs.lemmas.Bool.{cases_lt, and_parts, ltb-true}
use Rattle.std.proofs.lemmas.List.{get_or-take, length-take}
use Rattle.schedule_model.specs.JobDef.{SegmentDef, job_of, segment_ticks, request_ticks, total_ticks, no_segment}
use Rattle.schedule_model.specs.LawfulJobs.{is_segment, is_script}
use Rattle.schedule_model.specs.RowDef.{Trace}
use Rattle.schedule_model.specs.Phase.{executed, phase_of}
use Rattle.schedule_model.specs.Phase.Phase.{Local, Asking, Finished}
use Rattle.schedule_model.proofs.Scripts.{list_all-each}
use Rattle.schedule_laws.proofs.Ticks.{executed_runs, finished_at, script_segments}
use Rattle.phase_machine.specs.declared.place.ScriptPlace.{ScriptPlace}
use Rattle.phase_machine.specs.MachineDef.{segment_in}
use Rattle.phase_machine.specs.Now.{phase_in}
use Rattle.phase_machine.specs.Stretch.{left_at}
use Rattle.phase_machine.proofs.ScriptPlaces.{phase_in_local, asking_inside, segment_more, script_ends}
use Rattle.phase_machine.proofs.Lawful.{script_of, local_some}
use Rattle.phase_machine.proofs.Facts.{own_phase, phase_standing}
use Rattle.phase_machine.proofs.GoingOn.{GoesOn, left_local, left_request}

-- Only the last segment of a script lacks a request.
more_than_local : (script : List SegmentDef) (n : ℕ) → is_script script ≡ true → n + 1 < length script
    → (get_or script n no_segment).local < segment_ticks (get_or script n no_segment)
more_than_local script n lawful l = go (get_or script n no_segment) asks takes where
  front : n < length (take (length script - 1) script)
  front = omega (arith, l, length-take (length script - 1) script)

  asks : is_some (get_or script n no_segment).request ≡ true
  asks = ap (λ s. is_some s.request) (sym (get_or-take (length script - 1) script n no_segment (omega (arith, l))))
      ∙ list_all-each (λ s. is_some s.request) (take (length script - 1) script) n no_segment front
      (and_parts (list_all is_segment script) (list_all (λ s. is_some s.request) (take (length script - 1) script))
      (and_parts (not (length script == 0))
      (list_all is_segment script && list_all (λ s. is_some s.request) (take (length script - 1) script)) lawful).1).1

  takes : is_segment (get_or script n no_segment) ≡ true
  takes = list_all-each is_segment script n no_segment (omega (arith, l)) (script_segments script lawful)

  go : (s : SegmentDef) → is_some s.request ≡ true → is_segment s ≡ true → s.local < segment_ticks s
  go s a b = at s.request refl where
    at : (o : Option (ℕ × ℕ)) → s.request ≡ o → s.local < segment_ticks s
    at None e = let x : false ≡ true = sym (ap is_some e) ∙ a in absurd (cc)
    at (Some r) e =
        let some : option_map_or (λ r. nat_lt 0 r.1) (Some r) true ≡ true =
        sym (ap (λ o. option_map_or (λ r. nat_lt 0 r.1) o true) e)
        ∙ (and_parts (nat_lt 0 s.local) (option_map_or (λ r. nat_lt 0 r.1) s.request true) b).1 in
        let ticks : request_ticks s ≡ r.1 = ap (λ o. option_map_or (λ r. r.1) o 0) e in
        omega (arith, ltb-true 0 r.1 some, ticks)

-- So many ticks are executed.
runs_on : (w : Trace) (t x : ℕ) (p : ScriptPlace) (n i : ℕ) → GoesOn w t x p n → i ≤ n → executed w (t + i) p.job ≡ executed w t p.job + i
runs_on w t x p n zero goes l = let here : t + 0 ≡ t = omega arith in omega (arith, ap (λ u. executed w u p.job) here)
runs_on w t x p n (suc i) goes l =
    let next : t + suc i ≡ suc (t + i) = omega arith in
    omega (
      arith,
      ap (λ u. executed w u p.job) next,
      executed_runs w (t + i) p.job (goes.runs i (omega (arith, l))),
      runs_on w t x p n i goes (omega (arith, l)),
    )

done : (w : Trace) (t x : ℕ) (p : ScriptPlace) (n : ℕ) → GoesOn w t x p n
    → executed w (t + n) p.job ≡ total_ticks (take p.segment (job_of w.jobs p.job).script) + (p.ticks + n)
done w t x p n goes = omega (arith, runs_on w t x p n n goes (omega arith), goes.shows.stands goes.listed)

-- At the end of the segment the job is in the next one's local ticks, or finished.
after_segment : (w : Trace) (t x : ℕ) (p : ScriptPlace) (n : ℕ) → GoesOn w t x p n
    → p.ticks + n ≡ segment_ticks (segment_in w.jobs p.job p.segment)
    → p.segment + 1 < length (job_of w.jobs p.job).script → phase_of w (t + n) p.job ≡ Local
after_segment w t x p n goes e more =
    let some : 0 < (segment_in w.jobs p.job (p.segment + 1)).local =
    local_some (record { set = w.set; jobs = w.jobs }) p.job (p.segment + 1) goes.lawful goes.listed more in
    phase_standing w (t + n) p.job (p.segment + 1) 0 stands more (omega (arith, some))
    ∙ phase_in_local (p.segment + 1) (segment_in w.jobs p.job (p.segment + 1)) 0 some where
      number : total_ticks (take (p.segment + 1) (job_of w.jobs p.job).script)
          ≡ total_ticks (take (suc p.segment) (job_of w.jobs p.job).script)
      number = ap (λ k. total_ticks (take k (job_of w.jobs p.job).script)) (add-one p.segment)

      stands : executed w (t + n) p.job ≡ total_ticks (take (p.segment + 1) (job_of w.jobs p.job).script) + 0
      stands = omega (
        arith,
        done w t x p n goes,
        e,
        number,
        segment_more (job_of w.jobs p.job).script p.segment (goes.place.segment goes.listed),
      )

after_script : (w : Trace) (t x : ℕ) (p : ScriptPlace) (n : ℕ) → GoesOn w t x p n
    → p.ticks + n ≡ segment_ticks (segment_in w.jobs p.job p.segment)
    → length (job_of w.jobs p.job).script ≤ p.segment + 1 → phase_of w (t + n) p.job ≡ Finished
after_script w t x p n goes e last =
    finished_at w (t + n) p.job (omega (
      arith,
      done w t x p n goes,
      e,
      script_ends (job_of w.jobs p.job).script p.segment (goes.place.segment goes.listed) (omega (arith, last)),
    ))

local_ends : (w : Trace) (t x : ℕ) (p : ScriptPlace) (n : ℕ) → GoesOn w t x p n
    → p.ticks + n ≡ (segment_in w.jobs p.job p.segment).local → phase_of w (t + n) p.job ≡ Local → ⊥
local_ends w t x p n goes e unchanged =
    elim (cases_lt (segment_in w.jobs p.job p.segment).local (segment_ticks (segment_in w.jobs p.job p.segment))) [
      | inl begins ↦
          let inside : p.ticks + n < segment_ticks (segment_in w.jobs p.job p.segment) = omega (arith, e, begins) in
          let asks : (q : ℕ) × (phase_in p.segment (segment_in w.jobs p.job p.segment) (p.ticks + n) ≡ Asking p.segment q) =
          asking_inside p.segment (segment_in w.jobs p.job p.segment) (p.ticks + n) (omega (arith, e)) inside in
          let x : Asking p.segment asks.0 ≡ Local = sym (phase_standing w (t + n) p.job p.segment (p.ticks + n)
          (done w t x p n goes) (goes.place.segment goes.listed) inside ∙ asks.1) ∙ unchanged in
          absurd (cc)
      | inr ends ↦
          let all : p.ticks + n ≡ segment_ticks (segment_in w.jobs p.job p.segment) = omega (arith, e, ends) in
          let x : Finished ≡ Local = sym (after_script w t x p n goes all (last ends)) ∙ unchanged in
          absurd (cc)
    ] where
      last : segment_ticks (segment_in w.jobs p.job p.segment) ≤ (segment_in w.jobs p.job p.segment).local
          → length (job_of w.jobs p.job).script ≤ p.segment + 1
      last ends = elim (cases_lt (p.segment + 1) (length (job_of w.jobs p.job).script)) [
        | inl more ↦ absurd (omega (
          arith,
          ends,
          more_than_local (job_of w.jobs p.job).script p.segment
              (script_of (record { set = w.set; jobs = w.jobs }) p.job goes.lawful goes.listed) more,
        ))
        | inr end ↦ end
      ]

request_ends : (w : Trace) (t x : ℕ) (p : ScriptPlace) (n q : ℕ) → GoesOn w t x p n
    → p.ticks + n ≡ segment_ticks (segment_in w.jobs p.job p.segment) → phase_of w (t + n) p.job ≡ Asking p.segment q
    → ⊥
request_ends w t x p n q goes e unchanged = elim (cases_lt (p.segment + 1) (length (job_of w.jobs p.job).script)) [
  | inl more ↦ let x : Local ≡ Asking p.segment q = sym (after_segment w t x p n goes e more) ∙ unchanged in absurd (cc)
  | inr last ↦ let x : Finished ≡ Asking p.segment q = sym (after_script w t x p n goes e last) ∙ unchanged in absurd (cc)
]

-- After what was left of its phase a running job is in another phase.
pub phase_ends : (w : Trace) (t x : ℕ) (p : ScriptPlace) (n : ℕ) → GoesOn w t x p n → n ≡ left_at w.jobs p
    → phase_of w (t + n) p.job ≡ phase_of w t p.job → ⊥
phase_ends w t x p n goes e unchanged = elim (cases_lt p.ticks (segment_in w.jobs p.job p.segment).local) [
  | inl local ↦
      local_ends w t x p n goes (omega (arith, e, left_local (segment_in w.jobs p.job p.segment) p.ticks local, local))
      (unchanged ∙ own_phase w t x p goes.shows goes.place goes.listed
      ∙ phase_in_local p.segment (segment_in w.jobs p.job p.segment) p.ticks local)
  | inr request ↦
      let asks : (q : ℕ) × (phase_in p.segment (segment_in w.jobs p.job p.segment) p.ticks ≡ Asking p.segment q) =
      asking_inside p.segment (segment_in w.jobs p.job p.segment) p.ticks request (goes.place.ticks goes.listed) in
      request_ends w t x p n asks.0 goes
      (omega (arith, e, left_request (segment_in w.jobs p.job p.segment) p.ticks request, goes.place.ticks goes.listed))
      (unchanged ∙ own_phase w t x p goes.shows goes.place goes.listed ∙ asks.1)
]
