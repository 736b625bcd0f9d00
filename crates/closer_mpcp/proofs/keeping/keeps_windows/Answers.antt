use Rattle.std.proofs.Common.{◌≡◌, ℕ, true, false, sym, subst, ◌∙◌, arith, inl, inr}
use Rattle.std.specs.Prelude.{slice_index}
use Rattle.std.proofs.lemmas.Bool.{cases_lt}
use Rattle.sporadic_model.specs.Users.{is_user}
use Rattle.mpcp_window_laws.specs.KeptWindows.{KeepsWindow}
use Rattle.closer_mpcp.proofs.keeping.keeps_windows.Goals as goal
use Rattle.closer_mpcp.proofs.keeping.keeps_windows.Goals.{else-uses-via-then-uses+else-not-keeps_window, else-uses-via-else-uses}

pub loop-q-preserved : goal.loop-q-preserved
loop-q-preserved c = λ p l user.
    let set = c.args.set.now in
    let i = c.args.i.0 in
    let earlier = slice_index c.args.earlier.now in
    let bounds = slice_index c.args.bounds.now in
    let last : is_user set c.loop-q.q i ≡ true → KeepsWindow set earlier bounds i c.loop-q.q = elim c.else-uses.branch [
      | else-uses-via-then-uses+else-not-keeps_window w ↦ λ used. w.keeps_window.ensures w.if-not-keeps_window.false
      | else-uses-via-else-uses w ↦ λ used.
          let no : true ≡ false = sym used ∙ (sym c.uses.ensures ∙ w.if-uses.false) in
          cc
    ] in
    elim (cases_lt p c.loop-q.q) [
      | inl before ↦ c.loop-q.invariant p before user
      | inr here ↦
          let e : c.loop-q.q ≡ p = omega (arith, here, l) in
          subst (λ (k : ℕ). is_user set k i ≡ true → KeepsWindow set earlier bounds i k) e last user
    ]
