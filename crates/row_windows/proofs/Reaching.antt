-- Two runs next to one another.
use Rattle.std.proofs.Common.{ℕ, ◌≡◌, ◌+◌, ◌-◌, ◌<◌, ◌≤◌, inl, inr, sym, ◌∙◌, ap, subst, arith}
use Rattle.std.proofs.lemmas.Bool.{cases_lt}
use Rattle.mask_runs.specs.declared.run.Run.{Run}
use Rattle.mask_runs.specs.Runs.{IsRun}
use Rattle.row_windows.specs.Reaching.{ReachesLeft, ReachesRight, IsLeftOf, IsRightOf}

module _ (colour : ℕ → ℕ) where
  pub left_twice : (cell middle reached : ℕ) → ReachesLeft colour cell middle → ReachesLeft colour middle reached
      → IsLeftOf colour cell reached
  left_twice cell middle reached (inl p) (inl q) =
      let e = p.0 in
      let f = q.0 in
      record { order = omega arith; by = inl (λ c h. q.1 c (omega arith)) }
  left_twice cell middle reached (inl p) (inr q) =
      let e = p.0 in
      let o = q.order in
      let l = q.left in
      let r = q.right in
      let z = p.1 (middle - 1) (omega arith) in
      let k = q.is.each (middle - 1) (omega arith) (omega arith) in
      let s = q.is.some in
      absurd (omega arith)
  left_twice cell middle reached (inr p) (inl q) =
      let o = p.order in
      let f = q.0 in
      record { order = omega arith; by = inl (λ c h. q.1 c (omega arith)) }
  left_twice cell middle reached (inr p) (inr q) =
      let o = p.order in
      let l = p.left in
      let g = q.order in
      let m = q.left in
      let r = q.right in
      record {
        order = omega arith;
        by = inr (record {
          run = q.run;
          is = q.is;
          left = q.left;
          right = elim (cases_lt middle q.run.right) [
            | inr h ↦ omega arith
            | inl h ↦
                let w = p.is.wide in
                let a = q.is.each (middle - 1) (omega arith) (omega arith) in
                let b = q.is.each middle (omega arith) h in
                let c = p.is.each middle (omega arith) (omega arith) in
                absurd (p.is.before (middle - 1) (omega arith) (a ∙ sym b ∙ c))
          ];
        });
      }

  pub right_twice : (cell middle reached : ℕ) → ReachesRight colour cell middle → ReachesRight colour middle reached
      → IsRightOf colour cell reached
  right_twice cell middle reached (inl p) (inl q) =
      let e = p.0 in
      let f = q.0 in
      record { order = omega arith; by = inl (subst (λ c. colour c ≡ 0) (sym q.0) q.1) }
  right_twice cell middle reached (inl p) (inr q) =
      let e = p.0 in
      let o = q.order in
      let l = q.left in
      let r = q.right in
      let k = q.is.each middle l (omega arith) in
      let z : colour middle ≡ 0 = subst (λ c. colour c ≡ 0) (sym p.0) p.1 in
      let s = q.is.some in
      absurd (omega arith)
  right_twice cell middle reached (inr p) (inl q) =
      let o = p.order in
      let f = q.0 in
      record { order = omega arith; by = inl (subst (λ c. colour c ≡ 0) (sym q.0) q.1) }
  right_twice cell middle reached (inr p) (inr q) =
      let o = p.order in
      let r = p.right in
      let g = q.order in
      let m = q.left in
      let s = q.right in
      record {
        order = omega arith;
        by = inr (record {
          run = q.run;
          is = q.is;
          right = q.right;
          left = elim (cases_lt q.run.left middle) [
            | inr h ↦ omega arith
            | inl h ↦
                let w = p.is.wide in
                let a = q.is.each (middle - 1) (omega arith) (omega arith) in
                let b = q.is.each middle m (omega arith) in
                let c = p.is.each (middle - 1) (let l = p.left in omega arith) (omega arith) in
                let d : colour p.run.right ≡ colour middle = ap colour r in
                absurd (p.is.after (d ∙ b ∙ sym a ∙ c))
          ];
        });
      }

  -- a run that has a coloured cell
  pub has_before : (cell : ℕ) (r : Run) → IsRun colour r → r.left ≤ cell - 1 → 0 < cell → cell - 1 < r.right
      → ReachesLeft colour cell r.left
  has_before cell r is a p b =
      inr (record { run = r; is = is; left = λ i. r.left; order = omega arith; right = omega arith })

  pub has_here : (cell : ℕ) (r : Run) → IsRun colour r → r.left ≤ cell → cell < r.right
      → ReachesRight colour cell r.right
  has_here cell r is a b = inr (record { run = r; is = is; right = λ i. r.right; order = b; left = a })

  -- runs stop before the cells that have no colour
  pub stops : (cells : ℕ) (r : Run) → IsRun colour r → ((c : ℕ) → cells ≤ c + 1 → colour c ≡ 0) → r.right < cells
  stops cells r is last = elim (cases_lt r.right cells) [
    | inl h ↦ h
    | inr h ↦
        let w = is.wide in
        let k = is.each (r.right - 1) (omega arith) (omega arith) in
        let z = last (r.right - 1) (omega arith) in
        let s = is.some in
        absurd (omega arith)
  ]
