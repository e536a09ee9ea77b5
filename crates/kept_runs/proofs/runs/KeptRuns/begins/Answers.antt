use Rattle.std.proofs.Common.{◌≡◌, ◌-◌, inl, inr, refl, sym, ◌∙◌, subst, arith}
use Rattle.kept_runs.specs.Kept.{colours_of}
use Rattle.kept_runs.proofs.runs.KeptRuns.begins.Goals as goal

-- src/runs.rt
pub returns-then-cell-eq0 : goal.returns-then-cell-eq0
returns-then-cell-eq0 c = ((λ _. inl c.if-cell-eq0.true), (λ _. refl))

-- src/runs.rt
pub returns : goal.returns
returns c =
    let k = c.args.self.now in (
      λ h. inr (λ d e f.
          let q : d ≡ c.args.cell - 1 = omega arith in
          c.differ.ensures.0 h (c.colour_at.ensures ∙ subst (λ n. colours_of k n ≡ c.args.colour) q f)),
      λ x. elim x [
        | inl z ↦ absurd (c.if-cell-eq0.false z)
        | inr g ↦ c.differ.ensures.1 (λ f. g (c.args.cell - 1) (omega arith) (sym c.colour_at.ensures ∙ f))
      ],
    )
