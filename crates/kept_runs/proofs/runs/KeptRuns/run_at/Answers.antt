use Rattle.std.proofs.Common.{◌<◌, length, true, refl, sym, ◌∙◌, subst, arith}
use Rattle.std.proofs.lemmas.Bool.{both_ways}
use Rattle.mask_runs.specs.Runs.{IsRun}
use Rattle.kept_runs.specs.Kept.{width_of, colours_of}
use Rattle.kept_runs.proofs.Colours.{to_border, is_run}
use Rattle.kept_runs.proofs.runs.KeptRuns.run_at.Goals as goal

-- src/runs.rt
pub noted_at-colour-requires : goal.noted_at-colour-requires
unfolding width_of
noted_at-colour-requires c = let h : c.args.cell < length c.args.self.now.colours.items = c.requires in
    let o = c.border_to-left.ensures.order in omega arith

-- src/runs.rt
pub returns-then-colour-eq0-clause-none : goal.returns-then-colour-eq0-clause-none
unfolding width_of
returns-then-colour-eq0-clause-none c =
    let e = to_border c.args.self.now c.args.self.now.kept c.args.cell c.border_to-left.result c.requires
    c.border_to-left.ensures in (
      λ _. sym e ∙ sym c.noted_at-colour.ensures ∙ c.if-colour-eq0.true,
      λ _. refl,
    )

-- src/runs.rt
pub returns-clause-some : goal.returns-clause-some
unfolding width_of
returns-clause-some c =
    let k = c.args.self.now in
    let t = c.border_to-left.ensures in
    let a = c.border_after.ensures in
    let e = c.noted_at-colour.ensures in
    let r = is_run k k.kept c.args.cell c.border_to-left.result c.border_after.result t a (omega arith) in (
      subst (λ n. IsRun (colours_of k)
          (record { left = c.border_to-left.result; right = c.border_after.result; colour = n })) (sym e) r,
      t.order,
      a.order,
    )

-- src/runs.rt
pub returns-clause-none : goal.returns-clause-none
unfolding width_of
returns-clause-none c =
    let e = to_border c.args.self.now c.args.self.now.kept c.args.cell c.border_to-left.result c.requires
    c.border_to-left.ensures in (
      λ f. absurd (both_ways true f refl),
      λ f. absurd (c.if-colour-eq0.false (c.noted_at-colour.ensures ∙ e ∙ f)),
    )
