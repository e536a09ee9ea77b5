use Rattle.std.proofs.Common.{◌≡◌, ℕ, replicate, length, rules, sym, subst, ◌∙◌, arith}
use Rattle.std.proofs.lemmas.List.{length-replicate}
use Rattle.kept_runs.specs.Borders.{noted}
use Rattle.kept_runs.specs.Kept.{width_of}
use Rattle.kept_runs.proofs.Colours.{blank_all, noted_blank, one_border}
use Rattle.kept_runs.proofs.runs.KeptRuns.new.Goals as goal

-- src/runs.rt
pub invariant_of-result : goal.invariant_of-result
invariant_of-result c =
    let e : c.in_ok-colours.colours.items ≡ replicate c.args.cells 0 = search rules in
    let l = length-replicate {A = ℕ} c.args.cells 0 in
    let w : length c.in_ok-colours.colours.items ≡ c.args.cells = rw e l in
    let r = c.insert.ensures.room in
    let s = c.in_ok-borders.ensures.room in
    record {
      kept = one_border c.insert.new.self c.in_ok-colours.colours.items (omega arith) (omega arith)
          (omega arith) c.insert.ensures.own
          (λ d n. c.insert.ensures.others d n ∙ c.in_ok-borders.ensures.empty d);
    }

-- src/runs.rt
pub returns-clause-cells : goal.returns-clause-cells
unfolding width_of
returns-clause-cells c =
    let e : c.in_ok-colours.colours.items ≡ replicate c.args.cells 0 = search rules in
    rw e (length-replicate {A = ℕ} c.args.cells 0)

-- src/runs.rt
pub returns-clause-blank : goal.returns-clause-blank
returns-clause-blank c =
    let e : c.in_ok-colours.colours.items ≡ replicate c.args.cells 0 = search rules in
    blank_all _ (λ d. subst (λ xs. noted xs d ≡ 0) (sym e) (noted_blank c.args.cells d))
