-- Run by run.
use Rattle.std.proofs.Common.{◌≡◌, ◌≤◌, true, length, inl, inr, sym, ◌∙◌, arith}
use Rattle.cell_set.specs.Sets.{has}
use Rattle.kept_runs.specs.Kept.{colours_of, width_of}
use Rattle.kept_runs.proofs.Colours.{at_border, goes_on, other_before}
use Rattle.kept_runs.proofs.Growing.{grown_by}
use Rattle.kept_runs.proofs.runs.KeptRuns.collect.Goals as goal

-- src/runs.rt
pub loop-right-preserved : goal.loop-right-preserved
unfolding width_of
loop-right-preserved c =
    let k = c.args.self.now in
    let inv = c.loop-right.invariant in
    let left = c.loop-right.left in
    let right = c.loop-right.right in
    let o = inv.order in
    let n = inv.after.order in
    let t = inv.within in
    let w : c.args.to ≤ length k.colours.items = c.requires in
    let m = c.loop-right-test.true in
    let h : has k.borders right ≡ true = elim inv.after.own [
      | inl e ↦ absurd (omega arith)
      | inr h ↦ h
    ] in
    record {
      order = omega arith;
      within = m;
      border = inr h;
      after = c.border_after-right-in-loop-right.ensures;
      colour = c.noted_at-colour.ensures ∙ sym (at_border k k.kept right h);
      runs = rw c.in_ok-add.ensures
          (grown_by c.args.from left right c.loop-right.colour (colours_of k) c.loop-right.runs.items inv.runs o n
          (λ d i j. goes_on k k.kept left right (omega arith) inv.after d i j ∙ sym inv.colour)
          (other_before k k.kept c.args.from left c.loop-right.colour o inv.border inv.colour));
    }

-- src/runs.rt
pub returns : goal.returns
unfolding width_of
returns c =
    let k = c.args.self.now in
    let inv = c.loop-right.invariant in
    let left = c.loop-right.left in
    let right = c.loop-right.right in
    let o = inv.order in
    let t = inv.within in
    let w : c.args.to ≤ length k.colours.items = c.requires in
    let m = c.loop-right-test.false in
    rw c.in_ok-add-2.ensures
    (grown_by c.args.from left c.args.to c.loop-right.colour (colours_of k) c.loop-right.runs.items inv.runs o t
    (λ d i j. goes_on k k.kept left right (omega arith) inv.after d i (omega arith) ∙ sym inv.colour)
    (other_before k k.kept c.args.from left c.loop-right.colour o inv.border inv.colour))
