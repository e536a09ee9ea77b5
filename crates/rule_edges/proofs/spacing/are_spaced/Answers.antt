-- At one lambda, and at two where the size is more than that.
use Rattle.std.proofs.Common.{arith, true, ◌≡◌}
use Rattle.std.proofs.lemmas.Result.{IfOk-weaker}
use Rattle.rule_edges.specs.Edges.{AreApart, AreSpaced, facing}
use Rattle.rule_edges.proofs.spacing.are_spaced.Goals as goal

pub returns-then-size-le1000 : goal.returns-then-size-le1000
returns-then-size-le1000 c = λ e. record {
  near = c.in_ok-are_apart.ensures c.if-not-branch.false;
  far = λ m. absurd (omega arith);
}

pub returns : goal.returns
returns c =
    let l = c.args.layer in
    let near = c.in_ok-are_apart.ensures c.if-not-branch.false in
    IfOk-weaker c.are_apart-2.result (λ a. a ≡ true → AreApart (facing l l 1000 c.args.along) c.args.shapes.now)
    (λ kept. kept ≡ true → AreSpaced l c.args.size c.args.along c.args.shapes.now)
    (λ kept h e. record { near = near; far = λ m. h e }) c.are_apart-2.ensures
