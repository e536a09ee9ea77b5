-- Both ways.
use Rattle.std.proofs.Common.{true, ◌≡◌}
use Rattle.std.proofs.lemmas.Result.{IfOk-weaker}
use Rattle.lam_geom.specs.declared.layer.Layer.TheVariants.{ND, NP}
use Rattle.rule_edges.specs.Edges.{AreApart, AreParted, facing}
use Rattle.rule_edges.proofs.unrelated.are_parted.Goals as goal

pub returns : goal.returns
returns c =
    let first = c.in_ok-are_apart.ensures c.if-not-branch.false in
    IfOk-weaker c.are_apart-2.result (λ a. a ≡ true → AreApart (facing ND NP 0 c.args.along) c.args.shapes.now)
    (λ kept. kept ≡ true → AreParted c.args.along c.args.shapes.now)
    (λ kept h e. record { polysilicon_first = first; diffusion_first = h e }) c.are_apart-2.ensures
