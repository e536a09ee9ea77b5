-- The gaps of three layers.
use Rattle.std.proofs.Common.{sym, ◌∙◌, ap, length}
use Rattle.std.proofs.lemmas.Result.{IfOk-weaker}
use Rattle.lam_geom.specs.declared.layer.Layer.TheVariants.{ND, NP, NM}
use Rattle.lam_geom.specs.Squares.{covered}
use Rattle.rule_tiles.specs.Backed.{AreUnset}
use Rattle.rule_tiles.specs.Cuts.{AreFlags, IsJoined, IsBareAt}
use Rattle.rule_tiles.proofs.Backing.{unset_flags}
use Rattle.rule_tiles.proofs.Gaps.{as_many_gaps, bare_flags_are}
use Rattle.rule_tiles.proofs.blocks.bare_flags.Goals as goal

pub joined-requires-clause-metal : goal.joined-requires-clause-metal
joined-requires-clause-metal c =
    ap length c.as_slice.ensures
    ∙ as_many_gaps (covered c.args.shapes.now NM) c.args.corners.now _ c.in_ok-metal.ensures ∙ sym c.requires.long

pub joined-requires-clause-polysilicon : goal.joined-requires-clause-polysilicon
joined-requires-clause-polysilicon c =
    ap length c.as_slice-2.ensures
    ∙ as_many_gaps (covered c.args.shapes.now NP) c.args.corners.now _ c.in_ok-polysilicon.ensures
    ∙ sym c.requires.long

pub joined-requires-clause-diffusion : goal.joined-requires-clause-diffusion
joined-requires-clause-diffusion c =
    ap length c.as_slice-3.ensures
    ∙ as_many_gaps (covered c.args.shapes.now ND) c.args.corners.now _ c.in_ok-diffusion.ensures ∙ sym c.requires.long

pub returns : goal.returns
returns c =
    let covers = covered c.args.shapes.now in
    let corners = c.args.corners.now in
    let odd = c.args.odd.now in
    let told = rw (c.as_slice.ensures, c.as_slice-2.ensures, c.as_slice-3.ensures) at c.joined.ensures in
    IfOk-weaker c.joined.result
    (AreFlags (IsJoined odd c.in_ok-metal.metal c.in_ok-polysilicon.polysilicon c.in_ok-diffusion.diffusion)
    (length odd))
    (AreFlags (IsBareAt covers corners odd) (length corners))
    (λ flags are. bare_flags_are covers corners odd c.in_ok-metal.metal c.in_ok-polysilicon.polysilicon
    c.in_ok-diffusion.diffusion (length odd) flags c.requires.long c.in_ok-metal.ensures c.in_ok-polysilicon.ensures
    c.in_ok-diffusion.ensures are) told

pub returns-then-branch : goal.returns-then-branch
returns-then-branch c =
    let shapes = c.args.shapes.now in
    let corners = c.args.corners.now in
    let odd = c.args.odd.now in
    let backed = c.in_ok-are_backed.ensures c.if-branch.true in
    IfOk-weaker c.unset.result (AreUnset (length corners)) (AreFlags (IsBareAt (covered shapes) corners odd) (length corners))
    (λ flags unset. unset_flags shapes corners odd flags backed unset) c.unset.ensures
