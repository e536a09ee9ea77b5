use Rattle.std.proofs.Common.{◌≡◌, ℕ, ◌+◌, List, length, refl, sym, subst, arith}
use Rattle.std.specs.Prelude.{Option, Some, slice_get}
use Rattle.std.proofs.lemmas.Option.{slice_get_read}
use Rattle.lam_geom.specs.declared.label.FlatLabel.{FlatLabel}
use Rattle.extractor.specs.Naming.{AreNamed}
use Rattle.extractor.proofs.Naming.{named_none, named_more}
use Rattle.extractor.proofs.over.nodes_named.Goals as goal

pub loop-n-init : goal.loop-n-init
loop-n-init c =
    let P : List (Option ℕ)
    → Type 0 = AreNamed c.args.labels.now c.args.metal.now c.args.polysilicon.now c.args.diffusion.now 0 in
    subst P (sym c.new-nodes.ensures)
    (named_none c.args.labels.now c.args.metal.now c.args.polysilicon.now c.args.diffusion.now)

pub loop-n-preserved : goal.loop-n-preserved
loop-n-preserved c =
    let labels : List FlatLabel = c.args.labels.now in
    let i : ℕ = c.loop-n.n in
    let label : FlatLabel = c.index-labels-n.result in
    let at : slice_get labels i ≡ Some label =
    slice_get_read labels (length labels) i label refl c.loop-n-test.true c.index-labels-n.is in
    let P : List (Option ℕ)
    → Type 0 = AreNamed labels c.args.metal.now c.args.polysilicon.now c.args.diffusion.now (i + 1) in
    subst P (sym c.in_ok-push.ensures.ok)
    (named_more labels c.args.metal.now c.args.polysilicon.now c.args.diffusion.now i c.loop-n.nodes label
    c.named.result c.loop-n.invariant at c.named.ensures)

pub returns : goal.returns
returns c =
    let P : ℕ
    → Type 0 = λ k. AreNamed c.args.labels.now c.args.metal.now c.args.polysilicon.now c.args.diffusion.now k
    c.loop-n.nodes in
    let e : c.loop-n.n ≡ length c.args.labels.now = omega arith in
    subst P e c.loop-n.invariant
