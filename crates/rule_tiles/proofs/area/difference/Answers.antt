-- The tiles of colour 1 are the difference.
use Rattle.std.proofs.Common.{◌≡◌, sym, subst, ap, ◌∙◌, ◌++◌, map}
use Rattle.std.proofs.lemmas.Result.{IfOk-weaker}
use Rattle.lam_geom.specs.declared.layer.Layer.TheVariants.{ND, NP}
use Rattle.mask_runs.specs.declared.mask.Mask.TheVariants.{Diffusion}
use Rattle.mask_tiles.specs.Tiles.{AreTiles, AreWhole}
use Rattle.rule_tiles.specs.Areas.{grown, reached, held, bare_of, IsAreaOf, Lacks}
use Rattle.rule_tiles.proofs.Bare.{difference_area}
use Rattle.rule_tiles.proofs.area.difference.Goals as goal

pub returns : goal.returns
returns c =
    let from = c.args.from.now in
    let taken = c.args.taken.now in
    let tiles = c.as_slice-2.result.now in
    let is = c.as_slice.ensures ∙ c.in_ok-add-2.ensures
    ∙ ap (λ s. s ++ map (grown NP c.args.before c.args.after) taken)
    (c.in_ok-add.ensures ∙ ap (λ s. s ++ map (grown ND 0 0) from) c.new-shapes.ensures) in
    let are = subst (AreTiles c.as_slice.result.now Diffusion) (sym c.as_slice-2.ensures)
    c.in_ok-swept.ensures.tiles in
    let whole = subst (AreWhole c.as_slice.result.now Diffusion) (sym c.as_slice-2.ensures)
    c.in_ok-swept.ensures.whole in
    let Is = Lacks (held from) (reached c.args.before c.args.after taken) in
    IfOk-weaker c.bare.result (λ a. a ≡ bare_of tiles) (IsAreaOf Is)
    (λ a e. subst (IsAreaOf Is) (sym e)
    (difference_area from taken c.args.before c.args.after c.as_slice.result.now tiles is are whole)) c.bare.ensures
