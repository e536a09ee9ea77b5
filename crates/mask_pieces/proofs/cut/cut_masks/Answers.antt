use Rattle.std.proofs.Common.{◌≡◌, sym, subst, map}
use Rattle.std.specs.Prelude.{AllPairs}
use Rattle.lam_geom.specs.declared.layer.Layer.TheVariants.{NM, NP, ND}
use Rattle.mask_tiles.specs.Tiles.{Before}
use Rattle.mask_pieces.specs.Pieces.{AreOfTiles, AreNumbersOf, over}
use Rattle.mask_pieces.proofs.CutLemmas.{cut_same}
use Rattle.mask_pieces.proofs.cut.cut_masks.Goals as goal

pub cut_up-requires-clause-metal : goal.cut_up-requires-clause-metal
cut_up-requires-clause-metal c = subst (AllPairs Before) (sym c.as_slice.ensures) c.requires.metal.ascending

pub cut_up-requires-clause-polysilicon : goal.cut_up-requires-clause-polysilicon
cut_up-requires-clause-polysilicon c =
    subst (AllPairs Before) (sym c.as_slice-2.ensures) c.requires.polysilicon.ascending

pub cut_up-requires-clause-diffusion : goal.cut_up-requires-clause-diffusion
cut_up-requires-clause-diffusion c = subst (AllPairs Before) (sym c.as_slice-3.ensures) c.requires.diffusion.ascending

pub layered-requires-clause-of : goal.layered-requires-clause-of
layered-requires-clause-of c =
    subst (AreOfTiles NM c.args.metal.now.tiles) (sym c.as_slice-all.ensures)
    (cut_same _ _ _ _ _ _ _ c.as_slice.ensures c.as_slice-2.ensures c.as_slice-3.ensures
    c.in_ok-pieces.ensures).of_metal

pub layered-requires-2-clause-of : goal.layered-requires-2-clause-of
layered-requires-2-clause-of c =
    subst (AreOfTiles NP c.args.polysilicon.now.tiles) (sym c.as_slice-all.ensures)
    (cut_same _ _ _ _ _ _ _ c.as_slice.ensures c.as_slice-2.ensures c.as_slice-3.ensures
    c.in_ok-pieces.ensures).of_polysilicon

pub layered-requires-3-clause-of : goal.layered-requires-3-clause-of
layered-requires-3-clause-of c =
    subst (AreOfTiles ND c.args.diffusion.now.tiles) (sym c.as_slice-all.ensures)
    (cut_same _ _ _ _ _ _ _ c.as_slice.ensures c.as_slice-2.ensures c.as_slice-3.ensures
    c.in_ok-pieces.ensures).of_diffusion

pub returns : goal.returns
returns c = record {
  pieces = cut_same _ _ _ _ _ _ _ c.as_slice.ensures c.as_slice-2.ensures c.as_slice-3.ensures c.in_ok-pieces.ensures;
  metal_numbers =
      subst (λ ps. AreNumbersOf NM c.args.metal.now.tiles ps c.in_ok-metal.metal.numbers) c.as_slice-all.ensures
      c.in_ok-metal.ensures.numbers;
  polysilicon_numbers =
      subst (λ ps. AreNumbersOf NP c.args.polysilicon.now.tiles ps c.in_ok-polysilicon.polysilicon.numbers)
      c.as_slice-all.ensures c.in_ok-polysilicon.ensures.numbers;
  diffusion_numbers =
      subst (λ ps. AreNumbersOf ND c.args.diffusion.now.tiles ps c.in_ok-diffusion.diffusion.numbers)
      c.as_slice-all.ensures c.in_ok-diffusion.ensures.numbers;
  metal_over =
      subst (λ ps. c.in_ok-metal.metal.over ≡ map (over c.in_ok-metal.metal.numbers ps) c.args.metal.now.found)
      c.as_slice-all.ensures c.in_ok-metal.ensures.over;
  polysilicon_over =
      subst (λ ps. c.in_ok-polysilicon.polysilicon.over
      ≡ map (over c.in_ok-polysilicon.polysilicon.numbers ps) c.args.polysilicon.now.found) c.as_slice-all.ensures
      c.in_ok-polysilicon.ensures.over;
  diffusion_over =
      subst (λ ps. c.in_ok-diffusion.diffusion.over
      ≡ map (over c.in_ok-diffusion.diffusion.numbers ps) c.args.diffusion.now.found) c.as_slice-all.ensures
      c.in_ok-diffusion.ensures.over;
}
