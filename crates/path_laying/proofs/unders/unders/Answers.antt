use Rattle.std.proofs.Common.{List, [], ◌∷◌, ◌++◌, ◌∙◌, suc, ap, map, sym}
use Rattle.std.specs.Prelude.{flat_map, slice_index}
use Rattle.tile_cells.specs.declared.tile.Tile.TheVariants.{Under}
use Rattle.fabric.specs.declared.thing.Mark.{Mark}
use Rattle.array_form.specs.Lists.{mark}
use Rattle.slice_chip.specs.Unders.{led}
use Rattle.slice_form.specs.PathLists.{slices_of}
use Rattle.slice_form.specs.Whole.{path_of}
use Rattle.path_laying.specs.Crossed.{crossing}
use Rattle.path_laying.proofs.Crossed.{all_crossed}
use Rattle.path_laying.proofs.unders.unders.Goals as goal

pub returns : goal.returns
returns c =
    let p = c.args.path.now in
    let control = c.args.control.now in
    let slices = c.args.slices.now in
    let high =
    flat_map (λ b. map (crossing (slice_index slices.row) b) (path_of p).west_words) (slices_of (path_of p)) in
    let low : List Mark =
    mark Under 0 (suc control.rows) 0 ∷ map (crossing (slice_index control.row) 0) (led (path_of p) 0) in
    c.in_ok-push_slices.ensures
    ∙ (ap (λ l. l ++ high) (c.in_ok-push_control.ensures ∙ ap (λ l. l ++ low) c.new-marks.ensures.items)
    ∙ ap (λ l. mark Under 0 (suc control.rows) 0 ∷ l) (all_crossed p control slices))
