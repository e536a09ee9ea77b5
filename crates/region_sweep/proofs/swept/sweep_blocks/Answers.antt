-- Strips as tiles.
use Rattle.std.proofs.Common.{◌∙◌, sym, ap, subst, map, length, All}
use Rattle.std.specs.List.{AllZip}
use Rattle.mask_tiles.specs.Tiles.{AreTiles, AreWhole, IsTileOf}
use Rattle.mask_tiles.specs.Touching.{AreTouching}
use Rattle.region_sweep.specs.Grid.{IsFit, tile_of}
use Rattle.region_sweep.proofs.Gridding.{asked_are, rows_are_in, cells_are_in}
use Rattle.region_sweep.proofs.Tilings.{IsLaid, strips_fit, are_tiles, are_whole}
use Rattle.region_sweep.proofs.Edges.{are_touching}
use Rattle.region_sweep.proofs.Answering.{put_back, are_found}
use Rattle.region_sweep.proofs.swept.sweep_blocks.Goals as goal

pub sweep_rows-requires-clause-asked : goal.sweep_rows-requires-clause-asked
sweep_rows-requires-clause-asked c =
    let grid = c.args.grid.now in
    asked_are grid.columns.marks.items grid.rows.marks.items c.args.places.now c.args.spots.now
    (length c.as_mut_slice.result.now) (c.as_mut_slice.ensures.len ∙ c.in_ok-found.ensures.len) c.requires.spots
    c.requires.ascending

pub sweep_rows-requires-clause-spots : goal.sweep_rows-requires-clause-spots
sweep_rows-requires-clause-spots c =
    let grid = c.args.grid.now in
    rows_are_in grid.columns.marks.items grid.rows.marks.items c.args.places.now c.args.spots.now
    c.size.result.rows c.size.ensures.rows grid.rows.ascending c.requires.spots

pub sweep_rows-requires-clause-places : goal.sweep_rows-requires-clause-places
sweep_rows-requires-clause-places c =
    let grid = c.args.grid.now in
    cells_are_in grid.columns.marks.items grid.rows.marks.items c.args.places.now c.args.spots.now
    c.size.result.cells c.size.ensures.cells grid.columns.ascending c.requires.spots

pub tiles-requires : goal.tiles-requires
tiles-requires c =
    let grid = c.args.grid.now in
    let xs = grid.columns.marks.items in
    let ys = grid.rows.marks.items in
    subst (All (IsFit xs ys)) (sym c.as_slice.ensures.value)
    (strips_fit xs ys c.args.mask c.args.blocks.now c.in_ok-swept.swept.strips.items c.colours_by_layers.ensures
    c.requires.stacked c.in_ok-swept.ensures.strips)

pub returns : goal.returns
returns c = λ shapes drawn made.
    let grid = c.args.grid.now in
    let xs = grid.columns.marks.items in
    let ys = grid.rows.marks.items in
    let mask = c.args.mask in
    let places = c.args.places.now in
    let blocks = c.args.blocks.now in
    let laid : IsLaid xs ys mask shapes blocks = record {
      law = c.colours_by_layers.ensures;
      grid = record {
        columns = grid.columns.ascending;
        rows = grid.rows.ascending;
        drawn = drawn;
        made = made;
      };
      stacked = c.requires.stacked;
    } in
    let strips = c.in_ok-swept.swept.strips.items in
    let swept = c.in_ok-swept.ensures in
    let tiles = c.in_ok-tiles.ensures ∙ ap (map (tile_of xs ys)) c.as_slice.ensures.value in
    let found = c.sweep_rows.new.found in
    let as_many = c.sweep_rows.auto.found ∙ c.as_mut_slice.ensures.len in
    let kept = c.from_vec-2.ensures ∙ put_back found c.in_ok-found.found.items _ (sym as_many) in
    record {
      tiles = subst (AreTiles shapes mask) (sym tiles) (are_tiles xs ys mask shapes blocks strips laid swept.strips);
      whole = subst (AreWhole shapes mask) (sym tiles) (are_whole xs ys mask shapes blocks strips laid swept.strips);
      pairs = subst (λ ts. AreTouching ts c.from_vec.result) (sym tiles)
          (subst (AreTouching (map (tile_of xs ys) strips)) (sym c.from_vec.ensures)
          (are_touching xs ys mask shapes blocks strips c.in_ok-swept.swept.pairs.items laid swept.strips
          swept.touching));
      found = subst (λ ts. AllZip (IsTileOf shapes mask ts) places c.from_vec-2.result) (sym tiles)
          (subst (AllZip (IsTileOf shapes mask (map (tile_of xs ys) strips)) places) (sym kept)
          (are_found xs ys mask shapes blocks strips c.args.spots.now places found laid swept.strips c.requires.spots
          (as_many ∙ c.in_ok-found.ensures.len) swept.answers));
    }
