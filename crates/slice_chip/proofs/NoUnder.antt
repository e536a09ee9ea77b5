-- The marks of a path's fabric are taps, transistors and pull-ups.
use Rattle.std.proofs.Common.{◌≢◌, ◌∙◌, sym, ap, subst}
use Rattle.mp_base.proofs.Members.{contains_member, member_map}
use Rattle.tile_cells.specs.declared.tile.Tile.TheVariants.{Under}
use Rattle.fabric.specs.declared.thing.Mark.{Mark}
use Rattle.fabric.specs.declared.thing.Side.TheVariants.{L, R}
use Rattle.array_form.specs.Lists.{Layout, mark_of}
use Rattle.array_form.specs.Named.{Tie, tap, tran, pull}
use Rattle.array_form.specs.Wires.{Wire}
use Rattle.slice_form.specs.PathLists.{path_ties}
use Rattle.slice_form.specs.PathWires.{Across}
use Rattle.slice_form.specs.Whole.{path_of}
use Rattle.slice_laying.proofs.WholePaths.{placeable}
use Rattle.fabric_extent.specs.Bounds.{HasNoUnder}
use Rattle.slice_chip.specs.Sizes.{SlicedHasNoUnder}
use Rattle.slice_chip.proofs.MadeOf.{stub, y}
use Rattle.slice_chip.proofs.MarksOf.{is_made}

tile_of : (X : Type 0) (y : Layout X) (t : Tie (Wire X)) → (mark_of X y t).tile ≢ Under
tile_of X y (tap L w v) e = cc e
tile_of X y (tap R w v) e = cc e
tile_of X y (tran g a b) e = cc e
tile_of X y (pull a) e = cc e

pub sliced_has_no_under : SlicedHasNoUnder
sliced_has_no_under p control_net slice_net f sliced =
    let whole = path_of p in
    let ready = placeable p control_net slice_net in
    let layout = y whole ready sliced.control sliced.slices sliced.control_tracks sliced.slice_tracks in
    let ties = path_ties whole (stub whole ready sliced.control sliced.slices sliced.control_tracks
    sliced.slice_tracks) in
    let made = is_made whole ready sliced.control sliced.slices sliced.control_tracks sliced.slice_tracks in
    subst HasNoUnder (sym sliced.is)
    (λ m c u.
    let w = member_map (mark_of Across layout) ties m (contains_member _ m ((made.marks m).0 c)) in
    tile_of Across layout w.0 (ap (λ (m : Mark). m.tile) w.2 ∙ u))
