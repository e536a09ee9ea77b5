-- Commands that set layers and draw the boxes of rectangles.
use Rattle.std.proofs.Common.{◌≡◌, List, [], ◌∷◌, ◌++◌, map, get_or, Option, Some, All}
use Rattle.std.specs.List.{flat_map}
use Rattle.std.proofs.lemmas.List.Elements.{All-head, All-tail, All-filter, filter_passes}
use Rattle.lam_geom.specs.declared.layer.Layer.{Layer}
use Rattle.lam_geom.specs.declared.rect.Rect.{Rect}
use Rattle.cif_form.specs.declared.command.Command.{Command}
use Rattle.cif_form.specs.declared.command.Command.TheVariants as commands
use Rattle.cif_form.specs.Place.{layer_name}
use Rattle.cif_emit.specs.Emittable.{IsOnGrid, IsSolid}
use Rattle.cif_emit.specs.Commands.{layers, is_on, drawn_on, box_of, layer_commands, box_commands}
use Rattle.cif_emit.proofs.Drawn.{one_layer_on, solid_on, drawn}

-- a rectangle of the layer that has a box
pub record IsBoxed (l : Layer) (r : Rect) : Type 0 where
  pub layer : r.layer ≡ l
  pub grid : IsOnGrid r
  pub solid : IsSolid r

-- where that layer is set, or none, the commands draw these rectangles
pub data Paints : Option Layer → List Command → List Rect → Type 0 where
  none : {l : Option Layer} → Paints l [] []
  layer : {l : Option Layer} {cs : List Command} {rs : List Rect} (m : Layer) → Paints (Some m) cs rs
      → Paints l (commands.Layer (layer_name m) ∷ cs) rs
  box : {l : Layer} {cs : List Command} {rs : List Rect} (r : Rect) → IsBoxed l r → Paints (Some l) cs rs
      → Paints (Some l) (box_of r ∷ cs) (r ∷ rs)

paints_boxes : (l : Layer) (xs : List Rect) → All (IsBoxed l) xs → {cs : List Command} {rs : List Rect}
    → Paints (Some l) cs rs
    → Paints (Some l) (map box_of xs ++ cs) (xs ++ rs)
paints_boxes l [] h p = p
paints_boxes l (x ∷ xs) h p =
    Paints.box x (All-head (IsBoxed l) x xs h) (paints_boxes l xs (All-tail (IsBoxed l) x xs h) p)

paints_layer : (l : Layer) (xs : List Rect) → All (IsBoxed l) xs → {cs : List Command} {rs : List Rect}
    → ((k : Option Layer) → Paints k cs rs) → (k : Option Layer) → Paints k (layer_commands l xs ++ cs) (xs ++ rs)
paints_layer l [] h p k = p k
paints_layer l (x ∷ xs) h p k = Paints.layer l (paints_boxes l (x ∷ xs) h (p (Some l)))

boxed_on : (l : Layer) (rects : List Rect) → All IsOnGrid rects → All (IsBoxed l) (drawn_on l rects)
boxed_on l rects h =
    let grid = All-filter (is_on l) IsOnGrid rects h in
    let on = filter_passes (is_on l) rects in
    λ k d b. let r : Rect = get_or (drawn_on l rects) k d in
    record { layer = one_layer_on l r (on k d b); grid = grid k d b; solid = solid_on l r (on k d b) }

paints_all : (ls : List Layer) (rects : List Rect) → All IsOnGrid rects → (k : Option Layer)
    → Paints k (flat_map (λ l. layer_commands l (drawn_on l rects)) ls) (drawn ls rects)
paints_all [] rects h k = Paints.none
paints_all (l ∷ ls) rects h k =
    paints_layer l (drawn_on l rects) (boxed_on l rects h) (λ m. paints_all ls rects h m) k

pub paints_boxes_of : (rects : List Rect) → All IsOnGrid rects → (k : Option Layer)
    → Paints k (box_commands rects) (drawn layers rects)
paints_boxes_of rects h k = paints_all layers rects h k
