-- The text of a picture: what is drawn as SVG, layer by layer, in half-units.
use Rattle.std.specs.Prelude.{ℕ, ◌*◌, List, [], ◌∷◌, ◌++◌, codes, filter, ℤ, pos, neg_ℤ}
use Rattle.std.specs.Prelude.{◌==◌, ◌&&◌, nat_le, if◌then◌else◌}
use Rattle.std.specs.List.{flat_map}
use Rattle.std.specs.Fmt.{signed_decimal}
use Rattle.lam_geom.specs.declared.label.FlatLabel.{FlatLabel}
use Rattle.lam_geom.specs.declared.layer.Layer.{Layer}
use Rattle.lam_geom.specs.declared.layer.Layer.TheVariants.{ND, NP, NC, NM, NI, NB, NG}
use Rattle.lam_geom.specs.declared.rect.Rect.{Rect}
use Rattle.lam_geom.specs.Squares.{rank}
use Rattle.cif_form.specs.Place.{layer_name}
use Rattle.mask_svg.specs.declared.frame.Frame.{Frame}
use Rattle.mask_svg.specs.declared.height.Way.{Way}
use Rattle.mask_svg.specs.declared.height.Way.TheVariants.{Up, Across}
use Rattle.mask_svg.specs.Heights.{name_height, name_way}
use Rattle.mask_svg.specs.Looks.{entries_text, key_front, style_text, view_front}
use Rattle.mask_svg.specs.Frames.{frame_of, grain, picture_height, picture_width, unit, unit_count}

-- a number behind a few letters
unfoldable pub tagged : List ℕ → ℤ → List ℕ
tagged tag z = tag ++ signed_decimal z

-- the lower left corner
unfoldable pub corner_text : Rect → List ℕ
corner_text r = tagged (codes "M") r.x0 ++ tagged (codes " ") r.y0

-- to the right and up
unfoldable pub far_sides_text : Rect → List ℕ
far_sides_text r = tagged (codes "H") r.x1 ++ tagged (codes "V") r.y1

-- to the left, and closed
unfoldable pub near_sides_text : Rect → List ℕ
near_sides_text r = tagged (codes "H") r.x0 ++ codes "z"

-- to the right, up, to the left, and closed
unfoldable pub sides_text : Rect → List ℕ
sides_text r = far_sides_text r ++ near_sides_text r

-- a rectangle as a path
unfoldable pub rect_text : Rect → List ℕ
rect_text r = corner_text r ++ sides_text r

-- the rectangles of a layer, in order
abbrev pub on_layer : Layer → List Rect → List Rect
on_layer l shapes = filter (λ (r : Rect). rank r.layer == rank l) shapes

-- a layer is one path
unfoldable pub layer_text : List Rect → Layer → List ℕ
layer_text shapes l =
    codes "<path class='" ++ layer_name l ++ codes "' d='" ++ flat_map rect_text (on_layer l shapes) ++ codes "'/>\n"

-- the layers from the lowest to the highest, so that cuts stand on the metal
abbrev pub layers : List Layer
layers = NI ∷ ND ∷ NP ∷ NB ∷ NM ∷ NC ∷ NG ∷ []

-- what is drawn, layer by layer, turned upside down since y of SVG is downwards
unfoldable pub shapes_text : List Rect → List ℕ
shapes_text shapes = codes "<g transform='scale(1 -1)'>\n" ++ flat_map (layer_text shapes) layers ++ codes "</g>\n"

-- a byte of a name in XML; one that is no letter, digit or mark of ASCII is the sign for what can't be shown
abbrev pub escaped : ℕ → List ℕ
escaped b =
    if b == 38 then codes "&amp;" else if b == 60 then codes "&lt;" else if b == 62 then codes "&gt;"
    else if nat_le 32 b && nat_le b 126 then b ∷ [] else codes "&#65533;"

-- where a label stands
unfoldable pub place_text : FlatLabel → List ℕ
place_text l = tagged (codes "<g transform='translate(") l.x ++ tagged (codes " ") (neg_ℤ l.y) ++ codes ")"

-- which way its name goes
abbrev pub way_tag : Way → List ℕ
way_tag Up = codes " rotate(-90) scale("
way_tag Across = codes " scale("

-- how high its name is
unfoldable pub height_text : Way → ℕ → List ℕ
height_text way height = tagged (way_tag way) (pos height)

-- its name, up to the end of the label
unfoldable pub name_text : FlatLabel → List ℕ
name_text l = flat_map escaped l.name ++ codes "</text></g>\n"

-- its mark and its name, a little behind that
unfoldable pub named_text : FlatLabel → List ℕ
named_text l = codes ")'><circle r='.2'/><text x='.3'>" ++ name_text l

-- a label with a name that goes some way and has some height, at the lower left corner of its square
unfoldable pub sized_text : Way → ℕ → FlatLabel → List ℕ
sized_text way height l = place_text l ++ height_text way height ++ named_text l

-- a label of a drawing with a unit and labels
abbrev pub label_text : ℕ → List FlatLabel → FlatLabel → List ℕ
label_text unit labels l =
    let way = name_way unit labels l in sized_text way (name_height way unit labels l) l

unfoldable pub labels_text : Frame → List FlatLabel → List ℕ
labels_text f labels =
    codes "<g font-size='1'>\n" ++ flat_map (label_text (unit f) labels) labels ++ codes "</g>\n"

-- the size of the picture
unfoldable pub view_text : Frame → List ℕ
view_text f = tagged view_front (pos (picture_width f)) ++ tagged (codes " ") (pos (picture_height f)) ++ codes "'>\n"

-- two units from the left and from above
unfoldable pub margin_text : Frame → List ℕ
margin_text f = tagged (codes "<g transform='translate(") (pos (2 * unit f)) ++ tagged (codes " ") (pos (2 * unit f))

-- the top of the drawing goes to the origin
unfoldable pub top_move : Frame → List ℕ
top_move f = tagged (codes " ") f.top ++ codes ")'>\n"

-- the upper left corner of the drawing goes to the origin
unfoldable pub corner_move : Frame → List ℕ
corner_move f = tagged (codes ") translate(") (neg_ℤ f.left) ++ top_move f

-- the upper left corner of the drawing is two units from that of the picture
unfoldable pub shift_text : Frame → List ℕ
shift_text f = margin_text f ++ corner_move f

abbrev pub grain_name : Frame → List ℕ
grain_name f = if grain f == 1 then codes " half-units" else codes " lambda"

-- the lower left corner of the drawing, where the key stands
unfoldable pub key_corner_text : Frame → List ℕ
key_corner_text f = tagged key_front f.left ++ tagged (codes " ") (neg_ℤ f.bottom)

-- how large a unit is
unfoldable pub key_size_text : Frame → List ℕ
key_size_text f = tagged (codes ") scale(") (pos (unit f)) ++ codes ")'>\n"

-- where the key stands, and how large a unit is
unfoldable pub key_place_text : Frame → List ℕ
key_place_text f = key_corner_text f ++ key_size_text f

-- what the bar of the scale is long: ten units
unfoldable pub scale_text : Frame → List ℕ
scale_text f =
    tagged (codes "<text x='11' y='7.5'>") (pos (10 * unit_count f)) ++ grain_name f ++ codes "</text>\n</g>\n"

-- the key of the layers, and a scale of ten units, below the drawing
unfoldable pub key_text : Frame → List ℕ
key_text f = key_place_text f ++ entries_text ++ scale_text f

-- what stands before the drawing
unfoldable pub head_text : Frame → List ℕ
head_text f = view_text f ++ style_text ++ shift_text f

-- the picture of a drawing with its labels
abbrev pub picture_text : List Rect → List FlatLabel → List ℕ
picture_text shapes labels =
    let f = frame_of shapes in
    head_text f ++ shapes_text shapes ++ labels_text f labels ++ key_text f ++ codes "</g>\n</svg>\n"
