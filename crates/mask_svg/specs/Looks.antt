-- How a picture looks: the colours of the layers, and their key.
use Rattle.std.specs.Prelude.{ℕ, List, ◌++◌, codes}
use Rattle.lam_geom.specs.declared.layer.Layer.{Layer}
use Rattle.lam_geom.specs.declared.layer.Layer.TheVariants.{ND, NP, NC, NM, NI, NB, NG}
use Rattle.cif_form.specs.Place.{layer_name}

-- what lies below shows through, but for contacts
abbrev pub colour : Layer → List ℕ
colour ND = codes "fill:#2e9e4f"
colour NP = codes "fill:#d93636"
colour NC = codes "fill:#000;fill-opacity:1"
colour NM = codes "fill:#3a6fd8;fill-opacity:.45"
colour NI = codes "fill:#f2c500;fill-opacity:.35"
colour NB = codes "fill:#7a4a21"
colour NG = codes "fill:#999;fill-opacity:.35"

-- what has the layer's name as its class has its colour
abbrev pub coloured : Layer → List ℕ
coloured l = codes "." ++ layer_name l ++ codes "{" ++ colour l ++ codes "}"

-- letters have a bright edge
abbrev pub letters_style : List ℕ
letters_style =
    codes "text{font-family:sans-serif;paint-order:stroke;stroke:#fff;stroke-width:.2em;stroke-opacity:.7}"

-- implant has a dotted edge
abbrev pub implant_edge : List ℕ
implant_edge = codes "path.NI{stroke:#8a6a00;stroke-dasharray:1 3;vector-effect:non-scaling-stroke}"

-- the ground is white, also on a dark page
abbrev pub ground : List ℕ
ground =
    codes ".ground{fill:#fff;fill-opacity:1}</style>\n" ++ codes "<rect class='ground' width='100%' height='100%'/>\n"

abbrev pub style_text : List ℕ
style_text =
    codes "<style>" ++ letters_style ++ codes "path,rect{fill-opacity:.6}" ++ coloured ND ++ coloured NP ++ coloured NC
    ++ coloured NM ++ coloured NI ++ implant_edge ++ coloured NB ++ coloured NG ++ ground

-- what stands before the size of the picture
abbrev pub view_front : List ℕ
view_front = codes "<svg xmlns='http://www.w3.org/2000/svg' viewBox='0 0 "

-- what stands before the place of the key
abbrev pub key_front : List ℕ
key_front = codes "<g font-size='.8' transform='translate("

-- the usual names
abbrev pub usual_name : Layer → List ℕ
usual_name ND = codes "diffusion"
usual_name NP = codes "polysilicon"
usual_name NC = codes "contact"
usual_name NM = codes "metal"
usual_name NI = codes "implant"
usual_name NB = codes "buried"
usual_name NG = codes "glass"

-- a square of the layer at x and y, in units, and its name behind it
abbrev pub key_entry : (x y name_x name_y : List ℕ) → Layer → List ℕ
key_entry x y name_x name_y l =
    codes "<rect class='" ++ layer_name l ++ codes "' x='" ++ x ++ codes "' y='" ++ y
    ++ codes "' width='1' height='1'/><text x='" ++ name_x ++ codes "' y='" ++ name_y ++ codes "'>" ++ usual_name l
    ++ codes "</text>\n"

-- the first, second and third entry of a row
abbrev pub first_entry : (y name_y : List ℕ) → Layer → List ℕ
first_entry y name_y l = key_entry (codes "0") y (codes "1.4") name_y l

abbrev pub second_entry : (y name_y : List ℕ) → Layer → List ℕ
second_entry y name_y l = key_entry (codes "6") y (codes "7.4") name_y l

abbrev pub third_entry : (y name_y : List ℕ) → Layer → List ℕ
third_entry y name_y l = key_entry (codes "12") y (codes "13.4") name_y l

-- the layers in three rows, and below them the bar of the scale, ten units long
abbrev pub entries_text : List ℕ
entries_text =
    first_entry (codes "1.5") (codes "2.4") ND ++ second_entry (codes "1.5") (codes "2.4") NP
    ++ third_entry (codes "1.5") (codes "2.4") NM ++ first_entry (codes "3") (codes "3.9") NC
    ++ second_entry (codes "3") (codes "3.9") NI ++ third_entry (codes "3") (codes "3.9") NB
    ++ first_entry (codes "4.5") (codes "5.4") NG ++ codes "<rect x='0' y='6.9' width='10' height='.3'/>\n"
