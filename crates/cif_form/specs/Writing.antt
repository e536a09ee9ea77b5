-- What a writer of CIF writes.
use Rattle.std.specs.Prelude.{ℕ, ◌+◌, ◌&&◌, Bool, false, List, [], ◌∷◌, ◌++◌, length, ℤ, pos, negsuc, codes, ◌==◌}
use Rattle.std.specs.Prelude.{if◌then◌else◌}
use Rattle.std.specs.Fmt.{signed_decimal}
use Rattle.lam_geom.specs.declared.place.Point.{Point}
use Rattle.cif_form.specs.declared.command.Turn.{Turn}
use Rattle.cif_form.specs.declared.command.Turn.TheVariants.{Move, MirrorX, MirrorY, Rotate}
use Rattle.cif_form.specs.declared.command.Command.{Command}
use Rattle.cif_form.specs.declared.command.Command.TheVariants.{Polygon, Box, Round, Wire, Layer, Start, Finish, Delete}
use Rattle.cif_form.specs.declared.command.Command.TheVariants.{Call, User, Comment}
use Rattle.cif_form.specs.declared.command.Item.{Item}

abbrev pub space : List ℕ
space = 32 ∷ []

abbrev pub point_text : Point → List ℕ
point_text p = signed_decimal p.x ++ (space ++ signed_decimal p.y)

abbrev pub path_text : List Point → List ℕ
path_text [] = []
path_text (p ∷ ps) = space ++ (point_text p ++ path_text ps)

abbrev pub turn_text : Turn → List ℕ
turn_text (Move p) = codes " T " ++ point_text p
turn_text MirrorX = codes " M X"
turn_text MirrorY = codes " M Y"
turn_text (Rotate p) = codes " R " ++ point_text p

abbrev pub turns_text : List Turn → List ℕ
turns_text [] = []
turns_text (t ∷ ts) = turn_text t ++ turns_text ts

-- the number is this natural one
abbrev pub is_number : ℤ → ℕ → Bool
is_number (pos n) m = n == m
is_number (negsuc n) m = false

-- nothing where it is the usual one
abbrev pub direction_text : Point → List ℕ
direction_text p = if is_number p.x 1 && is_number p.y 0 then [] else space ++ point_text p

-- the text of a command, without its semicolon: single spaces, and numbers in decimal without leading zeros
abbrev pub text_of : Command → List ℕ
text_of (Polygon path) = codes "P" ++ path_text path
text_of (Box long wide center direction) = codes "B"
    ++ ((space ++ signed_decimal long)
    ++ (space ++ (signed_decimal wide ++ (space ++ (point_text center ++ direction_text direction)))))
text_of (Round diameter center) = codes "R" ++ ((space ++ signed_decimal diameter) ++ (space ++ point_text center))
text_of (Wire wide path) = codes "W" ++ ((space ++ signed_decimal wide) ++ path_text path)
text_of (Layer name) = codes "L" ++ (space ++ name)
text_of (Start number a b) = codes "DS"
    ++ ((space ++ signed_decimal number) ++ (space ++ (signed_decimal a ++ (space ++ signed_decimal b))))
text_of Finish = codes "DF"
text_of (Delete number) = codes "DD" ++ (space ++ signed_decimal number)
text_of (Call number turns) = codes "C" ++ ((space ++ signed_decimal number) ++ turns_text turns)
text_of (User digit words) = (48 + digit) ∷ words
text_of (Comment words) = 40 ∷ words ++ 41 ∷ []

-- the commands in turn, each followed by the text `semi`, and then `E` and the text `last`
abbrev pub written : List ℕ → List ℕ → List Command → List ℕ
written semi last [] = 69 ∷ last
written semi last (c ∷ cs) = text_of c ++ (semi ++ written semi last cs)

-- the commands with their offsets in that text, which begins at an offset
abbrev pub placed_items : List ℕ → ℕ → List Command → List Item
placed_items semi offset [] = []
placed_items semi offset (c ∷ cs) =
    record { offset = offset; command = c } ∷ placed_items semi (offset + (length (text_of c) + length semi)) cs
