-- The commands that have a text.
use Rattle.std.specs.Prelude.{◌<◌, ◌≤◌, ◌≢◌, List, [], ◌∷◌, ◌++◌, length, All, ℤ, pos, ◌≤ℤ◌, nat_abs}
use Rattle.std.specs.List.{flat_map}
use Rattle.lam_geom.specs.declared.place.Point.{Point}
use Rattle.cif_form.specs.declared.command.Turn.{Turn}
use Rattle.cif_form.specs.declared.command.Turn.TheVariants.{Move, Rotate}
use Rattle.cif_form.specs.declared.command.Command.{Command}
use Rattle.cif_form.specs.declared.command.Command.TheVariants.{Polygon, Box, Round, Wire, Layer, Start, Delete, Call}
use Rattle.cif_form.specs.declared.command.Command.TheVariants.{User, Comment}
use Rattle.cif_form.specs.declared.limits.TheConstants.{NUMBER_LIMIT}
use Rattle.cif_form.specs.Text.{IsShortName, IsBalanced}

abbrev pub point_numbers : Point → List ℤ
point_numbers p = p.x ∷ p.y ∷ []

abbrev pub turn_numbers : Turn → List ℤ
turn_numbers (Move p) = point_numbers p
turn_numbers (Rotate p) = point_numbers p
turn_numbers _ = []

-- the numbers of a command that are written without a sign
abbrev pub unsigned_numbers : Command → List ℤ
unsigned_numbers (Box long wide center direction) = long ∷ wide ∷ []
unsigned_numbers (Round diameter center) = diameter ∷ []
unsigned_numbers (Wire wide path) = wide ∷ []
unsigned_numbers (Start number a b) = number ∷ a ∷ b ∷ []
unsigned_numbers (Delete number) = number ∷ []
unsigned_numbers (Call number turns) = number ∷ []
unsigned_numbers _ = []

-- the numbers that may have one
abbrev pub signed_numbers : Command → List ℤ
signed_numbers (Polygon path) = flat_map point_numbers path
signed_numbers (Box long wide center direction) = point_numbers center ++ point_numbers direction
signed_numbers (Round diameter center) = point_numbers center
signed_numbers (Wire wide path) = flat_map point_numbers path
signed_numbers (Call number turns) = flat_map turn_numbers turns
signed_numbers _ = []

-- under 2^31 in size
abbrev pub IsSmall : ℤ → Type 0
IsSmall z = nat_abs z < NUMBER_LIMIT

-- what is no number of it is as the grammar wants it
abbrev pub IsFormed : Command → Type 0
IsFormed (Polygon path) = 0 < length path
IsFormed (Wire wide path) = 0 < length path
IsFormed (Layer name) = IsShortName name
IsFormed (User digit words) = (digit ≤ 9) × All (λ b. b ≢ 59) words
IsFormed (Comment words) = IsBalanced 0 words
IsFormed _ = Unit {0}

-- the command has a text, and its numbers are small
pub record Fits (c : Command) : Type 0 where
  pub unsigned : All (λ z. (pos 0 ≤ℤ z) × IsSmall z) (unsigned_numbers c)
  pub signed : All IsSmall (signed_numbers c)
  pub formed : IsFormed c
