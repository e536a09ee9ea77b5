-- Commands whose numbers are cut at the limit.
use Rattle.std.specs.Prelude.{ℕ, suc, min, map, ℤ, pos, negsuc, neg_ℤ, List}
use Rattle.lam_geom.specs.declared.place.Point.{Point}
use Rattle.cif_form.specs.declared.limits.TheConstants.{NUMBER_LIMIT}
use Rattle.cif_form.specs.declared.command.Turn.{Turn}
use Rattle.cif_form.specs.declared.command.Turn.TheVariants.{Move, MirrorX, MirrorY, Rotate}
use Rattle.cif_form.specs.declared.command.Command.{Command}
use Rattle.cif_form.specs.declared.command.Command.TheVariants.{Polygon, Box, Round, Wire, Layer, Start, Finish, Delete}
use Rattle.cif_form.specs.declared.command.Command.TheVariants.{Call, User, Comment}

abbrev pub cut : ℕ → ℕ
cut n = min n NUMBER_LIMIT

abbrev pub cut_number : ℤ → ℤ
cut_number (pos n) = pos (cut n)
cut_number (negsuc n) = neg_ℤ (pos (cut (suc n)))

abbrev pub cut_point : Point → Point
cut_point p = record { x = cut_number p.x; y = cut_number p.y }

abbrev pub cut_turn : Turn → Turn
cut_turn (Move p) = Move (cut_point p)
cut_turn MirrorX = MirrorX
cut_turn MirrorY = MirrorY
cut_turn (Rotate p) = Rotate (cut_point p)

abbrev pub cut_path : List Point → List Point
cut_path ps = map cut_point ps

abbrev pub cut_turns : List Turn → List Turn
cut_turns ts = map cut_turn ts

abbrev pub cut_command : Command → Command
cut_command (Polygon ps) = Polygon (cut_path ps)
cut_command (Box long wide c d) = Box (cut_number long) (cut_number wide) (cut_point c) (cut_point d)
cut_command (Round d c) = Round (cut_number d) (cut_point c)
cut_command (Wire w ps) = Wire (cut_number w) (cut_path ps)
cut_command (Layer name) = Layer name
cut_command (Start n a b) = Start (cut_number n) (cut_number a) (cut_number b)
cut_command Finish = Finish
cut_command (Delete n) = Delete (cut_number n)
cut_command (Call n ts) = Call (cut_number n) (cut_turns ts)
cut_command (User d words) = User d words
cut_command (Comment words) = Comment words

abbrev pub cut_scale : ℤ × ℤ → ℤ × ℤ
cut_scale s = (cut_number s.0, cut_number s.1)
