-- Turns with numbers of 32 bits.
use Rattle.lam_geom.specs.declared.place.Point.{Point}
use Rattle.cif_form.specs.declared.command.Turn.{Turn}
use Rattle.cif_form.specs.declared.command.Turn.TheVariants as turns
use Rattle.cif_list.specs.declared.turn.ShortPoint.{ShortPoint}
use Rattle.cif_list.specs.declared.turn.ShortTurn.{ShortTurn}
use Rattle.cif_list.specs.declared.turn.ShortTurn.TheVariants.{Move, MirrorX, MirrorY, Rotate}

-- the same point, as CIF has it
abbrev pub wide_point : ShortPoint → Point
wide_point p = record { x = p.x; y = p.y }

-- the same turn, as CIF has it
abbrev pub wide_turn : ShortTurn → Turn
wide_turn (Move p) = turns.Move (wide_point p)
wide_turn MirrorX = turns.MirrorX
wide_turn MirrorY = turns.MirrorY
wide_turn (Rotate p) = turns.Rotate (wide_point p)
