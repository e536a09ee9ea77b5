-- Turns as their kinds and their points.
use Rattle.std.specs.Prelude.{◌≡◌, List, [], ◌∷◌, map}
use Rattle.std.specs.List.{flat_map}
use Rattle.lam_geom.specs.declared.place.Point.{Point}
use Rattle.cif_form.specs.declared.command.Turn.{Turn}
use Rattle.cif_form.specs.declared.command.Turn.TheVariants.{Move, MirrorX, MirrorY, Rotate}
use Rattle.cif_form.specs.declared.turns.TurnKind.{TurnKind}
use Rattle.cif_form.specs.declared.turns.TurnKind.TheVariants as kinds

-- what a turn does
abbrev pub kind_of : Turn → TurnKind
kind_of (Move p) = kinds.Move
kind_of MirrorX = kinds.MirrorX
kind_of MirrorY = kinds.MirrorY
kind_of (Rotate p) = kinds.Rotate

-- its point, if it has one
abbrev pub points_of : Turn → List Point
points_of (Move p) = p ∷ []
points_of (Rotate p) = p ∷ []
points_of _ = []

-- these are the kinds of the turns, and their points in order
pub record AreOf (turns : List Turn) (ks : List TurnKind) (ps : List Point) : Type 0 where
  pub kinds : ks ≡ map kind_of turns
  pub points : ps ≡ flat_map points_of turns

-- the turns of these kinds and points, as far as the points go
abbrev pub turns_of : List TurnKind → List Point → List Turn
turns_of (kinds.MirrorX ∷ ks) ps = MirrorX ∷ turns_of ks ps
turns_of (kinds.MirrorY ∷ ks) ps = MirrorY ∷ turns_of ks ps
turns_of (kinds.Move ∷ ks) (p ∷ ps) = Move p ∷ turns_of ks ps
turns_of (kinds.Rotate ∷ ks) (p ∷ ps) = Rotate p ∷ turns_of ks ps
turns_of _ _ = []
