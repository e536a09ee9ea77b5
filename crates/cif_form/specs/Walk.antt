-- The walk of a file, command by command: what is drawn, and the first F rule that is broken.
use Rattle.std.specs.Prelude.{ℕ, ◌+◌, ◌*◌, ◌/◌, ◌<◌, ◌≡◌, ◌≢◌, ◌⊎◌, List, [], ◌∷◌, ◌++◌, length, All, Contains}
use Rattle.std.specs.Prelude.{filter, map, Option, Some, None, ℤ, pos, ◌*ℤ◌, int_lt}
use Rattle.lam_geom.specs.declared.layer.Layer.{Layer}
use Rattle.lam_geom.specs.declared.layer.Layer.TheVariants.{ND}
use Rattle.lam_geom.specs.declared.place.Point.{Point}
use Rattle.lam_geom.specs.declared.rect.Rect.{Rect}
use Rattle.lam_geom.specs.declared.label.FlatLabel.{FlatLabel}
use Rattle.lam_geom.specs.Moves.{IsNear, IsNearRect}
use Rattle.lam_geom.specs.Inside.{sides}
use Rattle.poly_split.specs.Splitting.{IsAskew}
use Rattle.cif_form.specs.declared.command.Turn.TheVariants.{Move, Rotate}
use Rattle.cif_form.specs.declared.command.Command.{Command}
use Rattle.cif_form.specs.declared.command.Command.TheVariants as commands
use Rattle.cif_form.specs.declared.command.Command.TheVariants.{Polygon, Box, Round, Wire, Start, Finish, Delete, Call}
use Rattle.cif_form.specs.declared.command.Command.TheVariants.{User, Comment}
use Rattle.cif_form.specs.declared.command.Item.{Item}
use Rattle.cif_form.specs.declared.limits.TheConstants.{WALK_LIMIT}
use Rattle.cif_form.specs.Place.{Scale, IsScale, unit, IsScaled, IsScaledPoint, IsOnAxis, segments, HasEdges}
use Rattle.cif_form.specs.Place.{Motion, placed, AreMotions, layer_name, dot, cell}
use Rattle.cif_form.specs.Labels.{IsLabelText}
use Rattle.cif_form.specs.Names.{IsSymbolName, way_into}
use Rattle.cif_form.specs.Expansion.{Definition, Stands, IsInside, item_at}

-- ---- the state of a walk

-- A list of commands that is being walked: the body of a symbol, or the top level, which has no symbol. `way` is how
-- the names of its labels begin, or nothing where a symbol on the way to it has no name.
pub record Frame : Type 0 where
  pub symbol : Option ℤ
  pub way : Option (List ℕ)
  pub scale : Scale
  pub layer : Option Layer
  pub place : Rect → Rect
  pub left : List Item

-- the innermost frame is the first; `count` items were walked, and labels of these names were met
pub record State : Type 0 where
  pub definitions : List Definition
  pub count : ℕ
  pub names : List (List ℕ)
  pub frames : List Frame

abbrev pub top_frame : List Item → Frame
top_frame items = record { symbol = None; way = Some []; scale = unit; layer = None; place = λ r. r; left = items }

abbrev pub start : List Item → State
start items = record { definitions = []; count = 0; names = []; frames = top_frame items ∷ [] }

-- the next command, where it is walked: `after` is what follows it, and `outer` are the frames around its own
pub record Visit : Type 0 where
  pub definitions : List Definition
  pub count : ℕ
  pub names : List (List ℕ)
  pub frame : Frame
  pub outer : List Frame
  pub item : Item
  pub after : List Item

-- v is the next command of the walk
pub record Visits (s : State) (v : Visit) : Type 0 where
  pub definitions : s.definitions ≡ v.definitions
  pub count : s.count ≡ v.count
  pub names : s.names ≡ v.names
  pub frames : s.frames ≡ v.frame ∷ v.outer
  pub left : v.frame.left ≡ v.item ∷ v.after

-- ---- the rules

-- F1 a call of a number that no definition has, F2 of one that is being expanded, F3 a direction off the axes, F4 a
-- scale with a 0, or an edge, a point of a polygon or a move that isn't whole in half-units, F5 a round flash, F6 a
-- polygon of fewer than four points or with an edge off the axes, F7 too many walked items, F8 an edge, a point of a
-- polygon or a move over 2^40 half-units in size, F9 a shape with no layer set, F10 a layer that nMOS lacks
pub data DrawRule : Type 0 where
  F1 : DrawRule
  F2 : DrawRule
  F3 : DrawRule
  F4 : DrawRule
  F5 : DrawRule
  F6 : DrawRule
  F7 : DrawRule
  F8 : DrawRule
  F9 : DrawRule
  F10 : DrawRule

abbrev pub draw_rule_number : DrawRule → ℕ
draw_rule_number F1 = 1
draw_rule_number F2 = 2
draw_rule_number F3 = 3
draw_rule_number F4 = 4
draw_rule_number F5 = 5
draw_rule_number F6 = 6
draw_rule_number F7 = 7
draw_rule_number F8 = 8
draw_rule_number F9 = 9
draw_rule_number F10 = 10

-- how many items a walk may have at most
abbrev pub walk_limit : ℕ
walk_limit = WALK_LIMIT

-- how many walked items a command is: a wire counts its segments, a polygon of n points n * n / 4, and a definition
-- nothing where it is written
abbrev pub weight : Command → ℕ
weight (Wire wide path) = length (segments path)
weight (Polygon path) = length path * length path / 4
weight (Start number a b) = 0
weight Finish = 0
weight c = 1

-- both numbers of the point are whole in half-units
abbrev pub IsWholePoint : Scale → Point → Type 0
IsWholePoint s p = ((z : ℤ) × IsScaled s (pos 2 *ℤ p.x) z) × ((z : ℤ) × IsScaled s (pos 2 *ℤ p.y) z)

-- one of them is too large
abbrev pub IsFarPoint : Scale → Point → Type 0
IsFarPoint s p = (z : ℤ) × (IsScaled s (pos 2 *ℤ p.x) z ⊎ IsScaled s (pos 2 *ℤ p.y) z) × ¬ IsNear z

-- a call at v names a definition with a 0 in its scale
abbrev pub IsOfNoScale : Visit → ℤ → Type 0
IsOfNoScale v n = (d : Definition) × Stands v.definitions n d × ¬ IsScale d.scale

-- the rectangles of a shape at v, whose layer matters to no edge
abbrev pub EdgesAt : Visit → List Rect → Type 0
EdgesAt v rs = HasEdges v.frame.scale ND v.item.command rs

-- one of them is too far where it is placed
abbrev pub IsFarShape : Visit → Type 0
IsFarShape v = (rs : List Rect) × EdgesAt v rs × ¬ All (λ r. IsNearRect (v.frame.place r)) rs

-- the command that is next at v breaks the rule
abbrev pub BreaksBy : Visit → Command → DrawRule → Type 0
BreaksBy v (Call n ts) F1 = (d : Definition) → ¬ Stands v.definitions n d
BreaksBy v (Call n ts) F2 = (f : Frame) × Contains (v.frame ∷ v.outer) f × (f.symbol ≡ Some n)
BreaksBy v (Call n ts) F3 = (p : Point) × Contains ts (Rotate p) × ¬ IsOnAxis p
BreaksBy v (Box long wide center direction) F3 = ¬ IsOnAxis direction
BreaksBy v (Wire wide path) F3 = (p : Point × Point) × Contains (segments path) p × (p.0.x ≢ p.1.x) × (p.0.y ≢ p.1.y)
BreaksBy v (Call n ts) F4 = IsOfNoScale v n ⊎ ((p : Point) × Contains ts (Move p) × ¬ IsWholePoint v.frame.scale p)
BreaksBy v (Box long wide center direction) F4 = (rs : List Rect) → ¬ EdgesAt v rs
BreaksBy v (Wire wide path) F4 = (rs : List Rect) → ¬ EdgesAt v rs
BreaksBy v (Polygon path) F4 = (p : Point) × Contains path p × ¬ IsWholePoint v.frame.scale p
BreaksBy v (Round diameter center) F5 = Unit {0}
BreaksBy v (Polygon path) F6 =
    (length path < 4) ⊎ ((side : Point × Point) × Contains (sides path) side × IsAskew side)
BreaksBy v c F7 = walk_limit < v.count + weight c
BreaksBy v (Call n ts) F8 = (p : Point) × Contains ts (Move p) × IsFarPoint v.frame.scale p
BreaksBy v (Box long wide center direction) F8 = IsFarShape v
BreaksBy v (Wire wide path) F8 = IsFarShape v
BreaksBy v (Polygon path) F8 =
    (p q : Point) × Contains path p × IsScaledPoint v.frame.scale p q × ¬ IsNearRect (v.frame.place (dot q.x q.y))
BreaksBy v (Box long wide center direction) F9 = v.frame.layer ≡ None
BreaksBy v (Wire wide path) F9 = v.frame.layer ≡ None
BreaksBy v (Polygon path) F9 = v.frame.layer ≡ None
BreaksBy v (commands.Layer name) F10 = (l : Layer) → name ≢ layer_name l
BreaksBy v c rule = ⊥

abbrev pub Breaks : Visit → DrawRule → Type 0
Breaks v rule = BreaksBy v v.item.command rule

-- the first rule that the command breaks, in order of number
abbrev pub BreaksFirst : Visit → DrawRule → Type 0
BreaksFirst v rule = Breaks v rule × ((q : DrawRule) → draw_rule_number q < draw_rule_number rule → ¬ Breaks v q)

abbrev pub BreaksNone : Visit → Type 0
BreaksNone v = (rule : DrawRule) → ¬ Breaks v rule

-- ---- the steps

-- the state behind the command, in whose frame this layer is set now
abbrev pub on_layer : Visit → Option Layer → State
on_layer v l = record {
  definitions = v.definitions;
  count = v.count + weight v.item.command;
  names = v.names;
  frames = record v.frame { layer = l; left = v.after } ∷ v.outer;
}

abbrev pub onward : Visit → State
onward v = on_layer v v.frame.layer

-- the same where a label of this name is met
abbrev pub labelled : Visit → List ℕ → State
labelled v name = record (onward v) { names = name ∷ v.names }

-- the state at the first command of a called symbol
abbrev pub within : Visit → Definition → List Motion → State
within v d ms = record {
  definitions = v.definitions;
  count = v.count + 1;
  names = v.names;
  frames =
      record {
        symbol = Some d.number;
        way = way_into v.frame.way d.name;
        scale = d.scale;
        layer = None;
        place = λ r. v.frame.place (placed ms r);
        left = d.body;
      }
      ∷ record v.frame { left = v.after } ∷ v.outer;
}

-- the state at top level with these definitions and these commands left
abbrev pub at_top : Visit → List Definition → List Item → State
at_top v ds items = record {
  definitions = ds;
  count = v.count + weight v.item.command;
  names = v.names;
  frames = record v.frame { left = items } ∷ [];
}

-- a shape of the frame's layer is drawn where the frame is placed
abbrev pub StepsByShape : Visit → List Rect → State → Type 0
StepsByShape v rs t =
    (l : Layer) × (qs : List Rect) × (v.frame.layer ≡ Some l) × HasEdges v.frame.scale l v.item.command qs
    × (rs ≡ map v.frame.place qs) × (t ≡ onward v)

-- The label that the user command at v is. Its text has the point in half-units; the point is scaled, and the square to
-- its upper right is placed as a shape is.
pub record IsLabelAt (v : Visit) (digit : ℕ) (text : List ℕ) (label : FlatLabel) : Type 0 where
  pub nine : digit ≡ 9
  pub written : FlatLabel
  pub is : IsLabelText written text
  pub way : List ℕ
  pub named : v.frame.way ≡ Some way
  pub x : ℤ
  pub y : ℤ
  pub across : IsScaled v.frame.scale written.x x
  pub up : IsScaled v.frame.scale written.y y
  pub near : IsNearRect (v.frame.place (dot x y))
  pub offset : label.offset ≡ v.item.offset
  pub name : label.name ≡ way ++ written.name
  pub left : label.x ≡ (v.frame.place (cell x y)).x0
  pub bottom : label.y ≡ (v.frame.place (cell x y)).y0
  pub layer : label.layer ≡ written.layer

-- an inner label is a comment where an earlier label has its name
abbrev pub IsNew : Visit → FlatLabel → Type 0
IsNew v label = (v.outer ≡ []) ⊎ ¬ Contains v.names label.name

-- a label, or a comment
abbrev pub StepsByUser : Visit → ℕ → List ℕ → List FlatLabel → State → Type 0
StepsByUser v digit text ls t =
    ((label : FlatLabel) × IsLabelAt v digit text label × IsNew v label × (ls ≡ label ∷ []) ×
    (t ≡ labelled v label.name))
    ⊎ ((label : FlatLabel) → IsLabelAt v digit text label → ¬ IsNew v label) × (ls ≡ []) × (t ≡ onward v)

-- what a command that breaks no rule draws, its labels, and the state that it leads to
abbrev pub StepsBy : Visit → Command → List Rect → List FlatLabel → State → Type 0
StepsBy v (Box long wide center direction) rs ls t = StepsByShape v rs t × (ls ≡ [])
StepsBy v (Wire wide path) rs ls t = StepsByShape v rs t × (ls ≡ [])
StepsBy v (Polygon path) rs ls t = StepsByShape v rs t × (ls ≡ [])
StepsBy v (commands.Layer name) rs ls t =
    (l : Layer) × (name ≡ layer_name l) × (rs ≡ []) × (ls ≡ []) × (t ≡ on_layer v (Some l))
StepsBy v (Call n ts) rs ls t =
    (d : Definition) × (ms : List Motion) × Stands v.definitions n d × AreMotions v.frame.scale ts ms
    × (rs ≡ []) × (ls ≡ []) × (t ≡ within v d ms)
StepsBy v (User digit text) rs ls t = StepsByUser v digit text ls t × (rs ≡ [])
StepsBy v (Comment text) rs ls t = (rs ≡ []) × (ls ≡ []) × (t ≡ onward v)
StepsBy v (Start n a b) rs ls t =
    (name : Option (List ℕ)) × (body rest : List Item) × (finish : ℕ) × (v.outer ≡ [])
    × All (λ i. IsInside i.command) body × IsSymbolName body name
    × (v.after ≡ body ++ (item_at finish Finish ∷ rest)) × (rs ≡ []) × (ls ≡ [])
    × (t ≡ at_top v (record { number = n; scale = record { a = a; b = b }; name = name; body = body } ∷ v.definitions)
    rest)
StepsBy v (Delete n) rs ls t =
    (v.outer ≡ []) × (rs ≡ []) × (ls ≡ []) × (t ≡ at_top v (filter (λ d. int_lt d.number n) v.definitions) v.after)
StepsBy v _ rs ls t = ⊥

abbrev pub Steps : Visit → List Rect → List FlatLabel → State → Type 0
Steps v rs ls t = StepsBy v v.item.command rs ls t

-- the walk comes to its end, or to a command at an offset whose first broken rule this is
pub data WalkEnd : Type 0 where
  Whole : WalkEnd
  Broken : DrawRule → ℕ → WalkEnd

-- What is drawn from a state on, its labels, and how the walk ends.
pub data Walks : State → List Rect → List FlatLabel → WalkEnd → Type 0 where
  done : {s : State} → s.frames ≡ [] → Walks s [] [] Whole
  back : {s : State} {rs : List Rect} {ls : List FlatLabel} {e : WalkEnd} (f : Frame) (fs : List Frame)
      → s.frames ≡ f ∷ fs → f.left ≡ []
      → Walks (record s { frames = fs }) rs ls e → Walks s rs ls e
  broken : {s : State} (v : Visit) (rule : DrawRule) → Visits s v → BreaksFirst v rule
      → Walks s [] [] (Broken rule v.item.offset)
  step : {s : State} {rs : List Rect} {ls : List FlatLabel} {e : WalkEnd} (v : Visit) (qs : List Rect)
      (ms : List FlatLabel) (t : State)
      → Visits s v → BreaksNone v → Steps v qs ms t → Walks t rs ls e → Walks s (qs ++ rs) (ms ++ ls) e

-- the walk of a file
abbrev pub FileWalks : List Item → List Rect → List FlatLabel → WalkEnd → Type 0
FileWalks items rs ls e = Walks (start items) rs ls e
