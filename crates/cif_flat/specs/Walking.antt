-- What the code's walk stands for.
use Rattle.std.specs.Prelude.{ℕ, zero, suc, ◌+◌, ◌*◌, ◌-◌, ◌<◌, ◌≤◌, ◌≡◌, ◌⊎◌, ◌↔◌, ◌^◌, List, [], ◌∷◌, ◌++◌, length, take}
use Rattle.std.specs.Prelude.{drop, Vec, All, Contains, true, false, Option, Some, None, ℤ, pos, ◌≤ℤ◌, slice_range, slice_get}
use Rattle.std.specs.Prelude.{slice_index_or}
use Rattle.std.specs.BTreeMap.{BTreeMap, get}
use Rattle.std.specs.HashSet.{HashSet}
use Rattle.std.specs.Ordering.{nat_cmp}
use Rattle.lam_geom.specs.declared.rect.Rect.{Rect}
use Rattle.lam_geom.specs.declared.label.FlatLabel.{FlatLabel}
use Rattle.cif_form.specs.declared.command.Command.{Command}
use Rattle.cif_form.specs.declared.command.Command.TheVariants.{Finish}
use Rattle.cif_form.specs.declared.command.Item.{Item}
use Rattle.cif_form.specs.declared.limits.TheConstants.{NUMBER_LIMIT}
use Rattle.cif_form.specs.Fits.{Fits}
use Rattle.cif_form.specs.Expansion.{Definition, Stands, IsInside, item_at}
use Rattle.cif_form.specs.Names.{way_into}
use Rattle.cif_form.specs.Walk.{Frame, State, Visit, WalkEnd, Walks, FileWalks, IsLabelAt, walk_limit}
use Rattle.cif_flat.specs.declared.level.Level.{Level}
use Rattle.cif_place.specs.declared.placement.Placement.{Placement}
use Rattle.cif_flat.specs.declared.symbol.Symbol.{Symbol}
use Rattle.cif_flat.specs.declared.walker.Walker.{Walker}
use Rattle.cif_place.specs.declared.ratio.Ratio.{Ratio}
use Rattle.cif_place.specs.Placing.{IsFitRatio, scale_of, place_of, after, here, IsHeld}
use Rattle.cif_flat.specs.Calling.{AreCalls}
use Rattle.cif_flat.specs.Naming.{naming_bytes, name_of, way_of}
use Rattle.cif_flat.specs.declared.symbol.Naming.{Naming}
use Rattle.cif_flat.specs.declared.names.Step.{Step}
use Rattle.cif_flat.specs.declared.names.Names.{Names}
use Rattle.cif_flat.specs.Labelling.{AreRead}
use Rattle.cif_flat.specs.Meeting.{was_met}
use Rattle.cif_flat.specs.Sound.{AreClosed}

-- ---- frames

abbrev pub symbol_of : Option ℕ → Option ℤ
symbol_of None = None
symbol_of (Some n) = Some (pos n)

abbrev pub left_of : List Item → Level → List Item
left_of items v = slice_range items v.next v.end

-- how the names of labels begin in a symbol, or at top level, where the frames are those around it
abbrev pub way_within : List Frame → Option (List ℕ) → Option (List ℕ)
way_within [] name = Some []
way_within (f ∷ fs) name = way_into f.way name

abbrev pub frame_of : List Item → List Frame → Level → Frame
frame_of items fs v = record {
  symbol = symbol_of v.symbol;
  way = way_within fs (name_of items v.named);
  scale = scale_of v.ratio;
  layer = v.layer;
  place = place_of v.placement;
  left = left_of items v;
}

-- the frames of levels, the last of them first, on top of others
abbrev pub onto : List Item → List Level → List Frame → List Frame
onto items [] fs = fs
onto items (v ∷ vs) fs = onto items vs (frame_of items fs v ∷ fs)

abbrev pub state_of : List Item → List Definition → ℕ → List (List ℕ) → List Level → State
state_of items ds count names vs =
    record { definitions = ds; count = count; names = names; frames = onto items vs [] }

abbrev pub visit_of : List Item → List Definition → ℕ → List (List ℕ) → List Level → Level → Item → Visit
visit_of items ds count names vs v item = record {
  definitions = ds;
  count = count;
  names = names;
  frame = frame_of items (onto items vs []) v;
  outer = onto items vs [];
  item = item;
  after = slice_range items (v.next + 1) v.end;
}

-- ---- tables

abbrev pub definition_of : List Item → ℕ → Symbol → Definition
definition_of items n s = record {
  number = pos n;
  scale = scale_of s.ratio;
  name = name_of items s.named;
  body = slice_range items s.first s.end;
}

-- neither number is negative, and both are small
pub record IsAnyRatio (r : Ratio) : Type 0 where
  pub a : pos 0 ≤ℤ r.a
  pub b : pos 0 ≤ℤ r.b
  pub short_a : r.a ≤ℤ pos (NUMBER_LIMIT - 1)
  pub short_b : r.b ≤ℤ pos (NUMBER_LIMIT - 1)

pub record IsSymbol (items : List Item) (s : Symbol) : Type 0 where
  pub ratio : IsAnyRatio s.ratio
  pub forward : s.first ≤ s.end
  pub within : s.end ≤ length items
  pub inside : All (λ i. IsInside i.command) (slice_range items s.first s.end)

-- the table has the newest definition of each number
pub record IsTable (items : List Item) (ds : List Definition) (symbols : BTreeMap ℕ Symbol) : Type 0 where
  pub stands : (n : ℕ) (s : Symbol) → get nat_cmp symbols n ≡ Some s → Stands ds (pos n) (definition_of items n s)
  pub missing : (n : ℕ) → get nat_cmp symbols n ≡ None → (d : Definition) → ¬ Stands ds (pos n) d
  pub fits : (n : ℕ) (s : Symbol) → get nat_cmp symbols n ≡ Some s → IsSymbol items s

-- so many commands stand before the finish of an open definition
pub record IsBodySize (rest : List Item) (n : ℕ) : Type 0 where
  pub offset : ℕ
  pub finish : slice_get rest n ≡ Some (item_at offset Finish)
  pub inside : All (λ i. IsInside i.command) (take n rest)
  pub closed : AreClosed false (drop (n + 1) rest)

-- ---- levels

-- what is left at the top level, or in a definition
abbrev pub IsNested : ℕ → List Item → Type 0
IsNested zero left = AreClosed false left
IsNested (suc depth) left = All (λ i. IsInside i.command) left

pub record IsLevel (items : List Item) (count : ℕ) (opened : BTreeMap ℕ ℕ) (depth : ℕ) (v : Level) : Type 0 where
  pub ratio : IsFitRatio v.ratio
  pub held : IsHeld (2 ^ 104 * count) v.placement
  pub forward : v.next ≤ v.end
  pub within : v.end ≤ length items
  pub nested : IsNested depth (left_of items v)
  pub number : (n : ℕ) → v.symbol ≡ Some n → get nat_cmp opened n ≡ Some depth

-- the top level of a file with so many commands
abbrev pub top : ℕ → Level
top size =
    record {
      symbol = None;
      named = None;
      way = Some 0;
      ratio = record { a = pos 1; b = pos 1 };
      layer = None;
      placement = here;
      next = 0;
      end = size;
    }

-- this is true of each level and its depth
abbrev pub EachLevel : (ℕ → Level → Type 0) → List Level → Type 0
EachLevel P vs = (k : ℕ) (d : Level) → k < length vs → P k (slice_index_or vs k d)

-- its number was opened last at its depth
abbrev pub IsNumbered : BTreeMap ℕ ℕ → ℕ → Level → Type 0
IsNumbered opened depth v = (n : ℕ) → v.symbol ≡ Some n → get nat_cmp opened n ≡ Some depth

-- a definition of the number is being expanded
abbrev pub IsOpen : List Level → ℕ → Type 0
IsOpen vs n = (v : Level) × Contains vs v × (v.symbol ≡ Some n)

-- the level of a called definition
abbrev pub entered : Level → ℕ → Symbol → Option ℕ → Placement → Level
entered v n s way p = record {
  symbol = Some n;
  named = s.named;
  way = way;
  ratio = s.ratio;
  layer = None;
  placement = after v.placement p;
  next = s.first;
  end = s.end;
}

-- ---- the walk

-- the names that were met are these
abbrev pub AreMet : {A S : Type 0} → List (List ℕ) → HashSet (Vec ℕ A) S → Type 0
AreMet names met = (q : List ℕ) → Contains names q ↔ (was_met met q ≡ true)

-- ---- ways by number

-- the way behind a way and a name, where both are: it is among the new ways, which are the old ones or have it as last
abbrev pub IsBehind : List Step → List Step → Option ℕ → Option Naming → Option ℕ → Type 0
IsBehind old new None named None = new ≡ old
IsBehind old new (Some way) None None = new ≡ old
IsBehind old new (Some way) (Some naming) (Some (suc k)) =
    (slice_get new k ≡ Some (record { way = way; naming = naming }))
    × ((new ≡ old) ⊎ (new ≡ old ++ (record { way = way; naming = naming } ∷ [])))
IsBehind old new _ _ _ = ⊥

-- the way of the number is this one
abbrev pub IsWayAt : List (List ℕ) → Option ℕ → Option (List ℕ) → Type 0
IsWayAt ways None way = way ≡ None
IsWayAt ways (Some n) way = (bytes : List ℕ) × (slice_get ways n ≡ Some bytes) × (way ≡ Some bytes)

-- the way of the number is that of the step, and then its name
abbrev pub IsStepAt : List Item → List (List ℕ) → ℕ → Step → Type 0
IsStepAt items ways n s = (outer : List ℕ) × (slice_get ways s.way ≡ Some outer)
    × (slice_get ways n ≡ Some (outer ++ (naming_bytes items s.naming ++ (47 ∷ []))))

-- a label of that name behind that way was met
abbrev pub IsMetAt : {A S : Type 0} → List Item → List (List ℕ) → HashSet (Vec ℕ A) S → Step → Type 0
IsMetAt items ways met s = (outer : List ℕ) × (slice_get ways s.way ≡ Some outer)
    × (was_met met (outer ++ naming_bytes items s.naming) ≡ true)

-- what is noted of names is so, where these names of labels were met and these levels are walked
pub record AreNamed {A S : Type 0} (items : List Item) (n : Names) (met : HashSet (Vec ℕ A) S) (vs : List Level) :
    Type 0 where
  pub ways : List (List ℕ)
  pub size : length ways ≡ suc (length n.ways.items)
  pub root : slice_get ways 0 ≡ Some []
  pub steps : (k : ℕ) (s : Step) → slice_get n.ways.items k ≡ Some s → IsStepAt items ways (suc k) s
  pub repeated : (k : ℕ) (s : Step) → get nat_cmp n.repeated k ≡ Some s → IsMetAt items ways met s
  pub read : AreRead items n.read
  pub levels : (k : ℕ) (d : Level) → k < length vs
      → IsWayAt ways (slice_index_or vs k d).way (way_of items (take (suc k) vs))

-- ---- the states of a walk

-- a walk from this state on is one of the file, which draws these shapes and labels first
abbrev pub Leads : List Item → List Rect → List FlatLabel → State → Type 0
Leads items shapes labels t = (rs : List Rect) (ls : List FlatLabel) (e : WalkEnd) → Walks t rs ls e
    → FileWalks items (shapes ++ rs) (labels ++ ls) e

-- the walk has come to these levels
pub record IsWalking (items : List Item) (w : Walker) (vs : List Level) : Type 0 where
  pub definitions : List Definition
  pub table : IsTable items definitions w.symbols
  pub calls : AreCalls items w.calls
  pub names : List (List ℕ)
  pub met : AreMet names w.met
  pub named : AreNamed items w.names w.met vs
  pub leads : Leads items w.shapes w.labels (state_of items definitions w.count names vs)
  pub limit : w.count ≤ walk_limit
  pub stack : EachLevel (IsLevel items w.count w.opened) vs

-- the item is the next of the level, which is the innermost
pub record IsVisit (items : List Item) (w : Walker) (v : Level) (item : Item) : Type 0 where
  pub fit : All (λ i. Fits i.command) items
  pub walking : IsWalking items w (w.levels.items ++ v ∷ [])
  pub more : v.next < v.end
  pub here : slice_get items v.next ≡ Some item

-- how many items are left at the top level
abbrev pub rest : List Level → ℕ
rest [] = 0
rest (v ∷ vs) = v.end - v.next

-- how far the end of a walk is at most
abbrev pub distance : ℕ → List Level → ℕ
distance count vs = 2 * (walk_limit - count) + length vs + rest vs

-- inside of a symbol, a label of the name was met; and not
abbrev pub IsRepeated : Walker → List ℕ → Type 0
IsRepeated w name = (0 < length w.levels.items) × (was_met w.met name ≡ true)

abbrev pub IsFresh : Walker → List ℕ → Type 0
IsFresh w name = (w.levels.items ≡ []) ⊎ (was_met w.met name ≡ false)

-- The user command is this label, which isn't at top level only if none of its name was met, or it is a comment:
-- whatever the definitions, the count and the names are.
abbrev pub IsFound : List Item → Walker → Level → ℕ → ℕ → List ℕ → Option FlatLabel → Type 0
IsFound items w v offset digit text (Some l) =
    ((ds : List Definition) (count : ℕ) (names : List (List ℕ)) (c : Command)
    → IsLabelAt (visit_of items ds count names w.levels.items v (item_at offset c)) digit text l)
    × IsFresh w l.name
IsFound items w v offset digit text None =
    (ds : List Definition) (count : ℕ) (names : List (List ℕ)) (c : Command) (l : FlatLabel)
    → IsLabelAt (visit_of items ds count names w.levels.items v (item_at offset c)) digit text l
    → IsRepeated w l.name

-- the walk has gone on from the level
pub record IsAfter (items : List Item) (w : Walker) (v : Level) (new : Walker) : Type 0 where
  pub walking : IsWalking items new new.levels.items
  pub closer : distance new.count new.levels.items < distance w.count (w.levels.items ++ v ∷ [])
