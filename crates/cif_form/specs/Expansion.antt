-- What the commands of a file draw. Labels are told by the walk alone. Where an F rule other than F7 and F8 is broken,
-- there is no expansion.
use Rattle.std.specs.Prelude.{ℕ, ◌≡◌, ◌≢◌, List, [], ◌∷◌, ◌++◌, map, All, filter, Option, Some, None, ℤ, int_lt}
use Rattle.lam_geom.specs.declared.layer.Layer.{Layer}
use Rattle.lam_geom.specs.declared.rect.Rect.{Rect}
use Rattle.cif_form.specs.declared.command.Turn.{Turn}
use Rattle.cif_form.specs.declared.command.Command.{Command}
use Rattle.cif_form.specs.declared.command.Command.TheVariants as commands
use Rattle.cif_form.specs.declared.command.Command.TheVariants.{Start, Finish, Delete, Call, User, Comment}
use Rattle.cif_form.specs.declared.command.Item.{Item}
use Rattle.cif_form.specs.Place.{Scale, IsScale, unit, HasEdges, Motion, placed, AreMotions, layer_name}
use Rattle.cif_form.specs.Names.{IsSymbolName}

-- a symbol: its name is that of its commands, or none
pub record Definition : Type 0 where
  pub number : ℤ
  pub scale : Scale
  pub name : Option (List ℕ)
  pub body : List Item

-- d is the newest definition of the number
pub data Stands : List Definition → ℤ → Definition → Type 0 where
  newest : {d : Definition} {ds : List Definition} {n : ℤ} → d.number ≡ n → Stands (d ∷ ds) n d
  older : {e d : Definition} {ds : List Definition} {n : ℤ} → e.number ≢ n → Stands ds n d → Stands (e ∷ ds) n d

abbrev pub item_at : ℕ → Command → Item
item_at offset c = record { offset = offset; command = c }

-- What commands draw where these definitions stand, at a scale, and with a layer set or none.
pub data Draws (defs : List Definition) : Scale → Option Layer → List Item → List Rect → Type 0 where
  done : {s : Scale} {l : Option Layer} → Draws defs s l [] []
  layer : {s : Scale} {l : Option Layer} {o : ℕ} {is : List Item} {rs : List Rect} (m : Layer) (name : List ℕ)
      → name ≡ layer_name m
      → Draws defs s (Some m) is rs → Draws defs s l (item_at o (commands.Layer name) ∷ is) rs
  shape : {s : Scale} {l : Layer} {o : ℕ} {is : List Item} {rs : List Rect} (c : Command) (qs : List Rect)
      → HasEdges s l c qs
      → Draws defs s (Some l) is rs → Draws defs s (Some l) (item_at o c ∷ is) (qs ++ rs)
  call : {s : Scale} {l : Option Layer} {o : ℕ} {is : List Item} {rs : List Rect} (n : ℤ) (ts : List Turn)
      (d : Definition)
      (ms : List Motion) (inner : List Rect) → Stands defs n d → IsScale d.scale → AreMotions s ts ms
      → Draws defs d.scale None d.body inner
      → Draws defs s l is rs → Draws defs s l (item_at o (Call n ts) ∷ is) (map (placed ms) inner ++ rs)
  user : {s : Scale} {l : Option Layer} {o : ℕ} {is : List Item} {rs : List Rect} (digit : ℕ) (text : List ℕ)
      → Draws defs s l is rs → Draws defs s l (item_at o (User digit text) ∷ is) rs
  comment : {s : Scale} {l : Option Layer} {o : ℕ} {is : List Item} {rs : List Rect} (text : List ℕ)
      → Draws defs s l is rs → Draws defs s l (item_at o (Comment text) ∷ is) rs

-- a command that may stand in a definition
abbrev pub IsInside : Command → Type 0
IsInside (Start number a b) = ⊥
IsInside Finish = ⊥
IsInside (Delete number) = ⊥
IsInside _ = Unit {0}

-- a command that is drawn where it stands at top level: it sets no layer and defines nothing
abbrev pub IsDrawn : Command → Type 0
IsDrawn (commands.Layer name) = ⊥
IsDrawn c = IsInside c

-- What a file draws: its top-level commands in turn, each against the definitions that stand there. The newest
-- definition is the first of the list.
pub data Expands : List Definition → Option Layer → List Item → List Rect → Type 0 where
  done : {ds : List Definition} {l : Option Layer} → Expands ds l [] []
  layer : {ds : List Definition} {l : Option Layer} {o : ℕ} {is : List Item} {rs : List Rect} (m : Layer)
      (name : List ℕ)
      → name ≡ layer_name m → Expands ds (Some m) is rs → Expands ds l (item_at o (commands.Layer name) ∷ is) rs
  draw : {ds : List Definition} {l : Option Layer} {o : ℕ} {is : List Item} {rs : List Rect} (c : Command)
      (qs : List Rect)
      → IsDrawn c → Draws ds unit l (item_at o c ∷ []) qs → Expands ds l is rs
      → Expands ds l (item_at o c ∷ is) (qs ++ rs)
  define : {ds : List Definition} {l : Option Layer} {o : ℕ} {rest : List Item} {rs : List Rect} (n a b : ℤ)
      (name : Option (List ℕ)) (body is : List Item) (p : ℕ) → All (λ i. IsInside i.command) body
      → IsSymbolName body name → rest ≡ body ++ (item_at p Finish ∷ is)
      → Expands (record { number = n; scale = record { a = a; b = b }; name = name; body = body } ∷ ds) l is rs
      → Expands ds l (item_at o (Start n a b) ∷ rest) rs
  delete : {ds : List Definition} {l : Option Layer} {o : ℕ} {is : List Item} {rs : List Rect} (n : ℤ)
      → Expands (filter (λ d. int_lt d.number n) ds) l is rs → Expands ds l (item_at o (Delete n) ∷ is) rs
