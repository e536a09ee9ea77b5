-- How many items are walked of a file: each command by its weight, and with a call what it calls.
use Rattle.std.specs.Prelude.{ℕ, ◌+◌, ◌≤◌, ◌≡◌, List, [], ◌∷◌, ◌++◌, All, filter, Option, ℤ, int_lt}
use Rattle.lam_geom.specs.declared.rect.Rect.{Rect}
use Rattle.lam_geom.specs.declared.label.FlatLabel.{FlatLabel}
use Rattle.cif_form.specs.declared.command.Turn.{Turn}
use Rattle.cif_form.specs.declared.command.Command.{Command}
use Rattle.cif_form.specs.declared.command.Command.TheVariants.{Start, Finish, Delete, Call}
use Rattle.cif_form.specs.declared.command.Item.{Item}
use Rattle.cif_form.specs.Names.{IsSymbolName}
use Rattle.cif_form.specs.Expansion.{Definition, Stands, item_at, IsInside}
use Rattle.cif_form.specs.Walk.{FileWalks, weight, walk_limit}
use Rattle.cif_form.specs.Walk.DrawRule.{F7}
use Rattle.cif_form.specs.Walk.WalkEnd.{Whole, Broken}

abbrev pub IsNoCall : Command → Type 0
IsNoCall (Call n ts) = ⊥
IsNoCall _ = Unit {0}

-- commands of a symbol are so many walked items, where these definitions stand
pub data Counts (defs : List Definition) : List Item → ℕ → Type 0 where
  none : Counts defs [] 0
  call : {i : Item} {is : List Item} {inner rest : ℕ} (n : ℤ) (ts : List Turn) (d : Definition) → i.command ≡ Call n ts
      → Stands defs n d → Counts defs d.body inner → Counts defs is rest → Counts defs (i ∷ is) (1 + (inner + rest))
  other : {i : Item} {is : List Item} {rest : ℕ} → IsNoCall i.command → Counts defs is rest
      → Counts defs (i ∷ is) (weight i.command + rest)

-- top-level commands are so many: a definition is none where it is written
pub data CountsAtTop : List Definition → List Item → ℕ → Type 0 where
  none : {ds : List Definition} → CountsAtTop ds [] 0
  item : {ds : List Definition} {i : Item} {is : List Item} {one rest : ℕ} → IsInside i.command → Counts ds (i ∷ []) one
      → CountsAtTop ds is rest → CountsAtTop ds (i ∷ is) (one + rest)
  define : {ds : List Definition} {i : Item} {after : List Item} {count : ℕ} (n a b : ℤ) (name : Option (List ℕ))
      (body is : List Item) (p : ℕ)
      → i.command ≡ Start n a b → All (λ j. IsInside j.command) body → IsSymbolName body name
      → after ≡ body ++ (item_at p Finish ∷ is)
      → CountsAtTop (record { number = n; scale = record { a = a; b = b }; name = name; body = body } ∷ ds) is count
      → CountsAtTop ds (i ∷ after) count
  delete : {ds : List Definition} {i : Item} {is : List Item} {rest : ℕ} (n : ℤ) → i.command ≡ Delete n
      → CountsAtTop (filter (λ d. int_lt d.number n) ds) is rest → CountsAtTop ds (i ∷ is) (1 + rest)

-- a file's commands are so many walked items
abbrev pub FileCounts : List Item → ℕ → Type 0
FileCounts items n = CountsAtTop [] items n

-- what is walked whole is counted, and is within the limit
abbrev pub WalkIsCounted : Type 0
WalkIsCounted =
    (items : List Item) (shapes : List Rect) (labels : List FlatLabel) → FileWalks items shapes labels Whole
    → (n : ℕ) × FileCounts items n × (n ≤ walk_limit)

-- a file whose count is within the limit doesn't break F7
abbrev pub CountKeepsLimit : Type 0
CountKeepsLimit =
    (items : List Item) (n : ℕ) → FileCounts items n → n ≤ walk_limit
    → (shapes : List Rect) (labels : List FlatLabel) (offset : ℕ) → ¬ FileWalks items shapes labels (Broken F7 offset)
