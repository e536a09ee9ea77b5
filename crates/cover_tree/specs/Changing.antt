-- The changes of the colours of a part's cells, from the row told last to the next, and what is told of them on the
-- way.
use Rattle.std.specs.Prelude.{◌≡◌, ◌≢◌, ℕ, ◌<◌, ◌≤◌, ⊤, Result, IfOk, List, [], ◌∷◌, ◌++◌, nat_lt, if◌then◌else◌}
use Rattle.mp_base.specs.declared.refusal.NoMemory.{NoMemory}
use Rattle.mask_runs.specs.declared.run.Run.{Run}
use Rattle.mask_runs.specs.declared.mask.Mask.{Mask}
use Rattle.cover_tree.specs.declared.changes.Change.{Change}
use Rattle.cover_tree.specs.declared.changes.Change.TheVariants.{Nowhere, Everywhere, Somewhere}
use Rattle.cover_tree.specs.declared.changes.Known.{Known}
use Rattle.cover_tree.specs.declared.part.Part.{Part}
use Rattle.cover_tree.specs.declared.trees.Trees.{Trees}
use Rattle.cover_tree.specs.Parts.{InPart}
use Rattle.cover_tree.specs.Nodes.{layers_of}
use Rattle.cover_tree.specs.Looking.{part_colour, told_colour}
use Rattle.cover_tree.specs.Changes.{AreChanges}

-- the colours of the part's cells in the row told last, and in that of the trees
abbrev pub was : Mask → Trees → Part → Known → ℕ → ℕ
was mask t p known c = told_colour mask t p (layers_of t.further known.before) c

abbrev pub is : Mask → Trees → Part → Known → ℕ → ℕ
is mask t p known c = part_colour mask t t.since p (layers_of t.further known.after) c

-- the part's cells keep their colours
pub record Keeps (before after : ℕ → ℕ) (p : Part) : Type 0 where
  pub each : (c : ℕ) → InPart p c → before c ≡ after c

-- they get another one, which is this
pub record Turns (before after : ℕ → ℕ) (p : Part) (colour : ℕ) : Type 0 where
  pub now : (c : ℕ) → InPart p c → after c ≡ colour
  pub other : (c : ℕ) → InPart p c → before c ≢ colour

-- a part keeps its colours or gets one other, or neither is known
abbrev pub IsChange : Mask → Trees → Part → Known → Change → Type 0
IsChange mask t p known Nowhere = Keeps (was mask t p known) (is mask t p known) p
IsChange mask t p known (Everywhere k) = Turns (was mask t p known) (is mask t p known) p k
IsChange mask t p known Somewhere = ⊤

-- the pieces with the open one
abbrev pub with_last : List Run → Run → List Run
with_last told last = if nat_lt last.left last.right then told ++ last ∷ [] else told

-- the cells up to `end` that change are in the pieces, but for those of the open one, after which there are none
pub record IsTelling (before after : ℕ → ℕ) (pieces : List Run) (last : Run) (end : ℕ) : Type 0 where
  pub complete : AreChanges before after last.left pieces
  pub order : last.left ≤ last.right
  pub within : last.right ≤ end
  pub each : (c : ℕ) → last.left ≤ c → c < last.right → after c ≡ last.colour
  pub other : (c : ℕ) → last.left ≤ c → c < last.right → before c ≢ last.colour
  pub rest : (c : ℕ) → last.right ≤ c → c < end → before c ≡ after c

-- the rows have the part's colours there
pub record AreLike (before after was is : ℕ → ℕ) (from end : ℕ) : Type 0 where
  pub told : (c : ℕ) → from ≤ c → c < end → before c ≡ was c
  pub now : (c : ℕ) → from ≤ c → c < end → after c ≡ is c

-- where the cells of two rows up to `from` were told, those up to `end` are, if they have the part's colours; unless
-- memory is wanting
pub record Tells (was is : ℕ → ℕ) (old now : List Run) (last next : Result Run NoMemory) (from end : ℕ) : Type 0 where
  pub told : (before after : ℕ → ℕ) → AreLike before after was is from end
      → IfOk last (λ l. IsTelling before after old l from) → IfOk next (λ n. IsTelling before after now n end)
