-- Where the names of symbols stand, and how those of labels begin.
use Rattle.std.specs.Prelude.{ℕ, ◌≡◌, List, [], ◌∷◌, Option, Some, None, slice_range, slice_get, slice_index_or}
use Rattle.cif_form.specs.declared.command.Command.{Command}
use Rattle.cif_form.specs.declared.command.Command.TheVariants.{User, Finish}
use Rattle.cif_form.specs.declared.command.Item.{Item}
use Rattle.cif_form.specs.Names.{Names, IsSymbolName, way_into}
use Rattle.cif_form.specs.Expansion.{item_at}
use Rattle.cif_flat.specs.declared.symbol.Naming.{Naming}
use Rattle.cif_flat.specs.declared.level.Level.{Level}

abbrev pub text_of : Command → List ℕ
text_of (User digit text) = text
text_of _ = []

-- the bytes of a name
abbrev pub naming_bytes : List Item → Naming → List ℕ
naming_bytes items n =
    slice_range (text_of (slice_index_or items n.item (item_at 0 Finish)).command) n.start n.end

abbrev pub name_of : List Item → Option Naming → Option (List ℕ)
name_of items None = None
name_of items (Some n) = Some (naming_bytes items n)

-- the command at an index names a symbol, and this is where the name stands; or it names none
abbrev pub IsNamingAt : List Item → ℕ → Option Naming → Type 0
IsNamingAt items at (Some n) = (i : Item) → slice_get items at ≡ Some i → Names i.command (naming_bytes items n)
IsNamingAt items at None =
    (i : Item) → slice_get items at ≡ Some i → (name : List ℕ) → ¬ Names i.command name

-- the name of a symbol with these commands stands there
abbrev pub IsSymbolNaming : List Item → List Item → Option Naming → Type 0
IsSymbolNaming items body named = IsSymbolName body (name_of items named)

-- how the names of labels begin where they begin so around these levels, from the outermost of them on
abbrev pub way_from : List Item → Option (List ℕ) → List Level → Option (List ℕ)
way_from items way [] = way
way_from items way (v ∷ vs) = way_from items (way_into way (name_of items v.named)) vs

-- the same from the top level on, whose labels have their own names
abbrev pub way_of : List Item → List Level → Option (List ℕ)
way_of items [] = Some []
way_of items (top ∷ vs) = way_from items (Some []) vs
