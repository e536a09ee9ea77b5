-- Names of symbols: user commands `9 name` in a definition, of which the first counts.
use Rattle.std.specs.Prelude.{ℕ, ◌≡◌, List, [], ◌∷◌, ◌++◌, All, Option, None, Some}
use Rattle.cif_form.specs.declared.command.Command.{Command}
use Rattle.cif_form.specs.declared.command.Command.TheVariants.{User}
use Rattle.cif_form.specs.declared.command.Item.{Item}
use Rattle.cif_form.specs.Text.{◌▹◌}
use Rattle.cif_form.specs.Labels.{IsSpace, Spaces, Solid}

-- behind its digit 9 the text of a user command is this name, between spaces
abbrev pub IsNameText : List ℕ → List ℕ → Type 0
IsNameText name = Spaces ▹ Solid name ▹ λ text. All IsSpace text

abbrev pub Names : Command → List ℕ → Type 0
Names (User digit text) name = (digit ≡ 9) × IsNameText name text
Names _ name = ⊥

-- the name of a symbol with these commands, or none
pub data IsSymbolName : List Item → Option (List ℕ) → Type 0 where
  none : IsSymbolName [] None
  first : {i : Item} {is : List Item} (name : List ℕ) → Names i.command name → IsSymbolName (i ∷ is) (Some name)
  later : {i : Item} {is : List Item} {found : Option (List ℕ)} → ((name : List ℕ) → ¬ Names i.command name)
      → IsSymbolName is found → IsSymbolName (i ∷ is) found

-- how the names of labels begin in a symbol of this name, or of none, that is called from where they begin so: nothing
-- where a symbol on the way has no name
abbrev pub way_into : Option (List ℕ) → Option (List ℕ) → Option (List ℕ)
way_into (Some way) (Some name) = Some (way ++ (name ++ 47 ∷ []))
way_into _ _ = None
