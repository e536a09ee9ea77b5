-- What is found of user commands.
use Rattle.std.specs.Prelude.{ℕ, ◌<◌, ◌≡◌, ◌⊎◌, List, [], ◌∷◌, ◌++◌, length, All, Option}
use Rattle.std.specs.Prelude.{Some, None, slice_get, slice_range}
use Rattle.std.specs.BTreeMap.{BTreeMap, get}
use Rattle.std.specs.Ordering.{nat_cmp}
use Rattle.lam_geom.specs.declared.layer.Layer.{Layer}
use Rattle.lam_geom.specs.declared.layer.Layer.TheVariants.{ND, NP, NM}
use Rattle.lam_geom.specs.declared.label.FlatLabel.{FlatLabel}
use Rattle.cif_form.specs.declared.command.Command.TheVariants.{User}
use Rattle.cif_form.specs.declared.command.Item.{Item}
use Rattle.cif_form.specs.Expansion.{item_at}
use Rattle.cif_flat.specs.declared.label.Written.{Written}
use Rattle.cif_flat.specs.Naming.{naming_bytes}
use Rattle.cif_form.specs.Text.{◌▹◌}
use Rattle.cif_form.specs.Labels.{IsSpace, Spaces, OwnLayer, IsLabelText, IsNoLabel}

-- the label that is written so, of this name
abbrev pub label_written : List ℕ → Written → FlatLabel
label_written name l = record { offset = 0; name = name; x = l.x; y = l.y; layer = l.layer }

-- the label of the text of the user command at this index, if it is one
abbrev pub IsLabelled : ℕ → List ℕ → Option Written → Type 0
IsLabelled item text (Some l) =
    IsLabelText (label_written (slice_range text l.named.start l.named.end) l) text × (l.named.item ≡ item)
IsLabelled item text None = IsNoLabel text

-- the label of a text, if it is one: its name may stand elsewhere too
abbrev pub IsRead : List Item → List ℕ → Option Written → Type 0
IsRead items text (Some l) = IsLabelText (label_written (naming_bytes items l.named) l) text
IsRead items text None = IsNoLabel text

abbrev pub AreRead : List Item → BTreeMap ℕ (Option Written) → Type 0
AreRead items read = (k : ℕ) (l : Option Written) → get nat_cmp read k ≡ Some l
    → (offset digit : ℕ) (text : List ℕ) → slice_get items k ≡ Some (item_at offset (User digit text))
    → IsRead items text l

-- a user command of this text stands at the index
abbrev pub IsUserAt : List Item → ℕ → List ℕ → Type 0
IsUserAt items at text =
    (offset digit : ℕ) × (slice_get items at ≡ Some (item_at offset (User digit text)))

-- a first byte is so
abbrev pub Begins : (ℕ → Type 0) → List ℕ → Type 0
Begins P [] = Unit {0}
Begins P (b ∷ bs) = P b

-- behind spaces the text has this word, and then this rest, which is empty or begins with a space
pub record IsNextWord (text word rest : List ℕ) : Type 0 where
  pub spaces : List ℕ
  pub split : text ≡ spaces ++ (word ++ rest)
  pub are_spaces : Spaces spaces
  pub some : 0 < length word
  pub solid : All (λ b. ¬ IsSpace b) word
  pub stops : Begins IsSpace rest

-- the layer and the end of a label
abbrev pub Tail : Option Layer → List ℕ → Type 0
Tail l = OwnLayer l ▹ λ text. All IsSpace text

-- a layer that a label may have
abbrev pub IsLabelLayer : Layer → Type 0
IsLabelLayer l = (l ≡ NM) ⊎ (l ≡ NP) ⊎ (l ≡ ND)
