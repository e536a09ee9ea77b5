-- The commands of a file up to its end, or up to the first rule of texts that it breaks.
use Rattle.std.specs.Prelude.{ℕ, ◌+◌, ◌<◌, ◌≡◌, ◌≢◌, ◌⊎◌, List, [], ◌∷◌, ◌++◌, length, Any, Bool, true, false, Option}
use Rattle.std.specs.Prelude.{Some, None}
use Rattle.cif_form.specs.declared.command.Command.{Command}
use Rattle.cif_form.specs.declared.command.Command.TheVariants.{Start, Finish, Delete, User}
use Rattle.cif_form.specs.declared.command.Item.{Item}
use Rattle.cif_form.specs.Text.{IsBlank, Blanks, Spells}
use Rattle.cif_form.specs.Fits.{IsSmall, unsigned_numbers, signed_numbers}

-- C1 no command where one begins by its place, C2 the text ends there, C3 a number over 2^31 - 1 in size, C4 a start, a
-- deletion or the end inside a definition, or a finish outside one, C5 more text after the end
pub data TextRule : Type 0 where
  C1 : TextRule
  C2 : TextRule
  C3 : TextRule
  C4 : TextRule
  C5 : TextRule

abbrev pub text_rule_number : TextRule → ℕ
text_rule_number C1 = 1
text_rule_number C2 = 2
text_rule_number C3 = 3
text_rule_number C4 = 4
text_rule_number C5 = 5

-- the text is read to its end, or breaks a rule at an offset
pub data TextEnd : Type 0 where
  Whole : TextEnd
  Broken : TextRule → ℕ → TextEnd

-- the command and its semicolon stand at the front of the text, in `size` bytes, and `rest` follows
pub record IsReadAs (text : List ℕ) (c : Command) (size : ℕ) (rest : List ℕ) : Type 0 where
  pub spelled : List ℕ
  pub blanks : List ℕ
  pub split : text ≡ spelled ++ (blanks ++ (59 ∷ rest))
  pub spells : Spells c spelled
  pub are_blanks : Blanks blanks
  pub user : (digit : ℕ) (words : List ℕ) → c ≡ User digit words → blanks ≡ []
  pub counted : size ≡ length spelled + (length blanks + 1)

abbrev pub IsReadable : List ℕ → Type 0
IsReadable text = (c : Command) × (size : ℕ) × (rest : List ℕ) × IsReadAs text c size rest

-- a number of the command is over 2^31 - 1 in size
abbrev pub HasBig : Command → Type 0
HasBig c = Any (λ z. ¬ IsSmall z) (unsigned_numbers c ++ signed_numbers c)

-- whether a definition is open after the command, or nothing where the command can't stand there
abbrev pub opens : Bool → Command → Option Bool
opens false (Start number a b) = Some true
opens true (Start number a b) = None
opens true Finish = Some false
opens false Finish = None
opens true (Delete number) = None
opens inside _ = Some inside

-- each command may stand where it does, and no definition is open behind the last
abbrev pub Nests : Bool → List Command → Type 0
Nests inside [] = inside ≡ false
Nests inside (c ∷ cs) = (within : Bool) × (opens inside c ≡ Some within) × Nests within cs

-- The text from an offset on, its commands, and how its reading ends. `inside`: a definition is open.
pub data Scans : Bool → ℕ → List ℕ → List Item → TextEnd → Type 0 where
  blank : {inside : Bool} {offset : ℕ} {rest : List ℕ} {items : List Item} {e : TextEnd} (b : ℕ) → IsBlank b
      → Scans inside (offset + 1) rest items e → Scans inside offset (b ∷ rest) items e
  nothing : {inside : Bool} {offset : ℕ} {rest : List ℕ} {items : List Item} {e : TextEnd}
      → Scans inside (offset + 1) rest items e → Scans inside offset (59 ∷ rest) items e
  command : {inside within : Bool} {offset : ℕ} {text rest : List ℕ} {items : List Item} {e : TextEnd} (c : Command)
      (size : ℕ)
      → IsReadAs text c size rest → ¬ HasBig c → opens inside c ≡ Some within
      → Scans within (offset + size) rest items e
      → Scans inside offset text (record { offset = offset; command = c } ∷ items) e
  end : {offset : ℕ} {after : List ℕ} → Blanks after → Scans false offset (69 ∷ after) [] Whole
  unread : {inside : Bool} {offset : ℕ} {rest : List ℕ} (b : ℕ) → ¬ IsBlank b → b ≢ 59 → b ≢ 69
      → ¬ IsReadable (b ∷ rest)
      → Scans inside offset (b ∷ rest) [] (Broken C1 offset)
  short : {inside : Bool} {offset : ℕ} → Scans inside offset [] [] (Broken C2 offset)
  big : {inside : Bool} {offset : ℕ} {text : List ℕ} (c : Command) (size : ℕ) (rest : List ℕ)
      → IsReadAs text c size rest → HasBig c
      → Scans inside offset text [] (Broken C3 offset)
  nested : {inside : Bool} {offset : ℕ} {text : List ℕ} (c : Command) (size : ℕ) (rest : List ℕ)
      → IsReadAs text c size rest → ¬ HasBig c
      → opens inside c ≡ None → Scans inside offset text [] (Broken C4 offset)
  open_end : {offset : ℕ} {after : List ℕ} → Scans true offset (69 ∷ after) [] (Broken C4 offset)
  more : {offset : ℕ} (after rest : List ℕ) (b : ℕ) → Blanks after → ¬ IsBlank b
      → Scans false offset (69 ∷ after ++ b ∷ rest) [] (Broken C5 (offset + (1 + length after)))

-- the end stands at this offset, and before it nothing but blanks, one at least
pub record IsLateEnd (text : List ℕ) (offset : ℕ) : Type 0 where
  pub before : List ℕ
  pub after : List ℕ
  pub split : text ≡ before ++ (69 ∷ after)
  pub blanks : Blanks before
  pub late : 0 < offset
  pub counted : offset ≡ length before

-- a file's commands, and how its reading ends
abbrev pub FileScans : List ℕ → List Item → TextEnd → Type 0
FileScans text items e = ((offset : ℕ) × IsLateEnd text offset × (items ≡ []) × (e ≡ Broken C1 offset))
    ⊎ ((offset : ℕ) → ¬ IsLateEnd text offset) × Scans false 0 text items e
