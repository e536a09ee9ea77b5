-- The commands of a text that was written, for the crate that writes a chip's text too.
use Rattle.std.proofs.Common.{ℕ, ◌≡◌, ◌∙◌, ◌+◌, refl, ap, List, [], ◌∷◌, length, arith}
use Rattle.std.specs.Prelude.{All, codes}
use Rattle.std.proofs.lemmas.List.Elements.{All-nil, All-cons}
use Rattle.cif_form.specs.declared.command.Command.{Command}
use Rattle.cif_form.specs.declared.command.Item.{Item}
use Rattle.cif_form.specs.Text.{◌▹◌, Byte, Blanks, IsBlank, Reads}
use Rattle.cif_form.specs.Fits.{Fits}
use Rattle.cif_form.specs.Writing.{written, placed_items, text_of}
use Rattle.cif_writer.specs.Texts.{commands_of, file_text}

pub placed : (semi : List ℕ) (offset : ℕ) (cs : List Command) → commands_of (placed_items semi offset cs) ≡ cs
placed semi offset [] = refl
placed semi offset (c ∷ cs) = ap (λ xs. c ∷ xs) (placed semi (offset + (length (text_of c) + length semi)) cs)

line_feed : IsBlank 10
line_feed = (
  (λ h. omega arith),
  (λ h. omega arith),
  (λ h. omega arith),
  (λ h. omega arith),
  (λ h. omega arith),
  (λ h. omega arith),
)

pub feed : Blanks (codes "\n")
feed = All-cons IsBlank 10 [] line_feed (All-nil IsBlank)

pub semicolon : (Byte 59 ▹ Blanks) (codes ";\n")
semicolon = (59 ∷ [], 10 ∷ [], refl, refl, feed)

-- what is written of commands is read as these commands
abbrev pub WrittenIsRead : Type 0
WrittenIsRead =
    (semi last : List ℕ) → (Byte 59 ▹ Blanks) semi → Blanks last → (cs : List Command) → All Fits cs
    → (offset : ℕ) → Reads offset (written semi last cs) (placed_items semi offset cs)

abbrev pub ReadingIsUnique : Type 0
ReadingIsUnique =
    (offset : ℕ) (text : List ℕ) (items others : List Item) → Reads offset text items → Reads offset text others
    → items ≡ others

-- the commands that the text of commands reads as are these
pub same_commands : WrittenIsRead → ReadingIsUnique → (commands : List Command) (items : List Item)
    → All Fits commands → Reads 0 (file_text commands) items → commands_of items ≡ commands
same_commands reads one commands items fit read =
    let there = reads (codes ";\n") (codes "\n") semicolon feed commands fit 0 in
    let same = one 0 (file_text commands) items (placed_items (codes ";\n") 0 commands) read there in
    ap commands_of same ∙ placed (codes ";\n") 0 commands
