-- The text of a file, command by command.
use Rattle.std.proofs.Common.{ℕ, ◌≡◌, ◌+◌, ◌<◌, ◌++◌, ◌∷◌, ◌∙◌, sym, ap, subst, List, length, drop, get_or}
use Rattle.std.proofs.Common.{append_assoc}
use Rattle.std.specs.Prelude.{All, Some, slice_get, codes, map}
use Rattle.std.proofs.lemmas.List.{get_or-map, length-map}
use Rattle.std.proofs.lemmas.List.Elements.{All-get_or}
use Rattle.std.proofs.lemmas.Option.{slice_get_within, get_or_from_slice_get}
use Rattle.cif_form.specs.declared.command.Command.{Command}
use Rattle.cif_form.specs.declared.command.Item.{Item}
use Rattle.cif_form.specs.Fits.{Fits}
use Rattle.cif_form.specs.Writing.{text_of}
use Rattle.cif_writer.specs.Texts.{file_text, commands_of}
use Rattle.cif_writer.proofs.Wrote.{next_of}

file_step : (c : Command) (cs : List Command) → file_text (c ∷ cs) ≡ (text_of c ++ codes ";\n") ++ file_text cs
file_step c cs = sym (append_assoc (text_of c) (codes ";\n") (file_text cs))

-- what is to be written from an item on: its command, and what is behind it
pub file_next : (items : List Item) (i : ℕ) (x : Item) → slice_get items i ≡ Some x
    → file_text (commands_of (drop i items)) ≡ (text_of x.command ++ codes ";\n") ++ file_text
    (commands_of (drop (i + 1) items))
file_next items i x at =
    let line : Item → List ℕ = λ y. text_of y.command ++ codes ";\n" in
    next_of (λ is. file_text (commands_of is)) line items i x (λ y ys. file_step y.command (commands_of ys))
    (slice_get_within items i x at)
    ∙ ap (λ y. line y ++ file_text (commands_of (drop (i + 1) items))) (get_or_from_slice_get items i x x at)

-- where all commands fit, this one does
pub fits_at : (items : List Item) (i : ℕ) (x : Item) → All Fits (commands_of items) → slice_get items i ≡ Some x
    → Fits x.command
fits_at items i x all at =
    let command : Item → Command = λ y. y.command in
    let inside : i < length (map command items) = rw length-map (slice_get_within items i x at) in
    let same : get_or (map command items) i (command x) ≡ x.command =
    get_or-map command items i x (command x) (slice_get_within items i x at)
    ∙ ap command (get_or_from_slice_get items i x x at) in
    subst Fits same (All-get_or Fits (map command items) i (command x) inside all)
