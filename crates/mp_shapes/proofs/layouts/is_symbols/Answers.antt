use Rattle.std.proofs.Common.{◌<◌, length, sym, ◌∙◌, ap}
use Rattle.std.proofs.lemmas.List.Elements.{All-from_get_or}
use Rattle.form_reader.specs.Sound.{items_of}
use Rattle.mp_shapes.proofs.Finding.{items_inside}
use Rattle.mp_shapes.proofs.layouts.is_symbols.Goals as goal

pub are_symbols-requires : goal.are_symbols-requires
are_symbols-requires c =
    All-from_get_or (λ i. i < length c.args.forms.now.nodes) c.as_slice.result.now 0
    (items_inside c.args.forms.now c.requires.sound c.args.node c.as_slice.result.now c.requires.inside
    (c.as_slice.ensures ∙ sym (ap items_of (sym c.kind_at.ensures ∙ c.in-Group.is))))
