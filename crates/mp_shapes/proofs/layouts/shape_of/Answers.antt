use Rattle.std.proofs.Common.{sym, ◌∙◌, ap}
use Rattle.form_reader.specs.Sound.{items_of}
use Rattle.mp_shapes.proofs.Finding.{items_inside}
use Rattle.mp_base.proofs.Lists.{some_items}
use Rattle.mp_shapes.proofs.layouts.shape_of.Goals as goal

pub kind_at-requires-in-Group : goal.kind_at-requires-in-Group
kind_at-requires-in-Group c =
    items_inside c.args.forms.now c.requires.sound c.args.node c.as_slice-items.result.now c.requires.inside
    (c.as_slice-items.ensures ∙ sym (ap items_of (sym c.kind_at.ensures ∙ c.in-Group.is))) 0
    (some_items c.as_slice-items.result.now (sym c.is_empty.ensures ∙ c.if-is_empty.false))

pub list_layout-requires-clause-inside : goal.list_layout-requires-clause-inside
list_layout-requires-clause-inside c =
    items_inside c.args.forms.now c.requires.sound c.args.node c.as_slice-items.result.now c.requires.inside
    (c.as_slice-items.ensures ∙ sym (ap items_of (sym c.kind_at.ensures ∙ c.in-Group.is)))
