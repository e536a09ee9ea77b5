use Rattle.std.proofs.Common.{◌≡◌, map, slice_index}
use Rattle.mp_entries.specs.Entries.{form_at, is_form, nodes_below}
use Rattle.mp_entries.proofs.forms.forms_of.Given as goal

abbrev pub invariant-loop-node : goal.invariant-loop-node
invariant-loop-node l = l.list
    ≡ map (form_at l.forms (slice_index l.ranks.exprs) (slice_index l.ranks.forms))
    (nodes_below (is_form l.forms l.classes) l.node)
