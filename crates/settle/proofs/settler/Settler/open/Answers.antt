use Rattle.std.proofs.Common.{◌∙◌, List, length, ap}
use Rattle.std.proofs.lemmas.List.{length-replicate}
use Rattle.mp_base.specs.declared.value.Trit.{Trit}
use Rattle.settle.proofs.settler.Settler.open.Goals as goal

pub invariant_of-result : goal.invariant_of-result
invariant_of-result c =
    let m = c.in_ok-memory.ensures in (
      record {
        linked = m.linked;
        at_sized = m.at_sized;
        gated = m.gated;
        gated_sized = m.gated_sized;
        values_sized = ap (λ (xs : List Trit). length xs) m.values ∙ length-replicate _ _;
        before_sized = m.before;
        last_sized = m.last;
        rooms = m.sets;
        marks_sized = m.marks;
      },
      record { room = m.room; sound = m.sound },
      λ e. absurd (cc),
    )
