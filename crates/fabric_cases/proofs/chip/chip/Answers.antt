use Rattle.std.proofs.lemmas.List.Elements.{All-append}
use Rattle.fabric.specs.Shape.{shape}
use Rattle.cif_emit.specs.Emittable.{IsOnGrid}
use Rattle.fabric_cases.proofs.chip.chip.Goals as goal

pub returns : goal.returns
returns c = record {
  corners = All-append IsOnGrid (shape c.in_ok-fabric.fabric) c.no_rects-extra.result c.in_ok-fabric.ensures
      c.no_rects-extra.ensures;
  names = c.no_labels-labels.ensures;
}
