-- From the fabric to extracted networks.
use Rattle.std.proofs.Common.{◌≡◌, ◌∙◌, ℕ, List, [], ◌∷◌, map, refl, sym, ap}
use Rattle.std.specs.List.{AllZip}
use Rattle.lam_geom.specs.declared.label.FlatLabel.{FlatLabel}
use Rattle.lam_geom.specs.Squares.{Square, covered}
use Rattle.switch_net.specs.declared.network.Tag.{Tag}
use Rattle.switch_net.specs.Drawn.{IsTag}
use Rattle.drawing.specs.Draws.{Point}
use Rattle.fabric.specs.Plan.{Plan}
use Rattle.fabric.specs.Shape.{shape}
use Rattle.fabric.specs.Switches.{Net, IsNet}
use Rattle.fabric_laws.specs.Theorem.{IsLabelOn, FabricDrawsSwitches}
use Rattle.fabric.specs.declared.chip.ChipLabel.{ChipLabel}
use Rattle.fabric.specs.Labelled.{AreLabelsOf}
use Rattle.chip_laws.specs.Laws.{points, names_of}
use Rattle.chip_laws.specs.Fabrics.{IsAt, FabricLays}

names_are : (labels : List ChipLabel) (flat : List FlatLabel) (nodes : List Square) (tags : List Tag) (covers : _)
    → AreLabelsOf labels flat
    → AllZip (IsTag covers nodes) flat tags → map (λ (t : Tag). t.name) tags ≡ names_of labels
names_are [] [] nodes [] covers a z = refl
names_are [] [] nodes (t ∷ ts) covers a z = absurd z
names_are [] (f ∷ fs) nodes ts covers a z = absurd a
names_are (l ∷ ls) [] nodes ts covers a z = absurd a
names_are (l ∷ ls) (f ∷ fs) nodes [] covers a z = absurd z
names_are (l ∷ ls) (f ∷ fs) nodes (t ∷ ts) covers a z =
    let i = a.0 in
    let w = z.0 in
    ap (λ x. x ∷ map (λ (t : Tag). t.name) ts) (sym w.name ∙ i.name)
    ∙ ap (λ xs. l.name ∷ xs) (names_are ls fs nodes ts covers a.1 z.1)

tags_on : (f : Plan) (number : Net → ℕ) (place : Point → ℕ) (node : ℕ → ℕ) (ps : List Point)
    (labels : List ChipLabel) (flat : List FlatLabel) (tags : List Tag)
    → AllZip (IsAt f number place) ps labels → AreLabelsOf labels flat
    → AllZip (λ label (tag : Tag). (n : Net) → IsNet f n → IsLabelOn f n label → node tag.node ≡ number n) flat tags
    → AllZip (λ at (t : Tag). node t.node ≡ place at) ps tags
tags_on f number place node [] [] [] [] a b c = tt
tags_on f number place node [] [] [] (t ∷ ts) a b c = absurd c
tags_on f number place node [] [] (g ∷ gs) ts a b c = absurd b
tags_on f number place node [] (l ∷ ls) gs ts a b c = absurd a
tags_on f number place node (p ∷ ps) [] gs ts a b c = absurd a
tags_on f number place node (p ∷ ps) (l ∷ ls) [] ts a b c = absurd b
tags_on f number place node (p ∷ ps) (l ∷ ls) (g ∷ gs) [] a b c = absurd c
tags_on f number place node (p ∷ ps) (l ∷ ls) (g ∷ gs) (t ∷ ts) a b c =
    let i = a.0 in
    (c.0 i.net i.is (i.on g b.0) ∙ i.here, tags_on f number place node ps ls gs ts a.1 b.1 c.1)

pub fabric_lays : FabricDrawsSwitches → FabricLays
fabric_lays theorem f is m number switches pads net ins outs place draws inside labels names at flat are n network =
    let d = theorem f is flat n m number network switches in
    record {
      numbers = d.numbers;
      draws = draws;
      inside = inside;
      names = names_are labels flat network.nodes n.tags (covered (shape f)) are network.tags ∙ names;
      on = tags_on f number place d.numbers.node (points ins outs) labels flat n.tags at are d.labelled;
    }
