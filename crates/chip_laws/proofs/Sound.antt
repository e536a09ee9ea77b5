-- A fabric with labels on its nets breaks no rule of masks.
use Rattle.std.proofs.Common.{◌≡◌, ℕ, zero, suc, List, [], ◌∷◌, Some, length, refl, sym, ◌∙◌}
use Rattle.std.proofs.Common.{ap, subst, arith}
use Rattle.std.specs.Prelude.{slice_get, slice_index_or}
use Rattle.std.proofs.Math.ListN.{length-map}
use Rattle.std.proofs.lemmas.List.Elements.{All-contains}
use Rattle.std.proofs.lemmas.Option.{same_Some, none-some, slice_get_within}
use Rattle.std.proofs.lemmas.Slice.Zip.{AllZip-long}
use Rattle.mp_base.proofs.Entries.{contains_from_get}
use Rattle.lam_geom.specs.declared.label.FlatLabel.{FlatLabel}
use Rattle.lam_geom.specs.Squares.{covered}
use Rattle.switch_net.specs.Breaks.{BreaksAt}
use Rattle.switch_net.specs.Breaks.BreaksAt.{one, two}
use Rattle.switch_net.specs.Drawn.{IsChannelAt}
use Rattle.switch_net.specs.Laws.{OneNumbering}
use Rattle.mask_laws.specs.Laws.{NetworkExists}
use Rattle.fabric.specs.declared.chip.ChipLabel.{ChipLabel}
use Rattle.fabric.specs.Labelled.{IsLabelOf, AreLabelsOf}
use Rattle.fabric.specs.Shape.{shape}
use Rattle.fabric_laws.specs.Theorem.{LabelsName, FabricsAreSmall}
use Rattle.chip_laws.specs.Laws.{names_of}
use Rattle.chip_laws.specs.Sound.{IsOnNet, LabelsFit, FabricsAreFew}

-- the chip's label that a label of a file is
label_of : (labels : List ChipLabel) (flat : List FlatLabel) → AreLabelsOf labels flat → (i : ℕ) (label : FlatLabel)
    → slice_get flat i ≡ Some label → (c : ChipLabel) × (slice_get labels i ≡ Some c) × IsLabelOf c label
label_of labels [] are i label e = absurd (none-some label e)
label_of [] (g ∷ gs) are i label e = absurd are
label_of (c ∷ cs) (g ∷ gs) are zero label e = (c, refl, subst (IsLabelOf c) (same_Some g label e) are.0)
label_of (c ∷ cs) (g ∷ gs) are (suc i) label e = label_of cs gs are.1 i label e

name_at : (labels : List ChipLabel) (i : ℕ) (c : ChipLabel) → slice_get labels i ≡ Some c
    → slice_index_or (names_of labels) i [] ≡ c.name
name_at [] i c e = absurd (none-some c e)
name_at (d ∷ ds) zero c e = ap (λ (l : ChipLabel). l.name) (same_Some d c e)
name_at (d ∷ ds) (suc i) c e = name_at ds i c e

pub labels_fit : LabelsName → LabelsFit
labels_fit law f w labels differ on flat are i (one label b) =
    let c = label_of labels flat are i label b.at in
    let d = label_of labels flat are b.j b.earlier b.there in
    let within = slice_get_within labels i c.0 c.1 in
    let size = length-map labels (λ (l : ChipLabel). l.name) in
    differ b.j i [] b.before (omega (arith, within, size))
    (name_at labels b.j d.0 d.1 ∙ sym d.2.name ∙ b.name ∙ c.2.name ∙ sym (name_at labels i c.0 c.1))
labels_fit law f w labels differ on flat are i (two label b) =
    let c = label_of labels flat are i label b.at in
    let n = All-contains (IsOnNet f) labels c.0 on (contains_from_get labels i c.0 c.1) in
    let s = law f w n.net n.is label (n.on label c.2) in
    b.none s.0 s.1

-- no label, no broken rule
unlabelled : {covers : _} (i : ℕ) → ¬ BreaksAt covers [] i
unlabelled i (one label b) = none-some label b.at
unlabelled i (two label b) = none-some label b.at

pub fabrics_are_few : OneNumbering → NetworkExists → FabricsAreSmall → FabricsAreFew
fabrics_are_few numbering exist small f w switches number switched few t =
    let found = exist (shape f) [] (λ i. unlabelled i) in
    let n = found.1 in
    let s = small f w [] found.0 switches number n switched in
    let a = ap length ((numbering (shape f)).0 t.nodes n.nodes t.are_nodes n.are_nodes) in
    let b = ap length ((numbering (shape f)).1 t.regions n.regions t.are_regions n.are_regions) in
    let c = AllZip-long (IsChannelAt (covered (shape f)) n.nodes) n.regions (found.0).channels n.channels in
    absurd (omega (arith, few, s, t.over, a, b, c, n.count))
