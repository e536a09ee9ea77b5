-- A path's chip with pads is laid out as the chip without them is.
use Rattle.std.proofs.Common.{◌≡◌, ℕ, zero, suc, ◌<◌, ◌+◌, List, [], ◌∷◌, ◌++◌, Some, length, map, refl, sym, ◌∙◌}
use Rattle.std.proofs.Common.{inl, inr, ap, subst, subst₂, arith, Contains}
use Rattle.std.specs.Prelude.{◌≢◌, ℤ, AllPairs, slice_get, slice_index_or}
use Rattle.std.specs.List.{AllZip}
use Rattle.std.proofs.Math.ListN.{length-map}
use Rattle.std.proofs.lemmas.Option.{same_Some, none-some, slice_get_within}
use Rattle.mp_base.proofs.Entries.{contains_from_get}
use Rattle.mp_base.proofs.Members.{zip_left, contains_member}
use Rattle.mp_base.specs.declared.pad.Pads.{Pads}
use Rattle.lam_geom.specs.declared.layer.Layer.{Layer}
use Rattle.lam_geom.specs.declared.layer.Layer.TheVariants.{NM}
use Rattle.lam_geom.specs.declared.label.FlatLabel.{FlatLabel}
use Rattle.lam_geom.specs.declared.rect.Rect.{Rect}
use Rattle.lam_geom.specs.Squares.{Square, covered}
use Rattle.switch_net.specs.declared.network.Network.{Network}
use Rattle.switch_net.specs.declared.network.Tag.{Tag}
use Rattle.switch_net.specs.Breaks.{BreaksAt, AreTooMany}
use Rattle.switch_net.specs.Breaks.BreaksAt.{one, two}
use Rattle.switch_net.specs.Labels.{Names, IsNamed}
use Rattle.switch_net.specs.Drawn.{IsNetwork}
use Rattle.mask_laws.specs.Laws.{NumberingExists, NetworkExists}
use Rattle.renumbering.specs.Same.{Renumbering, SameTag, SameUpToNumbering}
use Rattle.renumbering.specs.Laws.{RenumberingsCompose}
use Rattle.nor_net.specs.Elements.{Spot, Nets}
use Rattle.drawing.specs.Draws.{Point}
use Rattle.fabric.specs.declared.chip.ChipLabel.{ChipLabel}
use Rattle.fabric.specs.Labelled.{IsLabelOf, AreLabelsOf}
use Rattle.metal_pieces.specs.Pieces.{all_of}
use Rattle.metal_pieces.proofs.Covering.{append_covered, all_covered}
use Rattle.mask_gluing.specs.Gluing.{AreGlued, IsMoved}
use Rattle.mask_gluing.specs.Laws.{GluedKeepsNetwork, GluedIsAsMany}
use Rattle.chip_laws.specs.Laws.{names_of, points, IsExtracted}
use Rattle.padded_chips.specs.Padding.{IsCarried, PadsKeepLayouts}

-- ---- labels

-- a label as a file has it
abbrev flat_of : ChipLabel → FlatLabel
flat_of c = record { offset = 0; name = c.name; x = c.x; y = c.y; layer = Some c.layer }

flat_is : (labels : List ChipLabel) → AreLabelsOf labels (map flat_of labels)
flat_is [] = tt
flat_is (c ∷ cs) = (record { name = refl; x = refl; y = refl; layer = refl }, flat_is cs)

-- the chip's label that a label of a file is
label_of : (labels : List ChipLabel) (flat : List FlatLabel) → AreLabelsOf labels flat → (i : ℕ) (label : FlatLabel)
    → slice_get flat i ≡ Some label → (c : ChipLabel) × (slice_get labels i ≡ Some c) × IsLabelOf c label
label_of labels [] are i label e = absurd (none-some label e)
label_of [] (g ∷ gs) are i label e = absurd are
label_of (c ∷ cs) (g ∷ gs) are zero label e = (c, refl, subst (IsLabelOf c) (same_Some g label e) are.0)
label_of (c ∷ cs) (g ∷ gs) are (suc i) label e = label_of cs gs are.1 i label e

name_at : (labels : List ChipLabel) (i : ℕ) (c : ChipLabel) → slice_get labels i ≡ Some c
    → slice_index_or (names_of labels) i [] ≡ c.name
name_at [] i c e = absurd (none-some c e)
name_at (d ∷ ds) zero c e = ap (λ (l : ChipLabel). l.name) (same_Some d c e)
name_at (d ∷ ds) (suc i) c e = name_at ds i c e

module _ (rects : List Rect) (pieces : List (List Rect)) where
  abbrev New : Layer → ℤ → ℤ → Type 0
  New = covered (rects ++ all_of pieces)

  -- labels of a file are moved as those of the chip are carried
  moved : (new old : List ChipLabel) (flat : List FlatLabel) → AllZip (IsCarried rects pieces) new old
      → AreLabelsOf new flat → AllZip (IsMoved rects pieces) flat (map flat_of old)
  moved [] [] [] z a = tt
  moved [] [] (g ∷ gs) z a = absurd a
  moved [] (o ∷ os) flat z a = absurd z
  moved (n ∷ ns) [] flat z a = absurd z
  moved (n ∷ ns) (o ∷ os) [] z a = absurd a
  moved (n ∷ ns) (o ∷ os) (g ∷ gs) z a =
      let c = z.0 in
      let l = a.0 in (
        record {
          name = l.name ∙ c.name;
          piece = c.piece;
          among = c.among;
          layer = l.layer ∙ ap Some c.layer;
          on = subst₂ (λ x y. covered c.piece NM x y) (sym l.x) (sym l.y) c.on;
          along = λ s t h k. c.along (flat_of o) s t (record { name = refl; x = refl; y = refl; layer = refl }) h k;
        },
        moved ns os gs z.1 a.1,
      )

  -- a label on a piece names it
  named : (new old : ChipLabel) (label : FlatLabel) → IsCarried rects pieces new old → IsLabelOf new label
      → (s : Square) × Names New label s
  named new old label c l =
      let s : Square = record { layer = NM; x = label.x; y = label.y } in
      let on : New NM label.x label.y =
      append_covered rects (all_of pieces) NM label.x label.y
      (inr (all_covered pieces NM label.x label.y c.piece c.among
      (subst₂ (λ x y. covered c.piece NM x y) (sym l.x) (sym l.y) c.on))) in (
        s,
        record {
          x = refl;
          y = refl;
          layer = subst (λ z. IsNamed New label.x label.y z NM) (sym (l.layer ∙ ap Some c.layer)) (inl (refl, on));
        },
      )

  labels_fit : (new old : List ChipLabel) (flat : List FlatLabel) → AllZip (IsCarried rects pieces) new old
      → AllPairs ◌≢◌ (names_of new) → AreLabelsOf new flat → (i : ℕ) → ¬ BreaksAt New flat i
  labels_fit new old flat z differ are i (one label b) =
      let c = label_of new flat are i label b.at in
      let d = label_of new flat are b.j b.earlier b.there in
      let within = slice_get_within new i c.0 c.1 in
      let size = length-map new (λ (l : ChipLabel). l.name) in
      differ b.j i [] b.before (omega (arith, within, size))
      (name_at new b.j d.0 d.1 ∙ sym d.2.name ∙ b.name ∙ c.2.name ∙ sym (name_at new i c.0 c.1))
  labels_fit new old flat z differ are i (two label b) =
      let c = label_of new flat are i label b.at in
      let o = zip_left (IsCarried rects pieces) new old c.0 z
      (contains_member new c.0 (contains_from_get new i c.0 c.1)) in
      let s = named c.0 o.0 label o.2 c.2 in
      b.none s.0 s.1

  -- no more nodes and channels than without the pieces
  few : NumberingExists → GluedIsAsMany → AreGlued rects pieces → ¬ AreTooMany (covered rects) → ¬ AreTooMany New
  few exist counts g enough t =
      let old = (exist rects).0 in
      let a = (counts rects pieces g).0 t.nodes old.0 t.are_nodes old.1 in
      let o = t.over in
      enough (record {
        nodes = old.0;
        regions = t.regions;
        are_nodes = old.1;
        are_regions = (counts rects pieces g).1 t.regions t.are_regions;
        over = omega (arith, a, o);
      })

-- ---- extraction

same_names : (node : ℕ → ℕ) (ts us : List Tag) → AllZip (SameTag node) ts us
    → map (λ (t : Tag). t.name) ts ≡ map (λ (t : Tag). t.name) us
same_names node [] [] z = refl
same_names node [] (u ∷ us) z = absurd z
same_names node (t ∷ ts) [] z = absurd z
same_names node (t ∷ ts) (u ∷ us) z = λ i. z.0.name i ∷ same_names node ts us z.1 i

same_places : {A : Type 0} (first second both : ℕ → ℕ) → ((x : ℕ) → both x ≡ second (first x)) → (place : A → ℕ)
    (ps : List A) (ts us : List Tag) → AllZip (SameTag first) ts us
    → AllZip (λ at (t : Tag). second t.node ≡ place at) ps us → AllZip (λ at (t : Tag). both t.node ≡ place at) ps ts
same_places first second both e place [] [] [] z a = tt
same_places first second both e place [] [] (u ∷ us) z a = absurd z
same_places first second both e place [] (t ∷ ts) [] z a = absurd z
same_places first second both e place [] (t ∷ ts) (u ∷ us) z a = absurd a
same_places first second both e place (p ∷ ps) [] [] z a = absurd a
same_places first second both e place (p ∷ ps) [] (u ∷ us) z a = absurd z
same_places first second both e place (p ∷ ps) (t ∷ ts) [] z a = absurd z
same_places first second both e place (p ∷ ps) (t ∷ ts) (u ∷ us) z a =
    (e t.node ∙ ap second z.0.node_is ∙ a.0, same_places first second both e place ps ts us z.1 a.1)

-- what is the same up to numbering is extracted alike
extracted : RenumberingsCompose → (n k m : Network) (pads : Pads) (net : Nets) (ins outs : List (List Spot))
    (place : Point → ℕ) → SameUpToNumbering n k → IsExtracted k m pads net ins outs place
    → IsExtracted n m pads net ins outs place
extracted then n k m pads net ins outs place s e =
    let both = then n k m s.numbers e.numbers in
    record {
      numbers = both.0;
      draws = e.draws;
      inside = e.inside;
      names = same_names s.numbers.node n.tags k.tags s.tags ∙ e.names;
      on = same_places s.numbers.node e.numbers.node both.0.node both.1 place (points ins outs) n.tags k.tags s.tags
          e.on;
    }

pub layouts_kept : GluedKeepsNetwork → GluedIsAsMany → NumberingExists → NetworkExists → RenumberingsCompose
    → PadsKeepLayouts
layouts_kept glued counts numbered exist then rtl p m place rects pieces new old laid g carried differ flat are =
    let before = laid (map flat_of old) (flat_is old) in
    let drawn = exist rects (map flat_of old) before.0 in (
      labels_fit rects pieces new old flat carried differ are,
      few rects pieces numbered counts g before.1,
      λ n network. extracted then n drawn.0 m _ _ _ _ place
          (glued rects pieces g flat (map flat_of old) (moved rects pieces new old flat carried are) n drawn.0 network
          drawn.1)
          (before.2 drawn.0 drawn.1),
    )
