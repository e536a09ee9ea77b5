-- A file draws one network at most, and has one verdict.
use Rattle.std.proofs.Common.{◌≡◌, ◌⊎◌, ℕ, List, refl, sym, ◌∙◌, ap, ap₂, subst, inl, inr, Option, Some, None}
use Rattle.mp_base.specs.PadNames.{supplies}
use Rattle.mp_base.specs.declared.refusal.Broken.{Broken}
use Rattle.mp_base.specs.declared.refusal.Family.TheVariants.{C}
use Rattle.mp_base.specs.declared.refusal.Rule.{Rule}
use Rattle.mp_base.specs.declared.refusal.Spot.{Spot}
use Rattle.mp_base.specs.declared.refusal.Spot.TheVariants.{At, Offset, Named, Nowhere}
use Rattle.mp_base.specs.declared.refusal.Refusal.TheVariants as refusals
use Rattle.mp_base.proofs.Decisions.{IsDetermined}
use Rattle.lam_geom.specs.declared.rect.Rect.{Rect}
use Rattle.lam_geom.specs.declared.label.FlatLabel.{FlatLabel}
use Rattle.lam_geom.specs.Squares.{covered, SameSquares}
use Rattle.cif_form.specs.declared.command.Item.{Item}
use Rattle.cif_form.specs.Scans as scans
use Rattle.cif_form.specs.Scans.{TextEnd, text_rule_number, FileScans}
use Rattle.cif_form.specs.Walk as walks
use Rattle.cif_form.specs.Walk.{draw_rule_number, FileWalks}
use Rattle.cif_form.specs.Laws.{WalkIsUnique}
use Rattle.cif_reader.specs.Refusing.{Refuses as RefusesText}
use Rattle.cif_flat.specs.Refusing.{StopsAt, OffsetIs}
use Rattle.switch_net.specs.declared.network.Network.{Network}
use Rattle.switch_net.specs.Breaks.{IsFirstOfMask, n1, n2, n3, n5, one, two, IsDrivenTwice}
use Rattle.switch_net.specs.Drawn.{IsNetwork}
use Rattle.switch_net.specs.Laws as nets
use Rattle.mask_laws.specs.Laws.{NetworkBySquares, FirstBySquares}
use Rattle.extractor.specs.Extracted.{IsExtracted}
use Rattle.mask_net.specs.Masks.{IsCif, IsDrawing, IsNetOf, BreaksDrawing, BreaksMask, OfDrawing, OfMask}

-- the laws of the crates below
pub record Laws : Type 0 where
  pub scan : (text : List ℕ) (items others : List Item) (end last : TextEnd) → FileScans text items end
      → FileScans text others last → (items ≡ others) × (end ≡ last)
  pub walk : WalkIsUnique
  pub network : nets.OneNetwork
  pub network_by_squares : NetworkBySquares
  pub first_by_squares : FirstBySquares

-- a rule of the first stage, or else what the later stages say
abbrev Stage : (Broken → Type 0) → (Option Broken → Type 0) → Option Broken → Type 0
Stage P Q None = Q None
Stage P Q (Some b) = P b ⊎ Q (Some b)

one_of_stages : (P : Broken → Type 0) (Q : Option Broken → Type 0) → IsDetermined P
    → ((b : Broken) (o : Option Broken) → P b → Q o → ⊥) → IsDetermined Q → IsDetermined (Stage P Q)
one_of_stages P Q p apart q None None x y = refl
one_of_stages P Q p apart q None (Some b) x (inl y) = absurd (apart b None y x)
one_of_stages P Q p apart q None (Some b) x (inr y) = q None (Some b) x y
one_of_stages P Q p apart q (Some a) None (inl x) y = absurd (apart a None x y)
one_of_stages P Q p apart q (Some a) None (inr x) y = q (Some a) None x y
one_of_stages P Q p apart q (Some a) (Some b) (inl x) (inl y) = ap Some (p a b x y)
one_of_stages P Q p apart q (Some a) (Some b) (inl x) (inr y) = absurd (apart a (Some b) x y)
one_of_stages P Q p apart q (Some a) (Some b) (inr x) (inl y) = absurd (apart b (Some a) y x)
one_of_stages P Q p apart q (Some a) (Some b) (inr x) (inr y) = q (Some a) (Some b) x y

module _ (laws : Laws) (bytes : List ℕ) where
  one_cif : IsDetermined (IsCif bytes)
  one_cif a b x y = (laws.scan bytes a b scans.Whole scans.Whole x.well_formed y.well_formed).0

  -- two drawings cover the same squares, and have the same labels
  one_drawing : (shapes others : List Rect) (labels names : List FlatLabel) → IsDrawing bytes shapes labels
      → IsDrawing bytes others names → SameSquares (covered shapes) (covered others) × (labels ≡ names)
  one_drawing shapes others labels names x y =
      let again =
      subst (λ items. FileWalks items shapes labels walks.Whole)
      (one_cif x.commands y.commands x.cif y.cif) x.drawable in
      let same = laws.walk y.commands shapes others labels names walks.Whole walks.Whole again y.drawable in
      (same.0, same.1)

  pub one_network : IsDetermined (IsNetOf bytes)
  one_network n m x y =
      let same = one_drawing x.shapes y.shapes x.labels y.labels x.drawing y.drawing in
      let drawn = laws.network_by_squares x.shapes y.shapes same.0 x.labels n x.mask.network in
      let labelled = subst (λ labels. IsNetwork (covered y.shapes) labels n) same.1 drawn in
      laws.network y.shapes y.labels n m labelled y.mask.network

  -- ---- the first rule of a stage

  one_of_text : IsDetermined (λ b. RefusesText bytes (refusals.Broken b))
  one_of_text a b (r, o, rule, spot, items) (s, p, is, at, others) =
      let ends : scans.Broken r o ≡ scans.Broken s p = (laws.scan bytes items.0 others.0 _ _ items.1 others.1).1 in
      let rules : r ≡ s = cc in
      let offsets : o ≡ p = cc in
      ap₂ (λ (k : Rule) (at : Spot). record { rule = k; spot = at })
      (rule ∙ ap (λ k. record { family = C; number = text_rule_number k }) rules ∙ sym is)
      (spot ∙ ap Offset offsets ∙ sym at)

  stops_once : (items : List Item) (at there : Spot) (n m : ℕ) → OffsetIs at (StopsAt items n)
      → OffsetIs there (StopsAt items m) → (n ≡ m) × (at ≡ there)
  stops_once items (Offset o) (Offset p) n m (r, shapes, labels, is, walk) (s, others, names, so, again) =
      let ends : walks.Broken r o ≡ walks.Broken s p = (laws.walk items shapes others labels names _ _ walk again).2 in
      let rules : r ≡ s = cc in
      (sym is ∙ ap draw_rule_number rules ∙ so, cc)
  stops_once items (Offset o) (At a) n m x y = absurd y
  stops_once items (Offset o) (Named a) n m x y = absurd y
  stops_once items (Offset o) Nowhere n m x y = absurd y
  stops_once items (At a) there n m x y = absurd x
  stops_once items (Named a) there n m x y = absurd x
  stops_once items Nowhere there n m x y = absurd x

  one_of_drawing : IsDetermined (BreaksDrawing bytes)
  one_of_drawing a b (items, cif, stops) (others, again, other) =
      let first =
      subst (λ items. OffsetIs a.spot (StopsAt items a.rule.number)) (one_cif items others cif again) stops.1 in
      let same = stops_once others a.spot b.spot a.rule.number b.rule.number first other.1 in
      let rules : a.rule ≡ b.rule = ap₂ (λ f n. record { family = f; number = n }) (stops.0 ∙ sym other.0) same.0 in
      ap₂ (λ (k : Rule) (at : Spot). record { rule = k; spot = at }) rules same.1

  one_of_mask : nets.OneFirstOfMask → IsDetermined (BreaksMask bytes)
  one_of_mask first a b (shapes, labels, drawing, broken) (others, names, again, other) =
      let same = one_drawing shapes others labels names drawing again in
      let broken = laws.first_by_squares shapes others same.0 labels a broken in
      first others names a b (subst (λ labels. IsFirstOfMask (covered others) labels a) same.1 broken) other

  -- ---- what breaks a rule of a stage has no later stage

  no_cif : (b : Broken) (items : List Item) → RefusesText bytes (refusals.Broken b) → IsCif bytes items → ⊥
  no_cif b others (r, o, rule, spot, items) cif =
      let ends : scans.Broken r o ≡ scans.Whole = (laws.scan bytes items.0 others _ _ items.1 cif.well_formed).1 in cc

  no_drawing : (b : Broken) (shapes : List Rect) (labels : List FlatLabel) → BreaksDrawing bytes b
      → IsDrawing bytes shapes labels → ⊥
  no_drawing b shapes labels (items, cif, stops) drawing =
      go b.spot
      (subst (λ items. OffsetIs b.spot (StopsAt items b.rule.number))
      (one_cif items drawing.commands cif drawing.cif) stops.1)
    where
      go : (spot : Spot) → OffsetIs spot (StopsAt drawing.commands b.rule.number) → ⊥
      go (Offset o) (r, others, names, is, walk) =
          let ends : walks.Broken r o ≡ walks.Whole =
          (laws.walk drawing.commands others shapes names labels _ _ walk drawing.drawable).2 in cc
      go (At a) x = absurd x
      go (Named a) x = absurd x
      go Nowhere x = absurd x

  breaks_nothing : (shapes : List Rect) (labels : List FlatLabel) (net : Network) (b : Broken)
      → IsExtracted shapes labels net → IsFirstOfMask (covered shapes) labels b → ⊥
  breaks_nothing shapes labels net b is (n1 i label on before) = is.labels_fit i (one label on)
  breaks_nothing shapes labels net b is (n2 i label on before) = is.labels_fit i (two label on)
  breaks_nothing shapes labels net b is (n3 other drawn i tag driven before) =
      is.apart i (
        tag,
        subst (λ (n : Network). IsDrivenTwice supplies n.tags i tag)
            (laws.network shapes labels other net drawn is.network) driven,
      )
  breaks_nothing shapes labels net b is (n5 other drawn apart over) = is.few over

  no_network : (b : Broken) (net : Network) → BreaksMask bytes b → IsNetOf bytes net → ⊥
  no_network b net (shapes, labels, drawing, broken) is =
      let same = one_drawing shapes is.shapes labels is.labels drawing is.drawing in
      let broken = laws.first_by_squares shapes is.shapes same.0 labels b broken in
      breaks_nothing is.shapes is.labels net b is.mask
      (subst (λ labels. IsFirstOfMask (covered is.shapes) labels b) same.1 broken)

  -- ---- the verdict

  abbrev NetStage : Option Broken → Type 0
  NetStage o = (o ≡ None) × (net : Network) × IsNetOf bytes net

  abbrev MaskStage : Option Broken → Type 0
  MaskStage = Stage (BreaksMask bytes) NetStage

  abbrev DrawingStage : Option Broken → Type 0
  DrawingStage = Stage (BreaksDrawing bytes) MaskStage

  of_mask : (o : Option Broken) → MaskStage o
      → (shapes : List Rect) × (labels : List FlatLabel) × IsDrawing bytes shapes labels
  of_mask None (e, net, is) = (is.shapes, is.labels, is.drawing)
  of_mask (Some b) (inl (shapes, labels, drawing, broken)) = (shapes, labels, drawing)
  of_mask (Some b) (inr (e, net, is)) = (is.shapes, is.labels, is.drawing)

  of_drawing : (o : Option Broken) → DrawingStage o → (items : List Item) × IsCif bytes items
  of_drawing None x = let d = (of_mask None x).2 in (d.commands, d.cif)
  of_drawing (Some b) (inl (items, cif, broken)) = (items, cif)
  of_drawing (Some b) (inr x) = let d = (of_mask (Some b) x).2 in (d.commands, d.cif)

  staged : (o : Option Broken) → OfMask bytes o → Stage (λ b. RefusesText bytes (refusals.Broken b)) DrawingStage o
  staged None (net, is) = (refl, net, is)
  staged (Some b) (inl x) = inl x
  staged (Some b) (inr (inl x)) = inr (inl x)
  staged (Some b) (inr (inr x)) = inr (inr (inl x))

  pub one_verdict : nets.OneFirstOfMask → IsDetermined (OfMask bytes)
  one_verdict first a b x y =
      one_of_stages _ DrawingStage one_of_text (λ c o text rest. let d = of_drawing o rest in no_cif c d.0 text d.1)
      (one_of_stages (BreaksDrawing bytes) MaskStage one_of_drawing
      (λ c o drawing rest. let d = of_mask o rest in no_drawing c d.0 d.1 drawing d.2)
      (one_of_stages (BreaksMask bytes) NetStage (one_of_mask first) (λ c o mask rest. no_network c rest.1 mask rest.2)
      (λ c d e f. e.0 ∙ sym f.0)))
      a b (staged a x) (staged b y)

  -- ---- the verdict on texts and drawing alone

  abbrev DrawnStage : Option Broken → Type 0
  DrawnStage o = (o ≡ None) × (shapes : List Rect) × (labels : List FlatLabel) × IsDrawing bytes shapes labels

  abbrev OnlyDrawing : Option Broken → Type 0
  OnlyDrawing = Stage (BreaksDrawing bytes) DrawnStage

  cif_of : (o : Option Broken) → OnlyDrawing o → (items : List Item) × IsCif bytes items
  cif_of None x = (x.3.commands, x.3.cif)
  cif_of (Some b) (inl (items, cif, broken)) = (items, cif)
  cif_of (Some b) (inr x) = (x.3.commands, x.3.cif)

  drawing_staged : (o : Option Broken) → OfDrawing bytes o
      → Stage (λ b. RefusesText bytes (refusals.Broken b)) OnlyDrawing o
  drawing_staged None x = (refl, x.0, x.1, x.2)
  drawing_staged (Some b) (inl x) = inl x
  drawing_staged (Some b) (inr x) = inr (inl x)

  pub one_drawing_verdict : IsDetermined (OfDrawing bytes)
  one_drawing_verdict a b x y =
      one_of_stages _ OnlyDrawing one_of_text (λ c o text rest. let d = cif_of o rest in no_cif c d.0 text d.1)
      (one_of_stages (BreaksDrawing bytes) DrawnStage one_of_drawing
      (λ c o drawing rest. no_drawing c rest.1 rest.2 drawing rest.3) (λ c d e f. e.0 ∙ sym f.0))
      a b (drawing_staged a x) (drawing_staged b y)
