-- Labels that are added one by one, and pad by pad.
use Rattle.std.proofs.Common.{◌≡◌, ◌≢◌, ℕ, zero, suc, ◌+◌, ◌<◌, ◌≤◌, true, false, cond, List, [], ◌∷◌, ◌++◌, length}
use Rattle.std.proofs.Common.{map, get_or, take, refl, sym, ◌∙◌, ap, subst, arith}
use Rattle.std.specs.Prelude.{codes, flat_map, ◌==◌}
use Rattle.std.specs.List.{AllZip, range_with_len}
use Rattle.std.specs.Fmt.{decimal}
use Rattle.std.proofs.Math.Seq.{take-suc}
use Rattle.std.proofs.lemmas.Bool.{eq-eqb, ne_eqb}
use Rattle.std.proofs.lemmas.Grind.{flat_map-append}
use Rattle.std.proofs.lemmas.List.{append-nil, append_assoc, map-append, take_all}
use Rattle.std.proofs.lemmas.List.FromFn.{map-range_with_len_more}
use Rattle.std.proofs.lemmas.Simd.{map-map}
use Rattle.mp_base.specs.declared.pad.Pad.{Pad}
use Rattle.mp_base.specs.PadNames.{supplies}
use Rattle.mp_base.proofs.Zips.{zip_push}
use Rattle.switch_net.specs.Pads.{bit_labels, labels_of, word_labels}
use Rattle.nor_net.specs.declared.net.NetId.{NetId}
use Rattle.nor_net.specs.declared.net.Phase.TheVariants.{A, B, C}
use Rattle.nor_net.specs.Elements.{Spot, spot}
use Rattle.drawing.specs.Draws.{Point, OfNet, Ground, Power, OfPhase}
use Rattle.fabric.specs.declared.chip.ChipLabel.{ChipLabel}
use Rattle.fabric.specs.Plan.{Plan}
use Rattle.path_form.specs.declared.path.DataPath.{DataPath}
use Rattle.path_form.specs.Showing.{pad_bits, pad_spot}
use Rattle.chip_laws.specs.Laws.{names_of}
use Rattle.chip_laws.specs.Rows.{rows_at}
use Rattle.path_labels.specs.declared.corners.Corner.{Corner}
use Rattle.path_labels.specs.declared.corners.Corners.{Corners}
use Rattle.path_labels.specs.Corners.{no_corners, with_corner}
use Rattle.path_labels.specs.Labels.{Adds, IsAtPoint, height_at, label_points, points_in}

-- ---- lists place by place

-- ---- labels

module _ (p : DataPath) (f : Plan) where
  pub none_added : (old : Corners) → Adds p f [] [] old old
  none_added old = record {
    named = sym (append-nil (names_of old.labels));
    there = λ before z. subst (λ at. AllZip (IsAtPoint p f) at old.labels) (sym (append-nil before)) z;
    high = sym (append-nil old.heights);
  }

  -- the corner is that of the point's net, and has this name
  pub record IsCorner (at : Point) (name : List ℕ) (corner : Corner) : Type 0 where
    pub named : corner.label.name ≡ name
    pub there : IsAtPoint p f at corner.label
    pub high : corner.height ≡ height_at p f at

  pub one_added : (at : Point) (name : List ℕ) (old : Corners) (corner : Corner) → IsCorner at name corner
      → Adds p f (at ∷ []) (name ∷ []) old (with_corner old corner)
  one_added at name old corner is = record {
    named = map-append (λ (l : ChipLabel). l.name) old.labels (corner.label ∷ [])
        ∙ ap (λ x. names_of old.labels ++ x ∷ []) is.named;
    there = λ before z. zip_push (IsAtPoint p f) before old.labels at corner.label z is.there;
    high = ap (λ h. old.heights ++ h ∷ []) is.high;
  }

  pub both_added : (at bt : List Point) (names more : List (List ℕ)) (a b c : Corners)
      → Adds p f at names a b → Adds p f bt more b c → Adds p f (at ++ bt) (names ++ more) a c
  both_added at bt names more a b c x y = record {
    named = y.named ∙ ap (λ ns. ns ++ more) x.named ∙ append_assoc (names_of a.labels) names more;
    there = λ before z. subst (λ q. AllZip (IsAtPoint p f) q c.labels) (append_assoc before at bt)
        (y.there (before ++ at) (x.there before z));
    high = y.high ∙ ap (λ hs. hs ++ map (height_at p f) bt) x.high
        ∙ append_assoc a.heights (map (height_at p f) at) (map (height_at p f) bt)
        ∙ ap (λ hs. a.heights ++ hs) (sym (map-append (height_at p f) at bt));
  }

  pub next_added : (at : Point) (name : List ℕ) (points : List Point) (names : List (List ℕ))
      (old now new : Corners) (corner : Corner) → Adds p f points names old now → new ≡ with_corner now corner
      → IsCorner at name corner → Adds p f (points ++ at ∷ []) (names ++ name ∷ []) old new
  next_added at name points names old now new corner added e is =
      subst (λ l. Adds p f (points ++ at ∷ []) (names ++ name ∷ []) old l) (sym e)
      (both_added points (at ∷ []) names (name ∷ []) old now (with_corner now corner) added
      (one_added at name now corner is))

  -- ---- the bits of a word

  pub bit_added : (net : NetId) (name : List ℕ) (k : ℕ) (old now new : Corners) (corner : Corner)
      → Adds p f (map (λ k. OfNet (spot (suc k) net)) (range_with_len 0 k)) (word_labels name k) old now
      → new ≡ with_corner now corner
      → IsCorner (OfNet (spot (suc k) net)) (name ++ (codes "." ++ decimal k)) corner
      → Adds p f (map (λ k. OfNet (spot (suc k) net)) (range_with_len 0 (k + 1))) (word_labels name (k + 1)) old new
  bit_added net name k old now new corner added e is =
      let s : k + 1 ≡ suc k = omega arith in
      let points = λ (j : ℕ). map (λ k. OfNet (spot (suc k) net)) (range_with_len 0 j) in
      let t : points (k + 1) ≡ points k ++ OfNet (spot (suc k) net) ∷ [] =
      map-range_with_len_more (λ k. OfNet (spot (suc k) net)) 0 k k (omega arith) in
      subst (λ l. Adds p f l (word_labels name (k + 1)) old new) (sym t)
      (subst (λ m. Adds p f (points k ++ OfNet (spot (suc k) net) ∷ []) (word_labels name m) old new) (sym s)
      (next_added (OfNet (spot (suc k) net)) (name ++ (codes "." ++ decimal k)) (points k) (word_labels name k) old now
      new corner added e is))

-- ---- the bits of a pad

-- the points of a pad's bits
abbrev pub pad_points : Pad → NetId → List Point
pad_points pad net = map OfNet (map (pad_spot pad net) (range_with_len 0 (pad_bits pad)))

signal_points : (pad : Pad) (net : NetId) → pad.width ≡ 0 → pad_points pad net ≡ OfNet (spot 0 net) ∷ []
signal_points pad net e =
    let sort : (pad.width == 0) ≡ true = eq-eqb pad.width 0 e in
    λ i. map OfNet (map (λ k. spot (cond (sort i) 0 (suc k)) net) (range_with_len 0 (cond (sort i) 1 pad.width)))

word_points : (pad : Pad) (net : NetId) (w : ℕ) → pad.width ≢ 0 → pad.width ≡ w
    → pad_points pad net ≡ map (λ k. OfNet (spot (suc k) net)) (range_with_len 0 w)
word_points pad net w h e =
    let sort : (pad.width == 0) ≡ false = ne_eqb pad.width 0 h in
    (λ i. map OfNet (map (λ k. spot (cond (sort i) 0 (suc k)) net) (range_with_len 0 (cond (sort i) 1 (e i)))))
    ∙ map-map OfNet (λ k. spot (suc k) net) (range_with_len 0 w)

word_names : (name : List ℕ) (w : ℕ) → w ≢ 0 → labels_of name w ≡ word_labels name w
word_names name zero h = absurd (h refl)
word_names name (suc w) h = refl

pub word_added : (p : DataPath) (f : Plan) (pad : Pad) (net : NetId) (w : ℕ) (old new : Corners)
    → pad.width ≢ 0 → pad.width ≡ w
    → Adds p f (map (λ k. OfNet (spot (suc k) net)) (range_with_len 0 w)) (word_labels pad.name w) old new
    → Adds p f (pad_points pad net) (bit_labels pad) old new
word_added p f pad net w old new h e added =
    subst (λ at. Adds p f at (bit_labels pad) old new) (sym (word_points pad net w h e))
    (subst (λ names. Adds p f (map (λ k. OfNet (spot (suc k) net)) (range_with_len 0 w)) names old new)
    (sym (word_names pad.name pad.width h ∙ ap (word_labels pad.name) e)) added)

pub signal_added : (p : DataPath) (f : Plan) (pad : Pad) (net : NetId) (old new : Corners) (corner : Corner)
    → pad.width ≡ 0 → new ≡ with_corner old corner → IsCorner p f (OfNet (spot 0 net)) pad.name corner
    → Adds p f (pad_points pad net) (bit_labels pad) old new
signal_added p f pad net old new corner w e is =
    subst (λ at. Adds p f at (bit_labels pad) old new) (sym (signal_points pad net w))
    (subst (λ names. Adds p f (OfNet (spot 0 net) ∷ []) names old new) (sym (ap (labels_of pad.name) w))
    (subst (λ l. Adds p f (OfNet (spot 0 net) ∷ []) (pad.name ∷ []) old l) (sym e)
    (one_added p f (OfNet (spot 0 net)) pad.name old corner is)))

-- ---- the bits of pads

rows_more : (pads : List Pad) (ids : List NetId) (i : ℕ) (q : Pad) (x : NetId) → i < length pads → i < length ids
    → rows_at (take (suc i) pads) (take (suc i) ids)
    ≡ rows_at (take i pads) (take i ids)
    ++ map (pad_spot (get_or pads i q) (get_or ids i x)) (range_with_len 0 (pad_bits (get_or pads i q))) ∷ []
rows_more [] ids i q x h k = absurd (omega (arith, h))
rows_more (r ∷ rs) [] i q x h k = absurd (omega (arith, k))
rows_more (r ∷ rs) (y ∷ ys) zero q x h k = refl
rows_more (r ∷ rs) (y ∷ ys) (suc i) q x h k =
    ap (λ l. map (pad_spot r y) (range_with_len 0 (pad_bits r)) ∷ l)
    (rows_more rs ys i q x (omega (arith, h)) (omega (arith, k)))

points_more : (rows : List (List Spot)) (row : List Spot)
    → points_in (rows ++ row ∷ []) ≡ points_in rows ++ map OfNet row
points_more rows row =
    flat_map-append (λ (row : List Spot). map OfNet row) rows (row ∷ [])
    ∙ ap (λ l. points_in rows ++ l) (append-nil (map OfNet row))

module _ (p : DataPath) (f : Plan) (pads : List Pad) (ids : List NetId) (old : Corners) where
  -- the labels of the first so many pads
  abbrev pub AddsFirst : ℕ → Corners → Type 0
  AddsFirst i new =
      Adds p f (points_in (rows_at (take i pads) (take i ids))) (flat_map bit_labels (take i pads)) old new

  pub pad_added : (i : ℕ) (q : Pad) (x : NetId) (now new : Corners) → i < length pads → i < length ids
      → AddsFirst i now → Adds p f (pad_points (get_or pads i q) (get_or ids i x)) (bit_labels (get_or pads i q)) now
      new → AddsFirst (i + 1) new
  pad_added i q x now new h k before added =
      let e : i + 1 ≡ suc i = omega arith in
      let pad = get_or pads i q in let net = get_or ids i x in
      let rows = rows_at (take i pads) (take i ids) in
      let names = flat_map bit_labels (take i pads) in
      let row = map (pad_spot pad net) (range_with_len 0 (pad_bits pad)) in
      let t : points_in (rows_at (take (suc i) pads) (take (suc i) ids)) ≡ points_in rows ++ pad_points pad net =
      ap points_in (rows_more pads ids i q x h k) ∙ points_more rows row in
      let n : flat_map bit_labels (take (suc i) pads) ≡ names ++ bit_labels pad =
      ap (flat_map bit_labels) (take-suc pads i q h) ∙ flat_map-append bit_labels (take i pads) (pad ∷ [])
      ∙ ap (λ l. names ++ l) (append-nil (bit_labels pad)) in
      subst (λ m. AddsFirst m new) (sym e)
      (subst (λ l. Adds p f l (flat_map bit_labels (take (suc i) pads)) old new) (sym t)
      (subst (λ l. Adds p f (points_in rows ++ pad_points pad net) l old new) (sym n)
      (both_added p f (points_in rows) (pad_points pad net) names (bit_labels pad) old now new before added)))

  pub all_added : (i : ℕ) (new : Corners) → length pads ≤ i → length ids ≤ i → AddsFirst i new
      → Adds p f (points_in (rows_at pads ids)) (flat_map bit_labels pads) old new
  all_added i new h k added =
      subst (λ l. Adds p f (points_in (rows_at pads l)) (flat_map bit_labels pads) old new) (take_all i ids k)
      (subst (λ l. Adds p f (points_in (rows_at l (take i ids))) (flat_map bit_labels l) old new)
      (take_all i pads h) added)

-- ---- all labels

abbrev AddsOf : DataPath → Plan → List Pad → List NetId → Corners → Corners → Type 0
AddsOf p f pads ids old new = Adds p f (points_in (rows_at pads ids)) (flat_map bit_labels pads) old new

-- those of supplies and phases, then of inputs and of outputs
pub all_labels : (p : DataPath) (f : Plan) (first second third : Corners)
    → Adds p f (Power ∷ Ground ∷ OfPhase A ∷ OfPhase B ∷ OfPhase C ∷ []) supplies no_corners first
    → (ins : List Pad) (in_ids : List NetId) → ins ≡ (p.pads).inputs → in_ids ≡ p.inputs
    → AddsOf p f ins in_ids first second
    → (outs : List Pad) (out_ids : List NetId) → outs ≡ (p.pads).outputs → out_ids ≡ p.outputs
    → AddsOf p f outs out_ids second third
    → Adds p f (label_points p) (supplies ++ (flat_map bit_labels (p.pads).inputs
    ++ flat_map bit_labels (p.pads).outputs)) no_corners third
all_labels p f first second third supplied ins in_ids a b inputs outs out_ids d e outputs =
    let in_points = points_in (rows_at (p.pads).inputs p.inputs) in
    let out_points = points_in (rows_at (p.pads).outputs p.outputs) in
    let in_names = flat_map bit_labels (p.pads).inputs in
    let out_names = flat_map bit_labels (p.pads).outputs in
    let of_inputs : Adds p f in_points in_names first second =
    subst (λ pads. AddsOf p f pads p.inputs first second) a
    (subst (λ ids. AddsOf p f ins ids first second) b inputs) in
    let of_outputs : Adds p f out_points out_names second third =
    subst (λ pads. AddsOf p f pads p.outputs second third) d
    (subst (λ ids. AddsOf p f outs ids second third) e outputs) in
    both_added p f (Power ∷ Ground ∷ OfPhase A ∷ OfPhase B ∷ OfPhase C ∷ []) (in_points ++ out_points) supplies
    (in_names ++ out_names) no_corners first third supplied
    (both_added p f in_points out_points in_names out_names first second third of_inputs of_outputs)
