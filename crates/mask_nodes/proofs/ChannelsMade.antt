-- Channels that are listed are those of the mask.
use Rattle.std.proofs.Common.{◌≡◌, ◌≢◌, ℕ, suc, ◌+◌, ◌<◌, ◌⊎◌, inl, inr, List, [], ◌∷◌, ◌++◌, length, map}
use Rattle.std.proofs.Common.{get_or, refl, sym, ◌∙◌, ap, subst, subst₂, arith, Bool, true, false}
use Rattle.std.specs.Prelude.{◌↔◌, ℤ, All, Contains, Option, Some, None, slice_get}
use Rattle.std.specs.Option.{option_map}
use Rattle.std.specs.List.{AllZip}
use Rattle.std.proofs.lemmas.List.{length-map, length-append}
use Rattle.std.proofs.lemmas.Option.{same_Some, slice_get_within, slice_get-get_or, get_or_from_slice_get}
use Rattle.std.proofs.lemmas.Option.{slice_get-map}
use Rattle.mp_base.proofs.Zips.{zip_from_places}
use Rattle.std.proofs.lemmas.Slice.Zip.{AllZip-long}
use Rattle.mp_base.proofs.Entries.{push_cases}
use Rattle.lam_geom.specs.declared.layer.Layer.{Layer}
use Rattle.lam_geom.specs.declared.layer.Layer.TheVariants.{NP, NI}
use Rattle.lam_geom.specs.declared.place.Point.{Point}
use Rattle.lam_geom.specs.declared.rect.Rect.{Rect}
use Rattle.lam_geom.specs.Squares.{Square, covered}
use Rattle.mask_runs.specs.Laws.{OneColour}
use Rattle.mask_tiles.specs.declared.tile.Tile.{Tile}
use Rattle.mask_tiles.specs.declared.swept.Swept.{Swept}
use Rattle.switch_net.specs.declared.network.Channel.{Channel}
use Rattle.switch_net.specs.Conductors.{ConductsOn, IsChannelSquare}
use Rattle.switch_net.specs.Drawn.{IsOfNode, IsOfChannel, IsKind, IsChannelAt}
use Rattle.union_find.specs.declared.pair.Pair.{Pair}
use Rattle.mask_pieces.specs.declared.piece.Part.{Part}
use Rattle.mask_pieces.specs.declared.piece.Part.TheVariants.{Conductor, Plain, Implanted}
use Rattle.mask_pieces.specs.declared.piece.Piece.{Piece}
use Rattle.mask_pieces.specs.declared.cut.Cut.{Cut}
use Rattle.piece_classes.specs.declared.numbering.Classes.{Classes}
use Rattle.mask_pieces.specs.Pieces.{no_piece, is_conductor, corner_on, HasConductor, HasChannel, first_channel}
use Rattle.mask_pieces.specs.Pieces.{conducts_at}
use Rattle.mask_pieces.specs.Columns.{corner_point, square_at, IsPieceOver, AreOver}
use Rattle.mask_pieces.specs.Masks.{asked, AreMasks}
use Rattle.mask_pieces.specs.CutOf.{IsCutOf}
use Rattle.piece_classes.specs.Classed.{AreClassed, node_squares, channel_squares}
use Rattle.mask_nodes.specs.Ends.{pair_of, IsGivenBy, IsEndOf, HasPart, or_zero, gate_of, HasGate, kind_of, IsListedAs}
use Rattle.mask_nodes.specs.Ends.{AreListed}
use Rattle.mask_pieces.proofs.Covering.{polysilicon_over}
use Rattle.mask_nodes.proofs.Bordering.{of_channel, number_of, end_from, end_to, tile_of, on_diffusion}

-- one of the later places
later_at : (xs : List Point) (tiles : List Tile) (n : ℕ) (t : Tile) → slice_get tiles n ≡ Some t
    → slice_get (xs ++ map corner_point tiles) (length xs + n) ≡ Some (corner_point t)
later_at [] tiles n t e =
    let k : 0 + n ≡ n = omega arith in
    ap (slice_get (map corner_point tiles)) k ∙ slice_get-map corner_point tiles n ∙ ap (option_map corner_point) e
later_at (x ∷ xs) tiles n t e =
    let k : suc (length xs) + n ≡ suc (length xs + n) = omega arith in
    ap (slice_get (x ∷ (xs ++ map corner_point tiles))) k ∙ later_at xs tiles n t e

module _ (one : OneColour) (shapes : List Rect) (places : List Point) (contacts metal polysilicon diffusion : Swept)
    (cut : Cut) (nodes channels : Classes)
    (masks : AreMasks shapes places contacts metal polysilicon diffusion)
    (is_cut : IsCutOf metal polysilicon diffusion cut) (classed : AreClassed shapes cut.pieces nodes channels) where
  abbrev P : List Piece
  P = cut.pieces

  abbrev covers : Layer → ℤ → ℤ → Type 0
  covers = covered shapes

  -- ---- gates

  over : AreOver shapes P NP (asked contacts.tiles places ++ map corner_point diffusion.tiles) cut.polysilicon.over
  over = polysilicon_over shapes P cut.polysilicon.numbers polysilicon.tiles
      (asked contacts.tiles places ++ map corner_point diffusion.tiles) polysilicon.found cut.polysilicon.over
      masks.polysilicon_swept.tiles is_cut.polysilicon_numbers
      masks.polysilicon_swept.found is_cut.polysilicon_over

  pub over_length : length cut.polysilicon.over ≡ length contacts.tiles + length places + length diffusion.tiles
  over_length =
      let a : length polysilicon.found ≡ length (asked contacts.tiles places ++ map corner_point diffusion.tiles) =
      AllZip-long _
      (asked contacts.tiles places ++ map corner_point diffusion.tiles) polysilicon.found
      masks.polysilicon_swept.found in
      let b : length cut.polysilicon.over ≡ length polysilicon.found =
      ap length is_cut.polysilicon_over ∙ length-map polysilicon.found _ in
      let d = length-append (asked contacts.tiles places) (map corner_point diffusion.tiles) in
      let e = length-append (map corner_point contacts.tiles) places in
      let f = length-map contacts.tiles corner_point in
      let g = length-map diffusion.tiles corner_point in
      omega arith

  record Gate (root : ℕ) : Type 0 where
    pub within : root < length P
    pub piece : ℕ
    pub is : slice_get cut.polysilicon.over (length contacts.tiles + length places + (get_or P root no_piece).tile)
        ≡ Some (Some piece)
    pub has : HasConductor P piece (first_channel P root)

  some_over : (p : Point) (o : Option ℕ) → ConductsOn covers NP p.x p.y → IsPieceOver shapes P NP p o
      → (k : ℕ) × (o ≡ Some k) × HasConductor P k (square_at NP p)
  some_over p (Some k) c h = (k, refl, h)
  some_over p None c h = absurd (h c)

  gate_at : (root : ℕ) → HasChannel P root (first_channel P root) → Gate root
  gate_at root h =
      let p : Piece = h.piece in
      let l : root < length P = slice_get_within P root p h.at in
      let same : get_or P root no_piece ≡ p = get_or_from_slice_get P root p no_piece h.at in
      let v = tile_of one shapes places contacts metal polysilicon diffusion cut nodes channels masks is_cut classed
      root p h.at
      (on_diffusion one shapes places contacts metal polysilicon diffusion cut nodes channels masks is_cut classed root
      (first_channel P root) h) in
      let corner : Point = corner_point v.0 in
      let tile : (get_or P root no_piece).tile ≡ p.tile = ap (λ (x : Piece). x.tile) same in
      let first : first_channel P root ≡ square_at NP corner = ap (λ (x : Piece). corner_on NP x.rect) (same ∙ v.2) in
      let many : length (asked contacts.tiles places) ≡ length contacts.tiles + length places =
      omega (arith, length-append (map corner_point contacts.tiles) places, length-map contacts.tiles corner_point) in
      let at : slice_get (asked contacts.tiles places ++ map corner_point diffusion.tiles)
      (length contacts.tiles + length places + (get_or P root no_piece).tile) ≡ Some corner =
      ap (slice_get (asked contacts.tiles places ++ map corner_point diffusion.tiles)) (omega arith)
      ∙ later_at (asked contacts.tiles places) diffusion.tiles p.tile v.0 v.1 in
      let w = over.each (length contacts.tiles + length places + (get_or P root no_piece).tile) corner at in
      let is : IsChannelSquare covers (square_at NP corner) =
      subst (IsChannelSquare covers) first (classed.pieces_are.channels root (first_channel P root) h) in
      let u = some_over corner w.0 is.1.gate w.2 in
      record {
        within = l;
        piece = u.0;
        is = w.1 ∙ ap (λ o. Some o) u.1;
        has = subst (HasConductor P u.0) (sym first) u.2;
      }

  pub has_gate : (first : ℕ) (slice : List (Option ℕ)) (pieces : List Piece) (shown roots : List ℕ)
      → first ≡ length contacts.tiles + length places → slice ≡ cut.polysilicon.over → pieces ≡ P
      → shown ≡ nodes.numbers → roots ≡ channels.roots
      → All (HasGate first slice pieces shown) roots
  has_gate first slice pieces shown roots ef es ep en er n d l =
      let root : ℕ = get_or roots n d in
      let h : HasChannel P root (first_channel P root) =
      subst (λ xs. (n : ℕ) (d : ℕ) → n < length xs → HasChannel P (get_or xs n d) (first_channel P (get_or xs n d)))
      (sym er) classed.roots_are n d l in
      let g = gate_at root h in
      let many = classed.as_many in
      let k = slice_get_within P g.piece g.has.piece g.has.at in
      let a : HasGate (length contacts.tiles + length places) cut.polysilicon.over P nodes.numbers root = record {
        within = g.within;
        over_within =
            slice_get_within cut.polysilicon.over
            (length contacts.tiles + length places + (get_or P root no_piece).tile) (Some g.piece) g.is;
        piece = g.piece;
        is = get_or_from_slice_get cut.polysilicon.over
            (length contacts.tiles + length places + (get_or P root no_piece).tile) (Some g.piece) None g.is;
        has_node = omega arith;
      } in
      let b : HasGate first cut.polysilicon.over P nodes.numbers root =
      subst (λ z. HasGate z cut.polysilicon.over P nodes.numbers root) (sym ef) a in
      let c : HasGate first slice P nodes.numbers root = subst (λ z. HasGate first z P nodes.numbers root) (sym es) b in
      subst₂ (λ z w. HasGate first slice z w root) (sym ep) (sym en) c

  -- the node of the gate
  gate_node : (root : ℕ) → HasChannel P root (first_channel P root)
      → IsOfNode covers (node_squares P nodes)
      (gate_of (length contacts.tiles + length places) cut.polysilicon.over P nodes.numbers root) (first_channel P root)
  gate_node root h =
      let g = gate_at root h in
      let e : get_or cut.polysilicon.over (length contacts.tiles + length places + (get_or P root no_piece).tile) None
      ≡ Some g.piece =
      get_or_from_slice_get cut.polysilicon.over
      (length contacts.tiles + length places + (get_or P root no_piece).tile) (Some g.piece) None g.is in
      subst (λ o. IsOfNode covers (node_squares P nodes) (get_or nodes.numbers (or_zero o) 0) (first_channel P root))
      (sym e) (classed.node_of g.piece (first_channel P root) g.has)

  -- ---- kinds

  number_within : (k : ℕ) (s : Square) → HasChannel P k s → get_or channels.numbers k 0 < length channels.roots
  number_within k s h = let l = (classed.channel_of k s h).0 in let m = length-map channels.roots (first_channel P) in
      omega arith

  module _ (plain implanted : List Bool)
      (marked : (c : ℕ) → c < length channels.roots
      → (get_or plain c false ≡ true) ↔ HasPart P channels.numbers Plain (length P) c)
      (marked_too : (c : ℕ) → c < length channels.roots
      → (get_or implanted c false ≡ true) ↔ HasPart P channels.numbers Implanted (length P) c) (c : ℕ) (r : Square)
      (at_r : slice_get (channel_squares P channels) c ≡ Some r) where
    within : c < length channels.roots
    within = let l = slice_get_within (channel_squares P channels) c r at_r in
        let m = length-map channels.roots (first_channel P) in omega arith

    number_is : (s : Square) (o : IsOfChannel covers r s) (k : ℕ) (h : HasChannel P k s)
        → get_or channels.numbers k 0 ≡ c
    number_is s o k h =
        number_of one shapes places contacts metal polysilicon diffusion cut nodes channels masks is_cut classed c r
        at_r k s h o

    data PartOf (k : ℕ) (s : Square) (h : HasChannel P k s) : Type 0 where
      plain_one : h.piece.part ≡ Plain → PartOf k s h
      implanted_one : h.piece.part ≡ Implanted → PartOf k s h

    part_of_piece : (p : Part) → p ≢ Conductor → (p ≡ Plain) ⊎ (p ≡ Implanted)
    part_of_piece Conductor n = absurd (n refl)
    part_of_piece Plain n = inl refl
    part_of_piece Implanted n = inr refl

    has_part : (part : Part) (k : ℕ) (s : Square) (h : HasChannel P k s) → h.piece.part ≡ part → IsOfChannel covers r s
        → HasPart P channels.numbers part (length P) c
    has_part part k s h e o =
        record {
          k = k;
          before = slice_get_within P k h.piece h.at;
          piece = h.piece;
          at = h.at;
          is = e;
          number = number_is s o k h;
        }

    all_plain : get_or implanted c false ≡ false → (s : Square) → IsOfChannel covers r s → ¬ covers NI s.x s.y
    all_plain f s o =
        let w = classed.pieces_are.channel s o.is in
        elim (part_of_piece w.1.piece.part w.1.part) [
          | inl e ↦ classed.pieces_are.plain w.0 s w.1 e
          | inr e ↦ let t = (marked_too c within).1 (has_part Implanted w.0 s w.1 e o) in absurd (cc)
        ]

    all_implanted : get_or plain c false ≡ false → (s : Square) → IsOfChannel covers r s → covers NI s.x s.y
    all_implanted f s o =
        let w = classed.pieces_are.channel s o.is in
        elim (part_of_piece w.1.piece.part w.1.part) [
          | inl e ↦ let t = (marked c within).1 (has_part Plain w.0 s w.1 e o) in absurd (cc)
          | inr e ↦ classed.pieces_are.implanted w.0 s w.1 e
        ]

    -- a square of a piece of the channel
    part_square : (part : Part) → is_conductor part ≡ false → (w : HasPart P channels.numbers part (length P) c)
        → (h : HasChannel P w.k (first_channel P w.k)) × (h.piece.part ≡ part)
        × IsOfChannel covers r (first_channel P w.k)
    part_square part n w =
        let no : conducts_at P w.k ≡ false =
        ap (λ (x : Piece). is_conductor x.part) (get_or_from_slice_get P w.k w.piece no_piece w.at)
        ∙ ap is_conductor w.is ∙ n in
        let h = classed.has_channel w.k w.before no in (
          h,
          ap (λ (x : Piece). x.part) (same_Some h.piece w.piece (sym h.at ∙ w.at))
              ∙ w.is,
          of_channel one shapes places contacts metal polysilicon diffusion cut nodes channels masks is_cut classed c r
              at_r w.k (first_channel P w.k) h w.number,
        )

    pub kind_is : (p i : Bool) → get_or plain c false ≡ p → get_or implanted c false ≡ i → IsKind covers r (kind_of p i)
    kind_is true false ep ei = all_plain ei
    kind_is false false ep ei = all_plain ei
    kind_is false true ep ei = all_implanted ep
    kind_is true true ep ei =
        let a = (marked_too c within).0 ei in
        let b = (marked c within).0 ep in
        let u = part_square Implanted refl a in
        let v = part_square Plain refl b in (
          (first_channel P a.k, u.2, classed.pieces_are.implanted a.k (first_channel P a.k) u.0 u.1),
          (first_channel P b.k, v.2, classed.pieces_are.plain b.k (first_channel P b.k) v.0 v.1),
        )

  -- ---- all

  pub channels_are : (gates : List ℕ) (ends : List Pair) (plain implanted : List Bool) (listed : List Channel)
      → gates ≡ map
      (gate_of (length contacts.tiles + length places) cut.polysilicon.over P nodes.numbers) channels.roots
      → ((x : Pair)
      → Contains ends x
      ↔ IsGivenBy (IsEndOf cut.diffusion.numbers P channels.numbers nodes.numbers) diffusion.pairs
      (length diffusion.pairs) x)
      → ((c : ℕ) → c < length channels.roots
      → (get_or plain c false ≡ true) ↔ HasPart P channels.numbers Plain (length P) c)
      → ((c : ℕ) → c < length channels.roots
      → (get_or implanted c false ≡ true) ↔ HasPart P channels.numbers Implanted (length P) c)
      → AreListed gates ends plain implanted (length gates) listed
      → AllZip (IsChannelAt covers (node_squares P nodes)) (channel_squares P channels) listed
  channels_are gates ends plain implanted listed eg has marked marked_too l =
      let many : length gates ≡ length channels.roots =
      ap length eg
      ∙ length-map channels.roots
      (gate_of (length contacts.tiles + length places) cut.polysilicon.over P nodes.numbers) in
      zip_from_places (IsChannelAt covers (node_squares P nodes)) (channel_squares P channels) listed
      (l.as_many ∙ many ∙ sym (length-map channels.roots (first_channel P))) at
    where
      at : (c : ℕ) (r : Square) (ch : Channel) → slice_get (channel_squares P channels) c ≡ Some r
          → slice_get listed c ≡ Some ch → IsChannelAt covers (node_squares P nodes) r ch
      at c r ch er ech =
          let w : IsListedAs gates ends plain implanted c ch = l.each c ch ech in
          let lc : c < length channels.roots = within plain implanted marked marked_too c r er in
          let root : ℕ = get_or channels.roots c 0 in
          let at_root : slice_get channels.roots c ≡ Some root = slice_get-get_or channels.roots c 0 lc in
          let first : first_channel P root ≡ r =
          same_Some (first_channel P root) r
          (sym (slice_get-map (first_channel P) channels.roots c ∙ ap (option_map (first_channel P)) at_root) ∙ er) in
          let h : HasChannel P root (first_channel P root) = classed.roots_are c 0 lc in
          let f : ℕ → ℕ = gate_of (length contacts.tiles + length places) cut.polysilicon.over P nodes.numbers in
          let g : ch.gate ≡ f root =
          w.gate ∙ ap (λ xs. get_or xs c 0) eg
          ∙ get_or_from_slice_get (map f channels.roots) c (f root) 0
          (slice_get-map f channels.roots c ∙ ap (option_map f) at_root) in
          record {
            gate = subst₂ (λ n s. IsOfNode covers (node_squares P nodes) n s) (sym g) first (gate_node root h);
            ascending = w.ascending;
            ends = λ k. (
              λ m. end_from one shapes places contacts metal polysilicon diffusion cut nodes channels masks is_cut
                  classed c r er k ((has (pair_of c k)).0 ((w.ends_are k).0 m)),
              λ t. (w.ends_are k).1
                  ((has (pair_of c k)).1
                  (end_to one shapes places contacts metal polysilicon diffusion cut nodes channels masks is_cut
                  classed c r er k t.0 t.1 t.2)),
            );
            kind = subst (IsKind covers r) (sym w.kind)
                (kind_is plain implanted marked marked_too c r er (get_or plain c false)
                (get_or implanted c false) refl refl);
          }

  -- the same from slices of these
  pub channels_then : (first : ℕ) (so : List (Option ℕ)) (sp : List Piece) (sn sc sr sd : List ℕ) (st : List Pair)
      (gates sg : List ℕ) (ends se : List Pair) (plain spl implanted sim : List Bool) (listed : List Channel)
      → first ≡ length contacts.tiles + length places → so ≡ cut.polysilicon.over → sp ≡ P → sn ≡ nodes.numbers
      → sc ≡ channels.numbers → sr ≡ channels.roots → sd ≡ cut.diffusion.numbers → st ≡ diffusion.pairs
      → sg ≡ gates → se ≡ ends → spl ≡ plain → sim ≡ implanted → gates ≡ map (gate_of first so sp sn) sr
      → ((x : Pair) → Contains ends x ↔ IsGivenBy (IsEndOf sd sp sc sn) st (length st) x)
      → ((c : ℕ) → c < length sr → (get_or plain c false ≡ true) ↔ HasPart sp sc Plain (length sp) c)
      → ((c : ℕ) → c < length sr → (get_or implanted c false ≡ true) ↔ HasPart sp sc Implanted (length sp) c)
      → AreListed sg se spl sim (length sg) listed
      → AllZip (IsChannelAt covers (node_squares P nodes)) (channel_squares P channels) listed
  channels_then first so sp sn sc sr sd st gates sg ends se plain spl implanted sim listed ef eo ep en ec er ed et eg
      ee epl eim g e m n l =
      channels_are gates ends plain implanted listed g3 e3 (marks Plain plain m) (marks Implanted implanted n)
      (subst₂ (λ a b. AreListed gates a b implanted (length gates) listed) ee epl
      (subst₂ (λ a b. AreListed a se spl b (length a) listed) eg eim l))
    where
      g1 : gates ≡ map (gate_of first cut.polysilicon.over P sn) sr
      g1 = subst₂ (λ a b. gates ≡ map (gate_of first a b sn) sr) eo ep g

      g2 : gates ≡ map (gate_of first cut.polysilicon.over P nodes.numbers) channels.roots
      g2 = subst₂ (λ a b. gates ≡ map (gate_of first cut.polysilicon.over P a) b) en er g1

      g3 : gates
          ≡ map (gate_of (length contacts.tiles + length places) cut.polysilicon.over P nodes.numbers) channels.roots
      g3 = subst (λ a. gates ≡ map (gate_of a cut.polysilicon.over P nodes.numbers) channels.roots) ef g2

      e1 : (x : Pair) → Contains ends x ↔ IsGivenBy (IsEndOf cut.diffusion.numbers P sc sn) st (length st) x
      e1 = subst₂ (λ a b. (x : Pair) → Contains ends x ↔ IsGivenBy (IsEndOf a b sc sn) st (length st) x) ed ep e

      e2 : (x : Pair)
          → Contains ends x
          ↔ IsGivenBy (IsEndOf cut.diffusion.numbers P channels.numbers nodes.numbers) st (length st) x
      e2 = subst₂
          (λ a b. (x : Pair) → Contains ends x ↔ IsGivenBy (IsEndOf cut.diffusion.numbers P a b) st (length st) x) ec
          en e1

      e3 : (x : Pair)
          → Contains ends x
          ↔ IsGivenBy (IsEndOf cut.diffusion.numbers P channels.numbers nodes.numbers) diffusion.pairs
          (length diffusion.pairs) x
      e3 = subst
          (λ a. (x : Pair)
          → Contains ends x
          ↔ IsGivenBy (IsEndOf cut.diffusion.numbers P channels.numbers nodes.numbers) a (length a) x) et e2

      marks : (part : Part) (marks : List Bool)
          → ((c : ℕ) → c < length sr → (get_or marks c false ≡ true) ↔ HasPart sp sc part (length sp) c)
          → (c : ℕ) → c < length channels.roots
          → (get_or marks c false ≡ true) ↔ HasPart P channels.numbers part (length P) c
      marks part ms h =
          subst (λ a. (c : ℕ) → c < length a
          → (get_or ms c false ≡ true) ↔ HasPart P channels.numbers part (length P) c) er
          (subst₂ (λ a b. (c : ℕ) → c < length sr → (get_or ms c false ≡ true) ↔ HasPart a b part (length a) c) ep ec h)

  -- a piece of a channel has its number
  pub number_inside : (part : Part) → is_conductor part ≡ false → (sp : List Piece) (sc sr : List ℕ) → sp ≡ P
      → sc ≡ channels.numbers → sr ≡ channels.roots → (k : ℕ) (p : Piece) → slice_get sp k ≡ Some p → p.part ≡ part
      → get_or sc k 0 < length sr
  number_inside part n sp sc sr ep ec er k p e is =
      let at : slice_get P k ≡ Some p = ap (λ xs. slice_get xs k) (sym ep) ∙ e in
      let no : conducts_at P k ≡ false =
      ap (λ (x : Piece). is_conductor x.part) (get_or_from_slice_get P k p no_piece at) ∙ ap is_conductor is ∙ n in
      let l : get_or channels.numbers k 0 < length channels.roots =
      number_within k (first_channel P k) (classed.has_channel k (slice_get_within P k p at) no) in
      subst₂ (λ a b. get_or a k 0 < length b) (sym ec) (sym er) l

-- ---- lists of channels

pub listed_none : (gates : List ℕ) (ends : List Pair) (plain implanted : List Bool)
    → AreListed gates ends plain implanted 0 []
listed_none gates ends plain implanted =
    let none : List Channel = [] in
    record {
      as_many = refl;
      each = λ c ch e. let l : c < length none = slice_get_within none c ch e in
          absurd (omega arith);
    }

pub listed_more : (gates : List ℕ) (ends : List Pair) (plain implanted : List Bool) (place : ℕ)
    (channels : List Channel) (ch : Channel) → AreListed gates ends plain implanted place channels
    → IsListedAs gates ends plain implanted place ch
    → AreListed gates ends plain implanted (place + 1) (channels ++ ch ∷ [])
listed_more gates ends plain implanted place channels ch h w =
    let many = h.as_many in
    record {
      as_many = omega (arith, length-append channels (ch ∷ []));
      each = λ c x e. elim (push_cases channels ch c x e) [
        | inl u ↦ h.each c x u.1
        | inr u ↦ subst₂ (IsListedAs gates ends plain implanted) (sym h.as_many ∙ sym u.0) u.1 w
      ];
    }
