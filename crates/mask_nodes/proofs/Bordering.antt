-- The channels of classes of pieces.
use Rattle.std.proofs.Common.{◌≡◌, ◌≢◌, ℕ, inl, inr, List, length}
use Rattle.std.proofs.Common.{get_or, refl, sym, ◌∙◌, ap, subst, subst₂, arith, Bool, true, false}
use Rattle.std.specs.Prelude.{ℤ, Some, slice_get}
use Rattle.std.proofs.lemmas.Bool.{cases_eq, cases_lt}
use Rattle.std.proofs.lemmas.Option.{same_Some, slice_get_within, get_or_from_slice_get}
use Rattle.mp_base.proofs.Entries.{get_from_contains, contains_from_get, all_at}
use Rattle.lam_geom.specs.declared.layer.Layer.{Layer}
use Rattle.lam_geom.specs.declared.layer.Layer.TheVariants.{ND, NP}
use Rattle.lam_geom.specs.declared.place.Point.{Point}
use Rattle.lam_geom.specs.declared.rect.Rect.{Rect}
use Rattle.lam_geom.specs.Chains.{Chain}
use Rattle.lam_geom.specs.Squares.{Square, Adjoin, IsIn, ShareEdge, covered}
use Rattle.mask_runs.specs.Laws.{OneColour}
use Rattle.mask_tiles.specs.declared.tile.Tile.{Tile}
use Rattle.mask_tiles.specs.declared.swept.Swept.{Swept}
use Rattle.mask_tiles.specs.Tiles.{InTile}
use Rattle.mask_tiles.specs.Touching.{TouchAt}
use Rattle.switch_net.specs.Classes.{IsInClass}
use Rattle.switch_net.specs.Conductors.{IsChannelSquare}
use Rattle.switch_net.specs.Drawn.{IsOfNode, IsOfChannel, IsEnd}
use Rattle.union_find.specs.declared.pair.Pair.{Pair}
use Rattle.mask_pieces.specs.declared.piece.Part.{Part}
use Rattle.mask_pieces.specs.declared.piece.Part.TheVariants.{Conductor}
use Rattle.mask_pieces.specs.declared.piece.Piece.{Piece}
use Rattle.mask_pieces.specs.declared.cut.Cut.{Cut}
use Rattle.piece_classes.specs.declared.numbering.Classes.{Classes}
use Rattle.mask_pieces.specs.Pieces.{no_piece, is_conductor, piece_of, corner_on, on, HasConductor, HasChannel}
use Rattle.mask_pieces.specs.Pieces.{conducts_at}
use Rattle.mask_pieces.specs.Masks.{AreMasks}
use Rattle.mask_pieces.specs.CutOf.{IsCutOf}
use Rattle.piece_classes.specs.Classed.{AreClassed, node_squares, channel_squares}
use Rattle.mask_nodes.specs.Ends.{pair_of, IsGivenBy, IsEndAt, IsEndOf}
use Rattle.mask_pieces.proofs.CutUp.{one_place, channel_layer}
use Rattle.piece_classes.proofs.Linked.{conductor_part, turned_edge}
use Rattle.piece_classes.proofs.LinksMade.{not_conductor}

-- a square of a piece is one of its tile
in_tile : (p : Piece) (n : ℕ) (t : Tile) (l : Layer) (s : Square) → p ≡ piece_of ND n t → IsIn (on l p.rect) s
    → InTile t s.x s.y
in_tile p n t l s e h =
    let i : IsIn (on l (piece_of ND n t).rect) s = subst (λ (z : Piece). IsIn (on l z.rect) s) e h in
    record { left = i.left; right = i.right; bottom = i.bottom; top = i.top }

conducting : (p : Part) → p ≢ Conductor → is_conductor p ≡ true → ⊥
conducting p n e = n (conductor_part p e)

plain_part : (p : Part) → is_conductor p ≡ false → p ≢ Conductor
plain_part p e f = let g : is_conductor p ≡ true = ap is_conductor f in cc

module _ (one : OneColour) (shapes : List Rect) (places : List Point) (contacts metal polysilicon diffusion : Swept)
    (cut : Cut) (nodes channels : Classes)
    (masks : AreMasks shapes places contacts metal polysilicon diffusion)
    (is_cut : IsCutOf metal polysilicon diffusion cut) (classed : AreClassed shapes cut.pieces nodes channels) where
  abbrev P : List Piece
  P = cut.pieces

  abbrev num : ℕ → ℕ
  num n = get_or cut.diffusion.numbers n 0

  abbrev covers : Layer → ℤ → ℤ → Type 0
  covers = covered shapes

  abbrev squares : List Square
  squares = channel_squares cut.pieces channels

  abbrev node_list : List Square
  node_list = node_squares cut.pieces nodes

  pub on_diffusion : (k : ℕ) (s : Square) (h : HasChannel P k s) → h.piece.rect.layer ≡ ND
  on_diffusion =
      channel_layer one shapes metal.tiles polysilicon.tiles diffusion.tiles P is_cut.pieces masks.metal_swept.tiles
      masks.metal_swept.whole masks.polysilicon_swept.tiles masks.polysilicon_swept.whole masks.diffusion_swept.tiles
      masks.diffusion_swept.whole

  -- the tile of a piece of diffusion
  pub tile_of : (k : ℕ) (p : Piece) → slice_get P k ≡ Some p → p.rect.layer ≡ ND
      → (t : Tile) × (slice_get diffusion.tiles p.tile ≡ Some t) × (p ≡ piece_of ND p.tile t)
  tile_of k p e l = is_cut.pieces.of_diffusion.each p (contains_from_get P k p e) l

  number_is : (k : ℕ) (p : Piece) (t : Tile) → slice_get P k ≡ Some p → slice_get diffusion.tiles p.tile ≡ Some t
      → p ≡ piece_of ND p.tile t → k ≡ num p.tile
  number_is k p t e at same =
      one_place P is_cut.pieces.ascending k (num p.tile) p (piece_of ND p.tile t) e
      (is_cut.diffusion_numbers.each p.tile t at) (ap (λ (x : Piece). corner_on x.rect.layer x.rect) same)

  part_at : (k : ℕ) (p : Piece) (b : Bool) → slice_get P k ≡ Some p → conducts_at P k ≡ b → is_conductor p.part ≡ b
  part_at k p b e h = sym (ap (λ (x : Piece). is_conductor x.part) (get_or_from_slice_get P k p no_piece e)) ∙ h

  at_part : (k : ℕ) (p : Piece) (b : Bool) → slice_get P k ≡ Some p → is_conductor p.part ≡ b → conducts_at P k ≡ b
  at_part k p b e h = ap (λ (x : Piece). is_conductor x.part) (get_or_from_slice_get P k p no_piece e) ∙ h

  module _ (c : ℕ) (r : Square) (at_r : slice_get squares c ≡ Some r) where
    -- the squares of the class are those of the channel
    of_class : (s : Square) → IsInClass (Adjoin (IsChannelSquare covers)) squares c s
        → Chain (Adjoin (IsChannelSquare covers)) r s
    of_class s i =
        subst (λ z. Chain (Adjoin (IsChannelSquare covers)) z s) (get_or_from_slice_get squares c r s at_r) i.1

    class_of : (s : Square) → Chain (Adjoin (IsChannelSquare covers)) r s
        → IsInClass (Adjoin (IsChannelSquare covers)) squares c s
    class_of s h = (
      slice_get_within squares c r at_r,
      subst (λ z. Chain (Adjoin (IsChannelSquare covers)) z s)
          (sym (get_or_from_slice_get squares c r s at_r)) h,
    )

    -- a piece of the channel
    pub of_channel : (i : ℕ) (s : Square) → HasChannel P i s → get_or channels.numbers i 0 ≡ c → IsOfChannel covers r s
    of_channel i s h e = record {
      is = classed.pieces_are.channels i s h;
      chain = of_class s
          (subst (λ n. IsInClass (Adjoin (IsChannelSquare covers)) squares n s) e (classed.channel_of i s h));
    }

    pub number_of : (i : ℕ) (s : Square) → HasChannel P i s → IsOfChannel covers r s → get_or channels.numbers i 0 ≡ c
    number_of i s h o = sym (classed.one_channel c i s (class_of s o.chain) h)

    -- ---- ends

    from_sides : (k a b : ℕ) (ta tb : Tile) → slice_get diffusion.tiles a ≡ Some ta
        → slice_get diffusion.tiles b ≡ Some tb → (s t : Square) → s.layer ≡ NP → t.layer ≡ ND → InTile ta s.x s.y
        → InTile tb t.x t.y → ShareEdge s t
        → IsEndAt P channels.numbers nodes.numbers (num a) (num b) (pair_of c k)
        → (t : Square) × IsEnd covers r t × IsOfNode covers node_list k t
    from_sides k a b ta tb at_a at_b s t ls lt in_a in_b beside e =
        let p : Piece = piece_of ND a ta in
        let q : Piece = piece_of ND b tb in
        let at_p : slice_get P (num a) ≡ Some p = is_cut.diffusion_numbers.each a ta at_a in
        let at_q : slice_get P (num b) ≡ Some q = is_cut.diffusion_numbers.each b tb at_b in
        let hs : HasChannel P (num a) s = record {
          piece = p;
          at = at_p;
          part = plain_part p.part (part_at (num a) p false at_p e.channel);
          is = record { same = sym ls; left = in_a.left; right = in_a.right; bottom = in_a.bottom; top = in_a.top };
        } in
        let ht : HasConductor P (num b) t = record {
          piece = q;
          at = at_q;
          part = conductor_part q.part (part_at (num b) q true at_q e.conductor);
          is = record { same = sym lt; left = in_b.left; right = in_b.right; bottom = in_b.bottom; top = in_b.top };
        } in (
          t,
          record {
            square = s;
            of = of_channel (num a) s hs (sym (ap (λ (x : Pair). x.a) e.same));
            diffusion = lt;
            conducts = classed.pieces_are.conducts (num b) t ht;
            beside = beside;
          },
          subst (λ n. IsOfNode covers node_list n t) (sym (ap (λ (x : Pair). x.b) e.same))
              (classed.node_of (num b) t ht),
        )

    pub end_from : (k : ℕ)
        → IsGivenBy (IsEndOf cut.diffusion.numbers P channels.numbers nodes.numbers) diffusion.pairs
        (length diffusion.pairs) (pair_of c k) → (t : Square) × IsEnd covers r t × IsOfNode covers node_list k t
    end_from k g =
        let touch = masks.diffusion_swept.pairs in
        let w : TouchAt diffusion.tiles g.pair.a g.pair.b =
        all_at (λ (p : Pair). TouchAt diffusion.tiles p.a p.b) diffusion.pairs g.at g.pair touch.each g.is in
        let u = w.touch in
        let square : Layer → ℤ → ℤ → Square = λ l x y. record { layer = l; x = x; y = y } in
        elim g.gives [
          | inl e ↦
              from_sides k g.pair.a g.pair.b w.first w.second w.at_first w.at_second (square NP u.x u.y)
              (square ND u.u u.v) refl refl u.in_first u.in_second u.beside e
          | inr e ↦
              from_sides k g.pair.b g.pair.a w.second w.first w.at_second w.at_first (square NP u.u u.v)
              (square ND u.x u.y) refl refl u.in_second u.in_first
              (turned_edge (square NP u.x u.y) (square ND u.u u.v) u.beside) e
        ]

    pub end_to : (k : ℕ) (t : Square) → IsEnd covers r t → IsOfNode covers node_list k t
        → IsGivenBy (IsEndOf cut.diffusion.numbers P channels.numbers nodes.numbers) diffusion.pairs
        (length diffusion.pairs) (pair_of c k)
    end_to k t e node =
        let s : Square = e.square in
        let hs = classed.pieces_are.channel s e.of.is in
        let ht = classed.pieces_are.conductor t e.conducts in
        let p : Piece = hs.1.piece in
        let q : Piece = ht.1.piece in
        let va = tile_of hs.0 p hs.1.at (on_diffusion hs.0 s hs.1) in
        let vb = tile_of ht.0 q ht.1.at (ht.1.is.same ∙ e.diffusion) in
        let na : hs.0 ≡ num p.tile = number_is hs.0 p va.0 hs.1.at va.1 va.2 in
        let nb : ht.0 ≡ num q.tile = number_is ht.0 q vb.0 ht.1.at vb.1 vb.2 in
        let in_a : InTile va.0 s.x s.y = in_tile p p.tile va.0 NP s va.2 hs.1.is in
        let in_b : InTile vb.0 t.x t.y = in_tile q q.tile vb.0 q.rect.layer t vb.2 ht.1.is in
        let gives : IsEndAt P channels.numbers nodes.numbers (num p.tile) (num q.tile) (pair_of c k) =
        subst₂ (λ i j. IsEndAt P channels.numbers nodes.numbers i j (pair_of c k)) na nb (record {
          channel = at_part hs.0 p false hs.1.at (not_conductor p.part hs.1.part);
          conductor = at_part ht.0 q true ht.1.at (ap is_conductor ht.1.part);
          same = λ i. record { a = (sym (number_of hs.0 s hs.1 e.of)) i; b = (classed.one_node k ht.0 t node ht.1) i };
        }) in
        let touch = masks.diffusion_swept.pairs in
        elim (cases_lt p.tile q.tile) [
          | inl l ↦
              let pair : Pair = pair_of p.tile q.tile in
              let w = get_from_contains diffusion.pairs pair (touch.all pair (record {
                order = l;
                first = va.0;
                second = vb.0;
                at_first = va.1;
                at_second = vb.1;
                touch = record {
                  x = s.x;
                  y = s.y;
                  u = t.x;
                  v = t.y;
                  in_first = in_a;
                  in_second = in_b;
                  beside = e.beside;
                };
              })) in
              record {
                at = w.0;
                before = slice_get_within diffusion.pairs w.0 pair w.1;
                pair = pair;
                is = w.1;
                gives = inl gives;
              }
          | inr l ↦ elim (cases_eq p.tile q.tile) [
            | inl f ↦
                absurd (hs.1.part
                (ap (λ (x : Piece). x.part)
                (same_Some p q (sym hs.1.at ∙ ap (slice_get P) (na ∙ ap num f ∙ sym nb) ∙ ht.1.at)) ∙ ht.1.part))
            | inr f ↦
                let pair : Pair = pair_of q.tile p.tile in
                let w = get_from_contains diffusion.pairs pair (touch.all pair (record {
                  order = omega arith;
                  first = vb.0;
                  second = va.0;
                  at_first = vb.1;
                  at_second = va.1;
                  touch = record {
                    x = t.x;
                    y = t.y;
                    u = s.x;
                    v = s.y;
                    in_first = in_b;
                    in_second = in_a;
                    beside = turned_edge s t e.beside;
                  };
                })) in
                record {
                  at = w.0;
                  before = slice_get_within diffusion.pairs w.0 pair w.1;
                  pair = pair;
                  is = w.1;
                  gives = inr gives;
                }
          ]
        ]
