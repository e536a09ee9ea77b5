-- The links of tiles that touch and of contacts are those that conductors and channels ask for.
use Rattle.std.proofs.Common.{◌≡◌, ◌≢◌, ℕ, ◌<◌, ◌⊎◌, inl, inr, List, length, get_or, refl, sym, ◌∙◌, ap}
use Rattle.std.proofs.Common.{subst₂, arith, true}
use Rattle.std.specs.Prelude.{ℤ, AllPairs, Contains, Some, slice_get}
use Rattle.std.proofs.lemmas.Bool.{cases_eq, cases_lt}
use Rattle.std.proofs.lemmas.Int.{ints}
use Rattle.std.proofs.lemmas.Option.{same_Some, slice_get_within, get_or_from_slice_get}
use Rattle.mp_base.proofs.Entries.{get_from_contains, all_at}
use Rattle.lam_geom.specs.declared.layer.Layer.{Layer}
use Rattle.lam_geom.specs.declared.layer.Layer.TheVariants.{ND, NP, NC, NM, NI, NB, NG}
use Rattle.lam_geom.specs.declared.rect.Rect.{Rect}
use Rattle.lam_geom.specs.Chains.{Chain}
use Rattle.lam_geom.specs.Squares.{Square, Adjoin, IsIn, ShareEdge, covered, RectanglesAreJoined}
use Rattle.lam_geom.proofs.Chains.{join_chains, one_link, turn_chain}
use Rattle.mask_runs.specs.declared.mask.Mask.{Mask}
use Rattle.mask_tiles.specs.declared.tile.Tile.{Tile}
use Rattle.mask_tiles.specs.Tiles.{IsTile, InTile}
use Rattle.mask_tiles.specs.Touching.{Beside, Touch, TouchAt, AreTouching}
use Rattle.switch_net.specs.Conductors.{ConductsOn, Contact, Joined, IsChannelSquare}
use Rattle.switch_net.specs.Conductors.Joined.{beside, contact}
use Rattle.union_find.specs.declared.pair.Pair.{Pair}
use Rattle.union_find.specs.Leasts.{Paired}
use Rattle.union_find.proofs.Chains.{turn_pair}
use Rattle.mask_pieces.specs.declared.piece.Part.{Part}
use Rattle.mask_pieces.specs.declared.piece.Part.TheVariants.{Conductor, Plain, Implanted}
use Rattle.mask_pieces.specs.declared.piece.Piece.{Piece}
use Rattle.mask_pieces.specs.Pieces.{no_piece, is_conductor, piece_of, corner_on, on, IsBefore}
use Rattle.mask_pieces.specs.Pieces.{AreNumbersOf, HasConductor, HasChannel, ArePieces}
use Rattle.piece_classes.specs.Linking.{IsTouchLink, AreTwo}
use Rattle.piece_classes.specs.Linking.AreTwo.{upper, outer, lower}
use Rattle.mask_pieces.proofs.CutUp.{one_place, Tiled}
use Rattle.piece_classes.proofs.Owning.{same_chain, conductor_one, channel_one}

-- ---- tiles that touch

-- two pieces of tiles that touch: on any layer, these squares of theirs share an edge
pub record Edge (p q : Piece) : Type 0 where
  pub s : Square
  pub t : Square
  pub in_first : (l : Layer) → IsIn (on l p.rect) (record s { layer = l })
  pub in_second : (l : Layer) → IsIn (on l q.rect) (record t { layer = l })
  pub beside : ShareEdge s t
  pub same : p.rect.layer ≡ q.rect.layer

pub turned_edge : (s t : Square) → ShareEdge s t → ShareEdge t s
turned_edge s t (inl a) = inl (sym a.0, elim a.1 [ inl e ↦ inr e | inr e ↦ inl e ])
turned_edge s t (inr a) = inr (sym a.0, elim a.1 [ inl e ↦ inr e | inr e ↦ inl e ])

edge_turned : (p q : Piece) → Edge p q → Edge q p
edge_turned p q e =
    record {
      s = e.t;
      t = e.s;
      in_first = e.in_second;
      in_second = e.in_first;
      beside = turned_edge e.s e.t e.beside;
      same = sym e.same;
    }

-- a link between pieces that touch
pub record EdgeLink (pieces : List Piece) (i j : ℕ) : Type 0 where
  pub first : Piece
  pub second : Piece
  pub at_first : slice_get pieces i ≡ Some first
  pub at_second : slice_get pieces j ≡ Some second
  pub alike : is_conductor first.part ≡ is_conductor second.part
  pub edge : Edge first second

pub link_turned : (pieces : List Piece) (i j : ℕ) → EdgeLink pieces i j → EdgeLink pieces j i
link_turned pieces i j e =
    record {
      first = e.second;
      second = e.first;
      at_first = e.at_second;
      at_second = e.at_first;
      alike = sym e.alike;
      edge = edge_turned e.first e.second e.edge;
    }

pub conductor_part : (p : Part) → is_conductor p ≡ true → p ≡ Conductor
conductor_part Conductor e = refl
conductor_part Plain e = absurd (cc)
conductor_part Implanted e = absurd (cc)

module _ (layer : Layer) (tiles : List Tile) (touching : List Pair) (numbers : List ℕ) (pieces : List Piece)
    (are : AreTouching tiles touching) (num : AreNumbersOf layer tiles pieces numbers) where
  -- a link of two tiles that touch is one of pieces that touch
  pub edge_link : (l : Pair) → IsTouchLink touching numbers pieces (length touching) l → EdgeLink pieces l.a l.b
  edge_link l t =
      let w : TouchAt tiles t.pair.a t.pair.b =
      all_at (λ (p : Pair). TouchAt tiles p.a p.b) touching t.at t.pair are.each t.is in
      let p : Piece = piece_of layer t.pair.a w.first in
      let q : Piece = piece_of layer t.pair.b w.second in
      let at_p : slice_get pieces l.a ≡ Some p = ap (slice_get pieces) t.first ∙ num.each t.pair.a w.first w.at_first in
      let at_q : slice_get pieces l.b ≡ Some q =
      ap (slice_get pieces) t.second ∙ num.each t.pair.b w.second w.at_second in
      let u = w.touch in
      record {
        first = p;
        second = q;
        at_first = at_p;
        at_second = at_q;
        alike = sym (ap (λ (x : Piece). is_conductor x.part) (get_or_from_slice_get pieces l.a p no_piece at_p))
            ∙ t.alike ∙ ap (λ (x : Piece). is_conductor x.part) (get_or_from_slice_get pieces l.b q no_piece at_q);
        edge = record {
          s = record { layer = layer; x = u.x; y = u.y };
          t = record { layer = layer; x = u.u; y = u.v };
          in_first =
              λ l. record {
                same = refl;
                left = u.in_first.left;
                right = u.in_first.right;
                bottom = u.in_first.bottom;
                top = u.in_first.top;
              };
          in_second =
              λ l. record {
                same = refl;
                left = u.in_second.left;
                right = u.in_second.right;
                bottom = u.in_second.bottom;
                top = u.in_second.top;
              };
          beside = u.beside;
          same = refl;
        };
      }

  module _ (shapes : List Rect) (mask : Mask) (up : AllPairs IsBefore pieces) (links : List Pair)
      (has : (l : Pair) → IsTouchLink touching numbers pieces (length touching) l → Contains links l) where
    number_is : (i : ℕ) (p : Piece) (w : Tiled shapes layer mask tiles p) → slice_get pieces i ≡ Some p
        → i ≡ get_or numbers p.tile 0
    number_is i p w e =
        let at = num.each p.tile w.tile w.at in
        one_place pieces up i (get_or numbers p.tile 0) p (piece_of layer p.tile w.tile) e at
        (ap (λ (x : Piece). corner_on x.rect.layer x.rect) w.same)

    ordered : (i j : ℕ) (p q : Piece) (v : Tiled shapes layer mask tiles p) (w : Tiled shapes layer mask tiles q)
        → slice_get pieces i ≡ Some p → slice_get pieces j ≡ Some q → is_conductor p.part ≡ is_conductor q.part
        → p.tile < q.tile → Touch v.tile w.tile → Chain (Paired links) i j
    ordered i j p q v w ei ej alike l t =
        let pair : Pair = record { a = p.tile; b = q.tile } in
        let c = get_from_contains touching pair
        (are.all pair
        (record { order = l; first = v.tile; second = w.tile; at_first = v.at; at_second = w.at; touch = t })) in
        let ni = number_is i p v ei in
        let nj = number_is j q w ej in
        let m : Pair = record { a = i; b = j } in
        let pi : get_or pieces i no_piece ≡ p = get_or_from_slice_get pieces i p no_piece ei in
        let pj : get_or pieces j no_piece ≡ q = get_or_from_slice_get pieces j q no_piece ej in
        let k = has m (record {
          at = c.0;
          before = slice_get_within touching c.0 pair c.1;
          pair = pair;
          is = c.1;
          first = ni;
          second = nj;
          alike = ap (λ (x : Piece). is_conductor x.part) pi ∙ alike ∙ sym (ap (λ (x : Piece). is_conductor x.part) pj);
        }) in
        one_link (record { pair = m; among = k; ends = inl (refl, refl) })

    -- pieces with squares that share an edge are linked
    pub edge_chain : (i j : ℕ) (p q : Piece) (v : Tiled shapes layer mask tiles p)
        (w : Tiled shapes layer mask tiles q) → slice_get pieces i ≡ Some p → slice_get pieces j ≡ Some q
        → is_conductor p.part ≡ is_conductor q.part
        → (x y u z : ℤ) → InTile v.tile x y → InTile w.tile u z → Beside x y u z → Chain (Paired links) i j
    edge_chain i j p q v w ei ej alike x y u z iv iw b = elim (cases_eq p.tile q.tile) [
      | inl e ↦ same_chain i j (number_is i p v ei ∙ ap (λ n. get_or numbers n 0) e ∙ sym (number_is j q w ej))
      | inr n ↦ elim (cases_lt p.tile q.tile) [
        | inl l ↦
            ordered i j p q v w ei ej alike l
            (record { x = x; y = y; u = u; v = z; in_first = iv; in_second = iw; beside = b })
        | inr l ↦
            turn_chain (turn_pair links)
            (ordered j i q p w v ej ei (sym alike) (omega arith)
            (record { x = u; y = z; u = x; v = y; in_first = iw; in_second = iv; beside = turned x y u z b }))
      ]
    ]
      where
        turned : (x y u z : ℤ) → Beside x y u z → Beside u z x y
        turned x y u z (inl a) = inl (sym a.0, elim a.1 [ inl e ↦ inr e | inr e ↦ inl e ])
        turned x y u z (inr a) = inr (sym a.0, elim a.1 [ inl e ↦ inr e | inr e ↦ inl e ])

-- ---- along links of pieces that touch

module _ (joined : RectanglesAreJoined) (shapes : List Rect) (pieces : List Piece) (are : ArePieces shapes pieces) where
  pub conductors_over_edge : (i j : ℕ) (s : Square) → EdgeLink pieces i j → HasConductor pieces i s
      → (t : Square) × HasConductor pieces j t × Chain (Joined (covered shapes)) s t
  conductors_over_edge i j s e h =
      let f : h.piece ≡ e.first = same_Some h.piece e.first (sym h.at ∙ e.at_first) in
      let part : e.first.part ≡ Conductor = ap (λ (p : Piece). p.part) (sym f) ∙ h.part in
      let other : e.second.part ≡ Conductor = conductor_part e.second.part (sym e.alike ∙ ap is_conductor part) in
      let u : Square = record { layer = e.first.rect.layer; x = e.edge.s.x; y = e.edge.s.y } in
      let t : Square = record { layer = e.second.rect.layer; x = e.edge.t.x; y = e.edge.t.y } in
      let hu : HasConductor pieces i u =
      record { piece = e.first; at = e.at_first; part = part; is = e.edge.in_first e.first.rect.layer } in
      let ht : HasConductor pieces j t =
      record { piece = e.second; at = e.at_second; part = other; is = e.edge.in_second e.second.rect.layer } in (
        t,
        ht,
        join_chains (conductor_one joined shapes pieces are i s u h hu)
            (one_link
            (beside (record {
              from = are.conducts i u hu;
              to = are.conducts j t ht;
              same = e.edge.same;
              beside = e.edge.beside;
            }))),
      )

  pub channels_over_edge : (i j : ℕ) (s : Square) → EdgeLink pieces i j → HasChannel pieces i s
      → (t : Square) × HasChannel pieces j t × Chain (Adjoin (IsChannelSquare (covered shapes))) s t
  channels_over_edge i j s e h =
      let f : h.piece ≡ e.first = same_Some h.piece e.first (sym h.at ∙ e.at_first) in
      let part : e.first.part ≢ Conductor = λ g. h.part (ap (λ (p : Piece). p.part) f ∙ g) in
      let other : e.second.part ≢ Conductor = λ g. part (conductor_part e.first.part (e.alike ∙ ap is_conductor g)) in
      let u : Square = record { layer = NP; x = e.edge.s.x; y = e.edge.s.y } in
      let t : Square = record { layer = NP; x = e.edge.t.x; y = e.edge.t.y } in
      let hu : HasChannel pieces i u =
      record { piece = e.first; at = e.at_first; part = part; is = e.edge.in_first NP } in
      let ht : HasChannel pieces j t =
      record { piece = e.second; at = e.at_second; part = other; is = e.edge.in_second NP } in (
        t,
        ht,
        join_chains (channel_one joined shapes pieces are i s u h hu)
            (one_link
            (record { from = are.channels i u hu; to = are.channels j t ht; same = refl; beside = e.edge.beside })),
      )

  -- ---- contacts

  -- two pieces with conductors that a contact joins
  pub record Through (i j : ℕ) : Type 0 where
    pub s : Square
    pub t : Square
    pub in_first : HasConductor pieces i s
    pub in_second : HasConductor pieces j t
    pub contact : Contact (covered shapes) s t

  contact_turned : (s t : Square) → Contact (covered shapes) s t → Contact (covered shapes) t s
  contact_turned s t c = record {
    from = c.to;
    to = c.from;
    x = sym c.x;
    y = sym c.y;
    by = elim c.by [
      | inl e ↦ inl (subst₂ (λ x y. covered shapes NC x y) c.x c.y e)
      | inr e ↦ inr (subst₂ (λ x y. covered shapes NB x y) c.x c.y e.0, e.2, e.1)
    ];
  }

  pub through_turned : (i j : ℕ) → Through i j → Through j i
  through_turned i j w =
      record {
        s = w.t;
        t = w.s;
        in_first = w.in_second;
        in_second = w.in_first;
        contact = contact_turned w.s w.t w.contact;
      }

  pub conductors_through : (i j : ℕ) (s : Square) → Through i j → HasConductor pieces i s
      → (t : Square) × HasConductor pieces j t × Chain (Joined (covered shapes)) s t
  conductors_through i j s w h = (
    w.t,
    w.in_second,
    join_chains (conductor_one joined shapes pieces are i s w.s h w.in_first)
        (one_link (contact w.contact)),
  )

  pub no_channel_through : (i j : ℕ) (s : Square) → Through i j → HasChannel pieces i s → ⊥
  no_channel_through i j s w h =
      h.part (ap (λ (p : Piece). p.part) (same_Some h.piece w.in_first.piece (sym h.at ∙ w.in_first.at))
      ∙ w.in_first.part)

pub in_corner : (shapes : List Rect) (mask : Mask) (t : Tile) → IsTile shapes mask t → InTile t t.x0 t.y0
in_corner shapes mask t h =
    let a = h.stack.some in
    let b = (h.stack.each t.y0 (omega (arith, ints)) a).some in
    record { left = omega (arith, ints); right = b; bottom = omega (arith, ints); top = a }

-- where two conduct, they are one layer or two
pub conducting_layer : (shapes : List Rect) (l : Layer) (x y : ℤ) → ConductsOn (covered shapes) l x y
    → (l ≡ NM) ⊎ (l ≡ NP) ⊎ (l ≡ ND)
conducting_layer shapes NM x y c = inl refl
conducting_layer shapes NP x y c = inr (inl refl)
conducting_layer shapes ND x y c = inr (inr refl)
conducting_layer shapes NC x y c = absurd c
conducting_layer shapes NI x y c = absurd c
conducting_layer shapes NB x y c = absurd c
conducting_layer shapes NG x y c = absurd c

pub two_layers : (l m : Layer) → (l ≡ NM) ⊎ (l ≡ NP) ⊎ (l ≡ ND) → (m ≡ NM) ⊎ (m ≡ NP) ⊎ (m ≡ ND)
    → (l ≡ m) ⊎ AreTwo l m ⊎ AreTwo m l
two_layers l m (inl e) (inl f) = inl (e ∙ sym f)
two_layers l m (inl e) (inr (inl f)) = inr (inl (subst₂ AreTwo (sym e) (sym f) upper))
two_layers l m (inl e) (inr (inr f)) = inr (inl (subst₂ AreTwo (sym e) (sym f) outer))
two_layers l m (inr (inl e)) (inl f) = inr (inr (subst₂ AreTwo (sym f) (sym e) upper))
two_layers l m (inr (inl e)) (inr (inl f)) = inl (e ∙ sym f)
two_layers l m (inr (inl e)) (inr (inr f)) = inr (inl (subst₂ AreTwo (sym e) (sym f) lower))
two_layers l m (inr (inr e)) (inl f) = inr (inr (subst₂ AreTwo (sym f) (sym e) outer))
two_layers l m (inr (inr e)) (inr (inl f)) = inr (inr (subst₂ AreTwo (sym f) (sym e) lower))
two_layers l m (inr (inr e)) (inr (inr f)) = inl (e ∙ sym f)
