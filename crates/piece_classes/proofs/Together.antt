-- All that is known of the pieces of a mask and their links.
use Rattle.std.proofs.Common.{◌≡◌, ℕ, ◌<◌, ◌≤◌, inl, inr, List, length, map, get_or, refl, sym, ◌∙◌, ap}
use Rattle.std.proofs.Common.{subst, arith, true, false}
use Rattle.std.specs.Prelude.{◌↔◌, ◌<ℤ◌, ◌++◌, All, Some, slice_get}
use Rattle.std.proofs.lemmas.Int.{ints}
use Rattle.std.proofs.lemmas.Option.{same_Some, slice_get_within, slice_get-get_or}
use Rattle.std.proofs.lemmas.List.Elements.{All-weaker}
use Rattle.mp_base.proofs.Entries.{contains_from_get}
use Rattle.lam_geom.specs.declared.layer.Layer.{Layer}
use Rattle.lam_geom.specs.declared.layer.Layer.TheVariants.{ND, NP, NM}
use Rattle.lam_geom.specs.declared.place.Point.{Point}
use Rattle.lam_geom.specs.declared.rect.Rect.{Rect}
use Rattle.lam_geom.specs.Squares.{Square, Adjoin, Before, IsIn, covered, RectanglesAreJoined}
use Rattle.mask_runs.specs.declared.mask.Mask.{Mask}
use Rattle.mask_runs.specs.Laws.{OneColour}
use Rattle.mask_tiles.specs.declared.tile.Tile.{Tile}
use Rattle.switch_net.specs.Conductors.{Conducts, Joined, IsChannelSquare}
use Rattle.union_find.specs.declared.pair.Pair.{Pair}
use Rattle.union_find.specs.Leasts.{AreLeasts}
use Rattle.mask_pieces.specs.declared.cut.Cut.{Cut}
use Rattle.mask_pieces.specs.declared.masks.Masks.{Masks}
use Rattle.mask_pieces.specs.declared.piece.Piece.{Piece}
use Rattle.piece_classes.specs.declared.numbering.Classes.{Classes}
use Rattle.mask_pieces.specs.Pieces.{no_piece, is_conductor, corner_on, on, HasConductor}
use Rattle.mask_pieces.specs.Pieces.{HasChannel, ArePieces, first_conductor, first_channel}
use Rattle.piece_classes.specs.Linking.{AreLinks, AreAllLinks}
use Rattle.piece_classes.specs.Numbers as numbers
use Rattle.piece_classes.specs.Numbers.{AreRoots, AreNumbers}
use Rattle.mask_pieces.specs.Columns.{corner_point, AreOver}
use Rattle.mask_pieces.specs.Masks.{asked, AreMasks}
use Rattle.mask_pieces.specs.CutOf.{IsCutOf}
use Rattle.piece_classes.specs.Classed.{AreClassed}
use Rattle.piece_classes.proofs.Owners.{AreOwners, backward, classes, in_class, only_class}
use Rattle.mask_pieces.proofs.CutUp.{Tiled, tiled_metal, tiled_polysilicon, tiled_diffusion, channel_layer, are_pieces}
use Rattle.piece_classes.proofs.Owning.{conductor_owners, channel_owners}
use Rattle.piece_classes.proofs.Linked.{conductor_part}
use Rattle.piece_classes.proofs.LinksMade.{not_conductor, kind, are_links}
use Rattle.mask_pieces.proofs.Covering.{metal_over, polysilicon_over, diffusion_over, over_fewer, corner_at}

-- roots and numbers of the same things
roots_same : (P Q : ℕ → Type 0) (least : List ℕ) (place : ℕ) (roots : List ℕ) → ((k : ℕ) → k < place → P k ↔ Q k)
    → AreRoots P least place roots → AreRoots Q least place roots
roots_same P Q least place roots f h = record {
  ascending = h.ascending;
  each = All-weaker (λ k. (k < place) × P k × (get_or least k 0 ≡ k)) (λ k. (k < place) × Q k × (get_or least k 0 ≡ k))
      (λ k w. (w.0, (f k w.0).0 w.1, w.2)) roots h.each;
  all = λ k l q e. h.all k l ((f k l).1 q) e;
}

numbers_same : (P Q : ℕ → Type 0) (least : List ℕ) (place : ℕ) (roots ns : List ℕ) → ((k : ℕ) → k < place → P k ↔ Q k)
    → AreNumbers P least place roots ns → AreNumbers Q least place roots ns
numbers_same P Q least place roots ns f h = record { as_many = h.as_many; each = λ k l q. h.each k l ((f k l).1 q) }

module _ (one : OneColour) (joined : RectanglesAreJoined) (shapes : List Rect) (places : List Point) (masks : Masks)
    (cut : Cut) (links : List Pair)
    (swept : AreMasks shapes places masks.contacts masks.metal masks.polysilicon masks.diffusion)
    (is_cut : IsCutOf masks.metal masks.polysilicon masks.diffusion cut) where
  pub over_metal : AreOver shapes cut.pieces NM (asked masks.contacts.tiles places) cut.metal.over
  over_metal =
      metal_over shapes cut.pieces cut.metal.numbers masks.metal.tiles
      (asked masks.contacts.tiles places) masks.metal.found cut.metal.over swept.metal_swept.tiles
      is_cut.metal_numbers swept.metal_swept.found is_cut.metal_over

  pub over_polysilicon : AreOver shapes cut.pieces NP
      (asked masks.contacts.tiles places ++ map corner_point masks.diffusion.tiles) cut.polysilicon.over
  over_polysilicon =
      polysilicon_over shapes cut.pieces cut.polysilicon.numbers masks.polysilicon.tiles
      (asked masks.contacts.tiles places ++ map corner_point masks.diffusion.tiles) masks.polysilicon.found
      cut.polysilicon.over swept.polysilicon_swept.tiles is_cut.polysilicon_numbers swept.polysilicon_swept.found
      is_cut.polysilicon_over

  pub over_diffusion : AreOver shapes cut.pieces ND (asked masks.contacts.tiles places) cut.diffusion.over
  over_diffusion =
      diffusion_over shapes cut.pieces cut.diffusion.numbers masks.diffusion.tiles
      (asked masks.contacts.tiles places) masks.diffusion.found cut.diffusion.over swept.diffusion_swept.tiles
      is_cut.diffusion_numbers swept.diffusion_swept.found is_cut.diffusion_over

  pub pieces_are : ArePieces shapes cut.pieces
  pieces_are =
      are_pieces one shapes _ _ _ _ is_cut.pieces swept.metal_swept.tiles
      swept.metal_swept.whole swept.polysilicon_swept.tiles swept.polysilicon_swept.whole swept.diffusion_swept.tiles
      swept.diffusion_swept.whole

  on_diffusion : (k : ℕ) (s : Square) (h : HasChannel cut.pieces k s) → h.piece.rect.layer ≡ ND
  on_diffusion =
      channel_layer one shapes _ _ _ _ is_cut.pieces swept.metal_swept.tiles
      swept.metal_swept.whole swept.polysilicon_swept.tiles swept.polysilicon_swept.whole swept.diffusion_swept.tiles
      swept.diffusion_swept.whole

  solid_of : (layer : Layer) (mask : Mask) (tiles : List Tile) (p : Piece) → Tiled shapes layer mask tiles p
      → (p.rect.x0 <ℤ p.rect.x1) × (p.rect.y0 <ℤ p.rect.y1)
  solid_of layer mask tiles p w =
      let high = w.is.stack.some in
      let wide = (w.is.stack.each w.tile.y0 (omega (arith, ints)) high).some in (
        subst (λ (q : Piece). q.rect.x0 <ℤ q.rect.x1) (sym w.same) wide,
        subst (λ (q : Piece). q.rect.y0 <ℤ q.rect.y1)
            (sym w.same) high,
      )

  solid : (k : ℕ) (p : Piece) → slice_get cut.pieces k ≡ Some p → (p.rect.x0 <ℤ p.rect.x1) × (p.rect.y0 <ℤ p.rect.y1)
  solid k p e = elim (is_cut.pieces.layers p (contains_from_get cut.pieces k p e)) [
    | inl l ↦
        solid_of NM _ masks.metal.tiles p
        (tiled_metal one shapes _ _ _ _ is_cut.pieces swept.metal_swept.tiles
        swept.metal_swept.whole swept.polysilicon_swept.tiles swept.polysilicon_swept.whole swept.diffusion_swept.tiles
        swept.diffusion_swept.whole k p e l)
    | inr (inl l) ↦
        solid_of NP _ masks.polysilicon.tiles p
        (tiled_polysilicon one shapes _ _ _ _ is_cut.pieces swept.metal_swept.tiles
        swept.metal_swept.whole swept.polysilicon_swept.tiles swept.polysilicon_swept.whole swept.diffusion_swept.tiles
        swept.diffusion_swept.whole k p e l)
    | inr (inr l) ↦
        solid_of ND _ masks.diffusion.tiles p
        (tiled_diffusion one shapes _ _ _ _ is_cut.pieces swept.metal_swept.tiles
        swept.metal_swept.whole swept.polysilicon_swept.tiles swept.polysilicon_swept.whole swept.diffusion_swept.tiles
        swept.diffusion_swept.whole k p e l)
  ]

  first_in : (l : Layer) (r : Rect) → (r.x0 <ℤ r.x1) × (r.y0 <ℤ r.y1) → IsIn (on l r) (corner_on l r)
  first_in l r w = let a = w.0 in let b = w.1 in
      record { same = refl; left = omega (arith, ints); right = a; bottom = omega (arith, ints); top = b }

  -- a piece is a conductor exactly where it has its first square as one
  conductor_is : (k : ℕ) → k < length cut.pieces
      → numbers.Conducts cut.pieces true k ↔ HasConductor cut.pieces k (first_conductor cut.pieces k)
  conductor_is k l =
      let p : Piece = get_or cut.pieces k no_piece in
      let e : slice_get cut.pieces k ≡ Some p = slice_get-get_or cut.pieces k no_piece l in (
        λ h. record {
          piece = p;
          at = e;
          part = conductor_part p.part h;
          is = first_in p.rect.layer p.rect (solid k p e);
        },
        λ h. ap (λ (q : Piece). is_conductor q.part) (same_Some p h.piece (sym e ∙ h.at)) ∙ ap is_conductor h.part,
      )

  channel_is : (k : ℕ) → k < length cut.pieces
      → numbers.Conducts cut.pieces false k ↔ HasChannel cut.pieces k (first_channel cut.pieces k)
  channel_is k l =
      let p : Piece = get_or cut.pieces k no_piece in
      let e : slice_get cut.pieces k ≡ Some p = slice_get-get_or cut.pieces k no_piece l in (
        λ h. record {
          piece = p;
          at = e;
          part = λ f. let g : is_conductor p.part ≡ true = ap is_conductor f in
              absurd (cc);
          is = first_in NP p.rect (solid k p e);
        },
        λ h. ap (λ (q : Piece). is_conductor q.part) (same_Some p h.piece (sym e ∙ h.at))
            ∙ not_conductor h.piece.part h.part,
      )

  module _ (all : AreAllLinks masks cut links) where
    fewer : AreOver shapes cut.pieces NP (asked masks.contacts.tiles places) cut.polysilicon.over
    fewer = over_fewer shapes cut.pieces NP (asked masks.contacts.tiles places)
        (map corner_point masks.diffusion.tiles) cut.polysilicon.over over_polysilicon

    linked : AreLinks shapes cut.pieces links
    linked =
        are_links one joined shapes _ _ _ _ _ _ _ _ _ _ _ _ _ _ _ links is_cut.pieces
        swept.metal_swept.tiles swept.metal_swept.whole swept.polysilicon_swept.tiles swept.polysilicon_swept.whole
        swept.diffusion_swept.tiles swept.diffusion_swept.whole swept.contacts_swept.tiles swept.contacts_swept.whole
        swept.metal_swept.pairs swept.polysilicon_swept.pairs swept.diffusion_swept.pairs is_cut.metal_numbers
        is_cut.polysilicon_numbers is_cut.diffusion_numbers
        (corner_at masks.contacts.tiles places) over_metal fewer over_diffusion all.each

    pub links_inside : All (λ q. (q.a < length cut.pieces) × (q.b < length cut.pieces)) links
    links_inside n d l =
        elim (kind one joined shapes _ _ _ _ _ _ _ _ _ _ _ _ _ _ _ links is_cut.pieces
        swept.metal_swept.tiles swept.metal_swept.whole swept.polysilicon_swept.tiles swept.polysilicon_swept.whole
        swept.diffusion_swept.tiles swept.diffusion_swept.whole swept.contacts_swept.tiles swept.contacts_swept.whole
        swept.metal_swept.pairs swept.polysilicon_swept.pairs swept.diffusion_swept.pairs is_cut.metal_numbers
        is_cut.polysilicon_numbers is_cut.diffusion_numbers
        (corner_at masks.contacts.tiles places) over_metal fewer over_diffusion all.each (get_or links n d)
        (contains_from_get links n (get_or links n d) (slice_get-get_or links n d l))) [
          | inl e ↦ (
            slice_get_within cut.pieces (get_or links n d).a e.first e.at_first,
            slice_get_within cut.pieces
                (get_or links n d).b e.second e.at_second,
          )
          | inr e ↦ (
            slice_get_within cut.pieces (get_or links n d).a e.in_first.piece e.in_first.at,
            slice_get_within cut.pieces
                (get_or links n d).b e.in_second.piece e.in_second.at,
          )
        ]

    conductors : AreOwners (Conducts (covered shapes)) (Joined (covered shapes)) Before (HasConductor cut.pieces)
        (first_conductor cut.pieces) (length cut.pieces) links
    conductors = conductor_owners joined shapes cut.pieces links is_cut.pieces.ascending pieces_are linked

    channels : AreOwners (IsChannelSquare (covered shapes)) (Adjoin (IsChannelSquare (covered shapes))) Before
        (HasChannel cut.pieces) (first_channel cut.pieces) (length cut.pieces) links
    channels = channel_owners joined shapes cut.pieces links is_cut.pieces.ascending pieces_are linked on_diffusion

    module _ (least : List ℕ) (leasts : AreLeasts (length cut.pieces) links least) where
      pub below : (k : ℕ) → k < length least → get_or least k 0 ≤ k
      below k l = let many = leasts.as_many in leasts.below k (omega arith)

      pub still : (k : ℕ) → k < length least → get_or least (get_or least k 0) 0 ≡ get_or least k 0
      still k l = let many = leasts.as_many in sym (leasts.one k (get_or least k 0) (leasts.home k (omega arith)))

      pub conductors_stay : (k : ℕ) → k < length least → numbers.Conducts cut.pieces true k
          → numbers.Conducts cut.pieces true (get_or least k 0)
      conductors_stay k l h =
          let many = leasts.as_many in
          let lk : k < length cut.pieces = omega arith in
          let b = leasts.below k lk in
          let a = backward conductors (leasts.home k lk) (first_conductor cut.pieces k) ((conductor_is k lk).0 h) in
          (conductor_is (get_or least k 0) (omega arith)).1 (conductors.has_first (get_or least k 0) a.0 a.1)

      pub channels_stay : (k : ℕ) → k < length least → numbers.Conducts cut.pieces false k
          → numbers.Conducts cut.pieces false (get_or least k 0)
      channels_stay k l h =
          let many = leasts.as_many in
          let lk : k < length cut.pieces = omega arith in
          let b = leasts.below k lk in
          let a = backward channels (leasts.home k lk) (first_channel cut.pieces k) ((channel_is k lk).0 h) in
          (channel_is (get_or least k 0) (omega arith)).1 (channels.has_first (get_or least k 0) a.0 a.1)

      module _ (cn cc_ : Classes) (rn : AreRoots (numbers.Conducts cut.pieces true) least (length least) cn.roots)
          (nn : AreNumbers (numbers.Conducts cut.pieces true) least (length least) cn.roots cn.numbers)
          (rc : AreRoots (numbers.Conducts cut.pieces false) least (length least) cc_.roots)
          (nc : AreNumbers (numbers.Conducts cut.pieces false) least (length least) cc_.roots cc_.numbers) where
        roots_n : AreRoots (λ k. HasConductor cut.pieces k (first_conductor cut.pieces k)) least
            (length cut.pieces) cn.roots
        roots_n =
            roots_same (numbers.Conducts cut.pieces true)
            (λ k. HasConductor cut.pieces k (first_conductor cut.pieces k)) least
            (length cut.pieces) cn.roots conductor_is
            (subst (λ n. AreRoots (numbers.Conducts cut.pieces true) least n cn.roots) leasts.as_many rn)

        numbers_n : AreNumbers (λ k. HasConductor cut.pieces k (first_conductor cut.pieces k)) least
            (length cut.pieces) cn.roots cn.numbers
        numbers_n =
            numbers_same (numbers.Conducts cut.pieces true)
            (λ k. HasConductor cut.pieces k (first_conductor cut.pieces k)) least
            (length cut.pieces) cn.roots cn.numbers conductor_is
            (subst (λ n. AreNumbers (numbers.Conducts cut.pieces true) least n cn.roots cn.numbers) leasts.as_many nn)

        roots_c : AreRoots (λ k. HasChannel cut.pieces k (first_channel cut.pieces k)) least
            (length cut.pieces) cc_.roots
        roots_c =
            roots_same (numbers.Conducts cut.pieces false)
            (λ k. HasChannel cut.pieces k (first_channel cut.pieces k)) least
            (length cut.pieces) cc_.roots channel_is
            (subst (λ n. AreRoots (numbers.Conducts cut.pieces false) least n cc_.roots) leasts.as_many rc)

        numbers_c : AreNumbers (λ k. HasChannel cut.pieces k (first_channel cut.pieces k)) least
            (length cut.pieces) cc_.roots cc_.numbers
        numbers_c =
            numbers_same (numbers.Conducts cut.pieces false)
            (λ k. HasChannel cut.pieces k (first_channel cut.pieces k)) least
            (length cut.pieces) cc_.roots cc_.numbers channel_is
            (subst (λ n. AreNumbers (numbers.Conducts cut.pieces false) least n cc_.roots cc_.numbers) leasts.as_many
            nc)

        pub classed : AreClassed shapes cut.pieces cn cc_
        classed = record {
          pieces_are = pieces_are;
          as_many = numbers_n.as_many;
          as_many_channels = numbers_c.as_many;
          has_channel = λ k l. (channel_is k l).0;
          roots_are =
              All-weaker
              (λ k. (k < length cut.pieces) × HasChannel cut.pieces k (first_channel cut.pieces k)
              × (get_or least k 0 ≡ k))
              (λ k. HasChannel cut.pieces k (first_channel cut.pieces k)) (λ k w. w.1) cc_.roots roots_c.each;
          are_nodes = classes conductors least cn.roots leasts roots_n;
          are_regions = classes channels least cc_.roots leasts roots_c;
          node_of = in_class conductors least cn.roots leasts roots_n cn.numbers numbers_n;
          one_node = only_class conductors least cn.roots leasts roots_n cn.numbers numbers_n;
          channel_of = in_class channels least cc_.roots leasts roots_c cc_.numbers numbers_c;
          one_channel = only_class channels least cc_.roots leasts roots_c cc_.numbers numbers_c;
        }
