-- Pieces of tiles have exactly the conductors and the squares of channels, each in one piece.
use Rattle.std.proofs.Common.{◌≡◌, ◌≢◌, ℕ, ◌<◌, inl, inr, List, refl, sym, ◌∙◌, ap, subst, subst₂, arith}
use Rattle.std.specs.Prelude.{ℤ, AllPairs, Some, slice_get}
use Rattle.std.proofs.lemmas.Bool.{cases_eq, cases_lt}
use Rattle.std.proofs.lemmas.Int.{ints}
use Rattle.std.proofs.lemmas.Option.{slice_get_within, get_or_from_slice_get}
use Rattle.mp_base.proofs.Entries.{get_from_contains, contains_from_get, all_at}
use Rattle.lam_geom.specs.declared.layer.Layer.{Layer}
use Rattle.lam_geom.specs.declared.layer.Layer.TheVariants.{ND, NP, NC, NM, NI, NB, NG}
use Rattle.lam_geom.specs.declared.rect.Rect.{Rect}
use Rattle.lam_geom.specs.Squares.{Square, IsIn, Before, covered}
use Rattle.mask_runs.specs.declared.mask.Mask.{Mask}
use Rattle.mask_runs.specs.declared.mask.Mask.TheVariants.{Only, Diffusion}
use Rattle.mask_runs.specs.Colours.{HasColour}
use Rattle.mask_runs.specs.Laws.{OneColour}
use Rattle.mask_tiles.specs.declared.tile.Tile.{Tile}
use Rattle.mask_tiles.specs.Tiles.{IsTile, AreTiles, AreWhole, InTile}
use Rattle.mask_tiles.proofs.SeenLayers.{covered_only, only_covered}
use Rattle.switch_net.specs.Conductors.{Conducts, ConductsOn, IsChannel}
use Rattle.mask_pieces.specs.declared.piece.Part.TheVariants.{Conductor, Plain, Implanted}
use Rattle.mask_pieces.specs.declared.piece.Piece.{Piece}
use Rattle.mask_pieces.specs.Pieces.{part_of, piece_of, corner_on, IsBefore, AreOfTiles, AreCutUp, HasConductor}
use Rattle.mask_pieces.specs.Pieces.{HasChannel, ArePieces}
use Rattle.mask_pieces.proofs.Seeing.{coloured, on_diffusion, OnDiffusion}
use Rattle.mask_pieces.proofs.Seeing.OnDiffusion.{none, conductor, plain, implant}
use Rattle.mask_pieces.proofs.Tiling.{tile_once}

pub pairs_at : {X : Type 0} (R : X → X → Type 0) (xs : List X) → AllPairs R xs → (i j : ℕ) (x y : X) → i < j
    → slice_get xs i ≡ Some x → slice_get xs j ≡ Some y → R x y
pairs_at R xs h i j x y l e f =
    subst₂ R (get_or_from_slice_get xs i x x e) (get_or_from_slice_get xs j y x f)
    (h i j x l (slice_get_within xs j y f))

before_itself : (s : Square) → Before s s → ⊥
before_itself s (inl a) = absurd (omega (arith, ints))
before_itself s (inr (inl a)) = let b = a.1 in absurd (omega (arith, ints))
before_itself s (inr (inr a)) = let b = a.2 in absurd (omega (arith, ints))

-- two pieces do not begin at one square
pub one_place : (pieces : List Piece) → AllPairs IsBefore pieces → (i j : ℕ) (p q : Piece)
    → slice_get pieces i ≡ Some p → slice_get pieces j ≡ Some q
    → corner_on p.rect.layer p.rect ≡ corner_on q.rect.layer q.rect → i ≡ j
one_place pieces up i j p q ei ej e = elim (cases_eq i j) [
  | inl s ↦ s
  | inr n ↦ elim (cases_lt i j) [
    | inl l ↦
        absurd (before_itself (corner_on q.rect.layer q.rect)
        (subst (λ c. Before c (corner_on q.rect.layer q.rect)) e (pairs_at IsBefore pieces up i j p q l ei ej)))
    | inr l ↦
        absurd (before_itself (corner_on p.rect.layer p.rect)
        (subst (λ c. Before c (corner_on p.rect.layer p.rect)) (sym e)
        (pairs_at IsBefore pieces up j i q p (omega arith) ej ei)))
  ]
]

-- the tile of a piece
pub record Tiled (shapes : List Rect) (layer : Layer) (mask : Mask) (tiles : List Tile) (p : Piece) : Type 0 where
  pub tile : Tile
  pub at : slice_get tiles p.tile ≡ Some tile
  pub is : IsTile shapes mask tile
  pub same : p ≡ piece_of layer p.tile tile

-- the colour of a square of a tile
pub tile_colour : (shapes : List Rect) (mask : Mask) (t : Tile) (x y : ℤ) → IsTile shapes mask t → InTile t x y
    → HasColour shapes mask t.colour x y
tile_colour shapes mask t x y h i = (h.stack.each y i.bottom i.top).each x i.left i.right

in_tile : (layer : Layer) (n : ℕ) (t : Tile) (p : Piece) (l : Layer) (x y : ℤ) → p ≡ piece_of layer n t
    → IsIn (record { layer = l; x0 = p.rect.x0; y0 = p.rect.y0; x1 = p.rect.x1; y1 = p.rect.y1 })
    (record { layer = l; x = x; y = y }) → InTile t x y
in_tile layer n t p l x y e h =
    let g = subst
    (λ (q : Piece). IsIn (record { layer = l; x0 = q.rect.x0; y0 = q.rect.y0; x1 = q.rect.x1; y1 = q.rect.y1 })
    (record { layer = l; x = x; y = y })) e h in
    record { left = g.left; right = g.right; bottom = g.bottom; top = g.top }

module _ (one : OneColour) (shapes : List Rect) (metal polysilicon diffusion : List Tile) (pieces : List Piece)
    (cut : AreCutUp metal polysilicon diffusion pieces)
    (tm : AreTiles shapes (Only NM) metal) (wm : AreWhole shapes (Only NM) metal)
    (tp : AreTiles shapes (Only NP) polysilicon) (wp : AreWhole shapes (Only NP) polysilicon)
    (td : AreTiles shapes Diffusion diffusion) (wd : AreWhole shapes Diffusion diffusion) where
  tiled : (layer : Layer) (mask : Mask) (tiles : List Tile) → AreTiles shapes mask tiles
      → AreOfTiles layer tiles pieces → (k : ℕ) (p : Piece) → slice_get pieces k ≡ Some p → p.rect.layer ≡ layer
      → Tiled shapes layer mask tiles p
  tiled layer mask tiles are of k p e l =
      let w = of.each p (contains_from_get pieces k p e) l in
      record { tile = w.0; at = w.1; is = all_at (IsTile shapes mask) tiles p.tile w.0 are.each w.1; same = w.2 }

  pub tiled_metal : (k : ℕ) (p : Piece) → slice_get pieces k ≡ Some p → p.rect.layer ≡ NM
      → Tiled shapes NM (Only NM) metal p
  tiled_metal = tiled NM (Only NM) metal tm cut.of_metal

  pub tiled_polysilicon : (k : ℕ) (p : Piece) → slice_get pieces k ≡ Some p → p.rect.layer ≡ NP
      → Tiled shapes NP (Only NP) polysilicon p
  tiled_polysilicon = tiled NP (Only NP) polysilicon tp cut.of_polysilicon

  pub tiled_diffusion : (k : ℕ) (p : Piece) → slice_get pieces k ≡ Some p → p.rect.layer ≡ ND
      → Tiled shapes ND Diffusion diffusion p
  tiled_diffusion = tiled ND Diffusion diffusion td cut.of_diffusion

  -- the piece that has a square of this colour
  piece_at : (layer : Layer) (mask : Mask) (tiles : List Tile) → AreWhole shapes mask tiles
      → AreOfTiles layer tiles pieces → (c : ℕ) (x y : ℤ) → 0 < c → HasColour shapes mask c x y
      → (k : ℕ) × (n : ℕ) × (t : Tile) × (slice_get pieces k ≡ Some (piece_of layer n t)) × (t.colour ≡ c)
      × InTile t x y
  piece_at layer mask tiles whole of c x y l h =
      let w = whole.tile c x y l h in
      let n = get_from_contains tiles w.0 w.1 in
      let k = get_from_contains pieces (piece_of layer n.0 w.0) (of.all n.0 w.0 n.1) in
      (k.0, n.0, w.0, k.1, w.2, w.3)

  conductor_of : (layer : Layer) (mask : Mask) (tiles : List Tile) → AreWhole shapes mask tiles
      → AreOfTiles layer tiles pieces → (x y : ℤ) → HasColour shapes mask 1 x y
      → (k : ℕ) × HasConductor pieces k (record { layer = layer; x = x; y = y })
  conductor_of layer mask tiles whole of x y h =
      let w = piece_at layer mask tiles whole of 1 x y (omega arith) h in (
        w.0,
        record {
          piece = piece_of layer w.1 w.2;
          at = w.3;
          part = ap part_of w.4;
          is = record { same = refl; left = w.5.left; right = w.5.right; bottom = w.5.bottom; top = w.5.top };
        },
      )

  conductor_at : (l : Layer) (x y : ℤ) → ConductsOn (covered shapes) l x y
      → (k : ℕ) × HasConductor pieces k (record { layer = l; x = x; y = y })
  conductor_at NM x y c = conductor_of NM (Only NM) metal wm cut.of_metal x y (only_covered shapes NM x y c)
  conductor_at NP x y c = conductor_of NP (Only NP) polysilicon wp cut.of_polysilicon x y (only_covered shapes NP x y c)
  conductor_at ND x y c =
      let h = coloured shapes Diffusion x y in
      elim (on_diffusion shapes h.0 x y h.1) [
        | none n e ↦ absurd (n c.0)
        | conductor d n e ↦
            conductor_of ND Diffusion diffusion wd cut.of_diffusion x y
            (subst (λ k. HasColour shapes Diffusion k x y) e h.1)
        | plain d n e ↦ absurd (c.1 d)
        | implant d n e ↦ absurd (c.1 d)
      ]
  conductor_at NC x y c = absurd c
  conductor_at NI x y c = absurd c
  conductor_at NB x y c = absurd c
  conductor_at NG x y c = absurd c

  channel_at : (x y : ℤ) → IsChannel (covered shapes) x y
      → (k : ℕ) × HasChannel pieces k (record { layer = NP; x = x; y = y })
  channel_at x y c =
      let h = coloured shapes Diffusion x y in
      elim (on_diffusion shapes h.0 x y h.1) [
        | none n e ↦ absurd (n c.diffusion)
        | conductor d n e ↦ absurd (n c)
        | plain d n e ↦
            go h.0 (omega arith) h.1 (λ f. let g : part_of 2 ≡ Conductor = ap part_of (sym e) ∙ f in absurd (cc))
        | implant d n e ↦
            go h.0 (omega arith) h.1 (λ f. let g : part_of 3 ≡ Conductor = ap part_of (sym e) ∙ f in absurd (cc))
      ]
    where
      go : (c : ℕ) → 0 < c → HasColour shapes Diffusion c x y → part_of c ≢ Conductor
          → (k : ℕ) × HasChannel pieces k (record { layer = NP; x = x; y = y })
      go c l h n =
          let w = piece_at ND Diffusion diffusion wd cut.of_diffusion c x y l h in (
            w.0,
            record {
              piece = piece_of ND w.1 w.2;
              at = w.3;
              part = λ f. n (ap part_of (sym w.4) ∙ f);
              is = record { same = refl; left = w.5.left; right = w.5.right; bottom = w.5.bottom; top = w.5.top };
            },
          )

  -- what a piece of diffusion has at a square of its own
  pub of_diffusion : (k : ℕ) (p : Piece) (x y : ℤ) → slice_get pieces k ≡ Some p
      → (w : Tiled shapes ND Diffusion diffusion p) → InTile w.tile x y
      → OnDiffusion shapes x y w.tile.colour × (p.part ≡ part_of w.tile.colour)
  of_diffusion k p x y e w i = (
    on_diffusion shapes w.tile.colour x y (tile_colour shapes Diffusion w.tile x y w.is i),
    ap
        (λ (q : Piece). q.part) w.same,
  )

  -- the tile of a conductor has its square
  pub conductor_in : (k : ℕ) (s : Square) (h : HasConductor pieces k s) (layer : Layer) (mask : Mask)
      (tiles : List Tile) → (w : Tiled shapes layer mask tiles h.piece) → InTile w.tile s.x s.y
  conductor_in k s h layer mask tiles w =
      in_tile layer h.piece.tile w.tile h.piece s.layer s.x s.y w.same
      (record { same = refl; left = h.is.left; right = h.is.right; bottom = h.is.bottom; top = h.is.top })

  pub channel_in : (k : ℕ) (s : Square) (h : HasChannel pieces k s) (layer : Layer) (mask : Mask) (tiles : List Tile)
      → (w : Tiled shapes layer mask tiles h.piece) → InTile w.tile s.x s.y
  channel_in k s h layer mask tiles w =
      in_tile layer h.piece.tile w.tile h.piece NP s.x s.y w.same
      (record { same = refl; left = h.is.left; right = h.is.right; bottom = h.is.bottom; top = h.is.top })

  single : (l : Layer) (x y : ℤ) (t : Tile) → IsTile shapes (Only l) t → InTile t x y
      → covered shapes l x y × (t.colour ≡ 1)
  single l x y t h i = elim (covered_only shapes l t.colour x y (tile_colour shapes (Only l) t x y h i)) [
    | inl a ↦ a
    | inr a ↦ let s = h.some in let e = a.1 in absurd (omega arith)
  ]

  conducts_at : (k : ℕ) (s : Square) → HasConductor pieces k s → Conducts (covered shapes) s
  conducts_at k s h = elim (cut.layers h.piece (contains_from_get pieces k h.piece h.at)) [
    | inl e ↦
        let w = tiled_metal k h.piece h.at e in
        subst (λ l. ConductsOn (covered shapes) l s.x s.y) (sym e ∙ h.is.same)
        (single NM s.x s.y w.tile w.is (conductor_in k s h NM (Only NM) metal w)).0
    | inr (inl e) ↦
        let w = tiled_polysilicon k h.piece h.at e in
        subst (λ l. ConductsOn (covered shapes) l s.x s.y) (sym e ∙ h.is.same)
        (single NP s.x s.y w.tile w.is (conductor_in k s h NP (Only NP) polysilicon w)).0
    | inr (inr e) ↦
        let w = tiled_diffusion k h.piece h.at e in
        let i = of_diffusion k h.piece s.x s.y h.at w (conductor_in k s h ND Diffusion diffusion w) in
        let f : part_of w.tile.colour ≡ Conductor = sym i.1 ∙ h.part in
        subst (λ l. ConductsOn (covered shapes) l s.x s.y) (sym e ∙ h.is.same) (elim i.0 [
          | none n u ↦ let g = w.is.some in absurd (omega arith)
          | conductor d n u ↦ (d, n)
          | plain d n u ↦ let g : part_of 2 ≡ Conductor = ap part_of (sym u) ∙ f in absurd (cc)
          | implant d n u ↦ let g : part_of 3 ≡ Conductor = ap part_of (sym u) ∙ f in absurd (cc)
        ])
  ]

  -- a piece of a channel is on diffusion
  pub channel_layer : (k : ℕ) (s : Square) (h : HasChannel pieces k s) → h.piece.rect.layer ≡ ND
  channel_layer k s h = elim (cut.layers h.piece (contains_from_get pieces k h.piece h.at)) [
    | inl e ↦
        let w = tiled_metal k h.piece h.at e in
        let c = single NM s.x s.y w.tile w.is (channel_in k s h NM (Only NM) metal w) in
        absurd (h.part (ap (λ (q : Piece). q.part) w.same ∙ ap part_of c.1))
    | inr (inl e) ↦
        let w = tiled_polysilicon k h.piece h.at e in
        let c = single NP s.x s.y w.tile w.is (channel_in k s h NP (Only NP) polysilicon w) in
        absurd (h.part (ap (λ (q : Piece). q.part) w.same ∙ ap part_of c.1))
    | inr (inr e) ↦ e
  ]

  channel_is : (k : ℕ) (s : Square) (h : HasChannel pieces k s)
      → IsChannel (covered shapes) s.x s.y × (h.piece.part ≡ Plain → ¬ covered shapes NI s.x s.y)
      × (h.piece.part ≡ Implanted → covered shapes NI s.x s.y)
  channel_is k s h =
      let w = tiled_diffusion k h.piece h.at (channel_layer k s h) in
      let i = of_diffusion k h.piece s.x s.y h.at w (channel_in k s h ND Diffusion diffusion w) in
      elim i.0 [
        | none n u ↦ let g = w.is.some in absurd (omega arith)
        | conductor d n u ↦ absurd (h.part (i.1 ∙ ap part_of u))
        | plain d n u ↦
            (d, λ f. n, λ f. let g : part_of 2 ≡ Implanted = ap part_of (sym u) ∙ sym i.1 ∙ f in absurd (cc))
        | implant d n u ↦ (d, λ f. let g : part_of 3 ≡ Plain = ap part_of (sym u) ∙ sym i.1 ∙ f in absurd (cc), λ f. n)
      ]

  same_piece : (layer : Layer) (mask : Mask) (tiles : List Tile) (i j : ℕ) (p q : Piece) (x y : ℤ)
      → slice_get pieces i ≡ Some p → slice_get pieces j ≡ Some q
      → (u : Tiled shapes layer mask tiles p) (v : Tiled shapes layer mask tiles q) → InTile u.tile x y
      → InTile v.tile x y → i ≡ j
  same_piece layer mask tiles i j p q x y ei ej u v iu iv =
      let e : u.tile ≡ v.tile = tile_once one shapes mask u.tile v.tile x y u.is v.is iu iv in
      one_place pieces cut.ascending i j p q ei ej
      (ap (λ (z : Piece). corner_on z.rect.layer z.rect) u.same
      ∙ ap (λ (t : Tile). corner_on layer (record { layer = layer; x0 = t.x0; y0 = t.y0; x1 = t.x1; y1 = t.y1 })) e
      ∙ sym (ap (λ (z : Piece). corner_on z.rect.layer z.rect) v.same))

  one_conductor_at : (i j : ℕ) (s : Square) → HasConductor pieces i s → HasConductor pieces j s → i ≡ j
  one_conductor_at i j s h g = elim (cut.layers h.piece (contains_from_get pieces i h.piece h.at)) [
    | inl e ↦
        let u = tiled_metal i h.piece h.at e in
        let v = tiled_metal j g.piece g.at (g.is.same ∙ sym h.is.same ∙ e) in
        same_piece NM (Only NM) metal i j h.piece g.piece s.x s.y h.at g.at u v
        (conductor_in i s h NM (Only NM) metal u) (conductor_in j s g NM (Only NM) metal v)
    | inr (inl e) ↦
        let u = tiled_polysilicon i h.piece h.at e in
        let v = tiled_polysilicon j g.piece g.at (g.is.same ∙ sym h.is.same ∙ e) in
        same_piece NP (Only NP) polysilicon i j h.piece g.piece s.x s.y h.at g.at u v
        (conductor_in i s h NP (Only NP) polysilicon u) (conductor_in j s g NP (Only NP) polysilicon v)
    | inr (inr e) ↦
        let u = tiled_diffusion i h.piece h.at e in
        let v = tiled_diffusion j g.piece g.at (g.is.same ∙ sym h.is.same ∙ e) in
        same_piece ND Diffusion diffusion i j h.piece g.piece s.x s.y h.at g.at u v
        (conductor_in i s h ND Diffusion diffusion u) (conductor_in j s g ND Diffusion diffusion v)
  ]

  one_channel_at : (i j : ℕ) (s : Square) → HasChannel pieces i s → HasChannel pieces j s → i ≡ j
  one_channel_at i j s h g =
      let u = tiled_diffusion i h.piece h.at (channel_layer i s h) in
      let v = tiled_diffusion j g.piece g.at (channel_layer j s g) in
      same_piece ND Diffusion diffusion i j h.piece g.piece s.x s.y h.at g.at u v
      (channel_in i s h ND Diffusion diffusion u) (channel_in j s g ND Diffusion diffusion v)

  pub are_pieces : ArePieces shapes pieces
  are_pieces = record {
    conductor = λ s c. conductor_at s.layer s.x s.y c;
    conducts = conducts_at;
    one_conductor = one_conductor_at;
    channel = λ s c. let k = channel_at s.x s.y c.1 in
        (k.0, subst (λ l. HasChannel pieces k.0 (record { layer = l; x = s.x; y = s.y })) (sym c.0) k.1);
    channels = λ k s h. (sym h.is.same, (channel_is k s h).0);
    one_channel = one_channel_at;
    plain = λ k s h. (channel_is k s h).1;
    implanted = λ k s h. (channel_is k s h).2;
  }
