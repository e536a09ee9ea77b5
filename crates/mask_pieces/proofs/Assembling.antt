-- Pieces of three masks in one list.
use Rattle.std.proofs.Common.{◌≡◌, ◌≢◌, ℕ, ◌⊎◌, inl, inr, List, length, get_or, refl, sym, ◌∙◌, ap, subst, arith}
use Rattle.std.specs.Prelude.{◌↔◌, Result, Ok, Err, IfOk, AllPairs, Contains, Some, slice_get}
use Rattle.std.proofs.lemmas.Option.{same_Some, slice_get_within, slice_get-get_or}
use Rattle.mp_base.proofs.Entries.{get_from_contains, contains_from_get}
use Rattle.lam_geom.specs.declared.layer.Layer.{Layer}
use Rattle.lam_geom.specs.declared.layer.Layer.TheVariants.{ND, NP, NM}
use Rattle.mask_tiles.specs.declared.tile.Tile.{Tile}
use Rattle.mask_tiles.specs.Tiles as tiles
use Rattle.mask_pieces.specs.declared.piece.Piece.{Piece}
use Rattle.mask_pieces.specs.Pieces.{piece_of, IsBefore, AreApart, AreTilePieces, AreTileNumbers, AreOfTiles}
use Rattle.mask_pieces.specs.Pieces.{AreCutUp, AreNumbersOf}
use Rattle.mask_pieces.proofs.CutUp.{pairs_at}

-- the tile of a piece of a list
tile_at : (layer : Layer) (ts : List Tile) (ps : List Piece) → AreTilePieces layer ts ps → (k : ℕ) (p : Piece)
    → slice_get ps k ≡ Some p → (t : Tile) × (slice_get ts k ≡ Some t) × (p ≡ piece_of layer k t)
tile_at layer ts ps h k p e =
    let l = slice_get_within ps k p e in
    let many = h.as_many in
    let t : Tile =
    get_or ts k (record { x0 = p.rect.x0; y0 = p.rect.y0; x1 = p.rect.x1; y1 = p.rect.y1; colour = 0 }) in
    let f : slice_get ts k ≡ Some t = slice_get-get_or ts k _ (omega arith) in
    (t, f, same_Some p (piece_of layer k t) (sym e ∙ h.each k t f))

pub pieces_ascending : (layer : Layer) (ts : List Tile) (ps : List Piece) → AreTilePieces layer ts ps
    → AllPairs tiles.Before ts → AllPairs IsBefore ps
pieces_ascending layer ts ps h up i j d l k =
    let p : Piece = get_or ps i d in
    let q : Piece = get_or ps j d in
    let u = tile_at layer ts ps h i p (slice_get-get_or ps i d (omega arith)) in
    let v = tile_at layer ts ps h j q (slice_get-get_or ps j d k) in
    subst (λ x. IsBefore x q) (sym u.2)
    (subst (λ x. IsBefore (piece_of layer i u.0) x) (sym v.2)
    (wider layer i j u.0 v.0 (pairs_at tiles.Before ts up i j u.0 v.0 l u.1 v.1)))
  where
    wider : (layer : Layer) (i j : ℕ) (s t : Tile) → tiles.Before s t
        → IsBefore (piece_of layer i s) (piece_of layer j t)
    wider layer i j s t (inl a) = inl a
    wider layer i j s t (inr a) = inr (inl a)

pub on_layer : (layer : Layer) (ts : List Tile) (ps : List Piece) → AreTilePieces layer ts ps → (p : Piece)
    → Contains ps p → p.rect.layer ≡ layer
on_layer layer ts ps h p c =
    let k = get_from_contains ps p c in
    let w = tile_at layer ts ps h k.0 p k.1 in
    ap (λ (x : Piece). x.rect.layer) w.2

pub layers_apart : (l m : Layer) (ts us : List Tile) (ps qs : List Piece) → l ≢ m → AreTilePieces l ts ps
    → AreTilePieces m us qs → AreApart ps qs
layers_apart l m ts us ps qs n h g p q c d e = n (sym (on_layer l ts ps h p c) ∙ e ∙ on_layer m us qs g q d)

of_tiles : (layer : Layer) (ts : List Tile) (ps all : List Piece) → AreTilePieces layer ts ps
    → ((p : Piece) → Contains ps p → Contains all p)
    → ((p : Piece) → Contains all p → p.rect.layer ≡ layer → Contains ps p)
    → AreOfTiles layer ts all
of_tiles layer ts ps all h up down = record {
  each = λ p c l.
      let k = get_from_contains ps p (down p c l) in
      let w = tile_at layer ts ps h k.0 p k.1 in
      let e : k.0 ≡ p.tile = sym (ap (λ (x : Piece). x.tile) w.2) in
      (w.0, ap (slice_get ts) (sym e) ∙ w.1, w.2 ∙ ap (λ n. piece_of layer n w.0) e);
  all = λ n t e. up (piece_of layer n t) (contains_from_get ps n (piece_of layer n t) (h.each n t e));
}

module _ (metal polysilicon diffusion : List Tile) (m p d both : List Piece) (hm : AreTilePieces NM metal m)
    (hp : AreTilePieces NP polysilicon p) (hd : AreTilePieces ND diffusion d)
    (two : (x : Piece) → Contains both x ↔ (Contains m x ⊎ Contains p x)) where
  pub both_apart : AreApart both d
  both_apart x y c e f = elim ((two x).0 c) [
    | inl u ↦ let g : NM ≡ ND = sym (on_layer NM metal m hm x u) ∙ f ∙ on_layer ND diffusion d hd y e in absurd (cc)
    | inr u ↦ let g : NP ≡ ND = sym (on_layer NP polysilicon p hp x u) ∙ f ∙ on_layer ND diffusion d hd y e in
        absurd (cc)
  ]

  module _ (all : List Piece) (three : (x : Piece) → Contains all x ↔ (Contains both x ⊎ Contains d x))
      (ascending : AllPairs IsBefore all) where
    from_metal : (x : Piece) → Contains all x → x.rect.layer ≡ NM → Contains m x
    from_metal x c l = elim ((three x).0 c) [
      | inl u ↦ elim ((two x).0 u) [
        | inl v ↦ v
        | inr v ↦ let g : NP ≡ NM = sym (on_layer NP polysilicon p hp x v) ∙ l in absurd (cc)
      ]
      | inr u ↦ let g : ND ≡ NM = sym (on_layer ND diffusion d hd x u) ∙ l in absurd (cc)
    ]

    from_polysilicon : (x : Piece) → Contains all x → x.rect.layer ≡ NP → Contains p x
    from_polysilicon x c l = elim ((three x).0 c) [
      | inl u ↦ elim ((two x).0 u) [
        | inl v ↦ let g : NM ≡ NP = sym (on_layer NM metal m hm x v) ∙ l in absurd (cc)
        | inr v ↦ v
      ]
      | inr u ↦ let g : ND ≡ NP = sym (on_layer ND diffusion d hd x u) ∙ l in absurd (cc)
    ]

    from_diffusion : (x : Piece) → Contains all x → x.rect.layer ≡ ND → Contains d x
    from_diffusion x c l = elim ((three x).0 c) [
      | inl u ↦ elim ((two x).0 u) [
        | inl v ↦ let g : NM ≡ ND = sym (on_layer NM metal m hm x v) ∙ l in absurd (cc)
        | inr v ↦ let g : NP ≡ ND = sym (on_layer NP polysilicon p hp x v) ∙ l in absurd (cc)
      ]
      | inr u ↦ u
    ]

    pub all_cut_up : AreCutUp metal polysilicon diffusion all
    all_cut_up = record {
      ascending = ascending;
      layers = λ x c. elim ((three x).0 c) [
        | inl u ↦ elim ((two x).0 u) [
          | inl v ↦ inl (on_layer NM metal m hm x v)
          | inr v ↦ inr (inl (on_layer NP polysilicon p hp x v))
        ]
        | inr u ↦ inr (inr (on_layer ND diffusion d hd x u))
      ];
      of_metal = of_tiles NM metal m all hm (λ x c. (three x).1 (inl ((two x).1 (inl c)))) from_metal;
      of_polysilicon = of_tiles NP polysilicon p all hp (λ x c. (three x).1 (inl ((two x).1 (inr c)))) from_polysilicon;
      of_diffusion = of_tiles ND diffusion d all hd (λ x c. (three x).1 (inr c)) from_diffusion;
    }

  pub result_cut_up : {E : Type 0} (r : Result (List Piece) E) → IfOk r (AllPairs IsBefore)
      → IfOk r (λ v. (x : Piece) → Contains v x ↔ (Contains both x ⊎ Contains d x))
      → IfOk r (AreCutUp metal polysilicon diffusion)
  result_cut_up (Ok v) up three = all_cut_up v three up
  result_cut_up (Err e) up three = tt

-- the numbers of tiles are those of their pieces
pub numbers_of : (layer : Layer) (ts : List Tile) (pieces : List Piece) (numbers : List ℕ) → AreOfTiles layer ts pieces
    → AreTileNumbers layer (length ts) pieces (length pieces) numbers → AreNumbersOf layer ts pieces numbers
numbers_of layer ts pieces numbers of h = record {
  as_many = h.as_many;
  each = λ n t e.
      let k = get_from_contains pieces (piece_of layer n t) (of.all n t e) in
      let w = h.each k.0 (piece_of layer n t) (slice_get_within pieces k.0 (piece_of layer n t) k.1) k.1 refl in
      let v = of.each w.0 (contains_from_get pieces (get_or numbers n 0) w.0 w.1) w.2 in
      let f : t ≡ v.0 = same_Some t v.0 (sym e ∙ ap (slice_get ts) (sym w.3) ∙ v.1) in
      w.1 ∙ ap (λ x. Some x) (v.2 ∙ ap (λ x. piece_of layer x v.0) w.3 ∙ ap (piece_of layer n) (sym f));
}

pub numbers_from : (layer : Layer) (ts : List Tile) (pieces : List Piece) (numbers : List ℕ) (count : ℕ)
    → count ≡ length ts → AreOfTiles layer ts pieces → AreTileNumbers layer count pieces (length pieces) numbers
    → AreNumbersOf layer ts pieces numbers
numbers_from layer ts pieces numbers count e of h =
    numbers_of layer ts pieces numbers of (subst (λ n. AreTileNumbers layer n pieces (length pieces) numbers) e h)
