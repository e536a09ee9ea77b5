-- The pads of a frame beside a fabric are glued to the nets of their ports.
use Rattle.std.proofs.Common.{◌≡◌, ◌⊎◌, ◌<◌, ◌≤◌, ◌+◌, ◌-◌, ◌*◌, ℕ, zero, suc, inl, inr, refl, sym, ◌∙◌}
use Rattle.std.proofs.Common.{ap, subst, subst₂}
use Rattle.std.proofs.Common.{List, [], ◌∷◌, ◌++◌, length, get_or, map, arith, Contains}
use Rattle.std.specs.Prelude.{ℤ, pos, ◌+ℤ◌, ◌-ℤ◌, ◌*ℤ◌, ◌≤ℤ◌, ◌<ℤ◌, flat_map, All, AllPairs}
use Rattle.std.specs.List.{range_with_len}
use Rattle.std.proofs.lemmas.Int.{ints, by_lt_z}
use Rattle.std.proofs.lemmas.Bool.{cases_lt}
use Rattle.std.proofs.lemmas.List.{get_or_default}
use Rattle.std.proofs.lemmas.List.Elements.{All-cons}
use Rattle.mp_base.proofs.Contents.{contains_from_map}
use Rattle.mp_base.proofs.Members.{contains_member, range_members}
use Rattle.lam_geom.specs.declared.layer.Layer.{Layer}
use Rattle.lam_geom.specs.declared.layer.Layer.TheVariants.{NM, NC}
use Rattle.lam_geom.specs.declared.rect.Rect.{Rect}
use Rattle.lam_geom.specs.Chains.{Chain}
use Rattle.lam_geom.specs.Squares.{Square, Adjoin, ShareEdge, IsIn, covered, RectanglesAreJoined}
use Rattle.lam_geom.proofs.Adjoins.{adjoin_map}
use Rattle.lam_geom.proofs.Chains.{map_chain}
use Rattle.switch_net.specs.Conductors.{ConductsOn, Conducts, Joined}
use Rattle.switch_net.specs.Conductors.Joined.{beside}
use Rattle.tile_cells.specs.declared.tile.Tile.TheVariants.{Under}
use Rattle.fabric.specs.declared.thing.Mark.{Mark}
use Rattle.fabric.specs.Plan.{Plan, IsFabric, bands, rows_of}
use Rattle.fabric.specs.Shape.{base, ground_trunk, shape}
use Rattle.fabric.proofs.Bases.{bands_lie}
use Rattle.fabric_laws.specs.West.{crossing_low, IsCrossingAt, IsBeginning, FacesWest, FabricsFaceWest}
use Rattle.metal_pieces.specs.Pieces.{metal, IsOf, AreNear, IsConnected, AreFar, all_of}
use Rattle.metal_pieces.proofs.Connected.{one_connected, both_connected}
use Rattle.metal_pieces.proofs.Covering.{all_of_map}
use Rattle.mask_gluing.specs.Gluing.{Touches, IsGlued, AreGlued}
use Rattle.pad_frame.specs.declared.frames.PadWish.{PadWish}
use Rattle.pad_frame.specs.declared.frames.Framed.{Framed}
use Rattle.pad_frame.specs.Frames.{row_at, piece_of, AreFramed}
use Rattle.chip_pads.specs.Ports.{bridge, ArePorts, pieces_of, PadsAreGlued, PadsAreDrawn}

-- ---- lists

all_contained : {A : Type 0} (P : A → Type 0) (xs : List A) → ((x : A) → Contains xs x → P x) → All P xs
all_contained P xs h i d l = h (get_or xs i d) (i, l, get_or_default xs i (get_or xs i d) d l)

mapped_count : {A : Type 0} (g : ℕ → A) (a n : ℕ) → length (map g (range_with_len a n)) ≡ n
mapped_count g a zero = refl
mapped_count g a (suc n) = ap suc (mapped_count g (a + 1) n)

pub mapped_at : {A : Type 0} (g : ℕ → A) (a n k : ℕ) (d : A) → k < n
    → get_or (map g (range_with_len a n)) k d ≡ g (a + k)
mapped_at g a zero k d h = absurd (omega arith)
mapped_at g a (suc n) zero d h = ap g (let e : a ≡ a + 0 = omega arith in e)
mapped_at g a (suc n) (suc k) d h =
    mapped_at g (a + 1) n k d (omega arith) ∙ ap g (let e : a + 1 + k ≡ a + suc k = omega arith in e)

module _ (joined : RectanglesAreJoined) (f : Plan) (w : IsFabric f) (west : FacesWest f) (wishes : List PadWish)
    (framed : Framed) (fr : AreFramed wishes framed) (ports : ArePorts f wishes) where
  abbrev Old : Layer → ℤ → ℤ → Type 0
  Old = covered (shape f)

  -- a conductor near a square of metal is metal
  near_metal : (s t : Square) → s.layer ≡ NM → AreNear s t → Conducts Old t → Old NM t.x t.y
  near_metal s t e n c = subst (λ l. ConductsOn Old l t.x t.y) (sym n.0 ∙ e) c

  -- ---- a port of a crossing
  module _ (j : ℕ) (h : j < length wishes) (m : Mark) (mm : Contains f.marks m) (mt : m.tile ≡ Under)
      (e : row_at wishes j ≡ pos (crossing_low f m)) where
    -- what touches the piece is of the beginning of the crossing
    pub beginning : (t : Square) → Touches (shape f) (piece_of wishes j) t → IsBeginning f m t
    beginning t a =
        let p = (fr.port j h).only a.s a.of in
        let p1 = p.1 in
        let c = near_metal a.s t p.0 a.near a.conducts in
        let x0 = west.east NM t.x t.y c in
        let n = a.near.1 in
        let at : a.s.x ≡ pos 0 -ℤ pos 1 = omega (arith, ints) in
        let y = p.2 at in let y0 = y.0 in let y1 = y.1 in
        record {
          at = record { among = mm; tile = mt; low = omega (arith, ints); high = omega (arith, ints) };
          layer = sym a.near.0 ∙ p.0;
          left = x0;
          right = omega (arith, ints);
        }

    abbrev first : Square
    first = record { layer = NM; x = pos 0; y = pos (500 * crossing_low f m) }

    begins : IsBeginning f m first
    begins = record {
      at = record { among = mm; tile = mt; low = omega (arith, ints); high = omega (arith, ints) };
      layer = refl;
      left = omega (arith, ints);
      right = omega (arith, ints);
    }

    port_glued : IsGlued (shape f) (piece_of wishes j)
    port_glued = record {
      metal = λ s i. ((fr.port j h).only s i).0;
      whole = fr.connected j h;
      uncut = λ s i c. (let a = ((fr.port j h).only s i).1 in let b = west.east NC s.x s.y c in omega (arith, ints));
      some = (
        first,
        record {
          s = record { layer = NM; x = pos 0 -ℤ pos 1; y = pos (500 * crossing_low f m) };
          of = (fr.port j h).at_port (pos (500 * crossing_low f m)) (omega (arith, ints)) (omega (arith, ints));
          conducts = west.drawn m first begins;
          near = (refl, inr (inl (refl, inl (omega (arith, ints)))));
        },
      );
      one = λ t u a b. west.one m t u (beginning t a) (beginning u b);
    }

  -- ---- ground
  zero_in : 0 < length wishes
  zero_in = let s = ports.some in omega arith

  pub tall : 36 ≤ base f (bands f)
  tall = let z = bands_lie f 0 (bands f) in let b = w.bands in omega arith

  -- no crossing is as low as the row of ground
  pub not_low : (l : Layer) → (l ≡ NM) ⊎ (l ≡ NC) → (x y : ℤ) → Old l x y → x <ℤ pos 3500 → y <ℤ pos 9000 → ⊥
  not_low l e x y c a b =
      let m = west.only l x y e c a in
      let g = west.above m.0 m.1.among m.1.tile in
      let k = m.1.low in
      omega (arith, ints)

  abbrev ground_piece : List Rect
  ground_piece = bridge ∷ piece_of wishes 0

  of_ground : (s : Square) → IsOf ground_piece s
      → (s.layer ≡ NM) × (s.x <ℤ pos 3500) × (((s.x <ℤ pos 0)
      × ((s.x ≡ pos 0 -ℤ pos 1) → (pos 3000 ≤ℤ s.y) × (s.y <ℤ pos 5000)))
      ⊎ ((pos 0 ≤ℤ s.x) × (pos 3000 ≤ℤ s.y) × (s.y <ℤ pos 5000)))
  of_ground s (inl i) =
      let i0 = i.left in let i1 = i.right in let i2 = i.bottom in let i3 = i.top in
      (sym i.same, omega (arith, ints), inr (omega (arith, ints), omega (arith, ints), omega (arith, ints)))
  of_ground s (inr i) =
      let p = (fr.port 0 zero_in).only s i in
      let g = ports.ground in
      let p1 = p.1 in (
        p.0,
        omega (arith, ints),
        inl (p.1, λ e. (let y = p.2 e in let y0 = y.0 in let y1 = y.1 in (omega (arith, ints), omega (arith, ints)))),
      )

  -- what touches the piece is of the trunk
  pub on_trunk : (t : Square) → Touches (shape f) ground_piece t → IsIn (ground_trunk f) t
  on_trunk t a =
      let p = of_ground a.s a.of in
      let p1 = p.1 in
      let p2 = p.2 in
      let c = near_metal a.s t p.0 a.near a.conducts in
      let x0 = west.east NM t.x t.y c in
      let n = a.near.1 in
      let z = tall in
      elim (by_x t) [
        | inl l ↦ absurd (not_low NM (inl refl) t.x t.y c l (low a.s t p.2 a.near.1 x0))
        | inr r ↦ at_edge a.s t p.0 a.near.0 p.1 p.2 a.near.1 r
      ]
    where
      by_x : (t : Square) → (t.x <ℤ pos 3500) ⊎ (pos 3500 ≤ℤ t.x)
      by_x t = by_lt_z t.x (pos 3500) (λ l. inl l) (λ l. inr l)

      low : (s t : Square) → (((s.x <ℤ pos 0)
          × ((s.x ≡ pos 0 -ℤ pos 1) → (pos 3000 ≤ℤ s.y) × (s.y <ℤ pos 5000)))
          ⊎ ((pos 0 ≤ℤ s.x) × (pos 3000 ≤ℤ s.y) × (s.y <ℤ pos 5000)))
          → ((s.x ≡ t.x) × (s.y ≡ t.y) ⊎ ShareEdge s t) → pos 0 ≤ℤ t.x → t.y <ℤ pos 9000
      low s t (inl (a, b)) n x0 =
          let e : s.x ≡ pos 0 -ℤ pos 1 = omega (arith, ints) in
          let y = b e in let y1 = y.1 in
          omega (arith, ints)
      low s t (inr (a, b, c)) n x0 = omega (arith, ints)

      at_edge : (s t : Square) → s.layer ≡ NM → s.layer ≡ t.layer → s.x <ℤ pos 3500 → (((s.x <ℤ pos 0)
          × ((s.x ≡ pos 0 -ℤ pos 1) → (pos 3000 ≤ℤ s.y) × (s.y <ℤ pos 5000)))
          ⊎ ((pos 0 ≤ℤ s.x) × (pos 3000 ≤ℤ s.y) × (s.y <ℤ pos 5000)))
          → ((s.x ≡ t.x) × (s.y ≡ t.y) ⊎ ShareEdge s t) → pos 3500 ≤ℤ t.x → IsIn (ground_trunk f) t
      at_edge s t e g b (inl (a, c)) n r = absurd (omega (arith, ints))
      at_edge s t e g b (inr (a, c, d)) n r =
          let z = tall in
          record {
            same = sym e ∙ g;
            left = omega (arith, ints);
            right = omega (arith, ints);
            bottom = omega (arith, ints);
            top = omega (arith, ints);
          }

  pub trunk_conducts : (t : Square) → IsIn (ground_trunk f) t → Conducts Old t
  trunk_conducts t i =
      subst (λ l. ConductsOn Old l t.x t.y) i.same (subst (λ l. Old l t.x t.y) (sym i.same) (inl i))

  ground_glued : IsGlued (shape f) ground_piece
  ground_glued = record {
    metal = λ s i. (of_ground s i).0;
    whole = both_connected (bridge ∷ []) (piece_of wishes 0) (one_connected joined bridge) (fr.connected 0 zero_in)
        (record {
          s = record { layer = NM; x = pos 0; y = pos 3000 };
          t = record { layer = NM; x = pos 0 -ℤ pos 1; y = pos 3000 };
          in_first = inl (record {
            same = refl;
            left = omega (arith, ints);
            right = omega (arith, ints);
            bottom = omega (arith, ints);
            top = omega (arith, ints);
          });
          in_second = (let g = ports.ground in
              (fr.port 0 zero_in).at_port (pos 3000) (omega (arith, ints)) (omega (arith, ints)));
          near = (refl, inr (inl (refl, inr (omega (arith, ints)))));
        });
    uncut = λ s i c. (let p = of_ground s i in let x0 = west.east NC s.x s.y c in
        not_low NC (inr refl) s.x s.y c p.1 (let p2 = p.2 in omega (arith, ints)));
    some = (
      record { layer = NM; x = pos 3500; y = pos 3000 },
      record {
        s = record { layer = NM; x = pos 3499; y = pos 3000 };
        of = inl (record {
          same = refl;
          left = omega (arith, ints);
          right = omega (arith, ints);
          bottom = omega (arith, ints);
          top = omega (arith, ints);
        });
        conducts = inl (let z = tall in record {
          same = refl;
          left = omega (arith, ints);
          right = omega (arith, ints);
          bottom = omega (arith, ints);
          top = omega (arith, ints);
        });
        near = (refl, inr (inl (refl, inl (omega (arith, ints)))));
      },
    );
    one = λ t u a b. map_chain (λ p q k. beside
        (adjoin_map (IsIn (ground_trunk f)) (Conducts Old) trunk_conducts p q k))
        (joined (ground_trunk f) t u (on_trunk t a) (on_trunk u b));
  }

  -- ground's piece and that of a crossing
  ground_far : (j : ℕ) → 1 ≤ j → (h : j < length wishes) → AreFar ground_piece (piece_of wishes j)
  ground_far j l h s t (inr i) k n = fr.apart 0 j (omega arith) h s t i k n
  ground_far j l h s t (inl i) k n =
      let o = ports.others j l h in
      let e = o.3 in
      let g = west.above o.0 o.1 o.2 in
      let p = (fr.port j h).only t k in
      let p1 = p.1 in
      let i0 = i.left in
      let i3 = i.top in
      let near = n.1 in
      let at : t.x ≡ pos 0 -ℤ pos 1 = omega (arith, ints) in
      let y = p.2 at in let y0 = y.0 in
      omega (arith, ints)

  abbrev others : List (List Rect)
  others = map (piece_of wishes) (range_with_len 1 (length wishes - 1))

  pub pads_are_glued : AreGlued (shape f) (pieces_of wishes)
  pads_are_glued = record {
    each = All-cons (IsGlued (shape f)) ground_piece others ground_glued
        (all_contained (IsGlued (shape f)) others (λ p c.
        (let k = contains_from_map (piece_of wishes) (range_with_len 1 (length wishes - 1)) p c in
        let r = range_members 1 (length wishes - 1) k.0 (contains_member _ _ k.1) in
        let h : k.0 < length wishes = let r1 = r.1 in let s = ports.some in omega arith in
        let o = ports.others k.0 r.0 h in
        subst (IsGlued (shape f)) k.2 (port_glued k.0 h o.0 o.1 o.2 o.3))));
    apart = λ i j d l k. pair i j d l k;
  }
    where
      count : length (map (piece_of wishes) (range_with_len 1 (length wishes - 1))) ≡ length wishes - 1
      count = mapped_count (piece_of wishes) 1 (length wishes - 1)

      pair : (i j : ℕ) (d : List Rect) → i < j → j < length (pieces_of wishes)
          → AreFar (get_or (pieces_of wishes) i d) (get_or (pieces_of wishes) j d)
      pair i zero d l k = absurd (omega arith)
      pair zero (suc j) d l k =
          let c = count in
          subst (AreFar ground_piece)
          (sym (mapped_at (piece_of wishes) 1 (length wishes - 1) j d (omega (arith, k, c))))
          (ground_far (1 + j) (omega arith) (omega (arith, k, c)))
      pair (suc i) (suc j) d l k =
          let c = count in
          subst₂ AreFar (sym (mapped_at (piece_of wishes) 1 (length wishes - 1) i d (omega (arith, l, k, c))))
          (sym (mapped_at (piece_of wishes) 1 (length wishes - 1) j d (omega (arith, k, c))))
          (fr.apart (1 + i) (1 + j) (omega (arith, l)) (omega (arith, k, c)))

pub pads_glued : RectanglesAreJoined → FabricsFaceWest → PadsAreGlued
pads_glued joined faces f w wishes framed fr ports = pads_are_glued joined f w (faces f w) wishes framed fr ports

pub pads_drawn : PadsAreDrawn
pads_drawn wishes framed fr some = ap (λ z. bridge ∷ z) (fr.drawn ∙ by_length (length wishes) some refl)
  where
    by_length : (n : ℕ) → 1 ≤ n → length wishes ≡ n
        → flat_map (piece_of wishes) (range_with_len 0 n)
        ≡ piece_of wishes 0 ++ all_of (map (piece_of wishes) (range_with_len 1 (n - 1)))
    by_length zero h e = absurd (omega arith)
    by_length (suc n) h e =
        let m : n ≡ suc n - 1 = omega arith in
        ap (λ z. piece_of wishes 0 ++ z) (sym (all_of_map (piece_of wishes) (range_with_len 1 n)))
        ∙ ap (λ z. piece_of wishes 0 ++ all_of (map (piece_of wishes) (range_with_len 1 z))) m
