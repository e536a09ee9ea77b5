-- The links that are made are those that conductors and channels ask for.
use Rattle.std.proofs.Common.{◌≡◌, ◌≢◌, ℕ, ◌⊎◌, inl, inr, List, length, refl, sym, ◌∙◌, ap, subst, subst₂, true, false}
use Rattle.std.specs.Prelude.{◌↔◌, ℤ, Contains, Option, Some, None, slice_get}
use Rattle.std.proofs.lemmas.Option.{same_Some, slice_get_within}
use Rattle.mp_base.proofs.Entries.{get_from_contains, contains_from_get, all_at}
use Rattle.lam_geom.specs.declared.layer.Layer.{Layer}
use Rattle.lam_geom.specs.declared.layer.Layer.TheVariants.{ND, NP, NM}
use Rattle.lam_geom.specs.declared.place.Point.{Point}
use Rattle.lam_geom.specs.declared.rect.Rect.{Rect}
use Rattle.lam_geom.specs.Chains.{Chain}
use Rattle.lam_geom.specs.Chains.Chain.{here, link}
use Rattle.lam_geom.specs.Squares.{Square, Adjoin, IsIn, ShareEdge, covered, RectanglesAreJoined}
use Rattle.lam_geom.proofs.Chains.{join_chains, one_link, turn_chain, map_chain}
use Rattle.mask_runs.specs.declared.mask.Mask.TheVariants.{Only, Diffusion, Contacts}
use Rattle.mask_runs.specs.Colours.{HasColour}
use Rattle.mask_runs.specs.Laws.{OneColour}
use Rattle.mask_tiles.specs.declared.tile.Tile.{Tile}
use Rattle.mask_tiles.specs.Tiles.{IsTile, AreTiles, AreWhole, InTile}
use Rattle.mask_tiles.specs.Touching.{AreTouching}
use Rattle.switch_net.specs.Conductors.{Conducts, ConductsOn, Joined, IsChannelSquare}
use Rattle.switch_net.specs.Conductors.Joined.{beside, contact}
use Rattle.union_find.specs.declared.pair.Pair.{Pair}
use Rattle.union_find.specs.Leasts.{Paired}
use Rattle.union_find.proofs.Chains.{turn_pair}
use Rattle.mask_pieces.specs.declared.piece.Part.{Part}
use Rattle.mask_pieces.specs.declared.piece.Part.TheVariants.{Conductor, Plain, Implanted}
use Rattle.mask_pieces.specs.declared.piece.Piece.{Piece}
use Rattle.mask_pieces.specs.Pieces.{is_conductor, AreNumbersOf, AreCutUp, HasConductor, HasChannel, ArePieces}
use Rattle.piece_classes.specs.Linking.{AreLinks, IsTouchLink, joins, AreTwo, column_of, IsContactLink}
use Rattle.piece_classes.specs.Linking.AreTwo.{upper, outer, lower}
use Rattle.mask_pieces.specs.Columns.{corner_point, square_at, IsPieceOver, AreOver}
use Rattle.piece_classes.proofs.Joining.{IsBy, joined_by, contact_coloured}
use Rattle.mask_pieces.proofs.CutUp.{tile_colour, tiled_metal, tiled_polysilicon, tiled_diffusion, conductor_in}
use Rattle.mask_pieces.proofs.CutUp.{channel_in, channel_layer, are_pieces}
use Rattle.piece_classes.proofs.Owning.{same_chain}
use Rattle.piece_classes.proofs.Linked.{EdgeLink, link_turned, edge_link, edge_chain, Through, through_turned}
use Rattle.piece_classes.proofs.Linked.{conductors_over_edge, channels_over_edge}
use Rattle.piece_classes.proofs.Linked.{conductors_through, no_channel_through}
use Rattle.piece_classes.proofs.Linked.{in_corner, conducting_layer, two_layers}

pub not_conductor : (p : Part) → p ≢ Conductor → is_conductor p ≡ false
not_conductor Conductor n = absurd (n refl)
not_conductor Plain n = refl
not_conductor Implanted n = refl

over_some : (shapes : List Rect) (pieces : List Piece) (l : Layer) (p : Point) (o : Option ℕ)
    → ConductsOn (covered shapes) l p.x p.y → IsPieceOver shapes pieces l p o
    → (k : ℕ) × (o ≡ Some k) × HasConductor pieces k (square_at l p)
over_some shapes pieces l p (Some k) c h = (k, refl, h)
over_some shapes pieces l p None c h = absurd (h c)

module _ (one : OneColour) (joined : RectanglesAreJoined) (shapes : List Rect)
    (contacts metal polysilicon diffusion : List Tile) (pm pp pd : List Pair) (pieces : List Piece) (nm np nd : List ℕ)
    (places : List Point) (cm cp cd : List (Option ℕ)) (links : List Pair)
    (cut : AreCutUp metal polysilicon diffusion pieces)
    (tm : AreTiles shapes (Only NM) metal) (wm : AreWhole shapes (Only NM) metal)
    (tp : AreTiles shapes (Only NP) polysilicon) (wp : AreWhole shapes (Only NP) polysilicon)
    (td : AreTiles shapes Diffusion diffusion) (wd : AreWhole shapes Diffusion diffusion)
    (tc : AreTiles shapes Contacts contacts) (wc : AreWhole shapes Contacts contacts)
    (touch_m : AreTouching metal pm) (touch_p : AreTouching polysilicon pp) (touch_d : AreTouching diffusion pd)
    (num_m : AreNumbersOf NM metal pieces nm) (num_p : AreNumbersOf NP polysilicon pieces np)
    (num_d : AreNumbersOf ND diffusion pieces nd)
    (corners : (n : ℕ) (t : Tile) → slice_get contacts n ≡ Some t → slice_get places n ≡ Some (corner_point t))
    (over_m : AreOver shapes pieces NM places cm) (over_p : AreOver shapes pieces NP places cp)
    (over_d : AreOver shapes pieces ND places cd)
    (has : (l : Pair)
    → Contains links l
    ↔ (((IsTouchLink pm nm pieces (length pm) l ⊎ IsTouchLink pp np pieces (length pp) l)
    ⊎ IsTouchLink pd nd pieces (length pd) l)
    ⊎ IsContactLink contacts cm cp cd (length contacts) l)) where
  pub are : ArePieces shapes pieces
  are = are_pieces one shapes metal polysilicon diffusion pieces cut tm wm tp wp td wd

  abbrev pub Crossing : ℕ → ℕ → Type 0
  Crossing i j = Through joined shapes pieces are i j

  -- the contact at a number, and its colour at its first square
  contact_at : (n : ℕ) (c : Tile) → slice_get contacts n ≡ Some c → HasColour shapes Contacts c.colour c.x0 c.y0
  contact_at n c e = let h = all_at (IsTile shapes Contacts) contacts n c tc.each e in
      tile_colour shapes Contacts c c.x0 c.y0 h (in_corner shapes Contacts c h)

  over_at : (l : Layer) (column : List (Option ℕ)) → AreOver shapes pieces l places column → (n : ℕ) (c : Tile)
      → slice_get contacts n ≡ Some c → (k : ℕ) → slice_get column n ≡ Some (Some k)
      → HasConductor pieces k (square_at l (corner_point c))
  over_at l column over n c e k f =
      let w = over.each n (corner_point c) (corners n c e) in
      let g : w.0 ≡ Some k = same_Some w.0 (Some k) (sym w.1 ∙ f) in
      subst (IsPieceOver shapes pieces l (corner_point c)) g w.2

  crossing : (l m : Layer) → (cl cn : List (Option ℕ)) → AreOver shapes pieces l places cl
      → AreOver shapes pieces m places cn → AreTwo l m → (n : ℕ) (c : Tile) → slice_get contacts n ≡ Some c
      → joins c.colour l ≡ true → joins c.colour m ≡ true
      → (a b : ℕ) → slice_get cl n ≡ Some (Some a) → slice_get cn n ≡ Some (Some b) → Crossing a b
  crossing l m cl cn ol om two n c e jl jm a b fa fb =
      let w = joined_by shapes c.colour c.x0 c.y0 (contact_at n c e) two jl jm in
      record {
        s = square_at l (corner_point c);
        t = square_at m (corner_point c);
        in_first = over_at l cl ol n c e a fa;
        in_second = over_at m cn om n c e b fb;
        contact = record { from = w.0; to = w.1; x = refl; y = refl; by = w.2 };
      }

  crossing_of : {l m : Layer} → AreTwo l m → (n : ℕ) (c : Tile) → slice_get contacts n ≡ Some c
      → joins c.colour l ≡ true → joins c.colour m ≡ true → (a b : ℕ)
      → slice_get (column_of cm cp cd l) n ≡ Some (Some a) → slice_get (column_of cm cp cd m) n ≡ Some (Some b)
      → Crossing a b
  crossing_of upper n c e jl jm a b fa fb = crossing NM NP cm cp over_m over_p upper n c e jl jm a b fa fb
  crossing_of outer n c e jl jm a b fa fb = crossing NM ND cm cd over_m over_d outer n c e jl jm a b fa fb
  crossing_of lower n c e jl jm a b fa fb = crossing NP ND cp cd over_p over_d lower n c e jl jm a b fa fb

  -- each link is one over an edge or through a contact
  pub kind : (l : Pair) → Contains links l → EdgeLink pieces l.a l.b ⊎ Crossing l.a l.b
  kind l c = elim ((has l).0 c) [
    | inl (inl (inl t)) ↦ inl (edge_link NM metal pm nm pieces touch_m num_m l t)
    | inl (inl (inr t)) ↦ inl (edge_link NP polysilicon pp np pieces touch_p num_p l t)
    | inl (inr t) ↦ inl (edge_link ND diffusion pd nd pieces touch_d num_d l t)
    | inr t ↦ inr (crossing_of t.two t.at t.contact t.is t.joins_one t.joins_other l.a l.b t.first t.second)
  ]

  oriented : (i j : ℕ) → Paired links i j → EdgeLink pieces i j ⊎ Crossing i j
  oriented i j p = elim p.ends [
    | inl e ↦ subst₂ (λ a b. EdgeLink pieces a b ⊎ Crossing a b) e.0 e.1 (kind p.pair p.among)
    | inr e ↦ subst₂ (λ a b. EdgeLink pieces a b ⊎ Crossing a b) e.1 e.0 (elim (kind p.pair p.among) [
      | inl k ↦ inl (link_turned pieces p.pair.a p.pair.b k)
      | inr k ↦ inr (through_turned joined shapes pieces are p.pair.a p.pair.b k)
    ])
  ]

  conductors_back : (i j : ℕ) (s : Square) → Paired links i j → HasConductor pieces i s
      → (t : Square) × HasConductor pieces j t × Chain (Joined (covered shapes)) s t
  conductors_back i j s p h = elim (oriented i j p) [
    | inl e ↦ conductors_over_edge joined shapes pieces are i j s e h
    | inr e ↦ conductors_through joined shapes pieces are i j s e h
  ]

  channels_back : (i j : ℕ) (s : Square) → Paired links i j → HasChannel pieces i s
      → (t : Square) × HasChannel pieces j t × Chain (Adjoin (IsChannelSquare (covered shapes))) s t
  channels_back i j s p h = elim (oriented i j p) [
    | inl e ↦ channels_over_edge joined shapes pieces are i j s e h
    | inr e ↦ absurd (no_channel_through joined shapes pieces are i j s e h)
  ]

  -- ---- and the other way round

  has_metal : (l : Pair) → IsTouchLink pm nm pieces (length pm) l → Contains links l
  has_metal l t = (has l).1 (inl (inl (inl t)))

  has_polysilicon : (l : Pair) → IsTouchLink pp np pieces (length pp) l → Contains links l
  has_polysilicon l t = (has l).1 (inl (inl (inr t)))

  has_diffusion : (l : Pair) → IsTouchLink pd nd pieces (length pd) l → Contains links l
  has_diffusion l t = (has l).1 (inl (inr t))

  conductors_beside : (i j : ℕ) (s t : Square) → s.layer ≡ t.layer → ShareEdge s t → HasConductor pieces i s
      → HasConductor pieces j t → Chain (Paired links) i j
  conductors_beside i j s t same b h g =
      let alike : is_conductor h.piece.part ≡ is_conductor g.piece.part = ap is_conductor (h.part ∙ sym g.part) in
      let layer : g.piece.rect.layer ≡ h.piece.rect.layer = g.is.same ∙ sym same ∙ sym h.is.same in
      elim (cut.layers h.piece (contains_from_get pieces i h.piece h.at)) [
        | inl e ↦
            let v = tiled_metal one shapes metal polysilicon diffusion pieces cut tm wm tp wp td wd i h.piece h.at e in
            let w = tiled_metal one shapes metal polysilicon diffusion pieces cut tm wm tp wp td wd j g.piece g.at
            (layer ∙ e) in
            edge_chain NM metal pm nm pieces touch_m num_m shapes
            (Only NM) cut.ascending links has_metal i j h.piece g.piece v w h.at g.at alike s.x s.y t.x t.y
            (conductor_in one shapes metal polysilicon diffusion pieces cut tm wm tp wp td wd i s h NM
            (Only NM) metal v)
            (conductor_in one shapes metal polysilicon diffusion pieces cut tm wm tp wp td wd j t g NM
            (Only NM) metal w) b
        | inr (inl e) ↦
            let v = tiled_polysilicon one shapes metal polysilicon diffusion pieces cut tm wm tp wp td wd i h.piece
            h.at e in
            let w = tiled_polysilicon one shapes metal polysilicon diffusion pieces cut tm wm tp wp td wd j g.piece
            g.at (layer ∙ e) in
            edge_chain NP polysilicon pp np pieces touch_p num_p shapes
            (Only NP) cut.ascending links has_polysilicon i j h.piece g.piece v w h.at g.at alike s.x s.y t.x t.y
            (conductor_in one shapes metal polysilicon diffusion pieces cut tm wm tp wp td wd i s h NP
            (Only NP) polysilicon v)
            (conductor_in one shapes metal polysilicon diffusion pieces cut tm wm tp wp td wd j t g NP
            (Only NP) polysilicon w) b
        | inr (inr e) ↦
            let v = tiled_diffusion one shapes metal polysilicon diffusion pieces cut tm wm tp wp td wd i h.piece h.at
            e in
            let w = tiled_diffusion one shapes metal polysilicon diffusion pieces cut tm wm tp wp td wd j g.piece g.at
            (layer ∙ e) in
            edge_chain ND diffusion pd nd pieces touch_d num_d shapes Diffusion cut.ascending links has_diffusion i j
            h.piece g.piece v w h.at g.at alike s.x s.y t.x t.y
            (conductor_in one shapes metal polysilicon diffusion pieces cut tm wm tp wp td wd i s h ND Diffusion
            diffusion v)
            (conductor_in one shapes metal polysilicon diffusion pieces cut tm wm tp wp td wd j t g ND Diffusion
            diffusion w) b
      ]

  channels_beside : (i j : ℕ) (s t : Square) → Adjoin (IsChannelSquare (covered shapes)) s t → HasChannel pieces i s
      → HasChannel pieces j t → Chain (Paired links) i j
  channels_beside i j s t a h g =
      let v = tiled_diffusion one shapes metal polysilicon diffusion pieces cut tm wm tp wp td wd i h.piece h.at
      (channel_layer one shapes metal polysilicon diffusion pieces cut tm wm tp wp td wd i s h) in
      let w = tiled_diffusion one shapes metal polysilicon diffusion pieces cut tm wm tp wp td wd j g.piece g.at
      (channel_layer one shapes metal polysilicon diffusion pieces cut tm wm tp wp td wd j t g) in
      edge_chain ND diffusion pd nd pieces touch_d num_d shapes Diffusion cut.ascending links has_diffusion i j h.piece
      g.piece v w h.at g.at
      (not_conductor h.piece.part h.part ∙ sym (not_conductor g.piece.part g.part)) s.x s.y t.x t.y
      (channel_in one shapes metal polysilicon diffusion pieces cut tm wm tp wp td wd i s h ND Diffusion diffusion v)
      (channel_in one shapes metal polysilicon diffusion pieces cut tm wm tp wp td wd j t g ND Diffusion diffusion w)
      a.beside

  -- a chain of neighbours on one layer
  along : {s t : Square} → Chain (Adjoin (Conducts (covered shapes))) s t → (i j : ℕ) → HasConductor pieces i s
      → HasConductor pieces j t → Chain (Paired links) i j
  along (here {s = s}) i j h g = same_chain i j (are.one_conductor i j s h g)
  along (link {s = s} {t = u} a c) i j h g =
      let k = are.conductor u a.to in
      join_chains (conductors_beside i k.0 s u a.same a.beside h k.1) (along c k.0 j k.1 g)

  -- a layer that a contact joins conducts on all of its tile
  over_tile : (l : Layer) (c : Tile) → ((x y : ℤ) → InTile c x y → ConductsOn (covered shapes) l x y) → (p q : Point)
      → InTile c p.x p.y → InTile c q.x q.y → Chain (Adjoin (Conducts (covered shapes))) (square_at l p) (square_at l q)
  over_tile l c all p q ip iq =
      let r : Rect = record { layer = l; x0 = c.x0; y0 = c.y0; x1 = c.x1; y1 = c.y1 } in
      let at : (s : Square) → IsIn r s
      → Conducts (covered shapes) s = λ s i. subst (λ m. ConductsOn (covered shapes) m s.x s.y) i.same
      (all s.x s.y (record { left = i.left; right = i.right; bottom = i.bottom; top = i.top })) in
      map_chain (λ s t a. record { from = at s a.from; to = at t a.to; same = a.same; beside = a.beside })
      (joined r (square_at l p) (square_at l q)
      (record { same = refl; left = ip.left; right = ip.right; bottom = ip.bottom; top = ip.top })
      (record { same = refl; left = iq.left; right = iq.right; bottom = iq.bottom; top = iq.top }))

  across_of : (l m : Layer) (cl cn : List (Option ℕ)) → AreOver shapes pieces l places cl
      → AreOver shapes pieces m places cn → AreTwo l m
      → ((n : ℕ) → slice_get cl n ≡ slice_get (column_of cm cp cd l) n)
      → ((n : ℕ) → slice_get cn n ≡ slice_get (column_of cm cp cd m) n)
      → (p : Point) (i j : ℕ) → HasConductor pieces i (square_at l p) → HasConductor pieces j (square_at m p)
      → IsBy shapes p.x p.y l m → Chain (Paired links) i j
  across_of l m cl cn ol om two el em p i j h g by =
      let k = contact_coloured shapes p.x p.y two (are.conducts i (square_at l p) h)
      (are.conducts j (square_at m p) g) by in
      let w = wc.tile k.0 p.x p.y k.2 k.1 in
      let c : Tile = w.0 in
      let n = get_from_contains contacts c w.1 in
      let is = all_at (IsTile shapes Contacts) contacts n.0 c tc.each n.1 in
      let jl : joins c.colour l ≡ true = ap (λ z. joins z l) w.2 ∙ k.3 in
      let jm : joins c.colour m ≡ true = ap (λ z. joins z m) w.2 ∙ k.4 in
      let both =
      λ (x y : ℤ) (t : InTile c x y). joined_by shapes c.colour x y
      (tile_colour shapes Contacts c x y is t) two jl jm in
      let q : Point = corner_point c in
      let iq : InTile c q.x q.y = in_corner shapes Contacts c is in
      let vl = ol.each n.0 q (corners n.0 c n.1) in
      let vm = om.each n.0 q (corners n.0 c n.1) in
      let ul = over_some shapes pieces l q vl.0 ((both q.x q.y iq).0) vl.2 in
      let um = over_some shapes pieces m q vm.0 ((both q.x q.y iq).1) vm.2 in
      let pair : Pair = record { a = ul.0; b = um.0 } in
      let among : Contains links pair = (has pair).1 (inr (record {
        at = n.0;
        before = slice_get_within contacts n.0 c n.1;
        contact = c;
        is = n.1;
        one = l;
        other = m;
        two = two;
        joins_one = jl;
        joins_other = jm;
        first = sym (el n.0) ∙ vl.1 ∙ ap (λ z. Some z) ul.1;
        second = sym (em n.0) ∙ vm.1 ∙ ap (λ z. Some z) um.1;
      })) in
      join_chains (along (over_tile l c (λ x y t. (both x y t).0) p q w.3 iq) i ul.0 h ul.2)
      (join_chains (one_link (record { pair = pair; among = among; ends = inl (refl, refl) }))
      (along (over_tile m c (λ x y t. (both x y t).1) q p iq w.3) um.0 j um.2 g))

  across : {l m : Layer} → AreTwo l m → (p : Point) (i j : ℕ) → HasConductor pieces i (square_at l p)
      → HasConductor pieces j (square_at m p) → IsBy shapes p.x p.y l m → Chain (Paired links) i j
  across upper = across_of NM NP cm cp over_m over_p upper (λ n. refl) (λ n. refl)
  across outer = across_of NM ND cm cd over_m over_d outer (λ n. refl) (λ n. refl)
  across lower = across_of NP ND cp cd over_p over_d lower (λ n. refl) (λ n. refl)

  moved : (i : ℕ) (s t : Square) → s.x ≡ t.x → s.y ≡ t.y → HasConductor pieces i t
      → HasConductor pieces i (record { layer = t.layer; x = s.x; y = s.y })
  moved i s t ex ey h =
      subst₂ (λ x y. HasConductor pieces i (record { layer = t.layer; x = x; y = y })) (sym ex) (sym ey) h

  conductors : (i j : ℕ) (s t : Square) → Joined (covered shapes) s t → HasConductor pieces i s
      → HasConductor pieces j t → Chain (Paired links) i j
  conductors i j s t (beside a) h g = conductors_beside i j s t a.same a.beside h g
  conductors i j s t (contact c) h g =
      let p : Point = record { x = s.x; y = s.y } in
      let k : HasConductor pieces j (square_at t.layer p) = moved j s t c.x c.y g in
      elim (two_layers s.layer t.layer (conducting_layer shapes s.layer s.x s.y c.from)
      (conducting_layer shapes t.layer t.x t.y c.to)) [
        | inl e ↦
            same_chain i j (are.one_conductor i j s h (subst (λ l. HasConductor pieces j (square_at l p)) (sym e) k))
        | inr (inl two) ↦ across two p i j h k c.by
        | inr (inr two) ↦
            turn_chain (turn_pair links)
            (across two p j i k h (elim c.by [ inl e ↦ inl e | inr e ↦ inr (e.0, e.2, e.1) ]))
      ]

  pub are_links : AreLinks shapes pieces links
  are_links =
      record {
        conductors = conductors;
        channels = channels_beside;
        conductors_back = conductors_back;
        channels_back = channels_back;
      }
