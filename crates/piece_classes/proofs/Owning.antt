-- Pieces own the conductors and the squares of channels.
use Rattle.std.proofs.Common.{◌≡◌, ℕ, ◌<◌, ◌≤◌, inl, inr, List, length, refl, sym, ◌∙◌, ap, subst, subst₂, arith}
use Rattle.std.specs.Prelude.{AllPairs}
use Rattle.std.proofs.lemmas.Bool.{cases_eq}
use Rattle.std.proofs.lemmas.Int.{ints}
use Rattle.std.proofs.lemmas.Option.{same_Some, slice_get_within, get_or_from_slice_get}
use Rattle.lam_geom.specs.declared.layer.Layer.{Layer}
use Rattle.lam_geom.specs.declared.layer.Layer.TheVariants.{ND, NP}
use Rattle.lam_geom.specs.declared.rect.Rect.{Rect}
use Rattle.lam_geom.specs.Chains.{Chain}
use Rattle.lam_geom.specs.Chains.Chain.{here}
use Rattle.lam_geom.specs.Squares.{Square, Adjoin, IsIn, Before, rank, covered, RectanglesAreJoined}
use Rattle.lam_geom.proofs.Chains.{map_chain}
use Rattle.switch_net.specs.Conductors.{Conducts, Joined, IsChannelSquare}
use Rattle.switch_net.specs.Conductors.Joined.{beside, contact}
use Rattle.union_find.specs.declared.pair.Pair.{Pair}
use Rattle.union_find.specs.Leasts.{Paired}
use Rattle.mask_pieces.specs.declared.piece.Piece.{Piece}
use Rattle.mask_pieces.specs.Pieces.{corner_on, on, IsBefore, HasConductor, HasChannel, ArePieces}
use Rattle.piece_classes.specs.Linking.{AreLinks}
use Rattle.mask_pieces.specs.Pieces.{first_conductor, first_channel}
use Rattle.piece_classes.proofs.Owners.{AreOwners}
use Rattle.mask_pieces.proofs.CutUp.{pairs_at}

pub same_chain : {pairs : List Pair} (i j : ℕ) → i ≡ j → Chain (Paired pairs) i j
same_chain {pairs = pairs} i j e = subst (λ k. Chain (Paired pairs) i k) e here

-- what stands in a rectangle is not before the first square of one that begins earlier
behind : (l m : Layer) (r q : Rect) (s : Square) → Before (corner_on l r) (corner_on m q) → IsIn (on m q) s
    → ¬ Before s (corner_on l r)
behind l m r q s b i a =
    let x = i.left in
    let y = i.bottom in
    let k : rank m ≡ rank s.layer = ap rank i.same in
    absurd (omega (arith, ints))

not_first : (m : Layer) (q : Rect) (s : Square) → IsIn (on m q) s → ¬ Before s (corner_on m q)
not_first m q s i a =
    let x = i.left in
    let y = i.bottom in
    let k : rank m ≡ rank s.layer = ap rank i.same in
    absurd (omega (arith, ints))

begins : (l : Layer) (r : Rect) (s : Square) → IsIn (on l r) s → IsIn (on l r) (corner_on l r)
begins l r s i =
    let a = i.left in
    let b = i.right in
    let c = i.bottom in
    let d = i.top in
    record {
      same = refl;
      left = omega (arith, ints);
      right = omega (arith, ints);
      bottom = omega (arith, ints);
      top = omega (arith, ints);
    }

-- on one layer the order of two rectangles is the same
on_one_layer : (l : Layer) (p q : Piece) → p.rect.layer ≡ q.rect.layer → IsBefore p q
    → Before (corner_on l p.rect) (corner_on l q.rect)
on_one_layer l p q e (inl a) = inl a
on_one_layer l p q e (inr (inl a)) = inr (inl a)
on_one_layer l p q e (inr (inr a)) = let k : rank p.rect.layer ≡ rank q.rect.layer = ap rank e in let b = a.2 in
    absurd (omega arith)

module _ (joined : RectanglesAreJoined) (shapes : List Rect) (pieces : List Piece) (are : ArePieces shapes pieces) where
  pub channel_one : (k : ℕ) (s t : Square) → HasChannel pieces k s → HasChannel pieces k t
      → Chain (Adjoin (IsChannelSquare (covered shapes))) s t
  channel_one k s t h g =
      let e : h.piece ≡ g.piece = same_Some h.piece g.piece (sym h.at ∙ g.at) in
      let has : (u : Square) → IsIn (on NP h.piece.rect) u
      → IsChannelSquare (covered shapes) u = λ u i. are.channels k u
      (record { piece = h.piece; at = h.at; part = h.part; is = i }) in
      map_chain (λ u v j. record { from = has u j.from; to = has v j.to; same = j.same; beside = j.beside })
      (joined (on NP h.piece.rect) s t h.is (subst (λ (p : Piece). IsIn (on NP p.rect) t) (sym e) g.is))

  pub conductor_one : (k : ℕ) (s t : Square) → HasConductor pieces k s → HasConductor pieces k t
      → Chain (Joined (covered shapes)) s t
  conductor_one k s t h g =
      let e : h.piece ≡ g.piece = same_Some h.piece g.piece (sym h.at ∙ g.at) in
      let has : (u : Square) → IsIn h.piece.rect u
      → Conducts (covered shapes) u = λ u i. are.conducts k u
      (record { piece = h.piece; at = h.at; part = h.part; is = i }) in
      map_chain (λ u v j. beside (record { from = has u j.from; to = has v j.to; same = j.same; beside = j.beside }))
      (joined h.piece.rect s t h.is (subst (λ (p : Piece). IsIn p.rect t) (sym e) g.is))

module _ (joined : RectanglesAreJoined) (shapes : List Rect) (pieces : List Piece) (links : List Pair)
    (up : AllPairs IsBefore pieces) (are : ArePieces shapes pieces) (linked : AreLinks shapes pieces links) where
  conductor_first : (k : ℕ) (s : Square) (h : HasConductor pieces k s)
      → first_conductor pieces k ≡ corner_on h.piece.rect.layer h.piece.rect
  conductor_first k s h =
      ap (λ (p : Piece). corner_on p.rect.layer p.rect) (get_or_from_slice_get pieces k h.piece _ h.at)

  channel_first : (k : ℕ) (s : Square) (h : HasChannel pieces k s) → first_channel pieces k ≡ corner_on NP h.piece.rect
  channel_first k s h = ap (λ (p : Piece). corner_on NP p.rect) (get_or_from_slice_get pieces k h.piece _ h.at)

  conductor_begins : (k : ℕ) (s : Square) → HasConductor pieces k s → HasConductor pieces k (first_conductor pieces k)
  conductor_begins k s h = record {
    piece = h.piece;
    at = h.at;
    part = h.part;
    is = subst (IsIn h.piece.rect) (sym (conductor_first k s h)) (begins h.piece.rect.layer h.piece.rect s h.is);
  }

  channel_begins : (k : ℕ) (s : Square) → HasChannel pieces k s → HasChannel pieces k (first_channel pieces k)
  channel_begins k s h = record {
    piece = h.piece;
    at = h.at;
    part = h.part;
    is = subst (IsIn (on NP h.piece.rect)) (sym (channel_first k s h)) (begins NP h.piece.rect s h.is);
  }

  conductor_order : (i j : ℕ) (s : Square) → i ≤ j → HasConductor pieces i (first_conductor pieces i)
      → HasConductor pieces j s → ¬ Before s (first_conductor pieces i)
  conductor_order i j s l h g b = elim (cases_eq i j) [
    | inl e ↦
        not_first g.piece.rect.layer g.piece.rect s g.is
        (subst (Before s) (ap (first_conductor pieces) e ∙ conductor_first j s g) b)
    | inr n ↦
        behind h.piece.rect.layer g.piece.rect.layer h.piece.rect g.piece.rect s
        (pairs_at IsBefore pieces up i j h.piece g.piece (omega arith) h.at g.at) g.is
        (subst (Before s) (conductor_first i (first_conductor pieces i) h) b)
  ]

  module _ (on_diffusion : (k : ℕ) (s : Square) (h : HasChannel pieces k s) → h.piece.rect.layer ≡ ND) where
    channel_before : (i j : ℕ) (s t : Square) → i < j → (h : HasChannel pieces i s) (g : HasChannel pieces j t)
        → Before (corner_on NP h.piece.rect) (corner_on NP g.piece.rect)
    channel_before i j s t l h g =
        on_one_layer NP h.piece g.piece (on_diffusion i s h ∙ sym (on_diffusion j t g))
        (pairs_at IsBefore pieces up i j h.piece g.piece l h.at g.at)

    channel_order : (i j : ℕ) (s : Square) → i ≤ j → HasChannel pieces i (first_channel pieces i)
        → HasChannel pieces j s → ¬ Before s (first_channel pieces i)
    channel_order i j s l h g b = elim (cases_eq i j) [
      | inl e ↦
          not_first NP g.piece.rect s g.is (subst (Before s) (ap (first_channel pieces) e ∙ channel_first j s g) b)
      | inr n ↦
          behind NP NP h.piece.rect g.piece.rect s
          (channel_before i j (first_channel pieces i) s (omega arith) h g) g.is
          (subst (Before s) (channel_first i (first_channel pieces i) h) b)
    ]

    pub channel_owners : AreOwners (IsChannelSquare (covered shapes))
        (Adjoin (IsChannelSquare (covered shapes))) Before (HasChannel pieces) (first_channel pieces)
        (length pieces) links
    channel_owners = record {
      owner = are.channel;
      is = are.channels;
      below = λ k s h. slice_get_within pieces k h.piece h.at;
      has_first = channel_begins;
      order = channel_order;
      strict =
          λ i j l h g. inl
          (subst₂ Before (sym (channel_first i (first_channel pieces i) h))
          (sym (channel_first j (first_channel pieces j) g))
          (channel_before i j (first_channel pieces i) (first_channel pieces j) l h g));
      to = λ s t j. j.to;
      step = λ s t i j a h g. linked.channels i j s t a h g;
      shared = λ s i j h g. same_chain i j (are.one_channel i j s h g);
      back = linked.channels_back;
      one = channel_one joined shapes pieces are;
    }

  conductor_to : (s t : Square) → Joined (covered shapes) s t → Conducts (covered shapes) t
  conductor_to s t (beside j) = j.to
  conductor_to s t (contact j) = j.to

  pub conductor_owners : AreOwners (Conducts (covered shapes)) (Joined (covered shapes)) Before (HasConductor pieces)
      (first_conductor pieces) (length pieces) links
  conductor_owners = record {
    owner = are.conductor;
    is = are.conducts;
    below = λ k s h. slice_get_within pieces k h.piece h.at;
    has_first = conductor_begins;
    order = conductor_order;
    strict =
        λ i j l h g. inl
        (subst₂ Before (sym (conductor_first i (first_conductor pieces i) h))
        (sym (conductor_first j (first_conductor pieces j) g))
        (pairs_at IsBefore pieces up i j h.piece g.piece l h.at g.at));
    to = conductor_to;
    step = λ s t i j a h g. linked.conductors i j s t a h g;
    shared = λ s i j h g. same_chain i j (are.one_conductor i j s h g);
    back = linked.conductors_back;
    one = conductor_one joined shapes pieces are;
  }
