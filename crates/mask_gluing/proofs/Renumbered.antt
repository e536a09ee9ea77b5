-- The network of a mask with glued pieces is that of the mask, up to numbering.
use Rattle.std.proofs.Common.{ℕ, zero, suc, ◌≡◌, ◌<◌, ◌≤◌, ◌⊎◌, inl, inr, refl, sym, ◌∙◌, ap, subst, subst₂, arith}
use Rattle.std.proofs.Common.{List, [], ◌∷◌, ◌++◌, length, get_or, map, true, ◌||◌, eqb, Contains}
use Rattle.std.specs.Prelude.{ℤ, pos, Some}
use Rattle.std.specs.List.{AllZip, list_any}
use Rattle.std.proofs.lemmas.Bool.{cases_lt, eq-eqb}
use Rattle.std.proofs.lemmas.List.{get_or_default}
use Rattle.std.proofs.lemmas.Map.Steps.{le-length_from_below}
use Rattle.std.proofs.Math.ListN.{length-map}
use Rattle.mp_base.proofs.Zips.{zip_at, zip_length}
use Rattle.lam_geom.specs.declared.layer.Layer.{Layer}
use Rattle.lam_geom.specs.declared.layer.Layer.TheVariants.{ND, NP, NM, NI}
use Rattle.lam_geom.specs.declared.label.FlatLabel.{FlatLabel}
use Rattle.lam_geom.specs.declared.rect.Rect.{Rect}
use Rattle.lam_geom.specs.Chains.{Chain}
use Rattle.lam_geom.specs.Chains.Chain.{here}
use Rattle.lam_geom.specs.Squares.{Square, Adjoin, Before, covered}
use Rattle.lam_geom.proofs.Adjoins.{adjoin_map, adjoin_flip}
use Rattle.lam_geom.proofs.Chains.{join_chains, turn_chain, map_chain}
use Rattle.switch_net.specs.declared.network.ChannelKind.{ChannelKind}
use Rattle.switch_net.specs.declared.network.ChannelKind.TheVariants.{Enhancement, Depletion, Partial}
use Rattle.switch_net.specs.declared.network.Channel.{Channel}
use Rattle.switch_net.specs.declared.network.Tag.{Tag}
use Rattle.switch_net.specs.declared.network.Network.{Network}
use Rattle.switch_net.specs.Classes.{AreClasses, IsInClass}
use Rattle.switch_net.specs.Conductors.{ConductsOn, Conducts, Joined, IsChannelSquare}
use Rattle.switch_net.specs.Labels.{IsNamed, Names}
use Rattle.switch_net.specs.Drawn.{AreNodes, IsOfNode, AreRegions, IsOfChannel, IsEnd, IsKind, IsChannelAt, IsTag}
use Rattle.switch_net.specs.Drawn.{IsNetwork}
use Rattle.switch_net.specs.Laws.{OneNumbering}
use Rattle.switch_net.proofs.Joins.{join_flip}
use Rattle.switch_net.proofs.Naming.{named_on}
use Rattle.renumbering.specs.Same.{AreOneToOne, SameChannel, Renumbering, SameTag, SameUpToNumbering}
use Rattle.mask_gluing.specs.Gluing.{Touches, AreGlued, IsMoved}
use Rattle.metal_pieces.specs.Pieces.{all_of}
use Rattle.mask_gluing.specs.Laws.{GluedKeepsNetwork, GluedIsAsMany, KeepsChannels, GluedKeepsChannels}
use Rattle.mask_gluing.proofs.Pieces.{Old, New, piece_is, metal_of, old_stays, off_metal, conducts_stays, piece_conducts}
use Rattle.mask_gluing.proofs.Pieces.{channel_square_stays, channel_square_was}
use Rattle.mask_gluing.proofs.Owners.{Owns, owner_conducts, owns_itself, owner_of, owned_conducts, owners_joined}
use Rattle.mask_gluing.proofs.Owners.{squares_joined}
use Rattle.mask_gluing.proofs.Owners.Owns.{itself, piece}

-- ---- classes

-- a thing's class, by its number
class_of : {S : Type 0} {Is : S → Type 0} {J B : S → S → Type 0} (xs : List S) → AreClasses Is J B xs → (s : S) → Is s
    → (k : ℕ) × IsInClass J xs k s
class_of {J = J} xs a s i =
    let (r, (k, below, at), chain) = a.all s i in
    (k, (below, subst (λ z. Chain J z s) (sym (get_or_default xs k s r below ∙ at)) chain))

-- a thing is in one class
one_class : {S : Type 0} {Is : S → Type 0} {J B : S → S → Type 0} → ((s t : S) → J s t → J t s) → (xs : List S)
    → AreClasses Is J B xs
    → (j k : ℕ) (s : S) → IsInClass J xs j s → IsInClass J xs k s → j ≡ k
one_class {S = S} {Is = Is} {J = J} {B = B} flip xs a j k s h i = elim (cases_lt j k) [
  | inl l ↦ absurd (apart j k h i l)
  | inr l ↦ elim (cases_lt k j)
      [ inl m ↦ absurd (apart k j i h m) | inr m ↦ omega arith ]
]
  where
    apart : (j k : ℕ) → IsInClass J xs j s → IsInClass J xs k s → j < k → ⊥
    apart j k h i l =
        a.first (get_or xs k s) (get_or xs j s) (k, i.0, get_or_default xs k (get_or xs k s) s i.0) (a.each j s h.0)
        (join_chains i.1 (turn_chain flip h.1)) (a.ascending j k s l i.0)

-- the class of a thing by its least element, whatever stands for it past the end
class_from : {S : Type 0} {J : S → S → Type 0} (xs : List S) (k : ℕ) (d s : S) → IsInClass J xs k s
    → Chain J (get_or xs k d) s
class_from {J = J} xs k d s i = subst (λ z. Chain J z s) (get_or_default xs k s d i.0) i.1

-- things of the class of a thing
class_on : {S : Type 0} {J : S → S → Type 0} (xs : List S) (k : ℕ) (s t : S) → IsInClass J xs k s → Chain J s t
    → IsInClass J xs k t
class_on {J = J} xs k s t i c =
    (i.0, subst (λ z. Chain J z t) (get_or_default xs k s t i.0) (join_chains i.1 c))

own_class : {S : Type 0} {J : S → S → Type 0} (xs : List S) (k : ℕ) (d : S) → k < length xs
    → IsInClass J xs k (get_or xs k d)
own_class {J = J} xs k d h =
    (h, subst (λ z. Chain J z (get_or xs k d)) (get_or_default xs k d (get_or xs k d) h) here)

classes : {S : Type 0} (P Q : S → Type 0) (J K : S → S → Type 0) (B : S → S → Type 0) (least : List S)
    → ((s : S) → P s → Q s) → ((s : S) → Q s → P s) → ((s t : S) → J s t → K s t) → ((s t : S) → K s t → J s t)
    → AreClasses P J B least → AreClasses Q K B least
classes P Q J K B least f g j k h = record {
  ascending = h.ascending;
  each = λ i x lt. f _ (h.each i x lt);
  first = λ r s c q t. h.first r s c (g s q) (map_chain k t);
  all = λ s q. let w = h.all s (g s q) in (w.0, w.1, map_chain j w.2);
}

-- ---- counts

-- what is mapped is found among the values
found : (f : ℕ → ℕ) (xs : List ℕ) (x : ℕ) → Contains xs x → list_any (eqb (f x)) (map f xs) ≡ true
found f [] x c = absurd (omega (arith, c.1))
found f (y ∷ ys) x (zero, l, e) = ap (λ b. b || list_any (eqb (f x)) (map f ys)) (eq-eqb (f x) (f y) (ap f (sym e)))
found f (y ∷ ys) x (suc k, l, e) = by_head (eqb (f x) (f y)) (found f ys x (k, omega arith, e))
  where
    by_head : (b : _) → list_any (eqb (f x)) (map f ys) ≡ true → (b || list_any (eqb (f x)) (map f ys)) ≡ true
    by_head b h = grind arith

-- what stands one to one for numbers below another count is no more
no_more : (from to : ℕ) (there back : ℕ → ℕ) → AreOneToOne from to there back → from ≤ to
no_more from to there back one =
    subst (λ n. from ≤ n) (length-map (below to) back ∙ below_size to)
    (le-length_from_below (map back (below to)) from (λ k h. subst (λ q. list_any (eqb q) (map back (below to)) ≡ true)
    (one.there_back k h) (found back (below to) (there k) (in_below to (there k) (one.within k h)))))
  where
    below : ℕ → List ℕ
    below zero = []
    below (suc n) = n ∷ below n

    below_size : (n : ℕ) → length (below n) ≡ n
    below_size zero = refl
    below_size (suc n) = ap suc (below_size n)

    in_below : (n k : ℕ) → k < n → Contains (below n) k
    in_below zero k h = absurd (omega arith)
    in_below (suc n) k h = elim (cases_lt k n) [
      | inl l ↦ let c = in_below n k l in (suc c.0, (let w = c.1 in omega (arith, w)), c.2)
      | inr l ↦ (zero, omega arith, (let e : n ≡ k = omega (arith, h, l) in e))
    ]

module _ (rects : List Rect) (pieces : List (List Rect)) (g : AreGlued rects pieces) where
  abbrev Was_ : Layer → ℤ → ℤ → Type 0
  Was_ = Old rects pieces g

  abbrev Is_ : Layer → ℤ → ℤ → Type 0
  Is_ = New rects pieces g

  some_square : Square
  some_square = record { layer = NM; x = pos 0; y = pos 0 }

  -- ---- nodes
  module _ (news olds : List Square) (a : AreNodes Is_ news) (b : AreNodes Was_ olds) where
    one_new : (j k : ℕ) (s : Square) → IsOfNode Is_ news j s → IsOfNode Is_ news k s → j ≡ k
    one_new j k s h i = one_class (join_flip Is_) news a j k s h i

    one_old : (j k : ℕ) (s : Square) → IsOfNode Was_ olds j s → IsOfNode Was_ olds k s → j ≡ k
    one_old j k s h i = one_class (join_flip Was_) olds b j k s h i

    old_at : (k : ℕ) → k < length news → (o : Square) × Owns rects pieces g o (get_or news k some_square)
    old_at k h = owner_of rects pieces g (get_or news k some_square) (a.each k some_square h)

    old_class : (o s : Square) → Owns rects pieces g o s → (j : ℕ) × IsOfNode Was_ olds j o
    old_class o s own = class_of olds b o (owner_conducts rects pieces g o s own)

    new_class : (k : ℕ) → k < length olds → (j : ℕ) × IsOfNode Is_ news j (get_or olds k some_square)
    new_class k h = class_of news a (get_or olds k some_square)
        (conducts_stays rects pieces g _ _ _ (b.each k some_square h))

    pick_node : (k : ℕ) → (k < length news) ⊎ (length news ≤ k) → ℕ
    pick_node k (inl h) = let o = old_at k h in (old_class o.0 (get_or news k some_square) o.1).0
    pick_node k (inr h) = 0

    pub node_ : ℕ → ℕ
    node_ k = pick_node k (cases_lt k (length news))

    -- the number of a node is that of the owner of each of its squares
    picked_node : (k j : ℕ) (c : (k < length news) ⊎ (length news ≤ k)) (s o : Square) → IsOfNode Is_ news k s
        → Owns rects pieces g o s → IsOfNode Was_ olds j o → pick_node k c ≡ j
    unfolding pick_node
    picked_node k j (inl h) s o i own at =
        let w = old_at k h in
        let q = old_class w.0 (get_or news k some_square) w.1 in
        let c = owners_joined rects pieces g (get_or news k some_square) s w.0 o w.1 own
        (class_from news k some_square s i) in
        one_old q.0 j o (class_on olds q.0 w.0 o q.1 c) at
    picked_node k j (inr h) s o i own at = let i0 = i.0 in absurd (omega arith)

    pub node_is : (k j : ℕ) (s o : Square) → IsOfNode Is_ news k s → Owns rects pieces g o s → IsOfNode Was_ olds j o
        → node_ k ≡ j
    unfolding node_
    node_is k j s o i own at = picked_node k j (cases_lt k (length news)) s o i own at

    pick_back : (j : ℕ) → (j < length olds) ⊎ (length olds ≤ j) → ℕ
    pick_back j (inl h) = (new_class j h).0
    pick_back j (inr h) = 0

    picked_back : (j : ℕ) (c : (j < length olds) ⊎ (length olds ≤ j)) → j < length olds
        → IsOfNode Is_ news (pick_back j c) (get_or olds j some_square)
    unfolding pick_back
    picked_back j (inl h) l = (new_class j h).1
    picked_back j (inr h) l = absurd (omega arith)

    pub node_back_ : ℕ → ℕ
    node_back_ j = pick_back j (cases_lt j (length olds))

    back_is : (j : ℕ) → j < length olds → IsOfNode Is_ news (node_back_ j) (get_or olds j some_square)
    unfolding node_back_
    back_is j h = picked_back j (cases_lt j (length olds)) h

    own_old : (j : ℕ) → j < length olds
        → Owns rects pieces g (get_or olds j some_square) (get_or olds j some_square)
    own_old j h = owns_itself rects pieces g (get_or olds j some_square) (b.each j some_square h)

    pub one_to_one : AreOneToOne (length news) (length olds) node_ node_back_
    one_to_one = record {
      within = λ k h. (let o = old_at k h in let q = old_class o.0 (get_or news k some_square) o.1 in
          subst (λ z. z < length olds) (sym (node_is k q.0 (get_or news k some_square) o.0
          (own_class news k some_square h) o.1 q.1)) q.1.0);
      back_within = λ j h. (back_is j h).0;
      there_back = λ k h. (let o = old_at k h in let q = old_class o.0 (get_or news k some_square) o.1 in
          let e : node_ k ≡ q.0 = node_is k q.0 (get_or news k some_square) o.0
          (own_class news k some_square h) o.1 q.1 in
          let c = squares_joined rects pieces g (get_or olds q.0 some_square) (get_or news k some_square)
          (get_or olds q.0 some_square) o.0 (own_old q.0 q.1.0) o.1 (class_from olds q.0 some_square o.0 q.1) in
          ap node_back_ e ∙ one_new (node_back_ q.0) k (get_or news k some_square)
          (class_on news (node_back_ q.0) (get_or olds q.0 some_square) (get_or news k some_square)
          (back_is q.0 q.1.0) c) (own_class news k some_square h));
      back_there = λ j h. node_is (node_back_ j) j (get_or olds j some_square) (get_or olds j some_square)
          (back_is j h) (own_old j h) (own_class olds j some_square h);
    }

    pub as_many : length news ≡ length olds
    as_many =
        let p = no_more (length news) (length olds) node_ node_back_ one_to_one in
        let q = no_more (length olds) (length news) node_back_ node_
        (record {
          within = one_to_one.back_within;
          back_within = one_to_one.within;
          there_back = one_to_one.back_there;
          back_there = one_to_one.there_back;
        }) in
        omega (arith, p, q)

  -- ---- channels
  abbrev Neighbours : (Layer → ℤ → ℤ → Type 0) → Square → Square → Type 0
  Neighbours c = Adjoin (IsChannelSquare c)

  neighbours_stay : (s t : Square) → Neighbours Was_ s t → Neighbours Is_ s t
  neighbours_stay s t j =
      adjoin_map (IsChannelSquare Was_) (IsChannelSquare Is_) (channel_square_stays rects pieces g) s t j

  neighbours_were : (s t : Square) → Neighbours Is_ s t → Neighbours Was_ s t
  neighbours_were s t j =
      adjoin_map (IsChannelSquare Is_) (IsChannelSquare Was_) (channel_square_was rects pieces g) s t j

  pub regions_were : (rs : List Square) → AreRegions Is_ rs → AreRegions Was_ rs
  regions_were rs h =
      classes (IsChannelSquare Is_) (IsChannelSquare Was_) (Neighbours Is_) (Neighbours Was_) Before rs
      (channel_square_was rects pieces g) (channel_square_stays rects pieces g) neighbours_were neighbours_stay h

  of_channel_stays : (r s : Square) → IsOfChannel Was_ r s → IsOfChannel Is_ r s
  of_channel_stays r s h =
      record { is = channel_square_stays rects pieces g s h.is; chain = map_chain neighbours_stay h.chain }

  of_channel_was : (r s : Square) → IsOfChannel Is_ r s → IsOfChannel Was_ r s
  of_channel_was r s h =
      record { is = channel_square_was rects pieces g s h.is; chain = map_chain neighbours_were h.chain }

  -- diffusion that conducts is not of a piece
  diffusion_was : (t : Square) → t.layer ≡ ND → Conducts Is_ t → Conducts Was_ t
  diffusion_was t e c = elim (owner_of rects pieces g t c).1 [
    | itself o s ↦ o
    | piece p cp h u ↦ absurd (let f : ND ≡ NM = sym e ∙ metal_of rects pieces g p cp t.layer t.x t.y h in cc)
  ]

  end_stays : (r t : Square) → IsEnd Was_ r t → IsEnd Is_ r t
  end_stays r t h = record {
    square = h.square;
    of = of_channel_stays r h.square h.of;
    diffusion = h.diffusion;
    conducts = conducts_stays rects pieces g t.layer t.x t.y h.conducts;
    beside = h.beside;
  }

  end_was : (r t : Square) → IsEnd Is_ r t → IsEnd Was_ r t
  end_was r t h = record {
    square = h.square;
    of = of_channel_was r h.square h.of;
    diffusion = h.diffusion;
    conducts = diffusion_was t h.diffusion h.conducts;
    beside = h.beside;
  }

  bare : (x y : ℤ) → Is_ NI x y → Was_ NI x y
  bare x y h = off_metal rects pieces g NI x y (λ e. cc) h

  one_kind : (r : Square) → IsOfChannel Was_ r r → (j k : ChannelKind) → IsKind Is_ r j → IsKind Was_ r k → j ≡ k
  one_kind r i Enhancement Enhancement a b = refl
  one_kind r i Depletion Depletion a b = refl
  one_kind r i Partial Partial a b = refl
  one_kind r i Enhancement Depletion a b =
      absurd (a r (of_channel_stays r r i) (old_stays rects pieces g NI r.x r.y (b r i)))
  one_kind r i Enhancement Partial a b =
      let (s, of, implant) = b.0 in
      absurd (a s (of_channel_stays r s of) (old_stays rects pieces g NI s.x s.y implant))
  one_kind r i Depletion Enhancement a b = absurd (b r i (bare r.x r.y (a r (of_channel_stays r r i))))
  one_kind r i Depletion Partial a b =
      let (s, of, clear) = b.1 in absurd (clear (bare s.x s.y (a s (of_channel_stays r s of))))
  one_kind r i Partial Enhancement a b =
      let (s, of, implant) = a.0 in absurd (b s (of_channel_was r s of) (bare s.x s.y implant))
  one_kind r i Partial Depletion a b =
      let (s, of, clear) = a.1 in
      absurd (clear (old_stays rects pieces g NI s.x s.y (b s (of_channel_was r s of))))

  kind_stays : (r : Square) (k : ChannelKind) → IsKind Was_ r k → IsKind Is_ r k
  kind_stays r Enhancement h = λ s o i. h s (of_channel_was r s o) (bare s.x s.y i)
  kind_stays r Depletion h = λ s o. old_stays rects pieces g NI s.x s.y (h s (of_channel_was r s o))
  kind_stays r Partial ((s, in_s, has), (t, in_t, lacks)) = (
    (s, of_channel_stays r s in_s, old_stays rects pieces g NI s.x s.y has),
    (t, of_channel_stays r t in_t, λ i. lacks (bare t.x t.y i)),
  )

  pub channels_kept : KeepsChannels rects (rects ++ all_of pieces)
  channels_kept = record {
    square = λ s. (channel_square_was rects pieces g s, channel_square_stays rects pieces g s);
    of = λ r s. (of_channel_was r s, of_channel_stays r s);
    end = λ r t. (end_was r t, end_stays r t);
    kind = kind_stays;
  }

  -- ---- the networks
  module _ (new old : List FlatLabel) (moved : AllZip (IsMoved rects pieces) new old) (n m : Network)
      (d : IsNetwork Is_ new n) (e : IsNetwork Was_ old m) (regions : d.regions ≡ e.regions) where
    abbrev node : ℕ → ℕ
    node = node_ d.nodes e.nodes d.are_nodes e.are_nodes

    at_node : (k j : ℕ) (s o : Square) → IsOfNode Is_ d.nodes k s → Owns rects pieces g o s
        → IsOfNode Was_ e.nodes j o → node k ≡ j
    at_node k j s o i own at = node_is d.nodes e.nodes d.are_nodes e.are_nodes k j s o i own at

    channel_conducts : (r : Square) → IsChannelSquare Was_ r → Conducts Was_ r
    channel_conducts r i = subst (λ l. ConductsOn Was_ l r.x r.y) (sym i.0) i.1.gate

    same_channel : (r : Square) (x y : Channel) → IsChannelSquare Was_ r → IsChannelAt Is_ d.nodes r x
        → IsChannelAt Was_ e.nodes r y → SameChannel node x y
    same_channel r x y i a b = record {
      gate = at_node x.gate y.gate r r a.gate (owns_itself rects pieces g r (channel_conducts r i)) b.gate;
      ends = λ k. (
        λ h. (let (t, end, of) = (b.ends k).0 h in
            let w = class_of d.nodes d.are_nodes t (conducts_stays rects pieces g t.layer t.x t.y end.conducts) in (
              w.0,
              (a.ends w.0).1 (t, end_stays r t end, w.1),
              at_node w.0 k t t w.1 (owns_itself rects pieces g t end.conducts) of,
            )),
        λ h. (let (j, has, is) = h in
            let (t, end, of) = (a.ends j).0 has in
            let was = end_was r t end in
            let w = class_of e.nodes e.are_nodes t was.conducts in
            let q = at_node j w.0 t t of (owns_itself rects pieces g t was.conducts) w.1 in
            subst (Contains y.ends) (sym q ∙ is) ((b.ends w.0).1 (t, was, w.1))),
      );
      kind = one_kind r (record { is = i; chain = here }) x.kind y.kind a.kind b.kind;
    }

    channels_are : AllZip (IsChannelAt Was_ e.nodes) d.regions m.channels
    channels_are = subst (λ z. AllZip (IsChannelAt Was_ e.nodes) z m.channels) (sym regions) e.channels

    channel_count : length n.channels ≡ length m.channels
    channel_count =
        sym (zip_length (IsChannelAt Is_ d.nodes) d.regions n.channels d.channels)
        ∙ zip_length (IsChannelAt Was_ e.nodes) d.regions m.channels channels_are

    region_count : length d.regions ≡ length n.channels
    region_count = zip_length (IsChannelAt Is_ d.nodes) d.regions n.channels d.channels

    abbrev numbers : Renumbering n m
    numbers = record {
      node = node;
      node_back = node_back_ d.nodes e.nodes d.are_nodes e.are_nodes;
      channel = λ k. k;
      channel_back = λ k. k;
      nodes = subst₂ (λ x y. AreOneToOne x y node (node_back_ d.nodes e.nodes d.are_nodes e.are_nodes))
          (sym d.count) (sym e.count) (one_to_one d.nodes e.nodes d.are_nodes e.are_nodes);
      channels = record {
        within = λ k h. subst (λ z. k < z) channel_count h;
        back_within = λ k h. subst (λ z. k < z) (sym channel_count) h;
        there_back = λ k h. refl;
        back_there = λ k h. refl;
      };
      same = λ k x y h. (let h2 : k < length d.regions = subst (λ z. k < z) (sym region_count) h in
          same_channel (get_or d.regions k some_square) (get_or n.channels k x) (get_or m.channels k y)
          (channel_square_was rects pieces g (get_or d.regions k some_square) (d.are_regions.each k some_square h2))
          (zip_at (IsChannelAt Is_ d.nodes) d.regions n.channels d.channels k some_square x h2)
          (zip_at (IsChannelAt Was_ e.nodes) d.regions m.channels channels_are k some_square y h2));
    }

    -- a moved label is on the node of the old one
    same_tag : (label other : FlatLabel) (t u : Tag) → IsMoved rects pieces label other → IsTag Is_ d.nodes label t
        → IsTag Was_ e.nodes other u → SameTag node t u
    same_tag label other t u v a b =
        let s : Square = record { layer = NM; x = label.x; y = label.y } in
        let c : ConductsOn Is_ NM label.x label.y = piece_conducts rects pieces g v.piece v.among s v.on in
        let named : IsNamed Is_ label.x label.y (Some NM) a.square.layer =
        subst (λ z. IsNamed Is_ label.x label.y z a.square.layer) v.layer a.names.layer in
        let l : a.square.layer ≡ NM = elim named [ inl h ↦ h.0 | inr h ↦ absurd (h.0 c) ] in
        let same : a.square ≡ s = λ z. record { layer = l z; x = a.names.x z; y = a.names.y z } in
        let w = piece_touch v.piece v.among in
        record {
          name = sym a.name ∙ v.name ∙ b.name;
          node_is = at_node t.node u.node s w.0 (subst (IsOfNode Is_ d.nodes t.node) same a.node)
              (piece v.piece v.among v.on w.1)
              (class_on e.nodes u.node b.square w.0 b.node (v.along b.square w.0 b.names w.1));
        }
      where
        piece_touch : (p : List Rect) → Contains pieces p → (t : Square) × Touches rects p t
        piece_touch p cp = (piece_is rects pieces g p cp).some

    same_tags : (new old : List FlatLabel) (ts us : List Tag) → AllZip (IsMoved rects pieces) new old
        → AllZip (IsTag Is_ d.nodes) new ts → AllZip (IsTag Was_ e.nodes) old us → AllZip (SameTag node) ts us
    same_tags [] [] [] [] v a b = tt
    same_tags [] [] [] (u ∷ us) v a b = absurd b
    same_tags [] [] (t ∷ ts) us v a b = absurd a
    same_tags [] (o ∷ os) ts us v a b = absurd v
    same_tags (l ∷ ls) [] ts us v a b = absurd v
    same_tags (l ∷ ls) (o ∷ os) [] us v a b = absurd a
    same_tags (l ∷ ls) (o ∷ os) (t ∷ ts) [] v a b = absurd b
    same_tags (l ∷ ls) (o ∷ os) (t ∷ ts) (u ∷ us) v a b =
        (same_tag l o t u v.0 a.0 b.0, same_tags ls os ts us v.1 a.1 b.1)

    same_network : SameUpToNumbering n m
    same_network = record { numbers = numbers; tags = same_tags new old n.tags m.tags moved d.tags e.tags }

pub network_kept : OneNumbering → GluedKeepsNetwork
network_kept one rects pieces g new old moved n m d e =
    same_network rects pieces g new old moved n m d e
    ((one rects).1 d.regions e.regions (regions_were rects pieces g d.regions d.are_regions) e.are_regions)

pub counts_kept : GluedIsAsMany
counts_kept rects pieces g = (as_many rects pieces g, regions_were rects pieces g)

pub glued_channels : GluedKeepsChannels
glued_channels rects pieces g = channels_kept rects pieces g
