-- The network that a fabric draws is that of its switches, up to numbering.
use Rattle.std.proofs.Common.{ℕ, ◌≡◌, ◌+◌, ◌<◌, ◌≤◌, ◌⊎◌, inl, inr, refl, sym, ◌∙◌, ap, subst, arith}
use Rattle.std.proofs.Common.{true, List, [], ◌∷◌, length, get_or, Contains}
use Rattle.std.specs.Prelude.{ℤ, Some, AllPairs, filter}
use Rattle.std.specs.List.{AllZip}
use Rattle.std.proofs.lemmas.Int.{ints}
use Rattle.std.proofs.lemmas.Bool.{cases_lt, cases_order}
use Rattle.std.proofs.lemmas.List.{get_or_default}
use Rattle.std.proofs.lemmas.List.Kept.{AllPairs-filter}
use Rattle.mp_base.proofs.Zips.{zip_at, zip_length, zip_map}
use Rattle.mp_base.proofs.Members.{member_contains, contains_member, filter_member, member_filter}
use Rattle.lam_geom.specs.declared.layer.Layer.{Layer}
use Rattle.lam_geom.specs.declared.layer.Layer.TheVariants.{ND, NM}
use Rattle.lam_geom.specs.declared.label.FlatLabel.{FlatLabel}
use Rattle.lam_geom.specs.Squares.{Square, Adjoin, covered, RectanglesAreJoined}
use Rattle.lam_geom.specs.Chains.{Chain}
use Rattle.lam_geom.specs.Chains.Chain.{here}
use Rattle.switch_net.specs.declared.network.ChannelKind.{ChannelKind}
use Rattle.switch_net.specs.declared.network.ChannelKind.TheVariants.{Enhancement, Depletion, Partial}
use Rattle.switch_net.specs.declared.network.Channel.{Channel}
use Rattle.switch_net.specs.declared.network.Tag.{Tag}
use Rattle.switch_net.specs.declared.network.Network.{Network}
use Rattle.switch_net.specs.Classes.{AreClasses, IsInClass}
use Rattle.switch_net.specs.Conductors.{Conducts, ConductsOn, Joined, IsChannelSquare}
use Rattle.switch_net.specs.Labels.{IsNamed}
use Rattle.switch_net.specs.Drawn.{IsOfNode, IsOfChannel, IsEnd, IsKind, IsChannelAt, IsTag, IsNetwork}
use Rattle.tile_cells.specs.declared.tile.Tile.{Tile}
use Rattle.tile_cells.specs.declared.tile.Tile.TheVariants.{TapL, TapR, Tran, PullUp, Under}
use Rattle.fabric.specs.declared.thing.Mark.{Mark}
use Rattle.fabric.specs.Plan.{Plan, IsFabric, MarksApart}
use Rattle.fabric.specs.Shape.{offset, shape}
use Rattle.fabric.specs.Switches.{Net, IsNet, is_switch, HasKind, IsSwitch, AreSwitches}
use Rattle.fabric.specs.Switches.Net.{segment, line, ground, power as the_power}
use Rattle.renumbering.specs.Same.{AreOneToOne, SameChannel, Renumbering, SameTag}
use Rattle.fabric_laws.specs.Theorem.{IsOn, IsLabelOn, DrawsSwitches, FabricDrawsSwitches, FabricIsSwitches, LabelsName}
use Rattle.fabric_laws.proofs.Tile.Thing.{trunk, power, seg, lin}
use Rattle.fabric.proofs.Bases.{bands_lie}
use Rattle.fabric.proofs.Lying.{some_rows, segment_lies, line_lies}
use Rattle.fabric_laws.proofs.Local.{trunk_at, power_at, segment_at, line_at}
use Rattle.fabric_laws.proofs.Owners.{owner_conducts}
use Rattle.fabric_laws.proofs.Joins.{Owns, owned, owns_net}
use Rattle.lam_geom.proofs.Chains.{join_chains, turn_chain}
use Rattle.switch_net.proofs.Joins.{join_flip}
use Rattle.lam_geom.proofs.Adjoins.{adjoin_flip}
use Rattle.fabric_laws.proofs.Together.{anchor, some_height}
use Rattle.fabric_laws.proofs.Nodes.{nodes_are_nets}
use Rattle.fabric_laws.proofs.Channels.{OfMark, IsSwitchTile, has_channel, mark_of, of_mark, one_mark_of, chain_mark}
use Rattle.fabric_laws.proofs.Channels.{channel_whole, corner, gate_of, ends_are, end_square, bare, implanted}
use Rattle.fabric_laws.proofs.Tables.{part}
use Rattle.fabric_laws.proofs.Tables.Kind.{of_ground, of_power, of_segment, of_line}

-- ---- classes
class_at : {S : Type 0} {J : S → S → Type 0} (xs : List S) (k : ℕ) (s : S) → k < length xs → Chain J (get_or xs k s) s
    → IsInClass J xs k s
class_at xs k s h c = (h, c)

-- a thing's class, by its number
class_of : {S : Type 0} {Is : S → Type 0} {J B : S → S → Type 0} (xs : List S) → AreClasses Is J B xs → (s : S) → Is s
    → (k : ℕ) × IsInClass J xs k s
class_of {J = J} xs a s i =
    let (r, (k, below, at), chain) = a.all s i in
    (k, (below, subst (λ z. Chain J z s) (sym (get_or_default xs k s r below ∙ at)) chain))

-- a thing is in one class
one_class : {S : Type 0} {Is : S → Type 0} {J B : S → S → Type 0} → ((s t : S) → J s t → J t s) → (xs : List S)
    → AreClasses Is J B xs
    → (j k : ℕ) (s : S) → IsInClass J xs j s → IsInClass J xs k s → j ≡ k
one_class {S = S} {Is = Is} {J = J} {B = B} flip xs a j k s h i = elim (cases_lt j k) [
  | inl l ↦ absurd (apart j k h i l)
  | inr l ↦ elim (cases_lt k j)
      [ inl m ↦ absurd (apart k j i h m) | inr m ↦ omega arith ]
]
  where
    apart : (j k : ℕ) → IsInClass J xs j s → IsInClass J xs k s → j < k → ⊥
    apart j k h i l =
        a.first (get_or xs k s) (get_or xs j s) (k, i.0, get_or_default xs k (get_or xs k s) s i.0) (a.each j s h.0)
        (join_chains i.1 (turn_chain flip h.1)) (a.ascending j k s l i.0)

module _ (joined : RectanglesAreJoined) (f : Plan) (w : IsFabric f) where
  -- ---- the net of a square of its own rectangle
  pub on_net : (n : Net) (q : Square) → IsNet f n → IsOn f n q → Owns f n q
  on_net (segment s) q h i =
      let k = segment_at f w s h q.layer q.x q.y i in
      record {
        owner = record {
          b = k.b;
          r = k.r;
          c = k.c;
          u = k.u;
          v = k.v;
          at = k.at;
          thing = seg;
          here = k.here;
          part = part of_segment NM 0 6 20 10;
          among = inl refl;
          layer = k.layer;
          inside = k.inside;
        };
        net = (s, h, inl k.here.crosses, refl);
      }
  on_net (line l) q h i =
      let k = line_at f w l h q.layer q.x q.y i in
      record {
        owner = record {
          b = k.b;
          r = k.r;
          c = k.c;
          u = k.u;
          v = k.v;
          at = k.at;
          thing = lin l.side;
          here = k.here;
          part = part (of_line l.side) ND (offset l.side) 0 (offset l.side + 4) 36;
          among = inl refl;
          layer = k.layer;
          inside = k.inside;
        };
        net = (l, h, k.here.2, refl);
      }
  on_net ground q h i =
      let k = trunk_at f w q.layer q.x q.y i in
      record {
        owner = record {
          b = k.b;
          r = k.r;
          c = k.c;
          u = k.u;
          v = k.v;
          at = k.at;
          thing = trunk;
          here = k.here;
          part = part of_ground NM 7 0 13 36;
          among = inl refl;
          layer = k.layer;
          inside = k.inside;
        };
        net = refl;
      }
  on_net the_power q h i =
      let k = power_at f w q.layer q.x q.y i in
      record {
        owner = record {
          b = k.b;
          r = k.r;
          c = k.c;
          u = k.u;
          v = k.v;
          at = k.at;
          thing = power;
          here = k.here;
          part = part of_power NM 7 0 13 36;
          among = inl refl;
          layer = k.layer;
          inside = k.inside;
        };
        net = refl;
      }

  anchor_on : (n : Net) → IsNet f n → IsOn f n (anchor f n)
  anchor_on (segment s) h =
      let i = (segment_lies f w s h).order in
      record {
        same = refl;
        left = omega (arith, ints);
        right = omega (arith, ints);
        bottom = omega (arith, ints);
        top = omega (arith, ints);
      }
  anchor_on (line l) h =
      let i = line_lies f w l h in let i0 = i.order in let i1 = i.last in
      let n2 = some_rows f w l.last_band i.last in
      let z = bands_lie f l.first_band l.last_band in
      record {
        same = refl;
        left = omega (arith, ints);
        right = omega (arith, ints);
        bottom = omega (arith, ints);
        top = omega (arith, ints);
      }
  anchor_on ground h = let m = some_height joined f w in
      record {
        same = refl;
        left = omega (arith, ints);
        right = omega (arith, ints);
        bottom = omega (arith, ints);
        top = omega (arith, ints);
      }
  anchor_on the_power h = let m = some_height joined f w in
      record {
        same = refl;
        left = omega (arith, ints);
        right = omega (arith, ints);
        bottom = omega (arith, ints);
        top = omega (arith, ints);
      }

  anchor_owned : (n : Net) → IsNet f n → Owns f n (anchor f n)
  anchor_owned n h = on_net n (anchor f n) h (anchor_on n h)

  owns_conducts : (n : Net) (q : Square) → Owns f n q → Conducts (covered (shape f)) q
  owns_conducts n q h = owner_conducts f w q.layer q.x q.y h.owner

no_mark : Mark
no_mark = record { tile = TapL; band = 0; row = 0; column = 0 }

switch_tile : (t : Tile) (m : Mark) → m.tile ≡ t → is_switch m ≡ true → IsSwitchTile t
switch_tile TapL m e h = let g : is_switch (record m { tile = TapL }) ≡ true = ap
    (λ z. is_switch (record m { tile = z })) (sym e) ∙ h in absurd (cc)
switch_tile TapR m e h = let g : is_switch (record m { tile = TapR }) ≡ true = ap
    (λ z. is_switch (record m { tile = z })) (sym e) ∙ h in absurd (cc)
switch_tile Tran m e h = inl refl
switch_tile PullUp m e h = inr refl
switch_tile Under m e h = let g : is_switch (record m { tile = Under }) ≡ true = ap
    (λ z. is_switch (record m { tile = z })) (sym e) ∙ h in absurd (cc)

is_a_switch : (m : Mark) → IsSwitchTile m.tile → is_switch m ≡ true
is_a_switch m (inl e) = ap (λ z. is_switch (record m { tile = z })) e
is_a_switch m (inr e) = ap (λ z. is_switch (record m { tile = z })) e

distinct : (xs : List Mark) → AllPairs MarksApart xs → (i j : ℕ) (d : Mark) → i < length xs → j < length xs
    → get_or xs i d ≡ get_or xs j d → i ≡ j
distinct xs a i j d h k e = elim (cases_order i j) [
  | inl g ↦ g
  | inr (inl g) ↦ absurd (a i j d g k (ap (λ z. z.band) e) (ap (λ z. z.row) e) (ap (λ z. z.column) e))
  | inr (inr g) ↦ absurd (a j i d g h (ap (λ z. z.band) (sym e)) (ap (λ z. z.row) (sym e)) (ap (λ z. z.column) (sym e)))
]

module _ (joined : RectanglesAreJoined) (f : Plan) (w : IsFabric f) (labels : List FlatLabel) (net m : Network)
    (number : Net → ℕ) (d : IsNetwork (covered (shape f)) labels net) (t : AreSwitches f number m) where
  abbrev Covers_ : Layer → ℤ → ℤ → Type 0
  Covers_ = covered (shape f)

  abbrev some_square : Square
  some_square = anchor f ground

  abbrev switches_ : List Mark
  switches_ = filter is_switch f.marks

  -- ---- nodes
  node_at : (k : ℕ) → k < length d.nodes → (n : Net) × IsNet f n × Owns f n (get_or d.nodes k some_square)
  node_at k h = owned f w (get_or d.nodes k some_square) (d.are_nodes.each k some_square h)

  pick_node : (k : ℕ) → (k < length d.nodes) ⊎ (length d.nodes ≤ k) → ℕ
  pick_node k (inl h) = number (node_at k h).0
  pick_node k (inr h) = 0

  node_ : ℕ → ℕ
  node_ k = pick_node k (cases_lt k (length d.nodes))

  -- the number of a node is that of the net of each of its squares
  picked_node : (k : ℕ) (c : (k < length d.nodes) ⊎ (length d.nodes ≤ k)) (s : Square) (n : Net)
      → IsOfNode Covers_ d.nodes k s → Owns f n s → pick_node k c ≡ number n
  unfolding pick_node
  picked_node k (inl h) s n i o =
      let a = node_at k h in
      let c : Chain (Joined Covers_) (get_or d.nodes k some_square) s = subst (λ z. Chain (Joined Covers_) z s)
      (get_or_default d.nodes k s some_square h) i.1 in
      let g = (nodes_are_nets joined f w (get_or d.nodes k some_square) s a.0 n a.2 o).0 c in
      (t.nodes.same a.0 n a.1 (owns_net f w s n o)).1 g
  picked_node k (inr h) s n i o = let i0 = i.0 in absurd (omega arith)

  node_is : (k : ℕ) (s : Square) (n : Net) → IsOfNode Covers_ d.nodes k s → Owns f n s → node_ k ≡ number n
  unfolding node_
  node_is k s n i o = picked_node k (cases_lt k (length d.nodes)) s n i o

  own_class : (k : ℕ) → k < length d.nodes → IsOfNode Covers_ d.nodes k (get_or d.nodes k some_square)
  own_class k h = (
    h,
    subst (λ z. Chain (Joined Covers_) z (get_or d.nodes k some_square))
        (get_or_default d.nodes k some_square (get_or d.nodes k some_square) h) here,
  )

  net_class : (n : Net) → IsNet f n → (k : ℕ) × IsOfNode Covers_ d.nodes k (anchor f n)
  net_class n h = class_of d.nodes d.are_nodes (anchor f n)
      (owns_conducts joined f w n (anchor f n) (anchor_owned joined f w n h))

  pick_back : (j : ℕ) → (j < m.nodes) ⊎ (m.nodes ≤ j) → ℕ
  pick_back j (inl h) = let n = t.nodes.onto j h in (net_class n.0 n.1).0
  pick_back j (inr h) = 0

  record BackNode (j k : ℕ) : Type 0 where
    pub net_ : Net
    pub is : IsNet f net_
    pub number_ : number net_ ≡ j
    pub class : IsOfNode Covers_ d.nodes k (anchor f net_)

  picked_back : (j : ℕ) (c : (j < m.nodes) ⊎ (m.nodes ≤ j)) → j < m.nodes → BackNode j (pick_back j c)
  unfolding pick_back
  picked_back j (inl h) g = let n = t.nodes.onto j h in
      record { net_ = n.0; is = n.1; number_ = n.2; class = (net_class n.0 n.1).1 }
  picked_back j (inr h) g = absurd (omega arith)

  node_back_ : ℕ → ℕ
  node_back_ j = pick_back j (cases_lt j m.nodes)

  back_node : (j : ℕ) → j < m.nodes → BackNode j (node_back_ j)
  unfolding node_back_
  back_node j h = picked_back j (cases_lt j m.nodes) h

  one_node : (j k : ℕ) (s : Square) → IsOfNode Covers_ d.nodes j s → IsOfNode Covers_ d.nodes k s → j ≡ k
  one_node j k s a b = one_class (join_flip Covers_) d.nodes d.are_nodes j k s a b

  nodes_one_to_one : AreOneToOne net.nodes m.nodes node_ node_back_
  nodes_one_to_one = record {
    within = λ k h. (let h2 : k < length d.nodes = subst (λ z. k < z) d.count h in let a = node_at k h2 in
        subst (λ z. z < m.nodes) (sym (node_is k (get_or d.nodes k some_square) a.0 (own_class k h2) a.2))
        (t.nodes.below a.0 a.1));
    back_within = λ j h. subst (λ z. node_back_ j < z) (sym d.count) (back_node j h).class.0;
    there_back = λ k h. (let h2 : k < length d.nodes = subst (λ z. k < z) d.count h in let a = node_at k h2 in
        let e : node_ k ≡ number a.0 = node_is k (get_or d.nodes k some_square) a.0 (own_class k h2) a.2 in
        let l : node_ k < m.nodes = subst (λ z. z < m.nodes) (sym e) (t.nodes.below a.0 a.1) in
        let b = back_node (node_ k) l in
        let c = (t.nodes.same b.net_ a.0 b.is a.1).0 (b.number_ ∙ e) in
        let g : Chain (Joined Covers_) (anchor f b.net_)
        (get_or d.nodes k some_square) = (nodes_are_nets joined f w (anchor f b.net_)
        (get_or d.nodes k some_square) b.net_ a.0 (anchor_owned joined f w b.net_ b.is) a.2).1 c in
        let i : IsOfNode Covers_ d.nodes (node_back_ (node_ k)) (get_or d.nodes k some_square) = (
          b.class.0,
          subst (λ z. Chain (Joined Covers_) z (get_or d.nodes k some_square))
              (get_or_default d.nodes (node_back_ (node_ k)) (anchor f b.net_) (get_or d.nodes k some_square) b.class.0)
              (join_chains b.class.1 g),
        ) in
        one_node (node_back_ (node_ k)) k (get_or d.nodes k some_square) i (own_class k h2));
    back_there = λ j h. (let b = back_node j h in node_is (node_back_ j) (anchor f b.net_) b.net_ b.class
        (anchor_owned joined f w b.net_ b.is) ∙ b.number_);
  }

  -- ---- channels
  mark_at : (k : ℕ) → k < length d.regions → (n : Mark) × OfMark f n (get_or d.regions k some_square)
  mark_at k h = mark_of f w (get_or d.regions k some_square) (d.are_regions.each k some_square h)

  index_of : (n : Mark) (s : Square) → OfMark f n s → Contains switches_ n
  index_of n s o = member_contains switches_ n (filter_member is_switch f.marks n (contains_member f.marks n o.in_marks)
      (is_a_switch n (has_channel n.tile o.cell o.among)))

  pick_channel : (k : ℕ) → (k < length d.regions) ⊎ (length d.regions ≤ k) → ℕ
  pick_channel k (inl h) = let n = mark_at k h in (index_of n.0 (get_or d.regions k some_square) n.1).0
  pick_channel k (inr h) = 0

  channel_ : ℕ → ℕ
  channel_ k = pick_channel k (cases_lt k (length d.regions))

  record ChannelMark (k j : ℕ) : Type 0 where
    pub mark_ : Mark
    pub of : OfMark f mark_ (get_or d.regions k some_square)
    pub within : j < length switches_
    pub is : get_or switches_ j no_mark ≡ mark_

  picked_channel : (k : ℕ) (c : (k < length d.regions) ⊎ (length d.regions ≤ k)) → k < length d.regions
      → ChannelMark k (pick_channel k c)
  unfolding pick_channel
  picked_channel k (inl h) g =
      let n = mark_at k h in
      let i = index_of n.0 (get_or d.regions k some_square) n.1 in
      record { mark_ = n.0; of = n.1; within = i.1; is = get_or_default switches_ i.0 no_mark n.0 i.1 ∙ i.2 }
  picked_channel k (inr h) g = absurd (omega arith)

  channel_mark : (k : ℕ) → k < length d.regions → ChannelMark k (channel_ k)
  unfolding channel_
  channel_mark k h = picked_channel k (cases_lt k (length d.regions)) h

  record BackChannel (j k : ℕ) : Type 0 where
    pub square_ : Square
    pub of : OfMark f (get_or switches_ j no_mark) square_
    pub class : IsInClass (Adjoin (IsChannelSquare Covers_)) d.regions k square_

  back_at : (j : ℕ) → j < length switches_ → (k : ℕ) × BackChannel j k
  back_at j h =
      let n : Mark = get_or switches_ j no_mark in
      let g = member_filter is_switch f.marks n (contains_member switches_ n
      (j, h, get_or_default switches_ j n no_mark h)) in
      let c = corner f w n (member_contains f.marks n g.0) (switch_tile n.tile n refl g.1) in
      let k = class_of d.regions d.are_regions c.0 (of_mark f w n c.0 c.1) in
      (k.0, record { square_ = c.0; of = c.1; class = k.1 })

  pick_back_channel : (j : ℕ) → (j < length switches_) ⊎ (length switches_ ≤ j) → ℕ
  pick_back_channel j (inl h) = (back_at j h).0
  pick_back_channel j (inr h) = 0

  channel_back_ : ℕ → ℕ
  channel_back_ j = pick_back_channel j (cases_lt j (length switches_))

  picked_back_channel : (j : ℕ) (c : (j < length switches_) ⊎ (length switches_ ≤ j)) → j < length switches_
      → BackChannel j (pick_back_channel j c)
  unfolding pick_back_channel
  picked_back_channel j (inl h) g = (back_at j h).1
  picked_back_channel j (inr h) g = absurd (omega arith)

  back_channel : (j : ℕ) → j < length switches_ → BackChannel j (channel_back_ j)
  unfolding channel_back_
  back_channel j h = picked_back_channel j (cases_lt j (length switches_)) h

  region_count : length d.regions ≡ length net.channels
  region_count = zip_length (IsChannelAt Covers_ d.nodes) d.regions net.channels d.channels

  switch_count : length switches_ ≡ length m.channels
  switch_count = zip_length (IsSwitch f number) switches_ m.channels t.channels

  own_region : (k : ℕ) → k < length d.regions → IsInClass (Adjoin (IsChannelSquare Covers_)) d.regions k
      (get_or d.regions k some_square)
  own_region k h = (
    h,
    subst (λ z. Chain (Adjoin (IsChannelSquare Covers_)) z (get_or d.regions k some_square))
        (get_or_default d.regions k some_square (get_or d.regions k some_square) h) here,
  )

  channels_one_to_one : AreOneToOne (length net.channels) (length m.channels) channel_ channel_back_
  channels_one_to_one = record {
    within = λ k h. subst (λ z. channel_ k < z) switch_count
        (channel_mark k (subst (λ z. k < z) (sym region_count) h)).within;
    back_within = λ j h. subst (λ z. channel_back_ j < z) region_count
        (back_channel j (subst (λ z. j < z) (sym switch_count) h)).class.0;
    there_back = λ k h. (let h2 : k < length d.regions = subst (λ z. k < z) (sym region_count) h in
        let a = channel_mark k h2 in
        let b = back_channel (channel_ k) a.within in
        let o : OfMark f a.mark_ b.square_ = subst (λ z. OfMark f z b.square_) a.is b.of in
        let c = channel_whole f w joined a.mark_ b.square_ (get_or d.regions k some_square) o a.of in
        let i : IsInClass (Adjoin (IsChannelSquare Covers_)) d.regions (channel_back_ (channel_ k))
        (get_or d.regions k some_square) = (
          b.class.0,
          subst (λ z. Chain (Adjoin (IsChannelSquare Covers_)) z (get_or d.regions k some_square))
              (get_or_default d.regions (channel_back_ (channel_ k)) b.square_ (get_or d.regions k some_square)
              b.class.0)
              (join_chains b.class.1 c),
        ) in
        one_class (adjoin_flip (IsChannelSquare Covers_)) d.regions d.are_regions (channel_back_ (channel_ k)) k
        (get_or d.regions k some_square) i (own_region k h2));
    back_there = λ j h. (let h2 : j < length switches_ = subst (λ z. j < z) (sym switch_count) h in
        let b = back_channel j h2 in
        let a = channel_mark (channel_back_ j) b.class.0 in
        let c : Chain (Adjoin (IsChannelSquare Covers_)) (get_or d.regions (channel_back_ j) some_square) b.square_ =
        subst (λ z. Chain (Adjoin (IsChannelSquare Covers_)) z b.square_)
        (get_or_default d.regions (channel_back_ j) b.square_ some_square b.class.0) b.class.1 in
        let e : a.mark_ ≡ get_or switches_ j no_mark = one_mark_of f w a.mark_ (get_or switches_ j no_mark) b.square_
        (chain_mark f w a.mark_ (get_or d.regions (channel_back_ j) some_square) b.square_ c a.of) b.of in
        distinct switches_ (AllPairs-filter MarksApart is_switch f.marks w.marks_apart)
        (channel_ (channel_back_ j)) j no_mark a.within h2 (a.is ∙ e));
  }

  -- ---- each channel
  same_channel : (r : Square) (n : Mark) (c e : Channel) → OfMark f n r → IsChannelAt Covers_ d.nodes r c
      → IsSwitch f number n e → SameChannel node_ c e
  same_channel r n c e o a b = record {
    gate = gate_;
    ends = λ k. (there k, back_ k);
    kind = kind_ (has_channel n.tile o.cell o.among) c.kind e.kind a.kind b.kind;
  }
    where
      gate_ : node_ c.gate ≡ e.gate
      gate_ = let g = b.gate in node_is c.gate r g.0 a.gate (gate_of f w n r g.0 o g.1) ∙ sym g.2

      there : (k : ℕ) → Contains e.ends k → (j : ℕ) × Contains c.ends j × (node_ j ≡ k)
      there k h =
          let x = (b.ends k).0 h in
          let s = end_square f w n x.0 o.in_marks x.1 in
          let is : IsEnd Covers_ r s.t = record {
            square = s.s;
            of = record { is = of_mark f w n s.s s.of; chain = channel_whole f w joined n r s.s o s.of };
            diffusion = s.layer;
            conducts = owns_conducts joined f w x.0 s.t s.owns;
            beside = s.beside;
          } in
          let k2 = class_of d.nodes d.are_nodes s.t (owns_conducts joined f w x.0 s.t s.owns) in
          (k2.0, (a.ends k2.0).1 (s.t, is, k2.1), node_is k2.0 s.t x.0 k2.1 s.owns ∙ x.2)

      back_ : (k : ℕ) → (j : ℕ) × Contains c.ends j × (node_ j ≡ k) → Contains e.ends k
      back_ k (j, h, q) =
          let x = (a.ends j).0 h in
          let y = owned f w x.0 x.1.conducts in
          let z = ends_are f w n x.1.square x.0 y.0 (chain_mark f w n r x.1.square x.1.of.chain o) x.1.diffusion
          x.1.beside y.2 in
          (b.ends k).1 (y.0, z, sym (node_is j x.0 y.0 x.2 y.2) ∙ q)

      own : IsOfChannel Covers_ r r
      own = record { is = of_mark f w n r o; chain = here }

      kind_ : IsSwitchTile n.tile → (x y : ChannelKind) → IsKind Covers_ r x → HasKind n y → x ≡ y
      kind_ (inl g) Enhancement y h (inl q) = sym q.1
      kind_ (inl g) Depletion y h (inl q) = absurd (bare f w n r o g (h r own))
      kind_ (inl g) Partial y h (inl q) = let (s, of, implant) = h.0 in
          absurd (bare f w n s (chain_mark f w n r s of.chain o) g implant)
      kind_ (inl g) x y h (inr q) = let z : Tran ≡ PullUp = sym g ∙ q.0 in absurd (cc (z))
      kind_ (inr g) x y h (inl q) = let z : Tran ≡ PullUp = sym q.0 ∙ g in absurd (cc (z))
      kind_ (inr g) Enhancement y h (inr q) = absurd (h r own (implanted f w n r o g))
      kind_ (inr g) Depletion y h (inr q) = sym q.1
      kind_ (inr g) Partial y h (inr q) = let (s, of, clear) = h.1 in
          absurd (clear (implanted f w n s (chain_mark f w n r s of.chain o) g))

  abbrev renumbering : Renumbering net m
  renumbering = record {
    node = node_;
    node_back = node_back_;
    channel = channel_;
    channel_back = channel_back_;
    nodes = nodes_one_to_one;
    channels = channels_one_to_one;
    same = λ k x y h. (let h2 : k < length d.regions = subst (λ z. k < z) (sym region_count) h in
        let a = channel_mark k h2 in
        same_channel (get_or d.regions k some_square) a.mark_ (get_or net.channels k x)
        (get_or m.channels (channel_ k) y) a.of
        (zip_at (IsChannelAt Covers_ d.nodes) d.regions net.channels d.channels k some_square x h2)
        (subst (λ z. IsSwitch f number z (get_or m.channels (channel_ k) y)) a.is
        (zip_at (IsSwitch f number) switches_ m.channels t.channels (channel_ k) no_mark y a.within)));
  }

  label_node : (label : FlatLabel) (tag : Tag) → IsTag Covers_ d.nodes label tag → (n : Net) → IsNet f n
      → IsLabelOn f n label → node_ tag.node ≡ number n
  label_node label tag a n i o =
      let at : Square = record { layer = o.layer; x = label.x; y = label.y } in
      let own : Owns f n at = on_net joined f w n at i o.on in
      let c : ConductsOn Covers_ o.layer label.x label.y = owns_conducts joined f w n at own in
      let named : IsNamed Covers_ label.x label.y (Some o.layer) a.square.layer = subst
      (λ z. IsNamed Covers_ label.x label.y z a.square.layer) o.named a.names.layer in
      let e : a.square.layer ≡ o.layer = elim named [ inl h ↦ h.0 | inr h ↦ absurd (h.0 c) ] in
      let same : a.square ≡ at = λ z. record { layer = e z; x = a.names.x z; y = a.names.y z } in
      node_is tag.node at n (subst (λ z. IsOfNode Covers_ d.nodes tag.node z) same a.node) own

  draws_switches : DrawsSwitches f number labels net m
  draws_switches = record {
    numbers = renumbering;
    labelled = zip_map (IsTag Covers_ d.nodes) (λ label tag. (n : Net) → IsNet f n → IsLabelOn f n label
        → node_ tag.node ≡ number n) label_node labels net.tags d.tags;
  }

pub fabric_draws : RectanglesAreJoined → FabricDrawsSwitches
fabric_draws joined f w labels net m number d t = draws_switches joined f w labels net m number d t

pub fabric_is : RectanglesAreJoined → FabricIsSwitches
fabric_is joined f w net m number d t = record {
  numbers = (draws_switches joined f w [] net m number d t).numbers;
  tags = none net.tags m.tags d.tags t.tags (draws_switches joined f w [] net m number d t).numbers.node;
}
  where
    none : (xs ys : List Tag) → AllZip (IsTag (covered (shape f)) d.nodes) [] xs → ys ≡ [] → (node : ℕ → ℕ)
        → AllZip (SameTag node) xs ys
    none [] ys z e node = subst (λ y. AllZip (SameTag node) [] y) (sym e) tt
    none (x ∷ xs) ys z e node = absurd z

-- a label on a net names the conductor on the net's own rectangle
pub labels_name : RectanglesAreJoined → LabelsName
labels_name joined f w n i label o =
    let at : Square = record { layer = o.layer; x = label.x; y = label.y } in
    let c : ConductsOn (covered (shape f)) o.layer label.x label.y =
    owns_conducts joined f w n at (on_net joined f w n at i o.on) in (
      at,
      record {
        x = refl;
        y = refl;
        layer = subst (λ z. IsNamed (covered (shape f)) label.x label.y z o.layer) (sym o.named) (inl (refl, c));
      },
    )
