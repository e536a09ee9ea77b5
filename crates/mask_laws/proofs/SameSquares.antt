-- What the covered squares alone tell: covers that agree on each square draw the same networks and break the same
-- rules.
use Rattle.std.proofs.Common.{ℕ, inl, inr, List, Option, Some, None}
use Rattle.std.specs.Prelude.{ℤ}
use Rattle.lam_geom.specs.declared.layer.Layer.{Layer}
use Rattle.lam_geom.specs.declared.layer.Layer.TheVariants.{ND, NP, NC, NM, NI, NB, NG}
use Rattle.lam_geom.specs.declared.label.FlatLabel.{FlatLabel}
use Rattle.lam_geom.specs.Squares.{covered, SameSquares, Square, Adjoin, Before}
use Rattle.switch_net.specs.declared.network.ChannelKind.{ChannelKind}
use Rattle.switch_net.specs.declared.network.ChannelKind.TheVariants.{Enhancement, Depletion, Partial}
use Rattle.switch_net.specs.declared.network.Channel.{Channel}
use Rattle.switch_net.specs.declared.network.Tag.{Tag}
use Rattle.switch_net.specs.declared.network.Network.{Network}
use Rattle.mp_base.specs.declared.pad.Pads.{Pads}
use Rattle.mp_base.specs.declared.refusal.Broken.{Broken}
use Rattle.mp_base.proofs.Zips.{zip_map}
use Rattle.switch_net.specs.Classes.{AreClasses}
use Rattle.switch_net.specs.Conductors.{IsChannel, ConductsOn, Conducts, Joined, IsChannelSquare}
use Rattle.switch_net.specs.Conductors.Joined.{beside, contact}
use Rattle.switch_net.specs.Labels.{IsFirst, IsNamed, Names}
use Rattle.switch_net.specs.Drawn.{AreNodes, IsOfNode, AreRegions, IsOfChannel, IsEnd, IsKind, IsChannelAt, IsTag}
use Rattle.switch_net.specs.Drawn.{IsNetwork}
use Rattle.switch_net.specs.Breaks.{IsOnTwoNodes, IsOnNothing, AreTooMany, BreaksAt, IsFirstOfMask, IsSoundMask}
use Rattle.switch_net.specs.Breaks.BreaksAt.{one, two}
use Rattle.switch_net.specs.Breaks.IsFirstOfMask.{n1, n2, n3, n5}
use Rattle.lam_geom.proofs.Chains.{map_chain}
use Rattle.lam_geom.proofs.Adjoins.{adjoin_map}
use Rattle.mask_laws.specs.Laws.{NetworkBySquares, FirstBySquares, SoundBySquares}

abbrev pub Covers : Type 1
Covers = Layer → ℤ → ℤ → Type 0

pub turn : (c d : Covers) → SameSquares c d → SameSquares d c
turn c d e l x y = ((e l x y).1, (e l x y).0)

channel : (c d : Covers) → SameSquares c d → (x y : ℤ) → IsChannel c x y → IsChannel d x y
channel c d e x y h =
    record {
      gate = (e NP x y).0 h.gate;
      diffusion = (e ND x y).0 h.diffusion;
      unburied =
          λ b. h.unburied ((e NB x y).1 b);
    }

conducts_on : (c d : Covers) → SameSquares c d → (l : Layer) (x y : ℤ) → ConductsOn c l x y → ConductsOn d l x y
conducts_on c d e NM x y h = (e NM x y).0 h
conducts_on c d e NP x y h = (e NP x y).0 h
conducts_on c d e ND x y h = ((e ND x y).0 h.0, λ k. h.1 (channel d c (turn c d e) x y k))
conducts_on c d e NC x y h = h
conducts_on c d e NI x y h = h
conducts_on c d e NB x y h = h
conducts_on c d e NG x y h = h

conducts : (c d : Covers) → SameSquares c d → (s : Square) → Conducts c s → Conducts d s
conducts c d e s h = conducts_on c d e s.layer s.x s.y h

joined : (c d : Covers) → SameSquares c d → (s t : Square) → Joined c s t → Joined d s t
joined c d e s t (beside j) = beside (adjoin_map (Conducts c) (Conducts d) (conducts c d e) s t j)
joined c d e s t (contact j) =
    contact (record {
      from = conducts c d e s j.from;
      to = conducts c d e t j.to;
      x = j.x;
      y = j.y;
      by = elim j.by [ inl a ↦ inl ((e NC s.x s.y).0 a) | inr b ↦ inr ((e NB s.x s.y).0 b.0, b.1, b.2) ];
    })

pub channel_square : (c d : Covers) → SameSquares c d → (s : Square) → IsChannelSquare c s → IsChannelSquare d s
channel_square c d e s h = (h.0, channel c d e s.x s.y h.1)

abbrev Neighbours : Covers → Square → Square → Type 0
Neighbours c = Adjoin (IsChannelSquare c)

neighbours : (c d : Covers) → SameSquares c d → (s t : Square) → Neighbours c s t → Neighbours d s t
neighbours c d e s t j = adjoin_map (IsChannelSquare c) (IsChannelSquare d) (channel_square c d e) s t j

classes : {S : Type 0} (P Q : S → Type 0) (J K : S → S → Type 0) (B : S → S → Type 0) (least : List S)
    → ((s : S) → P s → Q s) → ((s : S) → Q s → P s) → ((s t : S) → J s t → K s t) → ((s t : S) → K s t → J s t)
    → AreClasses P J B least → AreClasses Q K B least
classes P Q J K B least f g j k h = record {
  ascending = h.ascending;
  each = λ i x lt. f _ (h.each i x lt);
  first = λ r s c q t. h.first r s c (g s q) (map_chain k t);
  all = λ s q. let w = h.all s (g s q) in (w.0, w.1, map_chain j w.2);
}

nodes : (c d : Covers) → SameSquares c d → (ns : List Square) → AreNodes c ns → AreNodes d ns
nodes c d e ns h =
    classes (Conducts c) (Conducts d) (Joined c) (Joined d) Before ns (conducts c d e) (conducts d c (turn c d e))
    (joined c d e) (joined d c (turn c d e)) h

regions : (c d : Covers) → SameSquares c d → (rs : List Square) → AreRegions c rs → AreRegions d rs
regions c d e rs h =
    classes (IsChannelSquare c) (IsChannelSquare d) (Neighbours c) (Neighbours d) Before rs (channel_square c d e)
    (channel_square d c (turn c d e)) (neighbours c d e) (neighbours d c (turn c d e)) h

of_node : (c d : Covers) → SameSquares c d → (ns : List Square) (k : ℕ) (s : Square) → IsOfNode c ns k s
    → IsOfNode d ns k s
of_node c d e ns k s h = (h.0, map_chain (joined c d e) h.1)

pub of_channel : (c d : Covers) → SameSquares c d → (r s : Square) → IsOfChannel c r s → IsOfChannel d r s
of_channel c d e r s h = record { is = channel_square c d e s h.is; chain = map_chain (neighbours c d e) h.chain }

end : (c d : Covers) → SameSquares c d → (r t : Square) → IsEnd c r t → IsEnd d r t
end c d e r t h = record {
  square = h.square;
  of = of_channel c d e r h.square h.of;
  diffusion = h.diffusion;
  conducts = conducts c d e t h.conducts;
  beside = h.beside;
}

pub kind : (c d : Covers) → SameSquares c d → (r : Square) (k : ChannelKind) → IsKind c r k → IsKind d r k
kind c d e r Enhancement h = λ s o i. h s (of_channel d c (turn c d e) r s o) ((e NI s.x s.y).1 i)
kind c d e r Depletion h = λ s o. (e NI s.x s.y).0 (h s (of_channel d c (turn c d e) r s o))
kind c d e r Partial ((s, in_s, has), (t, in_t, lacks)) = (
  (s, of_channel c d e r s in_s, (e NI s.x s.y).0 has),
  (t, of_channel c d e r t in_t, λ i. lacks ((e NI t.x t.y).1 i)),
)

channel_at : (c d : Covers) → SameSquares c d → (ns : List Square) (r : Square) (x : Channel) → IsChannelAt c ns r x
    → IsChannelAt d ns r x
channel_at c d e ns r x h = record {
  gate = of_node c d e ns x.gate r h.gate;
  ascending = h.ascending;
  ends = λ k. (
    λ i. let w = (h.ends k).0 i in (w.0, end c d e r w.0 w.1, of_node c d e ns k w.0 w.2),
    λ w. (h.ends k).1 (w.0, end d c (turn c d e) r w.0 w.1, of_node d c (turn c d e) ns k w.0 w.2),
  );
  kind = kind c d e r x.kind h.kind;
}

first : (c d : Covers) → SameSquares c d → (x y : ℤ) (l : Layer) → IsFirst c x y l → IsFirst d x y l
first c d e x y l h = (conducts_on c d e l x y h.0, λ m lt k. h.1 m lt (conducts_on d c (turn c d e) m x y k))

named : (c d : Covers) → SameSquares c d → (x y : ℤ) (o : Option Layer) (l : Layer) → IsNamed c x y o l
    → IsNamed d x y o l
named c d e x y None l h = first c d e x y l h
named c d e x y (Some m) l (inl h) = inl (h.0, conducts_on c d e m x y h.1)
named c d e x y (Some m) l (inr h) = inr ((λ k. h.0 (conducts_on d c (turn c d e) m x y k)), first c d e x y l h.1)

names : (c d : Covers) → SameSquares c d → (label : FlatLabel) (s : Square) → Names c label s → Names d label s
names c d e label s h = record { x = h.x; y = h.y; layer = named c d e label.x label.y label.layer s.layer h.layer }

tagged : (c d : Covers) → SameSquares c d → (ns : List Square) (label : FlatLabel) (t : Tag) → IsTag c ns label t
    → IsTag d ns label t
tagged c d e ns label t h = record {
  offset = h.offset;
  name = h.name;
  square = h.square;
  names = names c d e label h.square h.names;
  node = of_node c d e ns t.node h.square h.node;
}

network : (c d : Covers) → SameSquares c d → (labels : List FlatLabel) (net : Network) → IsNetwork c labels net
    → IsNetwork d labels net
network c d e labels net h = record {
  nodes = h.nodes;
  regions = h.regions;
  are_nodes = nodes c d e h.nodes h.are_nodes;
  are_regions = regions c d e h.regions h.are_regions;
  count = h.count;
  channels =
      zip_map (IsChannelAt c h.nodes) (IsChannelAt d h.nodes)
      (channel_at c d e h.nodes) h.regions net.channels h.channels;
  tags = zip_map (IsTag c h.nodes) (IsTag d h.nodes) (tagged c d e h.nodes) labels net.tags h.tags;
}

two_nodes : (c d : Covers) → SameSquares c d → (labels : List FlatLabel) (i : ℕ) (label : FlatLabel)
    → IsOnTwoNodes c labels i label → IsOnTwoNodes d labels i label
two_nodes c d e labels i label h = record {
  at = h.at;
  j = h.j;
  before = h.before;
  earlier = h.earlier;
  there = h.there;
  name = h.name;
  s = h.s;
  t = h.t;
  names = names c d e label h.s h.names;
  named = names c d e h.earlier h.t h.named;
  apart = λ k. h.apart (map_chain (joined d c (turn c d e)) k);
}

nothing : (c d : Covers) → SameSquares c d → (labels : List FlatLabel) (i : ℕ) (label : FlatLabel)
    → IsOnNothing c labels i label → IsOnNothing d labels i label
nothing c d e labels i label h = record { at = h.at; none = λ s k. h.none s (names d c (turn c d e) label s k) }

breaks : (c d : Covers) → SameSquares c d → (labels : List FlatLabel) (i : ℕ) → BreaksAt c labels i
    → BreaksAt d labels i
breaks c d e labels i (one label h) = one label (two_nodes c d e labels i label h)
breaks c d e labels i (two label h) = two label (nothing c d e labels i label h)

too_many : (c d : Covers) → SameSquares c d → AreTooMany c → AreTooMany d
too_many c d e h = record {
  nodes = h.nodes;
  regions = h.regions;
  are_nodes = nodes c d e h.nodes h.are_nodes;
  are_regions = regions c d e h.regions h.are_regions;
  over = h.over;
}

sound : (c d : Covers) → SameSquares c d → (labels : List FlatLabel) (net : Network) (pads : Pads)
    → IsSoundMask c labels net pads → IsSoundMask d labels net pads
sound c d e labels net pads h = record {
  network = network c d e labels net h.network;
  labels_fit = λ i b. h.labels_fit i (breaks d c (turn c d e) labels i b);
  few = λ m. h.few (too_many d c (turn c d e) m);
  has_pads = h.has_pads;
}

first_broken : (c d : Covers) → SameSquares c d → (labels : List FlatLabel) (b : Broken) → IsFirstOfMask c labels b
    → IsFirstOfMask d labels b
first_broken c d e labels b (n1 i l h f) =
    n1 i l (two_nodes c d e labels i l h) (λ j lt k. f j lt (breaks d c (turn c d e) labels j k))
first_broken c d e labels b (n2 i l h f) =
    n2 i l (nothing c d e labels i l h) (λ j lt k. f j lt (breaks d c (turn c d e) labels j k))
first_broken c d e labels b (n3 net w i t h f) = n3 net (network c d e labels net w) i t h f
first_broken c d e labels b (n5 net w f h) = n5 net (network c d e labels net w) f (too_many c d e h)

pub network_by_squares : NetworkBySquares
network_by_squares rects shapes e labels net h = network (covered rects) (covered shapes) e labels net h

pub first_by_squares : FirstBySquares
first_by_squares rects shapes e labels b h = first_broken (covered rects) (covered shapes) e labels b h

pub sound_by_squares : SoundBySquares
sound_by_squares rects shapes e labels net pads h = sound (covered rects) (covered shapes) e labels net pads h
