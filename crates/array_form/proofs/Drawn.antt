-- A fabric whose ties are those of the nets draws the nets.
use Rattle.std.proofs.Common.{◌≡◌, ◌⊎◌, inl, inr, ℕ, ◌<◌, List, Some, refl, sym, ◌∙◌, ap, subst}
use Rattle.std.proofs.Common.{Bool, true, false, filter, length, get_or, arith}
use Rattle.std.specs.Prelude.{AllPairs, Contains, ◌≢◌}
use Rattle.std.proofs.lemmas.List.{get_or_default}
use Rattle.std.proofs.lemmas.List.Kept.{AllPairs-filter}
use Rattle.mp_base.proofs.Tests.{false_true}
use Rattle.mp_base.proofs.Members.{member_contains, contains_member, member_filter, filter_member, zip_left, zip_right}
use Rattle.mp_base.proofs.Zips.{zip_at, zip_length}
use Rattle.tile_cells.specs.declared.tile.Tile.TheVariants.{TapL, TapR, Tran, PullUp, Under}
use Rattle.switch_net.specs.declared.network.ChannelKind.TheVariants.{Enhancement, Depletion}
use Rattle.switch_net.specs.declared.network.Channel.{Channel}
use Rattle.switch_net.specs.declared.network.Network.{Network}
use Rattle.fabric.specs.declared.thing.Side.{Side}
use Rattle.fabric.specs.declared.thing.Side.TheVariants.{L, R}
use Rattle.fabric.specs.declared.thing.Mark.{Mark}
use Rattle.fabric.specs.Plan.{Plan, IsFabric, MarksApart}
use Rattle.fabric.specs.Switches.{Net, power, IsTapOn, is_switch, IsSwitch}
use Rattle.fabric.specs.Switches.{AreSwitches}
use Rattle.nor_net.specs.declared.net.Phase.{Phase}
use Rattle.nor_net.specs.Elements.{Spot, Nor, Latched, Nets}
use Rattle.drawing.specs.Draws.{Point, OfNet, Ground, Power, OfPhase, IsOwn, HasOwnNode, HasEnds, IsPullDown}
use Rattle.drawing.specs.Draws.{IsPullUp, IsPass, IsDrawn, pull_down, pull_up, pass, lone, PullUpsApart, Draws}
use Rattle.array_form.specs.Lists.{mark}
use Rattle.array_form.specs.Named.{Tie, tap, tran, pull, IsAt, IsNamed}
use Rattle.array_form.specs.Roots.{Root, at, alone, AreRoots, AreRooted, IsSwitchOf, down_of, pass_of}
use Rattle.array_form.specs.Roots.{up_of, lone_of, AreSwitchesOf, AreHubs}
use Rattle.array_form.proofs.Once.{line_once, segment_once}
use Rattle.array_form.proofs.Naming.{roots_from_numbers, hub_number}
use Rattle.array_form.proofs.PullUps.{IsTopOf, one_top, top_of}

tap_is_no_switch : (s : Side) (m : Mark) → IsTapOn s m.tile → is_switch m ≡ true → ⊥
tap_is_no_switch L m a b =
    absurd (false_true
    (subst (λ t. elim t as (λ _. Bool)
    [ TapL ↦ false | TapR ↦ false | Tran ↦ true | PullUp ↦ true | Under ↦ false ] ≡ true) a b))
tap_is_no_switch R m a b =
    absurd (false_true
    (subst (λ t. elim t as (λ _. Bool)
    [ TapL ↦ false | TapR ↦ false | Tran ↦ true | PullUp ↦ true | Under ↦ false ] ≡ true) a b))

tran_is_switch : (m : Mark) → m.tile ≡ Tran → is_switch m ≡ true
tran_is_switch m e =
    subst (λ t. elim t as (λ _. Bool) [ TapL ↦ false | TapR ↦ false | Tran ↦ true | PullUp ↦ true | Under ↦ false ]
    ≡ true) (sym e) refl

pull_is_switch : (m : Mark) → m.tile ≡ PullUp → is_switch m ≡ true
pull_is_switch m e =
    subst (λ t. elim t as (λ _. Bool) [ TapL ↦ false | TapR ↦ false | Tran ↦ true | PullUp ↦ true | Under ↦ false ]
    ≡ true) (sym e) refl

under_is_no_switch : (m : Mark) → is_switch m ≡ true → m.tile ≢ Under
under_is_no_switch m b e =
    cc (subst (λ t. elim t as (λ _. Bool)
    [ TapL ↦ false | TapR ↦ false | Tran ↦ true | PullUp ↦ true | Under ↦ false ] ≡ true) e b)

at_once : (p q : Point) → at p ≡ at q → p ≡ q
at_once p q e = cc e

module _ (W : Type 0) (In : W → Type 0) (T : Tie W → Type 0) (f : Plan) (lawful : IsFabric f) (net_of : W → Net)
    (named : IsNamed W In T f net_of)
    (root : W → Root) (hub : Root → W) (rooted : AreRooted W In T root hub) (nets : Nets) (root_of : Spot → Root)
    (rank : Spot → ℕ) (roots : AreRoots nets root_of rank)
    (hubs : AreHubs nets W In root hub) (switches : AreSwitchesOf nets W T root root_of) (number : Net → ℕ)
    (network : Network) (are : AreSwitches f number network)
    (power_is : net_of (hub (at Power)) ≡ power) where
  -- the node of each point
  pub node : Point → ℕ
  node (OfNet n) = number (net_of (hub (root_of n)))
  node Ground = number (net_of (hub (at Ground)))
  node Power = number (net_of (hub (at Power)))
  node (OfPhase p) = number (net_of (hub (at (OfPhase p))))

  number_at : (w : W) (r : Root) → In w → root w ≡ r → number (net_of w) ≡ number (net_of (hub r))
  unfolding node
  number_at w r i e =
      hub_number W In T f lawful net_of named rooted.speaks root hub rooted network.nodes number are.nodes w i
      ∙ ap (λ q. number (net_of (hub q))) e

  own_node : (p : Point) → HasOwnNode nets p → node p ≡ number (net_of (hub (at p)))
  unfolding node
  own_node (OfNet n) own = ap (λ q. number (net_of (hub q))) (roots.own n own)
  own_node Ground own = refl
  own_node Power own = refl
  own_node (OfPhase p) own = refl

  apart : (p q : Point) → HasOwnNode nets p → HasOwnNode nets q → node p ≡ node q → p ≡ q
  apart p q op oq e =
      let hp = hubs.each p op in
      let hq = hubs.each q oq in
      at_once p q (sym hp.1
      ∙ (roots_from_numbers W In T f lawful net_of named rooted.speaks root hub rooted network.nodes number
      are.nodes (hub (at p)) (hub (at q)) hp.0 hq.0
      (sym (own_node p op) ∙ (e ∙ own_node q oq)) ∙ hq.1))

  -- the channel of a switch, and the switch of a channel
  channel_at : (m : Mark) → Contains f.marks m → is_switch m ≡ true
      → (c : Channel) × Contains network.channels c × IsSwitch f number m c
  channel_at m i e =
      let w = zip_left (IsSwitch f number) (filter is_switch f.marks) network.channels m are.channels
      (filter_member is_switch f.marks m (contains_member f.marks m i) e) in
      (w.0, member_contains network.channels w.0 w.1, w.2)

  switch_at : (c : Channel) → Contains network.channels c
      → (m : Mark) × Contains f.marks m × (is_switch m ≡ true) × IsSwitch f number m c
  switch_at c i =
      let w = zip_right (IsSwitch f number) (filter is_switch f.marks) network.channels c are.channels
      (contains_member network.channels c i) in
      let u = member_filter is_switch f.marks w.0 w.1 in
      (w.0, member_contains f.marks w.0 u.0, u.1, w.2)

  -- what the channel of a transistor is
  record IsTran (g a b : W) (c : Channel) : Type 0 where
    kind : c.kind ≡ Enhancement
    gate : c.gate ≡ number (net_of g)
    ends : HasEnds c (number (net_of a)) (number (net_of b))

  tran_is : (m : Mark) (g a b : W) → IsAt W f net_of m (tran g a b) → (c : Channel) → IsSwitch f number m c
      → IsTran g a b c
  tran_is m g a b r c s = record { kind = kind_is; gate = gate_is; ends = λ x. (to x, from x) }
    where
      kind_is : c.kind ≡ Enhancement
      kind_is = elim s.kind [ inl h ↦ h.1 | inr h ↦ absurd (cc (sym r.0 ∙ h.0)) ]

      gate_is : c.gate ≡ number (net_of g)
      gate_is = s.gate.2
          ∙ ap number (elim s.gate.1
          [ inl h ↦ segment_once f lawful m s.gate.0 (net_of g) h.1 r.1 | inr h ↦ absurd (cc (sym r.0 ∙ h.0)) ])

      to : (x : ℕ) → Contains c.ends x → (x ≡ number (net_of a)) ⊎ (x ≡ number (net_of b))
      to x h =
          let w = (s.ends x).0 h in
          elim w.1 [
            | inl u ↦ elim u.1 [
              | inl l ↦ inl (sym w.2 ∙ ap number (line_once f lawful m L w.0 (net_of a) l r.2))
              | inr l ↦ inr
                  (sym w.2 ∙ ap number (line_once f lawful m R w.0 (net_of b) l r.3))
            ]
            | inr u ↦ absurd (cc (sym r.0 ∙ u.0))
          ]

      from : (x : ℕ) → (x ≡ number (net_of a)) ⊎ (x ≡ number (net_of b)) → Contains c.ends x
      from x (inl e) = (s.ends x).1 (net_of a, inl (r.0, inl r.2), sym e)
      from x (inr e) = (s.ends x).1 (net_of b, inl (r.0, inr r.3), sym e)

  record IsPull (a : W) (c : Channel) : Type 0 where
    kind : c.kind ≡ Depletion
    gate : c.gate ≡ number (net_of a)
    ends : HasEnds c (number (net_of a)) (number power)

  pull_is : (m : Mark) (a : W) → IsAt W f net_of m (pull a) → (c : Channel) → IsSwitch f number m c → IsPull a c
  pull_is m a r c s = record { kind = kind_is; gate = gate_is; ends = λ x. (to x, from x) }
    where
      kind_is : c.kind ≡ Depletion
      kind_is = elim s.kind [ inl h ↦ absurd (cc (sym r.0 ∙ h.0)) | inr h ↦ h.1 ]

      gate_is : c.gate ≡ number (net_of a)
      gate_is = s.gate.2
          ∙ ap number (elim s.gate.1
          [ inl h ↦ absurd (cc (sym r.0 ∙ h.0)) | inr h ↦ line_once f lawful m L s.gate.0 (net_of a) h.1 r.1 ])

      to : (x : ℕ) → Contains c.ends x → (x ≡ number (net_of a)) ⊎ (x ≡ number power)
      to x h =
          let w = (s.ends x).0 h in
          elim w.1 [
            | inl u ↦ absurd (cc (sym r.0 ∙ u.0))
            | inr u ↦ elim u.1 [
              | inl l ↦ inl (sym w.2 ∙ ap number (line_once f lawful m L w.0 (net_of a) l r.1))
              | inr p ↦ inr
                  (sym w.2 ∙ ap number p)
            ]
          ]

      from : (x : ℕ) → (x ≡ number (net_of a)) ⊎ (x ≡ number power) → Contains c.ends x
      from x (inl e) = (s.ends x).1 (net_of a, inr (r.0, inl r.1), sym e)
      from x (inr e) = (s.ends x).1 (power, inr (r.0, inr refl), sym e)

  ends_at : (c : Channel) (a b x y : ℕ) → HasEnds c a b → a ≡ x → b ≡ y → HasEnds c x y
  ends_at c a b x y h e g = subst (λ z. HasEnds c x z) g (subst (λ z. HasEnds c z b) e h)

  swapped : (c : Channel) (a b : ℕ) → HasEnds c a b → HasEnds c b a
  swapped c a b h x = (
    λ k. elim ((h x).0 k) [ inl e ↦ inr e | inr e ↦ inl e ],
    λ k. (h x).1 (elim k [ inl e ↦ inr e | inr e ↦ inl e ]),
  )

  own_number : (w : W) (n : Spot) → In w → root w ≡ at (OfNet n) → IsOwn (nets n) → number (net_of w) ≡ node (OfNet n)
  unfolding node
  own_number w n i e own = number_at w (at (OfNet n)) i e ∙ sym (own_node (OfNet n) own)

  nor_own : (n : Spot) (inputs : List Spot) → nets n ≡ Some (Nor inputs) → IsOwn (nets n)
  nor_own n inputs e = subst IsOwn (sym e) tt

  latch_own : (n source : Spot) (p : Phase) → nets n ≡ Some (Latched p source) → IsOwn (nets n)
  latch_own n source p e = subst IsOwn (sym e) tt

  down_at : (n i : Spot) (inputs : List Spot) → nets n ≡ Some (Nor inputs) → (g a b : W) → T (tran g a b)
      → root g ≡ root_of i → root a ≡ at (OfNet n) → root b ≡ at Ground
      → (c : Channel) → IsTran g a b c → IsPullDown node i n c
  unfolding node
  down_at n i inputs e g a b t rg ra rb c h =
      let sp = rooted.speaks (tran g a b) t in
      record {
        enhancement = h.kind;
        by = h.gate ∙ number_at g (root_of i) sp.0 rg;
        joins = ends_at c (number (net_of a)) (number (net_of b)) (node (OfNet n)) (node Ground) h.ends
            (own_number a n sp.1 ra (nor_own n inputs e)) (number_at b (at Ground) sp.2 rb);
      }

  pass_at : (n source : Spot) (p : Phase) → nets n ≡ Some (Latched p source) → (g a b : W) → T (tran g a b)
      → root g ≡ at (OfPhase p) → root a ≡ at (OfNet n) → root b ≡ root_of source
      → (c : Channel) → IsTran g a b c → IsPass node p source n c
  unfolding node
  pass_at n source p e g a b t rg ra rb c h =
      let sp = rooted.speaks (tran g a b) t in
      record {
        enhancement = h.kind;
        by = h.gate ∙ number_at g (at (OfPhase p)) sp.0 rg;
        joins = swapped c (node (OfNet n)) (node (OfNet source))
            (ends_at c (number (net_of a)) (number (net_of b)) (node (OfNet n)) (node (OfNet source)) h.ends
            (own_number a n sp.1 ra (latch_own n source p e)) (number_at b (root_of source) sp.2 rb));
      }

  up_at : (a : W) (k : ℕ) → number (net_of a) ≡ k → (c : Channel) → IsPull a c → IsPullUp node k c
  unfolding node
  up_at a k e c h = record {
    depletion = h.kind;
    by = h.gate ∙ e;
    joins = ends_at c (number (net_of a)) (number power) k (node Power) h.ends e (sym (ap number power_is));
  }

  -- no point has the node of a pull-up alone
  alone_at : (a : W) (n : Spot) → In a → root a ≡ alone n → (p : Point) → HasOwnNode nets p
      → node p ≡ number (net_of a) → ⊥
  alone_at a n i e p own h =
      let w = hubs.each p own in
      let r = roots_from_numbers W In T f lawful net_of named rooted.speaks root hub rooted network.nodes number
      are.nodes (hub (at p)) a w.0 i (sym (own_node p own) ∙ h) in
      absurd (cc (sym w.1 ∙ (r ∙ e)))

  drawn_at : (m : Mark) (t : Tie W) → T t → IsAt W f net_of m t → is_switch m ≡ true → (c : Channel)
      → IsSwitch f number m c → IsSwitchOf nets W root root_of t → IsDrawn nets node c
  drawn_at m (tap side w v) q r b c s k = absurd (tap_is_no_switch side m r.0 b)
  drawn_at m (tran g a b) q r e c s (down_of n i inputs h ci rg ra rb) =
      pull_down n inputs i h ci (down_at n i inputs h g a b q rg ra rb c (tran_is m g a b r c s))
  drawn_at m (tran g a b) q r e c s (pass_of n source p h rg ra rb) =
      pass n p source h (pass_at n source p h g a b q rg ra rb c (tran_is m g a b r c s))
  drawn_at m (pull a) q r b c s (up_of n inputs h ra) =
      pull_up n inputs h
      (up_at a (node (OfNet n)) (own_number a n (rooted.speaks (pull a) q) ra (nor_own n inputs h)) c
      (pull_is m a r c s))
  drawn_at m (pull a) q r b c s (lone_of n ra) =
      lone (number (net_of a)) (alone_at a n (rooted.speaks (pull a) q) ra)
      (up_at a (number (net_of a)) refl c (pull_is m a r c s))

  -- the wire of a pull-up, which ends below the pull-up's mark
  record IsPulledUp (m : Mark) (c : Channel) : Type 0 where
    wire : W
    tied : T (pull wire)
    gate : c.gate ≡ number (net_of wire)
    top : IsTopOf f (net_of wire) m

  pulled_up : (m : Mark) (c : Channel) → Contains f.marks m → IsSwitch f number m c → c.kind ≡ Depletion
      → IsPulledUp m c
  pulled_up m c marked s kind = by (named.marked m marked (λ e. cc (sym is_pull ∙ e)))
    where
      is_pull : m.tile ≡ PullUp
      is_pull = elim s.kind [ inl h ↦ absurd (cc (sym h.1 ∙ kind)) | inr h ↦ h.0 ]

      by : (t : Tie W) × T t × IsAt W f net_of m t → IsPulledUp m c
      by (tap L w v, tied, crossing) = absurd (cc (sym is_pull ∙ crossing.0))
      by (tap R w v, tied, crossing) = absurd (cc (sym is_pull ∙ crossing.0))
      by (tran g a b, tied, crossing) = absurd (cc (sym is_pull ∙ crossing.0))
      by (pull a, tied, crossing) = record {
        wire = a;
        tied = tied;
        gate = (pull_is m a crossing c s).gate;
        top = top_of f lawful (net_of a) m marked is_pull crossing.1;
      }

  -- pull-ups of one node are of one wire, so of one mark
  two_nodes : (m k : Mark) (c d : Channel) → IsPulledUp m c → IsPulledUp k d → MarksApart m k → c.gate ≢ d.gate
  two_nodes m k c d one other apart same =
      let roots = roots_from_numbers W In T f lawful net_of named rooted.speaks root hub rooted network.nodes number
      are.nodes one.wire other.wire (rooted.speaks (pull one.wire) one.tied)
      (rooted.speaks (pull other.wire) other.tied) (sym one.gate ∙ same ∙ other.gate) in
      let wires = switches.one_pull_up one.wire other.wire one.tied other.tied roots in
      one_top f (net_of other.wire) m k (subst (λ w. IsTopOf f (net_of w) m) wires one.top) other.top apart

  abbrev no_mark : Mark
  no_mark = mark Tran 0 0 0

  -- the mark of channel k
  abbrev switch_of : ℕ → Mark
  switch_of k = get_or (filter is_switch f.marks) k no_mark

  many_switches : length (filter is_switch f.marks) ≡ length network.channels
  many_switches = zip_length (IsSwitch f number) (filter is_switch f.marks) network.channels are.channels

  pulled_up_at : (k : ℕ) (c : Channel) → k < length network.channels → (get_or network.channels k c).kind ≡ Depletion
      → IsPulledUp (switch_of k) (get_or network.channels k c)
  pulled_up_at k c lt kind =
      let many = many_switches in
      let inside : k < length (filter is_switch f.marks) = omega (arith, lt, many) in
      let member = member_filter is_switch f.marks (switch_of k)
      (contains_member (filter is_switch f.marks) (switch_of k)
      (k, inside, get_or_default (filter is_switch f.marks) k (switch_of k) no_mark inside)) in
      pulled_up (switch_of k) (get_or network.channels k c) (member_contains f.marks (switch_of k) member.0)
      (zip_at (IsSwitch f number) (filter is_switch f.marks) network.channels are.channels k no_mark c inside) kind

  pull_ups_apart : AllPairs PullUpsApart network.channels
  pull_ups_apart i j c less within up also same =
      let many = many_switches in
      two_nodes (switch_of i) (switch_of j) (get_or network.channels i c) (get_or network.channels j c)
      (pulled_up_at i c (omega (arith, less, within)) up) (pulled_up_at j c within also)
      (AllPairs-filter MarksApart is_switch f.marks lawful.marks_apart i j no_mark less (omega (arith, within, many)))
      same

  pub draws : Draws network.channels nets node
  unfolding node
  draws = record {
    apart = apart;
    lows = λ n e. ap (λ q. number (net_of (hub q))) (roots.lows n e);
    joins = λ n m e. ap (λ q. number (net_of (hub q))) (roots.joins n m e);
    pull_downs = λ n inputs i e ci.
        let (g, a, b, tied, rg, ra, rb) = switches.pull_downs n i inputs e ci in
        let (m, marked, crossing) = named.tied (tran g a b) tied in
        let (c, among, is) = channel_at m marked (tran_is_switch m crossing.0) in
        (c, among, down_at n i inputs e g a b tied rg ra rb c (tran_is m g a b crossing c is));
    pull_ups = λ n inputs e.
        let (a, tied, ra) = switches.pull_ups n inputs e in
        let (m, marked, crossing) = named.tied (pull a) tied in
        let (c, among, is) = channel_at m marked (pull_is_switch m crossing.0) in (
          c,
          among,
          up_at a (node (OfNet n)) (own_number a n (rooted.speaks (pull a) tied) ra (nor_own n inputs e)) c
              (pull_is m a crossing c is),
        );
    passes = λ n p source e.
        let (g, a, b, tied, rg, ra, rb) = switches.passes n source p e in
        let (m, marked, crossing) = named.tied (tran g a b) tied in
        let (c, among, is) = channel_at m marked (tran_is_switch m crossing.0) in
        (c, among, pass_at n source p e g a b tied rg ra rb c (tran_is m g a b crossing c is));
    only = λ c i.
        let m = switch_at c i in
        let t = named.marked m.0 m.1 (under_is_no_switch m.0 m.2) in
        drawn_at m.0 t.0 t.1 t.2 m.2 c m.3 (switches.only t.0 t.1);
    alone = pull_ups_apart;
  }

  -- the node of a net is that of its segment, wherever the segment's root is the net's
  pub net_node : (w : W) (n : Spot) → In w → root w ≡ root_of n → number (net_of w) ≡ node (OfNet n)
  unfolding node
  net_node w n i e = number_at w (root_of n) i e

  -- the nodes of the other points
  pub node_ground : node Ground ≡ number (net_of (hub (at Ground)))
  unfolding node
  node_ground = refl

  pub node_power : node Power ≡ number (net_of (hub (at Power)))
  unfolding node
  node_power = refl

  pub node_phase : (p : Phase) → node (OfPhase p) ≡ number (net_of (hub (at (OfPhase p))))
  unfolding node
  node_phase p = refl

  -- each node of its own is one of the network's
  pub inside : (p : Point) → HasOwnNode nets p → node p < network.nodes
  inside p own =
      subst (λ k. k < network.nodes) (sym (own_node p own))
      (are.nodes.below (net_of (hub (at p))) (named.is_in (hub (at p)) (hubs.each p own).0))
