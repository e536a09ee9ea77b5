-- Pull-ups are tied, and each path to ground from one is one transistor.
use Rattle.std.proofs.Common.{◌≡◌, ◌⊎◌, inl, inr, ℕ, Option, Some, List, [], ◌∷◌, length, refl, sym, ◌∙◌, ap, subst}
use Rattle.std.specs.Prelude.{Contains, ◌≢◌}
use Rattle.switch_net.specs.declared.network.ChannelKind.TheVariants.{Enhancement, Depletion}
use Rattle.switch_net.specs.declared.network.Channel.{Channel}
use Rattle.nor_net.specs.declared.net.Phase.{Phase}
use Rattle.nor_net.specs.Elements.{Spot, Element, Nor, Latched, Nets}
use Rattle.drawing.specs.Draws.{Point, OfNet, Ground, Power, IsOwn, HasOwnNode, IsDrawn, pull_down, pull_up, pass}
use Rattle.drawing.specs.Draws.{lone, Draws, HasEnds, OfPhase}
use Rattle.drawn_nets.specs.Law.{AreFed}
use Rattle.ground_ways.specs.Ways.{IsTied, IsWay, Avoids, AreOnce, OneToGround, PullUpsAreTied}
use Rattle.ground_ways.specs.Ways.{TransistorsAreClocked}

-- the end of a path that goes anywhere was visited
end_visited : (channels : List Channel) (a b m : ℕ) (ms : List ℕ) → IsWay channels a (m ∷ ms) b → (z : ℕ)
    → Avoids z (m ∷ ms) → z ≡ b → ⊥
end_visited channels a b m [] w z h e = absurd (h.0 (e ∙ sym w.2))
end_visited channels a b m (k ∷ ms) w z h e = end_visited channels m b k ms w.2 z h.1 e

not_net_ground : (n : Spot) → OfNet n ≡ Ground → ⊥
not_net_ground n e = cc e

not_net_power : (n : Spot) → OfNet n ≡ Power → ⊥
not_net_power n e = cc e

not_power_ground : Power ≡ Ground → ⊥
not_power_ground e = cc e

same_net : (n m : Spot) → OfNet n ≡ OfNet m → n ≡ m
same_net n m e = cc e

not_both_kinds : (n i : Spot) (inputs : List Spot) (p : Phase) (q : Option Element) → q ≡ Some (Nor inputs)
    → q ≡ Some (Latched p i) → ⊥
not_both_kinds n i inputs p q a b = cc (sym a ∙ b)

same_source : (p q : Phase) (s t : Spot) (e : Option Element) → e ≡ Some (Latched p s) → e ≡ Some (Latched q t) → s ≡ t
same_source p q s t e a b = cc (sym a ∙ b)

not_enhancement : (c : Channel) → c.kind ≡ Enhancement → c.kind ≡ Depletion → ⊥
not_enhancement c a b = cc (sym a ∙ b)

module _ (channels : List Channel) (nets : Nets) (node : Point
    → ℕ) (draws : Draws channels nets node) (fed : AreFed nets) where
  nor_own : (n : Spot) (inputs : List Spot) → nets n ≡ Some (Nor inputs) → IsOwn (nets n)
  nor_own n inputs e = subst IsOwn (sym e) tt

  latch_own : (n s : Spot) (p : Phase) → nets n ≡ Some (Latched p s) → IsOwn (nets n)
  latch_own n s p e = subst IsOwn (sym e) tt

  off_ground : (n : Spot) → IsOwn (nets n) → node (OfNet n) ≡ node Ground → ⊥
  off_ground n own e = not_net_ground n (draws.apart (OfNet n) Ground own tt e)

  off_power : (n : Spot) → IsOwn (nets n) → node (OfNet n) ≡ node Power → ⊥
  off_power n own e = not_net_power n (draws.apart (OfNet n) Power own tt e)

  one_net : (n m : Spot) → IsOwn (nets n) → IsOwn (nets m) → node (OfNet n) ≡ node (OfNet m) → n ≡ m
  one_net n m a b e = same_net n m (draws.apart (OfNet n) (OfNet m) a b e)

  -- the data of a latch has a node of its own, or ground's
  source_is : (l s : Spot) (p : Phase) → nets l ≡ Some (Latched p s)
      → IsOwn (nets s) ⊎ (node (OfNet s) ≡ node Ground)
  source_is l s p h = elim (fed.fed l p s h) [
    | inl w ↦ inl (subst IsOwn (sym w.1) tt)
    | inr k ↦ elim k [ inl g ↦ inl (subst IsOwn (sym g) tt) | inr z ↦ inr (draws.lows s z) ]
  ]

  -- where the node of a net is that of a latch's data, it is that net
  at_source : (n l s : Spot) (p : Phase) → nets l ≡ Some (Latched p s) → IsOwn (nets n)
      → node (OfNet n) ≡ node (OfNet s) → n ≡ s
  at_source n l s p h own e = elim (source_is l s p h) [
    | inl o ↦ one_net n s own o e
    | inr g ↦ absurd (off_ground n own (e ∙ g))
  ]

  -- no data is a latch
  source_no_latch : (l s : Spot) (p q : Phase) (t : Spot) → nets l ≡ Some (Latched p s)
      → nets s ≡ Some (Latched q t) → ⊥
  source_no_latch l s p q t h k = elim (fed.fed l p s h) [
    | inl w ↦ cc (sym w.1 ∙ k)
    | inr m ↦ elim m [ inl g ↦ cc (sym g ∙ k) | inr z ↦ cc (sym z ∙ k) ]
  ]

  -- where transistors lead from the node of a gate: to ground, or to a latch that it feeds
  from_gate : (n : Spot) (inputs : List Spot) → nets n ≡ Some (Nor inputs) → (c : Channel) (m : ℕ)
      → IsDrawn nets node c → c.kind ≡ Enhancement → Contains c.ends (node (OfNet n)) → Contains c.ends m
      → node (OfNet n) ≢ m
      → (m ≡ node Ground) ⊎ ((l : Spot) × (p : Phase) × (nets l ≡ Some (Latched p n)) × (m ≡ node (OfNet l)))
  from_gate n inputs h c m (pull_down k ins i e ci w) en ia im far = elim ((w.joins (node (OfNet n))).0 ia) [
    | inl q ↦ elim ((w.joins m).0 im) [ inl r ↦ absurd (far (q ∙ sym r)) | inr r ↦ inl r ]
    | inr q ↦ absurd (off_ground n (nor_own n inputs h) q)
  ]
  from_gate n inputs h c m (pull_up k ins e w) en ia im far = absurd (not_enhancement c en w.depletion)
  from_gate n inputs h c m (lone k e w) en ia im far = absurd (not_enhancement c en w.depletion)
  from_gate n inputs h c m (pass l p s e w) en ia im far = elim ((w.joins (node (OfNet n))).0 ia) [
    | inl q ↦ (let r = at_source n l s p e (nor_own n inputs h) q in
        elim ((w.joins m).0 im) [
          | inl k ↦ absurd (far (q
              ∙ sym k))
          | inr k ↦ inr (l, p, subst (λ z. nets l ≡ Some (Latched p z)) (sym r) e, k)
        ])
    | inr q ↦ (let r = one_net n l (nor_own n inputs h) (latch_own l s p e) q in
        absurd (not_both_kinds n s inputs p (nets l) (subst (λ z. nets z ≡ Some (Nor inputs)) r h) e))
  ]

  -- and from the node of a latch: back to its data
  from_latch : (l s : Spot) (p : Phase) → nets l ≡ Some (Latched p s) → (c : Channel) (m : ℕ)
      → IsDrawn nets node c → c.kind ≡ Enhancement → Contains c.ends (node (OfNet l)) → Contains c.ends m
      → node (OfNet l) ≢ m → m ≡ node (OfNet s)
  from_latch l s p h c m (pull_down k ins i e ci w) en ia im far = elim ((w.joins (node (OfNet l))).0 ia) [
    | inl q ↦ (let r = one_net l k (latch_own l s p h) (nor_own k ins e) q in absurd (not_both_kinds k s ins p
        (nets k) e (subst (λ z. nets z ≡ Some (Latched p s)) r h)))
    | inr q ↦ absurd (off_ground l (latch_own l s p h) q)
  ]
  from_latch l s p h c m (pull_up k ins e w) en ia im far = absurd (not_enhancement c en w.depletion)
  from_latch l s p h c m (lone k e w) en ia im far = absurd (not_enhancement c en w.depletion)
  from_latch l s p h c m (pass k q t e w) en ia im far = elim ((w.joins (node (OfNet l))).0 ia) [
    | inl r ↦ (let z = at_source l k t q e (latch_own l s p h) r in absurd (source_no_latch k t q p s e (subst
        (λ x. nets x ≡ Some (Latched p s)) z h)))
    | inr r ↦ (let z = one_net l k (latch_own l s p h) (latch_own k t q e) r in
        elim ((w.joins m).0 im) [
          | inl j ↦ j ∙ ap (λ x. node (OfNet x)) (same_source q p t s (nets k) e (subst (λ x. nets x ≡ Some
              (Latched p s)) z h))
          | inr j ↦ absurd (far (r ∙ sym j))
        ])
  ]

  no_ends : (k : ℕ) → ((p : Point) → HasOwnNode nets p → node p ≡ k → ⊥) → (c : Channel) → IsDrawn nets node c
      → c.kind ≡ Enhancement → Contains c.ends k → ⊥
  no_ends k h c (pull_down n ins i e ci w) en ia = elim ((w.joins k).0 ia) [
    | inl q ↦ h (OfNet n) (nor_own n ins e)
        (sym q)
    | inr q ↦ h Ground tt (sym q)
  ]
  no_ends k h c (pull_up n ins e w) en ia = not_enhancement c en w.depletion
  no_ends k h c (lone n e w) en ia = not_enhancement c en w.depletion
  no_ends k h c (pass l p s e w) en ia = elim ((w.joins k).0 ia) [
    | inl q ↦ elim (source_is l s p e) [ inl o ↦ h (OfNet s) o (sym q) | inr g ↦ h Ground tt (sym (q ∙ g)) ]
    | inr q ↦ h (OfNet l) (latch_own l s p e) (sym q)
  ]

  gate_way : (n : Spot) (inputs : List Spot) → nets n ≡ Some (Nor inputs) → (ms : List ℕ)
      → IsWay channels (node (OfNet n)) ms (node Ground) → AreOnce (node (OfNet n) ∷ ms) → length ms ≡ 1
  gate_way n inputs h [] w o = absurd (off_ground n (nor_own n inputs h) w)
  gate_way n inputs h (m ∷ []) w o = refl
  gate_way n inputs h (m ∷ k ∷ ms) w o =
      let ((c, among, kind, from, to), far, rest) = w in
      let ((near, (not_back, later)), (unvisited, once)) = o in
      elim (from_gate n inputs h c m (draws.only c among) kind from to far) [
        | inl g ↦ absurd (end_visited channels m (node Ground) k ms rest m unvisited g)
        | inr latch ↦ (let (l, p, is, at) = latch in
            let ((d, drawn, kind_d, from_l, to_k), apart, others) = rest in
            let back = from_latch l n p is d k (draws.only d drawn) kind_d (subst (Contains d.ends) at from_l) to_k
            (λ e. apart (at ∙ e)) in
            absurd (not_back (sym back)))
      ]

  way : (d : Channel) (a : ℕ) (ms : List ℕ) → IsDrawn nets node d → d.kind ≡ Depletion → Contains d.ends a
      → a ≢ node Power → IsWay channels a ms (node Ground) → AreOnce (a ∷ ms) → length ms ≡ 1
  way d a ms (pull_down n ins i e ci w) k ia far wy o = absurd (not_enhancement d w.enhancement k)
  way d a ms (pass l p s e w) k ia far wy o = absurd (not_enhancement d w.enhancement k)
  way d a ms (pull_up n inputs e w) k ia far wy o = elim ((w.joins a).0 ia) [
    | inl q ↦ gate_way n inputs e ms (subst (λ z. IsWay channels z ms (node Ground)) q wy) (subst (λ z. AreOnce
        (z ∷ ms)) q o)
    | inr q ↦ absurd (far q)
  ]
  way d a [] (lone n e w) k ia far wy o = elim ((w.joins a).0 ia) [
    | inl q ↦ absurd (e Ground tt (sym wy
        ∙ q))
    | inr q ↦ absurd (far q)
  ]
  way d a (m ∷ ms) (lone n e w) k ia far wy o = elim ((w.joins a).0 ia) [
    | inl q ↦ (let (c, among, kind, from, to) = wy.0 in
        absurd (no_ends n e c (draws.only c among) kind (subst (Contains c.ends) q from)))
    | inr q ↦ absurd (far q)
  ]

  tied : (c : Channel) → IsDrawn nets node c → c.kind ≡ Depletion → IsTied (node Power) c
  tied c (pull_down n ins i e ci w) k = absurd (not_enhancement c w.enhancement k)
  tied c (pass l p s e w) k = absurd (not_enhancement c w.enhancement k)
  tied c (pull_up n inputs e w) k = record {
    gate = λ q. off_power n (nor_own n inputs e) (sym w.by ∙ q);
    joins = subst (λ g. HasEnds c g (node Power)) (sym w.by) w.joins;
  }
  tied c (lone n e w) k = record {
    gate = λ q. e Power tt (sym q ∙ w.by);
    joins = subst (λ g. HasEnds c g (node Power)) (sym w.by) w.joins;
  }

  fed_by_pull_ups : (c : Channel) → IsDrawn nets node c → Contains c.ends (node Power) → c.kind ≡ Depletion
  fed_by_pull_ups c (pull_up n inputs e w) at = w.depletion
  fed_by_pull_ups c (lone n e w) at = w.depletion
  fed_by_pull_ups c (pull_down n ins i e ci w) at = elim ((w.joins (node Power)).0 at) [
    | inl q ↦ absurd (off_power n (nor_own n ins e) (sym q))
    | inr q ↦ absurd (not_power_ground (draws.apart Power Ground tt tt q))
  ]
  fed_by_pull_ups c (pass l p s e w) at = elim ((w.joins (node Power)).0 at) [
    | inl q ↦ elim (source_is l s p e) [
      | inl o ↦ absurd (off_power s o (sym q))
      | inr g ↦ absurd (not_power_ground (draws.apart Power Ground tt tt (q ∙ g)))
    ]
    | inr q ↦ absurd (off_power l (latch_own l s p e) (sym q))
  ]

-- what a transistor of a drawing is
clocked : (nets : Nets) (node : Point → ℕ) (c : Channel) → IsDrawn nets node c → c.kind ≡ Enhancement
    → Contains c.ends (node Ground) ⊎ ((p : Phase) × (c.gate ≡ node (OfPhase p)))
clocked nets node c (pull_down n ins i e ci w) k = inl ((w.joins (node Ground)).1 (inr refl))
clocked nets node c (pass l p s e w) k = inr (p, w.by)
clocked nets node c (pull_up n inputs e w) k = absurd (not_enhancement c k w.depletion)
clocked nets node c (lone n e w) k = absurd (not_enhancement c k w.depletion)

pub transistors_are_clocked : TransistorsAreClocked
transistors_are_clocked channels nets node draws c among = clocked nets node c (draws.only c among)

pub pull_ups_are_tied : PullUpsAreTied
pull_ups_are_tied channels nets node draws fed c among = (
  tied channels nets node draws fed c (draws.only c among),
  fed_by_pull_ups channels nets node draws fed c (draws.only c among),
)

pub one_to_ground : OneToGround
one_to_ground channels nets node draws fed d a ms i k ia far w o = way channels nets node draws fed d a ms
    (draws.only d i) k ia far w o
