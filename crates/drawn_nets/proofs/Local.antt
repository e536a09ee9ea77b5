-- What the three cases give at the nodes of a drawing.
use Rattle.std.proofs.Common.{◌≡◌, ℕ, ◌≢◌, List, Some, None, get_or, refl, sym, ◌∙◌, ap, subst, inl, inr, ◌⊎◌}
use Rattle.std.specs.Prelude.{Contains, All, Any}
use Rattle.std.proofs.lemmas.List.{get_or_default}
use Rattle.mp_base.specs.declared.value.Trit.{Trit}
use Rattle.mp_base.specs.declared.value.Trit.TheVariants.{Zero, One, X}
use Rattle.mp_base.proofs.Values.{same_trit_or_not, is_some_trit, none_not_some}
use Rattle.switch_net.specs.declared.network.ChannelKind.{ChannelKind}
use Rattle.switch_net.specs.declared.network.ChannelKind.TheVariants.{Enhancement, Depletion, Partial}
use Rattle.switch_net.specs.declared.network.Channel.{Channel}
use Rattle.switch_net.specs.Settled.{Setting, KindIsOn, KindMayBeOn, IsOn, MayBeOn, IsAgainst, Gives}
use Rattle.switch_net.specs.Reaching.{Reach, here, over, IsStrongOn, MayBeStrongOn, IsFor, IsForeign}
use Rattle.switch_net.specs.Laws.{GivesAlongReach}
use Rattle.switch_net.proofs.SwitchKinds.{on_may_be_on}
use Rattle.drawn_nets.proofs.Sets.{GivesBySets, by_strong, by_held, by_kept, gives_from_sets, sets_from_gives}
use Rattle.nor_net.specs.declared.net.Phase.{Phase}
use Rattle.nor_net.specs.Elements.{Spot, Nor, Latched, Nets}
use Rattle.drawn_nets.specs.Law.{IsKind, AreFed, NetSetting, IsDriven}
use Rattle.drawing.specs.Draws.{Point, OfNet, Ground, Power, OfPhase, HasOwnNode, IsPullDown, IsPullUp, IsPass, Draws}
use Rattle.drawn_nets.proofs.Near.{
  IntoGate,
  self,
  down,
  up,
  through,
  IntoLatch,
  from_data,
  into_gate,
  into_latch,
  into_other,
}

-- a reach that ends at a driver begins there
at_driver : (s : Setting) (ok : Channel → Type 0) (from : ℕ → Type 0) (n : ℕ) (t : Trit) → s.driver n ≡ Some t
    → Reach s ok from n → from n
at_driver s ok from n t d (here f) = f
at_driver s ok from n t d (over c r in' at_a at_n free okc) = absurd (cc)

-- by its gate's value, an enhancement channel is on or may be on
on_at : (k : ChannelKind) (g : Trit) → k ≡ Enhancement → g ≡ One → (k ≢ Depletion) × KindIsOn k g
on_at Enhancement g e h = ((λ q. cc), h)
on_at Depletion g e h = absurd (cc)
on_at Partial g e h = absurd (cc)

maybe_at : (k : ChannelKind) (g : Trit) → k ≡ Enhancement → g ≢ Zero → (k ≢ Depletion) × KindMayBeOn k g
maybe_at Enhancement g e h = ((λ q. cc), h)
maybe_at Depletion g e h = absurd (cc)
maybe_at Partial g e h = absurd (cc)

at_on : (k : ChannelKind) (g : Trit) → k ≡ Enhancement → KindIsOn k g → g ≡ One
at_on Enhancement g e h = h
at_on Depletion g e h = absurd (cc)
at_on Partial g e h = absurd (cc)

at_maybe : (k : ChannelKind) (g : Trit) → k ≡ Enhancement → KindMayBeOn k g → g ≢ Zero
at_maybe Enhancement g e h = h
at_maybe Depletion g e h = absurd (cc)
at_maybe Partial g e h = absurd (cc)

pub depletion_on : (k : ChannelKind) (g : Trit) → k ≡ Depletion → KindIsOn k g
depletion_on Enhancement g e = absurd (cc)
depletion_on Depletion g e = tt
depletion_on Partial g e = absurd (cc)

pub depletion_maybe : (k : ChannelKind) (g : Trit) → k ≡ Depletion → KindMayBeOn k g
depletion_maybe Enhancement g e = absurd (cc)
depletion_maybe Depletion g e = tt
depletion_maybe Partial g e = absurd (cc)

zero_cases : (t : Trit) → (t ≡ Zero) ⊎ (t ≢ Zero)
zero_cases Zero = inl refl
zero_cases One = inr (λ e. cc)
zero_cases X = inr (λ e. cc)

-- the phases have their values
pub record PhasesIn (t : NetSetting) (node : Point → ℕ) (v : ℕ → Trit) : Type 0 where
  pub on : (p : Phase) → t.phase ≡ Some p → v (node (OfPhase p)) ≡ One
  pub off : (p : Phase) → (t.phase ≡ Some p → ⊥) → v (node (OfPhase p)) ≡ Zero

-- the node of a gate or of a latch that takes its data from it
pub data InCluster (net : Nets) (node : Point → ℕ) (k : Spot) (n : ℕ) : Type 0 where
  of_gate : n ≡ node (OfNet k) → InCluster net node k n
  of_latch : (l : Spot) (p : Phase) → IsKind net l (Latched p k) → n ≡ node (OfNet l) → InCluster net node k n

-- how a reach enters a cluster
pub data EntersGate (net : Nets) (node : Point → ℕ) (k : Spot) (ins : List Spot) (ok : Channel → Type 0)
    (from : ℕ → Type 0) : Type 0 where
  inside : (a : ℕ) → from a → InCluster net node k a → EntersGate net node k ins ok from
  below : from (node Ground) → (i : Spot) (c : Channel) → Contains ins i → ok c → IsPullDown node i k c
      → EntersGate net node k ins ok from
  above : from (node Power) → (c : Channel) → ok c → IsPullUp node (node (OfNet k)) c
      → EntersGate net node k ins ok from

pub data EntersLatch (s : Setting) (node : Point → ℕ) (l : Spot) (p : Phase) (d : Spot) (ok : Channel → Type 0)
    (from : ℕ → Type 0) : Type 0 where
  at_latch : from (node (OfNet l)) → EntersLatch s node l p d ok from
  by_data : Reach s ok from (node (OfNet d)) → (c : Channel) → ok c → IsPass node p d l c
      → EntersLatch s node l p d ok from

module _ (law : GivesAlongReach) (t : NetSetting) (s : Setting) (node : Point → ℕ) (isnet : AreFed t.nets)
    (dr : Draws s.channels t.nets node) (driven : IsDriven t node s.driver) where
  enter_gate_step : (k : Spot) (ins : List Spot) → IsKind t.nets k (Nor ins)
      → (ok : Channel → Type 0) (from : ℕ → Type 0) (a n : ℕ) (c : Channel)
      → (InCluster t.nets node k a → EntersGate t.nets node k ins ok from) → Reach s ok from a
      → Contains s.channels c → Contains c.ends a → Contains c.ends n → ok c → InCluster t.nets node k n
      → EntersGate t.nets node k ins ok from
  enter_gate_step k ins h ok from a n c again r in' at_a at_n okc (of_gate e) =
      by_channel (into_gate t.nets s.channels node isnet dr k ins h c a (dr.only c in') at_a
      (subst (λ x. Contains c.ends x) e at_n))
    where
      by_channel : IntoGate t.nets node k ins c a → EntersGate t.nets node k ins ok from
      by_channel (self e') = again (of_gate e')
      by_channel (down i in_ins e' pd) =
          below (at_driver s ok from (node Ground) Zero driven.ground
          (subst (λ x. Reach s ok from x) e' r)) i c in_ins okc pd
      by_channel (up e' pu) =
          above (at_driver s ok from (node Power) One driven.power (subst (λ x. Reach s ok from x) e' r)) c okc pu
      by_channel (through l p hl e' ps) = again (of_latch l p hl e')
  enter_gate_step k ins h ok from a n c again r in' at_a at_n okc (of_latch l p hl e) =
      by_channel (into_latch t.nets s.channels node isnet dr l p k hl c a (dr.only c in') at_a
      (subst (λ x. Contains c.ends x) e at_n))
    where
      by_channel : IntoLatch node l p k c a → EntersGate t.nets node k ins ok from
      by_channel (self e') = again (of_latch l p hl e')
      by_channel (from_data e' ps) = again (of_gate e')

  enter_gate : (k : Spot) (ins : List Spot) → IsKind t.nets k (Nor ins)
      → (ok : Channel → Type 0) (from : ℕ → Type 0) (n : ℕ) → Reach s ok from n → InCluster t.nets node k n
      → EntersGate t.nets node k ins ok from
  enter_gate k ins h ok from n (here f) cl = inside n f cl
  enter_gate k ins h ok from n (over {a} c r in' at_a at_n free okc) cl =
      enter_gate_step k ins h ok from a n c (enter_gate k ins h ok from a r) r in' at_a at_n okc cl

  free_in_cluster : (k : Spot) (ins : List Spot) → IsKind t.nets k (Nor ins) → (n : ℕ) → InCluster t.nets node k n
      → s.driver n ≡ None
  free_in_cluster k ins h n (of_gate e) = ap s.driver e ∙ driven.gate k ins h
  free_in_cluster k ins h n (of_latch l p hl e) = ap s.driver e ∙ driven.latch l p k hl

  module _ (v : ℕ → Trit) (phases : PhasesIn t node v) where
    -- a gate's node, or that of a latch that is on
    pub data IsOnCluster (k : Spot) (n : ℕ) : Type 0 where
      gate_node : n ≡ node (OfNet k) → IsOnCluster k n
      latch_node : (l : Spot) (p : Phase) → IsKind t.nets l (Latched p k) → t.phase ≡ Some p → n ≡ node (OfNet l)
          → IsOnCluster k n

    in_cluster : (k : Spot) (n : ℕ) → IsOnCluster k n → InCluster t.nets node k n
    in_cluster k n (gate_node e) = of_gate e
    in_cluster k n (latch_node l p hl on e) = of_latch l p hl e

    pass_on : (p : Phase) (d l : Spot) (c : Channel) → IsPass node p d l c → t.phase ≡ Some p → IsStrongOn v c
    pass_on p d l c ps on = on_at c.kind (v c.gate) ps.enhancement (ap v ps.by ∙ phases.on p on)

    pass_maybe : (p : Phase) (d l : Spot) (c : Channel) → IsPass node p d l c → t.phase ≡ Some p → MayBeOn v c
    pass_maybe p d l c ps on = on_may_be_on c.kind (v c.gate) (pass_on p d l c ps on).1

    pass_off : (p : Phase) (d l : Spot) (c : Channel) → IsPass node p d l c → (t.phase ≡ Some p → ⊥) → MayBeOn v c → ⊥
    pass_off p d l c ps off h = at_maybe c.kind (v c.gate) ps.enhancement h (ap v ps.by ∙ phases.off p off)

    to_cluster : (k : Spot) (ok : Channel → Type 0) (from : ℕ → Type 0)
        → ((p : Phase) (l : Spot) (c : Channel) → IsPass node p k l c → t.phase ≡ Some p → ok c)
        → Reach s ok from (node (OfNet k)) → (n : ℕ) → IsOnCluster k n → Reach s ok from n
    to_cluster k ok from pass_ok r n (gate_node e) = subst (λ x. Reach s ok from x) (sym e) r
    to_cluster k ok from pass_ok r n (latch_node l p hl on e) =
        let c = dr.passes l p k hl in
        subst (λ x. Reach s ok from x) (sym e)
        (over c.0 r c.1 ((c.2.joins (node (OfNet k))).1 (inl refl)) ((c.2.joins (node (OfNet l))).1 (inr refl))
        (driven.latch l p k hl) (pass_ok p l c.0 c.2 on))

    from_ground : (k : Spot) (ins : List Spot) (i : Spot) (h : IsKind t.nets k (Nor ins)) (in' : Contains ins i)
        → (ok : Channel → Type 0) (from : ℕ → Type 0) → ((c : Channel) → IsPullDown node i k c → ok c)
        → from (node Ground) → Reach s ok from (node (OfNet k))
    from_ground k ins i h in' ok from down_ok f =
        let c = dr.pull_downs k ins i h in' in
        over c.0 (here f) c.1 ((c.2.joins (node Ground)).1 (inr refl)) ((c.2.joins (node (OfNet k))).1 (inl refl))
        (driven.gate k ins h) (down_ok c.0 c.2)

    from_power : (k : Spot) (ins : List Spot) (h : IsKind t.nets k (Nor ins))
        → (ok : Channel → Type 0) (from : ℕ → Type 0) → ((c : Channel) → IsPullUp node (node (OfNet k)) c → ok c)
        → from (node Power) → Reach s ok from (node (OfNet k))
    from_power k ins h ok from up_ok f =
        let c = dr.pull_ups k ins h in
        over c.0 (here f) c.1 ((c.2.joins (node Power)).1 (inr refl)) ((c.2.joins (node (OfNet k))).1 (inl refl))
        (driven.gate k ins h) (up_ok c.0 c.2)

    -- at a gate's node, and at the node of each latch that is on and takes its data from it
    module _ (k : Spot) (ins : List Spot) (h : IsKind t.nets k (Nor ins)) (n : ℕ) (near : IsOnCluster k n) where
      abbrev pub SomeOne : Type 0
      SomeOne = Any (λ i. v (node (OfNet i)) ≡ One) ins

      abbrev pub AllZero : Type 0
      AllZero = All (λ i. v (node (OfNet i)) ≡ Zero) ins

      unforced : (a : ℕ) (u : Trit) → s.driver a ≡ Some u → InCluster t.nets node k a → ⊥
      unforced a u d cl = let free : s.driver a ≡ None = free_in_cluster k ins h a cl in cc

      power_reaches : (b : Trit) → Reach s (MayBeOn v) (IsForeign s b) n
      power_reaches b =
          to_cluster k (MayBeOn v) (IsForeign s b) (λ p l c ps on. pass_maybe p k l c ps on)
          (from_power k ins h (MayBeOn v) (IsForeign s b) (λ c pu. depletion_maybe c.kind (v c.gate) pu.depletion)
          (inl (is_some_trit (s.driver (node Power)) One driven.power))) n near

      some_one : (i : Spot) → Contains ins i → v (node (OfNet i)) ≡ One → SomeOne
      some_one i in' e = (in'.0, i, in'.1, in'.2, e)

      pub zero_from : SomeOne → Gives s v n Zero
      zero_from o =
          gives_from_sets law s v n Zero
          (by_strong
          (to_cluster k (IsStrongOn v) (IsFor s Zero) (λ p l c ps on. pass_on p k l c ps on)
          (from_ground k ins o.1 h (o.0, o.2, o.3) (IsStrongOn v) (IsFor s Zero)
          (λ c pd. on_at c.kind (v c.gate) pd.enhancement (ap v pd.by ∙ o.4)) driven.ground) n near)
          (λ r. opposed (enter_gate k ins h (MayBeStrongOn v) (IsAgainst s Zero) n r (in_cluster k n near))))
        where
          opposed : EntersGate t.nets node k ins (MayBeStrongOn v) (IsAgainst s Zero) → ⊥
          opposed (inside a f cl) = unforced a f.0 f.1 cl
          opposed (below f i c in' okc pd) = let g : Some f.0 ≡ Some Zero = sym f.1 ∙ driven.ground in f.2 (cc)
          opposed (above f c okc pu) = okc.0 pu.depletion

      pub zero_to : Gives s v n Zero → SomeOne
      zero_to g = by_sets (sets_from_gives law s v n Zero g)
        where
          strong : EntersGate t.nets node k ins (IsStrongOn v) (IsFor s Zero) → SomeOne
          strong (inside a f cl) = absurd (unforced a Zero f cl)
          strong (below f i c in' okc pd) = some_one i in'
              (ap v (sym pd.by) ∙ at_on c.kind (v c.gate) pd.enhancement okc.1)
          strong (above f c okc pu) = absurd (okc.0 pu.depletion)

          held : EntersGate t.nets node k ins (IsOn v) (IsFor s Zero) → SomeOne
          held (inside a f cl) = absurd (unforced a Zero f cl)
          held (below f i c in' okc pd) = some_one i in' (ap v (sym pd.by) ∙ at_on c.kind (v c.gate) pd.enhancement okc)
          held (above f c okc pu) = let e : Some One ≡ Some Zero = sym driven.power ∙ f in absurd (cc)

          by_sets : GivesBySets s v n Zero → SomeOne
          by_sets (by_strong r none) = strong (enter_gate k ins h (IsStrongOn v) (IsFor s Zero) n r
              (in_cluster k n near))
          by_sets (by_held r none) = held (enter_gate k ins h (IsOn v) (IsFor s Zero) n r (in_cluster k n near))
          by_sets (by_kept none) = absurd (none (power_reaches Zero))

      pub one_from : AllZero → Gives s v n One
      one_from z =
          gives_from_sets law s v n One
          (by_held
          (to_cluster k (IsOn v) (IsFor s One) (λ p l c ps on. (pass_on p k l c ps on).1)
          (from_power k ins h (IsOn v) (IsFor s One) (λ c pu. depletion_on c.kind
          (v c.gate) pu.depletion) driven.power) n near)
          (λ r. opposed (enter_gate k ins h (MayBeOn v) (IsAgainst s One) n r (in_cluster k n near))))
        where
          opposed : EntersGate t.nets node k ins (MayBeOn v) (IsAgainst s One) → ⊥
          opposed (inside a f cl) = unforced a f.0 f.1 cl
          opposed (below f i c in' okc pd) =
              at_maybe c.kind (v c.gate) pd.enhancement okc
              (ap v pd.by ∙ subst (λ x. v (node (OfNet x)) ≡ Zero) in'.2 (z in'.0 i in'.1))
          opposed (above f c okc pu) = let g : Some f.0 ≡ Some One = sym f.1 ∙ driven.power in f.2 (cc)

      pub one_to : Gives s v n One → AllZero
      one_to g = by_sets (sets_from_gives law s v n One g)
        where
          strong : EntersGate t.nets node k ins (IsStrongOn v) (IsFor s One) → AllZero
          strong (inside a f cl) = absurd (unforced a One f cl)
          strong (below f i c in' okc pd) = let e : Some Zero ≡ Some One = sym driven.ground ∙ f in absurd (cc)
          strong (above f c okc pu) = absurd (okc.0 pu.depletion)

          zero_at : (Reach s (MayBeOn v) (IsAgainst s One) n → ⊥) → (i : Spot) → Contains ins i
              → (v (node (OfNet i)) ≡ Zero) ⊎ (v (node (OfNet i)) ≢ Zero) → v (node (OfNet i)) ≡ Zero
          zero_at none i in' (inl e) = e
          zero_at none i in' (inr ne) =
              absurd (none
              (to_cluster k (MayBeOn v) (IsAgainst s One) (λ p l c ps on. pass_maybe p k l c ps on)
              (from_ground k ins i h in' (MayBeOn v) (IsAgainst s One)
              (λ c pd. (maybe_at c.kind (v c.gate) pd.enhancement (λ e. ne (ap v (sym pd.by) ∙ e))).1)
              (Zero, driven.ground, λ e. cc)) n near))

          by_sets : GivesBySets s v n One → AllZero
          by_sets (by_strong r none) = strong (enter_gate k ins h (IsStrongOn v) (IsFor s One) n r
              (in_cluster k n near))
          by_sets (by_held r none) =
              λ j x lt. zero_at none (get_or ins j x) (j, lt, get_or_default ins j (get_or ins j x) x lt)
              (zero_cases (v (node (OfNet (get_or ins j x)))))
          by_sets (by_kept none) = absurd (none (power_reaches One))

    enter_latch : (l : Spot) (p : Phase) (d : Spot) → IsKind t.nets l (Latched p d)
        → (ok : Channel → Type 0) (from : ℕ → Type 0) (n : ℕ) → Reach s ok from n → n ≡ node (OfNet l)
        → EntersLatch s node l p d ok from
    enter_latch l p d hl ok from n (here f) e = at_latch (subst from e f)
    enter_latch l p d hl ok from n (over {a} c r in' at_a at_n free okc) e =
        step a c r okc (enter_latch l p d hl ok from a r)
        (into_latch t.nets s.channels node isnet dr l p d hl c a (dr.only c in') at_a
        (subst (λ x. Contains c.ends x) e at_n))
      where
        step : (a : ℕ) (c : Channel) → Reach s ok from a → ok c
            → (a ≡ node (OfNet l) → EntersLatch s node l p d ok from) → IntoLatch node l p d c a
            → EntersLatch s node l p d ok from
        step a c r okc again (self e') = again e'
        step a c r okc again (from_data e' ps) = by_data (subst (λ x. Reach s ok from x) e' r) c okc ps

    -- at the node of a latch
    module _ (l : Spot) (p : Phase) (d : Spot) (hl : IsKind t.nets l (Latched p d)) (b : Trit) where
      abbrev pub here_at : ℕ
      here_at = node (OfNet l)

      unforced_latch : (u : Trit) → s.driver here_at ≡ Some u → ⊥
      unforced_latch u e = let free : s.driver here_at ≡ None = driven.latch l p d hl in cc

      by_pass : (ok : Channel → Type 0) (from : ℕ → Type 0) → ((c : Channel) → IsPass node p d l c → ok c)
          → from (node (OfNet d)) → Reach s ok from here_at
      by_pass ok from pass_ok f =
          let c = dr.passes l p d hl in
          over c.0 (here f) c.1 ((c.2.joins (node (OfNet d))).1 (inl refl))
          ((c.2.joins (node (OfNet l))).1 (inr refl)) (driven.latch l p d hl) (pass_ok c.0 c.2)

      -- that is on, with a driver as its data
      module _ (on : t.phase ≡ Some p) (x : Trit) (hd : s.driver (node (OfNet d)) ≡ Some x) where
        pub driven_from : x ≡ b → Gives s v here_at b
        driven_from e =
            gives_from_sets law s v here_at b
            (by_strong
            (by_pass (IsStrongOn v) (IsFor s b) (λ c ps. pass_on p d l c ps on) (hd ∙ ap (λ u. Some u) e))
            (λ r. opposed (enter_latch l p d hl (MayBeStrongOn v) (IsAgainst s b) here_at r refl)))
          where
            opposed : EntersLatch s node l p d (MayBeStrongOn v) (IsAgainst s b) → ⊥
            opposed (at_latch f) = unforced_latch f.0 f.1
            opposed (by_data r c okc ps) =
                let f : IsAgainst s b (node (OfNet d)) =
                at_driver s (MayBeStrongOn v) (IsAgainst s b) (node (OfNet d)) x hd r in
                let g : Some f.0 ≡ Some x = sym f.1 ∙ hd in
                f.2 (cc)

        pub driven_to : Gives s v here_at b → x ≡ b
        driven_to g = by_sets (sets_from_gives law s v here_at b g)
          where
            of_data : (ok : Channel → Type 0) → EntersLatch s node l p d ok (IsFor s b) → x ≡ b
            of_data ok (at_latch f) = absurd (unforced_latch b f)
            of_data ok (by_data r c okc ps) =
                let f : s.driver (node (OfNet d)) ≡ Some b = at_driver s ok (IsFor s b) (node (OfNet d)) x hd r in
                let g' : Some x ≡ Some b = sym hd ∙ f in
                cc

            by_sets : GivesBySets s v here_at b → x ≡ b
            by_sets (by_strong r none) = of_data (IsStrongOn v)
                (enter_latch l p d hl (IsStrongOn v) (IsFor s b) here_at r refl)
            by_sets (by_held r none) = of_data (IsOn v) (enter_latch l p d hl (IsOn v) (IsFor s b) here_at r refl)
            by_sets (by_kept none) =
                absurd (none (by_pass (MayBeOn v) (IsForeign s b) (λ c ps. pass_maybe p d l c ps on)
                (inl (is_some_trit (s.driver (node (OfNet d))) x hd))))

      -- that is off
      module _ (off : t.phase ≡ Some p → ⊥) where
        pub off_from : s.before here_at ≡ b → Gives s v here_at b
        off_from e = gives_from_sets law s v here_at b
            (by_kept (λ r. opposed (enter_latch l p d hl (MayBeOn v) (IsForeign s b) here_at r refl)))
          where
            opposed : EntersLatch s node l p d (MayBeOn v) (IsForeign s b) → ⊥
            opposed (at_latch (inl f)) = none_not_some (s.driver here_at) (driven.latch l p d hl) f
            opposed (at_latch (inr ne)) = ne e
            opposed (by_data r c okc ps) = pass_off p d l c ps off okc

        pub off_to : Gives s v here_at b → s.before here_at ≡ b
        off_to g = by_sets (sets_from_gives law s v here_at b g)
          where
            strong : EntersLatch s node l p d (IsStrongOn v) (IsFor s b) → ⊥
            strong (at_latch f) = unforced_latch b f
            strong (by_data r c okc ps) = pass_off p d l c ps off (on_may_be_on c.kind (v c.gate) okc.1)

            held : EntersLatch s node l p d (IsOn v) (IsFor s b) → ⊥
            held (at_latch f) = unforced_latch b f
            held (by_data r c okc ps) = pass_off p d l c ps off (on_may_be_on c.kind (v c.gate) okc)

            kept : (Reach s (MayBeOn v) (IsForeign s b) here_at → ⊥) → (s.before here_at ≡ b)
                ⊎ (s.before here_at ≢ b) → s.before here_at ≡ b
            kept none (inl e) = e
            kept none (inr ne) = absurd (none (here (inr ne)))

            by_sets : GivesBySets s v here_at b → s.before here_at ≡ b
            by_sets (by_strong r none) = absurd (strong
                (enter_latch l p d hl (IsStrongOn v) (IsFor s b) here_at r refl))
            by_sets (by_held r none) = absurd (held (enter_latch l p d hl (IsOn v) (IsFor s b) here_at r refl))
            by_sets (by_kept none) = kept none (same_trit_or_not (s.before here_at) b)

  -- at a node of no net only depletion channels count, and they are always on
  reach_other : (ok ok' : Channel → Type 0) (from : ℕ → Type 0) → ((c : Channel) → c.kind ≡ Depletion → ok c → ok' c)
      → (n : ℕ) → ((p : Point) → HasOwnNode t.nets p → node p ≡ n → ⊥) → Reach s ok from n → Reach s ok' from n
  reach_other ok ok' from f n other (here q) = here q
  reach_other ok ok' from f n other (over {a} c r in' at_a at_n free okc) =
      step a c r okc in' at_a at_n free (λ oa. reach_other ok ok' from f a oa r)
      (into_other t.nets s.channels node isnet dr n other c a (dr.only c in') at_a at_n)
    where
      step : (a : ℕ) (c : Channel) → Reach s ok from a → ok c → Contains s.channels c → Contains c.ends a
          → Contains c.ends n → s.driver n ≡ None → (((p : Point) → HasOwnNode t.nets p → node p ≡ a → ⊥)
          → Reach s ok' from a) → (c.kind ≡ Depletion) × ((a ≡ n) ⊎ (a ≡ node Power)) → Reach s ok' from n
      step a c r okc in' at_a at_n free again q = by_end q.1
        where
          by_end : (a ≡ n) ⊎ (a ≡ node Power) → Reach s ok' from n
          by_end (inl e) = over c (again (λ p own ep. other p own (ep ∙ e))) in' at_a at_n free (f c q.0 okc)
          by_end (inr e) =
              over c (here (subst from (sym e) (at_driver s ok from (node Power) One driven.power
              (subst (λ x. Reach s ok from x) e r)))) in' at_a at_n free (f c q.0 okc)

  pub gives_other : (v w : ℕ → Trit) (n : ℕ) (b : Trit) → ((p : Point) → HasOwnNode t.nets p → node p ≡ n → ⊥)
      → Gives s v n b → Gives s w n b
  gives_other v w n b other g = gives_from_sets law s w n b (by_sets (sets_from_gives law s v n b g))
    where
      by_sets : GivesBySets s v n b → GivesBySets s w n b
      by_sets (by_strong r none) =
          by_strong
          (reach_other (IsStrongOn v) (IsStrongOn w) (IsFor s b) (λ c dep okc. absurd (okc.0 dep)) n other r)
          (λ r'. none (reach_other (MayBeStrongOn w) (MayBeStrongOn v) (IsAgainst s b)
          (λ c dep okc. absurd (okc.0 dep)) n other r'))
      by_sets (by_held r none) =
          by_held
          (reach_other (IsOn v) (IsOn w) (IsFor s b) (λ c dep okc. depletion_on c.kind (w c.gate) dep) n other r)
          (λ r'. none (reach_other (MayBeOn w) (MayBeOn v) (IsAgainst s b)
          (λ c dep okc. depletion_maybe c.kind (v c.gate) dep) n other r'))
      by_sets (by_kept none) =
          by_kept (λ r'. none (reach_other (MayBeOn w) (MayBeOn v) (IsForeign s b)
          (λ c dep okc. depletion_maybe c.kind (v c.gate) dep) n other r'))
