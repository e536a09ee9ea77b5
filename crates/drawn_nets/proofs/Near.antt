-- What is next to a node of a drawing.
use Rattle.std.proofs.Common.{◌≡◌, ℕ, List, sym, ◌∙◌, ap, subst, inl, inr, ◌⊎◌}
use Rattle.std.specs.Prelude.{Contains}
use Rattle.switch_net.specs.declared.network.ChannelKind.TheVariants.{Depletion}
use Rattle.switch_net.specs.declared.network.Channel.{Channel}
use Rattle.nor_net.specs.declared.net.Phase.{Phase}
use Rattle.nor_net.specs.Elements.{Spot, Given, Nor, Latched, Low, Nets}
use Rattle.drawn_nets.specs.Law.{IsKind, AreFed}
use Rattle.drawing.specs.Draws.{
  Point,
  OfNet,
  Ground,
  Power,
  IsOwn,
  HasOwnNode,
  IsPullDown,
  IsPullUp,
  IsPass,
  IsDrawn,
  pull_down,
  pull_up,
  pass,
  lone,
  Draws,
}

-- how a channel at a gate's node leads there from m
pub data IntoGate (net : Nets) (node : Point → ℕ) (k : Spot) (ins : List Spot) (c : Channel) (m : ℕ) : Type 0 where
  self : m ≡ node (OfNet k) → IntoGate net node k ins c m
  down : (i : Spot) → Contains ins i → m ≡ node Ground → IsPullDown node i k c → IntoGate net node k ins c m
  up : m ≡ node Power → IsPullUp node (node (OfNet k)) c → IntoGate net node k ins c m
  through : (l : Spot) (p : Phase) → IsKind net l (Latched p k) → m ≡ node (OfNet l) → IsPass node p k l c
      → IntoGate net node k ins c m

-- the same at a latch's node
pub data IntoLatch (node : Point → ℕ) (l : Spot) (p : Phase) (d : Spot) (c : Channel) (m : ℕ) : Type 0 where
  self : m ≡ node (OfNet l) → IntoLatch node l p d c m
  from_data : m ≡ node (OfNet d) → IsPass node p d l c → IntoLatch node l p d c m

module _ (net : Nets) (channels : List Channel) (node : Point → ℕ) (isnet : AreFed net)
    (dr : Draws channels net node) where
  pub own_gate : (k : Spot) (ins : List Spot) → IsKind net k (Nor ins) → HasOwnNode net (OfNet k)
  own_gate k ins h = subst IsOwn (sym h) tt

  pub own_latch : (k : Spot) (p : Phase) (d : Spot) → IsKind net k (Latched p d) → HasOwnNode net (OfNet k)
  own_latch k p d h = subst IsOwn (sym h) tt

  pub own_input : (k : Spot) → IsKind net k Given → HasOwnNode net (OfNet k)
  own_input k h = subst IsOwn (sym h) tt

  pub same_net : (j k : Spot) → HasOwnNode net (OfNet j) → HasOwnNode net (OfNet k) → node (OfNet j) ≡ node (OfNet k)
      → j ≡ k
  same_net j k oj ok e = let same = dr.apart (OfNet j) (OfNet k) oj ok e in cc

  pub not_ground : (k : Spot) → HasOwnNode net (OfNet k) → node (OfNet k) ≡ node Ground → ⊥
  not_ground k ok e = let same = dr.apart (OfNet k) Ground ok tt e in cc

  pub not_power : (k : Spot) → HasOwnNode net (OfNet k) → node (OfNet k) ≡ node Power → ⊥
  not_power k ok e = let same = dr.apart (OfNet k) Power ok tt e in cc

  -- the data of a latch has a node of its own, or that of ground
  pub data_cases : (l : Spot) (p : Phase) (d : Spot) → IsKind net l (Latched p d) → HasOwnNode net (OfNet d)
      ⊎ (node (OfNet d) ≡ node Ground)
  data_cases l p d h = by_kind (isnet.fed l p d h)
    where
      by_kind : ((ins : List Spot) × IsKind net d (Nor ins)) ⊎ IsKind net d Given ⊎ IsKind net d Low
          → HasOwnNode net (OfNet d) ⊎ (node (OfNet d) ≡ node Ground)
      by_kind (inl g) = inl (own_gate d g.0 g.1)
      by_kind (inr (inl i)) = inl (own_input d i)
      by_kind (inr (inr w)) = inr (dr.lows d w)

  -- the data of a latch is no latch
  pub data_no_latch : (l : Spot) (p : Phase) (d : Spot) → IsKind net l (Latched p d) → (q : Phase) (e : Spot)
      → IsKind net d (Latched q e) → ⊥
  data_no_latch l p d h q e hd = by_kind (isnet.fed l p d h)
    where
      by_kind : ((ins : List Spot) × IsKind net d (Nor ins)) ⊎ IsKind net d Given ⊎ IsKind net d Low → ⊥
      by_kind (inl g) = let g' : IsKind net d (Nor g.0) = g.1 in cc
      by_kind (inr (inl i)) = cc
      by_kind (inr (inr w)) = cc

  pub into_gate : (k : Spot) (ins : List Spot) → IsKind net k (Nor ins) → (c : Channel) (m : ℕ) → IsDrawn net node c
      → Contains c.ends m → Contains c.ends (node (OfNet k)) → IntoGate net node k ins c m
  into_gate k ins h c m (pull_down k' ins' i h' in' pd) at_m at_k = first ((pd.joins (node (OfNet k))).0 at_k)
    where
      second : k ≡ k' → (m ≡ node (OfNet k')) ⊎ (m ≡ node Ground) → IntoGate net node k ins c m
      second e (inl em) = self (em ∙ ap (λ x. node (OfNet x)) (sym e))
      second e (inr em) =
          let h_at : IsKind net k (Nor ins') = subst (λ x. IsKind net x (Nor ins')) (sym e) h' in
          let same : ins' ≡ ins = cc in
          down i (subst (λ x. Contains x i) same in') em (subst (λ x. IsPullDown node i x c) (sym e) pd)

      first : (node (OfNet k) ≡ node (OfNet k')) ⊎ (node (OfNet k) ≡ node Ground) → IntoGate net node k ins c m
      first (inl e) = second (same_net k k' (own_gate k ins h) (own_gate k' ins' h') e) ((pd.joins m).0 at_m)
      first (inr e) = absurd (not_ground k (own_gate k ins h) e)
  into_gate k ins h c m (pull_up k' ins' h' pu) at_m at_k = first ((pu.joins (node (OfNet k))).0 at_k)
    where
      second : k ≡ k' → (m ≡ node (OfNet k')) ⊎ (m ≡ node Power) → IntoGate net node k ins c m
      second e (inl em) = self (em ∙ ap (λ x. node (OfNet x)) (sym e))
      second e (inr em) = up em (subst (λ x. IsPullUp node (node (OfNet x)) c) (sym e) pu)

      first : (node (OfNet k) ≡ node (OfNet k')) ⊎ (node (OfNet k) ≡ node Power) → IntoGate net node k ins c m
      first (inl e) = second (same_net k k' (own_gate k ins h) (own_gate k' ins' h') e) ((pu.joins m).0 at_m)
      first (inr e) = absurd (not_power k (own_gate k ins h) e)
  into_gate k ins h c m (pass l p d h' ps) at_m at_k = first ((ps.joins (node (OfNet k))).0 at_k)
    where
      second : k ≡ d → (m ≡ node (OfNet d)) ⊎ (m ≡ node (OfNet l)) → IntoGate net node k ins c m
      second e (inl em) = self (em ∙ ap (λ x. node (OfNet x)) (sym e))
      second e (inr em) = through l p (subst (λ x. IsKind net l (Latched p x)) (sym e) h') em
          (subst (λ x. IsPass node p x l c) (sym e) ps)

      of_data : node (OfNet k) ≡ node (OfNet d) → HasOwnNode net (OfNet d) ⊎ (node (OfNet d) ≡ node Ground)
          → IntoGate net node k ins c m
      of_data e (inl own) = second (same_net k d (own_gate k ins h) own e) ((ps.joins m).0 at_m)
      of_data e (inr zero_) = absurd (not_ground k (own_gate k ins h) (e ∙ zero_))

      first : (node (OfNet k) ≡ node (OfNet d)) ⊎ (node (OfNet k) ≡ node (OfNet l)) → IntoGate net node k ins c m
      first (inl e) = of_data e (data_cases l p d h')
      first (inr e) =
          let same : k ≡ l = same_net k l (own_gate k ins h) (own_latch l p d h') e in
          let h_at : IsKind net k (Latched p d) = subst (λ x. IsKind net x (Latched p d)) (sym same) h' in
          absurd (cc)
  into_gate k ins h c m (lone n none pu) at_m at_k = first ((pu.joins (node (OfNet k))).0 at_k)
    where
      first : (node (OfNet k) ≡ n) ⊎ (node (OfNet k) ≡ node Power) → IntoGate net node k ins c m
      first (inl e) = absurd (none (OfNet k) (own_gate k ins h) e)
      first (inr e) = absurd (not_power k (own_gate k ins h) e)

  pub into_latch : (l : Spot) (p : Phase) (d : Spot) → IsKind net l (Latched p d) → (c : Channel) (m : ℕ)
      → IsDrawn net node c → Contains c.ends m → Contains c.ends (node (OfNet l)) → IntoLatch node l p d c m
  into_latch l p d h c m (pull_down k' ins' i h' in' pd) at_m at_l = first ((pd.joins (node (OfNet l))).0 at_l)
    where
      first : (node (OfNet l) ≡ node (OfNet k')) ⊎ (node (OfNet l) ≡ node Ground) → IntoLatch node l p d c m
      first (inl e) =
          let same : l ≡ k' = same_net l k' (own_latch l p d h) (own_gate k' ins' h') e in
          let h_at : IsKind net l (Nor ins') = subst (λ x. IsKind net x (Nor ins')) (sym same) h' in
          absurd (cc)
      first (inr e) = absurd (not_ground l (own_latch l p d h) e)
  into_latch l p d h c m (pull_up k' ins' h' pu) at_m at_l = first ((pu.joins (node (OfNet l))).0 at_l)
    where
      first : (node (OfNet l) ≡ node (OfNet k')) ⊎ (node (OfNet l) ≡ node Power) → IntoLatch node l p d c m
      first (inl e) =
          let same : l ≡ k' = same_net l k' (own_latch l p d h) (own_gate k' ins' h') e in
          let h_at : IsKind net l (Nor ins') = subst (λ x. IsKind net x (Nor ins')) (sym same) h' in
          absurd (cc)
      first (inr e) = absurd (not_power l (own_latch l p d h) e)
  into_latch l p d h c m (pass l2 p2 d2 h2 ps) at_m at_l = first ((ps.joins (node (OfNet l))).0 at_l)
    where
      second : l ≡ l2 → p ≡ p2 → d ≡ d2 → (m ≡ node (OfNet d2)) ⊎ (m ≡ node (OfNet l2)) → IntoLatch node l p d c m
      second el ep ed (inl em) =
          from_data (em ∙ ap (λ x. node (OfNet x)) (sym ed))
          (subst (λ x. IsPass node p d x c) (sym el) (subst (λ x. IsPass node p x l2 c) (sym ed)
          (subst (λ x. IsPass node x d2 l2 c) (sym ep) ps)))
      second el ep ed (inr em) = self (em ∙ ap (λ x. node (OfNet x)) (sym el))

      of_data : node (OfNet l) ≡ node (OfNet d2) → HasOwnNode net (OfNet d2) ⊎ (node (OfNet d2) ≡ node Ground)
          → IntoLatch node l p d c m
      of_data e (inl own) =
          let same : l ≡ d2 = same_net l d2 (own_latch l p d h) own e in
          absurd (data_no_latch l2 p2 d2 h2 p d (subst (λ x. IsKind net x (Latched p d)) same h))
      of_data e (inr zero_) = absurd (not_ground l (own_latch l p d h) (e ∙ zero_))

      first : (node (OfNet l) ≡ node (OfNet d2)) ⊎ (node (OfNet l) ≡ node (OfNet l2)) → IntoLatch node l p d c m
      first (inl e) = of_data e (data_cases l2 p2 d2 h2)
      first (inr e) =
          let same : l ≡ l2 = same_net l l2 (own_latch l p d h) (own_latch l2 p2 d2 h2) e in
          let h_at : IsKind net l (Latched p2 d2) = subst (λ x. IsKind net x (Latched p2 d2)) (sym same) h2 in
          let kinds : Latched p d ≡ Latched p2 d2 = cc in
          second same (cc) (cc) ((ps.joins m).0 at_m)
  into_latch l p d h c m (lone n none pu) at_m at_l = first ((pu.joins (node (OfNet l))).0 at_l)
    where
      first : (node (OfNet l) ≡ n) ⊎ (node (OfNet l) ≡ node Power) → IntoLatch node l p d c m
      first (inl e) = absurd (none (OfNet l) (own_latch l p d h) e)
      first (inr e) = absurd (not_power l (own_latch l p d h) e)

  -- a node of no net has only a depletion channel to power
  pub into_other : (n : ℕ) → ((p : Point) → HasOwnNode net p → node p ≡ n → ⊥) → (c : Channel) (m : ℕ)
      → IsDrawn net node c → Contains c.ends m → Contains c.ends n → (c.kind ≡ Depletion) × ((m ≡ n) ⊎ (m ≡ node Power))
  into_other n none c m (pull_down k ins i h in' pd) at_m at_n = absurd (first ((pd.joins n).0 at_n))
    where
      first : (n ≡ node (OfNet k)) ⊎ (n ≡ node Ground) → ⊥
      first (inl e) = none (OfNet k) (own_gate k ins h) (sym e)
      first (inr e) = none Ground tt (sym e)
  into_other n none c m (pull_up k ins h pu) at_m at_n = absurd (first ((pu.joins n).0 at_n))
    where
      first : (n ≡ node (OfNet k)) ⊎ (n ≡ node Power) → ⊥
      first (inl e) = none (OfNet k) (own_gate k ins h) (sym e)
      first (inr e) = none Power tt (sym e)
  into_other n none c m (pass l p d h ps) at_m at_n = absurd (first ((ps.joins n).0 at_n))
    where
      of_data : n ≡ node (OfNet d) → HasOwnNode net (OfNet d) ⊎ (node (OfNet d) ≡ node Ground) → ⊥
      of_data e (inl own) = none (OfNet d) own (sym e)
      of_data e (inr zero_) = none Ground tt (sym (e ∙ zero_))

      first : (n ≡ node (OfNet d)) ⊎ (n ≡ node (OfNet l)) → ⊥
      first (inl e) = of_data e (data_cases l p d h)
      first (inr e) = none (OfNet l) (own_latch l p d h) (sym e)
  into_other n none c m (lone n' none' pu) at_m at_n = first ((pu.joins n).0 at_n)
    where
      first : (n ≡ n') ⊎ (n ≡ node Power) → (c.kind ≡ Depletion) × ((m ≡ n) ⊎ (m ≡ node Power))
      first (inr e) = absurd (none Power tt (sym e))
      first (inl e) = (pu.depletion, subst (λ x. (m ≡ x) ⊎ (m ≡ node Power)) (sym e) ((pu.joins m).0 at_m))
