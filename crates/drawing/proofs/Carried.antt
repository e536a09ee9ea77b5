-- What one network draws, another draws that is the same up to numbering.
use Rattle.std.proofs.Common.{ℕ, ◌≡◌, ◌<◌, inl, inr, refl, sym, ◌∙◌, ap, subst, arith, get_or, Contains}
use Rattle.std.specs.Prelude.{AllPairs}
use Rattle.std.proofs.lemmas.Bool.{cases_order}
use Rattle.std.proofs.lemmas.List.{get_or_default}
use Rattle.switch_net.specs.declared.network.Channel.{Channel}
use Rattle.switch_net.specs.declared.network.Network.{Network}
use Rattle.renumbering.specs.Same.{SameChannel, Renumbering}
use Rattle.renumbering.proofs.Composing.{flipped, gate_at}
use Rattle.nor_net.specs.Elements.{Spot, Nets}
use Rattle.drawing.specs.Draws.{Point, HasOwnNode, HasEnds, IsPullDown, IsPullUp, IsPass, IsDrawn, PullUpsApart, Draws}
use Rattle.drawing.specs.Draws.Point.{OfNet, Ground, Power}
use Rattle.drawing.specs.Draws.IsDrawn.{pull_down, pull_up, pass, lone}
use Rattle.drawing.specs.Carrying.{DrawingsCarryOver}

module _ (n m : Network) (r : Renumbering n m) (net : Nets) (node : Point → ℕ)
    (own_low : (p : Point) → HasOwnNode net p → node p < m.nodes) (d : Draws m.channels net node) where
  abbrev there : Point → ℕ
  there p = r.node_back (node p)

  -- the channel of the one that stands for one of the other
  stands_for : (c : Channel) → Contains m.channels c → (b : Channel) × Contains n.channels b
      × SameChannel r.node_back c b
  stands_for c (j, h, e) =
      let s = flipped n m r j c c h in (
        get_or n.channels (r.channel_back j) c,
        (
          r.channel_back j,
          r.channels.back_within j h,
          get_or_default n.channels (r.channel_back j) (get_or n.channels (r.channel_back j) c) c
              (r.channels.back_within j h),
        ),
        subst (λ z. SameChannel r.node_back z (get_or n.channels (r.channel_back j) c))
            e s,
      )

  ends_there : (c b : Channel) (x y : ℕ) → SameChannel r.node_back c b → HasEnds c x y
      → HasEnds b (r.node_back x) (r.node_back y)
  ends_there c b x y s h z = (
    λ k. (let u = (s.ends z).0 k in elim ((h u.0).0 u.1)
        [ inl e ↦ inl (sym u.2 ∙ ap r.node_back e) | inr e ↦ inr (sym u.2 ∙ ap r.node_back e) ]),
    λ k. elim k [
      | inl e ↦ (s.ends z).1 (x, (h x).1 (inl refl), sym e)
      | inr e ↦ (s.ends z).1 (y, (h y).1 (inr refl), sym e)
    ],
  )

  down : (i k : Spot) (c b : Channel) → SameChannel r.node_back c b → IsPullDown node i k c → IsPullDown there i k b
  down i k c b s p = record {
    enhancement = sym s.kind ∙ p.enhancement;
    by = sym s.gate ∙ ap r.node_back p.by;
    joins = ends_there c b (node (OfNet k)) (node Ground) s p.joins;
  }

  up : (x : ℕ) (c b : Channel) → SameChannel r.node_back c b → IsPullUp node x c → IsPullUp there (r.node_back x) b
  up x c b s p = record {
    depletion = sym s.kind ∙ p.depletion;
    by = sym s.gate ∙ ap r.node_back p.by;
    joins = ends_there c b x (node Power) s p.joins;
  }

  across : (ph : _) (i k : Spot) (c b : Channel) → SameChannel r.node_back c b → IsPass node ph i k c
      → IsPass there ph i k b
  across ph i k c b s p = record {
    enhancement = sym s.kind ∙ p.enhancement;
    by = sym s.gate ∙ ap r.node_back p.by;
    joins = ends_there c b (node (OfNet i)) (node (OfNet k)) s p.joins;
  }

  back_same : (x y : ℕ) → x < m.nodes → y < m.nodes → r.node_back x ≡ r.node_back y → x ≡ y
  back_same x y h k e = sym (r.nodes.back_there x h) ∙ ap r.node e ∙ r.nodes.back_there y k

  drawn_there : (c b : Channel) → c.gate < m.nodes → SameChannel r.node_back c b → IsDrawn net node c
      → IsDrawn net there b
  drawn_there c b g s (pull_down k ins i h l p) = pull_down k ins i h l (down i k c b s p)
  drawn_there c b g s (pull_up k ins h p) = pull_up k ins h (up (node (OfNet k)) c b s p)
  drawn_there c b g s (pass l ph i h p) = pass l ph i h (across ph i l c b s p)
  drawn_there c b g s (lone x f p) = lone (r.node_back x)
      (λ q o e. f q o (back_same (node q) x (own_low q o) (subst (λ z. z < m.nodes) p.by g) e)) (up x c b s p)

  -- two pull-ups stand for two
  alone_there : AllPairs PullUpsApart n.channels
  alone_there i j c less within up also same =
      let first = r.same i c c (omega (arith, less, within)) in
      let second = r.same j c c within in
      let kind = sym first.kind ∙ up in
      let other = sym second.kind ∙ also in
      let gates = sym first.gate ∙ ap r.node same ∙ second.gate in
      elim (cases_order (r.channel i) (r.channel j)) [
        | inl e ↦
            absurd
            (let back = sym (r.channels.there_back i (omega (arith, less, within))) ∙ ap r.channel_back e
            ∙ r.channels.there_back j within in
            omega (arith, back, less))
        | inr (inl lt) ↦
            d.alone (r.channel i) (r.channel j) c lt (r.channels.within j within) kind other gates
        | inr (inr lt) ↦
            d.alone (r.channel j) (r.channel i) c lt (r.channels.within i (omega (arith, less, within))) other kind
            (sym gates)
      ]

  carried : Draws n.channels net there
  carried = record {
    apart = λ p q h k e. d.apart p q h k (back_same (node p) (node q) (own_low p h) (own_low q k) e);
    lows = λ k h. ap r.node_back (d.lows k h);
    joins = λ k j h. ap r.node_back (d.joins k j h);
    pull_downs = λ k ins i h l. (let c = d.pull_downs k ins i h l in let b = stands_for c.0 c.1 in
        (b.0, b.1, down i k c.0 b.0 b.2 c.2));
    pull_ups = λ k ins h. (let c = d.pull_ups k ins h in let b = stands_for c.0 c.1 in
        (b.0, b.1, up (node (OfNet k)) c.0 b.0 b.2 c.2));
    passes = λ l p i h. (let c = d.passes l p i h in let b = stands_for c.0 c.1 in
        (b.0, b.1, across p i l c.0 b.0 b.2 c.2));
    only = λ b h. (let j = r.channel h.0 in
        let hj = r.channels.within h.0 h.1 in
        let c : Channel = get_or m.channels j b in
        let s0 = flipped n m r j b b hj in
        let s : SameChannel r.node_back c b = subst (SameChannel r.node_back c)
        (ap (λ z. get_or n.channels z b) (r.channels.there_back h.0 h.1) ∙ h.2) s0 in
        drawn_there c b (gate_at m j b hj) s (d.only c (j, hj, get_or_default m.channels j c b hj)));
    alone = alone_there;
  }

pub carry : DrawingsCarryOver
carry n m r net node own_low d = carried n m r net node own_low d
