-- Renumberings go both ways, and compose: lemmas for crates above too.
use Rattle.std.proofs.Common.{ℕ, ◌≡◌, ◌<◌, refl, sym, ◌∙◌, ap, subst, List, [], ◌∷◌, length, get_or, Contains}
use Rattle.std.specs.Prelude.{All}
use Rattle.std.specs.List.{AllZip}
use Rattle.std.proofs.lemmas.List.Elements.{All-contains, All-head, All-tail}
use Rattle.switch_net.specs.declared.network.Channel.{Channel}
use Rattle.switch_net.specs.declared.network.Tag.{Tag}
use Rattle.switch_net.specs.declared.network.Network.{Network}
use Rattle.renumbering.specs.Same.{AreOneToOne, SameChannel, Renumbering, SameTag, AreAlike}
use Rattle.renumbering.specs.Laws.{SameTurns, SameComposes}

-- ends and gates are among the nodes
pub end_in : (n : Network) (c : Channel) (e : ℕ) → Contains n.channels c → Contains c.ends e → e < n.nodes
end_in n c e has at =
    All-contains (λ z. z < n.nodes) c.ends e
    (All-contains (λ (d : Channel). All (λ z. z < n.nodes) d.ends) n.channels c n.ends_in has) at

pub gate_in : (n : Network) (c : Channel) → Contains n.channels c → c.gate < n.nodes
gate_in n c has = All-contains (λ (d : Channel). d.gate < n.nodes) n.channels c n.gates_in has

pub ends_at : (n : Network) (k e : ℕ) (d : Channel) → k < length n.channels → Contains (get_or n.channels k d).ends e
    → e < n.nodes
ends_at n k e d h c = All-contains (λ z. z < n.nodes) (get_or n.channels k d).ends e (n.ends_in k d h) c

pub gate_at : (n : Network) (k : ℕ) (d : Channel) → k < length n.channels → (get_or n.channels k d).gate < n.nodes
gate_at n k d h = n.gates_in k d h

module _ (n m : Network) (r : Renumbering n m) where
  pub flipped : (j : ℕ) (d e : Channel) → j < length m.channels
      → SameChannel r.node_back (get_or m.channels j d) (get_or n.channels (r.channel_back j) e)
  flipped j d e h =
      let k : ℕ = r.channel_back j in
      let hk = r.channels.back_within j h in
      let same : SameChannel r.node (get_or n.channels k e) (get_or m.channels j d) =
      subst (λ z. SameChannel r.node (get_or n.channels k e) (get_or m.channels z d)) (r.channels.back_there j h)
      (r.same k e d hk) in
      record {
        gate = ap r.node_back (sym same.gate) ∙ r.nodes.there_back (get_or n.channels k e).gate (gate_at n k e hk);
        ends = λ x. (
          λ c. (r.node x, (same.ends (r.node x)).1 (x, c, refl), r.nodes.there_back x (ends_at n k x e hk c)),
          λ y. (let z = (same.ends y.0).0 y.1 in
              let q : z.0 ≡ x = sym (r.nodes.there_back z.0 (ends_at n k z.0 e hk z.1)) ∙ ap r.node_back z.2 ∙ y.2 in
              subst (Contains (get_or n.channels k e).ends) q z.1),
        );
        kind = sym same.kind;
      }

  abbrev pub flip : Renumbering m n
  flip = record {
    node = r.node_back;
    node_back = r.node;
    channel = r.channel_back;
    channel_back = r.channel;
    nodes = record {
      within = r.nodes.back_within;
      back_within = r.nodes.within;
      there_back = r.nodes.back_there;
      back_there = r.nodes.there_back;
    };
    channels = record {
      within = r.channels.back_within;
      back_within = r.channels.within;
      there_back = r.channels.back_there;
      back_there = r.channels.there_back;
    };
    same = flipped;
  }

  -- what is alike one way is alike the other way
  pub alike_back : {V : Type 0} (v w : ℕ → V) → AreAlike n m r v w → AreAlike m n flip w v
  alike_back v w a k lt =
      sym (a (r.node_back k) (r.nodes.back_within k lt) ∙ ap w (r.nodes.back_there k lt))

pub both_ways : (a b c : ℕ) (f g h i : ℕ → ℕ) → AreOneToOne a b f g → AreOneToOne b c h i
    → AreOneToOne a c (λ k. h (f k)) (λ k. g (i k))
both_ways a b c f g h i p q = record {
  within = λ k l. q.within (f k) (p.within k l);
  back_within = λ k l. p.back_within (i k) (q.back_within k l);
  there_back = λ k l. ap g (q.there_back (f k) (p.within k l)) ∙ p.there_back k l;
  back_there = λ k l. ap h (p.back_there (i k) (q.back_within k l)) ∙ q.back_there k l;
}

pub same_through : (f g : ℕ → ℕ) (c d e : Channel) → SameChannel f c d → SameChannel g d e
    → SameChannel (λ k. g (f k)) c e
same_through f g c d e a b = record {
  gate = ap g a.gate ∙ b.gate;
  ends = λ y. (
    λ h. (let u = (b.ends y).0 h in let v = (a.ends u.0).0 u.1 in (v.0, v.1, ap g v.2 ∙ u.2)),
    λ u. (b.ends y).1 (f u.0, (a.ends (f u.0)).1 (u.0, u.1, refl), u.2),
  );
  kind = a.kind ∙ b.kind;
}

abbrev pub then : (n m k : Network) → Renumbering n m → Renumbering m k → Renumbering n k
then n m k r s = record {
  node = λ x. s.node (r.node x);
  node_back = λ x. r.node_back (s.node_back x);
  channel = λ x. s.channel (r.channel x);
  channel_back = λ x. r.channel_back (s.channel_back x);
  nodes = both_ways n.nodes m.nodes k.nodes r.node r.node_back s.node s.node_back r.nodes s.nodes;
  channels = both_ways (length n.channels) (length m.channels) (length k.channels)
      r.channel r.channel_back s.channel s.channel_back r.channels s.channels;
  same = λ x d e h. same_through r.node s.node (get_or n.channels x d) (get_or m.channels (r.channel x) d)
      (get_or k.channels (s.channel (r.channel x)) e) (r.same x d d h)
      (s.same (r.channel x) d e (r.channels.within x h));
}

-- ---- tags

module _ (n m : Network) (r : Renumbering n m) where
  pub turn_tags : (ts us : List Tag) → All (λ (t : Tag). t.node < n.nodes) ts → AllZip (SameTag r.node) ts us
      → AllZip (SameTag r.node_back) us ts
  turn_tags [] [] low z = tt
  turn_tags [] (u ∷ us) low z = absurd z
  turn_tags (t ∷ ts) [] low z = absurd z
  turn_tags (t ∷ ts) (u ∷ us) low z = (
    record {
      name = sym z.0.name;
      node_is =
          ap r.node_back (sym z.0.node_is)
          ∙ r.nodes.there_back t.node (All-head (λ (x : Tag). x.node < n.nodes) t ts low);
    },
    turn_tags ts us (All-tail (λ (x : Tag). x.node < n.nodes) t ts low) z.1,
  )

abbrev pub same_turns : SameTurns
same_turns n m s = record {
  numbers = flip n m s.numbers;
  tags = turn_tags n m s.numbers n.tags m.tags n.tags_in s.tags;
}

join_tags : (f g : ℕ → ℕ) (ts us vs : List Tag) → AllZip (SameTag f) ts us → AllZip (SameTag g) us vs
    → AllZip (SameTag (λ k. g (f k))) ts vs
join_tags f g [] [] [] y z = tt
join_tags f g [] [] (v ∷ vs) y z = absurd z
join_tags f g [] (u ∷ us) vs y z = absurd y
join_tags f g (t ∷ ts) [] vs y z = absurd y
join_tags f g (t ∷ ts) (u ∷ us) [] y z = absurd z
join_tags f g (t ∷ ts) (u ∷ us) (v ∷ vs) y z = (
  record { name = y.0.name ∙ z.0.name; node_is = ap g y.0.node_is ∙ z.0.node_is },
  join_tags f g ts us vs y.1 z.1,
)

pub same_composes : SameComposes
same_composes n m k s t = record {
  numbers = then n m k s.numbers t.numbers;
  tags = join_tags s.numbers.node t.numbers.node n.tags m.tags k.tags s.tags t.tags;
}
