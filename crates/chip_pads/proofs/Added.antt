-- Crossings under the ground trunk add nothing to the network of a fabric.
use Rattle.std.proofs.Common.{◌≡◌, ◌⊎◌, ℕ, zero, suc, inl, inr, refl, sym, ◌∙◌, ap, subst, List, [], ◌∷◌, ◌++◌, arith}
use Rattle.std.proofs.Common.{Bool, true, false, cond, Contains}
use Rattle.std.specs.Prelude.{All, filter}
use Rattle.std.specs.List.{AllZip}
use Rattle.std.proofs.lemmas.List.{append-nil}
use Rattle.std.proofs.lemmas.List.Elements.{All-contains, Contains-append_left, Contains-append_cases}
use Rattle.mp_base.proofs.Zips.{zip_map}
use Rattle.lam_geom.specs.Chains.{Chain}
use Rattle.lam_geom.proofs.Chains.{map_chain}
use Rattle.switch_net.specs.declared.network.Channel.{Channel}
use Rattle.switch_net.specs.declared.network.Network.{Network}
use Rattle.tile_cells.specs.declared.tile.Tile.{Tile}
use Rattle.tile_cells.specs.declared.tile.Tile.TheVariants.{TapL, TapR, Tran, PullUp, Under}
use Rattle.fabric.specs.declared.thing.Side.{Side}
use Rattle.fabric.specs.declared.thing.Side.TheVariants.{L, R}
use Rattle.fabric.specs.declared.thing.Mark.{Mark}
use Rattle.fabric.specs.Plan.{Plan, with_added}
use Rattle.fabric.specs.Switches.{Net, IsNet, LineOf, SegmentOf, IsTapped, IsTapOn, Taps, Tapped, AreNumbers, is_switch}
use Rattle.fabric.specs.Switches.{HasGate, HasEnd, IsSwitch, AreSwitches}
use Rattle.fabric.specs.Switches.Net.{segment, line, ground, power}
use Rattle.fabric.specs.Switches.Tapped.{up, down}
use Rattle.chip_pads.specs.Unders.{UndersAddNothing}

-- the marks alone are more
marked : Plan → List Mark → Plan
marked f unders = record {
  columns = f.columns;
  rows = f.rows;
  segments = f.segments;
  lines = f.lines;
  marks = f.marks ++ unders;
}

added_is : (f : Plan) (unders : List Mark) → with_added f [] [] unders ≡ marked f unders
unfolding marked
added_is f unders = λ i. record {
  columns = f.columns;
  rows = f.rows;
  segments = append-nil f.segments i;
  lines = append-nil f.lines i;
  marks = f.marks ++ unders;
}

no_switches : (xs unders : List Mark) → All (λ (m : Mark). m.tile ≡ Under) unders
    → filter is_switch (xs ++ unders) ≡ filter is_switch xs
no_switches [] [] h = refl
no_switches [] (u ∷ us) h =
    let e : is_switch u ≡ false = ap (λ t. is_switch (record u { tile = t })) (h 0 u (omega arith)) in
    ap (λ b. cond b (u ∷ filter is_switch us) (filter is_switch us)) e
    ∙ no_switches [] us (λ i d l. h (suc i) d (omega (arith, l)))
no_switches (x ∷ xs) unders h =
    ap (λ z. cond (is_switch x) (x ∷ z) z) (no_switches xs unders h)

module _ (f : Plan) (unders : List Mark) (under : All (λ (m : Mark). m.tile ≡ Under) unders) where
  abbrev g : Plan
  g = record {
    columns = f.columns;
    rows = f.rows;
    segments = f.segments;
    lines = f.lines;
    marks = f.marks ++ unders;
  }

  net_back : (n : Net) → IsNet g n → IsNet f n
  net_back (segment s) h = h
  net_back (line l) h = h
  net_back ground h = h
  net_back power h = h

  net_on : (n : Net) → IsNet f n → IsNet g n
  net_on (segment s) h = h
  net_on (line l) h = h
  net_on ground h = h
  net_on power h = h

  line_back : (m : Mark) (s : Side) (n : Net) → LineOf g m s n → LineOf f m s n
  line_back m s n h = record { the_line = h.the_line; among = h.among; passes = h.passes; is = h.is }

  line_on : (m : Mark) (s : Side) (n : Net) → LineOf f m s n → LineOf g m s n
  line_on m s n h = record { the_line = h.the_line; among = h.among; passes = h.passes; is = h.is }

  segment_back : (m : Mark) (n : Net) → SegmentOf g m n → SegmentOf f m n
  segment_back m n h = record { the_segment = h.the_segment; among = h.among; crosses = h.crosses; is = h.is }

  segment_on : (m : Mark) (n : Net) → SegmentOf f m n → SegmentOf g m n
  segment_on m n h = record { the_segment = h.the_segment; among = h.among; crosses = h.crosses; is = h.is }

  tapped_back : (m : Mark) (n : Net) → IsTapped g m n → IsTapped f m n
  tapped_back m n (inl h) = inl h
  tapped_back m n (inr h) = inr (segment_back m n h)

  tapped_on : (m : Mark) (n : Net) → IsTapped f m n → IsTapped g m n
  tapped_on m n (inl h) = inl h
  tapped_on m n (inr h) = inr (segment_on m n h)

  -- a crossing is no tap
  no_tap : (s : Side) (t : Tile) → IsTapOn s t → t ≡ Under → ⊥
  no_tap L t h e = let k : TapL ≡ Under = sym h ∙ e in cc
  no_tap R t h e = let k : TapR ≡ Under = sym h ∙ e in cc

  taps_back : (n m : Net) → Taps g n m → Taps f n m
  taps_back n m h = record {
    mark = h.mark;
    among = elim (Contains-append_cases f.marks unders h.mark h.among) [
      | inl a ↦ a
      | inr a ↦ absurd (no_tap h.side h.mark.tile h.tile
          (All-contains (λ (m : Mark). m.tile ≡ Under) unders h.mark under a))
    ];
    side = h.side;
    tile = h.tile;
    the_line = line_back h.mark h.side n h.the_line;
    other = tapped_back h.mark m h.other;
  }

  taps_on : (n m : Net) → Taps f n m → Taps g n m
  taps_on n m h = record {
    mark = h.mark;
    among = Contains-append_left f.marks unders h.mark h.among;
    side = h.side;
    tile = h.tile;
    the_line = line_on h.mark h.side n h.the_line;
    other = tapped_on h.mark m h.other;
  }

  back_ : (n m : Net) → Tapped g n m → Tapped f n m
  back_ n m (up h) = up (taps_back n m h)
  back_ n m (down h) = down (taps_back m n h)

  on_ : (n m : Net) → Tapped f n m → Tapped g n m
  on_ n m (up h) = up (taps_on n m h)
  on_ n m (down h) = down (taps_on m n h)

  gate_back : (m : Mark) (n : Net) → HasGate g m n → HasGate f m n
  gate_back m n (inl h) = inl (h.0, segment_back m n h.1)
  gate_back m n (inr h) = inr (h.0, line_back m L n h.1)

  end_back : (m : Mark) (n : Net) → HasEnd g m n → HasEnd f m n
  end_back m n (inl (t, inl h)) = inl (t, inl (line_back m L n h))
  end_back m n (inl (t, inr h)) = inl (t, inr (line_back m R n h))
  end_back m n (inr (t, inl h)) = inr (t, inl (line_back m L n h))
  end_back m n (inr (t, inr h)) = inr (t, inr h)

  end_on : (m : Mark) (n : Net) → HasEnd f m n → HasEnd g m n
  end_on m n (inl (t, inl h)) = inl (t, inl (line_on m L n h))
  end_on m n (inl (t, inr h)) = inl (t, inr (line_on m R n h))
  end_on m n (inr (t, inl h)) = inr (t, inl (line_on m L n h))
  end_on m n (inr (t, inr h)) = inr (t, inr h)

  switch_back : (number : Net → ℕ) (m : Mark) (c : Channel) → IsSwitch g number m c → IsSwitch f number m c
  switch_back number m c h = record {
    gate = (h.gate.0, gate_back m h.gate.0 h.gate.1, h.gate.2);
    ascending = h.ascending;
    ends = λ k. (
      λ e. (let w = (h.ends k).0 e in (w.0, end_back m w.0 w.1, w.2)),
      λ w. (h.ends k).1 (w.0, end_on m w.0 w.1, w.2),
    );
    kind = h.kind;
  }

  switches_back : (number : Net → ℕ) (net : Network) → AreSwitches g number net → AreSwitches f number net
  switches_back number net h = record {
    nodes = record {
      below = λ n i. h.nodes.below n (net_on n i);
      onto = λ k l. (let w = h.nodes.onto k l in (w.0, net_back w.0 w.1, w.2));
      same = λ n m i j. (let e = h.nodes.same n m (net_on n i) (net_on m j) in
          ((λ q. map_chain back_ (e.0 q)), (λ c. e.1 (map_chain on_ c))));
    };
    channels = zip_map (IsSwitch g number) (IsSwitch f number) (switch_back number) (filter is_switch f.marks)
        net.channels
        (subst (λ z. AllZip (IsSwitch g number) z net.channels) (no_switches f.marks unders under) h.channels);
    tags = h.tags;
  }

pub unders_nothing : UndersAddNothing
unfolding marked
unders_nothing f unders under number net h =
    switches_back f unders under number net (subst (λ p. AreSwitches p number net) (added_is f unders) h)
