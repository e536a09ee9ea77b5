-- Taps of a placed path join equal roots, and lead from each wire to that of its root.
use Rattle.std.proofs.Common.{
  ◌≡◌,
  ◌⊎◌,
  inl,
  inr,
  ℕ,
  zero,
  suc,
  ◌<◌,
  ◌≤◌,
  ◌+◌,
  ◌==◌,
  Option,
  Some,
  None,
  Bool,
  true,
  false,
  cond,
  List,
  [],
  length,
  get_or,
  map,
  refl,
  sym,
  ◌∙◌,
  ap,
  subst,
  arith,
}
use Rattle.std.specs.Prelude.{Contains, slice_get}
use Rattle.std.proofs.lemmas.Bool.{cases_Bool, cases_eq, cases_lt}
use Rattle.std.proofs.lemmas.List.Elements.{All-contains}
use Rattle.std.proofs.lemmas.Option.{slice_get_within, slice_get_cases, slice_get-get_or}
use Rattle.mp_base.proofs.Members.{member_contains, contains_member, member_map}
use Rattle.lam_geom.specs.Chains.{Chain}
use Rattle.lam_geom.specs.Chains.Chain.{here, link}
use Rattle.fabric.specs.declared.thing.Side.{Side}
use Rattle.fabric.specs.declared.thing.Side.TheVariants.{L, R}
use Rattle.nor_net.specs.declared.net.Phase.{Phase}
use Rattle.nor_net.specs.declared.net.NetId.{NetId}
use Rattle.nor_net.specs.declared.net.Part.{Part}
use Rattle.nor_net.specs.declared.net.Part.TheVariants.{Input, Gate, Latch}
use Rattle.nor_net.specs.Elements.{Spot, spot, Element, Given, Nor, Latched, Joined, Low, Nets}
use Rattle.drawing.specs.Draws.{Point, OfNet, Ground, Power, OfPhase, IsOwn, HasOwnNode}
use Rattle.array_form.specs.Named.{Tie, tap, tran, pull, Joins, forth, back, Speaks}
use Rattle.array_form.specs.Roots.{Root, at, AreRoots, AreRooted, AreHubs, IsSwitchOf, no_switch, up_of, lone_of}
use Rattle.array_form.specs.Roots.{AreSwitchesOf}
use Rattle.array_form.specs.Wires.{
  Wire,
  row,
  beat,
  left,
  right,
  trunk,
  extra,
  to_ground,
  to_power,
  place,
  NetTie,
  gate_own,
  gate_ground,
  gate_pull,
  gate_input,
  latch_own,
  latch_data,
  latch_phase,
  stub_own,
  left_root,
  right_root,
  root,
  hub,
  AreElements,
}
use Rattle.array_form.proofs.Placing.{IsPulled, left_once, net_pulled, net_tapped, net_switch}
use Rattle.slice_form.specs.Path.{Path, Carry, Programmed, parts, pads, Feeds, from_below, from_above, open_band}
use Rattle.slice_form.specs.Path.{IsElement, gate, store, pad, cast, lift, next, open_end, one, zero_bit, AreNetsOf}
use Rattle.slice_form.specs.Path.{IsPath}
use Rattle.slice_form.specs.PathWires.{
  Across,
  cast_line,
  lift_line,
  lift_stub,
  chain_line,
  side_of,
  below,
  above,
  open_gap,
  PathTie,
  of_net,
  of_phase,
  of_cast,
  of_cast_slice,
  of_lift,
  of_lift_slice,
  of_lift_stub,
  of_below,
  of_above,
  of_open,
  of_bit_ground,
  of_bit_pull,
  of_one,
  of_zero,
  HasColumn,
  by_gate,
  by_latch,
  by_bit,
  InPath,
  InAcross,
  cast_root,
  lift_root,
  stub_root,
  up_root,
  down_root,
  chain_root,
  across_root,
}

not_equal : (g w : ℕ) → g < w → (g == w) ≡ false
not_equal g w h = grind arith

is_equal : (w : ℕ) → (w == w) ≡ true
is_equal w = grind arith

module _ (p : Path) (stub : ℕ → ℕ → Bool) (nets : Nets) (are : AreNetsOf p nets) (path : IsPath p)
    (stubs : (b n : ℕ) → b ≤ p.width → slice_get (parts p b) n ≡ Some Input → stub b n ≡ true → Contains (pads p b) n)
    (root_of : Spot → Root) (rank : Spot → ℕ) (roots : AreRoots nets root_of rank) where
  element : (s : Spot) (e : Element) → IsElement p s e → nets s ≡ Some e
  element s e h = (are s e).1 h

  own_root : (s : Spot) (e : Element) → IsElement p s e → IsOwn (Some e) → root_of s ≡ at (OfNet s)
  own_root s e h own = roots.own s (subst IsOwn (sym (element s e h)) own)

  -- each band is one
  elements : (b : ℕ) → b ≤ p.width → AreElements nets b (parts p b) (stub b)
  elements b i = record {
    gates = λ n ins e. element (place b n) (Nor (map (spot b) ins)) (gate b n ins i e);
    latches = λ n ph d e. element (place b n) (Latched ph (spot b d)) (store b n ph d i e);
    stubs = λ n e s. element (place b n) Given (pad b n i e (stubs b n i e s));
  }

  -- what a chain's line stands for
  chain_root_is : (i : ℕ) (c : Carry) (g : ℕ) → slice_get p.chains i ≡ Some c
      → across_root p root_of (chain_line i g) ≡ cond c.up (up_root root_of c.start g) (down_root p root_of c.start g)
  chain_root_is i c g e = ap (chain_root p root_of g) e

  up_is : (i : ℕ) (c : Carry) (g : ℕ) → slice_get p.chains i ≡ Some c → c.up ≡ true
      → across_root p root_of (chain_line i g) ≡ up_root root_of c.start g
  up_is i c g e u = chain_root_is i c g e ∙ ap (λ t. cond t (up_root root_of c.start g)
      (down_root p root_of c.start g)) u

  down_is : (i : ℕ) (c : Carry) (g : ℕ) → slice_get p.chains i ≡ Some c → c.up ≡ false
      → across_root p root_of (chain_line i g) ≡ down_root p root_of c.start g
  down_is i c g e u = chain_root_is i c g e ∙ ap (λ t. cond t (up_root root_of c.start g)
      (down_root p root_of c.start g)) u

  down_inside : (start g : ℕ) → g < p.width → down_root p root_of start g ≡ root_of (place (suc g) start)
  down_inside start g h = ap (λ t. cond t (at Ground) (root_of (place (suc g) start))) (not_equal g p.width h)

  down_end : (start : ℕ) → down_root p root_of start p.width ≡ at Ground
  down_end start = ap (λ t. cond t (at Ground) (root_of (place (suc p.width) start))) (is_equal p.width)

  -- the root of a chain's end in a band
  end_low : (i : ℕ) (c : Carry) → slice_get p.chains i ≡ Some c → root_of (place (open_band p c) c.to) ≡ at Ground
  end_low i c e = roots.lows (place (open_band p c) c.to) (element (place (open_band p c) c.to) Low (open_end i c e))

  end_next : (i : ℕ) (c : Carry) (a b : ℕ) → slice_get p.chains i ≡ Some c → Feeds p c a b
      → root_of (place b c.to) ≡ root_of (place a c.start)
  end_next i c a b e f = roots.joins (place b c.to) (place a c.start)
      (element (place b c.to) (Joined (place a c.start)) (next i c a b e f))

  -- the line below slice g has the root of the slice's net there
  below_root : (i : ℕ) (c : Carry) (g : ℕ) → slice_get p.chains i ≡ Some c → g < p.width
      → across_root p root_of (chain_line i g) ≡ root_of (place (suc g) (below c))
  below_root i c g e h = elim (cases_Bool c.up) [
    | inl u ↦ up_is i c g e u ∙ (up_at g h u ∙ ap (λ t. root_of (place (suc g) (cond t c.to c.start))) (sym u))
    | inr u ↦ down_is i c g e u ∙ (down_inside c.start g h
        ∙ ap (λ t. root_of (place (suc g) (cond t c.to c.start))) (sym u))
  ]
    where
      up_at : (g : ℕ) → g < p.width → c.up ≡ true → up_root root_of c.start g ≡ root_of (place (suc g) c.to)
      up_at zero h u = sym (ap (λ t. root_of (place (cond t 1 p.width) c.to)) (sym u) ∙ end_low i c e)
      up_at (suc g) h u = sym (end_next i c (suc g) (suc (suc g)) e
          (from_below u (omega arith) (omega arith) (omega arith)))

  -- and the line above it that of its net there
  above_root : (i : ℕ) (c : Carry) (g : ℕ) → slice_get p.chains i ≡ Some c → suc g ≤ p.width
      → across_root p root_of (chain_line i (suc g)) ≡ root_of (place (suc g) (above c))
  above_root i c g e h = elim (cases_Bool c.up) [
    | inl u ↦ up_is i c (suc g) e u ∙ ap (λ t. root_of (place (suc g) (cond t c.start c.to))) (sym u)
    | inr u ↦ down_is i c (suc g) e u ∙ (down_at u ∙ ap (λ t. root_of (place (suc g) (cond t c.start c.to))) (sym u))
  ]
    where
      down_at : c.up ≡ false → down_root p root_of c.start (suc g) ≡ root_of (place (suc g) c.to)
      down_at u = elim (cases_eq (suc g) p.width) [
        | inl q ↦ subst (λ z. down_root p root_of c.start z ≡ root_of (place z c.to)) (sym q)
            (down_end c.start ∙ sym (ap (λ t. root_of (place (cond t 1 p.width) c.to)) (sym u) ∙ end_low i c e))
        | inr q ↦ down_inside c.start (suc g) (omega arith)
            ∙ sym (end_next i c (suc (suc g)) (suc g) e (from_above u (omega arith) (omega arith) (omega arith)))
      ]

  open_root : (i : ℕ) (c : Carry) → slice_get p.chains i ≡ Some c
      → across_root p root_of (chain_line i (open_gap p c)) ≡ at Ground
  open_root i c e = elim (cases_Bool c.up) [
    | inl u ↦ subst (λ t. across_root p root_of (chain_line i (cond t 0 p.width)) ≡ at Ground) (sym u) (up_is i c 0 e u)
    | inr u ↦ subst (λ t. across_root p root_of (chain_line i (cond t 0 p.width)) ≡ at Ground) (sym u)
        (down_is i c p.width e u ∙ down_end c.start)
  ]

  -- the bit of a program is a gate without inputs, or 0
  bit_is : (i : ℕ) (g : Programmed) (b : ℕ) → slice_get p.programs i ≡ Some g → suc b ≤ p.width
      → ((slice_get g.bits b ≡ Some true) × (nets (place (suc b) g.net) ≡ Some (Nor [])))
      ⊎ ((slice_get g.bits b ≡ Some false) × (nets (place (suc b) g.net) ≡ Some Low))
  bit_is i g b e h =
      let n = (path.programs i g e).1 in
      let has : slice_get g.bits b ≡ Some (get_or g.bits b false) = slice_get-get_or g.bits b false (omega arith) in
      elim (cases_Bool (get_or g.bits b false)) [
        | inl t ↦ inl (has ∙ ap Some t, element (place (suc b) g.net) (Nor []) (one i g b e h (has ∙ ap Some t)))
        | inr t ↦ inr (has ∙ ap Some t, element (place (suc b) g.net) Low (zero_bit i g b e h (has ∙ ap Some t)))
      ]

  bit_right : (i : ℕ) (g : Programmed) (b : ℕ) → slice_get p.programs i ≡ Some g → suc b ≤ p.width
      → right_root root_of (nets (place (suc b) g.net)) ≡ at Ground
  bit_right i g b e h = elim (bit_is i g b e h) [
    | inl t ↦ ap (right_root root_of) t.1
    | inr t ↦ ap
        (right_root root_of) t.1
  ]

  root_ : Wire Across → Root
  root_ w = root Across nets root_of (across_root p root_of) w

  path_tapped : (side : Side) (w v : Wire Across) → PathTie p stub (tap side w v) → root_ w ≡ root_ v
  unfolding root_
  path_tapped side w v (of_net b t i h) = net_tapped Across nets root_of rank roots (across_root p root_of) b
      (parts p b) (stub b) (elements b i) side w v h
  path_tapped side w v (of_phase b ph i) = refl
  path_tapped side w v (of_cast i c e) = ap (cast_root root_of) e
  path_tapped side w v (of_cast_slice i c b e s) =
      ap (cast_root root_of) e ∙ sym (roots.joins (place b c.slice) (place 0 c.control)
      (element (place b c.slice) (Joined (place 0 c.control)) (cast i c b e s)))
  path_tapped side w v (of_lift i l e) =
      ap (lift_root root_of) e ∙ sym (roots.joins (place 0 l.control) (place (suc l.slice) l.start)
      (element (place 0 l.control) (Joined (place (suc l.slice) l.start)) (lift i l e)))
  path_tapped side w v (of_lift_slice i l e) = ap (lift_root root_of) e
  path_tapped side w v (of_lift_stub i l b e s apart) = ap (stub_root root_of b) e
  path_tapped side w v (of_below i c g e h) = below_root i c g e h
  path_tapped side w v (of_above i c g e h) = above_root i c g e h
  path_tapped side w v (of_open i c e) = open_root i c e
  path_tapped side w v (of_bit_ground i g b e h) = bit_right i g b e h
  path_tapped side w v (of_one i g b e h bit) =
      let s = place (suc b) g.net in
      ap (left_root s) (element s (Nor []) (one i g b e h bit)) ∙ sym (own_root s (Nor []) (one i g b e h bit) tt)
  path_tapped side w v (of_zero i g b e h bit) =
      let s = place (suc b) g.net in
      bit_right i g b e h ∙ sym (roots.lows s (element s Low (zero_bit i g b e h bit)))

  joins_tapped : (w v : Wire Across) → Joins (Wire Across) (PathTie p stub) w v → root_ w ≡ root_ v
  joins_tapped w v (forth side t) = path_tapped side w v t
  joins_tapped w v (back side t) = sym (path_tapped side v w t)

  -- a wire leads to the wire of its root
  Reach : Wire Across → Type 0
  Reach w = Chain (Joins (Wire Across) (PathTie p stub)) w (hub Across (root_ w))
      × InPath p stub (hub Across (root_ w)) × (root_ (hub Across (root_ w)) ≡ root_ w)

  hop : (w v : Wire Across) → Joins (Wire Across) (PathTie p stub) w v → Reach v → Reach w
  unfolding Reach
  hop w v j r =
      let e = joins_tapped w v j in (
        link j (subst (λ q. Chain (Joins (Wire Across) (PathTie p stub)) v (hub Across q)) (sym e) r.0),
        subst (λ q. InPath p stub (hub Across q)) (sym e) r.1,
        subst (λ q. root_ (hub Across q) ≡ q) (sym e) r.2,
      )

  -- it is the wire of its root
  stay : (w : Wire Across) → InPath p stub w → hub Across (root_ w) ≡ w → Reach w
  unfolding Reach
  stay w i e = (
    subst (Chain (Joins (Wire Across) (PathTie p stub)) w) (sym e) here,
    subst (InPath p stub) (sym e) i,
    ap root_ e,
  )

  ground_reach : Reach to_ground
  unfolding root_
  ground_reach = stay to_ground tt refl

  trunk_reach : (ph : Phase) → Reach (trunk ph)
  unfolding root_
  trunk_reach ph = stay (trunk ph) tt refl

  own_reach : (s : Spot) (e : Element) → IsElement p s e → IsOwn (Some e) → InPath p stub (row s) → Reach (row s)
  unfolding root_
  own_reach s e h own i = stay (row s) i (ap (hub Across) (own_root s e h own))

  -- every net of the path has an element
  has_element : (b n : ℕ) → b ≤ p.width → n < length (parts p b) → (e : Element) × IsElement p (place b n) e
  has_element b n i h =
      elim (slice_get_cases (parts p b) n).1 [ inl w ↦ of_part w.0 w.2 | inr w ↦ absurd (omega (arith, w.0)) ]
    where
      of_part : (q : Part) → slice_get (parts p b) n ≡ Some q → (e : Element) × IsElement p (place b n) e
      of_part Input e = path.inputs b n i e
      of_part (Gate ins) e = (Nor (map (spot b) ins), gate b n ins i e)
      of_part (Latch ph (Some d)) e = (Latched ph (spot b d), store b n ph d i e)
      of_part (Latch ph None) e = absurd (path.fed b n ph e)

  -- the ties of a chain's line in a band, by names of the net there
  above_tie : (j : ℕ) (c : Carry) (g : ℕ) → slice_get p.chains j ≡ Some c → 1 ≤ g → g ≤ p.width
      → PathTie p stub (tap (side_of g) (extra (chain_line j g)) (row (place g (above c))))
  above_tie j c zero h u w = absurd (omega arith)
  above_tie j c (suc g) h u w = of_above j c g h w

  line_above : (j : ℕ) (c : Carry) (g n : ℕ) → slice_get p.chains j ≡ Some c → 1 ≤ g → g ≤ p.width → above c ≡ n
      → PathTie p stub (tap (side_of g) (extra (chain_line j g)) (row (place g n)))
  line_above j c g n h u w e = subst (λ z. PathTie p stub
      (tap (side_of g) (extra (chain_line j g)) (row (place g z)))) e (above_tie j c g h u w)

  line_below : (j : ℕ) (c : Carry) (g b n : ℕ) → slice_get p.chains j ≡ Some c → g + 1 ≡ b → b ≤ p.width
      → below c ≡ n → PathTie p stub (tap (side_of g) (extra (chain_line j g)) (row (place b n)))
  line_below j c g b n h q w e =
      let q2 : suc g ≡ b = omega arith in
      subst (λ z. PathTie p stub (tap (side_of g) (extra (chain_line j g)) (row (place b z)))) e
      (subst (λ z. PathTie p stub (tap (side_of g) (extra (chain_line j g)) (row (place z (below c))))) q2
      (of_below j c g h (omega arith)))

  open_reach : (j : ℕ) (c : Carry) → slice_get p.chains j ≡ Some c → Reach (row (place (open_band p c) c.to))
  open_reach j c h = elim (cases_Bool c.up) [
    | inl u ↦ subst (λ t. Reach (row (place (cond t 1 p.width) c.to))) (sym u)
        (hop (row (place 1 c.to)) (extra (chain_line j 0))
        (back (side_of 0) (line_below j c 0 1 c.to h (omega arith) (path.chains j c h).2
        (ap (λ t. cond t c.to c.start) u)))
        (hop (extra (chain_line j 0)) to_ground (forth (side_of 0)
        (subst (λ t. PathTie p stub (tap (side_of (cond t 0 p.width))
        (extra (chain_line j (cond t 0 p.width))) to_ground)) u (of_open j c h))) ground_reach))
    | inr u ↦ subst (λ t. Reach (row (place (cond t 1 p.width) c.to))) (sym u)
        (hop (row (place p.width c.to)) (extra (chain_line j p.width))
        (back (side_of p.width) (line_above j c p.width c.to h (path.chains j c h).2 (omega arith)
        (ap (λ t. cond t c.start c.to) u)))
        (hop (extra (chain_line j p.width)) to_ground
        (forth (side_of p.width) (subst (λ t. PathTie p stub
        (tap (side_of (cond t 0 p.width)) (extra (chain_line j (cond t 0 p.width))) to_ground)) u
        (of_open j c h))) ground_reach))
  ]

  -- from a net to what it is joined to
  reach_by : (s : Spot) (e : Element) → ((m : Spot) → rank m < rank s → m.band ≤ p.width
      → m.net < length (parts p m.band) → Reach (row m))
      → InPath p stub (row s) → IsElement p s e → Reach (row s)
  reach_by s e before i (gate b n ins w h) = own_reach (place b n) (Nor (map (spot b) ins)) (gate b n ins w h) tt i
  reach_by s e before i (store b n ph d w h) = own_reach (place b n) (Latched ph (spot b d)) (store b n ph d w h) tt i
  reach_by s e before i (pad b n w h c) = own_reach (place b n) Given (pad b n w h c) tt i
  reach_by s e before i (one j g b h w bit) = own_reach (place (suc b) g.net) (Nor []) (one j g b h w bit) tt i
  reach_by s e before i (cast j c b h w) =
      hop (row (place b c.slice)) (extra (cast_line j)) (back L (of_cast_slice j c b h w))
      (hop (extra (cast_line j)) (row (place 0 c.control)) (forth L (of_cast j c h))
      (before (place 0 c.control) (roots.falls (place b c.slice) (place 0 c.control)
      (element (place b c.slice) (Joined (place 0 c.control)) (cast j c b h w))) (omega arith)
      (path.casts j c h).0))
  reach_by s e before i (lift j l h) =
      let r = path.lifts j l h in
      hop (row (place 0 l.control)) (extra (lift_line j)) (back L (of_lift j l h))
      (hop (extra (lift_line j)) (row (place (suc l.slice) l.start)) (forth L (of_lift_slice j l h))
      (before (place (suc l.slice) l.start) (roots.falls (place 0 l.control) (place (suc l.slice) l.start)
      (element (place 0 l.control) (Joined (place (suc l.slice) l.start)) (lift j l h)))
      (let r0 = r.0 in omega arith) r.1))
  reach_by s e before i (next j c a b h f) = along_chain f
    where
      falls : rank (place a c.start) < rank (place b c.to)
      falls = roots.falls (place b c.to) (place a c.start)
          (element (place b c.to) (Joined (place a c.start)) (next j c a b h f))

      start_in : (z : ℕ) → 1 ≤ z → c.start < length (parts p z)
      start_in zero lo = absurd (omega arith)
      start_in (suc z) lo = (path.chains j c h).0

      along_chain : Feeds p c a b → Reach (row (place b c.to))
      along_chain (from_below u q lo hi) =
          hop (row (place b c.to)) (extra (chain_line j a))
          (back (side_of a) (line_below j c a b c.to h q hi (ap (λ t. cond t c.to c.start) u)))
          (hop (extra (chain_line j a)) (row (place a c.start))
          (forth (side_of a) (line_above j c a c.start h lo (omega arith) (ap (λ t. cond t c.start c.to) u)))
          (before (place a c.start) falls (omega arith) (start_in a lo)))
      along_chain (from_above u q lo hi) =
          hop (row (place b c.to)) (extra (chain_line j b))
          (back (side_of b) (line_above j c b c.to h lo (omega arith) (ap (λ t. cond t c.start c.to) u)))
          (hop (extra (chain_line j b)) (row (place a c.start))
          (forth (side_of b) (line_below j c b a c.start h q hi (ap (λ t. cond t c.to c.start) u)))
          (before (place a c.start) falls hi (start_in a (omega arith))))
  reach_by s e before i (open_end j c h) = open_reach j c h
  reach_by s e before i (zero_bit j g b h w bit) =
      hop (row (place (suc b) g.net)) (right (place (suc b) g.net)) (back R (of_zero j g b h w bit))
      (hop (right (place (suc b) g.net)) to_ground (forth R (of_bit_ground j g b h w)) ground_reach)

  reach_row : (k : ℕ) (s : Spot) → rank s < k → s.band ≤ p.width → s.net < length (parts p s.band) → Reach (row s)
  reach_row zero s h i n = absurd (omega arith)
  reach_row (suc k) s h i n =
      let e = has_element s.band s.net i n in
      reach_by s e.0 (λ m lt b q. reach_row k m (omega arith) b q) (i, n) e.1

  row_reach : (s : Spot) → s.band ≤ p.width → s.net < length (parts p s.band) → Reach (row s)
  row_reach s i n = reach_row (suc (rank s)) s (omega arith) i n

  -- what is in range
  here_in : (b n : ℕ) (q : Part) → slice_get (parts p b) n ≡ Some q → n < length (parts p b)
  here_in b n q h = slice_get_within (parts p b) n q h

  carry_in : (j : ℕ) (c : Carry) (b : ℕ) → slice_get p.chains j ≡ Some c → (t : Bool)
      → cond t c.to c.start < length (parts p (suc b))
  carry_in j c b h true = slice_get_within p.slice c.to Input (path.chains j c h).1
  carry_in j c b h false = (path.chains j c h).0

  carry_in_above : (j : ℕ) (c : Carry) (b : ℕ) → slice_get p.chains j ≡ Some c → (t : Bool)
      → cond t c.start c.to < length (parts p (suc b))
  carry_in_above j c b h true = (path.chains j c h).0
  carry_in_above j c b h false = slice_get_within p.slice c.to Input (path.chains j c h).1

  input_in : (b n : ℕ) (ins : List NetId) (i : NetId) → slice_get (parts p b) n ≡ Some (Gate ins) → Contains ins i
      → i.0 < length (parts p b)
  input_in b n ins i h c = All-contains (λ j. j.0 < length (parts p b)) ins i (path.gates b n ins h) c

  slice_in : (b n : ℕ) (q : Part) → slice_get p.slice n ≡ Some q → 1 ≤ b → n < length (parts p b)
  slice_in zero n q h u = absurd (omega arith)
  slice_in (suc b) n q h u = slice_get_within p.slice n q h

  start_in_slice : (b n : ℕ) → n < length p.slice → 1 ≤ b → n < length (parts p b)
  start_in_slice zero n h u = absurd (omega arith)
  start_in_slice (suc b) n h u = h

  column_left : (s : Spot) → HasColumn p stub s → Reach (left s)
  unfolding root_
  column_left s (by_gate b n ins i h) = hop (left (place b n)) (row (place b n))
      (forth L (of_net b (tap L (left (place b n)) (row (place b n))) i (gate_own n ins h)))
      (row_reach (place b n) i (here_in b n (Gate ins) h))
  column_left s (by_latch b n ph d i h) =
      hop (left (place b n)) (row (place b n)) (forth L
      (of_net b (tap L (left (place b n)) (row (place b n))) i (latch_own n ph d h)))
      (row_reach (place b n) i (here_in b n (Latch ph (Some d)) h))
  column_left s (by_bit j g b h w) = elim (bit_is j g b h w) [
    | inl t ↦ hop (left (place (suc b) g.net)) (row (place (suc b) g.net)) (forth L (of_one j g b h w t.0))
        (row_reach (place (suc b) g.net) w (slice_get_within p.slice g.net Input (path.programs j g h).0))
    | inr t ↦ stay (left (place (suc b) g.net)) (inl (by_bit j g b h w))
        (ap (hub Across) (ap (left_root (place (suc b) g.net)) t.1))
  ]

  column_right : (s : Spot) → HasColumn p stub s → Reach (right s)
  column_right s (by_gate b n ins i h) = hop (right (place b n)) to_ground
      (forth R (of_net b (tap R (right (place b n)) to_ground) i (gate_ground n ins h))) ground_reach
  column_right s (by_latch b n ph d i h) =
      hop (right (place b n)) (row (spot b d)) (forth R
      (of_net b (tap R (right (place b n)) (row (spot b d))) i (latch_data n ph d h)))
      (row_reach (spot b d) i (path.latches b n ph d h))
  column_right s (by_bit j g b h w) = hop (right (place (suc b) g.net)) to_ground
      (forth R (of_bit_ground j g b h w)) ground_reach

  across_reach : (x : Across) → InAcross p x → Reach (extra x)
  across_reach (cast_line i) (c, e) = hop (extra (cast_line i)) (row (place 0 c.control)) (forth L (of_cast i c e))
      (row_reach (place 0 c.control) (omega arith) (path.casts i c e).0)
  across_reach (lift_line i) (l, e) =
      let r = (path.lifts i l e).0 in
      hop (extra (lift_line i)) (row (place (suc l.slice) l.start)) (forth L (of_lift_slice i l e))
      (row_reach (place (suc l.slice) l.start) (omega arith) (path.lifts i l e).1)
  across_reach (lift_stub i b) (l, e, s, apart) =
      hop (extra (lift_stub i b)) (row (place b l.start)) (forth R (of_lift_stub i l b e s apart))
      (row_reach (place b l.start) s.1 (start_in_slice b l.start (path.lifts i l e).1 s.0))
  across_reach (chain_line i g) (c, e, w) = elim (cases_lt g p.width) [
    | inl lt ↦ hop (extra (chain_line i g)) (row (place (suc g) (below c))) (forth (side_of g) (of_below i c g e lt))
        (row_reach (place (suc g) (below c)) (omega arith) (carry_in i c g e c.up))
    | inr ge ↦ (let u = (path.chains i c e).2 in
        hop (extra (chain_line i g)) (row (place g (above c)))
        (forth (side_of g) (above_tie i c g e (omega arith) w))
        (row_reach (place g (above c)) w (above_in g (omega arith))))
  ]
    where
      above_in : (z : ℕ) → 1 ≤ z → above c < length (parts p z)
      above_in zero lo = absurd (omega arith)
      above_in (suc z) lo = carry_in_above i c z e c.up

  reach : (w : Wire Across) → InPath p stub w → Reach w
  unfolding root_
  reach (row s) (i, n) = row_reach s i n
  reach (beat b ph) i = hop (beat b ph) (trunk ph) (back L (of_phase b ph i)) (trunk_reach ph)
  reach (left s) (inl h) = column_left s h
  reach (left s) (inr (i, h, t)) =
      hop (left s) (row s) (forth L (of_net s.band (tap L (left s) (row s)) i (stub_own s.net h t)))
      (row_reach s i (here_in s.band s.net Input h))
  reach (right s) h = column_right s h
  reach (trunk ph) i = trunk_reach ph
  reach (extra x) i = across_reach x i
  reach to_ground i = ground_reach
  reach to_power i = stay to_power tt refl

  -- the ties speak of wires that there are
  net_speaks : (b : ℕ) (t : Tie (Wire Across)) → b ≤ p.width → NetTie Across b (parts p b) (stub b) t
      → Speaks (Wire Across) (InPath p stub) t
  net_speaks b t i (gate_own n ins h) = (inl (by_gate b n ins i h), (i, here_in b n (Gate ins) h))
  net_speaks b t i (gate_ground n ins h) = (by_gate b n ins i h, tt)
  net_speaks b t i (gate_pull n ins h) = inl (by_gate b n ins i h)
  net_speaks b t i (gate_input n ins j h c) = (
    (i, input_in b n ins j h c),
    inl (by_gate b n ins i h),
    by_gate b n ins i h,
  )
  net_speaks b t i (latch_own n ph d h) = (inl (by_latch b n ph d i h), (i, here_in b n (Latch ph (Some d)) h))
  net_speaks b t i (latch_data n ph d h) = (by_latch b n ph d i h, (i, path.latches b n ph d h))
  net_speaks b t i (latch_phase n ph d h) = (i, inl (by_latch b n ph d i h), by_latch b n ph d i h)
  net_speaks b t i (stub_own n h s) = (inr (i, h, s), (i, here_in b n Input h))

  bit_in : (j : ℕ) (g : Programmed) (b : ℕ) → slice_get p.programs j ≡ Some g → suc b ≤ p.width
      → InPath p stub (row (place (suc b) g.net))
  bit_in j g b h w = (w, slice_get_within p.slice g.net Input (path.programs j g h).0)

  path_speaks : (t : Tie (Wire Across)) → PathTie p stub t → Speaks (Wire Across) (InPath p stub) t
  path_speaks t (of_net b k i h) = net_speaks b t i h
  path_speaks t (of_phase b ph i) = (tt, i)
  path_speaks t (of_cast i c e) = ((c, e), (omega arith, (path.casts i c e).0))
  path_speaks t (of_cast_slice i c b e s) = ((c, e), (s.1, slice_in b c.slice Input (path.casts i c e).1 s.0))
  path_speaks t (of_lift i l e) = (
    (l, e),
    (
      omega arith,
      slice_get_within p.control l.control Input (path.lifts i l e).2,
    ),
  )
  path_speaks t (of_lift_slice i l e) = let r = (path.lifts i l e).0 in ((l, e), (omega arith, (path.lifts i l e).1))
  path_speaks t (of_lift_stub i l b e s apart) = (
    (l, e, s, apart),
    (s.1, start_in_slice b l.start (path.lifts i l e).1 s.0),
  )
  path_speaks t (of_below i c g e h) = ((c, e, omega arith), (omega arith, carry_in i c g e c.up))
  path_speaks t (of_above i c g e h) = ((c, e, h), (h, carry_in_above i c g e c.up))
  path_speaks t (of_open i c e) = ((c, e, open_in c.up), tt)
    where
      open_in : (t : Bool) → cond t 0 p.width ≤ p.width
      open_in true = omega arith
      open_in false = omega arith
  path_speaks t (of_bit_ground i g b e h) = (by_bit i g b e h, tt)
  path_speaks t (of_bit_pull i g b e h) = inl (by_bit i g b e h)
  path_speaks t (of_one i g b e h bit) = (inl (by_bit i g b e h), bit_in i g b e h)
  path_speaks t (of_zero i g b e h bit) = (by_bit i g b e h, bit_in i g b e h)

  -- the roots of a placed path
  pub rooted : AreRooted (Wire Across) (InPath p stub) (PathTie p stub)
      (root Across nets root_of (across_root p root_of)) (hub Across)
  unfolding root_ Reach
  rooted = record { speaks = path_speaks; tapped = joins_tapped; reach = reach }

  -- and its switches
  path_switch : (t : Tie (Wire Across)) → PathTie p stub t
      → IsSwitchOf nets (Wire Across) (root Across nets root_of (across_root p root_of)) root_of t
  path_switch t (of_net b k i h) = net_switch Across nets root_of rank roots (across_root p root_of) b (parts p b)
      (stub b) (elements b i) t h
  path_switch t (of_phase b ph i) = no_switch
  path_switch t (of_cast i c e) = no_switch
  path_switch t (of_cast_slice i c b e s) = no_switch
  path_switch t (of_lift i l e) = no_switch
  path_switch t (of_lift_slice i l e) = no_switch
  path_switch t (of_lift_stub i l b e s apart) = no_switch
  path_switch t (of_below i c g e h) = no_switch
  path_switch t (of_above i c g e h) = no_switch
  path_switch t (of_open i c e) = no_switch
  path_switch t (of_bit_ground i g b e h) = no_switch
  path_switch t (of_bit_pull i g b e h) = elim (bit_is i g b e h) [
    | inl k ↦ up_of (place (suc b) g.net) [] k.1 (ap (left_root (place (suc b) g.net)) k.1)
    | inr k ↦ lone_of (place (suc b) g.net) (ap (left_root (place (suc b) g.net)) k.1)
  ]
  path_switch t (of_one i g b e h bit) = no_switch
  path_switch t (of_zero i g b e h bit) = no_switch

  -- a point with a node of its own has a wire
  own_in : (s : Spot) (e : Element) → IsElement p s e → IsOwn (Some e) → InPath p stub (row s)
  own_in s e (gate b n ins i h) own = (i, here_in b n (Gate ins) h)
  own_in s e (store b n ph d i h) own = (i, here_in b n (Latch ph (Some d)) h)
  own_in s e (pad b n i h c) own = (i, here_in b n Input h)
  own_in s e (one j g b h w bit) own = bit_in j g b h w
  own_in s e (cast i c b h w) own = absurd own
  own_in s e (lift i l h) own = absurd own
  own_in s e (next i c a b h f) own = absurd own
  own_in s e (open_end i c h) own = absurd own
  own_in s e (zero_bit j g b h w bit) own = absurd own

  of_some : (s : Spot) (q : Option Element) → nets s ≡ q → IsOwn q → (e : Element) × IsElement p s e × IsOwn (Some e)
  of_some s None h own = absurd own
  of_some s (Some e) h own = (e, (are s e).0 h, own)

  hub_in : (q : Point) → HasOwnNode nets q → InPath p stub (hub Across (at q))
      × (root Across nets root_of (across_root p root_of) (hub Across (at q)) ≡ at q)
  hub_in (OfNet s) own = let e = of_some s (nets s) refl own in (own_in s e.0 e.1 e.2, roots.own s own)
  hub_in Ground own = (tt, refl)
  hub_in Power own = (tt, refl)
  hub_in (OfPhase ph) own = (tt, refl)

  pub hubs : AreHubs nets (Wire Across) (InPath p stub) (root Across nets root_of (across_root p root_of)) (hub Across)
  hubs = record { each = hub_in }

  down_there : (n i : Spot) (inputs : List Spot) → IsElement p n (Nor inputs) → Contains inputs i
      → (g : Wire Across) × (a : Wire Across) × (b : Wire Across) × PathTie p stub (tran g a b)
      × (root_ g ≡ root_of i) × (root_ a ≡ at (OfNet n)) × (root_ b ≡ at Ground)
  unfolding root_
  down_there n i inputs (gate b k ins w h) c =
      let m = member_map (spot b) ins i (contains_member (map (spot b) ins) i c) in (
        row (spot b m.0),
        left (place b k),
        right (place b k),
        of_net b (tran (row (spot b m.0)) (left (place b k)) (right (place b k))) w
            (gate_input k ins m.0 h (member_contains ins m.0 m.1)),
        ap root_of m.2,
        ap (left_root (place b k)) ((elements b w).gates k ins h),
        ap (right_root root_of) ((elements b w).gates k ins h),
      )
  down_there n i inputs (one j g b h w bit) c = absurd (no_member c)
    where
      no_member : Contains [] i → ⊥
      no_member c = absurd (omega (arith, c.1))

  up_there : (n : Spot) (inputs : List Spot) → IsElement p n (Nor inputs) → (a : Wire Across)
      × PathTie p stub (pull a) × (root_ a ≡ at (OfNet n))
  unfolding root_
  up_there n inputs (gate b k ins w h) = (
    left (place b k),
    of_net b (pull (left (place b k))) w (gate_pull k ins h),
    ap (left_root (place b k)) ((elements b w).gates k ins h),
  )
  up_there n inputs (one j g b h w bit) = (
    left (place (suc b) g.net),
    of_bit_pull j g b h w,
    ap (left_root (place (suc b) g.net)) (element (place (suc b) g.net) (Nor []) (one j g b h w bit)),
  )

  pass_there : (n source : Spot) (ph : Phase) → IsElement p n (Latched ph source)
      → (g : Wire Across) × (a : Wire Across) × (b : Wire Across) × PathTie p stub (tran g a b)
      × (root_ g ≡ at (OfPhase ph)) × (root_ a ≡ at (OfNet n)) × (root_ b ≡ root_of source)
  unfolding root_
  pass_there n source ph (store b k ph2 d w h) = (
    beat b ph,
    left (place b k),
    right (place b k),
    of_net b (tran (beat b ph) (left (place b k)) (right (place b k))) w (latch_phase k ph d h),
    refl,
    ap (left_root (place b k)) ((elements b w).latches k ph d h),
    ap (right_root root_of) ((elements b w).latches k ph d h),
  )

  path_pulled : (t : Tie (Wire Across)) → PathTie p stub t → IsPulled Across t
  path_pulled t (of_net b t2 w h) = net_pulled Across b (parts p b) (stub b) t h
  path_pulled t (of_phase b ph w) = tt
  path_pulled t (of_cast i c e) = tt
  path_pulled t (of_cast_slice i c b e s) = tt
  path_pulled t (of_lift i l e) = tt
  path_pulled t (of_lift_slice i l e) = tt
  path_pulled t (of_lift_stub i l b e s apart) = tt
  path_pulled t (of_below i c g e h) = tt
  path_pulled t (of_above i c g e h) = tt
  path_pulled t (of_open i c e) = tt
  path_pulled t (of_bit_ground i g b e h) = tt
  path_pulled t (of_bit_pull i g b e h) = (place (suc b) g.net, refl)
  path_pulled t (of_one i g b e h bit) = tt
  path_pulled t (of_zero i g b e h bit) = tt

  one_pulled : (a b : Wire Across) → PathTie p stub (pull a) → PathTie p stub (pull b) → root_ a ≡ root_ b → a ≡ b
  unfolding root_
  one_pulled a b first second same =
      let (n, is) = path_pulled (pull a) first in
      let (m, also) = path_pulled (pull b) second in
      is ∙ ap left (left_once nets n m (sym (ap root_ is) ∙ same ∙ ap root_ also)) ∙ sym also

  pub switches : AreSwitchesOf nets (Wire Across) (PathTie p stub)
      (root Across nets root_of (across_root p root_of)) root_of
  unfolding root_
  switches = record {
    only = path_switch;
    pull_downs = λ n i inputs e c. down_there n i inputs ((are n (Nor inputs)).0 e) c;
    pull_ups = λ n inputs e. up_there n inputs ((are n (Nor inputs)).0 e);
    passes = λ n source ph e. pass_there n source ph ((are n (Latched ph source)).0 e);
    one_pull_up = one_pulled;
  }
