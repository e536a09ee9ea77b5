-- The points of the labels of a path's chip, and their nets in its fabric.
use Rattle.std.proofs.Common.{◌≡◌, ◌≢◌, inl, inr, ℕ, zero, suc, ◌+◌, ◌*◌, ◌<◌, ◌≤◌, Bool, true, false, cond}
use Rattle.std.proofs.Common.{List, length, get_or, refl, sym, ◌∙◌, ap, subst, arith}
use Rattle.std.specs.Prelude.{◌==◌}
use Rattle.std.proofs.Math.Nat.{mul-le-mul_right}
use Rattle.std.proofs.lemmas.Bool.{eq-eqb, eqb-true, true≢false}
use Rattle.std.proofs.lemmas.List.{append-nil}
use Rattle.std.proofs.lemmas.List.Elements.{Contains-get_or}
use Rattle.mp_base.specs.declared.pad.Pad.{Pad}
use Rattle.mp_base.proofs.Members.{Member, member_append}
use Rattle.switch_net.specs.declared.network.Network.{Network}
use Rattle.nor_net.specs.declared.net.NetId.{NetId}
use Rattle.nor_net.specs.declared.net.Phase.{Phase}
use Rattle.nor_net.specs.declared.net.Phase.TheVariants.{A, B, C}
use Rattle.drawing.specs.Draws.{Point, OfNet, Ground, Power, OfPhase}
use Rattle.fabric.specs.declared.thing.Segment.{Segment}
use Rattle.fabric.specs.Plan.{Plan}
use Rattle.fabric.specs.Switches.{Net, IsNet}
use Rattle.fabric.specs.Switches.Net.{segment}
use Rattle.array_form.specs.Homes.{phase_number}
use Rattle.array_form.specs.Wires.{place}
use Rattle.path_form.specs.declared.path.DataPath.{DataPath}
use Rattle.path_form.specs.Showing.{pad_bits, pad_spot}
use Rattle.slice_form.specs.Path.{parts}
use Rattle.slice_form.specs.Whole.{path_of}
use Rattle.slice_chip.specs.Drawn.{DrawsSliced}
use Rattle.slice_chip.specs.Order.{AreInOrder, nowhere, number_at}
use Rattle.slice_chip.specs.Unders.{IsLed}
use Rattle.path_labels.specs.Labels.{AreEntriesOf, IsEntryOf, label_points, net_at, points_in}
use Rattle.path_labels.proofs.Entries.{entry_at}
use Rattle.chip_laws.specs.Rows.{rows_at}
use Rattle.path_plan.proofs.Bits.{bit_at}

pub phase_small : (ph : Phase) → phase_number ph < 3
phase_small A = omega arith
phase_small B = omega arith
phase_small C = omega arith

module _ (p : DataPath) where
  -- there is such a net in the band
  abbrev pub HasNet : ℕ → ℕ → Type 0
  HasNet zero n = n < length p.control
  HasNet (suc k) n = (k < p.width) × (n < length p.slices.net)

  -- the point is a supply, a phase, or a net of the path
  abbrev pub IsThere : Point → Type 0
  IsThere (OfNet s) = HasNet s.band s.net
  IsThere Ground = Unit {0}
  IsThere Power = Unit {0}
  IsThere (OfPhase ph) = Unit {0}

  bit_there : (pad : Pad) (id : NetId) (k : ℕ) → IsEntryOf p pad id → k < pad_bits pad
      → IsThere (OfNet (pad_spot pad id k))
  bit_there pad id k e lt = by_sort (pad.width == 0) refl lt
    where
      by_sort : (b : Bool) → (pad.width == 0) ≡ b → k < cond b 1 pad.width → HasNet (cond b 0 (suc k)) id.0
      by_sort true s l = e.signal (eqb-true pad.width 0 s)
      by_sort false s l =
          let wide : pad.width ≢ 0 = λ z. true≢false (sym (eq-eqb pad.width 0 z) ∙ s) in
          let same = e.wide wide in (omega (arith, l, same), e.word wide)

  bits_there : (pads : List Pad) (ids : List NetId) → AreEntriesOf p pads ids → (at : Point)
      → Member (points_in (rows_at pads ids)) at → IsThere at
  bits_there pads ids fit at m =
      let b = bit_at pads ids at m in
      subst IsThere b.same
      (bit_there b.pad b.id b.bit (entry_at p pads ids b.place b.pad b.id fit b.is_pad b.is_id) b.below)

  -- the points of a chip's labels
  pub points_there : (at : Point) → Member (label_points p) at → IsThere at
  points_there at (inl e) = subst IsThere e tt
  points_there at (inr (inl e)) = subst IsThere e tt
  points_there at (inr (inr (inl e))) = subst IsThere e tt
  points_there at (inr (inr (inr (inl e)))) = subst IsThere e tt
  points_there at (inr (inr (inr (inr (inl e))))) = subst IsThere e tt
  points_there at (inr (inr (inr (inr (inr m))))) =
      elim (member_append (points_in (rows_at (p.pads).inputs p.inputs))
      (points_in (rows_at (p.pads).outputs p.outputs)) at m) [
        | inl k ↦ bits_there (p.pads).inputs p.inputs (p.whole.pads_fit.0, p.whole.entries_fit.0) at k
        | inr k ↦ bits_there (p.pads).outputs p.outputs (p.whole.pads_fit.1, p.whole.entries_fit.1) at k
      ]

  -- a net is one of its band's segments
  pub net_in_band : (b n : ℕ) → HasNet b n → (b ≤ p.width) × (n < length (parts (path_of p) b) + 3)
  net_in_band zero n h = (omega arith, omega (arith, h))
  net_in_band (suc k) n h = let l = h.0 in let m = h.1 in (omega (arith, l), omega (arith, m))

  -- ---- their segments

  module _ (f : Plan) (led : IsLed p f) (order : AreInOrder p led.bare led.sliced) where
    pub same_segments : f.segments ≡ (led.bare).segments
    same_segments = ap (λ (f : Plan). f.segments) led.is ∙ append-nil (led.bare).segments

    -- a segment of a band, of a net or of a phase
    pub number_in : (b k : ℕ) → b ≤ p.width → k < length (parts (path_of p) b) + 3
        → number_at p b k < length f.segments
    number_in zero k le lt =
        let c = order.count in let e = ap (λ (l : List Segment). length l) same_segments in
        omega (arith, c, e, lt)
    number_in (suc b) k le lt =
        let c = order.count in let e = ap (λ (l : List Segment). length l) same_segments in
        let m : (b + 1) * (length p.slices.net + 3) ≤ p.width * (length p.slices.net + 3) =
        mul-le-mul_right (length p.slices.net + 3) (omega (arith, le)) in
        omega (arith, c, e, lt, m)

    -- as in the fabric without crossings
    pub segment_same : (k : ℕ) → get_or f.segments k nowhere ≡ get_or (led.bare).segments k nowhere
    segment_same k = ap (λ (l : List Segment). get_or l k nowhere) same_segments

    pub is_net : (at : Point) → IsThere at → IsNet f (net_at p f at)
    is_net (OfNet s) h =
        let in_band = net_in_band s.band s.net h in
        Contains-get_or f.segments (number_at p s.band s.net) nowhere (number_in s.band s.net in_band.0 in_band.1)
    is_net Ground h = tt
    is_net Power h = tt
    is_net (OfPhase ph) h =
        let s = phase_small ph in
        Contains-get_or f.segments (length p.control + phase_number ph) nowhere
        (number_in 0 (length p.control + phase_number ph) (omega arith) (omega (arith, s)))

    module _ (number : Net → ℕ) (network : Network) (node : Point → ℕ)
        (drawn : DrawsSliced p (led.sliced).control (led.sliced).slices number network node)
      where
        of_net : (b n : ℕ) → HasNet b n
            → number (segment (get_or f.segments (number_at p b n) nowhere)) ≡ node (OfNet (place b n))
        of_net zero n h =
            ap (λ s. number (segment s)) (segment_same n ∙ order.control n (omega (arith, h)))
            ∙ sym (drawn.control_nets n h)
        of_net (suc k) n h =
            let l = h.0 in let lt = h.1 in
            ap (λ s. number (segment s))
            (segment_same (number_at p (suc k) n) ∙ order.slices k n l (omega (arith, lt)))
            ∙ sym (drawn.slice_nets (suc k) n (omega arith, omega (arith, l)) lt)

        pub here : (at : Point) → IsThere at → number (net_at p f at) ≡ node at
        here (OfNet s) h = of_net s.band s.net h
        here Ground h = sym drawn.ground_is
        here Power h = sym drawn.power_is
        here (OfPhase ph) h =
            ap (λ s. number (segment s))
            (segment_same (length p.control + phase_number ph)
            ∙ order.control (length p.control + phase_number ph) (let s = phase_small ph in omega (arith, s)))
            ∙ sym (drawn.beats ph)
