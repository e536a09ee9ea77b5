-- What passes all tests is a path.
use Rattle.std.proofs.Common.{◌≡◌, ◌≢◌, ◌≤◌, ◌<◌, ◌+◌, ◌*◌, ℕ, Some, None, Bool, true}
use Rattle.std.proofs.Common.{eqb, ltb, leb, refl, get_or, length, arith}
use Rattle.std.specs.Prelude.{Contains, ◌||◌, ◌&&◌, not, nat_lt, nat_le}
use Rattle.std.proofs.lemmas.Bool.{false≢true, leb-true, ltb-true}
use Rattle.std.proofs.lemmas.Bool.Decides.{nat_tests}
use Rattle.std.proofs.Math.Nat.{mul-le-mul_left}
use Rattle.mp_base.proofs.Tests.{and_left, and_right}
use Rattle.nor_net.specs.declared.net.NetId.{NetId}
use Rattle.nor_net.specs.declared.net.Part.{Part}
use Rattle.nor_net.specs.declared.net.Part.TheVariants.{Input, Gate, Latch}
use Rattle.nor_net.specs.Shape.{Fed, IsFed, IsNet, gate_inputs, net_limit}
use Rattle.organelles.specs.declared.slices.Chain.{Chain}
use Rattle.organelles.specs.declared.slices.Chain.TheVariants.{Up, Down}
use Rattle.path_form.specs.declared.path.Cast.{Cast}
use Rattle.path_form.specs.declared.path.DataPath.{DataPath}
use Rattle.path_form.specs.declared.path.Lift.{Lift}
use Rattle.path_form.specs.Shape.{IsPath, chain_from, chain_to, is_fed}
use Rattle.path_order.specs.declared.order.Mark.{Mark}
use Rattle.path_order.specs.Marked.{IsMarked, OrdersAreWhole}
use Rattle.path_order.specs.Order.{order_from, start}
use Rattle.path_draft.specs.declared.path.Body.{Body}
use Rattle.path_draft.specs.Testing.{cast_marked, chain_fits, chain_marked, lift_fits, lift_marked}
use Rattle.path_draft.specs.Whole.{IsWhole}
use Rattle.path_draft.proofs.Telling.{all_pass, one_passes, passes}

fed_is : (part : Part) → Fed part → is_fed part ≡ true
fed_is Input e = refl
fed_is (Gate inputs) e = refl
fed_is (Latch phase None) e = absurd (false≢true e)
fed_is (Latch phase (Some m)) e = refl

either : (a b m n : ℕ) → (leb a b || ltb m n) ≡ true → b < a → m < n
either a b m n h l = grind (arith, nat_tests)

differ : (a b : ℕ) → not (eqb a b) ≡ true → a ≢ b
differ a b h = grind (arith, nat_tests)

module _ (p : DataPath) (b : Body) (h : IsWhole p b) (control_net : IsNet b.control) (control_fed : IsFed b.control)
    (slice_net : IsNet b.slices.net) (slices_fed : IsFed b.slices.net) where
  abbrev slices : ℕ
  slices = length b.slices.net

  abbrev chain_test : Chain → Bool
  chain_test c = chain_fits slices c && chain_marked b.marks c

  abbrev cast_test : Cast → Bool
  cast_test c = nat_lt c.control.0 (length b.control) && cast_marked b.marks c

  abbrev lift_test : Lift → Bool
  lift_test l = lift_fits p.width slices l && lift_marked b.marks l

  chain_in : (c : Chain) → chain_test c ≡ true
      → ((chain_from c).0 < slices) × ((chain_to c).0 < slices) × ((chain_from c).0 ≢ (chain_to c).0)
  chain_in c e =
      let fits = and_left (chain_fits slices c) (chain_marked b.marks c) e in
      let others = and_right (nat_lt (chain_from c).0 slices)
      (nat_lt (chain_to c).0 slices && not (eqb (chain_from c).0 (chain_to c).0)) fits in (
        ltb-true (chain_from c).0 slices (and_left (nat_lt (chain_from c).0 slices)
            (nat_lt (chain_to c).0 slices && not (eqb (chain_from c).0 (chain_to c).0)) fits),
        ltb-true (chain_to c).0 slices (and_left (nat_lt (chain_to c).0 slices)
            (not (eqb (chain_from c).0 (chain_to c).0)) others),
        differ (chain_from c).0 (chain_to c).0 (and_right (nat_lt (chain_to c).0 slices)
            (not (eqb (chain_from c).0 (chain_to c).0)) others),
      )

  chain_at : (k : ℕ) (d : Chain) → k < length b.slices.chains → chain_test (get_or b.slices.chains k d) ≡ true
  chain_at k d l = all_pass chain_test b.slices.chains h.joints.chains k d l

  lift_in : (l : Lift) → lift_test l ≡ true → (l.slice < p.width) × (l.from.0 < slices)
  lift_in l e =
      let fits = and_left (lift_fits p.width slices l) (lift_marked b.marks l) e in (
        ltb-true l.slice p.width (and_left (nat_lt l.slice p.width) (nat_lt l.from.0 slices) fits),
        ltb-true l.from.0 slices (and_right (nat_lt l.slice p.width) (nat_lt l.from.0 slices) fits),
      )

  ups : (from to : NetId) → Contains b.slices.chains (Up from to) → (m : Mark) → Contains b.marks m
      → to.0 < m.slices → from.0 < m.slices
  ups from to c m cm l =
      let marked = and_right (chain_fits slices (Up from to)) (chain_marked b.marks (Up from to))
      (passes chain_test b.slices.chains (Up from to) h.joints.chains c) in
      either m.slices to.0 from.0 m.slices
      (passes (λ (m : Mark). nat_le m.slices to.0 || nat_lt from.0 m.slices) b.marks m marked cm) l

  downs : (from to : NetId) → Contains b.slices.chains (Down from to)
      → (m : Mark) × Contains b.marks m × (from.0 < m.slices) × (m.slices ≤ to.0)
  downs from to c =
      let marked = and_right (chain_fits slices (Down from to)) (chain_marked b.marks (Down from to))
      (passes chain_test b.slices.chains (Down from to) h.joints.chains c) in
      let m = one_passes (λ (m : Mark). nat_lt from.0 m.slices && nat_le m.slices to.0) b.marks marked in (
        m.0,
        m.1,
        ltb-true from.0 (m.0).slices (and_left (nat_lt from.0 (m.0).slices) (nat_le (m.0).slices to.0) m.2),
        leb-true (m.0).slices to.0 (and_right (nat_lt from.0 (m.0).slices) (nat_le (m.0).slices to.0) m.2),
      )

  cast_marks : (c : Cast) → Contains b.casts c
      → (m : Mark) × Contains b.marks m × (c.control.0 < m.control) × (m.slices ≤ c.slice.0)
  cast_marks c in' =
      let marked = and_right (nat_lt c.control.0 (length b.control)) (cast_marked b.marks c)
      (passes cast_test b.casts c h.joints.casts in') in
      let m = one_passes (λ (m : Mark). nat_lt c.control.0 m.control && nat_le m.slices c.slice.0) b.marks marked in (
        m.0,
        m.1,
        ltb-true c.control.0 (m.0).control
            (and_left (nat_lt c.control.0 (m.0).control) (nat_le (m.0).slices c.slice.0) m.2),
        leb-true (m.0).slices c.slice.0
            (and_right (nat_lt c.control.0 (m.0).control) (nat_le (m.0).slices c.slice.0) m.2),
      )

  lift_marks : (l : Lift) → Contains b.lifts l → (l.slice < p.width)
      × ((m : Mark) → Contains b.marks m → l.control.0 < m.control → l.from.0 < m.slices)
  lift_marks l in' =
      let test = passes lift_test b.lifts l h.joints.lifts in' in
      let marked = and_right (lift_fits p.width slices l) (lift_marked b.marks l) test in (
        (lift_in l test).0,
        λ m cm below. either m.control l.control.0 l.from.0 m.slices
            (passes (λ (m : Mark). nat_le m.control l.control.0 || nat_lt l.from.0 m.slices) b.marks m marked cm) below,
      )

  marked : IsMarked p.width b.control b.slices b.casts b.lifts b.marks
  marked = record {
    rise = h.joints.rise;
    ups = ups;
    downs = downs;
    cast_marks = cast_marks;
    lift_marks = lift_marks;
  }

  pub is_path : OrdersAreWhole
      → IsPath p.width b.control b.slices b.casts b.lifts p.pads b.inputs b.outputs (order_from p.width start b.marks)
  is_path law =
      let order = law p.width b.control b.slices b.casts b.lifts b.marks control_net control_fed slice_net slices_fed
      marked in
      record {
        width = p.whole.width;
        pads_fit = p.whole.pads_fit;
        entries_fit = (
          (h.input_count, h.control.pads.inputs_in, h.slices.pads.inputs_in),
          (h.output_count, h.control.pads.outputs_in, h.slices.pads.outputs_in),
        );
        chains_in = λ k d l. let c = chain_in (get_or b.slices.chains k d) (chain_at k d l) in (c.0, c.1);
        ends_differ = λ k d l. (chain_in (get_or b.slices.chains k d) (chain_at k d l)).2;
        casts_in = λ k d l. ltb-true (get_or b.casts k d).control.0 (length b.control)
            (and_left (nat_lt (get_or b.casts k d).control.0 (length b.control)) (cast_marked b.marks (get_or b.casts k d))
            (all_pass cast_test b.casts h.joints.casts k d l));
        lifts_in = λ k d l. lift_in (get_or b.lifts k d) (all_pass lift_test b.lifts h.joints.lifts k d l);
        fed = (
          λ k d l. fed_is (get_or b.control k d) (control_fed k d l),
          λ k d l. fed_is (get_or b.slices.net k d) (slices_fed k d l),
        );
        control_inputs = h.control.inputs;
        slice_inputs = h.slices.inputs;
        latches = (h.control.pads.latches, h.slices.pads.latches);
        apart = (h.control.pads.apart, h.slices.pads.apart);
        once = order.0;
        ordered = order.1;
        few_nets = few_nets;
        few_inputs = few_inputs;
      }
    where
      few_nets : length b.control + p.width * (slices + length b.slices.chains + length b.slices.programs) < net_limit
      few_nets =
          let n = h.no_larger in
          let a = n.control.nets in
          let s = n.slices.nets in
          let c = n.chains in
          let g = n.programs in
          let less : slices + length b.slices.chains + length b.slices.programs
          ≤ length p.slices.net + length p.slices.chains + length p.slices.programs = omega (arith, s, c, g) in
          let m = mul-le-mul_left p.width less in
          let most = p.whole.few_nets in
          omega (arith, a, m, most)

      few_inputs : gate_inputs b.control
          + p.width * (gate_inputs b.slices.net + length b.slices.chains + length b.slices.programs) < net_limit
      few_inputs =
          let n = h.no_larger in
          let a = n.control.inputs in
          let s = n.slices.inputs in
          let c = n.chains in
          let g = n.programs in
          let less : gate_inputs b.slices.net + length b.slices.chains + length b.slices.programs
          ≤ gate_inputs p.slices.net + length p.slices.chains + length p.slices.programs = omega (arith, s, c, g) in
          let m = mul-le-mul_left p.width less in
          let most = p.whole.few_inputs in
          omega (arith, a, m, most)
