-- What nets of a path read, between two marks.
use Rattle.std.proofs.Common.{◌≡◌, ℕ, ◌<◌, ◌≤◌, zero, suc, ◌⊎◌, inl, inr, List, [], ◌∷◌, Option, Some, None, Bool, true}
use Rattle.std.proofs.Common.{false, cond, eqb, map, refl, sym, ◌∙◌, subst, arith}
use Rattle.std.specs.Prelude.{Contains, slice_get, nat_lt, ◌==◌}
use Rattle.std.specs.Option.{option_or}
use Rattle.std.specs.Int.{bit_at}
use Rattle.std.proofs.lemmas.Bool.{eqb-true, eqb-false, ne_eqb, cond-true, cond-false, lt-ltb, le-ltb}
use Rattle.std.proofs.lemmas.Option.{none-some, same_Some, cond_some}
use Rattle.mp_base.proofs.Contents.{contains_from_map}
use Rattle.nor_net.specs.declared.net.NetId.{NetId}
use Rattle.nor_net.specs.declared.net.Part.{Part}
use Rattle.nor_net.specs.declared.net.Part.TheVariants.{Input, Gate, Latch}
use Rattle.nor_net.specs.Elements.{Spot, Element, Given, Nor, Latched, Joined, Low, spot}
use Rattle.nor_net.specs.Shape.{IsNet}
use Rattle.organelles.specs.declared.slices.Chain.{Chain}
use Rattle.organelles.specs.declared.slices.Chain.TheVariants.{Up, Down}
use Rattle.organelles.specs.declared.slices.Programmed.{Programmed}
use Rattle.organelles.specs.declared.slices.SliceNet.{SliceNet}
use Rattle.organelles.specs.Slices.{first_some, chain_element, program_element, slice_input}
use Rattle.path_form.specs.declared.path.Cast.{Cast}
use Rattle.path_form.specs.declared.path.Lift.{Lift}
use Rattle.path_form.specs.Nets.{nets_among, slice_part, control_part, cast_element, lift_element}
use Rattle.path_order.specs.declared.order.Mark.{Mark}
use Rattle.path_order.specs.Marked.{IsMarked}
use Rattle.path_order.proofs.Pieces.{Reads, MayRead}

-- ---- what is found first

found_first : {A Y : Type 0} (f : A → Option Y) (xs : List A) (y : Y) → first_some f xs ≡ Some y
    → (x : A) × Contains xs x × (f x ≡ Some y)
found_first f [] y e = absurd (none-some y e)
found_first {A} {Y} f (x ∷ xs) y e = by_head (f x) refl e (found_first f xs y)
  where
    by_head : (o : Option Y) → f x ≡ o → option_or o (first_some f xs) ≡ Some y
        → (first_some f xs ≡ Some y → (x : A) × Contains xs x × (f x ≡ Some y))
        → (z : A) × Contains (x ∷ xs) z × (f z ≡ Some y)
    by_head (Some z) is e again = (x, (0, omega arith, refl), is ∙ e)
    by_head None is e again =
        let (y, (k, within, there), same) = again e in
        (y, (suc k, omega (arith, within), there), same)

either : {Y : Type 0} (o p : Option Y) (y : Y) → option_or o p ≡ Some y → (o ≡ Some y) ⊎ (p ≡ Some y)
either (Some x) p y e = inl e
either None p y e = inr e

-- ---- how many nets of each band stand in the order: of the control c, and of a slice b, or a from slice k on

abbrev pub ends : (w k a b c : ℕ) → ℕ → ℕ
ends w k a b c zero = c
ends w k a b c (suc j) = cond (nat_lt j k) b (cond (nat_lt j w) a 0)

pub ends_below : (w k a b c j : ℕ) → j < k → ends w k a b c (suc j) ≡ b
ends_below w k a b c j l = cond-true (nat_lt j k) b (cond (nat_lt j w) a 0) (lt-ltb j k l)

pub ends_from : (w k a b c j : ℕ) → k ≤ j → j < w → ends w k a b c (suc j) ≡ a
ends_from w k a b c j g l =
    cond-false (nat_lt j k) b (cond (nat_lt j w) a 0) (le-ltb j k g) ∙ cond-true (nat_lt j w) a 0 (lt-ltb j w l)

pub ends_above : (w k a b c j : ℕ) → k ≤ j → w ≤ j → ends w k a b c (suc j) ≡ 0
ends_above w k a b c j g h =
    cond-false (nat_lt j k) b (cond (nat_lt j w) a 0) (le-ltb j k g) ∙ cond-false (nat_lt j w) a 0 (le-ltb j w h)

module _ (w : ℕ) (control : List Part) (s : SliceNet) (casts : List Cast) (lifts : List Lift) (marks : List Mark)
    (is_control : IsNet control) (is_slices : IsNet s.net) (marked : IsMarked w control s casts lifts marks)
    (a b : Mark)
    (b_in : Contains marks b)
    (apart : (m : Mark) → Contains marks m
    → ((m.slices ≤ a.slices) × (m.control ≤ a.control)) ⊎ ((b.slices ≤ m.slices) × (b.control ≤ m.control))) where
  -- of the marks that a net's number lies behind, the next one is behind this block
  below : (j : ℕ) → j < b.slices → (m : Mark) → Contains marks m → m.slices ≤ j
      → (m.slices ≤ a.slices) × (m.control ≤ a.control)
  below j l m has le = by_side (apart m has)
    where
      by_side : ((m.slices ≤ a.slices) × (m.control ≤ a.control)) ⊎ ((b.slices ≤ m.slices) × (b.control ≤ m.control))
          → (m.slices ≤ a.slices) × (m.control ≤ a.control)
      by_side (inl h) = h
      by_side (inr h) = absurd (let g = h.0 in omega (arith, g, l, le))

  -- net j of slice k, which the block adds
  module _ (k j : ℕ) (kw : k < w) (low : j < b.slices) where
    abbrev May : Spot → Type 0
    May m = MayRead (ends w k a.slices b.slices a.control) (record { band = suc k; net = j }) m

    joined : (m t : Spot) → m ≡ t → t.net < ends w k a.slices b.slices a.control t.band → May m
    joined m t e l = subst May (sym e) (inl l)

    by_up : (from to : NetId) → Contains s.chains (Up from to) → (x : Element)
        → chain_element w k j (Up from to) ≡ Some x → (m : Spot) → Reads x m → May m
    by_up from to has x e m r =
        let t = cond_some (eqb to.0 j) (cond (eqb k 0) Low (Joined (spot k from))) x e in
        by_slice k kw refl t.1
      where
        by_slice : (i : ℕ) → i < w → i ≡ k → cond (eqb i 0) Low (Joined (spot i from)) ≡ x → May m
        by_slice zero l is f = absurd (subst (λ y. Reads y m) (sym f) r)
        by_slice (suc i) l is f =
            let y : Joined (spot (suc i) from) ≡ x =
            sym (cond-false (eqb (suc i) 0) Low (Joined (spot (suc i) from))
            (ne_eqb (suc i) 0 (λ q. absurd (omega arith)))) ∙ f in
            let to_is = eqb-true to.0 j (cond_some (eqb to.0 j) (cond (eqb k 0) Low (Joined (spot k from))) x e).0 in
            let under = marked.ups from to has b b_in (omega (arith, to_is, low)) in
            let n = ends_below w k a.slices b.slices a.control i (omega (arith, is)) in
            joined m (spot (suc i) from) (subst (λ y. Reads y m) (sym y) r) (omega (arith, under, n))

    by_down : (from to : NetId) → Contains s.chains (Down from to) → (x : Element)
        → chain_element w k j (Down from to) ≡ Some x → (m : Spot) → Reads x m → May m
    by_down from to has x e m r =
        let t = cond_some (eqb to.0 j) (cond (eqb (suc k) w) Low (Joined (spot (suc (suc k)) from))) x e in
        by_top (eqb-true to.0 j t.0) (eqb (suc k) w) refl t.1
      where
        by_top : to.0 ≡ j → (t : Bool) → eqb (suc k) w ≡ t → cond t Low (Joined (spot (suc (suc k)) from)) ≡ x → May m
        by_top to_is true top f = absurd (subst (λ y. Reads y m) (sym f) r)
        by_top to_is false top f =
            let ne = eqb-false (suc k) w top in
            let d = marked.downs from to has in
            let d2 = d.2 in
            let d3 = d.3 in
            let g = (below j low d.0 d.1 (omega (arith, d3, to_is))).0 in
            let n = ends_from w k a.slices b.slices a.control (suc k) (omega arith) (next ne) in
            joined m (spot (suc (suc k)) from) (subst (λ y. Reads y m) (sym f) r) (omega (arith, d2, g, n))
          where
            next : (suc k ≡ w → ⊥) → suc k < w
            next ne = elim (Rattle.std.proofs.lemmas.Bool.cases_lt (suc k) w) [
              | inl l ↦ l
              | inr g ↦ absurd (ne (omega (arith, g, kw)))
            ]

    by_chain : (c : Chain) → Contains s.chains c → (x : Element) → chain_element w k j c ≡ Some x → (m : Spot)
        → Reads x m → May m
    by_chain (Up from to) has x e m r = by_up from to has x e m r
    by_chain (Down from to) has x e m r = by_down from to has x e m r

    by_program : (g : Programmed) → (x : Element) → program_element k j g ≡ Some x → (m : Spot) → Reads x m → May m
    by_program g x e m r =
        by_bit (bit_at g.bits k == 1) (cond_some (eqb g.net.0 j) (cond (bit_at g.bits k == 1) (Nor []) Low) x e).1
      where
        by_bit : (t : Bool) → cond t (Nor []) Low ≡ x → May m
        by_bit true f = absurd (let c : Contains [] m = subst (λ y. Reads y m) (sym f) r in let l = c.1 in
            omega (arith, l))
        by_bit false f = absurd (subst (λ y. Reads y m) (sym f) r)

    by_cast : (c : Cast) → Contains casts c → (x : Element) → cast_element j c ≡ Some x → (m : Spot) → Reads x m
        → May m
    by_cast c has x e m r =
        let t = cond_some (eqb c.slice.0 j) (Joined (spot zero c.control)) x e in
        let d = marked.cast_marks c has in
        let d2 = d.2 in
        let d3 = d.3 in
        let at = eqb-true c.slice.0 j t.0 in
        let g = (below j low d.0 d.1 (omega (arith, d3, at))).1 in
        joined m (spot zero c.control) (subst (λ y. Reads y m) (sym t.1) r) (omega (arith, d2, g))

    by_input : (x : Element) → option_or (slice_input w s k j)
        (option_or (first_some (cast_element j) casts) (Some Given)) ≡ Some x
        → (m : Spot) → Reads x m → May m
    by_input x e m r = by_slice (either (slice_input w s k j)
        (option_or (first_some (cast_element j) casts) (Some Given)) x e)
      where
        by_casts : (first_some (cast_element j) casts ≡ Some x) ⊎ (Some Given ≡ Some x) → May m
        by_casts (inl f) = let h = found_first (cast_element j) casts x f in by_cast h.0 h.1 x h.2 m r
        by_casts (inr f) = absurd (subst (λ y. Reads y m) (sym (same_Some Given x f)) r)

        by_joint : (first_some (chain_element w k j) s.chains ≡ Some x) ⊎
            (first_some (program_element k j) s.programs ≡ Some x)
            → May m
        by_joint (inl f) = let h = found_first (chain_element w k j) s.chains x f in by_chain h.0 h.1 x h.2 m r
        by_joint (inr f) = let h = found_first (program_element k j) s.programs x f in by_program h.0 x h.2 m r

        by_slice : (slice_input w s k j ≡ Some x) ⊎ (option_or (first_some (cast_element j) casts) (Some Given)
            ≡ Some x) → May m
        by_slice (inl f) =
            by_joint (either (first_some (chain_element w k j) s.chains)
            (first_some (program_element k j) s.programs) x f)
        by_slice (inr f) = by_casts (either (first_some (cast_element j) casts) (Some Given) x f)

    by_part : (o : Option Part) → slice_get s.net j ≡ o → (x : Element) → slice_part w s casts k j o ≡ Some x
        → (m : Spot)
        → Reads x m → May m
    by_part None is x e m r = absurd (none-some x e)
    by_part (Some Input) is x e m r = by_input x e m r
    by_part (Some (Gate inputs)) is x e m r =
        let c : Contains (map (spot (suc k)) inputs) m =
        subst (λ y. Reads y m) (sym (same_Some (Nor (map (spot (suc k)) inputs)) x e)) r in
        let i = contains_from_map (spot (suc k)) inputs m c in
        let l = Rattle.std.proofs.lemmas.List.Elements.All-contains (λ (i : NetId). i.0 < j) inputs i.0
        (is_slices.stand j (Gate inputs) is) i.1 in
        subst May i.2 (inr (refl, l))
    by_part (Some (Latch phase None)) is x e m r = absurd (none-some x e)
    by_part (Some (Latch phase (Some source))) is x e m r =
        absurd (subst (λ y. Reads y m) (sym (same_Some (Latched phase (spot (suc k) source)) x e)) r)

    pub slice_reads : (x : Element) → nets_among w control s casts lifts (record { band = suc k; net = j }) ≡ Some x
        → (m : Spot) → Reads x m → May m
    slice_reads x e m r =
        by_part (slice_get s.net j) refl x
        (sym (cond-true (nat_lt k w) (slice_part w s casts k j (slice_get s.net j)) None (lt-ltb k w kw)) ∙ e) m r

  -- net j of the control, which the block adds behind the slices
  module _ (j : ℕ) (low : j < b.control) where
    abbrev Can : Spot → Type 0
    Can m = MayRead (ends w w a.slices b.slices a.control) (record { band = 0; net = j }) m

    by_lift : (l : Lift) → Contains lifts l → (x : Element) → lift_element j l ≡ Some x → (m : Spot) → Reads x m
        → Can m
    by_lift l has x e m r =
        let t = cond_some (eqb l.control.0 j) (Joined (spot (suc l.slice) l.from)) x e in
        let at = eqb-true l.control.0 j t.0 in
        let d = marked.lift_marks l has in
        let under = d.1 b b_in (omega (arith, at, low)) in
        let n = ends_below w w a.slices b.slices a.control l.slice d.0 in
        let q : l.from.0 < ends w w a.slices b.slices a.control (suc l.slice) = omega (arith, under, n) in
        subst Can (subst (λ y. Reads y m → spot (suc l.slice) l.from ≡ m) t.1 (λ e. sym e) r) (inl q)

    by_control : (o : Option Part) → slice_get control j ≡ o → (x : Element) → control_part lifts j o ≡ Some x
        → (m : Spot)
        → Reads x m → Can m
    by_control None is x e m r = absurd (none-some x e)
    by_control (Some Input) is x e m r = by_side (either (first_some (lift_element j) lifts) (Some Given) x e)
      where
        by_side : (first_some (lift_element j) lifts ≡ Some x) ⊎ (Some Given ≡ Some x) → Can m
        by_side (inl f) = let h = found_first (lift_element j) lifts x f in by_lift h.0 h.1 x h.2 m r
        by_side (inr f) = absurd (subst (λ y. Reads y m) (sym (same_Some Given x f)) r)
    by_control (Some (Gate inputs)) is x e m r =
        let c : Contains (map (spot 0) inputs) m =
        subst (λ y. Reads y m) (sym (same_Some (Nor (map (spot 0) inputs)) x e)) r in
        let i = contains_from_map (spot 0) inputs m c in
        let l = Rattle.std.proofs.lemmas.List.Elements.All-contains (λ (i : NetId). i.0 < j) inputs i.0
        (is_control.stand j (Gate inputs) is) i.1 in
        subst Can i.2 (inr (refl, l))
    by_control (Some (Latch phase None)) is x e m r = absurd (none-some x e)
    by_control (Some (Latch phase (Some source))) is x e m r =
        absurd (subst (λ y. Reads y m) (sym (same_Some (Latched phase (spot 0 source)) x e)) r)

    pub control_reads : (x : Element) → nets_among w control s casts lifts (record { band = 0; net = j }) ≡ Some x
        → (m : Spot) → Reads x m → Can m
    control_reads x e m r = by_control (slice_get control j) refl x e m r
