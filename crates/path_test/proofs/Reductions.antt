-- Where all nets become what they may, the path is reduced.
use Rattle.std.proofs.Common.{◌≡◌, ◌≤◌, ◌<◌, ◌+◌, ◌-◌, ℕ, zero, suc, ◌⊎◌, inl, inr, List, [], ◌∷◌, Option, Some, None}
use Rattle.std.proofs.Common.{Bool, true, false, cond, eqb, refl, sym, ◌∙◌, ap, subst, get_or, length, map, arith}
use Rattle.std.proofs.Common.{◌≢◌}
use Rattle.std.specs.Prelude.{All, Contains, nat_lt, not, slice_get}
use Rattle.std.specs.Int.{bit_at}
use Rattle.std.proofs.lemmas.Bool.{cases_lt, false≢true, le-leb, lt-leb}
use Rattle.std.proofs.lemmas.Bool.{ltb-true}
use Rattle.std.proofs.lemmas.Bool.Decides.{nat_tests}
use Rattle.std.proofs.lemmas.Nat.Bits.{bit_at-zero}
use Rattle.std.proofs.lemmas.List.Elements.{All-map, All-contains, All-nil}
use Rattle.std.proofs.lemmas.Option.{none-some, slice_get_within, get_or_from_slice_get, slice_get-get_or}
use Rattle.mp_base.proofs.Members.{contains_member, map_member, member_contains}
use Rattle.mp_base.specs.declared.pad.Pad as pad_type
use Rattle.nor_net.specs.declared.net.NetId.{NetId}
use Rattle.nor_net.specs.declared.net.Part.{Part}
use Rattle.nor_net.specs.declared.net.Part.TheVariants.{Input, Gate, Latch}
use Rattle.nor_net.specs.Elements.{Spot, Element, Given, Nor, Latched, Joined, spot}
use Rattle.nor_net.specs.Elements as elements
use Rattle.nor_net.specs.Shape.{Fed}
use Rattle.path_form.specs.declared.path.DataPath.{DataPath}
use Rattle.path_form.specs.Shape.{is_fed}
use Rattle.path_form.specs.Showing.{path_nets}
use Rattle.path_sources.specs.declared.sources.Source.{Source}
use Rattle.path_sources.specs.declared.sources.Source.TheVariants.{Pad, Below, Above, Bits, Control, Slice}
use Rattle.path_sources.specs.Sources.{control_source, element_in, parts_of, path_source, slice_source, source_element}
use Rattle.path_sources.proofs.Elements.{element_at, has_part, net_at}
use Rattle.path_reduce.specs.declared.images.Becomes.{Becomes}
use Rattle.path_reduce.specs.declared.images.Becomes.TheVariants.{Net, Low, High, LeftOut}
use Rattle.path_reduce.specs.declared.images.Images.{Images}
use Rattle.path_reduce.specs.Images.{Become, IsImage, IsReduction, given, by_high, by_lows, by_gate, by_inverter}
use Rattle.path_reduce.specs.Images.{latched, joined, one_net, low_net, always_low}
use Rattle.path_reduce.specs.Reducing.{Image, net, low, high, left_out, is_kept, sources, KeepsPads}
use Rattle.path_reduce.specs.Tables.{becomes_at, image_in, images_of, table_of}
use Rattle.path_test.specs.Becoming.{BecomeNets, GateBecomes, InputBecomes, IsHighSource, IsLowSource, LatchBecomes}
use Rattle.path_test.specs.Becoming.{Moves, PartBecomes, is_source, stays}
use Rattle.path_test.specs.Testing.{BandBecomes, PadsStay, PartsBecome}

not_zero : (k : ℕ) → eqb (suc k) 0 ≡ false
not_zero k = grind (arith, nat_tests)

no_bits : (k : ℕ) → bit_at 0 k ≡ 0
no_bits k = bit_at-zero k

kept_in : (b : ℕ) (x : Becomes) → stays x ≡ true → is_kept (image_in b x) ≡ true
kept_in b (Net k) e = refl
kept_in b Low e = refl
kept_in b High e = refl
kept_in b LeftOut e = absurd (false≢true e)

left_past : (table : List Becomes) (n : ℕ) → length table ≤ n → becomes_at table n ≡ LeftOut
left_past [] n l = refl
left_past (x ∷ xs) zero l = absurd (omega arith)
left_past (x ∷ xs) (suc n) l = left_past xs n (omega arith)

fed_is : (part : Part) → is_fed part ≡ true → Fed part
fed_is Input e = tt
fed_is (Gate inputs) e = tt
fed_is (Latch phase None) e = absurd (false≢true e)
fed_is (Latch phase (Some m)) e = refl

get_contains : {A : Type 0} (xs : List A) (i : ℕ) (x : A) → slice_get xs i ≡ Some x → Contains xs x
get_contains xs i x e = (i, slice_get_within xs i x e, get_or_from_slice_get xs i x x e)

contains_map : {A B : Type 0} (f : A → B) (xs : List A) (x : A) → Contains xs x → Contains (map f xs) (f x)
contains_map f xs x c = member_contains (map f xs) (f x) (map_member f xs x (contains_member xs x c))

module _ (p q : DataPath) (t : Images) (width : q.width ≡ p.width) where
  abbrev image : Spot → Image
  image = images_of p.width t

  at_band : (b n : ℕ) → b ≤ p.width → image (record { band = b; net = n }) ≡ image_in b (becomes_at (table_of t b) n)
  at_band b n l = ap (λ c. cond c (image_in b (becomes_at (table_of t b) n)) left_out) (le-leb b p.width l)

  at_slice : (k n : ℕ) → k < p.width → image (record { band = suc k; net = n })
      ≡ image_in (suc k) (becomes_at t.slices n)
  at_slice k n l = at_band (suc k) n (omega arith)
      ∙ ap (λ c. image_in (suc k) (becomes_at (cond c t.control t.slices) n)) (not_zero k)

  -- ---- one band

  module _ (b : ℕ) (inside : b ≤ p.width) where
    abbrev table : List Becomes
    table = table_of t b

    q_at : (n : ℕ) (part : Part) → slice_get (parts_of q b) n ≡ Some part → Fed part
        → path_nets q (record { band = b; net = n }) ≡ Some (element_in p.width b (path_source q b n) part)
    q_at n part at fed =
        element_at q b n part (subst (λ w. b ≤ w) (sym width) inside) at fed
        ∙ ap (λ w. Some (element_in w b (path_source q b n) part)) width

    becomes : (m : NetId) (x : Becomes) → becomes_at table m.0 ≡ x → image (spot b m) ≡ image_in b x
    becomes m x e = at_band b m.0 inside ∙ ap (image_in b) e

    each_becomes : (inputs others : List NetId) → BecomeNets table inputs others
        → Become image (map (spot b) inputs) (map (spot b) others)
    each_becomes inputs others h = record {
      each = All-map (λ m. (image m ≡ low) ⊎ ((k : Spot) × (image m ≡ net k) × Contains (map (spot b) others) k))
          (spot b) inputs (λ k d l. one (get_or inputs k d) (h.each k d l));
      only = All-map (λ k. (m : Spot) × Contains (map (spot b) inputs) m × (image m ≡ net k)) (spot b) others
          (λ k d l. let m = h.only k d l in
          (spot b m.0, contains_map (spot b) inputs m.0 m.1, becomes m.0 (Net (get_or others k d)) m.2));
    }
      where
        one : (m : NetId) → (becomes_at table m.0 ≡ Low)
            ⊎ ((k : NetId) × (becomes_at table m.0 ≡ Net k) × Contains others k)
            → (image (spot b m) ≡ low)
            ⊎ ((k : Spot) × (image (spot b m) ≡ net k) × Contains (map (spot b) others) k)
        one m (inl e) = inl (becomes m Low e)
        one m (inr k) = inr (spot b k.0, becomes m (Net k.0) k.1, contains_map (spot b) others k.0 k.2)

    kept_inputs : (inputs others : List NetId) → BecomeNets table inputs others
        → All (λ m. is_kept (image m) ≡ true) (map (spot b) inputs)
    kept_inputs inputs others h =
        All-map (λ m. is_kept (image m) ≡ true) (spot b) inputs (λ k d l. one (get_or inputs k d) (h.each k d l))
      where
        one : (m : NetId) → (becomes_at table m.0 ≡ Low)
            ⊎ ((k : NetId) × (becomes_at table m.0 ≡ Net k) × Contains others k) → is_kept (image (spot b m)) ≡ true
        one m (inl e) = ap is_kept (becomes m Low e)
        one m (inr k) = ap is_kept (becomes m (Net k.0) k.1)

    -- the image is right, and nothing is taken of what is left out
    abbrev IsRight : Element → Image → Type 0
    IsRight e i = IsImage (path_nets q) image e i × All (λ m. is_kept (image m) ≡ true) (sources e)

    gate_right : (inputs : List NetId) (x : Becomes) → GateBecomes table (parts_of q b) inputs x → stays x ≡ true
        → IsRight (Nor (map (spot b) inputs)) (image_in b x)
    gate_right inputs (Net k) (inl h) s = (
      by_gate (map (spot b) inputs) (map (spot b) h.0) (spot b k) (q_at k.0 (Gate h.0) h.1 tt)
          (each_becomes inputs h.0 h.2),
      kept_inputs inputs h.0 h.2,
    )
    gate_right inputs (Net k) (inr h) s = (
      by_inverter (map (spot b) inputs) (spot b k) (spot b h.0) (q_at (h.0).0 (Gate (k ∷ [])) h.1 tt)
          (each_becomes inputs (h.0 ∷ []) h.2),
      kept_inputs inputs (h.0 ∷ []) h.2,
    )
    gate_right inputs Low h s = (
      by_high (map (spot b) inputs) (spot b (h.1).0) (contains_map (spot b) inputs (h.1).0 (h.1).1)
          (becomes (h.1).0 High (h.1).2),
      All-map (λ m. is_kept (image m) ≡ true) (spot b) inputs
          (λ k d l. ap is_kept (at_band b (get_or inputs k d).0 inside)
          ∙ kept_in b (becomes_at table (get_or inputs k d).0) (h.0 k d l)),
    )
    gate_right inputs High h s = (
      by_lows (map (spot b) inputs) (All-map (λ m. image m ≡ low) (spot b) inputs
          (λ k d l. becomes (get_or inputs k d) Low (h k d l))),
      All-map (λ m. is_kept (image m) ≡ true) (spot b) inputs
          (λ k d l. ap is_kept (becomes (get_or inputs k d) Low (h k d l))),
    )
    gate_right inputs LeftOut h s = absurd (false≢true s)

    single : (m : Spot) → is_kept (image m) ≡ true → All (λ m. is_kept (image m) ≡ true) (m ∷ [])
    single m e zero d l = e
    single m e (suc k) d l = absurd (omega arith)

    latch_right : (phase : Rattle.nor_net.specs.declared.net.Phase.Phase) (m : NetId) (x : Becomes)
        → LatchBecomes table (parts_of q b) phase m x → stays x ≡ true
        → IsRight (Latched phase (spot b m)) (image_in b x)
    latch_right phase m (Net k) h s = (
      latched phase (spot b m) (spot b k) (spot b h.0) (becomes m (Net h.0) h.1)
          (q_at k.0 (Latch phase (Some h.0)) h.2 refl),
      single (spot b m) (ap is_kept (becomes m (Net h.0) h.1)),
    )
    latch_right phase m Low h s = absurd h
    latch_right phase m High h s = absurd h
    latch_right phase m LeftOut h s = absurd (false≢true s)

    -- an input that stays one, with this source
    abbrev Takes : NetId → Source → Type 0
    Takes k to = path_nets q (record { band = b; net = k.0 }) ≡ Some (source_element p.width b to)

    takes : (k : NetId) (to : Source) → slice_get (parts_of q b) k.0 ≡ Some Input → path_source q b k.0 ≡ to → Takes k to
    takes k to at is = q_at k.0 Input at tt ∙ ap (λ s. Some (source_element p.width b s)) is

    joined_right : (other j k : Spot) → image other ≡ net j → path_nets q (spot b (record { 0 = k.net })) ≡ Some (Joined j)
        → IsRight (Joined other) (net (spot b (record { 0 = k.net })))
    joined_right other j k other_is at = (
      joined other (spot b (record { 0 = k.net })) j other_is at,
      single other (ap is_kept other_is),
    )

    one_right : (other : Spot) (i : Image) → is_kept i ≡ true → image other ≡ i → IsRight (Joined other) i
    one_right other i k is = (one_net other i is, single other (ap is_kept is ∙ k))

    none_right : (e : Element) (i : Image) → sources e ≡ [] → IsImage (path_nets q) image e i → IsRight e i
    none_right e i none is =
        (is, subst (All (λ m. is_kept (image m) ≡ true)) (sym none) (All-nil (λ m. is_kept (image m) ≡ true)))

    pad_right : (k : NetId) → Takes k Pad → IsRight Given (net (spot b k))
    pad_right k at = none_right Given (net (spot b k)) refl (given (spot b k) at)

    bits_right : (bit : Bool) (k : NetId) → path_nets q (spot b k) ≡ Some (cond bit (Nor []) elements.Low)
        → IsRight (cond bit (Nor []) elements.Low) (net (spot b k))
    bits_right true k at =
        none_right (Nor []) (net (spot b k)) refl (by_gate [] [] (spot b k) at
        (record { each = All-nil _; only = All-nil _ }))
    bits_right false k at = none_right elements.Low (net (spot b k)) refl (low_net (spot b k) at)

    -- what is joined to a slice, but where a chain's end is open
    open_right : (last : Bool) (other j : Spot) (k : NetId) → (last ≡ false → image other ≡ net j)
        → path_nets q (spot b k) ≡ Some (cond last elements.Low (Joined j))
        → IsRight (cond last elements.Low (Joined other)) (net (spot b k))
    open_right true other j k is at = none_right elements.Low (net (spot b k)) refl (low_net (spot b k) at)
    open_right false other j k is at = joined_right other j (spot b k) (is refl) at

    open_low : (last : Bool) (other : Spot) → (last ≡ false → image other ≡ low)
        → IsRight (cond last elements.Low (Joined other)) low
    open_low true other is = none_right elements.Low low refl always_low
    open_low false other is = one_right other low refl (is refl)

    -- the slices next to a slice
    below_at : eqb b 0 ≡ false → eqb b 1 ≡ false → (f : NetId) (x : Becomes) → becomes_at t.slices f.0 ≡ x
        → image (spot (b - 1) f) ≡ image_in (b - 1) x
    below_at some more f x e =
        let l : b ≢ 0 = grind (arith, nat_tests) in
        let m : b ≢ 1 = grind (arith, nat_tests) in
        let s : b - 1 ≡ suc (b - 2) = omega arith in
        let r : b - 2 < p.width = omega (arith, inside) in
        subst (λ c. image (record { band = c; net = f.0 }) ≡ image_in c x) (sym s)
        (at_slice (b - 2) f.0 r ∙ ap (image_in (suc (b - 2))) e)

    above_at : eqb b p.width ≡ false → (f : NetId) (x : Becomes) → becomes_at t.slices f.0 ≡ x
        → image (spot (b + 1) f) ≡ image_in (b + 1) x
    above_at not_last f x e =
        let l : b ≢ p.width = grind (arith, nat_tests) in
        let s : b + 1 ≡ suc b = omega arith in
        let r : b < p.width = omega (arith, inside) in
        subst (λ c. image (record { band = c; net = f.0 }) ≡ image_in c x) (sym s)
        (at_slice b f.0 r ∙ ap (image_in (suc b)) e)

    control_at : (f : NetId) (x : Becomes) → becomes_at t.control f.0 ≡ x → image (spot 0 f) ≡ image_in 0 x
    control_at f x e = at_band 0 f.0 (omega arith) ∙ ap (image_in 0) e

    slice_at : (s : ℕ) → (nat_lt s p.width) ≡ true → (f : NetId) (x : Becomes) → becomes_at t.slices f.0 ≡ x
        → image (spot (s + 1) f) ≡ image_in (s + 1) x
    slice_at s l f x e =
        let n : s + 1 ≡ suc s = omega arith in
        let r : s < p.width = ltb-true s p.width l in
        subst (λ c. image (record { band = c; net = f.0 }) ≡ image_in c x) (sym n)
        (at_slice s f.0 r ∙ ap (image_in (suc s)) e)

    not_true : (c : Bool) → not c ≡ true → c ≡ false
    not_true true e = absurd (false≢true e)
    not_true false e = refl

    moved_right : (source : Source) (k : NetId) (to : Source) → is_source p.width (eqb b 0) source ≡ true
        → Moves t source to → Takes k to → IsRight (source_element p.width b source) (net (spot b k))
    moved_right Pad k to may is at = pad_right k (subst (Takes k) is at)
    moved_right (Below f) k to may is at =
        open_right (eqb b 1) (spot (b - 1) f) (spot (b - 1) is.0) k
        (λ more. below_at (not_true (eqb b 0) may) more f (Net is.0) is.1) (subst (Takes k) is.2 at)
    moved_right (Above f) k to may is at =
        open_right (eqb b p.width) (spot (b + 1) f) (spot (b + 1) is.0) k
        (λ more. above_at more f (Net is.0) is.1) (subst (Takes k) is.2 at)
    moved_right (Bits bits) k to may is at = bits_right (eqb (bit_at bits (b - 1)) 1) k (subst (Takes k) is at)
    moved_right (Control f) k to may is at =
        joined_right (spot 0 f) (spot 0 is.0) (spot b k) (control_at f (Net is.0) is.1) (subst (Takes k) is.2 at)
    moved_right (Slice s f) k to may is at =
        joined_right (spot (s + 1) f) (spot (s + 1) is.0) (spot b k) (slice_at s may f (Net is.0) is.1)
        (subst (Takes k) is.2 at)

    low_right : (source : Source) → is_source p.width (eqb b 0) source ≡ true → IsLowSource t source
        → IsRight (source_element p.width b source) low
    low_right Pad may is = absurd is
    low_right (Below f) may is =
        open_low (eqb b 1) (spot (b - 1) f) (λ more. below_at (not_true (eqb b 0) may) more f Low is)
    low_right (Above f) may is = open_low (eqb b p.width) (spot (b + 1) f) (λ more. above_at more f Low is)
    low_right (Bits bits) may is =
        subst (λ (e : Element). IsRight e low) (sym zero_bit) (none_right elements.Low low refl always_low)
      where
        zero_bit : cond (eqb (bit_at bits (b - 1)) 1) (Nor []) elements.Low ≡ elements.Low
        zero_bit = ap (λ n. cond (eqb n 1) (Nor []) elements.Low) (ap (λ n. bit_at n (b - 1)) is ∙ no_bits (b - 1))
    low_right (Control f) may is = one_right (spot 0 f) low refl (control_at f Low is)
    low_right (Slice s f) may is = one_right (spot (s + 1) f) low refl (slice_at s may f Low is)

    high_right : (source : Source) → is_source p.width (eqb b 0) source ≡ true → IsHighSource t source
        → IsRight (source_element p.width b source) high
    high_right Pad may is = absurd is
    high_right (Below f) may is = absurd is
    high_right (Above f) may is = absurd is
    high_right (Bits bits) may is = absurd is
    high_right (Control f) may is = one_right (spot 0 f) high refl (control_at f High is)
    high_right (Slice s f) may is = one_right (spot (s + 1) f) high refl (slice_at s may f High is)

    input_right : (source : Source) (x : Becomes) → is_source p.width (eqb b 0) source ≡ true
        → InputBecomes t (parts_of q b) (path_source q b) source x → stays x ≡ true
        → IsRight (source_element p.width b source) (image_in b x)
    input_right source (Net k) may h s = moved_right source k (path_source q b k.0) may h.1 (takes k _ h.0 refl)
    input_right source Low may h s = low_right source may h
    input_right source High may h s = high_right source may h
    input_right source LeftOut may h s = absurd (false≢true s)

    part_right : (source : Source) (part : Part) (x : Becomes) → is_source p.width (eqb b 0) source ≡ true → Fed part
        → PartBecomes t table (parts_of q b) (path_source q b) source part x → stays x ≡ true
        → IsRight (element_in p.width b source part) (image_in b x)
    part_right source Input x may fed h s = input_right source x may h s
    part_right source (Gate inputs) x may fed h s = gate_right inputs x h s
    part_right source (Latch phase (Some m)) x may fed h s = latch_right phase m x h s
    part_right source (Latch phase None) x may fed h s = absurd (false≢true fed)

    -- what a net of the band becomes is right
    module _ (whole : BandBecomes t b p q) where
      net_right : (n : ℕ) (e : Element) → path_nets p (record { band = b; net = n }) ≡ Some e
          → is_kept (image (record { band = b; net = n })) ≡ true
          → IsRight e (image (record { band = b; net = n }))
      net_right n e at kept =
          let h = has_part p (record { band = b; net = n }) e at in
          let x = becomes_at table n in
          let here = at_band b n inside in
          let within = slice_get_within (parts_of p b) n h.part h.at in
          let right = part_right (path_source p b n) h.part x (whole.sourced n within) h.fed (whole.each n h.part h.at)
          (stays_by x (sym (ap is_kept here) ∙ kept)) in
          subst (λ (e : Element). IsRight e (image (record { band = b; net = n }))) (sym h.element)
          (subst (IsRight (element_in p.width b (path_source p b n) h.part)) (sym here) right)
        where
          stays_by : (x : Becomes) → is_kept (image_in b x) ≡ true → stays x ≡ true
          stays_by (Net k) e = refl
          stays_by Low e = refl
          stays_by High e = refl
          stays_by LeftOut e = absurd (false≢true e)

      none_kept : (n : ℕ) → path_nets p (record { band = b; net = n }) ≡ None
          → is_kept (image (record { band = b; net = n })) ≡ false
      none_kept n none = ap is_kept (at_band b n inside ∙ ap (image_in b) (by_part (slice_get (parts_of p b) n) refl))
        where
          past : slice_get (parts_of p b) n ≡ None → length (parts_of p b) ≤ n
          past e = by_cases (cases_lt n (length (parts_of p b)))
            where
              by_cases : (n < length (parts_of p b)) ⊎ (length (parts_of p b) ≤ n) → length (parts_of p b) ≤ n
              by_cases (inl l) =
                  absurd (none-some (get_or (parts_of p b) n Input) (sym e ∙ slice_get-get_or (parts_of p b) n Input l))
              by_cases (inr g) = g

          fed_in : (b n : ℕ) (part : Part) → slice_get (parts_of p b) n ≡ Some part → Fed part
          fed_in b n part e = by_band (eqb b 0) e
            where
              by_band : (c : Bool) → slice_get (cond c p.control p.slices.net) n ≡ Some part → Fed part
              by_band true e =
                  fed_is part (All-contains (λ part. is_fed part ≡ true) p.control part p.whole.fed.0
                  (get_contains p.control n part e))
              by_band false e =
                  fed_is part (All-contains (λ part. is_fed part ≡ true) p.slices.net part p.whole.fed.1
                  (get_contains p.slices.net n part e))

          by_part : (o : Option Part) → slice_get (parts_of p b) n ≡ o → becomes_at table n ≡ LeftOut
          by_part None e = left_past table n (let a = past e in let f = whole.few in omega (arith, a, f))
          by_part (Some part) e =
              let x = net_at p b n part inside e (fed_in b n part e) in
              absurd (none-some x.0 (sym none ∙ x.1))

  -- ---- all bands

  module _ (control : BandBecomes t 0 p q) (slices : BandBecomes t 1 p q) where
    abbrev Of : Bool → Type 0
    Of c = PartsBecome p.width c t (cond c t.control t.slices) (cond c p.control p.slices.net)
        (cond c q.control q.slices.net)
        (λ n. cond c (control_source p.lifts n) (slice_source p.slices p.casts n))
        (λ n. cond c (control_source q.lifts n) (slice_source q.slices q.casts n))

    band : (b : ℕ) → BandBecomes t b p q
    band zero = control
    band (suc k) = subst Of (sym (not_zero k)) slices

    past_band : (n : Spot) → p.width < n.band → image n ≡ left_out
    past_band n l = ap (λ c. cond c (image_in n.band (becomes_at (table_of t n.band) n.net)) left_out)
        (lt-leb n.band p.width l)

    right : (n : Spot) (e : Element) → path_nets p n ≡ Some e → is_kept (image n) ≡ true
        → IsImage (path_nets q) image e (image n) × All (λ m. is_kept (image m) ≡ true) (sources e)
    right n e at kept = net_right n.band (has_part p n e at).band (band n.band) n.net e at kept

    only : (n : Spot) → path_nets p n ≡ None → is_kept (image n) ≡ false
    only n none = by_cases (cases_lt p.width n.band)
      where
        by_cases : (p.width < n.band) ⊎ (n.band ≤ p.width) → is_kept (image n) ≡ false
        by_cases (inl l) = ap is_kept (past_band n l)
        by_cases (inr l) = none_kept n.band l (band n.band) n.net none

    pads_kept : (pads : List pad_type.Pad) (ids others : List NetId)
        → All (λ (pad : pad_type.Pad). pad.width ≢ 0 → pad.width ≡ p.width) pads
        → PadsStay t pads ids others → KeepsPads image pads ids others
    pads_kept pads ids others fit stay i pad id other k pad_at id_at other_at l =
        by_kind (eqb pad.width 0) refl (stay i pad id other pad_at id_at other_at) l
      where
        wide : pad.width ≢ 0 → pad.width ≡ p.width
        wide = All-contains (λ (pad : pad_type.Pad). pad.width ≢ 0 → pad.width ≡ p.width) pads pad fit
            (get_contains pads i pad pad_at)

        by_kind : (c : Bool) → eqb pad.width 0 ≡ c → becomes_at (cond c t.control t.slices) id.0 ≡ Net other
            → k < cond c 1 pad.width
            → image (spot (cond c 0 (suc k)) id) ≡ net (spot (cond c 0 (suc k)) other)
        by_kind true c is l = at_band 0 id.0 (omega arith) ∙ ap (image_in 0) is
        by_kind false c is l =
            let some : pad.width ≢ 0 = grind (arith, nat_tests) in
            let w = wide some in
            at_slice k id.0 (omega (arith, w, l)) ∙ ap (image_in (suc k)) is

    pub is_reduction : q.pads ≡ p.pads → PadsStay t (p.pads).inputs p.inputs q.inputs
        → PadsStay t (p.pads).outputs p.outputs q.outputs → IsReduction p q image
    is_reduction pads inputs outputs = record {
      images = λ n e at kept. (right n e at kept).0;
      closed = λ n e at kept. (right n e at kept).1;
      only_nets = only;
      pads = pads;
      inputs = pads_kept (p.pads).inputs p.inputs q.inputs p.whole.pads_fit.0 inputs;
      outputs = pads_kept (p.pads).outputs p.outputs q.outputs p.whole.pads_fit.1 outputs;
    }

-- the same tables tell of the same parts and sources
pub band_from : (w : ℕ) (c : Bool) (t : Images) (table : List Becomes) (own own' parts parts' : List Part)
    (os os' ss ss' : ℕ → Source) → PartsBecome w c t table own parts os ss → own ≡ own' → parts ≡ parts'
    → ((n : ℕ) → os n ≡ os' n) → ((n : ℕ) → ss n ≡ ss' n) → PartsBecome w c t table own' parts' os' ss'
band_from w c t table own own' parts parts' os os' ss ss' h e f g k =
    let g' : os ≡ os' = λ i n. g n i in
    let k' : ss ≡ ss' = λ i n. k n i in
    subst (λ s. PartsBecome w c t table own' parts' os' s) k'
    (subst (λ s. PartsBecome w c t table own' parts' s ss) g'
    (subst (λ x. PartsBecome w c t table own' x os ss) f
    (subst (λ x. PartsBecome w c t table x parts os ss) e h)))
