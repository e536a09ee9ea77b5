-- How a net of a path gets its value, by its source.
use Rattle.std.proofs.Common.{◌≡◌, ℕ, ◌<◌, ◌≤◌, ◌+◌, ◌-◌, zero, suc, ◌⊎◌, inl, inr, List, [], ◌∷◌, Option, Some, None}
use Rattle.std.proofs.Common.{Bool, true, false, cond, eqb, map, refl, sym, ◌∙◌, ap, arith, rules}
use Rattle.std.specs.Prelude.{IsSome, slice_get}
use Rattle.std.specs.Int.{bit_at}
use Rattle.std.specs.Option.{option_or}
use Rattle.std.proofs.lemmas.Bool.{cases_lt, false≢true, lt-ltb, le-ltb}
use Rattle.std.proofs.lemmas.Bool.Decides.{nat_tests}
use Rattle.std.proofs.lemmas.Option.{none-some, same_Some}
use Rattle.nor_net.specs.declared.net.NetId.{NetId}
use Rattle.nor_net.specs.declared.net.Part.{Part}
use Rattle.nor_net.specs.declared.net.Part.TheVariants.{Input, Gate, Latch}
use Rattle.nor_net.specs.Elements.{Spot, Element, Given, Nor, Latched, Joined, Low, spot}
use Rattle.nor_net.specs.Shape.{Fed}
use Rattle.organelles.specs.declared.slices.Chain.{Chain}
use Rattle.organelles.specs.declared.slices.Chain.TheVariants.{Up, Down}
use Rattle.organelles.specs.declared.slices.Programmed.{Programmed}
use Rattle.organelles.specs.declared.slices.SliceNet.{SliceNet}
use Rattle.organelles.specs.Slices.{first_some, chain_element, program_element}
use Rattle.path_form.specs.declared.path.Cast.{Cast}
use Rattle.path_form.specs.declared.path.Lift.{Lift}
use Rattle.path_form.specs.declared.path.DataPath.{DataPath}
use Rattle.path_form.specs.Nets.{band_nets, cast_element, control_part, lift_element, slice_part}
use Rattle.path_form.specs.Shape.{chain_to}
use Rattle.path_form.specs.Showing.{path_nets}
use Rattle.path_sources.specs.declared.sources.Source.{Source}
use Rattle.path_sources.specs.declared.sources.Source.TheVariants.{Pad, Below, Above, Bits, Control, Slice}
use Rattle.path_sources.specs.Sources.{parts_of}
use Rattle.path_sources.specs.Sources.{cast_source, chain_source, control_source, element_in, lift_source, or_source}
use Rattle.path_sources.specs.Sources.{path_source, program_source, slice_source, source_element, told}

-- what a source gives, where it is no pad
abbrev given_by : ℕ → ℕ → Source → Option Element
given_by w band Pad = None
given_by w band (Below f) = Some (source_element w band (Below f))
given_by w band (Above f) = Some (source_element w band (Above f))
given_by w band (Bits b) = Some (source_element w band (Bits b))
given_by w band (Control f) = Some (source_element w band (Control f))
given_by w band (Slice s f) = Some (source_element w band (Slice s f))

by_or : (w band : ℕ) (x y : Source)
    → given_by w band (or_source x y) ≡ option_or (given_by w band x) (given_by w band y)
by_or w band Pad y = refl
by_or w band (Below f) y = refl
by_or w band (Above f) y = refl
by_or w band (Bits b) y = refl
by_or w band (Control f) y = refl
by_or w band (Slice s f) y = refl

or_given : (w band : ℕ) (x : Source) → option_or (given_by w band x) (Some Given) ≡ Some (source_element w band x)
or_given w band Pad = refl
or_given w band (Below f) = refl
or_given w band (Above f) = refl
or_given w band (Bits b) = refl
or_given w band (Control f) = refl
or_given w band (Slice s f) = refl

module _ {A : Type 0} (w band n : ℕ) (end : A → NetId) (source : A → Source) (f : A → Option Element)
    (same : (x : A) → f x ≡ given_by w band (cond (eqb (end x).0 n) (source x) Pad)) where
  first_told : (xs : List A) → first_some f xs ≡ given_by w band (told end source n xs)
  first_told [] = refl
  first_told (x ∷ xs) =
      ap (λ o. option_or o (first_some f xs)) (same x)
      ∙ ap (option_or (given_by w band (cond (eqb (end x).0 n) (source x) Pad))) (first_told xs)
      ∙ sym (by_or w band (cond (eqb (end x).0 n) (source x) Pad) (told end source n xs))

not_zero : (k : ℕ) → eqb (suc k) 0 ≡ false
not_zero k = grind (arith, nat_tests)

not_one : (k : ℕ) → eqb (suc (suc k)) 1 ≡ false
not_one k = grind (arith, nat_tests)

-- a band behind the control is a slice
pub slice_parts : (p : DataPath) (k : ℕ) → parts_of p (suc k) ≡ p.slices.net
slice_parts p k = ap (λ b. cond b p.control p.slices.net) (not_zero k)

pub slice_sources : (p : DataPath) (k n : ℕ) → path_source p (suc k) n ≡ slice_source p.slices p.casts n
slice_sources p k n = ap (λ b. cond b (control_source p.lifts n) (slice_source p.slices p.casts n)) (not_zero k)

module _ (w k n : ℕ) where
  up_is : (from : NetId) → cond (eqb k 0) Low (Joined (spot k from)) ≡ source_element w (suc k) (Below from)
  up_is from = by_slice k
    where
      by_slice : (k : ℕ) → cond (eqb k 0) Low (Joined (spot k from)) ≡ source_element w (suc k) (Below from)
      by_slice zero = refl
      by_slice (suc k) =
          let e : suc k ≡ suc (suc k) - 1 = omega arith in
          ap (λ b. cond b Low (Joined (spot (suc k) from))) (not_zero k)
          ∙ ap (λ b. Joined (spot b from)) e
          ∙ ap (λ b. cond b Low (Joined (spot (suc (suc k) - 1) from))) (sym (not_one k))

  chain_is : (c : Chain) → chain_element w k n c ≡ given_by w (suc k)
      (cond (eqb (chain_to c).0 n) (chain_source c) Pad)
  chain_is (Up from to) = by_test (eqb to.0 n)
    where
      by_test : (b : Bool) → cond b (Some (cond (eqb k 0) Low (Joined (spot k from)))) None
          ≡ given_by w (suc k) (cond b (Below from) Pad)
      by_test true = ap (λ (e : Element). Some e) (up_is from)
      by_test false = refl
  chain_is (Down from to) = by_test (eqb to.0 n)
    where
      next : suc (suc k) ≡ suc k + 1
      next = omega arith

      by_test : (b : Bool) → cond b (Some (cond (eqb (suc k) w) Low (Joined (spot (suc (suc k)) from)))) None
          ≡ given_by w (suc k) (cond b (Above from) Pad)
      by_test true = ap (λ b. Some (cond (eqb (suc k) w) Low (Joined (spot b from)))) next
      by_test false = refl

  program_is : (p : Programmed)
      → program_element k n p ≡ given_by w (suc k) (cond (eqb p.net.0 n) (program_source p) Pad)
  program_is p = by_test (eqb p.net.0 n)
    where
      before : k ≡ suc k - 1
      before = omega arith

      by_test : (b : Bool) → cond b (Some (cond (eqb (bit_at p.bits k) 1) (Nor []) Low)) None
          ≡ given_by w (suc k) (cond b (Bits p.bits) Pad)
      by_test true = ap (λ i. Some (cond (eqb (bit_at p.bits i) 1) (Nor []) Low)) before
      by_test false = refl

  cast_is : (c : Cast) → cast_element n c ≡ given_by w (suc k) (cond (eqb c.slice.0 n) (cast_source c) Pad)
  cast_is c = by_test (eqb c.slice.0 n)
    where
      by_test : (b : Bool) → cond b (Some (Joined (spot zero c.control))) None
          ≡ given_by w (suc k) (cond b (Control c.control) Pad)
      by_test true = refl
      by_test false = refl

  pub slice_input_is : (s : SliceNet) (casts : List Cast)
      → slice_part w s casts k n (Some Input) ≡ Some (source_element w (suc k) (slice_source s casts n))
  slice_input_is s casts =
      let chains = told chain_to chain_source n s.chains in
      let programs = told (λ (p : Programmed). p.net) program_source n s.programs in
      let others = told (λ (c : Cast). c.slice) cast_source n casts in
      ap (λ o. option_or (option_or o (first_some (program_element k n) s.programs))
      (option_or (first_some (cast_element n) casts) (Some Given)))
      (first_told w (suc k) n chain_to chain_source (chain_element w k n) chain_is s.chains)
      ∙ ap (λ o. option_or (option_or (given_by w (suc k) chains) o)
      (option_or (first_some (cast_element n) casts) (Some Given)))
      (first_told w (suc k) n (λ (p : Programmed). p.net) program_source (program_element k n) program_is s.programs)
      ∙ ap (λ o. option_or (option_or (given_by w (suc k) chains) (given_by w (suc k) programs))
      (option_or o (Some Given)))
      (first_told w (suc k) n (λ (c : Cast). c.slice) cast_source (cast_element n) cast_is casts)
      ∙ ap (λ o. option_or o (option_or (given_by w (suc k) others) (Some Given)))
      (sym (by_or w (suc k) chains programs))
      ∙ regroup (given_by w (suc k) (or_source chains programs)) (given_by w (suc k) others) (Some Given)
      ∙ ap (λ o. option_or o (Some Given)) (sym (by_or w (suc k) (or_source chains programs) others))
      ∙ or_given w (suc k) (or_source (or_source chains programs) others)
    where
      regroup : (a b c : Option Element) → option_or a (option_or b c) ≡ option_or (option_or a b) c
      regroup None b c = refl
      regroup (Some a) b c = refl

lift_is : (w n : ℕ) (l : Lift) → lift_element n l ≡ given_by w 0 (cond (eqb l.control.0 n) (lift_source l) Pad)
lift_is w n l = by_test (eqb l.control.0 n)
  where
    next : suc l.slice ≡ l.slice + 1
    next = omega arith

    by_test : (b : Bool) → cond b (Some (Joined (spot (suc l.slice) l.from))) None
        ≡ given_by w 0 (cond b (Slice l.slice l.from) Pad)
    by_test true = ap (λ b. Some (Joined (spot b l.from))) next
    by_test false = refl

pub control_input_is : (w n : ℕ) (lifts : List Lift)
    → control_part lifts n (Some Input) ≡ Some (source_element w 0 (control_source lifts n))
control_input_is w n lifts =
    ap (λ o. option_or o (Some Given)) (first_told w 0 n (λ (l : Lift). l.control) lift_source (lift_element n)
    (lift_is w n) lifts)
    ∙ or_given w 0 (control_source lifts n)

-- the part of a net, with what it gives
pub record HasPart (p : DataPath) (n : Spot) (e : Element) : Type 0 where
  pub part : Part
  pub at : slice_get (parts_of p n.band) n.net ≡ Some part
  pub element : e ≡ element_in p.width n.band (path_source p n.band n.net) part
  pub band : n.band ≤ p.width
  pub fed : Fed part

is_some : (m : NetId) → IsSome (Some m)
is_some m = search rules

module _ (p : DataPath) where
  in_control : (n : ℕ) (e : Element) → control_part p.lifts n (slice_get p.control n) ≡ Some e
      → HasPart p (record { band = 0; net = n }) e
  in_control n e is = by_part (slice_get p.control n) refl is
    where
      by_part : (o : Option Part) → slice_get p.control n ≡ o → control_part p.lifts n o ≡ Some e
          → HasPart p (record { band = 0; net = n }) e
      by_part None at is = absurd (none-some e is)
      by_part (Some Input) at is = record {
        part = Input;
        at = at;
        element = sym (same_Some _ _ (sym (control_input_is p.width n p.lifts) ∙ is));
        band = omega arith;
        fed = tt;
      }
      by_part (Some (Gate inputs)) at is =
          record { part = Gate inputs; at = at; element = sym (same_Some _ _ is); band = omega arith; fed = tt }
      by_part (Some (Latch phase None)) at is = absurd (none-some e is)
      by_part (Some (Latch phase (Some m))) at is =
          record {
            part = Latch phase (Some m);
            at = at;
            element = sym (same_Some _ _ is);
            band = omega arith;
            fed = is_some m;
          }

  in_slice : (k n : ℕ) (e : Element) → k < p.width
      → slice_part p.width p.slices p.casts k n (slice_get p.slices.net n) ≡ Some e
      → HasPart p (record { band = suc k; net = n }) e
  in_slice k n e l is = by_part (slice_get p.slices.net n) refl is
    where
      here : (part : Part) → slice_get p.slices.net n ≡ Some part
          → element_in p.width (suc k) (slice_source p.slices p.casts n) part ≡ e → Fed part
          → HasPart p (record { band = suc k; net = n }) e
      here part at is fed = record {
        part = part;
        at = ap (λ (parts : List Part). slice_get parts n) (slice_parts p k) ∙ at;
        element = sym is ∙ ap (λ s. element_in p.width (suc k) s part) (sym (slice_sources p k n));
        band = omega (arith, l);
        fed = fed;
      }

      by_part : (o : Option Part) → slice_get p.slices.net n ≡ o
          → slice_part p.width p.slices p.casts k n o ≡ Some e → HasPart p (record { band = suc k; net = n }) e
      by_part None at is = absurd (none-some e is)
      by_part (Some Input) at is =
          here Input at (same_Some _ _ (sym (slice_input_is p.width k n p.slices p.casts) ∙ is)) tt
      by_part (Some (Gate inputs)) at is = here (Gate inputs) at (same_Some _ _ is) tt
      by_part (Some (Latch phase None)) at is = absurd (none-some e is)
      by_part (Some (Latch phase (Some m))) at is = here (Latch phase (Some m)) at (same_Some _ _ is) (is_some m)

  pub has_part : (n : Spot) (e : Element) → path_nets p n ≡ Some e → HasPart p n e
  has_part n e is = by_band n.band is
    where
      by_band : (b : ℕ) → band_nets p.width p.control p.slices p.casts p.lifts b n.net ≡ Some e
          → HasPart p (record { band = b; net = n.net }) e
      by_band zero is = in_control n.net e is
      by_band (suc k) is = by_slice (cases_lt k p.width)
        where
          by_slice : (k < p.width) ⊎ (p.width ≤ k) → HasPart p (record { band = suc k; net = n.net }) e
          by_slice (inl l) =
              in_slice k n.net e l (sym (ap (λ b. cond b (slice_part p.width p.slices p.casts k n.net
              (slice_get p.slices.net n.net)) None)
              (lt-ltb k p.width l)) ∙ is)
          by_slice (inr g) = absurd (none-some e (sym (ap (λ b. cond b (slice_part p.width p.slices p.casts k n.net
              (slice_get p.slices.net n.net)) None) (le-ltb k p.width g)) ∙ is))

  -- a gate of a band is one of the path
  pub gate_is : (band n : ℕ) (inputs : List NetId) → band ≤ p.width
      → slice_get (parts_of p band) n ≡ Some (Gate inputs)
      → path_nets p (record { band = band; net = n }) ≡ Some (Nor (map (spot band) inputs))
  gate_is zero n inputs l at = ap (control_part p.lifts n) at
  gate_is (suc k) n inputs l at =
      ap (λ b. cond b (slice_part p.width p.slices p.casts k n (slice_get p.slices.net n)) None)
      (lt-ltb k p.width (omega (arith, l)))
      ∙ ap (slice_part p.width p.slices p.casts k n)
      (sym (ap (λ (parts : List Part). slice_get parts n) (slice_parts p k)) ∙ at)

  -- each part of a band stands for a net of the path
  pub net_at : (band n : ℕ) (part : Part) → band ≤ p.width → slice_get (parts_of p band) n ≡ Some part → Fed part
      → (e : Element) × (path_nets p (record { band = band; net = n }) ≡ Some e)
  net_at zero n Input l at fed = (
    source_element p.width 0 (control_source p.lifts n),
    ap (control_part p.lifts n) at
        ∙ control_input_is p.width n p.lifts,
  )
  net_at zero n (Gate inputs) l at fed = (Nor (map (spot 0) inputs), ap (control_part p.lifts n) at)
  net_at zero n (Latch phase None) l at fed = absurd (false≢true fed)
  net_at zero n (Latch phase (Some m)) l at fed = (Latched phase (spot 0 m), ap (control_part p.lifts n) at)
  net_at (suc k) n part l at fed = by_part part here fed
    where
      here : slice_get p.slices.net n ≡ Some part
      here = sym (ap (λ (parts : List Part). slice_get parts n) (slice_parts p k)) ∙ at

      within : path_nets p (record { band = suc k; net = n })
          ≡ slice_part p.width p.slices p.casts k n (slice_get p.slices.net n)
      within = ap (λ b. cond b (slice_part p.width p.slices p.casts k n (slice_get p.slices.net n)) None)
          (lt-ltb k p.width (omega (arith, l)))

      by_part : (part : Part) → slice_get p.slices.net n ≡ Some part → Fed part
          → (e : Element) × (path_nets p (record { band = suc k; net = n }) ≡ Some e)
      by_part Input at fed = (
        source_element p.width (suc k) (slice_source p.slices p.casts n),
        within ∙ ap (slice_part p.width p.slices p.casts k n) at ∙ slice_input_is p.width k n p.slices p.casts,
      )
      by_part (Gate inputs) at fed =
          (Nor (map (spot (suc k)) inputs), within ∙ ap (slice_part p.width p.slices p.casts k n) at)
      by_part (Latch phase None) at fed = absurd (false≢true fed)
      by_part (Latch phase (Some m)) at fed =
          (Latched phase (spot (suc k) m), within ∙ ap (slice_part p.width p.slices p.casts k n) at)

  -- each part of a band gives its net its value by its source
  pub element_at : (band n : ℕ) (part : Part) → band ≤ p.width → slice_get (parts_of p band) n ≡ Some part → Fed part
      → path_nets p (record { band = band; net = n })
      ≡ Some (element_in p.width band (path_source p band n) part)
  element_at band n part l at fed =
      let e = net_at band n part l at fed in
      let h = has_part (record { band = band; net = n }) e.0 e.1 in
      let same = same_Some h.part part (sym h.at ∙ at) in
      e.1 ∙ ap (λ (e : Element). Some e) (h.element ∙ ap (element_in p.width band (path_source p band n)) same)
