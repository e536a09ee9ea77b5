-- How many nets and gate inputs the flat net of a path has: what stands for its nets, each counted once.
use Rattle.std.proofs.Common.{◌≡◌, ℕ, ◌<◌, ◌≤◌, ◌+◌, ◌*◌, zero, suc, ◌⊎◌, inl, inr, List, [], ◌∷◌, Option, Some, None}
use Rattle.std.proofs.Common.{Bool, true, false, cond, eqb, length, map, refl, sym, ◌∙◌, ap, subst, arith}
use Rattle.std.specs.Prelude.{slice_get, nat_lt, ◌-◌}
use Rattle.std.specs.Int.{bit_at}
use Rattle.std.proofs.Math.Dec.{eqb-suc-zero, eqb-zero-suc}
use Rattle.std.proofs.lemmas.Bool.{cases_lt, lt-ltb, le-ltb}
use Rattle.std.proofs.lemmas.Bool.Decides.{nat_tests}
use Rattle.std.proofs.lemmas.List.{length-append, length-map}
use Rattle.std.proofs.lemmas.List.Sums.{sum_by-append, sum_by-cons}
use Rattle.std.proofs.lemmas.Option.{slice_get_within}
use Rattle.nor_net.specs.declared.net.NetId.{NetId}
use Rattle.nor_net.specs.declared.net.Part.{Part}
use Rattle.nor_net.specs.declared.net.Part.TheVariants.{Input, Gate, Latch}
use Rattle.nor_net.specs.Elements.{Spot, Element, Given, Nor, Latched, Joined, Low, spot}
use Rattle.nor_net.specs.Shape.{fan_in, gate_inputs}
use Rattle.organelles.specs.declared.slices.Programmed.{Programmed}
use Rattle.path_form.specs.declared.path.Cast.{Cast}
use Rattle.path_form.specs.declared.path.Lift.{Lift}
use Rattle.path_form.specs.declared.path.DataPath.{DataPath}
use Rattle.path_form.specs.Shape.{chain_to, rank, times}
use Rattle.path_form.specs.Showing.{path_nets}
use Rattle.path_sources.specs.declared.sources.Source.{Source}
use Rattle.path_sources.specs.declared.sources.Source.TheVariants.{Pad, Below, Above, Bits, Control, Slice}
use Rattle.path_flat.specs.Adding.{IsElementAdded, inputs_for, nets_for, parts_for}
use Rattle.path_flat.specs.Numbered.{IsFew}
use Rattle.path_sources.specs.Sources.{parts_of}
use Rattle.path_sources.specs.Sources.{cast_source, chain_source, element_in, lift_source, or_source, path_source}
use Rattle.path_sources.specs.Sources.{program_source, source_element, told}
use Rattle.path_sources.proofs.Elements.{HasPart, has_part, slice_parts, slice_sources}

-- ---- sums over the first n numbers

pub sum_below : (ℕ → ℕ) → ℕ → ℕ
sum_below f zero = 0
sum_below f (suc n) = f 0 + sum_below (λ k. f (suc k)) n

sum_le : (f g : ℕ → ℕ) (n : ℕ) → ((k : ℕ) → k < n → f k ≤ g k) → sum_below f n ≤ sum_below g n
unfolding sum_below
sum_le f g zero h = omega arith
sum_le f g (suc n) h =
    let a = h 0 (omega arith) in
    let b = sum_le (λ k. f (suc k)) (λ k. g (suc k)) n (λ k l. h (suc k) (omega (arith, l))) in omega (arith, a, b)

sum_plus : (f g : ℕ → ℕ) (n : ℕ) → sum_below (λ k. f k + g k) n ≡ sum_below f n + sum_below g n
unfolding sum_below
sum_plus f g zero = refl
sum_plus f g (suc n) = let r = sum_plus (λ k. f (suc k)) (λ k. g (suc k)) n in omega (arith, r)

sum_same : (f g : ℕ → ℕ) (n : ℕ) → ((k : ℕ) → k < n → f k ≡ g k) → sum_below f n ≡ sum_below g n
unfolding sum_below
sum_same f g zero h = refl
sum_same f g (suc n) h =
    let a = h 0 (omega arith) in
    let b = sum_same (λ k. f (suc k)) (λ k. g (suc k)) n (λ k l. h (suc k) (omega (arith, l))) in omega (arith, a, b)

sum_constant : (c n : ℕ) → sum_below (λ k. c) n ≡ n * c
unfolding sum_below
sum_constant c zero = omega arith
sum_constant c (suc n) = let r = sum_constant c n in omega (arith, r)

-- one term falls by d, and none grows
sum_falls : (f g : ℕ → ℕ) (n i d : ℕ) → i < n → ((k : ℕ) → f k ≤ g k) → f i + d ≤ g i
    → sum_below f n + d ≤ sum_below g n
unfolding sum_below
sum_falls f g zero i d l h e = absurd (omega arith)
sum_falls f g (suc n) zero d l h e =
    let b = sum_le (λ k. f (suc k)) (λ k. g (suc k)) n (λ k m. h (suc k)) in omega (arith, b, e)
sum_falls f g (suc n) (suc i) d l h e =
    let b = sum_falls (λ k. f (suc k)) (λ k. g (suc k)) n i d (omega (arith, l)) (λ k. h (suc k)) e in
    let a = h 0 in omega (arith, a, b)

suc_suc : (i k : ℕ) → eqb (suc i) (suc k) ≡ eqb i k
suc_suc i k = grind (arith, nat_tests)

abbrev hot_at : Bool → ℕ
hot_at b = cond b 1 0

-- a number is met once
hot : (i n : ℕ) → sum_below (λ k. cond (eqb i k) 1 0) n ≤ 1
unfolding sum_below
hot i zero = omega arith
hot zero (suc n) =
    let z = sum_same (λ k. cond (eqb 0 (suc k)) 1 0) (λ k. 0) n (λ k l. ap (λ b. cond b 1 0) (eqb-zero-suc k)) in
    let c = sum_constant 0 n in
    omega (arith, z, c)
hot (suc i) (suc n) =
    let z = sum_same (λ k. cond (eqb (suc i) (suc k)) 1 0) (λ k. cond (eqb i k) 1 0) n
    (λ k l. ap (λ b. cond b 1 0) (suc_suc i k)) in
    let h = hot i n in
    let f = ap (λ b. hot_at b) (eqb-suc-zero i) in
    omega (arith, z, h, f)

-- so each of a list is met at most once
times_sum : (ids : List NetId) (n : ℕ) → sum_below (λ k. times k ids) n ≤ length ids
times_sum [] n = let c = sum_constant 0 n in omega (arith, c)
times_sum (id ∷ ids) n =
    let p = sum_plus (λ k. cond (eqb id.0 k) 1 0) (λ k. times k ids) n in
    let h = hot id.0 n in
    let r = times_sum ids n in
    omega (arith, p, h, r)

of_part : Option Part → ℕ
of_part None = 0
of_part (Some part) = fan_in part

fan_sum : (parts : List Part) → sum_below (λ n. of_part (slice_get parts n)) (length parts) ≡ gate_inputs parts
unfolding sum_below of_part
fan_sum [] = refl
fan_sum (p ∷ ps) =
    let r = fan_sum ps in
    let c = sum_by-cons fan_in p ps in
    omega (arith, r, c)

-- ---- what an element costs

-- a gate that a net set to 0, or set by a program, has beyond one for each net
extra : Source → ℕ
extra Pad = 0
extra (Below f) = 1
extra (Above f) = 1
extra (Bits b) = 1
extra (Control f) = 0
extra (Slice s f) = 0

extra_or : (x y : Source) → extra (or_source x y) ≤ extra x + extra y
unfolding extra
extra_or Pad y = omega arith
extra_or (Below f) y = omega arith
extra_or (Above f) y = omega arith
extra_or (Bits b) y = omega arith
extra_or (Control f) y = omega arith
extra_or (Slice s f) y = omega arith

extra_few : (x : Source) → extra x ≤ 1
unfolding extra
extra_few Pad = omega arith
extra_few (Below f) = omega arith
extra_few (Above f) = omega arith
extra_few (Bits b) = omega arith
extra_few (Control f) = omega arith
extra_few (Slice s f) = omega arith

module _ {A : Type 0} (end : A → NetId) (source : A → Source) (n : ℕ) where
  extra_told : (xs : List A) → extra (told end source n xs) ≤ times n (map end xs)
  unfolding extra
  extra_told [] = omega arith
  extra_told (x ∷ xs) =
      let o = extra_or (cond (eqb (end x).0 n) (source x) Pad) (told end source n xs) in
      let r = extra_told xs in
      let h = by_test (eqb (end x).0 n) in
      omega (arith, o, r, h)
    where
      by_test : (b : Bool) → extra (cond b (source x) Pad) ≤ cond b 1 0
      by_test true = extra_few (source x)
      by_test false = omega arith

  extra_none : ((x : A) → extra (source x) ≡ 0) → (xs : List A) → extra (told end source n xs) ≡ 0
  unfolding extra
  extra_none none [] = refl
  extra_none none (x ∷ xs) =
      let o = extra_or (cond (eqb (end x).0 n) (source x) Pad) (told end source n xs) in
      let r = extra_none none xs in
      let h = by_test (eqb (end x).0 n) in
      omega (arith, o, r, h)
    where
      by_test : (b : Bool) → extra (cond b (source x) Pad) ≡ 0
      by_test true = none x
      by_test false = refl

test_nets : (b : Bool) (m : Spot) → nets_for (cond b Low (Joined m)) ≤ 2
test_nets true m = omega arith
test_nets false m = omega arith

test_inputs : (b : Bool) (m : Spot) → inputs_for (cond b Low (Joined m)) ≤ 1
test_inputs true m = omega arith
test_inputs false m = omega arith

bit_nets : (b : Bool) → nets_for (cond b (Nor []) Low) ≤ 2
bit_nets true = omega arith
bit_nets false = omega arith

bit_inputs : (b : Bool) → inputs_for (cond b (Nor []) Low) ≤ 1
bit_inputs true = omega arith
bit_inputs false = omega arith

source_nets : (w band : ℕ) (x : Source) → nets_for (source_element w band x) ≤ 1 + extra x
unfolding extra
source_nets w band Pad = omega arith
source_nets w band (Below f) = let h = test_nets (eqb band 1) (spot (band - 1) f) in omega (arith, h)
source_nets w band (Above f) = let h = test_nets (eqb band w) (spot (band + 1) f) in omega (arith, h)
source_nets w band (Bits b) = let h = bit_nets (eqb (bit_at b (band - 1)) 1) in omega (arith, h)
source_nets w band (Control f) = omega arith
source_nets w band (Slice s f) = omega arith

source_inputs : (w band : ℕ) (x : Source) → inputs_for (source_element w band x) ≤ extra x
unfolding extra
source_inputs w band Pad = omega arith
source_inputs w band (Below f) = let h = test_inputs (eqb band 1) (spot (band - 1) f) in omega (arith, h)
source_inputs w band (Above f) = let h = test_inputs (eqb band w) (spot (band + 1) f) in omega (arith, h)
source_inputs w band (Bits b) = let h = bit_inputs (eqb (bit_at b (band - 1)) 1) in omega (arith, h)
source_inputs w band (Control f) = omega arith
source_inputs w band (Slice s f) = omega arith

part_nets : (w band : ℕ) (x : Source) (part : Part) → nets_for (element_in w band x part) ≤ 1 + extra x
part_nets w band x Input = source_nets w band x
part_nets w band x (Gate inputs) = omega arith
part_nets w band x (Latch phase None) = omega arith
part_nets w band x (Latch phase (Some m)) = omega arith

part_inputs : (w band : ℕ) (x : Source) (part : Part) → inputs_for (element_in w band x part) ≤ fan_in part + extra x
part_inputs w band x Input = let h = source_inputs w band x in omega (arith, h)
part_inputs w band x (Gate inputs) = let h = length-map inputs (spot band) in omega (arith, h)
part_inputs w band x (Latch phase None) = omega arith
part_inputs w band x (Latch phase (Some m)) = omega arith

-- ---- over a path

pub cost : (Element → ℕ) → Option Element → ℕ
cost f None = 0
cost f (Some e) = f e

pub sum_path : DataPath → (Spot → ℕ) → ℕ
sum_path p g =
    sum_below (λ n. g (record { band = 0; net = n })) (length p.control)
    + sum_below (λ k. sum_below (λ n. g (record { band = suc k; net = n })) (length p.slices.net)) p.width

-- what those cost that are not among the first t
pub left : DataPath → ℕ → (Element → ℕ) → Spot → ℕ
left p t f n = cond (nat_lt (rank p.order n) t) 0 (cost f (path_nets p n))

abbrev pub most_nets : DataPath → ℕ
most_nets p =
    length p.control + p.width * (length p.slices.net + length p.slices.chains + length p.slices.programs)

abbrev pub most_inputs : DataPath → ℕ
most_inputs p =
    gate_inputs p.control + p.width * (gate_inputs p.slices.net + length p.slices.chains + length p.slices.programs)

-- there is room for all that is still to come
pub record HasRoom (p : DataPath) (t : ℕ) (flat : List Part) : Type 0 where
  pub nets : length flat + sum_path p (left p t nets_for) ≤ most_nets p
  pub inputs : gate_inputs flat + sum_path p (left p t inputs_for) ≤ most_inputs p

module _ (p : DataPath) where
  path_le : (f g : Spot → ℕ) → ((n : Spot) → f n ≤ g n) → sum_path p f ≤ sum_path p g
  unfolding sum_path
  path_le f g h =
      let a = sum_le (λ n. f (record { band = 0; net = n })) (λ n. g (record { band = 0; net = n }))
      (length p.control)
      (λ n l. h (record { band = 0; net = n })) in
      let b = sum_le (λ k. sum_below (λ n. f (record { band = suc k; net = n })) (length p.slices.net))
      (λ k. sum_below (λ n. g (record { band = suc k; net = n })) (length p.slices.net)) p.width
      (λ k l. sum_le (λ n. f (record { band = suc k; net = n })) (λ n. g (record { band = suc k; net = n }))
      (length p.slices.net) (λ n m. h (record { band = suc k; net = n }))) in
      omega (arith, a, b)

  path_falls : (f g : Spot → ℕ) (s : Spot) (e : Element) (d : ℕ) → path_nets p s ≡ Some e → ((n : Spot) → f n ≤ g n)
      → f s + d ≤ g s → sum_path p f + d ≤ sum_path p g
  unfolding sum_path
  path_falls f g s e d is h at = by_band s.band s.net (has_part p s e is) at
    where
      by_band : (b n : ℕ) → HasPart p (record { band = b; net = n }) e
          → f (record { band = b; net = n }) + d ≤ g (record { band = b; net = n })
          → (sum_below (λ n. f (record { band = 0; net = n })) (length p.control)
          + sum_below (λ k. sum_below (λ n. f (record { band = suc k; net = n })) (length p.slices.net)) p.width) + d
          ≤ sum_below (λ n. g (record { band = 0; net = n })) (length p.control)
          + sum_below (λ k. sum_below (λ n. g (record { band = suc k; net = n })) (length p.slices.net)) p.width
      by_band zero n part at =
          let a = sum_falls (λ n. f (record { band = 0; net = n })) (λ n. g (record { band = 0; net = n }))
          (length p.control) n d (slice_get_within p.control n part.part part.at)
          (λ n. h (record { band = 0; net = n })) at in
          let b = sum_le (λ k. sum_below (λ n. f (record { band = suc k; net = n })) (length p.slices.net))
          (λ k. sum_below (λ n. g (record { band = suc k; net = n })) (length p.slices.net)) p.width
          (λ k l. sum_le (λ n. f (record { band = suc k; net = n })) (λ n. g (record { band = suc k; net = n }))
          (length p.slices.net) (λ n m. h (record { band = suc k; net = n }))) in
          omega (arith, a, b)
      by_band (suc k) n part at =
          let l = slice_get_within p.slices.net n part.part
          (sym (ap (λ (parts : List Part). slice_get parts n) (slice_parts p k)) ∙ part.at) in
          let a = sum_le (λ n. f (record { band = 0; net = n })) (λ n. g (record { band = 0; net = n }))
          (length p.control)
          (λ n l. h (record { band = 0; net = n })) in
          let i = sum_falls (λ n. f (record { band = suc k; net = n })) (λ n. g (record { band = suc k; net = n }))
          (length p.slices.net) n d l (λ n. h (record { band = suc k; net = n })) at in
          let b = sum_falls (λ k. sum_below (λ n. f (record { band = suc k; net = n })) (length p.slices.net))
          (λ k. sum_below (λ n. g (record { band = suc k; net = n })) (length p.slices.net)) p.width k d
          (let m = part.band in omega (arith, m))
          (λ k. sum_le (λ n. f (record { band = suc k; net = n })) (λ n. g (record { band = suc k; net = n }))
          (length p.slices.net) (λ n m. h (record { band = suc k; net = n }))) i in
          omega (arith, a, b)

  -- ---- one more net

  left_falls : (t : ℕ) (f : Element → ℕ) (n : Spot) → left p (t + 1) f n ≤ left p t f n
  unfolding left
  left_falls t f n = by_place (cases_lt (rank p.order n) t)
    where
      by_place : (rank p.order n < t) ⊎ (t ≤ rank p.order n)
          → cond (nat_lt (rank p.order n) (t + 1)) 0 (cost f (path_nets p n))
          ≤ cond (nat_lt (rank p.order n) t) 0 (cost f (path_nets p n))
      by_place (inl l) = subst (λ b. cond b 0 (cost f (path_nets p n))
          ≤ cond (nat_lt (rank p.order n) t) 0 (cost f (path_nets p n)))
          (sym (lt-ltb (rank p.order n) (t + 1) (omega (arith, l)))) (omega arith)
      by_place (inr g) = subst (λ b. cond (nat_lt (rank p.order n) (t + 1)) 0 (cost f (path_nets p n))
          ≤ cond b 0 (cost f (path_nets p n)))
          (sym (le-ltb (rank p.order n) t g)) (at_most (nat_lt (rank p.order n) (t + 1)) (cost f (path_nets p n)))
        where
          at_most : (b : Bool) (c : ℕ) → cond b 0 c ≤ c
          at_most true c = omega arith
          at_most false c = omega arith

  left_at : (t : ℕ) (f : Element → ℕ) (s : Spot) (e : Element) → path_nets p s ≡ Some e → rank p.order s ≡ t
      → left p (t + 1) f s + f e ≤ left p t f s
  unfolding left cost
  left_at t f s e is r =
      let gone : cond (nat_lt (rank p.order s) (t + 1)) 0 (cost f (path_nets p s)) ≡ 0 =
      ap (λ b. cond b 0 (cost f (path_nets p s))) (lt-ltb (rank p.order s) (t + 1) (omega (arith, r))) in
      let here : cond (nat_lt (rank p.order s) t) 0 (cost f (path_nets p s)) ≡ f e =
      ap (λ b. cond b 0 (cost f (path_nets p s))) (le-ltb (rank p.order s) t (omega (arith, r))) ∙ ap (cost f) is in
      omega (arith, gone, here)

  falls : (t : ℕ) (f : Element → ℕ) (s : Spot) (e : Element) → path_nets p s ≡ Some e → rank p.order s ≡ t
      → sum_path p (left p (t + 1) f) + f e ≤ sum_path p (left p t f)
  falls t f s e is r =
      path_falls (left p (t + 1) f) (left p t f) s e (f e) is (left_falls t f) (left_at t f s e is r)

  nets_added : (count : ℕ) (of : Spot → NetId) (e : Element) → length (parts_for count of e) ≡ nets_for e
  nets_added count of Given = refl
  nets_added count of (Nor inputs) = refl
  nets_added count of (Latched phase m) = refl
  nets_added count of (Joined m) = refl
  nets_added count of Low = refl

  inputs_added : (count : ℕ) (of : Spot → NetId) (e : Element) → gate_inputs (parts_for count of e) ≡ inputs_for e
  inputs_added count of Given = refl
  inputs_added count of (Nor inputs) = let h = length-map inputs of in omega (arith, h)
  inputs_added count of (Latched phase m) = refl
  inputs_added count of (Joined m) = refl
  inputs_added count of Low = refl

  module _ (t : ℕ) (flat : List Part) (s : Spot) (e : Element) (room : HasRoom p t flat) (is : path_nets p s ≡ Some e)
      (here : rank p.order s ≡ t) where
    -- there is room for the next one
    pub nets_enough : length flat + nets_for e ≤ most_nets p
    nets_enough = let f = falls t nets_for s e is here in let r = room.nets in omega (arith, f, r)

    pub inputs_enough : gate_inputs flat + inputs_for e ≤ most_inputs p
    inputs_enough = let f = falls t inputs_for s e is here in let r = room.inputs in omega (arith, f, r)

    pub room_more : (of : Spot → NetId) (new : List Part) (id : NetId) → IsElementAdded e of flat new id
        → HasRoom p (t + 1) new
    room_more of new id added = record {
      nets =
          let f = falls t nets_for s e is here in
          let r = room.nets in
          let l = ap length added.parts ∙ length-append flat (parts_for (length flat) of e) in
          let a = nets_added (length flat) of e in
          omega (arith, f, r, l, a);
      inputs =
          let f = falls t inputs_for s e is here in
          let r = room.inputs in
          let l = ap gate_inputs added.parts ∙ sum_by-append fan_in flat (parts_for (length flat) of e) in
          let a = inputs_added (length flat) of e in
          omega (arith, f, r, l, a);
    }

  pub room_end : (t : ℕ) (flat : List Part) → HasRoom p t flat → IsFew p flat
  room_end t flat room =
      record { nets = (let r = room.nets in omega (arith, r)); inputs = (let r = room.inputs in omega (arith, r)) }

  -- ---- all nets

  control_few : (n : ℕ) → extra (path_source p 0 n) ≡ 0
  unfolding extra
  control_few n = extra_none (λ (l : Lift). l.control) lift_source n (λ l. refl) p.lifts

  abbrev ends : ℕ → ℕ
  ends n = times n (map chain_to p.slices.chains) + times n (map (λ (g : Programmed). g.net) p.slices.programs)

  slice_few : (k n : ℕ) → extra (path_source p (suc k) n) ≤ ends n
  unfolding extra
  slice_few k n =
      let chains = told chain_to chain_source n p.slices.chains in
      let programs = told (λ (g : Programmed). g.net) program_source n p.slices.programs in
      let others = told (λ (c : Cast). c.slice) cast_source n p.casts in
      let a = extra_told chain_to chain_source n p.slices.chains in
      let b = extra_told (λ (g : Programmed). g.net) program_source n p.slices.programs in
      let c = extra_none (λ (c : Cast). c.slice) cast_source n (λ c. refl) p.casts in
      let x = extra_or chains programs in
      let y = extra_or (or_source chains programs) others in
      let z = ap extra (slice_sources p k n) in
      omega (arith, a, b, c, x, y, z)

  costs : (n : Spot) (x : ℕ) → extra (path_source p n.band n.net) ≤ x → cost nets_for (path_nets p n) ≤ 1 + x
  unfolding cost
  costs n x few = by_element (path_nets p n) refl
    where
      by_element : (o : Option Element) → path_nets p n ≡ o → cost nets_for o ≤ 1 + x
      by_element None is = omega arith
      by_element (Some e) is =
          let h = has_part p n e is in
          let q = part_nets p.width n.band (path_source p n.band n.net) h.part in
          let r = ap nets_for h.element in omega (arith, q, r, few)

  costs_inputs : (n : Spot) (x : ℕ) → extra (path_source p n.band n.net) ≤ x
      → cost inputs_for (path_nets p n) ≤ of_part (slice_get (parts_of p n.band) n.net) + x
  unfolding cost of_part
  costs_inputs n x few = by_element (path_nets p n) refl
    where
      by_element : (o : Option Element) → path_nets p n ≡ o
          → cost inputs_for o ≤ of_part (slice_get (parts_of p n.band) n.net) + x
      by_element None is = omega arith
      by_element (Some e) is =
          let h = has_part p n e is in
          let q = part_inputs p.width n.band (path_source p n.band n.net) h.part in
          let r = ap inputs_for h.element in
          let s = ap of_part h.at in omega (arith, q, r, s, few)

  ends_few : (m : ℕ) → sum_below ends m ≤ length p.slices.chains + length p.slices.programs
  ends_few m =
      let tos = map chain_to p.slices.chains in
      let nets = map (λ (g : Programmed). g.net) p.slices.programs in
      let s = sum_plus (λ n. times n tos) (λ n. times n nets) m in
      let a = times_sum tos m in
      let b = times_sum nets m in
      let c = length-map p.slices.chains chain_to in
      let d = length-map p.slices.programs (λ (g : Programmed). g.net) in
      omega (arith, s, a, b, c, d)

  slice_nets : (k : ℕ) → sum_below (λ n. cost nets_for (path_nets p (record { band = suc k; net = n })))
      (length p.slices.net)
      ≤ length p.slices.net + length p.slices.chains + length p.slices.programs
  slice_nets k =
      let m = length p.slices.net in
      let a = sum_le (λ n. cost nets_for (path_nets p (record { band = suc k; net = n }))) (λ n. 1 + ends n) m
      (λ n l. costs (record { band = suc k; net = n }) (ends n) (slice_few k n)) in
      let b = sum_plus (λ n. 1) ends m in
      let c = sum_constant 1 m in
      let d = ends_few m in
      omega (arith, a, b, c, d)

  slice_inputs : (k : ℕ)
      → sum_below (λ n. cost inputs_for (path_nets p (record { band = suc k; net = n }))) (length p.slices.net)
      ≤ gate_inputs p.slices.net + length p.slices.chains + length p.slices.programs
  slice_inputs k =
      let m = length p.slices.net in
      let a = sum_le (λ n. cost inputs_for (path_nets p (record { band = suc k; net = n })))
      (λ n. of_part (slice_get p.slices.net n) + ends n) m
      (λ n l. subst (λ (parts : List Part). cost inputs_for (path_nets p (record { band = suc k; net = n }))
      ≤ of_part (slice_get parts n) + ends n) (slice_parts p k)
      (costs_inputs (record { band = suc k; net = n }) (ends n) (slice_few k n))) in
      let b = sum_plus (λ n. of_part (slice_get p.slices.net n)) ends m in
      let c = fan_sum p.slices.net in
      let d = ends_few m in
      omega (arith, a, b, c, d)

  all_nets : sum_path p (λ n. cost nets_for (path_nets p n)) ≤ most_nets p
  unfolding sum_path
  all_nets =
      let a = sum_le (λ n. cost nets_for (path_nets p (record { band = 0; net = n }))) (λ n. 1) (length p.control)
      (λ n l. (let c = costs (record { band = 0; net = n }) 0 (let z = control_few n in omega (arith, z)) in
      omega (arith, c))) in
      let b = sum_constant 1 (length p.control) in
      let most = length p.slices.net + length p.slices.chains + length p.slices.programs in
      let c = sum_le (λ k. sum_below (λ n. cost nets_for (path_nets p (record { band = suc k; net = n })))
      (length p.slices.net))
      (λ k. length p.slices.net + length p.slices.chains + length p.slices.programs) p.width (λ k l. slice_nets k) in
      let d = sum_constant (length p.slices.net + length p.slices.chains + length p.slices.programs) p.width in
      omega (arith, a, b, c, d)

  all_inputs : sum_path p (λ n. cost inputs_for (path_nets p n)) ≤ most_inputs p
  unfolding sum_path
  all_inputs =
      let a = sum_le (λ n. cost inputs_for (path_nets p (record { band = 0; net = n })))
      (λ n. of_part (slice_get p.control n)) (length p.control)
      (λ n l. (let c = costs_inputs (record { band = 0; net = n }) 0 (let z = control_few n in omega (arith, z)) in
      omega (arith, c))) in
      let b = fan_sum p.control in
      let c = sum_le (λ k. sum_below (λ n. cost inputs_for (path_nets p (record { band = suc k; net = n })))
      (length p.slices.net))
      (λ k. gate_inputs p.slices.net + length p.slices.chains + length p.slices.programs) p.width
      (λ k l. slice_inputs k) in
      let d = sum_constant (gate_inputs p.slices.net + length p.slices.chains + length p.slices.programs) p.width in
      omega (arith, a, b, c, d)

  left_all : (f : Element → ℕ) (n : Spot) → left p 0 f n ≤ cost f (path_nets p n)
  unfolding left
  left_all f n = at_most (nat_lt (rank p.order n) 0) (cost f (path_nets p n))
    where
      at_most : (b : Bool) (c : ℕ) → cond b 0 c ≤ c
      at_most true c = omega arith
      at_most false c = omega arith

  pub room_start : (flat : List Part) → flat ≡ [] → HasRoom p 0 flat
  room_start flat e = record {
    nets =
        let l = ap length e in
        let a = path_le (left p 0 nets_for) (λ n. cost nets_for (path_nets p n)) (left_all nets_for) in
        let b = all_nets in omega (arith, l, a, b);
    inputs =
        let l = ap gate_inputs e in
        let a = path_le (left p 0 inputs_for) (λ n. cost inputs_for (path_nets p n)) (left_all inputs_for) in
        let b = all_inputs in omega (arith, l, a, b);
  }
