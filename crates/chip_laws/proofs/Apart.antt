-- The bits of the input pads of a path are different nets.
use Rattle.std.proofs.Common.{◌≡◌, ◌∙◌, ℕ, zero, suc, ◌<◌, ◌≤◌, List, [], ◌∷◌, ◌++◌, map, refl, sym, ap, arith, Some}
use Rattle.std.proofs.Common.{Bool, true, false, cond, not, true≢false}
use Rattle.std.specs.Prelude.{◌==◌, ◌≢◌, slice_get}
use Rattle.std.proofs.lemmas.Bool.{eq-eqb}
use Rattle.std.proofs.lemmas.List.Elements.{All-contains, Contains-append_left}
use Rattle.std.proofs.lemmas.Option.{same_Some, slice_get_within}
use Rattle.mp_base.specs.declared.pad.Pad.{Pad}
use Rattle.mp_base.proofs.Entries.{contains_from_get}
use Rattle.nor_net.specs.declared.net.NetId.{NetId}
use Rattle.nor_net.specs.Elements.{Spot, Given, spot}
use Rattle.organelles.specs.declared.slices.Programmed.{Programmed}
use Rattle.path_form.specs.declared.path.DataPath.{DataPath}
use Rattle.path_form.specs.declared.path.Cast.{Cast}
use Rattle.path_form.specs.declared.path.Lift.{Lift}
use Rattle.path_form.specs.Shape.{entries_of, is_input, times, chain_to}
use Rattle.path_form.specs.Showing.{path_nets, pad_bits, pad_spot}
use Rattle.path_form.proofs.Joining.{times_append, there, is_one_input}
use Rattle.path_values.proofs.Realized.{in_entries, control_pad, slice_pad}

module _ (p : DataPath) where
  -- a bit of an input pad is given
  pub given : (i k : ℕ) (pad : Pad) (id : NetId) → slice_get (p.pads).inputs i ≡ Some pad
      → slice_get p.inputs i ≡ Some id → k < pad_bits pad
      → path_nets p (pad_spot pad id k) ≡ Some Given
  given i k pad id e f lt = by_width (pad.width == 0) refl lt
    where
      scalars : List NetId
      scalars = entries_of false (p.pads).inputs p.inputs

      by_width : (b : Bool) → (pad.width == 0) ≡ b → k < cond b 1 pad.width
          → path_nets p (spot (cond b 0 (suc k)) id) ≡ Some Given
      by_width true w l =
          let c = in_entries false (p.pads).inputs p.inputs i pad id e f (ap not w) in
          let more = Contains-append_left (entries_of false (p.pads).inputs p.inputs)
          (map (λ (l : Lift). l.control) p.lifts) id c in
          let is = All-contains (λ (x : NetId). is_input (slice_get p.control x.0) ≡ true)
          (entries_of false (p.pads).inputs p.inputs
          ++ map (λ (l : Lift). l.control) p.lifts) id p.whole.control_inputs.0 more in
          control_pad p id (is_one_input (slice_get p.control id.0) is) c
      by_width false w l =
          let rest = map chain_to p.slices.chains ++ (map (λ (c : Cast). c.slice) p.casts
          ++ map (λ (g : Programmed). g.net) p.slices.programs) in
          let c = in_entries true (p.pads).inputs p.inputs i pad id e f (ap not w) in
          let more = Contains-append_left (entries_of true (p.pads).inputs p.inputs) rest id c in
          let is = All-contains (λ (x : NetId). is_input (slice_get p.slices.net x.0) ≡ true)
          (entries_of true (p.pads).inputs p.inputs ++ rest) id
          p.whole.slice_inputs.0 more in
          let wide : pad.width ≡ p.width = All-contains (λ (x : Pad). x.width ≢ 0 → x.width ≡ p.width)
          (p.pads).inputs pad p.whole.pads_fit.0
          (contains_from_get (p.pads).inputs i pad e) (λ z. true≢false (ap (λ n. n == 0) (sym z) ∙ w)) in
          slice_pad p k id (omega (arith, l, wide)) (is_one_input (slice_get p.slices.net id.0) is) c

-- a net has one place among the entries of a sort
tail_fewer : (word : Bool) (pad : Pad) (pads : List Pad) (id : NetId) (ids : List NetId) (n : ℕ)
    → times n (entries_of word pads ids) ≤ times n (entries_of word (pad ∷ pads) (id ∷ ids))
tail_fewer word pad pads id ids n = by_tests (not (pad.width == 0)) word
  where
    by_tests : (b c : Bool) → times n (entries_of word pads ids)
        ≤ times n (cond b (cond c (id ∷ entries_of word pads ids) (entries_of word pads ids))
        (cond c (entries_of word pads ids) (id ∷ entries_of word pads ids)))
    by_tests true true = omega arith
    by_tests true false = omega arith
    by_tests false true = omega arith
    by_tests false false = omega arith

abbrev tally : Bool → ℕ
tally b = cond b 1 0

head_counts : (word : Bool) (pad : Pad) (pads : List Pad) (id : NetId) (ids : List NetId) (n : ℕ)
    → not (pad.width == 0) ≡ word → id.0 ≡ n
    → 0 < times n (entries_of word pads ids) → times n (entries_of word (pad ∷ pads) (id ∷ ids)) ≤ 1 → ⊥
head_counts word pad pads id ids n w e some few = by_tests (not (pad.width == 0)) word w few
  where
    one : tally (id.0 == n) ≡ 1
    one = ap tally (eq-eqb id.0 n e)

    by_tests : (b c : Bool) → b ≡ c
        → times n (cond b (cond c (id ∷ entries_of word pads ids) (entries_of word pads ids))
        (cond c (entries_of word pads ids) (id ∷ entries_of word pads ids))) ≤ 1 → ⊥
    by_tests true true s l = let o = one in omega (arith, o, some, l)
    by_tests false false s l = let o = one in omega (arith, o, some, l)
    by_tests true false s l = true≢false s
    by_tests false true s l = true≢false (sym s)

one_place : (word : Bool) (pads : List Pad) (ids : List NetId) (n : ℕ) → times n (entries_of word pads ids) ≤ 1
    → (a b : ℕ) (pa pb : Pad) (ia ib : NetId) → slice_get pads a ≡ Some pa → slice_get pads b ≡ Some pb
    → slice_get ids a ≡ Some ia → slice_get ids b ≡ Some ib
    → not (pa.width == 0) ≡ word → not (pb.width == 0) ≡ word → ia.0 ≡ n → ib.0 ≡ n → a ≡ b
one_place word [] ids n few a b pa pb ia ib ea eb fa fb wa wb na nb =
    absurd (let w = slice_get_within [] a pa ea in omega (arith, w))
one_place word (p ∷ ps) [] n few a b pa pb ia ib ea eb fa fb wa wb na nb =
    absurd (let w = slice_get_within [] a ia fa in omega (arith, w))
one_place word (p ∷ ps) (i ∷ is) n few zero zero pa pb ia ib ea eb fa fb wa wb na nb = refl
one_place word (p ∷ ps) (i ∷ is) n few zero (suc b) pa pb ia ib ea eb fa fb wa wb na nb =
    absurd (head_counts word p ps i is n (ap (λ (x : Pad). not (x.width == 0)) (same_Some p pa ea) ∙ wa)
    (ap (λ (x : NetId). x.0) (same_Some i ia fa) ∙ na)
    (there n (entries_of word ps is) ib (in_entries word ps is b pb ib eb fb wb) nb) few)
one_place word (p ∷ ps) (i ∷ is) n few (suc a) zero pa pb ia ib ea eb fa fb wa wb na nb =
    absurd (head_counts word p ps i is n (ap (λ (x : Pad). not (x.width == 0)) (same_Some p pb eb) ∙ wb)
    (ap (λ (x : NetId). x.0) (same_Some i ib fb) ∙ nb)
    (there n (entries_of word ps is) ia (in_entries word ps is a pa ia ea fa wa) na) few)
one_place word (p ∷ ps) (i ∷ is) n few (suc a) (suc b) pa pb ia ib ea eb fa fb wa wb na nb =
    let less = tail_fewer word p ps i is n in
    ap suc (one_place word ps is n (omega (arith, few, less)) a b pa pb ia ib ea eb fa fb wa wb na nb)

module _ (p : DataPath) where
  few_false : (n : ℕ) → times n (entries_of false (p.pads).inputs p.inputs) ≤ 1
  few_false n =
      let l = p.whole.apart.0 n in
      let e = times_append n (entries_of false (p.pads).inputs p.inputs)
      (entries_of false (p.pads).outputs p.outputs) in omega (arith, l, e)

  few_true : (n : ℕ) → times n (entries_of true (p.pads).inputs p.inputs) ≤ 1
  few_true n =
      let l = p.whole.apart.1 n in
      let e = times_append n (entries_of true (p.pads).inputs p.inputs) (entries_of true (p.pads).outputs p.outputs) in
      omega (arith, l, e)

  -- two bits of input pads on one net are one
  module _ (a b k l : ℕ) (pa pb : Pad) (ia ib : NetId) (ea : slice_get (p.pads).inputs a ≡ Some pa)
      (eb : slice_get (p.pads).inputs b ≡ Some pb) (fa : slice_get p.inputs a ≡ Some ia)
      (fb : slice_get p.inputs b ≡ Some ib) (in_a : k < pad_bits pa) (in_b : l < pad_bits pb)
      (same : pad_spot pa ia k ≡ pad_spot pb ib l)
    where
      same_net : ia.0 ≡ ib.0
      same_net = ap (λ (s : Spot). s.net) same

      same_place : (v w : Bool) → (pa.width == 0) ≡ v → (pb.width == 0) ≡ w → k < cond v 1 pa.width
          → l < cond w 1 pb.width
          → cond v 0 (suc k) ≡ cond w 0 (suc l) → (a ≡ b) × (k ≡ l)
      same_place true true v w lk ll e = (
        one_place false (p.pads).inputs p.inputs ib.0 (few_false ib.0) a b pa pb ia ib ea eb fa fb (ap not v) (ap not w)
            same_net refl,
        omega (arith, lk, ll),
      )
      same_place false false v w lk ll e = (
        one_place true (p.pads).inputs p.inputs ib.0 (few_true ib.0) a b pa pb ia ib ea eb fa fb (ap not v) (ap not w)
            same_net refl,
        omega (arith, e),
      )
      same_place true false v w lk ll e = absurd (omega (arith, e))
      same_place false true v w lk ll e = absurd (omega (arith, e))

      pub one_pad_bit : (a ≡ b) × (k ≡ l)
      one_pad_bit =
          same_place (pa.width == 0) (pb.width == 0) refl refl in_a in_b (ap (λ (s : Spot). s.band) same)
