-- Gates of a table, one after another.
use Rattle.std.proofs.Common.{◌≡◌, ℕ, ◌<◌, ◌≤◌, ◌+◌, ◌*◌, zero, suc, List, [], ◌∷◌, ◌++◌, Bool, true, false, cond, eqb}
use Rattle.std.proofs.Common.{length, length-append, map, get_or, take, refl, ◌∙◌, ap, subst, arith}
use Rattle.std.specs.Prelude.{All, nat_lt}
use Rattle.std.specs.List.{list_all}
use Rattle.std.proofs.lemmas.Bool.{and_parts, eqb-true}
use Rattle.std.proofs.lemmas.List.{length-take-le}
use Rattle.std.proofs.lemmas.List.Sums.{sum_by-cons, sum_by-append}
use Rattle.nor_net.specs.declared.net.NetId.{NetId}
use Rattle.nor_net.specs.declared.net.Part.{Part}
use Rattle.nor_net.specs.declared.net.Part.TheVariants.{Gate}
use Rattle.nor_net.specs.Shape.{fan_in, gate_inputs}
use Rattle.organelles.specs.Pairs.{inputs_of}
use Rattle.organelles.specs.Tables.{gates_from, is_ordered, net_at, place}
use Rattle.organelles.proofs.Netlist.{below_all}

abbrev pub gate_of : NetId → NetId → ℕ → ℕ → ℕ × ℕ → Part
gate_of a b end first pair = Gate (map (λ j. net_at (place a b end first j)) (inputs_of pair))

abbrev pub gates_of : NetId → NetId → ℕ → ℕ → List (ℕ × ℕ) → List Part
gates_of a b end first pairs = gates_from a b end first (map inputs_of pairs)

module _ (a b : NetId) (end first : ℕ) where
  pub gates_more : (pairs : List (ℕ × ℕ)) (i : ℕ) (d : ℕ × ℕ) → i < length pairs
      → gates_of a b end first (take (i + 1) pairs) ≡ gates_of a b end first (take i pairs) ++ gate_of a b end first
      (get_or pairs i d) ∷ []
  gates_more [] i d l = absurd (omega arith)
  gates_more (p ∷ ps) zero d l = refl
  gates_more (p ∷ ps) (suc i) d l =
      let e : suc i + 1 ≡ suc (i + 1) = omega arith in
      ap (λ n. gates_of a b end first (take n (p ∷ ps))) e
      ∙ ap (λ gs. gate_of a b end first p ∷ gs) (gates_more ps i d (omega arith))

  pub gates_length : (pairs : List (ℕ × ℕ)) → length (gates_of a b end first pairs) ≡ length pairs
  gates_length [] = refl
  gates_length (p ∷ ps) = ap suc (gates_length ps)

  fan : (pair : ℕ × ℕ) → fan_in (gate_of a b end first pair) ≤ 2
  fan pair = by_test (eqb pair.0 pair.1)
    where
      by_test : (t : Bool)
          → length (map (λ j. net_at (place a b end first j)) (cond t (pair.0 ∷ []) (pair.0 ∷ pair.1 ∷ []))) ≤ 2
      by_test true = omega arith
      by_test false = omega arith

  pub gates_inputs : (pairs : List (ℕ × ℕ)) → gate_inputs (gates_of a b end first pairs) ≤ 2 * length pairs
  gates_inputs [] = omega arith
  gates_inputs (p ∷ ps) =
      let e : gate_inputs (gates_of a b end first (p ∷ ps))
      ≡ fan_in (gate_of a b end first p) + gate_inputs (gates_of a b end first ps) =
      sum_by-cons fan_in (gate_of a b end first p) (gates_of a b end first ps) in
      let f = fan p in
      let r = gates_inputs ps in
      omega (arith, e, f, r)

  pub placed : (j n : ℕ) → a.0 < first → b.0 < first → end < first → j < 3 + n → place a b end first j < first + n
  placed zero n x y z l = omega arith
  placed (suc zero) n x y z l = omega arith
  placed (suc (suc zero)) n x y z l = omega arith
  placed (suc (suc (suc j))) n x y z l = omega arith

  -- before an index the nets and inputs are as many as the gates
  pub length_before : (net : List Part) (pairs : List (ℕ × ℕ)) (i : ℕ) → i ≤ length pairs
      → length (net ++ gates_of a b end first (take i pairs)) ≡ length net + i
  length_before net pairs i l =
      let e : length (net ++ gates_of a b end first (take i pairs))
      ≡ length net + length (gates_of a b end first (take i pairs)) =
      length-append net (gates_of a b end first (take i pairs)) in
      let f = gates_length (take i pairs) in
      let g = length-take-le i pairs l in
      omega (arith, e, f, g)

  pub inputs_before : (net : List Part) (pairs : List (ℕ × ℕ))
      → gate_inputs (net ++ gates_of a b end first pairs) ≤ gate_inputs net + 2 * length pairs
  inputs_before net pairs =
      let e : gate_inputs (net ++ gates_of a b end first pairs)
      ≡ gate_inputs net + gate_inputs (gates_of a b end first pairs) =
      sum_by-append fan_in net (gates_of a b end first pairs) in
      let f = gates_inputs pairs in
      omega (arith, e, f)

pair_below : (n : ℕ) (p : ℕ × ℕ) → All (λ j. j < n) (inputs_of p) → (p.0 < n) × (p.1 < n)
pair_below n p h = by_test (eqb p.0 p.1) refl h
  where
    by_test : (t : Bool) → eqb p.0 p.1 ≡ t → All (λ j. j < n) (cond t (p.0 ∷ []) (p.0 ∷ p.1 ∷ []))
        → (p.0 < n) × (p.1 < n)
    by_test true e h = let x : p.0 < n = h 0 0 (omega arith) in
        (x, subst (λ m. m < n) (eqb-true p.0 p.1 e) x)
    by_test false e h = (h 0 0 (omega arith), h 1 0 (omega arith))

pub ordered_at : (n : ℕ) (pairs : List (ℕ × ℕ)) (i : ℕ) (d : ℕ × ℕ) → is_ordered n (map inputs_of pairs) ≡ true
    → i < length pairs
    → ((get_or pairs i d).0 < n + i) × ((get_or pairs i d).1 < n + i)
ordered_at n [] i d o l = absurd (omega arith)
ordered_at n (p ∷ ps) zero d o l =
    let h = pair_below n p
    (below_all n (inputs_of p)
    (and_parts (list_all (λ j. nat_lt j n) (inputs_of p)) (is_ordered (suc n) (map inputs_of ps)) o).0) in
    let x = h.0 in
    let y = h.1 in
    (omega (arith, x), omega (arith, y))
ordered_at n (p ∷ ps) (suc i) d o l =
    let h = ordered_at (suc n) ps i d
    (and_parts (list_all (λ j. nat_lt j n) (inputs_of p)) (is_ordered (suc n) (map inputs_of ps)) o).1
    (omega arith) in
    let x = h.0 in
    let y = h.1 in
    (omega (arith, x), omega (arith, y))
