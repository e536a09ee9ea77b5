-- Where an operator's nets stand in the slices, and how each gets its value.
use Rattle.std.proofs.Common.{◌≡◌, ℕ, ◌<◌, ◌≤◌, ◌+◌, suc, List, [], ◌∷◌, ◌++◌, Option, Some, None, cond, eqb, length}
use Rattle.std.proofs.Common.{map, refl, sym, ◌∙◌, ap, subst, arith}
use Rattle.std.specs.Prelude.{All, slice_get}
use Rattle.std.specs.Option.{option_or}
use Rattle.std.proofs.lemmas.Bool.{lt-ltb, ne_eqb, eq-eqb}
use Rattle.std.proofs.lemmas.Option.{none-some}
use Rattle.mp_base.specs.declared.value.Trit.{Trit}
use Rattle.mp_base.specs.declared.value.Trit.TheVariants.{Zero}
use Rattle.mp_base.proofs.Entries.{get_middle, get_behind, map_get}
use Rattle.nor_net.specs.declared.net.NetId.{NetId}
use Rattle.nor_net.specs.declared.net.Part.{Part}
use Rattle.nor_net.specs.declared.net.Part.TheVariants.{Input, Gate}
use Rattle.nor_net.specs.Elements.{Spot, Element, Given, Joined, Low, spot}
use Rattle.nor_net.specs.Settled.{nor_value, Obeys}
use Rattle.organelles.specs.declared.slices.Chain.{Chain}
use Rattle.organelles.specs.declared.slices.Chain.TheVariants.{Up, Down}
use Rattle.organelles.specs.declared.slices.SliceNet.{SliceNet}
use Rattle.organelles.specs.Slices.{first_some, chain_element, program_element, slice_part, slice_nets, ObeysFrom}
use Rattle.organelles.specs.declared.table.Joint.{Joint}
use Rattle.organelles.specs.declared.table.Joint.TheVariants.{Alone, Upward, Downward}
use Rattle.organelles.specs.Tables.{table, place, net_at, gates_from, parts_from}
use Rattle.organelles.specs.Computing.{ChainIn, with_table}

-- chains whose ends stand before n join nothing to n
no_chain : (w k n : ℕ) (chains : List Chain) → All (ChainIn n) chains → first_some (chain_element w k n) chains ≡ None
no_chain w k n [] h = refl
no_chain w k n (c ∷ chains) h =
    by_chain c (h 0 c (omega arith)) (no_chain w k n chains (λ i d l. h (suc i) d (omega arith)))
  where
    by_chain : (c : Chain) → ChainIn n c → first_some (chain_element w k n) chains ≡ None
        → option_or (chain_element w k n c) (first_some (chain_element w k n) chains) ≡ None
    by_chain (Up from to) i e =
        ap (λ b. option_or (cond b (Some (cond (eqb k 0) Low (Joined (spot k from)))) None)
        (first_some (chain_element w k n) chains)) (ne_eqb to.0 n (λ q. absurd (omega (arith, i.1, q)))) ∙ e
    by_chain (Down from to) i e =
        ap (λ b. option_or (cond b (Some (cond (eqb (suc k) w) Low (Joined (spot (suc (suc k)) from)))) None)
        (first_some (chain_element w k n) chains)) (ne_eqb to.0 n (λ q. absurd (omega (arith, i.1, q)))) ∙ e

first_last : {A Y : Type 0} (f : A → Option Y) (xs : List A) (x : A) (y : Y) → first_some f xs ≡ None → f x ≡ Some y
    → first_some f (xs ++ x ∷ []) ≡ Some y
first_last f [] x y absent here = ap (λ o. option_or o None) here
first_last {A} {Y} f (z ∷ xs) x y absent here = by_head (f z) refl absent (λ n. first_last f xs x y n here)
  where
    by_head : (o : Option Y) → f z ≡ o → option_or o (first_some f xs) ≡ None
        → (first_some f xs ≡ None → first_some f (xs ++ x ∷ []) ≡ Some y)
        → option_or (f z) (first_some f (xs ++ x ∷ [])) ≡ Some y
    by_head (Some q) e n again = absurd (none-some q (sym n))
    by_head None e n again = ap (λ o. option_or o (first_some f (xs ++ x ∷ []))) e ∙ again n

module _ (a b : NetId) (s : SliceNet) (chains_in : All (ChainIn (length s.net)) s.chains) (gates : List (List ℕ))
    (result : ℕ) where
  abbrev at : ℕ
  at = length s.net

  -- what a slice net gives a part that it has
  stands : (t : SliceNet) (w k n : ℕ) (p : Part) → k < w → slice_get t.net n ≡ Some p
      → slice_nets w t (record { band = suc k; net = n }) ≡ slice_part w t k n (Some p)
  stands t w k n p l e = ap (λ c. cond c (slice_part w t k n (slice_get t.net n)) None) (lt-ltb k w l)
      ∙ ap (slice_part w t k n) e

  module _ (joint : Joint) (end w : ℕ) (v : Spot → Trit)
      (h : ObeysFrom w (with_table (table gates result joint) a b s) (length s.net) v) where
    abbrev value : ℕ → ℕ → ℕ → Trit
    value first k j = v (record { band = suc k; net = place a b end first j })

    gate_values : (first k : ℕ) (js : List ℕ)
        → map v (map (spot (suc k)) (map (λ j. net_at (place a b end first j)) js)) ≡ map (value first k) js
    gate_values first k [] = refl
    gate_values first k (j ∷ js) = ap (λ vs. value first k j ∷ vs) (gate_values first k js)

    -- a gate of the table has the NOR of its inputs
    gate_at : (first k i : ℕ) (js : List ℕ) → k < w → at ≤ first + i
        → slice_get (s.net ++ parts_from joint gates a b at) (first + i) ≡ Some
        (Gate (map (λ j. net_at (place a b end first j)) js))
        → value first k (3 + i) ≡ nor_value (map (value first k) js)
    gate_at first k i js l ge e =
        let t : SliceNet = with_table (table gates result joint) a b s in
        let is = stands t w k (first + i) (Gate (map (λ j. net_at (place a b end first j)) js)) l e in
        let o : v (record { band = suc k; net = first + i }) ≡ nor_value
        (map v (map (spot (suc k)) (map (λ j. net_at (place a b end first j)) js))) =
        subst (Obeys v (record { band = suc k; net = first + i })) is (h k (first + i) l ge) in
        let three : suc (suc (suc i)) ≡ 3 + i = omega arith in
        subst (λ m. value first k m ≡ nor_value (map (value first k) js)) three
        (o ∙ ap nor_value (gate_values first k js))

  -- the end of a chain up
  module _ (from w : ℕ) (v : Spot → Trit)
      (h : ObeysFrom w (with_table (table gates result (Upward from)) a b s) (length s.net) v) where
    abbrev t : SliceNet
    t = with_table (table gates result (Upward from)) a b s

    abbrev end_element : ℕ → Element
    end_element k = cond (eqb k 0) Low (Joined (record { band = k; net = place a b at (at + 1) from }))

    end_is : (k : ℕ) → k < w → slice_nets w t (record { band = suc k; net = at }) ≡ Some (end_element k)
    end_is k l =
        let is = stands t w k at Input l (get_middle s.net Input (gates_from a b at (at + 1) gates)) in
        let here : cond (eqb at at) (Some (end_element k)) None ≡ Some (end_element k) =
        ap (λ b. cond b (Some (end_element k)) None) (eq-eqb at at refl) in
        let found = first_last (chain_element w k at) s.chains (Up (net_at (place a b at (at + 1) from)) (net_at at))
        (end_element k) (no_chain w k at s.chains chains_in) here in
        is ∙ ap (λ o. option_or (option_or o (first_some (program_element k at) s.programs)) (Some Given)) found

    pub end_low : 0 < w → v (record { band = 1; net = at }) ≡ Zero
    end_low l = subst (Obeys v (record { band = 1; net = at })) (end_is 0 l) (h 0 at l (omega arith))

    pub end_joined : (k : ℕ) → suc k < w
        → v (record { band = suc (suc k); net = at }) ≡ v (record { band = suc k; net = place a b at (at + 1) from })
    end_joined k l =
        let is : slice_nets w t (record { band = suc (suc k); net = at }) ≡ Some
        (Joined (record { band = suc k; net = place a b at (at + 1) from })) =
        end_is (suc k) l ∙ ap
        (λ c. Some (cond c Low (Joined (record { band = suc k; net = place a b at (at + 1) from }))))
        (ne_eqb (suc k) 0 (λ q. absurd (omega arith))) in
        subst (Obeys v (record { band = suc (suc k); net = at })) is (h (suc k) at l (omega arith))

    pub gate_up : (k i : ℕ) (js : List ℕ) → k < w → slice_get gates i ≡ Some js
        → v (record { band = suc k; net = place a b at (at + 1) (3 + i) }) ≡ nor_value
        (map (λ j. v (record { band = suc k; net = place a b at (at + 1) j })) js)
    gate_up k i js l e =
        let add : (at + 1) + i ≡ at + suc i = omega arith in
        let is : slice_get (s.net ++ parts_from (Upward from) gates a b at) ((at + 1) + i)
        ≡ Some (Gate (map (λ j. net_at (place a b at (at + 1) j)) js)) =
        ap (slice_get (s.net ++ Input ∷ gates_from a b at (at + 1) gates)) add
        ∙ get_behind s.net (Input ∷ gates_from a b at (at + 1) gates) (suc i)
        ∙ map_get (λ js. Gate (map (λ j. net_at (place a b at (at + 1) j)) js)) gates i js e in
        gate_at (Upward from) at w v h (at + 1) k i js l (omega arith) is

  -- the end of a chain down
  module _ (from w : ℕ) (v : Spot → Trit)
      (h : ObeysFrom w (with_table (table gates result (Downward from)) a b s) (length s.net) v) where
    abbrev t' : SliceNet
    t' = with_table (table gates result (Downward from)) a b s

    abbrev end_element' : ℕ → Element
    end_element' k = cond (eqb (suc k) w) Low (Joined (record { band = suc (suc k); net = place a b at (at + 1) from }))

    down_is : (k : ℕ) → k < w → slice_nets w t' (record { band = suc k; net = at }) ≡ Some (end_element' k)
    down_is k l =
        let is = stands t' w k at Input l (get_middle s.net Input (gates_from a b at (at + 1) gates)) in
        let here : cond (eqb at at) (Some (end_element' k)) None ≡ Some (end_element' k) =
        ap (λ b. cond b (Some (end_element' k)) None) (eq-eqb at at refl) in
        let found = first_last (chain_element w k at) s.chains
        (Down (net_at (place a b at (at + 1) from)) (net_at at)) (end_element' k)
        (no_chain w k at s.chains chains_in) here in
        is ∙ ap (λ o. option_or (option_or o (first_some (program_element k at) s.programs)) (Some Given)) found

    pub top_low : (k : ℕ) → suc k ≡ w → v (record { band = suc k; net = at }) ≡ Zero
    top_low k e =
        let l : k < w = omega arith in
        let is : slice_nets w t' (record { band = suc k; net = at }) ≡ Some Low = down_is k l
        ∙ ap (λ c. Some (cond c Low (Joined (record { band = suc (suc k); net = place a b at (at + 1) from }))))
        (eq-eqb (suc k) w e) in
        subst (Obeys v (record { band = suc k; net = at })) is (h k at l (omega arith))

    pub down_joined : (k : ℕ) → suc k < w
        → v (record { band = suc k; net = at }) ≡ v (record { band = suc (suc k); net = place a b at (at + 1) from })
    down_joined k l =
        let m : k < w = omega arith in
        let is : slice_nets w t' (record { band = suc k; net = at }) ≡ Some
        (Joined (record { band = suc (suc k); net = place a b at (at + 1) from })) =
        down_is k m ∙ ap (λ c. Some
        (cond c Low (Joined (record { band = suc (suc k); net = place a b at (at + 1) from }))))
        (ne_eqb (suc k) w (λ q. absurd (omega arith))) in
        subst (Obeys v (record { band = suc k; net = at })) is (h k at m (omega arith))

  -- without a chain
  module _ (w : ℕ) (v : Spot → Trit)
      (h : ObeysFrom w (with_table (table gates result Alone) a b s) (length s.net) v) where
    pub gate_alone : (k i : ℕ) (js : List ℕ) → k < w → slice_get gates i ≡ Some js
        → v (record { band = suc k; net = place a b b.0 at (3 + i) }) ≡ nor_value
        (map (λ j. v (record { band = suc k; net = place a b b.0 at j })) js)
    gate_alone k i js l e =
        let is : slice_get (s.net ++ parts_from Alone gates a b at) (at + i)
        ≡ Some (Gate (map (λ j. net_at (place a b b.0 at j)) js)) =
        get_behind s.net (gates_from a b b.0 at gates) i
        ∙ map_get (λ js. Gate (map (λ j. net_at (place a b b.0 at j)) js)) gates i js e in
        gate_at Alone b.0 w v h at k i js l (omega arith) is
