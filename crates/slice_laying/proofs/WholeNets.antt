-- The nets of a data path are those of the path as its placing takes it.
use Rattle.std.proofs.Common.{◌≡◌, inl, inr, ℕ, zero, suc, ◌<◌, ◌≤◌, ◌+◌, Option, Some, None, Bool, true, false}
use Rattle.std.proofs.Common.{cond, eqb, List, [], ◌∷◌, ◌++◌, map, refl, sym, ◌∙◌, ap, subst, arith}
use Rattle.std.specs.Prelude.{Contains, slice_get, nat_lt, ◌==◌}
use Rattle.std.specs.List.{range_with_len}
use Rattle.std.specs.Int.{bit_at}
use Rattle.std.specs.Option.{option_or}
use Rattle.std.proofs.lemmas.Bool.{cases_Bool, eq-eqb, ne_eqb, eqb-true, eqb-false, lt-ltb, ltb-true, true≢false}
use Rattle.std.proofs.lemmas.List.Elements.{All-contains, Contains-append_left, Contains-append_right}
use Rattle.std.proofs.lemmas.Option.{none-some, same_Some}
use Rattle.mp_base.proofs.Entries.{get_map, map_get, contains_from_get}
use Rattle.mp_base.proofs.Ranges.{get_range}
use Rattle.nor_net.specs.declared.net.NetId.{NetId}
use Rattle.nor_net.specs.declared.net.Part.{Part}
use Rattle.nor_net.specs.declared.net.Part.TheVariants.{Input, Gate, Latch}
use Rattle.nor_net.specs.Elements.{Spot, Element, Given, Nor, Latched, Joined, Low, spot}
use Rattle.organelles.specs.declared.slices.Chain as chain
use Rattle.organelles.specs.declared.slices.Chain.TheVariants.{Up, Down}
use Rattle.organelles.specs.declared.slices.Programmed as programmed
use Rattle.organelles.specs.Slices.{first_some, chain_element, program_element}
use Rattle.path_form.specs.declared.path.Cast as casting
use Rattle.path_form.specs.declared.path.Lift as lifting
use Rattle.path_form.specs.declared.path.DataPath.{DataPath}
use Rattle.path_form.specs.Nets.{cast_element, lift_element, control_part, slice_part}
use Rattle.path_form.specs.Shape.{is_input, times, chain_to, chain_from, entries_of}
use Rattle.path_form.specs.Showing.{path_nets}
use Rattle.path_form.proofs.Joining.{times_append, is_one_input}
use Rattle.slice_form.specs.Path.{Path, Carry, Cast, Lift, Programmed, parts, pads, IsSlice, Feeds, from_below}
use Rattle.slice_form.specs.Path.{from_above, open_band, IsElement, gate, store, pad, cast, lift, next, open_end}
use Rattle.slice_form.specs.Path.{one, zero_bit}
use Rattle.slice_form.specs.Whole.{carry_of, cast_of, lift_of, programmed_of, numbers_of, path_of, WholesHaveNets}
use Rattle.array_form.specs.Wires.{place}
use Rattle.slice_laying.proofs.Finding.{counted_there, counted, found_at, absent}
use Rattle.slice_laying.proofs.Finding.{more_on, none_counted, found, some_on}

-- what a chain gives slice k of w
abbrev pub chain_gives : ℕ → ℕ → chain.Chain → Element
chain_gives w k (Up from to) = cond (eqb k 0) Low (Joined (spot k from))
chain_gives w k (Down from to) = cond (eqb (suc k) w) Low (Joined (spot (suc (suc k)) from))

pub chain_is : (w k n : ℕ) (c : chain.Chain)
    → chain_element w k n c ≡ cond (eqb (chain_to c).0 n) (Some (chain_gives w k c)) None
chain_is w k n (Up from to) = refl
chain_is w k n (Down from to) = refl

abbrev pub program_gives : ℕ → programmed.Programmed → Element
program_gives k g = cond (bit_at g.bits k == 1) (Nor []) Low

abbrev pub cast_gives : casting.Cast → Element
cast_gives c = Joined (spot 0 c.control)

abbrev pub lift_gives : lifting.Lift → Element
lift_gives l = Joined (spot (suc l.slice) l.from)

-- a chain's end is there in the path as it is placed
pub to_same : (c : chain.Chain) → (carry_of c).to ≡ (chain_to c).0
to_same (Up from to) = refl
to_same (Down from to) = refl

pub start_same : (c : chain.Chain) → (carry_of c).start ≡ (chain_from c).0
start_same (Up from to) = refl
start_same (Down from to) = refl

module _ (p : DataPath) where
  abbrev whole : Path
  whole = path_of p

  abbrev pub words : List NetId
  words = entries_of true (p.pads).inputs p.inputs

  abbrev pub signals : List NetId
  signals = entries_of false (p.pads).inputs p.inputs

  abbrev pub tos : List NetId
  tos = map chain_to p.slices.chains

  abbrev pub cast_ends : List NetId
  cast_ends = map (λ (c : casting.Cast). c.slice) p.casts

  abbrev pub program_ends : List NetId
  program_ends = map (λ (g : programmed.Programmed). g.net) p.slices.programs

  abbrev pub lift_ends : List NetId
  lift_ends = map (λ (l : lifting.Lift). l.control) p.lifts

  -- each input is counted once
  pub slice_counts : (n : ℕ) → is_input (slice_get p.slices.net n) ≡ true
      → times n words + (times n tos + (times n cast_ends + times n program_ends)) ≡ 1
  slice_counts n e =
      sym (times_append n words (tos ++ (cast_ends ++ program_ends))
      ∙ ap (λ t. times n words + t) (times_append n tos (cast_ends ++ program_ends)
      ∙ ap (λ t. times n tos + t) (times_append n cast_ends program_ends)))
      ∙ p.whole.slice_inputs.1 n e

  pub control_counts : (n : ℕ) → is_input (slice_get p.control n) ≡ true → times n signals + times n lift_ends ≡ 1
  control_counts n e = sym (times_append n signals lift_ends) ∙ p.whole.control_inputs.1 n e

  -- ---- from the nets

  control_input : (n : ℕ) (e : Element) → slice_get p.control n ≡ Some Input → (o : Option Element)
      → first_some (lift_element n) p.lifts ≡ o → option_or o (Some Given) ≡ Some e → IsElement whole (place 0 n) e
  control_input n e h None z q =
      let none = none_counted (λ (l : lifting.Lift). l.control) (lift_element n) lift_gives n (λ l. refl) p.lifts z in
      let all = control_counts n (ap is_input h) in
      subst (IsElement whole (place 0 n)) (same_Some Given e q)
      (pad 0 n (omega arith) h (counted_there signals n (omega (arith, all, none))))
  control_input n e h (Some x) z q =
      let w = found_at (λ (l : lifting.Lift). l.control) (lift_element n) lift_gives n (λ l. refl) p.lifts x z in
      subst (λ m. IsElement whole (place 0 m) e) w.3
      (subst (IsElement whole (place 0 (w.1).control.0)) (w.4 ∙ same_Some x e q)
      (lift w.0 (lift_of w.1) (map_get lift_of p.lifts w.0 w.1 w.2)))

  control_from : (n : ℕ) (e : Element) (o : Option Part) → slice_get p.control n ≡ o
      → control_part p.lifts n o ≡ Some e → IsElement whole (place 0 n) e
  control_from n e None h q = absurd (none-some e q)
  control_from n e (Some Input) h q = control_input n e h (first_some (lift_element n) p.lifts) refl q
  control_from n e (Some (Gate ins)) h q =
      subst (IsElement whole (place 0 n)) (same_Some (Nor (map (spot 0) ins)) e q) (gate 0 n ins (omega arith) h)
  control_from n e (Some (Latch ph None)) h q = absurd (none-some e q)
  control_from n e (Some (Latch ph (Some d))) h q =
      subst (IsElement whole (place 0 n)) (same_Some (Latched ph (spot 0 d)) e q) (store 0 n ph d (omega arith) h)

  -- by a chain
  from_chain : (k i : ℕ) (c : chain.Chain) → k < p.width → slice_get p.slices.chains i ≡ Some c
      → IsElement whole (place (suc k) (chain_to c).0) (chain_gives p.width k c)
  from_chain k i (Up from to) lt h = elim (cases_Bool (eqb k 0)) [
    | inl t ↦ subst (IsElement whole (place (suc k) to.0))
        (sym (ap (λ b. cond b Low (Joined (spot k from))) t))
        (subst (λ b. IsElement whole (place (suc b) to.0) Low) (sym (eqb-true k 0 t))
        (open_end i (carry_of (Up from to)) (map_get carry_of p.slices.chains i (Up from to) h)))
    | inr f ↦ subst (IsElement whole (place (suc k) to.0))
        (sym (ap (λ b. cond b Low (Joined (spot k from))) f))
        (next i (carry_of (Up from to)) k (suc k) (map_get carry_of p.slices.chains i (Up from to) h)
        (from_below refl (omega arith) (above_zero (eqb-false k 0 f)) (omega (arith, lt))))
  ]
    where
      above_zero : ¬ (k ≡ 0) → 1 ≤ k
      above_zero h = omega (arith, h)
  from_chain k i (Down from to) lt h = elim (cases_Bool (eqb (suc k) p.width)) [
    | inl t ↦ subst (IsElement whole (place (suc k) to.0))
        (sym (ap (λ b. cond b Low (Joined (spot (suc (suc k)) from))) t))
        (subst (λ b. IsElement whole (place b to.0) Low) (sym (eqb-true (suc k) p.width t))
        (open_end i (carry_of (Down from to)) (map_get carry_of p.slices.chains i (Down from to) h)))
    | inr f ↦ subst (IsElement whole (place (suc k) to.0))
        (sym (ap (λ b. cond b Low (Joined (spot (suc (suc k)) from))) f))
        (next i (carry_of (Down from to)) (suc (suc k)) (suc k)
        (map_get carry_of p.slices.chains i (Down from to) h)
        (from_above refl (omega arith) (omega arith) (below_top (eqb-false (suc k) p.width f))))
  ]
    where
      below_top : ¬ (suc k ≡ p.width) → suc (suc k) ≤ p.width
      below_top h = omega (arith, h, lt)

  bit_there : (k : ℕ) (g : programmed.Programmed) → k < p.width
      → slice_get (programmed_of p.width g).bits k ≡ Some (bit_at g.bits k == 1)
  bit_there k g lt =
      map_get (λ k. bit_at g.bits k == 1) (range_with_len 0 p.width) k (0 + k) (get_range 0 p.width k lt)
      ∙ ap (λ j. Some (bit_at g.bits j == 1)) (let e : 0 + k ≡ k = omega arith in e)

  from_program : (k i : ℕ) (g : programmed.Programmed) → k < p.width → slice_get p.slices.programs i ≡ Some g
      → IsElement whole (place (suc k) g.net.0) (program_gives k g)
  from_program k i g lt h = by_bit (bit_at g.bits k == 1) refl
    where
      there : slice_get whole.programs i ≡ Some (programmed_of p.width g)
      there = map_get (programmed_of p.width) p.slices.programs i g h

      by_bit : (b : Bool) → (bit_at g.bits k == 1) ≡ b
          → IsElement whole (place (suc k) g.net.0) (cond (bit_at g.bits k == 1) (Nor []) Low)
      by_bit true e =
          subst (λ b. IsElement whole (place (suc k) g.net.0) (cond b (Nor []) Low)) (sym e)
          (one i (programmed_of p.width g) k there (omega (arith, lt)) (bit_there k g lt ∙ ap Some e))
      by_bit false e =
          subst (λ b. IsElement whole (place (suc k) g.net.0) (cond b (Nor []) Low)) (sym e)
          (zero_bit i (programmed_of p.width g) k there (omega (arith, lt)) (bit_there k g lt ∙ ap Some e))

  -- an input of a slice, by what is found
  slice_input_from : (k n : ℕ) (e : Element) → k < p.width → slice_get p.slices.net n ≡ Some Input
      → (a b c : Option Element) → first_some (chain_element p.width k n) p.slices.chains ≡ a
      → first_some (program_element k n) p.slices.programs ≡ b → first_some (cast_element n) p.casts ≡ c
      → option_or (option_or a b) (option_or c (Some Given)) ≡ Some e → IsElement whole (place (suc k) n) e
  slice_input_from k n e lt h (Some x) b c za zb zc q =
      let w = found_at chain_to (chain_element p.width k n) (chain_gives p.width k) n (chain_is p.width k n)
      p.slices.chains x za in
      subst (λ m. IsElement whole (place (suc k) m) e) w.3
      (subst (IsElement whole (place (suc k) (chain_to w.1).0)) (w.4 ∙ same_Some x e q)
      (from_chain k w.0 w.1 lt w.2))
  slice_input_from k n e lt h None (Some x) c za zb zc q =
      let w = found_at (λ (g : programmed.Programmed). g.net) (program_element k n) (program_gives k) n (λ g. refl)
      p.slices.programs x zb in
      subst (λ m. IsElement whole (place (suc k) m) e) w.3
      (subst (IsElement whole (place (suc k) (w.1).net.0)) (w.4 ∙ same_Some x e q) (from_program k w.0 w.1 lt w.2))
  slice_input_from k n e lt h None None (Some x) za zb zc q =
      let w = found_at (λ (c : casting.Cast). c.slice) (cast_element n) cast_gives n (λ c. refl) p.casts x zc in
      subst (λ m. IsElement whole (place (suc k) m) e) w.3
      (subst (IsElement whole (place (suc k) (w.1).slice.0)) (w.4 ∙ same_Some x e q)
      (cast w.0 (cast_of w.1) (suc k) (map_get cast_of p.casts w.0 w.1 w.2) (omega arith, omega (arith, lt))))
  slice_input_from k n e lt h None None None za zb zc q =
      let a = none_counted chain_to (chain_element p.width k n) (chain_gives p.width k) n (chain_is p.width k n)
      p.slices.chains za in
      let b = none_counted (λ (g : programmed.Programmed). g.net) (program_element k n) (program_gives k) n (λ g. refl)
      p.slices.programs zb in
      let c = none_counted (λ (c : casting.Cast). c.slice) (cast_element n) cast_gives n (λ c. refl) p.casts zc in
      let all = slice_counts n (ap is_input h) in
      subst (IsElement whole (place (suc k) n)) (same_Some Given e q)
      (pad (suc k) n (omega (arith, lt)) h (counted_there words n (omega (arith, all, a, b, c))))

  slice_from : (k n : ℕ) (e : Element) → k < p.width → (o : Option Part) → slice_get p.slices.net n ≡ o
      → slice_part p.width p.slices p.casts k n o ≡ Some e → IsElement whole (place (suc k) n) e
  slice_from k n e lt None h q = absurd (none-some e q)
  slice_from k n e lt (Some Input) h q =
      slice_input_from k n e lt h (first_some (chain_element p.width k n) p.slices.chains)
      (first_some (program_element k n) p.slices.programs) (first_some (cast_element n) p.casts) refl refl refl q
  slice_from k n e lt (Some (Gate ins)) h q =
      subst (IsElement whole (place (suc k) n)) (same_Some (Nor (map (spot (suc k)) ins)) e q)
      (gate (suc k) n ins (omega (arith, lt)) h)
  slice_from k n e lt (Some (Latch ph None)) h q = absurd (none-some e q)
  slice_from k n e lt (Some (Latch ph (Some d))) h q =
      subst (IsElement whole (place (suc k) n)) (same_Some (Latched ph (spot (suc k) d)) e q)
      (store (suc k) n ph d (omega (arith, lt)) h)

  pub from_nets : (b n : ℕ) (e : Element) → path_nets p (place b n) ≡ Some e → IsElement whole (place b n) e
  from_nets zero n e q = control_from n e (slice_get p.control n) refl q
  from_nets (suc k) n e q = elim (cases_Bool (nat_lt k p.width)) [
    | inl t ↦ slice_from k n e (ltb-true k p.width t) (slice_get p.slices.net n) refl
        (sym (ap (λ b. cond b (slice_part p.width p.slices p.casts k n (slice_get p.slices.net n)) None) t) ∙ q)
    | inr t ↦ absurd
        (none-some e
        (sym (ap (λ b. cond b (slice_part p.width p.slices p.casts k n (slice_get p.slices.net n)) None) t) ∙ q))
  ]

  -- ---- to the nets

  abbrev in_band : ℕ → ℕ → Option Part → Option Element
  in_band zero n o = control_part p.lifts n o
  in_band (suc k) n o = slice_part p.width p.slices p.casts k n o

  at_part : (b n : ℕ) (o : Option Part) → b ≤ p.width → slice_get (parts whole b) n ≡ o
      → path_nets p (place b n) ≡ in_band b n o
  at_part zero n o le h = ap (control_part p.lifts n) h
  at_part (suc k) n o le h =
      ap (λ b. cond b (slice_part p.width p.slices p.casts k n (slice_get p.slices.net n)) None)
      (lt-ltb k p.width (omega (arith, le)))
      ∙ ap (slice_part p.width p.slices p.casts k n) h

  gate_of : (b n : ℕ) (ins : List NetId) → in_band b n (Some (Gate ins)) ≡ Some (Nor (map (spot b) ins))
  gate_of zero n ins = refl
  gate_of (suc k) n ins = refl

  store_of : (b n : ℕ) (ph : _) (d : NetId) → in_band b n (Some (Latch ph (Some d))) ≡ Some (Latched ph (spot b d))
  store_of zero n ph d = refl
  store_of (suc k) n ph d = refl

  -- an input of a slice, where it is known how often each kind of end is counted
  none_chain : (k n : ℕ) → times n tos ≡ 0 → first_some (chain_element p.width k n) p.slices.chains ≡ None
  none_chain k n z = absent chain_to (chain_element p.width k n) (chain_gives p.width k) n (chain_is p.width k n)
      p.slices.chains z

  none_program : (k n : ℕ) → times n program_ends ≡ 0 → first_some (program_element k n) p.slices.programs ≡ None
  none_program k n z = absent (λ (g : programmed.Programmed). g.net) (program_element k n) (program_gives k) n
      (λ g. refl) p.slices.programs z

  none_cast : (n : ℕ) → times n cast_ends ≡ 0 → first_some (cast_element n) p.casts ≡ None
  none_cast n z = absent (λ (c : casting.Cast). c.slice) (cast_element n) cast_gives n (λ c. refl) p.casts z

  three : {a b c a' b' c' : Option Element} → a ≡ a' → b ≡ b' → c ≡ c'
      → option_or (option_or a b) (option_or c (Some Given)) ≡ option_or (option_or a' b') (option_or c' (Some Given))
  three x y z = λ i. option_or (option_or (x i) (y i)) (option_or (z i) (Some Given))

  times_from : (ids : List NetId) (n : ℕ) → Contains (numbers_of ids) n → 0 < times n ids
  times_from [] n c = absurd (omega (arith, c.1))
  times_from (x ∷ xs) n (zero, l, e) = some_on (eqb x.0 n) (times n xs) (eq-eqb x.0 n e)
  times_from (x ∷ xs) n (suc k, l, e) = more_on (eqb x.0 n) (times n xs) (times_from xs n (k, omega (arith, l), e))

  pad_of : (b n : ℕ) → b ≤ p.width → slice_get (parts whole b) n ≡ Some Input → Contains (pads whole b) n
      → in_band b n (Some Input) ≡ Some Given
  pad_of zero n le h c =
      let all = control_counts n (ap is_input h) in
      let some = times_from signals n c in
      ap (λ o. option_or o (Some Given))
      (absent (λ (l : lifting.Lift). l.control) (lift_element n) lift_gives n (λ l. refl) p.lifts
      (omega (arith, all, some)))
  pad_of (suc k) n le h c =
      let all = slice_counts n (ap is_input h) in
      let some = times_from words n c in
      three (none_chain k n (omega (arith, all, some))) (none_program k n (omega (arith, all, some)))
      (none_cast n (omega (arith, all, some)))

  -- an input of the slices
  slice_end : (id : NetId) → Contains (words ++ (tos ++ (cast_ends ++ program_ends))) id
      → is_input (slice_get p.slices.net id.0) ≡ true
  slice_end id c = All-contains (λ (id : NetId). is_input (slice_get p.slices.net id.0) ≡ true)
      (words ++ (tos ++ (cast_ends ++ program_ends))) id p.whole.slice_inputs.0 c

  pub chain_input : (i : ℕ) (c : chain.Chain) → slice_get p.slices.chains i ≡ Some c
      → slice_get p.slices.net (chain_to c).0 ≡ Some Input
  chain_input i c h =
      is_one_input (slice_get p.slices.net (chain_to c).0)
      (slice_end (chain_to c) (Contains-append_right words (tos ++ (cast_ends ++ program_ends)) (chain_to c)
      (Contains-append_left tos (cast_ends ++ program_ends) (chain_to c)
      (contains_from_get tos i (chain_to c) (map_get chain_to p.slices.chains i c h)))))

  pub cast_input : (i : ℕ) (c : casting.Cast) → slice_get p.casts i ≡ Some c
      → slice_get p.slices.net c.slice.0 ≡ Some Input
  cast_input i c h =
      is_one_input (slice_get p.slices.net c.slice.0)
      (slice_end c.slice (Contains-append_right words (tos ++ (cast_ends ++ program_ends)) c.slice
      (Contains-append_right tos (cast_ends ++ program_ends) c.slice
      (Contains-append_left cast_ends program_ends c.slice
      (contains_from_get cast_ends i c.slice
      (map_get (λ (c : casting.Cast). c.slice) p.casts i c h))))))

  pub program_input : (i : ℕ) (g : programmed.Programmed) → slice_get p.slices.programs i ≡ Some g
      → slice_get p.slices.net g.net.0 ≡ Some Input
  program_input i g h =
      is_one_input (slice_get p.slices.net g.net.0)
      (slice_end g.net (Contains-append_right words (tos ++ (cast_ends ++ program_ends)) g.net
      (Contains-append_right tos (cast_ends ++ program_ends) g.net
      (Contains-append_right cast_ends program_ends g.net
      (contains_from_get program_ends i g.net
      (map_get (λ (g : programmed.Programmed). g.net) p.slices.programs i g h))))))

  pub lift_input : (i : ℕ) (l : lifting.Lift) → slice_get p.lifts i ≡ Some l
      → slice_get p.control l.control.0 ≡ Some Input
  lift_input i l h =
      is_one_input (slice_get p.control l.control.0)
      (All-contains (λ (id : NetId). is_input (slice_get p.control id.0) ≡ true) (signals ++ lift_ends) l.control
      p.whole.control_inputs.0 (Contains-append_right signals lift_ends l.control
      (contains_from_get lift_ends i l.control
      (map_get (λ (l : lifting.Lift). l.control) p.lifts i l h))))

  chain_of : (k i : ℕ) (c : chain.Chain) → k < p.width → slice_get p.slices.chains i ≡ Some c
      → path_nets p (place (suc k) (chain_to c).0) ≡ Some (chain_gives p.width k c)
  chain_of k i c lt h =
      let n = (chain_to c).0 in
      let s = chain_input i c h in
      let all = slice_counts n (ap is_input s) in
      let some = counted chain_to p.slices.chains i c n h refl in
      at_part (suc k) n (Some Input) (omega (arith, lt)) s
      ∙ three (found chain_to (chain_element p.width k n) (chain_gives p.width k) n (chain_is p.width k n)
      p.slices.chains i c h refl (omega (arith, all))) refl (none_cast n (omega (arith, all, some)))

  cast_of_slice : (k i : ℕ) (c : casting.Cast) → k < p.width → slice_get p.casts i ≡ Some c
      → path_nets p (place (suc k) c.slice.0) ≡ Some (cast_gives c)
  cast_of_slice k i c lt h =
      let n = c.slice.0 in
      let s = cast_input i c h in
      let all = slice_counts n (ap is_input s) in
      let some = counted (λ (c : casting.Cast). c.slice) p.casts i c n h refl in
      at_part (suc k) n (Some Input) (omega (arith, lt)) s
      ∙ three (none_chain k n (omega (arith, all, some))) (none_program k n (omega (arith, all, some)))
      (found (λ (c : casting.Cast). c.slice) (cast_element n) cast_gives n (λ c. refl) p.casts i c h refl
      (omega (arith, all)))

  program_of : (k i : ℕ) (g : programmed.Programmed) → k < p.width → slice_get p.slices.programs i ≡ Some g
      → path_nets p (place (suc k) g.net.0) ≡ Some (program_gives k g)
  program_of k i g lt h =
      let n = g.net.0 in
      let s = program_input i g h in
      let all = slice_counts n (ap is_input s) in
      let some = counted (λ (g : programmed.Programmed). g.net) p.slices.programs i g n h refl in
      at_part (suc k) n (Some Input) (omega (arith, lt)) s
      ∙ three (none_chain k n (omega (arith, all, some)))
      (found (λ (g : programmed.Programmed). g.net) (program_element k n) (program_gives k) n (λ g. refl)
      p.slices.programs i g h refl (omega (arith, all))) (none_cast n (omega (arith, all, some)))

  lift_of_control : (i : ℕ) (l : lifting.Lift) → slice_get p.lifts i ≡ Some l
      → path_nets p (place 0 l.control.0) ≡ Some (lift_gives l)
  lift_of_control i l h =
      let n = l.control.0 in
      let s = lift_input i l h in
      let all = control_counts n (ap is_input s) in
      ap (control_part p.lifts n) s
      ∙ ap (λ o. option_or o (Some Given))
      (found (λ (l : lifting.Lift). l.control) (lift_element n) lift_gives n (λ l. refl) p.lifts i l h refl
      (omega (arith, all)))

  -- the end of a chain takes the value of the net before it
  fed_by : (i : ℕ) (c : chain.Chain) (a b : ℕ) → slice_get p.slices.chains i ≡ Some c → Feeds whole (carry_of c) a b
      → path_nets p (place b (carry_of c).to) ≡ Some (Joined (place a (carry_of c).start))
  fed_by i (Up from to) a zero h (from_below u e lo hi) = absurd (omega (arith, e))
  fed_by i (Up from to) a (suc k) h (from_below u e lo hi) =
      let same : k ≡ a = omega (arith, e) in
      chain_of k i (Up from to) (omega (arith, hi)) h
      ∙ ap (λ b. Some (cond b Low (Joined (spot k from)))) (ne_eqb k 0 (λ z. omega (arith, z, same, lo)))
      ∙ ap (λ b. Some (Joined (spot b from))) same
  fed_by i (Up from to) a b h (from_above u e lo hi) = absurd (true≢false u)
  fed_by i (Down from to) a b h (from_below u e lo hi) = absurd (true≢false (sym u))
  fed_by i (Down from to) a zero h (from_above u e lo hi) = absurd (omega (arith, lo))
  fed_by i (Down from to) a (suc k) h (from_above u e lo hi) =
      let same : suc (suc k) ≡ a = omega (arith, e) in
      chain_of k i (Down from to) (omega (arith, hi, same)) h
      ∙ ap (λ b. Some (cond b Low (Joined (spot (suc (suc k)) from))))
      (ne_eqb (suc k) p.width (λ z. omega (arith, z, same, hi)))
      ∙ ap (λ b. Some (Joined (spot b from))) same

  open_of : (i : ℕ) (c : chain.Chain) → slice_get p.slices.chains i ≡ Some c
      → path_nets p (place (open_band whole (carry_of c)) (carry_of c).to) ≡ Some Low
  open_of i (Up from to) h =
      chain_of 0 i (Up from to) (let w = p.whole.width in let v = w.0 in omega (arith, v)) h
      ∙ ap (λ b. Some (cond b Low (Joined (spot 0 from)))) (eq-eqb 0 0 refl)
  open_of i (Down from to) h = at_top p.width refl (let w = p.whole.width in w.0)
    where
      at_top : (w : ℕ) → p.width ≡ w → 0 < w → path_nets p (place w to.0) ≡ Some Low
      at_top zero e lt = absurd (omega (arith, lt))
      at_top (suc k) e lt =
          chain_of k i (Down from to) (omega (arith, e)) h
          ∙ ap (λ b. Some (cond b Low (Joined (spot (suc (suc k)) from)))) (eq-eqb (suc k) p.width (sym e))

  bit_of : (i : ℕ) (g : programmed.Programmed) (k : ℕ) (b : Bool) → slice_get p.slices.programs i ≡ Some g
      → suc k ≤ p.width → slice_get (programmed_of p.width g).bits k ≡ Some b
      → path_nets p (place (suc k) g.net.0) ≡ Some (cond b (Nor []) Low)
  bit_of i g k b h lt is =
      program_of k i g (omega (arith, lt)) h
      ∙ ap (λ b. Some (cond b (Nor []) Low))
      (same_Some (bit_at g.bits k == 1) b (sym (bit_there k g (omega (arith, lt))) ∙ is))

  pub to_nets : (t : Spot) (e : Element) → IsElement whole t e → path_nets p t ≡ Some e
  to_nets t e (gate b n ins le h) = at_part b n (Some (Gate ins)) le h ∙ gate_of b n ins
  to_nets t e (store b n ph d le h) = at_part b n (Some (Latch ph (Some d))) le h ∙ store_of b n ph d
  to_nets t e (pad b n le h c) = at_part b n (Some Input) le h ∙ pad_of b n le h c
  to_nets t e (cast i c b h s) =
      let w = get_map cast_of p.casts i c h in
      subst (λ (c : Cast). path_nets p (place b c.slice) ≡ Some (Joined (place 0 c.control))) w.2
      (in_slice b w.0 w.1 s)
    where
      in_slice : (b : ℕ) (c : casting.Cast) → slice_get p.casts i ≡ Some c → IsSlice whole b
          → path_nets p (place b c.slice.0) ≡ Some (Joined (spot 0 c.control))
      in_slice zero c h s = absurd (omega (arith, s.0))
      in_slice (suc k) c h s = cast_of_slice k i c (let v = s.1 in omega (arith, v)) h
  to_nets t e (lift i l h) =
      let w = get_map lift_of p.lifts i l h in
      subst (λ (l : Lift). path_nets p (place 0 l.control) ≡ Some (Joined (place (suc l.slice) l.start))) w.2
      (lift_of_control i w.0 w.1)
  to_nets t e (next i c a b h f) =
      let w = get_map carry_of p.slices.chains i c h in
      subst (λ (c : Carry). Feeds whole c a b → path_nets p (place b c.to) ≡ Some (Joined (place a c.start))) w.2
      (fed_by i w.0 a b w.1) f
  to_nets t e (open_end i c h) =
      let w = get_map carry_of p.slices.chains i c h in
      subst (λ (c : Carry). path_nets p (place (open_band whole c) c.to) ≡ Some Low) w.2 (open_of i w.0 w.1)
  to_nets t e (one i g b h lt is) =
      let w = get_map (programmed_of p.width) p.slices.programs i g h in
      subst (λ (g : Programmed). slice_get g.bits b ≡ Some true → path_nets p (place (suc b) g.net) ≡ Some (Nor []))
      w.2 (λ q. bit_of i w.0 b true w.1 lt q) is
  to_nets t e (zero_bit i g b h lt is) =
      let w = get_map (programmed_of p.width) p.slices.programs i g h in
      subst (λ (g : Programmed). slice_get g.bits b ≡ Some false → path_nets p (place (suc b) g.net) ≡ Some Low)
      w.2 (λ q. bit_of i w.0 b false w.1 lt q) is

pub wholes_have_nets : WholesHaveNets
wholes_have_nets p s e = (λ h. from_nets p s.band s.net e h, λ h. to_nets p s e h)
