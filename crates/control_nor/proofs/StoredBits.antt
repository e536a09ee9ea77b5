-- Stored bits and their next values.
use Rattle.std.proofs.Common.{◌≡◌, ℕ, suc, ◌+◌, ◌<◌, ◌≤◌, inl, inr, List, [], ◌∷◌, ◌++◌, Option, Some, None, Bool, true}
use Rattle.std.proofs.Common.{false, length, map, refl, sym, ◌∙◌, ap, subst, arith, cond, length-append}
use Rattle.std.specs.Prelude.{not, ◌&&◌, ◌||◌, slice_get}
use Rattle.std.specs.List.{AllZip, list_all, list_any}
use Rattle.std.proofs.lemmas.Bool.{cases_eq}
use Rattle.std.proofs.lemmas.List.{length-set, map_push}
use Rattle.std.proofs.lemmas.Option.{same_Some, slice_get_within}
use Rattle.mp_base.specs.declared.value.Trit.{Trit}
use Rattle.mp_base.specs.declared.value.Trit.TheVariants.{Zero, One, X}
use Rattle.mp_base.proofs.Entries.{get_kept, get_set_same, get_set_other}
use Rattle.nor_net.specs.Elements.{Spot, spot, part_element}
use Rattle.nor_net.specs.Laws.{bit}
use Rattle.nor_net.specs.Settled.{Obeys, nor_value}
use Rattle.nor_net.specs.Shape.{Fed}
use Rattle.nor_net.specs.declared.net.NetId.{NetId}
use Rattle.nor_net.specs.declared.net.Phase.{Phase}
use Rattle.nor_net.specs.declared.net.Phase.TheVariants.{A, B}
use Rattle.nor_net.specs.declared.net.Part.{Part}
use Rattle.nor_net.specs.declared.net.Part.TheVariants.{Input, Gate, Latch}
use Rattle.nor_net.proofs.Values.{nor_bits}
use Rattle.rtl_form.specs.declared.rtl.Transfer.{Transfer}
use Rattle.rtl_form.specs.declared.rtl.Rtl.{Rtl}
use Rattle.bit_gates.specs.declared.rails.Rails.{Rails}
use Rattle.bit_gates.specs.Cells.{GuardOf, IsNextMade, IsSourceMade}
use Rattle.control_nor.specs.Lowering.{ObeysBehind}
use Rattle.control_nor.specs.Meaning.{is_active}
use Rattle.control_nor.specs.NextValues.{AreKnown, IsStoring, is_guarded, next_of}
use Rattle.bit_gates.specs.Rails.{HasRails}
use Rattle.bit_gates.proofs.Adding.{gates_keep, gates_longer, get_at}
use Rattle.control_nor.proofs.Meaning.{terms_known}
use Rattle.bit_gates.proofs.Next.{source_gates}
use Rattle.control_nor.proofs.Obeying.{gate_obeyed}

pub never_fed : (phase : Phase) → Fed (Latch phase None) → ⊥
never_fed phase h = absurd (cc h)

-- values that obey more nets obey those of a part, where latches may have been fed
pub obeys_kept : (old new : List Part) (first later : ℕ) (v : Spot → Trit)
    → ((n : ℕ) (p : Part) → slice_get old n ≡ Some p → Fed p → slice_get new n ≡ Some p) → first ≤ later
    → ObeysBehind new first v → ObeysBehind old later v
obeys_kept old new first later v keeps l h n ge = by_part (slice_get old n) refl
  where
    still : (p : Part) → slice_get old n ≡ Some p → Fed p → Obeys v (record { band = 0; net = n })
        (part_element 0 (slice_get old n))
    still p e fed =
        subst (λ o. Obeys v (record { band = 0; net = n }) (part_element 0 o)) (keeps n p e fed ∙ sym e)
        (h n (omega arith))

    by_part : (o : Option Part) → slice_get old n ≡ o → Obeys v (record { band = 0; net = n })
        (part_element 0 (slice_get old n))
    by_part None e = subst (λ o. Obeys v (record { band = 0; net = n }) (part_element 0 o)) (sym e) tt
    by_part (Some Input) e = still Input e tt
    by_part (Some (Gate inputs)) e = still (Gate inputs) e tt
    by_part (Some (Latch phase None)) e =
        subst (λ o. Obeys v (record { band = 0; net = n }) (part_element 0 o)) (sym e) tt
    by_part (Some (Latch phase (Some source))) e = still (Latch phase (Some source)) e refl

-- ---- the NOR of bits and one more

module _ {X : Type 0} (p : X → Bool) (b : Bool) where
  as_bits : (ts : List X) → map (λ t. bit (p t)) ts ++ bit b ∷ [] ≡ map bit (map p ts ++ b ∷ [])
  as_bits [] = refl
  as_bits (t ∷ ts) = ap (λ us. bit (p t) ∷ us) (as_bits ts)

  all_off : (ts : List X) → list_all (λ m. cond m false true) (map p ts ++ b ∷ []) ≡ (not (list_any p ts) && not b)
  all_off [] = by_bit b
    where
      by_bit : (b : Bool) → (cond b false true && true) ≡ (true && not b)
      by_bit true = refl
      by_bit false = refl
  all_off (t ∷ ts) = by_head (p t) (all_off ts)
    where
      by_head : (h : Bool) → list_all (λ m. cond m false true) (map p ts ++ b ∷ []) ≡ (not (list_any p ts) && not b)
          → (cond h false true && list_all (λ m. cond m false true) (map p ts ++ b ∷ []))
          ≡ (not (h || list_any p ts) && not b)
      by_head true e = refl
      by_head false e = e

  nor_push : (ts : List X) → nor_value (map (λ t. bit (p t)) ts ++ bit b ∷ []) ≡ bit (not (list_any p ts) && not b)
  nor_push ts = ap nor_value (as_bits ts) ∙ (nor_bits (λ x. x) (map p ts ++ b ∷ []) ∙ ap bit (all_off ts))

reset_wins : (t : Trit) → nor_value (t ∷ One ∷ []) ≡ Zero
reset_wins Zero = refl
reset_wins One = refl
reset_wins X = refl

last_nor : (active hold clear : Bool) → nor_value (bit (not active && not hold) ∷ bit clear ∷ [])
    ≡ bit ((active || hold) && not clear)
last_nor true true true = refl
last_nor true true false = refl
last_nor true false true = refl
last_nor true false false = refl
last_nor false true true = refl
last_nor false true false = refl
last_nor false false true = refl
last_nor false false false = refl

hold_is : (any stored : Bool) → (not any && not (not stored)) ≡ (not any && stored)
hold_is true stored = refl
hold_is false true = refl
hold_is false false = refl

guards_known : (v : Spot → Trit) (exprs : List (Option Rails)) (value : ℕ → ℕ) (ts : List Transfer) (ids : List NetId)
    → AllZip (GuardOf exprs) ts ids → AreKnown v exprs value ts
    → map v (map (spot 0) ids) ≡ map (λ t. bit (is_guarded value t)) ts
guards_known v exprs value [] [] z known = refl
guards_known v exprs value [] (y ∷ ids) z known = absurd z
guards_known v exprs value (t ∷ ts) [] z known = absurd z
guards_known v exprs value (t ∷ ts) (id ∷ ids) z known =
    let h = (known 0 t (omega arith)).0 z.0.0 z.0.1 in
    let here : v (spot 0 id) ≡ bit (is_guarded value t) = ap (λ (i : NetId). v (spot 0 i)) z.0.2 ∙ h.has_bit in
    ap (λ u. u ∷ map v (map (spot 0) ids)) here
    ∙ ap (λ us. bit (is_guarded value t) ∷ us) (guards_known v exprs value ts ids z.1
    (λ i d l. known (suc i) d (omega arith)))

-- ---- what was added for one stored bit

module _ (r : Rtl) (exprs : List (Option Rails)) (ts : List Transfer) (rails : Rails) (reset : NetId)
    (old new : List Part)
    (h : IsNextMade exprs ts rails.negation reset old new)
    (waits : slice_get old rails.negation.0 ≡ Some (Latch B None)) where
  abbrev more : List Part
  more = Latch A (Some h.source) ∷ Gate (h.master ∷ []) ∷ []

  middle_keeps : (n : ℕ) (p : Part) → slice_get old n ≡ Some p → slice_get h.middle n ≡ Some p
  middle_keeps n p e = gates_keep old h.middle n p (source_gates exprs ts rails.negation reset h.source old h.middle
      h.is_source) e

  middle_longer : length old ≤ length h.middle
  middle_longer = gates_longer old h.middle (source_gates exprs ts rails.negation reset h.source old h.middle
      h.is_source)

  grown_from : (n : ℕ) (p : Part) → slice_get h.middle n ≡ Some p → slice_get h.grown n ≡ Some p
  grown_from n p e = ap (λ ps. slice_get ps n) h.is_grown ∙ get_kept h.middle more n p e

  pub slave_below : rails.negation.0 < length old
  slave_below = slice_get_within old rails.negation.0 (Latch B None) waits

  pub grown_length : length h.grown ≡ length h.middle + 2
  grown_length = ap length h.is_grown ∙ length-append h.middle more

  pub new_length : length new ≡ length h.grown
  new_length = ap length h.is_fed ∙ length-set h.grown rails.negation.0 (Latch B (Some h.negation))

  pub elsewhere : (n : ℕ) → (n ≡ rails.negation.0 → ⊥) → slice_get new n ≡ slice_get h.grown n
  elsewhere n ne = ap (λ ps. slice_get ps n) h.is_fed ∙ get_set_other h.grown rails.negation.0
      (Latch B (Some h.negation)) n ne

  pub slave_fed : slice_get new rails.negation.0 ≡ Some (Latch B (Some h.negation))
  slave_fed = ap (λ ps. slice_get ps rails.negation.0) h.is_fed
      ∙ get_set_same h.grown rails.negation.0 (Latch B (Some h.negation))
      (let a = grown_length in let b = middle_longer in let c = slave_below in omega (arith, a, b, c))

  -- what stands in the middle and isn't the slave stands in the end
  middle_stays : (n : ℕ) (p : Part) → slice_get h.middle n ≡ Some p → Fed p → slice_get new n ≡ Some p
  middle_stays n p e fed = elim (cases_eq n rails.negation.0) [
    | inl same ↦ absurd (never_fed B (subst Fed (same_Some p (Latch B None) (sym e ∙ (ap (slice_get h.middle) same
        ∙ middle_keeps rails.negation.0 (Latch B None) waits))) fed))
    | inr ne ↦ elsewhere n ne ∙ grown_from n p e
  ]

  pub stays : (n : ℕ) (p : Part) → slice_get old n ≡ Some p → Fed p → slice_get new n ≡ Some p
  stays n p e fed = middle_stays n p (middle_keeps n p e) fed

  pub added_at : (n i : ℕ) (p : Part) → n ≡ length h.middle + i → slice_get more i ≡ Some p → slice_get new n ≡ Some p
  added_at n i p e q =
      let a = middle_longer in let b = slave_below in
      elsewhere n (λ same. absurd (omega (arith, same, e, a, b)))
      ∙ (ap (λ ps. slice_get ps n) h.is_grown ∙ get_at h.middle more n i p e q)

  abbrev s : IsSourceMade exprs ts rails.negation reset old h.middle h.source
  s = h.is_source

  abbrev gates : List Part
  gates = Gate (s.guards ++ rails.negation ∷ []) ∷ Gate (s.terms ++ s.hold ∷ []) ∷ Gate (s.off ∷ reset ∷ []) ∷ []

  pub gate_at : (n i : ℕ) (inputs : List NetId) → n ≡ length s.middle + i → slice_get gates i ≡ Some (Gate inputs)
      → slice_get new n ≡ Some (Gate inputs)
  gate_at n i inputs e q =
      middle_stays n (Gate inputs) (ap (λ ps. slice_get ps n) s.parts ∙ get_at s.middle gates n i (Gate inputs) e q)
      tt

  terms_stay : (n : ℕ) (p : Part) → slice_get s.middle n ≡ Some p → Fed p → slice_get new n ≡ Some p
  terms_stay n p e fed = middle_stays n p (ap (λ ps. slice_get ps n) s.parts ∙ get_kept s.middle gates n p e) fed

  terms_longer : length old ≤ length s.middle
  terms_longer = gates_longer old s.middle s.are_terms.adds

  module _ (v : Spot → Trit) (obeys : ObeysBehind new (length old) v) where
    value_at : (id : NetId) (i : ℕ) (inputs : List NetId) → id.0 ≡ length s.middle + i
        → slice_get gates i ≡ Some (Gate inputs)
        → v (spot 0 id) ≡ nor_value (map v (map (spot 0) inputs))
    value_at id i inputs e q =
        gate_obeyed new (length old) v id inputs obeys (let l = terms_longer in omega (arith, e, l))
        (gate_at id.0 i inputs e q)

    source_value : v (spot 0 h.source) ≡ nor_value (v (spot 0 s.off) ∷ v (spot 0 reset) ∷ [])
    source_value = value_at h.source 2 (s.off ∷ reset ∷ []) (let n = s.at_source in omega (arith, n)) refl

    cleared : v (spot 0 reset) ≡ One → v (spot 0 h.source) ≡ Zero
    cleared e = source_value ∙ (ap (λ t. nor_value (v (spot 0 s.off) ∷ t ∷ [])) e ∙ reset_wins (v (spot 0 s.off)))

    module _ (value : ℕ → ℕ) (stored clear : Bool) (known : AreKnown v exprs value ts) (is : HasRails v rails stored)
        (is_reset : v (spot 0 reset) ≡ bit clear) where
      hold_value : v (spot 0 s.hold) ≡ bit (not (list_any (is_guarded value) ts) && stored)
      hold_value =
          value_at s.hold 0 (s.guards ++ rails.negation ∷ []) (let n = s.at_hold in omega (arith, n)) refl
          ∙ (ap nor_value (ap (map v) (map_push (spot 0) s.guards rails.negation)
          ∙ map_push v (map (spot 0) s.guards) (spot 0 rails.negation))
          ∙ (ap (λ us. nor_value (us ++ v (spot 0 rails.negation) ∷ []))
          (guards_known v exprs value ts s.guards s.are_guards known)
          ∙ (ap (λ t. nor_value (map (λ t. bit (is_guarded value t)) ts ++ t ∷ [])) is.has_negation
          ∙ (nor_push (is_guarded value) (not stored) ts ∙ ap bit
          (hold_is (list_any (is_guarded value) ts) stored)))))

      terms_obey : ObeysBehind s.middle (length old) v
      terms_obey = obeys_kept s.middle new (length old) (length old) v terms_stay (omega arith) obeys

      off_value : v (spot 0 s.off)
          ≡ bit (not (list_any (is_active value) ts) && not (not (list_any (is_guarded value) ts) && stored))
      off_value =
          value_at s.off 1 (s.terms ++ s.hold ∷ []) (let n = s.at_off in omega (arith, n)) refl
          ∙ (ap nor_value (ap (map v) (map_push (spot 0) s.terms s.hold)
          ∙ map_push v (map (spot 0) s.terms) (spot 0 s.hold))
          ∙ (ap (λ us. nor_value (us ++ v (spot 0 s.hold) ∷ []))
          (terms_known r exprs ts v value (length old) s.middle terms_obey ts s.terms s.are_terms.each known)
          ∙ (ap (λ t. nor_value (map (λ t. bit (is_active value t)) ts ++ t ∷ [])) hold_value
          ∙ nor_push (is_active value) (not (list_any (is_guarded value) ts) && stored) ts)))

      meant : v (spot 0 h.source) ≡ bit (next_of value ts stored clear)
      meant = source_value
          ∙ (ap (λ t. nor_value (t ∷ v (spot 0 reset) ∷ [])) off_value
          ∙ (ap (λ t. nor_value (bit (not (list_any (is_active value) ts)
          && not (not (list_any (is_guarded value) ts) && stored)) ∷ t ∷ [])) is_reset
          ∙ last_nor (list_any (is_active value) ts) (not (list_any (is_guarded value) ts) && stored) clear))

  pub storing : IsStoring exprs ts (length old) new rails reset
  storing = record {
    master = h.master;
    negation = h.negation;
    source = h.source;
    is_master = added_at h.master.0 0 (Latch A (Some h.source)) (let n = h.at_master in omega (arith, n)) refl;
    is_negation = added_at h.negation.0 1 (Gate (h.master ∷ [])) (let n = h.at_negation in omega (arith, n)) refl;
    is_slave = slave_fed;
    means = λ v value stored clear obeys known is is_reset. meant v obeys value stored clear known is is_reset;
    clears = λ v obeys e. cleared v obeys e;
  }
