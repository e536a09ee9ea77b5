-- What gates of a table give, and where they stand in the slices.
use Rattle.std.proofs.Common.{◌≡◌, ℕ, ◌<◌, ◌≤◌, ◌+◌, zero, suc, ◌⊎◌, inl, inr, List, [], ◌∷◌, ◌++◌, Some, Bool, true}
use Rattle.std.proofs.Common.{false, cond, ltb, length, map, get_or, refl, sym, ◌∙◌, ap, subst, arith}
use Rattle.std.specs.Prelude.{All, slice_get}
use Rattle.std.specs.List.{list_all}
use Rattle.std.proofs.lemmas.Bool.{ltb-true, and_parts, cases_lt}
use Rattle.std.proofs.lemmas.List.{get_or_append_left, get_or_at, length-append}
use Rattle.mp_base.specs.declared.value.Trit.{Trit}
use Rattle.nor_net.specs.Settled.{nor_value}
use Rattle.nor_net.specs.Laws.{bit}
use Rattle.nor_net.proofs.Values.{nor_bits, map_same}
use Rattle.organelles.specs.Tables.{is_ordered}

abbrev off : Bool → Bool
off b = cond b false true

-- the bits of the numbers of a table, its gates one after another
abbrev pub run : List (List ℕ) → List Bool → List Bool
run [] bits = bits
run (js ∷ gates) bits = run gates (bits ++ list_all (λ j. off (get_or bits j false)) js ∷ [])

pub below_all : (n : ℕ) (js : List ℕ) → list_all (λ j. ltb j n) js ≡ true → All (λ j. j < n) js
below_all n [] e k d l = absurd (omega arith)
below_all n (j ∷ js) e zero d l = ltb-true j n (and_parts (ltb j n) (list_all (λ j. ltb j n) js) e).0
below_all n (j ∷ js) e (suc k) d l =
    below_all n js (and_parts (ltb j n) (list_all (λ j. ltb j n) js) e).1 k d (omega arith)

length_last : (bits : List Bool) (b : Bool) → length (bits ++ b ∷ []) ≡ suc (length bits)
length_last bits b = let e = length-append bits (b ∷ []) in omega (arith, e)

-- values of the numbers of a table
module _ (value : ℕ → Trit) where
  abbrev pub Has : List Bool → Type 0
  Has bits = (j : ℕ) → j < length bits → value j ≡ bit (get_or bits j false)

  abbrev pub Gated : ℕ → List (List ℕ) → Type 0
  Gated n gates = (i : ℕ) (js : List ℕ) → slice_get gates i ≡ Some js → value (n + i) ≡ nor_value (map value js)

  gated_tail : (n : ℕ) (js : List ℕ) (gates : List (List ℕ)) → Gated n (js ∷ gates) → Gated (suc n) gates
  gated_tail n js gates g i ks e =
      let h : value (n + suc i) ≡ nor_value (map value ks) = g (suc i) ks e in
      let same : n + suc i ≡ suc n + i = omega arith in
      subst (λ m. value m ≡ nor_value (map value ks)) same h

  -- one more gate
  more : (bits : List Bool) (js : List ℕ) → Has bits → All (λ j. j < length bits) js
      → value (length bits) ≡ nor_value (map value js)
      → Has (bits ++ list_all (λ j. off (get_or bits j false)) js ∷ [])
  more bits js has before e j l = by_place (cases_lt j (length bits))
    where
      gate : value (length bits) ≡ bit (list_all (λ j. off (get_or bits j false)) js)
      gate =
          let all : map value js ≡ map (λ j. bit (get_or bits j false)) js =
          map_same value (λ j. bit (get_or bits j false)) js (λ k d l. has (get_or js k d) (before k d l)) in
          e ∙ ap nor_value all ∙ nor_bits (λ j. get_or bits j false) js

      by_place : (j < length bits) ⊎ (length bits ≤ j)
          → value j ≡ bit (get_or (bits ++ list_all (λ j. off (get_or bits j false)) js ∷ []) j false)
      by_place (inl l) = has j l
          ∙ ap bit (sym (get_or_append_left bits (list_all (λ j. off (get_or bits j false)) js ∷ []) false j l))
      by_place (inr ge) =
          let len : length (bits ++ list_all (λ j. off (get_or bits j false)) js ∷ []) ≡ suc (length bits) =
          length_last bits (list_all (λ j. off (get_or bits j false)) js) in
          let at : length bits ≡ j = omega (arith, len, l, ge) in
          subst (λ m. value m ≡ bit (get_or (bits ++ list_all (λ j. off (get_or bits j false)) js ∷ []) m false)) at
          (gate ∙ ap bit (sym
          (get_or_at bits (list_all (λ j. off (get_or bits j false)) js) [] false (length bits) refl)))

  pub runs : (gates : List (List ℕ)) (bits : List Bool) → Has bits → Gated (length bits) gates
      → is_ordered (length bits) gates ≡ true → Has (run gates bits)
  runs [] bits has gated ordered = has
  runs (js ∷ gates) bits has gated ordered =
      let o = and_parts (list_all (λ j. ltb j (length bits)) js) (is_ordered (suc (length bits)) gates) ordered in
      let len : suc (length bits) ≡ length (bits ++ list_all (λ j. off (get_or bits j false)) js ∷ []) =
      sym (length_last bits (list_all (λ j. off (get_or bits j false)) js)) in
      let here : value (length bits) ≡ nor_value (map value js) =
      subst (λ m. value m ≡ nor_value (map value js)) (omega arith) (gated 0 js refl) in
      runs gates (bits ++ list_all (λ j. off (get_or bits j false)) js ∷ [])
      (more bits js has (below_all (length bits) js o.0) here)
      (subst (λ n. Gated n gates) len (gated_tail (length bits) js gates gated))
      (subst (λ n. is_ordered n gates ≡ true) len o.1)
