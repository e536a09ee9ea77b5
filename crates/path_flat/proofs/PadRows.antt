-- The numbers of the bits of pads.
use Rattle.std.proofs.Common.{◌≡◌, ℕ, ◌<◌, ◌+◌, ◌⊎◌, inl, inr, List, [], ◌∷◌, ◌++◌, Some, length, sym, ◌∙◌, ap, subst}
use Rattle.std.proofs.Common.{arith}
use Rattle.std.specs.Prelude.{slice_get}
use Rattle.std.proofs.lemmas.Option.{same_Some}
use Rattle.mp_base.specs.declared.pad.Pad.{Pad}
use Rattle.nor_net.specs.declared.net.NetId.{NetId}
use Rattle.nor_net.specs.Elements.{Spot}
use Rattle.nor_net.proofs.Adding.{get_push}
use Rattle.path_form.specs.Showing.{pad_bits, pad_spot}
use Rattle.path_flat.specs.Numbers.{ArePadBits}

-- the rows of the first of these pads
pub record AreRowsTo (count : ℕ) (pads : List Pad) (ids : List NetId) (of : Spot → NetId)
    (rows : List (List NetId)) : Type 0 where
  pub bits : (i : ℕ) (pad : Pad) (id : NetId) (row : List NetId) → i < count → slice_get pads i ≡ Some pad
      → slice_get ids i ≡ Some id → slice_get rows i ≡ Some row
      → (length row ≡ pad_bits pad) × ((k : ℕ) → k < pad_bits pad → slice_get row k ≡ Some (of (pad_spot pad id k)))

pub rows_more : (count : ℕ) (pads : List Pad) (ids : List NetId) (of : Spot → NetId) (rows : List (List NetId))
    (pad : Pad) (id : NetId) (row : List NetId) → length rows ≡ count → AreRowsTo count pads ids of rows
    → slice_get pads count ≡ Some pad → slice_get ids count ≡ Some id → ArePadBits of pad.width id row
    → AreRowsTo (count + 1) pads ids of (rows ++ row ∷ [])
rows_more count pads ids of rows pad id row size done is_pad is_id are = record {
  bits = λ i q j r l p d e. by_place i q j r p d (get_push rows row i r e);
}
  where
    by_place : (i : ℕ) (q : Pad) (j : NetId) (r : List NetId) → slice_get pads i ≡ Some q → slice_get ids i ≡ Some j
        → (slice_get rows i ≡ Some r) ⊎ ((i ≡ length rows) × (row ≡ r))
        → (length r ≡ pad_bits q) × ((k : ℕ) → k < pad_bits q → slice_get r k ≡ Some (of (pad_spot q j k)))
    by_place i q j r p d (inl e) =
        done.bits i q j r (let w = Rattle.std.proofs.lemmas.Option.slice_get_within rows i r e in
        omega (arith, w, size)) p d e
    by_place i q j r p d (inr e) =
        let here : i ≡ count = e.0 ∙ size in
        let same_pad : pad ≡ q = same_Some pad q (sym is_pad ∙ ap (slice_get pads) (sym here) ∙ p) in
        let same_id : id ≡ j = same_Some id j (sym is_id ∙ ap (slice_get ids) (sym here) ∙ d) in
        let P : Pad → NetId → List NetId → Type 0 = λ x y z. (length z ≡ pad_bits x)
        × ((k : ℕ) → k < pad_bits x → slice_get z k ≡ Some (of (pad_spot x y k))) in
        subst (λ x. P x j r) same_pad (subst (λ y. P pad y r) same_id (subst (P pad id) e.1 (are.size, are.bits)))
