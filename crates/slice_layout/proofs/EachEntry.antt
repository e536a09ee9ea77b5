-- The nets of pads, one after another.
use Rattle.std.proofs.Common.{◌≡◌, ℕ, zero, suc, ◌+◌, ◌==◌, Some, Bool, true, false, not, List, [], ◌∷◌, ◌++◌, take}
use Rattle.std.proofs.Common.{length, refl, sym, ◌∙◌, ap, append_assoc, arith}
use Rattle.std.specs.Prelude.{if◌then◌else◌, slice_get}
use Rattle.std.proofs.lemmas.List.{append-nil}
use Rattle.mp_base.specs.declared.pad.Pad.{Pad}
use Rattle.mp_base.proofs.Lists.{take_whole}
use Rattle.nor_net.specs.declared.net.NetId.{NetId}
use Rattle.path_form.specs.Shape.{entries_of}
use Rattle.slice_layout.specs.Entries.{entry_of}

-- the first pad's, and then those of the others
one_by_one : (words : Bool) (pad : Pad) (pads : List Pad) (id : NetId) (ids : List NetId)
    → entries_of words (pad ∷ pads) (id ∷ ids) ≡ entry_of words pad id ++ entries_of words pads ids
one_by_one words pad pads id ids = by_width (pad.width == 0) words (entries_of words pads ids)
  where
    by_width : (signal words : Bool) (rest : List NetId)
        → (if not signal then (if words then id ∷ rest else rest) else (if words then rest else id ∷ rest))
        ≡ (if if signal then not words else words then id ∷ [] else []) ++ rest
    by_width true true rest = refl
    by_width true false rest = refl
    by_width false true rest = refl
    by_width false false rest = refl

-- one pad more
next_entry : (words : Bool) (pads : List Pad) (ids : List NetId) (i : ℕ) (pad : Pad) (id : NetId)
    → slice_get pads i ≡ Some pad → slice_get ids i ≡ Some id
    → entries_of words (take (suc i) pads) (take (suc i) ids)
    ≡ entries_of words (take i pads) (take i ids) ++ entry_of words pad id
next_entry words [] ids i pad id h k = absurd (cc h)
next_entry words (q ∷ qs) [] i pad id h k = absurd (cc k)
next_entry words (q ∷ qs) (j ∷ js) zero pad id h k =
    let a : q ≡ pad = cc in
    let b : j ≡ id = cc in
    one_by_one words q [] j [] ∙ (append-nil (entry_of words q j) ∙ (λ t. entry_of words (a t) (b t)))
next_entry words (q ∷ qs) (j ∷ js) (suc i) pad id h k =
    one_by_one words q (take (suc i) qs) j (take (suc i) js)
    ∙ (ap (λ l. entry_of words q j ++ l) (next_entry words qs js i pad id h k)
    ∙ (sym (append_assoc (entry_of words q j) (entries_of words (take i qs) (take i js)) (entry_of words pad id))
    ∙ ap (λ l. l ++ entry_of words pad id) (sym (one_by_one words q (take i qs) j (take i js)))))

pub entries_grown : (words : Bool) (pads : List Pad) (ids : List NetId) (i : ℕ) (pad : Pad) (id : NetId)
    (old items more : List NetId) → slice_get pads i ≡ Some pad → slice_get ids i ≡ Some id
    → items ≡ old ++ entries_of words (take i pads) (take i ids) → more ≡ items ++ entry_of words pad id
    → more ≡ old ++ entries_of words (take (i + 1) pads) (take (i + 1) ids)
entries_grown words pads ids i pad id old items more h k before after =
    let e : suc i ≡ i + 1 = omega arith in
    after ∙ (ap (λ l. l ++ entry_of words pad id) before
    ∙ (append_assoc old (entries_of words (take i pads) (take i ids)) (entry_of words pad id)
    ∙ (ap (λ l. old ++ l) (sym (next_entry words pads ids i pad id h k))
    ∙ ap (λ n. old ++ entries_of words (take n pads) (take n ids)) e)))

pub entries_whole : (words : Bool) (pads : List Pad) (ids : List NetId) (n : ℕ) → n ≡ length pads
    → length ids ≡ length pads
    → entries_of words (take n pads) (take n ids) ≡ entries_of words pads ids
entries_whole words pads ids n e long =
    let a : take n pads ≡ pads = ap (λ k. take k pads) e ∙ take_whole pads in
    let b : take n ids ≡ ids = ap (λ k. take k ids) (e ∙ sym long) ∙ take_whole ids in
    λ i. entries_of words (a i) (b i)
