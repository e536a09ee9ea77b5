-- Entries of pads, one after another.
use Rattle.std.proofs.Common.{Some, ◌≡◌, ◌≤◌, ◌<◌, ◌+◌, ℕ, List, [], ◌∷◌, ◌++◌, Bool, true, false, eqb, refl, sym, ◌∙◌, ap}
use Rattle.std.proofs.Common.{cond, get_or, length, take, arith}
use Rattle.std.specs.Prelude.{not, slice_get}
use Rattle.std.proofs.lemmas.Option.{get_or_from_slice_get}
use Rattle.std.proofs.lemmas.List.{take_more, take_all, length-take-le}
use Rattle.mp_base.specs.declared.pad.Pad.{Pad}
use Rattle.nor_net.specs.declared.net.NetId.{NetId}
use Rattle.path_form.specs.Shape.{entries_of}

entries_push : (word : Bool) (pads : List Pad) (ids : List NetId) (pad : Pad) (id : NetId) → length pads ≡ length ids
    → entries_of word (pads ++ pad ∷ []) (ids ++ id ∷ [])
    ≡ entries_of word pads ids ++ entries_of word (pad ∷ []) (id ∷ [])
entries_push word [] [] pad id e = refl
entries_push word [] (i ∷ is) pad id e = absurd (omega arith)
entries_push word (p ∷ ps) [] pad id e = absurd (omega arith)
entries_push word (p ∷ ps) (i ∷ is) pad id e = by_test word (not (eqb p.width 0)) (entries_push word ps is pad id (omega arith))
  where
    by_test : (word c : Bool) → entries_of word (ps ++ pad ∷ []) (is ++ id ∷ [])
        ≡ entries_of word ps is ++ entries_of word (pad ∷ []) (id ∷ [])
        → cond c
        (cond word (i ∷ entries_of word (ps ++ pad ∷ []) (is ++ id ∷ []))
        (entries_of word (ps ++ pad ∷ []) (is ++ id ∷ [])))
        (cond word (entries_of word (ps ++ pad ∷ []) (is ++ id ∷ []))
        (i ∷ entries_of word (ps ++ pad ∷ []) (is ++ id ∷ [])))
        ≡ cond c
        (cond word (i ∷ entries_of word ps is) (entries_of word ps is))
        (cond word (entries_of word ps is) (i ∷ entries_of word ps is))
        ++ entries_of word (pad ∷ []) (id ∷ [])
    by_test true true h = ap (λ es. i ∷ es) h
    by_test true false h = h
    by_test false true h = h
    by_test false false h = ap (λ es. i ∷ es) h

-- one more pad
pub entries_more : (word : Bool) (pads : List Pad) (ids : List NetId) (i : ℕ) (p : Pad) (n : NetId)
    → length ids ≡ length pads → i < length pads → p ≡ get_or pads i p → slice_get ids i ≡ Some n
    → (before after : List NetId) → before ≡ entries_of word (take i pads) (take i ids)
    → after ≡ before ++ entries_of word (p ∷ []) (n ∷ [])
    → after ≡ entries_of word (take (i + 1) pads) (take (i + 1) ids)
entries_more word pads ids i p n same l pad_is id_is before after was is =
    is ∙ ap (λ es. es ++ entries_of word (p ∷ []) (n ∷ [])) was
    ∙ sym (entries_push word (take i pads) (take i ids) p n sizes)
    ∙ (λ k. entries_of word (take i pads ++ pad_is k ∷ []) (take i ids ++ sym id_at k ∷ []))
    ∙ (λ k. entries_of word (sym (take_more pads i p l) k) (sym (take_more ids i n (omega (arith, l, same))) k))
  where
    id_at : get_or ids i n ≡ n
    id_at = get_or_from_slice_get ids i n n id_is

    sizes : length (take i pads) ≡ length (take i ids)
    sizes = length-take-le i pads (omega arith) ∙ sym (length-take-le i ids (omega (arith, l, same)))

pub entries_all : (word : Bool) (pads : List Pad) (ids : List NetId) (i : ℕ) → length ids ≡ length pads
    → length pads ≤ i → entries_of word (take i pads) (take i ids) ≡ entries_of word pads ids
entries_all word pads ids i same l =
    λ k. entries_of word (take_all i pads l k) (take_all i ids (omega (arith, l, same)) k)
