-- The first label that is missing.
use Rattle.std.proofs.Common.{◌≡◌, ◌≢◌, ◌∙◌, ℕ, zero, suc, ◌+◌, ◌<◌, List, [], ◌∷◌, ◌++◌, length, get_or, take, drop}
use Rattle.mp_base.proofs.Entries.{one_value}
use Rattle.std.proofs.Common.{refl, sym, ap, subst, arith, Some, length-take}
use Rattle.std.specs.Prelude.{Contains, slice_get}
use Rattle.std.specs.List.{AllZip}
use Rattle.std.proofs.lemmas.Option.{slice_get-get_or}
use Rattle.std.proofs.lemmas.List.{take-append-drop}
use Rattle.std.proofs.lemmas.Slice.Zip.{all_zipped_more}
use Rattle.switch_net.specs.declared.network.Tag.{Tag}
use Rattle.switch_net.specs.declared.network.Network.{Network}
use Rattle.switch_net.specs.Clock.{IsLabelled}
use Rattle.clock_run.specs.Refused.{IsMissingLabel}
use Rattle.clock_run.proofs.Naming.{take_push}

pub stands_at : {A : Type 0} (xs : List A) (i : ℕ) (x : A) → i < length xs → x ≡ get_or xs i x → slice_get xs i ≡ Some x
stands_at xs i x lt is = slice_get-get_or xs i x lt ∙ ap (λ z. Some z) (sym is)

-- what the first list has at a place, its partner has
pub partner : {A B : Type 0} (R : A → B → Type 0) (xs rest : List A) (ys : List B) → AllZip R xs ys → (j : ℕ) (x : A)
    → j < length xs
    → slice_get (xs ++ rest) j ≡ Some x → (y : B) × R x y
partner R [] rest [] h j x lt e = absurd (omega (arith, lt))
partner R [] rest (y ∷ ys) h j x lt e = absurd h
partner R (x ∷ xs) rest [] h j z lt e = absurd h
partner R (x ∷ xs) rest (y ∷ ys) h zero z lt e =
    (y, subst (λ w. R w y) (one_value (slice_get (x ∷ (xs ++ rest)) 0) x z refl e) h.0)
partner R (x ∷ xs) rest (y ∷ ys) h (suc j) z lt e = partner R xs rest ys h.1 j z (omega (arith, lt)) e

pub missing_here : (net : Network) (labels : List (List ℕ)) (i : ℕ) (name : List ℕ) (nodes : List ℕ) → i < length labels
    → name ≡ get_or labels i name
    → AllZip (IsLabelled net) (take i labels) nodes → ((t : Tag) → Contains net.tags t → t.name ≢ name)
    → IsMissingLabel net labels name
missing_here net labels i name nodes lt is h none = record {
  i = i;
  missing = record { at = stands_at labels i name lt is; none = none };
  first = λ j other before m.
      let l : length (take i labels) ≡ i = length-take i labels ∙ omega arith in
      let there : slice_get (take i labels ++ drop i labels) j ≡ Some other = subst (λ xs. slice_get xs j ≡ Some other)
      (sym (take-append-drop i labels)) m.at in
      let (node, (tag, among, named, at)) = partner (IsLabelled net) (take i labels) (drop i labels) nodes h j other
      (omega (arith, l, before)) there in
      m.none tag among named;
}

pub labelled_more : (net : Network) (labels : List (List ℕ)) (i : ℕ) (name : List ℕ) (nodes : List ℕ) (node : ℕ)
    → i < length labels
    → name ≡ get_or labels i name
    → AllZip (IsLabelled net) (take i labels) nodes → IsLabelled net name node
    → AllZip (IsLabelled net) (take (i + 1) labels) (nodes ++ node ∷ [])
labelled_more net labels i name nodes node lt is h l =
    subst (λ xs. AllZip (IsLabelled net) xs (nodes ++ node ∷ [])) (sym (take_push labels i name lt is))
    (all_zipped_more (IsLabelled net) (take i labels) nodes name node h l)
