-- What the inputs are given, one after another.
use Rattle.std.proofs.Common.{◌≡◌, ◌∙◌, ℕ, zero, suc, ◌+◌, ◌%◌, ◌^◌, ◌<◌, ◌≤◌, List, [], ◌∷◌, ◌++◌, Bool, eqb, Some}
use Rattle.std.proofs.Common.{length, set, take, get_or, refl, sym, ap, subst, arith}
use Rattle.std.specs.Prelude.{All, slice_get}
use Rattle.std.specs.List.{position_or_len}
use Rattle.std.proofs.lemmas.List.{take_all, take_more_set}
use Rattle.std.proofs.lemmas.List.Folds.{find_at}
use Rattle.std.proofs.lemmas.Option.{get_or_from_slice_get, slice_get_within}
use Rattle.mp_base.specs.declared.pad.Pad.{Pad}
use Rattle.mp_base.specs.PadBits.{bit_count}
use Rattle.board.specs.declared.link.Link.{Link}
use Rattle.board.specs.Face.{Face}
use Rattle.board.specs.Loop.{drives_at, given_by, inputs_from, link_to}

module _ (links : List Link) (faces : List Face) (clock : ℕ) where
  pub inputs_many : (a : ℕ) (pads : List Pad) → length (inputs_from links faces clock a pads) ≡ length pads
  inputs_many a [] = refl
  inputs_many a (p ∷ pads) = let e = inputs_many (suc a) pads in omega (arith, e)

  inputs_more : (a n k : ℕ) (pads : List Pad) (p : Pad) → n ≡ a + k → k < length pads → p ≡ get_or pads k p
      → take (suc k) (inputs_from links faces clock a pads)
      ≡ take k (inputs_from links faces clock a pads) ++ given_by (link_to links n) faces clock p ∷ []
  inputs_more a n k [] p is lt at = absurd (omega (arith, lt))
  inputs_more a n zero (q ∷ pads) p is lt at =
      ap (λ m. given_by (link_to links m) faces clock q ∷ []) (let e : a ≡ n = omega (arith, is) in e)
      ∙ ap (λ r. given_by (link_to links n) faces clock r ∷ []) (sym at)
  inputs_more a n (suc k) (q ∷ pads) p is lt at =
      ap (λ vs. given_by (link_to links a) faces clock q ∷ vs)
      (inputs_more (suc a) n k pads p (omega (arith, is)) (omega (arith, lt)) at)

  -- one more input was given its value
  pub give_more : (pads : List Pad) (k v : ℕ) (p : Pad) (inputs : List ℕ) → k < length pads
      → length inputs ≡ length pads → p ≡ get_or pads k p → v ≡ given_by (link_to links k) faces clock p
      → take k inputs ≡ take k (inputs_from links faces clock 0 pads)
      → take (k + 1) (set inputs k v) ≡ take (k + 1) (inputs_from links faces clock 0 pads)
  give_more pads k v p inputs lt many at is so_far =
      take_more_set inputs k v (omega (arith, lt, many))
      ∙ ap (λ vs. vs ++ v ∷ []) so_far
      ∙ ap (λ x. take k (inputs_from links faces clock 0 pads) ++ x ∷ []) is
      ∙ sym (inputs_more 0 k k pads p (omega arith) lt at)
      ∙ ap (λ m. take m (inputs_from links faces clock 0 pads)) (let e : suc k ≡ k + 1 = omega arith in e)

  -- all were
  pub given_all : (pads : List Pad) (k : ℕ) (inputs : List ℕ) → length pads ≤ k → length inputs ≡ length pads
      → take k inputs ≡ take k (inputs_from links faces clock 0 pads) → inputs ≡ inputs_from links faces clock 0 pads
  given_all pads k inputs le many so_far =
      sym (take_all k inputs (omega (arith, le, many))) ∙ so_far
      ∙ take_all k (inputs_from links faces clock 0 pads) (omega (arith, le, inputs_many 0 pads))

  -- what is given to a pad that a link drives
  pub given_some : (input : ℕ) (pad : Pad) (l : Link) (v d : ℕ) → Some l ≡ link_to links input
      → v ≡ d % 2 ^ bit_count pad.width → d ≡ drives_at faces l.part
      → v ≡ given_by (link_to links input) faces clock pad
  given_some input pad l v d found is drives =
      is ∙ ap (λ n. n % 2 ^ bit_count pad.width) drives ∙ ap (λ o. given_by o faces clock pad) found

-- what holds of all links holds of the one that is found
pub found : (P : Link → Type 0) (links : List Link) (input : ℕ) (l : Link) → Some l ≡ link_to links input → All P links
    → P l
found P links input l e all =
    let it : Link → Bool = λ x. eqb x.driven input in
    let n = position_or_len it links in
    let at : slice_get links n ≡ Some l = sym (find_at it links) ∙ sym e in
    subst P (get_or_from_slice_get links n l l at) (all n l (slice_get_within links n l at))
