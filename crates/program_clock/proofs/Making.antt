-- Lists that are remade element by element.
use Rattle.std.proofs.Common.{◌≡◌, ◌≢◌, ℕ, ◌+◌, ◌<◌, ◌≤◌, List, refl, sym, ◌∙◌, ap, inl, inr, length, map, arith}
use Rattle.std.proofs.Common.{get_or}
use Rattle.std.specs.Prelude.{slice_set as set}
use Rattle.std.proofs.lemmas.Bool.{cases_lt}
use Rattle.std.proofs.lemmas.List.{get_or-map, get_or-set_same, get_or-set_other, ext_get_or}

-- below i a list is as it is to be, and from i on as it was
pub record MadeTo {X : Type 0} (now target old : List X) (d : X) (i : ℕ) : Type 0 where
  pub done : (k : ℕ) → k < i → get_or now k d ≡ get_or target k d
  pub rest : (k : ℕ) → i ≤ k → get_or now k d ≡ get_or old k d

pub made_none : {X : Type 0} (old target : List X) (d : X) → MadeTo old target old d 0
made_none old target d = record { done = λ k lt. absurd (omega (arith, lt)); rest = λ k le. refl }

pub made_more : {X : Type 0} (now target old : List X) (d : X) (i : ℕ) (v : X) → i < length now → v ≡ get_or target i d
    → MadeTo now target old d i → MadeTo (set now i v) target old d (i + 1)
made_more {X} now target old d i v inside is so_far = record { done = below; rest = above }
  where
    below : (k : ℕ) → k < i + 1 → get_or (set now i v) k d ≡ get_or target k d
    below k lt =
        elim (cases_lt k i) [
          | inl lower ↦ let apart : k ≢ i = omega arith in get_or-set_other now i k v d apart ∙ so_far.done k lower
          | inr from ↦ let e : i ≡ k = omega arith in
              ap (λ j. get_or (set now i v) j d) (sym e) ∙ get_or-set_same now i v d inside ∙ is
              ∙ ap (λ j. get_or target j d) e
        ]

    above : (k : ℕ) → i + 1 ≤ k → get_or (set now i v) k d ≡ get_or old k d
    above k le = let apart : k ≢ i = omega (arith, le) in
        get_or-set_other now i k v d apart ∙ so_far.rest k (omega (arith, le))

pub made_all : {X : Type 0} (now target old : List X) (d : X) (i : ℕ) → length now ≡ length target → length now ≤ i
    → MadeTo now target old d i → now ≡ target
made_all now target old d i size over made =
    ext_get_or d now target size (λ k lt. made.done k (omega (arith, lt, over)))

pub mapped_at : {X Y : Type 0} (f : X → Y) (xs : List X) (i : ℕ) (x : X) (d : Y) → i < length xs → x ≡ get_or xs i x
    → f x ≡ get_or (map f xs) i d
mapped_at f xs i x d lt is = ap f is ∙ sym (get_or-map f xs i x d lt)
