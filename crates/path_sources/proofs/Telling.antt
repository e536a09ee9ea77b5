-- Sources told one after another.
use Rattle.std.proofs.Common.{◌≡◌, ℕ, ◌<◌, ◌+◌, ◌≤◌, List, [], ◌∷◌, ◌++◌, cond, eqb, length, take, get_or, refl, sym}
use Rattle.std.proofs.Common.{◌∙◌, ap}
use Rattle.std.proofs.lemmas.List.{take_more, take_all}
use Rattle.nor_net.specs.declared.net.NetId.{NetId}
use Rattle.path_sources.specs.declared.sources.Source.{Source}
use Rattle.path_sources.specs.declared.sources.Source.TheVariants.{Pad, Below, Above, Bits, Control, Slice}
use Rattle.path_sources.specs.Sources.{or_source, told}

pub or_assoc : (a b c : Source) → or_source (or_source a b) c ≡ or_source a (or_source b c)
or_assoc Pad b c = refl
or_assoc (Below f) b c = refl
or_assoc (Above f) b c = refl
or_assoc (Bits f) b c = refl
or_assoc (Control f) b c = refl
or_assoc (Slice s f) b c = refl

pub or_pad : (a : Source) → or_source a Pad ≡ a
or_pad Pad = refl
or_pad (Below f) = refl
or_pad (Above f) = refl
or_pad (Bits f) = refl
or_pad (Control f) = refl
or_pad (Slice s f) = refl

module _ {A : Type 0} (end : A → NetId) (source : A → Source) (n : ℕ) where
  told_push : (xs : List A) (x : A)
      → told end source n (xs ++ x ∷ []) ≡ or_source (told end source n xs) (cond (eqb (end x).0 n) (source x) Pad)
  told_push [] x = or_pad (cond (eqb (end x).0 n) (source x) Pad)
  told_push (y ∷ ys) x =
      ap (or_source (cond (eqb (end y).0 n) (source y) Pad)) (told_push ys x)
      ∙ sym (or_assoc (cond (eqb (end y).0 n) (source y) Pad) (told end source n ys)
      (cond (eqb (end x).0 n) (source x) Pad))

  -- one more was told
  pub told_more : (xs : List A) (i : ℕ) (d : A) (start before after : Source) → i < length xs
      → before ≡ or_source start (told end source n (take i xs))
      → after ≡ or_source before (cond (eqb (end (get_or xs i d)).0 n) (source (get_or xs i d)) Pad)
      → after ≡ or_source start (told end source n (take (i + 1) xs))
  told_more xs i d start before after l was is =
      is ∙ ap (λ b. or_source b (cond (eqb (end (get_or xs i d)).0 n) (source (get_or xs i d)) Pad)) was
      ∙ or_assoc start (told end source n (take i xs)) (cond (eqb (end (get_or xs i d)).0 n)
      (source (get_or xs i d)) Pad)
      ∙ ap (or_source start) (sym (told_push (take i xs) (get_or xs i d)))
      ∙ ap (λ ys. or_source start (told end source n ys)) (sym (take_more xs i d l))

  -- all were told
  pub told_all : (xs : List A) (i : ℕ) (start : Source) → length xs ≤ i
      → or_source start (told end source n (take i xs)) ≡ or_source start (told end source n xs)
  told_all xs i start l = ap (λ ys. or_source start (told end source n ys)) (take_all i xs l)

-- one list was told behind what was told before, and another list is the same
pub told_list : {A : Type 0} (end : A → NetId) (source : A → Source) (n : ℕ) (xs ys : List A)
    (before after start : Source)
    → before ≡ start → after ≡ or_source before (told end source n xs) → xs ≡ ys
    → after ≡ or_source start (told end source n ys)
told_list end source n xs ys before after start b a e =
    a ∙ ap (λ s. or_source s (told end source n xs)) b ∙ ap (λ zs. or_source start (told end source n zs)) e
