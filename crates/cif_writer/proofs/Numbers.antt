-- Numbers behind letters, as the text of a command has them.
use Rattle.std.proofs.Common.{◌≡◌, ℕ, List, [], ◌∷◌, ◌++◌, sym, ◌∙◌, ap, Bool, true, false, ◌&&◌, append_assoc}
use Rattle.std.proofs.Common.{if◌then◌else◌}
use Rattle.std.specs.Prelude.{ℤ, pos, negsuc}
use Rattle.std.specs.Ordering.{int_eq}
use Rattle.std.specs.Bool.{Decides}
use Rattle.std.proofs.lemmas.List.{append-nil}
use Rattle.std.proofs.lemmas.Bool.Decides.{same_from_decides, Decides-eqb, Decides-int_eq}
use Rattle.std.specs.List.{flat_map}
use Rattle.std.specs.Fmt.{signed_decimal}
use Rattle.lam_geom.specs.declared.place.Point.{Point}
use Rattle.cif_form.specs.Writing.{space, point_text, direction_text, is_number}
use Rattle.cif_writer.specs.Texts.{number_text}

pub one_text : (y z : ℤ) → y ≡ z → flat_map number_text (y ∷ []) ≡ number_text z
one_text y z e = append-nil (number_text y) ∙ ap number_text e

two_texts : (p : Point) → flat_map number_text (p.x ∷ p.y ∷ []) ≡ space ++ point_text p
two_texts p = ap (λ t. number_text p.x ++ t) (append-nil (number_text p.y))
    ∙ append_assoc space (signed_decimal p.x) (number_text p.y)

-- the two tests of a number
same_test : (z : ℤ) (m : ℕ) → is_number z m ≡ int_eq z (pos m)
same_test z m = same_from_decides (is_number z m) (int_eq z (pos m)) (decides z m) (Decides-int_eq z (pos m))
  where
    decides : (z : ℤ) (m : ℕ) → Decides (is_number z m) (z ≡ pos m)
    decides (pos n) m =
        let d = Decides-eqb n m in
        ((λ e. ap (λ n. pos n) (d.0 e)), (λ e. let f : n ≡ m = cc in d.1 f))
    decides (negsuc n) m = ((λ e. absurd (let f : false ≡ true = e in cc)), (λ e. absurd (cc)))

-- the direction's text, by the test of the program
pub direction_is : (d : Point) (b : Bool) → (int_eq d.x (pos 1) && int_eq d.y (pos 0)) ≡ b
    → direction_text d ≡ (if b then [] else space ++ point_text d)
direction_is d b e =
    let same : (is_number d.x 1 && is_number d.y 0) ≡ b = (λ i. same_test d.x 1 i && same_test d.y 0 i) ∙ e in
    ap (λ b. if b then [] else space ++ point_text d) same

behind_point : (p : Point) (rest : List ℕ)
    → number_text p.x ++ (number_text p.y ++ rest) ≡ space ++ (point_text p ++ rest)
behind_point p rest = ap (λ t. space ++ t) (sym (append_assoc (signed_decimal p.x) (number_text p.y) rest))

-- the numbers of a box without a direction
pub plain_box : (l w : ℤ) (c : Point)
    → flat_map number_text (l ∷ w ∷ c.x ∷ c.y ∷ []) ≡ number_text l
    ++ (number_text w ++ (space ++ (point_text c ++ [])))
plain_box l w c = ap (λ t. number_text l ++ (number_text w ++ t)) (behind_point c [])

-- and with one
pub directed_box : (l w : ℤ) (c d : Point)
    → flat_map number_text (l ∷ w ∷ c.x ∷ c.y ∷ d.x ∷ d.y ∷ []) ≡ number_text l
    ++ (number_text w ++ (space ++ (point_text c ++ (space ++ point_text d))))
directed_box l w c d =
    ap (λ t. number_text l ++ (number_text w ++ t))
    (behind_point c (flat_map number_text (d.x ∷ d.y ∷ [])) ∙ ap (λ t. space ++ (point_text c ++ t)) (two_texts d))
