-- The squares of one command are determined, and motions carry squares.
use Rattle.std.proofs.Common.{◌≡◌, ◌⊎◌, ◌↔◌, inl, inr, refl, sym, ◌∙◌, ap, subst, arith, List, [], ◌∷◌, ◌++◌, map, All}
use Rattle.std.specs.List.{AllZip}
use Rattle.std.specs.Prelude.{ℤ, negsuc, neg_ℤ, ◌+ℤ◌, ◌-ℤ◌}
use Rattle.std.proofs.lemmas.Int.{ints}
use Rattle.std.proofs.lemmas.List.Elements.{All-head, All-tail}
use Rattle.lam_geom.specs.declared.layer.Layer.{Layer}
use Rattle.lam_geom.specs.declared.place.Point.{Point}
use Rattle.lam_geom.specs.declared.rect.Rect.{Rect}
use Rattle.lam_geom.specs.Squares.{Covers, covered, SameSquares}
use Rattle.cif_form.specs.declared.command.Command.{Command}
use Rattle.cif_form.specs.declared.command.Command.TheVariants.{Polygon, Box, Round, Wire, Layer as SetLayer, Start}
use Rattle.cif_form.specs.declared.command.Command.TheVariants.{Finish, Delete, Call, User, Comment}
use Rattle.poly_split.specs.Moving.{Fills}
use Rattle.cif_form.specs.Place.{Scale, segments, IsScaledPoint, HasEdges, Motion, moved, placed}
use Rattle.cif_form.specs.Place.Motion.{Shift, NegateX, NegateY, Quarter}
use Rattle.cif_form.proofs.OnePlace.{one_scaled, one_box, one_wire}

-- both cover the same squares
abbrev pub Same : List Rect → List Rect → Type 0
Same rs qs = SameSquares (covered rs) (covered qs)

pub same_itself : (rs : List Rect) → Same rs rs
same_itself rs = λ l x y. ((λ h. h), (λ h. h))

pub same_of : (rs qs : List Rect) → rs ≡ qs → Same rs qs
same_of rs qs e = subst (Same rs) e (same_itself rs)

pub same_turned : (rs qs : List Rect) → Same rs qs → Same qs rs
same_turned rs qs h = λ l x y. let k = h l x y in (k.1, k.0)

pub same_then : (rs qs ps : List Rect) → Same rs qs → Same qs ps → Same rs ps
same_then rs qs ps h k = λ l x y. let a = h l x y in let b = k l x y in ((λ c. b.0 (a.0 c)), (λ c. a.1 (b.1 c)))

pub covered_append : (rs qs : List Rect) (l : Layer) (x y : ℤ)
    → covered (rs ++ qs) l x y ↔ (covered rs l x y ⊎ covered qs l x y)
covered_append [] qs l x y = ((λ h. inr h), (λ h. elim h [ inl a ↦ absurd a | inr a ↦ a ]))
covered_append (r ∷ rs) qs l x y =
    let again = covered_append rs qs l x y in (
      (λ h. elim h [
        | inl a ↦ inl (inl a)
        | inr a ↦ elim (again.0 a) [ inl b ↦ inl (inr b) | inr b ↦ inr b ]
      ]),
      (λ h. elim h [
        | inl a ↦ elim a [ inl b ↦ inl b | inr b ↦ inr (again.1 (inl b)) ]
        | inr a ↦ inr (again.1 (inr a))
      ]),
    )

pub same_append : (rs qs ps os : List Rect) → Same rs qs → Same ps os → Same (rs ++ ps) (qs ++ os)
same_append rs qs ps os h k = λ l x y.
    let a = covered_append rs ps l x y in
    let b = covered_append qs os l x y in
    let c = h l x y in
    let d = k l x y in (
      (λ f. b.1 (elim (a.0 f) [ inl g ↦ inl (c.0 g) | inr g ↦ inr (d.0 g) ])),
      (λ f. a.1 (elim (b.0 f) [ inl g ↦ inl (c.1 g) | inr g ↦ inr (d.1 g) ])),
    )

-- ---- fillings

on_layer : (l k : Layer) (rs : List Rect) (x y : ℤ) → All (λ r. r.layer ≡ l) rs → covered rs k x y → k ≡ l
on_layer l k [] x y h c = absurd c
on_layer l k (r ∷ rs) x y h (inl c) = sym c.same ∙ All-head (λ r. r.layer ≡ l) r rs h
on_layer l k (r ∷ rs) x y h (inr c) = on_layer l k rs x y (All-tail (λ r. r.layer ≡ l) r rs h) c

fill_in : (l : Layer) (ps : List Point) (rs qs : List Rect) → Fills l ps rs → Fills l ps qs → (k : Layer) (x y : ℤ)
    → covered rs k x y → covered qs k x y
fill_in l ps rs qs h g k x y c =
    let e = on_layer l k rs x y h.layer c in
    let here = subst (λ k. covered rs k x y) e c in
    subst (λ k. covered qs k x y) (sym e) ((g.inside x y).1 ((h.inside x y).0 here))

one_fill : (l : Layer) (ps : List Point) (rs qs : List Rect) → Fills l ps rs → Fills l ps qs → Same rs qs
one_fill l ps rs qs h g = λ k x y. (fill_in l ps rs qs h g k x y, fill_in l ps qs rs g h k x y)

one_points : (s : Scale) (path ps qs : List Point) → AllZip (IsScaledPoint s) path ps → AllZip (IsScaledPoint s) path qs
    → ps ≡ qs
one_points s [] [] [] h k = refl
one_points s (p ∷ path) (q ∷ ps) (o ∷ qs) h k =
    let x = one_scaled s _ q.x o.x h.0.0 k.0.0 in
    let y = one_scaled s _ q.y o.y h.0.1 k.0.1 in
    let rest = one_points s path ps qs h.1 k.1 in
    λ i. record { x = x i; y = y i } ∷ rest i
one_points s [] (q ∷ ps) qs h k = absurd h
one_points s [] [] (q ∷ qs) h k = absurd k
one_points s (p ∷ path) [] qs h k = absurd h
one_points s (p ∷ path) (q ∷ ps) [] h k = absurd k

pub same_edges : (s : Scale) (l : Layer) (c : Command) (rs qs : List Rect) → HasEdges s l c rs → HasEdges s l c qs
    → Same rs qs
same_edges s l (Box a b c d) rs qs (r, e, h) (q, f, k) =
    same_of rs qs (e ∙ (λ i. one_box s l a b c d r q h k i ∷ []) ∙ sym f)
same_edges s l (Wire w ps) rs qs h k = same_of rs qs (one_wire s l w (segments ps) rs qs h k)
same_edges s l (Polygon path) rs qs (ps, hp, h) (os, ho, k) =
    one_fill l ps rs qs h (subst (λ z. Fills l z qs) (one_points s path os ps ho hp) k)
same_edges s l (Round a b) rs qs h k = absurd h
same_edges s l (SetLayer name) rs qs h k = absurd h
same_edges s l (Start n a b) rs qs h k = absurd h
same_edges s l Finish rs qs h k = absurd h
same_edges s l (Delete n) rs qs h k = absurd h
same_edges s l (Call n ts) rs qs h k = absurd h
same_edges s l (User d t) rs qs h k = absurd h
same_edges s l (Comment t) rs qs h k = absurd h

-- ---- motions

abbrev from_x : Motion → ℤ → ℤ → ℤ
from_x (Shift dx dy) x y = x -ℤ dx
from_x NegateX x y = neg_ℤ x +ℤ negsuc 0
from_x NegateY x y = x
from_x Quarter x y = y

abbrev from_y : Motion → ℤ → ℤ → ℤ
from_y (Shift dx dy) x y = y -ℤ dy
from_y NegateX x y = y
from_y NegateY x y = neg_ℤ y +ℤ negsuc 0
from_y Quarter x y = neg_ℤ x +ℤ negsuc 0

moved_covers : (m : Motion) (r : Rect) (l : Layer) (x y : ℤ)
    → Covers (moved m r) l x y ↔ Covers r l (from_x m x y) (from_y m x y)
unfolding moved
moved_covers (Shift dx dy) r l x y = (
  (λ c. let a = c.left in let b = c.right in let d = c.bottom in let e = c.top in record {
    same = c.same;
    left = omega (arith, ints, a);
    right = omega (arith, ints, b);
    bottom = omega (arith, ints, d);
    top = omega (arith, ints, e);
  }),
  (λ c. let a = c.left in let b = c.right in let d = c.bottom in let e = c.top in record {
    same = c.same;
    left = omega (arith, ints, a);
    right = omega (arith, ints, b);
    bottom = omega (arith, ints, d);
    top = omega (arith, ints, e);
  }),
)
moved_covers NegateX r l x y = (
  (λ c. let a = c.left in let b = c.right in record {
    same = c.same;
    left = omega (arith, ints, b);
    right = omega (arith, ints, a);
    bottom = c.bottom;
    top = c.top;
  }),
  (λ c. let a = c.left in let b = c.right in record {
    same = c.same;
    left = omega (arith, ints, b);
    right = omega (arith, ints, a);
    bottom = c.bottom;
    top = c.top;
  }),
)
moved_covers NegateY r l x y = (
  (λ c. let d = c.bottom in let e = c.top in record {
    same = c.same;
    left = c.left;
    right = c.right;
    bottom = omega (arith, ints, e);
    top = omega (arith, ints, d);
  }),
  (λ c. let d = c.bottom in let e = c.top in record {
    same = c.same;
    left = c.left;
    right = c.right;
    bottom = omega (arith, ints, e);
    top = omega (arith, ints, d);
  }),
)
moved_covers Quarter r l x y = (
  (λ c. let a = c.left in let b = c.right in record {
    same = c.same;
    left = c.bottom;
    right = c.top;
    bottom = omega (arith, ints, b);
    top = omega (arith, ints, a);
  }),
  (λ c. let d = c.bottom in let e = c.top in record {
    same = c.same;
    left = omega (arith, ints, e);
    right = omega (arith, ints, d);
    bottom = c.left;
    top = c.right;
  }),
)

all_moved : (m : Motion) (rs : List Rect) (l : Layer) (x y : ℤ)
    → covered (map (moved m) rs) l x y ↔ covered rs l (from_x m x y) (from_y m x y)
all_moved m [] l x y = ((λ h. h), (λ h. h))
all_moved m (r ∷ rs) l x y =
    let one = moved_covers m r l x y in
    let again = all_moved m rs l x y in (
      (λ h. elim h [ inl c ↦ inl (one.0 c) | inr c ↦ inr (again.0 c) ]),
      (λ h. elim h [ inl c ↦ inl (one.1 c) | inr c ↦ inr (again.1 c) ]),
    )

same_moved : (m : Motion) (rs qs : List Rect) → Same rs qs → Same (map (moved m) rs) (map (moved m) qs)
same_moved m rs qs h = λ l x y.
    let a = all_moved m rs l x y in
    let b = all_moved m qs l x y in
    let c = h l (from_x m x y) (from_y m x y) in
    ((λ k. b.1 (c.0 (a.0 k))), (λ k. a.1 (c.1 (b.0 k))))

placed_map : (m : Motion) (ms : List Motion) (rs : List Rect)
    → map (placed ms) (map (moved m) rs) ≡ map (placed (m ∷ ms)) rs
placed_map m ms [] = refl
placed_map m ms (r ∷ rs) = ap (λ z. placed ms (moved m r) ∷ z) (placed_map m ms rs)

same_plain : (rs : List Rect) → map (placed []) rs ≡ rs
same_plain [] = refl
same_plain (r ∷ rs) = ap (λ z. r ∷ z) (same_plain rs)

pub same_placed : (ms : List Motion) (rs qs : List Rect) → Same rs qs → Same (map (placed ms) rs) (map (placed ms) qs)
same_placed [] rs qs h = subst (λ z. Same z (map (placed []) qs)) (sym (same_plain rs))
    (subst (λ z. Same rs z) (sym (same_plain qs)) h)
same_placed (m ∷ ms) rs qs h =
    subst (λ z. Same z (map (placed (m ∷ ms)) qs)) (placed_map m ms rs)
    (subst (λ z. Same (map (placed ms) (map (moved m) rs)) z) (placed_map m ms qs)
    (same_placed ms (map (moved m) rs) (map (moved m) qs) (same_moved m rs qs h)))

-- a place that motions make
abbrev pub IsMoving : (Rect → Rect) → Type 0
IsMoving place = (ms : List Motion) × ((r : Rect) → place r ≡ placed ms r)

map_by : (f g : Rect → Rect) → ((r : Rect) → f r ≡ g r) → (rs : List Rect) → map f rs ≡ map g rs
map_by f g h rs = λ i. map (λ r. h r i) rs

pub same_at : (place : Rect → Rect) → IsMoving place → (rs qs : List Rect) → Same rs qs
    → Same (map place rs) (map place qs)
same_at place (ms, h) rs qs k =
    subst (λ z. Same z (map place qs)) (sym (map_by place (placed ms) h rs))
    (subst (λ z. Same (map (placed ms) rs) z) (sym (map_by place (placed ms) h qs)) (same_placed ms rs qs k))

placed_append : (ns ms : List Motion) (r : Rect) → placed (ns ++ ms) r ≡ placed ms (placed ns r)
placed_append [] ms r = refl
placed_append (n ∷ ns) ms r = placed_append ns ms (moved n r)

pub moving_within : (place : Rect → Rect) (ns : List Motion) → IsMoving place → IsMoving (λ r. place (placed ns r))
moving_within place ns (ms, h) = (ns ++ ms, λ r. h (placed ns r) ∙ sym (placed_append ns ms r))
