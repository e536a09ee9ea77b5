-- The order of a path: its nets stand one after another, each with its rank.
use Rattle.std.proofs.Common.{◌≡◌, ℕ, ◌<◌, ◌≤◌, ◌+◌, ◌-◌, zero, suc, ◌⊎◌, inl, inr, List, [], ◌∷◌, ◌++◌, Some, Bool}
use Rattle.std.proofs.Common.{true, false, cond, length, take, get_or, append_assoc, refl, sym, ◌∙◌, ap, arith}
use Rattle.std.specs.Prelude.{slice_get}
use Rattle.std.specs.List.{count_by}
use Rattle.std.proofs.lemmas.Bool.{and_parts, eqb-true, leb-true}
use Rattle.std.proofs.lemmas.Bool.Decides.{nat_tests}
use Rattle.std.proofs.lemmas.List.{append-nil, length-append, take_more}
use Rattle.std.proofs.lemmas.List.Sums.{sum_by-cons}
use Rattle.std.proofs.lemmas.Option.{none-some, same_Some}
use Rattle.nor_net.specs.Elements.{Spot}
use Rattle.path_form.specs.declared.path.Piece.{Piece}
use Rattle.path_form.specs.Shape.{is_in, rank}
use Rattle.path_flat.specs.declared.places.Place.{Place}
use Rattle.path_flat.specs.Numbers.{spot_of}
use Rattle.path_flat.specs.Numbered.{total}
use Rattle.path_flat.specs.Order.{places_from, places_of}

pub record IsIn (n : Spot) (p : Piece) : Type 0 where
  pub band : p.band ≡ n.band
  pub first : p.first ≤ n.net
  pub last : n.net ≤ p.last

in_piece : (n : Spot) (p : Piece) → is_in n p ≡ true → IsIn n p
in_piece n p e =
    let a = and_parts _ _ e in
    let b = and_parts _ _ a.1 in
    record { band = eqb-true _ _ a.0; first = leb-true _ _ b.0; last = leb-true _ _ b.1 }

counted : (n : Spot) (p : Piece) (ps : List Piece)
    → count_by (is_in n) (p ∷ ps) ≡ cond (is_in n p) 1 0 + count_by (is_in n) ps
counted n p ps = sum_by-cons (λ q. cond (is_in n q) 1 0) p ps

-- a net that a piece has stands among all
pub rank_within : (ps : List Piece) (n : Spot) → 0 < count_by (is_in n) ps → rank ps n < total ps
rank_within [] n h = absurd (omega arith)
rank_within (p ∷ ps) n h = by_test (is_in n p) refl (λ l. rank_within ps n l)
  where
    by_test : (b : Bool) → is_in n p ≡ b → (0 < count_by (is_in n) ps → rank ps n < total ps)
        → cond b (n.net - p.first) ((suc p.last - p.first) + rank ps n) < (suc p.last - p.first) + total ps
    by_test true e again = let i = in_piece n p e in omega (arith, i.first, i.last)
    by_test false e again =
        let c = counted n p ps ∙ ap (λ b. cond b 1 0 + count_by (is_in n) ps) e in
        let r = again (omega (arith, c, h)) in omega (arith, r)

-- and one that stands among all is in a piece
pub within_counts : (ps : List Piece) (n : Spot) → rank ps n < total ps → 0 < count_by (is_in n) ps
within_counts [] n h = absurd (omega arith)
within_counts (p ∷ ps) n h = by_test (is_in n p) refl h (λ l. within_counts ps n l)
  where
    by_test : (b : Bool) → is_in n p ≡ b
        → cond b (n.net - p.first) ((suc p.last - p.first) + rank ps n) < (suc p.last - p.first) + total ps
        → (rank ps n < total ps → 0 < count_by (is_in n) ps) → 0 < count_by (is_in n) (p ∷ ps)
    by_test true e h again =
        let c = counted n p ps ∙ ap (λ b. cond b 1 0 + count_by (is_in n) ps) e in omega (arith, c)
    by_test false e h again =
        let c = counted n p ps ∙ ap (λ b. cond b 1 0 + count_by (is_in n) ps) e in
        let r = again (omega (arith, h)) in omega (arith, c, r)

same_spot : (m n : Spot) → m.band ≡ n.band → m.net ≡ n.net → m ≡ n
same_spot m n b e = λ i. record { band = b i; net = e i }

-- no two nets have one rank
pub rank_once : (ps : List Piece) (m n : Spot) → rank ps m ≡ rank ps n → rank ps n < total ps → m ≡ n
rank_once [] m n e h = absurd (omega arith)
rank_once (p ∷ ps) m n e h = by_tests (is_in m p) (is_in n p) refl refl e h (λ q l. rank_once ps m n q l)
  where
    by_tests : (a b : Bool) → is_in m p ≡ a → is_in n p ≡ b
        → cond a (m.net - p.first) ((suc p.last - p.first) + rank ps m)
        ≡ cond b (n.net - p.first) ((suc p.last - p.first) + rank ps n)
        → cond b (n.net - p.first) ((suc p.last - p.first) + rank ps n) < (suc p.last - p.first) + total ps
        → (rank ps m ≡ rank ps n → rank ps n < total ps → m ≡ n) → m ≡ n
    by_tests true true x y e h again =
        let i = in_piece m p x in
        let j = in_piece n p y in
        same_spot m n (sym i.band ∙ j.band) (omega (arith, e, i.first, j.first))
    by_tests true false x y e h again = let i = in_piece m p x in absurd (omega (arith, e, i.first, i.last))
    by_tests false true x y e h again = let j = in_piece n p y in absurd (omega (arith, e, j.first, j.last))
    by_tests false false x y e h again = again (omega (arith, e)) (omega (arith, h))

-- ---- the list of all nets

pub at_append : {X : Type 0} (xs ys : List X) (i : ℕ) (x : X) → slice_get (xs ++ ys) i ≡ Some x
    → (slice_get xs i ≡ Some x) ⊎ ((j : ℕ) × (i ≡ length xs + j) × (slice_get ys j ≡ Some x))
at_append [] ys i x e = inr (i, omega arith, e)
at_append (z ∷ zs) ys zero x e = inl e
at_append (z ∷ zs) ys (suc i) x e = elim (at_append zs ys i x e) [
  | inl h ↦ inl h
  | inr h ↦ inr (h.0, (let k = h.1 in omega (arith, k)), h.2)
]

pub record IsFrom (b first count i : ℕ) (x : Place) : Type 0 where
  pub band : x.band ≡ b
  pub net : x.net ≡ first + i
  pub within : i < count

from_at : (band first count i : ℕ) (x : Place) → slice_get (places_from band first count) i ≡ Some x
    → IsFrom band first count i x
from_at band first zero i x e = absurd (none-some x e)
from_at band first (suc count) zero x e =
    let s = same_Some _ _ e in
    record {
      band = ap (λ (y : Place). y.band) (sym s);
      net = (let q = ap (λ (y : Place). y.net) s in omega (arith, q));
      within = omega arith;
    }
from_at band first (suc count) (suc i) x e =
    let r = from_at band (suc first) count i x e in
    record {
      band = r.band;
      net = (let q = r.net in omega (arith, q));
      within = (let q = r.within in omega (arith, q));
    }

length_from : (band first count : ℕ) → length (places_from band first count) ≡ count
length_from band first zero = refl
length_from band first (suc count) = let r = length_from band (suc first) count in omega (arith, r)

pub length_places : (ps : List Piece) → length (places_of ps) ≡ total ps
length_places [] = refl
length_places (p ∷ ps) =
    length-append (places_from p.band p.first (suc p.last - p.first)) (places_of ps)
    ∙ (let a = length_from p.band p.first (suc p.last - p.first) in let b = length_places ps in omega (arith, a, b))

is_in_from : (p : Piece) (i : ℕ) (x : Place) → IsFrom p.band p.first (suc p.last - p.first) i x
    → is_in (spot_of x) p ≡ true
is_in_from p i x f =
    let b : p.band ≡ x.band = sym f.band in
    let n = f.net in
    let w = f.within in
    grind (arith, nat_tests, b, n, w)

-- what stands in the list is in a piece
place_counts : (ps : List Piece) (i : ℕ) (x : Place) → slice_get (places_of ps) i ≡ Some x
    → 0 < count_by (is_in (spot_of x)) ps
place_counts [] i x e = absurd (none-some x e)
place_counts (p ∷ ps) i x e =
    by_part (at_append (places_from p.band p.first (suc p.last - p.first)) (places_of ps) i x e) (place_counts ps)
  where
    c : count_by (is_in (spot_of x)) (p ∷ ps) ≡ cond (is_in (spot_of x) p) 1 0 + count_by (is_in (spot_of x)) ps
    c = counted (spot_of x) p ps

    by_part : (slice_get (places_from p.band p.first (suc p.last - p.first)) i ≡ Some x)
        ⊎ ((j : ℕ) × (i ≡ length (places_from p.band p.first (suc p.last - p.first)) + j)
        × (slice_get (places_of ps) j ≡ Some x))
        → ((j : ℕ) (x : Place) → slice_get (places_of ps) j ≡ Some x → 0 < count_by (is_in (spot_of x)) ps)
        → 0 < count_by (is_in (spot_of x)) (p ∷ ps)
    by_part (inl h) again =
        let t = is_in_from p i x (from_at p.band p.first (suc p.last - p.first) i x h) in
        let d = c ∙ ap (λ b. cond b 1 0 + count_by (is_in (spot_of x)) ps) t in omega (arith, d)
    by_part (inr h) again = let r = again h.0 x h.2 in omega (arith, c, r)

-- a net that stands once has its index as its rank
pub rank_at : (ps : List Piece) (i : ℕ) (x : Place) → slice_get (places_of ps) i ≡ Some x
    → count_by (is_in (spot_of x)) ps ≤ 1 → rank ps (spot_of x) ≡ i
rank_at [] i x e l = absurd (none-some x e)
rank_at (p ∷ ps) i x e l =
    by_part (at_append (places_from p.band p.first (suc p.last - p.first)) (places_of ps) i x e) (λ j. rank_at ps j x)
  where
    c : count_by (is_in (spot_of x)) (p ∷ ps) ≡ cond (is_in (spot_of x) p) 1 0 + count_by (is_in (spot_of x)) ps
    c = counted (spot_of x) p ps

    by_test : (b : Bool) (j : ℕ) → is_in (spot_of x) p ≡ b
        → i ≡ length (places_from p.band p.first (suc p.last - p.first)) + j → slice_get (places_of ps) j ≡ Some x
        → (slice_get (places_of ps) j ≡ Some x → count_by (is_in (spot_of x)) ps ≤ 1 → rank ps (spot_of x) ≡ j)
        → cond b (x.net - p.first) ((suc p.last - p.first) + rank ps (spot_of x)) ≡ i
    by_test true j t s f again =
        let d = c ∙ ap (λ b. cond b 1 0 + count_by (is_in (spot_of x)) ps) t in
        let some = place_counts ps j x f in absurd (omega (arith, d, some, l))
    by_test false j t s f again =
        let d = c ∙ ap (λ b. cond b 1 0 + count_by (is_in (spot_of x)) ps) t in
        let r = again f (omega (arith, d, l)) in
        let z = length_from p.band p.first (suc p.last - p.first) in omega (arith, r, s, z)

    by_part : (slice_get (places_from p.band p.first (suc p.last - p.first)) i ≡ Some x)
        ⊎ ((j : ℕ) × (i ≡ length (places_from p.band p.first (suc p.last - p.first)) + j)
        × (slice_get (places_of ps) j ≡ Some x))
        → ((j : ℕ) → slice_get (places_of ps) j ≡ Some x → count_by (is_in (spot_of x)) ps ≤ 1
        → rank ps (spot_of x) ≡ j)
        → rank (p ∷ ps) (spot_of x) ≡ i
    by_part (inl h) again =
        let f = from_at p.band p.first (suc p.last - p.first) i x h in
        let t = is_in_from p i x f in
        ap (λ b. cond b (x.net - p.first) ((suc p.last - p.first) + rank ps (spot_of x))) t
        ∙ (let n = f.net in omega (arith, n))
    by_part (inr h) again = by_test (is_in (spot_of x) p) h.0 refl h.1 h.2 (again h.0)

-- ---- the list, made piece by piece

from_push : (band first count : ℕ)
    → places_from band first (suc count) ≡ places_from band first count
    ++ record { band = band; net = first + count } ∷ []
from_push band first zero =
    let e : first ≡ first + 0 = omega arith in ap (λ n. record { band = band; net = n } ∷ []) e
from_push band first (suc count) =
    let e : suc first + count ≡ first + suc count = omega arith in
    ap (λ xs. record { band = band; net = first } ∷ xs) (from_push band (suc first) count)
    ∙ ap (λ n. record { band = band; net = first } ∷ (places_from band (suc first) count
    ++ record { band = band; net = n } ∷ [])) e

-- one more net of a piece
pub net_more : (start xs ys : List Place) (band first net : ℕ) → first ≤ net
    → xs ≡ start ++ places_from band first (net - first) → ys ≡ xs ++ record { band = band; net = net } ∷ []
    → ys ≡ start ++ places_from band first (net + 1 - first)
net_more start xs ys band first net l was is =
    let c : suc (net - first) ≡ net + 1 - first = omega (arith, l) in
    let n : first + (net - first) ≡ net = omega (arith, l) in
    is ∙ ap (λ zs. zs ++ record { band = band; net = net } ∷ []) was
    ∙ append_assoc start (places_from band first (net - first)) (record { band = band; net = net } ∷ [])
    ∙ ap (λ k. start ++ (places_from band first (net - first) ++ record { band = band; net = k } ∷ [])) (sym n)
    ∙ ap (λ zs. start ++ zs) (sym (from_push band first (net - first)))
    ∙ ap (λ k. start ++ places_from band first k) c

places_push : (ps : List Piece) (p : Piece)
    → places_of (ps ++ p ∷ []) ≡ places_of ps ++ places_from p.band p.first (suc p.last - p.first)
places_push [] p = append-nil (places_from p.band p.first (suc p.last - p.first))
places_push (q ∷ qs) p =
    ap (λ xs. places_from q.band q.first (suc q.last - q.first) ++ xs) (places_push qs p)
    ∙ sym (append_assoc (places_from q.band q.first (suc q.last - q.first)) (places_of qs)
    (places_from p.band p.first (suc p.last - p.first)))

-- one more piece
pub piece_more : (order : List Piece) (i : ℕ) (d : Piece) (xs ys : List Place) (net : ℕ) → i < length order
    → xs ≡ places_of (take i order)
    → ys ≡ xs ++ places_from (get_or order i d).band (get_or order i d).first (net - (get_or order i d).first)
    → net - (get_or order i d).first ≡ suc (get_or order i d).last - (get_or order i d).first
    → ys ≡ places_of (take (i + 1) order)
piece_more order i d xs ys net l was is e =
    is ∙ ap (λ zs. zs ++ places_from (get_or order i d).band (get_or order i d).first
    (net - (get_or order i d).first)) was
    ∙ ap (λ k. places_of (take i order) ++ places_from (get_or order i d).band (get_or order i d).first k) e
    ∙ sym (places_push (take i order) (get_or order i d)) ∙ ap places_of (sym (take_more order i d l))

last_in : (p : Piece) → p.first ≤ p.last → is_in (record { band = p.band; net = p.last }) p ≡ true
last_in p some = grind (arith, nat_tests, some)

-- a piece that isn't empty has its last net
pub piece_counts : (ps : List Piece) (k : ℕ) (d : Piece) → k < length ps
    → (get_or ps k d).first ≤ (get_or ps k d).last
    → 0 < count_by (is_in (record { band = (get_or ps k d).band; net = (get_or ps k d).last })) ps
piece_counts [] k d l some = absurd (omega arith)
piece_counts (p ∷ ps) zero d l some =
    let n : Spot = record { band = p.band; net = p.last } in
    let t : is_in n p ≡ true = last_in p some in
    let c = counted n p ps ∙ ap (λ b. cond b 1 0 + count_by (is_in n) ps) t in
    omega (arith, c)
piece_counts (p ∷ ps) (suc k) d l some =
    let n : Spot = record { band = (get_or ps k d).band; net = (get_or ps k d).last } in
    let c = counted n p ps in
    let r = piece_counts ps k d (omega (arith, l)) some in
    omega (arith, c, r)
