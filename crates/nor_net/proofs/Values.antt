-- What NORs of values are.
use Rattle.std.proofs.Common.{◌≡◌, zero, suc, ◌⊎◌, inl, inr, List, [], ◌∷◌, Bool, true, false, cond, map, refl, sym}
use Rattle.std.proofs.Common.{◌∙◌, ap, arith}
use Rattle.std.specs.Prelude.{All, Contains, ◌||◌, ◌&&◌}
use Rattle.std.specs.List.{list_any, list_all}
use Rattle.mp_base.specs.declared.value.Trit.{Trit}
use Rattle.mp_base.specs.declared.value.Trit.TheVariants.{Zero, One, X}
use Rattle.nor_net.specs.Elements.{Spot}
use Rattle.nor_net.specs.Settled.{is_zero, is_one, nor_value}
use Rattle.nor_net.specs.Laws.{bit}

-- X is below 0 and below 1
abbrev pub Below : Trit → Trit → Type 0
Below t u = (t ≡ X) ⊎ (t ≡ u)

pub any_one : {N : Type 0} (v : N → Trit) (inputs : List N) (m : N) → Contains inputs m → v m ≡ One
    → list_any is_one (map v inputs) ≡ true
any_one v [] m c e = absurd (omega (arith, c.1))
any_one v (x ∷ xs) m (zero, l, is) e = by_head (v x) (ap v is ∙ e)
  where
    by_head : (t : Trit) → t ≡ One → list_any is_one (t ∷ map v xs) ≡ true
    by_head One q = refl
    by_head Zero q = absurd (cc)
    by_head X q = absurd (cc)
any_one v (x ∷ xs) m (suc k, l, is) e = by_head (is_one (v x)) (any_one v xs m (k, omega arith, is) e)
  where
    by_head : (b : Bool) → list_any is_one (map v xs) ≡ true → (b || list_any is_one (map v xs)) ≡ true
    by_head true q = refl
    by_head false q = q

pub nor_zero : (vs : List Trit) → list_any is_one vs ≡ true → nor_value vs ≡ Zero
nor_zero vs e = ap (λ b. cond b Zero (cond (list_all is_zero vs) One X)) e

-- ---- bits

one_of_bit : (b : Bool) → is_one (bit b) ≡ b
one_of_bit true = refl
one_of_bit false = refl

zero_of_bit : (b : Bool) → is_zero (bit b) ≡ cond b false true
zero_of_bit true = refl
zero_of_bit false = refl

-- of bits, either all are 0 or one is 1
module _ {N : Type 0} (b : N → Bool) where
  abbrev None_on : List N → Bool
  None_on inputs = list_all (λ m. cond (b m) false true) inputs

  any_bits : (inputs : List N) → list_any is_one (map (λ m. bit (b m)) inputs) ≡ cond (None_on inputs) false true
  any_bits [] = refl
  any_bits (x ∷ xs) = by_head (b x) (any_bits xs)
    where
      by_head : (h : Bool) → list_any is_one (map (λ m. bit (b m)) xs) ≡ cond (None_on xs) false true
          → (is_one (bit h) || list_any is_one (map (λ m. bit (b m)) xs)) ≡ cond
          (cond h false true && None_on xs) false true
      by_head true q = refl
      by_head false q = q

  all_bits : (inputs : List N) → list_all is_zero (map (λ m. bit (b m)) inputs) ≡ None_on inputs
  all_bits [] = refl
  all_bits (x ∷ xs) = by_head (b x) (all_bits xs)
    where
      by_head : (h : Bool) → list_all is_zero (map (λ m. bit (b m)) xs) ≡ None_on xs
          → (is_zero (bit h) && list_all is_zero (map (λ m. bit (b m)) xs)) ≡ (cond h false true && None_on xs)
      by_head true q = refl
      by_head false q = q

  pub nor_bits : (inputs : List N) → nor_value (map (λ m. bit (b m)) inputs) ≡ bit (None_on inputs)
  nor_bits inputs = by_none (list_any is_one (map (λ m. bit (b m)) inputs))
      (list_all is_zero (map (λ m. bit (b m)) inputs)) (None_on inputs) (any_bits inputs) (all_bits inputs)
    where
      by_none : (any all none : Bool) → any ≡ cond none false true → all ≡ none
          → cond any Zero (cond all One X) ≡ bit none
      by_none any all true p q = ap (λ x. cond x Zero (cond all One X)) p ∙ ap (λ x. cond x One X) q
      by_none any all false p q = ap (λ x. cond x Zero (cond all One X)) p

pub map_same : {N : Type 0} (v w : N → Trit) (inputs : List N) → All (λ m. v m ≡ w m) inputs
    → map v inputs ≡ map w inputs
map_same v w [] h = refl
map_same v w (x ∷ xs) h =
    let e : v x ≡ w x = h 0 x (omega arith) in
    let r : map v xs ≡ map w xs = map_same v w xs (λ k d l. h (suc k) d (omega arith)) in
    λ i. e i ∷ r i

-- ---- NORs grow with their inputs

one_grows : (t u : Trit) → Below t u → is_one t ≡ true → is_one u ≡ true
one_grows One u (inl e) q = absurd (cc)
one_grows One u (inr e) q = ap is_one (sym e)
one_grows Zero u b q = absurd (cc)
one_grows X u b q = absurd (cc)

zero_grows : (t u : Trit) → Below t u → is_zero t ≡ true → is_zero u ≡ true
zero_grows Zero u (inl e) q = absurd (cc)
zero_grows Zero u (inr e) q = ap is_zero (sym e)
zero_grows One u b q = absurd (cc)
zero_grows X u b q = absurd (cc)

zero_not_one : (t : Trit) → is_zero t ≡ true → is_one t ≡ false
zero_not_one Zero q = refl
zero_not_one One q = absurd (cc)
zero_not_one X q = absurd (cc)

or_grows : (a b c d : Bool) → (a ≡ true → c ≡ true) → (b ≡ true → d ≡ true) → (a || b) ≡ true → (c || d) ≡ true
or_grows true b c d f g q = ap (λ x. x || d) (f refl)
or_grows false b true d f g q = refl
or_grows false b false d f g q = g q

and_grows : (a b c d : Bool) → (a ≡ true → c ≡ true) → (b ≡ true → d ≡ true) → (a && b) ≡ true → (c && d) ≡ true
and_grows true b c d f g q = ap (λ x. x && d) (f refl) ∙ g q
and_grows false b c d f g q = absurd (cc)

module _ (v w : Spot → Trit) (h : (n : Spot) → Below (v n) (w n)) where
  any_grows : (inputs : List Spot) → list_any is_one (map v inputs) ≡ true → list_any is_one (map w inputs) ≡ true
  any_grows [] q = q
  any_grows (x ∷ xs) q =
      or_grows (is_one (v x)) (list_any is_one (map v xs)) (is_one (w x)) (list_any is_one (map w xs))
      (one_grows (v x) (w x) (h x)) (any_grows xs) q

  all_grows : (inputs : List Spot) → list_all is_zero (map v inputs) ≡ true → list_all is_zero (map w inputs) ≡ true
  all_grows [] q = q
  all_grows (x ∷ xs) q =
      and_grows (is_zero (v x)) (list_all is_zero (map v xs)) (is_zero (w x)) (list_all is_zero (map w xs))
      (zero_grows (v x) (w x) (h x)) (all_grows xs) q

all_not_any : (vs : List Trit) → list_all is_zero vs ≡ true → list_any is_one vs ≡ false
all_not_any [] q = refl
all_not_any (t ∷ ts) q = by_head t q (all_not_any ts)
  where
    by_head : (t : Trit) → (is_zero t && list_all is_zero ts) ≡ true
        → (list_all is_zero ts ≡ true → list_any is_one ts ≡ false)
        → (is_one t || list_any is_one ts) ≡ false
    by_head Zero q again = again q
    by_head One q again = absurd (cc)
    by_head X q again = absurd (cc)

pub nor_grows : (v w : Spot → Trit) → ((n : Spot) → Below (v n) (w n)) → (inputs : List Spot)
    → Below (nor_value (map v inputs)) (nor_value (map w inputs))
nor_grows v w h inputs = by_tests (list_any is_one (map v inputs)) refl (list_all is_zero (map v inputs)) refl
  where
    by_tests : (any : Bool) → list_any is_one (map v inputs) ≡ any → (all : Bool)
        → list_all is_zero (map v inputs) ≡ all
        → Below (nor_value (map v inputs)) (nor_value (map w inputs))
    by_tests true p all q = inr (nor_zero (map v inputs) p ∙ sym (nor_zero (map w inputs) (any_grows v w h inputs p)))
    by_tests false p true q =
        let too : list_all is_zero (map w inputs) ≡ true = all_grows v w h inputs q in
        let none : list_any is_one (map w inputs) ≡ false = all_not_any (map w inputs) too in
        let left : nor_value (map v inputs) ≡ One =
        ap (λ b. cond b Zero (cond (list_all is_zero (map v inputs)) One X)) p ∙ ap (λ b. cond b One X) q in
        let right : nor_value (map w inputs) ≡ One =
        ap (λ b. cond b Zero (cond (list_all is_zero (map w inputs)) One X)) none ∙ ap (λ b. cond b One X) too in
        inr (left ∙ sym right)
    by_tests false p false q =
        inl (ap (λ b. cond b Zero (cond (list_all is_zero (map v inputs)) One X)) p ∙ ap (λ b. cond b One X) q)
