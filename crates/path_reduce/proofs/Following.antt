-- What has its image by its element has its value.
use Rattle.std.proofs.Common.{◌≡◌, zero, suc, ◌⊎◌, inl, inr, List, [], ◌∷◌, Some, Bool, true, false, cond, map, refl}
use Rattle.std.proofs.Common.{sym, ◌∙◌, ap, arith}
use Rattle.std.specs.Prelude.{All, Contains, ◌||◌, ◌&&◌}
use Rattle.std.specs.List.{list_any, list_all}
use Rattle.mp_base.specs.declared.value.Trit.{Trit}
use Rattle.mp_base.specs.declared.value.Trit.TheVariants.{Zero, One, X}
use Rattle.nor_net.specs.Elements.{Spot, Element, Given, Nor, Latched, Joined, Low, Nets}
use Rattle.nor_net.specs.Settled.{Setting, gives, is_open, is_one, is_zero, nor_value, IsSolution}
use Rattle.nor_net.proofs.Values.{any_one, nor_zero}
use Rattle.path_reduce.specs.Reducing.{Image, net, low, image_value, pulled}
use Rattle.path_reduce.specs.Images.{Become, IsImage, given, by_high, by_lows, by_gate, by_inverter, latched, joined}
use Rattle.path_reduce.specs.Images.{one_net, low_net, always_low, ReductionsReduce}
use Rattle.path_form.specs.Showing.{path_nets}

same_bools : (a b : Bool) → (a ≡ true → b ≡ true) → (b ≡ true → a ≡ true) → a ≡ b
same_bools true true f g = refl
same_bools true false f g = sym (f refl)
same_bools false true f g = g refl
same_bools false false f g = refl

twice : (t : Trit) → nor_value (nor_value (t ∷ []) ∷ []) ≡ t
twice Zero = refl
twice One = refl
twice X = refl

zeros : (v : Spot → Trit) (ms : List Spot) → All (λ m. v m ≡ Zero) ms → nor_value (map v ms) ≡ One
zeros v [] h = refl
zeros v (m ∷ ms) h = by_head (v m) (h 0 m (omega arith)) (zeros v ms (λ k d l. h (suc k) d (omega arith)))
  where
    by_head : (t : Trit) → t ≡ Zero → nor_value (map v ms) ≡ One → nor_value (t ∷ map v ms) ≡ One
    by_head Zero e again = again
    by_head One e again = absurd (cc)
    by_head X e again = absurd (cc)

zero_at : (w : Spot → Trit) (ys : List Spot) (y : Spot) → Contains ys y → list_all is_zero (map w ys) ≡ true
    → is_zero (w y) ≡ true
zero_at w [] y c e = absurd (omega (arith, c.1))
zero_at w (x ∷ xs) y (zero, l, is) e = ap (λ m. is_zero (w m)) (sym is) ∙ by_head (is_zero (w x)) e
  where
    by_head : (b : Bool) → (b && list_all is_zero (map w xs)) ≡ true → b ≡ true
    by_head true q = refl
    by_head false q = q
zero_at w (x ∷ xs) y (suc k, l, is) e =
    zero_at w xs y (k, omega arith, is) (by_head (is_zero (w x)) e)
  where
    by_head : (b : Bool) → (b && list_all is_zero (map w xs)) ≡ true → list_all is_zero (map w xs) ≡ true
    by_head true q = q
    by_head false q = absurd (cc)

-- each of these values is 0 or one of those
abbrev IsAmong : (v w : Spot → Trit) (ys : List Spot) → Spot → Type 0
IsAmong v w ys x = (v x ≡ Zero) ⊎ ((y : Spot) × Contains ys y × (v x ≡ w y))

module _ (v w : Spot → Trit) (ys : List Spot) where
  any_among : (xs : List Spot) → All (IsAmong v w ys) xs → list_any is_one (map v xs) ≡ true
      → list_any is_one (map w ys) ≡ true
  any_among [] h q = absurd (cc)
  any_among (x ∷ xs) h q = by_head (v x) (h 0 x (omega arith)) q (any_among xs (λ k d l. h (suc k) d (omega arith)))
    where
      by_head : (t : Trit) → (t ≡ Zero) ⊎ ((y : Spot) × Contains ys y × (t ≡ w y))
          → (is_one t || list_any is_one (map v xs)) ≡ true
          → (list_any is_one (map v xs) ≡ true → list_any is_one (map w ys) ≡ true)
          → list_any is_one (map w ys) ≡ true
      by_head One (inl e) p again = absurd (cc)
      by_head One (inr y) p again = any_one w ys y.0 y.1 (sym y.2)
      by_head Zero c p again = again p
      by_head X c p again = again p

  all_among : (xs : List Spot) → All (IsAmong v w ys) xs → list_all is_zero (map w ys) ≡ true
      → list_all is_zero (map v xs) ≡ true
  all_among [] h q = refl
  all_among (x ∷ xs) h q = by_head (v x) (h 0 x (omega arith)) (all_among xs (λ k d l. h (suc k) d (omega arith)) q)
    where
      by_head : (t : Trit) → (t ≡ Zero) ⊎ ((y : Spot) × Contains ys y × (t ≡ w y))
          → list_all is_zero (map v xs) ≡ true → (is_zero t && list_all is_zero (map v xs)) ≡ true
      by_head t (inl e) p = ap (λ b. b && list_all is_zero (map v xs)) (ap is_zero e) ∙ p
      by_head t (inr y) p =
          ap (λ b. b && list_all is_zero (map v xs)) (ap is_zero y.2 ∙ zero_at w ys y.0 y.1 q) ∙ p

nor_same : (v w : Spot → Trit) (xs ys : List Spot) → All (IsAmong v w ys) xs → All (IsAmong w v xs) ys
    → nor_value (map v xs) ≡ nor_value (map w ys)
nor_same v w xs ys f g =
    let any = same_bools (list_any is_one (map v xs)) (list_any is_one (map w ys)) (any_among v w ys xs f)
    (any_among w v xs ys g) in
    let all = same_bools (list_all is_zero (map v xs)) (list_all is_zero (map w ys)) (all_among w v xs ys g)
    (all_among v w ys xs f) in
    λ i. cond (any i) Zero (cond (all i) One X)

module _ (nets : Nets) (image : Spot → Image) (s : Setting) (v : Spot → Trit) (same : s.nets ≡ nets)
    (sol : IsSolution s v) where
  here : (k : Spot) (e : Element) → nets k ≡ Some e → v k ≡ gives s v k e
  here k e is = sol k e (ap (λ f. f k) same ∙ is)

  become_same : (inputs others : List Spot) → Become image inputs others
      → nor_value (map (pulled image v) inputs) ≡ nor_value (map v others)
  become_same inputs others b = nor_same (pulled image v) v inputs others each only
    where
      by_image : (m : Spot) → (image m ≡ low) ⊎ ((k : Spot) × (image m ≡ net k) × Contains others k)
          → IsAmong (pulled image v) v others m
      by_image m (inl e) = inl (ap (image_value v) e)
      by_image m (inr x) = inr (x.0, x.2, ap (image_value v) x.1)

      each : All (IsAmong (pulled image v) v others) inputs
      each k d l = by_image _ (b.each k d l)

      only : All (IsAmong v (pulled image v) inputs) others
      only k d l = let x = b.only k d l in inr (x.0, x.1, sym (ap (image_value v) x.2))

  abbrev ours : Setting
  ours = record s { given = pulled image s.given; before = pulled image s.before }

  pub image_follows : (n : Spot) (e : Element) (i : Image) → IsImage nets image e i → image n ≡ i
      → pulled image v n ≡ gives ours (pulled image v) n e
  image_follows n e i (given k is) at =
      ap (image_value v) at ∙ here k Given is ∙ sym (ap (image_value s.given) at)
  image_follows n e i (by_high inputs m c is) at =
      ap (image_value v) at
      ∙ sym (nor_zero (map (pulled image v) inputs) (any_one (pulled image v) inputs m c (ap (image_value v) is)))
  image_follows n e i (by_lows inputs are) at =
      ap (image_value v) at ∙ sym (zeros (pulled image v) inputs (λ k d l. ap (image_value v) (are k d l)))
  image_follows n e i (by_gate inputs others k is b) at =
      ap (image_value v) at ∙ here k (Nor others) is ∙ sym (become_same inputs others b)
  image_follows n e i (by_inverter inputs k j is b) at =
      ap (image_value v) at
      ∙ sym (twice (v k))
      ∙ ap (λ t. nor_value (t ∷ [])) (sym (here j (Nor (k ∷ [])) is))
      ∙ sym (become_same inputs (j ∷ []) b)
  image_follows n e i (latched phase source k j source_at is) at =
      let a = ap (image_value v) source_at in
      let b = ap (image_value s.before) at in
      ap (image_value v) at ∙ here k (Latched phase j) is ∙ sym (λ x. cond (is_open s.phase phase) (a x) (b x))
  image_follows n e i (joined other k j other_at is) at =
      ap (image_value v) at ∙ here k (Joined j) is ∙ sym (ap (image_value v) other_at)
  image_follows n e i (one_net other _ is) at = ap (image_value v) (at ∙ sym is)
  image_follows n e i (low_net k is) at = ap (image_value v) at ∙ here k Low is
  image_follows n e i always_low at = ap (image_value v) at

pub reductions_reduce : ReductionsReduce
reductions_reduce p q image h = record {
  follows = λ n e at k s v same sol. image_follows (path_nets q) image s v same sol n e (image n) (h.images n e at k) refl;
  closed = h.closed;
  only_nets = h.only_nets;
  pads = h.pads;
  inputs = h.inputs;
  outputs = h.outputs;
}
