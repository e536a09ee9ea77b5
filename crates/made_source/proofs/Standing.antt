-- The nodes of a made source stand for what the table says.
use Rattle.std.proofs.Common.{◌≡◌, ℕ, zero, suc, ◌-◌, ◌%◌, ◌<◌, List, [], ◌∷◌, Bool, true, false, cond, refl, sym, ◌∙◌}
use Rattle.std.proofs.Common.{ap, subst, inl, inr, length, arith, lit<, zero-add}
use Rattle.std.specs.Prelude.{◌&&◌, ◌==◌, nat_lt, slice_index_or, slice_index, Option, Some, None}
use Rattle.std.specs.List.{list_all, range_with_len}
use Rattle.std.proofs.lemmas.Bool.{and_parts, cases_lt, eqb-true, ltb-true}
use Rattle.std.proofs.lemmas.List.{ext_get_or}
use Rattle.std.proofs.Math.ListN.{get_or-eq_default}
use Rattle.std.proofs.lemmas.List.FromFn.{get_or-map-range_with_len, get_or-range_with_len, length-range_with_len}
use Rattle.mp_base.specs.declared.refusal.Place.{Place}
use Rattle.mp_base.proofs.Entries.{entry}
use Rattle.form_reader.specs.declared.forms.Kind.TheVariants.{Number}
use Rattle.form_reader.specs.declared.forms.Forms.{Forms}
use Rattle.form_reader.specs.Sound.{kind_at, items_of}
use Rattle.mp_shapes.specs.declared.table.Class.{Class}
use Rattle.mp_shapes.specs.declared.table.Class.TheVariants.{Whole, Item, Element, Action, Branch, Value, Word, Numeral}
use Rattle.mp_shapes.specs.declared.table.Layout.{Layout}
use Rattle.mp_shapes.specs.Layout.{layout, item_class}
use Rattle.mp_shapes.specs.Standing.{StandsFor, root, item, IsDefect, AreClasses, E10}
use Rattle.mp_syntax.specs.Shape.{E11}
use Rattle.made_program.specs.Made.{Row, AreRows}
use Rattle.made_program.proofs.Lists.{passes, clash}
use Rattle.made_source.proofs.Table.{classes, layouts, thirteen, made_forms, layout_in, layout_at, layouts_are}

-- ---- classes and tests

abbrev code : Class → ℕ
code Whole = 0
code Item = 1
code Element = 2
code Action = 3
code Branch = 4
code Value = 5
code Word = 6
code Numeral = 7

abbrev decoded : ℕ → Class
decoded zero = Whole
decoded (suc zero) = Item
decoded (suc (suc zero)) = Element
decoded (suc (suc (suc zero))) = Action
decoded (suc (suc (suc (suc zero)))) = Branch
decoded (suc (suc (suc (suc (suc zero))))) = Value
decoded (suc (suc (suc (suc (suc (suc zero)))))) = Word
decoded (suc (suc (suc (suc (suc (suc (suc n))))))) = Numeral

decoded_code : (c : Class) → decoded (code c) ≡ c
decoded_code Whole = refl
decoded_code Item = refl
decoded_code Element = refl
decoded_code Action = refl
decoded_code Branch = refl
decoded_code Value = refl
decoded_code Word = refl
decoded_code Numeral = refl

abbrev is_class : Option Class → Class → Bool
is_class None d = false
is_class (Some c) d = code c == code d

is_class_is : (o : Option Class) (d : Class) → is_class o d ≡ true → o ≡ Some d
is_class_is None d h = absurd (cc)
is_class_is (Some c) d h = ap Some (sym (decoded_code c) ∙ ap decoded (eqb-true (code c) (code d) h) ∙ decoded_code d)

abbrev class_at : ℕ → Option Class
class_at n = slice_index_or classes n None

-- a test of each number below another holds of each
below : (test : ℕ → Bool) (n k : ℕ) → list_all test (range_with_len 0 n) ≡ true → k < n → test k ≡ true
below test n k all less =
    passes test (range_with_len 0 n) k k all
    (entry (range_with_len 0 n) k (subst (λ m. k < m) (sym (length-range_with_len 0 n)) less)
    (sym (get_or-range_with_len 0 n k k less ∙ zero-add k)))

class_inside : (n : ℕ) (c : Class) → class_at n ≡ Some c → n < 261
class_inside n c is =
    elim (cases_lt n 261) [
      | inl less ↦ less
      | inr more ↦ absurd (let e = get_or-eq_default classes None {n = n} more in
          cc)
    ]

-- ---- a made source

module _ (at : ℕ → Place) (end : Place) (r : ℕ → Row) (are : AreRows (thirteen r)) where
  abbrev f : Forms
  f = made_forms at end r

  abbrev layout_of : ℕ → Option Layout
  layout_of n = slice_index_or (layouts (thirteen r)) n None

  layout_is : (n : ℕ) (c : Class) → class_at n ≡ Some c → layout f c (kind_at f n) ≡ layout_of n
  layout_is n c is =
      let less : n < 261 = class_inside n c is in
      ap (layout_in f (kind_at f n)) (sym is)
      ∙ sym (get_or-map-range_with_len (layout_at f) 0 261 n n None less (zero-add n))
      ∙ ap (λ ls. slice_index_or ls n None) (layouts_are at end r are)

  -- an item of a node is what the table says
  abbrev item_fits : Option Class → ℕ → Bool
  item_fits None m = true
  item_fits (Some d) m = is_class (class_at m) d

  abbrev items_fit : Option Layout → ℕ → Bool
  items_fit None n = true
  items_fit (Some l) n = list_all (λ j. item_fits (item_class l j) (slice_index (items_of (kind_at f n)) j))
      (range_with_len 0 (length (items_of (kind_at f n))))

  all_items_fit : list_all (λ n. items_fit (layout_of n) n) (range_with_len 0 261) ≡ true
  all_items_fit = refl

  stands_is : {n : ℕ} {c : Class} → StandsFor f n c → class_at n ≡ Some c
  stands_is (root n rs is) = let e : n ≡ 0 = cc in ap class_at e
  stands_is (item n j m c d l stands is lay what) =
      let here : class_at n ≡ Some c = stands_is stands in
      let less : n < 261 = class_inside n c here in
      let there : layout_of n ≡ Some l = sym (layout_is n c here) ∙ lay in
      let fit : items_fit (layout_of n) n ≡ true = below (λ k. items_fit (layout_of k) k) 261 n all_items_fit less in
      let all : items_fit (Some l) n ≡ true = ap (λ o. items_fit o n) (sym there) ∙ fit in
      let one : item_fits (item_class l j) (slice_index (items_of (kind_at f n)) j) ≡ true =
      below (λ j. item_fits (item_class l j) (slice_index (items_of (kind_at f n)) j))
      (length (items_of (kind_at f n))) j all is.1 in
      is_class_is (class_at m) d (ap (λ k. is_class (class_at k) d) is.2
      ∙ ap (λ o. item_fits o (slice_index (items_of (kind_at f n)) j)) (sym what) ∙ one)

  -- ---- each node is an item of an earlier one

  -- the node in which another stands
  abbrev parent : ℕ → ℕ
  parent m = cond (nat_lt m 144) 0
      (let k = (m - 144) % 9 in cond (k == 0) 0 (cond (k == 5) (m - 3) (cond (k == 8) (m - 3) (m - 2))))

  -- where a number first stands in a list
  abbrev place_in : ℕ → List ℕ → ℕ
  place_in m [] = 0
  place_in m (k ∷ ks) = cond (k == m) 0 (suc (place_in m ks))

  abbrev item_is : Option Layout → ℕ → ℕ → Class → Bool
  item_is None n m c = false
  item_is (Some l) n m c = let j = place_in m (items_of (kind_at f n)) in
      nat_lt j (length (items_of (kind_at f n)))
      && ((slice_index (items_of (kind_at f n)) j == m) && is_class (item_class l j) c)

  abbrev hangs_from : Option Class → ℕ → ℕ → Class → Bool
  hangs_from None n m c = false
  hangs_from (Some d) n m c = nat_lt n m && item_is (layout_of n) n m c

  abbrev hangs : Option Class → ℕ → Bool
  hangs None m = true
  hangs (Some c) zero = is_class (Some Whole) c
  hangs (Some c) (suc m) = hangs_from (class_at (parent (suc m))) (parent (suc m)) (suc m) c

  all_hang : list_all (λ m. hangs (class_at m) m) (range_with_len 0 261) ≡ true
  all_hang = refl

  item_stands : (o : Option Layout) (n m : ℕ) (c d : Class) → StandsFor f n d → layout f d (kind_at f n) ≡ o → n < 261
      → item_is o n m c ≡ true → StandsFor f m c
  item_stands None n m c d stands lay less h = absurd (cc)
  item_stands (Some l) n m c d stands lay less h =
      let j : ℕ = place_in m (items_of (kind_at f n)) in
      let p = and_parts (nat_lt j (length (items_of (kind_at f n)))) ((slice_index (items_of (kind_at f n)) j == m)
      && is_class (item_class l j) c) h in
      let q = and_parts (slice_index (items_of (kind_at f n)) j == m) (is_class (item_class l j) c) p.1 in
      item n j m d c l stands (
        less,
        ltb-true j (length (items_of (kind_at f n))) p.0,
        sym
            (eqb-true (slice_index (items_of (kind_at f n)) j) m q.0),
      ) lay
      (is_class_is (item_class l j) c q.1)

  hangs_from_stand : (fuel n m : ℕ) (c : Class) (o : Option Class)
      → ((k : ℕ) (d : Class) → k < fuel → class_at k ≡ Some d → StandsFor f k d)
      → m < suc fuel → class_at n ≡ o → hangs_from o n m c ≡ true → StandsFor f m c
  hangs_from_stand fuel n m c None earlier less is h = absurd (cc)
  hangs_from_stand fuel n m c (Some d) earlier less is h =
      let p = and_parts (nat_lt n m) (item_is (layout_of n) n m c) h in
      let lt : n < m = ltb-true n m p.0 in
      item_stands (layout_of n) n m c d (earlier n d (omega (arith, lt, less)) is) (layout_is n d is)
      (class_inside n d is) p.1

  hangs_stand : (fuel m : ℕ) (c : Class) → m < fuel → class_at m ≡ Some c → StandsFor f m c
  hangs_stand zero m c less is = absurd (omega (arith, less))
  hangs_stand (suc fuel) zero c less is =
      let ok : hangs (Some c) 0 ≡ true = ap (λ o. hangs o 0) (sym is)
      ∙ below (λ m. hangs (class_at m) m) 261 0 all_hang (lit< tt) in
      let e : Some Whole ≡ Some c = is_class_is (Some Whole) c ok in
      let w : Whole ≡ c = cc in
      subst (λ d. StandsFor f 0 d) w (root 0 [] refl)
  hangs_stand (suc fuel) (suc m) c less is =
      let ok : hangs (Some c) (suc m) ≡ true =
      ap (λ o. hangs o (suc m)) (sym is)
      ∙ below (λ m. hangs (class_at m) m) 261 (suc m) all_hang (class_inside (suc m) c is) in
      hangs_from_stand fuel (parent (suc m)) (suc m) c (class_at (parent (suc m))) (hangs_stand fuel) less refl ok

  pub is_stands : (m : ℕ) (c : Class) → class_at m ≡ Some c → StandsFor f m c
  is_stands m c is = hangs_stand (suc m) m c (omega arith) is

  -- ---- no rule of shapes is broken

  abbrev has_layout : Option Class → Option Layout → Bool
  has_layout (Some c) None = false
  has_layout _ _ = true

  all_have_layouts : list_all (λ n. has_layout (class_at n) (layout_of n)) (range_with_len 0 261) ≡ true
  all_have_layouts = refl

  no_defect : (n : ℕ) → IsDefect f n → ⊥
  no_defect n (c, stands, lay) =
      let is : class_at n ≡ Some c = stands_is stands in
      let none : layout_of n ≡ None = sym (layout_is n c is) ∙ lay in
      let ok = below (λ n. has_layout (class_at n) (layout_of n)) 261 n all_have_layouts (class_inside n c is) in
      clash (has_layout (class_at n) (layout_of n)) ok (ap (λ o. has_layout o (layout_of n)) is
      ∙ ap (has_layout (Some c)) none)

  pub no_E10 : (place : Place) → E10 f place → ⊥
  no_E10 place (inl (n, defect, is)) = no_defect n defect
  no_E10 place (inr (inl (none, is))) = absurd (cc)
  no_E10 place (inr (inr (a, b, rs, two, is))) = absurd (cc)

  pub no_E11 : (place : Place) → E11 f place → ⊥
  no_E11 place (m, n, v, rs, roots, lay, at_n, is_number, wrong, is) =
      let e : m ≡ 0 = cc in
      let third : n ≡ 3 = at_n ∙ ap (λ k. slice_index (items_of (kind_at f k)) 2) e in
      let same : Number 16 ≡ Number v = sym (ap (kind_at f) third) ∙ is_number in
      let sixteen : 16 ≡ v = cc in
      elim wrong [
        | inl zero_is ↦ absurd (omega (arith, sixteen, zero_is))
        | inr big ↦ absurd
            (omega (arith, sixteen, big))
      ]

  -- ---- one list of classes

  pub classes_are : (cs : List (Option Class)) → AreClasses f cs → cs ≡ classes
  classes_are cs h = ext_get_or None cs classes (h.size ∙ refl)
      (λ n less. same n (class_at n) (slice_index_or cs n None) refl refl)
    where
      same : (n : ℕ) (a b : Option Class) → class_at n ≡ a → slice_index_or cs n None ≡ b
          → slice_index_or cs n None ≡ class_at n
      same n (Some c) b is found = h.complete n c (is_stands n c is) ∙ sym is
      same n None None is found = found ∙ sym is
      same n None (Some c) is found = absurd (let e = stands_is (h.sound n c found) in cc)
