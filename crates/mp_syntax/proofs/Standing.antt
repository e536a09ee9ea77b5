-- What the nodes of a form or expression stand for, and the indices of their entries.
use Rattle.std.proofs.Common.{◌≡◌, ℕ, zero, suc, ◌+◌, ◌-◌, ◌<◌, ◌≤◌, Bool, true, false, not, cond}
use Rattle.std.proofs.Common.{List, refl, ◌∙◌, ap, length, arith, Option, Some}
use Rattle.std.proofs.Common.{None, slice_index, slice_index_or, ◌&&◌, nat_lt, ◌==◌}
use Rattle.std.proofs.lemmas.Bool.{and_from, lt-ltb}
use Rattle.std.proofs.lemmas.List.{length_push}
use Rattle.std.proofs.lemmas.List.FromFn.{get_or-map-range_with_len}
use Rattle.form_reader.specs.declared.forms.Kind.{Kind}
use Rattle.form_reader.specs.declared.forms.Kind.TheVariants.{Number, Symbol, Group}
use Rattle.form_reader.specs.declared.forms.Forms.{Forms}
use Rattle.form_reader.specs.Sound.{HasSymbols, kind_at, items_of}
use Rattle.mp_shapes.specs.declared.table.Class.{Class}
use Rattle.mp_shapes.specs.declared.table.Class.TheVariants.{Whole, Item, Element, Action, Branch, Value, Word, Numeral}
use Rattle.mp_shapes.specs.declared.table.Layout.{Layout}
use Rattle.mp_shapes.specs.Layout.{layout, item_class, word_of, is_symbol}
use Rattle.mp_shapes.specs.Standing.{StandsFor, item, AreClasses}
use Rattle.mp_program.specs.Fits as fits
use Rattle.mp_entries.specs.Entries.{nodes_below, ranks, is_expr, is_form, stands_for_expr, stands_for_form}
use Rattle.mp_entries.specs.Entries.{name_at}
use Rattle.mp_entries.proofs.Numbering.{nodes_below_with, nodes_below_without}

-- more nodes below a greater bound
pub grows : (test : ℕ → Bool) (a k : ℕ) → length (nodes_below test a) ≤ length (nodes_below test (a + k))
grows test a zero = omega (arith, ap (λ i. length (nodes_below test i)) (let e : a + 0 ≡ a = omega arith in e))
grows test a (suc k) = by_test (test (a + k)) refl (grows test a k)
  where
    next : a + suc k ≡ (a + k) + 1
    next = omega arith

    by_test : (b : Bool) → test (a + k) ≡ b → length (nodes_below test a) ≤ length (nodes_below test (a + k))
        → length (nodes_below test a) ≤ length (nodes_below test (a + suc k))
    by_test true is h =
        omega (
          arith,
          h,
          ap (λ i. length (nodes_below test i)) next,
          ap length
              (nodes_below_with test (a + k) is),
          length_push (nodes_below test (a + k)) (a + k),
        )
    by_test false is h =
        omega (arith, h, ap (λ i. length (nodes_below test i)) next, ap length (nodes_below_without test (a + k) is))

-- a node that passes counts for all behind it
pub less : (test : ℕ → Bool) (n m : ℕ) → test n ≡ true → n < m
    → length (nodes_below test n) < length (nodes_below test m)
less test n m is lt =
    let e : (n + 1) + (m - (n + 1)) ≡ m = omega (arith, lt) in
    omega (
      arith,
      grows test (n + 1) (m - (n + 1)),
      ap (λ i. length (nodes_below test i)) e,
      ap length
          (nodes_below_with test n is),
      length_push (nodes_below test n) n,
    )

-- the index of the entry of a node
pub index_is : (test : ℕ → Bool) (count m : ℕ) → m < count
    → slice_index (ranks test count) m ≡ length (nodes_below test m)
index_is test count m lt = get_or-map-range_with_len (λ i. length (nodes_below test i)) 0 count m m 0 lt (omega arith)

pub in_range : (test : ℕ → Bool) (count m : ℕ) → m < count → test m ≡ true
    → slice_index (ranks test count) m < length (nodes_below test count)
in_range test count m lt is = omega (arith, index_is test count m lt, less test m count is lt)

pub behind_it : (test : ℕ → Bool) (count n m : ℕ) → n < m → m < count → test n ≡ true → test m ≡ true
    → (nat_lt (length (nodes_below test n)) (slice_index (ranks test count) m)
    && nat_lt (slice_index (ranks test count) m) (length (nodes_below test count))) ≡ true
behind_it test count n m nm lt first second =
    and_from _ _ (lt-ltb _ _ (omega (arith, index_is test count m lt, less test n m first nm)))
    (lt-ltb _ _ (in_range test count m lt second))

-- an item of a node without a defect
pub child : (f : Forms) (n j : ℕ) (c d : Class) (l : Layout) → StandsFor f n c → n < length f.nodes
    → j < length (items_of (kind_at f n))
    → layout f c (kind_at f n) ≡ Some l → item_class l j ≡ Some d
    → StandsFor f (slice_index (items_of (kind_at f n)) j) d
child f n j c d l st lt jl lay is = item n j (slice_index (items_of (kind_at f n)) j) c d l st (lt, jl, refl) lay is

pub passes_expr : (f : Forms) (cs : List (Option Class)) → AreClasses f cs → (m : ℕ) → StandsFor f m Value
    → is_expr cs m ≡ true
passes_expr f cs a m st = ap stands_for_expr (a.complete m Value st)

pub passes_form : (f : Forms) (cs : List (Option Class)) → AreClasses f cs → (m : ℕ) → StandsFor f m Action
    → is_form f cs m ≡ true
passes_form f cs a m st = ap (stands_for_form (kind_at f m)) (a.complete m Action st)

pub passes_element : (f : Forms) (cs : List (Option Class)) → AreClasses f cs → (m : ℕ) → StandsFor f m Element
    → is_symbol (kind_at f m) ≡ false → is_form f cs m ≡ true
passes_element f cs a m st other = ap (stands_for_form (kind_at f m)) (a.complete m Element st) ∙ ap not other

pub expr_stands : (f : Forms) (cs : List (Option Class)) → AreClasses f cs → (m : ℕ) → is_expr cs m ≡ true
    → StandsFor f m Value
expr_stands f cs a m is = by_class (slice_index_or cs m None) refl is
  where
    by_class : (o : Option Class) → slice_index_or cs m None ≡ o → stands_for_expr o ≡ true → StandsFor f m Value
    by_class None e h = absurd (cc)
    by_class (Some Value) e h = a.sound m Value e
    by_class (Some Whole) e h = absurd (cc)
    by_class (Some Item) e h = absurd (cc)
    by_class (Some Element) e h = absurd (cc)
    by_class (Some Action) e h = absurd (cc)
    by_class (Some Branch) e h = absurd (cc)
    by_class (Some Word) e h = absurd (cc)
    by_class (Some Numeral) e h = absurd (cc)

-- a form has the same shape, whether it stands in a process or elsewhere
pub form_stands : (f : Forms) (cs : List (Option Class)) → AreClasses f cs → (m : ℕ) → is_form f cs m ≡ true
    → (c : Class) × StandsFor f m c × (layout f c (kind_at f m) ≡ layout f Action (kind_at f m))
form_stands f cs a m is = by_class (slice_index_or cs m None) refl is
  where
    same : (k : Kind) → not (is_symbol k) ≡ true → layout f Element k ≡ layout f Action k
    same (Number v) h = refl
    same (Symbol x) h = absurd (cc)
    same (Group items) h = refl

    by_class : (o : Option Class) → slice_index_or cs m None ≡ o → stands_for_form (kind_at f m) o ≡ true
        → (c : Class) × StandsFor f m c × (layout f c (kind_at f m) ≡ layout f Action (kind_at f m))
    by_class None e h = absurd (cc)
    by_class (Some Value) e h = absurd (cc)
    by_class (Some Whole) e h = absurd (cc)
    by_class (Some Item) e h = absurd (cc)
    by_class (Some Element) e h = (Element, a.sound m Element e, same (kind_at f m) h)
    by_class (Some Action) e h = (Action, a.sound m Action e, refl)
    by_class (Some Branch) e h = absurd (cc)
    by_class (Some Word) e h = absurd (cc)
    by_class (Some Numeral) e h = absurd (cc)

-- the name at a node that stands for a symbol
pub word_fits : (f : Forms) (cs : List (Option Class)) → AreClasses f cs → HasSymbols f → (m : ℕ) → StandsFor f m Word
    → fits.is_symbol (name_at f m) ≡ true
word_fits f cs a symbols m st = by_kind (kind_at f m) refl (λ none. a.clean m (Word, st, none))
  where
    by_kind : (k : Kind) → kind_at f m ≡ k → (layout f Word k ≡ None → ⊥) → fits.is_symbol (word_of k) ≡ true
    by_kind (Number v) e h = absurd (h refl)
    by_kind (Symbol x) e h = symbols m x e
    by_kind (Group items) e h = absurd (h (none (length items == 0)))
      where
        none : (b : Bool) → cond {A = Option Layout} b None None ≡ None
        none true = refl
        none false = refl
