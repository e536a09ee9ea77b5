-- How many items a list of each shape has, and what may be the name of a definition.
use Rattle.std.proofs.Common.{◌≡◌, ◌≢◌, ℕ, ◌-◌, ◌<◌, ◌≤◌, Bool, true, false, not, cond, List, [], ◌∷◌}
use Rattle.std.proofs.Common.{refl, sym, ◌∙◌, ap, subst, length, arith, Option, Some, None, slice_index, ◌&&◌, ◌||◌}
use Rattle.std.proofs.Common.{nat_lt, nat_le, ◌==◌, codes}
use Rattle.std.specs.Str.{bytes_eq}
use Rattle.std.proofs.lemmas.Bool.{and_parts, lt-ltb, eqb-true, eqb-false, eq-eqb, leb-true, ne_eqb}
use Rattle.mp_base.specs.declared.op.Op.{Op}
use Rattle.mp_base.specs.declared.op.Op.TheVariants as ops
use Rattle.form_reader.specs.declared.forms.Kind.{Kind}
use Rattle.form_reader.specs.declared.forms.Kind.TheVariants.{Number, Symbol, Group}
use Rattle.form_reader.specs.declared.forms.Forms.{Forms}
use Rattle.form_reader.specs.Sound.{kind_at, items_of}
use Rattle.mp_shapes.specs.declared.table.Class.{Class}
use Rattle.mp_shapes.specs.declared.table.Class.TheVariants.{Whole, Item, Element, Action, Branch, Value, Word, Numeral}
use Rattle.mp_shapes.specs.declared.table.Definition.{Definition}
use Rattle.mp_shapes.specs.declared.table.Definition.TheVariants as definitions
use Rattle.mp_shapes.specs.declared.table.Layout.{Layout}
use Rattle.mp_shapes.specs.declared.table.Layout.TheVariants.{Program, Always, Process, Setq, Cond, Par, Go}
use Rattle.mp_shapes.specs.declared.table.Layout.TheVariants.{Call, Return, Guarded, Apply, Bit, Use}
use Rattle.mp_shapes.specs.Layout as shapes
use Rattle.mp_shapes.specs.Layout.{layout, when, word_of}
use Rattle.mp_base.specs.Apply.{takes}
use Rattle.mp_program.specs.Fits as fits
use Rattle.mp_written.specs.declared.program.What.{What}
use Rattle.mp_written.specs.Kinds.{is_supply}
use Rattle.mp_syntax.specs.Shape.{what_of}

-- the number of items, the head included
abbrev pub Counts : ℕ → Option Layout → Type 0
Counts n (Some Program) = 3 ≤ n
Counts n (Some Process) = 3 ≤ n
Counts n (Some Setq) = n ≡ 3
Counts n (Some Bit) = n ≡ 3
Counts n (Some Go) = n ≡ 2
Counts n (Some Call) = n ≡ 2
Counts n (Some Guarded) = 0 < n
Counts n (Some (Apply op)) = takes op (n - 1) ≡ true
Counts n (Some Use) = 2 ≤ n
Counts n _ = Unit {0}

pub record HasCounts (n : ℕ) (shape : Option Layout) : Type 0 where
  pub count : Counts n shape

step : (n : ℕ) (b t : Bool) (l : Layout) (rest : Option Layout) → (t ≡ true → Counts n (Some l)) → HasCounts n rest
    → HasCounts n (cond b (when t l) rest)
step n true true l rest here later = record { count = here refl }
step n true false l rest here later = record { count = tt }
step n false t l rest here later = later

last : (n : ℕ) (t : Bool) (l : Layout) → (t ≡ true → Counts n (Some l)) → HasCounts n (when t l)
last n true l here = record { count = here refl }
last n false l here = record { count = tt }

none : (n : ℕ) → HasCounts n None
none n = record { count = tt }

form_counts : (x : List ℕ) (n : ℕ) → HasCounts n (shapes.form_layout x n)
form_counts x n =
    step n (bytes_eq x (codes "setq")) (n == 3) Setq _ (λ h. eqb-true n 3 h)
    (step n (bytes_eq x (codes "cond")) (nat_le 2 n) Cond _ (λ h. tt)
    (step n (bytes_eq x (codes "par")) (nat_le 2 n) Par _ (λ h. tt)
    (step n (bytes_eq x (codes "go")) (n == 2) Go _ (λ h. eqb-true n 2 h)
    (step n (bytes_eq x (codes "call")) (n == 2) Call _ (λ h. eqb-true n 2 h)
    (last n (bytes_eq x (codes "return") && (n == 1)) Return (λ h. tt))))))

item_counts : (f : Forms) (x : List ℕ) (items : List ℕ) → HasCounts (length items) (shapes.item_layout f x items)
item_counts f x items = by_def (bytes_eq x (codes "def")) (shapes.definition f items)
  where
    rest : HasCounts (length items)
        (cond (bytes_eq x (codes "always")) (when (nat_le 2 (length items)) Always)
        (when (bytes_eq x (codes "process") && nat_le 3 (length items)) Process))
    rest = step (length items) (bytes_eq x (codes "always")) (nat_le 2 (length items)) Always _ (λ h. tt)
        (last (length items) (bytes_eq x (codes "process") && nat_le 3 (length items)) Process
        (λ h. leb-true 3 (length items) (and_parts (bytes_eq x (codes "process")) (nat_le 3 (length items)) h).1))

    by_def : (b : Bool) (d : Option Definition) → HasCounts (length items) (cond b (shapes.defines d)
        (cond (bytes_eq x (codes "always")) (when (nat_le 2 (length items)) Always)
        (when (bytes_eq x (codes "process") && nat_le 3 (length items)) Process)))
    by_def true (Some d) = record { count = tt }
    by_def true None = record { count = tt }
    by_def false d = rest

-- bit is no operator whose operands are all expressions
abbrev NotBit : Option Op → Type 0
NotBit (Some ops.Bit) = ⊥
NotBit _ = Unit {0}

record IsOther (o : Option Op) : Type 0 where
  other : NotBit o

choose : (b : Bool) (o : Op) (rest : Option Op) → NotBit (Some o) → IsOther rest → IsOther (cond b (Some o) rest)
choose true o rest here later = record { other = here }
choose false o rest here later = later

choose_last : (b : Bool) (o : Op) → NotBit (Some o) → IsOther (when b o)
choose_last true o here = record { other = here }
choose_last false o here = record { other = tt }

word_other : (x : List ℕ) → IsOther (shapes.word_op x)
word_other x =
    choose (bytes_eq x (codes "+")) ops.Add _ tt
    (choose (bytes_eq x (codes "-")) ops.Sub _ tt (choose (bytes_eq x (codes "1+")) ops.Inc _ tt
    (choose (bytes_eq x (codes "1-")) ops.Dec _ tt
    (choose (bytes_eq x (codes "word-and")) ops.WordAnd _ tt (choose (bytes_eq x (codes "word-or")) ops.WordOr _ tt
    (choose (bytes_eq x (codes "word-xor")) ops.WordXor _ tt
    (choose (bytes_eq x (codes "word-not")) ops.WordNot _ tt (choose (bytes_eq x (codes "<<")) ops.Left _ tt
    (choose_last (bytes_eq x (codes ">>")) ops.Right tt)))))))))

bit_other : (x : List ℕ) → IsOther (shapes.bit_op x)
bit_other x =
    choose (bytes_eq x (codes "and")) ops.And _ tt
    (choose (bytes_eq x (codes "or")) ops.Or _ tt (choose (bytes_eq x (codes "nor")) ops.Nor _ tt
    (choose (bytes_eq x (codes "nand")) ops.Nand _ tt
    (choose (bytes_eq x (codes "xor")) ops.Xor _ tt (choose (bytes_eq x (codes "not")) ops.Not _ tt
    (choose (bytes_eq x (codes "=0")) ops.Zero _ tt
    (choose (bytes_eq x (codes "=")) ops.Equal _ tt (choose_last (bytes_eq x (codes "<")) ops.Less tt))))))))

op_other : (x : List ℕ) → IsOther (shapes.op_of x)
op_other x = by_word (shapes.word_op x) (word_other x)
  where
    by_word : (o : Option Op) → IsOther o → IsOther (shapes.or_else o (shapes.bit_op x))
    by_word (Some o) h = h
    by_word None h = bit_other x

one : (n : ℕ) → (n == 2) ≡ true → (n - 1 == 1) ≡ true
one n h = eq-eqb (n - 1) 1 (omega (arith, eqb-true n 2 h))

two : (n : ℕ) → (n == 3) ≡ true → (n - 1 == 2) ≡ true
two n h = eq-eqb (n - 1) 2 (omega (arith, eqb-true n 3 h))

some : (n : ℕ) → nat_le 2 n ≡ true → nat_lt 0 (n - 1) ≡ true
some n h = lt-ltb 0 (n - 1) (omega (arith, leb-true 2 n h))

-- the operands are the items behind the head
operands : (o : Op) (n : ℕ) → NotBit (Some o) → shapes.takes o n ≡ true → takes o (n - 1) ≡ true
operands ops.Add n other h = two n h
operands ops.Sub n other h = two n h
operands ops.Inc n other h = one n h
operands ops.Dec n other h = one n h
operands ops.WordAnd n other h = two n h
operands ops.WordOr n other h = two n h
operands ops.WordXor n other h = two n h
operands ops.WordNot n other h = one n h
operands ops.Left n other h = one n h
operands ops.Right n other h = one n h
operands ops.And n other h = some n h
operands ops.Or n other h = some n h
operands ops.Nor n other h = some n h
operands ops.Nand n other h = some n h
operands ops.Xor n other h = two n h
operands ops.Not n other h = one n h
operands ops.Bit n other h = absurd other
operands ops.Zero n other h = one n h
operands ops.Equal n other h = two n h
operands ops.Less n other h = two n h

value_counts : (x : List ℕ) (n : ℕ) → HasCounts n (shapes.value_layout x n)
value_counts x n =
    step n (bytes_eq x (codes "bit")) (n == 3) Bit _ (λ h. eqb-true n 3 h) (by_op (shapes.op_of x) (op_other x))
  where
    by_op : (o : Option Op) → IsOther o → HasCounts n (shapes.applied o x n)
    by_op None h =
        last n (not (length x == 0) && nat_le 2 n) Use
        (λ e. leb-true 2 n (and_parts (not (length x == 0)) (nat_le 2 n) e).1)
    by_op (Some o) h = last n (shapes.takes o n) (Apply o) (operands o n h.other)

group_counts : (f : Forms) (c : Class) (items : List ℕ) → 0 < length items
    → HasCounts (length items) (shapes.list_layout f c (word_of (kind_at f (slice_index items 0))) items)
group_counts f Whole items some =
    last (length items)
    (bytes_eq (word_of (kind_at f (slice_index items 0))) (codes "program") && nat_le 3 (length items)) Program
    (λ h. leb-true 3 (length items)
    (and_parts (bytes_eq (word_of (kind_at f (slice_index items 0))) (codes "program")) (nat_le 3 (length items)) h).1)
group_counts f Item items some = item_counts f (word_of (kind_at f (slice_index items 0))) items
group_counts f Element items some = form_counts (word_of (kind_at f (slice_index items 0))) (length items)
group_counts f Action items some = form_counts (word_of (kind_at f (slice_index items 0))) (length items)
group_counts f Branch items some = record { count = some }
group_counts f Value items some = value_counts (word_of (kind_at f (slice_index items 0))) (length items)
group_counts f Word items some = none (length items)
group_counts f Numeral items some = none (length items)

leaf_counts : (c : Class) → HasCounts 0 (shapes.number_layout c) × HasCounts 0 (shapes.symbol_layout c)
leaf_counts Value = (record { count = tt }, record { count = tt })
leaf_counts Numeral = (record { count = tt }, record { count = tt })
leaf_counts Element = (record { count = tt }, record { count = tt })
leaf_counts Word = (record { count = tt }, record { count = tt })
leaf_counts Whole = (record { count = tt }, record { count = tt })
leaf_counts Item = (record { count = tt }, record { count = tt })
leaf_counts Action = (record { count = tt }, record { count = tt })
leaf_counts Branch = (record { count = tt }, record { count = tt })

-- a node with a shape has as many items
pub layout_counts : (f : Forms) (c : Class) (k : Kind) → HasCounts (length (items_of k)) (layout f c k)
layout_counts f c (Number v) = (leaf_counts c).0
layout_counts f c (Symbol x) = (leaf_counts c).1
layout_counts f c (Group items) =
    by_test (length items == 0)
    (λ e. group_counts f c items (let other : length items ≢ 0 = eqb-false (length items) 0 e in omega arith))
  where
    by_test : (b : Bool)
        → (b ≡ false
        → HasCounts (length items) (shapes.list_layout f c (word_of (kind_at f (slice_index items 0))) items))
        → HasCounts (length items)
        (cond b None (shapes.list_layout f c (word_of (kind_at f (slice_index items 0))) items))
    by_test true h = none (length items)
    by_test false h = h refl

-- the shape of a list that isn't empty
pub shaped : (f : Forms) (c : Class) (i : ℕ) (is : List ℕ)
    → layout f c (Group (i ∷ is)) ≡ shapes.list_layout f c (word_of (kind_at f i)) (i ∷ is)
shaped f c i is =
    let e : (length (i ∷ is) == 0) ≡ false = ne_eqb (length (i ∷ is)) 0 (λ h. omega (arith, h)) in
    ap (λ b. cond b None (shapes.list_layout f c (word_of (kind_at f i)) (i ∷ is))) e

-- the name of a definition fits it, where the item behind the head has this kind; and a function has five items, of
-- which one is a list of symbols
abbrev pub NameFits : Kind → What → Type 0
NameFits k what =
    ((is_supply what && (length (word_of k) == 0)) || (not (is_supply what) && fits.is_symbol (word_of k))) ≡ true

abbrev pub FunctionFits : Forms → List ℕ → Definition → Type 0
FunctionFits f items definitions.Function =
    (length items ≡ 5) × (shapes.is_symbols f (kind_at f (slice_index items 3)) ≡ true)
FunctionFits f items _ = Unit {0}

abbrev pub DefinitionFits : Forms → (ℕ → ℕ) → List ℕ → Kind → Definition → Type 0
DefinitionFits f expr items k d = NameFits k (what_of f expr items d) × FunctionFits f items d

pub record AllFit (P : Definition → Type 0) (o : Option Definition) : Type 0 where
  pub each : (d : Definition) → o ≡ Some d → P d

pick : (P : Definition → Type 0) (b : Bool) (o rest : Option Definition) → (b ≡ true → AllFit P o) → AllFit P rest
    → AllFit P (cond b o rest)
pick P true o rest here later = here refl
pick P false o rest here later = later

it : (P : Definition → Type 0) (d : Definition) → P d → AllFit P (Some d)
it P d h = record { each = λ q e. let same : d ≡ q = cc in subst P same h }

nothing : (P : Definition → Type 0) → AllFit P None
nothing P = record { each = λ d e. absurd (cc) }

only : (P : Definition → Type 0) (b : Bool) (d : Definition) → (b ≡ true → P d) → AllFit P (when b d)
only P true d h = it P d (h refl)
only P false d h = nothing P

module _ (f : Forms) (expr : ℕ → ℕ) (items : List ℕ) where
  abbrev Fit : Kind → Definition → Type 0
  Fit k = DefinitionFits f expr items k

  abbrev Named : Kind → Type 0
  Named k = (x : List ℕ) → k ≡ Symbol x → fits.is_symbol x ≡ true

  three_fits : (k what : Kind) → Named k → AllFit (Fit k) (shapes.three k what)
  three_fits (Group is) what h = nothing (Fit (Group is))
  three_fits (Symbol x) what h =
      let P = Fit (Symbol x) in
      pick P (bytes_eq (word_of what) (codes "register")) (Some definitions.Register) _
      (λ e. it P definitions.Register (h x refl, tt))
      (only P (bytes_eq (word_of what) (codes "flag")) definitions.Flag (λ e. (h x refl, tt)))
  three_fits (Number v) what h =
      let P = Fit (Number v) in
      pick P (bytes_eq (word_of what) (codes "power")) (Some definitions.Power) _
      (λ e. it P definitions.Power (refl, tt))
      (pick P (bytes_eq (word_of what) (codes "ground")) (Some definitions.Ground) _
      (λ e. it P definitions.Ground (refl, tt))
      (pick P (bytes_eq (word_of what) (codes "phia")) (Some definitions.Phia) _
      (λ e. it P definitions.Phia (refl, tt))
      (pick P (bytes_eq (word_of what) (codes "phib")) (Some definitions.Phib) _
      (λ e. it P definitions.Phib (refl, tt))
      (only P (bytes_eq (word_of what) (codes "phic")) definitions.Phic (λ e. (refl, tt))))))

  four_fits : (k what given : Kind) → Named k → AllFit (Fit k) (shapes.four k what given)
  four_fits (Group is) what given h = nothing (Fit (Group is))
  four_fits (Number v) what given h = nothing (Fit (Number v))
  four_fits (Symbol x) what given h =
      let P = Fit (Symbol x) in
      pick P (bytes_eq (word_of what) (codes "constant")) (when (shapes.is_number given) definitions.Constant) _
      (λ e. only P (shapes.is_number given) definitions.Constant (λ e. (h x refl, tt)))
      (pick P (bytes_eq (word_of given) (codes "internal")) _ None
      (λ e. pick P (bytes_eq (word_of what) (codes "port")) (Some definitions.PortInternal) _
      (λ e. it P definitions.PortInternal (h x refl, tt))
      (only P (bytes_eq (word_of what) (codes "signal")) definitions.SignalInternal (λ e. (h x refl, tt))))
      (nothing P))

  way_fits : (P : Definition → Type 0) (x : List ℕ) (a b : Definition) → P a → P b → AllFit P (shapes.way x a b)
  way_fits P x a b here there =
      pick P (bytes_eq x (codes "input")) (Some a) _ (λ e. it P a here)
      (only P (bytes_eq x (codes "output")) b (λ e. there))

  five_fits : (k what given : Kind) → Named k → length items ≡ 5
      → AllFit (Fit k) (shapes.five f k what (kind_at f (slice_index items 3)) given)
  five_fits (Group is) what given h five = nothing (Fit (Group is))
  five_fits (Number v) what given h five = nothing (Fit (Number v))
  five_fits (Symbol x) what given h five =
      let P = Fit (Symbol x) in
      let named = kind_at f (slice_index items 3) in
      let function = bytes_eq (word_of what) (codes "function") in
      pick P (bytes_eq (word_of what) (codes "port")) _ _
      (λ e. pick P (shapes.is_pins f given) _ None
      (λ e. way_fits P (word_of named) definitions.PortInput definitions.PortOutput (h x refl, tt) (h x refl, tt))
      (nothing P))
      (pick P (bytes_eq (word_of what) (codes "signal")) _ _
      (λ e. pick P (shapes.is_number given) _ None
      (λ e. way_fits P (word_of named) definitions.SignalInput definitions.SignalOutput (h x refl, tt) (h x refl, tt))
      (nothing P))
      (only P (function && shapes.is_symbols f named) definitions.Function
      (λ e. (h x refl, (five, (and_parts function (shapes.is_symbols f named) e).1)))))

  pub definition_fits : Named (kind_at f (slice_index items 1))
      → AllFit (Fit (kind_at f (slice_index items 1))) (shapes.definition f items)
  definition_fits h =
      let k = kind_at f (slice_index items 1) in
      let what = kind_at f (slice_index items 2) in
      pick (Fit k) (length items == 3) _ _ (λ e. three_fits k what h)
      (pick (Fit k) (length items == 4) _ _ (λ e. four_fits k what (kind_at f (slice_index items 3)) h)
      (pick (Fit k) (length items == 5) _ None
      (λ e. five_fits k what (kind_at f (slice_index items 4)) h (eqb-true (length items) 5 e))
      (nothing (Fit k))))

-- the head of a use is a symbol
head_of_use : (b t : Bool) (x : List ℕ) (n : ℕ) (o : Option Op) → cond b (when t Bit) (shapes.applied o x n) ≡ Some Use
    → not (length x == 0) ≡ true
head_of_use true true x n o h = absurd (cc)
head_of_use true false x n o h = absurd (cc)
head_of_use false t x n (Some op) h = absurd (by_test (shapes.takes op n) h)
  where
    by_test : (s : Bool) → when s (Apply op) ≡ Some Use → ⊥
    by_test true e = cc
    by_test false e = cc
head_of_use false t x n None h = by_test (not (length x == 0)) (nat_le 2 n) h
  where
    by_test : (r s : Bool) → when (r && s) Use ≡ Some Use → r ≡ true
    by_test true s e = refl
    by_test false s e = absurd (cc)

pub use_is_named : (f : Forms) (k : Kind) → layout f Value k ≡ Some Use
    → not (length (word_of (kind_at f (slice_index (items_of k) 0))) == 0) ≡ true
use_is_named f (Number v) h = absurd (cc)
use_is_named f (Symbol x) h = absurd (cc)
use_is_named f (Group []) h = absurd (cc)
use_is_named f (Group (i ∷ is)) h =
    let x = word_of (kind_at f i) in
    head_of_use (bytes_eq x (codes "bit")) (length (i ∷ is) == 3) x (length (i ∷ is)) (shapes.op_of x)
    (sym (shaped f Value i is) ∙ h)
