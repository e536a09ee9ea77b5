-- The table of shapes: the shape of a node that has to be of a class, or none where it has a defect of its own.
use Rattle.std.specs.Prelude.{ℕ, ◌==◌, List, [], Bool, nat_le, true, false, cond, not, ◌&&◌, length, codes, Option}
use Rattle.std.specs.Prelude.{Some, None, slice_index}
use Rattle.std.specs.List.{list_all}
use Rattle.std.specs.Str.{bytes_eq}
use Rattle.mp_base.specs.declared.op.Op.{Op}
use Rattle.mp_base.specs.declared.op.Op.TheVariants.{Add, Sub, Inc, Dec, WordAnd, WordOr, WordXor, WordNot, Left, Right}
use Rattle.mp_base.specs.declared.op.Op.TheVariants.{And, Or, Nor, Nand, Xor, Not, Zero, Equal, Less}
use Rattle.form_reader.specs.Sound.{kind_at}
use Rattle.form_reader.specs.declared.forms.Kind.{Kind}
use Rattle.form_reader.specs.declared.forms.Kind.TheVariants.{Number, Symbol, Group}
use Rattle.form_reader.specs.declared.forms.Forms.{Forms}
use Rattle.mp_shapes.specs.declared.table.Class.{Class}
use Rattle.mp_shapes.specs.declared.table.Class.TheVariants.{Whole, Item, Element, Action, Branch, Value, Word, Numeral}
use Rattle.mp_shapes.specs.declared.table.Definition.{Definition}
use Rattle.mp_shapes.specs.declared.table.Definition.TheVariants.{Power, Ground, Phia, Phib, Phic, Constant, Register}
use Rattle.mp_shapes.specs.declared.table.Definition.TheVariants.{Flag, PortInput, PortOutput, PortInternal}
use Rattle.mp_shapes.specs.declared.table.Definition.TheVariants.{SignalInput, SignalOutput, SignalInternal, Function}
use Rattle.mp_shapes.specs.declared.table.Layout.{Layout}
use Rattle.mp_shapes.specs.declared.table.Layout.TheVariants.{Leaf, Program, Def, Always, Process, Setq, Cond, Par, Go}
use Rattle.mp_shapes.specs.declared.table.Layout.TheVariants.{Call, Return, Guarded, Apply, Bit, Use}

-- the bytes of a symbol, and none of another kind
abbrev pub word_of : Kind → List ℕ
word_of (Symbol x) = x
word_of _ = []

abbrev pub is_symbol : Kind → Bool
is_symbol (Symbol x) = true
is_symbol _ = false

abbrev pub is_number : Kind → Bool
is_number (Number v) = true
is_number _ = false

-- a list of numbers, at least one
abbrev pub is_pins : Forms → Kind → Bool
is_pins f (Group items) = nat_le 1 (length items) && list_all (λ i. is_number (kind_at f i)) items
is_pins f _ = false

-- a list of symbols, at least one
abbrev pub is_symbols : Forms → Kind → Bool
is_symbols f (Group items) = nat_le 1 (length items) && list_all (λ i. is_symbol (kind_at f i)) items
is_symbols f _ = false

-- something where a test holds
abbrev pub when : {A : Type 0} → Bool → A → Option A
when true a = Some a
when false a = None

-- (def NUMBER power), and the same with ground, phia, phib, phic
abbrev pub supply_of : List ℕ → Option Definition
supply_of x = cond (bytes_eq x (codes "power")) (Some Power)
    (cond (bytes_eq x (codes "ground")) (Some Ground)
    (cond (bytes_eq x (codes "phia")) (Some Phia)
    (cond (bytes_eq x (codes "phib")) (Some Phib)
    (when (bytes_eq x (codes "phic")) Phic))))

-- (def SYMBOL register), (def SYMBOL flag)
abbrev pub stored_of : List ℕ → Option Definition
stored_of x = cond (bytes_eq x (codes "register")) (Some Register) (when (bytes_eq x (codes "flag")) Flag)

-- a definition of three items, the head included
abbrev pub three : Kind → Kind → Option Definition
three (Number v) what = supply_of (word_of what)
three (Symbol x) what = stored_of (word_of what)
three (Group items) what = None

abbrev pub internal : List ℕ → Option Definition
internal x = cond (bytes_eq x (codes "port")) (Some PortInternal) (when (bytes_eq x (codes "signal")) SignalInternal)

-- (def SYMBOL constant NUMBER), (def SYMBOL port internal), (def SYMBOL signal internal)
abbrev pub four : Kind → Kind → Kind → Option Definition
four name what last = cond (is_symbol name)
    (cond (bytes_eq (word_of what) (codes "constant")) (when (is_number last) Constant)
    (cond (bytes_eq (word_of last) (codes "internal")) (internal (word_of what)) None))
    None

-- the way of a pad: of these two, the one that is named
abbrev pub way : List ℕ → Definition → Definition → Option Definition
way x inward outward = cond (bytes_eq x (codes "input")) (Some inward) (when (bytes_eq x (codes "output")) outward)

-- (def SYMBOL port input (NUMBER+)), (def SYMBOL signal input NUMBER), and the same with output;
-- (def SYMBOL function (SYMBOL+) EXPR), where what has to be an expression is examined on its own
abbrev pub five : Forms → Kind → Kind → Kind → Kind → Option Definition
five f name what named last = cond (is_symbol name)
    (cond (bytes_eq (word_of what) (codes "port"))
    (cond (is_pins f last) (way (word_of named) PortInput PortOutput) None)
    (cond (bytes_eq (word_of what) (codes "signal"))
    (cond (is_number last) (way (word_of named) SignalInput SignalOutput) None)
    (when (bytes_eq (word_of what) (codes "function") && is_symbols f named) Function)))
    None

-- what a def with these items defines
abbrev pub definition : Forms → List ℕ → Option Definition
definition f items =
    cond (length items == 3) (three (kind_at f (slice_index items 1)) (kind_at f (slice_index items 2)))
    (cond (length items == 4)
    (four (kind_at f (slice_index items 1)) (kind_at f (slice_index items 2)) (kind_at f (slice_index items 3)))
    (cond (length items == 5)
    (five f (kind_at f (slice_index items 1)) (kind_at f (slice_index items 2)) (kind_at f (slice_index items 3))
    (kind_at f (slice_index items 4)))
    None))

abbrev pub defines : Option Definition → Option Layout
defines (Some d) = Some (Def d)
defines None = None

-- an item of a program, by its head and its items, the head included
abbrev pub item_layout : Forms → List ℕ → List ℕ → Option Layout
item_layout f x items = cond (bytes_eq x (codes "def")) (defines (definition f items))
    (cond (bytes_eq x (codes "always")) (when (nat_le 2 (length items)) Always)
    (when (bytes_eq x (codes "process") && nat_le 3 (length items)) Process))

-- a form, by its head and the number of its items, the head included
abbrev pub form_layout : List ℕ → ℕ → Option Layout
form_layout x n = cond (bytes_eq x (codes "setq")) (when (n == 3) Setq)
    (cond (bytes_eq x (codes "cond")) (when (nat_le 2 n) Cond)
    (cond (bytes_eq x (codes "par")) (when (nat_le 2 n) Par)
    (cond (bytes_eq x (codes "go")) (when (n == 2) Go)
    (cond (bytes_eq x (codes "call")) (when (n == 2) Call)
    (when (bytes_eq x (codes "return") && (n == 1)) Return)))))

-- the operators on words that give a word
abbrev pub word_op : List ℕ → Option Op
word_op x = cond (bytes_eq x (codes "+")) (Some Add)
    (cond (bytes_eq x (codes "-")) (Some Sub)
    (cond (bytes_eq x (codes "1+")) (Some Inc)
    (cond (bytes_eq x (codes "1-")) (Some Dec)
    (cond (bytes_eq x (codes "word-and")) (Some WordAnd)
    (cond (bytes_eq x (codes "word-or")) (Some WordOr)
    (cond (bytes_eq x (codes "word-xor")) (Some WordXor)
    (cond (bytes_eq x (codes "word-not")) (Some WordNot)
    (cond (bytes_eq x (codes "<<")) (Some Left)
    (when (bytes_eq x (codes ">>")) Right)))))))))

-- the operators that give a bit, but for bit itself
abbrev pub bit_op : List ℕ → Option Op
bit_op x = cond (bytes_eq x (codes "and")) (Some And)
    (cond (bytes_eq x (codes "or")) (Some Or)
    (cond (bytes_eq x (codes "nor")) (Some Nor)
    (cond (bytes_eq x (codes "nand")) (Some Nand)
    (cond (bytes_eq x (codes "xor")) (Some Xor)
    (cond (bytes_eq x (codes "not")) (Some Not)
    (cond (bytes_eq x (codes "=0")) (Some Zero)
    (cond (bytes_eq x (codes "=")) (Some Equal)
    (when (bytes_eq x (codes "<")) Less))))))))

abbrev pub or_else : {A : Type 0} → Option A → Option A → Option A
or_else (Some a) b = Some a
or_else None b = b

-- the operator of a name, where all its operands are expressions
abbrev pub op_of : List ℕ → Option Op
op_of x = or_else (word_op x) (bit_op x)

-- whether a list of this number of items, the head included, has the operands of an operator
abbrev pub takes : Op → ℕ → Bool
takes Inc n = n == 2
takes Dec n = n == 2
takes WordNot n = n == 2
takes Left n = n == 2
takes Right n = n == 2
takes Not n = n == 2
takes Zero n = n == 2
takes And n = nat_le 2 n
takes Or n = nat_le 2 n
takes Nor n = nat_le 2 n
takes Nand n = nat_le 2 n
takes _ n = n == 3

-- an operator in a list of this number of items, or else a use of a function: its head is a symbol, and it has an operand
abbrev pub applied : Option Op → List ℕ → ℕ → Option Layout
applied (Some op) x n = when (takes op n) (Apply op)
applied None x n = when (not (length x == 0) && nat_le 2 n) Use

-- an expression that is a list, by the bytes of its head, none where it is no symbol, and the number of its items, the
-- head included
abbrev pub value_layout : List ℕ → ℕ → Option Layout
value_layout x n = cond (bytes_eq x (codes "bit")) (when (n == 3) Bit) (applied (op_of x) x n)

-- a list that isn't empty, by the bytes of its head and all its items; only a branch has no head
abbrev pub list_layout : Forms → Class → List ℕ → List ℕ → Option Layout
list_layout f Whole x items = when (bytes_eq x (codes "program") && nat_le 3 (length items)) Program
list_layout f Item x items = item_layout f x items
list_layout f Element x items = form_layout x (length items)
list_layout f Action x items = form_layout x (length items)
list_layout f Branch x items = Some Guarded
list_layout f Value x items = value_layout x (length items)
list_layout f Word x items = None
list_layout f Numeral x items = None

abbrev pub number_layout : Class → Option Layout
number_layout Value = Some Leaf
number_layout Numeral = Some Leaf
number_layout _ = None

abbrev pub symbol_layout : Class → Option Layout
symbol_layout Element = Some Leaf
symbol_layout Value = Some Leaf
symbol_layout Word = Some Leaf
symbol_layout _ = None

-- the shape of a node that has to be of a class
abbrev pub layout : Forms → Class → Kind → Option Layout
layout f c (Number v) = number_layout c
layout f c (Symbol x) = symbol_layout c
layout f c (Group items) =
    cond (length items == 0) None (list_layout f c (word_of (kind_at f (slice_index items 0))) items)

-- what the items of a list are, by their index
abbrev pub behind_head : ℕ → Class → Option Class
behind_head j c = cond (j == 0) None (Some c)

abbrev pub behind_first : ℕ → Class → Class → Option Class
behind_first j c d = cond (j == 0) None (cond (j == 1) (Some c) (Some d))

abbrev pub behind_number : ℕ → Class → Option Class
behind_number j c = cond (j == 0) None (cond (j == 1) (Some Word) (cond (j == 2) (Some Numeral) (Some c)))

-- what the item at an index has to be; a head, and the items of a definition but for the body of a function, stand for
-- nothing further
abbrev pub item_class : Layout → ℕ → Option Class
item_class Program j = behind_number j Item
item_class Process j = behind_number j Element
item_class Always j = behind_head j Action
item_class Par j = behind_head j Action
item_class Cond j = behind_head j Branch
item_class Go j = behind_head j Word
item_class Call j = behind_head j Word
item_class (Apply op) j = behind_head j Value
item_class Use j = behind_head j Value
item_class (Def Function) j = cond (j == 4) (Some Value) None
item_class Setq j = behind_first j Word Value
item_class Bit j = behind_first j Numeral Value
item_class Guarded j = cond (j == 0) (Some Value) (Some Action)
item_class _ j = None
