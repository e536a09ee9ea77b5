-- Rules E20 to E45: where each is broken.
use Rattle.std.specs.Prelude.{◌≡◌, ◌≢◌, ◌⊎◌, ℕ, ◌<◌, ◌≤◌, ◌^◌, List, [], Bool, true, false, Some, length, Contains, All}
use Rattle.std.specs.Prelude.{count_by, nat_le}
use Rattle.std.specs.List.{flat_map}
use Rattle.mp_base.specs.declared.refusal.Place.{Place}
use Rattle.mp_base.specs.declared.op.Op.TheVariants.{Bit}
use Rattle.mp_program.specs.declared.program.ExprKind.TheVariants.{Number, Apply}
use Rattle.mp_program.specs.declared.program.FormKind.TheVariants.{Set}
use Rattle.mp_program.specs.declared.program.What.{What}
use Rattle.mp_program.specs.declared.program.What.TheVariants.{Constant, Port}
use Rattle.mp_program.specs.declared.program.Way.TheVariants.{Input, Output}
use Rattle.mp_program.specs.declared.program.Pin.{Pin}
use Rattle.mp_program.specs.declared.program.Def.{Def}
use Rattle.mp_program.specs.declared.program.Expr.{Expr}
use Rattle.mp_program.specs.declared.program.Form.{Form}
use Rattle.mp_program.specs.declared.program.Label.{Label}
use Rattle.mp_program.specs.declared.program.Process.{Process}
use Rattle.mp_program.specs.declared.program.Program.{Program}
use Rattle.mp_program.specs.Names.{is_input, is_stored, is_supply, is_reset}
use Rattle.mp_program.specs.Reads.{Chain}
use Rattle.mp_program.specs.Weight.{weight}
use Rattle.mp_base.specs.Entries.{IsAt}
use Rattle.mp_base.specs.declared.limits.TheConstants.{WEIGHT_LIMIT}
use Rattle.mp_rules.specs.Naming.{Naming, namings, is_reserved, supplies, Uses}
use Rattle.mp_rules.specs.Sorts.{Sort, expr_sort, IsWanted}
use Rattle.mp_rules.specs.Standing.{StandsIn, is_transfer, uses_stack, label_of, IsLater}
use Rattle.mp_rules.specs.declared.limits.TheConstants.{NAMING_LIMIT, PROCESS_LIMIT, FORM_LIMIT}
use Rattle.mp_rules.specs.declared.limits.TheConstants.{DEPTH_LIMIT, EXPR_LIMIT}

-- a name that is reserved or that another naming has which doesn't stand after it, or a second definition of the same
-- supply
abbrev pub E20 : Program → Place → Type 0
E20 p at =
    ((k : ℕ) × (n : Naming) × IsAt (namings p) k n × (at ≡ n.place)
    × ((is_reserved n.name ≡ true)
    ⊎ ((j : ℕ) × (m : Naming) × IsAt (namings p) j m × (j ≢ k) × (m.name ≡ n.name)
    × ((m.place).offset ≤ (n.place).offset))))
    ⊎ ((j k : ℕ) × (a b : Def) × IsAt p.defs j a × IsAt p.defs k b × (j < k) × (is_supply a.what ≡ true)
    × (a.what ≡ b.what) × (at ≡ b.place))

-- a name in a `setq` or expression that nothing has
abbrev pub E21 : Program → Place → Type 0
E21 p at = (x : List ℕ) × Uses p x at × ((k : ℕ) (n : Naming) → IsAt (namings p) k n → n.name ≢ x)

-- a bit where a word is wanted or the other way round, or the name of a process in a `setq` or expression
abbrev pub E22 : Program → Place → Type 0
E22 p at =
    ((e : ℕ) × (x : Expr) × (s t : Sort) × IsAt p.exprs e x × IsWanted p e (Some s)
    × (expr_sort p.defs x.kind ≡ Some t) × (s ≢ t) × (at ≡ x.place))
    ⊎ ((k : ℕ) × (q : Process) × IsAt p.processes k q × Uses p q.name at)

-- a constant, or a number in an expression, that a word can't hold
abbrev pub E23 : Program → Place → Type 0
E23 p at =
    ((d : ℕ) × (x : Def) × (c : ℕ) × IsAt p.defs d x × (x.what ≡ Constant c) × (2 ^ p.width ≤ c) × (at ≡ x.place))
    ⊎ ((e : ℕ) × (x : Expr) × (n : ℕ) × IsAt p.exprs e x × (x.kind ≡ Number n) × (2 ^ p.width ≤ n) × (at ≡ x.place))

-- an index of `bit` past the word
abbrev pub E24 : Program → Place → Type 0
E24 p at = (e : ℕ) × (x : Expr) × (k : ℕ) × (args : List ℕ) × IsAt p.exprs e x × (x.kind ≡ Apply Bit k args)
    × (p.width ≤ k) × (at ≡ x.place)

-- the pins of all definitions
abbrev pub pins : Program → List Pin
pins p = flat_map (λ (d : Def). d.pins) p.defs

-- a pin that stands earlier too
abbrev pub E25 : Program → Place → Type 0
E25 p at =
    (j k : ℕ) × (a b : Pin) × IsAt (pins p) j a × IsAt (pins p) k b × (j < k) × (a.number ≡ b.number) × (at ≡ b.place)

-- an input or output port whose pins are not as many as the word has bits
abbrev pub E26 : Program → Place → Type 0
E26 p at = (d : ℕ) × (x : Def) × (first : Pin) × IsAt p.defs d x × ((x.what ≡ Port Input) ⊎ (x.what ≡ Port Output))
    × (length x.pins ≢ p.width) × IsAt x.pins 0 first × (at ≡ first.place)

abbrev pub is_unset : What → Bool
is_unset (Constant c) = true
is_unset w = is_input w

-- a `setq` of an input or a constant
abbrev pub E27 : Program → Place → Type 0
E27 p at =
    (f : ℕ) × (y : Form) × (x : List ℕ) × (v : ℕ) × (d : ℕ) × (z : Def) × IsAt p.forms f y × (y.kind ≡ Set x at v)
    × IsAt p.defs d z × (z.name ≡ x) × (is_unset z.what ≡ true)

-- a `go` or `call` in a process that names no label of it
abbrev pub E28 : Program → Place → Type 0
E28 p at = (k : ℕ) × (q : Process) × (f : ℕ) × (y : Form) × (l : List ℕ) × IsAt p.processes k q × StandsIn p q.forms f y
    × (label_of y.kind ≡ Some l) × All (λ (x : Label). x.name ≢ l) q.labels × (at ≡ y.place)

-- a label that stands earlier in its process
abbrev pub E29 : Program → Place → Type 0
E29 p at =
    (k : ℕ) × (q : Process) × (i j : ℕ) × (a b : Label) × IsAt p.processes k q × IsAt q.labels i a × IsAt q.labels j b
    × (i < j) × (a.name ≡ b.name) × (at ≡ b.place)

-- a transfer in an `always`
abbrev pub E30 : Program → Place → Type 0
E30 p at = (f : ℕ) × (y : Form) × StandsIn p p.always f y × (is_transfer y.kind ≡ true) × (at ≡ y.place)

-- a `call` or `return` in a process without a stack
abbrev pub E31 : Program → Place → Type 0
E31 p at =
    (k : ℕ) × (q : Process) × (f : ℕ) × (y : Form) × IsAt p.processes k q × (q.depth ≡ 0) × StandsIn p q.forms f y
    × (uses_stack y.kind ≡ true) × (at ≡ y.place)

-- the later of two transfers of a top-level form of a process that are not parted by a `cond`
abbrev pub E32 : Program → Place → Type 0
E32 p at = (k : ℕ) × (q : Process) × (r f : ℕ) × (y : Form) × IsAt p.processes k q × Contains q.forms r
    × IsLater p r f y × (at ≡ y.place)

-- a `setq` of what reads itself through a chain
abbrev pub E33 : Program → Place → Type 0
E33 p at = (f : ℕ) × (y : Form) × (x : List ℕ) × (set_at : Place) × (v : ℕ) × (d : ℕ) × (z : Def) × IsAt p.forms f y
    × (y.kind ≡ Set x set_at v)
    × IsAt p.defs d z × (z.name ≡ x) × Chain p d d × (at ≡ y.place)

-- a register, flag or process, where there is no signal input `reset`
abbrev pub E34 : Program → Place → Type 0
E34 p at = All (λ (d : Def). is_reset d ≡ false) p.defs
    × (((d : ℕ) × (x : Def) × IsAt p.defs d x × (is_stored x.what ≡ true) × (at ≡ x.place))
    ⊎ ((k : ℕ) × (q : Process) × IsAt p.processes k q × (at ≡ q.place)))

-- a supply that is not defined
abbrev pub E35 : Program → Place → Type 0
E35 p at = (w : What) × Contains supplies w × All (λ (d : Def). d.what ≢ w) p.defs × (at ≡ p.place)

-- a process without a form
abbrev pub E36 : Program → Place → Type 0
E36 p at = (k : ℕ) × (q : Process) × IsAt p.processes k q × (q.forms ≡ []) × (at ≡ q.place)

-- how many named definitions and processes don't stand after a place
abbrev pub namings_up_to : Program → Place → ℕ
namings_up_to p at = count_by (λ (n : Naming). nat_le (n.place).offset at.offset) (namings p)

-- a named definition or process, with as many others that don't stand behind it as there may be
abbrev pub E40 : Program → Place → Type 0
E40 p at = (k : ℕ) × (n : Naming) × IsAt (namings p) k n × (NAMING_LIMIT < namings_up_to p n.place) × (at ≡ n.place)

-- a process too many
abbrev pub E41 : Program → Place → Type 0
E41 p at = (q : Process) × IsAt p.processes PROCESS_LIMIT q × (at ≡ q.place)

-- the first form too many of a process
abbrev pub E42 : Program → Place → Type 0
E42 p at = (k : ℕ) × (q : Process) × (f : ℕ) × (y : Form) × IsAt p.processes k q × IsAt q.forms FORM_LIMIT f
    × IsAt p.forms f y × (at ≡ y.place)

-- a process that is too deep
abbrev pub E43 : Program → Place → Type 0
E43 p at = (k : ℕ) × (q : Process) × IsAt p.processes k q × (DEPTH_LIMIT < q.depth) × (at ≡ q.depth_at)

-- a weight over the limit
abbrev pub E44 : Program → Place → Type 0
E44 p at = (WEIGHT_LIMIT < weight p) × (at ≡ p.place)

-- too many expressions
abbrev pub E45 : Program → Place → Type 0
E45 p at = (EXPR_LIMIT < length p.exprs) × (at ≡ p.place)
