-- Rules E20 to E45 of programs as they are written: where each is broken.
use Rattle.std.specs.Prelude.{◌≡◌, ◌≢◌, ◌⊎◌, ℕ, ◌<◌, ◌≤◌, ◌^◌, List, [], ◌∷◌, true, Some, length, Contains, All}
use Rattle.std.specs.Prelude.{count_by, nat_le, codes}
use Rattle.std.specs.List.{flat_map}
use Rattle.mp_base.specs.declared.refusal.Place.{Place}
use Rattle.mp_base.specs.declared.op.Op.TheVariants.{Bit}
use Rattle.mp_base.specs.declared.limits.TheConstants.{WEIGHT_LIMIT}
use Rattle.mp_base.specs.Entries.{IsAt}
use Rattle.mp_program.specs.declared.program.FormKind.TheVariants.{Set}
use Rattle.mp_program.specs.declared.program.Way.TheVariants.{Input, Output}
use Rattle.mp_program.specs.declared.program.Pin.{Pin}
use Rattle.mp_program.specs.declared.program.Form.{Form}
use Rattle.mp_program.specs.declared.program.Label.{Label}
use Rattle.mp_program.specs.declared.program.Process.{Process}
use Rattle.mp_rules.specs.Naming.{Naming, is_reserved}
use Rattle.mp_rules.specs.Sorts.{Sort}
use Rattle.mp_rules.specs.Standing.{is_transfer, uses_stack, label_of}
use Rattle.mp_rules.specs.declared.limits.TheConstants.{NAMING_LIMIT, PROCESS_LIMIT, FORM_LIMIT}
use Rattle.mp_rules.specs.declared.limits.TheConstants.{DEPTH_LIMIT, EXPR_LIMIT}
use Rattle.mp_written.specs.declared.program.ExprKind.TheVariants.{Number, Apply, Use}
use Rattle.mp_written.specs.declared.program.What.{What}
use Rattle.mp_written.specs.declared.program.What.TheVariants.{Power, Ground, Phia, Phib, Phic, Constant, Port}
use Rattle.mp_written.specs.declared.program.Arg.{Arg}
use Rattle.mp_written.specs.declared.program.Def.{Def}
use Rattle.mp_written.specs.declared.program.Expr.{Expr}
use Rattle.mp_written.specs.declared.program.Program.{Program}
use Rattle.mp_written.specs.Kinds.{is_supply, is_function, is_stored, is_constant, is_unset, is_input_signal}
use Rattle.mp_written.specs.Functions.{Function, functions}
use Rattle.mp_written.specs.Sound.{InBody}
use Rattle.mp_written.specs.Reads.{Chain}
use Rattle.mp_written.specs.Expansion.{all_pieces}
use Rattle.mp_written.specs.Weight.{weight}
use Rattle.written_rules.specs.Naming.{namings, IsDefined, Defines, NamesNoValue, IsArgument, MayUse}
use Rattle.written_rules.specs.Naming.{IsNamedAt, IsTargetAt, operators}
use Rattle.written_rules.specs.Sorts.{IsWanted, HasSort}
use Rattle.written_rules.specs.Standing.{StandsIn, IsLater}

-- a name that is reserved or that another naming has which doesn't stand after it, or a second definition of the same
-- supply
abbrev pub E20 : Program → Place → Type 0
E20 w at =
    ((k : ℕ) × (n : Naming) × IsAt (namings w) k n × (at ≡ n.place)
    × ((is_reserved n.name ≡ true)
    ⊎ ((j : ℕ) × (m : Naming) × IsAt (namings w) j m × (j ≢ k) × (m.name ≡ n.name)
    × ((m.place).offset ≤ (n.place).offset))))
    ⊎ ((j k : ℕ) × (a b : Def) × IsAt w.defs j a × IsAt w.defs k b × (j < k) × (is_supply a.what ≡ true)
    × (a.what ≡ b.what) × (at ≡ b.place))

-- a name that nothing has and that is no argument there; or the head of a use that names no function, or in a body none
-- whose definition stands earlier
abbrev pub E21 : Program → Place → Type 0
E21 w at =
    ((e : ℕ) × (x : List ℕ) × IsNamedAt w e x at × (¬ IsDefined w x) × (¬ IsArgument w e x))
    ⊎ ((x : List ℕ) × IsTargetAt w x at × (¬ IsDefined w x))
    ⊎ ((e : ℕ) × (y : Expr) × (x os : List ℕ) × IsAt w.exprs e y × (y.kind ≡ Use at x os)
    × ((j : ℕ) (g : Function) → ¬ MayUse w e x j g))

-- a bit where a word is wanted or the other way round; or the name of a process or function in a `setq` or as an
-- expression
abbrev pub E22 : Program → Place → Type 0
E22 w at =
    ((e : ℕ) × (x : Expr) × (s t : Sort) × IsAt w.exprs e x × IsWanted w e (Some s) × HasSort w e x t × (s ≢ t)
    × (at ≡ x.place))
    ⊎ ((e : ℕ) × (x : List ℕ) × IsNamedAt w e x at × (¬ IsArgument w e x) × NamesNoValue w x)
    ⊎ ((x : List ℕ) × IsTargetAt w x at × NamesNoValue w x)

-- a constant, or a number in an expression, that a word can't hold
abbrev pub E23 : Program → Place → Type 0
E23 w at =
    ((d : ℕ) × (x : Def) × (c : ℕ) × IsAt w.defs d x × (x.what ≡ Constant c) × (2 ^ w.width ≤ c) × (at ≡ x.place))
    ⊎ ((e : ℕ) × (x : Expr) × (n : ℕ) × IsAt w.exprs e x × (x.kind ≡ Number n) × (2 ^ w.width ≤ n) × (at ≡ x.place))

-- an index of `bit` past the word
abbrev pub E24 : Program → Place → Type 0
E24 w at = (e : ℕ) × (x : Expr) × (k : ℕ) × (os : List ℕ) × IsAt w.exprs e x × (x.kind ≡ Apply Bit k os)
    × (w.width ≤ k) × (at ≡ x.place)

-- the pins of all definitions
abbrev pub pins : Program → List Pin
pins w = flat_map (λ (d : Def). d.pins) w.defs

-- a pin that stands earlier too
abbrev pub E25 : Program → Place → Type 0
E25 w at =
    (j k : ℕ) × (a b : Pin) × IsAt (pins w) j a × IsAt (pins w) k b × (j < k) × (a.number ≡ b.number) × (at ≡ b.place)

-- an input or output port whose pins are not as many as the word has bits
abbrev pub E26 : Program → Place → Type 0
E26 w at = (d : ℕ) × (x : Def) × (first : Pin) × IsAt w.defs d x
    × ((x.what ≡ Port Input) ⊎ (x.what ≡ Port Output))
    × (length x.pins ≢ w.width) × IsAt x.pins 0 first × (at ≡ first.place)

-- a `setq` of an input or a constant
abbrev pub E27 : Program → Place → Type 0
E27 w at = (x : List ℕ) × IsTargetAt w x at × Defines w x is_unset

-- a `go` or `call` in a process that names no label of it
abbrev pub E28 : Program → Place → Type 0
E28 w at = (k : ℕ) × (q : Process) × (f : ℕ) × (y : Form) × (l : List ℕ) × IsAt w.processes k q × StandsIn w q.forms f y
    × (label_of y.kind ≡ Some l) × All (λ (x : Label). x.name ≢ l) q.labels × (at ≡ y.place)

-- a label that stands earlier in its process
abbrev pub E29 : Program → Place → Type 0
E29 w at =
    (k : ℕ) × (q : Process) × (i j : ℕ) × (a b : Label) × IsAt w.processes k q × IsAt q.labels i a × IsAt q.labels j b
    × (i < j) × (a.name ≡ b.name) × (at ≡ b.place)

-- a transfer in an `always`
abbrev pub E30 : Program → Place → Type 0
E30 w at = (f : ℕ) × (y : Form) × StandsIn w w.always f y × (is_transfer y.kind ≡ true) × (at ≡ y.place)

-- a `call` or `return` in a process without a stack
abbrev pub E31 : Program → Place → Type 0
E31 w at =
    (k : ℕ) × (q : Process) × (f : ℕ) × (y : Form) × IsAt w.processes k q × (q.depth ≡ 0) × StandsIn w q.forms f y
    × (uses_stack y.kind ≡ true) × (at ≡ y.place)

-- the later of two transfers of a top-level form of a process that are not parted by a `cond`
abbrev pub E32 : Program → Place → Type 0
E32 w at = (k : ℕ) × (q : Process) × (r f : ℕ) × (y : Form) × IsAt w.processes k q × Contains q.forms r
    × IsLater w r f y × (at ≡ y.place)

-- a `setq` of what reads itself through a chain; a name in an operand is read also where the argument isn't used
abbrev pub E33 : Program → Place → Type 0
E33 w at = (f : ℕ) × (y : Form) × (x : List ℕ) × (set_at : Place) × (v : ℕ) × (d : ℕ) × (z : Def)
    × IsAt w.forms f y × (y.kind ≡ Set x set_at v) × IsAt w.defs d z × (z.name ≡ x) × Chain w d d
    × (at ≡ y.place)

-- a register, flag or process, where there is no signal input `reset`
abbrev pub E34 : Program → Place → Type 0
E34 w at = (¬ Defines w (codes "reset") is_input_signal)
    × (((d : ℕ) × (x : Def) × IsAt w.defs d x × (is_stored x.what ≡ true) × (at ≡ x.place))
    ⊎ ((k : ℕ) × (q : Process) × IsAt w.processes k q × (at ≡ q.place)))

-- power, ground and the phases of the clock
abbrev pub supplies : List What
supplies = Power ∷ Ground ∷ Phia ∷ Phib ∷ Phic ∷ []

-- a supply that is not defined
abbrev pub E35 : Program → Place → Type 0
E35 w at = (what : What) × Contains supplies what × All (λ (d : Def). d.what ≢ what) w.defs × (at ≡ w.place)

-- a process without a form
abbrev pub E36 : Program → Place → Type 0
E36 w at = (k : ℕ) × (q : Process) × IsAt w.processes k q × (q.forms ≡ []) × (at ≡ q.place)

-- a use that has not as many operands as its function has arguments
abbrev pub E37 : Program → Place → Type 0
E37 w at = (e : ℕ) × (y : Expr) × (head : Place) × (x os : List ℕ) × (j : ℕ) × (g : Function) × IsAt w.exprs e y
    × (y.kind ≡ Use head x os) × MayUse w e x j g × (length os ≢ length g.args) × (at ≡ y.place)

-- a function with the name of an operator; or an argument that stands earlier in its list, is `t` or `f`, or has the
-- name of a definition or process
abbrev pub E38 : Program → Place → Type 0
E38 w at =
    ((k : ℕ) × (f : Function) × IsAt (functions w) k f × Contains operators f.name × (at ≡ f.place))
    ⊎ ((k : ℕ) × (f : Function) × (i : ℕ) × (a : Arg) × IsAt (functions w) k f × IsAt f.args i a × (at ≡ a.place)
    × (((j : ℕ) × (b : Arg) × IsAt f.args j b × (j < i) × (b.name ≡ a.name))
    ⊎ (a.name ≡ codes "t") ⊎ (a.name ≡ codes "f") ⊎ IsDefined w a.name))

-- in a body a name that is defined and is neither an argument nor that of a constant or function
abbrev pub E39 : Program → Place → Type 0
E39 w at = (k : ℕ) × (f : Function) × (e : ℕ) × (x : List ℕ) × InBody w k f e × IsNamedAt w e x at × IsDefined w x
    × (¬ IsArgument w e x) × (¬ Defines w x is_constant) × (¬ Defines w x is_function)

-- how many named definitions and processes don't stand after a place
abbrev pub namings_up_to : Program → Place → ℕ
namings_up_to w at = count_by (λ (n : Naming). nat_le (n.place).offset at.offset) (namings w)

-- a named definition or process, with as many others that don't stand behind it as there may be
abbrev pub E40 : Program → Place → Type 0
E40 w at = (k : ℕ) × (n : Naming) × IsAt (namings w) k n × (NAMING_LIMIT < namings_up_to w n.place) × (at ≡ n.place)

-- a process too many
abbrev pub E41 : Program → Place → Type 0
E41 w at = (q : Process) × IsAt w.processes PROCESS_LIMIT q × (at ≡ q.place)

-- the first form too many of a process
abbrev pub E42 : Program → Place → Type 0
E42 w at = (k : ℕ) × (q : Process) × (f : ℕ) × (y : Form) × IsAt w.processes k q × IsAt q.forms FORM_LIMIT f
    × IsAt w.forms f y × (at ≡ y.place)

-- a process that is too deep
abbrev pub E43 : Program → Place → Type 0
E43 w at = (k : ℕ) × (q : Process) × IsAt w.processes k q × (DEPTH_LIMIT < q.depth) × (at ≡ q.depth_at)

-- a weight of the expansion over the limit
abbrev pub E44 : Program → Place → Type 0
E44 w at = (WEIGHT_LIMIT < weight w) × (at ≡ w.place)

-- too many expressions in the expansion
abbrev pub E45 : Program → Place → Type 0
E45 w at = (EXPR_LIMIT < length (all_pieces w)) × (at ≡ w.place)
