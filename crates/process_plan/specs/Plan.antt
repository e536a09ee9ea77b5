-- The transfers of a program.
use Rattle.std.specs.Prelude.{
  ◌≡◌,
  ◌⊎◌,
  ◌↔◌,
  ℕ,
  suc,
  List,
  [],
  ◌∷◌,
  Bool,
  true,
  false,
  Option,
  Some,
  None,
  length,
  Contains,
  MatchOption,
  position,
}
use Rattle.mp_base.specs.declared.op.Op.TheVariants.{And, Or, Not}
use Rattle.mp_base.specs.declared.refusal.Place.{Place}
use Rattle.mp_program.specs.declared.program.Expr.{Expr}
use Rattle.mp_program.specs.declared.program.FormKind.{FormKind}
use Rattle.mp_program.specs.declared.program.FormKind.TheVariants.{Set, Go, Call, Return}
use Rattle.mp_program.specs.declared.program.Form.{Form}
use Rattle.mp_program.specs.declared.program.Process.{Process}
use Rattle.mp_program.specs.declared.program.Program.{Program}
use Rattle.mp_program.specs.Names.{index_of, is_reset, pad_number}
use Rattle.mp_program.specs.Pads.{ArePadsOf}
use Rattle.mp_program.specs.Step.{place_of_label}
use Rattle.mp_base.specs.Entries.{IsAt}
use Rattle.mp_rules.specs.Standing.{is_transfer}
use Rattle.rtl_form.specs.declared.rtl.Cell as cells
use Rattle.rtl_form.specs.declared.rtl.CellKind.TheVariants as kinds
use Rattle.rtl_form.specs.declared.rtl.Rtl.{Rtl}
use Rattle.rtl_form.specs.declared.rtl.RtlExpr.{RtlExpr}
use Rattle.rtl_form.specs.declared.rtl.RtlExpr.TheVariants.{Truth, Cell, Apply}
use Rattle.rtl_form.specs.declared.rtl.Transfer.{Transfer}
use Rattle.process_plan.specs.Roles.{Role, Value, Placed, Stacked, AreCells}
use Rattle.process_plan.specs.Active.{Origin, At}
use Rattle.process_plan.specs.Enables.{Enable, HasEnable, AreEnables, IsPlaceExpr, copy_of, IsCopy}

-- ---- moves: `go`, `call` and `return`

abbrev pub is_call : FormKind → Bool
is_call (Call l) = true
is_call _ = false

abbrev pub is_return : FormKind → Bool
is_return Return = true
is_return _ = false

-- a is the enable of a form of process k that passes this test
abbrev pub IsMoveEnable : Program → List (Option Enable) → (FormKind → Bool) → ℕ → ℕ → Type 0
IsMoveEnable p enables test k a =
    (f i : ℕ) × (y : Form) × IsAt p.forms f y × (test y.kind ≡ true) × HasEnable enables f (At k i) a

-- process k has a form that passes this test
abbrev pub HasMove : Program → List (Option Enable) → (FormKind → Bool) → ℕ → Type 0
HasMove p enables test k = (a : ℕ) × IsMoveEnable p enables test k a

-- u is 1 where one of these expressions is
abbrev pub IsUnion : List RtlExpr → List ℕ → ℕ → Type 0
IsUnion exprs guards u = (guards ≡ u ∷ []) ⊎ IsAt exprs u (Apply Or 0 guards)

-- u is 1 where one of the forms of process k that pass this test is active
abbrev pub IsUnionOf : Program → List RtlExpr → List (Option Enable) → (FormKind → Bool) → ℕ → ℕ → Type 0
IsUnionOf p exprs enables test k u =
    (guards : List ℕ) × ((a : ℕ) → Contains guards a ↔ IsMoveEnable p enables test k a) × IsUnion exprs guards u

-- ns are the negations of ms
abbrev pub AreNegations : List RtlExpr → List ℕ → List ℕ → Type 0
AreNegations exprs [] [] = Unit {0}
AreNegations exprs [] (n ∷ ns) = ⊥
AreNegations exprs (m ∷ ms) [] = ⊥
AreNegations exprs (m ∷ ms) (n ∷ ns) = IsAt exprs n (Apply Not 0 (m ∷ [])) × AreNegations exprs ms ns

-- ms are the enables of the moves in the form at place i of process k
abbrev pub AreMovesAt : Program → List (Option Enable) → ℕ → ℕ → List ℕ → Type 0
AreMovesAt p enables k i ms = (m : ℕ) → Contains ms m
    ↔ ((f : ℕ) × (y : Form) × IsAt p.forms f y × (is_transfer y.kind ≡ true) × HasEnable enables f (At k i) m)

-- e is 1 where the form at place i of process k, whose enable is a, is active and none of the moves in it is
abbrev pub IsFall : Program → List RtlExpr → List (Option Enable) → ℕ → ℕ → (a e : ℕ) → Type 0
IsFall p exprs enables k i a e = (ms : List ℕ) × AreMovesAt p enables k i ms
    × (((ms ≡ []) × (e ≡ a))
    ⊎ ((Contains ms a) × (e ≡ 1))
    ⊎ ((ns : List ℕ) × AreNegations exprs ms ns × IsAt exprs e (Apply And 0 (a ∷ ns))))

-- a `go` or `call` goes to place j
abbrev pub LandsAt : Process → FormKind → ℕ → Type 0
LandsAt q (Go l) j = j ≡ place_of_label q q.labels l
LandsAt q (Call l) j = j ≡ place_of_label q q.labels l
LandsAt q _ j = ⊥

-- ---- transfers

-- a transfer of the program
pub data IsPlanned (p : Program) (exprs : List RtlExpr) (roles : List Role) (enables : List (Option Enable))
    : Transfer → Type 0 where
  -- a `setq`
  sets : (f : ℕ) (y : Form) (x : List ℕ) (at : Place) (e : ℕ) (o : Origin) (a c : ℕ)
      → IsAt p.forms f y → y.kind ≡ Set x at e → HasEnable enables f o a
      → IsAt roles c (Value (index_of p.defs x))
      → IsPlanned p exprs roles enables (record { guard = a; target = c; value = copy_of p e })
  -- a process goes on from place i
  falls : (k i a e c : ℕ) → IsPlaceExpr p exprs roles k i a → IsFall p exprs enables k i a e
      → IsAt roles c (Placed k (suc i))
      → IsPlanned p exprs roles enables (record { guard = 0; target = c; value = e })
  -- a `go` or `call`
  lands : (k i j f : ℕ) (y : Form) (q : Process) (a c : ℕ)
      → IsAt p.processes k q → IsAt p.forms f y → LandsAt q y.kind j → HasEnable enables f (At k i) a
      → IsAt roles c (Placed k j)
      → IsPlanned p exprs roles enables (record { guard = 0; target = c; value = a })
  -- a `return`
  returns : (k j u e d c : ℕ) → IsUnionOf p exprs enables is_return k u
      → IsAt exprs e (Cell d) → IsAt roles d (Stacked k 0 j) → IsAt roles c (Placed k j)
      → IsPlanned p exprs roles enables (record { guard = u; target = c; value = e })
  -- a call pushes the place behind it
  pushes : (k i u a c : ℕ) → IsUnionOf p exprs enables is_call k u → IsPlaceExpr p exprs roles k i a
      → IsAt roles c (Stacked k 0 (suc i))
      → IsPlanned p exprs roles enables (record { guard = u; target = c; value = a })
  -- and moves the others down
  sinks : (k l j u e d c : ℕ) → IsUnionOf p exprs enables is_call k u
      → IsAt exprs e (Cell d) → IsAt roles d (Stacked k l j) → IsAt roles c (Stacked k (suc l) j)
      → IsPlanned p exprs roles enables (record { guard = u; target = c; value = e })
  -- a return moves them up
  rises : (k l j u e d c : ℕ) → IsUnionOf p exprs enables is_return k u
      → IsAt exprs e (Cell d) → IsAt roles d (Stacked k (suc l) j) → IsAt roles c (Stacked k l j)
      → IsPlanned p exprs roles enables (record { guard = u; target = c; value = e })
  -- and leaves nothing in the last
  empties : (k l j u c : ℕ) (q : Process) → IsAt p.processes k q → q.depth ≡ suc l
      → IsUnionOf p exprs enables is_return k u → IsAt roles c (Stacked k l j)
      → IsPlanned p exprs roles enables (record { guard = u; target = c; value = 1 })

-- all transfers of the program, in any order
pub record AreTransfers (p : Program) (exprs : List RtlExpr) (roles : List Role) (enables : List (Option Enable))
    (transfers : List Transfer) : Type 0 where
  -- nothing but this is transferred
  pub only : (t : Transfer) → Contains transfers t → IsPlanned p exprs roles enables t
  -- and all of this is
  pub sets : (f : ℕ) (y : Form) (x : List ℕ) (at : Place) (e : ℕ) (o : Origin) (a c : ℕ)
      → IsAt p.forms f y → y.kind ≡ Set x at e → HasEnable enables f o a
      → IsAt roles c (Value (index_of p.defs x))
      → Contains transfers (record { guard = a; target = c; value = copy_of p e })
  pub falls : (k i c : ℕ) → IsAt roles c (Placed k (suc i))
      → (a e : ℕ) × IsPlaceExpr p exprs roles k i a × IsFall p exprs enables k i a e
      × Contains transfers (record { guard = 0; target = c; value = e })
  pub lands : (k i j f : ℕ) (y : Form) (q : Process) (a c : ℕ)
      → IsAt p.processes k q → IsAt p.forms f y → LandsAt q y.kind j → HasEnable enables f (At k i) a
      → IsAt roles c (Placed k j)
      → Contains transfers (record { guard = 0; target = c; value = a })
  pub returns : (k j c d : ℕ) → HasMove p enables is_return k
      → IsAt roles d (Stacked k 0 j) → IsAt roles c (Placed k j)
      → (u e : ℕ) × IsUnionOf p exprs enables is_return k u × IsAt exprs e (Cell d)
      × Contains transfers (record { guard = u; target = c; value = e })
  pub pushes : (k i c : ℕ) → HasMove p enables is_call k → IsAt roles c (Stacked k 0 (suc i))
      → (u a : ℕ) × IsUnionOf p exprs enables is_call k u × IsPlaceExpr p exprs roles k i a
      × Contains transfers (record { guard = u; target = c; value = a })
  pub sinks : (k l j c d : ℕ) → HasMove p enables is_call k
      → IsAt roles d (Stacked k l j) → IsAt roles c (Stacked k (suc l) j)
      → (u e : ℕ) × IsUnionOf p exprs enables is_call k u × IsAt exprs e (Cell d)
      × Contains transfers (record { guard = u; target = c; value = e })
  pub rises : (k l j c d : ℕ) → HasMove p enables is_return k
      → IsAt roles d (Stacked k (suc l) j) → IsAt roles c (Stacked k l j)
      → (u e : ℕ) × IsUnionOf p exprs enables is_return k u × IsAt exprs e (Cell d)
      × Contains transfers (record { guard = u; target = c; value = e })
  pub empties : (k l j c : ℕ) (q : Process) → IsAt p.processes k q → q.depth ≡ suc l
      → HasMove p enables is_return k → IsAt roles c (Stacked k l j)
      → (u : ℕ) × IsUnionOf p exprs enables is_return k u
      × Contains transfers (record { guard = u; target = c; value = 1 })

-- ---- the plan

-- the cell of the input `reset`, where the program has one
abbrev pub IsResetCell : Program → List cells.Cell → Option ℕ → Type 0
IsResetCell p xs reset = MatchOption (position is_reset p.defs) (reset ≡ None) (λ d.
    (c : ℕ) × (x : cells.Cell) × (reset ≡ Some c) × IsAt xs c x × (x.kind ≡ kinds.Input (pad_number p.defs d)))

-- a transfer for each thing that the program does, guarded by the enables of its forms; cells by their roles
pub record FollowsPlan (p : Program) (r : Rtl) (roles : List Role) (enables : List (Option Enable)) : Type 0 where
  pub width : r.width ≡ p.width
  pub padded : ArePadsOf p r.pads
  pub reset : IsResetCell p r.cells r.reset
  pub cells : AreCells p roles r.cells
  pub truth : IsAt r.exprs 0 (Truth true) × IsAt r.exprs 1 (Apply Not 0 (0 ∷ []))
  pub copies : (e : ℕ) (x : Expr) → IsAt p.exprs e x
      → (y : RtlExpr) × IsAt r.exprs (copy_of p e) y × IsCopy p roles x.kind y
  pub enabled : AreEnables p r.exprs roles enables
  pub transfers : AreTransfers p r.exprs roles enables r.transfers

-- the cells of an order of the program's definitions
pub record FollowsOrder (r : Rtl) (roles : List Role) (order : List ℕ) : Type 0 where
  pub size : length r.order ≡ length order
  pub each : (k d : ℕ) → IsAt order k d → (c : ℕ) × IsAt r.order k c × IsAt roles c (Value d)
