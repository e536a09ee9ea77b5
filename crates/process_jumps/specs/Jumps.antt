-- The jumps of processes.
use Rattle.std.specs.Prelude.{
  ◌≡◌,
  ◌≤◌,
  ℕ,
  suc,
  ◌+◌,
  List,
  false,
  Option,
  length,
  take,
  MatchOption,
}
use Prim.Native.Nat.{zero}
use Rattle.std.specs.List.{sum_by}
use Rattle.mp_program.specs.declared.program.Process.{Process}
use Rattle.mp_program.specs.declared.program.Program.{Program}
use Rattle.mp_base.specs.Entries.{IsAt}
use Rattle.rtl_form.specs.declared.rtl.Cell as cells
use Rattle.rtl_form.specs.declared.rtl.RtlExpr.{RtlExpr}
use Rattle.process_plan.specs.declared.role.Role.{Role}
use Rattle.process_plan.specs.declared.enable.Origin.{Origin}
use Rattle.process_plan.specs.declared.enable.Origin.TheVariants.{At}
use Rattle.process_plan.specs.Active.{IsRoot}
use Rattle.process_plan.specs.declared.enable.Enable.{Enable}
use Rattle.process_plan.specs.Enables.{HasEnable, AreEnables, IsPlaceExpr}
use Rattle.process_plan.specs.Plan.{is_call, is_return, HasMove, IsUnionOf, IsFall}
use Rattle.process_plan.specs.Bill.{exprs_cost}
use Rattle.process_plan.specs.Fits.{ExprsFit, HasSortIn}
use Rattle.process_layout.specs.Counts.{parted_of, tally_of, tallies_of}
use Rattle.process_layout.specs.Steps.{Keeps, moves_cost}
use Rattle.process_jumps.specs.declared.jumps.Jumps.{Jumps}
use Rattle.process_jumps.specs.declared.moves.Move.{Move}
use Rattle.process_jumps.specs.declared.moves.Group.TheVariants.{Inside}
use Rattle.process_jumps.specs.Moves.{moves_in, picked}

-- each form that stands in a process, and in no other form, has an enable there
abbrev pub AreRooted : Program → List (Option Enable) → Type 0
AreRooted p enables = (k i f : ℕ) → IsRoot p (At k i) f → (a : ℕ) × HasEnable enables f (At k i) a

-- expressions that are added to those of which enables are; all fit
pub record IsExtended (p : Program) (roles : List Role) (xs : List cells.Cell) (enables : List (Option Enable))
    (exprs : List RtlExpr) : Type 0 where
  pub base : List RtlExpr
  pub kept : Keeps base exprs
  pub enabled : AreEnables p base roles enables
  pub bits : (f a : ℕ) (o : Origin) → HasEnable enables f o a → HasSortIn xs base a false
  pub fits : ExprsFit p.width xs exprs

-- ---- falls

-- e is 1 where process k goes on from place i
abbrev pub IsFallAt : Program → List RtlExpr → List Role → List (Option Enable) → ℕ → ℕ → ℕ → Type 0
IsFallAt p exprs roles enables k i e = (a : ℕ) × IsPlaceExpr p exprs roles k i a × IsFall p exprs enables k i a e

-- how many moves there are in the forms at the first n places of process k
abbrev pub inside_to : ℕ → ℕ → List Move → ℕ
inside_to k zero ms = 0
inside_to k (suc n) ms = length (picked (Inside k n) ms) + inside_to k n ms

-- the falls of the first n places of process k
pub record AreFallsMade (p : Program) (roles : List Role) (xs : List cells.Cell) (enables : List (Option Enable))
    (k n : ℕ) (old new : List RtlExpr) (falls : List ℕ) : Type 0 where
  pub size : length falls ≡ n
  pub each : (i e : ℕ) → IsAt falls i e → IsFallAt p new roles enables k i e
  pub kept : Keeps old new
  pub extended : IsExtended p roles xs enables new
  pub cost : exprs_cost new
      ≤ exprs_cost old + (parted_of k n p.forms enables + inside_to k n (moves_in p.forms enables))

-- those of all places of process k, whatever the cells
abbrev pub AllFallsMade : Program → List (Option Enable) → ℕ → List RtlExpr → List RtlExpr → List ℕ → Type 0
AllFallsMade p enables k old new falls = (roles : List Role) (xs : List cells.Cell) (q : Process)
    → IsAt p.processes k q → IsExtended p roles xs enables old
    → AreFallsMade p roles xs enables k (length q.forms) old new falls

-- ---- jumps

-- the jumps of process k, which is q
pub record IsJumps (p : Program) (exprs : List RtlExpr) (roles : List Role) (enables : List (Option Enable)) (k : ℕ)
    (q : Process) (m : Jumps) : Type 0 where
  pub calls : MatchOption m.calls (¬ HasMove p enables is_call k) (IsUnionOf p exprs enables is_call k)
  pub returns : MatchOption m.returns (¬ HasMove p enables is_return k) (IsUnionOf p exprs enables is_return k)
  pub size : length m.falls ≡ length q.forms
  pub falls : (i e : ℕ) → IsAt m.falls i e → IsFallAt p exprs roles enables k i e

pub record AreJumpsOf (p : Program) (roles : List Role) (xs : List cells.Cell) (enables : List (Option Enable)) (k : ℕ)
    (q : Process) (old new : List RtlExpr) (m : Jumps) : Type 0 where
  pub jumps : IsJumps p new roles enables k q m
  pub kept : Keeps old new
  pub extended : IsExtended p roles xs enables new
  pub cost : exprs_cost new ≤ exprs_cost old + moves_cost (tally_of p enables k q)

-- the jumps of process k, whatever the cells
abbrev pub MakesJumps : Program → List (Option Enable) → ℕ → List RtlExpr → List RtlExpr → Jumps → Type 0
MakesJumps p enables k old new m = (roles : List Role) (xs : List cells.Cell) (q : Process)
    → IsAt p.processes k q → IsExtended p roles xs enables old → AreJumpsOf p roles xs enables k q old new m

-- the jumps of the first n processes
pub record AreJumpsMade (p : Program) (roles : List Role) (xs : List cells.Cell) (enables : List (Option Enable))
    (n : ℕ) (old new : List RtlExpr) (ms : List Jumps) : Type 0 where
  pub size : length ms ≡ n
  pub each : (k : ℕ) (q : Process) (m : Jumps) → IsAt p.processes k q → IsAt ms k m
      → IsJumps p new roles enables k q m
  pub kept : Keeps old new
  pub extended : IsExtended p roles xs enables new
  pub cost : exprs_cost new ≤ exprs_cost old + sum_by moves_cost (take n (tallies_of p enables 0 p.processes))

abbrev pub AllJumpsMade : Program → List (Option Enable) → List RtlExpr → List RtlExpr → List Jumps → Type 0
AllJumpsMade p enables old new ms = (roles : List Role) (xs : List cells.Cell) → IsExtended p roles xs enables old
    → AreJumpsMade p roles xs enables (length p.processes) old new ms
