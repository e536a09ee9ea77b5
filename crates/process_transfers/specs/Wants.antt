-- Which transfers forms and cells want.
use Rattle.std.specs.Prelude.{
  ◌≡◌,
  ◌≢◌,
  ◌⊎◌,
  ℕ,
  suc,
  ◌+◌,
  ◌<◌,
  List,
  Bool,
  true,
  false,
  Option,
  Some,
  None,
  length,
  Contains,
  MatchOption,
}
use Prim.Native.Nat.{zero}
use Rattle.mp_program.specs.declared.program.FormKind.{FormKind}
use Rattle.mp_program.specs.declared.program.FormKind.TheVariants as forms
use Rattle.mp_program.specs.declared.program.Form.{Form}
use Rattle.mp_program.specs.declared.program.Process.{Process}
use Rattle.mp_program.specs.declared.program.Program.{Program}
use Rattle.mp_program.specs.Names.{index_of}
use Rattle.mp_program.specs.Step.{place_of_label}
use Rattle.mp_base.specs.Entries.{IsAt}
use Rattle.rtl_form.specs.declared.rtl.Transfer.{Transfer}
use Rattle.process_plan.specs.declared.role.Role.{Role}
use Rattle.process_plan.specs.declared.role.Role.TheVariants.{Value, Placed, Stacked}
use Rattle.process_plan.specs.declared.enable.Origin.TheVariants.{At}
use Rattle.process_plan.specs.declared.enable.Enable.{Enable}
use Rattle.process_plan.specs.Enables.{copy_of}
use Rattle.process_plan.specs.Plan.{is_call}
use Rattle.process_layout.specs.Counts.{count_of, is_go}
use Rattle.process_jumps.specs.declared.jumps.Jumps.{Jumps}
use Rattle.process_transfers.specs.declared.roles.Control.{Control}
use Rattle.process_transfers.specs.declared.roles.Motion.{Motion}
use Rattle.process_transfers.specs.declared.roles.Motion.TheVariants.{Fall, Push, Pop, Back}

-- found is one that is wanted, or none is wanted
abbrev pub IsFound : {X : Type 0} → (X → Type 0) → Option X → Type 0
IsFound {X} W found = MatchOption found ((t : X) → ¬ W t) W

-- transfers are added that the first n things want, one to each that wants any
pub record Serves (W : ℕ → Transfer → Type 0) (n : ℕ) (old new : List Transfer) : Type 0 where
  pub kept : (t : Transfer) → Contains old t → Contains new t
  pub only : (t : Transfer) → Contains new t → Contains old t ⊎ ((i : ℕ) × (i < n) × W i t)
  pub each : (i : ℕ) (t : Transfer) → i < n → W i t → (u : Transfer) × W i u × Contains new u

-- ---- forms

abbrev pub SetsWithin : Program → FormKind → Type 0
SetsWithin p (forms.Set x at e) = e < length p.exprs
SetsWithin p _ = Unit {0}

-- a `setq` of x to e, whose enable is a
abbrev pub SetWants : Program → List Role → List ℕ → ℕ → ℕ → Transfer → Type 0
SetWants p roles x e a t = (c : ℕ) × IsAt roles c (Value (index_of p.defs x))
    × (t ≡ record { guard = a; target = c; value = copy_of p e })

-- a `go` or `call` to a label
abbrev pub LandWants : Program → List Role → List ℕ → Enable → Transfer → Type 0
LandWants p roles l x t = (k i c : ℕ) × (q : Process) × (x.origin ≡ At k i) × IsAt p.processes k q
    × IsAt roles c (Placed k (place_of_label q q.labels l))
    × (t ≡ record { guard = 0; target = c; value = x.expr })

abbrev pub FormWants : Program → List Role → FormKind → Option Enable → Transfer → Type 0
FormWants p roles kind None t = ⊥
FormWants p roles (forms.Set x at e) (Some enable) t = SetWants p roles x e enable.expr t
FormWants p roles (forms.Go l) (Some enable) t = LandWants p roles l enable t
FormWants p roles (forms.Call l) (Some enable) t = LandWants p roles l enable t
FormWants p roles _ (Some enable) t = ⊥

-- the form at f
abbrev pub WantsAt : Program → List Role → List (Option Enable) → ℕ → Transfer → Type 0
WantsAt p roles enables f t = (y : Form) × (x : Option Enable) × IsAt p.forms f y × IsAt enables f x
    × FormWants p roles y.kind x t

-- how many `go` and `call` in the first n processes have enables
abbrev pub lands_in : ℕ → List Form → List (Option Enable) → ℕ
lands_in zero ys xs = 0
lands_in (suc n) ys xs = count_of is_go n ys xs + count_of is_call n ys xs + lands_in n ys xs

-- ---- cells of processes

-- v reads the cell of a role
abbrev pub IsRead : List Role → Control → Role → ℕ → Type 0
IsRead roles x s v = (d : ℕ) × IsAt roles d s × IsAt x.readings d v

-- what is pushed to level l: that the process is at the place before, or what the level above has
abbrev pub IsPushed : List Role → Control → ℕ → ℕ → ℕ → ℕ → Type 0
IsPushed roles x k zero j v = (es : List ℕ) × (i : ℕ) × IsAt x.places k es × (j ≡ suc i) × IsAt es i v
IsPushed roles x k (suc l) j v = IsRead roles x (Stacked k l j) v

-- what is popped to level l: what the level below has, or nothing
abbrev pub IsPopped : Program → List Role → Control → ℕ → ℕ → ℕ → ℕ → Type 0
IsPopped p roles x k l j v = (q : Process) × IsAt p.processes k q
    × (((q.depth ≡ suc l) × (v ≡ 1)) ⊎ ((q.depth ≢ suc l) × IsRead roles x (Stacked k (suc l) j) v))

abbrev pub FallWants : Control → ℕ → ℕ → ℕ → Transfer → Type 0
FallWants x c k j t = (m : Jumps) × (i e : ℕ) × (j ≡ suc i) × IsAt x.jumps k m × IsAt m.falls i e
    × (t ≡ record { guard = 0; target = c; value = e })

abbrev pub PushWants : List Role → Control → ℕ → ℕ → ℕ → ℕ → Transfer → Type 0
PushWants roles x c k l j t = (m : Jumps) × (u v : ℕ) × IsAt x.jumps k m × (m.calls ≡ Some u)
    × IsPushed roles x k l j v × (t ≡ record { guard = u; target = c; value = v })

abbrev pub PopWants : Program → List Role → Control → ℕ → ℕ → ℕ → ℕ → Transfer → Type 0
PopWants p roles x c k l j t = (m : Jumps) × (u v : ℕ) × IsAt x.jumps k m × (m.returns ≡ Some u)
    × IsPopped p roles x k l j v × (t ≡ record { guard = u; target = c; value = v })

abbrev pub BackWants : List Role → Control → ℕ → ℕ → ℕ → Transfer → Type 0
BackWants roles x c k j t = (m : Jumps) × (u v d : ℕ) × IsAt x.jumps k m × (m.returns ≡ Some u)
    × IsAt roles d (Placed k j) × IsAt x.readings c v × (t ≡ record { guard = u; target = d; value = v })

-- what a motion of its process wants of the cell c, whose role this is
abbrev pub RoleWants : Program → List Role → Control → Motion → ℕ → Role → Transfer → Type 0
RoleWants p roles x Fall c (Placed k j) t = FallWants x c k j t
RoleWants p roles x Push c (Stacked k l j) t = PushWants roles x c k l j t
RoleWants p roles x Pop c (Stacked k l j) t = PopWants p roles x c k l j t
RoleWants p roles x Back c (Stacked k zero j) t = BackWants roles x c k j t
RoleWants p roles x _ c _ t = ⊥

abbrev pub CellWants : Program → List Role → Control → Motion → ℕ → Transfer → Type 0
CellWants p roles x motion c t = (s : Role) × IsAt roles c s × RoleWants p roles x motion c s t

-- a motion wants something of cells of this role
abbrev pub is_moved : Motion → Role → Bool
is_moved Fall (Placed k j) = true
is_moved Push (Stacked k l j) = true
is_moved Pop (Stacked k l j) = true
is_moved Back (Stacked k zero j) = true
is_moved _ _ = false
