-- The moves of a program.
use Rattle.std.specs.Prelude.{
  ℕ,
  List,
  [],
  ◌∷◌,
  ◌++◌,
  Bool,
  true,
  false,
  ◌&&◌,
  Option,
  Some,
  None,
  map,
  filter,
  option_map,
  option_to_list,
}
use Rattle.mp_program.specs.declared.program.FormKind.{FormKind}
use Rattle.mp_program.specs.declared.program.FormKind.TheVariants as forms
use Rattle.mp_program.specs.declared.program.Form.{Form}
use Rattle.process_plan.specs.declared.enable.Enable.{Enable}
use Rattle.process_layout.specs.Counts.{is_of, is_at}
use Rattle.process_jumps.specs.declared.moves.MoveKind.{MoveKind}
use Rattle.process_jumps.specs.declared.moves.MoveKind.TheVariants.{Go, Call, Return}
use Rattle.process_jumps.specs.declared.moves.Move.{Move}
use Rattle.process_jumps.specs.declared.moves.Group.{Group}
use Rattle.process_jumps.specs.declared.moves.Group.TheVariants.{Calls, Returns, Inside}

abbrev pub move_kind : FormKind → Option MoveKind
move_kind (forms.Go l) = Some Go
move_kind (forms.Call l) = Some Call
move_kind forms.Return = Some Return
move_kind _ = None

-- the move of a form of this kind, where it is one and has an enable
abbrev pub move_of : FormKind → Option Enable → Option Move
move_of kind None = None
move_of kind (Some x) = option_map (λ (k : MoveKind). record { kind = k; enable = x }) (move_kind kind)

-- the moves among forms that have enables
abbrev pub moves_in : List Form → List (Option Enable) → List Move
moves_in (y ∷ ys) (x ∷ xs) = option_to_list (move_of y.kind x) ++ moves_in ys xs
moves_in _ _ = []

abbrev pub is_a_call : MoveKind → Bool
is_a_call Call = true
is_a_call _ = false

abbrev pub is_a_return : MoveKind → Bool
is_a_return Return = true
is_a_return _ = false

-- a move is in a group
abbrev pub picks : Group → Move → Bool
picks (Calls k) m = is_of k (m.enable).origin && is_a_call m.kind
picks (Returns k) m = is_of k (m.enable).origin && is_a_return m.kind
picks (Inside k i) m = is_at k i (m.enable).origin

-- the expressions of the enables of a group
abbrev pub picked : Group → List Move → List ℕ
picked g ms = map (λ (m : Move). (m.enable).expr) (filter (picks g) ms)
