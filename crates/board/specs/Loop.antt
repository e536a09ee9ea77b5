-- A device on a board with parts: the loop.
use Rattle.std.specs.Prelude.{
  ◌≡◌,
  ℕ,
  zero,
  suc,
  ◌%◌,
  ◌^◌,
  List,
  [],
  ◌∷◌,
  Bool,
  not,
  ◌||◌,
  ◌&&◌,
  ◌==◌,
  nat_lt,
  if◌then◌else◌,
  Option,
  Some,
  None,
  slice_index_or,
  codes,
}
use Rattle.std.specs.List.{list_any, find}
use Rattle.std.specs.Str.{bytes_eq}
use Rattle.mp_base.specs.declared.value.Trit.{Trit}
use Rattle.mp_base.specs.declared.pad.Pad.{Pad}
use Rattle.mp_base.specs.declared.pad.Pads.{Pads}
use Rattle.mp_base.specs.PadBits.{bit_count}
use Rattle.stimulus.specs.Transcript.{number_of}
use Rattle.transcript.specs.Transcript.{RunsAlong}
use Rattle.board.specs.declared.link.Link.{Link}
use Rattle.board.specs.Face.{Face, moved}

-- the pads of a device, the links of its parts, and whether anything is stored
pub record Wired : Type 0 where
  pub pads : Pads
  pub links : List Link
  pub stores : Bool

-- ---- what the inputs are given

abbrev pub is_reset : Pad → Bool
is_reset pad = bytes_eq pad.name (codes "reset")

-- what a pad is given that no link drives: `reset` is 1 in clock 0
abbrev pub idle_input : ℕ → Pad → ℕ
idle_input clock pad = if is_reset pad && (clock == 0) then 1 else 0

-- what the part with this index drives
abbrev pub drives_at : List Face → ℕ → ℕ
drives_at [] part = 0
drives_at (f ∷ fs) zero = f.drives f.state
drives_at (f ∷ fs) (suc part) = drives_at fs part

-- the link that drives the input with this index
abbrev pub link_to : List Link → ℕ → Option Link
link_to links input = find (λ l. l.driven == input) links

-- what a pad is given: what the part of its link drives, within the pad's width
abbrev pub given_by : Option Link → List Face → ℕ → Pad → ℕ
given_by None faces clock pad = idle_input clock pad
given_by (Some l) faces clock pad = drives_at faces l.part % 2 ^ bit_count pad.width

-- the same for pads, of which the first has this index
abbrev pub inputs_from : List Link → List Face → ℕ → ℕ → List Pad → List ℕ
inputs_from links faces clock input [] = []
inputs_from links faces clock input (pad ∷ pads) = given_by (link_to links input) faces clock pad
    ∷ inputs_from links faces clock (suc input) pads

-- what the inputs are given in a clock
abbrev pub inputs_at : Wired → ℕ → List Face → List ℕ
inputs_at w clock faces = inputs_from w.links faces clock 0 (w.pads).inputs

-- ---- how the parts move

-- every clock where nothing is stored, and else each later than the first with `reset` at 1, which is clock 0
abbrev pub is_settled : Wired → ℕ → Bool
is_settled w clock = not w.stores || (nat_lt 0 clock && list_any is_reset (w.pads).inputs)

-- the part with this index sees a number
abbrev pub see_at : ℕ → ℕ → List Face → List Face
see_at seen part [] = []
see_at seen zero (f ∷ fs) = moved seen f ∷ fs
see_at seen (suc part) (f ∷ fs) = f ∷ see_at seen part fs

-- each linked part sees its output, in the order of the links
abbrev pub all_see : List Link → List (List Trit) → List Face → List Face
all_see [] shown faces = faces
all_see (l ∷ ls) shown faces = all_see ls shown (see_at (number_of (slice_index_or shown l.seen [])) l.part faces)

-- the parts after a clock in which these bits were shown
abbrev pub faces_after : Wired → ℕ → List (List Trit) → List Face → List Face
faces_after w clock shown faces = if is_settled w clock then all_see w.links shown faces else faces

-- ---- swaps

-- When so many clocks have run, this part takes the place of the part of the link with this index, in its own state.
pub record Exchange : Type 0 where
  pub clock : ℕ
  pub link : ℕ
  pub fresh : Face

-- the part of the link with this index
abbrev pub part_of : List Link → ℕ → ℕ
part_of [] link = 0
part_of (l ∷ ls) zero = l.part
part_of (l ∷ ls) (suc link) = part_of ls link

-- another part in place of the one with this index
abbrev pub put_at : Face → ℕ → List Face → List Face
put_at fresh part [] = []
put_at fresh zero (f ∷ fs) = fresh ∷ fs
put_at fresh (suc part) (f ∷ fs) = f ∷ put_at fresh part fs

-- the parts once the swaps of a clock are made, in their order
abbrev pub made : List Link → List Exchange → ℕ → List Face → List Face
made links [] clock faces = faces
made links (s ∷ ss) clock faces = made links ss clock
    (if s.clock == clock then put_at s.fresh (part_of links s.link) faces else faces)

-- ---- the loop

-- what the inputs are given in the clocks in which these are shown, of which the first has this number
abbrev pub inputs_with : List Exchange → Wired → ℕ → List Face → List (List (List Trit)) → List (List ℕ)
inputs_with swaps w clock faces [] = []
inputs_with swaps w clock faces (o ∷ os) = inputs_at w clock (made w.links swaps clock faces)
    ∷ inputs_with swaps w (suc clock) (faces_after w clock o (made w.links swaps clock faces)) os

-- the parts after these clocks, with the swaps made by then
abbrev pub faces_with : List Exchange → Wired → ℕ → List Face → List (List (List Trit)) → List Face
faces_with swaps w clock faces [] = made w.links swaps clock faces
faces_with swaps w clock faces (o ∷ os) =
    faces_with swaps w (suc clock) (faces_after w clock o (made w.links swaps clock faces)) os

-- The loop from a clock on: the device runs along what the parts drive, and the parts move by what it shows. The swaps
-- of a clock are made before it.
pub record IsSwappedLoop (swaps : List Exchange) {S : Type 0} (Steps : S → List ℕ → List (List Trit) → S → Type 0)
    (w : Wired) (clock : ℕ) (before : S) (faces : List Face) (shown : List (List (List Trit))) (after : S)
    (later : List Face) : Type 0 where
  pub runs : RunsAlong Steps before (inputs_with swaps w clock faces shown) shown after
  pub parts : later ≡ faces_with swaps w clock faces shown

-- ---- the same without swaps

abbrev pub inputs_along : Wired → ℕ → List Face → List (List (List Trit)) → List (List ℕ)
inputs_along = inputs_with []

abbrev pub faces_along : Wired → ℕ → List Face → List (List (List Trit)) → List Face
faces_along = faces_with []

abbrev pub IsLoop : {S : Type 0} → (S → List ℕ → List (List Trit) → S → Type 0) → Wired → ℕ → S → List Face
    → List (List (List Trit)) → S → List Face → Type 0
IsLoop = IsSwappedLoop []
