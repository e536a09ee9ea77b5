-- What a line adds to what was read before it, or which of the rules S1 to S4 it breaks first.
use Rattle.std.specs.Prelude.{◌≡◌, ◌≢◌, ◌⊎◌, ℕ, ◌+◌, ◌<◌, ◌≤◌, ◌^◌, List, [], ◌∷◌, ◌++◌, Bool, true, false, cond, not}
use Rattle.std.specs.Prelude.{◌&&◌, ◌==◌, nat_lt, length, position, AllPairs, Option, Some, None, slice_index_or}
use Rattle.std.specs.List.{list_any}
use Rattle.std.specs.Str.{bytes_eq}
use Rattle.mp_base.specs.declared.pad.Pad.{Pad}
use Rattle.mp_base.specs.declared.pad.Pads.{Pads}
use Rattle.mp_base.specs.PadNames.{is_supply}
use Rattle.stimulus.specs.declared.limits.TheConstants.{CLOCK_LIMIT, PAD_LIMIT}
use Rattle.stimulus.specs.declared.given.Given.{Given}
use Rattle.stimulus_lines.specs.declared.piece.Piece.{Piece}
use Rattle.stimulus_lines.specs.declared.form.Assignment.{Assignment}
use Rattle.stimulus_lines.specs.declared.form.Form.{Form}
use Rattle.stimulus_lines.specs.declared.form.Form.TheVariants.{Input, Output, Clock}
use Rattle.stimulus.specs.declared.reading.Reading.{Reading}
use Rattle.stimulus.specs.declared.fault.Fault.{Fault}
use Rattle.stimulus.specs.declared.fault.Fault.TheVariants.{NoMemory, Breaks}
use Rattle.stimulus_lines.specs.Forms.{IsForm, is_clock}

-- a pad has this name
abbrev pub has_pad : List ℕ → List Pad → Bool
has_pad name pads = list_any (λ (p : Pad). bytes_eq p.name name) pads

-- a header line may have this pad here: no clock line came, the name is new and no supply's or phase's, and fewer
-- than the limit came
abbrev pub is_new_pad : Reading → List ℕ → Bool
is_new_pad r name =
    (length r.clocks == 0) && (nat_lt (length r.inputs + length r.outputs) PAD_LIMIT
    && (not (is_supply name) && (not (has_pad name r.inputs) && not (has_pad name r.outputs))))

-- the form may stand here; no name twice in a clock line
abbrev pub IsInPlace : Reading → Form → Type 0
IsInPlace r (Input p) = is_new_pad r p.name ≡ true
IsInPlace r (Output p) = is_new_pad r p.name ≡ true
IsInPlace r (Clock xs) = AllPairs (λ (a b : Assignment). a.name ≢ b.name) xs

-- the clock line is one too many
abbrev pub IsFull : Reading → List Piece → Type 0
IsFull r line = (is_clock line ≡ true) × (CLOCK_LIMIT ≤ length r.clocks)

-- the same name and width
abbrev pub is_same : Pad → Pad → Bool
is_same p q = bytes_eq p.name q.name && (p.width == q.width)

-- where the pads are known, the pad is one of them
abbrev pub is_known : Option Pads → (Pads → List Pad) → Pad → Bool
is_known None way p = true
is_known (Some pads) way p = list_any (is_same p) (way pads)

-- the pads that are known, or else those of the header
abbrev pub inputs_of : Option Pads → Reading → List Pad
inputs_of None r = r.inputs
inputs_of (Some known) r = known.inputs

abbrev pub outputs_of : Option Pads → Reading → List Pad
outputs_of None r = r.outputs
outputs_of (Some known) r = known.outputs

-- how many bits a pad has
abbrev pub bits_of : Pad → ℕ
bits_of p = cond (p.width == 0) 1 p.width

-- the values of a pad are below this
abbrev pub bound : Pad → ℕ
bound p = 2 ^ bits_of p

-- the first pad of this name
abbrev pub input_named : List Pad → List ℕ → Option ℕ
input_named inputs name = position (λ (p : Pad). bytes_eq p.name name) inputs

-- an input is given a value that fits it
pub record IsGiven (inputs : List Pad) (a : Assignment) (g : Given) : Type 0 where
  pub named : input_named inputs a.name ≡ Some g.input
  pub value : g.value ≡ a.value
  pub fits : (p : Pad) → g.value < bound (slice_index_or inputs g.input p)

abbrev pub AreGiven : List Pad → List Assignment → List Given → Type 0
AreGiven inputs [] [] = Unit {0}
AreGiven inputs [] (g ∷ gs) = ⊥
AreGiven inputs (a ∷ xs) [] = ⊥
AreGiven inputs (a ∷ xs) (g ∷ gs) = IsGiven inputs a g × AreGiven inputs xs gs

-- S2: no input has the name; S3: the value doesn't fit
abbrev pub IsMisfit : List Pad → Assignment → ℕ → Type 0
IsMisfit inputs a k =
    ((k ≡ 2) × (input_named inputs a.name ≡ None))
    ⊎ ((k ≡ 3) × (i : ℕ) × (input_named inputs a.name ≡ Some i)
    × ((p : Pad) → bound (slice_index_or inputs i p) ≤ a.value))

-- the first word that breaks S2 or S3
abbrev pub FirstMisfit : List Pad → List Assignment → ℕ → ℕ → Type 0
FirstMisfit inputs [] k at = ⊥
FirstMisfit inputs (a ∷ xs) k at =
    (IsMisfit inputs a k × (at ≡ a.at)) ⊎ ((g : Given) × IsGiven inputs a g × FirstMisfit inputs xs k at)

-- where the line begins, and where its second word does
abbrev pub start_of : List Piece → ℕ
start_of [] = 0
start_of (w ∷ ws) = w.at

abbrev pub second_of : List Piece → ℕ
second_of [] = 0
second_of (w ∷ ws) = start_of ws

-- S2 and S3 of a form
abbrev pub Misfits : Option Pads → Reading → List Piece → Form → ℕ → ℕ → Type 0
Misfits known r line (Input p) k at = (k ≡ 2) × (at ≡ second_of line) × (is_known known (λ q. q.inputs) p ≡ false)
Misfits known r line (Output p) k at = (k ≡ 2) × (at ≡ second_of line) × (is_known known (λ q. q.outputs) p ≡ false)
Misfits known r line (Clock xs) k at = FirstMisfit (inputs_of known r) xs k at

-- what the form adds
abbrev pub AddsForm : Option Pads → Reading → Form → Reading → Type 0
AddsForm known r (Input p) t =
    (is_known known (λ q. q.inputs) p ≡ true)
    × (t ≡ record { inputs = r.inputs ++ p ∷ []; outputs = r.outputs; clocks = r.clocks })
AddsForm known r (Output p) t =
    (is_known known (λ q. q.outputs) p ≡ true)
    × (t ≡ record { inputs = r.inputs; outputs = r.outputs ++ p ∷ []; clocks = r.clocks })
AddsForm known r (Clock xs) t = (gs : List Given) × AreGiven (inputs_of known r) xs gs
    × (t ≡ record { inputs = r.inputs; outputs = r.outputs; clocks = r.clocks ++ gs ∷ [] })

-- the line breaks no rule behind r, and then t was read
pub record Adds (known : Option Pads) (r : Reading) (line : List Piece) (t : Reading) : Type 0 where
  pub room : ¬ IsFull r line
  pub form : Form
  pub is : IsForm line form
  pub «in_place» : IsInPlace r form
  pub adds : AddsForm known r form t

-- the first rule that the line breaks behind r, and where: S4, then S1, then S2 and S3 word by word
pub data FirstIn (known : Option Pads) (r : Reading) (line : List Piece) (k at : ℕ) : Type 0 where
  full : k ≡ 4 → at ≡ start_of line → IsFull r line → FirstIn known r line k at
  formless : k ≡ 1 → at ≡ start_of line → ¬ IsFull r line → ((f : Form) → IsForm line f → ¬ IsInPlace r f)
      → FirstIn known r line k at
  misfit : (f : Form) → ¬ IsFull r line → IsForm line f → IsInPlace r f → Misfits known r line f k at
      → FirstIn known r line k at

-- why a form can't be added: it is out of place, or it breaks S2 or S3
pub data FormFault (known : Option Pads) (r : Reading) (line : List Piece) (f : Form) (k at : ℕ) : Type 0 where
  misplaced : k ≡ 1 → at ≡ start_of line → ¬ IsInPlace r f → FormFault known r line f k at
  unfit : IsInPlace r f → Misfits known r line f k at → FormFault known r line f k at

-- want of memory, of which nothing is said, or a rule's number and the offset where it is broken
abbrev pub IsFault : Fault → (ℕ → ℕ → Type 0) → Type 0
IsFault NoMemory P = Unit {0}
IsFault (Breaks k at) P = P k at
