-- A stimulus with pads of its own has at most 256 of them.
use Rattle.std.proofs.Common.{◌≡◌, ◌==◌, ℕ, ◌+◌, ◌<◌, ◌≤◌, List, [], ◌∷◌, true, nat_lt, None, length, ap, arith}
use Rattle.std.proofs.lemmas.List.{length-append}
use Rattle.std.proofs.lemmas.Bool.{ltb-true, and_parts}
use Rattle.mp_base.specs.declared.pad.Pad.{Pad}
use Rattle.stimulus.specs.declared.given.Stimulus.{Stimulus}
use Rattle.stimulus_lines.specs.declared.piece.Piece.{Piece}
use Rattle.stimulus_lines.specs.declared.form.Form.{Form}
use Rattle.stimulus_lines.specs.declared.form.Form.TheVariants.{Input, Output, Clock}
use Rattle.stimulus.specs.declared.reading.Reading.{Reading}
use Rattle.stimulus_lines.specs.Words.{lines}
use Rattle.stimulus.specs.Rules.{AddsForm, IsInPlace, is_new_pad}
use Rattle.stimulus.specs.Reading.{IsStimulus, Reads, nothing}

-- how many pads were read
abbrev pads_in : Reading → ℕ
pads_in r = length r.inputs + length r.outputs

has_room : (r : Reading) (name : List ℕ) → is_new_pad r name ≡ true → pads_in r < 256
has_room r name h =
    let rest = (and_parts (length r.clocks == 0) _ h).1 in
    ltb-true (pads_in r) 256 (and_parts (nat_lt (pads_in r) 256) _ rest).0

form_few : (r t : Reading) (f : Form) → IsInPlace r f → AddsForm None r f t → pads_in r ≤ 256 → pads_in t ≤ 256
form_few r t (Input p) place adds few = let e = ap pads_in adds.1 in let more = length-append r.inputs (p ∷ []) in
    let room = has_room r p.name place in omega (arith, e, more, room)
form_few r t (Output p) place adds few = let e = ap pads_in adds.1 in let more = length-append r.outputs (p ∷ []) in
    let room = has_room r p.name place in omega (arith, e, more, room)
form_few r t (Clock xs) place adds few = let e = ap pads_in adds.2 in omega (arith, e, few)

reads_few : (r t : Reading) (ls : List (List Piece)) → Reads None r ls t → pads_in r ≤ 256 → pads_in t ≤ 256
reads_few r t [] reads few = let e = ap pads_in reads in omega (arith, e, few)
reads_few r t (line ∷ more) reads few =
    let first = reads.1 in
    reads_few reads.0 t more reads.2 (form_few r reads.0 first.form first.«in_place» first.adds few)

pub few_inputs : (text : List ℕ) (s : Stimulus) → IsStimulus text None s → length (s.pads).inputs ≤ 256
few_inputs text s is =
    let e = ap (λ (pads : List Pad). length pads) is.inputs in
    let few = reads_few nothing is.reading (lines text) is.reads (omega arith) in
    omega (arith, e, few)
