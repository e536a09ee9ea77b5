-- A stimulus has at most 65536 clocks.
use Rattle.std.proofs.Common.{◌≡◌, ℕ, ◌≤◌, List, [], ◌∷◌, true, Option, codes, length, refl, sym, ap, subst, inl, inr}
use Rattle.std.proofs.Common.{arith}
use Rattle.std.proofs.lemmas.List.{length-append}
use Rattle.std.proofs.lemmas.Bool.{cases_lt}
use Rattle.std.specs.Str.{bytes_eq}
use Rattle.mp_base.specs.declared.pad.Pads.{Pads}
use Rattle.stimulus.specs.declared.given.Given.{Given}
use Rattle.stimulus.specs.declared.given.Stimulus.{Stimulus}
use Rattle.stimulus_lines.specs.declared.piece.Piece.{Piece}
use Rattle.stimulus_lines.specs.declared.form.Form.{Form}
use Rattle.stimulus_lines.specs.declared.form.Form.TheVariants.{Input, Output, Clock}
use Rattle.stimulus.specs.declared.reading.Reading.{Reading}
use Rattle.stimulus_lines.specs.Words.{lines}
use Rattle.stimulus_lines.specs.Forms.{IsForm, is_clock}
use Rattle.stimulus.specs.Rules.{AddsForm, IsFull}
use Rattle.stimulus.specs.Reading.{IsStimulus, Reads, nothing}

clock_line : (line : List Piece) (xs : _) → IsForm line (Clock xs) → is_clock line ≡ true
clock_line [] xs h = absurd h
clock_line (w ∷ ws) xs h = let P : List ℕ → Type 0 = λ b. bytes_eq b (codes "clock") ≡ true in subst P (sym h.0) refl

form_few : (known : Option Pads) (r t : Reading) (line : List Piece) (f : Form) → (IsFull r line → ⊥) → IsForm line f
    → AddsForm known r f t → length r.clocks ≤ 65536 → length t.clocks ≤ 65536
form_few known r t line (Input p) room is adds few = let e = ap (λ (x : Reading). length x.clocks) adds.1 in
    omega (arith, e, few)
form_few known r t line (Output p) room is adds few = let e = ap (λ (x : Reading). length x.clocks) adds.1 in
    omega (arith, e, few)
form_few known r t line (Clock xs) room is adds few =
    let e = ap (λ (x : Reading). length x.clocks) adds.2 in
    let more = length-append r.clocks (adds.0 ∷ []) in
    elim (cases_lt (length r.clocks) 65536) [
      | inl below ↦ omega (arith, e, more, below)
      | inr full ↦ absurd (room (clock_line line xs is, full))
    ]

reads_few : (known : Option Pads) (r t : Reading) (ls : List (List Piece)) → Reads known r ls t
    → length r.clocks ≤ 65536 → length t.clocks ≤ 65536
reads_few known r t [] reads few = let e = ap (λ (x : Reading). length x.clocks) reads in omega (arith, e, few)
reads_few known r t (line ∷ more) reads few =
    let first = reads.1 in
    reads_few known reads.0 t more reads.2 (form_few known r reads.0 line first.form first.room first.is first.adds few)

pub few_clocks : (text : List ℕ) (known : Option Pads) (s : Stimulus) → IsStimulus text known s
    → length s.clocks ≤ 65536
few_clocks text known s is =
    let e = ap (λ (cs : List (List Given)). length cs) is.clocks in
    let few = reads_few known nothing is.reading (lines text) is.reads (omega arith) in
    omega (arith, e, few)
