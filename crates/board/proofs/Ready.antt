-- What the inputs are given fits them, and leaves a board ready.
use Rattle.std.proofs.Common.{◌≡◌, ◌∙◌, ℕ, zero, suc, ◌<◌, ◌^◌, List, [], ◌∷◌, Bool, cond, eqb, Option, Some, None}
use Rattle.std.proofs.Common.{length, sym, ap, subst, arith}
use Rattle.std.specs.Prelude.{◌&&◌}
use Rattle.std.proofs.Math.Nat.{two-pow-succ}
use Rattle.std.proofs.lemmas.Nat.{pow_pos, mod_below}
use Rattle.mp_base.specs.declared.pad.Pad.{Pad}
use Rattle.mp_base.specs.declared.pad.Pads.{Pads}
use Rattle.mp_base.specs.declared.value.TritWord.{TritWord}
use Rattle.mp_base.specs.PadBits.{bit_count, Fit}
use Rattle.mp_base.specs.declared.value.Trit.{Trit}
use Rattle.stimulus.specs.Bits.{trits_of}
use Rattle.transcript.specs.Running.{HasRoom}
use Rattle.board.specs.declared.link.Link.{Link}
use Rattle.board.specs.Face.{Face}
use Rattle.board.specs.Loop.{drives_at, given_by, idle_input, inputs_from, is_reset, link_to}
use Rattle.board.proofs.Given.{inputs_many}

bit_small : (b : Bool) (n : ℕ) → cond b 1 0 < 2 ^ suc n
bit_small b n = let p = pow_pos n in let q = two-pow-succ n in grind (arith, p, q)

idle_small : (clock : ℕ) (pad : Pad) (w : ℕ) → idle_input clock pad < 2 ^ bit_count w
idle_small clock pad zero = bit_small (is_reset pad && eqb clock 0) 0
idle_small clock pad (suc n) = bit_small (is_reset pad && eqb clock 0) n

given_small : (link : Option Link) (faces : List Face) (clock : ℕ) (pad : Pad)
    → given_by link faces clock pad < 2 ^ bit_count pad.width
given_small None faces clock pad = idle_small clock pad pad.width
given_small (Some l) faces clock pad =
    mod_below (drives_at faces l.part) (2 ^ bit_count pad.width) (pow_pos (bit_count pad.width))

pub inputs_fit : (links : List Link) (faces : List Face) (clock input : ℕ) (pads : List Pad)
    → Fit pads (inputs_from links faces clock input pads)
inputs_fit links faces clock input [] = tt
inputs_fit links faces clock input (p ∷ pads) =
    (given_small (link_to links input) faces clock p, inputs_fit links faces clock (suc input) pads)

module _ (pads own : Pads) (ps : List Pad) (links : List Link) (faces : List Face) (clock : ℕ) (inputs : List ℕ)
    (same : own ≡ pads) (are : ps ≡ pads.inputs) (given : inputs ≡ inputs_from links faces clock 0 ps) where
  pub give_fits : Fit own.inputs inputs
  give_fits =
      let P : Pads → Type 0 = λ pads. Fit pads.inputs inputs in
      let Q : List Pad → Type 0 = λ pads. Fit pads inputs in
      let R : List ℕ → Type 0 = λ values. Fit ps values in
      subst P (sym same) (subst Q are (subst R (sym given) (inputs_fit links faces clock 0 ps)))

  pub room_after : (outputs : List TritWord) → length outputs ≡ length own.outputs
      → HasRoom pads (record { inputs = inputs; outputs = outputs })
  room_after outputs many = record {
    inputs = ap length given ∙ inputs_many links faces clock 0 ps ∙ ap length are;
    outputs = many ∙ ap (λ (pads : Pads). length pads.outputs) same;
  }

  pub stepped : {S : Type 0} (Steps : S → List ℕ → List (List Trit) → S → Type 0) (before after : S)
      (outputs : List TritWord)
      → Steps before inputs (trits_of own.outputs outputs) after
      → Steps before (inputs_from links faces clock 0 pads.inputs) (trits_of pads.outputs outputs) after
  stepped Steps before after outputs step =
      let P : Pads → Type 0 = λ x. Steps before inputs (trits_of x.outputs outputs) after in
      let Q : List ℕ → Type 0 = λ values. Steps before values (trits_of pads.outputs outputs) after in
      subst Q (given ∙ ap (inputs_from links faces clock 0) are) (subst P same step)
