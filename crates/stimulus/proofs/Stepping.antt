-- Lines one after another.
use Rattle.std.proofs.Common.{ℕ, ◌+◌, ◌<◌, ◌≤◌, List, [], ◌∷◌, Bool, true, false, cond, sym, ap, subst, inl, inr}
use Rattle.std.proofs.Common.{length, arith, Option, Some, None, ◌^◌}
use Rattle.std.specs.Prelude.{IfSome}
use Rattle.std.specs.Borrow.{Bor}
use Rattle.std.specs.Option.{option_copied}
use Rattle.std.proofs.lemmas.Bool.{and_parts, ltb-true}
use Rattle.std.proofs.lemmas.List.{length-append}
use Rattle.mp_base.specs.declared.pad.Pads.{Pads}
use Rattle.stimulus_lines.specs.declared.piece.Piece.{Piece}
use Rattle.stimulus_lines.specs.declared.form.Form.{Form}
use Rattle.stimulus_lines.specs.declared.form.Form.TheVariants.{Input, Output, Clock}
use Rattle.stimulus.specs.declared.reading.Reading.{Reading}
use Rattle.stimulus_lines.specs.Words.{is_skipped, kept_before}
use Rattle.stimulus.specs.Rules.{inputs_of, IsInPlace, AddsForm}
use Rattle.stimulus.specs.Reading.{Reads, FirstBroken}

-- a line, and then the others
pub reads_more : (known : Option Pads) (r s t : Reading) (ws : List Piece) (rest : List (List Piece))
    → Reads known r (kept_before ws []) s → Reads known s rest t → Reads known r (kept_before ws rest) t
reads_more known r s t ws rest h k = either (is_skipped ws) h
  where
    either : (b : Bool) → Reads known r (cond b [] (ws ∷ [])) s → Reads known r (cond b rest (ws ∷ rest)) t
    either true e = let P : Reading → Type 0 = λ q. Reads known q rest t in subst P (sym e) k
    either false e = let P : Reading → Type 0 = λ q. Reads known q rest t in (e.0, e.1, subst P (sym e.2) k)

-- a line that breaks a rule
pub broken_here : (known : Option Pads) (r : Reading) (ws : List Piece) (rest : List (List Piece)) (k at : ℕ)
    → FirstBroken known r (kept_before ws []) k at → FirstBroken known r (kept_before ws rest) k at
broken_here known r ws rest k at h = either (is_skipped ws) h
  where
    either : (b : Bool) → FirstBroken known r (cond b [] (ws ∷ [])) k at
        → FirstBroken known r (cond b rest (ws ∷ rest)) k at
    either true e = absurd e
    either false e = elim e [ inl here ↦ inl here | inr later ↦ absurd later.2 ]

-- a line, and then one that breaks a rule
pub broken_later : (known : Option Pads) (r s : Reading) (ws : List Piece) (rest : List (List Piece)) (k at : ℕ)
    → Reads known r (kept_before ws []) s → FirstBroken known s rest k at
    → FirstBroken known r (kept_before ws rest) k at
broken_later known r s ws rest k at h f = either (is_skipped ws) h
  where
    either : (b : Bool) → Reads known r (cond b [] (ws ∷ [])) s → FirstBroken known r (cond b rest (ws ∷ rest)) k at
    either true e = let P : Reading → Type 0 = λ q. FirstBroken known q rest k at in subst P (sym e) f
    either false e = let P : Reading → Type 0 = λ q. FirstBroken known q rest k at in
        inr (e.0, e.1, subst P (sym e.2) f)

-- a header has few pads
few_form : (known : Option Pads) (r : Reading) (f : Form) (t : Reading) → IsInPlace r f → AddsForm known r f t
    → length r.inputs ≤ 256 → length t.inputs ≤ 256
few_form known r (Input p) t here adds few =
    let parts = and_parts _ _ here in
    let room = ltb-true (length r.inputs + length r.outputs) 256 (and_parts _ _ parts.1).0 in
    omega (arith, ap (λ (q : Reading). length q.inputs) adds.1, length-append r.inputs (p ∷ []), room)
few_form known r (Output p) t here adds few = omega (arith, ap (λ (q : Reading). length q.inputs) adds.1)
few_form known r (Clock xs) t here adds few = omega (arith, ap (λ (q : Reading). length q.inputs) adds.2)

pub few_more : (known : Option Pads) (r t : Reading) (ls : List (List Piece)) → Reads known r ls t
    → length r.inputs ≤ 256 → length t.inputs ≤ 256
few_more known r t [] h few = omega (arith, ap (λ (q : Reading). length q.inputs) h)
few_more known r t (l ∷ ls) h few =
    few_more known h.0 t ls h.2 (few_form known r (h.1).form h.0 (h.1).«in_place» (h.1).adds few)

pub few_inputs : (known : Option (Bor Pads)) (r : Reading)
    → IfSome known (λ (pads : Bor Pads). length (pads.now).inputs < 2 ^ 32) → length r.inputs ≤ 256
    → length (inputs_of (option_copied known) r) < 2 ^ 32
few_inputs None r h few = omega arith
few_inputs (Some pads) r h few = h
