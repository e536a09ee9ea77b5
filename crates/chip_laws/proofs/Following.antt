-- Bits, words of pads and traces side by side.
use Rattle.std.proofs.Common.{◌≡◌, ℕ, zero, suc, ◌<◌, ◌^◌, List, [], ◌∷◌, length, refl, sym}
use Rattle.std.proofs.Common.{subst, arith}
use Rattle.std.specs.Prelude.{◌==◌, slice_index_or}
use Rattle.std.proofs.lemmas.Option.{same_Some, slice_get_within}
use Rattle.mp_base.specs.declared.value.Trit.{Trit}
use Rattle.mp_base.specs.declared.pad.Pad.{Pad}
use Rattle.mp_base.specs.PadBits.{trit_of, Fit}
use Rattle.mp_base.proofs.PadBits.{same_count}
use Rattle.nor_net.specs.Elements.{Spot, Nets}
use Rattle.nor_net.specs.Clock.{IsLooseTrace}
use Rattle.nor_net.specs.Laws.{bit}
use Rattle.rtl_form.specs.declared.rtl.Rtl.{Rtl}
use Rattle.rtl_form.specs.Trace as rtl
use Rattle.path_form.specs.Showing as path

-- ---- bits

pub trit_bit : (n : ℕ) → n < 2 → trit_of n ≡ bit (n == 1)
trit_bit zero lt = refl
trit_bit (suc zero) lt = refl
trit_bit (suc (suc n)) lt = absurd (omega (arith, lt))

pub fits : (pads : List Pad) (words : List ℕ) → Fit pads words → path.FitPads pads words
fits [] words h i pad e = absurd (let w = slice_get_within [] i pad e in omega (arith, w))
fits (p ∷ ps) [] h i pad e = absurd h
fits (p ∷ ps) (w ∷ ws) h zero pad e =
    subst (λ (x : Pad). w < 2 ^ path.pad_bits x) (same_Some p pad e)
    (subst (λ n. w < 2 ^ n) (sym (same_count p.width)) h.0)
fits (p ∷ ps) (w ∷ ws) h (suc i) pad e = fits ps ws h.1 i pad e

-- ---- clocks

pub shows_all : (r : Rtl) (state : List ℕ) (inputs outputs : List (List ℕ)) → rtl.IsTraceFrom r state inputs outputs
    → (k : ℕ) → k < length inputs
    → length (slice_index_or outputs k []) ≡ length (r.pads).outputs
shows_all r state [] outputs t k lt = absurd (omega (arith, lt))
shows_all r state (i ∷ is) [] t k lt = absurd t
shows_all r state (i ∷ is) (o ∷ os) t zero lt = let c = t.1 in (c.shown).size
shows_all r state (i ∷ is) (o ∷ os) t (suc k) lt = shows_all r t.0 is os t.2 k (omega (arith, lt))

pub trace_length : (nets : Nets) (before : Spot → Trit) (givens showns : List (Spot → Trit)) (after : Spot → Trit)
    → IsLooseTrace nets before givens showns after
    → length givens ≡ length showns
trace_length nets before [] [] after t = refl
trace_length nets before [] (s ∷ ss) after t = absurd t
trace_length nets before (g ∷ gs) [] after t = absurd t
trace_length nets before (g ∷ gs) (s ∷ ss) after t = let l = trace_length nets t.0 gs ss after t.2 in omega (arith, l)
