-- What a program shows along inputs that fit its pads fits its outputs.
use Rattle.std.proofs.Common.{ℕ, zero, suc, ◌<◌, List, [], ◌∷◌, length, arith}
use Rattle.std.specs.Prelude.{All, slice_index_or}
use Rattle.mp_base.specs.declared.pad.Pads.{Pads}
use Rattle.mp_program.specs.declared.program.Program.{Program}
use Rattle.mp_program.specs.Pads.{ArePadsOf, FitsPads, output_pads}
use Rattle.mp_program.specs.State.{State, IsState}
use Rattle.mp_program.specs.Trace.{IsTraceFrom}
use Rattle.mp_fitting.specs.Fitting.{StateFits}
use Rattle.mp_base.specs.PadBits.{Fit}
use Rattle.trace_run.specs.Laws.{ClocksFit, StatesLast}
use Rattle.trace_run.proofs.Inputs.{clock_fits}

module _ (p : Program) (pads : Pads) (fits : ClocksFit p) (last : StatesLast p) (padded : ArePadsOf p pads) where
  pub trace_fits : (st : State) → IsState p st → StateFits p st → (inputs outputs : List (List ℕ))
      → All (Fit pads.inputs) inputs → IsTraceFrom p st inputs outputs → (k : ℕ) → k < length outputs
      → FitsPads (output_pads p) (slice_index_or outputs k [])
  trace_fits st is fit [] [] all trace k less = absurd (omega (arith, less))
  trace_fits st is fit [] (o ∷ os) all trace k less = absurd trace
  trace_fits st is fit (i ∷ inputs) [] all trace k less = absurd trace
  trace_fits st is fit (i ∷ inputs) (o ∷ os) all trace zero less =
      (clock_fits p pads st trace.0 i o fits is fit padded (all 0 i (omega arith)) trace.1).0
  trace_fits st is fit (i ∷ inputs) (o ∷ os) all trace (suc k) less =
      trace_fits trace.0 (last st trace.0 i o is trace.1)
      (clock_fits p pads st trace.0 i o fits is fit padded (all 0 i (omega arith)) trace.1).1 inputs os
      (λ j d lt. all (suc j) d (omega (arith, lt))) trace.2 k (omega (arith, less))
