-- A counter of one bit: cells for reset, the output and what is stored.
use Rattle.std.specs.Prelude.{◌≡◌, List, [], ◌∷◌, Some, true, false, map, codes}
use Rattle.mp_base.specs.declared.op.Op.TheVariants.{Inc}
use Rattle.mp_base.specs.declared.pad.Pad.{Pad}
use Rattle.mp_base.specs.declared.pad.Pads.{Pads}
use Rattle.rtl_form.specs.declared.rtl.Cell as cells
use Rattle.rtl_form.specs.declared.rtl.CellKind.TheVariants.{Input, Output, Stored}
use Rattle.rtl_form.specs.declared.rtl.RtlExpr.{RtlExpr}
use Rattle.rtl_form.specs.declared.rtl.RtlExpr.TheVariants.{Truth, Cell, Apply}
use Rattle.rtl_form.specs.declared.rtl.Transfer.{Transfer}
use Rattle.rtl_form.specs.declared.rtl.Rtl.{Rtl}
use Rattle.path_form.specs.declared.flattened.Flattened.{Flattened}
use Rattle.path_cases.specs.Flat.{IsFlatOf}

abbrev pub counter_cells : List cells.Cell
counter_cells =
    record { word = false; kind = Input 0 } ∷ record { word = true; kind = Output 0 }
    ∷ record { word = true; kind = Stored } ∷ []

abbrev pub counter_exprs : List RtlExpr
counter_exprs = Truth true ∷ Cell 2 ∷ Apply Inc 0 (1 ∷ []) ∷ []

abbrev pub counter_transfers : List Transfer
counter_transfers =
    record { guard = 0; target = 1; value = 1 } ∷ record { guard = 0; target = 2; value = 2 } ∷ []

-- the signal `reset` is given, and `q`, a word, is shown
pub record AreCounterPads (pads : Pads) : Type 0 where
  pub input_names : map (λ (pad : Pad). pad.name) pads.inputs ≡ codes "reset" ∷ []
  pub input_widths : map (λ (pad : Pad). pad.width) pads.inputs ≡ 0 ∷ []
  pub output_names : map (λ (pad : Pad). pad.name) pads.outputs ≡ codes "q" ∷ []
  pub output_widths : map (λ (pad : Pad). pad.width) pads.outputs ≡ 1 ∷ []

-- the transfers are those of the counter, whose words have one bit
pub record IsCounter (r : Rtl) : Type 0 where
  pub width : r.width ≡ 1
  pub pads : AreCounterPads r.pads
  pub cells : r.cells ≡ counter_cells
  pub exprs : r.exprs ≡ counter_exprs
  pub transfers : r.transfers ≡ counter_transfers
  pub order : r.order ≡ 1 ∷ []
  pub reset : r.reset ≡ Some 0

-- the flat net shows a counter
pub record ShowsCounter (f : Flattened) : Type 0 where
  pub transfers : Rtl
  pub counter : IsCounter transfers
  pub flat : IsFlatOf transfers f
