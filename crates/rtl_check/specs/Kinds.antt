-- Which pad a cell is of.
use Rattle.std.specs.Prelude.{ℕ, Bool, false, ◌==◌}
use Rattle.rtl_form.specs.declared.rtl.CellKind.{CellKind}
use Rattle.rtl_form.specs.declared.rtl.CellKind.TheVariants.{Input, Output}
use Rattle.rtl_form.specs.declared.rtl.Cell.{Cell}

-- a kind is that of an input pad
abbrev pub is_input_kind : ℕ → CellKind → Bool
is_input_kind pad (Input k) = k == pad
is_input_kind pad _ = false

-- a kind is that of an output pad
abbrev pub is_output_kind : ℕ → CellKind → Bool
is_output_kind pad (Output k) = k == pad
is_output_kind pad _ = false

abbrev pub is_input : ℕ → Cell → Bool
is_input pad x = is_input_kind pad x.kind

abbrev pub is_output : ℕ → Cell → Bool
is_output pad x = is_output_kind pad x.kind
