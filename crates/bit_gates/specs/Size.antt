-- How many gates and latches bits become.
use Rattle.std.specs.Prelude.{ℕ, ◌+◌, ◌*◌, ◌≤◌, List, Bool, false, ◌&&◌, not, if◌then◌else◌, length, slice_get}
use Rattle.std.specs.List.{sum_by}
use Rattle.std.specs.Option.{option_map_or}
use Rattle.nor_net.specs.declared.net.Part.{Part}
use Rattle.nor_net.specs.declared.net.Part.TheVariants.{Input}
use Rattle.nor_net.specs.Shape.{gate_inputs}
use Rattle.rtl_form.specs.declared.rtl.Cell as cells
use Rattle.rtl_form.specs.declared.rtl.Transfer.{Transfer}
use Rattle.rtl_form.specs.declared.rtl.RtlExpr.{RtlExpr}
use Rattle.rtl_form.specs.declared.rtl.RtlExpr.TheVariants.{Number, Truth, Cell, Apply}
use Rattle.rtl_form.specs.declared.rtl.Rtl.{Rtl}
use Rattle.rtl_form.specs.Operands.{takes_words, gives_word}
use Rattle.rtl_form.specs.Cost.{cell_cost, op_cost}

-- what a bit cell costs, and what an expression costs that is a bit: nothing for words
abbrev pub bit_cell_cost : cells.Cell → ℕ
bit_cell_cost x = if x.word then 0 else cell_cost x.kind

abbrev pub bit_expr_cost : RtlExpr → ℕ
bit_expr_cost (Number n) = 0
bit_expr_cost (Truth b) = 2
bit_expr_cost (Cell c) = 0
bit_expr_cost (Apply op index args) = if gives_word op then 0 else op_cost op (length args)

-- a cell of this list is a bit; where there is none, it is taken for one
abbrev pub is_bit_of : List cells.Cell → ℕ → Bool
is_bit_of xs c = not (option_map_or (λ (x : cells.Cell). x.word) (slice_get xs c) false)

-- a transfer to a bit
abbrev pub bit_transfer_cost : List cells.Cell → Transfer → ℕ
bit_transfer_cost xs t = if is_bit_of xs t.target then 1 else 0

-- the part of the cost of transfers that is for bits
abbrev pub bit_cost : Rtl → ℕ
bit_cost r =
    sum_by bit_cell_cost r.cells
    + sum_by bit_expr_cost r.exprs
    + sum_by (bit_transfer_cost r.cells) r.transfers

-- one for an expression where a word enters
abbrev pub entry_count : RtlExpr → ℕ
entry_count (Apply op index args) = if takes_words op && not (gives_word op) then 1 else 0
entry_count _ = 0

-- one for a gate or a latch
abbrev pub active_count : Part → ℕ
active_count Input = 0
active_count _ = 1

-- Parts were added for a cost, among them nets where words enter: each unit of cost is for a gate, a latch or the wire
-- on which a word enters, and gives at most two nets and four inputs of gates.
pub record IsWithinCost (cost entries : ℕ) (before after : List Part) : Type 0 where
  pub nets : length after ≤ length before + 2 * cost
  pub inputs : gate_inputs after ≤ gate_inputs before + 4 * cost
  pub active : sum_by active_count after + entries ≤ sum_by active_count before + cost
