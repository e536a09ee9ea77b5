use Rattle.std.proofs.Common.{◌≡◌, ◌<◌, ◌+◌, [], List, Option, None, false, length, replicate, subst, sym, ap, ◌∙◌}
use Rattle.std.proofs.Common.{get_or, arith}
use Rattle.std.proofs.lemmas.Option.{slice_get-get_or}
use Rattle.nor_net.specs.declared.net.NetId.{NetId}
use Rattle.rtl_form.specs.declared.rtl.Cell as cells
use Rattle.rtl_form.specs.declared.rtl.CellKind.TheVariants.{Input}
use Rattle.bit_gates.specs.declared.rails.Rails.{Rails}
use Rattle.bit_gates.specs.Adding.{HasRoom}
use Rattle.bit_gates.specs.Cells.{IsFirstMade, first_cost}
use Rattle.control_nor.specs.First.{AreFirstDone}
use Rattle.control_nor.proofs.FirstCells.{first_more, none_first, room_first}
use Rattle.control_nor.proofs.first.lower_all_first.Goals as goal

abbrev no_cell : cells.Cell
no_cell = record { word = false; kind = Input 0 }

pub loop-cell-init : goal.loop-cell-init
loop-cell-init c =
    subst (λ (ns : List (Option Rails)). AreFirstDone c.args.rtl.now 0 c.args.net.now c.args.net.now ns
    c.in_ok-pads.pads)
    (sym c.new-cells.ensures)
    (subst (λ (ps : List (Option NetId)). AreFirstDone c.args.rtl.now 0 c.args.net.now c.args.net.now [] ps)
    (sym (c.in_ok-pads.ensures ∙ ap (λ n. replicate n None) c.len.ensures))
    (none_first c.args.rtl.now c.args.net.now))

pub lower_first-requires-clause-room : goal.lower_first-requires-clause-room
lower_first-requires-clause-room c =
    let inside : c.loop-cell.cell-index < length c.args.rtl.now.cells =
    subst (λ (xs : List cells.Cell). c.loop-cell.cell-index < length xs) c.as_slice-cell-items.ensures
    c.loop-cell-test.true in
    subst (λ (xs : List cells.Cell). HasRoom (first_cost (get_or xs c.loop-cell.cell-index no_cell)) c.loop-cell.net)
    (sym c.as_slice-cell-items.ensures)
    (room_first c.args.rtl.now c.loop-cell.cell-index no_cell c.args.net.now c.loop-cell.net c.loop-cell.cells
    c.loop-cell.pads
    inside c.loop-cell.invariant c.requires.room)

pub loop-cell-preserved : goal.loop-cell-preserved
loop-cell-preserved c =
    let inside : c.loop-cell.cell-index < length c.args.rtl.now.cells =
    subst (λ (xs : List cells.Cell). c.loop-cell.cell-index < length xs) c.as_slice-cell-items.ensures
    c.loop-cell-test.true in
    let made = subst (λ (xs : List cells.Cell). IsFirstMade
    (get_or xs c.loop-cell.cell-index no_cell) c.loop-cell.net c.lower_first.new.net
    c.loop-cell.pads c.lower_first.new.pads c.in_ok-rails.rails) c.as_slice-cell-items.ensures c.in_ok-rails.ensures
    in
    let x = get_or c.args.rtl.now.cells c.loop-cell.cell-index no_cell in
    subst (λ (ns : List (Option Rails)). AreFirstDone c.args.rtl.now
    (c.loop-cell.cell-index + 1) c.args.net.now c.lower_first.new.net ns
    c.lower_first.new.pads) (sym c.in_ok-push.ensures.ok)
    (first_more c.args.rtl.now c.requires.sound c.loop-cell.cell-index c.args.net.now c.loop-cell.net
    c.lower_first.new.net
    c.loop-cell.cells c.loop-cell.pads c.lower_first.new.pads x c.in_ok-rails.rails
    (slice_get-get_or c.args.rtl.now.cells c.loop-cell.cell-index no_cell inside) c.loop-cell.invariant made)

pub returns : goal.returns
returns c =
    let whole = ap length c.as_slice-cell-items.ensures in
    let all : c.loop-cell.cell-index ≡ length c.args.rtl.now.cells = omega (arith, whole) in
    subst (λ n. AreFirstDone c.args.rtl.now n c.args.net.now c.loop-cell.net c.loop-cell.cells c.loop-cell.pads) all
    c.loop-cell.invariant
