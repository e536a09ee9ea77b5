use Rattle.std.proofs.Common.{◌+◌, ◌*◌, ◌∙◌, suc, length, refl, sym, arith}
use Rattle.mp_base.proofs.Entries.{entry}
use Rattle.path_values.specs.Allocated.{transfers_to}
use Rattle.datapath_making.specs.Sizes.{cast_cost}
use Rattle.datapath_making.specs.Steps.{IsNextMade, IsStep}
use Rattle.datapath_alloc.specs.Progress.{IsMadeTo}
use Rattle.datapath_alloc.specs.Noting.{KeepsWords}
use Rattle.datapath_alloc.proofs.Marks.{rebased}
use Rattle.datapath_alloc.proofs.Reaching.{all_read, reset_reached, transfers_reached}
use Rattle.datapath_sharing.proofs.Results.{done_two}
use Rattle.datapath_alloc.proofs.Rounds.{next_done, next_pays, no_next_done, room_next, stored_parts}
use Rattle.datapath_alloc.proofs.next_values.add_next_of.Goals as goal

pub add_next-requires-clause-room : goal.add_next-requires-clause-room
add_next-requires-clause-room c =
    let m = c.args.making.now in
    let w = stored_parts c.args.rtl.now c.args.index c.at-cell.result.now
    (entry c.args.rtl.now.cells c.args.index c.requires.cell c.at-cell.ensures)
    (sym c.is_stored.ensures ∙ c.if-is_stored.true) in
    room_next c.args.rtl.now m.control m.names m (length c.args.rtl.now.cells) (length m.names.tasks) c.args.index
    (6 + 4 * length (transfers_to c.args.rtl.now c.args.index)) (omega arith) c.requires.cell
    (let e = next_pays c.args.rtl.now c.args.index w in omega (arith, e)) c.requires.made

pub add_next-requires-clause-transfers : goal.add_next-requires-clause-transfers
add_next-requires-clause-transfers c =
    let m = c.args.making.now in
    let p = c.requires.made in
    let w = stored_parts c.args.rtl.now c.args.index c.at-cell.result.now
    (entry c.args.rtl.now.cells c.args.index c.requires.cell c.at-cell.ensures)
    (sym c.is_stored.ensures ∙ c.if-is_stored.true) in
    transfers_reached c.args.rtl.now m.control m.names p.given.sound p.given.lowered m (length m.names.tasks)
    c.args.index w.0 (omega arith) c.requires.marks p.begun p.exprs w.1 w.3
    (λ tr inside to. all_read c.args.rtl.now m.control m.names p.given.sound p.given.lowered tr inside)

pub add_next-requires-clause-reset : goal.add_next-requires-clause-reset
add_next-requires-clause-reset c =
    let m = c.args.making.now in
    let p = c.requires.made in
    reset_reached c.args.rtl.now m.control m.names p.given.sound p.given.lowered m c.args.reset c.requires.reset
    c.requires.marks p.begun

pub returns-then-is_stored-clause-made : goal.returns-then-is_stored-clause-made
returns-then-is_stored-clause-made c =
    let m = c.args.making.now in
    let new = c.add_next.new.making in
    let w = stored_parts c.args.rtl.now c.args.index c.at-cell.result.now
    (entry c.args.rtl.now.cells c.args.index c.requires.cell c.at-cell.ensures)
    (sym c.is_stored.ensures ∙ c.if-is_stored.true) in
    done_two
    (IsStep (5 + 4 * length (transfers_to c.args.rtl.now c.args.index) + cast_cost m.clear)
    (length (transfers_to c.args.rtl.now c.args.index) + cast_cost m.clear) m new)
    (IsNextMade c.args.rtl.now c.args.index c.args.reset m new)
    (IsMadeTo c.args.rtl.now (length c.args.rtl.now.cells) (length m.names.tasks) (suc c.args.index) new)
    c.add_next.result
    (λ step made. rebased c.args.rtl.now m.control m.names (length c.args.rtl.now.cells) (length m.names.tasks)
    (suc c.args.index) new
    (next_done c.args.rtl.now m.control m.names m new (length c.args.rtl.now.cells) (length m.names.tasks) c.args.index
    c.requires.made c.args.reset w c.requires.reset step made))
    c.add_next.ensures.step c.add_next.ensures.next

pub returns-else-is_stored-clause-made : goal.returns-else-is_stored-clause-made
returns-else-is_stored-clause-made c =
    let m = c.args.making.now in
    no_next_done c.args.rtl.now m.control m.names m (length c.args.rtl.now.cells) (length m.names.tasks) c.args.index
    c.at-cell.result.now c.requires.made
    (entry c.args.rtl.now.cells c.args.index c.requires.cell c.at-cell.ensures)
    (sym c.is_stored.ensures ∙ c.if-is_stored.false)

pub returns-then-is_stored-clause-words : goal.returns-then-is_stored-clause-words
returns-then-is_stored-clause-words c =
    let m = c.args.making.now in
    let new = c.add_next.new.making in
    done_two
    (IsStep (5 + 4 * length (transfers_to c.args.rtl.now c.args.index) + cast_cost m.clear)
    (length (transfers_to c.args.rtl.now c.args.index) + cast_cost m.clear) m new)
    (IsNextMade c.args.rtl.now c.args.index c.args.reset m new) (KeepsWords m new) c.add_next.result
    (λ step made. record { names = step.grows.names; words = made.words; lifts = made.lifts })
    c.add_next.ensures.step c.add_next.ensures.next

pub returns-else-is_stored-clause-words : goal.returns-else-is_stored-clause-words
returns-else-is_stored-clause-words c = record { names = refl; words = refl; lifts = refl }
