use Rattle.std.proofs.Common.{ap, arith, suc}
use Rattle.std.proofs.lemmas.Bool.{not-false}
use Rattle.mp_base.proofs.Entries.{entry}
use Rattle.rtl_form.specs.Environment.{is_driven}
use Rattle.datapath_making.specs.Steps.{IsPortMade, IsSlaveMade, IsStep}
use Rattle.datapath_alloc.specs.Progress.{IsMadeTo}
use Rattle.datapath_alloc.proofs.Marks.{rebased}
use Rattle.datapath_alloc.proofs.Reaching.{free_first, free_pad}
use Rattle.datapath_sharing.proofs.Results.{done_two}
use Rattle.datapath_alloc.proofs.Rounds.{port_done, room, slave_done}
use Rattle.datapath_alloc.proofs.latches.add_latch.Goals as goal

pub add_port-requires-clause-room : goal.add_port-requires-clause-room
add_port-requires-clause-room c =
    let m = c.args.making.now in
    room c.args.rtl.now m.control m.names m c.args.index 0 0 2 (let l = c.requires.cell in omega (arith, l))
    (omega arith) (omega arith) c.requires.made

pub add_slave-requires-clause-room : goal.add_slave-requires-clause-room
add_slave-requires-clause-room c =
    let m = c.args.making.now in
    room c.args.rtl.now m.control m.names m c.args.index 0 0 2 (let l = c.requires.cell in omega (arith, l))
    (omega arith) (omega arith) c.requires.made

pub add_port-requires-clause-cell : goal.add_port-requires-clause-cell
add_port-requires-clause-cell c =
    let m = c.args.making.now in
    let p = c.requires.made in
    free_first c.args.rtl.now m.control m.names p.given.sound p.given.lowered m c.args.index 0 0 c.at-cell.result.now
    (entry c.args.rtl.now.cells c.args.index c.requires.cell c.at-cell.ensures) (ap is_driven c.in-Input.is) p.begun
    p.cells

pub add_slave-requires-clause-cell : goal.add_slave-requires-clause-cell
add_slave-requires-clause-cell c =
    let m = c.args.making.now in
    let p = c.requires.made in
    free_first c.args.rtl.now m.control m.names p.given.sound p.given.lowered m c.args.index 0 0 c.at-cell.result.now
    (entry c.args.rtl.now.cells c.args.index c.requires.cell c.at-cell.ensures) (ap is_driven c.in-Stored.is) p.begun
    p.cells

pub add_port-requires-clause-pad : goal.add_port-requires-clause-pad
add_port-requires-clause-pad c =
    let m = c.args.making.now in
    let p = c.requires.made in
    free_pad c.args.rtl.now m.control m.names p.given.sound p.given.lowered m c.args.index 0 0 c.in-Input.pad (
      c.at-cell.result.now,
      entry c.args.rtl.now.cells c.args.index c.requires.cell c.at-cell.ensures,
      c.in-Input.is,
      not-false c.at-cell.result.now.word c.if-not-cell.false,
    ) p.begun p.cells

pub returns-in-Input-clause-made : goal.returns-in-Input-clause-made
returns-in-Input-clause-made c =
    let m = c.args.making.now in
    let new = c.add_port.new.making in
    done_two (IsStep 2 0 m new) (IsPortMade c.args.index c.in-Input.pad m new)
    (IsMadeTo c.args.rtl.now (suc c.args.index) 0 0 new) c.add_port.result
    (λ step port. rebased c.args.rtl.now m.control m.names (suc c.args.index) 0 0 new
    (port_done c.args.rtl.now m.control m.names m new c.args.index c.requires.made c.in-Input.pad (
      c.at-cell.result.now,
      entry c.args.rtl.now.cells c.args.index c.requires.cell c.at-cell.ensures,
      c.in-Input.is,
      not-false c.at-cell.result.now.word c.if-not-cell.false,
    ) step port))
    c.add_port.ensures.step c.add_port.ensures.port

pub returns-in-Stored-clause-made : goal.returns-in-Stored-clause-made
returns-in-Stored-clause-made c =
    let m = c.args.making.now in
    let new = c.add_slave.new.making in
    done_two (IsStep 2 0 m new) (IsSlaveMade c.args.index m new)
    (IsMadeTo c.args.rtl.now (suc c.args.index) 0 0 new) c.add_slave.result
    (λ step slave. rebased c.args.rtl.now m.control m.names (suc c.args.index) 0 0 new
    (slave_done c.args.rtl.now m.control m.names m new c.args.index c.requires.made (
      c.at-cell.result.now,
      entry c.args.rtl.now.cells c.args.index c.requires.cell c.at-cell.ensures,
      c.in-Stored.is,
      not-false c.at-cell.result.now.word c.if-not-cell.false,
    ) step slave))
    c.add_slave.ensures.step c.add_slave.ensures.slave
