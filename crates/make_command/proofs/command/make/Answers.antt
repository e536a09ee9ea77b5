use Rattle.std.proofs.Common.{refl}
use Rattle.outside.proofs.Told.{keeps_same}
use Rattle.outcome.specs.declared.halt.Halt.TheVariants.{NoMemory}
use Rattle.outcome.specs.World.{World, StoreFailed, PrintFailed, world_of}
use Rattle.outcome.proofs.EndsLemmas.{leaves_halted, leaves_done, leaves_cut, leaves_stored_in_part}
use Rattle.outcome.proofs.Causes.{without_memory, store_failed, print_failed}
use Rattle.outcome.proofs.Silence.{quiet_same, quiet_cut}
use Rattle.make_command.specs.Work.{work}
use Rattle.make_command.proofs.Making.{finds_made, unrefused_memory, unrefused_write}
use Rattle.make_command.proofs.command.make.Goals as goal

pub returns-in_err-made-clause-content : goal.returns-in_err-made-clause-content
returns-in_err-made-clause-content g c =
    leaves_halted (work c.args.seed c.args.cif.now) NoMemory c.from_residual.result _ _ 0 0 c.from_residual.ensures.1
    (keeps_same _) refl refl

pub returns-in_err-store-clause-content : goal.returns-in_err-store-clause-content
returns-in_err-store-clause-content g c =
    let made = c.in_ok-made.made in
    let before : World = world_of g.D.Depot.held g.D.Depot.read_faults g.D.Depot.write_faults g.O.Sink.held
    g.O.Sink.faults c.args.depot.now c.args.out.now in
    let after : World = world_of g.D.Depot.held g.D.Depot.read_faults g.D.Depot.write_faults g.O.Sink.held
    g.O.Sink.faults c.store.new.depot c.args.out.now in
    let why : StoreFailed before after = record {
      later = c.in_err-store.ensures.cause.later;
      failed = c.in_err-store.ensures.cause.failed;
      prints = refl;
      text = refl;
    } in
    leaves_stored_in_part (work c.args.seed c.args.cif.now) made.chip.items made.text.items
    c.from_residual-in_err-store.result before after before.files c.from_residual-in_err-store.ensures.1 why
    (keeps_same before.files)
    (finds_made c.args.seed c.args.cif.now made.chip.items made.text.items c.in_ok-made.ensures.compiled
    c.in_ok-made.ensures.run before.files)
    (rw c.deref.ensures.value at c.in_err-store.ensures.cut)

pub returns-in_err-write_all-clause-content : goal.returns-in_err-write_all-clause-content
returns-in_err-write_all-clause-content g c =
    let made = c.in_ok-made.made in
    let before : World = world_of g.D.Depot.held g.D.Depot.read_faults g.D.Depot.write_faults g.O.Sink.held
    g.O.Sink.faults c.args.depot.now c.args.out.now in
    let after : World = world_of g.D.Depot.held g.D.Depot.read_faults g.D.Depot.write_faults g.O.Sink.held
    g.O.Sink.faults c.store.new.depot c.write_all.new.out in
    let why : PrintFailed before after = record {
      later = c.in_err-write_all.ensures.cause.later;
      failed = c.in_err-write_all.ensures.cause.failed;
      writes = c.in_ok-store.ensures.cause.ok;
    } in
    leaves_cut (work c.args.seed c.args.cif.now) made.chip.items made.text.items c.in_err-write_all.field-0.0
    c.from_residual-in_err-write_all.result before after before.files
    c.from_residual-in_err-write_all.ensures.1 why (keeps_same before.files)
    (finds_made c.args.seed c.args.cif.now made.chip.items made.text.items c.in_ok-made.ensures.compiled
    c.in_ok-made.ensures.run before.files)
    (rw c.deref.ensures.value at c.in_ok-store.ensures.stored)
    (rw c.deref-2.ensures.value at c.in_err-write_all.ensures.taken)

pub returns-clause-content : goal.returns-clause-content
returns-clause-content g c =
    let made = c.in_ok-made.made in
    leaves_done (work c.args.seed c.args.cif.now) made.chip.items made.text.items c.in_ok-write_all.field-0 tt _ _
    (g.D.Depot.held c.args.depot.now) (keeps_same _)
    (finds_made c.args.seed c.args.cif.now made.chip.items made.text.items c.in_ok-made.ensures.compiled
    c.in_ok-made.ensures.run (g.D.Depot.held c.args.depot.now))
    (rw c.deref.ensures.value at c.in_ok-store.ensures.stored)
    (rw c.deref-2.ensures.value at c.in_ok-write_all.ensures.taken)

pub returns-in_err-made-clause-causes : goal.returns-in_err-made-clause-causes
returns-in_err-made-clause-causes g c =
    without_memory c.from_residual.result _ _ _ c.from_residual.ensures.1 refl refl refl

pub returns-in_err-store-clause-causes : goal.returns-in_err-store-clause-causes
returns-in_err-store-clause-causes g c =
    store_failed c.from_residual-in_err-store.result _ _ _ c.from_residual-in_err-store.ensures.1
    c.in_err-store.ensures.reads c.in_err-store.ensures.cause.later c.in_err-store.ensures.cause.failed refl refl

pub returns-in_err-write_all-clause-causes : goal.returns-in_err-write_all-clause-causes
returns-in_err-write_all-clause-causes g c =
    print_failed c.from_residual-in_err-write_all.result _ _ _ c.from_residual-in_err-write_all.ensures.1
    c.in_ok-store.ensures.reads c.in_ok-store.ensures.cause.ok c.in_err-write_all.ensures.cause.later
    c.in_err-write_all.ensures.cause.failed

pub returns-clause-causes : goal.returns-clause-causes
returns-clause-causes g c =
    (c.in_ok-store.ensures.reads, c.in_ok-store.ensures.cause.ok, c.in_ok-write_all.ensures.cause.ok)

pub returns-in_err-made-clause-silent : goal.returns-in_err-made-clause-silent
returns-in_err-made-clause-silent g c = quiet_same c.from_residual.result _

pub returns-in_err-store-clause-silent : goal.returns-in_err-store-clause-silent
returns-in_err-store-clause-silent g c = quiet_same c.from_residual-in_err-store.result _

pub returns-in_err-write_all-clause-silent : goal.returns-in_err-write_all-clause-silent
returns-in_err-write_all-clause-silent g c =
    quiet_cut c.from_residual-in_err-write_all.result _ _ c.from_residual-in_err-write_all.ensures.1

pub returns-clause-silent : goal.returns-clause-silent
returns-clause-silent g c = tt

pub returns-in_err-made-clause-unrefused : goal.returns-in_err-made-clause-unrefused
returns-in_err-made-clause-unrefused g c = unrefused_memory c.from_residual.result c.from_residual.ensures.1

pub returns-in_err-store-clause-unrefused : goal.returns-in_err-store-clause-unrefused
returns-in_err-store-clause-unrefused g c =
    unrefused_write c.from_residual-in_err-store.result c.from_residual-in_err-store.ensures.1

pub returns-in_err-write_all-clause-unrefused : goal.returns-in_err-write_all-clause-unrefused
returns-in_err-write_all-clause-unrefused g c =
    unrefused_write c.from_residual-in_err-write_all.result c.from_residual-in_err-write_all.ensures.1

pub returns-clause-unrefused : goal.returns-clause-unrefused
returns-clause-unrefused g c = tt
