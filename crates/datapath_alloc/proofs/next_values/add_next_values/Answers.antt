use Rattle.std.proofs.Common.{length, refl}
use Rattle.datapath_alloc.proofs.Rounds.{no_reset_done}
use Rattle.datapath_alloc.proofs.next_values.add_next_values.Goals as goal

pub returns-in-None-clause-made : goal.returns-in-None-clause-made
returns-in-None-clause-made c =
    let m = c.args.making.now in
    no_reset_done c.args.rtl.now m.control m.names m (length c.args.rtl.now.cells) (length m.names.tasks) c.in-None.is
    c.requires.made

pub returns-in-None-clause-words : goal.returns-in-None-clause-words
returns-in-None-clause-words c = record { names = refl; words = refl; lifts = refl }
