use Rattle.path_draft.proofs.Entries.{entries_more}
use Rattle.path_draft.proofs.ends.entries_of.Goals as goal

pub loop-index-preserved : goal.loop-index-preserved
loop-index-preserved c =
    entries_more c.args.word c.args.pads.now c.args.ids.now c.loop-index.index c.index-pads-index.result c.id_at.result
    c.requires c.loop-index-test.true c.index-pads-index.is c.id_at.ensures c.loop-index.entries c.add_entry.new.entries
    c.loop-index.invariant c.in_ok-add_entry.ensures
