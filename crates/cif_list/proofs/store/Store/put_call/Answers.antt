use Rattle.cif_list.proofs.Kept.{still}
use Rattle.cif_list.proofs.store.Store.put_call.Goals as goal

pub returns-in_err-index-clause-grows : goal.returns-in_err-index-clause-grows
returns-in_err-index-clause-grows c = record {
  points = still _;
  texts = still _;
  turns = c.in_ok-turns.ensures.grown;
  boxes = still _;
  rounds = still _;
  wires = still _;
  starts = still _;
  calls = c.add.ensures.grown;
}

pub returns-clause-grows : goal.returns-clause-grows
returns-clause-grows c = record {
  points = still _;
  texts = still _;
  turns = c.in_ok-turns.ensures.grown;
  boxes = still _;
  rounds = still _;
  wires = still _;
  starts = still _;
  calls = c.add.ensures.grown;
}
