use Rattle.std.proofs.Common.{rules}
use Rattle.outside_doubles.proofs.MemoryLemmas.{grown_of_updates, same_of_updates, no_text, at_ok, at_err}
use Rattle.outside_doubles.proofs.memory.grow_text.Goals as goal

pub returns-in-Some-clause-ok : goal.returns-in-Some-clause-ok
returns-in-Some-clause-ok c =
    let new = c.extend_from_slice.new.self in
    at_ok c.extend_from_slice.result new.items _ _ _ c.extend_from_slice.ensures.items
    (grown_of_updates c.args.files.now
    (c.get_mut.follows.lender new) c.args.name.now c.args.bytes.now c.in-Some.text.now new c.in-Some.ensures.value
    ((c.get_mut.follows.holds new).3 (search rules)))

pub returns-in-Some-clause-err : goal.returns-in-Some-clause-err
returns-in-Some-clause-err c =
    let new = c.extend_from_slice.new.self in
    at_err c.extend_from_slice.result new.items _ _ _ c.extend_from_slice.ensures.items
    (same_of_updates c.args.files.now
    (c.get_mut.follows.lender new) c.args.name.now c.in-Some.text.now new c.in-Some.ensures.value
    ((c.get_mut.follows.holds new).3 (search rules)))

pub returns-in-None-clause-ok : goal.returns-in-None-clause-ok
returns-in-None-clause-ok c = absurd (no_text c.args.files.now c.args.name.now c.in-None.ensures.value c.requires)
