-- Changed run by changed run.
use Rattle.std.proofs.Common.{◌≡◌, [], length, rules, ◌<◌, refl}
use Rattle.kept_runs.specs.Kept.{colours_of, width_of}
use Rattle.row_windows.proofs.Finding.{none_found, finding_more, found_apart, found_tell, nothing_tells}
use Rattle.row_windows.proofs.find.find_windows.Goals as goal

-- src/find.rt
pub returns-then-is_empty-clause-tell : goal.returns-then-is_empty-clause-tell
returns-then-is_empty-clause-tell c =
    let e : c.clear.new.self.items ≡ [] = search rules in
    let none : length c.args.runs.now ≡ 0 = search rules in
    λ colour y same change. nothing_tells colour y c.args.runs.now c.clear.new.self.items none e change

-- src/find.rt
pub loop-next-init : goal.loop-next-init
loop-next-init c =
    let e : c.clear.new.self.items ≡ [] = search rules in
    let some : 0 < length c.args.runs.now = search rules in
    none_found (colours_of c.args.kept.now) (width_of c.args.kept.now) c.args.runs.now c.clear.new.self.items _
    c.requires.fit some e c.left_of.ensures refl

-- src/find.rt
pub loop-next-preserved : goal.loop-next-preserved
loop-next-preserved c =
    finding_more (colours_of c.args.kept.now) (width_of c.args.kept.now) c.args.runs.now c.loop-next.next
    c.loop-next.windows.items c.add_run.new.windows.items c.loop-next.current c.in_ok-current.current
    c.requires.fit c.loop-next-test.true
    c.loop-next.invariant c.in_ok-current.ensures

-- src/find.rt
pub returns-clause-apart : goal.returns-clause-apart
returns-clause-apart c =
    found_apart (colours_of c.args.kept.now) (width_of c.args.kept.now) c.args.runs.now c.loop-next.next
    c.loop-next.windows.items c.add.new.windows.items c.loop-next.current c.closed.result c.loop-next.invariant
    (search rules) c.closed.ensures.from
    c.closed.ensures.to c.closed.ensures.within c.in_ok-add.ensures

-- src/find.rt
pub returns-clause-tell : goal.returns-clause-tell
returns-clause-tell c =
    found_tell (colours_of c.args.kept.now) (width_of c.args.kept.now) c.args.runs.now c.loop-next.next
    c.loop-next.windows.items c.add.new.windows.items c.loop-next.current c.closed.result c.loop-next.invariant
    (search rules) c.closed.ensures.from
    c.closed.ensures.to c.closed.ensures.within c.in_ok-add.ensures
