-- Window by window.
use Rattle.std.proofs.Common.{◌≡◌, ◌++◌, [], refl, sym, subst, rules, take, ◌+◌}
use Rattle.mask_runs.specs.Runs.{AreRuns}
use Rattle.kept_runs.specs.Kept.{colours_of, width_of}
use Rattle.row_windows.specs.Windows.{seen}
use Rattle.row_windows.proofs.Joining.{no_runs, runs_more}
use Rattle.row_windows.proofs.collect.collect_windows.Goals as goal

-- src/collect.rt
pub loop-window-init : goal.loop-window-init
loop-window-init c =
    let e : c.clear.new.self.items ≡ [] = search rules in
    no_runs (colours_of c.args.kept.now) [] c.clear.new.self.items refl e

-- src/collect.rt
pub loop-window-preserved : goal.loop-window-preserved
loop-window-preserved c =
    let f = colours_of c.args.kept.now in
    let windows = c.args.windows.now in
    let i = c.loop-window.window-index in
    let e : c.append.new.self.items ≡ c.loop-window.runs.items ++ c.collect.new.runs.items = search rules in
    subst (AreRuns (seen (take (i + 1) windows) f)) (sym e)
    (runs_more
    (width_of c.args.kept.now) windows i f c.requires c.loop-window-test.true c.loop-window.runs.items
    c.collect.new.runs.items
    c.loop-window.invariant c.in_ok-collect.ensures)
