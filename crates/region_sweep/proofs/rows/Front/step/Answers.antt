-- From a row to the next one.
use Rattle.std.proofs.Common.{◌+◌, ◌≤◌, ◌<◌, sym, ◌∙◌, subst, arith}
use Rattle.std.specs.Prelude.{All}
use Rattle.cover_tree.specs.Trees.{cover_of}
use Rattle.kept_runs.specs.Kept.{width_of}
use Rattle.strip_rows.specs.Changes.{LieInRow, IsChange}
use Rattle.strip_rows.specs.Swept.{cells_of}
use Rattle.row_windows.specs.Windows.{AreFit}
use Rattle.region_sweep.specs.Blocks.{painted}
use Rattle.region_sweep.specs.Repainting.{HaveColours, IsRepainted}
use Rattle.region_sweep.specs.Rows.{IsUpTo}
use Rattle.region_sweep.proofs.Repainting.{next_kept}
use Rattle.region_sweep.proofs.Rowwise.{guarded, runs_painted, lie_in, tree_tells, whole_step, up_to_own, next_told}
use Rattle.region_sweep.proofs.rows.Front.step.Goals as goal

pub find_windows-requires-clause-fit : goal.find_windows-requires-clause-fit
find_windows-requires-clause-fit c =
    let told =
    next_told c.raise-next.new.tree c.colours_by_layers.ensures c.requires.stacked.1 c.requires.at
    c.raise-next.ensures.up_to c.raise-next.ensures.told c.in_ok-advance.ensures.changes in
    subst (AreFit (width_of c.args.self.now.kept)) (sym c.deref.ensures.value)
    (subst (λ n. AreFit n c.advance.new.changes.items) (sym c.requires.at.wide) told.fit)

pub find_windows-requires-clause-guarded : goal.find_windows-requires-clause-guarded
find_windows-requires-clause-guarded c =
    let inv = c.requires.at in
    guarded c.colours_by_layers.ensures (cover_of c.args.self.now.tree).mask
    (width_of c.args.self.now.kept) c.requires.stacked.0 c.args.blocks.now c.args.below c.args.self.now.kept
    c.requires.stacked.1 inv.wide inv.same

pub repaint-requires-clause-wide : goal.repaint-requires-clause-wide
repaint-requires-clause-wide c =
    subst (All (λ s. s.left < s.right)) (sym c.deref-3.ensures.value) c.in_ok-advance.ensures.changes.wide

pub repaint-requires-clause-within : goal.repaint-requires-clause-within
repaint-requires-clause-within c =
    let told =
    next_told c.raise-next.new.tree c.colours_by_layers.ensures c.requires.stacked.1 c.requires.at
    c.raise-next.ensures.up_to c.raise-next.ensures.told c.in_ok-advance.ensures.changes in
    subst (All (λ s. s.right ≤ width_of c.args.self.now.kept)) (sym c.deref-3.ensures.value)
    (λ k d l. let w = c.requires.at.wide in let r = told.fit.within k d l in omega arith)

pub step-requires-clause-old : goal.step-requires-clause-old
step-requires-clause-old c =
    let inv = c.requires.at in
    let runs = c.collect_windows.new.runs.items in
    let windows = c.deref-2.result.now in
    let colour = painted (cover_of c.args.self.now.tree).mask c.args.blocks.now in
    let are =
    runs_painted (colour c.args.below) c.args.self.now.kept windows runs inv.same c.in_ok-collect_windows.ensures in
    subst (LieInRow (cells_of c.args.self.now.strips)) (sym c.deref-5.ensures.value)
    (lie_in c.colours_by_layers.ensures (cover_of c.args.self.now.tree).mask
    (width_of c.args.self.now.kept) c.requires.stacked.0 c.args.blocks.now c.args.below _ windows runs
    c.requires.stacked.1 inv.as_wide are)

pub step-requires-clause-new : goal.step-requires-clause-new
step-requires-clause-new c =
    let inv = c.requires.at in
    let law = c.colours_by_layers.ensures in
    let mask = (cover_of c.args.self.now.tree).mask in
    let cells = width_of c.args.self.now.kept in
    let blocks = c.args.blocks.now in
    let below = c.args.below in
    let colour = painted mask blocks in
    let changed = c.advance.new.changes.items in
    let kept = c.repaint.new.kept in
    let told =
    next_told c.raise-next.new.tree c.colours_by_layers.ensures c.requires.stacked.1 c.requires.at
    c.raise-next.ensures.up_to c.raise-next.ensures.told c.in_ok-advance.ensures.changes in
    let same =
    next_kept (colour below) (colour (below + 1)) c.args.self.now.kept kept changed inv.same told.at
    (subst (IsRepainted (colour (below + 1)) c.args.self.now.kept kept) c.deref-3.ensures.value
    (c.repaint.ensures.painted (colour (below + 1))
    (subst (HaveColours (colour (below + 1))) (sym c.deref-3.ensures.value) told.have))) in
    let runs = c.collect_windows-2.new.runs.items in
    let windows = c.deref-4.result.now in
    let are = runs_painted (colour (below + 1)) kept windows runs same c.in_ok-collect_windows-2.ensures in
    subst (LieInRow (cells_of c.args.self.now.strips)) (sym c.deref-6.ensures.value)
    (lie_in law mask cells c.requires.stacked.0 blocks (below + 1) _ windows runs c.requires.stacked.1 inv.as_wide are)

pub returns-clause-at : goal.returns-clause-at
returns-clause-at c =
    let inv = c.requires.at in
    let law = c.colours_by_layers.ensures in
    let mask = (cover_of c.args.self.now.tree).mask in
    let cells = width_of c.args.self.now.kept in
    let blocks = c.args.blocks.now in
    let below = c.args.below in
    let colour = painted mask blocks in
    let changed = c.advance.new.changes.items in
    let upper = c.raise-next.new.tree in
    let kept = c.repaint.new.kept in
    let up : IsUpTo mask cells blocks (below + 1) c.raise-next.result (cover_of upper) =
    up_to_own inv.up_to.of_mask inv.up_to.wide c.raise-next.ensures.up_to in
    let told =
    next_told c.raise-next.new.tree c.colours_by_layers.ensures c.requires.stacked.1 c.requires.at
    c.raise-next.ensures.up_to c.raise-next.ensures.told c.in_ok-advance.ensures.changes in
    let same =
    next_kept (colour below) (colour (below + 1)) c.args.self.now.kept kept changed inv.same told.at
    (subst (IsRepainted (colour (below + 1)) c.args.self.now.kept kept) c.deref-3.ensures.value
    (c.repaint.ensures.painted (colour (below + 1))
    (subst (HaveColours (colour (below + 1))) (sym c.deref-3.ensures.value) told.have))) in
    let olds = c.collect_windows.new.runs.items in
    let news = c.collect_windows-2.new.runs.items in
    let change = whole_step colour below c.args.self.now.kept kept changed c.deref.result.now
    c.find_windows.new.windows.items c.deref-2.result.now c.deref-4.result.now olds news
    inv.same same told.at c.deref.ensures.value
    c.deref-2.ensures.value c.deref-4.ensures.value c.in_ok-find_windows.ensures.tell
    c.in_ok-collect_windows.ensures
    c.in_ok-collect_windows-2.ensures in
    let swept = c.in_ok-step.ensures.swept colour below inv.swept
    (subst (λ v. IsChange colour below v c.deref-6.result.now) (sym c.deref-5.ensures.value)
    (subst (IsChange colour below olds) (sym c.deref-6.ensures.value) change)) in
    record {
      up_to = subst (IsUpTo mask cells blocks (below + 1) c.raise-next.result) (sym c.advance.ensures.cover) up;
      told = λ x l.
          tree_tells law mask blocks (below + 1) c.raise-next.result (cover_of upper) up.of_mask up.are up.waiting x
          ∙ sym (c.advance.ensures.told x (let w = up.wide in omega arith));
      last = c.advance.ensures.row;
      wide = c.repaint.ensures.cells ∙ inv.wide;
      same = same;
      as_wide = c.in_ok-step.ensures.cells ∙ inv.as_wide;
      swept = swept;
    }
