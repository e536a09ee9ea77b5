use Rattle.std.proofs.Common.{◌≡◌, ◌≤◌, ◌+◌, ◌*◌, length, sym, subst}
use Rattle.fabric.proofs.Counts.{few_rectangles}
use Rattle.fabric.specs.Counted.{rectangle_count}
use Rattle.fabric.proofs.Bases.{rectangles_counted}
use Rattle.fabric.proofs.fabric.Fabric.shape.Goals as goal

pub returns-clause-exact : goal.returns-clause-exact
returns-clause-exact c =
    subst (λ z. length z ≡ rectangle_count c.args.self.now) (sym c.in_ok-shape.ensures)
    (rectangles_counted c.args.self.now)

pub returns-clause-count : goal.returns-clause-count
returns-clause-count c =
    let f = c.args.self.now in
    subst (λ n. n ≤ 10 * (length f.segments + length f.lines + length f.marks) + 2 * length f.rows + 2)
    (sym (returns-clause-exact c)) (few_rectangles f)
