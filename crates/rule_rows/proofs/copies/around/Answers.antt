-- The rectangle of each direction.
use Rattle.lam_geom.proofs.Rects.{same_rect}
use Rattle.rule_rows.proofs.Bounds.{less, more, same}
use Rattle.rule_rows.proofs.copies.around.Goals as goal

pub returns-in-Right : goal.returns-in-Right
returns-in-Right c =
    let b = c.requires.bounded in
    rw c.in-Right.is (same_rect c.args.to _ _ _ _ _ _ _ _
    (less c.args.shape.now.x0 c.from-far.result c.args.reach.far b.x0 c.from-far.ensures c.requires.far)
    (same c.args.shape.now.y0 b.y0)
    (less c.args.shape.now.x1 c.from-near.result c.args.reach.near b.x1 c.from-near.ensures c.requires.near)
    (same c.args.shape.now.y1 b.y1))

pub returns-in-Left : goal.returns-in-Left
returns-in-Left c =
    let b = c.requires.bounded in
    rw c.in-Left.is (same_rect c.args.to _ _ _ _ _ _ _ _
    (more c.args.shape.now.x0 c.from-near.result c.args.reach.near b.x0 c.from-near.ensures c.requires.near)
    (same c.args.shape.now.y0 b.y0)
    (more c.args.shape.now.x1 c.from-far.result c.args.reach.far b.x1 c.from-far.ensures c.requires.far)
    (same c.args.shape.now.y1 b.y1))

pub returns-in-Above : goal.returns-in-Above
returns-in-Above c =
    let b = c.requires.bounded in
    rw c.in-Above.is (same_rect c.args.to _ _ _ _ _ _ _ _
    (same c.args.shape.now.x0 b.x0)
    (less c.args.shape.now.y0 c.from-far.result c.args.reach.far b.y0 c.from-far.ensures c.requires.far)
    (same c.args.shape.now.x1 b.x1)
    (less c.args.shape.now.y1 c.from-near.result c.args.reach.near b.y1 c.from-near.ensures c.requires.near))

pub returns-in-Below : goal.returns-in-Below
returns-in-Below c =
    let b = c.requires.bounded in
    rw c.in-Below.is (same_rect c.args.to _ _ _ _ _ _ _ _
    (same c.args.shape.now.x0 b.x0)
    (more c.args.shape.now.y0 c.from-near.result c.args.reach.near b.y0 c.from-near.ensures c.requires.near)
    (same c.args.shape.now.x1 b.x1)
    (more c.args.shape.now.y1 c.from-far.result c.args.reach.far b.y1 c.from-far.ensures c.requires.far))
