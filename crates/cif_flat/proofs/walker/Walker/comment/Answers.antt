use Rattle.std.proofs.Common.{◌∙◌, ◌++◌, ◌∷◌, [], sym, ap, subst, arith}
use Rattle.cif_flat.specs.Refusing.{RefusesWalk}
use Rattle.cif_flat.proofs.Arms.{comment_counted, comment_passed}
use Rattle.cif_flat.proofs.walker.Walker.comment.Goals as goal

pub returns-then-self-ge-WALK_LIMIT-clause-err : goal.returns-then-self-ge-WALK_LIMIT-clause-err
returns-then-self-ge-WALK_LIMIT-clause-err c = subst (RefusesWalk c.args.items.now) (sym c.broken.ensures)
    (comment_counted c.args.items.now c.args.self.now c.args.level c.args.offset c.args.text.now c.requires
    (omega arith))

pub returns-clause-ok : goal.returns-clause-ok
returns-clause-ok c =
    comment_passed c.args.items.now c.args.self.now c.args.level c.args.offset c.args.text.now c.requires
    (omega arith) c.go_on.new.self c.in_ok-go_on.ensures.kept
    (c.in_ok-go_on.ensures.pushed ∙ ap (λ u. c.args.self.now.levels.items ++ u ∷ []) c.onward.ensures)
