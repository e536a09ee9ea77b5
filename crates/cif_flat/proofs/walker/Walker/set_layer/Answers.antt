use Rattle.std.proofs.Common.{◌∙◌, ◌++◌, ◌∷◌, [], sym, ap, subst, arith}
use Rattle.cif_flat.specs.Refusing.{RefusesWalk}
use Rattle.cif_flat.proofs.Arms.{layer_counted, layer_unknown, layer_set}
use Rattle.cif_flat.proofs.walker.Walker.set_layer.Goals as goal

pub returns-then-self-ge-WALK_LIMIT-clause-err : goal.returns-then-self-ge-WALK_LIMIT-clause-err
returns-then-self-ge-WALK_LIMIT-clause-err c = subst (RefusesWalk c.args.items.now) (sym c.broken.ensures)
    (layer_counted c.args.items.now c.args.self.now c.args.level c.args.offset c.args.name.now c.requires (omega arith))

pub returns-in_default-clause-err : goal.returns-in_default-clause-err
returns-in_default-clause-err c = subst (RefusesWalk c.args.items.now) (sym c.broken-in_default.ensures)
    (layer_unknown c.args.items.now c.args.self.now c.args.level c.args.offset c.args.name.now c.requires
    (omega arith) c.in_default.ensures.unknown)

pub returns-clause-ok : goal.returns-clause-ok
returns-clause-ok c =
    layer_set c.args.items.now c.args.self.now c.args.level c.args.offset c.args.name.now c.requires
    (omega arith) c.in-Some.layer c.in-Some.ensures.known c.go_on.new.self c.in_ok-go_on.ensures.kept
    (c.in_ok-go_on.ensures.pushed ∙ ap (λ u. c.args.self.now.levels.items ++ u ∷ []) c.onward.ensures)
