use Rattle.std.proofs.Common.{◌∙◌, ap, refl, ◌++◌, ◌∷◌, []}
use Rattle.cif_flat.specs.Walking.{top}
use Rattle.cif_flat.proofs.Loop.{walking_start}
use Rattle.cif_flat.proofs.walker.Walker.new.Goals as goal

pub returns : goal.returns
returns c =
    walking_start c.args.items.now _ c.requires c.new.ensures.empty c.new-3.ensures.empty
    c.new-4.ensures.read c.new-4.ensures.ways c.new-4.ensures.repeated c.new-5.ensures.empty refl c.new-6.ensures
    c.new-7.ensures c.placements_compose.ensures.here c.push.new.self.items
    (c.in_ok-push.ensures.items ∙ (λ i. c.new-levels.ensures.items i ++ (c.top.ensures ∙ ap top c.len.ensures) i ∷ []))
