-- No place has a tile.
use Rattle.std.proofs.Common.{◌∙◌}
use Rattle.region_sweep.proofs.Blank.{only_none, none_found}
use Rattle.region_sweep.proofs.swept.blank.Goals as goal

pub returns-clause-found : goal.returns-clause-found
returns-clause-found c = none_found c.args.places.now c.from_vec.result
    (c.from_vec.ensures ∙ c.in_ok-found.ensures.items_if_clones_equal (only_none _ (λ x e. e)))
