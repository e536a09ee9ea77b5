use Rattle.path_chips.proofs.Planning as proofs
use Rattle.path_chips.proofs.laws.paths_are_planned.Goals as goal

pub returns : goal.returns
returns c =
    proofs.paths_are_planned c.networks_draw_circuits.ensures c.paths_are_fed.ensures c.rows_follow.ensures
    c.paths_show_rows.ensures c.circuits_have_pads.ensures
