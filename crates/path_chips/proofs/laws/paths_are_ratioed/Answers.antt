use Rattle.path_chips.proofs.Planning as proofs
use Rattle.path_chips.proofs.laws.paths_are_ratioed.Goals as goal

pub returns : goal.returns
returns c =
    proofs.paths_are_ratioed c.networks_draw_circuits.ensures c.paths_are_fed.ensures c.one_to_ground.ensures
    c.pull_ups_are_tied.ensures c.transistors_are_clocked.ensures
