use Rattle.path_test.proofs.gates.is_on_images.Goals as goal

pub returns-in-Some : goal.returns-in-Some
returns-in-Some c = λ e. (c.in-Some.others.now, c.in-Some.ensures, c.become_nets.ensures e)
