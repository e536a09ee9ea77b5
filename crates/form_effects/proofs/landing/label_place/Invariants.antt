use Rattle.std.proofs.Common.{◌≡◌, drop}
use Rattle.mp_program.specs.Step.{place_of_label}
use Rattle.form_effects.proofs.landing.label_place.Given as goal

abbrev pub invariant-loop-found : goal.invariant-loop-found
invariant-loop-found l = place_of_label l.process l.process.labels l.label
    ≡ place_of_label l.process (drop l.found-index l.process.labels) l.label
