use Rattle.std.proofs.Common.{codes, map, ◌++◌, ◌∙◌, ap, arith}
use Rattle.mp_program.specs.State.{Seat}
use Rattle.wave_text.specs.Waves.{place_value, value_text}
use Rattle.wave_text.proofs.Numbering.{more}
use Rattle.wave_text.proofs.values.push_places.Goals as goal

pub loop-k-preserved : goal.loop-k-preserved
loop-k-preserved c =
    let places = map (λ (s : Seat). s.place) c.args.machine.now.state.seats in
    more (place_value places) c.args.processes.now c.loop-k.k c.index-processes-k.result c.args.text.now.items
    (omega arith) c.index-processes-k.is c.loop-k.invariant
    (c.in_ok-push_value.ensures
    ∙ ap (λ v. c.loop-k.text.items ++ value_text (codes " p") c.loop-k.k v) c.place.ensures)
