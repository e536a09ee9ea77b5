use Rattle.std.proofs.Common.{◌≡◌, ℕ, List, ◌∙◌, ap, length, map, replicate, rules, arith}
use Rattle.std.specs.Vec.{with_items}
use Rattle.std.proofs.lemmas.List.{with_items_is}
use Rattle.mp_program.specs.State.{State, Seat, zero_seat}
use Rattle.program_clock.specs.Remembered.{seat_of, emptied}
use Rattle.program_clock.proofs.Seating.{emptied_seats}
use Rattle.program_clock.proofs.memory.clear.Goals as goal

at : List ℕ → List Seat → State
at ns zs = record { stored = ns; seats = zs }

pub returns : goal.returns
unfolding at
returns c =
    let p = c.args._program.now in
    let v = c.args.memory.now.seats in
    let long : length c.clear_seats.new.seats ≡ v.len = omega arith in
    let seats : map seat_of (with_items v c.clear_seats.new.seats).items ≡ map zero_seat p.processes =
    ap (map seat_of) (with_items_is v c.clear_seats.new.seats long) ∙ c.clear_seats.ensures
    ∙ ap (λ zs. map emptied (map seat_of zs)) c.deref_mut.ensures.value
    ∙ emptied_seats p.processes (map seat_of v.items) c.requires.seats in
    let stored : c.fill.new.self.items ≡ replicate (length p.defs) 0 = search rules in
    ap (λ ns. at ns (map seat_of (with_items v c.clear_seats.new.seats).items)) stored
    ∙ ap (at (replicate (length p.defs) 0)) seats
