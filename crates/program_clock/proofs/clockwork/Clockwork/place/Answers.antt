use Rattle.std.proofs.Common.{◌≡◌, ◌∙◌, ℕ, List, length, map, refl, sym, ap, subst, Some, slice_get, slice_index}
use Rattle.std.specs.Option.{option_map}
use Rattle.std.proofs.lemmas.Option.{get_or_from_slice_get, slice_get-map, slice_get_read}
use Rattle.std.proofs.lemmas.Bool.{ltb-true}
use Rattle.mp_program.specs.State as states
use Rattle.program_clock.specs.declared.seat.Seat.{Seat}
use Rattle.program_clock.specs.Remembered.{seat_of}
use Rattle.program_clock.specs.Running.{Running}
use Rattle.program_clock.proofs.clockwork.Clockwork.place.Goals as goal

place_at : (seats : List Seat) (k : ℕ) (s : Seat) → slice_get seats k ≡ Some s
    → s.place ≡ slice_index (map (λ (t : states.Seat). t.place) (map seat_of seats)) k
place_at seats k s e =
    let place : states.Seat → ℕ = λ t. t.place in
    sym (get_or_from_slice_get (map place (map seat_of seats)) k s.place 0
    (slice_get-map place (map seat_of seats) k
    ∙ ap (option_map place) (slice_get-map seat_of seats k ∙ ap (option_map seat_of) e)))

pub returns-in-Some : goal.returns-in-Some
returns-in-Some c =
    let s = c.in-Some.seat.now in
    let e : slice_get c.self.inside.memory.seats.items c.args.process ≡ Some s =
    subst (λ xs. slice_get xs c.args.process ≡ Some s) c.deref.ensures.value
    (slice_get_read c.deref.result.now (length c.deref.result.now) c.args.process s refl
    (ltb-true c.args.process (length c.deref.result.now) (sym (c.in-Some.ensures.lookup.0)))
    (c.in-Some.ensures.lookup.1)) in
    let P : Running → Type 0 =
    λ r. s.place ≡ slice_index (map (λ (t : states.Seat). t.place) (r.state).seats) c.args.process in
    subst P c.self.view_is (place_at c.self.inside.memory.seats.items c.args.process s e)
