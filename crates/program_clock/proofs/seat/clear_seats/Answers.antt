use Rattle.std.proofs.Common.{◌+◌, ◌<◌, sym, ◌∙◌, ap, subst, map, length, arith}
use Rattle.std.proofs.lemmas.List.{get_or-map, map-set}
use Rattle.mp_base.proofs.Lists.{length_map}
use Rattle.program_clock.specs.declared.seat.Seat.{Seat}
use Rattle.program_clock.specs.Remembered.{seat_of, emptied}
use Rattle.program_clock.proofs.Making.{MadeTo, made_none, made_more, made_all, mapped_at}
use Rattle.program_clock.proofs.Seating.{no_seat}
use Rattle.program_clock.proofs.seat.clear_seats.Goals as goal

pub loop-i-init : goal.loop-i-init
loop-i-init c = made_none (map seat_of c.args.seats.now) (map emptied (map seat_of c.args.seats.now)) no_seat

pub loop-i-preserved : goal.loop-i-preserved
loop-i-preserved c =
    let old = map seat_of c.args.seats.now in
    let i = c.loop-i.i in
    let size = length_map seat_of c.loop-i.seats in
    let many = length_map seat_of c.args.seats.now in
    let inside : i < length old = omega arith in
    let here =
    mapped_at seat_of c.loop-i.seats i c.index-seats-i.result no_seat (omega arith) c.index-seats-i.is
    ∙ c.loop-i.invariant.rest i (omega arith) in
    subst (λ ss. MadeTo ss (map emptied old) old no_seat (i + 1))
    (sym (map-set seat_of c.loop-i.seats i c.clear.new.self))
    (made_more (map seat_of c.loop-i.seats) (map emptied old) old no_seat i (seat_of c.clear.new.self) (omega arith)
    (c.clear.ensures ∙ ap (λ (s : Seat). emptied (seat_of s)) (sym c.index-seats-i.is) ∙ ap emptied here
    ∙ sym (get_or-map emptied old i no_seat no_seat inside)) c.loop-i.invariant)

pub returns : goal.returns
returns c =
    let old = map seat_of c.args.seats.now in
    let size = length_map seat_of c.loop-i.seats in
    let many = length_map seat_of c.args.seats.now in
    let made = length_map emptied old in
    made_all (map seat_of c.loop-i.seats) (map emptied old) old no_seat c.loop-i.i (omega arith)
    (omega arith) c.loop-i.invariant
