use Rattle.std.proofs.Common.{◌≡◌, ℕ, ◌+◌, ◌<◌, ◌≤◌, sym, ◌∙◌, ap, subst, map, length, arith, get_or}
use Rattle.std.specs.Prelude.{slice_index}
use Rattle.std.proofs.lemmas.List.{get_or_default, map-set}
use Rattle.mp_base.proofs.Lists.{length_map}
use Rattle.mp_base.proofs.Entries.{place_in}
use Rattle.mp_program.specs.Effects.{effects_of}
use Rattle.mp_program.specs.Step.{next_seats}
use Rattle.program_clock.specs.declared.seat.Seat.{Seat}
use Rattle.form_effects.specs.Linked.{no_process, process_at}
use Rattle.program_clock.specs.Remembered.{seat_of}
use Rattle.program_clock.specs.Moved.{seat_after}
use Rattle.form_effects.specs.Jumps.{jump_from}
use Rattle.program_clock.proofs.Making.{MadeTo, made_more, made_all, mapped_at}
use Rattle.program_clock.proofs.Seating.{no_seat, length-seats, IsSeated, seated, taken_at, length-taken, next_at}
use Rattle.program_clock.proofs.Seating.{length-next, next_seat-jump}
use Rattle.program_clock.proofs.seats.advance_seats.Goals as goal
use Rattle.program_clock.proofs.seats.advance_seats.Goals.{After-process-item, After-index-seats-i}

-- the process whose turn it is, and its seat
turn : (c : After-process-item)
    → IsSeated c.args.program.now.processes (map seat_of c.args.seats.now) c.loop-i.i c.process-item.result
turn c =
    seated c.args.program.now.processes c.as_slice-process-items.result.now (map seat_of c.args.seats.now) c.loop-i.i
    c.process-item.result c.as_slice-process-items.ensures c.loop-i-test.true c.process-item.is c.requires.seats

-- its seat has not moved yet
unmoved : (c : After-index-seats-i) → c.loop-i.i < length (map seat_of c.args.seats.now)
    → seat_of c.index-seats-i.result ≡ get_or (map seat_of c.args.seats.now) c.loop-i.i no_seat
unmoved c has_seat =
    let many = length_map seat_of c.args.seats.now in
    mapped_at seat_of c.loop-i.seats c.loop-i.i c.index-seats-i.result no_seat (omega arith) c.index-seats-i.is
    ∙ c.loop-i.invariant.rest c.loop-i.i (omega arith)

pub bounds-places-i : goal.bounds-places-i
bounds-places-i c =
    let within = (turn (goal.at.bounds-places-i c).After-process-item).within in
    let count = length-taken c.args.program.now.processes (map seat_of c.args.seats.now) c.requires.seats in
    let same = ap length c.requires.placed in
    omega arith

pub jump_of-jump-requires-clause-inside : goal.jump_of-jump-requires-clause-inside
jump_of-jump-requires-clause-inside c =
    let within = (turn (goal.at.jump_of-jump-requires-clause-inside c).After-process-item).within in
    let count = length-taken c.args.program.now.processes (map seat_of c.args.seats.now) c.requires.seats in
    let same = ap length c.requires.placed in
    place_in (length c.args.program.now.forms) c.args.places.now c.loop-i.i c.requires.inside (omega arith)

pub bounds-seats-i : goal.bounds-seats-i
bounds-seats-i c =
    let has_seat = (turn (goal.at.bounds-seats-i c).After-process-item).has_seat in
    let many = length_map seat_of c.args.seats.now in
    omega arith

pub advance-requires-clause-place : goal.advance-requires-clause-place
advance-requires-clause-place c =
    let t = turn (goal.at.advance-requires-clause-place c).After-process-item in
    let here = unmoved (goal.at.advance-requires-clause-place c).After-index-seats-i t.has_seat in
    subst (λ (n : ℕ). n < length c.process-item.result.forms)
    (sym (ap (λ (s : Seat). s.place) (sym c.index-seats-i.is) ∙ ap (λ s. s.place) here)) t.at_form

pub advance-requires-clause-stack : goal.advance-requires-clause-stack
advance-requires-clause-stack c =
    let t = turn (goal.at.advance-requires-clause-stack c).After-process-item in
    ap (λ (s : Seat). length s.stack.items) (sym c.index-seats-i.is)
    ∙ ap (λ s. length s.stack) (unmoved (goal.at.advance-requires-clause-stack c).After-index-seats-i t.has_seat)
    ∙ t.deep

pub loop-i-preserved : goal.loop-i-preserved
loop-i-preserved c =
    let p = c.args.program.now in
    let env = c.args.env.now in
    let qs = p.processes in
    let ss = map seat_of c.args.seats.now in
    let i = c.loop-i.i in
    let q = c.process-item.result in
    let s = get_or ss i no_seat in
    let t = turn (goal.at.loop-i-preserved c).After-process-item in
    let here = unmoved (goal.at.loop-i-preserved c).After-index-seats-i t.has_seat in
    let has_seat = t.has_seat in
    let many = length_map seat_of c.args.seats.now in
    let size = length_map seat_of c.loop-i.seats in
    let form : get_or c.args.places.now i 0 ≡ slice_index q.forms s.place =
    ap (λ fs. get_or fs i 0) c.requires.placed ∙ taken_at qs ss i q c.requires.seats t.within t.is in
    let mine : process_at p i ≡ q = get_or_default p.processes i no_process q t.within ∙ sym t.is in
    let jump =
    c.jump_of-jump.ensures ∙ ap (λ z. jump_from z (effects_of p env (get_or c.args.places.now i 0))) mine
    ∙ ap (λ f. jump_from q (effects_of p env f)) form in
    subst (λ zs. MadeTo zs (next_seats p env qs ss) ss no_seat (i + 1))
    (sym (map-set seat_of c.loop-i.seats i c.advance.new.self))
    (made_more (map seat_of c.loop-i.seats) (next_seats p env qs ss) ss no_seat i (seat_of c.advance.new.self)
    (omega arith)
    (c.advance.ensures
    ∙ ap (λ (z : Seat). seat_after q (seat_of z) c.jump_of-jump.result) (sym c.index-seats-i.is)
    ∙ ap (λ z. seat_after q z c.jump_of-jump.result) here
    ∙ ap (seat_after q s) jump
    ∙ next_seat-jump q s (effects_of p env (slice_index q.forms s.place))
    ∙ sym (next_at p env qs ss i q c.requires.seats t.within t.is)) c.loop-i.invariant)

pub returns : goal.returns
returns c =
    let p = c.args.program.now in
    let ss = map seat_of c.args.seats.now in
    let over : length p.processes ≤ c.loop-i.i =
    subst (λ xs. length xs ≤ c.loop-i.i) c.as_slice-process-items.ensures c.loop-i-test.false in
    let count = length-seats p.processes ss c.requires.seats in
    let next = length-next p c.args.env.now p.processes ss c.requires.seats in
    let many = length_map seat_of c.args.seats.now in
    let size = length_map seat_of c.loop-i.seats in
    made_all (map seat_of c.loop-i.seats) (next_seats p c.args.env.now p.processes ss) ss no_seat c.loop-i.i
    (omega arith) (omega arith) c.loop-i.invariant
