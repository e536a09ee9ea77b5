use Rattle.std.proofs.Common.{◌≡◌, ℕ, ◌<◌, ◌≤◌, sym, ◌∙◌, ap, subst, map, length, arith, get_or}
use Rattle.std.specs.Prelude.{slice_index}
use Rattle.std.specs.List.{AllByRecursion}
use Rattle.mp_base.proofs.Lists.{length_map}
use Rattle.mp_program.specs.State.{places_taken}
use Rattle.program_clock.specs.Remembered.{seat_of}
use Rattle.program_clock.proofs.Making.{made_more, made_all, mapped_at}
use Rattle.program_clock.proofs.Seating.{no_seat, IsSeated, seated, taken_at, taken_inside, length-taken}
use Rattle.program_clock.proofs.seats.take_places.Goals as goal
use Rattle.program_clock.proofs.seats.take_places.Goals.{After-process-item, After-index-seats-i}

-- the process whose turn it is, and its seat
turn : (c : After-process-item)
    → IsSeated c.args.program.now.processes (map seat_of c.args.seats.now) c.loop-i.i c.process-item.result
turn c =
    seated c.args.program.now.processes c.as_slice-process-items.result.now (map seat_of c.args.seats.now) c.loop-i.i
    c.process-item.result c.as_slice-process-items.ensures c.loop-i-test.true c.process-item.is c.requires.seats

-- the place of its seat
here : (c : After-index-seats-i) → c.loop-i.i < length (map seat_of c.args.seats.now)
    → c.index-seats-i.result.place ≡ (get_or (map seat_of c.args.seats.now) c.loop-i.i no_seat).place
here c has_seat =
    let many = length_map seat_of c.args.seats.now in
    ap (λ s. s.place)
    (mapped_at seat_of c.args.seats.now c.loop-i.i c.index-seats-i.result no_seat (omega arith) c.index-seats-i.is)

pub bounds-seats-i : goal.bounds-seats-i
bounds-seats-i c =
    let has_seat = (turn (goal.at.bounds-seats-i c).After-process-item).has_seat in
    let many = length_map seat_of c.args.seats.now in
    omega arith

pub bounds-places-i : goal.bounds-places-i
bounds-places-i c =
    let within = (turn (goal.at.bounds-places-i c).After-process-item).within in
    omega arith

pub form_at-requires : goal.form_at-requires
form_at-requires c =
    let t = turn (goal.at.form_at-requires c).After-process-item in
    let place = here (goal.at.form_at-requires c).After-index-seats-i t.has_seat in
    subst (λ (n : ℕ). n < length c.process-item.result.forms) (sym place) t.at_form

pub loop-i-preserved : goal.loop-i-preserved
loop-i-preserved c =
    let qs = c.args.program.now.processes in
    let ss = map seat_of c.args.seats.now in
    let i = c.loop-i.i in
    let q = c.process-item.result in
    let t = turn (goal.at.loop-i-preserved c).After-process-item in
    let within = t.within in
    made_more c.loop-i.places (places_taken qs ss) c.args.places.now 0 i c.form_at.result (omega arith)
    (c.form_at.ensures ∙ ap (slice_index q.forms) (here (goal.at.loop-i-preserved c).After-index-seats-i t.has_seat)
    ∙ sym (taken_at qs ss i q c.requires.seats t.within t.is))
    c.loop-i.invariant

pub returns-clause-taken : goal.returns-clause-taken
returns-clause-taken c =
    let qs = c.args.program.now.processes in
    let ss = map seat_of c.args.seats.now in
    let over : length qs ≤ c.loop-i.i =
    subst (λ xs. length xs ≤ c.loop-i.i) c.as_slice-process-items.ensures c.loop-i-test.false in
    let count = length-taken qs ss c.requires.seats in
    made_all c.loop-i.places (places_taken qs ss) c.args.places.now 0 c.loop-i.i (omega arith)
    (omega arith) c.loop-i.invariant

pub returns-clause-inside : goal.returns-clause-inside
returns-clause-inside c =
    let p = c.args.program.now in
    let ss = map seat_of c.args.seats.now in
    let over : length p.processes ≤ c.loop-i.i =
    subst (λ xs. length xs ≤ c.loop-i.i) c.as_slice-process-items.ensures c.loop-i-test.false in
    let count = length-taken p.processes ss c.requires.seats in
    let same =
    made_all c.loop-i.places (places_taken p.processes ss) c.args.places.now 0 c.loop-i.i (omega arith)
    (omega arith) c.loop-i.invariant in
    subst (AllByRecursion (λ f. f < length p.forms)) (sym same)
    (taken_inside (length p.forms) p.processes ss c.sound.ensures.processes c.requires.seats)
