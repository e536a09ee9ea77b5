-- Seats, process by process.
use Rattle.std.proofs.Common.{◌≡◌, ℕ, zero, suc, ◌+◌, ◌<◌, ◌≤◌, List, [], ◌∷◌, ◌++◌, refl, sym, ◌∙◌, ap, subst, length}
use Rattle.std.proofs.Common.{map, take, drop, replicate, arith, get_or}
use Rattle.std.specs.Prelude.{slice_index}
use Rattle.std.specs.List.{AllByRecursion}
use Rattle.std.proofs.lemmas.List.{length-take-le}
use Rattle.std.proofs.lemmas.Grind.{same_number_lists}
use Rattle.mp_base.proofs.Entries.{place_in}
use Rattle.mp_program.specs.declared.program.Process.{Process}
use Rattle.mp_program.specs.declared.program.Program.{Program}
use Rattle.mp_program.specs.Effects.{Effect, Writes, Goes, Calls, Returns, effects_of}
use Rattle.mp_program.specs.State.{Seat, SeatsFit, zero_seat, places_taken}
use Rattle.mp_program.specs.Step.{next_seat, next_seats}
use Rattle.form_effects.specs.Jumps.{jump_from}
use Rattle.program_clock.specs.Moved.{seat_after}
use Rattle.program_clock.specs.Remembered.{emptied}

-- the next seat is that after the first jump
pub next_seat-jump : (q : Process) (s : Seat) (es : List Effect) → seat_after q s (jump_from q es) ≡ next_seat q s es
next_seat-jump q s [] = refl
next_seat-jump q s (Writes x v ∷ es) = next_seat-jump q s es
next_seat-jump q s (Goes l ∷ es) = refl
next_seat-jump q s (Calls l ∷ es) = refl
next_seat-jump q s (Returns ∷ es) = refl

-- what stands past the last seat
abbrev pub no_seat : Seat
no_seat = record { place = 0; stack = [] }

pub length-seats : (qs : List Process) (ss : List Seat) → SeatsFit qs ss → length ss ≡ length qs
length-seats [] [] fit = refl
length-seats [] (s ∷ ss) fit = absurd fit
length-seats (q ∷ qs) [] fit = absurd fit
length-seats (q ∷ qs) (s ∷ ss) fit = ap suc (length-seats qs ss fit.3)

-- the seat of a process
pub seat_at : (qs : List Process) (ss : List Seat) (k : ℕ) (q : Process) → SeatsFit qs ss → k < length qs
    → q ≡ get_or qs k q
    → ((get_or ss k no_seat).place < length q.forms) × (length (get_or ss k no_seat).stack ≡ q.depth)
seat_at [] ss k q fit lt is = absurd (omega (arith, lt))
seat_at (y ∷ qs) [] k q fit lt is = absurd fit
seat_at (y ∷ qs) (s ∷ ss) zero q fit lt is =
    subst (λ (z : Process). (s.place < length z.forms) × (length s.stack ≡ z.depth)) (sym is) (fit.0, fit.1)
seat_at (y ∷ qs) (s ∷ ss) (suc k) q fit lt is = seat_at qs ss k q fit.3 (omega (arith, lt)) is

-- a process and its seat, where both stand at one place
pub record IsSeated (qs : List Process) (ss : List Seat) (k : ℕ) (q : Process) : Type 0 where
  pub within : k < length qs
  pub is : q ≡ get_or qs k q
  pub has_seat : k < length ss
  pub at_form : (get_or ss k no_seat).place < length q.forms
  pub deep : length (get_or ss k no_seat).stack ≡ q.depth

pub seated : (qs xs : List Process) (ss : List Seat) (k : ℕ) (q : Process) → xs ≡ qs → k < length xs → q ≡ get_or xs k q
    → SeatsFit qs ss → IsSeated qs ss k q
seated qs xs ss k q same lt is fit =
    let within : k < length qs = subst (λ zs. k < length zs) same lt in
    let here : q ≡ get_or qs k q = subst (λ zs. q ≡ get_or zs k q) same is in
    let at = seat_at qs ss k q fit within here in
    let count = length-seats qs ss fit in
    record { within = within; is = here; has_seat = omega (arith, within, count); at_form = at.0; deep = at.1 }

pub taken_at : (qs : List Process) (ss : List Seat) (k : ℕ) (q : Process) → SeatsFit qs ss → k < length qs
    → q ≡ get_or qs k q
    → get_or (places_taken qs ss) k 0 ≡ slice_index q.forms (get_or ss k no_seat).place
taken_at [] ss k q fit lt is = absurd (omega (arith, lt))
taken_at (y ∷ qs) [] k q fit lt is = absurd fit
taken_at (y ∷ qs) (s ∷ ss) zero q fit lt is = ap (λ (z : Process). slice_index z.forms s.place) (sym is)
taken_at (y ∷ qs) (s ∷ ss) (suc k) q fit lt is = taken_at qs ss k q fit.3 (omega (arith, lt)) is

pub length-taken : (qs : List Process) (ss : List Seat) → SeatsFit qs ss → length (places_taken qs ss) ≡ length qs
length-taken [] ss fit = refl
length-taken (q ∷ qs) [] fit = absurd fit
length-taken (q ∷ qs) (s ∷ ss) fit = ap suc (length-taken qs ss fit.3)

pub taken_inside : (n : ℕ) (qs : List Process) (ss : List Seat)
    → AllByRecursion (λ (q : Process). AllByRecursion (λ f. f < n) q.forms) qs → SeatsFit qs ss
    → AllByRecursion (λ f. f < n) (places_taken qs ss)
taken_inside n [] ss fit seats = tt
taken_inside n (q ∷ qs) [] fit seats = tt
taken_inside n (q ∷ qs) (s ∷ ss) fit seats =
    (place_in n q.forms s.place fit.0 seats.0, taken_inside n qs ss fit.1 seats.3)

pub next_at : (p : Program) (env : List ℕ) (qs : List Process) (ss : List Seat) (k : ℕ) (q : Process) → SeatsFit qs ss
    → k < length qs → q ≡ get_or qs k q
    → get_or (next_seats p env qs ss) k no_seat
    ≡ next_seat q (get_or ss k no_seat) (effects_of p env (slice_index q.forms (get_or ss k no_seat).place))
next_at p env [] ss k q fit lt is = absurd (omega (arith, lt))
next_at p env (y ∷ qs) [] k q fit lt is = absurd fit
next_at p env (y ∷ qs) (s ∷ ss) zero q fit lt is =
    ap (λ (z : Process). next_seat z s (effects_of p env (slice_index z.forms s.place))) (sym is)
next_at p env (y ∷ qs) (s ∷ ss) (suc k) q fit lt is = next_at p env qs ss k q fit.3 (omega (arith, lt)) is

pub length-next : (p : Program) (env : List ℕ) (qs : List Process) (ss : List Seat) → SeatsFit qs ss
    → length (next_seats p env qs ss) ≡ length ss
length-next p env [] [] fit = refl
length-next p env [] (s ∷ ss) fit = absurd fit
length-next p env (q ∷ qs) [] fit = absurd fit
length-next p env (q ∷ qs) (s ∷ ss) fit = ap suc (length-next p env qs ss fit.3)

pub emptied_seats : (qs : List Process) (ss : List Seat) → SeatsFit qs ss → map emptied ss ≡ map zero_seat qs
emptied_seats [] [] fit = refl
emptied_seats [] (s ∷ ss) fit = absurd fit
emptied_seats (q ∷ qs) [] fit = absurd fit
emptied_seats (q ∷ qs) (s ∷ ss) fit =
    ap (λ n. record { place = 0; stack = replicate n 0 } ∷ map emptied ss) fit.1
    ∙ ap (λ zs. zero_seat q ∷ zs) (emptied_seats qs ss fit.3)

-- a stack after its front is taken off
pub popped : (old now : List ℕ) → length now ≡ length old
    → ((k : ℕ) → k < length old → get_or now k 0 ≡ get_or old (k + 1) 0)
    → now ≡ take (length old) (drop 1 old ++ 0 ∷ [])
popped [] now size same = same_number_lists now [] size (λ k lt. absurd (omega (arith, lt, size)))
popped (x ∷ xs) now size same =
    same_number_lists now (take (suc (length xs)) (xs ++ 0 ∷ []))
    (size ∙ sym (length-take-le (suc (length xs)) (xs ++ 0 ∷ []) (long xs)))
    (λ k lt. let e : k + 1 ≡ suc k = omega arith in
    same k (omega (arith, lt, size)) ∙ ap (λ j. get_or (x ∷ xs) j 0) e ∙ sym (end xs k)
    ∙ sym (front (suc (length xs)) (xs ++ 0 ∷ []) k (omega (arith, lt, size))))
  where
    long : (ys : List ℕ) → suc (length ys) ≤ length (ys ++ 0 ∷ [])
    long [] = omega arith
    long (y ∷ ys) = let k = long ys in omega (arith, k)

    end : (ys : List ℕ) (k : ℕ) → get_or (ys ++ 0 ∷ []) k 0 ≡ get_or ys k 0
    end [] zero = refl
    end [] (suc k) = refl
    end (y ∷ ys) zero = refl
    end (y ∷ ys) (suc k) = end ys k

    front : (m : ℕ) (ys : List ℕ) (k : ℕ) → k < m → get_or (take m ys) k 0 ≡ get_or ys k 0
    front zero ys k lt = absurd (omega (arith, lt))
    front (suc m) [] k lt = refl
    front (suc m) (y ∷ ys) zero lt = refl
    front (suc m) (y ∷ ys) (suc k) lt = front m ys k (omega (arith, lt))
