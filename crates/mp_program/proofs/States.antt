-- The next state is a state, and a trace is unique.
use Rattle.std.proofs.Common.{◌≡◌, ℕ, zero, suc, ◌+◌, ◌<◌, ◌≤◌, List, [], ◌∷◌, ◌++◌, Bool, true, false, cond, refl, sym}
use Rattle.std.proofs.Common.{◌∙◌, ap, subst, length, take, drop, arith}
use Rattle.std.specs.Prelude.{nat_lt, slice_index, if◌then◌else◌}
use Rattle.std.specs.List.{AllByRecursion}
use Rattle.std.proofs.lemmas.Bool.{ltb-true}
use Rattle.mp_base.proofs.Induction.{by_test}
use Rattle.mp_program.specs.declared.program.Def.{Def}
use Rattle.mp_program.specs.declared.program.Label.{Label}
use Rattle.mp_program.specs.declared.program.Process.{Process}
use Rattle.mp_program.specs.declared.program.Program.{Program}
use Rattle.mp_program.specs.Names.{is_same}
use Rattle.mp_program.specs.Effects.{Effect, Writes, Goes, Calls, Returns, effects_of}
use Rattle.mp_program.specs.State.{Seat, State, SeatsFit, IsState, zero_state}
use Rattle.mp_program.specs.Environment.{clock_effects}
use Rattle.mp_program.specs.Step.{next_stored, wrapped, place_of_label, next_seat, next_seats, next_state, outputs_of}
use Rattle.mp_program.specs.Step.{resets}
use Rattle.mp_program.specs.Trace.{IsTraceFrom}
use Rattle.mp_program.specs.Reads.{IsOrder}
use Rattle.mp_program.proofs.Soundness.{sound}
use Rattle.mp_program.proofs.Environment.{one_environment}

pub length-next_stored : (es : List Effect) (d : ℕ) (xs : List Def) (stored : List ℕ)
    → length (next_stored es d xs stored) ≡ length xs
length-next_stored es d [] stored = refl
length-next_stored es d (x ∷ xs) stored = ap suc (length-next_stored es (suc d) xs stored)

-- a seat of a process
abbrev SeatFits : Process → Seat → Type 0
SeatFits q s =
    (s.place < length q.forms) × (length s.stack ≡ q.depth) × AllByRecursion (λ k. k < length q.forms) s.stack

wrapped_inside : (q : Process) (k : ℕ) → 0 < length q.forms → wrapped q k < length q.forms
wrapped_inside q k some =
    by_test (nat_lt k (length q.forms))
    (λ yes. subst (λ b. cond b k 0 < length q.forms) (sym yes) (ltb-true k (length q.forms) yes))
    (λ other. subst (λ b. cond b k 0 < length q.forms) (sym other) some)

label_inside : (q : Process) (ls : List Label) (l : List ℕ) → 0 < length q.forms
    → place_of_label q ls l < length q.forms
label_inside q [] l some = some
label_inside q (x ∷ xs) l some =
    chosen (is_same x.name l) _ _ (wrapped_inside q x.before some) (label_inside q xs l some)
  where
    chosen : (b : Bool) (m n : ℕ) → m < length q.forms → n < length q.forms → cond b m n < length q.forms
    chosen true m n h k = h
    chosen false m n h k = k

all_take : (P : ℕ → Type 0) (n : ℕ) (xs : List ℕ) → AllByRecursion P xs → AllByRecursion P (take n xs)
all_take P zero xs h = tt
all_take P (suc n) [] h = tt
all_take P (suc n) (x ∷ xs) h = (h.0, all_take P n xs h.1)

length_take : (n : ℕ) (xs : List ℕ) → n ≤ length xs → length (take n xs) ≡ n
length_take zero xs h = refl
length_take (suc n) [] h = absurd (omega arith)
length_take (suc n) (x ∷ xs) h = ap suc (length_take n xs (omega (arith, h)))

-- a stack after its front is taken off
popped_all : (P : ℕ → Type 0) (xs : List ℕ) → P 0 → AllByRecursion P xs → AllByRecursion P (drop 1 xs ++ 0 ∷ [])
popped_all P [] zero_fits h = (zero_fits, tt)
popped_all P (x ∷ xs) zero_fits h = end xs h.1
  where
    end : (ys : List ℕ) → AllByRecursion P ys → AllByRecursion P (ys ++ 0 ∷ [])
    end [] k = (zero_fits, tt)
    end (y ∷ ys) k = (k.0, end ys k.1)

popped_length : (xs : List ℕ) → length xs ≤ length (drop 1 xs ++ 0 ∷ [])
popped_length [] = omega arith
popped_length (x ∷ xs) = end xs
  where
    end : (ys : List ℕ) → suc (length ys) ≤ length (ys ++ 0 ∷ [])
    end [] = omega arith
    end (y ∷ ys) = let k = end ys in omega (arith, k)

front_inside : (n : ℕ) (xs : List ℕ) → 0 < n → AllByRecursion (λ k. k < n) xs → slice_index xs 0 < n
front_inside n [] some h = some
front_inside n (x ∷ xs) some h = h.0

seat_kept : (q : Process) (s : Seat) (es : List Effect) → SeatFits q s → SeatFits q (next_seat q s es)
seat_kept q s [] fits = (wrapped_inside q (s.place + 1) (omega (arith, fits.0)), fits.1, fits.2)
seat_kept q s (Writes x v ∷ es) fits = seat_kept q s es fits
seat_kept q s (Goes l ∷ es) fits = (label_inside q q.labels l (omega (arith, fits.0)), fits.1, fits.2)
seat_kept q s (Calls l ∷ es) fits =
    let some : 0 < length q.forms = omega (arith, fits.0) in (
      label_inside q q.labels l some,
      length_take q.depth (wrapped q (s.place + 1) ∷ s.stack) (omega (arith, fits.1)),
      all_take (λ k. k < length q.forms) q.depth (wrapped q (s.place + 1) ∷ s.stack)
          (wrapped_inside q (s.place + 1) some, fits.2),
    )
seat_kept q s (Returns ∷ es) fits =
    let some : 0 < length q.forms = omega (arith, fits.0) in (
      front_inside (length q.forms) s.stack some fits.2,
      length_take q.depth (drop 1 s.stack ++ 0 ∷ []) (omega (arith, fits.1, popped_length s.stack)),
      all_take (λ k. k < length q.forms) q.depth (drop 1 s.stack ++ 0 ∷ [])
          (popped_all (λ k. k < length q.forms) s.stack some fits.2),
    )

seats_kept : (p : Program) (env : List ℕ) (qs : List Process) (ss : List Seat) → SeatsFit qs ss
    → SeatsFit qs (next_seats p env qs ss)
seats_kept p env [] [] fits = tt
seats_kept p env [] (s ∷ ss) fits = tt
seats_kept p env (q ∷ qs) [] fits = fits
seats_kept p env (q ∷ qs) (s ∷ ss) fits =
    let here = seat_kept q s (effects_of p env (slice_index q.forms s.place)) (fits.0, fits.1, fits.2) in
    (here.0, here.1, here.2, seats_kept p env qs ss fits.3)

-- the next state is a state, where the zero state is one
pub state_kept : (p : Program) (st : State) (inputs env : List ℕ) → IsState p (zero_state p) → IsState p st
    → IsState p (next_state p st inputs env)
state_kept p st inputs env start fits =
    chosen (resets p.defs inputs)
    (record {
      stored = next_stored (clock_effects p st env) 0 p.defs st.stored;
      seats = next_seats p env p.processes st.seats;
    })
    (record {
      size = length-next_stored (clock_effects p st env) 0 p.defs st.stored;
      seats = seats_kept p env p.processes st.seats fits.seats;
    })
  where
    chosen : (b : Bool) (st' : State) → IsState p st' → IsState p (if b then zero_state p else st')
    chosen true st' h = start
    chosen false st' h = h

-- from a state, the same inputs show the same outputs
pub one_trace_from : (p : Program) (order : List ℕ) → IsOrder p order → IsState p (zero_state p)
    → (inputs : List (List ℕ)) (st : State) (a b : List (List ℕ))
    → IsState p st → IsTraceFrom p st inputs a → IsTraceFrom p st inputs b → a ≡ b
one_trace_from p order ordered start [] st [] [] fits s t = refl
one_trace_from p order ordered start [] st [] (y ∷ b) fits s t = absurd t
one_trace_from p order ordered start [] st (x ∷ a) b fits s t = absurd s
one_trace_from p order ordered start (i ∷ is) st [] b fits s t = absurd s
one_trace_from p order ordered start (i ∷ is) st (x ∷ a) [] fits s t = absurd t
one_trace_from p order ordered start (i ∷ is) st (x ∷ a) (y ∷ b) fits (after, clock, rest) (after', clock', rest') =
    let same : clock.env ≡ clock'.env =
    one_environment p st i order clock.env clock'.env (sound p) fits ordered clock.environment clock'.environment in
    let shown : x ≡ y = clock.shown ∙ ap (outputs_of p.defs) same ∙ sym clock'.shown in
    let next : after' ≡ after = clock'.next ∙ ap (next_state p st i) (sym same) ∙ sym clock.next in
    let kept : IsState p after = subst (IsState p) (sym clock.next) (state_kept p st i clock.env start fits) in
    ap (λ z. z ∷ a) shown
    ∙ ap (λ zs. y ∷ zs)
    (one_trace_from p order ordered start is after a b kept rest (subst (λ z. IsTraceFrom p z is b) next rest'))
