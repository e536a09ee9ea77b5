-- There is at most one environment, given an order.
use Rattle.std.proofs.Common.{◌≡◌, ℕ, zero, suc, ◌<◌, List, [], ◌∷◌, ◌++◌, Bool, true, false, refl, sym, ◌∙◌, ap}
use Rattle.std.proofs.Common.{subst, inl, inr, length, arith}
use Rattle.std.specs.Prelude.{slice_index, slice_get, Some, unwrap_or, ◌||◌}
use Rattle.std.specs.List.{list_any, flat_map, AllByRecursion}
use Rattle.std.proofs.lemmas.Bool.{cases_lt, or_left, or_right}
use Rattle.std.proofs.lemmas.List.{get_or_past}
use Rattle.std.proofs.lemmas.List.Folds.{list_any-append}
use Rattle.std.proofs.lemmas.Grind.{same_number_lists}
use Rattle.mp_program.specs.declared.program.Def.{Def}
use Rattle.mp_program.specs.declared.program.Process.{Process}
use Rattle.mp_program.specs.declared.program.Program.{Program}
use Rattle.mp_program.specs.Sound.{IsSound}
use Rattle.mp_program.specs.State.{SeatsFit, IsState, Seat, State, active, places_taken}
use Rattle.mp_program.specs.Names.{index_of, is_driven, pad_number}
use Rattle.mp_program.specs.Effects.{effects_of, written}
use Rattle.mp_program.specs.Environment.{clock_effects, what_value, driven_value, IsEnvironment}
use Rattle.mp_base.specs.Merge.{merged}
use Rattle.mp_base.proofs.Entries.{place_in, some_entry, read_of}
use Rattle.mp_base.proofs.Induction.{upward, by_test}
use Rattle.mp_program.specs.Reads.{form_reads, process_roots, roots, Reads, IsOrder}
use Rattle.mp_program.proofs.Definitions.{named, what_value-given}
use Rattle.mp_program.proofs.Values.{Agrees}
use Rattle.mp_program.proofs.Effects.{written-append, writes_agree}

-- ---- the clock's writes

roots_agree : (p : Program) (env env' x : List ℕ) → IsSound p → (fs : List ℕ)
    → AllByRecursion (λ i. i < length p.forms) fs
    → ((n : List ℕ) → list_any (form_reads p x n) fs ≡ true → Agrees p env env' n)
    → written x (flat_map (effects_of p env) fs) ≡ written x (flat_map (effects_of p env') fs)
roots_agree p env env' x sound [] fit same = refl
roots_agree p env env' x sound (f ∷ fs) fit same =
    written-append x (effects_of p env f) (flat_map (effects_of p env) fs)
    ∙ ap (λ y. y ++ written x (flat_map (effects_of p env) fs))
    (writes_agree p env env' x sound f fit.0 (λ n h. same n (or_left _ _ h)))
    ∙ ap (λ y. written x (effects_of p env' f) ++ y)
    (roots_agree p env env' x sound fs fit.1 (λ n h. same n (or_right (form_reads p x n f) _ h)))
    ∙ sym (written-append x (effects_of p env' f) (flat_map (effects_of p env') fs))

any_at : (test : ℕ → Bool) (fs : List ℕ) (k : ℕ) → k < length fs → test (slice_index fs k) ≡ true
    → list_any test fs ≡ true
any_at test [] k lt h = absurd (omega (arith, lt))
any_at test (f ∷ fs) zero lt h = or_left _ _ h
any_at test (f ∷ fs) (suc k) lt h = or_right (test f) _ (any_at test fs k (omega (arith, lt)) h)

any_append : (test : ℕ → Bool) (xs ys : List ℕ) → list_any test ys ≡ true → list_any test (xs ++ ys) ≡ true
any_append test [] ys h = h
any_append test (x ∷ xs) ys h = or_right (test x) _ (any_append test xs ys h)

any_front : (test : ℕ → Bool) (xs ys : List ℕ) → list_any test xs ≡ true → list_any test (xs ++ ys) ≡ true
any_front test xs ys h = list_any-append test xs ys ∙ or_left _ _ h

-- an active form is a top-level form
active_any : (p : Program) (st : State) (test : ℕ → Bool) → IsState p st → list_any test (active p st) ≡ true
    → list_any test (roots p) ≡ true
active_any p st test fits h =
    by_test (list_any test p.always)
    (λ y. any_front test p.always (process_roots p.processes) y)
    (λ n. any_append test p.always (process_roots p.processes)
    (taken_any p.processes st.seats fits.seats
    (ap (λ b. b || list_any test (places_taken p.processes st.seats)) (sym n)
    ∙ sym (list_any-append test p.always (places_taken p.processes st.seats)) ∙ h)))
  where
    taken_any : (qs : List Process) (ss : List Seat) → SeatsFit qs ss → list_any test (places_taken qs ss) ≡ true
        → list_any test (process_roots qs) ≡ true
    taken_any [] ss fit h = h
    taken_any (q ∷ qs) [] fit h = absurd (cc)
    taken_any (q ∷ qs) (s ∷ ss) fit h =
        by_test (test (slice_index q.forms s.place))
        (λ y. any_front test q.forms (process_roots qs) (any_at test q.forms s.place fit.0 y))
        (λ n. any_append test q.forms (process_roots qs)
        (taken_any qs ss fit.3 (ap (λ b. b || list_any test (places_taken qs ss)) (sym n) ∙ h)))

-- active forms are forms of the program
pub active_inside : (p : Program) (st : State) → IsSound p → IsState p st
    → AllByRecursion (λ i. i < length p.forms) (active p st)
active_inside p st sound fits = both p.always sound.always
  where
    taken_inside : (qs : List Process) (ss : List Seat)
        → AllByRecursion (λ (q : Process). AllByRecursion (λ i. i < length p.forms) q.forms) qs → SeatsFit qs ss
        → AllByRecursion (λ i. i < length p.forms) (places_taken qs ss)
    taken_inside [] ss fit seats = tt
    taken_inside (q ∷ qs) [] fit seats = tt
    taken_inside (q ∷ qs) (s ∷ ss) fit seats =
        (place_in (length p.forms) q.forms s.place fit.0 seats.0, taken_inside qs ss fit.1 seats.3)

    both : (fs : List ℕ) → AllByRecursion (λ i. i < length p.forms) fs
        → AllByRecursion (λ i. i < length p.forms) (fs ++ places_taken p.processes st.seats)
    both [] fit = taken_inside p.processes st.seats sound.processes fits.seats
    both (f ∷ fs) fit = (fit.0, both fs fit.1)

-- what a clock writes to x depends on what x reads alone
pub clock_agrees : (p : Program) (st : State) (env env' x : List ℕ) → IsSound p → IsState p st
    → ((n : List ℕ) → list_any (form_reads p x n) (roots p) ≡ true → Agrees p env env' n)
    → written x (clock_effects p st env) ≡ written x (clock_effects p st env')
clock_agrees p st env env' x sound fits same =
    roots_agree p env env' x sound (active p st) (active_inside p st sound fits)
    (λ n h. same n (active_any p st (form_reads p x n) fits h))

-- ---- one environment

-- what is driven to a definition depends on what it reads and on what is not driven
pub driven_agrees : (p : Program) (st : State) (env env' : List ℕ) (a : ℕ) (x : Def) → IsSound p → IsState p st
    → length env ≡ length p.defs → length env' ≡ length p.defs
    → slice_get p.defs a ≡ Some x → is_driven x.what ≡ true
    → ((b : ℕ) (y : Def) → slice_get p.defs b ≡ Some y → is_driven y.what ≡ false
    → slice_index env b ≡ slice_index env' b)
    → ((b : ℕ) → Reads p a b → slice_index env b ≡ slice_index env' b)
    → driven_value p st env x ≡ driven_value p st env' x
driven_agrees p st env env' a x sound fits size size' at driven given read =
    ap (λ ws. unwrap_or (merged ws) 0) (clock_agrees p st env env' x.name sound fits same)
  where
    same : (n : List ℕ) → list_any (form_reads p x.name n) (roots p) ≡ true → Agrees p env env' n
    same n h =
        elim (cases_lt (index_of p.defs n) (length p.defs)) [
          | inl there ↦
              let y = some_entry p.defs (index_of p.defs n) there in
              let named_at = named p.defs n y.0 there (read_of p.defs (index_of p.defs n) y.0 y.1).1 in
              by_test (is_driven (y.0).what)
              (λ d. read (index_of p.defs n) (
                x,
                y.0,
                at,
                y.1,
                driven,
                d,
                subst
                    (λ m. list_any (form_reads p x.name m) (roots p) ≡ true) (sym named_at) h,
              ))
              (λ d. given (index_of p.defs n) y.0 y.1 d)
          | inr past ↦ get_or_past env (index_of p.defs n) 0 (omega (arith, size, past))
              ∙ sym (get_or_past env' (index_of p.defs n) 0 (omega (arith, size', past)))
        ]

module _ (p : Program) (st : State) (inputs order env env' : List ℕ) (sound : IsSound p) (fits : IsState p st)
    (ordered : IsOrder p order)
    (one : IsEnvironment p st inputs env) (two : IsEnvironment p st inputs env') where
  given_same : (d : ℕ) (x : Def) → slice_get p.defs d ≡ Some x → is_driven x.what ≡ false
      → slice_index env d ≡ slice_index env' d
  given_same d x at h =
      one.values d x at
      ∙ what_value-given x.what (slice_index st.stored d) (slice_index inputs (pad_number p.defs d))
      (driven_value p st env x) (driven_value p st env' x) h
      ∙ sym (two.values d x at)

  SameAt : ℕ → Type 0
  SameAt k = k < length order → slice_index env (slice_index order k) ≡ slice_index env' (slice_index order k)

  order_same : (k : ℕ) → SameAt k
  unfolding SameAt
  order_same = upward SameAt (λ k below lt.
      let t = ordered.driven k lt in
      one.values (slice_index order k) t.0 t.1
      ∙ ap (what_value (t.0).what (slice_index st.stored (slice_index order k))
      (slice_index inputs (pad_number p.defs (slice_index order k))))
      (driven_agrees p st env env' (slice_index order k) t.0 sound fits one.size two.size t.1 t.2 given_same
      (λ b reads. let found = ordered.after k b lt reads in
      subst (λ m. slice_index env m ≡ slice_index env' m) found.2 (below found.0 found.1 (omega (arith, lt, found.1)))))
      ∙ sym (two.values (slice_index order k) t.0 t.1))

  -- two environments are equal
  pub one_environment : env ≡ env'
  unfolding SameAt
  one_environment = same_number_lists env env' (one.size ∙ sym two.size) (λ d lt.
      let inside : d < length p.defs = omega (arith, one.size, lt) in
      let x = some_entry p.defs d inside in
      by_test (is_driven (x.0).what)
      (λ h. let found = ordered.all d x.0 x.1 h in
      subst (λ m. slice_index env m ≡ slice_index env' m) found.2 (order_same found.0 found.1))
      (λ h. given_same d x.0 x.1 h))
