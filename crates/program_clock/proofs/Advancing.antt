-- The next value of each definition.
use Rattle.std.proofs.Common.{◌≡◌, ℕ, zero, suc, ◌+◌, ◌<◌, ◌≤◌, List, [], ◌∷◌, Bool, Option, cond, sym, ◌∙◌, ap, subst}
use Rattle.std.proofs.Common.{true, false, length, replicate, arith, get_or}
use Rattle.std.specs.Prelude.{slice_set as set, slice_get, Some, unwrap_or}
use Rattle.std.proofs.lemmas.Grind.{same_number_lists}
use Rattle.mp_base.specs.Merge.{merged}
use Rattle.mp_base.proofs.Entries.{some_entry, zeros_at, read_of, entry}
use Rattle.mp_base.proofs.Induction.{by_test}
use Rattle.mp_program.specs.declared.program.Def.{Def}
use Rattle.mp_program.specs.declared.program.Program.{Program}
use Rattle.mp_program.specs.Names.{is_stored}
use Rattle.mp_program.specs.Effects.{Effect, written}
use Rattle.mp_program.specs.Environment.{clock_effects}
use Rattle.mp_program.specs.State.{State, zero_state}
use Rattle.mp_program.specs.Step.{next_seats, next_stored, next_state, resets}
use Rattle.mp_program.proofs.States.{length-next_stored}
use Rattle.form_effects.specs.Linked.{indices_where}
use Rattle.program_clock.specs.Settled.{IsBare}
use Rattle.program_clock.proofs.KindValues.{stored_value}
use Rattle.program_clock.proofs.Placing.{WrittenTo, place_of, nth_of, written_more, written_all}

next_at-from : (es : List Effect) (d : ℕ) (xs : List Def) (old : List ℕ) (k : ℕ) (x : Def) → k < length xs
    → x ≡ get_or xs k x
    → get_or (next_stored es d xs old) k 0
    ≡ cond (is_stored x.what) (unwrap_or (merged (written x.name es)) (get_or old (d + k) 0)) 0
next_at-from es d [] old k x lt is = absurd (omega (arith, lt))
next_at-from es d (y ∷ ys) old zero x lt is =
    let e : d ≡ d + 0 = omega arith in
    ap (λ (z : Def). cond (is_stored z.what) (unwrap_or (merged (written z.name es)) (get_or old d 0)) 0) (sym is)
    ∙ ap (λ j. cond (is_stored x.what) (unwrap_or (merged (written x.name es)) (get_or old j 0)) 0) e
next_at-from es d (y ∷ ys) old (suc k) x lt is =
    let e : suc d + k ≡ d + suc k = omega arith in
    next_at-from es (suc d) ys old k x (omega (arith, lt)) is
    ∙ ap (λ j. cond (is_stored x.what) (unwrap_or (merged (written x.name es)) (get_or old j 0)) 0) e

pub next_at : (es : List Effect) (xs : List Def) (old : List ℕ) (k : ℕ) (x : Def) → k < length xs → x ≡ get_or xs k x
    → get_or (next_stored es 0 xs old) k 0
    ≡ cond (is_stored x.what) (unwrap_or (merged (written x.name es)) (get_or old k 0)) 0
next_at es xs old k x lt is =
    let e : 0 + k ≡ k = omega arith in
    next_at-from es 0 xs old k x lt is
    ∙ ap (λ j. cond (is_stored x.what) (unwrap_or (merged (written x.name es)) (get_or old j 0)) 0) e

-- nothing is stored for what is no register and no flag
pub bare_zero : (defs : List Def) (n : ℕ) → IsBare defs (replicate n 0)
bare_zero defs n d x at other = zeros_at n d

bare_next : (es : List Effect) (defs : List Def) (old : List ℕ) → IsBare defs (next_stored es 0 defs old)
bare_next es defs old d x at other = let (lt, is) = read_of defs d x at in
    next_at es defs old d x lt is
    ∙ ap (λ b. cond b (unwrap_or (merged (written x.name es)) (get_or old d 0)) 0) other

pub bare_state : (p : Program) (st : State) (inputs env : List ℕ) → IsBare p.defs ((next_state p st inputs env).stored)
bare_state p st inputs env = by_state (resets p.defs inputs)
  where
    next : State
    next = record {
      stored = next_stored (clock_effects p st env) 0 p.defs st.stored;
      seats = next_seats p env p.processes st.seats;
    }

    by_state : (b : Bool) → IsBare p.defs ((cond b (zero_state p) next).stored)
    by_state true = bare_zero p.defs (length p.defs)
    by_state false = bare_next (clock_effects p st env) p.defs st.stored

-- with the next value of one definition more
pub advanced_more : (es : List Effect) (defs : List Def) (old now list : List ℕ) (k place : ℕ) (found : Option ℕ)
    (v : ℕ) → list ≡ indices_where is_stored defs → k < length list → place ≡ get_or list k place
    → ((x : Def) → slice_get defs place ≡ Some x → found ≡ merged (written x.name es))
    → v ≡ unwrap_or found (get_or now place 0)
    → WrittenTo is_stored defs now old (stored_value defs (next_stored es 0 defs old)) k
    → WrittenTo is_stored defs (set now place v) old (stored_value defs (next_stored es 0 defs old)) (k + 1)
advanced_more es defs old now list k place found v are lt at finds is so_far =
    let next : List ℕ = next_stored es 0 defs old in
    let one = nth_of is_stored defs list k place are lt at in
    let place_is : place ≡ get_or (indices_where is_stored defs) k 0 = place_of is_stored defs list k place are lt at in
    let kept : get_or now place 0 ≡ get_or old place 0 =
    ap (λ i. get_or now i 0) place_is ∙ so_far.rest k (omega arith) (subst (λ zs. k < length zs) are lt)
    ∙ ap (λ i. get_or old i 0) (sym place_is) in
    let here : get_or next place 0 ≡ unwrap_or (merged (written (one.def).name es)) (get_or old place 0) =
    next_at es defs old place one.def one.inside one.is
    ∙ ap (λ b. cond b (unwrap_or (merged (written (one.def).name es)) (get_or old place 0)) 0) one.test in
    let value : v ≡ stored_value defs next k =
    is ∙ ap (unwrap_or found) kept
    ∙ ap (λ o. unwrap_or o (get_or old place 0)) (finds one.def (entry defs place one.inside one.is)) ∙ sym here
    ∙ ap (λ i. get_or next i 0) place_is in
    written_more is_stored defs old (stored_value defs next) list now k place v are lt at value so_far

-- with that of all
pub advanced_all : (es : List Effect) (defs : List Def) (old now list : List ℕ) (k : ℕ) → IsBare defs old
    → list ≡ indices_where is_stored defs → length list ≤ k
    → WrittenTo is_stored defs now old (stored_value defs (next_stored es 0 defs old)) k
    → now ≡ next_stored es 0 defs old
advanced_all es defs old now list k bare are over so_far =
    let next : List ℕ = next_stored es 0 defs old in
    let long = length-next_stored es 0 defs old in
    same_number_lists now next (so_far.size ∙ sym long) (λ d lt.
    let inside : d < length defs = omega (arith, lt, so_far.size) in
    let x = some_entry defs d inside in
    by_test (is_stored (x.0).what)
    (λ here. let w =
    written_all is_stored defs old (stored_value defs next) list now k are over so_far d x.0 x.1 here in
    w.3 ∙ ap (λ i. get_or next i 0) w.1)
    (λ other. so_far.others d x.0 x.1 other ∙ bare d x.0 x.1 other
    ∙ sym (bare_next es defs old d x.0 x.1 other)))
