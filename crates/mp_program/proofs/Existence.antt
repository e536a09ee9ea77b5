-- A state and inputs have an environment, and inputs a trace, given an order.
use Rattle.std.proofs.Common.{◌≡◌, ◌≢◌, ℕ, zero, suc, ◌+◌, ◌<◌, ◌≤◌, List, [], ◌∷◌, true, false, refl, sym, ◌∙◌, ap}
use Rattle.std.proofs.Common.{inl, inr, length, arith, get_or}
use Rattle.std.specs.Prelude.{slice_index, slice_get, Some, slice_set as set}
use Rattle.std.proofs.lemmas.Option.{same_Some, slice_get_within}
use Rattle.mp_base.proofs.Entries.{same_at, read_of}
use Rattle.std.proofs.lemmas.Bool.{cases_lt}
use Rattle.std.proofs.lemmas.List.{get_or-set_same, get_or-set_other, length-set}
use Rattle.mp_base.proofs.Induction.{by_test}
use Rattle.mp_program.specs.declared.program.Def.{Def}
use Rattle.mp_program.specs.declared.program.Program.{Program}
use Rattle.mp_program.specs.State.{State, IsState, zero_state}
use Rattle.mp_program.specs.Names.{is_driven, pad_number}
use Rattle.mp_program.specs.Environment.{what_value, driven_value, IsEnvironment}
use Rattle.mp_program.specs.Step.{next_state, outputs_of}
use Rattle.mp_program.specs.Trace.{IsTraceFrom}
use Rattle.mp_program.specs.Reads.{IsOrder}
use Rattle.mp_program.proofs.Soundness.{sound}
use Rattle.mp_program.proofs.Definitions.{what_value-driven, what_value-given}
use Rattle.mp_program.proofs.Environment.{driven_agrees}
use Rattle.mp_program.proofs.States.{state_kept}

-- the value of a definition to which nothing is driven
abbrev given_value : List Def → (stored inputs : List ℕ) → ℕ → Def → ℕ
given_value defs stored inputs d x = what_value x.what (slice_index stored d) (slice_index inputs (pad_number defs d)) 0

-- these values, of definitions from the index d on
given_from : List Def → (stored inputs : List ℕ) → ℕ → List Def → List ℕ
given_from defs stored inputs d [] = []
given_from defs stored inputs d (x ∷ xs) = given_value defs stored inputs d x ∷ given_from defs stored inputs (suc d) xs

length-given_from : (defs : List Def) (stored inputs : List ℕ) (d : ℕ) (xs : List Def)
    → length (given_from defs stored inputs d xs) ≡ length xs
unfolding given_from
length-given_from defs stored inputs d [] = refl
length-given_from defs stored inputs d (x ∷ xs) = ap suc (length-given_from defs stored inputs (suc d) xs)

given_at : (defs : List Def) (stored inputs : List ℕ) (d : ℕ) (xs : List Def) (i : ℕ) (x : Def) → i < length xs
    → x ≡ get_or xs i x
    → slice_index (given_from defs stored inputs d xs) i ≡ given_value defs stored inputs (d + i) x
unfolding given_from
given_at defs stored inputs d [] i x lt is = absurd (omega (arith, lt))
given_at defs stored inputs d (y ∷ ys) zero x lt is =
    let same : d ≡ d + 0 = omega arith in
    ap (given_value defs stored inputs d) (sym is) ∙ ap (λ k. given_value defs stored inputs k x) same
given_at defs stored inputs d (y ∷ ys) (suc i) x lt is =
    let same : suc d + i ≡ d + suc i = omega arith in
    given_at defs stored inputs (suc d) ys i x (omega (arith, lt)) is
    ∙ ap (λ k. given_value defs stored inputs k x) same

-- the definitions that are not driven have their values, and so do the first k of an order
record IsSettled (p : Program) (st : State) (inputs order : List ℕ) (k : ℕ) (env : List ℕ) : Type 0 where
  size : length env ≡ length p.defs
  given : (d : ℕ) (x : Def) → slice_get p.defs d ≡ Some x → is_driven x.what ≡ false
      → slice_index env d ≡ given_value p.defs st.stored inputs d x
  driven : (j : ℕ) (x : Def) → j < k → slice_get p.defs (slice_index order j) ≡ Some x
      → slice_index env (slice_index order j) ≡ driven_value p st env x

module _ (p : Program) (st : State) (inputs order : List ℕ) (fits : IsState p st) (ordered : IsOrder p order) where
  -- a definition that is not driven is none of the order
  apart : (k d : ℕ) (x : Def) → k < length order → slice_get p.defs d ≡ Some x → is_driven x.what ≡ false
      → d ≢ slice_index order k
  apart k d x lt at still = λ e.
      let t = ordered.driven k lt in
      let one : x ≡ t.0 = same_at p.defs d (slice_index order k) x t.0 e at t.1 in
      let clash : true ≡ false = sym t.2 ∙ ap (λ (z : Def). is_driven z.what) (sym one) ∙ still in
      cc

  -- a value put at the one at k changes nothing for those up to it
  keeps : (env : List ℕ) (j k v : ℕ) (y : Def) → j ≤ k → k < length order
      → slice_get p.defs (slice_index order j) ≡ Some y
      → length env ≡ length p.defs → driven_value p st env y ≡ driven_value p st (set env (slice_index order k) v) y
  keeps env j k v y jk lt at size =
      let t = ordered.driven j (omega (arith, jk, lt)) in
      let same : y ≡ t.0 = same_Some y t.0 (sym at ∙ t.1) in
      driven_agrees p st env (set env (slice_index order k) v) (slice_index order j) y (sound p) fits size
      (simp length-set size) at
      (ap (λ (z : Def). is_driven z.what) same ∙ t.2)
      (λ b z here still. sym
      (get_or-set_other env (slice_index order k) b v 0 (apart k b z lt here still)))
      (λ b reads. let found = ordered.after j b (omega (arith, jk, lt)) reads in
      sym (get_or-set_other env (slice_index order k) b v 0
      (λ e. ordered.once found.0 k (omega (arith, found.1, jk)) lt (found.2 ∙ e))))

  settled_none : IsSettled p st inputs order 0 (given_from p.defs st.stored inputs 0 p.defs)
  settled_none = record {
    size = length-given_from p.defs st.stored inputs 0 p.defs;
    given = λ d x at still. let same : 0 + d ≡ d = omega arith in let (lt, is) = read_of p.defs d x at in
        given_at p.defs st.stored inputs 0 p.defs d x lt is ∙ ap (λ k. given_value p.defs st.stored inputs k x) same;
    driven = λ j x lt at. absurd (omega (arith, lt));
  }

  settled_more : (env : List ℕ) (k : ℕ) (x : Def) → k < length order
      → slice_get p.defs (slice_index order k) ≡ Some x
      → IsSettled p st inputs order k env
      → IsSettled p st inputs order (suc k) (set env (slice_index order k) (driven_value p st env x))
  settled_more env k x lt at settled =
      let v = driven_value p st env x in
      let inside = slice_get_within p.defs (slice_index order k) x at in record {
        size = simp length-set settled.size;
        given = λ d y here still. get_or-set_other env (slice_index order k) d v 0 (apart k d y lt here still)
            ∙ settled.given d y here still;
        driven = λ j y jk here.
            let after = keeps env j k v y (omega (arith, jk)) lt here settled.size in
            elim (cases_lt j k) [
              | inl below ↦
                  get_or-set_other env (slice_index order k) (slice_index order j) v 0
                  (λ e. ordered.once j k below lt e) ∙ settled.driven j y below here ∙ after
              | inr from ↦
                  let e : j ≡ k = omega (arith, jk, from) in
                  let one : x ≡ y =
                  same_at p.defs (slice_index order k) (slice_index order j) x y (ap (slice_index order) (sym e)) at
                  here in
                  ap (λ m. get_or (set env (slice_index order k) v) (slice_index order m) 0) e
                  ∙ get_or-set_same env (slice_index order k) v 0 (omega (arith, settled.size, inside))
                  ∙ ap (driven_value p st env) one ∙ after
            ];
      }

  settled : (k : ℕ) → k ≤ length order → (env : List ℕ) × IsSettled p st inputs order k env
  settled zero le = (given_from p.defs st.stored inputs 0 p.defs, settled_none)
  settled (suc k) le =
      let lt : k < length order = omega (arith, le) in
      let before = settled k (omega (arith, le)) in
      let t = ordered.driven k lt in (
        set before.0 (slice_index order k)
            (driven_value p st before.0 t.0),
        settled_more before.0 k t.0 lt t.1 before.1,
      )

  -- where the whole order has its values, all definitions have
  environment : (env : List ℕ) → IsSettled p st inputs order (length order) env → IsEnvironment p st inputs env
  environment env s = record {
    size = s.size;
    values = λ d x at. by_test (is_driven x.what)
        (λ h. let found = ordered.all d x at h in
        ap (slice_index env) (sym found.2)
        ∙ s.driven found.0 x found.1 (ap (slice_get p.defs) found.2 ∙ at)
        ∙ sym (what_value-driven x.what _ _ _ h))
        (λ h. s.given d x at h ∙ what_value-given x.what _ _ _ _ h);
  }

  pub an_environment : (env : List ℕ) × IsEnvironment p st inputs env
  an_environment = let last = settled (length order) (omega arith) in (last.0, environment last.0 last.1)

-- from a state, inputs show outputs
pub a_trace : (p : Program) (order : List ℕ) → IsOrder p order → IsState p (zero_state p)
    → (inputs : List (List ℕ)) (st : State) → IsState p st
    → (outputs : List (List ℕ)) × IsTraceFrom p st inputs outputs
a_trace p order ordered start [] st fits = ([], tt)
a_trace p order ordered start (i ∷ is) st fits =
    let found = an_environment p st i order fits ordered in
    let after = next_state p st i found.0 in
    let rest = a_trace p order ordered start is after (state_kept p st i found.0 start fits) in (
      outputs_of p.defs found.0
          ∷ rest.0,
      (after, record { env = found.0; environment = found.1; shown = refl; next = refl }, rest.1),
    )
