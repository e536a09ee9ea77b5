-- A state and inputs have exactly one environment.
use Rattle.std.proofs.Common.{◌≡◌, ◌≢◌, ◌⊎◌, inl, inr, ◌∙◌, ℕ, zero, suc, ◌+◌, ◌<◌, ◌≤◌, List, [], ◌∷◌, Bool, true}
use Rattle.std.proofs.Common.{false, refl, sym, ap, subst, length, arith}
use Rattle.std.specs.Prelude.{slice_index, unwrap_or, slice_set as set}
use Rattle.std.proofs.lemmas.Bool.{cases_lt}
use Rattle.std.proofs.lemmas.List.{ext_get_or, get_or-set_same, get_or-set_other, length-set}
use Rattle.mp_base.specs.Merge.{merged}
use Rattle.mp_base.proofs.Induction.{by_test, upward}
use Rattle.rtl_form.specs.declared.rtl.CellKind.{CellKind}
use Rattle.rtl_form.specs.declared.rtl.CellKind.TheVariants.{Input, Output, Inner, Stored}
use Rattle.rtl_form.specs.declared.rtl.Cell.{Cell}
use Rattle.rtl_form.specs.declared.rtl.RtlExpr.TheVariants as nodes
use Rattle.rtl_form.specs.declared.rtl.Rtl.{Rtl}
use Rattle.mp_base.specs.Entries.{IsAt}
use Rattle.std.proofs.lemmas.Option.{same_Some, none-some}
use Rattle.mp_base.proofs.Entries.{some_entry, one_entry, within}
use Rattle.rtl_form.specs.Values.{value_of}
use Rattle.rtl_form.specs.Environment.{is_driven, kind_value, driven_value, IsEnvironment}
use Rattle.rtl_form.specs.Sound.{IsSound, HasSort, ReadsCell, itself, inside}
use Rattle.rtl_form.proofs.Values.{value_agrees, written_agrees}

kind_given : (k : CellKind) (inputs : List ℕ) (stored a b : ℕ) → is_driven k ≡ false
    → kind_value k inputs stored a ≡ kind_value k inputs stored b
kind_given (Input n) inputs stored a b h = refl
kind_given (Output n) inputs stored a b h = absurd (cc)
kind_given Inner inputs stored a b h = absurd (cc)
kind_given Stored inputs stored a b h = refl

kind_driven : (k : CellKind) (inputs : List ℕ) (stored a : ℕ) → is_driven k ≡ true → kind_value k inputs stored a ≡ a
kind_driven (Input n) inputs stored a h = absurd (cc)
kind_driven (Output n) inputs stored a h = refl
kind_driven Inner inputs stored a h = refl
kind_driven Stored inputs stored a h = absurd (cc)

abbrev SameGiven : Rtl → List ℕ → List ℕ → Type 0
SameGiven r env env2 = (c : ℕ) (x : Cell) → IsAt r.cells c x → is_driven x.kind ≡ false
    → slice_index env c ≡ slice_index env2 c

module _ (r : Rtl) (sound : IsSound r) where
  -- a cell that is read is a cell
  pub read_in : (c e : ℕ) → ReadsCell r.exprs c e → c < length r.cells
  read_in c e (itself f at) = sound.exprs f (nodes.Cell c) at
  read_in c e (inside f a op k args at ca reads) = read_in c a reads

  sorted_in : (e : ℕ) (word : Bool) → HasSort r e word → e < length r.exprs
  sorted_in e word (x, at, is) = within r.exprs e at

  -- what is driven to the cell at k of the order depends on what is not driven, and on the cells before it
  pub driven_agrees : (env env2 : List ℕ) (k : ℕ) → k < length r.order → SameGiven r env env2
      → ((j : ℕ) → j < k → slice_index env (slice_index r.order j) ≡ slice_index env2 (slice_index r.order j))
      → driven_value r env (slice_index r.order k) ≡ driven_value r env2 (slice_index r.order k)
  driven_agrees env env2 k lt given before =
      ap (λ ws. unwrap_or (merged ws) 0)
      (written_agrees (value_of r env) (value_of r env2) (slice_index r.order k) r.transfers (λ t ct target.
      let (guard_fits, (target_cell, _, value_fits, _)) = sound.transfers t ct in
      let reads : (c : ℕ) → ReadsCell r.exprs c t.guard ⊎ ReadsCell r.exprs c t.value → c < length r.cells
      → slice_index env c ≡ slice_index env2 c = λ c some inside_c.
      let (x, at) = some_entry r.cells c inside_c in
      by_test (is_driven x.kind)
      (λ h. let (j, jk, is) = (sound.order).after k c lt (t, x, ct, target, at, h, some) in
      ap (slice_index env) (sym is) ∙ before j jk ∙ ap (slice_index env2) is)
      (λ h. given c x at h) in (
        value_agrees r sound env env2 t.guard (sorted_in t.guard false guard_fits)
            (λ c h. reads c (inl h) (read_in c t.guard h)),
        value_agrees r sound env env2 t.value (sorted_in t.value target_cell.word value_fits)
            (λ c h. reads c (inr h) (read_in c t.value h)),
      )))

  -- ---- at most one

  module _ (state inputs env env2 : List ℕ) (one : IsEnvironment r state inputs env)
      (two : IsEnvironment r state inputs env2) where
    given_same : SameGiven r env env2
    given_same c x at h =
        one.values c x at ∙ kind_given x.kind inputs (slice_index state c) (driven_value r env c)
        (driven_value r env2 c) h ∙ sym (two.values c x at)

    abbrev SameAt : ℕ → Type 0
    SameAt k = k < length r.order → slice_index env (slice_index r.order k) ≡ slice_index env2 (slice_index r.order k)

    order_same : (k : ℕ) → SameAt k
    order_same = upward SameAt (λ k below lt.
        let (x, at, driven) = (sound.order).driven k lt in
        let c = slice_index r.order k in
        one.values c x at ∙ kind_driven x.kind inputs (slice_index state c) (driven_value r env c) driven
        ∙ driven_agrees env env2 k lt given_same (λ j jk. below j jk (omega (arith, jk, lt)))
        ∙ sym (two.values c x at ∙ kind_driven x.kind inputs (slice_index state c) (driven_value r env2 c) driven))

    -- two environments are equal
    pub one_environment : env ≡ env2
    one_environment = let a = one.size in let b = two.size in ext_get_or 0 env env2 (omega (arith, a, b)) (λ c lt.
        let (x, at) = some_entry r.cells c (omega (arith, lt, a)) in
        by_test (is_driven x.kind)
        (λ h. let (k, kl, is) = (sound.order).all c x at h in
        ap (slice_index env) (sym is) ∙ order_same k kl ∙ ap (slice_index env2) is)
        (λ h. given_same c x at h))

  -- ---- at least one

  module _ (state inputs : List ℕ) where
    given_from : ℕ → List Cell → List ℕ
    given_from c [] = []
    given_from c (x ∷ xs) = kind_value x.kind inputs (slice_index state c) 0 ∷ given_from (suc c) xs

    length_given : (c : ℕ) (xs : List Cell) → length (given_from c xs) ≡ length xs
    unfolding given_from
    length_given c [] = refl
    length_given c (x ∷ xs) = ap suc (length_given (suc c) xs)

    given_at : (c : ℕ) (xs : List Cell) (i : ℕ) (x : Cell) → IsAt xs i x
        → slice_index (given_from c xs) i ≡ kind_value x.kind inputs (slice_index state (c + i)) 0
    unfolding given_from
    given_at c [] i x at = absurd (none-some x at)
    given_at c (y ∷ ys) zero x at =
        let e : c ≡ c + 0 = omega arith in
        ap (λ (z : Cell). kind_value z.kind inputs (slice_index state c) 0) (same_Some y x at)
        ∙ ap (λ n. kind_value x.kind inputs (slice_index state n) 0) e
    given_at c (y ∷ ys) (suc i) x at =
        let e : suc c + i ≡ c + suc i = omega arith in
        given_at (suc c) ys i x at ∙ ap (λ n. kind_value x.kind inputs (slice_index state n) 0) e

    -- what is not driven has its values, and so do the first k cells of the order
    record IsSettledTo (k : ℕ) (env : List ℕ) : Type 0 where
      size : length env ≡ length r.cells
      given : (c : ℕ) (x : Cell) → IsAt r.cells c x → is_driven x.kind ≡ false
          → slice_index env c ≡ kind_value x.kind inputs (slice_index state c) 0
      driven : (j : ℕ) → j < k → slice_index env (slice_index r.order j) ≡ driven_value r env (slice_index r.order j)

    apart : (k c : ℕ) (x : Cell) → k < length r.order → IsAt r.cells c x → is_driven x.kind ≡ false
        → c ≢ slice_index r.order k
    apart k c x lt at h = λ e.
        let (y, at_y, driven) = (sound.order).driven k lt in
        let same : x ≡ y = one_entry r.cells (slice_index r.order k) x y (subst (λ n. IsAt r.cells n x) e at) at_y in
        let clash : true ≡ false = sym driven ∙ ap (λ (z : Cell). is_driven z.kind) (sym same) ∙ h in
        cc

    -- a value that is put at the cell at k changes nothing for those up to it
    keeps : (env : List ℕ) (j k v : ℕ) → j ≤ k → k < length r.order
        → driven_value r env (slice_index r.order j) ≡ driven_value r (set env (slice_index r.order k) v)
        (slice_index r.order j)
    keeps env j k v le lt = driven_agrees env (set env (slice_index r.order k) v) j (omega (arith, le, lt))
        (λ c x at h. sym (get_or-set_other env (slice_index r.order k) c v 0 (apart k c x lt at h)))
        (λ i ij. sym (get_or-set_other env (slice_index r.order k) (slice_index r.order i) v 0
        (λ e. (sound.order).once i k (omega (arith, ij, le)) lt e)))

    settled_none : IsSettledTo 0 (given_from 0 r.cells)
    settled_none = record {
      size = length_given 0 r.cells;
      given = λ c x at h. let e : 0 + c ≡ c = omega arith in
          given_at 0 r.cells c x at ∙ ap (λ n. kind_value x.kind inputs (slice_index state n) 0) e;
      driven = λ j lt. absurd (omega (arith, lt));
    }

    settled_more : (env : List ℕ) (k : ℕ) → k < length r.order → IsSettledTo k env
        → IsSettledTo (suc k) (set env (slice_index r.order k) (driven_value r env (slice_index r.order k)))
    settled_more env k lt settled =
        let c = slice_index r.order k in
        let v = driven_value r env c in
        let (x, at, is_d) = (sound.order).driven k lt in
        let size = settled.size in
        let long = length-set env c v in record {
          size = omega (arith, size, long);
          given = λ d y at_y h. get_or-set_other env c d v 0 (apart k d y lt at_y h) ∙ settled.given d y at_y h;
          driven = λ j jk.
              elim (cases_lt j k) [
                | inl below ↦ get_or-set_other env c (slice_index r.order j) v 0
                    (λ e. (sound.order).once j k below lt e) ∙ settled.driven j below
                    ∙ keeps env j k v (omega (arith, below)) lt
                | inr from ↦
                    let e : j ≡ k = omega (arith, jk, from) in
                    let inside_c = within r.cells c at in
                    ap (λ n. slice_index (set env c v) (slice_index r.order n)) e
                    ∙ get_or-set_same env c v 0 (omega (arith, inside_c, size)) ∙ keeps env k k v (omega arith) lt
                    ∙ ap (λ n. driven_value r (set env c v) (slice_index r.order n)) (sym e)
              ];
        }

    settled : (k : ℕ) → k ≤ length r.order → (env : List ℕ) × IsSettledTo k env
    settled zero le = (given_from 0 r.cells, settled_none)
    settled (suc k) le =
        let (env, before) = settled k (omega (arith, le)) in (
          set env (slice_index r.order k) (driven_value r env (slice_index r.order k)),
          settled_more env k (omega (arith, le)) before,
        )

    pub an_environment : (env : List ℕ) × IsEnvironment r state inputs env
    an_environment =
        let (env, s) = settled (length r.order) (omega arith) in (
          env,
          record {
            size = s.size;
            values = λ c x at. by_test (is_driven x.kind)
                (λ h. let (k, kl, is) = (sound.order).all c x at h in
                ap (slice_index env) (sym is) ∙ s.driven k kl ∙ ap (driven_value r env) is
                ∙ sym (kind_driven x.kind inputs (slice_index state c) (driven_value r env c) h))
                (λ h. s.given c x at h ∙ kind_given x.kind inputs (slice_index state c) 0 (driven_value r env c) h);
          },
        )
