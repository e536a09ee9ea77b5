-- The expressions of places.
use Rattle.std.proofs.Common.{
  ◌≡◌,
  inl,
  inr,
  ◌∙◌,
  ℕ,
  zero,
  suc,
  ◌+◌,
  ◌-◌,
  ◌<◌,
  List,
  [],
  ◌∷◌,
  ◌++◌,
  true,
  false,
  cond,
  refl,
  sym,
  ap,
  subst,
  arith,
  length,
  max,
  take,
}
use Rattle.std.specs.Prelude.{nat_lt}
use Rattle.std.specs.List.{sum_by}
use Rattle.std.proofs.lemmas.Bool.{lt-ltb}
use Rattle.std.proofs.lemmas.List.{length-append}
use Rattle.std.proofs.lemmas.List.Sums.{sum_by_more}
use Rattle.std.proofs.lemmas.Option.{none-some, same_Some, get_or_from_slice_get}
use Rattle.mp_base.specs.declared.op.Op.TheVariants.{Nor}
use Rattle.mp_program.specs.declared.program.Process.{Process}
use Rattle.mp_program.specs.declared.program.Program.{Program}
use Rattle.mp_rules.specs.Breaking.{IsUnbroken}
use Rattle.mp_base.specs.Entries.{IsAt}
use Rattle.mp_base.proofs.Entries.{contains_from_get, get_from_contains, one_entry, some_entry, push_cases, within}
use Rattle.rtl_form.specs.declared.rtl.Cell as cells
use Rattle.rtl_form.specs.declared.rtl.RtlExpr.{RtlExpr}
use Rattle.rtl_form.specs.declared.rtl.RtlExpr.TheVariants.{Truth, Cell, Apply}
use Rattle.process_plan.specs.declared.role.Role.{Role}
use Rattle.process_plan.specs.declared.role.Role.TheVariants.{Placed}
use Rattle.process_plan.specs.Roles.{AreCells}
use Rattle.process_plan.specs.Bill.{first_bill}
use Rattle.process_plan.specs.Enables.{ArePlaceExprs, IsPlaceExpr}
use Rattle.process_plan.specs.Fits.{ExprFitsIn, HasSortIn}
use Rattle.process_plan.proofs.Keeping.{keeps_36}
use Rattle.process_layout.specs.Steps.{Keeps}
use Rattle.process_layout.proofs.Keeping.{keeps_same, keeps_more}
use Rattle.process_enables.specs.Adding.{IsPut}
use Rattle.process_enables.specs.Copies.{HasTruth}
use Rattle.process_enables.specs.Places.{Adds, PutsFirst, ArePlaces, PutsPlaces, PutsAllPlaces}
use Rattle.process_enables.proofs.Adding.{
  put_at,
  put_keeps,
  put_cost,
  put_fits,
  bit_kept,
}

-- a process has a form
pub some_form : (p : Program) → IsUnbroken p → (k : ℕ) (q : Process) → IsAt p.processes k q → 0 < length q.forms
some_form p unbroken k q at = pick q.forms refl
  where
    pick : (fs : List ℕ) → q.forms ≡ fs → 0 < length q.forms
    pick [] is = absurd (keeps_36 p unbroken q.place (k, q, at, is, refl))
    pick (f ∷ fs) is = let e : length q.forms ≡ length (f ∷ fs) = ap length is in omega (arith, e)

pub adds_none : (w : ℕ) (xs : List cells.Cell) (exprs : List RtlExpr) → Adds w xs 0 exprs exprs
adds_none w xs exprs = record { kept = keeps_same exprs; fits = λ h. h; cost = omega arith }

pub adds_more : (w : ℕ) (xs : List cells.Cell) (m n : ℕ) (exprs mid more : List RtlExpr) → Adds w xs m exprs mid
    → Adds w xs n mid more → Adds w xs (m + n) exprs more
adds_more w xs m n exprs mid more h g = record {
  kept = keeps_more exprs mid more h.kept g.kept;
  fits = λ fit. g.fits (h.fits fit);
  cost = let a = h.cost in let b = g.cost in omega (arith, a, b);
}

-- ---- the cells of places

-- the others are the cells of the places 1 to below n
pub record CellsBelow (p : Program) (roles : List Role) (xs : List cells.Cell) (k n : ℕ) (exprs now : List RtlExpr)
    (others : List ℕ) : Type 0 where
  pub added : Adds p.width xs 0 exprs now
  pub size : length others + 1 ≡ n
  pub each : (i a : ℕ) → IsAt others i a → (c : ℕ) × IsAt roles c (Placed k (suc i)) × IsAt now a (Cell c)

pub cells_none : (p : Program) (roles : List Role) (xs : List cells.Cell) (k : ℕ) (exprs : List RtlExpr)
    → CellsBelow p roles xs k 1 exprs exprs []
cells_none p roles xs k exprs = record {
  added = adds_none p.width xs exprs;
  size = omega arith;
  each = λ i a at. absurd (none-some a at);
}

pub cells_more : (p : Program) (roles : List Role) (xs : List cells.Cell) → AreCells p roles xs → (k n : ℕ)
    (exprs now next : List RtlExpr) (others : List ℕ) (c e : ℕ) → CellsBelow p roles xs k n exprs now others
    → IsAt roles c (Placed k n) → IsPut now (Cell c) next e
    → CellsBelow p roles xs k (n + 1) exprs next (others ++ e ∷ [])
cells_more p roles xs are k n exprs now next others c e below role put =
    let size = below.size in
    let (z, at_z, cell) = are.each c (Placed k n) role in
    record {
      added = record {
        kept = keeps_more exprs now next (below.added).kept (put_keeps now (Cell c) next e put);
        fits = λ fit. put_fits now (Cell c) next e put p.width xs (within xs c at_z) ((below.added).fits fit);
        cost =
            let a = put_cost now (Cell c) next e put in let b = (below.added).cost in omega (arith, a, b);
      };
      size = let s = length-append others (e ∷ []) in omega (arith, s, size);
      each = λ i a at. elim (push_cases others e i a at) [
        | inl (lt, before) ↦
            let (d, of, made) = below.each i a before in (d, of, put_keeps now (Cell c) next e put a (Cell d) made)
        | inr (last, is) ↦
            let here : n ≡ suc i = omega (arith, last, size) in (
              c,
              subst (λ j. IsAt roles c (Placed k j)) here role,
              subst (λ b. IsAt next b (Cell c)) is (put_at now (Cell c) next e put),
            )
      ];
    }

-- ---- the places of a process

place_bit : (p : Program) (roles : List Role) (xs : List cells.Cell) → AreCells p roles xs → (exprs : List RtlExpr)
    (k j c a : ℕ) → IsAt roles c (Placed k j) → IsAt exprs a (Cell c) → HasSortIn xs exprs a false
place_bit p roles xs are exprs k j c a role at =
    let (z, at_z, (q, at_q, some, below, is)) = are.each c (Placed k j) role in
    (Cell c, at, (z, at_z, ap (λ (t : cells.Cell). t.word) (sym is)))

-- all of the cells of a process
all_cells : (p : Program) (roles : List Role) (xs : List cells.Cell) → AreCells p roles xs → (k : ℕ) (q : Process)
    (exprs now : List RtlExpr) (others : List ℕ) → IsAt p.processes k q
    → CellsBelow p roles xs k (length q.forms) exprs now others → ArePlaceExprs now roles k others
all_cells p roles xs are k q exprs now others at_q below = record {
  each = λ e c.
      let (i, at) = get_from_contains others e c in
      let (d, of, made) = below.each i e at in (d, suc i, of, made);
  all = λ j c role.
      let (z, at_z, (r, at_r, some, inside, is)) = are.each c (Placed k j) role in
      let same : length r.forms ≡ length q.forms = ap (λ (t : Process). length t.forms)
      (one_entry p.processes k r q at_r at_q) in
      let size = below.size in
      let (a, at) = some_entry others (j - 1) (omega (arith, some, inside, same, size)) in
      let (d, of, made) = below.each (j - 1) a at in
      let e : suc (j - 1) ≡ j = omega (arith, some) in
      let one : d ≡ c = are.once d c (Placed k j) (subst (λ n. IsAt roles d (Placed k n)) e of) role in
      (a, contains_from_get others (j - 1) a at, subst (λ n. IsAt now a (Cell n)) one made);
}

pub places_are : (p : Program) (roles : List Role) (xs : List cells.Cell) → AreCells p roles xs → IsUnbroken p → (k : ℕ)
    (q : Process) (exprs now more : List RtlExpr) (others : List ℕ) (a : ℕ) → IsAt p.processes k q → HasTruth exprs
    → CellsBelow p roles xs k (length q.forms) exprs now others → PutsFirst others now more a
    → PutsPlaces p roles xs k exprs more (a ∷ others)
places_are p roles xs are unbroken k q exprs now more others a at_q truth below (inl (none, same, is)) =
    let size = below.size in
    let empty : length others ≡ 0 = ap length none in
    let moved : Adds p.width xs 0 exprs more = subst (λ ys. Adds p.width xs 0 exprs ys) (sym same) below.added in
    record {
      added = λ r at_r.
          let forms : length q.forms ≡ length r.forms = ap (λ (t : Process). length t.forms)
          (one_entry p.processes k q r at_q at_r) in (
            record {
              kept = moved.kept;
              fits = moved.fits;
              cost = let c = moved.cost in omega (arith, c);
            },
            omega (arith, size, forms),
          );
      places = first;
    }
  where
    first : ArePlaces p roles xs more k (a ∷ others)
    first zero b at =
        let zero_is : b ≡ 0 = sym (same_Some a b at) ∙ is in
        let one : length q.forms ≡ 1 =
        (let size = below.size in let empty : length others ≡ 0 = ap length none in omega (arith, size, empty)) in
        let kept : Keeps exprs more = subst (λ ys. Keeps exprs ys) (sym same) (below.added).kept in (
          (q, at_q, inl (one, zero_is)),
          subst (λ n. HasSortIn xs more n false) (sym zero_is) (Truth true, kept 0 (Truth true) truth.0, refl),
        )
    first (suc i) b at =
        let empty : length others ≡ 0 = ap length none in
        let lt = within others i at in absurd (omega (arith, lt, empty))
places_are p roles xs are unbroken k q exprs now more others a at_q truth below (inr (some, put)) =
    let size = below.size in
    record {
      added = λ r at_r.
          let forms : length q.forms ≡ length r.forms = ap (λ (t : Process). length t.forms)
          (one_entry p.processes k q r at_q at_r) in (
            record {
              kept = keeps_more exprs now more (below.added).kept put_kept;
              fits = λ fit. put_fits now (Apply Nor 0 others) more a put p.width xs nor_fits ((below.added).fits fit);
              cost =
                  let x = put_cost now (Apply Nor 0 others) more a put in
                  let y = (below.added).cost in
                  let many : nat_lt 1 (length r.forms) ≡ true =
                  lt-ltb 1 (length r.forms) (omega (arith, size, some, forms)) in
                  let bill : first_bill (length r.forms) ≡ max 2 (length r.forms - 1) =
                  ap (λ t. cond t (max 2 (length r.forms - 1)) 0) many in
                  let same : length r.forms - 1 ≡ length others = omega (arith, size, forms) in
                  let price : max 2 (length r.forms - 1) ≡ max 2 (length others) = ap (max 2) same in
                  omega (arith, x, y, bill, price);
            },
            omega (arith, size, forms),
          );
      places = first;
    }
  where
    put_kept : Keeps now more
    put_kept = put_keeps now (Apply Nor 0 others) more a put

    of_cell : (i b : ℕ) → IsAt others i b → HasSortIn xs now b false
    of_cell i b at = let (c, role, made) = below.each i b at in
        place_bit p roles xs are now k (suc i) c b role made

    nor_fits : ExprFitsIn p.width xs now (length now) (Apply Nor 0 others)
    nor_fits = (
      lt-ltb 0 (length others) some,
      tt,
      λ b c.
          let (i, at) = get_from_contains others b c in
          let (d, role, made) = below.each i b at in
          (within now b made, of_cell i b at),
    )

    first : ArePlaces p roles xs more k (a ∷ others)
    first zero b at =
        let made : IsAt more b (Apply Nor 0 others) =
        subst (λ n. IsAt more n (Apply Nor 0 others)) (same_Some a b at) (put_at now (Apply Nor 0 others) more a put) in
        let all = all_cells p roles xs are k q exprs now others at_q below in (
          (
            q,
            at_q,
            inr (
              others,
              made,
              record {
                each = λ e c. let (d, j, role, at) = all.each e c in (d, j, role, put_kept e (Cell d) at);
                all = λ j c role. let (e, among, at) = all.all j c role in (e, among, put_kept e (Cell c) at);
              },
            ),
          ),
          (Apply Nor 0 others, made, refl),
        )
    first (suc i) b at =
        let (c, role, made) = below.each i b at in (
          (c, role, put_kept b (Cell c) made),
          bit_kept xs now more b put_kept (place_bit p roles xs are now k (suc i) c b role made),
        )

-- ---- the places of all processes

pub place_kept : (p : Program) (roles : List Role) (exprs more : List RtlExpr) → Keeps exprs more → (k i a : ℕ)
    → IsPlaceExpr p exprs roles k i a → IsPlaceExpr p more roles k i a
place_kept p roles exprs more kept k zero a (q, at, inl one) = (q, at, inl one)
place_kept p roles exprs more kept k zero a (q, at, inr (es, made, are)) = (
  q,
  at,
  inr (
    es,
    kept a (Apply Nor 0 es) made,
    record {
      each = λ e c. let (d, j, role, of) = are.each e c in (d, j, role, kept e (Cell d) of);
      all = λ j c role. let (e, among, of) = are.all j c role in (e, among, kept e (Cell c) of);
    },
  ),
)
place_kept p roles exprs more kept k (suc i) a (c, role, made) = (c, role, kept a (Cell c) made)

pub places_kept : (p : Program) (roles : List Role) (xs : List cells.Cell) (exprs more : List RtlExpr)
    → Keeps exprs more
    → (k : ℕ) (es : List ℕ) → ArePlaces p roles xs exprs k es → ArePlaces p roles xs more k es
places_kept p roles xs exprs more kept k es places = λ i a at.
    let (place, bit) = places i a at in
    (place_kept p roles exprs more kept k i a place, bit_kept xs exprs more a kept bit)

pub all_none : (p : Program) (roles : List Role) (xs : List cells.Cell) (exprs : List RtlExpr)
    → PutsAllPlaces p roles xs 0 exprs exprs []
all_none p roles xs exprs = record {
  added = adds_none p.width xs exprs;
  size = refl;
  sizes = λ k q es at_q at. absurd (none-some es at);
  places = λ k es at. absurd (none-some es at);
}

sum_more : {X : Type 0} (f : X → ℕ) (xs : List X) (n : ℕ) (x : X) → IsAt xs n x
    → sum_by f (take (n + 1) xs) ≡ sum_by f (take n xs) + f x
sum_more f xs n x at = sum_by_more f xs n x (within xs n at)
    ∙ ap (λ y. sum_by f (take n xs) + f y) (get_or_from_slice_get xs n x x at)

pub all_more : (p : Program) (roles : List Role) (xs : List cells.Cell) (n : ℕ) (exprs now more : List RtlExpr)
    (ess : List (List ℕ)) (es : List ℕ) → n < length p.processes → PutsAllPlaces p roles xs n exprs now ess
    → PutsPlaces p roles xs n now more es → PutsAllPlaces p roles xs (n + 1) exprs more (ess ++ es ∷ [])
all_more p roles xs n exprs now more ess es lt done put =
    let (q, at_q) = some_entry p.processes n lt in
    let (step, step_size) = put.added q at_q in
    let size = done.size in
    record {
      added = subst (λ bill. Adds p.width xs bill exprs more)
          (sym (sum_more (λ (t : Process). first_bill (length t.forms)) p.processes n q at_q))
          (adds_more p.width xs _ (first_bill (length q.forms)) exprs now more done.added step);
      size = let s = length-append ess (es ∷ []) in omega (arith, s, size);
      sizes = λ k r fs at_r at. elim (push_cases ess es k fs at) [
        | inl (there, before) ↦ done.sizes k r fs at_r before
        | inr (last, is) ↦
            let here : k ≡ n = omega (arith, last, size) in
            let forms : length q.forms ≡ length r.forms = ap (λ (t : Process). length t.forms)
            (one_entry p.processes n q r at_q (subst (λ j. IsAt p.processes j r) here at_r)) in
            ap length (sym is) ∙ step_size ∙ forms
      ];
      places = λ k fs at. elim (push_cases ess es k fs at) as (λ _. ArePlaces p roles xs more k fs) [
        | inl (there, before) ↦ places_kept p roles xs now more step.kept k fs (done.places k fs before)
        | inr (last, is) ↦
            let here : k ≡ n = omega (arith, last, size) in
            subst (λ gs. ArePlaces p roles xs more k gs) is
            (subst (λ j. ArePlaces p roles xs more j es) (sym here) put.places)
      ];
    }
