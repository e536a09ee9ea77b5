use Rattle.std.proofs.Common.{◌≡◌, ◌+◌, ◌<◌, ◌≤◌, ℕ, List, Bool, true, false, if◌then◌else◌, sym, ◌∙◌, ap, subst, arith}
use Rattle.std.proofs.Common.{get_or, length}
use Rattle.mp_program.specs.declared.program.Def.{Def}
use Rattle.mp_program.specs.Names.{is_driven}
use Rattle.mp_base.specs.Entries.{IsAt}
use Rattle.mp_base.proofs.Entries.{entry, within, one_entry}
use Rattle.mp_order.specs.Demands.{IsDriven}
use Rattle.mp_order.specs.Chains.{Widened, blanks}
use Rattle.mp_order.proofs.Reaching.{widened_skip, widened_more, blank_filled}
use Rattle.mp_order.proofs.search.widen.Goals.{then-is_driven+then-read_wide-gt0+then-read-eq0, else-is_driven}
use Rattle.mp_order.proofs.search.widen.Goals.{else-is_driven-via-then-is_driven+then-read_wide-gt0+else-read-eq0}
use Rattle.mp_order.proofs.search.widen.Goals.{else-is_driven-via-then-is_driven+else-read_wide-gt0}
use Rattle.mp_order.proofs.search.widen.Goals.{else-is_driven-via-else-is_driven}
use Rattle.mp_order.proofs.search.widen.Goals as goal

pub loop-d-preserved : goal.loop-d-preserved
loop-d-preserved c =
    let A : List Def → Type 0 = λ xs. IsAt xs c.loop-d.d c.def-item.result in
    let at : IsAt c.args.program.now.defs c.loop-d.d c.def-item.result =
    subst A c.as_slice-def-items.ensures
    (entry c.as_slice-def-items.result.now c.loop-d.d c.loop-d-test.true c.def-item.is) in
    let inside : c.loop-d.d < length c.loop-d.weights =
    omega (arith, within c.args.program.now.defs c.loop-d.d at, c.loop-d.invariant.0.size, c.requires) in
    let P : List ℕ → Bool
    → Type 0 = λ xs b. Widened c.args.program.now c.args.demands.now (c.loop-d.d + 1) c.args.weights.now xs
    × (b ≡ false → xs ≡ c.args.weights.now)
    × (blanks xs + (if b then 1 else 0) ≤ blanks c.args.weights.now) in
    let to = λ (xs : List ℕ) (b : Bool) (e : c.if-is_driven.weights ≡ xs) (g : c.if-is_driven.grown ≡ b) (h : P xs b).
    let Q : List ℕ → Type 0 = λ ys. P ys c.if-is_driven.grown in
    let R : Bool → Type 0 = λ a. P xs a in
    subst Q (sym e) (subst R (sym g) h) in
    let same = λ (x : Def) (driven : IsDriven c.args.program.now c.loop-d.d x).
    c.is_driven.ensures
    ∙ ap (λ (y : Def). is_driven y.what)
    (one_entry c.args.program.now.defs c.loop-d.d c.def-item.result x at driven.0)
    ∙ driven.1 in
    elim c.if-is_driven.branch [
      | then-is_driven+then-read_wide-gt0+then-read-eq0 w ↦
          let some : 0 < get_or c.args.demands.now c.loop-d.d 0 =
          omega (arith, w.read_wide.ensures, w.if-read_wide-gt0.true) in
          let zero : get_or c.loop-d.weights c.loop-d.d 0 ≡ 0 =
          ap (λ xs. get_or xs c.loop-d.d 0) (sym w.as_slice.ensures) ∙ sym w.read.ensures ∙ w.if-read-eq0.true in
          to _ true (w.weights-is ∙ w.put.ensures) w.grown-is (
            widened_more c.args.program.now c.args.demands.now c.args.weights.now c.loop-d.weights c.loop-d.d
                c.def-item.result c.loop-d.invariant.0
                (at, sym c.is_driven.ensures ∙ w.if-is_driven.true) some inside,
            λ e. absurd (cc),
            omega (arith, blank_filled c.loop-d.weights c.loop-d.d inside zero, c.loop-d.invariant.2),
          )
      | else-is_driven w ↦ to c.loop-d.weights c.loop-d.grown w.weights-is w.grown-is (
        widened_skip c.args.program.now c.args.demands.now c.args.weights.now c.loop-d.weights c.loop-d.d
            c.loop-d.invariant.0
            (λ x driven some. elim w.else-is_driven.branch [
              | else-is_driven-via-then-is_driven+then-read_wide-gt0+else-read-eq0 v ↦
                  let e : v.read.result ≡ get_or c.loop-d.weights c.loop-d.d 0 =
                  v.read.ensures ∙ ap (λ xs. get_or xs c.loop-d.d 0) v.as_slice.ensures in
                  omega (arith, e, v.if-read-eq0.false)
              | else-is_driven-via-then-is_driven+else-read_wide-gt0 v ↦
                  absurd (omega (arith, v.read_wide.ensures, v.if-read_wide-gt0.false, some))
              | else-is_driven-via-else-is_driven v ↦
                  absurd (let e : false ≡ true = sym v.if-is_driven.false ∙ same x driven in cc)
            ]),
        c.loop-d.invariant.1,
        c.loop-d.invariant.2,
      )
    ]
