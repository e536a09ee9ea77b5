use Rattle.std.proofs.Common.{◌≡◌, ◌+◌, ◌<◌, ◌≤◌, ℕ, List, true, false, sym, ◌∙◌, ap, subst, arith, get_or}
use Rattle.std.proofs.Common.{length, Vec, Global}
use Rattle.mp_base.specs.declared.refusal.Place.{Place}
use Rattle.mp_base.proofs.Entries.{entry, one_entry}
use Rattle.mp_program.specs.declared.program.Def.{Def}
use Rattle.mp_program.specs.Names.{is_driven}
use Rattle.mp_program.specs.Reads.{IsOrder}
use Rattle.mp_order.specs.Demands.{IsDriven}
use Rattle.mp_order.specs.Chains.{Placed, SetsFlagged, FlaggedSet}
use Rattle.mp_order.proofs.Closing.{FlagsClosed, closed_earliest, none_broken, none_flagged, start_set}
use Rattle.mp_order.proofs.Ordering.{Ordering, ordering_skip, ordering_closed, ordering_placed, ordering_flags}
use Rattle.mp_order.proofs.Ordering.{ordering_done}
use Rattle.mp_order.proofs.search.search.Goals.{then-is_driven+in_ok-reach, then-read_wide-gt0}
use Rattle.mp_order.proofs.search.search.Goals.{else-read_wide-gt0+in_ok-place, else-is_driven}
use Rattle.mp_order.proofs.search.search.Goals as goal

pub loop-d-preserved : goal.loop-d-preserved
loop-d-preserved c =
    let inside : c.loop-d.d < length c.args.program.now.defs = omega (arith, c.loop-d-test.true, c.requires.counted) in
    let P : List ℕ → List ℕ → Type 0 = λ closed order. Ordering c.args.program.now (c.loop-d.d + 1) closed order in
    let to =
    λ (closed order : List ℕ) (e : c.if-is_driven.closed ≡ closed) (g : c.if-is_driven.order.items ≡ order)
    (h : P closed order).
    let Q : List ℕ → Type 0 = λ xs. P xs c.if-is_driven.order.items in
    let R : List ℕ → Type 0 = λ xs. P closed xs in
    subst Q (sym e) (subst R (sym g) h) in
    let items = λ (v : Vec ℕ Global). v.items in
    elim c.if-is_driven.branch [
      | then-is_driven+in_ok-reach w ↦
          let driven : IsDriven c.args.program.now c.loop-d.d c.at.result.now = (
            entry c.args.program.now.defs c.loop-d.d inside c.at.ensures,
            sym c.is_driven.ensures ∙ w.if-is_driven.true,
          ) in
          elim w.if-read_wide-gt0.branch [
            | then-read_wide-gt0 v ↦
                to _ c.loop-d.order.items (w.closed-is ∙ v.closed-is ∙ v.set.ensures)
                (ap items w.order-is ∙ ap items v.order-is)
                (ordering_closed c.args.program.now c.loop-d.d c.loop-d.closed c.loop-d.order.items c.loop-d.invariant
                inside
                (w.in_ok-reach.ensures.sound c.loop-d.d c.at.result.now driven
                (omega (arith, w.read_wide.ensures, v.if-read_wide-gt0.true))))
            | else-read_wide-gt0+in_ok-place v ↦
                let open_chain : get_or w.in_ok-reach.reach c.loop-d.d 0 ≡ 0 =
                omega (arith, w.read_wide.ensures, v.if-read_wide-gt0.false) in
                let placed : Placed w.in_ok-reach.reach c.loop-d.d c.loop-d.order.items v.place.new.order.items =
                v.in_ok-place.ensures in
                to c.loop-d.closed v.place.new.order.items (w.closed-is ∙ v.closed-is)
                (ap items w.order-is ∙ ap items v.order-is)
                (ordering_placed c.args.program.now c.loop-d.d c.at.result.now c.loop-d.closed w.in_ok-reach.reach
                c.loop-d.order.items v.place.new.order.items c.loop-d.invariant driven
                w.in_ok-reach.ensures open_chain placed)
          ]
      | else-is_driven w ↦ to c.loop-d.closed c.loop-d.order.items w.closed-is (ap items w.order-is)
          (ordering_skip c.args.program.now c.loop-d.d c.loop-d.closed c.loop-d.order.items c.loop-d.invariant
          (λ x driven. let e : false ≡ true =
          sym w.if-is_driven.false ∙ c.is_driven.ensures ∙ ap (λ (y : Def). is_driven y.what)
          (one_entry c.args.program.now.defs c.loop-d.d c.at.result.now x
          (entry c.args.program.now.defs c.loop-d.d inside c.at.ensures) driven.0) ∙ driven.1 in cc))
    ]

pub returns-in-Some : goal.returns-in-Some
returns-in-Some c =
    let flags : FlagsClosed c.args.program.now c.loop-d.closed =
    ordering_flags c.args.program.now c.loop-d.d c.loop-d.closed c.loop-d.order.items
    (omega (arith, c.loop-d-test.false, c.requires.counted)) c.loop-d.invariant in
    let P : List ℕ
    → Type 0 = λ xs. SetsFlagged c.args.program.now c.args.meanings.now xs c.in-Some.setting.target
    c.in-Some.setting.place
    × ((at : Place) → FlaggedSet c.args.program.now c.args.meanings.now xs at
    → (c.in-Some.setting.place).offset ≤ at.offset) in
    let found : P c.loop-d.closed = subst P c.as_slice.ensures c.in-Some.ensures in
    let flag : 0 < get_or c.loop-d.closed c.in-Some.setting.target 0 = flag_of found.0 in
    closed_earliest c.args.program.now c.args.meanings.now c.loop-d.closed c.in-Some.setting c.requires.meant
    c.requires.own flags found.0 found.1 (c.loop-d.invariant.flagged c.in-Some.setting.target flag)
  where
    flag_of : SetsFlagged c.args.program.now c.args.meanings.now c.loop-d.closed c.in-Some.setting.target
        c.in-Some.setting.place → 0 < get_or c.loop-d.closed c.in-Some.setting.target 0
    flag_of (f, y, name, there, v, yf, kind, target, flag, e) = flag

pub returns : goal.returns
returns c =
    let done : length c.args.program.now.defs ≤ c.loop-d.d = omega (arith, c.loop-d-test.false, c.requires.counted) in
    let flags : FlagsClosed c.args.program.now c.loop-d.closed =
    ordering_flags c.args.program.now c.loop-d.d c.loop-d.closed c.loop-d.order.items done c.loop-d.invariant in
    let P : List ℕ → Type 0 = λ xs. (at : Place) → FlaggedSet c.args.program.now c.args.meanings.now xs at → ⊥ in
    let none : P c.loop-d.closed = subst P c.as_slice.ensures c.in-None.ensures in
    let Q : List ℕ → Type 0 = λ xs. IsOrder c.args.program.now xs in (
      subst Q (sym c.from_vec.ensures)
          (ordering_done c.args.program.now c.loop-d.d c.loop-d.closed c.loop-d.order.items done c.loop-d.invariant
          (λ d some. none_flagged c.args.program.now c.args.meanings.now c.loop-d.closed none d
          (start_set c.args.program.now c.args.meanings.now c.sound.ensures c.sets.ensures c.reads.ensures
          c.requires.meant c.requires.own d d (c.loop-d.invariant.flagged d some)) some)),
      none_broken c.args.program.now c.args.meanings.now c.loop-d.closed c.requires.meant c.requires.own flags none,
    )
