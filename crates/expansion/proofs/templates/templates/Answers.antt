use Rattle.std.proofs.Common.{◌≡◌, ◌+◌, ◌∷◌, [], ℕ, arith, rules, sym, ap, subst, length, length-append}
use Rattle.std.specs.Prelude.{Some, slice_index_or}
use Rattle.mp_base.specs.Entries.{IsAt}
use Rattle.written_meanings.specs.declared.functions.Body.{Body}
use Rattle.expansion.specs.Templates.{AreMade, IsMade, IsReady, IsSlot}
use Rattle.expansion.proofs.Scopes.{body_at, body_entry, made_forgets, made_more, ready_body}
use Rattle.expansion.proofs.templates.templates.Goals.{then-read-gt0+in_ok-slot, else-read-gt0}
use Rattle.expansion.proofs.templates.templates.Goals as goal

pub slot_of-requires : goal.slot_of-requires
slot_of-requires c =
    let w = c.args.program.now in
    let m = c.args.meanings.now in
    let ts = c.loop-body.slots in
    let k : ℕ = c.loop-body.body-index in
    let none : Body = record { args = 0; expr = 0 } in
    let b = slice_index_or c.as_slice-body-items.result.now k none in
    let at : IsAt m.bodies k b = subst (λ bs. IsAt bs k b) c.as_slice-body-items.ensures
    (body_at c.as_slice-body-items.result.now k none c.loop-body-test.true) in
    let (f, here, same) = body_entry w m c.requires.meant k b at in
    subst (λ e. IsReady w m ts (Some c.loop-body.function) e) same
    (subst (λ j. IsReady w m ts (Some j) f.body) (sym c.loop-body.invariant.number)
    (ready_body w m c.requires.meant c.requires.lawful ts c.loop-body.invariant.made k f here
    (let size = c.loop-body.invariant.size in omega (arith, size))))

pub loop-body-preserved : goal.loop-body-preserved
loop-body-preserved c =
    let w = c.args.program.now in
    let m = c.args.meanings.now in
    let ts = c.loop-body.slots in
    let k : ℕ = c.loop-body.body-index in
    let none : Body = record { args = 0; expr = 0 } in
    let b = slice_index_or c.as_slice-body-items.result.now k none in
    let at : IsAt m.bodies k b = subst (λ bs. IsAt bs k b) c.as_slice-body-items.ensures
    (body_at c.as_slice-body-items.result.now k none c.loop-body-test.true) in
    let (f, here, same) = body_entry w m c.requires.meant k b at in
    let number = c.loop-body.invariant.number in
    let slot = c.if-read-gt0.slot in
    let Kept : ℕ → ℕ → Type 0 = λ j e. IsSlot w j e slot in
    let is : IsMade w k f slot = elim c.if-read-gt0.branch [
      | then-read-gt0+in_ok-slot v ↦
          subst (λ j. Kept j f.body) number (subst (Kept c.loop-body.function) (sym same)
          (subst (IsSlot w c.loop-body.function b.expr) (sym v.slot-is) v.in_ok-slot.ensures))
      | else-read-gt0 v ↦ subst (IsMade w k f) (sym v.slot-is) tt
    ] in
    let size = c.loop-body.invariant.size in
    let pushed = ap length c.in_ok-push.ensures.ok in
    let longer = length-append ts (slot ∷ []) in
    let pushed_made = subst (AreMade w) (sym c.in_ok-push.ensures.ok)
    (made_more w ts k f slot size here c.loop-body.invariant.made is) in
    let forgets = c.release.ensures in
    let kept = forgets.size in
    record {
      size = omega (arith, size, pushed, longer, kept);
      number = (let next : c.in_ok-function.function ≡ c.loop-body.function + 1 = search rules in omega
          (arith, next, number));
      made = made_forgets w c.push.new.self c.release.new.slots forgets pushed_made;
    }
