use Rattle.std.proofs.Common.{◌≡◌, ◌∙◌, ◌<◌, ◌+◌, ap, sym, subst, arith, length, rules, slice_set, Some}
use Rattle.std.proofs.lemmas.List.{length-map}
use Rattle.mp_written.specs.Functions.{functions}
use Rattle.mp_written.proofs.Soundness.{sound}
use Rattle.written_meanings.specs.declared.functions.Body.{Body}
use Rattle.written_meanings.specs.Meanings.{body_of}
use Rattle.written_meanings.proofs.BodyOwners.{AreBodies, body_at, body_more, bodies_own}
use Rattle.written_meanings.proofs.owners.owners_of_bodies.Goals as goal

pub set-requires : goal.set-requires
set-requires c =
    let w = c.args.program.now in
    let (f, at, is) = body_at w c.args.bodies.now c.loop-number.number (record { args = 0; expr = 0 }) c.requires
    c.loop-number-test.true in
    let fits = ((sound w).defs c.loop-number.number f at).body in
    let size = c.loop-number.invariant.size in
    let same = ap (λ (b : Body). b.expr) is in
    subst (λ k. k < length c.loop-number.owners) (sym same) (omega (arith, fits, size))

pub loop-number-preserved : goal.loop-number-preserved
loop-number-preserved c =
    let w = c.args.program.now in
    let n = c.loop-number.number in
    let (f, at, is) = body_at w c.args.bodies.now n (record { args = 0; expr = 0 }) c.requires
    c.loop-number-test.true in
    let index : c.in-Ok.number ≡ n = search rules in
    subst (AreBodies w (n + 1))
    (sym (c.set.ensures ∙ ap (λ (b : Body). slice_set c.loop-number.owners b.expr (Some c.in-Ok.number)) is
    ∙ ap (λ k. slice_set c.loop-number.owners f.body (Some k)) index))
    (body_more w n f c.loop-number.owners at c.loop-number.invariant)

pub returns : goal.returns
returns c =
    let w = c.args.program.now in
    let size = ap length c.requires ∙ length-map (functions w) body_of in
    let le = c.loop-number-test.false in
    bodies_own w c.loop-number.number c.loop-number.owners (omega (arith, size, le)) c.loop-number.invariant
