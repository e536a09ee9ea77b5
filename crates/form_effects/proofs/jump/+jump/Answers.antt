use Rattle.std.proofs.Common.{sym, ◌∙◌, ap, arith}
use Rattle.std.specs.Prelude.{Some}
use Rattle.std.specs.List.{flat_map}
use Rattle.mp_program.specs.Values.{value_of}
use Rattle.mp_program.specs.Effects.{kind_effects, effects_of, branch_effects}
use Rattle.form_effects.specs.declared.jump.Jump.TheVariants.{To, Into}
use Rattle.form_effects.specs.Linked.{landing_place, process_at}
use Rattle.form_effects.specs.Jumps.{jump_from}
use Rattle.form_effects.proofs.Jumping.{jump_behind, jump_here, landed}
use Rattle.mp_base.proofs.Entries.{entry}
use Rattle.form_effects.proofs.jump.+jump.Goals as goal

pub jump_first-returns-in-Some : goal.jump_first-returns-in-Some
jump_first-returns-in-Some t c =
    sym (c.loop-form.invariant
    ∙ jump_here c.args.program.now c.args.env.now
    (process_at c.args.program.now c.args.index) c.args.forms.now c.loop-form.form-index c.in-Some.jump (omega arith)
    (sym c.jump_of.ensures ∙ c.in-Some.is))

pub jump_first-loop-form-preserved : goal.jump_first-loop-form-preserved
jump_first-loop-form-preserved t c =
    c.loop-form.invariant
    ∙ jump_behind c.args.program.now c.args.env.now
    (process_at c.args.program.now c.args.index) c.args.forms.now c.loop-form.form-index (omega arith)
    (sym c.jump_of.ensures ∙ c.in_default.is)

pub jump_of-returns-in-Set : goal.jump_of-returns-in-Set
jump_of-returns-in-Set t c =
    let p = c.args.program.now in
    let env = c.args.env.now in
    ap (jump_from (process_at c.args.program.now c.args.index))
    (sym (c.effects.ensures env c.args.form c.at-found.result.now
    (entry p.forms c.args.form c.requires.inside c.at-found.ensures)
    ∙ ap (λ k. kind_effects (value_of p env) k (effects_of p env)) c.in-Set.is))

pub jump_of-returns-in-Cond : goal.jump_of-returns-in-Cond
jump_of-returns-in-Cond t c =
    let p = c.args.program.now in
    let env = c.args.env.now in
    c.jump_chosen.ensures
    ∙ ap (λ bs. jump_from (process_at c.args.program.now c.args.index)
    (branch_effects (value_of p env) bs (effects_of p env))) c.as_slice.ensures
    ∙ ap (jump_from (process_at c.args.program.now c.args.index))
    (sym (c.effects.ensures env c.args.form c.at-found.result.now
    (entry p.forms c.args.form c.requires.inside c.at-found.ensures)
    ∙ ap (λ k. kind_effects (value_of p env) k (effects_of p env)) c.in-Cond.is))

pub jump_of-returns-in-Par : goal.jump_of-returns-in-Par
jump_of-returns-in-Par t c =
    let p = c.args.program.now in
    let env = c.args.env.now in
    c.jump_first.ensures
    ∙ ap (λ fs. jump_from (process_at c.args.program.now c.args.index) (flat_map (effects_of p env) fs))
    c.as_slice-in-Par.ensures
    ∙ ap (jump_from (process_at c.args.program.now c.args.index))
    (sym (c.effects.ensures env c.args.form c.at-found.result.now
    (entry p.forms c.args.form c.requires.inside c.at-found.ensures)
    ∙ ap (λ k. kind_effects (value_of p env) k (effects_of p env)) c.in-Par.is))

pub jump_of-returns-in-Go : goal.jump_of-returns-in-Go
jump_of-returns-in-Go t c =
    let p = c.args.program.now in
    let env = c.args.env.now in
    let q = process_at p c.args.index in
    let x = c.at-found.result.now in
    ap (λ k. Some (To k)) (c.landing.ensures
    ∙ landed p c.args.links.now c.args.index c.args.form x c.requires.linked.landings c.requires.process
    c.requires.inside c.at-found.ensures
    ∙ ap (landing_place q) c.in-Go.is)
    ∙ ap (jump_from q)
    (sym (c.effects.ensures env c.args.form x
    (entry p.forms c.args.form c.requires.inside c.at-found.ensures)
    ∙ ap (λ k. kind_effects (value_of p env) k (effects_of p env)) c.in-Go.is))

pub jump_of-returns-in-Call : goal.jump_of-returns-in-Call
jump_of-returns-in-Call t c =
    let p = c.args.program.now in
    let env = c.args.env.now in
    let q = process_at p c.args.index in
    let x = c.at-found.result.now in
    ap (λ k. Some (Into k)) (c.landing-in-Call.ensures
    ∙ landed p c.args.links.now c.args.index c.args.form x c.requires.linked.landings c.requires.process
    c.requires.inside c.at-found.ensures
    ∙ ap (landing_place q) c.in-Call.is)
    ∙ ap (jump_from q)
    (sym (c.effects.ensures env c.args.form x
    (entry p.forms c.args.form c.requires.inside c.at-found.ensures)
    ∙ ap (λ k. kind_effects (value_of p env) k (effects_of p env)) c.in-Call.is))

pub jump_of-returns-in-Return : goal.jump_of-returns-in-Return
jump_of-returns-in-Return t c =
    let p = c.args.program.now in
    let env = c.args.env.now in
    ap (jump_from (process_at c.args.program.now c.args.index))
    (sym (c.effects.ensures env c.args.form c.at-found.result.now
    (entry p.forms c.args.form c.requires.inside c.at-found.ensures)
    ∙ ap (λ k. kind_effects (value_of p env) k (effects_of p env)) c.in-Return.is))
