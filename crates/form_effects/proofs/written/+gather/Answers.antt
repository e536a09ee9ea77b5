use Rattle.std.proofs.Common.{◌<◌, true, false, sym, ◌∙◌, ap, subst, arith}
use Rattle.std.specs.Prelude.{Some}
use Rattle.std.specs.List.{flat_map}
use Rattle.std.proofs.lemmas.Bool.{eq-eqb, ne_eqb}
use Rattle.mp_base.specs.Merge.{merged}
use Rattle.mp_base.proofs.Entries.{own_default, entry}
use Rattle.mp_program.specs.declared.program.Form.{Form}
use Rattle.mp_program.specs.Values.{value_of}
use Rattle.mp_program.specs.Effects.{kind_effects, effects_of, branch_effects}
use Rattle.form_effects.specs.Linked.{target}
use Rattle.form_effects.specs.Written.{written_at}
use Rattle.form_effects.proofs.Entries.{made_at}
use Rattle.form_effects.proofs.Targets.{quiet_at, marked_inside}
use Rattle.form_effects.proofs.Gathering.{more, set_merged}
use Rattle.form_effects.proofs.written.+gather.Goals as goal

pub gather-returns-then-is_quiet : goal.gather-returns-then-is_quiet
gather-returns-then-is_quiet t c =
    let p = c.args.program.now in
    let env = c.args.env.now in
    let marks = c.args.links.now.quiet in
    let marked = sym c.is_quiet.ensures ∙ c.if-is_quiet.true in
    let inside =
    subst (λ n. c.args.target < n) c.requires.linked.quiet.size
    (marked_inside marks c.args.target c.args.form marked) in
    let x = own_default p.defs c.args.target inside in
    let quiet = c.requires.linked.quiet.each c.args.target x.0
    (entry p.defs c.args.target inside x.1) c.args.form c.requires.inside marked in
    sym (ap merged (quiet_at p.defs c.args.target x.0 (effects_of p env c.args.form) inside x.1
    (c.silence.ensures env (x.0).name c.args.form c.requires.inside quiet)))

pub gather-returns-then-index-target : goal.gather-returns-then-index-target
gather-returns-then-index-target t c =
    let p = c.args.program.now in
    let env = c.args.env.now in
    let x = c.at-found.result.now in
    let link =
    made_at (λ (f : Form). target p.defs f.kind) p.forms c.args.links.now.forms.items c.args.form x c.index.result.now
    c.requires.linked.forms c.requires.inside c.at-found.ensures c.index.ensures in
    let same = sym (ap (target p.defs) c.in-Set.is) ∙ sym link ∙ c.if-index-target.true in
    ap (λ v. Some v) c.value.ensures ∙ set_merged true _ _ (eq-eqb _ _ same)
    ∙ ap (λ es. merged (written_at p.defs c.args.target es))
    (sym (c.effects.ensures env c.args.form x
    (entry p.forms c.args.form c.requires.inside c.at-found.ensures)
    ∙ ap (λ k. kind_effects (value_of p env) k (effects_of p env)) c.in-Set.is))

pub gather-returns-else-index-target : goal.gather-returns-else-index-target
gather-returns-else-index-target t c =
    let p = c.args.program.now in
    let env = c.args.env.now in
    let x = c.at-found.result.now in
    let link =
    made_at (λ (f : Form). target p.defs f.kind) p.forms c.args.links.now.forms.items c.args.form x c.index.result.now
    c.requires.linked.forms c.requires.inside c.at-found.ensures c.index.ensures in
    set_merged false _ (value_of p env c.in-Set.expr)
    (ne_eqb _ _ (λ same. c.if-index-target.false (link ∙ ap (target p.defs) c.in-Set.is ∙ same)))
    ∙ ap (λ es. merged (written_at p.defs c.args.target es))
    (sym (c.effects.ensures env c.args.form x
    (entry p.forms c.args.form c.requires.inside c.at-found.ensures)
    ∙ ap (λ k. kind_effects (value_of p env) k (effects_of p env)) c.in-Set.is))

pub gather-returns-in-Cond : goal.gather-returns-in-Cond
gather-returns-in-Cond t c =
    let p = c.args.program.now in
    let env = c.args.env.now in
    c.gather_chosen.ensures
    ∙ ap (λ bs. merged (written_at p.defs c.args.target (branch_effects (value_of p env) bs (effects_of p env))))
    c.as_slice.ensures
    ∙ ap (λ es. merged (written_at p.defs c.args.target es))
    (sym (c.effects.ensures env c.args.form c.at-found.result.now
    (entry p.forms c.args.form c.requires.inside c.at-found.ensures)
    ∙ ap (λ k. kind_effects (value_of p env) k (effects_of p env)) c.in-Cond.is))

pub gather-returns-in-Par : goal.gather-returns-in-Par
gather-returns-in-Par t c =
    let p = c.args.program.now in
    let env = c.args.env.now in
    c.gather_all.ensures
    ∙ ap (λ fs. merged (written_at p.defs c.args.target (flat_map (effects_of p env) fs))) c.as_slice-in-Par.ensures
    ∙ ap (λ es. merged (written_at p.defs c.args.target es))
    (sym (c.effects.ensures env c.args.form c.at-found.result.now
    (entry p.forms c.args.form c.requires.inside c.at-found.ensures)
    ∙ ap (λ k. kind_effects (value_of p env) k (effects_of p env)) c.in-Par.is))

pub gather-returns-in-Go : goal.gather-returns-in-Go
gather-returns-in-Go t c =
    let p = c.args.program.now in
    let env = c.args.env.now in
    ap (λ es. merged (written_at p.defs c.args.target es))
    (sym (c.effects.ensures env c.args.form c.at-found.result.now
    (entry p.forms c.args.form c.requires.inside c.at-found.ensures)
    ∙ ap (λ k. kind_effects (value_of p env) k (effects_of p env)) c.in-Go.is))

pub gather-returns-in-Call : goal.gather-returns-in-Call
gather-returns-in-Call t c =
    let p = c.args.program.now in
    let env = c.args.env.now in
    ap (λ es. merged (written_at p.defs c.args.target es))
    (sym (c.effects.ensures env c.args.form c.at-found.result.now
    (entry p.forms c.args.form c.requires.inside c.at-found.ensures)
    ∙ ap (λ k. kind_effects (value_of p env) k (effects_of p env)) c.in-Call.is))

pub gather-returns-in-Return : goal.gather-returns-in-Return
gather-returns-in-Return t c =
    let p = c.args.program.now in
    let env = c.args.env.now in
    ap (λ es. merged (written_at p.defs c.args.target es))
    (sym (c.effects.ensures env c.args.form c.at-found.result.now
    (entry p.forms c.args.form c.requires.inside c.at-found.ensures)
    ∙ ap (λ k. kind_effects (value_of p env) k (effects_of p env)) c.in-Return.is))

pub gather_all-loop-form-preserved : goal.gather_all-loop-form-preserved
gather_all-loop-form-preserved t c =
    rw c.join-all.ensures (rw c.gather-more.ensures
    (more c.args.program.now c.args.env.now c.args.target c.args.forms.now c.loop-form.form-index c.loop-form.all _
    (omega arith) c.loop-form.invariant))
