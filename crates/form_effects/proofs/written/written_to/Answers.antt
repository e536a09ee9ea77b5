use Rattle.std.proofs.Common.{◌<◌, sym, ◌∙◌, ap, subst, length}
use Rattle.std.specs.List.{flat_map, AllByRecursion}
use Rattle.mp_base.specs.Merge.{join, merged}
use Rattle.mp_base.proofs.Entries.{own_default, read_of}
use Rattle.mp_program.specs.declared.program.Def.{Def}
use Rattle.mp_program.specs.Names.{index_of}
use Rattle.mp_program.specs.Effects.{effects_of}
use Rattle.mp_program.specs.Reads.{sets}
use Rattle.form_effects.specs.Linked.{setters_of}
use Rattle.form_effects.specs.Written.{written_at}
use Rattle.form_effects.proofs.Entries.{made_at}
use Rattle.mp_program.proofs.Definitions.{first_inside}
use Rattle.form_effects.proofs.Targets.{all_filter, together}
use Rattle.form_effects.proofs.written.written_to.Goals as goal

pub written_by-always-requires-clause-inside : goal.written_by-always-requires-clause-inside
written_by-always-requires-clause-inside c =
    let p = c.args.program.now in
    let x = own_default p.defs c.args.target c.requires.inside in
    let are =
    c.as_slice-2.ensures
    ∙ made_at
    (λ (y : Def). setters_of p y.name) p.defs c.as_slice.result.now c.args.target x.0 c.index-as_slice-target.result
    (c.as_slice.ensures ∙ c.requires.linked.setters) c.requires.inside x.1 c.index-as_slice-target.is in
    subst (AllByRecursion (λ f. f < length p.forms)) (sym are)
    (all_filter (λ f. f < length p.forms) (sets p (x.0).name) p.always c.sound.ensures.always)

pub returns : goal.returns
returns c = λ x at.
    let p = c.args.program.now in
    let is = (read_of p.defs c.args.target x at).1 in
    let env = c.args.env.now in
    let are =
    c.as_slice-2.ensures
    ∙ made_at
    (λ (y : Def). setters_of p y.name) p.defs c.as_slice.result.now c.args.target x c.index-as_slice-target.result
    (c.as_slice.ensures ∙ c.requires.linked.setters) c.requires.inside is c.index-as_slice-target.is in
    let first =
    made_at (λ (y : Def). index_of p.defs y.name) p.defs c.args.links.now.defs.items c.args.target x
    c.index-first.result.now
    c.requires.linked.defs c.requires.inside is c.index-first.ensures in
    c.join.ensures
    ∙ ap (λ o. join o c.written_by-processes.result) c.written_by-always.ensures
    ∙ ap (λ o. join
    (merged (written_at p.defs c.index-first.result.now (flat_map (effects_of p env) c.as_slice-2.result.now))) o)
    c.written_by-processes.ensures
    ∙ ap (λ k. join (merged (written_at p.defs k (flat_map (effects_of p env) c.as_slice-2.result.now)))
    (merged (written_at p.defs k (flat_map (effects_of p env) c.args.places.now)))) first
    ∙ together p env x.name c.silence.ensures
    (first_inside p.defs c.args.target x c.requires.inside is) p.always c.args.places.now c.as_slice-2.result.now
    c.sound.ensures.always are
