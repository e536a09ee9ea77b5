use Rattle.std.proofs.Common.{◌≡◌, ◌<◌, ◌≤◌, length, refl, sym, ◌∙◌, subst, arith}
use Rattle.mp_base.specs.declared.refusal.Place.{Place}
use Rattle.mp_shapes.specs.Standing.{IsFirstE10}
use Rattle.mp_shapes.proofs.Finding.{place_read}
use Rattle.mp_shapes.proofs.Firsts.{no_form, second_form, refuses, refused_first, none_broken, rooted}
use Rattle.mp_base.proofs.Lists.{empty_of}
use Rattle.mp_shapes.proofs.Firsts.{second_root, second_inside}
use Rattle.mp_shapes.proofs.classes.judge_shapes.Goals as goal

pub returns-then-len-eq0-clause-err : goal.returns-then-len-eq0-clause-err
returns-then-len-eq0-clause-err c =
    refuses c.no_shape.result c.args.forms.now.end
    (λ k at. (k ≡ 10) × IsFirstE10 c.args.forms.now at) c.no_shape.ensures
    (refl, no_form c.args.forms.now (empty_of c.args.forms.now.roots (sym c.len.ensures ∙ c.if-len-eq0.true)))

pub returns-in-Err-clause-err : goal.returns-in-Err-clause-err
returns-in-Err-clause-err c = refused_first c.args.forms.now c.requires.sound c.in-Err.refusal c.in-Err.ensures.err

pub returns-then-len-gt1-clause-err : goal.returns-then-len-gt1-clause-err
returns-then-len-gt1-clause-err c =
    let two : 1 < length c.args.forms.now.roots = omega (arith, c.len-2.ensures, c.if-len-gt1.true) in
    let (x, rs, is) = second_root c.args.forms.now.roots c.at.result.now two c.at.ensures in
    let lt = second_inside c.args.forms.now c.requires.sound x c.at.result.now rs is in
    let P : Place → Type 0 = λ p. (10 ≡ 10) × IsFirstE10 c.args.forms.now p in
    refuses c.no_shape-then-len-gt1.result c.at-then-len-gt1.result.now.place
    (λ k at. (k ≡ 10) × IsFirstE10 c.args.forms.now at) c.no_shape-then-len-gt1.ensures
    (subst P
    (sym (place_read c.args.forms.now c.at.result.now c.at-then-len-gt1.result.now lt c.at-then-len-gt1.ensures))
    (refl, second_form c.args.forms.now x c.at.result.now rs c.in-Ok.ensures.ok.clean is))

pub returns-clause-whole : goal.returns-clause-whole
returns-clause-whole c =
    let some : 0 < length c.args.forms.now.roots = omega (arith, c.len.ensures, c.if-len-eq0.false) in
    let (rs, is) = rooted c.args.forms.now.roots c.at-root.result.now some c.at-root.ensures in
    let one : length c.args.forms.now.roots ≤ 1 = omega (arith, c.len-2.ensures, c.if-len-gt1.false) in
    none_broken c.args.forms.now c.at-root.result.now rs is one c.in-Ok.ensures.ok.clean
