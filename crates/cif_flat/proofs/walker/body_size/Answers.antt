use Rattle.std.proofs.Common.{◌≡◌, ◌≤◌, ◌+◌, ◌-◌, refl, ◌∙◌, ap, subst, true, drop, length, Some, arith}
use Rattle.std.specs.Prelude.{slice_range}
use Rattle.std.proofs.lemmas.List.{drop_all, length-take}
use Rattle.std.proofs.lemmas.List.Elements.{All-more}
use Rattle.std.proofs.lemmas.Option.{slice_get_read}
use Rattle.cif_form.specs.Expansion.{IsInside, item_at}
use Rattle.cif_form.specs.declared.command.Command.TheVariants.{Finish}
use Rattle.cif_list.specs.Showing.{command_shown, item_shown}
use Rattle.cif_flat.specs.Sound.{AreClosed}
use Rattle.cif_flat.proofs.Defines.{in_body, shown_finish, at_drop, one_more_inside, finished, no_end}
use Rattle.cif_flat.proofs.walker.body_size.Goals as goal

pub returns-in-Finish : goal.returns-in-Finish
returns-in-Finish c =
    let i = item_shown c.at.result in
    let body = slice_range c.args.items.now c.args.first c.args.end in
    let k = c.loop-size.size in
    let here =
    in_body c.args.items.now c.args.first c.args.end k i c.requires.forward c.requires.within c.loop-size-test.true
    c.at.ensures in
    let d = at_drop body k i here.0 here.1 in
    let is : i.command ≡ Finish = ap command_shown c.in-Finish.is in
    let same : i ≡ item_at i.offset Finish = λ j. record { offset = i.offset; command = is j } in
    record {
      offset = i.offset;
      finish = slice_get_read body (length body) k i refl here.0 here.1 ∙ ap (λ j. Some j) same;
      inside = c.loop-size.invariant.inside;
      closed = finished i (drop (k + 1) body) (subst (AreClosed true) d c.loop-size.invariant.closed) is;
    }

pub loop-size-preserved : goal.loop-size-preserved
loop-size-preserved c =
    let i = item_shown c.at.result in
    let body = slice_range c.args.items.now c.args.first c.args.end in
    let k = c.loop-size.size in
    let here =
    in_body c.args.items.now c.args.first c.args.end k i c.requires.forward c.requires.within c.loop-size-test.true
    c.at.ensures in
    let d = at_drop body k i here.0 here.1 in
    let m = one_more_inside i (drop (k + 1) body) (subst (AreClosed true) d c.loop-size.invariant.closed)
    (λ f. c.in_default.not-Finish (shown_finish c.at.result.command f)) in
    record {
      closed = m.1;
      inside =
          All-more (λ i. IsInside i.command) body k i here.0 c.loop-size.invariant.inside
          (subst (λ j. IsInside j.command) here.1 m.0);
    }

pub returns : goal.returns
returns c =
    let body = slice_range c.args.items.now c.args.first c.args.end in
    let l = length-take (c.args.end - c.args.first) (drop c.args.first c.args.items.now) in
    let past : length body ≤ c.loop-size.size = omega (arith, l, c.loop-size-test.false) in
    no_end (subst (AreClosed true) (drop_all c.loop-size.size body past) c.loop-size.invariant.closed)
