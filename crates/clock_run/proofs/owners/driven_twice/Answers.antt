use Rattle.std.proofs.Common.{◌≡◌, ℕ, List, ap, sym, arith, length, Vec, Global, Option, None, subst, subst₂, ◌+◌, ◌∙◌}
use Rattle.std.proofs.Common.{rules, replicate, drop, Some, refl}
use Rattle.std.specs.Prelude.{slice_get}
use Rattle.std.proofs.lemmas.Option.{slice_get_within}
use Rattle.std.proofs.lemmas.List.{take_at}
use Rattle.switch_net.specs.declared.network.Tag.{Tag}
use Rattle.switch_net.specs.Breaks.{IsDrivenTwice}
use Rattle.clock_run.specs.Owners.{AreWithin, AreOwners}
use Rattle.clock_run.proofs.Missing.{stands_at}
use Rattle.clock_run.proofs.Owning.{begun, owners_skip}
use Rattle.clock_run.proofs.owners.driven_twice.Goals as goal
use Rattle.clock_run.proofs.owners.driven_twice.Goals.{else-is_driver-via-then-is_driver+else-meets_another}
use Rattle.clock_run.proofs.owners.driven_twice.Goals.{else-is_driver-via-else-is_driver}

pub loop-i-init : goal.loop-i-init
loop-i-init c =
    let fresh : c.in_ok-owners.owners.items ≡ replicate c.args.network.now.nodes None = search rules in
    let begin = begun c.args.drivers.now c.args.network.now c.in_ok-owners.owners.items fresh in
    record { within = begin.0; owners = begin.1 }

pub returns-then-meets_another : goal.returns-then-meets_another
returns-then-meets_another c =
    let tags = c.as_slice-tags.result.now in
    let i = c.loop-i.i in
    let t = c.index-tags-i.result in
    let drivers = c.args.drivers.now in
    let driver = (c.in_ok-names.ensures t.name).0 (sym c.is_driver.ensures ∙ c.if-is_driver.true) in
    let owners = subst₂ (λ ts os. AreOwners drivers ts os i) (sym c.as_slice-tags.ensures)
    (sym c.deref_mut.ensures.value) c.loop-i.invariant.owners in
    let twice = c.meets_another.ensures.met c.if-meets_another.true drivers t
    (stands_at tags i t c.loop-i-test.true c.index-tags-i.is) driver owners in
    record {
      i = i;
      tag = t;
      twice = subst (λ ts. IsDrivenTwice drivers ts i t) c.as_slice-tags.ensures twice;
      first = c.loop-i.invariant.owners.none;
      offset_is = refl;
    }

pub loop-i-preserved : goal.loop-i-preserved
loop-i-preserved c =
    let tags = c.as_slice-tags.result.now in
    let i = c.loop-i.i in
    let t = c.index-tags-i.result in
    let drivers = c.args.drivers.now in
    let at : slice_get tags i ≡ Some t = stands_at tags i t c.loop-i-test.true c.index-tags-i.is in
    let Kept : List (Option ℕ) → Type 0 = λ os. AreWithin c.args.network.now.tags os
    × AreOwners drivers c.args.network.now.tags os (i + 1) in
    let kept : Kept c.else-is_driver.owners.items = elim c.else-is_driver.branch [
      | else-is_driver-via-then-is_driver+else-meets_another w ↦
          let driver = (c.in_ok-names.ensures t.name).0 (sym c.is_driver.ensures ∙ w.if-is_driver.true) in
          let owners = subst₂ (λ ts os. AreOwners drivers ts os i) (sym c.as_slice-tags.ensures)
          (sym w.deref_mut.ensures.value) c.loop-i.invariant.owners in
          let told = w.meets_another.ensures in
          let noted = told.noted w.if-meets_another.false drivers t at driver owners in
          let old = c.loop-i.owners in
          let new = w.meets_another.new.owners in
          let long : length new ≡ old.len = told.sized
          ∙ ap (λ (os : List (Option ℕ)). length os) w.deref_mut.ensures.value
          ∙ sym old.ok.0 in
          let now = ap (λ (v : Vec (Option ℕ) Global). v.items) w.owners-is
          ∙ take_at new (drop (length new) old.items) old.len long in
          subst Kept (sym now) (
            subst (λ ts. AreWithin ts new) c.as_slice-tags.ensures told.within,
            subst (λ ts. AreOwners drivers ts new (i + 1)) c.as_slice-tags.ensures noted,
          )
      | else-is_driver-via-else-is_driver w ↦
          let now = ap (λ (v : Vec (Option ℕ) Global). v.items) w.owners-is in
          let here = subst (λ ts. slice_get ts i ≡ Some t) c.as_slice-tags.ensures at in
          subst Kept (sym now) (
            c.loop-i.invariant.within,
            owners_skip drivers c.args.network.now.tags i t here c.loop-i.owners.items c.loop-i.invariant.owners
                (λ k. let yes = (c.in_ok-names.ensures t.name).1 k in
                let no = sym c.is_driver.ensures ∙ w.if-is_driver.false in cc),
          )
    ] in
    record { within = kept.0; owners = kept.1 }

pub returns : goal.returns
returns c = λ i m.
    let l = ap (λ (xs : List Tag). length xs) c.as_slice-tags.ensures in
    c.loop-i.invariant.owners.none i
    (let lt = slice_get_within c.args.network.now.tags i m.0 m.1.at in omega (arith, l, lt, c.loop-i-test.false)) m
