use Rattle.std.proofs.Common.{◌<◌, List, Bool, true, length, get_or, sym, ◌∙◌, ap, subst, arith}
use Rattle.std.specs.Prelude.{All}
use Rattle.std.proofs.lemmas.List.{length-set, take_all}
use Rattle.std.proofs.lemmas.List.Elements.{All-more}
use Rattle.nor_net.specs.declared.net.NetId.{NetId}
use Rattle.path_draft.specs.Testing.{flag_at}
use Rattle.path_draft.proofs.Telling.{told_all, told_more}
use Rattle.path_draft.proofs.flags.flags_of.Goals as goal

pub loop-id-preserved : goal.loop-id-preserved
loop-id-preserved c =
    let d : NetId = record { 0 = 0 } in
    let ids = c.args.ids.now in
    let i = c.loop-id.id-index in
    let n = (get_or ids i d).0 in
    let size = c.loop-id.invariant.size in
    let below : n < c.args.count = c.if-count-id.false in
    record {
      size = ap length c.set.ensures ∙ length-set c.loop-id.flags n true ∙ size;
      below = All-more (λ (id : NetId). id.0 < c.args.count) ids i d c.loop-id-test.true c.loop-id.invariant.below below;
      told = told_more ids i d c.loop-id.flags c.set.new.self c.loop-id-test.true c.loop-id.invariant.told
          (omega (arith, size, below))
          (ap (λ (fs : List Bool). flag_at fs n) (sym c.as_slice.ensures) ∙ sym c.flag_at.ensures ∙ c.if-flag_at.false)
          c.set.ensures;
    }

pub returns : goal.returns
returns c =
    let ids = c.args.ids.now in
    let i = c.loop-id.id-index in
    record {
      below = subst (All (λ (id : NetId). id.0 < c.args.count)) (take_all i ids c.loop-id-test.false)
          c.loop-id.invariant.below;
      each = told_all ids i c.loop-id.flags c.loop-id-test.false c.loop-id.invariant.told;
    }
