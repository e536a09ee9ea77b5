use Rattle.std.proofs.Common.{◌≡◌, ◌+◌, ℕ, get_or, sym, subst, arith, refl}
use Rattle.std.specs.Prelude.{◌↔◌, Contains}
use Rattle.mask_nodes.specs.Ends.{pair_of, AreListed}
use Rattle.mask_nodes.proofs.ChannelsMade.{listed_none, listed_more}
use Rattle.mask_nodes.proofs.channels.list_channels.Goals as goal

pub take_ends-requires-clause-before : goal.take_ends-requires-clause-before
take_ends-requires-clause-before c = λ j l. let b = c.loop-i.invariant.before j l in
    let n : c.in-Ok.number ≡ c.loop-i.i = c.in-Ok.ensures.1 in omega arith

pub take_ends-requires-clause-after : goal.take_ends-requires-clause-after
take_ends-requires-clause-after c = λ j l u. let b = c.loop-i.invariant.after j l u in
    let n : c.in-Ok.number ≡ c.loop-i.i = c.in-Ok.ensures.1 in omega arith

pub loop-i-init : goal.loop-i-init
loop-i-init c = record {
  listed =
      subst (AreListed c.args.gates.now c.args.all.now c.args.plain.now c.args.implanted.now 0)
      (sym c.new-channels.ensures) (listed_none c.args.gates.now c.args.all.now c.args.plain.now c.args.implanted.now);
  within = omega arith;
  before = λ j l. absurd (omega arith);
  after = λ j l u. omega arith;
}

pub loop-i-preserved : goal.loop-i-preserved
loop-i-preserved c =
    let n : c.in-Ok.number ≡ c.loop-i.i = c.in-Ok.ensures.1 in
    let e = c.in_ok-ends.ensures in
    record {
      listed =
          subst (AreListed c.args.gates.now c.args.all.now c.args.plain.now c.args.implanted.now (c.loop-i.i + 1))
          (sym c.in_ok-push.ensures.ok)
          (listed_more c.args.gates.now c.args.all.now c.args.plain.now c.args.implanted.now c.loop-i.i
          c.loop-i.channels
          (record { gate = get_or c.args.gates.now c.loop-i.i 0; ends = c.in_ok-ends.ends; kind = c.kind-kind.result })
          c.loop-i.invariant.listed (record {
            gate = refl;
            ascending = e.ascending;
            ends_are =
                subst (λ m. (k : ℕ) → Contains c.in_ok-ends.ends k ↔ Contains c.args.all.now (pair_of m k)) n e.each;
            kind = c.kind-kind.ensures;
          }));
      within = e.within;
      before = λ j l. let b = e.before j l in omega arith;
      after = λ j l u. let b = e.after j l u in omega arith;
    }
