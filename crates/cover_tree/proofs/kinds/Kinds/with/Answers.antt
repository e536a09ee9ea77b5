use Rattle.cover_tree.proofs.Sets.{with_none, with_own}
use Rattle.cover_tree.proofs.kinds.Kinds.with.Goals as goal

-- src/kinds.rt
pub returns-then-own-eq0 : goal.returns-then-own-eq0
returns-then-own-eq0 c = with_none c.args.self c.args.own c.if-own-eq0.true

-- src/kinds.rt
pub returns : goal.returns
returns c = with_own c.args.own c.args.self c.besides-5.result (record {
  k = c.besides.result;
  l = c.besides-2.result;
  m = c.besides-3.result;
  n = c.besides-4.result;
  nd = record { each = rw (← c.has.ensures) c.besides.ensures };
  np = record { each = rw (← c.has-2.ensures) c.besides-2.ensures };
  nb = record { each = rw (← c.has-3.ensures) c.besides-3.ensures };
  further = record { each = rw (← c.has-4.ensures) c.besides-4.ensures };
  nm = record { each = rw (← c.has-5.ensures) c.besides-5.ensures };
})
