use Rattle.std.proofs.Common.{ℕ, List, Bor, true, arith, subst}
use Rattle.std.specs.Ordering.{nat_cmp}
use Rattle.std.specs.Cmp.Lexicographic.{slice_cmp}
use Rattle.std.specs.BTreeSet.{UpdatesBy}
use Rattle.mp_base.proofs.Entries.{entry}
use Rattle.mp_transfers.proofs.Naming.{names_more}
use Rattle.mp_transfers.proofs.labels.names_of.Goals as goal

pub loop-label-preserved : goal.loop-label-preserved
loop-label-preserved c =
    let U : List ℕ
    → Type 0 = λ key. UpdatesBy (λ (x y : Bor (List ℕ)). slice_cmp nat_cmp x.now y.now)
    (λ k. slice_cmp nat_cmp key k.now) c.loop-label.names c.insert.new.self true in
    names_more c.loop-label.names c.insert.new.self c.args.labels.now c.loop-label.label-index c.label-item.result
    c.loop-label.invariant
    (entry c.args.labels.now c.loop-label.label-index (omega arith) c.label-item.is)
    (subst U c.bytes.ensures c.in_ok-insert.ensures.updates)
