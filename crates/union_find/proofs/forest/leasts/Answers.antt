use Rattle.std.proofs.Common.{◌≡◌, arith, rules, length, sym, ◌∙◌, subst}
use Rattle.union_find.specs.Leasts.{AreLeasts}
use Rattle.union_find.proofs.Chains.{apart_joined, joined_leasts}
use Rattle.union_find.proofs.Finding.{put_back}
use Rattle.union_find.proofs.forest.leasts.Goals as goal

pub join_all-requires-clause-start : goal.join_all-requires-clause-start
join_all-requires-clause-start c =
    rw c.as_mut_slice-table.ensures.value
    (apart_joined c.args.pairs.now c.args.count c.in_ok-parents.parents.items c.in_ok-parents.ensures)

pub returns : goal.returns
returns c =
    let n : length c.in_ok-parents.parents.items ≡ c.args.count = c.in_ok-parents.ensures.0 in
    let e : length c.flatten.new.parents ≡ length c.in_ok-parents.parents.items = search rules in
    let m : length c.join_all.new.parents ≡ c.args.count = search rules in
    let all : AreLeasts c.args.count c.args.pairs.now c.flatten.new.parents
    = joined_leasts c.args.pairs.now c.args.count c.join_all.new.parents c.flatten.new.parents c.join_all.ensures m
    (e ∙ n) (λ k l. c.flatten.ensures k (omega arith)) c.requires in
    let back =
    put_back c.in_ok-parents.parents.len c.flatten.new.parents c.in_ok-parents.parents.items e (search rules) in
    subst (AreLeasts c.args.count c.args.pairs.now) (sym back) all
