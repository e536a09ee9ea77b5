use Rattle.std.proofs.Common.{◌≡◌, ℕ, get_or, arith, ◌∙◌, subst}
use Rattle.union_find.specs.Roots.{root}
use Rattle.union_find.proofs.Roots.{root_joined, root_fixed, root_at}
use Rattle.union_find.proofs.forest.join.Goals as goal

pub returns-then-r-s-clause-moved : goal.returns-then-r-s-clause-moved
returns-then-r-s-clause-moved c k =
    let p : _ = c.find-s.new.parents in
    let r : ℕ = c.find-r.result in
    let s : ℕ = c.find-s.result in
    let er : r ≡ root c.args.parents.now c.args.a = c.find-r.ensures.root in
    let es : s ≡ root c.args.parents.now c.args.b = c.find-s.ensures.root ∙ c.find-r.ensures.kept c.args.b in
    let fr : root p r ≡ r = c.find-s.ensures.kept r ∙ root_at c.find-r.new.parents r c.find-r.ensures.standing in
    let gr : get_or p r 0 ≡ r = subst (λ n. get_or p n 0 ≡ n) fr (root_fixed p c.find-s.ensures.still r) in
    root_joined c.args.parents.now p c.find-s.ensures.still (λ i. c.find-s.ensures.kept i ∙ c.find-r.ensures.kept i)
    s r c.find-s.ensures.inside c.if-r-s.true c.find-s.ensures.standing gr _ _ (omega arith) (omega arith) k

pub returns-then-s-r-clause-moved : goal.returns-then-s-r-clause-moved
returns-then-s-r-clause-moved c k =
    let p : _ = c.find-s.new.parents in
    let r : ℕ = c.find-r.result in
    let s : ℕ = c.find-s.result in
    let er : r ≡ root c.args.parents.now c.args.a = c.find-r.ensures.root in
    let es : s ≡ root c.args.parents.now c.args.b = c.find-s.ensures.root ∙ c.find-r.ensures.kept c.args.b in
    let fr : root p r ≡ r = c.find-s.ensures.kept r ∙ root_at c.find-r.new.parents r c.find-r.ensures.standing in
    let gr : get_or p r 0 ≡ r = subst (λ n. get_or p n 0 ≡ n) fr (root_fixed p c.find-s.ensures.still r) in
    root_joined c.args.parents.now p c.find-s.ensures.still (λ i. c.find-s.ensures.kept i ∙ c.find-r.ensures.kept i)
    r s (omega arith) c.if-s-r.true gr c.find-s.ensures.standing _ _ (omega arith) (omega arith) k
