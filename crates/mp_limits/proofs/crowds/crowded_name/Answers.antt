use Rattle.std.proofs.Common.{◌≡◌, ◌<◌, List, ℕ, length, ◌∙◌, ap, subst, arith}
use Rattle.std.specs.List.Sorted.{IsPermutation}
use Rattle.std.proofs.lemmas.List.{get_or_read}
use Rattle.std.proofs.lemmas.List.Sorted.{IsNonDecreasingBy-from_sort}
use Rattle.mp_rules.specs.declared.limits.TheConstants.{NAMING_LIMIT}
use Rattle.mp_limits.specs.Finding.{named_from}
use Rattle.mp_limits.proofs.Crowded.{offsets_of, few_names, from_earliest}
use Rattle.mp_limits.proofs.crowds.crowded_name.Goals as goal

pub returns-then-len-le-NAMING_LIMIT : goal.returns-then-len-le-NAMING_LIMIT
returns-then-len-le-NAMING_LIMIT c = few_names c.args.program.now
    (let same : length c.in_ok-offsets.offsets.items ≡ length (offsets_of c.args.program.now) =
    ap length c.in_ok-offsets.ensures in omega (arith, same))

pub returns : goal.returns
returns c =
    let s = c.sort_unstable.new.self.items in
    let P : List ℕ → Type 0 = λ xs. IsPermutation xs s in
    let long : NAMING_LIMIT < length s = omega arith in
    from_earliest c.args.program.now s c.named_from.result
    (IsNonDecreasingBy-from_sort (λ x. x) s c.sort_unstable.ensures.sorted)
    (subst P c.in_ok-offsets.ensures c.sort_unstable.ensures.permutation) long
    (c.named_from.ensures
    ∙ ap (named_from c.args.program.now)
    (get_or_read s NAMING_LIMIT c.index.result.now (omega (arith, long)) c.index.ensures 0))
