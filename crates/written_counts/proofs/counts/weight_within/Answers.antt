use Rattle.std.proofs.Common.{◌≡◌, ◌∙◌, ◌≤◌, ◌<◌, ◌+◌, ap, subst, arith}
use Rattle.std.specs.Option.{MatchOption}
use Rattle.std.specs.Prelude.{min}
use Rattle.std.specs.List.{sum_by}
use Rattle.mp_written.specs.Expansion.{tops}
use Rattle.written_counts.specs.declared.tally.Measure.TheVariants.{Weight}
use Rattle.written_counts.specs.Counts.{counted}
use Rattle.written_counts.specs.Frames.{weight_beside}
use Rattle.written_counts.specs.Tallies.{cost}
use Rattle.written_counts.proofs.Totalled.{weight_parts, over_limit, in_limit}
use Rattle.written_counts.proofs.counts.weight_within.Goals as goal

pub returns-in_default : goal.returns-in_default
returns-in_default c =
    let w = c.args.program.now in
    let all = weight_beside c.args.frame.now in
    let parts = weight_parts w c.args.frame.now c.requires.frame in
    let over = subst (λ o. MatchOption o (c.args.limit < all) (λ n. (n ≡ all) × (n ≤ c.args.limit))) c.in_default.is
    c.in_ok-beside.ensures in
    omega (arith, parts, over)

pub returns-then-weight-from : goal.returns-then-weight-from
returns-then-weight-from c =
    let w = c.args.program.now in
    let limit = c.args.limit in
    let all = weight_beside c.args.frame.now in
    let parts = weight_parts w c.args.frame.now c.requires.frame in
    let told = subst (λ o. MatchOption o (limit < all) (λ n. (n ≡ all)
    × (n ≤ limit))) c.in-Some.is c.in_ok-beside.ensures in
    let same = c.from-2.ensures ∙ told.0 in
    let high = c.from.ensures in
    let cap = c.from-3.ensures in
    let le = c.if-weight-from.true in
    let x = sum_by (counted (cost Weight w) w) (tops w) in
    let within : c.from-2.result + c.in_ok-weight.field-0 ≤ limit = omega (arith, le, cap) in
    let total = c.in_ok-weight.ensures ∙ ap (λ n. min (n + 1) x) high in
    let sum = in_limit limit c.from-2.result x c.in_ok-weight.field-0 total within in
    (omega (arith, sum, same, parts), within)

pub returns : goal.returns
returns c =
    let w = c.args.program.now in
    let limit = c.args.limit in
    let all = weight_beside c.args.frame.now in
    let parts = weight_parts w c.args.frame.now c.requires.frame in
    let told = subst (λ o. MatchOption o (limit < all) (λ n. (n ≡ all)
    × (n ≤ limit))) c.in-Some.is c.in_ok-beside.ensures in
    let same = c.from-2.ensures ∙ told.0 in
    let high = c.from.ensures in
    let cap = c.from-3.ensures in
    let gt = c.if-weight-from.false in
    let x = sum_by (counted (cost Weight w) w) (tops w) in
    let over : limit < c.from-2.result + c.in_ok-weight.field-0 = omega (arith, gt, cap) in
    let total = c.in_ok-weight.ensures ∙ ap (λ n. min (n + 1) x) high in
    let more = over_limit limit c.from-2.result x c.in_ok-weight.field-0 total over in
    omega (arith, more, same, parts)
