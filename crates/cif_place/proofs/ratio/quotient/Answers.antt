use Rattle.std.proofs.Common.{arith, ◌≡◌, ◌∙◌, ap, to_z, of_z, w64}
use mir.Syntax.{w128}
use Rattle.std.specs.Int.RustNames.{int_rem}
use Rattle.std.proofs.lemmas.Int.{ints}
use Rattle.cif_place.proofs.Numbers.{rem_multiple}
use Rattle.cif_place.proofs.ratio.quotient.Goals as goal

pub returns-else-product-divisor-eq0-clause-uneven : goal.returns-else-product-divisor-eq0-clause-uneven
returns-else-product-divisor-eq0-clause-uneven c = λ z e.
    let r = rem_multiple c.args.divisor z c.args.product c.requires.above e in
    let d = c.ranges.divisor in
    let p = c.ranges.product in
    let i = c.from-divisor.ensures in
    let j : to_z w64 (of_z w64 c.args.divisor) ≡ c.args.divisor = omega (arith, ints) in
    let k : c.from-divisor.result ≡ c.args.divisor = i ∙ j in
    let t = c.from-divisor.type_inv in
    let a : to_z w128 (of_z w128 c.args.product) ≡ c.args.product = omega (arith, ints) in
    let b : to_z w128 (of_z w128 c.from-divisor.result) ≡ c.args.divisor = omega (arith, ints) in
    c.if-product-divisor-eq0.false ((λ i. of_z w128 (int_rem (a i) (b i))) ∙ ap (of_z w128) r)
