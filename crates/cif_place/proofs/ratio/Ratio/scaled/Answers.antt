use Rattle.std.proofs.Common.{arith, ◌^◌, ◌*◌, ◌≡◌, sym, ◌∙◌, subst, lit≤, to_z, of_z, w64}
use Rattle.std.specs.Prelude.{◌*ℤ◌}
use Rattle.std.proofs.lemmas.Int.{ints}
use Rattle.cif_place.proofs.Numbers.{within_times, within_more}
use Rattle.cif_place.specs.Placing.{IsWithin}
use Rattle.cif_place.proofs.ratio.Ratio.scaled.Goals as goal

pub quotient-requires-clause-product : goal.quotient-requires-clause-product
quotient-requires-clause-product c =
    let f = c.requires.fit in
    let t = c.product.type_inv in
    let w : IsWithin (2_147_483_647 * 2 ^ 33) (c.args.self.a *ℤ c.args.distance) =
    within_times 2_147_483_647 (2 ^ 33) c.args.self.a c.args.distance
    (omega (arith, ints, f.a, f.short_a), omega (arith, ints, f.short_a)) c.requires.short in
    let r = c.ranges.distance in
    let a : to_z w64 (of_z w64 c.args.self.a) ≡ c.args.self.a = omega (arith, ints, f.a, f.short_a) in
    let d : to_z w64 (of_z w64 c.args.distance) ≡ c.args.distance = omega (arith, ints) in
    let e : c.product.result ≡ c.args.self.a *ℤ c.args.distance = c.product.ensures ∙ (λ i. a i *ℤ d i) in
    let k : IsWithin (2 ^ 64) c.product.result =
    subst (IsWithin (2 ^ 64)) (sym e) (within_more (2_147_483_647 * 2 ^ 33) (2 ^ 64) _ (lit≤ tt) w) in
    (omega (arith, ints, k.0), omega (arith, ints, k.1))
