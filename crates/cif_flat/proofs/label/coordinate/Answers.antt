use Rattle.std.proofs.Common.{◌∙◌, ◌∷◌, [], refl, ap, arith, inl, inr}
use Rattle.std.specs.Prelude.{pos, neg_ℤ}
use Rattle.std.proofs.lemmas.Int.{ints}
use Rattle.cif_flat.proofs.Words.{small_negative}
use Rattle.cif_flat.proofs.label.coordinate.Goals as goal

pub returns-then-first-eq45-clause-some : goal.returns-then-first-eq45-clause-some
returns-then-first-eq45-clause-some c =
    let n = c.in_ok-number.number in
    let s = c.in_ok-number.ensures.some in
    let k = c.in_ok-first.ensures.cases.0 in (
      neg_ℤ (pos n),
      omega (arith, ints, s.0),
      small_negative n s.0,
      (
        n,
        inr (
          refl,
          (45 ∷ [], c.in_ok-first.rest.now, k ∙ ap (λ b. b ∷ c.in_ok-first.rest.now) c.if-first-eq45.true, refl, s.1),
        ),
      ),
    )

pub returns-clause-some : goal.returns-clause-some
returns-clause-some c =
    let n = c.in_ok-number-2.number in
    let s = c.in_ok-number-2.ensures.some in
    (pos n, omega (arith, ints, s.0), s.0, (n, inl (refl, s.1)))
