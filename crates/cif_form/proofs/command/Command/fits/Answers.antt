use Rattle.std.proofs.Common.{◌≡◌, ◌∙◌, List, [], ◌∷◌, sym, subst, arith, true, false, All, w64, to_z, of_z}
use Rattle.std.specs.Prelude.{ℤ}
use Rattle.std.proofs.lemmas.Int.{ints}
use Rattle.std.proofs.lemmas.List.Elements.{All-nil, All-cons, All-tail}
use Rattle.cif_form.specs.Fits.{IsSmall, Fits}
use Rattle.cif_form.proofs.Fitting.{IsUnsigned}
use Rattle.cif_form.proofs.command.Command.fits.Goals as goal

pub returns-else-are_unsigned : goal.returns-else-are_unsigned
returns-else-are_unsigned c =
    let l : to_z w64 (of_z w64 c.in-Box.length) ≡ c.in-Box.length = omega (arith, ints) in
    let w : to_z w64 (of_z w64 c.in-Box.width) ≡ c.in-Box.width = omega (arith, ints) in (
      (λ h. absurd (let e : false ≡ true = sym c.if-are_unsigned.false ∙ h in cc)),
      (λ f. c.are_unsigned.ensures.1
          (subst (All IsUnsigned) (λ i. sym l i ∷ sym w i ∷ []) (subst Fits c.in-Box.is f).unsigned)),
    )

pub returns-then-is_unsigned-3 : goal.returns-then-is_unsigned-3
returns-then-is_unsigned-3 c =
    let n : to_z w64 (of_z w64 c.in-Start.number) ≡ c.in-Start.number = omega (arith, ints) in
    let a : to_z w64 (of_z w64 c.in-Start.a) ≡ c.in-Start.a = omega (arith, ints) in
    let b : to_z w64 (of_z w64 c.in-Start.b) ≡ c.in-Start.b = omega (arith, ints) in
    let number : IsUnsigned c.in-Start.number =
    subst IsUnsigned n (c.is_unsigned-in-Start.ensures.0 c.if-is_unsigned-3.true) in
    let scale : List ℤ = c.in-Start.a ∷ c.in-Start.b ∷ [] in (
      (λ h. subst Fits (sym c.in-Start.is) (record {
        unsigned =
            All-cons IsUnsigned c.in-Start.number scale number
            (subst (All IsUnsigned) (λ i. a i ∷ b i ∷ []) (c.are_unsigned-then-is_unsigned-3.ensures.0 h));
        signed = All-nil IsSmall;
        formed = tt;
      })),
      (λ f. c.are_unsigned-then-is_unsigned-3.ensures.1 (subst (All IsUnsigned) (λ i. sym a i ∷ sym b i ∷ [])
          (All-tail IsUnsigned c.in-Start.number scale (subst Fits c.in-Start.is f).unsigned))),
    )
