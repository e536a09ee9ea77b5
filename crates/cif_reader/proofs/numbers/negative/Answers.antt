use Rattle.std.proofs.Common.{◌≡◌, ◌∙◌, ap, pos, neg_ℤ, ◌-ℤ◌, w64, to_z, of_z, arith}
use Rattle.std.proofs.lemmas.Int.{ints}
use Rattle.cif_form.specs.Readers.{goes_on, gives}
use Rattle.cif_reader.proofs.Readers.{cut_negative}
use Rattle.cif_reader.proofs.numbers.negative.Goals as goal

pub returns-clause-answers : goal.returns-clause-answers
returns-clause-answers c =
    let value = c.in_ok-value.field-0.value in
    let f = c.in_ok-value.ensures.answers in
    let small = c.in_ok-value.ensures.small in
    let minus : to_z w64 (of_z w64 (pos 0 -ℤ to_z w64 value)) ≡ neg_ℤ (pos value) = omega (arith, ints, small) in
    record {
      exact = neg_ℤ (pos f.exact);
      found = ap (goes_on (gives (λ n. neg_ℤ (pos n)))) f.found;
      value_is = minus ∙ cut_negative f.exact value f.value_is;
      behind = f.behind;
      within = f.within;
    }
