use Rattle.std.proofs.Common.{◌≡◌, ◌∙◌, ap, arith, w64, to_z, of_z, drop}
use Rattle.std.proofs.lemmas.Int.{ints}
use Rattle.cif_form.specs.declared.command.Command.TheVariants.{Box}
use Rattle.cif_form.specs.Readers.{goes_on, gives, integer_from}
use Rattle.cif_form.specs.Readers.{point_from, box_long, box_sized, box_at}
use Rattle.cif_reader.proofs.Readers.{both}
use Rattle.cif_reader.proofs.command.box_of.Goals as goal

pub returns : goal.returns
returns c =
    let l = c.in_ok-length.ensures.answers in
    let w = c.in_ok-width.ensures in
    let p = c.in_ok-center.ensures in
    let d = c.in_ok-along.ensures in
    let long : to_z w64 (of_z w64 c.in_ok-length.length.value) ≡ c.in_ok-length.length.value = omega (arith, ints) in
    let wide : to_z w64 (of_z w64 c.in_ok-width.width.value) ≡ c.in_ok-width.width.value = omega (arith, ints) in
    record {
      exact = Box l.exact w.exact p.exact d.exact;
      found =
          ap (goes_on box_long) l.found
          ∙ both integer_from (box_sized l.exact) (drop c.in_ok-length.length.end c.args.bytes.now)
          ∙ ap (goes_on (box_sized l.exact)) w.found
          ∙ both point_from (box_at l.exact w.exact) (drop c.in_ok-width.width.end c.args.bytes.now)
          ∙ ap (goes_on (box_at l.exact w.exact)) p.found
          ∙ ap (goes_on (gives (Box l.exact w.exact p.exact))) d.found;
      value_is = (λ i. Box ((long ∙ l.value_is) i) ((wide ∙ w.value_is) i) (p.value_is i) (d.value_is i));
      behind = omega arith;
      within = d.within;
    }
