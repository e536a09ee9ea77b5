use Rattle.std.proofs.Common.{length, subst}
use Rattle.path_flat.specs.Numbers.{HasShape}
use Rattle.path_flat.proofs.flattening.number_all.Goals as goal

pub number_places-requires-clause-shape : goal.number_places-requires-clause-shape
number_places-requires-clause-shape c =
    let p = c.args.path.now in
    subst (λ n. HasShape p.width n (length p.slices.net) c.in_ok-numbers.numbers) c.len.ensures.len
    (subst (λ n. HasShape p.width c.len.result n c.in_ok-numbers.numbers) c.len-2.ensures.len
    c.in_ok-numbers.ensures)

pub returns : goal.returns
returns c = record {
  shapes = (c.len.ensures.shape, c.len-2.ensures.shape);
  numbered = c.in_ok-number_places.ensures.numbered;
  few = c.in_ok-number_places.ensures.few;
}
