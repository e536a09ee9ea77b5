use Rattle.std.proofs.Common.{subst, subst₂}
use Rattle.extractor.specs.Extracted.{IsExtracted}
use Rattle.mask_sizes.specs.Measured.{IsMeasured}
use Rattle.mask_spice.proofs.drawn.deck_of.Goals as goal

pub returns-clause-drawn : goal.returns-clause-drawn
returns-clause-drawn c =
    let net = c.in_ok-net.net in
    let sizes = c.in_ok-sizes.sizes in
    record {
      shapes = c.in_ok-flat.flat.shapes;
      labels = c.in_ok-flat.flat.labels;
      drawing = c.in_ok-flat.ensures.ok;
      network = net;
      extracted = subst₂ (λ s l. IsExtracted s l net) c.as_slice.ensures c.as_slice-2.ensures c.in_ok-net.ensures.ok;
      sizes = sizes;
      measured = subst (λ s. IsMeasured s sizes) c.as_slice-3.ensures c.in_ok-sizes.ensures;
      deck = c.in_ok-deck.ensures;
    }

pub returns-clause-judged : goal.returns-clause-judged
returns-clause-judged c =
    let net = c.in_ok-net.net in (
      net,
      record {
        shapes = c.in_ok-flat.flat.shapes;
        labels = c.in_ok-flat.flat.labels;
        drawing = c.in_ok-flat.ensures.ok;
        mask = subst₂ (λ s l. IsExtracted s l net) c.as_slice.ensures c.as_slice-2.ensures c.in_ok-net.ensures.ok;
      },
    )
