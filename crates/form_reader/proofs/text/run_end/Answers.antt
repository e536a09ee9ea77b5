use Rattle.std.proofs.Common.{◌+◌, ◌∙◌, ap, sym}
use Rattle.mp_base.specs.Token.{is_token}
use Rattle.form_reader.proofs.Scan.{all_more, own_place, offset_of}
use Rattle.form_reader.proofs.text.run_end.Goals as goal

pub loop-i-preserved : goal.loop-i-preserved
loop-i-preserved c =
    let xs = c.args.bytes.now in
    record {
      run = all_more is_token xs c.args.from.offset c.loop-i.i c.loop-i.auto.i c.loop-i-test.true
          c.loop-i.invariant.run (sym c.is_token.ensures ∙ c.if-not-is_token.false);
      offset = offset_of xs c.behind-place.result _ c.behind-place.ensures ∙ ap (λ z. z + 1) c.loop-i.invariant.offset;
      place = own_place xs c.behind-place.result _ c.behind-place.ensures;
    }
