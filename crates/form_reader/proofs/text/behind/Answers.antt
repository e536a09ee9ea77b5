use Rattle.std.proofs.Common.{ap, arith, take, length-take}
use Rattle.std.specs.Prelude.{not}
use Rattle.mp_base.specs.declared.refusal.Place.{Place}
use Rattle.std.proofs.lemmas.List.Sums.{suffix_len-le-length}
use Rattle.mp_base.specs.Lines.{is_feed}
use Rattle.form_reader.proofs.text.behind.Goals as goal

pub overflow_add-result-else-bytes-offset-eq10-2 : goal.overflow_add-result-else-bytes-offset-eq10-2
overflow_add-result-else-bytes-offset-eq10-2 c =
    omega (
      arith,
      ap (λ (p : Place). p.column) c.requires.place,
      suffix_len-le-length (λ b. not (is_feed b)) (take c.args.place.offset c.args.bytes.now),
      length-take c.args.place.offset c.args.bytes.now,
    )
