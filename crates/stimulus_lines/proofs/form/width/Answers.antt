use Rattle.std.proofs.Common.{◌≡◌, true, sym, ◌∙◌, ap, arith}
use Rattle.std.specs.Prelude.{decimal, not}
use Rattle.std.specs.Str.{bytes_eq}
use Rattle.std.proofs.lemmas.Bool.{both_ways, not-true}
use Rattle.std.proofs.lemmas.Slice.Eq.{bytes_eq-Decides}
use Rattle.stimulus_lines.proofs.Numbers.{width_number, number_same}
use Rattle.stimulus_lines.proofs.form.width.Goals as goal
use Rattle.stimulus_lines.proofs.form.width.Goals.{then-bits-lt1-via-then-bits-lt1}
use Rattle.stimulus_lines.proofs.form.width.Goals.{then-bits-lt1-via-else-bits-lt1+then-bits-gt64}
use Rattle.stimulus_lines.proofs.form.width.Goals.{then-bits-lt1-via-else-bits-lt1+else-bits-gt64+then-ne}

pub returns-in_err-bits : goal.returns-in_err-bits
returns-in_err-bits c = rw c.from_residual.ensures (λ n h. c.in_err-bits.ensures n (width_number c.args.word.now n h))

pub returns-then-bits-lt1 : goal.returns-then-bits-lt1
returns-then-bits-lt1 c = λ n h.
    let same : n ≡ c.in_ok-bits.bits =
    number_same c.args.word.now n c.in_ok-bits.bits (width_number c.args.word.now n h) c.in_ok-bits.ensures in
    elim c.then-bits-lt1.branch [
      | then-bits-lt1-via-then-bits-lt1 w ↦ omega (arith, same, h.1)
      | then-bits-lt1-via-else-bits-lt1+then-bits-gt64 w ↦ omega (arith, same, h.2)
      | then-bits-lt1-via-else-bits-lt1+else-bits-gt64+then-ne w ↦
          let other : true ≡ not (bytes_eq w.as_bytes.result.now c.args.word.now) = w.if-ne.ensures in
          let text : w.as_bytes.result.now ≡ c.args.word.now =
          w.as_bytes.ensures.value ∙ w.format.ensures.text ∙ ap decimal (sym same) ∙ sym h.0 in
          both_ways _ (not-true _ (sym other)) ((bytes_eq-Decides w.as_bytes.result.now c.args.word.now).1 text)
    ]
