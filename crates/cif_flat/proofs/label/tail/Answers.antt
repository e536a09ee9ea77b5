use Rattle.std.proofs.Common.{sym, subst, arith, Some, None, All}
use Rattle.cif_form.specs.Place.{layer_name}
use Rattle.cif_form.specs.Labels.{IsSpace}
use Rattle.cif_flat.specs.Labelling.{Tail}
use Rattle.cif_flat.proofs.Words.{one_word, tail_spaces, tail_word, word_tail, not_all, all_spaces}
use Rattle.cif_flat.proofs.label.tail.Goals as goal

pub returns-in_err-word-clause-none : goal.returns-in_err-word-clause-none
returns-in_err-word-clause-none c = rw c.from_residual.ensures (λ l t. elim l as (λ l. Tail l c.args.text.now → _) [
  | None ↦
      (λ t. not_all c.args.text.now c.space_count.result (omega arith) c.space_count.ensures.stops
      (tail_spaces c.args.text.now t))
  | Some m ↦ (λ t. let w = tail_word m c.args.text.now t in c.in_err-word.ensures.none (layer_name m) w.0 w.1)
] t)

pub returns-then-space_count-end-clause-none : goal.returns-then-space_count-end-clause-none
returns-then-space_count-end-clause-none c = λ l t. elim l as (λ l. Tail l c.args.text.now → _) [
  | None ↦
      (λ t. not_all c.args.text.now c.space_count.result (omega arith) c.space_count.ensures.stops
      (tail_spaces c.args.text.now t))
  | Some m ↦ (λ t.
      let w = tail_word m c.args.text.now t in
      let e = one_word c.args.text.now c.in_ok-word.word.now
      (layer_name m) c.in_ok-word.end.now w.0 c.in_ok-word.ensures.some w.1 in
      not_all c.in_ok-word.end.now c.space_count-2.result c.if-space_count-end.true c.space_count-2.ensures.stops
      (subst (All IsSpace) (sym e.1) w.2))
] t

pub returns-in_err-layer-clause-none : goal.returns-in_err-layer-clause-none
returns-in_err-layer-clause-none c =
    rw c.from_residual-in_err-layer.ensures (λ l t. elim l as (λ l. Tail l c.args.text.now → _) [
      | None ↦
          (λ t. not_all c.args.text.now c.space_count.result (omega arith) c.space_count.ensures.stops
          (tail_spaces c.args.text.now t))
      | Some m ↦ (λ t.
          let w = tail_word m c.args.text.now t in
          let e = one_word c.args.text.now c.in_ok-word.word.now
          (layer_name m) c.in_ok-word.end.now w.0 c.in_ok-word.ensures.some w.1 in
          c.in_err-layer.ensures.none m w.3 e.0)
    ] t)

pub returns-clause-some : goal.returns-clause-some
returns-clause-some c =
    let w = c.in_ok-word.ensures.some in
    let d = c.in_ok-layer.ensures.some in
    word_tail c.in_ok-layer.layer c.args.text.now _ _ w d.0 d.1
    (all_spaces _ c.space_count-2.result (omega arith) c.space_count-2.ensures.spaces)
