use Rattle.std.proofs.Common.{◌≡◌, ℕ, suc, ◌+◌, ◌≤◌, List, ◌++◌, Err, take, drop, length, sym, ◌∙◌, ap, subst, arith}
use Rattle.std.proofs.Common.{append_assoc, codes}
use Rattle.std.specs.Prelude.{decimal}
use Rattle.std.proofs.lemmas.List.{take_all}
use Rattle.std.proofs.lemmas.Result.{err_from_is_err_and}
use Rattle.outside.specs.Outside.{WhereTold, Gains}
use Rattle.outside.specs.Piece.{TakesAll}
use Rattle.outside.specs.declared.calls.Failed.{Failed}
use Rattle.mp_base.specs.declared.pad.Pad.{Pad}
use Rattle.mp_base.specs.declared.value.TritWord.{TritWord}
use Rattle.outside.proofs.Told.{gains_twice}
use Rattle.outside.proofs.Written.{gained, gained_then, cut_before}
use Rattle.stimulus.proofs.Texts.{word_text, word_texts, line_split, texts_more}
use Rattle.stimulus.proofs.transcript.line.Goals as goal

pub returns-in_err-write_pad-clause-taken : goal.returns-in_err-write_pad-clause-taken
returns-in_err-write_pad-clause-taken g c =
    let p = err_from_is_err_and c.from_residual-in_err-write_pad.result c.from_residual-in_err-write_pad.ensures.1 in
    let start : List ℕ = decimal c.args.clock in
    let ps : List Pad = c.as_slice-outputs.result.now in
    let vs : List TritWord = c.as_slice-values.result.now in
    let i : ℕ = c.loop-i.i in
    let pad : Pad = c.index-outputs-i.result in
    let value : TritWord = c.index-values-i.result in
    let h0 = g.O.Sink.held c.args.out.now in
    let h1 = g.O.Sink.held c.loop-i.out in
    let h2 = g.O.Sink.held c.write_pad.new.out in
    let same : length ps ≡ length vs =
    ap length c.as_slice-outputs.ensures ∙ sym c.requires ∙ ap length (sym c.as_slice-values.ensures) in
    let front : List ℕ = start ++ word_texts (take i ps) (take i vs) in
    let rest : List ℕ = word_texts (drop (suc i) ps) (drop (suc i) vs) ++ codes "\n" in
    let short : TakesAll {T = Unit {0}} {E = Failed} Gains h1 h2 (word_text pad value)
    (Err c.in_err-write_pad.field-0.0) = c.in_err-write_pad.ensures.taken in
    let P : List ℕ → Type 0 = λ t. TakesAll {T = Unit {0}} {E = Failed} Gains h0 h2 t (Err p.0) in
    let all : front ++ (word_text pad value ++ rest) ≡ start ++
    (word_texts c.args.pads.now.outputs c.args.values.now ++ codes "\n") =
    sym (line_split start ps vs i pad value c.loop-i-test.true
    (omega (arith, same, c.loop-i-test.true)) c.index-outputs-i.is c.index-values-i.is)
    ∙ ap (λ qs. start ++ (word_texts qs vs ++ codes "\n")) c.as_slice-outputs.ensures
    ∙ ap (λ ws. start ++ (word_texts c.args.pads.now.outputs ws ++ codes "\n")) c.as_slice-values.ensures in
    rw (p.1) (subst P all (gained_then h0 h1 h2 front (word_text pad value ++ rest) (Err p.0) c.loop-i.invariant.held
    (cut_before c.in_err-write_pad.field-0.0 p.0 h1 h2 (word_text pad value) rest short)))

pub loop-i-preserved : goal.loop-i-preserved
loop-i-preserved g c =
    let start : List ℕ = decimal c.args.clock in
    let ps : List Pad = c.as_slice-outputs.result.now in
    let vs : List TritWord = c.as_slice-values.result.now in
    let i : ℕ = c.loop-i.i in
    let pad : Pad = c.index-outputs-i.result in
    let value : TritWord = c.index-values-i.result in
    let h0 = g.O.Sink.held c.args.out.now in
    let h1 = g.O.Sink.held c.loop-i.out in
    let h2 = g.O.Sink.held c.write_pad.new.out in
    let same : length ps ≡ length vs =
    ap length c.as_slice-outputs.ensures ∙ sym c.requires ∙ ap length (sym c.as_slice-values.ensures) in
    let front : List ℕ = word_texts (take i ps) (take i vs) in
    let one : WhereTold (Gains (word_text pad value)) h1 h2 =
    gained c.in_ok-write_pad.field-0 h1 h2 (word_text pad value) c.in_ok-write_pad.ensures.taken in
    let P : List ℕ → Type 0 = λ t. WhereTold (Gains t) h0 h2 in
    let more : (start ++ front) ++ word_text pad value ≡ start ++ word_texts (take (i + 1) ps) (take (i + 1) vs) =
    append_assoc start front (word_text pad value)
    ∙ ap (λ t. start ++ t)
    (sym (texts_more ps vs i pad value c.loop-i-test.true
    (omega (arith, same, c.loop-i-test.true)) c.index-outputs-i.is c.index-values-i.is)) in
    record {
      held = subst P more (gains_twice (start ++ front) (word_text pad value) h0 h1 h2 c.loop-i.invariant.held one);
      faults = c.in_ok-write_pad.ensures.cause.ok ∙ c.loop-i.invariant.faults;
    }

-- a line whose pads were all written
whole_line : (start : List ℕ) (ps qs : List Pad) (vs ws : List TritWord) (i : ℕ) → length ps ≡ length vs
    → length ps ≤ i → ps ≡ qs → vs ≡ ws
    → (start ++ word_texts (take i ps) (take i vs)) ++ codes "\n" ≡ start ++ (word_texts qs ws ++ codes "\n")
whole_line start ps qs vs ws i same end e f =
    append_assoc start (word_texts (take i ps) (take i vs)) (codes "\n")
    ∙ ap (λ t. start ++ (word_texts t (take i vs) ++ codes "\n")) (take_all i ps end ∙ e)
    ∙ ap (λ t. start ++ (word_texts qs t ++ codes "\n")) (take_all i vs (omega arith) ∙ f)

pub returns-clause-taken : goal.returns-clause-taken
returns-clause-taken g c =
    let start : List ℕ = decimal c.args.clock in
    let ps : List Pad = c.as_slice-outputs.result.now in
    let vs : List TritWord = c.as_slice-values.result.now in
    let h0 = g.O.Sink.held c.args.out.now in
    let h1 = g.O.Sink.held c.loop-i.out in
    let h2 = g.O.Sink.held c.write_all-2.new.out in
    let P : List ℕ → Type 0 = λ t. TakesAll {T = Unit {0}} {E = Failed} Gains h0 h2 t c.write_all-2.result in
    let same : length ps ≡ length vs =
    ap length c.as_slice-outputs.ensures ∙ sym c.requires ∙ ap length (sym c.as_slice-values.ensures) in
    subst P (whole_line start ps c.args.pads.now.outputs vs c.args.values.now c.loop-i.i same c.loop-i-test.false
    c.as_slice-outputs.ensures c.as_slice-values.ensures)
    (gained_then h0 h1 h2 (start ++ word_texts (take c.loop-i.i ps) (take c.loop-i.i vs))
    (codes "\n") c.write_all-2.result c.loop-i.invariant.held c.write_all-2.ensures.taken)
