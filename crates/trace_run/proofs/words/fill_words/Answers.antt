use Rattle.std.proofs.Common.{◌≡◌, ℕ, ◌+◌, ◌<◌, List, length, take, get_or, sym, ◌∙◌, ap, subst, arith}
use Rattle.std.proofs.lemmas.List.{length-set, take_all}
use Rattle.mp_base.specs.declared.value.TritWord.{TritWord}
use Rattle.stimulus.specs.Bits.{trits_of}
use Rattle.mp_base.specs.PadBits.{value_bits}
use Rattle.trace_run.proofs.Known.{bound_here, words_more}
use Rattle.trace_run.proofs.words.fill_words.Goals as goal

pub known_word-requires : goal.known_word-requires
known_word-requires c =
    let P : ℕ → Type 0 = λ n. get_or c.args.outputs.now c.loop-i.i 0 < n in
    subst P (bound_here c.args.pads.now c.loop-i.i c.index-pads-i.result c.loop-i-test.true c.index-pads-i.is)
    (c.requires.fits c.loop-i.i c.loop-i-test.true)

pub loop-i-preserved : goal.loop-i-preserved
loop-i-preserved c =
    let ps = c.args.pads.now in
    let vs = c.args.outputs.now in
    let i : ℕ = c.loop-i.i in
    let P : List TritWord → Type 0 =
    λ ws. trits_of (take (i + 1) ps) (take (i + 1) ws) ≡ value_bits (take (i + 1) ps) (take (i + 1) vs) in
    record {
      len = ap length c.put.ensures ∙ length-set c.loop-i.words i c.known_word.result ∙ c.loop-i.invariant.len;
      bits =
          subst P (sym c.put.ensures)
          (words_more ps c.loop-i.words vs i c.index-pads-i.result c.known_word.result c.loop-i-test.true
          (omega (arith, c.loop-i-test.true, c.loop-i.invariant.len, c.requires.words))
          (omega (arith, c.loop-i-test.true, c.requires.outputs))
          c.index-pads-i.is c.known_word.ensures c.loop-i.invariant.bits);
    }

pub returns-clause-bits : goal.returns-clause-bits
returns-clause-bits c =
    let ps = c.args.pads.now in
    let vs = c.args.outputs.now in
    let ws = c.loop-i.words in
    let i : ℕ = c.loop-i.i in
    let p = take_all i ps (omega (arith, c.loop-i-test.false)) in
    let v = take_all i vs (omega (arith, c.loop-i-test.false, c.requires.outputs)) in
    let w = take_all i ws (omega (arith, c.loop-i-test.false, c.requires.words, c.loop-i.invariant.len)) in
    ap (λ x. trits_of x ws) (sym p) ∙ ap (λ x. trits_of (take i ps) x) (sym w) ∙ c.loop-i.invariant.bits
    ∙ ap (λ x. value_bits x (take i vs)) p ∙ ap (λ x. value_bits ps x) v
