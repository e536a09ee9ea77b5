use Rattle.std.proofs.Common.{◌≡◌, ◌∙◌, ◌<◌, ◌^◌, ◌+◌, ℕ, Bool, ap, sym, subst}
use Rattle.std.specs.Prelude.{bit_and, bit_or}
use Rattle.clock_run.specs.Words.{is_known, is_one}
use Rattle.clock_run.proofs.Bits.{trit, flag, flagged_narrow, trit_below, trit_here, bits_small, still_masked}
use Rattle.clock_run.proofs.word.with_bit.Goals as goal

pub invariant_of-result : goal.invariant_of-result
invariant_of-result c =
    let known = c.args.word.known in
    let bits = c.args.word.bits in
    let k = c.args.k in
    let v = c.args.value in
    let e : c.flag.result ≡ flag (is_known v) k = c.flag.ensures ∙ ap (λ (b : Bool). flag b k) c.is_known.ensures in
    let h : c.flag-2.result ≡ flag (is_one v) k = c.flag-2.ensures ∙ ap (λ (b : Bool). flag b k) c.is_one.ensures in
    let P : ℕ → ℕ → Type 0 = λ f g. bit_and (bit_or bits g) (bit_or known f) ≡ bit_or bits g in
    record {
      masked = subst (λ f. P f c.flag-2.result) (sym e)
          (subst (λ g. P (flag (is_known v) k) g) (sym h) (still_masked known bits k v c.args.word.masked));
    }

pub returns-clause-narrow : goal.returns-clause-narrow
returns-clause-narrow c =
    let k = c.args.k in
    let e : c.flag.result ≡ flag c.is_known.result k = c.flag.ensures in
    subst (λ f. bit_or c.args.word.known f < 2 ^ (k + 1)) (sym e)
    (flagged_narrow c.args.word.known k c.is_known.result c.requires.narrow)

pub returns-clause-below : goal.returns-clause-below
returns-clause-below c = λ j lt.
    let known = c.args.word.known in
    let bits = c.args.word.bits in
    let k = c.args.k in
    ap (λ f. trit (bit_or known f) (bit_or bits c.flag-2.result) j) c.flag.ensures
    ∙ ap (λ g. trit (bit_or known (flag c.is_known.result k)) (bit_or bits g) j) c.flag-2.ensures
    ∙ trit_below known bits k j c.is_known.result c.is_one.result lt

pub returns-clause-bit : goal.returns-clause-bit
returns-clause-bit c =
    let known = c.args.word.known in
    let bits = c.args.word.bits in
    let k = c.args.k in
    let v = c.args.value in
    let e : c.flag.result ≡ flag (is_known v) k = c.flag.ensures ∙ ap (λ (b : Bool). flag b k) c.is_known.ensures in
    let h : c.flag-2.result ≡ flag (is_one v) k = c.flag-2.ensures ∙ ap (λ (b : Bool). flag b k) c.is_one.ensures in
    ap (λ f. trit (bit_or known f) (bit_or bits c.flag-2.result) k) e
    ∙ ap (λ g. trit (bit_or known (flag (is_known v) k)) (bit_or bits g) k) h
    ∙ trit_here known bits k v c.requires.narrow (bits_small known bits k c.args.word.masked c.requires.narrow)
