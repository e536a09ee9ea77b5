use Rattle.std.proofs.Common.{◌≡◌, ℕ, List, true, false, take, refl, sym, ◌∙◌, ap, subst}
use Rattle.std.proofs.lemmas.Bool.{false≢true}
use Rattle.std.proofs.lemmas.List.{take_all}
use Rattle.stimulus_lines.specs.declared.form.Assignment.{Assignment}
use Rattle.stimulus.proofs.Apart.{AreApart, has_name, apart_more, apart_not}
use Rattle.stimulus.proofs.rules.are_few_apart.Goals as goal

pub returns-then-has_name : goal.returns-then-has_name
returns-then-has_name c =
    let words : List Assignment = c.args.words.now in
    let i : ℕ = c.loop-i.i in
    let x : Assignment = c.index-words-i.result in
    let has : has_name x.name (take i words) ≡ true =
    ap (λ (a : Assignment). has_name a.name (take i words)) c.index-words-i.is
    ∙ ap (λ n. has_name n (take i words)) (sym c.bytes.ensures) ∙ sym c.has_name.ensures ∙ c.if-has_name.true in (
      (λ e. absurd (false≢true e)),
      λ apart. absurd
          (apart_not words i x c.loop-i-test.true c.index-words-i.is has apart),
    )

pub loop-i-preserved : goal.loop-i-preserved
loop-i-preserved c =
    let words : List Assignment = c.args.words.now in
    let i : ℕ = c.loop-i.i in
    let x : Assignment = c.index-words-i.result in
    let new : has_name x.name (take i words) ≡ false =
    ap (λ (a : Assignment). has_name a.name (take i words)) c.index-words-i.is
    ∙ ap (λ n. has_name n (take i words)) (sym c.bytes.ensures) ∙ sym c.has_name.ensures ∙ c.if-has_name.false in
    apart_more words i x c.loop-i-test.true c.index-words-i.is c.loop-i.invariant new

pub returns : goal.returns
returns c =
    let P : List Assignment → Type 0 = AreApart in
    ((λ _. subst P (take_all c.loop-i.i c.args.words.now c.loop-i-test.false) c.loop-i.invariant), λ _. refl)
