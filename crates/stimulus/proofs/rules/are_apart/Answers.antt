use Rattle.std.proofs.Common.{◌≡◌, ℕ, List, true, false, cond, take, refl, sym, ◌∙◌, ap, subst}
use Rattle.std.specs.Prelude.{not}
use Rattle.std.specs.Borrow.{Bor}
use Rattle.std.specs.BTreeSet.{contains}
use Rattle.std.specs.Cmp.Lexicographic.{slice_cmp}
use Rattle.std.specs.Ordering.{nat_cmp, is_eq}
use Rattle.std.proofs.lemmas.Bool.{false≢true, not-true, not-false}
use Rattle.std.proofs.lemmas.List.{take_all}
use Rattle.stimulus_lines.specs.declared.form.Assignment.{Assignment}
use Rattle.stimulus.proofs.Apart.{AreApart, has_name, apart_more, apart_not, seen_more}
use Rattle.stimulus.proofs.rules.are_apart.Goals as goal

pub returns-then-not-branch : goal.returns-then-not-branch
returns-then-not-branch c =
    let key : Bor (List ℕ) = c.bytes.result in
    let added : c.in_ok-insert.field-0
    ≡ not (contains (λ (x y : Bor (List ℕ)). slice_cmp nat_cmp x.now y.now) c.loop-word.names key) =
    c.in_ok-insert.ensures.added in
    let old : has_name key.now (take c.loop-word.word-index c.args.words.now) ≡ true =
    sym (c.loop-word.invariant.seen key) ∙ not-false _ (sym added ∙ c.if-not-branch.true) in
    let is : has_name c.word-item.result.name (take c.loop-word.word-index c.args.words.now) ≡ true =
    ap (λ n. has_name n (take c.loop-word.word-index c.args.words.now)) (sym c.bytes.ensures) ∙ old in (
      (λ e. absurd (false≢true e)),
      λ apart. absurd
          (apart_not c.args.words.now c.loop-word.word-index c.word-item.result c.loop-word-test.true c.word-item.is is
          apart),
    )

pub loop-word-preserved : goal.loop-word-preserved
loop-word-preserved c =
    let key : Bor (List ℕ) = c.bytes.result in
    let added : c.in_ok-insert.field-0
    ≡ not (contains (λ (x y : Bor (List ℕ)). slice_cmp nat_cmp x.now y.now) c.loop-word.names key) =
    c.in_ok-insert.ensures.added in
    let new : has_name key.now (take c.loop-word.word-index c.args.words.now) ≡ false =
    sym (c.loop-word.invariant.seen key) ∙ not-true _ (sym added ∙ c.if-not-branch.false) in
    let is : has_name c.word-item.result.name (take c.loop-word.word-index c.args.words.now) ≡ false =
    ap (λ n. has_name n (take c.loop-word.word-index c.args.words.now)) (sym c.bytes.ensures) ∙ new in
    let sees : (q : Bor (List ℕ)) → contains (λ (x y : Bor (List ℕ)). slice_cmp nat_cmp x.now y.now) c.insert.new.self q
    ≡ cond (is_eq (slice_cmp nat_cmp key.now q.now)) true
    (contains (λ (x y : Bor (List ℕ)). slice_cmp nat_cmp x.now y.now) c.loop-word.names q)
    = λ q. c.in_ok-insert.ensures.updates.0 q in
    record {
      apart = apart_more c.args.words.now c.loop-word.word-index c.word-item.result c.loop-word-test.true
          c.word-item.is c.loop-word.invariant.apart is;
      seen = λ q. sees q
          ∙ ap (λ b. cond (is_eq (slice_cmp nat_cmp key.now q.now)) true b) (c.loop-word.invariant.seen q)
          ∙ seen_more c.args.words.now c.loop-word.word-index c.word-item.result q.now key.now c.loop-word-test.true
          c.word-item.is c.bytes.ensures;
    }

pub returns : goal.returns
returns c =
    let P : List Assignment → Type 0 = AreApart in (
      (λ _. subst P
          (take_all c.loop-word.word-index c.args.words.now c.loop-word-test.false) c.loop-word.invariant.apart),
      λ _. refl,
    )
