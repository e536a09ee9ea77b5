use Rattle.std.proofs.Common.{◌≡◌, ℕ, ◌+◌, ◌<◌, ◌≤◌, List, [], ◌∷◌, ◌++◌, true, false, cond, drop, length, sym, ◌∙◌, ap}
use Rattle.std.proofs.Common.{arith, append_assoc}
use Rattle.std.specs.Prelude.{nat_lt, slice_range}
use Rattle.std.proofs.lemmas.List.{append-nil}
use Rattle.std.proofs.lemmas.Bool.{lt-ltb, le-ltb, cond-true, cond-false}
use Rattle.stimulus_lines.specs.declared.piece.Piece.{Piece}
use Rattle.stimulus_lines.specs.Words.{words_of}
use Rattle.stimulus_lines.proofs.Cutting.{words_more, words_last}
use Rattle.stimulus_lines.proofs.piece.take_words.Goals as goal
use Rattle.stimulus_lines.proofs.piece.take_words.Goals.{then-start-end+in_ok-push, else-start-end}

-- what was pushed is the word from the start to the end, if there is one
pushed : (old new more : List Piece) (b : _) (w : Piece) → new ≡ cond b (old ++ w ∷ []) old
    → new ++ more ≡ old ++ cond b (w ∷ more) more
pushed old new more true w e = ap (λ ys. ys ++ more) e ∙ append_assoc old (w ∷ []) more
pushed old new more false w e = ap (λ ys. ys ++ more) e

-- the words behind a part, from its pushing
pushed_word : (old new : List Piece) (a e : ℕ) (w : Piece) → a < e → new ≡ old ++ w ∷ []
    → new ≡ cond (nat_lt a e) (old ++ w ∷ []) old
pushed_word old new a e w less h = h ∙ sym (cond-true _ _ _ (lt-ltb a e less))

pushed_none : (old new : List Piece) (a e : ℕ) (w : Piece) → e ≤ a → new ≡ old
    → new ≡ cond (nat_lt a e) (old ++ w ∷ []) old
pushed_none old new a e w not h = h ∙ sym (cond-false _ _ _ (le-ltb a e not))

pub returns-then-end-line : goal.returns-then-end-line
returns-then-end-line c =
    let at = c.args.at in
    let line : List ℕ = c.args.line.now in
    let a : ℕ = c.parts.start in
    let e : ℕ = c.word_end-end.result in
    let word : Piece = record { at = at + a; bytes = slice_range line a e } in
    let new : c.if-start-end.words.items ≡ cond (nat_lt a e) (c.parts.words.items ++ word ∷ []) c.parts.words.items =
    elim c.if-start-end.branch [
      | then-start-end+in_ok-push w ↦
          let made : w.push.new.self.items ≡ c.parts.words.items ++ record { at = at + a; bytes = w.new.result } ∷ [] =
          w.in_ok-push.ensures.items in
          let bytes : w.new.result ≡ slice_range line a e = w.new.ensures in
          pushed_word c.parts.words.items c.if-start-end.words.items a e word w.if-start-end.true
          (ap (λ v. v.items) w.words-is ∙ made
          ∙ ap (λ (bs : List ℕ). c.parts.words.items ++ record { at = at + a; bytes = bs } ∷ []) bytes)
      | else-start-end w ↦
          pushed_none c.parts.words.items c.if-start-end.words.items a e word w.if-start-end.false
          (ap (λ v. v.items) w.words-is)
    ] in
    sym (append-nil c.if-start-end.words.items)
    ∙ pushed c.parts.words.items c.if-start-end.words.items [] (nat_lt a e) word new
    ∙ ap (λ ys. c.parts.words.items ++ ys)
    (sym (words_last at line a e c.word_end-end.ensures.after c.if-end-line.true c.word_end-end.ensures.part))
    ∙ c.parts.invariant.words

pub parts-preserved : goal.parts-preserved
parts-preserved c =
    let at = c.args.at in
    let line : List ℕ = c.args.line.now in
    let a : ℕ = c.parts.start in
    let e : ℕ = c.word_end-end.result in
    let word : Piece = record { at = at + a; bytes = slice_range line a e } in
    let new : c.if-start-end.words.items ≡ cond (nat_lt a e) (c.parts.words.items ++ word ∷ []) c.parts.words.items =
    elim c.if-start-end.branch [
      | then-start-end+in_ok-push w ↦
          let made : w.push.new.self.items ≡ c.parts.words.items ++ record { at = at + a; bytes = w.new.result } ∷ [] =
          w.in_ok-push.ensures.items in
          let bytes : w.new.result ≡ slice_range line a e = w.new.ensures in
          pushed_word c.parts.words.items c.if-start-end.words.items a e word w.if-start-end.true
          (ap (λ v. v.items) w.words-is ∙ made
          ∙ ap (λ (bs : List ℕ). c.parts.words.items ++ record { at = at + a; bytes = bs } ∷ []) bytes)
      | else-start-end w ↦
          pushed_none c.parts.words.items c.if-start-end.words.items a e word w.if-start-end.false
          (ap (λ v. v.items) w.words-is)
    ] in
    let less : e < length line = omega (arith, c.word_end-end.ensures.within, c.if-end-line.false) in
    record {
      within = omega (arith, less);
      words =
          pushed c.parts.words.items c.if-start-end.words.items (words_of (at + (e + 1)) (drop (e + 1) line))
          (nat_lt a e) word new
          ∙ ap (λ ys. c.parts.words.items ++ ys)
          (sym (words_more at line a e c.word_end-end.ensures.after less c.word_end-end.ensures.part
          (c.word_end-end.ensures.stop less)))
          ∙ c.parts.invariant.words;
    }
