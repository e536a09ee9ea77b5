use Rattle.std.proofs.Common.{◌≡◌, ℕ, ◌+◌, ◌<◌, ◌≤◌, List, [], cond, sym, ◌∙◌, ap, subst, length, drop, arith, Option}
use Rattle.std.proofs.Common.{true, false, get_or, inl, inr}
use Rattle.std.specs.Prelude.{slice_range, nat_lt}
use Rattle.std.specs.List.{slice_split}
use Rattle.std.specs.Option.{option_copied}
use Rattle.std.specs.Str.Lines.{strip_carriage_return}
use Rattle.std.proofs.lemmas.Bool.{cond-true, cond-false, lt-ltb, le-ltb, cases_lt}
use Rattle.std.proofs.lemmas.Result.{err_from_is_err_and}
use Rattle.mp_base.specs.declared.pad.Pads.{Pads}
use Rattle.stimulus_lines.specs.declared.piece.Piece.{Piece}
use Rattle.stimulus.specs.declared.reading.Reading.{Reading}
use Rattle.stimulus_lines.specs.Words.{words_of, words_of_lines, kept_before}
use Rattle.mp_base.specs.Lines.{is_feed}
use Rattle.stimulus.specs.Rules.{IsFault}
use Rattle.stimulus.specs.Reading.{Reads, FirstBroken}
use Rattle.stimulus.proofs.Adding.{fault_at}
use Rattle.stimulus_lines.proofs.Cutting.{lines_more, lines_last}
use Rattle.stimulus.proofs.Stepping.{reads_more, broken_here, broken_later, few_more, few_inputs}
use Rattle.stimulus.proofs.read.read_lines.Goals as goal

-- the first line from here on breaks a rule
broken_first : (K : Option Pads) (r : Reading) (text : List ℕ) (a e : ℕ) (ws : List Piece) → a ≤ e → e ≤ length text
    → ((k : ℕ) → a ≤ k → k < e → is_feed (get_or text k 0) ≡ false)
    → (e < length text → is_feed (get_or text e 0) ≡ true)
    → ws ≡ words_of a
    (cond (nat_lt e (length text)) (strip_carriage_return (slice_range text a e)) (slice_range text a e))
    → (k at : ℕ) → FirstBroken K r (kept_before ws []) k at
    → FirstBroken K r (words_of_lines a (slice_split is_feed (drop a text))) k at
broken_first K r text a e ws le within part stop is k at h =
    let P : List (List Piece) → Type 0 = λ ls. FirstBroken K r ls k at in
    elim (cases_lt e (length text)) [
      | inl less ↦
          let more : List (List Piece) = words_of_lines (e + 1) (slice_split is_feed (drop (e + 1) text)) in
          let line : ws ≡ words_of a (strip_carriage_return (slice_range text a e)) =
          is ∙ ap (words_of a) (cond-true _ _ _ (lt-ltb e (length text) less)) in
          let rest : words_of_lines a (slice_split is_feed (drop a text)) ≡ kept_before ws more =
          lines_more text a e le less part (stop less) ∙ ap (λ vs. kept_before vs more) (sym line) in
          subst P (sym rest) (broken_here K r ws more k at h)
      | inr end ↦
          let line : ws ≡ words_of a (slice_range text a e) =
          is ∙ ap (words_of a) (cond-false _ _ _ (le-ltb e (length text) end)) in
          let rest : words_of_lines a (slice_split is_feed (drop a text)) ≡ kept_before ws [] =
          lines_last text a e le (omega arith) part ∙ ap (λ vs. kept_before vs []) (sym line) in
          subst P (sym rest) h
    ]

-- the pads that are known or read are few
pub add_line-requires : goal.add_line-requires
add_line-requires c = few_inputs c.args.known c.lines.reading c.requires.few c.lines.invariant.few

pub returns-in_err-add_line-clause-err : goal.returns-in_err-add_line-clause-err
returns-in_err-add_line-clause-err c =
    let K : Option Pads = option_copied c.args.known in
    let text : List ℕ = c.args.text.now in
    let a : ℕ = c.lines.start in
    let e : ℕ = c.line_end-end.result in
    let p = err_from_is_err_and c.from_residual-in_err-add_line.result c.from_residual-in_err-add_line.ensures.1 in
    let ws : List Piece = c.as_slice.result.now in
    let words : c.take_words.new.words.items ≡ words_of a c.line_at.result.now = c.in_ok-take_words.ensures in
    let bad : IsFault c.in_err-add_line.field-0.0 (FirstBroken K c.lines.reading (kept_before ws [])) =
    c.in_err-add_line.ensures.err in
    let here =
    broken_first K c.lines.reading text a e ws c.line_end-end.ensures.after c.line_end-end.ensures.within
    c.line_end-end.ensures.part c.line_end-end.ensures.stop
    (c.as_slice.ensures.value ∙ words ∙ ap (words_of a) c.line_at.ensures) in
    rw (p.1, p.2) (fault_at c.in_err-add_line.field-0.0 _ _ (λ k at h. c.lines.invariant.breaks k at (here k at h)) bad)

pub returns-then-end-text-clause-ok : goal.returns-then-end-text-clause-ok
returns-then-end-text-clause-ok c =
    let text : List ℕ = c.args.text.now in
    let a : ℕ = c.lines.start in
    let e : ℕ = c.line_end-end.result in
    let bytes : c.line_at.result.now ≡ slice_range text a e =
    c.line_at.ensures ∙ cond-false _ _ _ (le-ltb e (length text) (omega (arith, c.if-end-text.true))) in
    let words : c.take_words.new.words.items ≡ words_of a c.line_at.result.now = c.in_ok-take_words.ensures in
    let this : Reads (option_copied c.args.known) c.lines.reading
    (kept_before c.as_slice.result.now []) c.add_line.new.reading = c.in_ok-add_line.ensures.ok in
    let rest : words_of_lines a (slice_split is_feed (drop a text)) ≡ kept_before c.as_slice.result.now [] =
    lines_last text a e c.line_end-end.ensures.after c.if-end-text.true c.line_end-end.ensures.part
    ∙ ap (λ ws. kept_before ws []) (sym (c.as_slice.ensures.value ∙ words ∙ ap (words_of a) bytes)) in
    let P : List (List Piece)
    → Type 0 = λ ls. Reads (option_copied c.args.known) c.lines.reading ls c.add_line.new.reading in
    c.lines.invariant.reads c.add_line.new.reading (subst P (sym rest) this)

pub lines-preserved : goal.lines-preserved
lines-preserved c =
    let K : Option Pads = option_copied c.args.known in
    let text : List ℕ = c.args.text.now in
    let a : ℕ = c.lines.start in
    let e : ℕ = c.line_end-end.result in
    let less : e < length text = omega (arith, c.line_end-end.ensures.within, c.if-end-text.false) in
    let bytes : c.line_at.result.now ≡ strip_carriage_return (slice_range text a e) =
    c.line_at.ensures ∙ cond-true _ _ _ (lt-ltb e (length text) less) in
    let words : c.take_words.new.words.items ≡ words_of a c.line_at.result.now = c.in_ok-take_words.ensures in
    let this : Reads K c.lines.reading (kept_before c.as_slice.result.now []) c.add_line.new.reading =
    c.in_ok-add_line.ensures.ok in
    let more : List (List Piece) = words_of_lines (e + 1) (slice_split is_feed (drop (e + 1) text)) in
    let rest : words_of_lines a (slice_split is_feed (drop a text)) ≡ kept_before c.as_slice.result.now more =
    lines_more text a e c.line_end-end.ensures.after less c.line_end-end.ensures.part (c.line_end-end.ensures.stop less)
    ∙ ap (λ ws. kept_before ws more) (sym (c.as_slice.ensures.value ∙ words ∙ ap (words_of a) bytes)) in
    record {
      within = omega (arith, less);
      few = few_more K c.lines.reading c.add_line.new.reading
          (kept_before c.as_slice.result.now []) this c.lines.invariant.few;
      reads = λ t h. c.lines.invariant.reads t
          (let P : List (List Piece) → Type 0 = λ ls. Reads K c.lines.reading ls t in
          subst P (sym rest) (reads_more K c.lines.reading c.add_line.new.reading t c.as_slice.result.now more this h));
      breaks = λ k at h. c.lines.invariant.breaks k at
          (let P : List (List Piece) → Type 0 = λ ls. FirstBroken K c.lines.reading ls k at in
          subst P (sym rest)
          (broken_later K c.lines.reading c.add_line.new.reading c.as_slice.result.now more k at this h));
    }
