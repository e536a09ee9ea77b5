-- A made stimulus breaks no rule.
use Rattle.std.proofs.Common.{◌≡◌, ◌≢◌, ℕ, zero, suc, ◌+◌, ◌*◌, ◌<◌, ◌^◌, List, [], ◌∷◌, ◌++◌, true, refl, sym, ◌∙◌, ap}
use Rattle.std.proofs.Common.{subst, length, map, arith, lit<, lit≤, append_assoc, length-append, append-nil, codes}
use Rattle.std.proofs.Common.{Some}
use Rattle.std.specs.Prelude.{◌&&◌, nat_lt, slice_index, decimal, AllPairs, IsTrue}
use Rattle.std.specs.List.{flat_map, range_with_len}
use Rattle.std.proofs.lemmas.Bool.{lt-ltb}
use Rattle.std.proofs.lemmas.Fmt.{decimal_is_IsNumeral, length-decimal-le}
use Rattle.mp_base.specs.declared.pad.Pads.{Pads}
use Rattle.stimulus.specs.declared.given.Given.{Given}
use Rattle.stimulus.specs.declared.given.Stimulus.{Stimulus}
use Rattle.stimulus_lines.specs.declared.piece.Piece.{Piece}
use Rattle.stimulus_lines.specs.declared.form.Assignment.{Assignment}
use Rattle.stimulus_lines.specs.declared.form.Form.TheVariants.{Clock}
use Rattle.stimulus.specs.declared.reading.Reading.{Reading}
use Rattle.stimulus_lines.specs.Forms.{IsNumber}
use Rattle.stimulus.specs.Rules.{AreGiven, Adds}
use Rattle.stimulus.specs.Reading.{Reads, nothing, IsStimulus}
use Rattle.stimulus.specs.Fitting.{is_fitting_clock, are_fitting}
use Rattle.stimulus_lines.specs.Words.{words_of_lines, lines}
use Rattle.program_maker.specs.Draws.{after, draw, below}
use Rattle.program_maker.specs.Texts as made
use Rattle.program_maker.specs.Texts.{stimulus_text}
use Rattle.made_stimulus.specs.Clocks.{AreMadeInputs, reset_clock, word_clock, made_clocks}
use Rattle.made_stimulus.proofs.Inputs.{made_inputs, inputs_are}
use Rattle.made_stimulus.proofs.Lines.{word, line, line_words, words_from, split_clocks, words_of_clocks}

-- ---- one clock

short_number : (n : ℕ) → n < 65536 → n < 2 ^ 64
short_number n h = omega (arith, h)

number_is : (n : ℕ) → n < 65536 → IsNumber (decimal n) n
number_is n h =
    let small : n < 2 ^ 64 = short_number n h in
    let d = decimal_is_IsNumeral n small in
    (d.0, length-decimal-le 20 n (lit< tt) (omega (arith, h)) small, sym d.1, small)

-- what the words of a clock are
abbrev assignments : ℕ → ℕ → ℕ → List Assignment
assignments at a b = record { at = at + 5 + 1; name = codes "a"; value = a }
    ∷ record { at = at + 5 + 1 + length (word 97 a) + 1; name = codes "b"; value = b } ∷ []

two_names : (x y : Assignment) → x.name ≢ y.name → AllPairs (λ (a b : Assignment). a.name ≢ b.name) (x ∷ y ∷ [])
two_names x y other zero zero d less long = absurd (omega (arith, less))
two_names x y other zero (suc zero) d less long = other
two_names x y other (suc i) (suc zero) d less long = absurd (omega (arith, less))
two_names x y other i (suc (suc j)) d less long = absurd (omega (arith, long))
two_names x y other (suc i) zero d less long = absurd (omega (arith, less))

other_letters : codes "a" ≢ codes "b"
other_letters e = let h : 97 ≡ 98 = ap (λ x. slice_index x 0) e in absurd (omega (arith, h))

-- a clock more
abbrev more : Reading → List Given → Reading
more r clock = record { inputs = r.inputs; outputs = r.outputs; clocks = r.clocks ++ clock ∷ [] }

clock_adds : (pads : Pads) (r : Reading) (at a b : ℕ) → pads.inputs ≡ made_inputs → length r.clocks < 65536 → a < 65536
    → b < 65536
    → Adds (Some pads) r (line_words at a b) (more r (word_clock a b))
clock_adds pads r at a b inputs few small_a small_b = record {
  room = λ full. absurd (omega (arith, full.1, few));
  form = Clock (assignments at a b);
  is = (
    refl,
    (
      record { digits = decimal a; parts = refl; name = refl; number = number_is a small_a; place = refl },
      (record { digits = decimal b; parts = refl; name = refl; number = number_is b small_b; place = refl }, tt),
    ),
  );
  «in_place» = two_names (record { at = at + 5 + 1; name = codes "a"; value = a })
      (record { at = at + 5 + 1 + length (word 97 a) + 1; name = codes "b"; value = b }) other_letters;
  adds = (
    word_clock a b,
    subst (λ ps. AreGiven ps (assignments at a b) (word_clock a b)) (sym inputs) (
      record { named = refl; value = refl; fits = λ p. small_a },
      (record { named = refl; value = refl; fits = λ p. small_b }, tt),
    ),
    refl,
  );
}

-- ---- all clocks

reads_clocks : (pads : Pads) (a b : ℕ → ℕ) (at : ℕ) (ks : List ℕ) (r : Reading) → pads.inputs ≡ made_inputs
    → length r.clocks + length ks < 65536
    → ((k : ℕ) → a k < 65536) → ((k : ℕ) → b k < 65536)
    → Reads (Some pads) r (words_from a b at ks)
    (record { inputs = r.inputs; outputs = r.outputs; clocks = r.clocks ++ map (λ k. word_clock (a k) (b k)) ks })
reads_clocks pads a b at [] r inputs few small_a small_b =
    ap (λ cs. let s : Reading = record { inputs = r.inputs; outputs = r.outputs; clocks = cs } in s)
    (sym (append-nil r.clocks))
reads_clocks pads a b at (k ∷ ks) r inputs few small_a small_b =
    let clock : List Given = word_clock (a k) (b k) in
    let next : Reading = more r clock in
    let long : length next.clocks ≡ length r.clocks + 1 = length-append r.clocks (clock ∷ []) in
    let t : List (List Given) → Reading = λ cs. record { inputs = r.inputs; outputs = r.outputs; clocks = cs } in
    let words = words_from a b (at + length (line (a k) (b k)) + 1) ks in (
      next,
      clock_adds pads r at (a k) (b k) inputs (omega (arith, few)) (small_a k) (small_b k),
      subst (λ cs. Reads (Some pads) next words (t cs))
          (append_assoc r.clocks (clock ∷ []) (map (λ k. word_clock (a k) (b k)) ks))
          (reads_clocks pads a b (at + length (line (a k) (b k)) + 1) ks next inputs
          (omega (arith, few, long)) small_a small_b),
    )

-- the reset
reset_adds : (pads : Pads) → pads.inputs ≡ made_inputs
    → Adds (Some pads) nothing (record { at = 0; bytes = codes "clock" } ∷ record { at = 6; bytes = codes "reset=1" }
    ∷ []) (more nothing reset_clock)
reset_adds pads inputs = record {
  room = λ full. absurd (omega (arith, full.1));
  form = Clock (record { at = 6; name = codes "reset"; value = 1 } ∷ []);
  is = (refl, (record { digits = codes "1"; parts = refl; name = refl; number = one; place = refl }, tt));
  «in_place» = λ i j d less long. absurd (omega (arith, less, long));
  adds = (
    reset_clock,
    subst (λ ps. AreGiven ps (record { at = 6; name = codes "reset"; value = 1 } ∷ []) reset_clock) (sym inputs)
        (record { named = refl; value = refl; fits = λ p. lit< tt }, tt),
    refl,
  );
}
  where
    one : IsNumber (codes "1") 1
    one = ((lit< tt, (lit< tt, tt)), lit≤ tt, refl, lit< tt)

-- ---- the whole stimulus

pub draw_small : (x k : ℕ) → draw x k 65536 < 65536
draw_small x k = mod_less (after x (suc k))
  where
    mod_less : (y : ℕ) → below 65536 y < 65536
    mod_less y = omega arith

-- the clocks fit the pads
word_fits : (a b : ℕ) → a < 65536 → b < 65536 → is_fitting_clock made_inputs (word_clock a b) ≡ true
word_fits a b small_a small_b =
    ap (λ c. c && (true && (nat_lt b 65536 && (true && true)))) (lt-ltb a 65536 small_a)
    ∙ ap (λ c. c && (true && true)) (lt-ltb b 65536 small_b)

words_fit : (a b : ℕ → ℕ) (ks : List ℕ) → ((k : ℕ) → a k < 65536) → ((k : ℕ) → b k < 65536)
    → are_fitting made_inputs (map (λ k. word_clock (a k) (b k)) ks) ≡ true
words_fit a b [] small_a small_b = refl
words_fit a b (k ∷ ks) small_a small_b =
    ap (λ c. c && are_fitting made_inputs (map (λ k. word_clock (a k) (b k)) ks))
    (word_fits (a k) (b k) (small_a k) (small_b k)) ∙ words_fit a b ks small_a small_b

pub made_is_stimulus : (seed : ℕ) (pads : Pads) → AreMadeInputs pads.inputs
    → (s : Stimulus) × IsStimulus (stimulus_text seed) (Some pads) s × (s.clocks ≡ made_clocks seed)
made_is_stimulus seed pads are =
    let inputs : pads.inputs ≡ made_inputs = inputs_are pads.inputs are in
    let from : ℕ = after seed 36 in
    let a : ℕ → ℕ = λ k. draw from (2 * k) 65536 in
    let b : ℕ → ℕ = λ k. draw from (2 * k + 1) 65536 in
    let small_a : (k : ℕ) → a k < 65536 = λ k. draw_small from (2 * k) in
    let small_b : (k : ℕ) → b k < 65536 = λ k. draw_small from (2 * k + 1) in
    let wide_a : (k : ℕ) → a k < 2 ^ 64 = λ k. short_number (a k) (small_a k) in
    let wide_b : (k : ℕ) → b k < 2 ^ 64 = λ k. short_number (b k) (small_b k) in
    let ks : List ℕ = range_with_len 0 64 in
    let rest : List ℕ = flat_map (λ k. made.clock (a k) (b k)) ks in
    let reset : List (List Piece) =
    (record { at = 0; bytes = codes "clock" } ∷ record { at = 6; bytes = codes "reset=1" } ∷ []) ∷ [] in
    let words : lines (stimulus_text seed)
    ≡ (record { at = 0; bytes = codes "clock" } ∷ record { at = 6; bytes = codes "reset=1" } ∷ [])
    ∷ words_from a b 14 ks =
    ap (λ ls. words_of_lines 0 (codes "clock reset=1" ∷ ls)) (split_clocks a b ks wide_a wide_b)
    ∙ ap (λ ws. (record { at = 0; bytes = codes "clock" } ∷ record { at = 6; bytes = codes "reset=1" } ∷ []) ∷ ws)
    (words_of_clocks a b 14 ks wide_a wide_b) in
    let end : Reading = record { inputs = []; outputs = []; clocks = made_clocks seed } in
    let fits : IsTrue (are_fitting pads.inputs (made_clocks seed)) =
    subst (λ ps. IsTrue (are_fitting ps (made_clocks seed))) (sym inputs) (words_fit a b ks small_a small_b) in (
      record { pads = pads; clocks = made_clocks seed; fits = fits },
      record {
        reading = end;
        reads = subst (λ ws. Reads (Some pads) nothing ws end) (sym words) (
          more nothing reset_clock,
          reset_adds pads inputs,
          reads_clocks pads a b 14 ks
              (more nothing reset_clock) inputs (lit< tt) small_a small_b,
        );
        inputs = refl;
        outputs = refl;
        clocks = refl;
      },
      refl,
    )
