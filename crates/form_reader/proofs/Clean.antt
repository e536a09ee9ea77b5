-- Up to a place nothing is broken, and one is outside comments at a depth.
use Rattle.std.proofs.Common.{◌≡◌, ◌≢◌, ℕ, suc, ◌+◌, ◌-◌, ◌^◌, ◌<◌, ◌≤◌, List, [], ◌∷◌, ◌++◌, Bool, true, false, cond}
use Rattle.std.proofs.Common.{refl, sym, ◌∙◌, ap, subst, inl, inr, length, take, arith, append_assoc}
use Rattle.std.specs.Prelude.{slice_range, slice_index, ◌==◌, ◌||◌}
use Rattle.std.specs.List.{list_all}
use Rattle.std.specs.Str.Parse.{digits_value}
use Rattle.std.proofs.lemmas.Bool.{cases_lt, cases_Bool, and_parts, or_parts, both_ways, ne_eqb}
use Rattle.std.proofs.lemmas.List.{append-nil, take_more, take_rest}
use Rattle.std.proofs.lemmas.List.Folds.{list_all-append}
use Rattle.mp_base.specs.Token.{is_digit, is_token}
use Rattle.mp_base.proofs.Tests.{or_true}
use Rattle.form_reader.specs.Text.{is_blank, is_mark, comment_step, comment_after, fills_gap, is_gap, IsGapBetween}
use Rattle.form_reader.specs.Text.{EndsInGap, IsRun, IsByte}
use Rattle.form_reader.specs.Rules.{IsOutside, IsOpenUpTo, depth_step, depth_after, depth_at, E1, E2, E4, Breaks}
use Rattle.form_reader.specs.Rules.{IsFirst}
use Rattle.form_reader.specs.Reading.{Clean}
use Rattle.form_reader.proofs.Gaps.{token_begins, other_byte, range_split, range_first, take_then, gap_front}
use Rattle.form_reader.proofs.Gaps.{comment-gap, run_byte, run_first, same_end, mark_no_run}

-- ---- what stands before

comment-append : (c : Bool) (xs ys : List ℕ) → comment_after c (xs ++ ys) ≡ comment_after (comment_after c xs) ys
comment-append c [] ys = refl
comment-append c (x ∷ xs) ys = comment-append (comment_step c x) xs ys

depth-append : (c : Bool) (d : ℕ) (xs ys : List ℕ)
    → depth_after c d (xs ++ ys) ≡ depth_after (comment_after c xs) (depth_after c d xs) ys
depth-append c d [] ys = refl
depth-append c d (x ∷ xs) ys = depth-append (comment_step c x) (depth_step c d x) xs ys

-- one byte more
pub comment_more : (text : List ℕ) (o : ℕ) → o < length text
    → comment_after false (take (o + 1) text) ≡ comment_step (comment_after false (take o text)) (slice_index text o)
comment_more text o lt =
    ap (comment_after false) (take_more text o 0 lt) ∙ comment-append false (take o text) (slice_index text o ∷ [])

depth_more : (text : List ℕ) (o : ℕ) → o < length text
    → depth_at text (o + 1) ≡ depth_step (comment_after false (take o text)) (depth_at text o) (slice_index text o)
depth_more text o lt =
    ap (depth_after false 0) (take_more text o 0 lt) ∙ depth-append false 0 (take o text) (slice_index text o ∷ [])

-- from outside comments on
comment_from : (text : List ℕ) (i o : ℕ) → i ≤ o → comment_after false (take i text) ≡ false
    → comment_after false (take o text) ≡ comment_after false (slice_range text i o)
comment_from text i o le out =
    ap (comment_after false) (take_then text i o le) ∙ comment-append false (take i text) (slice_range text i o)
    ∙ ap (λ c. comment_after c (slice_range text i o)) out

depth_from : (text : List ℕ) (i o : ℕ) → i ≤ o → comment_after false (take i text) ≡ false
    → depth_at text o ≡ depth_after false (depth_at text i) (slice_range text i o)
depth_from text i o le out =
    ap (depth_after false 0) (take_then text i o le) ∙ depth-append false 0 (take i text) (slice_range text i o)
    ∙ ap (λ c. depth_after c (depth_at text i) (slice_range text i o)) out

-- ---- a byte that isn't a bracket

same_depth : (c : Bool) (d x : ℕ) → (x == 40) ≡ false → (x == 41) ≡ false → depth_step c d x ≡ d
same_depth true d x no_open no_close = refl
same_depth false d x no_open no_close =
    ap (λ b. cond b (d + 1) (cond (x == 41) (d - 1) d)) no_open ∙ ap (λ b. cond b (d - 1) d) no_close

filler_not : (x y : ℕ) → fills_gap false y ≡ false → fills_gap false x ≡ true → (x == y) ≡ false
filler_not x y other h = ne_eqb x y (λ e. both_ways (fills_gap false x) (ap (fills_gap false) e ∙ other) h)

filler_depth : (c : Bool) (d x : ℕ) → fills_gap c x ≡ true → depth_step c d x ≡ d
filler_depth true d x h = refl
filler_depth false d x h = same_depth false d x (filler_not x 40 refl h) (filler_not x 41 refl h)

depth-gap : (c : Bool) (d : ℕ) (xs ys : List ℕ) → is_gap c (xs ++ ys) ≡ true → depth_after c d xs ≡ d
depth-gap c d [] ys h = refl
depth-gap c d (x ∷ xs) ys h =
    let parts = and_parts (fills_gap c x) (is_gap (comment_step c x) (xs ++ ys)) h in
    ap (λ e. depth_after (comment_step c x) e xs) (filler_depth c d x parts.0)
    ∙ depth-gap (comment_step c x) d xs ys parts.1

-- the last byte of a gap is no token character
last_of_gap : (c : Bool) (x : ℕ) → fills_gap c x ≡ true → comment_step c x ≡ false → is_token x ≡ false
last_of_gap c x fills step =
    elim (cases_Bool (is_token x)) [
      | inr other ↦ other
      | inl token ↦
          absurd (both_ways (fills_gap c x) (ap (λ z. fills_gap z x) (outside token) ∙ token_begins x token) fills)
    ]
  where
    outside : is_token x ≡ true → c ≡ false
    outside token =
        (or_parts c (x == 59) (ap (λ z. cond z false (c || x == 59)) (sym (other_byte x 10 refl token)) ∙ step)).0

-- ---- gaps

-- each byte may stand in a gap, and no list begins or ends
pub record Covered (text : List ℕ) (i n : ℕ) : Type 0 where
  pub bytes : (o : ℕ) → i ≤ o → o < n → fills_gap (comment_after false (take o text)) (slice_index text o) ≡ true
  pub depths : (j : ℕ) → i ≤ j → j ≤ n → depth_at text j ≡ depth_at text i

pub covered : (text : List ℕ) (i n : ℕ) (tail : List ℕ) → n ≤ length text → comment_after false (take i text) ≡ false
    → is_gap false (slice_range text i n ++ tail) ≡ true → Covered text i n
covered text i n tail within out gap = record {
  bytes = λ o le lt.
      let inside : o < length text = omega (arith, lt, within) in
      let parts : slice_range text i n ++ tail ≡ slice_range text i o
      ++ (slice_index text o ∷ (slice_range text (o + 1) n ++ tail))
      = ap (λ z. z ++ tail)
      (range_split text i o n le (omega (arith, lt))
      ∙ ap (λ z. slice_range text i o ++ z) (range_first text o n lt inside))
      ∙ append_assoc (slice_range text i o) (slice_index text o ∷ slice_range text (o + 1) n) tail in
      ap (λ c. fills_gap c (slice_index text o)) (comment_from text i o le out)
      ∙ (and_parts (fills_gap (comment_after false (slice_range text i o)) (slice_index text o)) _
      (gap_front false (slice_range text i o) _ (ap (is_gap false) (sym parts) ∙ gap))).0;
  depths = λ j le le'.
      let parts : slice_range text i n ++ tail ≡ slice_range text i j ++ (slice_range text j n ++ tail)
      = ap (λ z. z ++ tail) (range_split text i j n le le')
      ∙ append_assoc (slice_range text i j) (slice_range text j n) tail in
      depth_from text i j le out
      ∙ depth-gap false (depth_at text i) (slice_range text i j) (slice_range text j n ++ tail)
      (ap (is_gap false) (sym parts) ∙ gap);
}

-- a byte that may stand in a gap breaks no rule but E2
harmless : (text : List ℕ) (k o : ℕ) → fills_gap false (slice_index text o) ≡ true → Breaks text k o → k ≡ 2
harmless text k o h (inl (_, (_, unknown))) =
    absurd (silent (slice_index text o == 59) (is_blank (slice_index text o)) (slice_index text o == 40)
    (slice_index text o == 41) (is_token (slice_index text o)) h unknown)
  where
    silent : (a b c d t : Bool) → (a || b) ≡ true → ((b || ((c || d) || a)) || t) ≡ false → ⊥
    silent true true c d t h k = cc
    silent true false true d t h k = cc
    silent true false false true t h k = cc
    silent true false false false t h k = cc
    silent false true c d t h k = cc
    silent false false c d t h k = cc
harmless text k o h (inr (inl e2)) = e2.0
harmless text k o h (inr (inr (inl (_, (_, closing, _))))) =
    absurd (both_ways (fills_gap false (slice_index text o)) (ap (fills_gap false) closing) h)
harmless text k o h (inr (inr (inr (inl (_, (end, (_, run, _, _), _)))))) =
    absurd (both_ways (fills_gap false (slice_index text o))
    (token_begins (slice_index text o) (run_first text o end run)) h)
harmless text k o h (inr (inr (inr (inr (_, (_, opening, _)))))) =
    absurd (both_ways (fills_gap false (slice_index text o)) (ap (fills_gap false) opening) h)

-- every rule is broken outside comments
outside_of : (text : List ℕ) (k o : ℕ) → Breaks text k o → IsOutside text o
outside_of text k o (inl (_, (outside, _))) = outside
outside_of text k o (inr (inl (_, (outside, _, _, _)))) = outside
outside_of text k o (inr (inr (inl (_, (outside, _, _))))) = outside
outside_of text k o (inr (inr (inr (inl (_, (_, (outside, _, _, _), _)))))) = outside
outside_of text k o (inr (inr (inr (inr (_, (outside, _, _)))))) = outside

covered_fine : (text : List ℕ) (i n k o : ℕ) → Covered text i n → i ≤ o → o < n → Breaks text k o → k ≡ 2
covered_fine text i n k o cover le lt breaks =
    let out = (outside_of text k o breaks).1 in
    harmless text k o (ap (λ c. fills_gap c (slice_index text o)) (sym out) ∙ cover.bytes o le lt) breaks

-- the outermost list is still open where the depth is kept
still_open : (text : List ℕ) (depth outer at n : ℕ) → Clean text depth outer at → 0 < depth
    → ((j : ℕ) → at ≤ j → j ≤ n → depth_at text j ≡ depth)
    → IsOpenUpTo text n outer
still_open text depth outer at n clean pos kept =
    let before = clean.opened pos in (
      before.0,
      before.1,
      before.2,
      λ j lt le. elim (cases_lt at j) [
        | inl later ↦ omega (arith, kept j (omega (arith, later)) le, pos)
        | inr sooner ↦ before.3 j lt sooner
      ],
    )

-- over a gap
pub clean_gap : (text : List ℕ) (depth outer i s : ℕ) → s ≤ length text → Clean text depth outer i
    → IsGapBetween text i s → Clean text depth outer s
clean_gap text depth outer i s within clean gap =
    let cover : Covered text i s =
    covered text i s [] within clean.outside (ap (is_gap false) (append-nil (slice_range text i s)) ∙ gap.1) in
    let out : comment_after false (take s text) ≡ false =
    comment_from text i s gap.0 clean.outside ∙ comment-gap false (slice_range text i s) gap.1 in
    record {
      within = within;
      outside = out;
      depth_is = cover.depths s gap.0 (omega arith) ∙ clean.depth_is;
      fine = λ k o lt breaks. elim (cases_lt o i) [
        | inl before ↦ clean.fine k o before breaks
        | inr from ↦ covered_fine text i s k o cover from lt breaks
      ];
      fresh = λ pos token. elim (cases_lt i s) [
        | inl later ↦
            let back : s - 1 + 1 ≡ s = omega (arith, later) in
            last_of_gap (comment_after false (take (s - 1) text)) (slice_index text (s - 1))
            (cover.bytes (s - 1) (omega (arith, later)) (omega (arith, later)))
            (sym (comment_more text (s - 1) (omega (arith, later, within)))
            ∙ ap (λ z. comment_after false (take z text)) back ∙ out)
        | inr here ↦
            let same : i ≡ s = omega (arith, here, gap.0) in
            subst (λ z. 0 < z → is_token (slice_index text z) ≡ true → is_token (slice_index text (z - 1)) ≡ false)
            same clean.fresh pos token
      ];
      opened = λ pos. still_open text depth outer i s clean pos (λ j le le'. cover.depths j le le' ∙ clean.depth_is);
    }

-- ---- brackets

known_byte : (text : List ℕ) (o c : ℕ) → slice_index text o ≡ c → (is_blank c || is_mark c || is_token c) ≡ true
    → E1 text o → ⊥
known_byte text o c is known e1 =
    both_ways (is_blank c || is_mark c || is_token c)
    (ap (λ z. is_blank z || is_mark z || is_token z) (sym is) ∙ e1.1) known

-- an opening bracket less than 64 deep breaks no rule but E2
open_fine : (text : List ℕ) (k o : ℕ) → slice_index text o ≡ 40 → depth_at text o < 64 → Breaks text k o → k ≡ 2
open_fine text k o is shallow (inl e1) = absurd (known_byte text o 40 is refl e1.1)
open_fine text k o is shallow (inr (inl e2)) = e2.0
open_fine text k o is shallow (inr (inr (inl (_, (_, closing, _))))) = absurd (omega (arith, closing, is))
open_fine text k o is shallow (inr (inr (inr (inl (_, (end, (_, run, _, _), _)))))) =
    absurd (mark_no_run text o end 40 is refl run)
open_fine text k o is shallow (inr (inr (inr (inr (_, (_, _, deep)))))) = absurd (omega (arith, deep, shallow))

-- nor does a closing one in a list
close_fine : (text : List ℕ) (k o : ℕ) → slice_index text o ≡ 41 → 0 < depth_at text o → Breaks text k o → k ≡ 2
close_fine text k o is deep (inl e1) = absurd (known_byte text o 41 is refl e1.1)
close_fine text k o is deep (inr (inl e2)) = e2.0
close_fine text k o is deep (inr (inr (inl (_, (_, _, top))))) = absurd (omega (arith, top, deep))
close_fine text k o is deep (inr (inr (inr (inl (_, (end, (_, run, _, _), _)))))) =
    absurd (mark_no_run text o end 41 is refl run)
close_fine text k o is deep (inr (inr (inr (inr (_, (_, opening, _)))))) = absurd (omega (arith, opening, is))

up_to : (text : List ℕ) (s : ℕ) → ((k o : ℕ) → o < s → Breaks text k o → k ≡ 2) → ((k : ℕ) → Breaks text k s → k ≡ 2)
    → (k o : ℕ) → o < s + 1 → Breaks text k o → k ≡ 2
up_to text s before here k o lt breaks =
    elim (cases_lt o s) [
      | inl sooner ↦ before k o sooner breaks
      | inr now ↦ let same : o ≡ s = omega (arith, now, lt) in here k (subst (Breaks text k) same breaks)
    ]

-- the outermost list is this one, or that which was it
pub clean_open : (text : List ℕ) (depth outer s inside : ℕ) → Clean text depth outer s → IsByte text s 40 → depth < 64
    → (depth ≡ 0 → inside ≡ s) → (0 < depth → inside ≡ outer)
    → Clean text (suc depth) inside (s + 1)
clean_open text depth outer s inside clean byte shallow this that =
    let next : depth_at text (s + 1) ≡ depth + 1
    = depth_more text s byte.0 ∙ ap (λ c. depth_step c (depth_at text s) (slice_index text s)) clean.outside
    ∙ ap (depth_step false (depth_at text s)) byte.1 ∙ ap (λ d. d + 1) clean.depth_is in
    let back : s + 1 - 1 ≡ s = omega arith in
    record {
      within = omega (arith, byte.0);
      outside = comment_more text s byte.0 ∙ ap (λ c. comment_step c (slice_index text s)) clean.outside
          ∙ ap (comment_step false) byte.1;
      depth_is = omega (arith, next);
      fine = up_to text s clean.fine (λ k. open_fine text k s byte.1 (omega (arith, clean.depth_is, shallow)));
      fresh = λ pos token. ap (λ z. is_token (slice_index text z)) back ∙ ap is_token byte.1;
      opened = λ pos. elim (cases_lt 0 depth) [
        | inl deep ↦
            let old = clean.opened deep in
            subst (IsOpenUpTo text (s + 1)) (sym (that deep)) (
              old.0,
              old.1,
              old.2,
              λ j lt le. elim (cases_lt s j) [
                | inl later ↦ let same : j ≡ s + 1 = omega (arith, later, le) in
                    omega (arith, ap (depth_at text) same, next)
                | inr sooner ↦ old.3 j lt sooner
              ],
            )
        | inr top ↦
            let none : depth ≡ 0 = omega (arith, top) in
            subst (IsOpenUpTo text (s + 1)) (sym (this none)) (
              (byte.0, clean.outside),
              byte.1,
              clean.depth_is ∙ none,
              λ j lt le. let same : j ≡ s + 1 =
                  omega (arith, lt, le) in omega (arith, ap (depth_at text) same, next),
            )
      ];
    }

-- the outermost list outside is that inside, unless this is it
pub clean_close : (text : List ℕ) (depth outer inside c : ℕ) → (0 < depth → outer ≡ inside)
    → Clean text (suc depth) inside c → IsByte text c 41 → Clean text depth outer (c + 1)
clean_close text depth outer inside c same clean byte =
    let next : depth_at text (c + 1) ≡ depth
    = depth_more text c byte.0 ∙ ap (λ z. depth_step z (depth_at text c) (slice_index text c)) clean.outside
    ∙ ap (depth_step false (depth_at text c)) byte.1 ∙ omega (arith, clean.depth_is) in
    let back : c + 1 - 1 ≡ c = omega arith in
    record {
      within = omega (arith, byte.0);
      outside = comment_more text c byte.0 ∙ ap (λ z. comment_step z (slice_index text c)) clean.outside
          ∙ ap (comment_step false) byte.1;
      depth_is = next;
      fine = up_to text c clean.fine (λ k. close_fine text k c byte.1 (omega (arith, clean.depth_is)));
      fresh = λ pos token. ap (λ z. is_token (slice_index text z)) back ∙ ap is_token byte.1;
      opened = λ pos. subst (IsOpenUpTo text (c + 1)) (sym (same pos))
          (let old = clean.opened (omega arith) in (
            old.0,
            old.1,
            old.2,
            λ j lt le. elim (cases_lt c j) [
              | inl later ↦ let here : j ≡ c + 1 = omega (arith, later, le) in
                  omega (arith, ap (depth_at text) here, next, pos)
              | inr sooner ↦ old.3 j lt sooner
            ],
          ));
    }

-- ---- runs

tokens_stay : (d : ℕ) (xs : List ℕ) → list_all is_token xs ≡ true
    → (comment_after false xs ≡ false) × (depth_after false d xs ≡ d)
tokens_stay d [] h = (refl, refl)
tokens_stay d (x ∷ xs) h =
    let parts = and_parts (is_token x) (list_all is_token xs) h in
    let state : comment_step false x ≡ false =
    ap (λ z. cond z false (x == 59)) (other_byte x 10 refl parts.0) ∙ other_byte x 59 refl parts.0 in
    let depth : depth_step false d x ≡ d =
    same_depth false d x (other_byte x 40 refl parts.0) (other_byte x 41 refl parts.0) in
    let rest = tokens_stay d xs parts.1 in (
      ap (λ c. comment_after c xs) state ∙ rest.0,
      ap (λ c. depth_after c (depth_step false d x) xs) state
          ∙ ap (λ e. depth_after false e xs) depth ∙ rest.1,
    )

-- in a run of token characters no rule is broken but E4 at its first
run_fine : (text : List ℕ) (s e k o : ℕ) → IsRun text s e
    → (list_all is_digit (slice_range text s e) ≡ true → digits_value 10 (slice_range text s e) < 2 ^ 64)
    → s ≤ o → o < e → Breaks text k o → k ≡ 2
run_fine text s e k o run small le lt (inl (_, (_, unknown))) =
    absurd (known (is_blank (slice_index text o)) (is_mark (slice_index text o)) (is_token (slice_index text o))
    (run_byte text s e o run le lt) unknown)
  where
    known : (a b t : Bool) → t ≡ true → ((a || b) || t) ≡ false → ⊥
    known a b true h k = both_ways ((a || b) || true) k (or_true (a || b))
    known a b false h k = cc
run_fine text s e k o run small le lt (inr (inl e2)) = e2.0
run_fine text s e k o run small le lt (inr (inr (inl (_, (_, closing, _))))) =
    absurd (both_ways (is_token (slice_index text o)) (ap is_token closing) (run_byte text s e o run le lt))
run_fine text s e k o run small le lt (inr (inr (inr (inl (_, number))))) =
    elim (cases_lt s o) [
      | inl later ↦
          let (_, (_, _, _, fresh), _) = number in
          absurd (both_ways (is_token (slice_index text (o - 1))) (fresh (omega (arith, later)))
          (run_byte text s e (o - 1) run (omega (arith, later)) (omega (arith, lt))))
      | inr here ↦
          let same : o ≡ s = omega (arith, here, le) in
          absurd (big (subst (E4 text) same number))
    ]
  where
    big : E4 text s → ⊥
    big (end, (_, its_run, digits, _), large) =
        let same : end ≡ e = same_end text s end e its_run run in
        let all : list_all is_digit (slice_range text s e) ≡ true =
        ap (λ z. list_all is_digit (slice_range text s z)) (sym same) ∙ digits in
        let value : 2 ^ 64 ≤ digits_value 10 (slice_range text s e) =
        subst (λ z. 2 ^ 64 ≤ digits_value 10 (slice_range text s z)) same large in
        omega (arith, small all, value)
run_fine text s e k o run small le lt (inr (inr (inr (inr (_, (_, opening, _)))))) =
    absurd (both_ways (is_token (slice_index text o)) (ap is_token opening) (run_byte text s e o run le lt))

pub clean_run : (text : List ℕ) (depth outer s e : ℕ) → Clean text depth outer s → IsRun text s e
    → (list_all is_digit (slice_range text s e) ≡ true → digits_value 10 (slice_range text s e) < 2 ^ 64)
    → Clean text depth outer e
clean_run text depth outer s e clean run small =
    let le : s ≤ e = omega (arith, run.some) in
    record {
      within = run.within;
      outside = comment_from text s e le clean.outside ∙ (tokens_stay 0 (slice_range text s e) run.all).0;
      depth_is = kept e le (omega arith);
      fine = λ k o lt breaks. elim (cases_lt o s) [
        | inl before ↦ clean.fine k o before breaks
        | inr from ↦ run_fine text s e k o run small from lt breaks
      ];
      fresh = λ pos token. absurd (both_ways (is_token (slice_index text e)) run.ended token);
      opened = λ pos. still_open text depth outer s e clean pos kept;
    }
  where
    kept : (j : ℕ) → s ≤ j → j ≤ e → depth_at text j ≡ depth
    kept j le le' =
        let all : list_all is_token (slice_range text s j) ≡ true
        = (and_parts (list_all is_token (slice_range text s j)) (list_all is_token (slice_range text j e))
        (sym (ap (list_all is_token) (range_split text s j e le le')
        ∙ list_all-append is_token (slice_range text s j) (slice_range text j e)) ∙ run.all)).0 in
        depth_from text s j le clean.outside ∙ (tokens_stay (depth_at text s) (slice_range text s j) all).1
        ∙ clean.depth_is

-- ---- the start and the end

pub clean_start : (text : List ℕ) (outer : ℕ) → Clean text 0 outer 0
clean_start text outer = record {
  within = omega arith;
  outside = refl;
  depth_is = refl;
  fine = λ k o lt breaks. absurd (omega (arith, lt));
  fresh = λ pos. absurd (omega (arith, pos));
  opened = λ pos. absurd (omega (arith, pos));
}

pub covered_end : (text : List ℕ) (i : ℕ) → comment_after false (take i text) ≡ false → EndsInGap text i
    → Covered text i (length text)
covered_end text i out ends =
    covered text i (length text) (10 ∷ []) (omega arith) out
    (ap (λ z. is_gap false (z ++ 10 ∷ [])) (take_rest text i) ∙ ends.1)

end_fine : (text : List ℕ) (depth outer i k o : ℕ) → Clean text depth outer i → EndsInGap text i → Breaks text k o
    → k ≡ 2
end_fine text depth outer i k o clean ends breaks =
    elim (cases_lt o i) [
      | inl before ↦ clean.fine k o before breaks
      | inr from ↦
          covered_fine text i (length text) k o (covered_end text i clean.outside ends) from
          (outside_of text k o breaks).0 breaks
    ]

e2_of : (text : List ℕ) (k o : ℕ) → k ≡ 2 → Breaks text k o → E2 text o
e2_of text k o is (inl e1) = absurd (omega (arith, is, e1.0))
e2_of text k o is (inr (inl e2)) = e2.1
e2_of text k o is (inr (inr (inl e3))) = absurd (omega (arith, is, e3.0))
e2_of text k o is (inr (inr (inr (inl e4)))) = absurd (omega (arith, is, e4.0))
e2_of text k o is (inr (inr (inr (inr e5)))) = absurd (omega (arith, is, e5.0))

-- outside all lists nothing is broken at the end
pub clean_end : (text : List ℕ) (outer i : ℕ) → Clean text 0 outer i → EndsInGap text i → (k o : ℕ) → Breaks text k o
    → ⊥
clean_end text outer i clean ends k o breaks =
    let cover = covered_end text i clean.outside ends in
    let ((inside, _), _, _, held) = e2_of text k o (end_fine text 0 outer i k o clean ends breaks) breaks in
    omega (
      arith,
      held (length text) inside (omega arith),
      cover.depths (length text) clean.within
          (omega arith),
      clean.depth_is,
    )

-- in a list rule E2 is the first
pub first_open : (text : List ℕ) (depth outer i : ℕ) → 0 < depth → Clean text depth outer i → EndsInGap text i
    → IsFirst text 2 outer
first_open text depth outer i pos clean ends =
    let cover = covered_end text i clean.outside ends in
    let open_now : IsOpenUpTo text (length text) outer =
    still_open text depth outer i (length text) clean pos (λ j le le'. cover.depths j le le' ∙ clean.depth_is) in
    record {
      broken = inr (inl (refl, open_now));
      first = λ l q breaks.
          let is : l ≡ 2 = end_fine text depth outer i l q clean ends breaks in
          let (_, _, _, held) = e2_of text l q is breaks in
          let ((inside, _), _, top, _) = open_now in
          elim (cases_lt q outer) [
            | inl sooner ↦ absurd (omega (arith, held outer sooner (omega (arith, inside)), top))
            | inr later ↦ inr (refl, is, later)
          ];
    }

-- a rule other than E2 that is broken here is the first
pub first_here : (text : List ℕ) (depth outer s k : ℕ) → Clean text depth outer s → k ≢ 2 → Breaks text k s
    → IsFirst text k s
first_here text depth outer s k clean other breaks = record {
  broken = breaks;
  first = λ l q there. elim (cases_lt q s) [
    | inl before ↦ inl (other, inl (clean.fine l q before there))
    | inr from ↦ inl (other, inr from)
  ];
}
