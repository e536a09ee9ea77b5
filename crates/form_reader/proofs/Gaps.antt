-- Where gaps and runs of token characters end.
use Rattle.std.proofs.Common.{◌≡◌, ℕ, zero, suc, ◌+◌, ◌-◌, ◌<◌, ◌≤◌, List, [], ◌∷◌, ◌++◌, Bool, true, false, refl, sym}
use Rattle.std.proofs.Common.{◌∙◌, ap, inl, inr, length, take, drop, arith, get_or, append_assoc}
use Rattle.std.specs.Prelude.{slice_range, ◌==◌, ◌&&◌, ◌||◌}
use Rattle.std.specs.List.{list_all}
use Rattle.std.proofs.lemmas.Bool.{cases_lt, and_parts, or_from, ne_eqb, both_ways}
use Rattle.std.proofs.lemmas.List.{get_or-take, get_or-drop, length-take, length-drop, drop_more, drop-drop}
use Rattle.std.proofs.lemmas.List.{take-append-drop}
use Rattle.std.proofs.Math.Seq.{take-add}
use Rattle.mp_base.specs.Token.{is_token}
use Rattle.form_reader.specs.Text.{is_blank, comment_step, comment_after, fills_gap, is_gap, IsGapBetween, IsRun}
use Rattle.form_reader.specs.Text.{IsByte}

-- ---- ranges

-- a range, cut
pub range_split : (xs : List ℕ) (i s e : ℕ) → i ≤ s → s ≤ e
    → slice_range xs i e ≡ slice_range xs i s ++ slice_range xs s e
range_split xs i s e le le' =
    let sum : e - i ≡ (s - i) + (e - s) = omega (arith, le, le') in
    let back : i + (s - i) ≡ s = omega (arith, le) in
    ap (λ k. take k (drop i xs)) sum ∙ take-add (s - i) (e - s) (drop i xs)
    ∙ ap (λ z. take (s - i) (drop i xs) ++ take (e - s) z) (drop-drop (s - i) i xs ∙ ap (λ k. drop k xs) back)

pub range_first : (xs : List ℕ) (s e : ℕ) → s < e → s < length xs
    → slice_range xs s e ≡ get_or xs s 0 ∷ slice_range xs (s + 1) e
range_first xs s e lt inside =
    let one : e - s ≡ suc (e - (s + 1)) = omega (arith, lt) in
    ap (λ k. take k (drop s xs)) one ∙ ap (take (suc (e - (s + 1)))) (drop_more xs s 0 inside)

pub range_at : (xs : List ℕ) (s e i : ℕ) → s ≤ i → i < e → get_or (slice_range xs s e) (i - s) 0 ≡ get_or xs i 0
range_at xs s e i le lt =
    let within : i - s < e - s = omega (arith, le, lt) in
    let back : s + (i - s) ≡ i = omega (arith, le) in
    get_or-take (e - s) (drop s xs) (i - s) 0 within ∙ get_or-drop s xs (i - s) 0 ∙ ap (λ k. get_or xs k 0) back

-- what follows i is what stands up to s, and what follows s
pub range_then : (xs : List ℕ) (i s : ℕ) → i ≤ s → slice_range xs i s ++ drop s xs ≡ drop i xs
range_then xs i s le =
    let e : i + (s - i) ≡ s = omega (arith, le) in
    ap (λ k. slice_range xs i s ++ drop k xs) (sym e)
    ∙ ap (λ z. slice_range xs i s ++ z) (sym (drop-drop (s - i) i xs)) ∙ take-append-drop (s - i) (drop i xs)

-- what stands before s is what stands before i, and what stands between
pub take_then : (xs : List ℕ) (i s : ℕ) → i ≤ s → take s xs ≡ take i xs ++ slice_range xs i s
take_then xs i s le = let e : s ≡ i + (s - i) = omega (arith, le) in ap (λ k. take k xs) e ∙ take-add i (s - i) xs

-- ---- gaps

-- the rest of a gap
pub gap_front : (c : Bool) (xs ys : List ℕ) → is_gap c (xs ++ ys) ≡ true → is_gap (comment_after c xs) ys ≡ true
gap_front c [] ys h = h
gap_front c (x ∷ xs) ys h =
    gap_front (comment_step c x) xs ys (and_parts (fills_gap c x) (is_gap (comment_step c x) (xs ++ ys)) h).1

-- behind a whole gap one is outside comments
pub gap_append : (c : Bool) (xs ys : List ℕ) → is_gap c xs ≡ true → is_gap c (xs ++ ys) ≡ is_gap false ys
gap_append true [] ys h = absurd (cc)
gap_append false [] ys h = refl
gap_append c (x ∷ xs) ys h =
    let parts = and_parts (fills_gap c x) (is_gap (comment_step c x) xs) h in
    ap (λ z. z && is_gap (comment_step c x) (xs ++ ys)) parts.0 ∙ gap_append (comment_step c x) xs ys parts.1

pub comment-gap : (c : Bool) (xs : List ℕ) → is_gap c xs ≡ true → comment_after c xs ≡ false
comment-gap true [] h = absurd (cc)
comment-gap false [] h = refl
comment-gap c (x ∷ xs) h =
    comment-gap (comment_step c x) xs (and_parts (fills_gap c x) (is_gap (comment_step c x) xs) h).1

-- a byte that begins a token or bracket
abbrev pub Begins : ℕ → Type 0
Begins b = fills_gap false b ≡ false

no_gap : (b : ℕ) (ys : List ℕ) → Begins b → is_gap false (b ∷ ys) ≡ false
no_gap b ys begins = ap (λ z. z && is_gap (comment_step false b) ys) begins

pub other_byte : (b c : ℕ) → is_token c ≡ false → is_token b ≡ true → (b == c) ≡ false
other_byte b c other h = ne_eqb b c (λ e. both_ways (is_token b) (ap is_token e ∙ other) h)

pub token_begins : (b : ℕ) → is_token b ≡ true → Begins b
token_begins b h =
    or_from (b == 59) (is_blank b) (other_byte b 59 refl h)
    (or_from (b == 32 || b == 9 || b == 10) (b == 13)
    (or_from (b == 32 || b == 9) (b == 10)
    (or_from (b == 32) (b == 9) (other_byte b 32 refl h) (other_byte b 9 refl h)) (other_byte b 10 refl h))
    (other_byte b 13 refl h))

pub byte_begins : (xs : List ℕ) (s c : ℕ) → IsByte xs s c → Begins c → (s < length xs) × Begins (get_or xs s 0)
byte_begins xs s c byte begins = (byte.0, ap (fills_gap false) byte.1 ∙ begins)

-- no gap goes past the beginning of a token
pub gap_ends : (xs : List ℕ) (i s : ℕ) (tail : List ℕ) → IsGapBetween xs i s → s < length xs → Begins (get_or xs s 0)
    → is_gap false (drop i xs ++ tail) ≡ false
gap_ends xs i s tail gap lt begins =
    ap (λ z. is_gap false (z ++ tail)) (sym (range_then xs i s gap.0))
    ∙ ap (is_gap false) (append_assoc (slice_range xs i s) (drop s xs) tail)
    ∙ gap_append false (slice_range xs i s) (drop s xs ++ tail) gap.1
    ∙ ap (λ z. is_gap false (z ++ tail)) (drop_more xs s 0 lt) ∙ no_gap (get_or xs s 0) (drop (s + 1) xs ++ tail) begins

-- two gaps from one place end at one place
no_earlier : (xs : List ℕ) (i s q : ℕ) → IsGapBetween xs i s → IsGapBetween xs i q → s < length xs
    → Begins (get_or xs s 0) → s < q → ⊥
no_earlier xs i s q one two inside begins lt =
    both_ways (is_gap false (slice_range xs i q))
    (ap (is_gap false) (range_split xs i s q one.0 (omega (arith, lt)))
    ∙ gap_append false (slice_range xs i s) (slice_range xs s q) one.1
    ∙ ap (is_gap false) (range_first xs s q lt inside) ∙ no_gap (get_or xs s 0) (slice_range xs (s + 1) q) begins)
    two.1

pub same_start : (xs : List ℕ) (i s q : ℕ) → IsGapBetween xs i s → IsGapBetween xs i q
    → (s < length xs) × Begins (get_or xs s 0) → (q < length xs) × Begins (get_or xs q 0) → s ≡ q
same_start xs i s q one two a b =
    elim (cases_lt s q) [
      | inl lt ↦ absurd (no_earlier xs i s q one two a.0 a.1 lt)
      | inr ge ↦ elim (cases_lt q s) [
        | inl lt ↦ absurd (no_earlier xs i q s two one b.0 b.1 lt)
        | inr le ↦ omega (arith, ge, le)
      ]
    ]

-- ---- runs

pub list_all_at : (p : ℕ → Bool) (ys : List ℕ) (k : ℕ) → list_all p ys ≡ true → k < length ys → p (get_or ys k 0) ≡ true
list_all_at p [] k h lt = absurd (omega (arith, lt))
list_all_at p (y ∷ ys) zero h lt = (and_parts (p y) (list_all p ys) h).0
list_all_at p (y ∷ ys) (suc k) h lt = list_all_at p ys k (and_parts (p y) (list_all p ys) h).1 (omega (arith, lt))

-- a byte of a run
pub run_byte : (xs : List ℕ) (s e i : ℕ) → IsRun xs s e → s ≤ i → i < e → is_token (get_or xs i 0) ≡ true
run_byte xs s e i run le lt =
    let size : i - s < length (slice_range xs s e) =
    omega (arith, length-take (e - s) (drop s xs), length-drop s xs, lt, le, run.within) in
    ap is_token (sym (range_at xs s e i le lt)) ∙ list_all_at is_token (slice_range xs s e) (i - s) run.all size

pub run_first : (xs : List ℕ) (s e : ℕ) → IsRun xs s e → is_token (get_or xs s 0) ≡ true
run_first xs s e run = run_byte xs s e s run (omega arith) run.some

pub run_begins : (xs : List ℕ) (s e : ℕ) → IsRun xs s e → (s < length xs) × Begins (get_or xs s 0)
run_begins xs s e run = (omega (arith, run.some, run.within), token_begins (get_or xs s 0) (run_first xs s e run))

-- two runs from one place end at one place
no_shorter : (xs : List ℕ) (s d e : ℕ) → IsRun xs s d → IsRun xs s e → d < e → ⊥
no_shorter xs s d e one two lt =
    both_ways (is_token (get_or xs d 0)) one.ended (run_byte xs s e d two (omega (arith, one.some)) lt)

pub same_end : (xs : List ℕ) (s d e : ℕ) → IsRun xs s d → IsRun xs s e → d ≡ e
same_end xs s d e one two =
    elim (cases_lt d e) [
      | inl lt ↦ absurd (no_shorter xs s d e one two lt)
      | inr ge ↦ elim (cases_lt e d) [
        | inl lt ↦ absurd (no_shorter xs s e d two one lt)
        | inr le ↦ omega (arith, ge, le)
      ]
    ]

-- a mark begins no run
pub mark_no_run : (xs : List ℕ) (s e c : ℕ) → get_or xs s 0 ≡ c → is_token c ≡ false → IsRun xs s e → ⊥
mark_no_run xs s e c is other run = both_ways (is_token (get_or xs s 0)) (ap is_token is ∙ other) (run_first xs s e run)
