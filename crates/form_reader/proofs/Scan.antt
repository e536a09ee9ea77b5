-- The steps of a scan, over the bytes passed.
use Rattle.std.proofs.Common.{◌≡◌, ℕ, ◌+◌, ◌<◌, ◌≤◌, List, [], ◌∷◌, ◌++◌, Bool, true, false, refl, sym, ◌∙◌, ap, length}
use Rattle.std.proofs.Common.{get_or, append_assoc}
use Rattle.std.specs.Prelude.{slice_range, ◌&&◌}
use Rattle.std.specs.List.{list_all}
use Rattle.std.proofs.lemmas.List.{append-nil}
use Rattle.std.proofs.lemmas.List.Folds.{list_all-append}
use Rattle.mp_base.specs.declared.refusal.Place.{Place}
use Rattle.mp_base.proofs.Entries.{slice_range_more}
use Rattle.form_reader.specs.Text.{is_gap, fills_gap, comment_step, place_at}

pub all_more : (p : ℕ → Bool) (xs : List ℕ) (a i : ℕ) → a ≤ i → i < length xs → list_all p (slice_range xs a i) ≡ true
    → p (get_or xs i 0) ≡ true → list_all p (slice_range xs a (i + 1)) ≡ true
all_more p xs a i le lt before here =
    ap (list_all p) (slice_range_more xs a i le lt) ∙ list_all-append p (slice_range xs a i) (get_or xs i 0 ∷ [])
    ∙ ap (λ b. b && (p (get_or xs i 0) && true)) before ∙ ap (λ b. b && true) here

-- a gap so far, whatever completes it
abbrev pub GapSoFar : List ℕ → ℕ → ℕ → Bool → Type 0
GapSoFar xs a i c = (tail : List ℕ) → is_gap false (slice_range xs a i ++ tail) ≡ is_gap c tail

pub gap_more : (xs : List ℕ) (a i : ℕ) (c d : Bool) → a ≤ i → i < length xs → GapSoFar xs a i c
    → fills_gap c (get_or xs i 0) ≡ true → d ≡ comment_step c (get_or xs i 0) → GapSoFar xs a (i + 1) d
gap_more xs a i c d le lt before fills step tail =
    ap (λ ys. is_gap false (ys ++ tail)) (slice_range_more xs a i le lt)
    ∙ ap (is_gap false) (append_assoc (slice_range xs a i) (get_or xs i 0 ∷ []) tail)
    ∙ before (get_or xs i 0 ∷ tail) ∙ ap (λ z. z && is_gap (comment_step c (get_or xs i 0)) tail) fills
    ∙ ap (λ z. is_gap z tail) (sym step)

pub gap_done : (xs : List ℕ) (a i : ℕ) → GapSoFar xs a i false → is_gap false (slice_range xs a i) ≡ true
gap_done xs a i so_far = ap (is_gap false) (sym (append-nil (slice_range xs a i))) ∙ so_far []

pub not_in_comment : (c : Bool) (x : ℕ) → fills_gap c x ≡ false → c ≡ false
not_in_comment true x h = absurd (cc)
not_in_comment false x h = refl

-- at the end of a text its comment may be open
pub closes : (c : Bool) → is_gap c (10 ∷ []) ≡ true
closes true = refl
closes false = refl

-- a place that was reached is that of its offset
pub own_place : (xs : List ℕ) (p : Place) (o : ℕ) → p ≡ place_at xs o → p ≡ place_at xs p.offset
own_place xs p o e = let offset : p.offset ≡ o = ap (λ (q : Place). q.offset) e in e ∙ ap (place_at xs) (sym offset)

pub offset_of : (xs : List ℕ) (p : Place) (o : ℕ) → p ≡ place_at xs o → p.offset ≡ o
offset_of xs p o e = ap (λ (q : Place). q.offset) e
