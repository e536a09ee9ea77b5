-- Names, texts and comments, one byte after another.
use Rattle.std.proofs.Common.{◌≡◌, ◌≢◌, ℕ, ◌+◌, ◌-◌, ◌<◌, ◌≤◌, List, [], ◌∷◌, ◌++◌, refl, sym, ◌∙◌, ap, arith, length}
use Rattle.std.proofs.Common.{drop, get_or, append_assoc, true, false, eqb, Option, Some, None}
use Rattle.std.specs.Prelude.{slice_range}
use Rattle.std.proofs.lemmas.List.{drop_all, append-nil}
use Rattle.mp_base.proofs.Lists.{slice_range_none}
use Rattle.mp_base.proofs.Entries.{slice_range_more}
use Rattle.cif_form.specs.Readers.{goes_on, gives, is_name_byte, name_from, words_from, prefixed, comment_from}
use Rattle.cif_reader.proofs.Stepping.{next}
use Rattle.cif_reader.proofs.Paths.{behind, behind_nothing, behind_one}

-- ---- runs of bytes that pass a test

-- what is taken behind what was taken
abbrev after : List ℕ → List ℕ × List ℕ → List ℕ × List ℕ
after taken r = (taken ++ r.0, r.1)

abbrev SoFar : (List ℕ → List ℕ × List ℕ) → List ℕ → ℕ → ℕ → Type 0
SoFar f bs at i = f (drop at bs) ≡ after (slice_range bs at i) (f (drop i bs))

begins : (f : List ℕ → List ℕ × List ℕ) (bs : List ℕ) (at : ℕ) → SoFar f bs at at
begins f bs at = ap (λ t. after t (f (drop at bs))) (sym (slice_range_none bs at))

goes : (f : List ℕ → List ℕ × List ℕ) (bs : List ℕ) (at i : ℕ) → at ≤ i → i < length bs
    → (let b = get_or bs i 0 in let t = drop (i + 1) bs in f (b ∷ t) ≡ (b ∷ (f t).0, (f t).1)) → SoFar f bs at i
    → SoFar f bs at (i + 1)
goes f bs at i h k step s =
    let t = drop (i + 1) bs in
    let b = get_or bs i 0 in
    s ∙ ap (λ u. after (slice_range bs at i) (f u)) (next bs i k) ∙ ap (after (slice_range bs at i)) step
    ∙ ap (λ u. (u, (f t).1)) (sym (append_assoc (slice_range bs at i) (b ∷ []) (f t).0))
    ∙ ap (λ u. after u (f t)) (sym (slice_range_more bs at i h k))

stops : (f : List ℕ → List ℕ × List ℕ) (bs : List ℕ) (at i : ℕ) → f (drop i bs) ≡ ([], drop i bs) → SoFar f bs at i
    → f (drop at bs) ≡ (slice_range bs at i, drop i bs)
stops f bs at i h s =
    s ∙ ap (after (slice_range bs at i)) h ∙ ap (λ t. (t, drop i bs)) (append-nil (slice_range bs at i))

at_end : (f : List ℕ → List ℕ × List ℕ) (bs : List ℕ) (i : ℕ) → f [] ≡ ([], []) → length bs ≤ i
    → f (drop i bs) ≡ ([], drop i bs)
at_end f bs i e h = let d = drop_all i bs h in ap f d ∙ e ∙ ap (λ t. ([], t)) (sym d)

-- ---- names

pub record NameSoFar (bs : List ℕ) (at i : ℕ) : Type 0 where
  pub so_far : SoFar name_from bs at i

pub name_begins : (bs : List ℕ) (at : ℕ) → NameSoFar bs at at
name_begins bs at = record { so_far = begins name_from bs at }

pub name_goes_on : (bs : List ℕ) (at i : ℕ) → at ≤ i → i < length bs → is_name_byte (get_or bs i 0) ≡ true
    → NameSoFar bs at i → NameSoFar bs at (i + 1)
name_goes_on bs at i h k t s = record { so_far = goes name_from bs at i h k (rw (t, name_from) refl) s.so_far }

pub name_stops : (bs : List ℕ) (at i : ℕ) → i < length bs → is_name_byte (get_or bs i 0) ≡ false → NameSoFar bs at i
    → name_from (drop at bs) ≡ (slice_range bs at i, drop i bs)
name_stops bs at i k t s =
    stops name_from bs at i
    (ap name_from (next bs i k) ∙ rw (t, name_from) refl ∙ ap (λ t. ([], t)) (sym (next bs i k))) s.so_far

pub name_ends : (bs : List ℕ) (at i : ℕ) → length bs ≤ i → NameSoFar bs at i
    → name_from (drop at bs) ≡ (slice_range bs at i, drop i bs)
name_ends bs at i h s = stops name_from bs at i (at_end name_from bs i refl h) s.so_far

-- ---- texts of user commands

pub record WordsSoFar (bs : List ℕ) (at i : ℕ) : Type 0 where
  pub so_far : SoFar words_from bs at i

pub words_begin : (bs : List ℕ) (at : ℕ) → WordsSoFar bs at at
words_begin bs at = record { so_far = begins words_from bs at }

pub words_go_on : (bs : List ℕ) (at i : ℕ) → at ≤ i → i < length bs → get_or bs i 0 ≢ 59 → WordsSoFar bs at i
    → WordsSoFar bs at (i + 1)
words_go_on bs at i h k t s =
    let e : eqb (get_or bs i 0) 59 ≡ false = grind arith in
    record { so_far = goes words_from bs at i h k (rw (e, words_from) refl) s.so_far }

pub words_stop : (bs : List ℕ) (at i : ℕ) → i < length bs → get_or bs i 0 ≡ 59 → WordsSoFar bs at i
    → words_from (drop at bs) ≡ (slice_range bs at i, drop i bs)
words_stop bs at i k t s =
    let e : eqb (get_or bs i 0) 59 ≡ true = grind arith in
    stops words_from bs at i
    (ap words_from (next bs i k) ∙ rw (e, words_from) refl ∙ ap (λ t. ([], t)) (sym (next bs i k))) s.so_far

pub words_end : (bs : List ℕ) (at i : ℕ) → length bs ≤ i → WordsSoFar bs at i
    → words_from (drop at bs) ≡ (slice_range bs at i, drop i bs)
words_end bs at i h s = stops words_from bs at i (at_end words_from bs i refl h) s.so_far

-- ---- comments

-- the words so far, with so many parentheses open
pub record CommentSoFar (bs : List ℕ) (at i depth : ℕ) : Type 0 where
  pub so_far : comment_from 0 (drop at bs) ≡ behind (slice_range bs at i) (comment_from depth (drop i bs))

pub comment_begins : (bs : List ℕ) (at : ℕ) → CommentSoFar bs at at 0
comment_begins bs at =
    record {
      so_far = behind_nothing (comment_from 0 (drop at bs))
          ∙ ap (λ t. behind t (comment_from 0 (drop at bs))) (sym (slice_range_none bs at));
    }

prefixed_goes : (b : ℕ) (r : Option (List ℕ × List ℕ)) → prefixed b r ≡ goes_on (gives (λ t. b ∷ t)) r
prefixed_goes b None = refl
prefixed_goes b (Some r) = refl

comment_on : (bs : List ℕ) (at i depth inner : ℕ) → at ≤ i → i < length bs
    → (let b = get_or bs i 0 in let t = drop (i + 1) bs in
    comment_from depth (b ∷ t) ≡ prefixed b (comment_from inner t)) → CommentSoFar bs at i depth
    → CommentSoFar bs at (i + 1) inner
comment_on bs at i depth inner h k step s =
    let r = comment_from inner (drop (i + 1) bs) in
    let b = get_or bs i 0 in
    record {
      so_far = s.so_far ∙ ap (λ t. behind (slice_range bs at i) (comment_from depth t)) (next bs i k)
          ∙ ap (behind (slice_range bs at i)) (step ∙ prefixed_goes b r) ∙ behind_one (slice_range bs at i) b r
          ∙ ap (λ t. behind t r) (sym (slice_range_more bs at i h k));
    }

pub comment_opens : (bs : List ℕ) (at i depth : ℕ) → at ≤ i → i < length bs → get_or bs i 0 ≡ 40
    → CommentSoFar bs at i depth → CommentSoFar bs at (i + 1) (depth + 1)
comment_opens bs at i depth h k t s =
    let e : eqb (get_or bs i 0) 40 ≡ true = grind arith in
    comment_on bs at i depth (depth + 1) h k (rw (e, comment_from) refl) s

pub comment_closes : (bs : List ℕ) (at i depth : ℕ) → at ≤ i → i < length bs → get_or bs i 0 ≡ 41 → depth ≢ 0
    → CommentSoFar bs at i depth
    → CommentSoFar bs at (i + 1) (depth - 1)
comment_closes bs at i depth h k t d s =
    let e : eqb (get_or bs i 0) 40 ≡ false = grind arith in
    let f : eqb (get_or bs i 0) 41 ≡ true = grind arith in
    let g : eqb depth 0 ≡ false = grind arith in
    comment_on bs at i depth (depth - 1) h k (rw (e, f, g, comment_from) refl) s

pub comment_goes_on : (bs : List ℕ) (at i depth : ℕ) → at ≤ i → i < length bs → get_or bs i 0 ≢ 40 → get_or bs i 0 ≢ 41
    → CommentSoFar bs at i depth
    → CommentSoFar bs at (i + 1) depth
comment_goes_on bs at i depth h k t u s =
    let e : eqb (get_or bs i 0) 40 ≡ false = grind arith in
    let f : eqb (get_or bs i 0) 41 ≡ false = grind arith in
    comment_on bs at i depth depth h k (rw (e, f, comment_from) refl) s

pub comment_ends : (bs : List ℕ) (at i depth : ℕ) → i < length bs → get_or bs i 0 ≡ 41 → depth ≡ 0
    → CommentSoFar bs at i depth
    → comment_from 0 (drop at bs) ≡ Some (slice_range bs at i, drop (i + 1) bs)
comment_ends bs at i depth k t d s =
    let e : eqb (get_or bs i 0) 40 ≡ false = grind arith in
    let f : eqb (get_or bs i 0) 41 ≡ true = grind arith in
    let g : eqb depth 0 ≡ true = grind arith in
    let r : comment_from depth (get_or bs i 0 ∷ drop (i + 1) bs) ≡ Some ([], drop (i + 1) bs) =
    rw (e, f, g, comment_from) refl in
    s.so_far ∙ ap (λ t. behind (slice_range bs at i) (comment_from depth t)) (next bs i k)
    ∙ ap (behind (slice_range bs at i)) r
    ∙ ap (λ t. Some (t, drop (i + 1) bs)) (append-nil (slice_range bs at i))

pub comment_lacks : (bs : List ℕ) (at i depth : ℕ) → length bs ≤ i → CommentSoFar bs at i depth
    → comment_from 0 (drop at bs) ≡ None
comment_lacks bs at i depth h s =
    s.so_far ∙ ap (λ t. behind (slice_range bs at i) (comment_from depth t)) (drop_all i bs h)
