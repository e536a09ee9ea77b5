-- Pieces of a text that stand behind others.
use Rattle.std.proofs.Common.{◌≡◌, ℕ, ◌+◌, ◌-◌, ◌≤◌, List, ◌++◌, sym, ◌∙◌, ap, length, take, drop, arith, length-append}
use Rattle.std.proofs.Common.{add-zero}
use Rattle.std.specs.Prelude.{slice_range, slice_index}
use Rattle.std.proofs.lemmas.List.{get_or-append-add}
use Rattle.std.proofs.Math.Seq.{take-append_seam, drop-append_seam}

-- a piece of a text
pub piece_is : (text before piece after : List ℕ) (s e : ℕ) → text ≡ before ++ (piece ++ after) → s ≡ length before
    → e ≡ s + length piece
    → slice_range text s e ≡ piece
piece_is text before piece after s e whole start end =
    let long : e - s ≡ length piece = omega arith in
    ap (λ t. take (e - s) (drop s t)) whole ∙ ap (λ k. take (e - s) (drop k (before ++ (piece ++ after)))) start
    ∙ ap (take (e - s)) (drop-append_seam before (piece ++ after)) ∙ ap (λ k. take k (piece ++ after)) long
    ∙ take-append_seam piece after

-- the byte behind a piece
pub byte_is : (text before after : List ℕ) (s : ℕ) → text ≡ before ++ after → s ≡ length before
    → slice_index text s ≡ slice_index after 0
byte_is text before after s whole start =
    ap (λ t. slice_index t s) whole ∙ ap (slice_index (before ++ after)) (start ∙ sym (add-zero (length before)))
    ∙ get_or-append-add before after 0 0

pub length_is : (text before piece after : List ℕ) (s e : ℕ) → text ≡ before ++ (piece ++ after) → s ≡ length before
    → e ≡ s + length piece
    → e ≤ length text
length_is text before piece after s e whole start end =
    omega (arith, ap length whole ∙ length-append before (piece ++ after), length-append piece after)
