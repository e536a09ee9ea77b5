-- Rows of a text that are drawn, each by the same number of draws.
use Rattle.std.proofs.Common.{◌≡◌, ℕ, zero, suc, ◌+◌, ◌*◌, ◌<◌, List, [], ◌∷◌, ◌++◌, take, sym, ◌∙◌, ap, arith}
use Rattle.std.proofs.Common.{slice_index_or, add-one, zero-add, add-zero, add-suc, mul-zero, append-nil}
use Rattle.std.specs.List.{flat_map, range_with_len}
use Rattle.std.proofs.lemmas.List.{flat_map_more}
use Rattle.std.proofs.Math.Seq.{take-suc}
use Rattle.mp_base.proofs.Ranges.{range_suc}
use Rattle.program_maker.specs.Draws.{after, next, below, draw}
use Rattle.program_maker.specs.Texts.{registers, definition, clock, drawn_clock}

-- n rows were drawn behind a text
pub record Kept (row : ℕ → ℕ → List ℕ) (draws n seed state : ℕ) (old new : List ℕ) : Type 0 where
  pub drawn : state ≡ after seed (draws * n)
  pub rows : new ≡ old ++ flat_map (row seed) (range_with_len 0 n)

-- draws go on from where others ended
pub after-add : (seed m n : ℕ) → after (after seed m) n ≡ after seed (m + n)
unfolding after
after-add seed m zero = ap (after seed) (sym (add-zero m))
after-add seed m (suc n) = ap next (after-add seed m n) ∙ ap (after seed) {x = suc (m + n)} (omega arith)

-- the same of what is drawn
pub draw-on : (seed m k n : ℕ) → draw (after seed m) k n ≡ draw seed (m + k) n
draw-on seed m k n = ap (below n) (after-add seed m (suc k) ∙ ap (after seed) (add-suc m k))

-- one row more
pub kept_more : (row : ℕ → ℕ → List ℕ) (draws n seed state later : ℕ) (old new longer : List ℕ)
    → Kept row draws n seed state old new
    → later ≡ after state draws → longer ≡ new ++ row seed n → Kept row draws (n + 1) seed later old longer
kept_more row draws n seed state later old new longer kept drawn rows = record {
  drawn = drawn ∙ ap (λ x. after x draws) kept.drawn ∙ after-add seed (draws * n) draws
      ∙ ap (after seed) {x = draws * n + draws} (grind arith);
  rows = rows ∙ ap (λ t. t ++ row seed n) kept.rows ∙ flat_map_more (row seed) old (range_with_len 0 n) n
      ∙ ap (λ ks. old ++ flat_map (row seed) ks)
      (sym (ap (λ k. range_with_len 0 k) (add-one n) ∙ range_suc 0 n
      ∙ ap (λ k. range_with_len 0 n ++ k ∷ []) (zero-add n)));
}

-- one definition more
pub definitions_more : (text : List ℕ) (i : ℕ) → i < 12
    → (text ++ flat_map definition (take i registers)) ++ definition (slice_index_or registers i []) ≡ text
    ++ flat_map definition (take (i + 1) registers)
definitions_more text i h = flat_map_more definition text (take i registers) (slice_index_or registers i [])
    ∙ ap (λ ks. text ++ flat_map definition ks) (sym (take-suc registers i [] h)
    ∙ ap (λ k. take k registers) (sym (add-one i)))

-- no row was drawn yet
pub kept_none : (row : ℕ → ℕ → List ℕ) (draws seed : ℕ) (old : List ℕ) → Kept row draws 0 seed seed old old
unfolding after
kept_none row draws seed old = record {
  drawn = ap (after seed) (sym (mul-zero draws));
  rows = sym (append-nil old);
}

-- the clock that is drawn behind k others
pub clock-on : (seed k : ℕ) → clock (draw (after seed (2 * k)) 0 65536) (draw (after seed (2 * k)) 1 65536)
    ≡ drawn_clock seed k
clock-on seed k = ap (λ a. clock a (draw (after seed (2 * k)) 1 65536)) (draw-on seed (2 * k) 0 65536
    ∙ ap (λ j. draw seed j 65536) (add-zero (2 * k)))
    ∙ ap (clock (draw seed (2 * k) 65536)) (draw-on seed (2 * k) 1 65536)
