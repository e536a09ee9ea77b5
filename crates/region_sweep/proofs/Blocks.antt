-- Longest stretches of places and longest stretches of cells.
use Rattle.std.proofs.Common.{ℕ, ◌≡◌, ◌+◌, ◌-◌, ◌<◌, ◌≤◌, ◌↔◌, List, inl, inr, sym, subst, arith, length}
use Rattle.std.specs.Prelude.{ℤ, negsuc, ◌+ℤ◌, ◌≤ℤ◌, ◌<ℤ◌}
use Rattle.std.proofs.lemmas.Int.{ints, by_lt_z}
use Rattle.mask_tiles.specs.Tiles.{IsLongest}
use Rattle.region_sweep.specs.Grid.{Ascending, cell_of, start_of}
use Rattle.region_sweep.proofs.Axes.{in_cell, cells_rise, start_is_in, step_back}

-- a longest stretch of cells of one kind, from l up to r, which is outside
pub record Stretch (Is : ℕ → Type 0) (l r : ℕ) : Type 0 where
  pub wide : l < r
  pub each : (c : ℕ) → l ≤ c → c < r → Is c
  pub before : (c : ℕ) → c + 1 ≡ l → ¬ Is c
  pub after : ¬ Is r

-- the kind of a place is that of its cell
pub record ByCell (marks : List ℤ) (P : ℤ → Type 0) (D : ℕ → Type 0) : Type 0 where
  pub ascending : Ascending marks
  pub same : (z : ℤ) → P z ↔ D (cell_of marks z)

-- the ends of a stretch of places are marks
pub record IsCut (marks : List ℤ) (z : ℤ) : Type 0 where
  pub some : 0 < cell_of marks z
  pub before : cell_of marks (z +ℤ negsuc 0) + 1 ≡ cell_of marks z
  pub start : start_of marks (cell_of marks z) ≡ z

cut_where : (ms : List ℤ) (P : ℤ → Type 0) (D : ℕ → Type 0) (z : ℤ) → ByCell ms P D
    → ((cell_of ms (z +ℤ negsuc 0) ≡ cell_of ms z) → ⊥) → IsCut ms z
cut_where ms P D z by same =
    elim (step_back ms z by.ascending) [
      | inl e ↦ absurd (same e)
      | inr h ↦ record { some = h.0; before = h.1; start = h.2 }
    ]

pub cut_left : (ms : List ℤ) (P : ℤ → Type 0) (D : ℕ → Type 0) (a b : ℤ) → ByCell ms P D → IsLongest P a b → IsCut ms a
cut_left ms P D a b by h = cut_where ms P D a by
    (λ e. h.before
    ((by.same (a +ℤ negsuc 0)).1
    (subst D (sym e) ((by.same a).0 (h.each a (let s = h.some in omega (arith, ints)) h.some)))))

pub cut_right : (ms : List ℤ) (P : ℤ → Type 0) (D : ℕ → Type 0) (a b : ℤ) → ByCell ms P D → IsLongest P a b → IsCut ms b
cut_right ms P D a b by h = cut_where ms P D b by
    (λ e. h.after ((by.same b).1 (subst D e ((by.same (b +ℤ negsuc 0)).0
    (h.each (b +ℤ negsuc 0) (let s = h.some in omega (arith, ints)) (let s = h.some in omega (arith, ints)))))))

-- the place is before the end exactly where its cell is before the end's
before_cut : (ms : List ℤ) (z b : ℤ) → Ascending ms → IsCut ms b → z <ℤ b → cell_of ms z < cell_of ms b
before_cut ms z b up cut l = let r = cells_rise ms z (b +ℤ negsuc 0) up (omega (arith, ints)) in let e = cut.before in
    omega arith

at_or_after : (ms : List ℤ) (a : ℤ) (c : ℕ) → Ascending ms → IsCut ms a → cell_of ms a ≤ c → c ≤ length ms
    → a ≤ℤ start_of ms c
at_or_after ms a c up cut h l =
    let e = start_is_in ms c up (let s = cut.some in omega arith) l in
    by_lt_z (start_of ms c) a
    (λ m. let b = before_cut ms (start_of ms c) a up cut m in absurd (omega arith))
    (λ m. m)

pub stretch_from_places : (ms : List ℤ) (P : ℤ → Type 0) (D : ℕ → Type 0) (a b : ℤ) → ByCell ms P D → IsLongest P a b
    → Stretch D (cell_of ms a) (cell_of ms b)
stretch_from_places ms P D a b by h =
    let up = by.ascending in
    let left = cut_left ms P D a b by h in
    let right = cut_right ms P D a b by h in
    record {
      wide = before_cut ms a b up right h.some;
      each = λ c l m.
          let n = (in_cell ms b up).within in
          let e = start_is_in ms c up (let s = left.some in omega arith) (omega arith) in
          subst D e ((by.same (start_of ms c)).0 (h.each (start_of ms c)
          (at_or_after ms a c up left l (omega arith))
          (by_lt_z (start_of ms c) b (λ x. x)
          (λ x. let r = cells_rise ms b (start_of ms c) up x in absurd (omega arith)))));
      before = λ c e d. let k = left.before in let same : cell_of ms (a +ℤ negsuc 0) ≡ c = omega arith in
          h.before ((by.same (a +ℤ negsuc 0)).1 (subst D (sym same) d));
      after = λ d. h.after ((by.same b).1 d);
    }

-- a start that is a mark is a cut
pub start_cuts : (ms : List ℤ) (c : ℕ) → Ascending ms → 0 < c → c ≤ length ms → IsCut ms (start_of ms c)
start_cuts ms c up some l =
    let e = start_is_in ms c up some l in
    elim (step_back ms (start_of ms c) up) [
      | inl q ↦
          let b = (in_cell ms (start_of ms c +ℤ negsuc 0) up).below (c - 1) (omega arith) in
          absurd (omega (arith, ints))
      | inr h ↦ record { some = h.0; before = h.1; start = h.2 }
    ]

pub places_from_stretch : (ms : List ℤ) (P : ℤ → Type 0) (D : ℕ → Type 0) (l r : ℕ) → ByCell ms P D → 0 < l
    → r ≤ length ms → Stretch D l r
    → IsLongest P (start_of ms l) (start_of ms r)
places_from_stretch ms P D l r by some in' h =
    let up = by.ascending in
    let w = h.wide in
    let el = start_is_in ms l up some (omega arith) in
    let er = start_is_in ms r up (omega arith) in' in
    let left = start_cuts ms l up some (omega arith) in
    let right = start_cuts ms r up (omega arith) in' in
    record {
      some = by_lt_z (start_of ms l) (start_of ms r) (λ x. x)
          (λ x. let c = cells_rise ms (start_of ms r) (start_of ms l) up x in absurd (omega arith));
      each = λ z a b. (by.same z).1 (h.each (cell_of ms z)
          (let c = cells_rise ms (start_of ms l) z up a in omega arith)
          (let c = before_cut ms z (start_of ms r) up right b in omega arith));
      before =
          λ p. h.before (cell_of ms (start_of ms l +ℤ negsuc 0)) (let k = left.before in omega arith)
          ((by.same (start_of ms l +ℤ negsuc 0)).0 p);
      after = λ p. h.after (subst D er ((by.same (start_of ms r)).0 p));
    }
