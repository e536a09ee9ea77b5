-- Runs of windows, one window more at a time.
use Rattle.std.proofs.Common.{ℕ, ◌≡◌, ◌+◌, ◌-◌, ◌<◌, ◌≤◌, ◌⊎◌, List, [], ◌++◌, true, false, inl, inr, refl, sym, ◌∙◌}
use Rattle.std.proofs.Common.{ap, subst, arith, length, get_or, take}
use Rattle.std.specs.Prelude.{AllPairs, nat_le, nat_lt, ◌&&◌}
use Rattle.std.proofs.lemmas.Bool.{cases_lt}
use Rattle.std.proofs.lemmas.Bool.Decides.{nat_tests}
use Rattle.std.proofs.lemmas.List.{get_or_append_left, get_or-append_right, length-append, get_or-take, length-take}
use Rattle.std.proofs.lemmas.List.{length-take-le}
use Rattle.std.proofs.lemmas.List.Elements.{All-append, Contains-append_left, Contains-append_right}
use Rattle.mask_runs.specs.declared.run.Run.{Run}
use Rattle.mask_runs.specs.Runs.{IsRun, AreRuns}
use Rattle.kept_runs.specs.Borders.{windowed}
use Rattle.row_windows.specs.declared.window.Window.{Window}
use Rattle.row_windows.specs.Windows.{AreApart, seen}
use Rattle.row_windows.proofs.Cutting.{window, no_window, InWindow, in_or_not, seen_in, seen_out}

-- the row is the first one before a cell, which has none on its left, and the second one from there on
record IsJoint (f g h : ℕ → ℕ) (cell : ℕ) : Type 0 where
  pub before : (c : ℕ) → c < cell → h c ≡ f c
  pub after : (c : ℕ) → cell ≤ c → h c ≡ g c
  pub gap : (c : ℕ) → c + 1 ≡ cell → h c ≡ 0
  pub first : (c : ℕ) → cell ≤ c → f c ≡ 0
  pub second : (c : ℕ) → c < cell → g c ≡ 0

module _ (f g h : ℕ → ℕ) (cell : ℕ) (j : IsJoint f g h cell) where
  -- a run that begins before the cell ends before it
  ends_before : (r : Run) → IsRun h r → r.left < cell → r.right < cell
  ends_before r is l = elim (cases_lt r.right cell) [
    | inl m ↦ m
    | inr m ↦
        let e = is.each (cell - 1) (omega arith) (omega arith) in
        let z = j.gap (cell - 1) (omega arith) in
        let s = is.some in
        absurd (omega arith)
  ]

  first_ends : (r : Run) → IsRun f r → r.right < cell
  first_ends r is = elim (cases_lt r.right cell) [
    | inl m ↦ m
    | inr m ↦
        let w = is.wide in
        let s = is.some in
        let e = is.each (r.right - 1) (omega arith) (omega arith) in
        absurd (elim (cases_lt (r.right - 1) cell) [
          | inr k ↦ let z = j.first (r.right - 1) k in omega arith
          | inl k ↦ let z = j.gap (r.right - 1) (omega arith) in let b = j.before (r.right - 1) k in omega arith
        ])
  ]

  second_begins : (r : Run) → IsRun g r → cell ≤ r.left
  second_begins r is = elim (cases_lt r.left cell) [
    | inr m ↦ m
    | inl m ↦ let e = is.each r.left (omega arith) is.wide in let z = j.second r.left m in let s = is.some in
        absurd (omega arith)
  ]

  from_first : (r : Run) → IsRun f r → IsRun h r
  from_first r is = let b = first_ends r is in let w = is.wide in record {
    some = is.some;
    wide = w;
    each = λ c x y. j.before c (omega arith) ∙ is.each c x y;
    before = λ c e k. is.before c e (sym (j.before c (omega arith)) ∙ k);
    after = λ k. is.after (sym (j.before r.right b) ∙ k);
  }

  from_second : (r : Run) → IsRun g r → IsRun h r
  from_second r is = let b = second_begins r is in let w = is.wide in record {
    some = is.some;
    wide = w;
    each = λ c x y. j.after c (omega arith) ∙ is.each c x y;
    before = λ c e k. elim (cases_lt c cell) [
      | inr l ↦ is.before c e (sym (j.after c l) ∙ k)
      | inl l ↦ let z = j.gap c (omega arith) in let s = is.some in omega arith
    ];
    after = λ k. is.after (sym (j.after r.right (omega arith)) ∙ k);
  }

  to_first : (r : Run) → IsRun h r → r.left < cell → IsRun f r
  to_first r is l = let b = ends_before r is l in let w = is.wide in record {
    some = is.some;
    wide = w;
    each = λ c x y. sym (j.before c (omega arith)) ∙ is.each c x y;
    before = λ c e k. is.before c e (j.before c (omega arith) ∙ k);
    after = λ k. is.after (j.before r.right b ∙ k);
  }

  to_second : (r : Run) → IsRun h r → cell ≤ r.left → IsRun g r
  to_second r is l = let w = is.wide in record {
    some = is.some;
    wide = w;
    each = λ c x y. sym (j.after c (omega arith)) ∙ is.each c x y;
    before = λ c e k. elim (cases_lt c cell) [
      | inr m ↦ is.before c e (j.after c m ∙ k)
      | inl m ↦ let z = j.second c m in let s = is.some in omega arith
    ];
    after = λ k. is.after (j.after r.right (omega arith) ∙ k);
  }

  ascend : (ps qs : List Run) → AreRuns f ps → AreRuns g qs → AllPairs (λ p q. p.right ≤ q.left) (ps ++ qs)
  ascend ps qs a b = λ i k d l m.
      let n = length ps in
      let two = λ (x : ℕ) (u : x < length (ps ++ qs)) (v : n ≤ x). get_or-append_right ps qs n x d refl v in
      elim (cases_lt k n) [
        | inl y ↦ subst (λ (q : Run). (get_or (ps ++ qs) i d).right ≤ q.left) (sym (get_or_append_left ps qs d k y))
            (subst (λ (q : Run). q.right ≤ (get_or ps k d).left) (sym (get_or_append_left ps qs d i (omega arith)))
            (a.ascending i k d l y))
        | inr y ↦
            let e = get_or-append_right ps qs n k d refl y in
            let size : k - n < length qs = let total = length-append ps qs in omega arith in
            elim (cases_lt i n) [
              | inl x ↦
                  let s = get_or_append_left ps qs d i x in
                  let u = first_ends (get_or ps i d) (a.each i d x) in
                  let v = second_begins (get_or qs (k - n) d) (b.each (k - n) d size) in
                  let s1 = ap (λ (q : Run). q.right) s in
                  let e1 = ap (λ (q : Run). q.left) e in
                  omega arith
              | inr x ↦
                  let s = get_or-append_right ps qs n i d refl x in
                  let u = b.ascending (i - n) (k - n) d (omega arith) size in
                  let s1 = ap (λ (q : Run). q.right) s in
                  let e1 = ap (λ (q : Run). q.left) e in
                  omega arith
            ]
      ]

  join_runs : (ps qs : List Run) → AreRuns f ps → AreRuns g qs → AreRuns h (ps ++ qs)
  join_runs ps qs a b = record {
    each = All-append (IsRun h) ps qs (λ k d l. from_first _ (a.each k d l)) (λ k d l. from_second _ (b.each k d l));
    all = λ r is. elim (cases_lt r.left cell) [
      | inl l ↦ Contains-append_left ps qs r (a.all r (to_first r is l))
      | inr l ↦ Contains-append_right ps qs r (b.all r (to_second r is l))
    ];
    ascending = ascend ps qs a b;
  }

windowed_in : (a b : ℕ) (f : ℕ → ℕ) (c : ℕ) → a ≤ c → c < b → windowed a b f c ≡ f c
windowed_in a b f c l m = let e : (nat_le a c && nat_lt c b) ≡ true = grind (arith, nat_tests) in rw e refl

windowed_out : (a b : ℕ) (f : ℕ → ℕ) (c : ℕ) → (c < a) ⊎ (b ≤ c) → windowed a b f c ≡ 0
windowed_out a b f c l = let e : (nat_le a c && nat_lt c b) ≡ false = grind (arith, nat_tests) in rw e refl

-- one of the first n windows has the cell
record HasCell (windows : List Window) (n c : ℕ) : Type 0 where
  place : ℕ
  among : place < n
  from : (window windows place).from ≤ c
  to : c < (window windows place).to

module _ (windows : List Window) (n : ℕ) (l : n ≤ length windows) (c : ℕ) where
  in_first : InWindow (take n windows) c → HasCell windows n c
  in_first w =
      let m : w.place < n = let a = w.among in let b = length-take n windows in omega arith in
      let e = get_or-take n windows w.place no_window m in
      let s = ap (λ (v : Window). v.from) e in
      let t = ap (λ (v : Window). v.to) e in
      let a = w.from in
      let b = w.to in
      record { place = w.place; among = m; from = omega arith; to = omega arith }

  first_in : HasCell windows n c → InWindow (take n windows) c
  first_in w =
      let m = w.among in
      let e = get_or-take n windows w.place no_window m in
      let s = ap (λ (v : Window). v.from) e in
      let t = ap (λ (v : Window). v.to) e in
      let a = w.from in
      let b = w.to in
      let k = length-take-le n windows l in
      record { place = w.place; among = omega arith; from = omega arith; to = omega arith }

module _ (cells : ℕ) (windows : List Window) (i : ℕ) (f : ℕ → ℕ) (apart : AreApart cells windows)
    (l : i < length windows) where
  -- the windows before one end before it begins
  ends_left : (k : ℕ) → k < i → (window windows k).to < (window windows i).from
  ends_left k m = apart.ascending k i no_window m l

  more_out : (c : ℕ) → (¬ InWindow (take i windows) c) → (c < (window windows i).from) ⊎ ((window windows i).to ≤ c)
      → ¬ InWindow (take (i + 1) windows) c
  more_out c n o = λ w.
      let h = in_first windows (i + 1) (omega arith) c w in
      let a = h.among in
      elim (cases_lt h.place i) [
        | inl m ↦
            n (first_in windows i (omega arith) c (record { place = h.place; among = m; from = h.from; to = h.to }))
        | inr m ↦
            let e : h.place ≡ i = omega arith in
            let s = ap (λ k. (window windows k).from) e in
            let t = ap (λ k. (window windows k).to) e in
            let x = h.from in
            let y = h.to in
            elim o [ inl p ↦ omega arith | inr p ↦ omega arith ]
      ]

  past : (c : ℕ) → (window windows i).from ≤ c + 1 → ¬ InWindow (take i windows) c
  past c m = λ w. let h = in_first windows i (omega arith) c w in let e = ends_left h.place h.among in let t = h.to in
      omega arith

  joint : IsJoint (seen (take i windows) f) (windowed (window windows i).from (window windows i).to f)
      (seen (take (i + 1) windows) f) (window windows i).from
  joint =
      let w = window windows i in
      record {
        before = λ c m. elim (in_or_not (take i windows) c) [
          | inl h ↦
              let g = in_first windows i (omega arith) c h in
              let x = g.among in
              let k = first_in windows (i + 1) (omega arith) c
              (record { place = g.place; among = omega arith; from = g.from; to = g.to }) in
              seen_in (take (i + 1) windows) f c k ∙ sym (seen_in (take i windows) f c h)
          | inr h ↦ seen_out (take (i + 1) windows) f c (more_out c h (inl m)) ∙ sym (seen_out (take i windows) f c h)
        ];
        after = λ c m. elim (cases_lt c w.to) [
          | inl k ↦
              seen_in (take (i + 1) windows) f c
              (first_in windows (i + 1) (omega arith) c (record { place = i; among = omega arith; from = m; to = k }))
              ∙ sym (windowed_in w.from w.to f c m k)
          | inr k ↦ seen_out (take (i + 1) windows) f c (more_out c (past c (omega arith)) (inr k))
              ∙ sym (windowed_out w.from w.to f c (inr k))
        ];
        gap = λ c e. seen_out (take (i + 1) windows) f c (more_out c (past c (omega arith)) (inl (omega arith)));
        first = λ c m. seen_out (take i windows) f c (past c (omega arith));
        second = λ c m. windowed_out w.from w.to f c (inl m);
      }

  pub runs_more : (runs piece : List Run) → AreRuns (seen (take i windows) f) runs
      → AreRuns (windowed (window windows i).from (window windows i).to f) piece
      → AreRuns (seen (take (i + 1) windows) f) (runs ++ piece)
  runs_more =
      join_runs (seen (take i windows) f) (windowed (window windows i).from (window windows i).to f)
      (seen (take (i + 1) windows) f)
      (window windows i).from joint

-- no window has a run
pub no_runs : (f : ℕ → ℕ) (windows : List Window) (runs : List Run) → windows ≡ [] → runs ≡ []
    → AreRuns (seen windows f) runs
no_runs f windows runs w e = subst (AreRuns (seen windows f)) (sym e) (record {
  each = λ k d l. absurd (omega arith);
  all = λ r is.
      let z = seen_out windows f r.left (λ h. let a = h.among in let b = ap length w in omega arith) in
      let k = is.each r.left (omega arith) is.wide in
      let s = is.some in
      absurd (omega arith);
  ascending = λ i j d l m. absurd (omega arith);
})
