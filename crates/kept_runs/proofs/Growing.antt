-- The runs of a window that grows to the right.
use Rattle.std.proofs.Common.{◌≡◌, ◌≢◌, ◌⊎◌, ℕ, ◌-◌, ◌<◌, ◌≤◌, nat_le, nat_lt, inl, inr, List, [], ◌∷◌, ◌++◌}
use Rattle.std.proofs.Common.{refl, sym, ◌∙◌, subst, rules, arith}
use Rattle.std.proofs.lemmas.Bool.{cases_lt, cases_eq, lt-ltb, le-ltb, le-leb, lt-leb, eq-eqb, ne_eqb, and_from}
use Rattle.std.proofs.lemmas.Bool.{and_left, and_right}
use Rattle.std.proofs.lemmas.List.Elements.{All-push, Contains-append_left, Contains-append_right}
use Rattle.std.proofs.lemmas.List.Quantifiers.{all_pairs_push}
use Rattle.mask_runs.specs.declared.run.Run.{Run}
use Rattle.mask_runs.specs.Runs.{IsRun, AreRuns}
use Rattle.kept_runs.specs.Borders.{windowed, with_run}

module _ (from end : ℕ) (row : ℕ → ℕ) (c : ℕ) where
  in_it : from ≤ c → c < end → windowed from end row c ≡ row c
  in_it h l = rw (and_from _ _ (le-leb from c h) (lt-ltb c end l)) refl

  left_of_it : c < from → windowed from end row c ≡ 0
  left_of_it h = rw (and_left _ (nat_lt c end) (lt-leb from c h)) refl

  right_of_it : end ≤ c → windowed from end row c ≡ 0
  right_of_it h = rw (and_right (nat_le from c) _ (le-ltb c end h)) refl

  -- where a colour is, the window is
  shown : (k : ℕ) → windowed from end row c ≡ k → 0 < k → (from ≤ c) × (c < end) × (row c ≡ k)
  shown k e h = elim (cases_lt c from) [
    | inl l ↦ let z = left_of_it l in absurd (omega arith)
    | inr f ↦ elim (cases_lt c end) [
      | inl l ↦ (f, l, sym (in_it f l) ∙ e)
      | inr l ↦ let z = right_of_it l in absurd (omega arith)
    ]
  ]

ends_by : (from end : ℕ) (row : ℕ → ℕ) (r : Run) → IsRun (windowed from end row) r
    → (from < r.right) × (r.right ≤ end) × (row (r.right - 1) ≡ r.colour)
ends_by from end row r i =
    let w = i.wide in
    let s = shown from end row (r.right - 1) r.colour (i.each (r.right - 1) (omega arith) (omega arith)) i.some in
    let s0 = s.0 in
    let s1 = s.1 in
    (omega arith, omega arith, s.2)

-- no window has no runs
no_run : (from end : ℕ) → end ≤ from → (row : ℕ → ℕ) (r : Run) → ¬ IsRun (windowed from end row) r
no_run from end h row r i = let e = ends_by from end row r i in let a = e.0 in let b = e.1 in let w = i.wide in
    let s = shown from end row r.left r.colour (i.each r.left (omega arith) w) i.some in let s0 = s.0 in
    let s1 = s.1 in absurd (omega arith)

pub no_runs : (from end : ℕ) → end ≤ from → (row : ℕ → ℕ) → AreRuns (windowed from end row) []
no_runs from end h row =
    record { each = search rules; all = λ r i. absurd (no_run from end h row r i); ascending = search rules }

-- the window grows by cells of one colour, where the cell before has another or isn't in it
module _ (from at end colour : ℕ) (row : ℕ → ℕ) (runs : List Run) (a : AreRuns (windowed from at row) runs)
    (order : from ≤ at) (wide : at < end)
    (own : (c : ℕ) → at ≤ c → c < end → row c ≡ colour) where
  same_before : (c : ℕ) → c < at → windowed from end row c ≡ windowed from at row c
  same_before c h = elim (cases_lt c from) [
    | inl l ↦ left_of_it from end row c l ∙ sym (left_of_it from at row c l)
    | inr f ↦ in_it from end row c f (omega arith) ∙ sym (in_it from at row c f h)
  ]

  own_at : (c : ℕ) → at ≤ c → c < end → windowed from end row c ≡ colour
  own_at c h l = in_it from end row c (omega arith) l ∙ own c h l

  same_blank : colour ≡ 0 → (c : ℕ) → windowed from at row c ≡ windowed from end row c
  same_blank e c = elim (cases_lt c at) [
    | inl h ↦ sym (same_before c h)
    | inr h ↦ elim (cases_lt c end) [
      | inl l ↦ right_of_it from at row c h ∙ sym (own_at c h l ∙ e)
      | inr l ↦ right_of_it from at row c h ∙ sym (right_of_it from end row c l)
    ]
  ]

  pub grown_blank : colour ≡ 0 → AreRuns (windowed from end row) runs
  grown_blank e = let f : windowed from at row ≡ windowed from end row = λ i c. same_blank e c i in
      subst (λ g. AreRuns g runs) f a

  module _ (some : 0 < colour) (border : (at ≡ from) ⊎ (row (at - 1) ≢ colour)) where
    abbrev pub last_run : Run
    last_run = record { left = at; right = end; colour = colour }

    -- the cell before is no cell of this colour
    not_before : (k : ℕ) → from < at → row (at - 1) ≡ k → k ≢ colour
    not_before k h e f = elim border [
      | inl b ↦ absurd (omega arith)
      | inr n ↦ n (e ∙ f)
    ]

    run_more : (r : Run) → IsRun (windowed from at row) r → IsRun (windowed from end row) r
    run_more r i =
        let e = ends_by from at row r i in
        let e0 = e.0 in
        let e1 = e.1 in
        let w = i.wide in
        record {
          some = i.some;
          wide = i.wide;
          each = λ c h k. same_before c (omega arith) ∙ i.each c h k;
          before = λ c h k. i.before c h (sym (same_before c (omega arith)) ∙ k);
          after = λ k. elim (cases_lt r.right at) [
            | inl h ↦ i.after (sym (same_before r.right h) ∙ k)
            | inr h ↦
                let q : r.right ≡ at = omega arith in
                let x : row (at - 1) ≡ r.colour = subst (λ n. row (n - 1) ≡ r.colour) q e.2 in
                not_before r.colour (omega arith) x (sym (sym (own_at r.right h (omega arith)) ∙ k))
          ];
        }

    run_less : (q : Run) → IsRun (windowed from end row) q → q.left < at → IsRun (windowed from at row) q
    run_less q i h =
        let w = i.wide in
        let s = i.some in
        let e : q.right ≤ at = elim (cases_lt at q.right) [
          | inl k ↦
              let x : windowed from end row (at - 1) ≡ q.colour = i.each (at - 1) (omega arith) (omega arith) in
              let y = shown from end row (at - 1) q.colour x s in
              let y0 = y.0 in
              absurd (not_before q.colour (omega arith) y.2
              (sym (i.each at (omega arith) k) ∙ own_at at (omega arith) wide))
          | inr k ↦ k
        ] in
        record {
          some = s;
          wide = w;
          each = λ c m k. sym (same_before c (omega arith)) ∙ i.each c m k;
          before = λ c m k. i.before c m (same_before c (omega arith) ∙ k);
          after = λ k. elim (cases_lt q.right at) [
            | inl m ↦ i.after (same_before q.right m ∙ k)
            | inr m ↦ let z = right_of_it from at row q.right m in absurd (omega arith)
          ];
        }

    run_last : (q : Run) → IsRun (windowed from end row) q → at ≤ q.left → q ≡ last_run
    run_last q i h =
        let w = i.wide in
        let t = ends_by from end row q i in
        let t1 = t.1 in
        let k : q.colour ≡ colour = sym (i.each q.left (omega arith) w) ∙ own_at q.left h (omega arith) in
        let l : q.left ≡ at = elim (cases_eq q.left at) [
          | inl e ↦ e
          | inr n ↦
              absurd (i.before (q.left - 1) (omega arith) (own_at (q.left - 1) (omega arith) (omega arith) ∙ sym k))
        ] in
        let r : q.right ≡ end = elim (cases_eq q.right end) [
          | inl e ↦ e
          | inr n ↦ absurd (i.after (own_at q.right (omega arith) (omega arith) ∙ sym k))
        ] in
        λ i. record { left = l i; right = r i; colour = k i }

    run_own : IsRun (windowed from end row) last_run
    run_own = record {
      some = some;
      wide = wide;
      each = own_at;
      before = λ c h k. let s = shown from end row c colour k some in let s0 = s.0 in
          not_before colour (omega arith) (subst (λ n. row n ≡ colour) (omega arith) s.2) refl;
      after = λ k. let z = right_of_it from end row end (omega arith) in absurd (omega arith);
    }

    pub grown : AreRuns (windowed from end row) (runs ++ last_run ∷ [])
    grown = record {
      each = All-push (IsRun (windowed from end row)) runs last_run (λ k d h. run_more _ (a.each k d h)) run_own;
      all = λ q i. elim (cases_lt q.left at) [
        | inl h ↦ Contains-append_left runs (last_run ∷ []) q (a.all q (run_less q i h))
        | inr h ↦ Contains-append_right runs (last_run ∷ []) q (0, omega arith, sym (run_last q i h))
      ];
      ascending =
          all_pairs_push (λ r q. r.right ≤ q.left) runs last_run a.ascending
          (λ k d h. (ends_by from at row _ (a.each k d h)).1);
    }

  pub grown_by : (at ≡ from) ⊎ (row (at - 1) ≢ colour)
      → AreRuns (windowed from end row) (with_run runs (record { left = at; right = end; colour = colour }))
  grown_by border = elim (cases_eq colour 0) [
    | inl e ↦ rw (eq-eqb colour 0 e) (grown_blank e)
    | inr n ↦ rw (ne_eqb colour 0 n) (grown (omega arith) border)
  ]
