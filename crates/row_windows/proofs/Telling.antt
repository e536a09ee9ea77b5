-- The runs in windows tell all that changes.
use Rattle.std.proofs.Common.{ℕ, ◌≡◌, ◌+◌, ◌-◌, ◌<◌, ◌≤◌, ◌⊎◌, List, inl, inr, sym, ◌∙◌, ap, arith, length}
use Rattle.std.specs.Prelude.{Contains}
use Rattle.std.proofs.lemmas.Bool.{cases_lt}
use Rattle.std.proofs.lemmas.List.Elements.{All-contains}
use Rattle.mask_runs.specs.declared.run.Run.{Run}
use Rattle.mask_runs.specs.Runs.{IsRun, AreRuns}
use Rattle.strip_rows.specs.Changes.{IsChange}
use Rattle.row_windows.specs.declared.window.Window.{Window}
use Rattle.row_windows.specs.Windows.{seen}
use Rattle.row_windows.proofs.Cutting.{window, InWindow, AreFirm, in_or_not, seen_run, run_seen, in_all, in_none}

-- the rows are alike beside the windows, and no run goes on over an end of a window; one that adjoins another there is
-- of both rows
pub record AreWindows (old new : ℕ → ℕ) (windows : List Window) : Type 0 where
  pub same : (c : ℕ) → (¬ InWindow windows c) → old c ≡ new c
  pub old_firm : AreFirm old windows
  pub new_firm : AreFirm new windows
  pub first : (k : ℕ) → k < length windows → (q : Run) → IsRun new q → q.left ≡ (window windows k).from
      → (c : ℕ) → c + 1 ≡ q.left → 0 < new c → IsRun old q
  pub last : (k : ℕ) → k < length windows → (q : Run) → IsRun new q → q.right ≡ (window windows k).to → 0 < new q.right
      → IsRun old q

-- a run beside the windows is one of the other row too
unchanged : (f g : ℕ → ℕ) (windows : List Window) → AreFirm f windows → AreFirm g windows
    → ((c : ℕ) → (¬ InWindow windows c) → f c ≡ g c)
    → (r : Run) → IsRun f r → (¬ InWindow windows r.left) → IsRun g r
unchanged f g windows ff gf same r is out =
    let some = is.some in
    let w = is.wide in
    let none = in_none windows f ff r is out in
    let each = λ (c : ℕ) (a : r.left ≤ c) (b : c < r.right). sym (same c (none c a b)) ∙ is.each c a b in
    record {
      some = some;
      wide = w;
      each = each;
      before = λ c e h. elim (in_or_not windows c) [
        | inr o ↦ is.before c e (same c o ∙ h)
        | inl i ↦
            let a = i.from in
            let b = i.to in
            let t : (window windows i.place).to ≡ c + 1 = elim (cases_lt (c + 1) (window windows i.place).to) [
              | inr l ↦ omega arith
              | inl l ↦ absurd (out (record { place = i.place; among = i.among; from = omega arith; to = omega arith }))
            ] in
            (gf.to i.place i.among).ends c (sym t) (omega arith)
            (h ∙ sym (each r.left (omega arith) w) ∙ ap g (sym (t ∙ e)))
      ];
      after = λ h. elim (in_or_not windows r.right) [
        | inr o ↦ is.after (same r.right o ∙ h)
        | inl i ↦
            let a = i.from in
            let b = i.to in
            let t : (window windows i.place).from ≡ r.right = elim (cases_lt (window windows i.place).from r.right) [
              | inr l ↦ omega arith
              | inl l ↦
                  absurd (none (r.right - 1) (omega arith) (omega arith)
                  (record { place = i.place; among = i.among; from = omega arith; to = omega arith }))
            ] in
            let k = each (r.right - 1) (omega arith) (omega arith) in
            (gf.from i.place i.among).ends (r.right - 1) (omega arith) (omega arith) (k ∙ sym h ∙ ap g (sym t))
      ];
    }

-- a run that adjoins one which only the new row has lies in a window
beside : (old new : ℕ → ℕ) (windows : List Window) → AreWindows old new windows → (p q : Run) → IsRun new p
    → IsRun new q
    → (p.right ≡ q.left) ⊎ (q.right ≡ p.left) → (¬ IsRun old q) → InWindow windows p.left
beside old new windows are p q is iq adjoin n = elim (in_or_not windows p.left) [
  | inl i ↦ i
  | inr o ↦ absurd (elim (in_or_not windows q.left) [
    | inr z ↦ n (unchanged new old windows are.new_firm are.old_firm (λ c m. sym (are.same c m)) q iq z)
    | inl i ↦ elim adjoin [
      | inl e ↦
          let w = is.wide in
          let a = i.from in
          let b = i.to in
          let out = in_none windows new are.new_firm p is o (p.right - 1) (omega arith) (omega arith) in
          let t : q.left ≡ (window windows i.place).from = elim (cases_lt (window windows i.place).from q.left) [
            | inr l ↦ omega arith
            | inl l ↦ absurd (out (record { place = i.place; among = i.among; from = omega arith; to = omega arith }))
          ] in
          let k = is.each (p.right - 1) (omega arith) (omega arith) in
          let s = is.some in
          n (are.first i.place i.among q iq t (p.right - 1) (omega arith) (omega arith))
      | inr e ↦
          let w = iq.wide in
          let h = in_all windows new are.new_firm q iq i (q.right - 1) (omega arith) (omega arith) in
          let a = h.from in
          let b = h.to in
          let t : q.right ≡ (window windows h.place).to = elim (cases_lt q.right (window windows h.place).to) [
            | inr l ↦ omega arith
            | inl l ↦ absurd (o (record { place = h.place; among = h.among; from = omega arith; to = omega arith }))
          ] in
          let k = is.each p.left (omega arith) is.wide in
          let s = is.some in
          let x : new q.right ≡ new p.left = ap new e in
          n (are.last h.place h.among q iq t (omega arith))
    ]
  ])
]

pub tell_change : (colour : ℕ → ℕ → ℕ) (y : ℕ) (windows : List Window) → AreWindows (colour y) (colour (y + 1)) windows
    → (olds news : List Run) → AreRuns (seen windows (colour y)) olds → AreRuns (seen windows (colour (y + 1))) news
    → IsChange colour y olds news
tell_change colour y windows are olds news h g =
    let old = colour y in
    let new = colour (y + 1) in
    let old_in =
    λ (r : Run) (has : Contains olds r). seen_run windows old are.old_firm r
    (All-contains (IsRun (seen windows old)) olds r h.each has) in
    let new_in =
    λ (r : Run) (has : Contains news r). seen_run windows new are.new_firm r
    (All-contains (IsRun (seen windows new)) news r g.each has) in
    record {
      lasts = λ k d l. (seen_run windows old are.old_firm _ (h.each k d l)).1;
      firsts = λ k d l. (seen_run windows new are.new_firm _ (g.each k d l)).1;
      goes = λ r is. elim (in_or_not windows r.left) [
        | inl i ↦ inl (h.all r (run_seen windows old are.old_firm r is i))
        | inr o ↦ inr (unchanged old new windows are.old_firm are.new_firm are.same r is o)
      ];
      comes = λ r is. elim (in_or_not windows r.left) [
        | inl i ↦ inl (g.all r (run_seen windows new are.new_firm r is i))
        | inr o ↦ inr (unchanged new old windows are.new_firm are.old_firm (λ c m. sym (are.same c m)) r is o)
      ];
      stays = λ r a b. (
        λ has. g.all r (run_seen windows new are.new_firm r b (old_in r has).0),
        λ has. h.all r (run_seen windows old are.old_firm r a (new_in r has).0),
      );
      beside =
          λ p q is iq adjoin n. g.all p
          (run_seen windows new are.new_firm p is (beside old new windows are p q is iq adjoin n));
    }
