-- Where no run goes on, in the one row and in the other.
use Rattle.std.proofs.Common.{ℕ, ◌≡◌, ◌≢◌, ◌+◌, ◌-◌, ◌<◌, ◌≤◌, ◌⊎◌, List, inl, inr, refl, sym, ◌∙◌, ap, subst, arith}
use Rattle.std.proofs.Common.{length}
use Rattle.std.specs.Prelude.{nat_le, nat_lt, ◌&&◌, slice_index_or}
use Rattle.std.specs.Bool.{Decides}
use Rattle.std.proofs.lemmas.Bool.{cases_lt, cases_Bool}
use Rattle.std.proofs.lemmas.Bool.Decides.{Decides-and, Decides-like, Decides-ltb, Decides-by_or, not_from_Decides}
use Rattle.std.proofs.lemmas.List.{get_or_default}
use Rattle.mp_base.proofs.Tests.{decides_at_most}
use Rattle.mask_runs.specs.declared.run.Run.{Run}
use Rattle.mask_runs.specs.Runs.{IsRun}
use Rattle.row_windows.specs.declared.window.Window.{Window}
use Rattle.row_windows.specs.Windows.{in_windows, seen}

abbrev pub no_window : Window
no_window = record { from = 0; to = 0 }

abbrev pub window : List Window → ℕ → Window
window windows k = slice_index_or windows k no_window

-- one of the windows has the cell
pub record InWindow (windows : List Window) (c : ℕ) : Type 0 where
  pub place : ℕ
  pub among : place < length windows
  pub from : (window windows place).from ≤ c
  pub to : c < (window windows place).to

abbrev Has : ℕ → Window → Type 0
Has c w = (w.from ≤ c) × (c < w.to)

pub in_decides : (windows : List Window) (c : ℕ) → Decides (in_windows windows c) (InWindow windows c)
unfolding in_windows
in_decides windows c = Decides-like (in_windows windows c)
    (λ h. record { place = h.0; among = h.1; from = (h.2 no_window).0; to = (h.2 no_window).1 })
    (λ h. (h.place, h.among, λ d. subst (Has c) (get_or_default windows h.place no_window d h.among) (h.from, h.to)))
    (Decides-by_or (λ w. nat_le w.from c && nat_lt c w.to) (Has c) (λ ws. in_windows ws c)
    (λ w. Decides-and _ _ (decides_at_most w.from c) (Decides-ltb c w.to)) refl (λ _ _. refl) windows)

pub in_or_not : (windows : List Window) (c : ℕ) → InWindow windows c ⊎ (¬ InWindow windows c)
in_or_not windows c = elim (cases_Bool (in_windows windows c)) [
  | inl e ↦ inl ((in_decides windows c).0 e)
  | inr e ↦ inr (not_from_Decides (in_windows windows c) (in_decides windows c) e)
]

pub seen_in : (windows : List Window) (f : ℕ → ℕ) (c : ℕ) → InWindow windows c → seen windows f c ≡ f c
seen_in windows f c h = rw ((in_decides windows c).1 h) refl

pub seen_out : (windows : List Window) (f : ℕ → ℕ) (c : ℕ) → (¬ InWindow windows c) → seen windows f c ≡ 0
seen_out windows f c h = elim (cases_Bool (in_windows windows c)) [
  | inl e ↦ absurd (h ((in_decides windows c).0 e))
  | inr e ↦ rw e refl
]

pub seen_some : (windows : List Window) (f : ℕ → ℕ) (c k : ℕ) → seen windows f c ≡ k → 0 < k
    → InWindow windows c × (f c ≡ k)
seen_some windows f c k e p = elim (in_or_not windows c) [
  | inl h ↦ (h, sym (seen_in windows f c h) ∙ e)
  | inr h ↦ let z = seen_out windows f c h in absurd (omega arith)
]

-- no run goes on over the left end of the cell
pub record IsFirm (f : ℕ → ℕ) (cell : ℕ) : Type 0 where
  pub ends : (c : ℕ) → c + 1 ≡ cell → 0 < f c → f c ≢ f cell

-- nor over the ends of windows
pub record AreFirm (f : ℕ → ℕ) (windows : List Window) : Type 0 where
  pub from : (k : ℕ) → k < length windows → IsFirm f (window windows k).from
  pub to : (k : ℕ) → k < length windows → IsFirm f (window windows k).to

module _ (windows : List Window) (f : ℕ → ℕ) (firm : AreFirm f windows) where
  -- where a window begins or ends, a row of cells of one colour doesn't go on
  into : (c k : ℕ) → 0 < k → (¬ InWindow windows c) → InWindow windows (c + 1) → f c ≡ k → f (c + 1) ≢ k
  into c k p out w e =
      let a = w.from in
      let b = w.to in
      let g : (window windows w.place).from ≡ c + 1 = elim (cases_lt c (window windows w.place).from) [
        | inl h ↦ omega arith
        | inr h ↦ absurd (out (record { place = w.place; among = w.among; from = h; to = omega arith }))
      ] in
      let x = (firm.from w.place w.among).ends c (sym g) (omega arith) in
      λ h. x (e ∙ sym h ∙ ap f (sym g))

  out_of : (c k : ℕ) → 0 < k → InWindow windows c → (¬ InWindow windows (c + 1)) → f c ≡ k → f (c + 1) ≢ k
  out_of c k p w out e =
      let a = w.from in
      let b = w.to in
      let g : (window windows w.place).to ≡ c + 1 = elim (cases_lt (c + 1) (window windows w.place).to) [
        | inr h ↦ omega arith
        | inl h ↦ absurd (out (record { place = w.place; among = w.among; from = omega arith; to = h }))
      ] in
      let x = (firm.to w.place w.among).ends c (sym g) (omega arith) in
      λ h. x (e ∙ sym h ∙ ap f (sym g))

  pub seen_run : (r : Run) → IsRun (seen windows f) r → InWindow windows r.left × IsRun f r
  seen_run r is =
      let some = is.some in
      let w = is.wide in
      let at = λ (c : ℕ) (a : r.left ≤ c) (b : c < r.right). seen_some windows f c r.colour (is.each c a b) some in
      let first = at r.left (omega arith) w in
      let last = at (r.right - 1) (omega arith) (omega arith) in (
        first.0,
        record {
          some = some;
          wide = w;
          each = λ c a b. (at c a b).1;
          before = λ c e h. elim (in_or_not windows c) [
            | inl i ↦ is.before c e (seen_in windows f c i ∙ h)
            | inr o ↦ into c r.colour some o (subst (InWindow windows) (sym e) first.0) h (ap f e ∙ first.1)
          ];
          after = λ h. elim (in_or_not windows r.right) [
            | inl i ↦ is.after (seen_in windows f r.right i ∙ h)
            | inr o ↦
                let e : r.right - 1 + 1 ≡ r.right = omega arith in
                out_of (r.right - 1) r.colour some last.0 (subst (λ c. ¬ InWindow windows c) (sym e) o) last.1
                (ap f e ∙ h)
          ];
        },
      )

  -- a run lies in a window or beside it
  all_in : (r : Run) → IsRun f r → (w : InWindow windows r.left) → r.right ≤ (window windows w.place).to
  all_in r is w = elim (cases_lt (window windows w.place).to r.right) [
    | inr h ↦ h
    | inl h ↦
        let a = w.from in
        let b = w.to in
        let t = (window windows w.place).to in
        let x = is.each (t - 1) (omega arith) (omega arith) in
        let y = is.each t (omega arith) h in
        let s = is.some in
        absurd ((firm.to w.place w.among).ends (t - 1) (omega arith) (omega arith) (x ∙ sym y))
  ]

  pub in_all : (r : Run) → IsRun f r → InWindow windows r.left → (c : ℕ) → r.left ≤ c → c < r.right → InWindow windows c
  in_all r is w c a b =
      let t = all_in r is w in
      let g = w.from in
      record { place = w.place; among = w.among; from = omega arith; to = omega arith }

  pub in_none : (r : Run) → IsRun f r → (¬ InWindow windows r.left) → (c : ℕ) → r.left ≤ c → c < r.right
      → ¬ InWindow windows c
  in_none r is out c a b = λ w.
      let g = w.from in
      let h = w.to in
      let s = (window windows w.place).from in
      elim (cases_lt r.left s) [
        | inr l ↦ out (record { place = w.place; among = w.among; from = l; to = omega arith })
        | inl l ↦
            let x = is.each (s - 1) (omega arith) (omega arith) in
            let y = is.each s (omega arith) (omega arith) in
            let p = is.some in
            (firm.from w.place w.among).ends (s - 1) (omega arith) (omega arith) (x ∙ sym y)
      ]

  pub run_seen : (r : Run) → IsRun f r → InWindow windows r.left → IsRun (seen windows f) r
  run_seen r is w =
      let some = is.some in
      let other =
      λ (c : ℕ) (n : f c ≢ r.colour) (e : seen windows f c ≡ r.colour). n (seen_some windows f c r.colour e some).1 in
      record {
        some = some;
        wide = is.wide;
        each = λ c a b. seen_in windows f c (in_all r is w c a b) ∙ is.each c a b;
        before = λ c e. other c (is.before c e);
        after = other r.right is.after;
      }
