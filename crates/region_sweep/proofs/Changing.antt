-- The runs of cells whose colours change, as a tree tells them.
use Rattle.std.proofs.Common.{ℕ, ◌≡◌, ◌+◌, ◌-◌, ◌<◌, ◌≤◌, List, inl, inr, sym, ◌∙◌, subst, arith, get_or}
use Rattle.std.proofs.lemmas.Bool.{cases_lt, cases_eq}
use Rattle.std.proofs.lemmas.List.{get_or_default}
use Rattle.mask_runs.specs.declared.run.Run.{Run}
use Rattle.cover_tree.specs.Changes.{IsIn, AreChanges}
use Rattle.strip_rows.specs.Missing.{run, no_run}
use Rattle.row_windows.specs.Windows.{Touches, ChangeAt, AreFit}
use Rattle.region_sweep.specs.Repainting.{HaveColours}

-- the runs have exactly the cells whose colours change from one row to the next, with their new colours
pub record AreTold (old new : ℕ → ℕ) (cells : ℕ) (changed : List Run) : Type 0 where
  pub fit : AreFit cells changed
  pub at : ChangeAt changed old new
  pub have : HaveColours new changed

touches : (changed : List Run) (c : ℕ) → IsIn changed c → Touches changed c
touches changed c t =
    let place = t.listed.0 in
    let at : run changed place ≡ t.piece = get_or_default changed place no_run t.piece t.listed.1 ∙ t.listed.2
    in
    record {
      place = place;
      among = t.listed.1;
      from = subst (λ s. s.left ≤ c) (sym at) t.from;
      to = subst (λ s. c < s.right) (sym at) t.to;
    }

-- a tree that was told the one row tells the next
module _ (before after old new : ℕ → ℕ) (cells : ℕ) (changed : List Run)
    (was : (c : ℕ) → c < cells → old c ≡ before c) (is : (c : ℕ) → new c ≡ after c)
    (last : (c : ℕ) → cells ≤ c + 1 → old c ≡ new c) (h : AreChanges before after cells changed) where
  changes_at : ChangeAt changed old new
  changes_at c n = elim (cases_lt c cells) [
    | inr l ↦ last c (omega arith)
    | inl l ↦ elim (cases_eq (before c) (after c)) [
      | inl e ↦ was c l ∙ e ∙ sym (is c)
      | inr other ↦ absurd (n (touches changed c (h.all c l other)))
    ]
  ]

  changes_fit : AreFit cells changed
  changes_fit = record {
    wide = h.wide;
    within = λ k d l.
        let s = get_or changed k d in
        let w = h.wide k d l in
        let p = h.within k d l in
        let c = s.right - 1 in
        elim (cases_lt s.right cells) [
          | inl q ↦ q
          | inr q ↦
              let a = h.each k d l c (omega arith) (omega arith) in
              let b = sym (was c (omega arith)) ∙ last c (omega arith) ∙ is c in
              absurd (h.other k d l c (omega arith) (omega arith) (b ∙ a))
        ];
    ascending = λ i j d l m. elim (cases_lt i j) [
      | inl p ↦ let q = h.ascending i j d p m in let w = h.wide i d (omega arith) in omega arith
      | inr p ↦ let e : i ≡ j = omega arith in
          subst (λ k. (get_or changed i d).left ≤ (get_or changed k d).left) e (omega arith)
    ];
  }

  pub told : AreTold old new cells changed
  told = record { fit = changes_fit; at = changes_at; have = λ k d l c p q. is c ∙ h.each k d l c p q }
