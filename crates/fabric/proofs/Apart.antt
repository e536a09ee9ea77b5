-- Segments, lines and marks that share a place are one, for crates above.
use Rattle.std.proofs.Common.{ℕ, ◌≡◌, ◌+◌, ◌≤◌, ◌⊎◌, inl, inr, sym, ◌∙◌, ap, subst, arith, List, get_or, Contains}
use Rattle.std.specs.Prelude.{AllPairs}
use Rattle.std.proofs.lemmas.Bool.{cases_order}
use Rattle.std.proofs.lemmas.List.{get_or_default}
use Rattle.fabric.specs.declared.thing.Side.{Side}
use Rattle.fabric.specs.declared.thing.Segment.{Segment}
use Rattle.fabric.specs.declared.thing.Line.{Line}
use Rattle.fabric.specs.declared.thing.Mark.{Mark}
use Rattle.fabric.specs.Plan.{Plan, Passes, IsFabric, SegmentsApart, LinesApart, MarksApart}

-- two of a list are one, or in the order of the list
either : {A : Type 0} (P : A → A → Type 0) (xs : List A) (s t : A) → AllPairs P xs → Contains xs s → Contains xs t
    → (s ≡ t) ⊎ P s t ⊎ P t s
either P xs s t a (i, hi, ei) (j, hj, ej) = elim (cases_order i j) [
  | inl e ↦ inl (sym ei ∙ ap (λ z. get_or xs z s) e ∙ get_or_default xs j s t hj ∙ ej)
  | inr (inl h) ↦ inr
      (inl (subst (λ z. P z t) ei (subst (P (get_or xs i s)) (get_or_default xs j s t hj ∙ ej) (a i j s h hj))))
  | inr (inr h) ↦ inr
      (inr (subst (λ z. P z s) ej (subst (P (get_or xs j t)) (get_or_default xs i t s hi ∙ ei) (a j i t h hi))))
]

module _ (f : Plan) (w : IsFabric f) where
  pub one_segment : (s t : Segment) → Contains f.segments s → Contains f.segments t → s.band ≡ t.band → s.row ≡ t.row
      → s.first ≤ t.last + 1 → t.first ≤ s.last + 1 → s ≡ t
  one_segment s t ms mt e g h k = elim (either SegmentsApart f.segments s t w.segments_apart ms mt) [
    | inl q ↦ q
    | inr (inl q) ↦ (let z = q e g in absurd (omega arith))
    | inr (inr q) ↦ (let z = q (sym e) (sym g) in absurd (omega arith))
  ]

  -- two lines on one side of a column that share a band are one
  pub near_lines : (l m : Line) → Contains f.lines l → Contains f.lines m → l.column ≡ m.column → l.side ≡ m.side
      → l.first_band ≤ m.last_band → m.first_band ≤ l.last_band → l ≡ m
  near_lines l m ml mm columns sides h k = elim (either LinesApart f.lines l m w.lines_apart ml mm) [
    | inl e ↦ e
    | inr (inl q) ↦ (let z = q columns sides in absurd (omega arith))
    | inr (inr q) ↦ (let z = q (sym columns) (sym sides) in absurd (omega arith))
  ]

  pub one_line : (side : Side) (b c : ℕ) (l m : Line) → Contains f.lines l → Contains f.lines m → Passes l side b c
      → Passes m side b c → l ≡ m
  one_line side b c l m ml mm p q =
      let p0 = p.first in let p1 = p.last in let q0 = q.first in let q1 = q.last in
      near_lines l m ml mm (p.column ∙ sym q.column) (p.at_side ∙ sym q.at_side) (omega arith) (omega arith)

  pub one_mark : (m n : Mark) → Contains f.marks m → Contains f.marks n → m.band ≡ n.band → m.row ≡ n.row
      → m.column ≡ n.column → m ≡ n
  one_mark m n mm mn e g h = elim (either MarksApart f.marks m n w.marks_apart mm mn) [
    | inl q ↦ q
    | inr (inl q) ↦ absurd (q e g h)
    | inr (inr q) ↦ absurd (q (sym e) (sym g) (sym h))
  ]
