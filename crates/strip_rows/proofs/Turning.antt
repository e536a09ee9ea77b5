-- What becomes of each strip from one row to the next.
use Rattle.std.proofs.Common.{◌≡◌, ℕ, ◌<◌, ◌≤◌, ◌+◌, ◌-◌, inl, inr, List, length, arith, ap, sym, subst, ◌∙◌, ◌⊎◌}
use Rattle.std.specs.Prelude.{Contains, AllPairs}
use Rattle.std.proofs.lemmas.Bool.{cases_order}
use Rattle.std.proofs.lemmas.List.{get_or_default}
use Rattle.std.proofs.lemmas.List.Elements.{All-contains, Contains-get_or}
use Rattle.mask_runs.specs.declared.run.Run.{Run}
use Rattle.mask_runs.specs.Runs.{IsRun}
use Rattle.strip_rows.specs.declared.strip.Strip.{Strip}
use Rattle.strip_rows.specs.declared.rows.StripRows.{StripRows}
use Rattle.strip_rows.specs.Strips.{run_of, IsStrip, IsBefore, strip, no_strip}
use Rattle.strip_rows.specs.Changes.{IsChange}
use Rattle.strip_rows.specs.Swept.{ended, open_, IsSince, IsOpenAt, IsSwept, strips_of}
use Rattle.strip_rows.specs.Missing.{run, no_run, AreApart, AreMissing}
use Rattle.strip_rows.specs.Steps.{number, ended_at, begun_at, HasNumber, AreEnded, HaveBegun}

-- the place of a run in a list
pub place_of : (runs : List Run) (r : Run) → Contains runs r → (m : ℕ) × (m < length runs) × (run runs m ≡ r)
place_of runs r c = (c.0, c.1, get_or_default runs c.0 no_run r c.1 ∙ c.2)

pub has_run : (runs : List Run) (m : ℕ) → m < length runs → Contains runs (run runs m)
has_run runs m l = Contains-get_or runs m no_run l

-- runs of one row that begin together are the same
pub same_run : (colour : ℕ → ℕ) (p q : Run) → IsRun colour p → IsRun colour q → p.left ≡ q.left → p ≡ q
same_run colour p q h g e =
    let wp = h.wide in let wq = g.wide in
    let c : p.colour ≡ q.colour = sym (h.each p.left (omega arith) wp) ∙ g.each p.left (omega arith) (omega arith) in
    let r : p.right ≡ q.right = elim (cases_order p.right q.right) [
      | inl f ↦ f
      | inr k ↦ elim k [
        | inl l ↦ absurd (h.after (g.each p.right (omega arith) l ∙ sym c))
        | inr l ↦ absurd (g.after (h.each q.right (omega arith) l ∙ c))
      ]
    ] in λ i. record { left = e i; right = r i; colour = c i }

-- the lists are the runs of one row that the other lacks
pub record IsTurn (colour : ℕ → ℕ → ℕ) (y : ℕ) (lost fresh : List Run) : Type 0 where
  pub ends : (r : Run) → Contains lost r → IsRun (colour y) r × (¬ IsRun (colour (y + 1)) r)
  pub goes : (r : Run) → IsRun (colour y) r → Contains lost r ⊎ IsRun (colour (y + 1)) r
  pub begins : (r : Run) → Contains fresh r → IsRun (colour (y + 1)) r × (¬ IsRun (colour y) r)
  pub comes : (r : Run) → IsRun (colour (y + 1)) r → Contains fresh r ⊎ IsRun (colour y) r
  pub apart : AreApart fresh

pub turned : (colour : ℕ → ℕ → ℕ) (y : ℕ) (olds news lost fresh : List Run) → IsChange colour y olds news
    → AreMissing olds news lost
    → AreMissing news olds fresh → IsTurn colour y lost fresh
turned colour y olds news lost fresh ch l f = record {
  ends = λ r c. let k = l.each r c in let h = All-contains (IsRun (colour y)) olds r ch.lasts k.0 in
      (h, λ g. k.1 ((ch.stays r h g).0 k.0));
  goes = λ r h. elim (ch.goes r h) [
    | inl o ↦ elim (l.all r o) [
      | inl n ↦ inr (All-contains (IsRun (colour (y + 1))) news r ch.firsts n)
      | inr k ↦ inl k
    ]
    | inr g ↦ inr g
  ];
  begins = λ r c. let k = f.each r c in let h = All-contains (IsRun (colour (y + 1))) news r ch.firsts k.0 in
      (h, λ g. k.1 ((ch.stays r g h).1 k.0));
  comes = λ r h. elim (ch.comes r h) [
    | inl o ↦ elim (f.all r o) [ inl n ↦ inr (All-contains (IsRun (colour y)) olds r ch.lasts n) | inr k ↦ inl k ]
    | inr g ↦ inr g
  ];
  apart = f.apart;
}

-- a series of equal runs has one start
pub one_start : (colour : ℕ → ℕ → ℕ) (y : ℕ) (s t : Strip) → run_of s ≡ run_of t → IsSince colour y s
    → IsSince colour y t → s.low ≡ t.low
one_start colour y s t e a b = let u = a.start in let v = b.start in elim (cases_order s.low t.low) [
  | inl f ↦ f
  | inr k ↦ elim k [
    | inl h ↦
        absurd (b.below (t.low - 1) (omega arith)
        (subst (IsRun (colour (t.low - 1))) e (a.each (t.low - 1) (omega arith) (omega arith))))
    | inr h ↦
        absurd (a.below (s.low - 1) (omega arith)
        (subst (IsRun (colour (s.low - 1))) (sym e) (b.each (s.low - 1) (omega arith) (omega arith))))
  ]
]

-- a run has one open strip
pub one_open : (colour : ℕ → ℕ → ℕ) (y : ℕ) (strips : List Strip) (k n : ℕ) → AllPairs IsBefore strips
    → k < length strips → n < length strips
    → run_of (strip strips k) ≡ run_of (strip strips n) → IsSince colour y (strip strips k)
    → IsSince colour y (strip strips n) → k ≡ n
one_open colour y strips k n up l m e a b =
    let f : (strip strips k).left ≡ (strip strips n).left = ap (λ (r : Run). r.left) e in
    let g = one_start colour y (strip strips k) (strip strips n) e a b in
    elim (cases_order k n) [
      | inl h ↦ h
      | inr o ↦ elim o [
        | inl h ↦ absurd (elim (up k n no_strip h m) [ inl x ↦ omega arith | inr x ↦ let x1 = x.1 in omega arith ])
        | inr h ↦ absurd (elim (up n k no_strip h l) [ inl x ↦ omega arith | inr x ↦ let x1 = x.1 in omega arith ])
      ]
    ]

-- what one step has done, before pairs of neighbours
pub record IsStepped (colour : ℕ → ℕ → ℕ) (y : ℕ) (w : StripRows) (lost fresh : List Run) (mid now : List Strip)
    (next : List ℕ) : Type 0 where
  pub swept : IsSwept colour y w
  pub turn : IsTurn colour y lost fresh
  pub ended : AreEnded w.numbers.items lost (length lost) (y + 1) (strips_of w) mid
  pub begun : HaveBegun fresh (length fresh) (y + 1) mid now w.numbers.items next

-- a strip that row y has ends, one has ended before, or one goes on
pub data Fate (colour : ℕ → ℕ → ℕ) (y k : ℕ) (numbers : List ℕ) (lost : List Run) (s t : Strip) : Type 0 where
  ends : (m : ℕ) → m < length lost → run lost m ≡ run_of s → number numbers (run lost m) ≡ k
      → ¬ IsRun (colour (y + 1)) (run_of s)
      → IsSince colour y s → s.high ≡ 0 → t ≡ ended_at (y + 1) s → Fate colour y k numbers lost s t
  over : IsStrip colour s → s.high ≤ y → t ≡ s → Fate colour y k numbers lost s t
  goes : IsSince colour y s → s.high ≡ 0 → IsRun (colour (y + 1)) (run_of s) → t ≡ s → Fate colour y k numbers lost s t

module _ (colour : ℕ → ℕ → ℕ) (y : ℕ) (w : StripRows) (lost fresh : List Run) (mid now : List Strip) (next : List ℕ)
    (t : IsStepped colour y w lost fresh mid now next) where
  fate_open : (k : ℕ) → k < length (strips_of w) → (¬ HasNumber w.numbers.items lost (length lost) k)
      → IsSince colour y (strip (strips_of w) k) → (strip (strips_of w) k).high ≡ 0
      → strip now k ≡ strip (strips_of w) k
      → Fate colour y k w.numbers.items lost (strip (strips_of w) k) (strip now k)
  fate_open k l none s h e =
      let r : Run = run_of (strip (strips_of w) k) in
      let here : IsRun (colour y) r = s.each y s.start (omega arith) in
      elim (t.turn.goes r here) [
        | inr g ↦ goes s h g e
        | inl c ↦ let p = place_of lost r c in let o = t.swept.open_ r here in
            let f = one_open colour y (strips_of w) k (number w.numbers.items r) t.swept.ascending l o.among
            (sym o.run) s o.since in
            absurd (none (record { place = p.0; behind = p.1; is = ap (number w.numbers.items) p.2 ∙ sym f }))
      ]

  pub fate : (k : ℕ) → k < length (strips_of w)
      → Fate colour y k w.numbers.items lost (strip (strips_of w) k) (strip now k)
  fate k l =
      let many = t.ended.as_many in
      let f : strip now k ≡ strip mid k = t.begun.kept k (omega arith) in
      elim (t.ended.each k l) [
        | inl z ↦ let n = z.0 in let r : Run = run lost n.place in
            let d = t.turn.ends r (has_run lost n.place n.behind) in
            let o : IsOpenAt colour y (strips_of w) k r =
            subst (λ j. IsOpenAt colour y (strips_of w) j r) n.is (t.swept.open_ r d.0) in
            ends n.place n.behind (sym o.run) n.is
            (subst (λ q. ¬ IsRun (colour (y + 1)) q) (sym o.run) d.1) o.since o.open_ (f ∙ z.1)
        | inr z ↦ elim (t.swept.each k no_strip l) [
          | ended h b ↦ over h b (f ∙ z.1)
          | open_ s e ↦ fate_open k l z.0 s e (f ∙ z.1)
        ]
      ]

  -- a strip that has begun with this step
  pub newer : (k : ℕ) → length (strips_of w) ≤ k → k < length now
      → (m : ℕ) × (m < length fresh) × (k ≡ length (strips_of w) + m) × (strip now k ≡ begun_at (y + 1) (run fresh m))
  newer k l h =
      let many = t.ended.as_many in let more = t.begun.as_many in
      let m : ℕ = k - length (strips_of w) in
      let e : length mid + m ≡ k = omega arith in (
        m,
        omega arith,
        omega arith,
        subst (λ j. strip now j ≡ begun_at (y + 1) (run fresh m)) e
            (t.begun.begun m (omega arith)),
      )
