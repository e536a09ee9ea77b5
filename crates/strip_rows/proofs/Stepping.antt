-- Strips are right one row further up.
use Rattle.std.proofs.Common.{◌≡◌, ℕ, ◌<◌, ◌≤◌, ◌+◌, inl, inr, List, length, arith, ap, sym, subst, ◌∙◌, refl}
use Rattle.std.specs.Prelude.{Contains, All, AllPairs, slice_index}
use Rattle.std.proofs.lemmas.Bool.{cases_eq, cases_lt}
use Rattle.std.proofs.lemmas.List.{get_or_default}
use Rattle.std.proofs.lemmas.List.Elements.{All-from_get_or}
use Rattle.mask_runs.specs.declared.run.Run.{Run}
use Rattle.mask_runs.specs.Runs.{IsRun}
use Rattle.strip_rows.specs.declared.strip.Strip.{Strip}
use Rattle.strip_rows.specs.declared.rows.StripRows.{StripRows}
use Rattle.strip_rows.specs.Strips.{run_of, IsStrip, IsBefore, strip, no_strip}
use Rattle.strip_rows.specs.Swept.{HasBegun, ended, open_, IsSince, IsOpenAt, strips_of}
use Rattle.strip_rows.specs.Missing.{run}
use Rattle.strip_rows.specs.Steps.{number, ended_at, begun_at}
use Rattle.strip_rows.proofs.Merging.{further}
use Rattle.strip_rows.proofs.Turning.{IsStepped, Fate, ends, over, goes, fate, newer, place_of, has_run, same_run}
use Rattle.strip_rows.proofs.Turning.{one_start}

-- a run that row y lacks begins its strip
pub since_begun : (colour : ℕ → ℕ → ℕ) (y : ℕ) (r : Run) → IsRun (colour (y + 1)) r → (¬ IsRun (colour y) r)
    → IsSince colour (y + 1) (begun_at (y + 1) r)
since_begun colour y r h n = record {
  start = omega arith;
  each = λ z a b. let e : y + 1 ≡ z = omega arith in subst (λ q. IsRun (colour q) r) e h;
  below = λ z a b. let e : z ≡ y = omega arith in n (subst (λ q. IsRun (colour q) r) e b);
}

-- an open strip goes on
pub since_more : (colour : ℕ → ℕ → ℕ) (y : ℕ) (s : Strip) → IsSince colour y s → IsRun (colour (y + 1)) (run_of s)
    → IsSince colour (y + 1) s
since_more colour y s w h = let o = w.start in record {
  start = omega arith;
  each = λ z a b. elim (cases_eq z (y + 1)) [
    | inl e ↦ subst (λ q. IsRun (colour q) (run_of s)) (sym e) h
    | inr n ↦ w.each z a (omega arith)
  ];
  below = w.below;
}

-- an open strip ends
since_ends : (colour : ℕ → ℕ → ℕ) (y : ℕ) (s : Strip) → IsSince colour y s → (¬ IsRun (colour (y + 1)) (run_of s))
    → IsStrip colour (ended_at (y + 1) s)
since_ends colour y s w n = let o = w.start in record {
  tall = omega arith;
  each = λ z a b. w.each z a (omega arith);
  below = w.below;
  above = n;
}

-- each strip has begun
begun_fate : (colour : ℕ → ℕ → ℕ) (y k : ℕ) (numbers : List ℕ) (lost : List Run) (s t : Strip)
    → Fate colour y k numbers lost s t → HasBegun colour (y + 1) t
begun_fate colour y k numbers lost s t (ends m l a b n w o e) =
    subst (HasBegun colour (y + 1)) (sym e) (ended (since_ends colour y s w n) (omega arith))
begun_fate colour y k numbers lost s t (over h b e) = subst (HasBegun colour (y + 1)) (sym e) (ended h (omega arith))
begun_fate colour y k numbers lost s t (goes w o h e) =
    subst (HasBegun colour (y + 1)) (sym e) (open_ (since_more colour y s w h) o)

-- a strip that ended before is the same now
still : (colour : ℕ → ℕ → ℕ) (y k : ℕ) (numbers : List ℕ) (lost : List Run) (s t u : Strip)
    → Fate colour y k numbers lost s t → s ≡ u → IsStrip colour u → t ≡ u
still colour y k numbers lost s t u (ends m l a b n w o e) f h =
    let x = h.tall in let g : s.high ≡ u.high = ap (λ (q : Strip). q.high) f in absurd (omega arith)
still colour y k numbers lost s t u (over g b e) f h = e ∙ f
still colour y k numbers lost s t u (goes w o g e) f h = e ∙ f

-- an open strip that ends with row y is that strip
ends_now : (colour : ℕ → ℕ → ℕ) (y k : ℕ) (numbers : List ℕ) (lost : List Run) (s t u : Strip)
    → Fate colour y k numbers lost s t → run_of s ≡ run_of u
    → IsSince colour y s → s.high ≡ 0 → IsSince colour y u → u.high ≡ y + 1 → (¬ IsRun (colour (y + 1)) (run_of u))
    → t ≡ u
ends_now colour y k numbers lost s t u (ends m l a b n w o e) f ws z wu h none =
    let low = one_start colour y s u f ws wu in
    e ∙ (λ i. record { left = (f i).left; right = (f i).right; low = low i; high = sym h i; colour = (f i).colour })
ends_now colour y k numbers lost s t u (over g b e) f ws z wu h none = let x = g.tall in absurd (omega arith)
ends_now colour y k numbers lost s t u (goes w o g e) f ws z wu h none =
    absurd (none (subst (IsRun (colour (y + 1))) f g))

contains_at : (strips : List Strip) (k : ℕ) (u : Strip) → k < length strips → strip strips k ≡ u → Contains strips u
contains_at strips k u l e = (k, l, get_or_default strips k u no_strip l ∙ e)

-- a run that both rows have keeps its strip
goes_on : (colour : ℕ → ℕ → ℕ) (y k : ℕ) (numbers : List ℕ) (lost : List Run) (s t : Strip)
    → Fate colour y k numbers lost s t
    → s.high ≡ 0 → IsRun (colour (y + 1)) (run_of s) → t ≡ s
goes_on colour y k numbers lost s t (ends m l a b n w o e) z h = absurd (n h)
goes_on colour y k numbers lost s t (over g b e) z h = e
goes_on colour y k numbers lost s t (goes w o g e) z h = e

-- an older strip stays where it is, and begins below the new row
pub older : (colour : ℕ → ℕ → ℕ) (y k : ℕ) (numbers : List ℕ) (lost : List Run) (s t : Strip)
    → Fate colour y k numbers lost s t
    → (run_of s ≡ run_of t) × (s.low ≡ t.low) × (s.low ≤ y)
older colour y k numbers lost s t (ends m l a b n w o e) =
    (ap run_of (sym e), ap (λ (q : Strip). q.low) (sym e), w.start)
older colour y k numbers lost s t (over h b e) = let x = h.tall in
    (ap run_of (sym e), ap (λ (q : Strip). q.low) (sym e), omega arith)
older colour y k numbers lost s t (goes w o h e) = (ap run_of (sym e), ap (λ (q : Strip). q.low) (sym e), w.start)

module _ (colour : ℕ → ℕ → ℕ) (y : ℕ) (w : StripRows) (lost fresh : List Run) (mid now : List Strip) (next : List ℕ)
    (t : IsStepped colour y w lost fresh mid now next) where
  pub all_begun : All (HasBegun colour (y + 1)) now
  all_begun =
      All-from_get_or (HasBegun colour (y + 1)) now no_strip (λ k l. elim (cases_lt k (length (strips_of w))) [
        | inl h ↦
            begun_fate colour y k w.numbers.items lost (strip (strips_of w) k) (strip now k)
            (fate colour y w lost fresh mid now next t k h)
        | inr h ↦ let b = newer colour y w lost fresh mid now next t k h l in
            let d = t.turn.begins (run fresh b.0) (has_run fresh b.0 b.1) in
            subst (HasBegun colour (y + 1)) (sym b.3) (open_ (since_begun colour y (run fresh b.0) d.0 d.1) refl)
      ])

  pub all_ended : (u : Strip) → IsStrip colour u → u.high ≤ y + 1 → Contains now u
  all_ended u h b =
      let many = t.ended.as_many in let more = t.begun.as_many in let tall = h.tall in
      elim (cases_lt y u.high) [
        | inr l ↦ let c = t.swept.all u h l in
            let e : strip (strips_of w) c.0 ≡ u = get_or_default (strips_of w) c.0 no_strip u c.1 ∙ c.2 in
            let c1 = c.1 in
            contains_at now c.0 u (omega arith)
            (still colour y c.0 w.numbers.items lost (strip (strips_of w) c.0) (strip now c.0) u
            (fate colour y w lost fresh mid now next t c.0 c1) e h)
        | inl l ↦ let e : u.high ≡ y + 1 = omega arith in
            let here : IsRun (colour y) (run_of u) = h.each y (omega arith) l in
            let since : IsSince colour y u =
            record { start = omega arith; each = λ z a d. h.each z a (omega arith); below = h.below } in
            let o = t.swept.open_ (run_of u) here in
            let k : ℕ = number w.numbers.items (run_of u) in
            let o1 = o.among in
            contains_at now k u (omega arith)
            (ends_now colour y k w.numbers.items lost (strip (strips_of w) k) (strip now k) u
            (fate colour y w lost fresh mid now next t k o1)
            o.run o.since o.open_ since e (subst (λ n. ¬ IsRun (colour n) (run_of u)) e h.above))
      ]

  pub open_now : (r : Run) → IsRun (colour (y + 1)) r → IsOpenAt colour (y + 1) now (slice_index next r.left) r
  open_now r h =
      let many = t.ended.as_many in let more = t.begun.as_many in
      elim (t.turn.comes r h) [
        | inl c ↦ let p = place_of fresh r c in let p1 = p.1 in
            let n : number next r ≡ length mid + p.0 = ap (number next) (sym p.2) ∙ t.begun.given p.0 p.1 in
            let s : strip now (number next r) ≡ begun_at (y + 1) r =
            ap (strip now) n ∙ t.begun.begun p.0 p.1 ∙ ap (begun_at (y + 1)) p.2 in
            let d = t.turn.begins r c in record {
              among = omega arith;
              run = ap run_of s;
              since = subst (IsSince colour (y + 1)) (sym s) (since_begun colour y r h d.1);
              open_ = ap (λ (q : Strip). q.high) s;
            }
        | inr g ↦ let o = t.swept.open_ r g in let k : ℕ = number w.numbers.items r in let o1 = o.among in
            let n : number next r ≡ k = t.begun.others r.left (λ m l e.
            let d = t.turn.begins (run fresh m) (has_run fresh m l) in
            d.1 (subst (IsRun (colour y)) (sym (same_run (colour (y + 1)) (run fresh m) r d.0 h e)) g)) in
            let on : IsRun (colour (y + 1)) (run_of (strip (strips_of w) k)) =
            subst (IsRun (colour (y + 1))) (sym o.run) h in
            let s : strip now k ≡ strip (strips_of w) k =
            goes_on colour y k w.numbers.items lost (strip (strips_of w) k) (strip now k)
            (fate colour y w lost fresh mid now next t k o1) o.open_ on in
            subst (λ j. IsOpenAt colour (y + 1) now j r) (sym n) (record {
              among = omega arith;
              run = ap run_of s ∙ o.run;
              since = subst (IsSince colour (y + 1)) (sym s) (since_more colour y (strip (strips_of w) k) o.since on);
              open_ = ap (λ (q : Strip). q.high) s ∙ o.open_;
            })
      ]

  before_now : (i j : ℕ) → i < j → j < length now → IsBefore (strip now i) (strip now j)
  before_now i j l h = elim (cases_lt j (length (strips_of w))) [
    | inl k ↦
        let a = older colour y i w.numbers.items lost (strip (strips_of w) i) (strip now i)
        (fate colour y w lost fresh mid now next t i (omega arith)) in
        let b = older colour y j w.numbers.items lost (strip (strips_of w) j) (strip now j)
        (fate colour y w lost fresh mid now next t j k) in
        let a0 = ap (λ (q : Run). q.left) a.0 in let b0 = ap (λ (q : Run). q.left) b.0 in
        let a1 = a.1 in let b1 = b.1 in
        elim (t.swept.ascending i j no_strip l k) [
          | inl x ↦ inl (omega arith)
          | inr x ↦ let x1 = x.1 in inr (omega arith, omega arith)
        ]
    | inr k ↦ let b = newer colour y w lost fresh mid now next t j k h in
        let low : (strip now j).low ≡ y + 1 = ap (λ (q : Strip). q.low) b.3 in
        let left : (strip now j).left ≡ (run fresh b.0).left = ap (λ (q : Strip). q.left) b.3 in
        let b1 = b.1 in let b2 = b.2 in
        elim (cases_lt i (length (strips_of w))) [
          | inl m ↦
              let a = older colour y i w.numbers.items lost (strip (strips_of w) i) (strip now i)
              (fate colour y w lost fresh mid now next t i m) in
              let a1 = a.1 in let a2 = a.2 in inl (omega arith)
          | inr m ↦ let a = newer colour y w lost fresh mid now next t i m (omega arith) in let a2 = a.2 in
              let low_a : (strip now i).low ≡ y + 1 = ap (λ (q : Strip). q.low) a.3 in
              let left_a : (strip now i).left ≡ (run fresh a.0).left = ap (λ (q : Strip). q.left) a.3 in
              let f = further fresh a.0 b.0 t.turn.apart (omega arith) b1 in inr (omega arith, omega arith)
        ]
  ]

  pub ascending_now : AllPairs IsBefore now
  ascending_now = λ i j d l h.
      rw (get_or_default now i d no_strip (omega arith), get_or_default now j d no_strip h)
      (before_now i j l h)
