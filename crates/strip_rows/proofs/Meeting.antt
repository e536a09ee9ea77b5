-- Pairs are right one row further up.
use Rattle.std.proofs.Common.{◌≡◌, ℕ, ◌<◌, ◌≤◌, ◌+◌, inl, inr, List, length, arith, ap, sym, subst, ◌∙◌, ◌⊎◌}
use Rattle.std.specs.Prelude.{Contains, min, max}
use Rattle.std.proofs.lemmas.Bool.{cases_eq, cases_lt, cases_order}
use Rattle.std.proofs.lemmas.Bool.Decides.{nat_tests}
use Rattle.std.proofs.lemmas.List.Elements.{All-contains}
use Rattle.mask_runs.specs.declared.run.Run.{Run}
use Rattle.mask_runs.specs.Runs.{IsRun}
use Rattle.union_find.specs.declared.pair.Pair.{Pair}
use Rattle.strip_rows.specs.declared.strip.Strip.{Strip}
use Rattle.strip_rows.specs.declared.rows.StripRows.{StripRows}
use Rattle.strip_rows.specs.Strips.{run_of, strip}
use Rattle.strip_rows.specs.Touching.{Touch, beside, upon, AreOnce}
use Rattle.strip_rows.specs.Changes.{IsChange}
use Rattle.strip_rows.specs.Swept.{IsSince, IsOpenAt, strips_of, upto, IsTouchingUpto}
use Rattle.strip_rows.specs.Missing.{run, no_run, AreApart}
use Rattle.strip_rows.specs.Steps.{number, ended_at, begun_at, Overlap, HaveOwn, upon as upon_pair, AreUpon, in_order}
use Rattle.strip_rows.specs.Steps.{AreNew, IsBeside, AreBeside}
use Rattle.strip_rows.proofs.Merging.{further}
use Rattle.strip_rows.proofs.Turning.{IsStepped, Fate, ends, over, goes, fate, newer, place_of, has_run, one_open}
use Rattle.strip_rows.proofs.Stepping.{since_begun, since_more, open_now, ascending_now, older}

upto-open : (y : ℕ) (s : Strip) → s.high ≡ 0 → (upto y s).high ≡ y + 1
upto-open y s e = grind (arith, nat_tests)

upto-over : (y : ℕ) (s : Strip) → 0 < s.high → (upto y s).high ≡ s.high
upto-over y s h = grind (arith, nat_tests)

-- an older strip as far as row y, and as far as the next
record IsAged (y : ℕ) (s t : Strip) : Type 0 where
  pub left : s.left ≡ t.left
  pub right : s.right ≡ t.right
  pub low : s.low ≡ t.low
  pub under : s.low ≤ y
  pub high : (s.high ≡ t.high) ⊎ (s.high ≡ y + 1) × (t.high ≡ y + 2)

high_aged : (colour : ℕ → ℕ → ℕ) (y k : ℕ) (numbers : List ℕ) (lost : List Run) (s t : Strip)
    → Fate colour y k numbers lost s t
    → ((upto y s).high ≡ (upto (y + 1) t).high) ⊎ ((upto y s).high ≡ y + 1) × ((upto (y + 1) t).high ≡ y + 2)
high_aged colour y k numbers lost s t (ends m l a b n w o e) =
    let h : t.high ≡ y + 1 = ap (λ (q : Strip). q.high) e in
    inl (upto-open y s o ∙ sym (upto-over (y + 1) t (omega arith) ∙ h))
high_aged colour y k numbers lost s t (over h b e) =
    let f : t.high ≡ s.high = ap (λ (q : Strip). q.high) e in let x = h.tall in
    inl (upto-over y s (omega arith) ∙ sym (upto-over (y + 1) t (omega arith) ∙ f))
high_aged colour y k numbers lost s t (goes w o h e) =
    let f : t.high ≡ s.high = ap (λ (q : Strip). q.high) e in let x = upto-open (y + 1) t (f ∙ o) in
    inr (upto-open y s o, omega arith)

aged : (colour : ℕ → ℕ → ℕ) (y k : ℕ) (numbers : List ℕ) (lost : List Run) (s t : Strip)
    → Fate colour y k numbers lost s t
    → IsAged y (upto y s) (upto (y + 1) t)
aged colour y k numbers lost s t f = let o = older colour y k numbers lost s t f in record {
  left = ap (λ (q : Run). q.left) o.0;
  right = ap (λ (q : Run). q.right) o.0;
  low = o.1;
  under = o.2;
  high = high_aged colour y k numbers lost s t f;
}

touch_aged : (y : ℕ) (s s' t t' : Strip) → IsAged y s s' → IsAged y t t' → Touch s t → Touch s' t'
touch_aged y s s' t t' a b (beside adj m n) =
    let al = a.left in let ar = a.right in let bl = b.left in let br = b.right in let aw = a.low in let bw = b.low in
    let au = a.under in let bu = b.under in
    beside
    (elim adj [ inl e ↦ inl (omega arith) | inr e ↦ inr (omega arith) ])
    (elim b.high [ inl h ↦ omega arith | inr h ↦ let h1 = h.1 in omega arith ])
    (elim a.high [ inl h ↦ omega arith | inr h ↦ let h1 = h.1 in omega arith ])
touch_aged y s s' t t' a b (upon adj m n) =
    let al = a.left in let ar = a.right in let bl = b.left in let br = b.right in let aw = a.low in let bw = b.low in
    let au = a.under in let bu = b.under in
    upon
    (elim adj [
      | inl e ↦ elim a.high [ inl h ↦ inl (omega arith) | inr h ↦ let h0 = h.0 in absurd (omega arith) ]
      | inr e ↦ elim b.high [ inl h ↦ inr (omega arith) | inr h ↦ let h0 = h.0 in absurd (omega arith) ]
    ])
    (omega arith)
    (omega arith)

touch_back : (y : ℕ) (s s' t t' : Strip) → IsAged y s s' → IsAged y t t' → Touch s' t' → Touch s t
touch_back y s s' t t' a b (beside adj m n) =
    let al = a.left in let ar = a.right in let bl = b.left in let br = b.right in let aw = a.low in let bw = b.low in
    let au = a.under in let bu = b.under in
    beside
    (elim adj [ inl e ↦ inl (omega arith) | inr e ↦ inr (omega arith) ])
    (elim b.high [ inl h ↦ omega arith | inr h ↦ let h0 = h.0 in omega arith ])
    (elim a.high [ inl h ↦ omega arith | inr h ↦ let h0 = h.0 in omega arith ])
touch_back y s s' t t' a b (upon adj m n) =
    let al = a.left in let ar = a.right in let bl = b.left in let br = b.right in let aw = a.low in let bw = b.low in
    let au = a.under in let bu = b.under in
    upon
    (elim adj [
      | inl e ↦ elim a.high [ inl h ↦ inl (omega arith) | inr h ↦ let h1 = h.1 in absurd (omega arith) ]
      | inr e ↦ elim b.high [ inl h ↦ inr (omega arith) | inr h ↦ let h1 = h.1 in absurd (omega arith) ]
    ])
    (omega arith)
    (omega arith)

touch_turned : (s t : Strip) → Touch s t → Touch t s
touch_turned s t (beside adj m n) = beside (elim adj [ inl e ↦ inr e | inr e ↦ inl e ]) n m
touch_turned s t (upon adj m n) = upon (elim adj [ inl e ↦ inr e | inr e ↦ inl e ]) n m

-- neighbours stand next to one another
neighbours : (runs : List Run) (p q : Run) → AreApart runs → Contains runs p → Contains runs q → p.right ≡ q.left
    → (k : ℕ) × (k + 1 < length runs) × (run runs k ≡ p) × (run runs (k + 1) ≡ q)
neighbours runs p q up c d e =
    let a = place_of runs p c in let b = place_of runs q d in
    let i : ℕ = a.0 in let j : ℕ = b.0 in let li = a.1 in let lj = b.1 in
    let pl : (run runs i).left ≡ p.left = ap (λ (r : Run). r.left) a.2 in
    let pr : (run runs i).right ≡ p.right = ap (λ (r : Run). r.right) a.2 in
    let ql : (run runs j).left ≡ q.left = ap (λ (r : Run). r.left) b.2 in
    let qr : (run runs j).right ≡ q.right = ap (λ (r : Run). r.right) b.2 in
    let wi = up.wide i no_run li in
    let lt : i < j = elim (cases_order i j) [
      | inl f ↦ let g : (run runs i).left ≡ (run runs j).left = ap (λ k. (run runs k).left) f in absurd (omega arith)
      | inr o ↦ elim o [ inl h ↦ h | inr h ↦ let g = further runs j i up h li in absurd (omega arith) ]
    ] in
    let n : i + 1 ≡ j = elim (cases_eq (i + 1) j) [
      | inl f ↦ f
      | inr f ↦
          let g = up.ascending i (i + 1) no_run (omega arith) (omega arith) in
          let w = up.wide (i + 1) no_run (omega arith) in
          let h = up.ascending (i + 1) j no_run (omega arith) lj in absurd (omega arith)
    ] in
    (i, omega arith, a.2, ap (run runs) n ∙ b.2)

-- a lost run's strip ends
must_end : (colour : ℕ → ℕ → ℕ) (y k : ℕ) (numbers : List ℕ) (lost : List Run) (s t : Strip)
    → Fate colour y k numbers lost s t → s.high ≡ 0
    → (¬ IsRun (colour (y + 1)) (run_of s)) → t ≡ ended_at (y + 1) s
must_end colour y k numbers lost s t (ends m l a b n w o e) z none = e
must_end colour y k numbers lost s t (over h b e) z none = let x = h.tall in absurd (omega arith)
must_end colour y k numbers lost s t (goes w o h e) z none = absurd (none h)

-- a strip that ends and one that begins above it touch
upon_touch : (y : ℕ) (s : Strip) (r q : Run) → run_of s ≡ r → Overlap r q
    → Touch (upto (y + 1) (ended_at (y + 1) s)) (upto (y + 1) (begun_at (y + 1) q))
upon_touch y s r q e o =
    let l : s.left ≡ r.left = ap (λ (x : Run). x.left) e in let h : s.right ≡ r.right = ap (λ (x : Run). x.right) e in
    let o0 = o.0 in let o1 = o.1 in
    upon (inl (upto-over (y + 1) (ended_at (y + 1) s) (omega arith))) (omega arith) (omega arith)

in_order-below : (a b : ℕ) → a < b → in_order a b ≡ record { a = a; b = b }
in_order-below a b l = let e : min a b ≡ a = omega arith in let f : max a b ≡ b = omega arith in
    λ i. record { a = e i; b = f i }

in_order-above : (a b : ℕ) → b < a → in_order a b ≡ record { a = b; b = a }
in_order-above a b l = let e : min a b ≡ b = omega arith in let f : max a b ≡ a = omega arith in
    λ i. record { a = e i; b = f i }

-- open strips whose runs are neighbours touch
beside_touch : (colour : ℕ → ℕ → ℕ) (y : ℕ) (strips : List Strip) (m n : ℕ) (r q : Run) → IsOpenAt colour y strips m r
    → IsOpenAt colour y strips n q
    → r.right ≡ q.left → Touch (upto y (strip strips m)) (upto y (strip strips n))
beside_touch colour y strips m n r q a b e =
    let f : (strip strips m).right ≡ r.right = ap (λ (x : Run). x.right) a.run in
    let g : (strip strips n).left ≡ q.left = ap (λ (x : Run). x.left) b.run in
    let s = a.since.start in let t = b.since.start in
    let u = upto-open y (strip strips m) a.open_ in let v = upto-open y (strip strips n) b.open_ in
    beside (inl (omega arith)) (omega arith) (omega arith)

beside_pairs : (colour : ℕ → ℕ → ℕ) (y : ℕ) (strips : List Strip) (m n : ℕ) (r q : Run) → IsOpenAt colour y strips m r
    → IsOpenAt colour y strips n q
    → r.right ≡ q.left → r.left < r.right → IsTouchingUpto y strips (in_order m n)
beside_pairs colour y strips m n r q a b e l =
    let t = beside_touch colour y strips m n r q a b e in let i = a.among in let j = b.among in
    elim (cases_order m n) [
      | inl f ↦
          let g : r ≡ q = sym a.run ∙ ap (λ k. run_of (strip strips k)) f ∙ b.run in
          let h : r.left ≡ q.left = ap (λ (x : Run). x.left) g in absurd (omega arith)
      | inr o ↦ elim o [
        | inl h ↦
            subst (IsTouchingUpto y strips) (sym (in_order-below m n h)) (record { ordered = h; within = j; touch = t })
        | inr h ↦
            subst (IsTouchingUpto y strips) (sym (in_order-above m n h))
            (record { ordered = h; within = i; touch = touch_turned _ _ t })
      ]
    ]

-- how a strip touches one that begins in row y + 1, as far as that row
touch_new : (y : ℕ) (s t : Strip) → t.low ≡ y + 1 → t.high ≡ y + 2 → s.low ≤ y + 1 → Touch s t
    → (s.high ≡ y + 1) × (s.left < t.right) × (t.left < s.right) ⊎ (y + 1 < s.high)
    × ((s.right ≡ t.left) ⊎ (t.right ≡ s.left))
touch_new y s t low high under (beside adj m n) = inr (omega arith, adj)
touch_new y s t low high under (upon adj m n) =
    elim adj [ inl e ↦ inl (omega arith, m, n) | inr e ↦ absurd (omega arith) ]

-- runs that have strips of their own have numbers of their own
own_numbers : (colour : ℕ → ℕ → ℕ) (y : ℕ) (strips : List Strip) (numbers : List ℕ) (runs : List Run) → AreApart runs
    → ((m : ℕ) → m < length runs → IsOpenAt colour y strips (number numbers (run runs m)) (run runs m))
    → HaveOwn numbers runs
own_numbers colour y strips numbers runs up o = λ a b l m e.
    let oa = o a (omega arith) in let ob = o b m in
    let f : run runs a ≡ run runs b = sym oa.run ∙ ap (λ n. run_of (strip strips n)) e ∙ ob.run in
    let g : (run runs a).left ≡ (run runs b).left = ap (λ (r : Run). r.left) f in
    let h = further runs a b up l m in omega arith

-- the lower number of a pair of neighbours has an open strip
low_open : (colour : ℕ → ℕ → ℕ) (y : ℕ) (strips : List Strip) (m n : ℕ) (r q : Run) → IsOpenAt colour y strips m r
    → IsOpenAt colour y strips n q
    → (strip strips (min m n)).high ≡ 0
low_open colour y strips m n r q a b = elim (cases_lt m n) [
  | inl l ↦ let e : min m n ≡ m = omega arith in rw e a.open_
  | inr l ↦ let e : min m n ≡ n = omega arith in rw e b.open_
]

module _ (colour : ℕ → ℕ → ℕ) (y : ℕ) (w : StripRows) (lost fresh : List Run) (mid now : List Strip) (next : List ℕ)
    (t : IsStepped colour y w lost fresh mid now next) where
  aged_at : (k : ℕ) → k < length (strips_of w) → IsAged y (upto y (strip (strips_of w) k)) (upto (y + 1) (strip now k))
  aged_at k l =
      aged colour y k w.numbers.items lost (strip (strips_of w) k) (strip now k)
      (fate colour y w lost fresh mid now next t k l)

  old_forward : (p : Pair) → IsTouchingUpto y (strips_of w) p → IsTouchingUpto (y + 1) now p
  old_forward p h =
      let o = h.ordered in let i = h.within in let many = t.ended.as_many in let more = t.begun.as_many in record {
        ordered = o;
        within = omega arith;
        touch = touch_aged y _ _ _ _ (aged_at p.a (omega arith)) (aged_at p.b i) h.touch;
      }

  old_back : (p : Pair) → IsTouchingUpto (y + 1) now p → p.b < length (strips_of w) → IsTouchingUpto y (strips_of w) p
  old_back p h i =
      let o = h.ordered in record {
        ordered = o;
        within = i;
        touch = touch_back y _ _ _ _ (aged_at p.a (omega arith)) (aged_at p.b i) h.touch;
      }

-- what one step has done
pub record IsPaired (colour : ℕ → ℕ → ℕ) (y : ℕ) (w : StripRows) (olds news lost fresh : List Run)
    (mid now : List Strip) (next : List ℕ)
    (first : ℕ) (half pairs : List Pair) : Type 0 where
  pub stepped : IsStepped colour y w lost fresh mid now next
  pub first_is : first ≡ length (strips_of w)
  pub change : IsChange colour y olds news
  pub apart : AreApart news
  pub among : (r : Run) → Contains fresh r → Contains news r
  pub upon : AreUpon w.numbers.items first lost fresh (length lost) (length fresh) w.pairs.items half
  pub beside : AreBeside next first news (length news) half pairs

module _ (colour : ℕ → ℕ → ℕ) (y : ℕ) (w : StripRows) (olds news lost fresh : List Run) (mid now : List Strip)
    (next : List ℕ) (first : ℕ) (half pairs : List Pair)
    (x : IsPaired colour y w olds news lost fresh mid now next first half pairs) where
  new_run : (k : ℕ) → k < length news → IsRun (colour (y + 1)) (run news k)
  new_run k l = All-contains (IsRun (colour (y + 1))) news (run news k) x.change.firsts (has_run news k l)

  open_at : (r : Run) → IsRun (colour (y + 1)) r → IsOpenAt colour (y + 1) now (number next r) r
  open_at = open_now colour y w lost fresh mid now next x.stepped

  fate_of : (k : ℕ) → k < length (strips_of w)
      → Fate colour y k w.numbers.items lost (strip (strips_of w) k) (strip now k)
  fate_of = fate colour y w lost fresh mid now next x.stepped

  upon_pairs : (a b : ℕ) → a < length lost → b < length fresh → Overlap (run lost a) (run fresh b)
      → IsTouchingUpto (y + 1) now (upon_pair w.numbers.items first lost a b)
  upon_pairs a b la lb o =
      let t = x.stepped in let f = x.first_is in let many = t.ended.as_many in let more = t.begun.as_many in
      let r : Run = run lost a in let n : ℕ = number w.numbers.items r in
      let d = t.turn.ends r (has_run lost a la) in let k = t.swept.open_ r d.0 in let k1 = k.among in
      let low : strip now n ≡ ended_at (y + 1) (strip (strips_of w) n) =
      must_end colour y n w.numbers.items lost (strip (strips_of w) n) (strip now n) (fate_of n k1) k.open_
      (subst (λ q. ¬ IsRun (colour (y + 1)) q) (sym k.run) d.1) in
      let e : length mid + b ≡ first + b = omega arith in
      let high : strip now (first + b) ≡ begun_at (y + 1) (run fresh b) =
      subst (λ j. strip now j ≡ begun_at (y + 1) (run fresh b)) e (t.begun.begun b lb) in record {
        ordered = omega arith;
        within = omega arith;
        touch = subst (λ q. Touch (upto (y + 1) q) (upto (y + 1) (strip now (first + b)))) (sym low)
            (subst (λ q. Touch (upto (y + 1) (ended_at (y + 1) (strip (strips_of w) n))) (upto (y + 1) q)) (sym high)
            (upon_touch y (strip (strips_of w) n) r (run fresh b) k.run o));
      }

  -- each pair touches
  pub each_touches : (p : Pair) → Contains pairs p → IsTouchingUpto (y + 1) now p
  each_touches p c =
      let t = x.stepped in
      elim (x.beside.only p c) [
        | inl d ↦ elim (x.upon.only p d) [
          | inl o ↦ old_forward colour y w lost fresh mid now next t p
              (All-contains (IsTouchingUpto y (strips_of w)) w.pairs.items p t.swept.touching o)
          | inr o ↦ subst (IsTouchingUpto (y + 1) now) o.is (upon_pairs o.a o.b o.below o.above o.overlap)
        ]
        | inr d ↦ let l = d.within in
            let r : Run = run news d.k in let q : Run = run news (d.k + 1) in
            let hr = new_run d.k (omega arith) in let hq = new_run (d.k + 1) l in
            subst (IsTouchingUpto (y + 1) now) d.is
            (beside_pairs colour (y + 1) now (number next r) (number next q) r q (open_at r hr) (open_at q hq) d.new.0
            hr.wide)
      ]

  -- neighbours of which one has begun are paired
  pairs_found : (r q : Run) → Contains news r → Contains news q → r.right ≡ q.left
      → first ≤ max (number next r) (number next q) → Contains pairs (in_order (number next r) (number next q))
  pairs_found r q c d e l =
      let n = neighbours news r q x.apart c d e in
      let P : Run → Run → Type 0 = λ u v. AreNew next first u v
      → Contains pairs (in_order (number next u) (number next v)) in
      let h : P (run news n.0) (run news (n.0 + 1)) =
      λ new. x.beside.all (in_order (number next (run news n.0)) (number next (run news (n.0 + 1))))
      (record {
        k = n.0;
        behind = n.1;
        within = n.1;
        new = new;
        is = λ i. in_order (number next (run news n.0)) (number next (run news (n.0 + 1)));
      }) in
      let k : P r q = subst (λ v. P r v) n.3 (subst (λ u. P u (run news (n.0 + 1))) n.2 h) in
      k (e, l)

  -- an open strip and one that begins beside it are paired
  paired_beside : (p : Pair) (m : ℕ) → p.a < p.b → p.b < length now → length (strips_of w) ≤ p.b → m < length fresh
      → strip now p.b ≡ begun_at (y + 1) (run fresh m) → IsSince colour (y + 1) (strip now p.a)
      → ((strip now p.a).right ≡ (strip now p.b).left) ⊎ ((strip now p.b).right ≡ (strip now p.a).left)
      → Contains pairs p
  paired_beside p m o l new lm e s adj =
      let t = x.stepped in let f = x.first_is in
      let r : Run = run_of (strip now p.a) in let q : Run = run fresh m in
      let eq : run_of (strip now p.b) ≡ q = ap run_of e in
      let ql : (strip now p.b).left ≡ q.left = ap (λ (k : Run). k.left) eq in
      let qr : (strip now p.b).right ≡ q.right = ap (λ (k : Run). k.right) eq in
      let up = ascending_now colour y w lost fresh mid now next t in
      let d = t.turn.begins q (has_run fresh m lm) in
      let hr : IsRun (colour (y + 1)) r = s.each (y + 1) s.start (omega arith) in
      let or = open_at r hr in let oq = open_at q d.0 in
      let sb : IsSince colour (y + 1) (strip now p.b) =
      subst (IsSince colour (y + 1)) (sym e) (since_begun colour y q d.0 d.1) in
      let na : number next r ≡ p.a =
      one_open colour (y + 1) now (number next r) p.a up or.among (omega arith) or.run or.since s in
      let nb : number next q ≡ p.b =
      one_open colour (y + 1) now (number next q) p.b up oq.among l (oq.run ∙ sym eq) oq.since sb in
      let cq : Contains news q = x.among q (has_run fresh m lm) in
      let cr : Contains news r =
      x.change.beside r q hr d.0 (elim adj [ inl g ↦ inl (omega arith) | inr g ↦ inr (omega arith) ]) d.1 in
      elim adj [
        | inl g ↦
            let c = pairs_found r q cr cq (omega arith) (omega arith) in
            subst (Contains pairs)
            (ap (λ k. in_order k (number next q)) na ∙ ap (in_order p.a) nb ∙ in_order-below p.a p.b o) c
        | inr g ↦
            let c = pairs_found q r cq cr (omega arith) (omega arith) in
            subst (Contains pairs)
            (ap (λ k. in_order k (number next r)) nb ∙ ap (in_order p.b) na ∙ in_order-above p.b p.a o) c
      ]

  -- a strip that ends and one that begins above it are paired
  paired_upon : (p : Pair) (i m : ℕ) → i < length lost → m < length fresh → number w.numbers.items (run lost i) ≡ p.a
      → length (strips_of w) + m ≡ p.b → Overlap (run lost i) (run fresh m) → Contains pairs p
  paired_upon p i m li lm ea eb o =
      let f = x.first_is in let g : first + m ≡ p.b = omega arith in
      let e : upon_pair w.numbers.items first lost i m ≡ p = λ j. record { a = ea j; b = g j } in
      x.beside.kept p
      (x.upon.all p (record { a = i; b = m; below = li; above = lm; behind = inl li; overlap = o; is = e }))

  paired_old : (p : Pair) (m : ℕ) → p.a < p.b → p.b < length now → length (strips_of w) ≤ p.b → m < length fresh
      → p.b ≡ length (strips_of w) + m → strip now p.b ≡ begun_at (y + 1) (run fresh m)
      → Fate colour y p.a w.numbers.items lost (strip (strips_of w) p.a) (strip now p.a)
      → ((upto (y + 1) (strip now p.a)).high ≡ y + 1) × ((strip now p.a).left < (strip now p.b).right)
      × ((strip now p.b).left < (strip now p.a).right)
      ⊎ (y + 1 < (upto (y + 1) (strip now p.a)).high)
      × (((strip now p.a).right ≡ (strip now p.b).left) ⊎ ((strip now p.b).right ≡ (strip now p.a).left))
      → Contains pairs p
  paired_old p m o l new lm b e (ends i li a n none s z f) c =
      let h : (strip now p.a).high ≡ y + 1 = ap (λ (q : Strip). q.high) f in
      let u = upto-over (y + 1) (strip now p.a) (omega arith) in
      let al : (strip now p.a).left ≡ (run lost i).left =
      ap (λ (q : Strip). q.left) f ∙ sym (ap (λ (q : Run). q.left) a) in
      let ar : (strip now p.a).right ≡ (run lost i).right =
      ap (λ (q : Strip). q.right) f ∙ sym (ap (λ (q : Run). q.right) a) in
      let bl : (strip now p.b).left ≡ (run fresh m).left = ap (λ (q : Strip). q.left) e in
      let br : (strip now p.b).right ≡ (run fresh m).right = ap (λ (q : Strip). q.right) e in
      elim c [
        | inl k ↦ let k1 = k.1 in let k2 = k.2 in paired_upon p i m li lm n (sym b) (omega arith, omega arith)
        | inr k ↦ let k0 = k.0 in absurd (omega arith)
      ]
  paired_old p m o l new lm b e (over g d f) c =
      let h : (strip now p.a).high ≡ (strip (strips_of w) p.a).high = ap (λ (q : Strip). q.high) f in
      let t = g.tall in
      let u = upto-over (y + 1) (strip now p.a) (omega arith) in
      elim c [ inl k ↦ let k0 = k.0 in absurd (omega arith) | inr k ↦ let k0 = k.0 in absurd (omega arith) ]
  paired_old p m o l new lm b e (goes s z r f) c =
      let h : (strip now p.a).high ≡ 0 = ap (λ (q : Strip). q.high) f ∙ z in
      let u = upto-open (y + 1) (strip now p.a) h in
      let since : IsSince colour (y + 1) (strip now p.a) =
      subst (IsSince colour (y + 1)) (sym f) (since_more colour y (strip (strips_of w) p.a) s r) in
      elim c [
        | inl k ↦ let k0 = k.0 in absurd (omega arith)
        | inr k ↦ paired_beside p m o l new lm e since k.1
      ]

  paired_new : (p : Pair) → IsTouchingUpto (y + 1) now p → length (strips_of w) ≤ p.b → Contains pairs p
  paired_new p h new =
      let t = x.stepped in let o = h.ordered in let l = h.within in
      let b = newer colour y w lost fresh mid now next t p.b new l in
      let low : (strip now p.b).low ≡ y + 1 = ap (λ (q : Strip). q.low) b.3 in
      let zero : (strip now p.b).high ≡ 0 = ap (λ (q : Strip). q.high) b.3 in
      let high = upto-open (y + 1) (strip now p.b) zero in
      elim (cases_lt p.a (length (strips_of w))) [
        | inl k ↦
            let f = fate_of p.a k in
            let d = older colour y p.a w.numbers.items lost (strip (strips_of w) p.a) (strip now p.a) f in
            let d1 = d.1 in let d2 = d.2 in
            paired_old p b.0 o l new b.1 b.2 b.3 f
            (touch_new y (upto (y + 1) (strip now p.a)) (upto (y + 1) (strip now p.b)) low (omega arith)
            (omega arith) h.touch)
        | inr k ↦
            let a = newer colour y w lost fresh mid now next t p.a k (omega arith) in
            let low_a : (strip now p.a).low ≡ y + 1 = ap (λ (q : Strip). q.low) a.3 in
            let zero_a : (strip now p.a).high ≡ 0 = ap (λ (q : Strip). q.high) a.3 in
            let u = upto-open (y + 1) (strip now p.a) zero_a in
            let d = t.turn.begins (run fresh a.0) (has_run fresh a.0 a.1) in
            let since : IsSince colour (y + 1) (strip now p.a) =
            subst (IsSince colour (y + 1)) (sym a.3) (since_begun colour y (run fresh a.0) d.0 d.1) in
            elim (touch_new y (upto (y + 1) (strip now p.a)) (upto (y + 1) (strip now p.b)) low (omega arith)
            (omega arith) h.touch) [
              | inl c ↦ let c0 = c.0 in absurd (omega arith)
              | inr c ↦ paired_beside p b.0 o l new b.1 b.3 since c.1
            ]
      ]

  -- all that touch are paired
  pub all_paired : (p : Pair) → IsTouchingUpto (y + 1) now p → Contains pairs p
  all_paired p h =
      let t = x.stepped in
      elim (cases_lt p.b (length (strips_of w))) [
        | inl k ↦
            x.beside.kept p (x.upon.kept p (t.swept.touch p (old_back colour y w lost fresh mid now next t p h k)))
        | inr k ↦ paired_new p h k
      ]

  -- a pair of neighbours has not been paired before
  not_before : (p : Pair) → IsBeside next first news (length news) p → Contains half p → ⊥
  not_before p h c =
      let t = x.stepped in let fe = x.first_is in let l = h.within in
      let r : Run = run news h.k in let q : Run = run news (h.k + 1) in
      let or = open_at r (new_run h.k (omega arith)) in let oq = open_at q (new_run (h.k + 1) l) in
      let pa : min (number next r) (number next q) ≡ p.a = ap (λ (k : Pair). k.a) h.is in
      let pb : max (number next r) (number next q) ≡ p.b = ap (λ (k : Pair). k.b) h.is in
      let new = h.new.1 in
      elim (x.upon.only p c) [
        | inl o ↦ let i = All-contains (IsTouchingUpto y (strips_of w)) w.pairs.items p t.swept.touching o in
            let iw = i.within in omega arith
        | inr o ↦
            let zero : (strip now p.a).high ≡ 0 =
            subst (λ n. (strip now n).high ≡ 0) pa
            (low_open colour (y + 1) now (number next r) (number next q) r q or oq) in
            let s : Run = run lost o.a in
            let e : number w.numbers.items s ≡ p.a = ap (λ (k : Pair). k.a) o.is in
            let d = t.turn.ends s (has_run lost o.a o.below) in
            let k : IsOpenAt colour y (strips_of w) p.a s =
            subst (λ n. IsOpenAt colour y (strips_of w) n s) e (t.swept.open_ s d.0) in
            let ended : strip now p.a ≡ ended_at (y + 1) (strip (strips_of w) p.a) =
            must_end colour y p.a w.numbers.items lost (strip (strips_of w) p.a) (strip now p.a)
            (fate_of p.a k.among) k.open_ (subst (λ n. ¬ IsRun (colour (y + 1)) n) (sym k.run) d.1) in
            let high : (strip now p.a).high ≡ y + 1 = ap (λ (n : Strip). n.high) ended in omega arith
      ]

  -- each pair is there once
  pub paired_once : AreApart lost → AreOnce pairs
  paired_once up =
      let t = x.stepped in let fe = x.first_is in
      x.beside.once
      (own_numbers colour (y + 1) now next news x.apart (λ m l. open_at (run news m) (new_run m l))) not_before
      (x.upon.once
      (own_numbers colour y (strips_of w) w.numbers.items lost up
      (λ m l. t.swept.open_ (run lost m) (t.turn.ends (run lost m) (has_run lost m l)).0))
      (λ k d l. let i = (t.swept.touching k d l).within in omega arith)
      t.swept.once)
