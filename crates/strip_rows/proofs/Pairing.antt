-- Pairs that touch are found, each once.
use Rattle.std.proofs.Common.{◌≡◌, ◌≢◌, ℕ, ◌<◌, ◌≤◌, ◌+◌, ◌-◌, inl, inr, List, [], ◌∷◌, length, arith, ap, sym, subst}
use Rattle.std.proofs.Common.{◌∙◌, ◌⊎◌}
use Rattle.std.specs.Prelude.{Contains}
use Rattle.std.proofs.lemmas.Bool.{cases_eq, cases_lt, cases_order}
use Rattle.std.proofs.lemmas.List.Elements.{All-contains, Contains-append_left, Contains-push, Contains-push_cases}
use Rattle.std.proofs.lemmas.List.Elements.{Contains-get_or}
use Rattle.std.proofs.lemmas.List.Quantifiers.{all_pairs_push}
use Rattle.mask_runs.specs.declared.run.Run.{Run}
use Rattle.union_find.specs.declared.pair.Pair.{Pair}
use Rattle.strip_rows.specs.Touching.{AreOnce}
use Rattle.strip_rows.specs.Missing.{run, no_run, AreApart}
use Rattle.strip_rows.specs.Steps.{number, Overlap, IsAddedIf, HaveOwn, upon, IsUpon, AreUpon, in_order, AreNew}
use Rattle.strip_rows.specs.Steps.{AreBeside}

-- what holds after a pair is added if P does
added_kept : (P : Type 0) (p q : Pair) (old now : List Pair) → IsAddedIf P p old now → Contains old q → Contains now q
added_kept P p q old now a c = elim a.by [
  | inl z ↦ subst (λ l. Contains l q) (sym z.1) (Contains-append_left old (p ∷ []) q c)
  | inr z ↦ subst (λ l. Contains l q) (sym z.1) c
]

added : (P : Type 0) (p : Pair) (old now : List Pair) → IsAddedIf P p old now → P → Contains now p
added P p old now a h = elim a.by [
  | inl z ↦ subst (λ l. Contains l p) (sym z.1) (Contains-push old p)
  | inr z ↦ absurd (z.0 h)
]

added_only : (P : Type 0) (p q : Pair) (old now : List Pair) → IsAddedIf P p old now → Contains now q
    → Contains old q ⊎ P × (p ≡ q)
added_only P p q old now a c = elim a.by [
  | inl z ↦ elim (Contains-push_cases old p q (subst (λ l. Contains l q) z.1 c)) [
    | inl k ↦ inl k
    | inr e ↦ inr (z.0, e)
  ]
  | inr z ↦ inl (subst (λ l. Contains l q) z.1 c)
]

added_once : (P : Type 0) (p : Pair) (old now : List Pair) → IsAddedIf P p old now → (P → ¬ Contains old p)
    → AreOnce old → AreOnce now
added_once P p old now a n o = elim a.by [
  | inl z ↦
      subst AreOnce (sym z.1)
      (all_pairs_push (λ x y. x ≢ y) old p o (λ k d l e. n z.0 (subst (Contains old) e (Contains-get_or old k d l))))
  | inr z ↦ subst AreOnce (sym z.1) o
]

-- runs of their own numbers
own_place : (numbers : List ℕ) (runs : List Run) (a b : ℕ) → HaveOwn numbers runs → a < length runs → b < length runs
    → number numbers (run runs a) ≡ number numbers (run runs b) → a ≡ b
own_place numbers runs a b own l m e = elim (cases_order a b) [
  | inl f ↦ f
  | inr k ↦ elim k [ inl h ↦ absurd (own a b h m e) | inr h ↦ absurd (own b a h l (sym e)) ]
]

pub beside_none : (numbers : List ℕ) (first : ℕ) (runs : List Run) (pairs : List Pair)
    → AreBeside numbers first runs 1 pairs pairs
beside_none numbers first runs pairs = record {
  kept = λ p c. c;
  all = λ p h. let b = h.behind in absurd (omega arith);
  only = λ p c. inl c;
  once = λ own none o. o;
}

-- a pair further back is another one
beside_other : (numbers : List ℕ) (runs : List Run) (k n : ℕ) → HaveOwn numbers runs → k < n → n + 1 < length runs
    → in_order (number numbers (run runs k)) (number numbers (run runs (k + 1)))
    ≡ in_order (number numbers (run runs n)) (number numbers (run runs (n + 1))) → ⊥
beside_other numbers runs k n own l m e =
    let a = own k (n + 1) (omega arith) m in let b = own (k + 1) (n + 1) (omega arith) m in
    let f = ap (λ (p : Pair). p.a) e in let g = ap (λ (p : Pair). p.b) e in
    elim (cases_order (number numbers (run runs n)) (number numbers (run runs (n + 1)))) [
      | inl h ↦ own n (n + 1) (omega arith) m h
      | inr h ↦
          let either : (number numbers (run runs k) ≡ number numbers (run runs (n + 1)))
          ⊎ (number numbers (run runs (k + 1)) ≡ number numbers (run runs (n + 1)))
          = elim (cases_lt (number numbers (run runs k)) (number numbers (run runs (k + 1)))) [
            | inl u ↦ elim h [ inl v ↦ inr (omega arith) | inr v ↦ inl (omega arith) ]
            | inr u ↦ elim h [ inl v ↦ inl (omega arith) | inr v ↦ inr (omega arith) ]
          ] in
          elim either [ inl u ↦ a u | inr u ↦ b u ]
    ]

beside_next : (numbers : List ℕ) (first : ℕ) (runs : List Run) (n : ℕ) (old mid now : List Pair) → n + 1 < length runs
    → AreBeside numbers first runs (n + 1) old mid
    → IsAddedIf (AreNew numbers first (run runs n) (run runs (n + 1)))
    (in_order (number numbers (run runs n)) (number numbers (run runs (n + 1)))) mid now
    → AreBeside numbers first runs (n + 1 + 1) old now
beside_next numbers first runs n old mid now inside w a =
    let P : Type 0 = AreNew numbers first (run runs n) (run runs (n + 1)) in
    let new : Pair = in_order (number numbers (run runs n)) (number numbers (run runs (n + 1))) in record {
      kept = λ p c. added_kept P new p mid now a (w.kept p c);
      all = λ p h. let b = h.behind in elim (cases_eq h.k n) [
        | inl e ↦
            let f : new ≡ p =
            sym (ap (λ i. in_order (number numbers (run runs i)) (number numbers (run runs (i + 1)))) e) ∙ h.is in
            subst (Contains now) f
            (added P new mid now a (subst (λ i. AreNew numbers first (run runs i) (run runs (i + 1))) e h.new))
        | inr ne ↦
            added_kept P new p mid now a
            (w.all p (record { k = h.k; behind = omega arith; within = h.within; new = h.new; is = h.is }))
      ];
      only = λ p c. elim (added_only P new p mid now a c) [
        | inl k ↦ elim (w.only p k) [
          | inl o ↦ inl o
          | inr o ↦ let b = o.behind in
              inr (record { k = o.k; behind = omega arith; within = o.within; new = o.new; is = o.is })
        ]
        | inr k ↦ inr (record { k = n; behind = omega arith; within = inside; new = k.0; is = k.1 })
      ];
      once = λ own none o. added_once P new mid now a (λ h c. elim (w.only new c) [
        | inl d ↦ none new (record { k = n; behind = inside; within = inside; new = h; is = λ i. new }) d
        | inr d ↦ let b = d.behind in beside_other numbers runs d.k n own (omega arith) inside d.is
      ]) (w.once own none o);
    }

pub beside_more : (numbers : List ℕ) (first : ℕ) (runs : List Run) (i : ℕ) (old mid now : List Pair) → 1 ≤ i
    → i < length runs
    → AreBeside numbers first runs i old mid
    → IsAddedIf (AreNew numbers first (run runs (i - 1)) (run runs i))
    (in_order (number numbers (run runs (i - 1))) (number numbers (run runs i))) mid now
    → AreBeside numbers first runs (i + 1) old now
beside_more numbers first runs i old mid now some inside w a =
    let e : i - 1 + 1 ≡ i = omega arith in
    subst (λ n. AreBeside numbers first runs (n + 1) old now) e
    (beside_next numbers first runs (i - 1) old mid now (omega arith)
    (subst (λ n. AreBeside numbers first runs n old mid) (sym e) w)
    (subst (λ n. IsAddedIf (AreNew numbers first (run runs (i - 1)) (run runs n))
    (in_order (number numbers (run runs (i - 1))) (number numbers (run runs n))) mid now) (sym e) a))

pub beside_all : (numbers : List ℕ) (first : ℕ) (runs : List Run) (i : ℕ) (old now : List Pair) → length runs ≤ i
    → AreBeside numbers first runs i old now → AreBeside numbers first runs (length runs) old now
beside_all numbers first runs i old now l w = record {
  kept = w.kept;
  all = λ p h. let b = h.behind in
      w.all p (record { k = h.k; behind = omega arith; within = h.within; new = h.new; is = h.is });
  only = λ p c. elim (w.only p c) [
    | inl o ↦ inl o
    | inr o ↦ inr (record { k = o.k; behind = o.within; within = o.within; new = o.new; is = o.is })
  ];
  once = w.once;
}

pub record IsUponUpto (numbers : List ℕ) (first : ℕ) (lost fresh : List Run) (i j second : ℕ)
    (old now : List Pair) : Type 0 where
  pub below : i ≤ length lost
  pub above : j ≤ length fresh
  pub next : second ≡ first + j
  pub done : AreUpon numbers first lost fresh i j old now

pub upon_none : (numbers : List ℕ) (first : ℕ) (lost fresh : List Run) (pairs : List Pair)
    → IsUponUpto numbers first lost fresh 0 0 first pairs pairs
upon_none numbers first lost fresh pairs = record {
  below = omega arith;
  above = omega arith;
  next = omega arith;
  done = record {
    kept = λ p c. c;
    all = λ p h. absurd (elim h.behind [ inl u ↦ omega arith | inr u ↦ omega arith ]);
    only = λ p c. inl c;
    once = λ own low o. o;
  };
}

-- a pair of places that were passed is another one
upon_other : (numbers : List ℕ) (first : ℕ) (lost fresh : List Run) (i j : ℕ) → HaveOwn numbers lost → i < length lost
    → IsUpon numbers first lost fresh i j (upon numbers first lost i j) → ⊥
upon_other numbers first lost fresh i j own l h =
    let f = ap (λ (p : Pair). p.a) h.is in let g = ap (λ (p : Pair). p.b) h.is in
    let e = own_place numbers lost h.a i own h.below l f in
    elim h.behind [ inl u ↦ omega arith | inr u ↦ omega arith ]

-- the pair of the two places has been looked at
upon_here : (numbers : List ℕ) (first : ℕ) (lost fresh : List Run) (i j x y : ℕ) (old mid now : List Pair)
    → i < length lost → j < length fresh
    → i ≤ x → j ≤ y → (i < x) ⊎ (j < y)
    → AreUpon numbers first lost fresh i j old mid
    → IsAddedIf (Overlap (run lost i) (run fresh j)) (upon numbers first lost i j) mid now
    → ((a b : ℕ) → a < length lost → b < length fresh → (a < x) ⊎ (b < y) → Overlap (run lost a) (run fresh b)
    → (a < i) ⊎ (b < j) ⊎ (a ≡ i) × (b ≡ j))
    → AreUpon numbers first lost fresh x y old now
upon_here numbers first lost fresh i j x y old mid now h g ix jy step w a t =
    let P : Type 0 = Overlap (run lost i) (run fresh j) in
    let new : Pair = upon numbers first lost i j in record {
      kept = λ p c. added_kept P new p mid now a (w.kept p c);
      all = λ p z. elim (t z.a z.b z.below z.above z.behind z.overlap) [
        | inl u ↦ added_kept P new p mid now a
            (w.all p
            (record {
              a = z.a;
              b = z.b;
              below = z.below;
              above = z.above;
              behind = inl u;
              overlap = z.overlap;
              is = z.is;
            }))
        | inr u ↦ elim u [
          | inl v ↦ added_kept P new p mid now a
              (w.all p
              (record {
                a = z.a;
                b = z.b;
                below = z.below;
                above = z.above;
                behind = inr v;
                overlap = z.overlap;
                is = z.is;
              }))
          | inr v ↦ let e = v.0 in let f = v.1 in
              let same : new ≡ p =
              ap (λ q. upon numbers first lost q j) (sym e) ∙ ap (λ q. upon numbers first lost z.a q) (sym f) ∙ z.is in
              subst (Contains now) same (added P new mid now a
              (subst (λ q. Overlap (run lost i) (run fresh q)) f
              (subst (λ q. Overlap (run lost q) (run fresh z.b)) e z.overlap)))
        ]
      ];
      only = λ p c. elim (added_only P new p mid now a c) [
        | inl k ↦ elim (w.only p k) [
          | inl o ↦ inl o
          | inr o ↦ inr (record {
            a = o.a;
            b = o.b;
            below = o.below;
            above = o.above;
            overlap = o.overlap;
            is = o.is;
            behind = elim o.behind [ inl u ↦ inl (omega arith) | inr u ↦ inr (omega arith) ];
          })
        ]
        | inr k ↦ inr (record { a = i; b = j; below = h; above = g; behind = step; overlap = k.0; is = k.1 })
      ];
      once = λ own low o. added_once P new mid now a (λ z c. elim (w.only new c) [
        | inl d ↦ let u = All-contains (λ (p : Pair). p.b < first) old new low d in absurd (omega arith)
        | inr d ↦ upon_other numbers first lost fresh i j own h d
      ]) (w.once own low o);
    }

-- the lower run ends first: it overlaps nothing further right
pub upon_below : (numbers : List ℕ) (first : ℕ) (lost fresh : List Run) (i j second : ℕ) (old mid now : List Pair)
    → AreApart fresh
    → i < length lost → j < length fresh → IsUponUpto numbers first lost fresh i j second old mid
    → IsAddedIf (Overlap (run lost i) (run fresh j)) (record { a = number numbers (run lost i); b = second }) mid now
    → (run lost i).right ≤ (run fresh j).right → IsUponUpto numbers first lost fresh (i + 1) j second old now
upon_below numbers first lost fresh i j second old mid now up h g w a r = record {
  below = omega arith;
  above = w.above;
  next = w.next;
  done = upon_here numbers first lost fresh i j (i + 1) j old mid now h g (omega arith) (omega arith)
      (inl (omega arith)) w.done
      (subst (λ s. IsAddedIf (Overlap (run lost i) (run fresh j))
      (record { a = number numbers (run lost i); b = s }) mid now) w.next a)
      (λ m n l k z o. elim (cases_lt m i) [
        | inl u ↦ inl u
        | inr u ↦ elim (cases_lt n j) [
          | inl v ↦ inr (inl v)
          | inr v ↦ let e : m ≡ i = elim z [ inl b ↦ omega arith | inr b ↦ omega arith ] in
              elim (cases_eq n j) [
                | inl f ↦ inr (inr (e, f))
                | inr f ↦ let s = up.ascending j n no_run (omega arith) k in
                    let q = subst (λ x. Overlap (run lost x) (run fresh n)) e o in let q1 = q.1 in absurd (omega arith)
              ]
        ]
      ]);
}

-- the upper run ends first
pub upon_above : (numbers : List ℕ) (first : ℕ) (lost fresh : List Run) (i j second third : ℕ)
    (old mid now : List Pair) → AreApart lost
    → i < length lost → j < length fresh → IsUponUpto numbers first lost fresh i j second old mid
    → IsAddedIf (Overlap (run lost i) (run fresh j)) (record { a = number numbers (run lost i); b = second }) mid now
    → (run fresh j).right < (run lost i).right → third ≡ second + 1
    → IsUponUpto numbers first lost fresh i (j + 1) third old now
upon_above numbers first lost fresh i j second third old mid now up h g w a r more = let next = w.next in record {
  below = w.below;
  above = omega arith;
  next = omega arith;
  done = upon_here numbers first lost fresh i j i (j + 1) old mid now h g (omega arith) (omega arith)
      (inr (omega arith)) w.done
      (subst (λ s. IsAddedIf (Overlap (run lost i) (run fresh j))
      (record { a = number numbers (run lost i); b = s }) mid now) w.next a)
      (λ m n l k z o. elim (cases_lt m i) [
        | inl u ↦ inl u
        | inr u ↦ elim (cases_lt n j) [
          | inl v ↦ inr (inl v)
          | inr v ↦ let f : n ≡ j = elim z [ inl b ↦ omega arith | inr b ↦ omega arith ] in
              elim (cases_eq m i) [
                | inl e ↦ inr (inr (e, f))
                | inr e ↦ let s = up.ascending i m no_run (omega arith) l in
                    let q = subst (λ x. Overlap (run lost m) (run fresh x)) f o in let q0 = q.0 in absurd (omega arith)
              ]
        ]
      ]);
}

-- nothing is left of one of the lists
pub upon_all : (numbers : List ℕ) (first : ℕ) (lost fresh : List Run) (i j second : ℕ) (old now : List Pair)
    → IsUponUpto numbers first lost fresh i j second old now → (length lost ≤ i) ⊎ (length fresh ≤ j)
    → AreUpon numbers first lost fresh (length lost) (length fresh) old now
upon_all numbers first lost fresh i j second old now w e = record {
  kept = w.done.kept;
  all = λ p h. let a = h.below in let b = h.above in w.done.all p (record {
    a = h.a;
    b = h.b;
    below = h.below;
    above = h.above;
    overlap = h.overlap;
    is = h.is;
    behind = elim e [ inl u ↦ inl (omega arith) | inr u ↦ inr (omega arith) ];
  });
  only = λ p c. elim (w.done.only p c) [
    | inl o ↦ inl o
    | inr o ↦
        inr (record {
          a = o.a;
          b = o.b;
          below = o.below;
          above = o.above;
          behind = inl o.below;
          overlap = o.overlap;
          is = o.is;
        })
  ];
  once = w.done.once;
}
