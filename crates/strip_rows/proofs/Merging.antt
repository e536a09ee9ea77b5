-- A merge finds the runs that another list lacks.
use Rattle.std.proofs.Common.{◌≡◌, ℕ, ◌<◌, ◌≤◌, ◌+◌, inl, inr, List, [], ◌∷◌, length, get_or, arith, ap, subst, ◌∙◌}
use Rattle.std.proofs.Common.{◌⊎◌}
use Rattle.std.specs.Prelude.{Contains}
use Rattle.std.proofs.lemmas.Bool.{cases_eq, cases_order}
use Rattle.std.proofs.lemmas.List.{get_or_default}
use Rattle.std.proofs.lemmas.List.Elements.{All-push, Contains-append_left, Contains-push, Contains-push_cases}
use Rattle.std.proofs.lemmas.List.Elements.{Contains-get_or}
use Rattle.std.proofs.lemmas.List.Quantifiers.{all_pairs_push}
use Rattle.mask_runs.specs.declared.run.Run.{Run}
use Rattle.strip_rows.specs.Missing.{no_run, run, AreApart, LieBehind, IsAhead, IsAddedIfMissing, AreMissing}

pub record IsSought (runs : List Run) (place left : ℕ) : Type 0 where
  pub within : place ≤ length runs
  pub behind : LieBehind runs place left

pub sought_more : (runs : List Run) (place left : ℕ) → IsSought runs place left → place < length runs
    → (run runs place).left < left → IsSought runs (place + 1) left
sought_more runs place left s h k = record {
  within = omega arith;
  behind = record { each = λ i l. elim (cases_eq i place) [ inl e ↦ rw e k | inr n ↦ s.behind.each i (omega arith) ] };
}

-- runs that lie apart begin further and further right
pub further : (runs : List Run) (j k : ℕ) → AreApart runs → j < k → k < length runs
    → (run runs j).left < (run runs k).left
further runs j k a l m = let u = a.ascending j k no_run l m in let w = a.wide j no_run (omega arith) in omega arith

-- only the place itself can have the run
pub not_in : (runs : List Run) (place : ℕ) (r : Run) → AreApart runs → LieBehind runs place r.left
    → IsAhead runs place r.left
    → (place < length runs → run runs place ≡ r → ⊥) → Contains runs r → ⊥
not_in runs place r up b a n i =
    let m = i.1 in
    let f : run runs i.0 ≡ r = get_or_default runs i.0 no_run r m ∙ i.2 in
    let e : (run runs i.0).left ≡ r.left = ap (λ (q : Run). q.left) f in
    elim (cases_order i.0 place) [
      | inl g ↦ n (omega arith) (subst (λ q. run runs q ≡ r) g f)
      | inr k ↦ elim k [
        | inl h ↦ let u = b.each i.0 h in absurd (omega arith)
        | inr h ↦ let u = further runs place i.0 up h m in let v = a.here (omega arith) in absurd (omega arith)
      ]
    ]

-- of the first n runs exactly those are in the list that the others lack
pub record IsMissingUpto (runs among : List Run) (n place : ℕ) (out : List Run) : Type 0 where
  pub within : place ≤ length among
  pub behind : (m : ℕ) → n ≤ m → m < length runs → LieBehind among place (run runs m).left
  pub each : (r : Run) → Contains out r → (m : ℕ) × (m < n) × (run runs m ≡ r) × (¬ Contains among r)
  pub all : (m : ℕ) → m < n → Contains among (run runs m) ⊎ Contains out (run runs m)
  pub apart : AreApart out

pub missing_more : (runs among : List Run) (n place i : ℕ) (out now : List Run) → AreApart runs → n < length runs
    → IsMissingUpto runs among n place out → i ≤ length among → LieBehind among i (run runs n).left
    → IsAddedIfMissing among (run runs n) out now → IsMissingUpto runs among (n + 1) i now
missing_more runs among n place i out now up inside w l b a = record {
  within = l;
  behind =
      λ m h k.
      record { each = λ q g. let u = b.each q g in let v = further runs n m up (omega arith) k in omega arith };
  each = elim a.by [
    | inl z ↦ λ r c. let k = w.each r (subst (λ q. Contains q r) z.1 c) in let h = k.1 in (k.0, omega arith, k.2, k.3)
    | inr z ↦ λ r c. elim (Contains-push_cases out (run runs n) r (subst (λ q. Contains q r) z.1 c)) [
      | inl d ↦ let k = w.each r d in let h = k.1 in (k.0, omega arith, k.2, k.3)
      | inr e ↦ (n, omega arith, e, subst (λ q. ¬ Contains among q) e z.0)
    ]
  ];
  all = λ m h. elim (cases_eq m n) [
    | inl f ↦ elim a.by [
      | inl z ↦ inl (rw f z.0)
      | inr z ↦ inr (rw (f, z.1) (Contains-push out (run runs n)))
    ]
    | inr f ↦ elim (w.all m (omega arith)) [
      | inl k ↦ inl k
      | inr k ↦ elim a.by [
        | inl z ↦ inr (rw z.1 k)
        | inr z ↦ inr (rw z.1 (Contains-append_left out (run runs n ∷ []) (run runs m) k))
      ]
    ]
  ];
  apart = elim a.by [
    | inl z ↦ rw z.1 w.apart
    | inr z ↦ rw z.1 (record {
      wide = All-push (λ r. r.left < r.right) out (run runs n) w.apart.wide (up.wide n no_run inside);
      ascending = all_pairs_push (λ p q. p.right ≤ q.left) out (run runs n) w.apart.ascending (λ k d h.
          let t = w.each (get_or out k d) (Contains-get_or out k d h) in
          let u = up.ascending t.0 n no_run t.1 inside in
          subst (λ (q : Run). q.right ≤ (run runs n).left) t.2 u);
    })
  ];
}

pub missing_none : (runs among : List Run) (out : List Run) → out ≡ [] → IsMissingUpto runs among 0 0 out
missing_none runs among out e = record {
  within = omega arith;
  behind = λ m h k. record { each = λ q g. absurd (omega arith) };
  each = λ r c. let d = subst (λ q. Contains q r) e c in let u = d.1 in absurd (omega arith);
  all = λ m h. absurd (omega arith);
  apart = rw e (record { wide = λ k d h. absurd (omega arith); ascending = λ i j d h g. absurd (omega arith) });
}

pub missing_all : (runs among : List Run) (place : ℕ) (out : List Run)
    → IsMissingUpto runs among (length runs) place out → AreMissing runs among out
missing_all runs among place out w = record {
  each = λ r c. let k = w.each r c in (subst (Contains runs) k.2 (Contains-get_or runs k.0 no_run k.1), k.3);
  all = λ r c. let e : run runs c.0 ≡ r = get_or_default runs c.0 no_run r c.1 ∙ c.2 in
      subst (λ q. Contains among q ⊎ Contains out q) e (w.all c.0 c.1);
  apart = w.apart;
}
