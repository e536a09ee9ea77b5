-- Classes numbered one after another.
use Rattle.std.proofs.Common.{ℕ, ◌≡◌, ◌+◌, ◌<◌, ◌≤◌, ◌⊎◌, inl, inr, sym, ◌∙◌, ap, subst, arith, List}
use Rattle.std.proofs.Common.{[], ◌∷◌, ◌++◌, length, get_or}
use Rattle.std.specs.Prelude.{◌↔◌}
use Rattle.std.proofs.lemmas.Bool.{cases_lt}
use Rattle.std.proofs.lemmas.List.{get_or_append_left, length_push}
use Rattle.mp_base.proofs.Entries.{get_or_pushed}
use Rattle.fabric.specs.Numbers.{AreClassNumbers}

-- the numbers of the first i
pub record ClassesSoFar (least numbers : List ℕ) (count i : ℕ) : Type 0 where
  pub as_many : length numbers ≡ i
  pub few : count ≤ i
  pub below : (k : ℕ) → k < i → get_or numbers k 0 < count
  pub onto : (j : ℕ) → j < count → (k : ℕ) × (k < i) × (get_or numbers k 0 ≡ j) × (get_or least k 0 ≡ k)
  pub same : (a b : ℕ) → a < i → b < i → (get_or numbers a 0 ≡ get_or numbers b 0)
      ↔ (get_or least a 0 ≡ get_or least b 0)

push_before : (xs : List ℕ) (x k : ℕ) → k < length xs → get_or (xs ++ x ∷ []) k 0 ≡ get_or xs k 0
push_before xs x k h = get_or_append_left xs (x ∷ []) 0 k h

two_ways : {A B : Type 0} → (A → B) → (B → A) → A ↔ B
two_ways f g = (f, g)

module _ (least numbers : List ℕ) (count i x count2 : ℕ) (s : ClassesSoFar least numbers count i) where
  old : (k : ℕ) → k < i → get_or (numbers ++ x ∷ []) k 0 ≡ get_or numbers k 0
  old k h = push_before numbers x k (subst (λ z. k < z) (sym s.as_many) h)

  new : get_or (numbers ++ x ∷ []) i 0 ≡ x
  new = get_or_pushed numbers x i (sym s.as_many)

  -- one number more, where it is told which of those before it is equal to
  more : count ≤ count2 → count2 ≤ count + 1 → x < count2
      → ((j : ℕ) → j < count2 → (j < count) ⊎ (j ≡ x) × (get_or least i 0 ≡ i))
      → ((a : ℕ) → a < i → (get_or numbers a 0 ≡ x) ↔ (get_or least a 0 ≡ get_or least i 0))
      → ClassesSoFar least (numbers ++ x ∷ []) count2 (i + 1)
  more h0 h1 h2 onto_ like = record {
    as_many = length_push numbers x ∙ ap (λ z. z + 1) s.as_many;
    few = let f = s.few in omega arith;
    below = λ k h. elim (cases_lt k i) [
      | inl l ↦ (let b = s.below k l in let o = old k l in omega arith)
      | inr l ↦ (let e : k ≡ i = omega arith in subst (λ z. get_or (numbers ++ x ∷ []) z 0 < count2) (sym e)
          (let n = new in omega arith))
    ];
    onto = λ j h. elim (onto_ j h) [
      | inl l ↦ (let b = s.onto j l in let b1 = b.1 in (b.0, omega arith, old b.0 b.1 ∙ b.2, b.3))
      | inr e ↦ (i, omega arith, new ∙ sym e.0, e.1)
    ];
    same = λ a b ha hb. elim (cases_lt a i) [
      | inl la ↦ elim (cases_lt b i) [
        | inl lb ↦ (let q = s.same a b la lb in two_ways (λ e. q.0 (sym (old a la) ∙ e ∙ old b lb))
            (λ e. old a la ∙ q.1 e ∙ sym (old b lb)))
        | inr lb ↦ (let eb : b ≡ i = omega arith in let q = like a la in
            two_ways (λ e. q.0 (sym (old a la) ∙ e ∙ ap (λ z. get_or (numbers ++ x ∷ []) z 0) eb ∙ new)
            ∙ ap (λ z. get_or least z 0) (sym eb))
            (λ e. old a la ∙ q.1 (e ∙ ap (λ z. get_or least z 0) eb) ∙ sym new
            ∙ ap (λ z. get_or (numbers ++ x ∷ []) z 0) (sym eb)))
      ]
      | inr la ↦ (let ea : a ≡ i = omega arith in elim (cases_lt b i) [
        | inl lb ↦ (let q = like b lb in
            two_ways (λ e. ap (λ z. get_or least z 0) ea ∙ sym
            (q.0 (sym (old b lb) ∙ sym e ∙ ap (λ z. get_or (numbers ++ x ∷ []) z 0) ea ∙ new)))
            (λ e. ap (λ z. get_or (numbers ++ x ∷ []) z 0) ea ∙ new ∙ sym (q.1 (sym e ∙ ap (λ z. get_or least z 0) ea))
            ∙ sym (old b lb)))
        | inr lb ↦ (let eb : b ≡ i = omega arith in
            two_ways (λ e. ap (λ z. get_or least z 0) (ea ∙ sym eb))
            (λ e. ap (λ z. get_or (numbers ++ x ∷ []) z 0) (ea ∙ sym eb)))
      ])
    ];
  }

-- a class begins
pub begins : (least numbers : List ℕ) (count i : ℕ) → ClassesSoFar least numbers count i → i < length least
    → ((k : ℕ) → k < length least → get_or least k 0 ≤ k) → get_or least i 0 ≡ i
    → (pushed : List ℕ) → pushed ≡ numbers ++ count ∷ [] → ClassesSoFar least pushed (count + 1) (i + 1)
begins least numbers count i s h below e pushed q =
    subst (λ z. ClassesSoFar least z (count + 1) (i + 1)) (sym q)
    (more least numbers count i count (count + 1) s (omega arith) (omega arith) (omega arith)
    (λ j l. elim (cases_lt j count) [ inl m ↦ inl m | inr m ↦ inr (omega arith, e) ])
    (λ a l. two_ways (λ g. let b = s.below a l in absurd (omega arith))
    (λ g. let b = below a (omega arith) in absurd (omega arith))))

-- a thing is of a class that has begun
pub goes_on : (least numbers : List ℕ) (count i : ℕ) → ClassesSoFar least numbers count i → get_or least i 0 < i
    → get_or least (get_or least i 0) 0 ≡ get_or least i 0
    → (pushed : List ℕ) → pushed ≡ numbers ++ get_or numbers (get_or least i 0) 0 ∷ []
    → ClassesSoFar least pushed count (i + 1)
goes_on least numbers count i s h e pushed q =
    subst (λ z. ClassesSoFar least z count (i + 1)) (sym q)
    (more least numbers count i (get_or numbers (get_or least i 0) 0) count s (omega arith) (omega arith)
    (s.below (get_or least i 0) h)
    (λ j l. inl l)
    (λ a l. let k = s.same a (get_or least i 0) l h in two_ways (λ g. k.0 g ∙ e) (λ g. k.1 (g ∙ sym e))))

pub all_numbered : (least numbers : List ℕ) (count i : ℕ) → ClassesSoFar least numbers count i → i ≡ length least
    → AreClassNumbers least numbers count
all_numbered least numbers count i s e = record {
  as_many = s.as_many ∙ e;
  below = λ k h. s.below k (subst (λ z. k < z) (sym e) h);
  onto = λ j h. (let o = s.onto j h in (o.0, subst (λ z. o.0 < z) e o.1, o.2));
  same = λ a b ha hb. s.same a b (subst (λ z. a < z) (sym e) ha) (subst (λ z. b < z) (sym e) hb);
}
