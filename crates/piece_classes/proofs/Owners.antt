-- Classes of things that are owned, from the classes of the owners' numbers.
use Rattle.std.proofs.Common.{◌≡◌, ℕ, ◌<◌, ◌≤◌, ◌⊎◌, inl, inr, List, length, map, get_or, sym, ◌∙◌, ap, subst}
use Rattle.std.proofs.Common.{subst₂, arith}
use Rattle.std.specs.Prelude.{AllPairs, Contains}
use Rattle.std.proofs.lemmas.List.{get_or_default, get_or-map, length-map}
use Rattle.std.proofs.lemmas.Bool.{cases_eq, cases_lt}
use Rattle.lam_geom.specs.Chains.{Chain}
use Rattle.lam_geom.specs.Chains.Chain.{here, link}
use Rattle.lam_geom.proofs.Chains.{join_chains, turn_chain}
use Rattle.switch_net.specs.Classes.{AreClasses, IsInClass}
use Rattle.union_find.specs.declared.pair.Pair.{Pair}
use Rattle.union_find.specs.Leasts.{Paired, AreLeasts}
use Rattle.union_find.proofs.Chains.{turn_pair}
use Rattle.piece_classes.specs.Numbers.{AreRoots, AreNumbers}

-- Numbers own the things, what pairs join own joined things, and joined things have owners that pairs join. The first
-- thing of an owner stands before all that it and the owners of higher numbers own.
pub record AreOwners {S : Type 0} (Is : S → Type 0) (J B : S → S → Type 0) (Has : ℕ → S → Type 0) (first : ℕ → S)
    (count : ℕ) (pairs : List Pair) : Type 0 where
  pub owner : (s : S) → Is s → (k : ℕ) × Has k s
  pub is : (k : ℕ) (s : S) → Has k s → Is s
  pub below : (k : ℕ) (s : S) → Has k s → k < count
  pub has_first : (k : ℕ) (s : S) → Has k s → Has k (first k)
  pub order : (i j : ℕ) (s : S) → i ≤ j → Has i (first i) → Has j s → ¬ B s (first i)
  pub strict : (i j : ℕ) → i < j → Has i (first i) → Has j (first j) → B (first i) (first j) ⊎ (first i ≡ first j)
  pub to : (s t : S) → J s t → Is t
  pub step : (s t : S) (i j : ℕ) → J s t → Has i s → Has j t → Chain (Paired pairs) i j
  pub shared : (s : S) (i j : ℕ) → Has i s → Has j s → Chain (Paired pairs) i j
  pub back : (i j : ℕ) (s : S) → Paired pairs i j → Has i s → (t : S) × Has j t × Chain J s t
  pub one : (k : ℕ) (s t : S) → Has k s → Has k t → Chain J s t

module _ {S : Type 0} {Is : S → Type 0} {J B : S → S → Type 0} {Has : ℕ → S → Type 0} {first : ℕ
    → S} {count : ℕ} {pairs : List Pair}
    (own : AreOwners Is J B Has first count pairs) where
  pub forward : {s t : S} → Chain J s t → (i j : ℕ) → Has i s → Has j t → Chain (Paired pairs) i j
  forward (here {s = s}) i j h k = own.shared s i j h k
  forward (link {s = s} {t = t} e c) i j h k =
      let o = own.owner t (own.to s t e) in
      join_chains (own.step s t i o.0 e h o.1) (forward c o.0 j o.1 k)

  pub backward : {i j : ℕ} → Chain (Paired pairs) i j → (s : S) → Has i s → (t : S) × Has j t × Chain J s t
  backward here s h = (s, h, here)
  backward (link {s = i} {t = j} e c) s h =
      let a = own.back i j s e h in
      let b = backward c a.0 a.1 in
      (b.0, b.1, join_chains a.2 b.2)

  pub joined : {i j : ℕ} → Chain (Paired pairs) i j → (s t : S) → Has i s → Has j t → Chain J s t
  joined {j = j} c s t h k = let a = backward c s h in join_chains a.2 (own.one j a.0 t a.1 k)

  pub turned : {i j : ℕ} → Chain (Paired pairs) i j → Chain (Paired pairs) j i
  turned c = turn_chain (turn_pair pairs) c

  module _ (least roots : List ℕ) (leasts : AreLeasts count pairs least)
      (are : AreRoots (λ k. Has k (first k)) least count roots) where
    -- the least of an owner's class is a root
    pub rooted : (k : ℕ) (s : S) → Has k s
        → Has (get_or least k 0) (first (get_or least k 0)) × Contains roots (get_or least k 0)
    rooted k s h =
        let l : k < count = own.below k s h in
        let c : Chain (Paired pairs) k (get_or least k 0) = leasts.home k l in
        let a = backward c s h in
        let r : Has (get_or least k 0) (first (get_or least k 0)) = own.has_first (get_or least k 0) a.0 a.1 in
        let e : get_or least (get_or least k 0) 0 ≡ get_or least k 0 = sym (leasts.one k (get_or least k 0) c) in
        let n = leasts.as_many in
        let b = leasts.below k l in
        (r, are.all (get_or least k 0) (omega arith) r e)

    root_at : (k d : ℕ) → k < length roots
        → (get_or roots k d < count) × Has (get_or roots k d) (first (get_or roots k d))
        × (get_or least (get_or roots k d) 0 ≡ get_or roots k d)
    root_at k d l = are.each k d l

    first_at : (k : ℕ) (d : S) → k < length roots → get_or (map first roots) k d ≡ first (get_or roots k 0)
    first_at k d l = get_or-map first roots k 0 d l

    ascending : AllPairs B (map first roots)
    ascending i j d l h =
        let n = length-map roots first in
        let hj : j < length roots = omega arith in
        let hi : i < length roots = omega arith in
        let p : ℕ = get_or roots i 0 in
        let q : ℕ = get_or roots j 0 in
        let rp = root_at i 0 hi in
        let rq = root_at j 0 hj in
        let lt : p < q = are.ascending i j 0 l hj in
        let b : B (first p) (first q) = elim (own.strict p q lt rp.1 rq.1) [
          | inl b ↦ b
          | inr e ↦
              let c : Chain (Paired pairs) p q = own.shared (first p) p q rp.1 (subst (Has q) (sym e) rq.1) in
              let same : p ≡ q = sym rp.2 ∙ leasts.one p q c ∙ rq.2 in
              absurd (omega arith)
        ] in
        subst₂ B (sym (first_at i d hi)) (sym (first_at j d hj)) b

    pub classes : AreClasses Is J B (map first roots)
    classes = record {
      ascending = ascending;
      each = λ k d l.
          let n = length-map roots first in
          let h : k < length roots = omega arith in
          let r = root_at k 0 h in
          subst Is (sym (first_at k d h)) (own.is (get_or roots k 0) (first (get_or roots k 0)) r.1);
      first = λ r s m i c b.
          let n = length-map roots first in
          let l = m.1 in
          let h : m.0 < length roots = omega arith in
          let p : ℕ = get_or roots m.0 0 in
          let rp = root_at m.0 0 h in
          let e : first p ≡ r = sym (first_at m.0 r h) ∙ m.2 in
          let o = own.owner s i in
          let k : ℕ = o.0 in
          let w : Chain (Paired pairs) p k = forward c p k (subst (Has p) e rp.1) o.1 in
          let g : get_or least p 0 ≡ get_or least k 0 = leasts.one p k w in
          let le = leasts.below k (own.below k s o.1) in
          let u = rp.2 in
          own.order p k s (omega arith) rp.1 o.1 (subst (λ z. B s z) (sym e) b);
      all = λ s i.
          let o = own.owner s i in
          let k : ℕ = o.0 in
          let r = rooted k s o.1 in
          let p : ℕ = get_or least k 0 in
          let m = r.1 in
          let n = length-map roots first in
          let l = m.1 in
          let at : get_or (map first roots) m.0 (first p) ≡ first p =
          first_at m.0 (first p) m.1 ∙ ap first (get_or_default roots m.0 0 p m.1 ∙ m.2) in
          let c : Chain (Paired pairs) k p = leasts.home k (own.below k s o.1) in
          (first p, (m.0, omega arith, at), joined (turned c) (first p) s r.0 o.1);
    }

    module _ (numbers : List ℕ) (num : AreNumbers (λ k. Has k (first k)) least count roots numbers) where
      -- a thing is in the class with its owner's number
      pub in_class : (k : ℕ) (s : S) → Has k s → IsInClass J (map first roots) (get_or numbers k 0) s
      in_class k s h =
          let l : k < count = own.below k s h in
          let many = leasts.as_many in
          let w = num.each k (omega arith) (own.has_first k s h) in
          let n = length-map roots first in
          let below = w.0 in
          let p : ℕ = get_or least k 0 in
          let e : get_or (map first roots) (get_or numbers k 0) s ≡ first p =
          first_at (get_or numbers k 0) s w.0 ∙ ap first w.1 in
          let c : Chain (Paired pairs) k p = leasts.home k l in
          let r = rooted k s h in
          (omega arith, subst (λ z. Chain J z s) (sym e) (joined (turned c) (first p) s r.0 h))

      -- and in no other
      pub only_class : (m k : ℕ) (s : S) → IsInClass J (map first roots) m s → Has k s → m ≡ get_or numbers k 0
      only_class m k s i h =
          let n = length-map roots first in
          let l = i.0 in
          let hm : m < length roots = omega arith in
          let p : ℕ = get_or roots m 0 in
          let rp = root_at m 0 hm in
          let c : Chain J (first p) s = subst (λ z. Chain J z s) (first_at m s hm) i.1 in
          let w : get_or least p 0 ≡ get_or least k 0 = leasts.one p k (forward c p k rp.1 h) in
          let lk : k < count = own.below k s h in
          let many = leasts.as_many in
          let v = num.each k (omega arith) (own.has_first k s h) in
          let same : p ≡ get_or roots (get_or numbers k 0) 0 = sym rp.2 ∙ w ∙ sym v.1 in
          one_place roots are.ascending m (get_or numbers k 0) hm v.0 same
        where
          one_place : (xs : List ℕ) → AllPairs ◌<◌ xs → (a b : ℕ) → a < length xs → b < length xs
              → get_or xs a 0 ≡ get_or xs b 0 → a ≡ b
          one_place xs up a b ha hb e = elim (cases_eq a b) [
            | inl s ↦ s
            | inr n ↦ elim (cases_lt a b) [
              | inl l ↦ let k = up a b 0 l hb in absurd (omega arith)
              | inr l ↦ let k = up b a 0 (omega arith) ha in absurd (omega arith)
            ]
          ]
