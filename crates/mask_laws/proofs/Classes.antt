-- Finitely many things that are joined have classes, by their least elements.
use Rattle.std.proofs.Common.{◌≡◌, ◌⊎◌, inl, inr, refl, sym, subst, ◌∙◌, List, [], ◌∷◌}
use Rattle.mp_base.proofs.Decisions.{Decided, both_of, one_of, not_so, same_claim}
use Rattle.mp_base.proofs.Members.{Member, member_contains, member_at, contains_member}
use Rattle.lam_geom.specs.Chains.{Chain}
use Rattle.lam_geom.specs.Chains.Chain.{here, link}
use Rattle.lam_geom.proofs.Chains.{join_chains, turn_chain}
use Rattle.switch_net.specs.Classes.{AreClasses}
use Rattle.mask_laws.proofs.Decided.{some_member}
use Rattle.mask_laws.proofs.Ordered.{Rises, rising_pairs, keep, keep_in, keep_has, keep_rises}

module _ {S : Type 0} (J : S → S → Type 0) (flip : (a b : S) → J a b → J b a) where
  -- s touches x, where N says what is joined among xs
  abbrev Touch : (S → S → Type 0) → List S → S → S → Type 0
  Touch N xs x s = N s x ⊎ ((a : S) × Member xs a × N s a × J a x)

  -- joined among these
  abbrev Near : List S → S → S → Type 0
  Near [] s t = s ≡ t
  Near (x ∷ xs) s t = Near xs s t ⊎ (Touch (Near xs) xs x s × Touch (Near xs) xs x t)

  near_self : (xs : List S) (s : S) → Near xs s s
  near_self [] s = refl
  near_self (x ∷ xs) s = inl (near_self xs s)

  near_turn : (xs : List S) (s t : S) → Near xs s t → Near xs t s
  near_turn [] s t e = sym e
  near_turn (x ∷ xs) s t (inl n) = inl (near_turn xs s t n)
  near_turn (x ∷ xs) s t (inr h) = inr (h.1, h.0)

  near_then : (xs : List S) (s t u : S) → Near xs s t → Near xs t u → Near xs s u
  near_then [] s t u e f = e ∙ f
  near_then (x ∷ xs) s t u (inl a) (inl b) = inl (near_then xs s t u a b)
  near_then (x ∷ xs) s t u (inl a) (inr b) = inr (moved (λ v n. near_then xs s t v a n) b.0, b.1)
    where
      moved : ((v : S) → Near xs t v → Near xs s v) → Touch (Near xs) xs x t → Touch (Near xs) xs x s
      moved again (inl n) = inl (again x n)
      moved again (inr (y, m, n, j)) = inr (y, m, again y n, j)
  near_then (x ∷ xs) s t u (inr a) (inl b) = inr (a.0, moved (λ v n. near_then xs u t v (near_turn xs t u b) n) a.1)
    where
      moved : ((v : S) → Near xs t v → Near xs u v) → Touch (Near xs) xs x t → Touch (Near xs) xs x u
      moved again (inl n) = inl (again x n)
      moved again (inr (y, m, n, j)) = inr (y, m, again y n, j)
  near_then (x ∷ xs) s t u (inr a) (inr b) = inr (a.0, b.1)

  near_join : (xs : List S) (s t : S) → Member xs s → Member xs t → J s t → Near xs s t
  near_join [] s t m n j = absurd m
  near_join (x ∷ xs) s t (inl e) (inl f) j = subst (λ y. Near (x ∷ xs) s y) (sym e ∙ f) (near_self (x ∷ xs) s)
  near_join (x ∷ xs) s t (inl e) (inr n) j =
      inr (
        inl (subst (λ y. Near xs y x) e (near_self xs x)),
        inr (t, n, near_self xs t, flip x t (subst (λ y. J y t) (sym e) j)),
      )
  near_join (x ∷ xs) s t (inr m) (inl f) j =
      inr (inr (s, m, near_self xs s, subst (λ y. J s y) (sym f) j), inl (subst (λ y. Near xs y x) f (near_self xs x)))
  near_join (x ∷ xs) s t (inr m) (inr n) j = inl (near_join xs s t m n j)

  near_chain : (xs : List S) (s t : S) → Near xs s t → Chain J s t
  near_chain [] s t e = subst (λ y. Chain J s y) e here
  near_chain (x ∷ xs) s t (inl n) = near_chain xs s t n
  near_chain (x ∷ xs) s t (inr h) =
      join_chains (to s (near_chain xs s) h.0) (turn_chain flip (to t (near_chain xs t) h.1))
    where
      to : (u : S) → ((v : S) → Near xs u v → Chain J u v) → Touch (Near xs) xs x u → Chain J u x
      to u again (inl n) = again x n
      to u again (inr (y, m, n, j)) = join_chains (again y n) (link j here)

  module _ (all : List S) (inside : (a b : S) → J a b → Member all a × Member all b)
      (same : (a b : S) → Decided (a ≡ b))
      (joined : (a b : S) → Decided (J a b)) where
    chain_near : (s t : S) → Chain J s t → Near all s t
    chain_near s t here = near_self all s
    chain_near s t (link {t = u} j c) =
        let m = inside s u j in near_then all s u t (near_join all s u m.0 m.1 j) (chain_near u t c)

    near_told : (xs : List S) (s t : S) → Decided (Near xs s t)
    near_told [] s t = same s t
    near_told (x ∷ xs) s t =
        one_of (near_told xs s t)
        (both_of (touches_by (λ a b. near_told xs a b) s) (touches_by (λ a b. near_told xs a b) t))
      where
        touches_by : ((a b : S) → Decided (Near xs a b)) → (u : S) → Decided (Touch (Near xs) xs x u)
        touches_by again u =
            one_of (again u x)
            (same_claim (some_member (λ a. Near xs u a × J a x) (λ a. both_of (again u a) (joined a x)) xs)
            (λ (a, m, (near, join)). (a, m, near, join))
            (λ (a, m, near, join). (a, m, (near, join))))

    -- whether a chain of joins leads from one to another
    pub chain_told : (s t : S) → Decided (Chain J s t)
    chain_told s t = same_claim (near_told all s t) (near_chain all s t) (chain_near s t)

module _ {S : Type 0} (Is : S → Type 0) (J B : S → S → Type 0) (flip : (a b : S) → J a b → J b a) (of : (a b : S)
    → J a b → Is a × Is b)
    (same : (a b : S) → Decided (a ≡ b)) (joined : (a b : S) → Decided (J a b)) (asymmetric : (a b : S) → B a b
    → B b a → ⊥) where
  -- the least of those listed
  pub record Picked (xs least : List S) : Type 0 where
    pub within : (r : S) → Member least r → Member xs r
    pub rises : Rises B least
    pub first : (r s : S) → Member least r → Member xs s → Chain J r s → B s r → ⊥
    pub all : (s : S) → Member xs s → (r : S) × Member least r × Chain J r s

  module _ (told : (s t : S) → Decided (Chain J s t)) where
    picked : (xs : List S) → Rises B xs → (least : List S) × Picked xs least
    picked [] h = ([], record { within = λ r m. m; rises = tt; first = λ r s m n c b. m; all = λ s m. absurd m })
    picked (x ∷ xs) h =
        let p = picked xs h.1 in
        let Free : S → Type 0 = λ r. Chain J x r → ⊥ in
        let free : (r : S) → Decided (Free r) = λ r. not_so (told x r) in
        let least : List S = keep B Free free p.0 in
        let in_least : (r : S) → Member least r → Member p.0 r × Free r = keep_in B Free free p.0 in (
          x ∷ least,
          record {
            within = λ r m. elim m [ inl e ↦ inl e | inr k ↦ inr (p.1.within r (in_least r k).0) ];
            rises = ((λ y m. h.0 y (p.1.within y (in_least y m).0)), keep_rises B Free free p.0 p.1.rises);
            first = λ r s m n c b. elim m [
              | inl e ↦ elim n [
                | inl f ↦ (let q : B x x = subst (λ y. B y x) (sym f) (subst (λ y. B s y) (sym e) b) in
                    asymmetric x x q q)
                | inr k ↦ asymmetric x s (h.0 s k) (subst (λ y. B s y) (sym e) b)
              ]
              | inr k ↦ elim n [
                | inl f ↦ (in_least r k).1 (subst (λ y. Chain J y r) (sym f) (turn_chain flip c))
                | inr l ↦ p.1.first r s (in_least r k).0 l c b
              ]
            ];
            all = λ s n. elim n [
              | inl f ↦ (x, inl refl, subst (λ y. Chain J x y) f here)
              | inr l ↦ (let w = p.1.all s l in elim (told x w.0) [
                | inl c ↦ (x, inl refl, join_chains c w.2)
                | inr apart ↦ (w.0, inr (keep_has B Free free p.0 w.0 w.1 apart), w.2)
              ])
            ];
          },
        )

  pub classes_exist : (xs : List S) → Rises B xs → ((s : S) → Member xs s → Is s) → ((s : S) → Is s → Member xs s)
      → (least : List S) × AreClasses Is J B least
  classes_exist xs rises are every =
      let told = chain_told J flip xs (λ a b j. let h = of a b j in (every a h.0, every b h.1)) same joined in
      let p = picked told xs rises in (
        p.0,
        record {
          ascending = rising_pairs B p.0 p.1.rises;
          each = λ i d lt. are _ (p.1.within _ (member_at p.0 i d lt));
          first = λ r s c is chain b. p.1.first r s (contains_member p.0 r c) (every s is) chain b;
          all = λ s is. let w = p.1.all s (every s is) in (w.0, member_contains p.0 w.0 w.1, w.2);
        },
      )
