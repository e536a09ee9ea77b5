-- Numbers of classes, one more at a time.
use Rattle.std.proofs.Common.{◌≡◌, ℕ, ◌+◌, ◌<◌, inl, inr, List, [], ◌∷◌, ◌++◌, length, get_or, refl, sym}
use Rattle.std.proofs.Common.{◌∙◌, ap, subst, arith}
use Rattle.std.specs.Prelude.{Contains}
use Rattle.std.proofs.lemmas.Bool.{cases_eq}
use Rattle.std.proofs.lemmas.List.{get_or_push, get_or_append_left, length-append}
use Rattle.std.proofs.lemmas.List.Quantifiers.{all_pairs_push}
use Rattle.std.proofs.lemmas.List.Elements.{All-push, All-weaker, Contains-append_left, Contains-push}
use Rattle.piece_classes.specs.Numbers.{AreRoots, AreNumbers}

pub record IsNumbered (Is : ℕ → Type 0) (least : List ℕ) (place : ℕ) (roots numbers : List ℕ) : Type 0 where
  pub are_roots : AreRoots Is least place roots
  pub are_numbers : AreNumbers Is least place roots numbers

pub numbered_none : (Is : ℕ → Type 0) (least : List ℕ) → IsNumbered Is least 0 [] []
numbered_none Is least = record {
  are_roots =
      record {
        ascending = λ i j d l h. absurd (omega arith);
        each = λ k d l. absurd (omega arith);
        all = λ k l i e. absurd (omega arith);
      };
  are_numbers = record { as_many = refl; each = λ k l i. absurd (omega arith) };
}

module _ (Is : ℕ → Type 0) (least : List ℕ) (k : ℕ) (roots numbers : List ℕ)
    (h : IsNumbered Is least k roots numbers) where
  wider : (x : ℕ) → (x < k) × Is x × (get_or least x 0 ≡ x) → (x < k + 1) × Is x × (get_or least x 0 ≡ x)
  wider x w = (omega (arith, w.0), w.1, w.2)

  roots_kept : (Is k → get_or least k 0 ≡ k → ⊥) → AreRoots Is least (k + 1) roots
  roots_kept n = record {
    ascending = h.are_roots.ascending;
    each = All-weaker (λ x. (x < k) × Is x × (get_or least x 0 ≡ x))
        (λ x. (x < k + 1) × Is x × (get_or least x 0 ≡ x)) wider roots h.are_roots.each;
    all = λ j l i e. elim (cases_eq j k) [
      | inl f ↦ absurd (n (subst Is f i) (subst (λ x. get_or least x 0 ≡ x) f e))
      | inr f ↦ h.are_roots.all j (omega arith) i e
    ];
  }

  numbers_pushed : (roots' : List ℕ) (n : ℕ)
      → ((j : ℕ) → j < length roots → (j < length roots') × (get_or roots' j 0 ≡ get_or roots j 0))
      → (Is k → (n < length roots') × (get_or roots' n 0 ≡ get_or least k 0))
      → AreNumbers Is least (k + 1) roots' (numbers ++ n ∷ [])
  numbers_pushed roots' n same last =
      let many = h.are_numbers.as_many in
      record {
        as_many = omega (arith, length-append numbers (n ∷ []));
        each = λ j l i. elim (cases_eq j k) [
          | inl f ↦
              let e : get_or (numbers ++ n ∷ []) j 0 ≡ n = get_or_push numbers n 0 j (many ∙ sym f) in
              let w = last (subst Is f i) in (
                subst (λ x. x < length roots') (sym e) w.0,
                ap (λ x. get_or roots' x 0) e ∙ w.1
                    ∙ ap (λ x. get_or least x 0) (sym f),
              )
          | inr f ↦
              let e : get_or (numbers ++ n ∷ []) j 0 ≡ get_or numbers j 0 =
              get_or_append_left numbers (n ∷ []) 0 j (omega arith) in
              let w = h.are_numbers.each j (omega arith) i in
              let s = same (get_or numbers j 0) w.0 in
              (subst (λ x. x < length roots') (sym e) s.0, ap (λ x. get_or roots' x 0) e ∙ s.1 ∙ w.1)
        ];
      }

  -- a thing that isn't one of these
  pub numbered_other : (n : ℕ) → (Is k → ⊥) → IsNumbered Is least (k + 1) roots (numbers ++ n ∷ [])
  numbered_other n other = record {
    are_roots = roots_kept (λ i e. other i);
    are_numbers = numbers_pushed roots n (λ j l. (l, refl)) (λ i. absurd (other i));
  }

  -- the least of its class
  pub numbered_root : (r n : ℕ) → Is k → get_or least k 0 ≡ k → r ≡ k → n ≡ length roots
      → IsNumbered Is least (k + 1) (roots ++ r ∷ []) (numbers ++ n ∷ [])
  numbered_root r n i e er en =
      let many = length-append roots (r ∷ []) in
      record {
        are_roots = record {
          ascending =
              all_pairs_push ◌<◌ roots r h.are_roots.ascending
              (λ j d l. let w = h.are_roots.each j d l in omega (arith, w.0));
          each = All-push (λ x. (x < k + 1) × Is x × (get_or least x 0 ≡ x)) roots r
              (All-weaker (λ x. (x < k) × Is x × (get_or least x 0 ≡ x))
              (λ x. (x < k + 1) × Is x × (get_or least x 0 ≡ x)) wider roots h.are_roots.each)
              (omega arith, subst Is (sym er) i, subst (λ x. get_or least x 0 ≡ x) (sym er) e);
          all = λ j l ij ej. elim (cases_eq j k) [
            | inl f ↦ subst (Contains (roots ++ r ∷ [])) (er ∙ sym f) (Contains-push roots r)
            | inr f ↦ Contains-append_left roots (r ∷ []) j (h.are_roots.all j (omega arith) ij ej)
          ];
        };
        are_numbers = numbers_pushed (roots ++ r ∷ []) n (λ j l. (omega arith, get_or_append_left roots (r ∷ []) 0 j l))
            (λ _. (omega arith, get_or_push roots r 0 n (sym en) ∙ er ∙ sym e));
      }

  -- a thing of a class that has a number
  pub numbered_same : (n : ℕ) → (Is k → Is (get_or least k 0)) → get_or least k 0 < k
      → get_or least (get_or least k 0) 0 ≡ get_or least k 0 → n ≡ get_or numbers (get_or least k 0) 0
      → IsNumbered Is least (k + 1) roots (numbers ++ n ∷ [])
  numbered_same n stay l still en = record {
    are_roots = roots_kept (λ i e. absurd (omega arith));
    are_numbers = numbers_pushed roots n (λ j u. (u, refl)) (λ i.
        let w = h.are_numbers.each (get_or least k 0) l (stay i) in
        (subst (λ x. x < length roots) (sym en) w.0, ap (λ x. get_or roots x 0) en ∙ w.1 ∙ still));
  }
