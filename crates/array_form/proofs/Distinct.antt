-- Numbers that stand once in a list, and stamps that tell which were seen, for all crates above.
use Rattle.std.proofs.Common.{[], ℕ, List, ◌++◌, ◌∷◌, ◌≡◌, cond, true, ◌==◌, Bool, false, refl, ◌∙◌, ap}
use Rattle.std.proofs.Common.{inl, inr, sym, not, subst, ◌≤◌, ◌<◌, length, get_or, arith, set, map}
use Rattle.std.proofs.Common.{append_assoc}
use Rattle.std.specs.Prelude.{◌≢◌, All}
use Rattle.std.proofs.lemmas.Bool.{cases_Bool, cases_eq}
use Rattle.std.proofs.lemmas.List.Elements.{filter-append}
use Rattle.std.proofs.lemmas.List.{append-nil, length-set, get_or-set_same, get_or-set_other}
use Rattle.std.proofs.lemmas.List.{map_push}
use Rattle.mp_base.proofs.Tests.{true_false}
use Rattle.array_form.specs.Band.{has, without, distinct}
use Rattle.array_form.proofs.Listing.{same_to, same_from, differs_to}

-- the number is among these and one more
pub has_push : (a : ℕ) (xs : List ℕ) (x : ℕ) → has a (xs ++ x ∷ []) ≡ cond (has a xs) true (x == a)
has_push a [] x = go (x == a)
  where
    go : (t : Bool) → cond t true false ≡ cond false true t
    go true = refl
    go false = refl
has_push a (y ∷ ys) x = go (y == a) (has_push a ys x)
  where
    go : (t : Bool) → has a (ys ++ x ∷ []) ≡ cond (has a ys) true (x == a)
        → cond t true (has a (ys ++ x ∷ [])) ≡ cond (cond t true (has a ys)) true (x == a)
    go true e = refl
    go false e = e

-- an older number stays
pub has_kept : (a : ℕ) (xs : List ℕ) (x : ℕ) → has a xs ≡ true → has a (xs ++ x ∷ []) ≡ true
has_kept a xs x e = has_push a xs x ∙ ap (λ t. cond t true (x == a)) e

pub has_last : (a : ℕ) (xs : List ℕ) (x : ℕ) → x ≡ a → has a (xs ++ x ∷ []) ≡ true
has_last a xs x e = has_push a xs x ∙ (ap (λ t. cond (has a xs) true t) (same_to x a e) ∙ go (has a xs))
  where
    go : (t : Bool) → cond t true true ≡ true
    go true = refl
    go false = refl

-- a number that differs from the last stood before
pub has_before : (a : ℕ) (xs : List ℕ) (x : ℕ) → x ≢ a → has a (xs ++ x ∷ []) ≡ true → has a xs ≡ true
has_before a xs x ne e = elim (cases_Bool (x == a)) [
  | inl q ↦ absurd (ne (same_from x a q))
  | inr q ↦ go (has a xs) (sym (ap (λ t. cond (has a xs) true t) q) ∙ (sym (has_push a xs x) ∙ e))
]
  where
    go : (t : Bool) → cond t true false ≡ true → t ≡ true
    go true h = refl
    go false h = h

pub without_last : (x : ℕ) (ys : List ℕ) (z : ℕ) → z ≢ x → without x (ys ++ z ∷ []) ≡ without x ys ++ z ∷ []
without_last x ys z ne =
    filter-append (λ y. not (y == x)) ys (z ∷ [])
    ∙ ap (λ t. without x ys ++ cond t (z ∷ []) []) (differs_to x z ne)

pub without_same : (x : ℕ) (ys : List ℕ) → without x (ys ++ x ∷ []) ≡ without x ys ++ []
without_same x ys =
    filter-append (λ y. not (y == x)) ys (x ∷ [])
    ∙ ap (λ t. without x ys ++ cond (not t) (x ∷ []) []) (same_to x x refl)

pub distinct_new : (xs : List ℕ) (x : ℕ) → has x xs ≡ false → distinct (xs ++ x ∷ []) ≡ distinct xs ++ x ∷ []
distinct_new [] x e = refl
distinct_new (y ∷ ys) x e = elim (cases_Bool (y == x)) [
  | inl q ↦ absurd (true_false (sym (ap (λ t. cond t true (has x ys)) q) ∙ e))
  | inr q ↦ (
      let h : has x ys ≡ false = sym (ap (λ t. cond t true (has x ys)) q) ∙ e in
      let ne : x ≢ y = λ r. true_false (sym (same_to y x (sym r)) ∙ q) in
      ap (λ l. y ∷ without y l) (distinct_new ys x h) ∙ ap (λ l. y ∷ l) (without_last y (distinct ys) x ne))
]

pub distinct_again : (xs : List ℕ) (x : ℕ) → has x xs ≡ true → distinct (xs ++ x ∷ []) ≡ distinct xs
distinct_again [] x e = absurd (true_false (sym e))
distinct_again (y ∷ ys) x e = elim (cases_Bool (has x ys)) [
  | inl h ↦ ap (λ l. y ∷ without y l) (distinct_again ys x h)
  | inr h ↦ elim (cases_Bool (y == x)) [
    | inl q ↦ (
        let s : y ≡ x = same_from y x q in
        ap (λ l. y ∷ without y l) (distinct_new ys x h)
        ∙ ap (λ l. y ∷ l) (subst (λ z. without y (distinct ys ++ z ∷ []) ≡ without y (distinct ys)) s
        (without_same y (distinct ys) ∙ append-nil (without y (distinct ys)))))
    | inr q ↦ absurd (true_false (sym e ∙ (ap (λ t. cond t true (has x ys)) q ∙ h)))
  ]
]

-- the numbers seen have this stamp, and no stamp is greater
pub record AreSeen (stamp : ℕ) (seen numbers : List ℕ) : Type 0 where
  pub upto : All (λ s. s ≤ stamp) seen
  pub stamped : (i : ℕ) → i < length seen → get_or seen i 0 ≡ stamp → has i numbers ≡ true
  pub listed : (i : ℕ) → i < length seen → has i numbers ≡ true → get_or seen i 0 ≡ stamp

pub none_seen : (stamp : ℕ) (seen : List ℕ) → All (λ s. s < stamp) seen → AreSeen stamp seen []
none_seen stamp seen h = record {
  upto = λ k d lt. let b = h k d lt in omega arith;
  stamped = λ i lt e. let b = h i 0 lt in absurd (omega arith);
  listed = λ i lt e. absurd (true_false (sym e));
}

pub seen_again : (stamp : ℕ) (seen numbers : List ℕ) (x : ℕ) → x < length seen → get_or seen x 0 ≡ stamp
    → AreSeen stamp seen numbers → AreSeen stamp seen (numbers ++ x ∷ [])
seen_again stamp seen numbers x lt e s = record {
  upto = s.upto;
  stamped = λ i b h. has_kept i numbers x (s.stamped i b h);
  listed = λ i b h. elim (cases_eq x i) [
    | inl q ↦ subst (λ z. get_or seen z 0 ≡ stamp) q e
    | inr q ↦ s.listed i b (has_before i numbers x q h)
  ];
}

pub seen_new : (stamp : ℕ) (seen numbers : List ℕ) (x : ℕ) → x < length seen
    → AreSeen stamp seen numbers → AreSeen stamp (set seen x stamp) (numbers ++ x ∷ [])
seen_new stamp seen numbers x lt s = record {
  upto = λ k d b. let l : k < length seen = subst (λ n. k < n) (length-set seen x stamp) b in
      elim (cases_eq k x) [
        | inl q ↦ subst (λ z. z ≤ stamp)
            (sym (ap (λ j. get_or (set seen x stamp) j d) q ∙ get_or-set_same seen x stamp d lt)) (omega arith)
        | inr q ↦ subst (λ z. z ≤ stamp) (sym (get_or-set_other seen x k stamp d q)) (s.upto k d l)
      ];
  stamped = λ i b h. let l : i < length seen = subst (λ n. i < n) (length-set seen x stamp) b in
      elim (cases_eq x i) [
        | inl q ↦ has_last i numbers x q
        | inr q ↦ has_kept i numbers x (s.stamped i l (sym (get_or-set_other seen x i stamp 0 (λ r. q (sym r))) ∙ h))
      ];
  listed = λ i b h. let l : i < length seen = subst (λ n. i < n) (length-set seen x stamp) b in
      elim (cases_eq x i) [
        | inl q ↦ subst (λ z. get_or (set seen x stamp) z 0 ≡ stamp) q (get_or-set_same seen x stamp 0 lt)
        | inr q ↦ get_or-set_other seen x i stamp 0 (λ r. q (sym r)) ∙ s.listed i l (has_before i numbers x q h)
      ];
}

-- what is not stamped is new
pub unseen : (stamp : ℕ) (seen numbers : List ℕ) (x : ℕ) → x < length seen → get_or seen x 0 ≢ stamp
    → AreSeen stamp seen numbers → has x numbers ≡ false
unseen stamp seen numbers x lt ne s = elim (cases_Bool (has x numbers)) [
  | inl h ↦ absurd (ne (s.listed x lt h))
  | inr h ↦ h
]

-- what is made of each number once, with one number more
pub made_new : {B : Type 0} (f : ℕ → B) (old items more : List B) (numbers : List ℕ) (x : ℕ) (b : B)
    → items ≡ old ++ map f (distinct numbers) → has x numbers ≡ false → more ≡ items ++ b ∷ [] → b ≡ f x
    → more ≡ old ++ map f (distinct (numbers ++ x ∷ []))
made_new f old items more numbers x b a h g e =
    g ∙ (ap (λ l. l ++ b ∷ []) a ∙ (append_assoc old (map f (distinct numbers)) (b ∷ [])
    ∙ ap (λ l. old ++ l) (ap (λ z. map f (distinct numbers) ++ z ∷ []) e
    ∙ sym (ap (map f) (distinct_new numbers x h) ∙ map_push f (distinct numbers) x))))

pub made_again : {B : Type 0} (f : ℕ → B) (old items : List B) (numbers : List ℕ) (x : ℕ)
    → items ≡ old ++ map f (distinct numbers) → has x numbers ≡ true
    → items ≡ old ++ map f (distinct (numbers ++ x ∷ []))
made_again f old items numbers x a h = a ∙ ap (λ l. old ++ map f l) (sym (distinct_again numbers x h))
