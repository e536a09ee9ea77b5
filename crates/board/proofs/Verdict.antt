-- Words stand for one list of links, or break one rule first.
use Rattle.std.proofs.Common.{◌≡◌, ◌∙◌, ℕ, zero, suc, ◌<◌, List, [], ◌∷◌, Some, None, length, map, take, get_or, refl}
use Rattle.std.proofs.Common.{sym, ap, ap₂, subst, inl, inr, arith}
use Rattle.std.specs.Prelude.{AllPairs, slice_get}
use Rattle.std.specs.List.{take-map}
use Rattle.std.proofs.lemmas.Bool.{cases_lt}
use Rattle.std.proofs.lemmas.List.{get_or-take, length-take}
use Rattle.std.proofs.lemmas.Option.{get_or_from_slice_get, slice_get_within}
use Rattle.mp_base.specs.declared.pad.Pads.{Pads}
use Rattle.mp_base.specs.declared.refusal.Broken.{Broken}
use Rattle.mp_base.specs.declared.refusal.Rule.{Rule}
use Rattle.mp_base.specs.declared.refusal.Spot.TheVariants.{Named}
use Rattle.board.specs.declared.link.Link.{Link}
use Rattle.board.specs.declared.link.Naming.{Naming}
use Rattle.board.specs.Boarding.{AreApart}
use Rattle.board.specs.Links.{AreLinks, Breaks, BreaksB1, BreaksB2, IsFirstBroken, naming, naming_of}

pub same_link : (a b : Link) → naming_of a ≡ naming_of b → a ≡ b
same_link a b e =
    let part : Some a.part ≡ Some b.part = ap (λ (n : Naming). n.part) e in
    let seen : Some a.seen ≡ Some b.seen = ap (λ (n : Naming). n.seen) e in
    let driven : Some a.driven ≡ Some b.driven = ap (λ (n : Naming). n.driven) e in
    let p : a.part ≡ b.part = cc in
    let s : a.seen ≡ b.seen = cc in
    let d : a.driven ≡ b.driven = cc in
    λ i. record { part = p i; seen = s i; driven = d i }

same_links : (ls ms : List Link) → map naming_of ls ≡ map naming_of ms → ls ≡ ms
same_links [] [] e = refl
same_links [] (b ∷ ms) e = cc
same_links (a ∷ ls) [] e = cc
same_links (a ∷ ls) (b ∷ ms) e =
    let head : naming_of a ≡ naming_of b = cc in
    let tail : map naming_of ls ≡ map naming_of ms = cc in
    ap₂ (λ x xs. x ∷ xs) (same_link a b head) (same_links ls ms tail)

module _ (parts : List (List ℕ)) (pads : Pads) where
  pub links_once : (words : List (List ℕ)) (ls ms : List Link) → AreLinks parts pads words ls
      → AreLinks parts pads words ms
      → ls ≡ ms
  links_once words ls ms a b = same_links ls ms (sym a.named ∙ b.named)

  -- the link of a word, behind those before it
  at_word : (words : List (List ℕ)) (links : List Link) (k : ℕ) (word : List ℕ)
      → map (naming parts pads) words ≡ map naming_of links → slice_get words k ≡ Some word
      → (l : Link) × (slice_get links k ≡ Some l) × (naming parts pads word ≡ naming_of l)
  at_word [] links k word e at = absurd (let x : None ≡ Some word = at in cc)
  at_word (w ∷ words) [] k word e at = cc
  at_word (w ∷ words) (l ∷ links) zero word e at =
      let same : Some w ≡ Some word = at in
      let word_is : w ≡ word = cc in
      let head : naming parts pads w ≡ naming_of l = cc in
      (l, refl, ap (naming parts pads) (sym word_is) ∙ head)
  at_word (w ∷ words) (l ∷ links) (suc k) word e at =
      let tail : map (naming parts pads) words ≡ map naming_of links = cc in
      at_word words links k word tail at

  -- a link behind which another stands breaks no rule
  no_rule : (links : List Link) (k : ℕ) (l : Link) (rule : Rule) → AllPairs AreApart links → slice_get links k ≡ Some l
      → Breaks (take k links) (naming_of l) rule → ⊥
  no_rule links k l rule apart at breaks = elim breaks [ inl one ↦ first one.0 | inr two ↦ second two.1 ]
    where
      inside : k < length links
      inside = slice_get_within links k l at

      apart_from : (j : ℕ) (e : Link) → j < length (take k links) → get_or (take k links) j e ≡ e → AreApart e l
      apart_from j e lt is =
          let n = length-take k links in
          let here : get_or links k e ≡ l = get_or_from_slice_get links k l e at in
          let there : get_or links j e ≡ e = sym (get_or-take k links j e (omega (arith, lt, n))) ∙ is in
          let P : Link → Type 0 = λ x. AreApart x l in
          let Q : Link → Type 0 = λ x. AreApart (get_or links j e) x in
          subst P there (subst Q here (apart j k e (omega (arith, lt, n)) inside))

      first : BreaksB1 (take k links) (naming_of l) → ⊥
      first (inl missing) = let x : Some l.part ≡ None = missing in cc
      first (inr any) =
          let same : Some l.part ≡ Some (any.1).part = any.4 in
          let e : (any.1).part ≡ l.part = cc in
          (apart_from any.0 any.1 any.2 any.3).part e

      second : BreaksB2 (take k links) (naming_of l) → ⊥
      second (inl missing) = let x : Some l.seen ≡ None = missing in cc
      second (inr (inl missing)) = let x : Some l.driven ≡ None = missing in cc
      second (inr (inr any)) =
          let same : Some l.driven ≡ Some (any.1).driven = any.4 in
          let e : (any.1).driven ≡ l.driven = cc in
          (apart_from any.0 any.1 any.2 any.3).driven e

  first_links : (words : List (List ℕ)) (links : List Link) (k : ℕ) → AreLinks parts pads words links
      → AreLinks parts pads (take k words) (take k links)
  first_links words links k are = record {
    named = sym (take-map (naming parts pads) k words) ∙ ap (take k) are.named ∙ take-map naming_of k links;
    apart = λ i j d less lt.
        let n = length-take k links in
        let P : Link → Type 0 = λ x. AreApart x (get_or (take k links) j d) in
        let Q : Link → Type 0 = λ x. AreApart (get_or links i d) x in
        subst P (sym (get_or-take k links i d (omega (arith, less, lt, n))))
        (subst Q (sym (get_or-take k links j d (omega (arith, lt, n)))) (are.apart i j d less (omega (arith, lt, n))));
  }

  pub whole_or_broken : (words : List (List ℕ)) (links : List Link) (b : Broken) → AreLinks parts pads words links
      → IsFirstBroken parts pads words b → ⊥
  whole_or_broken words links b are broken =
      let k = broken.k in
      let before = links_once (take k words) (take k links) broken.links (first_links words links k are)
      broken.before in
      let at = at_word words links k broken.word are.named broken.at in
      let P : List Link → Type 0 = λ ls. Breaks ls (naming parts pads broken.word) b.rule in
      let Q : Naming → Type 0 = λ n. Breaks (take k links) n b.rule in
      no_rule links k at.0 b.rule are.apart at.1 (subst Q at.2 (subst P (sym before) broken.breaks))

  pub one_rule : (links : List Link) (n : Naming) (a b : Rule) → Breaks links n a → Breaks links n b → a ≡ b
  one_rule links n a b (inl x) (inl y) = x.1 ∙ sym y.1
  one_rule links n a b (inl x) (inr y) = absurd (y.0 x.0)
  one_rule links n a b (inr x) (inl y) = absurd (x.0 y.0)
  one_rule links n a b (inr x) (inr y) = x.2 ∙ sym y.2

  take_word : (words : List (List ℕ)) (m k : ℕ) → k < m → slice_get (take m words) k ≡ slice_get words k
  take_word [] zero k lt = absurd (omega (arith, lt))
  take_word [] (suc m) k lt = refl
  take_word (w ∷ words) zero k lt = absurd (omega (arith, lt))
  take_word (w ∷ words) (suc m) zero lt = refl
  take_word (w ∷ words) (suc m) (suc k) lt = take_word words m k (omega (arith, lt))

  take_twice : (words : List (List ℕ)) (m k : ℕ) → k < m → take k (take m words) ≡ take k words
  take_twice words m zero lt = refl
  take_twice words zero (suc k) lt = absurd (omega (arith, lt))
  take_twice [] (suc m) (suc k) lt = refl
  take_twice (w ∷ words) (suc m) (suc k) lt = ap (λ ws. w ∷ ws) (take_twice words m k (omega (arith, lt)))

  -- no rule is broken before the first
  not_before : (words : List (List ℕ)) (a b : Broken) (x : IsFirstBroken parts pads words a)
      (y : IsFirstBroken parts pads words b) → x.k < y.k → ⊥
  not_before words a b x y lt =
      let P : List (List ℕ) → Type 0 = λ ws. AreLinks parts pads ws x.links in
      whole_or_broken (take y.k words) y.links a y.before (record {
        k = x.k;
        word = x.word;
        links = x.links;
        at = take_word words y.k x.k lt ∙ x.at;
        before = subst P (sym (take_twice words y.k x.k lt)) x.before;
        breaks = x.breaks;
        spot = x.spot;
      })

  pub broken_once : (words : List (List ℕ)) (a b : Broken) → IsFirstBroken parts pads words a
      → IsFirstBroken parts pads words b → a ≡ b
  broken_once words a b x y = elim (cases_lt x.k y.k) [
    | inl before ↦ absurd (not_before words a b x y before)
    | inr le ↦ elim (cases_lt y.k x.k) [
      | inl before ↦ absurd (not_before words b a y x before)
      | inr ge ↦ same (let e : x.k ≡ y.k = omega (arith, le, ge) in e)
    ]
  ]
    where
      same : x.k ≡ y.k → a ≡ b
      same e =
          let both : Some x.word ≡ Some y.word = sym x.at ∙ ap (slice_get words) e ∙ y.at in
          let word : x.word ≡ y.word = cc in
          let P : List (List ℕ) → Type 0 = λ ws. AreLinks parts pads ws x.links in
          let links = links_once (take y.k words) x.links y.links (subst P (ap (λ n. take n words) e) x.before)
          y.before in
          let Q : List Link → Type 0 = λ ls. Breaks ls (naming parts pads x.word) a.rule in
          let R : List ℕ → Type 0 = λ w. Breaks y.links (naming parts pads w) a.rule in
          let rule : a.rule ≡ b.rule =
          one_rule y.links (naming parts pads y.word) a.rule b.rule (subst R word (subst Q links x.breaks)) y.breaks in
          let spot : a.spot ≡ b.spot = x.spot ∙ ap Named word ∙ sym y.spot in
          λ i. record { rule = rule i; spot = spot i }
