-- What is left of a list, swap by swap.
use Rattle.std.proofs.Common.{◌≡◌, ◌∙◌, ℕ, zero, suc, ◌+◌, ◌-◌, ◌<◌, ◌≤◌, List, [], ◌∷◌, ◌++◌, Bool, true, false, cond}
use Rattle.std.proofs.Common.{eqb, length, map, take, get_or, refl, sym, ap, subst, inl, inr, arith}
use Rattle.std.specs.List.{remove}
use Rattle.std.specs.Prelude.{◌||◌, ◌⊎◌, ◌≢◌, All, AllPairs, count_by, nat_lt}
use Rattle.std.proofs.Math.Nat.{eq-or-lt_of_le}
use Rattle.std.proofs.lemmas.Bool.{cases_lt, eq-eqb, eqb-true, le-ltb, lt-ltb}
use Rattle.std.proofs.lemmas.List.{get_or-map, map-append, take_all, take_more}
use Rattle.std.proofs.lemmas.List.Elements.{All-head, All-tail, All-take}
use Rattle.std.proofs.lemmas.List.Kept.{AllPairs-cons}
use Rattle.std.proofs.lemmas.List.Recursion.{is_count_by}
use Rattle.mp_base.proofs.Tests.{true_false}
use Rattle.board.specs.declared.plan.Swap.{Swap}
use Rattle.board.specs.Face.{Face}
use Rattle.board.specs.Loop.{Exchange}
use Rattle.board_run.specs.Left.{exchange_of, is_put_in, left_from, left_of, no_face, place_left}

pub left_none : {X : Type 0} (place : ℕ) (xs : List X) → left_from [] place xs ≡ xs
left_none place [] = refl
left_none place (x ∷ xs) = ap (λ ys. x ∷ ys) (left_none (suc place) xs)

-- a swap that puts in an earlier entry changes nothing
pub put_in_more : (ss : List Swap) (s : Swap) (place : ℕ) → (s.fresh ≡ place → ⊥)
    → is_put_in (ss ++ s ∷ []) place ≡ is_put_in ss place
put_in_more [] s place apart = by (eqb s.fresh place) refl
  where
    by : (b : Bool) → eqb s.fresh place ≡ b → (eqb s.fresh place || false) ≡ false
    by true e = absurd (apart (eqb-true s.fresh place e))
    by false e = ap (λ b. b || false) e
put_in_more (t ∷ ss) s place apart = ap (λ b. eqb t.fresh place || b) (put_in_more ss s place apart)

pub left_past : {X : Type 0} (ss : List Swap) (s : Swap) (place : ℕ) (xs : List X) → s.fresh < place
    → left_from (ss ++ s ∷ []) place xs ≡ left_from ss place xs
left_past ss s place [] lt = refl
left_past ss s place (x ∷ xs) lt =
    let rest = left_past ss s (suc place) xs (omega (arith, lt)) in
    ap (λ b. cond b (left_from (ss ++ s ∷ []) (suc place) xs) (x ∷ left_from (ss ++ s ∷ []) (suc place) xs))
    (put_in_more ss s place (λ e. omega (arith, lt, e)))
    ∙ ap (λ ys. cond (is_put_in ss place) ys (x ∷ ys)) rest

-- how many of so many entries from this one on are put in
abbrev pub put_among : List Swap → ℕ → ℕ → ℕ
put_among ss place zero = 0
put_among ss place (suc many) = cond (is_put_in ss place) 1 0 + put_among ss (suc place) many

among_most : (ss : List Swap) (place many : ℕ) → put_among ss place many ≤ many
among_most ss place zero = omega arith
among_most ss place (suc many) = by (is_put_in ss place) (among_most ss (suc place) many)
  where
    by : (b : Bool) → put_among ss (suc place) many ≤ many → cond b 1 0 + put_among ss (suc place) many ≤ suc many
    by true h = omega (arith, h)
    by false h = omega (arith, h)

put_in_it : (ss : List Swap) (s : Swap) (place : ℕ) → s.fresh ≡ place → is_put_in (ss ++ s ∷ []) place ≡ true
put_in_it [] s place same = ap (λ b. b || false) (eq-eqb s.fresh place same)
put_in_it (t ∷ ss) s place same = either (eqb t.fresh place) (put_in_it ss s place same)
  where
    either : (b : Bool) → is_put_in (ss ++ s ∷ []) place ≡ true → (b || is_put_in (ss ++ s ∷ []) place) ≡ true
    either true h = refl
    either false h = h

module _ {X : Type 0} (ss : List Swap) (s : Swap) where
  -- the entry that stands behind i others in the list that is left is taken out of it
  pub remove_left : (place many i : ℕ) (xs : List X) → s.fresh ≡ place + many → many < length xs
      → is_put_in ss s.fresh ≡ false → i + put_among ss place many ≡ many
      → remove (left_from ss place xs) i ≡ left_from (ss ++ s ∷ []) place xs
  remove_left place many i [] is lt free at = absurd (omega (arith, lt))
  remove_left place zero (suc i) (x ∷ xs) is lt free at = absurd (omega (arith, at))
  remove_left place zero zero (x ∷ xs) is lt free at =
      let same : s.fresh ≡ place = omega (arith, is) in
      let here : is_put_in ss place ≡ false = subst (λ n. is_put_in ss n ≡ false) same free in
      let L = left_from ss (suc place) xs in
      let M = left_from (ss ++ s ∷ []) (suc place) xs in
      ap (λ b. remove (cond b L (x ∷ L)) 0) here
      ∙ sym (left_past ss s (suc place) xs (omega (arith, same)))
      ∙ sym (ap (λ b. cond b M (x ∷ M)) (put_in_it ss s place same))
  remove_left place (suc many) i (x ∷ xs) is lt free at =
      by (is_put_in ss place) refl i at
      (λ j h. remove_left (suc place) many j xs (omega (arith, is)) (omega (arith, lt)) free h)
    where
      L : List X
      L = left_from ss (suc place) xs

      M : List X
      M = left_from (ss ++ s ∷ []) (suc place) xs

      more : is_put_in (ss ++ s ∷ []) place ≡ is_put_in ss place
      more = put_in_more ss s place (λ e. omega (arith, is, e))

      by : (b : Bool) → is_put_in ss place ≡ b → (j : ℕ)
          → j + (cond (is_put_in ss place) 1 0 + put_among ss (suc place) many) ≡ suc many
          → ((k : ℕ) → k + put_among ss (suc place) many ≡ many → remove L k ≡ M)
          → remove (cond (is_put_in ss place) L (x ∷ L)) j ≡ cond (is_put_in (ss ++ s ∷ []) place) M (x ∷ M)
      by true e j h rest =
          let c = ap {B = ℕ} (λ b. cond b 1 0) e in
          ap (λ b. remove (cond b L (x ∷ L)) j) e
          ∙ rest j (omega (arith, h, c))
          ∙ sym (ap (λ b. cond b M (x ∷ M)) (more ∙ e))
      by false e zero h rest =
          let c = ap {B = ℕ} (λ b. cond b 1 0) e in
          let most = among_most ss (suc place) many in absurd (omega (arith, h, c, most))
      by false e (suc j) h rest =
          let c = ap {B = ℕ} (λ b. cond b 1 0) e in
          ap (λ b. remove (cond b L (x ∷ L)) (suc j)) e
          ∙ ap (λ ys. x ∷ ys) (rest j (omega (arith, h, c)))
          ∙ sym (ap (λ b. cond b M (x ∷ M)) (more ∙ e))

-- ---- where entries stand in the list that is left

module _ {X : Type 0} (ss : List Swap) where
  -- the entry that no swap puts in, behind i others that are left
  pub entry_left : (place many i : ℕ) (xs : List X) (d : X) → many < length xs → is_put_in ss (place + many) ≡ false
      → i + put_among ss place many ≡ many → get_or (left_from ss place xs) i d ≡ get_or xs many d
  entry_left place many i [] d lt free at = absurd (omega (arith, lt))
  entry_left place zero (suc i) (x ∷ xs) d lt free at = absurd (omega (arith, at))
  entry_left place zero zero (x ∷ xs) d lt free at =
      let here : is_put_in ss place ≡ false = subst (λ n. is_put_in ss n ≡ false) (omega arith) free in
      let L = left_from ss (suc place) xs in ap (λ b. get_or (cond b L (x ∷ L)) 0 d) here
  entry_left place (suc many) i (x ∷ xs) d lt free at =
      by (is_put_in ss place) refl i at (λ j h. entry_left (suc place) many j xs d (omega (arith, lt)) later h)
    where
      L : List X
      L = left_from ss (suc place) xs

      later : is_put_in ss (suc place + many) ≡ false
      later = subst (λ n. is_put_in ss n ≡ false) (omega arith) free

      by : (b : Bool) → is_put_in ss place ≡ b → (j : ℕ)
          → j + (cond (is_put_in ss place) 1 0 + put_among ss (suc place) many) ≡ suc many
          → ((k : ℕ) → k + put_among ss (suc place) many ≡ many → get_or L k d ≡ get_or xs many d)
          → get_or (cond (is_put_in ss place) L (x ∷ L)) j d ≡ get_or xs many d
      by true e j h rest =
          let c = ap {B = ℕ} (λ b. cond b 1 0) e in
          ap (λ b. get_or (cond b L (x ∷ L)) j d) e ∙ rest j (omega (arith, h, c))
      by false e zero h rest =
          let c = ap {B = ℕ} (λ b. cond b 1 0) e in
          let most = among_most ss (suc place) many in absurd (omega (arith, h, c, most))
      by false e (suc j) h rest =
          let c = ap {B = ℕ} (λ b. cond b 1 0) e in
          ap (λ b. get_or (cond b L (x ∷ L)) (suc j) d) e ∙ rest j (omega (arith, h, c))

  -- how many are left
  pub length_left : (place : ℕ) (xs : List X)
      → length (left_from ss place xs) + put_among ss place (length xs) ≡ length xs
  length_left place [] = refl
  length_left place (x ∷ xs) = by (is_put_in ss place) (length_left (suc place) xs)
    where
      L : List X
      L = left_from ss (suc place) xs

      by : (b : Bool) → length L + put_among ss (suc place) (length xs) ≡ length xs
          → length (cond b L (x ∷ L)) + (cond b 1 0 + put_among ss (suc place) (length xs)) ≡ suc (length xs)
      by true h = omega (arith, h)
      by false h = omega (arith, h)

pub map_left : {X Y : Type 0} (f : X → Y) (ss : List Swap) (place : ℕ) (xs : List X)
    → map f (left_from ss place xs) ≡ left_from ss place (map f xs)
map_left f ss place [] = refl
map_left f ss place (x ∷ xs) = by (is_put_in ss place) (map_left f ss (suc place) xs)
  where
    by : (b : Bool) → map f (left_from ss (suc place) xs) ≡ left_from ss (suc place) (map f xs)
        → map f (cond b (left_from ss (suc place) xs) (x ∷ left_from ss (suc place) xs))
        ≡ cond b (left_from ss (suc place) (map f xs)) (f x ∷ left_from ss (suc place) (map f xs))
    by true h = h
    by false h = ap (λ ys. f x ∷ ys) h

among_split : (ss : List Swap) (place m n : ℕ)
    → put_among ss place (m + n) ≡ put_among ss place m + put_among ss (place + m) n
among_split ss place zero n =
    let e : put_among ss place n ≡ put_among ss (place + 0) n = ap (λ p. put_among ss p n) (omega arith) in
    ap (put_among ss place) (omega arith) ∙ e ∙ omega arith
among_split ss place (suc m) n =
    let h = among_split ss (suc place) m n in
    let a : put_among ss place (suc m + n) ≡ cond (is_put_in ss place) 1 0 + put_among ss (suc place) (m + n) =
    ap (put_among ss place) {x = suc m + n} {y = suc (m + n)} (omega arith) in
    let e : put_among ss (suc place + m) n ≡ put_among ss (place + suc m) n =
    ap (λ p. put_among ss p n) (omega arith) in omega (arith, a, h, e)

-- fewer than all, from one on that no swap puts in
among_fewer : (ss : List Swap) (place many : ℕ) → is_put_in ss place ≡ false → put_among ss place (suc many) ≤ many
among_fewer ss place many free =
    let c = ap {B = ℕ} (λ b. cond b 1 0) free in
    let most = among_most ss (suc place) many in omega (arith, c, most)

-- a later entry has more of those that are left before it
among_later : (ss : List Swap) (p q : ℕ) → p < q → is_put_in ss p ≡ false
    → p + put_among ss 0 q < q + put_among ss 0 p
among_later ss p q lt free =
    let more : ℕ = q - suc p in
    let parts : q ≡ p + suc more = omega (arith, lt) in
    let split : put_among ss 0 q ≡ put_among ss 0 p + put_among ss p (suc more) =
    ap (put_among ss 0) parts ∙ among_split ss 0 p (suc more)
    ∙ ap (λ n. put_among ss 0 p + put_among ss n (suc more)) {x = 0 + p} {y = p} (omega arith) in
    let few = among_fewer ss p more free in omega (arith, parts, split, few)

-- ---- how many swaps put in an entry before one

abbrev puts_before : ℕ → List Swap → ℕ
puts_before k [] = 0
puts_before k (s ∷ ss) = cond (nat_lt s.fresh k) (1 + puts_before k ss) (puts_before k ss)

abbrev pub Apart : List Swap → Type 0
Apart = AllPairs (λ (s t : Swap). s.fresh ≢ t.fresh)

pub apart_tail : (s : Swap) (ss : List Swap) → Apart (s ∷ ss) → Apart ss
apart_tail s ss apart = λ i j d lt less. apart (suc i) (suc j) d (omega (arith, lt)) (omega (arith, less))

pub apart_head : (s : Swap) (ss : List Swap) → Apart (s ∷ ss) → All (λ (t : Swap). s.fresh ≢ t.fresh) ss
apart_head s ss apart = λ k d less. apart 0 (suc k) d (omega arith) (omega (arith, less))

differ : (m n : ℕ) → m ≢ n → eqb m n ≡ false
differ m n apart = by (eqb m n) refl
  where
    by : (b : Bool) → eqb m n ≡ b → b ≡ false
    by true e = absurd (apart (eqb-true m n e))
    by false e = refl

-- no swap puts in an entry that each has other ones than
pub free_of : (n : ℕ) (ss : List Swap) → All (λ (t : Swap). n ≢ t.fresh) ss → is_put_in ss n ≡ false
free_of n [] all = refl
free_of n (t ∷ ss) all =
    let head : n ≢ t.fresh = All-head (λ (t : Swap). n ≢ t.fresh) t ss all in
    ap (λ b. b || is_put_in ss n) (differ t.fresh n (λ e. head (sym e)))
    ∙ free_of n ss (All-tail (λ (t : Swap). n ≢ t.fresh) t ss all)

among_past : (s : Swap) (ss : List Swap) (place many : ℕ) → s.fresh < place
    → put_among (s ∷ ss) place many ≡ put_among ss place many
among_past s ss place zero lt = refl
among_past s ss place (suc many) lt =
    let rest = among_past s ss (suc place) many (omega (arith, lt)) in
    let c : cond (eqb s.fresh place || is_put_in ss place) 1 0 ≡ cond {A = ℕ} (is_put_in ss place) 1 0 =
    ap {B = ℕ} (λ b. cond (b || is_put_in ss place) 1 0) (differ s.fresh place (λ e. omega (arith, lt, e))) in
    omega (arith, rest, c)

-- two numbers of which one is no less, and which differ
above : (m n : ℕ) → n ≤ m → m ≢ n → suc n ≤ m
above m n le other = from (eq-or-lt_of_le le)
  where
    from : (n ≡ m) ⊎ (n < m) → suc n ≤ m
    from (inl same) = absurd (other (sym same))
    from (inr less) = omega (arith, less)

among_cons : (s : Swap) (ss : List Swap) (place many : ℕ) → place ≤ s.fresh → is_put_in ss s.fresh ≡ false
    → put_among (s ∷ ss) place many ≡ cond (nat_lt s.fresh (place + many)) 1 0 + put_among ss place many
among_cons s ss place zero le free =
    let c = ap {B = ℕ} (λ b. cond b 1 0) (le-ltb s.fresh (place + 0) (omega (arith, le))) in omega (arith, c)
among_cons s ss place (suc many) le free =
    by (eqb s.fresh place) refl (λ more. among_cons s ss (suc place) many more free)
  where
    by : (b : Bool) → eqb s.fresh place ≡ b
        → (suc place ≤ s.fresh → put_among (s ∷ ss) (suc place) many
        ≡ cond (nat_lt s.fresh (suc place + many)) 1 0 + put_among ss (suc place) many)
        → cond (eqb s.fresh place || is_put_in ss place) 1 0 + put_among (s ∷ ss) (suc place) many
        ≡ cond (nat_lt s.fresh (place + suc many)) 1 0 + (cond (is_put_in ss place) 1 0 + put_among ss (suc place) many)
    by true e step =
        let same = eqb-true s.fresh place e in
        let here = ap {B = ℕ} (λ b. cond (b || is_put_in ss place) 1 0) e in
        let none = ap {B = ℕ} (λ b. cond b 1 0) (subst (λ n. is_put_in ss n ≡ false) same free) in
        let past = among_past s ss (suc place) many (omega (arith, same)) in
        let c = ap {B = ℕ} (λ b. cond b 1 0) (lt-ltb s.fresh (place + suc many) (omega (arith, same))) in
        omega (arith, here, none, past, c)
    by false e step =
        let here = ap {B = ℕ} (λ b. cond (b || is_put_in ss place) 1 0) e in
        let other : s.fresh ≢ place = λ same. true_false (sym (eq-eqb s.fresh place same) ∙ e) in
        let rest = step (above s.fresh place le other) in
        let c : cond (nat_lt s.fresh (suc place + many)) 1 0 ≡ cond {A = ℕ} (nat_lt s.fresh (place + suc many)) 1 0 =
        ap {B = ℕ} (λ n. cond (nat_lt s.fresh n) 1 0) (omega arith) in omega (arith, here, rest, c)

none_among : (place many : ℕ) → 0 ≡ put_among [] place many
none_among place zero = refl
none_among place (suc many) =
    let rest = none_among (suc place) many in omega (arith, rest)

counted_here : (b : Bool) (n : ℕ) → cond b (1 + n) n ≡ cond b 1 0 + n
counted_here true n = refl
counted_here false n = omega arith

counted_among : (k : ℕ) (ss : List Swap) → Apart ss → puts_before k ss ≡ put_among ss 0 k
counted_among k [] apart = none_among 0 k
counted_among k (s ∷ ss) apart =
    let rest = counted_among k ss (apart_tail s ss apart) in
    let step = among_cons s ss 0 k (omega arith) (free_of s.fresh ss (apart_head s ss apart)) in
    let same : cond (nat_lt s.fresh (0 + k)) 1 0 ≡ cond {A = ℕ} (nat_lt s.fresh k) 1 0 =
    ap {B = ℕ} (λ n. cond (nat_lt s.fresh n) 1 0) (omega arith) in
    let c = counted_here (nat_lt s.fresh k) (puts_before k ss) in omega (arith, rest, step, same, c)

-- of swaps that put in different entries
pub place_counted : (k : ℕ) (ss : List Swap) → Apart ss
    → count_by (λ (s : Swap). nat_lt s.fresh k) ss ≡ put_among ss 0 k
place_counted k ss apart =
    sym (is_count_by (puts_before k) (λ (s : Swap). nat_lt s.fresh k) refl (λ s rest. refl) ss)
    ∙ counted_among k ss apart

-- ---- one swap among others

pub apart_take : (i : ℕ) (ss : List Swap) → Apart ss → Apart (take i ss)
apart_take i [] apart = by i
  where
    by : (i : ℕ) → Apart (take i [])
    by zero = λ a b d lt less. absurd (omega (arith, less))
    by (suc i) = λ a b d lt less. absurd (omega (arith, less))
apart_take zero (s ∷ ss) apart = λ a b d lt less. absurd (omega (arith, less))
apart_take (suc i) (s ∷ ss) apart =
    AllPairs-cons (λ (s t : Swap). s.fresh ≢ t.fresh) s (take i ss)
    (All-take (λ (t : Swap). s.fresh ≢ t.fresh) i ss (apart_head s ss apart)) (apart_take i ss (apart_tail s ss apart))

-- none of those before it puts in its entry
free_before : (i : ℕ) (ss : List Swap) (d : Swap) → Apart ss → i < length ss
    → is_put_in (take i ss) (get_or ss i d).fresh ≡ false
free_before i [] d apart lt = absurd (omega (arith, lt))
free_before zero (s ∷ ss) d apart lt = refl
free_before (suc i) (s ∷ ss) d apart lt =
    let n = (get_or ss i d).fresh in
    let other : s.fresh ≢ n = apart_head s ss apart i d (omega (arith, lt)) in
    ap (λ b. b || is_put_in (take i ss) n) (differ s.fresh n other)
    ∙ free_before i ss d (apart_tail s ss apart) (omega (arith, lt))

-- of an entry that is left: as many stand before it as stood there, without those that are put in
pub place_at : (ss : List Swap) (place : ℕ) → Apart ss
    → (count_by (λ (s : Swap). nat_lt s.fresh place) ss ≤ place)
    × (place_left ss place + put_among ss 0 place ≡ place)
place_at ss place apart =
    let among = place_counted place ss apart in
    let most = among_most ss 0 place in (omega (arith, among, most), omega (arith, among, most))

-- it is in the list that is left
pub place_inside : {X : Type 0} (ss : List Swap) (place : ℕ) (xs : List X) → Apart ss → is_put_in ss place ≡ false
    → place < length xs → place_left ss place < length (left_of ss xs)
place_inside ss place xs apart free lt =
    let here = (place_at ss place apart).1 in
    let later = among_later ss place (length xs) lt free in
    let many = length_left ss 0 xs in omega (arith, here, later, many)

-- two stand in two places
pub places_apart : (ss : List Swap) (p q : ℕ) → Apart ss → is_put_in ss p ≡ false → is_put_in ss q ≡ false → p ≢ q
    → place_left ss p ≢ place_left ss q
places_apart ss p q apart pfree qfree other same = by (cases_lt p q)
  where
    by : (p < q) ⊎ (q ≤ p) → ⊥
    by (inl lt) =
        let a = (place_at ss p apart).1 in
        let b = (place_at ss q apart).1 in
        let later = among_later ss p q lt pfree in omega (arith, a, b, later, same)
    by (inr le) =
        let a = (place_at ss p apart).1 in
        let b = (place_at ss q apart).1 in
        let later = among_later ss q p (above p q le other) qfree in omega (arith, a, b, later, same)

-- The swap with index i, when those before it were made, and the place of its entry in what they left.
module _ {P : Type 0} (ss : List Swap) (apart : Apart ss) (i place : ℕ) (d : Swap) (all items : List P)
    (lt : i < length ss) (there : All (λ (s : Swap). s.fresh < length all) ss)
    (left : items ≡ left_of (take i ss) all) (is : place ≡ place_left (take i ss) (get_or ss i d).fresh) where
  abbrev own : Swap
  own = get_or ss i d

  abbrev done : List Swap
  done = take i ss

  free : is_put_in done own.fresh ≡ false
  free = free_before i ss d apart lt

  at : place + put_among done 0 own.fresh ≡ own.fresh
  at =
      let here = (place_at done own.fresh (apart_take i ss apart)).1 in omega (arith, here, is)

  pub turn_within : place < length items
  turn_within =
      let inside = place_inside done own.fresh all (apart_take i ss apart) free (there i d lt) in
      let same = ap length left in omega (arith, inside, same, is)

  pub turn_left : remove items place ≡ left_of (take (i + 1) ss) all
  turn_left =
      ap (λ ys. remove ys place) left
      ∙ remove_left done own 0 own.fresh place all (omega arith) (there i d lt) free at
      ∙ sym (ap (λ t. left_from t 0 all) (take_more ss i d lt))

  pub turn_taken : {E : Type 0} (exchange : E → Exchange) (face : P → Face) (es new : List E) (e : E) (p : P)
      → new ≡ es ++ e ∷ [] → p ≡ get_or items place p
      → exchange e ≡ (let x : Exchange = record { clock = own.clock; link = own.link; fresh = face p } in x)
      → map exchange es ≡ map (exchange_of (map face all)) done
      → map exchange new ≡ map (exchange_of (map face all)) (take (i + 1) ss)
  turn_taken exchange face es new e p pushed entry is_it so_far =
      let inside : own.fresh < length all = there i d lt in
      let free_there : is_put_in done (0 + own.fresh) ≡ false =
      subst (λ n. is_put_in done n ≡ false) {x = own.fresh} {y = 0 + own.fresh} (omega arith) free in
      let same : p ≡ get_or all own.fresh p =
      entry ∙ ap (λ ys. get_or ys place p) left ∙ entry_left done 0 own.fresh place all p inside free_there at in
      let seen : face p ≡ get_or (map face all) own.fresh no_face =
      ap face same ∙ sym (get_or-map face all own.fresh p no_face inside) in
      let mine : exchange e ≡ exchange_of (map face all) own =
      is_it ∙ ap (λ f. let x : Exchange = record { clock = own.clock; link = own.link; fresh = f } in x) seen in
      ap (map exchange) pushed ∙ map-append exchange es (e ∷ [])
      ∙ ap (λ t. t ++ exchange e ∷ []) so_far
      ∙ ap (λ x. map (exchange_of (map face all)) done ++ x ∷ []) mine
      ∙ sym (ap (map (exchange_of (map face all))) (take_more ss i d lt)
      ∙ map-append (exchange_of (map face all)) done (own ∷ []))

-- when all were made
pub all_left : {P Y : Type 0} (f : P → Y) (ss : List Swap) (i : ℕ) (all items : List P) → length ss ≤ i
    → items ≡ left_of (take i ss) all → map f items ≡ left_of ss (map f all)
all_left f ss i all items le left =
    ap (map f) left ∙ map_left f (take i ss) 0 all ∙ ap (λ t. left_from t 0 (map f all)) (take_all i ss le)
