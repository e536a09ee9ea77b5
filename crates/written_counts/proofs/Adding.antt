-- Copies of counts that are added, one after another.
use Rattle.std.proofs.Common.{◌≡◌, ◌∙◌, ℕ, zero, suc, ◌+◌, ◌*◌, ◌<◌, ◌≤◌, List, [], ◌∷◌, ◌++◌, refl, sym, ap, arith}
use Rattle.std.proofs.Common.{length}
use Rattle.std.proofs.Common.{take, map, get_or}
use Rattle.std.specs.Prelude.{min, slice_index}
use Rattle.std.specs.List.{sum_by}
use Rattle.std.proofs.lemmas.List.{map-append, take_more, length-map}
use Rattle.std.proofs.lemmas.List.Sums.{sum_by-append, sum_by-cons}
use Rattle.written_counts.specs.declared.tally.Tally.{Tally}
use Rattle.written_counts.specs.Counts.{Count, weighed, sum_of, count_through}
use Rattle.written_counts.specs.Tallies.{Adds, IsCapped}
use Rattle.written_counts.proofs.Cuts.{cut_first, cut_factor, cut_inner}

pub adds_same : (cap k : ℕ) (a b : Count) (old new : Tally) → Adds cap k a old new → a.own ≡ b.own
    → ((i : ℕ) → a.times i ≡ b.times i) → Adds cap k b old new
adds_same cap k a b old new adds own times = record {
  own = adds.own ∙ ap (λ n. min cap (old.own + k * n)) own;
  times = λ i. adds.times i ∙ ap (λ n. min cap (slice_index old.times i + k * n)) (times i);
  size = adds.size;
}

joined : (cap k a b x y z : ℕ) → y ≡ min cap (x + k * a) → z ≡ min cap (y + k * b) → z ≡ min cap (x + k * (a + b))
joined cap k a b x y z first second =
    let d : k * (a + b) ≡ k * a + k * b = grind arith in
    let c = cut_first cap (x + k * a) (k * b) in
    second ∙ ap (λ n. min cap (n + k * b)) first ∙ c ∙ (let e : (x + k * a) + k * b ≡ x + k * (a + b) = omega
    (arith, d) in ap (min cap) e)

pub adds_more : (cap k : ℕ) (a b c : Count) (old now new : Tally) → Adds cap k a old now → Adds cap k b now new
    → a.own + b.own ≡ c.own → ((i : ℕ) → a.times i + b.times i ≡ c.times i) → Adds cap k c old new
adds_more cap k a b c old now new first second own times = record {
  own = joined cap k a.own b.own old.own now.own new.own first.own second.own
      ∙ ap (λ n. min cap (old.own + k * n)) own;
  times = λ i. joined cap k (a.times i) (b.times i) (slice_index old.times i) (slice_index now.times i)
      (slice_index new.times i) (first.times i) (second.times i)
      ∙ ap (λ n. min cap (slice_index old.times i + k * n)) (times i);
  size = second.size ∙ first.size;
}

-- what counts nothing, or no copy
idle : (cap x n : ℕ) → x ≤ cap → n ≡ 0 → x ≡ min cap (x + n)
idle cap x n le e = grind arith

pub adds_nothing : (cap k : ℕ) (c : Count) (t : Tally) → IsCapped cap t → c.own ≡ 0 → ((i : ℕ) → c.times i ≡ 0)
    → Adds cap k c t t
adds_nothing cap k c t capped own times = record {
  own = idle cap t.own (k * c.own) capped.own (ap (λ n. k * n) own ∙ none k);
  times = λ i. idle cap (slice_index t.times i) (k * c.times i) (capped.times i) (ap (λ n. k * n) (times i) ∙ none k);
  size = refl;
}
  where
    none : (n : ℕ) → n * 0 ≡ 0
    none n = grind arith

pub adds_no_copy : (cap : ℕ) (c : Count) (t : Tally) → IsCapped cap t → Adds cap 0 c t t
adds_no_copy cap c t capped = record {
  own = idle cap t.own (0 * c.own) capped.own (none c.own);
  times = λ i. idle cap (slice_index t.times i) (0 * c.times i) (capped.times i) (none (c.times i));
  size = refl;
}
  where
    none : (n : ℕ) → 0 * n ≡ 0
    none n = grind arith

pub adds_capped : (cap k : ℕ) (c : Count) (old new : Tally) → Adds cap k c old new → IsCapped cap new
adds_capped cap k c old new adds = record {
  own = (let e = adds.own in grind arith);
  times = λ i. (let e = adds.times i in grind arith);
}

-- copies of copies
scaled : (cap k t more x n z : ℕ) → more ≡ min cap (k * min cap t) → z ≡ min cap (x + more * n)
    → z ≡ min cap (x + k * (t * n))
scaled cap k t more x n z is e =
    let s : (k * t) * n ≡ k * (t * n) = grind arith in
    e ∙ ap (λ p. min cap (x + p * n)) is ∙ cut_factor cap x (k * min cap t) n ∙ cut_inner cap x k t n
    ∙ ap (λ p. min cap (x + p)) s

pub times_of : ℕ → Count → Count
times_of t c = record { own = t * c.own; times = λ i. t * c.times i }

pub adds_scaled : (cap k t more : ℕ) (c : Count) (old new : Tally) → more ≡ min cap (k * min cap t)
    → Adds cap more c old new → Adds cap k (times_of t c) old new
unfolding times_of
adds_scaled cap k t more c old new is adds = record {
  own = scaled cap k t more old.own c.own new.own is adds.own;
  times = λ i. scaled cap k t more (slice_index old.times i) (c.times i) (slice_index new.times i) is (adds.times i);
  size = adds.size;
}

-- ---- operands

sum_end : {X : Type 0} (f : X → ℕ) (xs : List X) (x : X) → sum_by f xs + f x ≡ sum_by f (xs ++ x ∷ [])
sum_end f xs x =
    let a = sum_by-append f xs (x ∷ []) in let b = sum_by-cons f x [] in
    let z : sum_by f [] ≡ 0 = refl in omega (arith, a, b, z)

counts_more : (c : ℕ → Count) (os : List ℕ) (i : ℕ) → i < length os
    → map c (take (i + 1) os) ≡ map c (take i os) ++ c (get_or os i 0) ∷ []
counts_more c os i lt = ap (map c) (take_more os i 0 lt) ∙ map-append c (take i os) (get_or os i 0 ∷ [])

pub operator_more : (cap k n : ℕ) (c : ℕ → Count) (os : List ℕ) (i : ℕ) (old now new : Tally) → i < length os
    → Adds cap k (sum_of n (map c (take i os))) old now → Adds cap k (c (get_or os i 0)) now new
    → Adds cap k (sum_of n (map c (take (i + 1) os))) old new
operator_more cap k n c os i old now new lt first second =
    adds_more cap k _ _ _ old now new first second
    (let e = sum_end (λ (d : Count). d.own) (map c (take i os)) (c (get_or os i 0)) in
    let s = ap (λ ds. sum_by (λ (d : Count). d.own) ds) (counts_more c os i lt) in omega (arith, e, s))
    (λ j. sum_end (λ (d : Count). d.times j) (map c (take i os)) (c (get_or os i 0))
    ∙ ap (λ ds. sum_by (λ (d : Count). d.times j) ds) (sym (counts_more c os i lt)))

weighed_end : (t : ℕ → ℕ) (i : ℕ) (ns : List ℕ) (n : ℕ)
    → weighed t i ns + t (i + length ns) * n ≡ weighed t i (ns ++ n ∷ [])
weighed_end t i [] n = let e : i + 0 ≡ i = omega arith in let s = ap (λ j. t j * n) e in omega (arith, s)
weighed_end t i (m ∷ ns) n =
    let rest = weighed_end t (suc i) ns n in
    let e : i + suc (length ns) ≡ suc i + length ns = omega arith in
    let s = ap (λ j. t j * n) e in
    omega (arith, rest, s)

length_take : (xs : List ℕ) (k : ℕ) → k ≤ length xs → length (take k xs) ≡ k
length_take xs zero le = refl
length_take [] (suc k) le = absurd (omega (arith, le))
length_take (x ∷ xs) (suc k) le = let rest = length_take xs k (omega (arith, le)) in omega (arith, rest)

part : (t : ℕ → ℕ) (g : Count → ℕ) (c : ℕ → Count) (os : List ℕ) (i : ℕ) → i < length os
    → weighed t 0 (map g (map c (take i os))) + t i * g (c (get_or os i 0))
    ≡ weighed t 0 (map g (map c (take (i + 1) os)))
part t g c os i lt =
    let ns = map g (map c (take i os)) in
    let size : length ns ≡ i = length-map (map c (take i os)) g ∙ length-map (take i os) c
    ∙ length_take os i (omega (arith, lt)) in
    let all : map g (map c (take (i + 1) os)) ≡ ns ++ g (c (get_or os i 0)) ∷ [] =
    ap (map g) (counts_more c os i lt) ∙ map-append g (map c (take i os)) (c (get_or os i 0) ∷ []) in
    let e = weighed_end t 0 ns (g (c (get_or os i 0))) in
    let s : 0 + length ns ≡ i = omega (arith, size) in
    ap (λ j. weighed t 0 ns + t j * g (c (get_or os i 0))) (sym s) ∙ e ∙ ap (weighed t 0) (sym all)

pub use_more : (cap k more : ℕ) (f : Count) (c : ℕ → Count) (os : List ℕ) (i : ℕ) (old now new : Tally) → i < length os
    → more ≡ min cap (k * min cap (f.times i)) → Adds cap k (count_through f (map c (take i os))) old now
    → Adds cap more (c (get_or os i 0)) now new → Adds cap k (count_through f (map c (take (i + 1) os))) old new
unfolding times_of
use_more cap k more f c os i old now new lt is first second =
    adds_more cap k _ (times_of (f.times i) (c (get_or os i 0))) _ old now new first
    (adds_scaled cap k (f.times i) more (c (get_or os i 0)) now new is second)
    (let e = part f.times (λ (d : Count). d.own) c os i lt in omega (arith, e))
    (λ j. part f.times (λ (d : Count). d.times j) c os i lt)
