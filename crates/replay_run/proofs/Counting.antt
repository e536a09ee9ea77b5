-- Counts of a list's values are those of the nodes, and how they are written.
use Rattle.std.proofs.Common.{
  ℕ,
  zero,
  suc,
  ◌≡◌,
  ◌≤◌,
  ◌+◌,
  ap,
  sym,
  ◌∙◌,
  refl,
  append_assoc,
  arith,
  List,
  ◌++◌,
  length,
  take,
  cond,
}
use Rattle.std.specs.Prelude.{count_by}
use Rattle.std.proofs.lemmas.List.{take_all}
use Rattle.std.proofs.lemmas.List.Sums.{sum_by_more}
use Rattle.mp_base.specs.declared.value.Trit.{Trit}
use Rattle.mp_base.specs.declared.value.Trit.TheVariants.{One, X}
use Rattle.switch_net.specs.Values.{value_at}
use Rattle.switch_net.specs.declared.network.Network.{Network}
use Rattle.switch_net.specs.Sizes.{same_value, count_below, nodes_with}
use Rattle.mask_net.specs.SizeLine.{counts_text}

counted_to : (values : List Trit) (b : Trit) (n : ℕ) → n ≤ length values
    → count_below (value_at values) b n ≡ count_by (same_value b) (take n values)
counted_to values b zero le = refl
counted_to values b (suc n) le =
    let e = counted_to values b n (omega (arith, le)) in
    let s = sum_by_more (λ x. cond (same_value b x) 1 0) values n X (omega (arith, le)) in
    let q : suc n ≡ n + 1 = omega arith in
    let t = ap (λ k. count_by (same_value b) (take k values)) q in
    omega (arith, e, s, t)

counted : (values : List Trit) (b : Trit) (n : ℕ) → length values ≡ n
    → count_by (same_value b) values ≡ count_below (value_at values) b n
counted values b n e =
    sym (counted_to values b n (omega (arith, e)) ∙ ap (count_by (same_value b)) (take_all n values (omega (arith, e))))

-- the counts that are written are those of the network's nodes
pub counts_are : (net : Network) (values : List Trit) → length values ≡ net.nodes
    → counts_text (count_by (same_value One) values) (count_by (same_value X) values)
    ≡ counts_text (nodes_with net (value_at values) One) (nodes_with net (value_at values) X)
counts_are net values size =
    let one : count_by (same_value One) values ≡ nodes_with net (value_at values) One =
    counted values One net.nodes size in
    let x : count_by (same_value X) values ≡ nodes_with net (value_at values) X = counted values X net.nodes size in
    λ i. counts_text (one i) (x i)

pub regrouped : (a b c d : List ℕ) → a ++ ((b ++ c) ++ d) ≡ ((a ++ b) ++ c) ++ d
regrouped a b c d = sym (ap (λ t. t ++ d) (append_assoc a b c) ∙ append_assoc a (b ++ c) d)
