-- Tests of guesses: ranks, lists and weights.
use Rattle.std.proofs.Common.{◌≡◌, ◌⊎◌, inl, inr, ℕ, zero, suc, ◌+◌, ◌<◌, ◌≤◌, List, true, sym, ◌∙◌, ap, subst, arith}
use Rattle.std.proofs.Common.{get_or}
use Rattle.std.specs.Prelude.{slice_index, slice_set}
use Rattle.std.proofs.lemmas.Bool.{cases_eq, cases_lt}
use Rattle.std.proofs.lemmas.List.{get_or-set_other}
use Rattle.mp_program.specs.declared.program.Def.{Def}
use Rattle.mp_program.specs.declared.program.Program.{Program}
use Rattle.mp_program.specs.Names.{is_driven}
use Rattle.mp_program.specs.Reads.{Reads, Chain, link, more, IsOrder}
use Rattle.mp_base.specs.Entries.{IsAt}
use Rattle.mp_base.proofs.Entries.{same_at}
use Rattle.mp_order.specs.Demands.{IsDriven, WeighsDriven, AreDemands}
use Rattle.mp_order.specs.Ranks.{IsRanking, IsListing, Climbs}
use Rattle.mp_order.proofs.Closing.{FlagsClosed, read_driven}

-- what holds of the driven definitions before n, and of the one at n if it is driven
pub driven_more : (p : Program) (P : ℕ → Type 0) (n : ℕ) (z : Def) → IsAt p.defs n z
    → ((e : ℕ) → e < n → (x : Def) → IsDriven p e x → P e) → (is_driven z.what ≡ true → P n)
    → (e : ℕ) → e < n + 1 → (x : Def) → IsDriven p e x → P e
driven_more p P n z at below here e lt x driven = elim (cases_lt e n) [
  | inl less ↦ below e less x driven
  | inr above ↦ let same : e ≡ n = omega (arith, lt, above) in
      subst P (sym same)
      (here (ap (λ (y : Def). is_driven y.what) (same_at p.defs n e z x (sym same) at driven.0) ∙ driven.1))
]

pub kept_driven : (p : Program) (xs : List ℕ) (n v : ℕ) (z : Def) → IsDriven p n z → WeighsDriven p xs
    → WeighsDriven p (slice_set xs n v)
kept_driven p xs n v z driven w d some = elim (cases_eq d n) [
  | inl same ↦ (z, (let P : ℕ → Type 0 = λ i. IsDriven p i z in subst P (sym same) driven))
  | inr ne ↦
      w d (let e : get_or (slice_set xs n v) d 0 ≡ get_or xs d 0 = get_or-set_other xs n d v 0 ne in
      omega (arith, e, some))
]

pub listing_order : (p : Program) (ranks loose order : List ℕ) → IsRanking p ranks loose → IsListing p ranks order
    → ((a b : ℕ) → Reads p a b → slice_index loose a ≡ 0) → IsOrder p order
listing_order p ranks loose order r l none = record {
  driven = λ k kl. (let ((x, (at, driven)), rank) = l.only k kl in
      (x, at, driven));
  once = λ j k jk kl same. omega
      (arith, (l.only j (omega (arith, jk, kl))).1, (l.only k kl).1, ap (λ i. get_or ranks i 0) same, jk);
  all = λ d x is driven. (let (k, kl, at, rank) = l.all d x (is, driven) in (k, kl, at));
  after = λ k b kl reads.
      let (y, driven) = read_driven p (get_or order k 0) b reads in
      let (j, jl, at, rank) = l.all b y driven in (
        j,
        omega
            (arith, rank, (l.only k kl).1, r.strict (get_or order k 0) b reads (none (get_or order k 0) b reads)),
        at,
      );
}

chain_falls : (p : Program) (ranks loose : List ℕ) → IsRanking p ranks loose → (a c : ℕ) → Chain p a c
    → (slice_index ranks c ≤ slice_index ranks a)
    × (slice_index loose a ≡ 0 → slice_index ranks c < slice_index ranks a)
chain_falls p ranks loose r a c (link reads) = (r.weak a c reads, r.strict a c reads)
chain_falls p ranks loose r a c (more {b = b} reads chain) =
    let h : slice_index ranks c ≤ slice_index ranks b = (chain_falls p ranks loose r b c chain).0 in
    (omega (arith, h, r.weak a b reads), λ zero. omega (arith, h, r.strict a b reads zero))

pub ranking_flags : (p : Program) (ranks loose : List ℕ) → IsRanking p ranks loose → FlagsClosed p loose
ranking_flags p ranks loose r = λ d chain. elim (cases_lt 0 (slice_index loose d)) [
  | inl some ↦ some
  | inr none ↦ absurd (omega (arith, (chain_falls p ranks loose r d d chain).1 (omega (arith, none))))
]

climbing : (p : Program) (target : ℕ) (weights demands : List ℕ) → WeighsDriven p weights
    → AreDemands p weights demands → Climbs demands weights target
    → (n d : ℕ) → slice_index weights target ≤ slice_index weights d + n → 0 < slice_index weights d
    → (d ≡ target) ⊎ Chain p d target
climbing p target weights demands w h c zero d le some = elim (cases_eq d target) [
  | inl same ↦ inl same
  | inr ne ↦
      let (x, driven) = w d some in
      let up = c.rises d some ne in
      let (b, reads, weight) = h.met d x driven (omega (arith, up)) in
      absurd (omega (arith, le, up, weight, c.below b))
]
climbing p target weights demands w h c (suc n) d le some = elim (cases_eq d target) [
  | inl same ↦ inl same
  | inr ne ↦
      let (x, driven) = w d some in
      let up = c.rises d some ne in
      let (b, reads, weight) = h.met d x driven (omega (arith, up)) in
      elim (climbing p target weights demands w h c n b (omega (arith, le, up, weight)) (omega (arith, up, weight))) [
        | inl same ↦ (let P : ℕ → Type 0 = λ i. Reads p d i in inr (link (subst P same reads)))
        | inr chain ↦ inr (more reads chain)
      ]
]

pub climbs_closed : (p : Program) (target : ℕ) (weights demands : List ℕ) → WeighsDriven p weights
    → AreDemands p weights demands → Climbs demands weights target → Chain p target target
climbs_closed p target weights demands w h c =
    let (x, driven) = w target c.top in
    let (b, reads, weight) = h.met target x driven c.begins in
    elim (climbing p target weights demands w h c (slice_index weights target) b (omega arith)
    (omega (arith, weight, c.begins))) [
      | inl same ↦ (let P : ℕ → Type 0 = λ i. Reads p target i in link (subst P same reads))
      | inr chain ↦ more reads chain
    ]

pub zero_from : (k : ℕ) → (0 < k → ⊥) → k ≡ 0
zero_from k none = elim (cases_lt 0 k) [ inl some ↦ absurd (none some) | inr le ↦ omega (arith, le) ]
