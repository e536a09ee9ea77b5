-- Orders that grow by one definition at a time.
use Rattle.std.proofs.Common.{◌≡◌, ◌≢◌, ◌⊎◌, inl, inr, ℕ, ◌+◌, ◌-◌, ◌<◌, ◌≤◌, List, [], replicate, refl, sym, ◌∙◌, ap}
use Rattle.std.proofs.Common.{subst, length, arith, get_or}
use Rattle.std.specs.Prelude.{slice_index, slice_set}
use Rattle.std.specs.List.{insert}
use Rattle.std.proofs.lemmas.Bool.{cases_eq, cases_lt}
use Rattle.std.proofs.lemmas.List.{get_or-set_same, get_or-set_other, length-set, length-replicate}
use Rattle.std.proofs.lemmas.List.Edits.{get_or-insert_at, get_or-insert_below, get_or-insert_above, length-insert}
use Rattle.mp_base.proofs.Entries.{within, zeros_at}
use Rattle.mp_program.specs.declared.program.Def.{Def}
use Rattle.mp_program.specs.declared.program.Program.{Program}
use Rattle.mp_program.specs.Reads.{Reads, Chain, link, IsOrder}
use Rattle.mp_order.specs.Demands.{IsDriven}
use Rattle.mp_order.specs.Chains.{AreReachers, Placed}
use Rattle.mp_order.proofs.Closing.{FlagsClosed, read_driven, start_driven, join}

-- what stands at an index once y is put in: an entry of the list, or y
abbrev Source : List ℕ → ℕ → ℕ → ℕ → Type 0
Source xs at y k =
    ((i : ℕ) × (i < length xs) × (((k < at) × (i ≡ k)) ⊎ ((at < k) × (i + 1 ≡ k)))
    × (get_or (insert xs at y) k 0 ≡ get_or xs i 0))
    ⊎ ((k ≡ at) × (get_or (insert xs at y) k 0 ≡ y))

source : (xs : List ℕ) (at y k : ℕ) → at ≤ length xs → k < length (insert xs at y) → Source xs at y k
source xs at y k le lt = elim (cases_lt k at) [
  | inl below ↦ inl (k, omega (arith, below, le), inl (below, refl), get_or-insert_below xs at y 0 k below le)
  | inr above ↦ elim (cases_eq k at) [
    | inl same ↦ inr (same, ap (λ i. get_or (insert xs at y) i 0) same ∙ get_or-insert_at xs at y 0 le)
    | inr ne ↦ inl (
      k - 1,
      omega (arith, lt, length-insert xs at y le, above, ne),
      inr (omega (arith, above, ne), omega (arith, above, ne)),
      (let e : k ≡ (k - 1) + 1 = omega (arith, above, ne) in
          ap (λ i. get_or (insert xs at y) i 0) e
          ∙ get_or-insert_above xs at y 0 (k - 1) (omega (arith, above, ne)) le),
    )
  ]
]

-- what was found out of the definitions before n: those on closed chains, and an order of the others
pub record Ordering (p : Program) (n : ℕ) (closed order : List ℕ) : Type 0 where
  pub size : length closed ≡ length p.defs
  pub flagged : (d : ℕ) → 0 < slice_index closed d → Chain p d d
  pub sorted : (d : ℕ) (x : Def) → d < n → IsDriven p d x
      → (0 < slice_index closed d) ⊎ ((k : ℕ) × (k < length order) × (slice_index order k ≡ d))
  pub driven : (k : ℕ) → k < length order → (slice_index order k < n) × ((x : Def) × IsDriven p (slice_index order k) x)
  pub once : (j k : ℕ) → j < k → k < length order → slice_index order j ≡ slice_index order k → ⊥
  pub apart : (j k : ℕ) → j ≤ k → k < length order → Chain p (slice_index order j) (slice_index order k) → ⊥

pub ordering_start : (p : Program) (zeros : List ℕ) → zeros ≡ replicate (length p.defs) 0 → Ordering p 0 zeros []
ordering_start p zeros none = record {
  size = ap (length {A = ℕ}) none ∙ length-replicate {A = ℕ} (length p.defs) 0;
  flagged = λ d some. let e : get_or zeros d 0 ≡ 0 = ap (λ xs. get_or xs d 0) none ∙ zeros_at (length p.defs) d in
      absurd (omega (arith, e, some));
  sorted = λ d x lt. absurd (omega (arith, lt));
  driven = λ k lt. absurd (omega (arith, lt));
  once = λ j k lt kl. absurd (omega (arith, kl));
  apart = λ j k le kl. absurd (omega (arith, kl));
}

pub ordering_skip : (p : Program) (n : ℕ) (closed order : List ℕ) → Ordering p n closed order
    → ((x : Def) → IsDriven p n x → ⊥) → Ordering p (n + 1) closed order
ordering_skip p n closed order o none = record {
  size = o.size;
  flagged = o.flagged;
  sorted = λ d x lt driven. elim (cases_lt d n) [
    | inl below ↦ o.sorted d x below driven
    | inr above ↦
        (let P : ℕ → Type 0 = λ i. IsDriven p i x in absurd (none x (subst P (omega (arith, lt, above)) driven)))
  ];
  driven = λ k kl. (omega (arith, (o.driven k kl).0), (o.driven k kl).1);
  once = o.once;
  apart = o.apart;
}

pub ordering_closed : (p : Program) (n : ℕ) (closed order : List ℕ) → Ordering p n closed order → n < length p.defs
    → Chain p n n → Ordering p (n + 1) (slice_set closed n 1) order
ordering_closed p n closed order o inside chain = record {
  size = length-set closed n 1 ∙ o.size;
  flagged = λ d some. elim (cases_eq d n) [
    | inl same ↦ (let P : ℕ → Type 0 = λ i. Chain p i i in subst P (sym same) chain)
    | inr ne ↦ o.flagged d (omega (arith, some, other d ne))
  ];
  sorted = λ d x lt driven. elim (cases_eq d n) [
    | inl same ↦ inl (omega (arith, here d same))
    | inr ne ↦ kept d ne (o.sorted d x (omega (arith, lt, ne)) driven)
  ];
  driven = λ k kl. (omega (arith, (o.driven k kl).0), (o.driven k kl).1);
  once = o.once;
  apart = o.apart;
}
  where
    other : (d : ℕ) → d ≢ n → get_or (slice_set closed n 1) d 0 ≡ get_or closed d 0
    other d ne = get_or-set_other closed n d 1 0 ne

    here : (d : ℕ) → d ≡ n → get_or (slice_set closed n 1) d 0 ≡ 1
    here d same =
        ap (λ i. get_or (slice_set closed n 1) i 0) same ∙ get_or-set_same closed n 1 0 (omega (arith, inside, o.size))

    kept : (d : ℕ) → d ≢ n → (0 < get_or closed d 0) ⊎ ((k : ℕ) × (k < length order) × (get_or order k 0 ≡ d))
        → (0 < get_or (slice_set closed n 1) d 0) ⊎ ((k : ℕ) × (k < length order) × (get_or order k 0 ≡ d))
    kept d ne (inl some) = inl (omega (arith, some, other d ne))
    kept d ne (inr found) = inr found

pub ordering_placed : (p : Program) (n : ℕ) (x : Def) (closed reach old new : List ℕ) → Ordering p n closed old
    → IsDriven p n x → AreReachers p n reach → slice_index reach n ≡ 0
    → Placed reach n old new → Ordering p (n + 1) closed new
ordering_placed p n x closed reach old new o driven r unclosed (at, le, is, before, here) =
    let P : List ℕ → Type 0 = λ xs. Ordering p (n + 1) closed xs in subst P (sym is) ordered
  where
    sorts : (d : ℕ) → (0 < get_or closed d 0) ⊎ ((k : ℕ) × (k < length old) × (get_or old k 0 ≡ d))
        → (0 < get_or closed d 0) ⊎ ((k : ℕ) × (k < length (insert old at n)) × (get_or (insert old at n) k 0 ≡ d))
    sorts d (inl some) = inl some
    sorts d (inr (k, kl, e)) = elim (cases_lt k at) [
      | inl below ↦ inr (k, omega (arith, kl, length-insert old at n le), get_or-insert_below old at n 0 k below le ∙ e)
      | inr above ↦
          inr (k + 1, omega (arith, kl, length-insert old at n le), get_or-insert_above old at n 0 k above le ∙ e)
    ]

    drives : (k : ℕ) → Source old at n k
        → (get_or (insert old at n) k 0 < n + 1) × ((y : Def) × IsDriven p (get_or (insert old at n) k 0) y)
    drives k (inl (i, il, moved, e)) =
        let P : ℕ → Type 0 = λ d. (d < n) × ((y : Def) × IsDriven p d y) in
        let h : P (get_or (insert old at n) k 0) = subst P (sym e) (o.driven i il) in (omega (arith, h.0), h.1)
    drives k (inr (same, e)) =
        (omega (arith, e), (x, (let P : ℕ → Type 0 = λ d. IsDriven p d x in subst P (sym e) driven)))

    ascends : (i j k l : ℕ) → (((k < at) × (i ≡ k)) ⊎ ((at < k) × (i + 1 ≡ k)))
        → (((l < at) × (j ≡ l)) ⊎ ((at < l) × (j + 1 ≡ l))) → k ≤ l → (i ≤ j) × (k < l → i < j)
    ascends i j k l (inl (a, b)) (inl (c, d)) le = (omega (arith, b, d, le), λ lt. omega (arith, b, d, lt))
    ascends i j k l (inl (a, b)) (inr (c, d)) le = (omega (arith, a, b, c, d), λ lt. omega (arith, a, b, c, d))
    ascends i j k l (inr (a, b)) (inl (c, d)) le = absurd (omega (arith, a, c, le))
    ascends i j k l (inr (a, b)) (inr (c, d)) le = (omega (arith, b, d, le), λ lt. omega (arith, b, d, lt))

    ones : (j k : ℕ) → j < k → Source old at n j → Source old at n k
        → get_or (insert old at n) j 0 ≡ get_or (insert old at n) k 0 → ⊥
    ones j k lt (inl (i, il, mi, e)) (inl (l, ll, ml, g)) h =
        o.once i l ((ascends i l j k mi ml (omega (arith, lt))).1 lt) ll (sym e ∙ h ∙ g)
    ones j k lt (inl (i, il, mi, e)) (inr (same, g)) h = omega (arith, (o.driven i il).0, e, g, h)
    ones j k lt (inr (same, e)) (inl (l, ll, ml, g)) h = omega (arith, (o.driven l ll).0, e, g, h)
    ones j k lt (inr (same, e)) (inr (also, g)) h = omega (arith, same, also, lt)

    chain_as : (a b c d : ℕ) → a ≡ c → b ≡ d → Chain p a b → Chain p c d
    chain_as a b c d e g chain =
        let P : ℕ → Type 0 = λ i. Chain p i b in
        let Q : ℕ → Type 0 = λ i. Chain p c i in
        subst Q g (subst P e chain)

    aparts : (j k : ℕ) → j ≤ k → Source old at n j → Source old at n k
        → Chain p (get_or (insert old at n) j 0) (get_or (insert old at n) k 0) → ⊥
    aparts j k jk (inl (i, il, mi, e)) (inl (l, ll, ml, g)) chain =
        o.apart i l (ascends i l j k mi ml jk).0 ll (chain_as _ _ _ _ e g chain)
    aparts j k jk (inl (i, il, inl (below, same), e)) (inr (also, g)) chain =
        omega (arith, before i (omega (arith, below, same)), r.complete (get_or old i 0) (chain_as _ _ _ _ e g chain))
    aparts j k jk (inl (i, il, inr (above, next), e)) (inr (also, g)) chain = omega (arith, above, also, jk)
    aparts j k jk (inr (same, e)) (inl (l, ll, inl (below, is_l), g)) chain = omega (arith, below, same, jk)
    aparts j k jk (inr (same, e)) (inl (l, ll, inr (above, next), g)) chain =
        let lt : at < length old = omega (arith, ll, above, next) in
        let d = o.driven at lt in
        o.apart at l (omega (arith, above, next)) ll
        (join p (get_or old at 0) n (get_or old l 0) (r.sound (get_or old at 0) d.1.0 d.1.1 (here lt))
        (chain_as _ _ _ _ e g chain))
    aparts j k jk (inr (same, e)) (inr (also, g)) chain =
        omega (arith, unclosed, r.complete n (chain_as _ _ _ _ e g chain))

    ordered : Ordering p (n + 1) closed (insert old at n)
    ordered = record {
      size = o.size;
      flagged = o.flagged;
      sorted = λ d y lt dy. elim (cases_lt d n) [
        | inl below ↦ sorts d (o.sorted d y below dy)
        | inr above ↦
            inr (
              at,
              omega (arith, le, length-insert old at n le),
              get_or-insert_at old at n 0 le
                  ∙ omega (arith, lt, above),
            )
      ];
      driven = λ k kl. drives k (source old at n k le kl);
      once = λ j k lt kl. ones j k lt (source old at n j le (omega (arith, lt, kl))) (source old at n k le kl);
      apart = λ j k jk kl. aparts j k jk (source old at n j le (omega (arith, jk, kl))) (source old at n k le kl);
    }

pub ordering_flags : (p : Program) (n : ℕ) (closed order : List ℕ) → length p.defs ≤ n → Ordering p n closed order
    → FlagsClosed p closed
ordering_flags p n closed order le o = λ d chain. flag d chain
  where
    flag : (d : ℕ) → Chain p d d → 0 < get_or closed d 0
    flag d chain =
        let (x, driven) = start_driven p d d chain in
        elim (o.sorted d x (omega (arith, within p.defs d driven.0, le)) driven) [
          | inl some ↦ some
          | inr (k, kl, e) ↦
              (let P : ℕ → Type 0 = λ i. Chain p i i in absurd (o.apart k k (omega arith) kl (subst P (sym e) chain)))
        ]

pub ordering_done : (p : Program) (n : ℕ) (closed order : List ℕ) → length p.defs ≤ n → Ordering p n closed order
    → ((d : ℕ) → 0 < slice_index closed d → ⊥) → IsOrder p order
ordering_done p n closed order le o none = record {
  driven = λ k kl. (let (lt, (x, (at, d))) = o.driven k kl in (x, at, d));
  once = o.once;
  all = λ d x at driven. placed d x (at, driven);
  after = λ k b kl reads.
      let (y, dy) = read_driven p (get_or order k 0) b reads in
      let (j, jl, e) = placed b y dy in
      elim (cases_lt j k) [
        | inl below ↦ (j, below, e)
        | inr above ↦
            (let P : ℕ → Type 0 = λ i. Reads p (get_or order k 0) i in
            absurd (o.apart k j above jl (link (subst P (sym e) reads))))
      ];
}
  where
    placed : (d : ℕ) (x : Def) → IsDriven p d x → (k : ℕ) × (k < length order) × (get_or order k 0 ≡ d)
    placed d x driven = elim (o.sorted d x (omega (arith, within p.defs d driven.0, le)) driven) [
      | inl some ↦ absurd (none d some)
      | inr found ↦ found
    ]
