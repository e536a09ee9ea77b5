-- Nodes that a text spells are in text order.
use Rattle.std.proofs.Common.{◌≡◌, ℕ, zero, suc, ◌+◌, ◌<◌, ◌≤◌, List, [], ◌∷◌, refl, ap, subst, inl, inr, length}
use Rattle.std.proofs.Common.{get_or, arith}
use Rattle.std.specs.Prelude.{slice_index, slice_range}
use Rattle.std.proofs.lemmas.Bool.{cases_lt}
use Rattle.mp_base.specs.declared.refusal.Place.{Place}
use Rattle.form_reader.specs.declared.forms.Kind.{Kind}
use Rattle.form_reader.specs.declared.forms.Kind.TheVariants.{Number, Symbol, Group}
use Rattle.form_reader.specs.declared.forms.Node.{Node}
use Rattle.form_reader.specs.Sound.{no_node, node, items_of}
use Rattle.form_reader.specs.Text.{place_at}
use Rattle.form_reader.specs.Spelling.{IsKindOf, IsNode, Spelled, none, token, list}

-- m stands in these items at p
abbrev pub At : List ℕ → ℕ → ℕ → Type 0
At items p m = (p < length items) × (m ≡ slice_index items p)

-- node m is the item of node n at p
abbrev pub Holds : List Node → ℕ → ℕ → ℕ → Type 0
Holds xs n p m = At (items_of (get_or xs n no_node).kind) p m

-- the offset of a node
abbrev pub offset : List Node → ℕ → ℕ
offset xs n = (get_or xs n no_node).place.offset

-- what is known of the nodes of some items, which are those from i up to j
pub record IsOrdered (xs : List Node) (at i : ℕ) (items : List ℕ) (to j : ℕ) : Type 0 where
  pub le : i ≤ j
  pub offsets_le : at ≤ to
  pub top : (p m : ℕ) → At items p m → (i ≤ m) × (m < j)
  pub top_once : (p q m : ℕ) → At items p m → At items q m → p ≡ q
  pub behind : (n p m : ℕ) → i ≤ n → n < j → Holds xs n p m → (n < m) × (m < j)
  pub apart : (n p q m : ℕ) → i ≤ n → n < j → Holds xs n p m → At items q m → ⊥
  pub one_list : (a b p q m : ℕ) → i ≤ a → a < j → i ≤ b → b < j → Holds xs a p m → Holds xs b q m → a ≡ b
  pub one_place : (a p q m : ℕ) → i ≤ a → a < j → Holds xs a p m → Holds xs a q m → p ≡ q
  pub offsets : (a : ℕ) → i ≤ a → a < j → (at ≤ offset xs a) × (offset xs a < to)
  pub ascend : (a b : ℕ) → i ≤ a → a < b → b < j → offset xs a < offset xs b

-- ---- the items i ∷ items

top_more : (i k j : ℕ) (items : List ℕ) → i < k → k ≤ j → ((p m : ℕ) → At items p m → (k ≤ m) × (m < j)) → (p m : ℕ)
    → At (i ∷ items) p m → (i ≤ m) × (m < j)
top_more i k j items lt le top zero m h = (omega (arith, h.1), omega (arith, h.1, lt, le))
top_more i k j items lt le top (suc p) m h = let r = top p m (omega (arith, h.0), h.1) in (omega (arith, r.0, lt), r.1)

top_once_more : (i k j : ℕ) (items : List ℕ) → i < k → ((p m : ℕ) → At items p m → (k ≤ m) × (m < j))
    → ((p q m : ℕ) → At items p m → At items q m → p ≡ q)
    → (p q m : ℕ) → At (i ∷ items) p m → At (i ∷ items) q m → p ≡ q
top_once_more i k j items lt top once zero zero m h g = refl
top_once_more i k j items lt top once zero (suc q) m h g = let r = top q m (omega (arith, g.0), g.1) in
    absurd (omega (arith, h.1, r.0, lt))
top_once_more i k j items lt top once (suc p) zero m h g = let r = top p m (omega (arith, h.0), h.1) in
    absurd (omega (arith, g.1, r.0, lt))
top_once_more i k j items lt top once (suc p) (suc q) m h g =
    ap suc (once p q m (omega (arith, h.0), h.1) (omega (arith, g.0), g.1))

-- ---- a node i, the nodes of its own items up to k, and those of the other items

holds_here : (xs : List Node) (i : ℕ) (place : Place) (kind : Kind) (p m : ℕ)
    → get_or xs i no_node ≡ record { place = place; kind = kind } → Holds xs i p m → At (items_of kind) p m
holds_here xs i place kind p m is h = subst (λ (x : Node). At (items_of x.kind) p m) is h

module _ (xs : List Node) (at i : ℕ) (inner items : List ℕ) (from end k start to j : ℕ)
    (within : IsOrdered xs from (suc i) inner end k) (rest : IsOrdered xs start k items to j)
    (holds : (p m : ℕ) → Holds xs i p m → At inner p m) (before : at ≤ offset xs i) (behind_it : offset xs i < from)
    (then : end ≤ start) where
  -- a node is i, under i, or behind
  behind_i : (n p m : ℕ) → i ≤ n → n < k → Holds xs n p m → (n < m) × (m < k)
  behind_i n p m lo hi h =
      elim (cases_lt i n) [
        | inl under ↦ within.behind n p m (omega (arith, under)) hi h
        | inr here ↦
            let same : n ≡ i = omega (arith, here, lo) in
            let r = within.top p m (holds p m (subst (λ z. Holds xs z p m) same h)) in (omega (arith, same, r.0), r.1)
      ]

  behind_all : (n p m : ℕ) → i ≤ n → n < j → Holds xs n p m → (n < m) × (m < j)
  behind_all n p m lo hi h =
      elim (cases_lt n k) [
        | inl low ↦ let r = behind_i n p m lo low h in (r.0, omega (arith, r.1, rest.le))
        | inr high ↦ rest.behind n p m high hi h
      ]

  -- the list that holds a node stands on the same side
  side : (n p m : ℕ) → i ≤ n → n < j → Holds xs n p m → m < k → n < k
  side n p m lo hi h low = let r = behind_all n p m lo hi h in omega (arith, r.0, low)

  other_side : (n p m : ℕ) → i ≤ n → n < j → Holds xs n p m → k ≤ m → k ≤ n
  other_side n p m lo hi h high =
      elim (cases_lt n k) [
        | inl low ↦ let r = behind_i n p m lo low h in absurd (omega (arith, r.1, high))
        | inr above ↦ above
      ]

  apart_all : (n p q m : ℕ) → i ≤ n → n < j → Holds xs n p m → At (i ∷ items) q m → ⊥
  apart_all n p zero m lo hi h g = let r = behind_all n p m lo hi h in omega (arith, r.0, g.1, lo)
  apart_all n p (suc q) m lo hi h g =
      let there : At items q m = (omega (arith, g.0), g.1) in
      let r = rest.top q m there in
      rest.apart n p q m (other_side n p m lo hi h r.0) hi h there

  -- under i
  one_list_i : (a b p q m : ℕ) → i ≤ a → a < k → i ≤ b → b < k → Holds xs a p m → Holds xs b q m → a ≡ b
  one_list_i a b p q m lo hi lo' hi' h g =
      elim (cases_lt i a) [
        | inl under ↦ elim (cases_lt i b) [
          | inl under' ↦ within.one_list a b p q m (omega (arith, under)) hi (omega (arith, under')) hi' h g
          | inr here' ↦
              let same : b ≡ i = omega (arith, here', lo') in
              absurd (within.apart a p q m (omega (arith, under)) hi h (holds q m (subst (λ z. Holds xs z q m) same g)))
        ]
        | inr here ↦
            let same : a ≡ i = omega (arith, here, lo) in
            elim (cases_lt i b) [
              | inl under' ↦
                  absurd (within.apart b q p m (omega (arith, under')) hi' g
                  (holds p m (subst (λ z. Holds xs z p m) same h)))
              | inr here' ↦ omega (arith, same, here', lo')
            ]
      ]

  one_list_all : (a b p q m : ℕ) → i ≤ a → a < j → i ≤ b → b < j → Holds xs a p m → Holds xs b q m → a ≡ b
  one_list_all a b p q m lo hi lo' hi' h g =
      elim (cases_lt m k) [
        | inl low ↦ one_list_i a b p q m lo (side a p m lo hi h low) lo' (side b q m lo' hi' g low) h g
        | inr high ↦
            rest.one_list a b p q m (other_side a p m lo hi h high) hi (other_side b q m lo' hi' g high) hi' h g
      ]

  one_place_all : (a p q m : ℕ) → i ≤ a → a < j → Holds xs a p m → Holds xs a q m → p ≡ q
  one_place_all a p q m lo hi h g =
      elim (cases_lt a k) [
        | inl low ↦ elim (cases_lt i a) [
          | inl under ↦ within.one_place a p q m (omega (arith, under)) low h g
          | inr here ↦
              let same : a ≡ i = omega (arith, here, lo) in
              within.top_once p q m (holds p m (subst (λ z. Holds xs z p m) same h))
              (holds q m (subst (λ z. Holds xs z q m) same g))
        ]
        | inr high ↦ rest.one_place a p q m high hi h g
      ]

  offsets_all : (a : ℕ) → i ≤ a → a < j → (at ≤ offset xs a) × (offset xs a < to)
  offsets_all a lo hi =
      elim (cases_lt a k) [
        | inl low ↦ elim (cases_lt i a) [
          | inl under ↦ let r = within.offsets a (omega (arith, under)) low in
              (omega (arith, r.0, before, behind_it), omega (arith, r.1, then, rest.offsets_le))
          | inr here ↦
              let same : offset xs a ≡ offset xs i = ap (offset xs) (omega (arith, here, lo)) in
              (omega (arith, same, before), omega (arith, same, behind_it, within.offsets_le, then, rest.offsets_le))
        ]
        | inr high ↦ let r = rest.offsets a high hi in
            (omega (arith, r.0, before, behind_it, within.offsets_le, then), r.1)
      ]

  ascend_all : (a b : ℕ) → i ≤ a → a < b → b < j → offset xs a < offset xs b
  ascend_all a b lo lt hi =
      elim (cases_lt a k) [
        | inl low ↦ elim (cases_lt b k) [
          | inl low' ↦ elim (cases_lt i a) [
            | inl under ↦ within.ascend a b (omega (arith, under)) lt low'
            | inr here ↦
                let same : offset xs a ≡ offset xs i = ap (offset xs) (omega (arith, here, lo)) in
                let r = within.offsets b (omega (arith, lo, lt)) low' in omega (arith, same, r.0, behind_it)
          ]
          | inr high' ↦
              let r = rest.offsets b high' hi in
              elim (cases_lt i a) [
                | inl under ↦ let s = within.offsets a (omega (arith, under)) low in omega (arith, s.1, then, r.0)
                | inr here ↦
                    let same : offset xs a ≡ offset xs i = ap (offset xs) (omega (arith, here, lo)) in
                    omega (arith, same, behind_it, within.offsets_le, then, r.0)
              ]
        ]
        | inr high ↦ rest.ascend a b high lt hi
      ]

  joined : IsOrdered xs at i (i ∷ items) to j
  joined =
      let le = within.le in
      record {
        le = omega (arith, le, rest.le);
        offsets_le = omega (arith, before, behind_it, within.offsets_le, then, rest.offsets_le);
        top = top_more i k j items (omega (arith, le)) rest.le rest.top;
        top_once = top_once_more i k j items (omega (arith, le)) rest.top rest.top_once;
        behind = behind_all;
        apart = apart_all;
        one_list = one_list_all;
        one_place = one_place_all;
        offsets = offsets_all;
        ascend = ascend_all;
      }

nothing : (xs : List Node) (at i to : ℕ) → at ≤ to → IsOrdered xs at i [] to i
nothing xs at i to le = record {
  le = omega arith;
  offsets_le = le;
  top = λ p m h. absurd (omega (arith, h.0));
  top_once = λ p q m h. absurd (omega (arith, h.0));
  behind = λ n p m lo hi. absurd (omega (arith, lo, hi));
  apart = λ n p q m lo hi. absurd (omega (arith, lo, hi));
  one_list = λ a b p q m lo hi. absurd (omega (arith, lo, hi));
  one_place = λ a p q m lo hi. absurd (omega (arith, lo, hi));
  offsets = λ a lo hi. absurd (omega (arith, lo, hi));
  ascend = λ a b lo lt hi. absurd (omega (arith, lo, lt, hi));
}

pub no_items : (run : List ℕ) (kind : Kind) → IsKindOf run kind → items_of kind ≡ []
no_items run (Number n) is = refl
no_items run (Symbol x) is = refl
no_items run (Group items) is = absurd is

place_of : (text : List ℕ) (xs : List Node) (i s : ℕ) (kind : Kind) → IsNode xs i (place_at text s) kind
    → offset xs i ≡ s
place_of text xs i s kind is = ap (λ (x : Node). x.place.offset) is.1

pub ordered : {text : List ℕ} {xs : List Node} {depth at i to j : ℕ} {items : List ℕ}
    → Spelled text xs depth at i items to j → IsOrdered xs at i items to j
ordered {xs = xs} (none {at = at} {i = i}) = nothing xs at i at (omega arith)
ordered {text = text} {xs = xs}
    (token {at = at} {i = i} {to = to} {j = j} {items = items} s e kind gap run is node rest) =
    let here = place_of text xs i s kind node in
    joined xs at i [] items (suc s) e (suc i) e to j (nothing xs (suc s) (suc i) e run.some) (ordered rest)
    (λ p m h. subst (λ z. At z p m) (no_items (slice_range text s e) kind is)
    (holds_here xs i (place_at text s) kind p m node.1 h)) (omega (arith, here, gap.0)) (omega (arith, here))
    (omega arith)
ordered {text = text} {xs = xs}
    (list {at = at} {i = i} {to = to} {j = j} {items = items} s e c k inner gap byte shallow node within gap2 byte2
    rest) =
    let here = place_of text xs i s (Group inner) node in
    joined xs at i inner items (s + 1) e k (c + 1) to j (ordered within) (ordered rest)
    (λ p m h. holds_here xs i (place_at text s) (Group inner) p m node.1 h) (omega (arith, here, gap.0))
    (omega (arith, here)) (omega (arith, gap2.0))

-- the first item is the first node
pub first_root : {text : List ℕ} {xs : List Node} {depth at i to j r : ℕ} {rs : List ℕ}
    → Spelled text xs depth at i (r ∷ rs) to j → r ≡ i
first_root (token s e kind gap run is node rest) = refl
first_root (list s e c k inner gap byte shallow node within gap2 byte2 rest) = refl

-- the nodes before the second item keep their items before it
pub record IsCut (xs : List Node) (i b : ℕ) : Type 0 where
  pub lt : i < b
  pub kept : (n p m : ℕ) → i ≤ n → n < b → Holds xs n p m → m < b

pub cut : {text : List ℕ} {xs : List Node} {depth at i to j a b : ℕ} {rs : List ℕ}
    → Spelled text xs depth at i (a ∷ b ∷ rs) to j → IsCut xs i b
cut {text = text} {xs = xs} (token {i = i} s e kind gap run is node rest) =
    let second = first_root rest in
    record {
      lt = omega (arith, second);
      kept = λ n p m lo hi h.
          let same : n ≡ i = omega (arith, lo, hi, second) in
          let held : At [] p m =
          subst (λ z. At z p m) (no_items (slice_range text s e) kind is)
          (holds_here xs i (place_at text s) kind p m node.1 (subst (λ z. Holds xs z p m) same h)) in
          absurd (omega (arith, held.0));
    }
cut {text = text} {xs = xs} (list {i = i} s e c k inner gap byte shallow node within gap2 byte2 rest) =
    let second = first_root rest in
    let o = ordered within in
    record {
      lt = omega (arith, second, o.le);
      kept = λ n p m lo hi h. elim (cases_lt i n) [
        | inl under ↦ let r = o.behind n p m (omega (arith, under)) (omega (arith, hi, second)) h in
            omega (arith, r.1, second)
        | inr here ↦
            let same : n ≡ i = omega (arith, here, lo) in
            let r = o.top p m
            (holds_here xs i (place_at text s) (Group inner) p m node.1 (subst (λ z. Holds xs z p m) same h)) in
            omega (arith, r.1, second)
      ];
    }
