-- Sets of layers by their numbers, and sets of these by their bits.
use Rattle.std.proofs.Common.{◌≡◌, ◌≢◌, ℕ, ◌+◌, ◌*◌, ◌/◌, ◌%◌, ◌^◌, ◌<◌, ◌≤◌, ◌⊎◌, ◌↔◌, inl, inr, Bool, true, false}
use Rattle.std.proofs.Common.{ltb, refl, sym, ◌∙◌, ap, subst, arith, ◌-◌, min, zero, suc, w32, if◌then◌else◌, bit_and}
use Rattle.std.proofs.Common.{bit_or, max}
use Rattle.std.specs.Prelude.{◌||◌, ◌&&◌, ◌==◌, nat_lt}
use Rattle.std.specs.Int.{bit_at, bit_not}
use Rattle.std.proofs.lemmas.Bool.{cases_eq, cases_lt, and_parts, eqb-true, ltb-true, agree_below_at}
use Rattle.std.proofs.lemmas.Nat.Bits.{bit_at_and, bit_at_or, bit_at-lt, bit_at-zero, bit_at-pow_other, bit_at_above}
use Rattle.std.proofs.lemmas.Nat.Bits.{bit_at_not, bit_at_cat_low, bit_at_cat_high, same_from_bits}
use lib.Bits.{or_zero_l}
use Rattle.std.proofs.lemmas.Nat.{pow_pos, div-add-mod'}
use Rattle.lam_geom.specs.declared.layer.Layer.{Layer}
use Rattle.lam_geom.specs.declared.layer.Layer.TheVariants.{NC, NI, NG}
use Rattle.cover_tree.specs.declared.kinds.Kinds.{Kinds}
use Rattle.cover_tree.specs.declared.layer_set.LayerSet.{LayerSet}
use Rattle.cover_tree.specs.declared.node.Tops.{Tops}
use Rattle.cover_tree.specs.Nodes.{above, keeps, layers_of}
use Rattle.cover_tree.specs.Kinds.{both, has_bit, index, raised, union, HasKind, IsWith, IsBeside, Share}
use Rattle.mp_base.specs.Apply.{truth}
use Rattle.cover_tree.proofs.Looking.{joint_tests}

both_bits : {n : ℕ} → n ≡ 1 → n ≡ 0 → ⊥
both_bits e f = absurd (omega arith)

-- what a test finds of each digit, and of each five
abbrev each : (Bool → Bool) → Bool
each f = f true && f false

abbrev each_five : (Bool → Bool → Bool → Bool → Bool → Bool) → Bool
each_five f = each (λ a. each (λ b. each (λ c. each (λ d. each (λ e. f a b c d e)))))

each-at : (f : Bool → Bool) → each f ≡ true → (b : Bool) → f b ≡ true
each-at f e true = (and_parts (f true) (f false) e).0
each-at f e false = (and_parts (f true) (f false) e).1

each_five-at : (f : Bool → Bool → Bool → Bool → Bool → Bool) → each_five f ≡ true → (a b c d e : Bool)
    → f a b c d e ≡ true
each_five-at f h a b c d e =
    let i = each-at (λ a. each (λ b. each (λ c. each (λ d. each (λ e. f a b c d e))))) h a in
    let j = each-at (λ b. each (λ c. each (λ d. each (λ e. f a b c d e)))) i b in
    let k = each-at (λ c. each (λ d. each (λ e. f a b c d e))) j c in
    let l = each-at (λ d. each (λ e. f a b c d e)) k d in
    each-at (λ e. f a b c d e) l e

-- two numbers that five digits give are the same where they are the same for each
pub same_for_five : (f g : Bool → Bool → Bool → Bool → Bool → ℕ)
    → each_five (λ a b c d e. f a b c d e == g a b c d e) ≡ true
    → (a b c d e : Bool) → f a b c d e ≡ g a b c d e
same_for_five f g h a b c d e = eqb-true _ _ (each_five-at (λ a b c d e. f a b c d e == g a b c d e) h a b c d e)

-- the number of these digits
abbrev pub place : Bool → Bool → Bool → Bool → Bool → ℕ
place a b c d e = truth a + 2 * truth b + 4 * truth c + 8 * truth d + 16 * truth e

place_small : (a b c d e : Bool) → place a b c d e < 32
place_small a b c d e =
    ltb-true (place a b c d e) 32 (each_five-at (λ a b c d e. ltb (place a b c d e) 32) refl a b c d e)

pub index_small : (s : LayerSet) → index s < 32
index_small s = omega arith

-- one set alone
pub one_kind : (set : LayerSet) (bits : ℕ) → bits ≡ 2 ^ index set → (s : LayerSet) → HasKind (record { bits = bits }) s
    → index s ≡ index set
one_kind set bits e s h = elim (cases_eq (index s) (index set)) [
  | inl f ↦ f
  | inr f ↦
      let g = bit_at-pow_other (index set) (index s) f in
      absurd (both_bits (ap (λ n. bit_at n (index s)) (sym e) ∙ h.set) g)
]

pub either_kind : (a b : Kinds) (s : LayerSet)
    → HasKind (record { bits = bit_or a.bits b.bits }) s ↔ (HasKind a s ⊎ HasKind b s)
either_kind a b s =
    let e = bit_at_or a.bits b.bits (index s) in
    let i = bit_at-lt a.bits (index s) in
    let j = bit_at-lt b.bits (index s) in (
      λ h. let k = h.set in elim (cases_eq (bit_at a.bits (index s)) 1) [
        | inl f ↦ inl (record { set = f })
        | inr f ↦ inr (record { set = omega arith })
      ],
      λ h. elim h [
        | inl f ↦ let k = f.set in record { set = omega arith }
        | inr f ↦ let k = f.set in record { set = omega arith }
      ],
    )

-- a number by its bits
from_bits : (i : ℕ) → i < 32 → place (has_bit i 1) (has_bit i 2) (has_bit i 4) (has_bit i 8) (has_bit i 16) ≡ i
from_bits i l =
    eqb-true _ i
    (agree_below_at (λ i. place (has_bit i 1) (has_bit i 2) (has_bit i 4) (has_bit i 8) (has_bit i 16) == i)
    (λ _. true) 32 i refl l)

is_one : (m n : ℕ) → m ≡ n → (m == 1) ≡ (n == 1)
is_one m n e = ap (λ k. k == 1) e

index_place : (n : ℕ) → place (has_bit n 1) (has_bit n 2) (has_bit n 4) (has_bit n 8) (has_bit n 16) ≡ n % 32
index_place n =
    let a = is_one (n / 1 % 2) (n % 32 / 1 % 2) (omega arith) in
    let b = is_one (n / 2 % 2) (n % 32 / 2 % 2) (omega arith) in
    let c = is_one (n / 4 % 2) (n % 32 / 4 % 2) (omega arith) in
    let d = is_one (n / 8 % 2) (n % 32 / 8 % 2) (omega arith) in
    let e = is_one (n / 16 % 2) (n % 32 / 16 % 2) (omega arith) in
    (λ i. place (a i) (b i) (c i) (d i) (e i)) ∙ from_bits (n % 32) (omega arith)

-- the bits of two numbers together
joint_bit : (a b n : ℕ) → a < 2 → b < 2 → n ≡ max a b → (n == 1) ≡ ((a == 1) || (b == 1))
joint_bit zero zero n h k e = is_one n 0 e
joint_bit zero (suc zero) n h k e = is_one n 1 e
joint_bit (suc zero) zero n h k e = is_one n 1 e
joint_bit (suc zero) (suc zero) n h k e = is_one n 1 e
joint_bit zero (suc (suc b)) n h k e = absurd (omega arith)
joint_bit (suc zero) (suc (suc b)) n h k e = absurd (omega arith)
joint_bit (suc (suc a)) b n h k e = absurd (omega arith)

either_bit : (m n i : ℕ) → (bit_at (bit_or m n) i == 1) ≡ ((bit_at m i == 1) || (bit_at n i == 1))
either_bit m n i = joint_bit (bit_at m i) (bit_at n i) _ (bit_at-lt m i) (bit_at-lt n i) (bit_at_or m n i)

index_union : (a b : LayerSet) → index (union a b)
    ≡ place (has_bit a.bits 1 || has_bit b.bits 1) (has_bit a.bits 2 || has_bit b.bits 2)
    (has_bit a.bits 4 || has_bit b.bits 4) (has_bit a.bits 8 || has_bit b.bits 8)
    (has_bit a.bits 16 || has_bit b.bits 16)
index_union a b =
    let m = a.bits in
    let n = b.bits in
    sym (index_place (bit_or m n))
    ∙ (λ i. place (either_bit m n 0 i) (either_bit m n 1 i) (either_bit m n 2 i) (either_bit m n 3 i)
    (either_bit m n 4 i))

-- the numbers of the sets that have a layer, as bits
abbrev pub nd_sets : ℕ
nd_sets = 2863311530

abbrev pub np_sets : ℕ
np_sets = 3435973836

abbrev pub nb_sets : ℕ
nb_sets = 4042322160

abbrev pub further_sets : ℕ
further_sets = 4278255360

abbrev pub nm_sets : ℕ
nm_sets = 4294901760

-- the number of a set with a layer besides
raised_nd : (own a b c d e : Bool) → raised own nd_sets 1 (place a b c d e) ≡ place (own || a) b c d e
raised_nd false a b c d e = refl
raised_nd true a b c d e =
    same_for_five (λ a b c d e. raised true nd_sets 1 (place a b c d e))
    (λ a b c d e. place true b c d e) refl a b c d e

raised_np : (own a b c d e : Bool) → raised own np_sets 2 (place a b c d e) ≡ place a (own || b) c d e
raised_np false a b c d e = refl
raised_np true a b c d e =
    same_for_five (λ a b c d e. raised true np_sets 2 (place a b c d e))
    (λ a b c d e. place a true c d e) refl a b c d e

raised_nb : (own a b c d e : Bool) → raised own nb_sets 4 (place a b c d e) ≡ place a b (own || c) d e
raised_nb false a b c d e = refl
raised_nb true a b c d e =
    same_for_five (λ a b c d e. raised true nb_sets 4 (place a b c d e))
    (λ a b c d e. place a b true d e) refl a b c d e

raised_further : (own a b c d e : Bool) → raised own further_sets 8 (place a b c d e) ≡ place a b c (own || d) e
raised_further false a b c d e = refl
raised_further true a b c d e =
    same_for_five (λ a b c d e. raised true further_sets 8 (place a b c d e))
    (λ a b c d e. place a b c true e) refl a b c d e

raised_nm : (own a b c d e : Bool) → raised own nm_sets 16 (place a b c d e) ≡ place a b c d (own || e)
raised_nm false a b c d e = refl
raised_nm true a b c d e =
    same_for_five (λ a b c d e. raised true nm_sets 16 (place a b c d e))
    (λ a b c d e. place a b c d true) refl a b c d e

-- the kinds after a layer is added, if it is to be there
pub record Besides (kinds : Kinds) (own : Bool) (holders weight : ℕ) (after : Kinds) : Type 0 where
  pub each : (i : ℕ) → i < 32 → (bit_at after.bits i ≡ 1) ↔ IsBeside kinds own holders weight i

one_more : {kinds : Kinds} {own : Bool} {holders weight : ℕ} {after : Kinds} → Besides kinds own holders weight after
    → (i k : ℕ) → i < 32 → k < 32 → raised own holders weight i ≡ k → bit_at kinds.bits i ≡ 1 → bit_at after.bits k ≡ 1
one_more h i k l m e bit = (h.each k m).1 (record { place = i; small = l; has = bit; same = sym e })

-- the kinds after each of five layers is added
pub record Steps (f g h i j : Bool) (kinds after : Kinds) : Type 0 where
  pub k : Kinds
  pub l : Kinds
  pub m : Kinds
  pub n : Kinds
  pub nd : Besides kinds f nd_sets 1 k
  pub np : Besides k g np_sets 2 l
  pub nb : Besides l h nb_sets 4 m
  pub further : Besides m i further_sets 8 n
  pub nm : Besides n j nm_sets 16 after

module _ (f g h i j : Bool) (kinds after : Kinds) (steps : Steps f g h i j kinds after) where
  all_more : (a b c d e : Bool) → bit_at kinds.bits (place a b c d e) ≡ 1
      → bit_at after.bits (place (f || a) (g || b) (h || c) (i || d) (j || e)) ≡ 1
  all_more a b c d e has =
      let p = place_small a b c d e in
      let q = place_small (f || a) b c d e in
      let r = place_small (f || a) (g || b) c d e in
      let s = place_small (f || a) (g || b) (h || c) d e in
      let t = place_small (f || a) (g || b) (h || c) (i || d) e in
      let u = place_small (f || a) (g || b) (h || c) (i || d) (j || e) in
      let v = one_more steps.nd _ _ p q (raised_nd f a b c d e) has in
      let w = one_more steps.np _ _ q r (raised_np g (f || a) b c d e) v in
      let x = one_more steps.nb _ _ r s (raised_nb h (f || a) (g || b) c d e) w in
      let y = one_more steps.further _ _ s t (raised_further i (f || a) (g || b) (h || c) d e) x in
      one_more steps.nm _ _ t u (raised_nm j (f || a) (g || b) (h || c) (i || d) e) y

  abbrev raised_all : ℕ → ℕ
  raised_all p =
      raised j nm_sets 16 (raised i further_sets 8 (raised h nb_sets 4 (raised g np_sets 2 (raised f nd_sets 1 p))))

  raised_place : (a b c d e : Bool) → raised_all (place a b c d e) ≡ place (f || a) (g || b) (h || c) (i || d) (j || e)
  raised_place a b c d e =
      rw (
        raised_nd f a b c d e,
        raised_np g (f || a) b c d e,
        raised_nb h (f || a) (g || b) c d e,
        raised_further i (f || a) (g || b) (h || c) d e,
      )
      (raised_nm j (f || a) (g || b) (h || c) (i || d) e)

  -- the number that a number of the last kinds comes from
  record IsFrom (z : ℕ) : Type 0 where
    place : ℕ
    small : place < 32
    has : bit_at kinds.bits place ≡ 1
    same : z ≡ raised_all place

  is_from : (z : ℕ) → z < 32 → bit_at after.bits z ≡ 1 → IsFrom z
  is_from z small has =
      let e = (steps.nm.each z small).0 has in
      let d = (steps.further.each e.place e.small).0 e.has in
      let c = (steps.nb.each d.place d.small).0 d.has in
      let b = (steps.np.each c.place c.small).0 c.has in
      let a = (steps.nd.each b.place b.small).0 b.has in
      record {
        place = a.place;
        small = a.small;
        has = a.has;
        same = rw (← a.same, ← b.same, ← c.same, ← d.same) e.same;
      }

module _ (own : LayerSet) (kinds after : Kinds)
    (steps : Steps (has_bit own.bits 1) (has_bit own.bits 2) (has_bit own.bits 4) (has_bit own.bits 8)
    (has_bit own.bits 16) kinds after) where
  pub with_own : (s : LayerSet) → HasKind after s ↔ IsWith kinds own s
  with_own s = (
    λ h.
        let w = is_from _ _ _ _ _ kinds after steps (index s) (index_small s) h.set in
        let n = w.place in
        let r : LayerSet = record { bits = n } in
        let l = w.small in
        let e : n % 32 ≡ n = omega arith in
        let f = raised_place _ _ _ _ _ kinds after steps (has_bit n 1) (has_bit n 2) (has_bit n 4) (has_bit n 8)
        (has_bit n 16) in
        record {
          kind = r;
          has = record { set = ap (bit_at kinds.bits) e ∙ w.has };
          same = w.same ∙ rw (index_place n ∙ e) at f ∙ sym (index_union own r);
        },
    λ h.
        let n = h.kind.bits in
        let f = all_more _ _ _ _ _ kinds after steps (has_bit n 1) (has_bit n 2) (has_bit n 4) (has_bit n 8)
        (has_bit n 16) (ap (bit_at kinds.bits) (index_place n) ∙ h.has.set) in
        record { set = ap (bit_at after.bits) (h.same ∙ index_union own h.kind) ∙ f },
  )

-- with no layer besides
pub union_none : (own s : LayerSet) → own.bits ≡ 0 → union own s ≡ s
union_none own s e =
    let same = ap (λ n. bit_or n s.bits) e ∙ or_zero_l s.bits in λ i. record { bits = same i }

pub with_none : (kinds : Kinds) (own : LayerSet) → own.bits ≡ 0 → (s : LayerSet) → HasKind kinds s ↔ IsWith kinds own s
with_none kinds own e s =
    let same = λ (r : LayerSet). (ap (λ n. bit_or n r.bits % 32) e ∙ ap (λ n. n % 32) (or_zero_l r.bits)) in (
      λ h. record { kind = s; has = h; same = sym (same s) },
      λ h. record { set = ap (bit_at kinds.bits) (h.same ∙ same h.kind) ∙ h.has.set },
    )

-- a shift at 32 bits
module _ (n weight i : ℕ) (l : i < 32) where
  whole : bit_at (n * 2 ^ weight % 2 ^ 32) i ≡ bit_at (n * 2 ^ weight + 0) i
  whole =
      let e : n * 2 ^ weight / 2 ^ 32 * 2 ^ 32 + n * 2 ^ weight % 2 ^ 32 ≡ n * 2 ^ weight + 0 =
      div-add-mod' (n * 2 ^ weight) (2 ^ 32) ∙ omega arith in
      sym (bit_at_cat_low (n * 2 ^ weight / 2 ^ 32) 32 (n * 2 ^ weight % 2 ^ 32) i l) ∙ ap (λ k. bit_at k i) e

  shifted_below : i < weight → bit_at (n * 2 ^ weight % 2 ^ 32) i ≡ 0
  shifted_below k = whole ∙ bit_at_cat_low n weight 0 i k ∙ bit_at-zero i

  shifted : weight ≤ i → bit_at (n * 2 ^ weight % 2 ^ 32) i ≡ bit_at n (i - weight)
  shifted k = whole ∙ bit_at_cat_high n weight 0 i (pow_pos weight) k

holder_stays : (holders weight i : ℕ) → bit_at holders i ≡ 1 → raised true holders weight i ≡ i
holder_stays holders weight i e = ap (λ b. if b == 0 then i + weight else i) e

other_goes : (holders weight i : ℕ) → bit_at holders i ≡ 0 → raised true holders weight i ≡ i + weight
other_goes holders weight i e = ap (λ b. if b == 0 then i + weight else i) e

module _ (kinds : Kinds) (holders weight i : ℕ) (small : holders < 2 ^ 32) (l : i < 32) where
  others : ℕ
  others = bit_and kinds.bits (bit_not w32 holders)

  others_at : (j : ℕ) → j < 32 → bit_at others j ≡ min (bit_at kinds.bits j) (1 - bit_at holders j)
  unfolding others
  others_at j k =
      bit_at_and kinds.bits (bit_not w32 holders) j ∙ ap (min (bit_at kinds.bits j)) (bit_at_not w32 holders j small k)

  goes : bit_at (others * 2 ^ weight % 2 ^ 32) i ≡ 1 → IsBeside kinds true holders weight i
  goes h = elim (cases_lt i weight) [
    | inl k ↦ absurd (both_bits h (shifted_below others weight i l k))
    | inr k ↦
        let e = shifted others weight i l k in
        let f = others_at (i - weight) (omega arith) in
        let g = bit_at-lt holders (i - weight) in
        let o = bit_at-lt kinds.bits (i - weight) in
        let z = other_goes holders weight (i - weight) (omega arith) in
        record { place = i - weight; small = omega arith; has = omega arith; same = omega arith }
  ]

  pub is_beside : (bit_at
      (bit_or (bit_and kinds.bits holders) (bit_and kinds.bits (bit_not w32 holders) * 2 ^ weight % 2 ^ 32)) i ≡ 1)
      ↔ IsBeside kinds true holders weight i
  unfolding others
  is_beside =
      let either = bit_at_or (bit_and kinds.bits holders) (others * 2 ^ weight % 2 ^ 32) i in
      let stay = bit_at_and kinds.bits holders i in
      let kind = bit_at-lt kinds.bits i in
      let holder = bit_at-lt holders i in
      let shift = bit_at-lt (others * 2 ^ weight % 2 ^ 32) i in (
        λ h. elim (cases_eq (bit_at (others * 2 ^ weight % 2 ^ 32) i) 1) [
          | inl e ↦ goes e
          | inr e ↦
              record {
                place = i;
                small = l;
                has = omega arith;
                same = sym (holder_stays holders weight i (omega arith));
              }
        ],
        λ h.
            let has = h.has in
            elim (cases_eq (bit_at holders h.place) 1) [
              | inl e ↦
                  let same : i ≡ h.place = h.same ∙ holder_stays holders weight h.place e in
                  let k : bit_at kinds.bits i ≡ 1 = ap (bit_at kinds.bits) same ∙ has in
                  let f : bit_at holders i ≡ 1 = ap (bit_at holders) same ∙ e in
                  omega arith
              | inr e ↦
                  let z = bit_at-lt holders h.place in
                  let o : bit_at holders h.place ≡ 0 = omega arith in
                  let same : i ≡ h.place + weight = h.same ∙ other_goes holders weight h.place o in
                  let back : i - weight ≡ h.place = omega arith in
                  let k = shifted others weight i l (omega arith) ∙ ap (bit_at others) back
                  ∙ others_at h.place h.small in
                  omega arith
            ],
      )

-- a plane's bit at all kinds
module _ (kinds : Kinds) (plane : ℕ) where
  pub share_none : bit_and kinds.bits plane ≡ 0 → Share kinds plane 0
  share_none e = record {
    each = λ i h.
        let f = sym (bit_at_and kinds.bits plane i) ∙ ap (λ n. bit_at n i) e ∙ bit_at-zero i in
        let l = bit_at-lt plane i in
        omega arith;
  }

  pub share_all : bit_and kinds.bits plane ≡ kinds.bits → Share kinds plane 1
  share_all e = record {
    each = λ i h. let f = sym (bit_at_and kinds.bits plane i) ∙ ap (λ n. bit_at n i) e in let l = bit_at-lt plane i in
        omega arith;
  }

  pub share_nothing : bit_and kinds.bits plane ≢ 0 → bit_and kinds.bits plane ≢ kinds.bits → (b : ℕ)
      → ¬ Share kinds plane b
  share_nothing none all zero h = none (same_from_bits _ _ (λ i.
      let e = bit_at_and kinds.bits plane i in
      let l = bit_at-lt kinds.bits i in
      elim (cases_eq (bit_at kinds.bits i) 1) [
        | inl f ↦ let g = h.each i f in e ∙ omega arith ∙ sym (bit_at-zero i)
        | inr f ↦ e ∙ omega arith ∙ sym (bit_at-zero i)
      ]))
  share_nothing none all (suc b) h = all (same_from_bits _ _ (λ i.
      let e = bit_at_and kinds.bits plane i in
      let l = bit_at-lt kinds.bits i in
      let k = bit_at-lt plane i in
      elim (cases_eq (bit_at kinds.bits i) 1) [
        | inl f ↦ let g = h.each i f in omega arith
        | inr f ↦ omega arith
      ]))

-- what holds of all kinds holds at all their bits
pub at_kinds : (kinds : Kinds) (P : ℕ → Type 0) → kinds.bits < 2 ^ 32 → ((s : LayerSet) → HasKind kinds s → P (index s))
    → (i : ℕ) → bit_at kinds.bits i ≡ 1 → P i
at_kinds kinds P small h i e = elim (cases_lt i 32) [
  | inl l ↦
      let f : i % 32 ≡ i = omega arith in
      subst P f (h (record { bits = i }) (record { set = ap (bit_at kinds.bits) f ∙ e }))
  | inr l ↦ absurd (both_bits e (bit_at_above kinds.bits 32 i small l))
]

-- the layers of two sets
joint_own : (kept x y z : Bool) → z ≡ (x || y) → (kept && z) ≡ ((kept && x) || (kept && y))
joint_own true x y z e = e
joint_own false x y z e = refl

pub layers_union : (f : Layer) (a b : LayerSet) → layers_of f (union a b) ≡ both (layers_of f a) (layers_of f b)
layers_union f a b =
    let m = a.bits in
    let n = b.bits in
    let first = bit_at_or m n 0 in
    let before = nat_lt 0 (m / 8 % 2) in
    let more = nat_lt 0 (n / 8 % 2) in
    let both_own = nat_lt 0 (bit_or m n / 8 % 2) in
    let own = joint_tests false 0 (m / 8 % 2) (n / 8 % 2) (bit_or m n / 8 % 2) (bit_at_or m n 3) in
    λ i. record {
      nd = joint_tests false 0 (m % 2) (n % 2) (bit_or m n % 2) (omega arith) i;
      np = joint_tests false 0 (m / 2 % 2) (n / 2 % 2) (bit_or m n / 2 % 2) (bit_at_or m n 1) i;
      nc = joint_own (keeps NC f) before more both_own own i;
      nm = joint_tests false 0 (m / 16 % 2) (n / 16 % 2) (bit_or m n / 16 % 2) (bit_at_or m n 4) i;
      ni = joint_own (keeps NI f) before more both_own own i;
      nb = joint_tests false 0 (m / 4 % 2) (n / 4 % 2) (bit_or m n / 4 % 2) (bit_at_or m n 2) i;
      ng = joint_own (keeps NG f) before more both_own own i;
    }

-- the layers of a set, by its digits
above_digit : (b : Bool) (n : ℕ) → n ≡ truth b → nat_lt 0 n ≡ b
above_digit true n e = rw e refl
above_digit false n e = rw e refl

digit_nd : (a b c d e : Bool) → place a b c d e % 2 ≡ truth a
digit_nd = same_for_five (λ a b c d e. place a b c d e % 2) (λ a b c d e. truth a) refl

digit_np : (a b c d e : Bool) → place a b c d e / 2 % 2 ≡ truth b
digit_np = same_for_five (λ a b c d e. place a b c d e / 2 % 2) (λ a b c d e. truth b) refl

digit_nb : (a b c d e : Bool) → place a b c d e / 4 % 2 ≡ truth c
digit_nb = same_for_five (λ a b c d e. place a b c d e / 4 % 2) (λ a b c d e. truth c) refl

digit_further : (a b c d e : Bool) → place a b c d e / 8 % 2 ≡ truth d
digit_further = same_for_five (λ a b c d e. place a b c d e / 8 % 2) (λ a b c d e. truth d) refl

digit_nm : (a b c d e : Bool) → place a b c d e / 16 % 2 ≡ truth e
digit_nm = same_for_five (λ a b c d e. place a b c d e / 16 % 2) (λ a b c d e. truth e) refl

pub set_layers : (f : Layer) (t : Tops) (row bits : ℕ)
    → bits
    ≡ place (nat_lt row t.nd) (nat_lt row t.np) (nat_lt row t.nb) (nat_lt row t.further) (nat_lt row t.nm)
    → layers_of f (record { bits = bits }) ≡ above f t row
set_layers f t row bits g =
    let nd = nat_lt row t.nd in
    let np = nat_lt row t.np in
    let nb = nat_lt row t.nb in
    let own = nat_lt row t.further in
    let nm = nat_lt row t.nm in
    let other = above_digit own (bits / 8 % 2) (ap (λ n. n / 8 % 2) g ∙ digit_further nd np nb own nm) in
    λ i. record {
      nd = above_digit nd (bits % 2) (ap (λ n. n % 2) g ∙ digit_nd nd np nb own nm) i;
      np = above_digit np (bits / 2 % 2) (ap (λ n. n / 2 % 2) g ∙ digit_np nd np nb own nm) i;
      nc = keeps NC f && other i;
      nm = above_digit nm (bits / 16 % 2) (ap (λ n. n / 16 % 2) g ∙ digit_nm nd np nb own nm) i;
      ni = keeps NI f && other i;
      nb = above_digit nb (bits / 4 % 2) (ap (λ n. n / 4 % 2) g ∙ digit_nb nd np nb own nm) i;
      ng = keeps NG f && other i;
    }
