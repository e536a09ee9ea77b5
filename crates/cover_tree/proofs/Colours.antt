-- The colours of all sets of layers, by the bits of numbers.
use Rattle.std.proofs.Common.{◌≡◌, ℕ, ◌+◌, ◌-◌, ◌*◌, ◌/◌, ◌%◌, ◌^◌, ◌<◌, ◌↔◌, inl, inr, Bool, true, false, zero, suc}
use Rattle.std.proofs.Common.{refl, sym, ap, ◌∙◌, arith, bit_and, bit_or, bit_xor, min, max, w32}
use Rattle.std.specs.Prelude.{◌||◌, ◌&&◌, ◌==◌, not, nat_lt, if◌then◌else◌}
use Rattle.std.specs.Int.{bit_at, bit_not}
use Rattle.std.proofs.lemmas.Bool.{cases_eq, eqb-true, agree_below, agree_below_at}
use Rattle.std.proofs.lemmas.Nat.{and_le_l}
use Rattle.std.proofs.lemmas.Nat.Bits.{bit_at_and, bit_at_or, bit_at_xor, bit_at_not, bit_at-lt, bit_at-zero}
use Rattle.lam_geom.specs.declared.layer.Layer.TheVariants.{NC, NG}
use Rattle.mask_runs.specs.declared.mask.Layers.{Layers}
use Rattle.mask_runs.specs.declared.mask.Mask.{Mask}
use Rattle.mask_runs.specs.declared.mask.Mask.TheVariants.{Only, Diffusion, Contacts}
use Rattle.mask_runs.specs.Colours.{has, colour_of}
use Rattle.cover_tree.specs.declared.kinds.Kinds.{Kinds}
use Rattle.cover_tree.specs.declared.layer_set.LayerSet.{LayerSet}
use Rattle.cover_tree.specs.declared.node.Tops.{Tops}
use Rattle.cover_tree.specs.declared.planes.Holders.{Holders}
use Rattle.cover_tree.specs.declared.planes.Planes.{Planes}
use Rattle.cover_tree.specs.Nodes.{above}
use Rattle.cover_tree.specs.Kinds.{further as further_layer, index, set_colour, union, AreOneColour, Keeps, Share}
use Rattle.mp_base.specs.Apply.{truth}
use Rattle.cover_tree.specs.Planes.{AreLayersAt, colour_at}
use Rattle.cover_tree.proofs.Sets.{same_for_five, nd_sets, np_sets, nb_sets, further_sets, nm_sets, at_kinds}

-- the sets that have a layer, by the bits of their numbers
same_below : (f g : ℕ → ℕ) → agree_below (λ i. f i == g i) (λ _. true) 32 ≡ true → (i : ℕ) → i < 32 → f i ≡ g i
same_below f g h i l = eqb-true _ _ (agree_below_at (λ i. f i == g i) (λ _. true) 32 i h l)

pub at_nd : (n : ℕ) → bit_at nd_sets (n % 32) ≡ n / 1 % 2
at_nd n = same_below (bit_at nd_sets) (λ i. i / 1 % 2) refl (n % 32) (omega arith) ∙ omega arith

pub at_np : (n : ℕ) → bit_at np_sets (n % 32) ≡ n / 2 % 2
at_np n = same_below (bit_at np_sets) (λ i. i / 2 % 2) refl (n % 32) (omega arith) ∙ omega arith

pub at_nb : (n : ℕ) → bit_at nb_sets (n % 32) ≡ n / 4 % 2
at_nb n = same_below (bit_at nb_sets) (λ i. i / 4 % 2) refl (n % 32) (omega arith) ∙ omega arith

pub at_further : (n : ℕ) → bit_at further_sets (n % 32) ≡ n / 8 % 2
at_further n = same_below (bit_at further_sets) (λ i. i / 8 % 2) refl (n % 32) (omega arith) ∙ omega arith

pub at_nm : (n : ℕ) → bit_at nm_sets (n % 32) ≡ n / 16 % 2
at_nm n = same_below (bit_at nm_sets) (λ i. i / 16 % 2) refl (n % 32) (omega arith) ∙ omega arith

-- a known layer besides
known_digit : (a b n k : ℕ) → a < 2 → b < 2 → n ≡ max a b → k ≡ b → (if a == 1 then 1 else k) ≡ truth (nat_lt 0 n)
known_digit zero zero n k h l e f = f ∙ ap (λ n. truth (nat_lt 0 n)) (sym e)
known_digit zero (suc zero) n k h l e f = f ∙ ap (λ n. truth (nat_lt 0 n)) (sym e)
known_digit (suc zero) zero n k h l e f = ap (λ n. truth (nat_lt 0 n)) (sym e)
known_digit (suc zero) (suc zero) n k h l e f = ap (λ n. truth (nat_lt 0 n)) (sym e)
known_digit zero (suc (suc b)) n k h l e f = absurd (omega arith)
known_digit (suc zero) (suc (suc b)) n k h l e f = absurd (omega arith)
known_digit (suc (suc a)) b n k h l e f = absurd (omega arith)

pub known_bit : (known s i k : ℕ) → k ≡ bit_at s i
    → (if bit_at known i == 1 then 1 else k) ≡ truth (nat_lt 0 (bit_at (bit_or known s) i))
known_bit known s i k e =
    known_digit (bit_at known i) (bit_at s i) _ k (bit_at-lt known i) (bit_at-lt s i) (bit_at_or known s i) e

pub has_further : (mask : Mask) (t : Tops) (row : ℕ)
    → has (above (further_layer mask) t row) (further_layer mask) ≡ nat_lt row t.further
has_further (Only NC) t row = refl
has_further (Only NG) t row = refl
has_further (Only _) t row = refl
has_further Diffusion t row = refl
has_further Contacts t row = refl

-- a number's bit at a place
record Says (n i : ℕ) (b : Bool) : Type 0 where
  says : bit_at n i ≡ truth b

both_bit : (a b : Bool) → min (truth a) (truth b) ≡ truth (a && b)
both_bit true true = refl
both_bit true false = refl
both_bit false true = refl
both_bit false false = refl

either_bit : (a b : Bool) → max (truth a) (truth b) ≡ truth (a || b)
either_bit true true = refl
either_bit true false = refl
either_bit false true = refl
either_bit false false = refl

other_bit : (a : Bool) → 1 - truth a ≡ truth (not a)
other_bit true = refl
other_bit false = refl

says_and : {m n i : ℕ} {a b : Bool} → Says m i a → Says n i b → Says (bit_and m n) i (a && b)
says_and {m} {n} {i} {a} {b} e f = record { says = bit_at_and m n i ∙ rw (e.says, f.says) (both_bit a b) }

says_or : {m n i : ℕ} {a b : Bool} → Says m i a → Says n i b → Says (bit_or m n) i (a || b)
says_or {m} {n} {i} {a} {b} e f = record { says = bit_at_or m n i ∙ rw (e.says, f.says) (either_bit a b) }

says_not : {n i : ℕ} {b : Bool} → n < 2 ^ 32 → i < 32 → Says n i b → Says (bit_not w32 n) i (not b)
says_not {n} {i} {b} small l e = record { says = bit_at_not w32 n i small l ∙ rw e.says (other_bit b) }

colour_bits : (p : Planes) (i : ℕ) (low middle high : Bool) → Says p.low i low → Says p.middle i middle
    → Says p.high i high
    → colour_at p i ≡ truth low + 2 * truth middle + 4 * truth high
colour_bits p i low middle high e f g = let j = e.says in let k = f.says in let l = g.says in omega arith

says_zero : (i : ℕ) → Says 0 i false
says_zero i = record { says = bit_at-zero i }

-- where diffusion is a channel, where it conducts, and where it is joined to polysilicon alone
abbrev channels : Bool → Bool → Bool → Bool
channels n p b = (n && p) && not b

abbrev conducts : Bool → Bool → Bool → Bool
conducts n p b = n && not (p && not b)

abbrev meets : Bool → Bool → Bool → Bool → Bool
meets n p b f = (p && conducts n p b) && (f || b)

diffusion_colour : (n p b f m : Bool)
    → colour_of Diffusion (record { nd = n; np = p; nc = m; nm = m; ni = f; nb = b; ng = m })
    ≡ truth ((n && not (channels n p b)) || (channels n p b && f)) + 2 * truth (channels n p b) + 4 * truth false
diffusion_colour =
    same_for_five (λ n p b f m. colour_of Diffusion (record { nd = n; np = p; nc = m; nm = m; ni = f; nb = b; ng = m }))
    (λ n p b f m. truth ((n && not (channels n p b)) || (channels n p b && f)) + 2 * truth (channels n p b) + 4
    * truth false) refl

abbrev joins : Bool → Bool → Bool → Bool → Bool → ℕ
joins n p b f m = truth ((f && m) && (p || conducts n p b)) + 2 * truth (((f && m) && p) || meets n p b f)
    + 4 * truth (((f && m) && conducts n p b) || meets n p b f)

contacts_colour : (n p b f m : Bool)
    → colour_of Contacts (record { nd = n; np = p; nc = f; nm = m; ni = m; nb = b; ng = m }) ≡ joins n p b f m
contacts_colour =
    same_for_five
    (λ n p b f m. colour_of Contacts (record { nd = n; np = p; nc = f; nm = m; ni = m; nb = b; ng = m })) joins refl

module _ (h : Holders) (small : h.nb < 2 ^ 32) (i : ℕ) (s : Layers) (l : i < 32) where
  module _ (mask : Mask) (e : AreLayersAt mask h i s) where
    nd : Says h.nd i s.nd
    nd = record { says = e.nd }

    np : Says h.np i s.np
    np = record { says = e.np }

    nb : Says h.nb i s.nb
    nb = record { says = e.nb }

    further : Says h.further i (has s (further_layer mask))
    further = record { says = e.further }

    nm : Says h.nm i s.nm
    nm = record { says = e.nm }

    no_nb : Says (bit_not w32 h.nb) i (not s.nb)
    no_nb = says_not small l nb

  abbrev channel : ℕ
  channel = bit_and (bit_and h.nd h.np) (bit_not w32 h.nb)

  pub diffusion_at : AreLayersAt Diffusion h i s → h.nd < 2 ^ 32 → colour_of Diffusion s
      ≡ colour_at
      (record {
        low = bit_or (bit_and h.nd (bit_not w32 channel)) (bit_and channel h.further);
        middle = channel;
        high = 0;
      }) i
  diffusion_at e bound =
      let here = says_and (says_and (nd Diffusion e) (np Diffusion e)) (no_nb Diffusion e) in
      let outside =
      says_not (omega (arith, and_le_l (bit_and h.nd h.np) (bit_not w32 h.nb), and_le_l h.nd h.np)) l here in
      diffusion_colour s.nd s.np s.nb s.ni s.nm
      ∙ sym (colour_bits _ i _ _ _
      (says_or (says_and (nd Diffusion e) outside) (says_and here (further Diffusion e))) here (says_zero i))

  abbrev diffusion : ℕ
  diffusion = bit_and h.nd (bit_not w32 (bit_and h.np (bit_not w32 h.nb)))

  abbrev cut : ℕ
  cut = bit_and h.further h.nm

  abbrev joined : ℕ
  joined = bit_and (bit_and h.np diffusion) (bit_or h.further h.nb)

  pub contacts_at : AreLayersAt Contacts h i s → h.np < 2 ^ 32 → colour_of Contacts s ≡ colour_at (record {
    low = bit_and cut (bit_or h.np diffusion);
    middle = bit_or (bit_and cut h.np) joined;
    high = bit_or (bit_and cut diffusion) joined;
  }) i
  contacts_at e bound =
      let covered = says_and (np Contacts e) (no_nb Contacts e) in
      let conducting =
      says_and (nd Contacts e) (says_not (omega (arith, and_le_l h.np (bit_not w32 h.nb))) l covered) in
      let through = says_and (further Contacts e) (nm Contacts e) in
      let meeting = says_and (says_and (np Contacts e) conducting) (says_or (further Contacts e) (nb Contacts e)) in
      let low = says_and through (says_or (np Contacts e) conducting) in
      let middle = says_or (says_and through (np Contacts e)) meeting in
      let high = says_or (says_and through conducting) meeting in
      contacts_colour s.nd s.np s.nb s.nc s.nm ∙ sym (colour_bits _ i _ _ _ low middle high)

-- a digit differs where the numbers' bits do
digits_differ : (a b c d e f : ℕ) → a < 2 → b < 2 → c < 2 → d < 2 → e < 2 → f < 2
    → (((a + d) % 2 ≡ 0) × ((b + e) % 2 ≡ 0) × ((c + f) % 2 ≡ 0)) ↔ (a + 2 * b + 4 * c ≡ d + 2 * e + 4 * f)
digits_differ a b c d e f g h i j k l = (λ m. omega arith, λ m. (omega arith, omega arith, omega arith))

module _ (p q : Planes) (i : ℕ) where
  bits_differ : (((bit_at p.low i + bit_at q.low i) % 2 ≡ 0) × ((bit_at p.middle i + bit_at q.middle i) % 2 ≡ 0)
      × ((bit_at p.high i + bit_at q.high i) % 2 ≡ 0)) ↔ (colour_at p i ≡ colour_at q i)
  bits_differ = digits_differ _ _ _ _ _ _ (bit_at-lt p.low i) (bit_at-lt p.middle i) (bit_at-lt p.high i)
      (bit_at-lt q.low i) (bit_at-lt q.middle i) (bit_at-lt q.high i)

  pub differ_at : (bit_at (bit_or (bit_or (bit_xor p.low q.low) (bit_xor p.middle q.middle)) (bit_xor p.high q.high)) i
      ≡ 0)
      ↔ (colour_at p i ≡ colour_at q i)
  differ_at =
      let a = bit_at_xor p.low q.low i in
      let b = bit_at_xor p.middle q.middle i in
      let c = bit_at_xor p.high q.high i in
      let d = bit_at_or (bit_xor p.low q.low) (bit_xor p.middle q.middle) i in
      let e = bit_at_or (bit_or (bit_xor p.low q.low) (bit_xor p.middle q.middle)) (bit_xor p.high q.high) i in (
        λ h. bits_differ.0 (omega arith, omega arith, omega arith),
        λ h. let g = bits_differ.1 h in let j = g.0 in let k = g.1 in let l = g.2 in omega arith,
      )

-- the colours of all sets with these layers
abbrev pub AreColours : Mask → LayerSet → Planes → Type 0
AreColours mask known p = (s : LayerSet) → set_colour mask (union known s) ≡ colour_at p (index s)

digits_of : (p : Planes) (i k : ℕ) → colour_at p i ≡ k
    → (bit_at p.low i ≡ k % 2) × (bit_at p.middle i ≡ k / 2 % 2) × (bit_at p.high i ≡ k / 4)
digits_of p i k e =
    let a = bit_at-lt p.low i in
    let b = bit_at-lt p.middle i in
    let c = bit_at-lt p.high i in
    (omega arith, omega arith, omega arith)

module _ (mask : Mask) (kinds : Kinds) (small : kinds.bits < 2 ^ 32) where
  module _ (known : LayerSet) (p : Planes) (h : AreColours mask known p) (k : ℕ)
      (one : AreOneColour mask kinds known k) where
    at_kind : (i : ℕ) → bit_at kinds.bits i ≡ 1 → colour_at p i ≡ k
    at_kind = at_kinds kinds (λ i. colour_at p i ≡ k) small (λ s e. sym (h s) ∙ one.each s e)

    pub low_shared : Share kinds p.low (k % 2)
    low_shared = record { each = λ i e. (digits_of p i k (at_kind i e)).0 }

    pub middle_shared : Share kinds p.middle (k / 2 % 2)
    middle_shared = record { each = λ i e. (digits_of p i k (at_kind i e)).1 }

    pub high_shared : Share kinds p.high (k / 4)
    high_shared = record { each = λ i e. (digits_of p i k (at_kind i e)).2 }

  module _ (old new : LayerSet) (p q : Planes) (differing : ℕ) (h : AreColours mask old p) (j : AreColours mask new q)
      (d : (i : ℕ) → (bit_at differing i ≡ 0) ↔ (colour_at p i ≡ colour_at q i)) where
    pub none_differ : Keeps mask kinds old new true → Share kinds differing 0
    none_differ k = record {
      each = at_kinds kinds (λ i. bit_at differing i ≡ 0) small
          (λ s e. (d (index s)).1 (sym (h s) ∙ k.each s e ∙ j s));
    }

    pub all_differ : Keeps mask kinds old new false → Share kinds differing 1
    all_differ k = record {
      each = at_kinds kinds (λ i. bit_at differing i ≡ 1) small (λ s e.
          let l = bit_at-lt differing (index s) in
          elim (cases_eq (bit_at differing (index s)) 0) [
            | inl f ↦ absurd (k.each s e (h s ∙ (d (index s)).0 f ∙ sym (j s)))
            | inr f ↦ omega arith
          ]);
    }
