-- The path that was made.
use Rattle.std.proofs.Common.{◌≡◌, ℕ, zero, suc, ◌<◌, ◌≤◌, ◌⊎◌, inl, inr, List, [], ◌∷◌, Option, Some, None, Bool, true}
use Rattle.std.proofs.Common.{false, cond, eqb, length, not, refl, sym, ◌∙◌, ap, arith}
use Rattle.std.specs.Prelude.{◌≢◌, All, Contains, slice_get, if◌then◌else◌, ◌==◌, nat_lt}
use Rattle.std.proofs.lemmas.Bool.{eq-eqb, eqb-true, false≢true, lt-ltb, ne_eqb, true≢false, cases_eq}
use Rattle.std.proofs.lemmas.Option.{none-some, same_Some}
use Rattle.mp_base.specs.declared.pad.Pad.{Pad}
use Rattle.mp_base.proofs.Entries.{all_from, contains_from_get}
use Rattle.nor_net.specs.declared.net.NetId.{NetId}
use Rattle.nor_net.specs.declared.net.Phase.{Phase}
use Rattle.nor_net.specs.declared.net.Part.{Part}
use Rattle.nor_net.specs.declared.net.Part.TheVariants.{Input, Gate, Latch}
use Rattle.path_form.specs.Shape.{AreInputs, entries_of, is_input, takes_pad, times}
use Rattle.datapath_making.specs.WellMade.{present}
use Rattle.datapath_making.proofs.Lists.{one_at, one_else, one_here, times_entry, times_some}

-- ---- the pads that are words, or that are signals

abbrev pub is_word : Pad → Bool
is_word pad = not (pad.width == 0)

pub word_width : (pad : Pad) → is_word pad ≡ true → pad.width ≢ 0
word_width pad e z = false≢true (sym (ap not (eq-eqb pad.width 0 z)) ∙ e)

pub bit_width : (pad : Pad) → is_word pad ≡ false → pad.width ≡ 0
bit_width pad e = by_test (eqb pad.width 0) refl e
  where
    by_test : (t : Bool) → eqb pad.width 0 ≡ t → not t ≡ false → pad.width ≡ 0
    by_test true h q = eqb-true pad.width 0 h
    by_test false h q = absurd (true≢false q)

pub width_word : (pad : Pad) → pad.width ≢ 0 → is_word pad ≡ true
width_word pad ne = ap not (ne_eqb pad.width 0 ne)

pub width_bit : (pad : Pad) → pad.width ≡ 0 → is_word pad ≡ false
width_bit pad e = ap not (eq-eqb pad.width 0 e)

-- the entries of a list of pads with one more
abbrev pub entries_on : Bool → Bool → NetId → List NetId → List NetId
entries_on is word id rest = if is then (if word then id ∷ rest else rest) else (if word then rest else id ∷ rest)

-- an entry is that of a pad of its kind
pub entry_pad : (word : Bool) (pads : List Pad) (ids : List NetId) (id : NetId)
    → Contains (entries_of word pads ids) id
    → (k : ℕ) × (pad : Pad) × (slice_get pads k ≡ Some pad) × (slice_get ids k ≡ Some id) × (is_word pad ≡ word)
entry_pad word [] ids id (i, l, e) = absurd (omega (arith, l))
entry_pad word (pad ∷ pads) [] id (i, l, e) = absurd (omega (arith, l))
entry_pad word (pad ∷ pads) (first ∷ ids) id h =
    by_test (is_word pad) word refl h (entry_pad word pads ids id)
  where
    later : (w : Bool)
        → ((k : ℕ) × (p : Pad) × (slice_get pads k ≡ Some p) × (slice_get ids k ≡ Some id) × (is_word p ≡ w))
        → (k : ℕ) × (p : Pad) × (slice_get (pad ∷ pads) k ≡ Some p) × (slice_get (first ∷ ids) k ≡ Some id)
        × (is_word p ≡ w)
    later w (k, p, a, b, c) = (suc k, p, a, b, c)

    head : (w : Bool) → is_word pad ≡ w → (rest : List NetId) → Contains (first ∷ rest) id
        → (Contains rest id
        → (k : ℕ) × (p : Pad) × (slice_get pads k ≡ Some p) × (slice_get ids k ≡ Some id) × (is_word p ≡ w))
        → (k : ℕ) × (p : Pad) × (slice_get (pad ∷ pads) k ≡ Some p) × (slice_get (first ∷ ids) k ≡ Some id)
        × (is_word p ≡ w)
    head w is rest (zero, l, e) again = (0, pad, refl, ap Some e, is)
    head w is rest (suc i, l, e) again = later w (again (i, omega (arith, l), e))

    by_test : (is w : Bool) → is_word pad ≡ is → Contains (entries_on is w first (entries_of w pads ids)) id
        → (Contains (entries_of w pads ids) id
        → (k : ℕ) × (p : Pad) × (slice_get pads k ≡ Some p) × (slice_get ids k ≡ Some id) × (is_word p ≡ w))
        → (k : ℕ) × (p : Pad) × (slice_get (pad ∷ pads) k ≡ Some p) × (slice_get (first ∷ ids) k ≡ Some id)
        × (is_word p ≡ w)
    by_test true true q h again = head true q (entries_of true pads ids) h again
    by_test true false q h again = later false (again h)
    by_test false true q h again = later true (again h)
    by_test false false q h again = head false q (entries_of false pads ids) h again

-- a pad's net is among the entries of its kind
pub pad_entry : (word : Bool) (pads : List Pad) (ids : List NetId) (k : ℕ) (pad : Pad) (id : NetId)
    → slice_get pads k ≡ Some pad → slice_get ids k ≡ Some id → is_word pad ≡ word
    → 1 ≤ times id.0 (entries_of word pads ids)
pad_entry word [] ids k pad id a b c = absurd (none-some pad a)
pad_entry word (p ∷ pads) [] k pad id a b c = absurd (none-some id b)
pad_entry word (p ∷ pads) (first ∷ ids) zero pad id a b c =
    by_test (is_word p) word (ap is_word (same_Some p pad a) ∙ c) (same_Some first id b)
  where
    by_test : (is w : Bool) → is ≡ w → first ≡ id → 1 ≤ times id.0 (entries_on is w first (entries_of w pads ids))
    by_test true true q e = let o = one_here id.0 first (ap (λ (i : NetId). i.0) e) in omega (arith, o)
    by_test true false q e = absurd (true≢false q)
    by_test false true q e = absurd (false≢true q)
    by_test false false q e = let o = one_here id.0 first (ap (λ (i : NetId). i.0) e) in omega (arith, o)
pad_entry word (p ∷ pads) (first ∷ ids) (suc k) pad id a b c =
    by_test (is_word p) word (pad_entry word pads ids k pad id a b c)
  where
    by_test : (is w : Bool) → 1 ≤ times id.0 (entries_of w pads ids)
        → 1 ≤ times id.0 (entries_on is w first (entries_of w pads ids))
    by_test true true l = omega (arith, l)
    by_test true false l = l
    by_test false true l = l
    by_test false false l = omega (arith, l)

-- where no two pads of a kind have one net, no net is twice among the entries
pub entries_apart : (word : Bool) (n : ℕ) (pads : List Pad) (ids : List NetId)
    → ((j k : ℕ) (p q : Pad) (x y : NetId) → slice_get pads j ≡ Some p → slice_get pads k ≡ Some q
    → slice_get ids j ≡ Some x → slice_get ids k ≡ Some y → is_word p ≡ word → is_word q ≡ word → x.0 ≡ n → y.0 ≡ n
    → j ≡ k) → times n (entries_of word pads ids) ≤ 1
entries_apart word n [] ids f = omega arith
entries_apart word n (p ∷ pads) [] f = omega arith
entries_apart word n (p ∷ pads) (first ∷ ids) f =
    by_test (is_word p) word refl f
    (entries_apart word n pads ids (λ j k a b x y g h s t u v e z.
    let q = f (suc j) (suc k) a b x y g h s t u v e z in omega (arith, q)))
  where
    none_later : (w : Bool) → is_word p ≡ w → first.0 ≡ n
        → ((j k : ℕ) (a b : Pad) (x y : NetId) → slice_get (p ∷ pads) j ≡ Some a → slice_get (p ∷ pads) k ≡ Some b
        → slice_get (first ∷ ids) j ≡ Some x → slice_get (first ∷ ids) k ≡ Some y → is_word a ≡ w → is_word b ≡ w
        → x.0 ≡ n → y.0 ≡ n → j ≡ k) → 1 ≤ times n (entries_of w pads ids) → ⊥
    none_later w is here f l =
        let t = times_entry n (entries_of w pads ids) l in
        let e = entry_pad w pads ids t.1 (contains_from_get (entries_of w pads ids) t.0 t.1 t.2) in
        let q = f 0 (suc e.0) p e.1 first t.1 refl e.2 refl e.3 is e.4 here t.3 in
        omega (arith, q)

    head : (w : Bool) → is_word p ≡ w
        → ((j k : ℕ) (a b : Pad) (x y : NetId) → slice_get (p ∷ pads) j ≡ Some a → slice_get (p ∷ pads) k ≡ Some b
        → slice_get (first ∷ ids) j ≡ Some x → slice_get (first ∷ ids) k ≡ Some y → is_word a ≡ w → is_word b ≡ w
        → x.0 ≡ n → y.0 ≡ n → j ≡ k) → times n (entries_of w pads ids) ≤ 1
        → (first.0 ≡ n) ⊎ (first.0 ≡ n → ⊥) → times n (first ∷ entries_of w pads ids) ≤ 1
    head w is f again (inl e) =
        let o = one_here n first e in
        by_count (times n (entries_of w pads ids)) refl o
      where
        by_count : (t : ℕ) → times n (entries_of w pads ids) ≡ t → one_at n first ≡ 1
            → times n (first ∷ entries_of w pads ids) ≤ 1
        by_count zero q o = omega (arith, q, o)
        by_count (suc t) q o = absurd (none_later w is e f (omega (arith, q)))
    head w is f again (inr ne) = let o = one_else n first ne in omega (arith, o, again)

    by_test : (is w : Bool) → is_word p ≡ is
        → ((j k : ℕ) (a b : Pad) (x y : NetId) → slice_get (p ∷ pads) j ≡ Some a → slice_get (p ∷ pads) k ≡ Some b
        → slice_get (first ∷ ids) j ≡ Some x → slice_get (first ∷ ids) k ≡ Some y → is_word a ≡ w → is_word b ≡ w
        → x.0 ≡ n → y.0 ≡ n → j ≡ k) → times n (entries_of w pads ids) ≤ 1
        → times n (entries_on is w first (entries_of w pads ids)) ≤ 1
    by_test true true q f again = head true q f again (cases_eq first.0 n)
    by_test true false q f again = again
    by_test false true q f again = again
    by_test false false q f again = head false q f again (cases_eq first.0 n)

-- the nets of pads that are words, as they were made
pub entries_present : (pads : List Pad) (ids : List NetId) (entries : List (Option NetId))
    → length ids ≡ length pads → length entries ≡ length pads
    → ((k : ℕ) (pad : Pad) (id : NetId) (entry : Option NetId) → slice_get pads k ≡ Some pad
    → slice_get ids k ≡ Some id → slice_get entries k ≡ Some entry
    → entry ≡ (if is_word pad then Some id else None)) → entries_of true pads ids ≡ present entries
entries_present [] ids [] a b f = refl
entries_present [] ids (entry ∷ entries) a b f = absurd (omega (arith, b))
entries_present (pad ∷ pads) [] entries a b f = absurd (omega (arith, a))
entries_present (pad ∷ pads) (id ∷ ids) [] a b f = absurd (omega (arith, b))
entries_present (pad ∷ pads) (id ∷ ids) (entry ∷ entries) a b f =
    by_test (is_word pad) entry (f 0 pad id entry refl refl refl)
    (entries_present pads ids entries (omega (arith, a)) (omega (arith, b))
    (λ k p i e x y z. f (suc k) p i e x y z))
  where
    by_test : (is : Bool) (o : Option NetId) → o ≡ (if is then Some id else None)
        → entries_of true pads ids ≡ present entries
        → entries_on is true id (entries_of true pads ids) ≡ present (o ∷ entries)
    by_test true (Some x) q again =
        ap (λ (ys : List NetId). id ∷ ys) again ∙ ap (λ (i : NetId). i ∷ present entries) (sym (same_Some x id q))
    by_test true None q again = absurd (none-some id q)
    by_test false (Some x) q again = absurd (none-some x (sym q))
    by_test false None q again = again

-- ---- inputs that are each told once

pub inputs_from : (net : List Part) (ends : List NetId)
    → ((n : ℕ) → times n ends ≡ (if is_input (slice_get net n) then 1 else 0)) → AreInputs net ends
inputs_from net ends once = (
  all_from (λ (id : NetId). is_input (slice_get net id.0) ≡ true) ends (λ k id e.
      by_test id.0 (is_input (slice_get net id.0)) refl (times_some ends k id e)),
  λ n is. once n ∙ ap (λ b. cond b 1 0) is,
)
  where
    by_test : (n : ℕ) (t : Bool) → is_input (slice_get net n) ≡ t → 1 ≤ times n ends
        → is_input (slice_get net n) ≡ true
    by_test n true q l = q
    by_test n false q l = absurd (let o = once n ∙ ap (λ b. cond b 1 0) q in omega (arith, o, l))

pub takes_from : (net : List Part) (pads : List NetId)
    → ((n : ℕ) (phase : Phase) (source : NetId) → slice_get net n ≡ Some (Latch phase (Some source))
    → slice_get net source.0 ≡ Some Input → 0 < times source.0 pads)
    → All (λ part. takes_pad net pads part ≡ true) net
takes_from net pads f = all_from (λ part. takes_pad net pads part ≡ true) net (λ n q e. by_part n q e)
  where
    by_source : (n : ℕ) (phase : Phase) (source : NetId) (o : Option Part) → slice_get net source.0 ≡ o
        → slice_get net n ≡ Some (Latch phase (Some source))
        → cond (is_input o) (nat_lt 0 (times source.0 pads)) true ≡ true
    by_source n phase source None q e = refl
    by_source n phase source (Some Input) q e =
        lt-ltb 0 (times source.0 pads) (f n phase source e q)
    by_source n phase source (Some (Gate inputs)) q e = refl
    by_source n phase source (Some (Latch p s)) q e = refl

    by_part : (n : ℕ) (q : Part) → slice_get net n ≡ Some q → takes_pad net pads q ≡ true
    by_part n Input e = refl
    by_part n (Gate inputs) e = refl
    by_part n (Latch phase None) e = refl
    by_part n (Latch phase (Some source)) e = by_source n phase source (slice_get net source.0) refl e
