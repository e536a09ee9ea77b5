-- The rows of a data path: each has the bits of its pad, no two share a net, and the nets that are given are theirs.
use Rattle.std.proofs.Common.{◌≡◌, ℕ, zero, suc, ◌<◌, ◌+◌, Some, Bool, true, false}
use Rattle.std.proofs.Common.{cond, List, [], ◌∷◌, length, map, refl, sym, ◌∙◌, ap, subst, arith, not}
use Rattle.std.specs.Prelude.{All, Contains, slice_get, ◌==◌, ◌≢◌}
use Rattle.std.specs.List.{range_with_len}
use Rattle.std.proofs.lemmas.Bool.{eq-eqb, ne_eqb, not-false, not-true, true≢false}
use Rattle.std.proofs.lemmas.List.Elements.{All-contains}
use Rattle.std.proofs.lemmas.List.FromFn.{length-map-range_with_len}
use Rattle.std.proofs.lemmas.Option.{none-some, same_Some, slice_get_within}
use Rattle.mp_base.specs.declared.pad.Pad.{Pad}
use Rattle.mp_base.proofs.Entries.{map_get, contains_from_get, all_from}
use Rattle.mp_base.proofs.Ranges.{get_range}
use Rattle.mp_base.specs.PadBits.{bit_count}
use Rattle.switch_net.specs.Pads.{labels_of}
use Rattle.switch_net.proofs.Labels.{length_word_labels}
use Rattle.nor_net.specs.declared.net.NetId.{NetId}
use Rattle.nor_net.specs.Elements.{Spot, Given, spot}
use Rattle.path_form.specs.declared.path.DataPath.{DataPath}
use Rattle.path_form.specs.Shape.{entries_of}
use Rattle.path_form.specs.Showing.{path_nets, pad_bits, pad_spot}
use Rattle.array_form.specs.Wires.{place}
use Rattle.slice_form.specs.Whole.{numbers_of}
use Rattle.drawn_nets.specs.Law.{IsKind}
use Rattle.chip_laws.specs.Laws.{AreRowsApart, AreRowsOf}
use Rattle.chip_laws.specs.Rows.{AreFullRows, rows_at}
use Rattle.chip_laws.proofs.Apart.{given, one_pad_bit}

-- ---- one row

length_labels : (p : List ℕ) (w : ℕ) → length (labels_of p w) ≡ bit_count w
length_labels p zero = refl
length_labels p (suc w) = length_word_labels p (suc w)

bits_counted : (pad : Pad) → pad_bits pad ≡ bit_count pad.width
bits_counted pad = by_width pad.width
  where
    by_width : (w : ℕ) → cond (w == 0) 1 w ≡ bit_count w
    by_width zero = ap (λ b. cond b 1 0) (eq-eqb 0 0 refl)
    by_width (suc w) = ap (λ b. cond b 1 (suc w))
        (ne_eqb (suc w) 0 (λ e. omega (arith, e)))

row_long : (pad : Pad) (id : NetId) → length (map (pad_spot pad id) (range_with_len 0 (pad_bits pad))) ≡ pad_bits pad
row_long pad id = length-map-range_with_len (pad_spot pad id) 0 (pad_bits pad)

pub rows_long : (pads : List Pad) (ids : List NetId) → length ids ≡ length pads
    → length (rows_at pads ids) ≡ length pads
rows_long [] ids l = refl
rows_long (p ∷ ps) [] l = absurd (omega (arith, l))
rows_long (p ∷ ps) (i ∷ is) l = ap suc (rows_long ps is (omega (arith, l)))

pub rows_fit : (pads : List Pad) (ids : List NetId) → length ids ≡ length pads → AreRowsOf pads (rows_at pads ids)
rows_fit [] ids l = tt
rows_fit (p ∷ ps) [] l = absurd (omega (arith, l))
rows_fit (p ∷ ps) (i ∷ is) l = (
  length_labels p.name p.width ∙ sym (bits_counted p) ∙ sym (row_long p i),
  rows_fit ps is (omega (arith, l)),
)

-- a row is that of a pad and its net
pub record IsRow (pads : List Pad) (ids : List NetId) (i : ℕ) (row : List Spot) : Type 0 where
  pub pad : Pad
  pub id : NetId
  pub is_pad : slice_get pads i ≡ Some pad
  pub is_id : slice_get ids i ≡ Some id
  pub same : map (pad_spot pad id) (range_with_len 0 (pad_bits pad)) ≡ row

pub row_at : (pads : List Pad) (ids : List NetId) (i : ℕ) (row : List Spot) → slice_get (rows_at pads ids) i ≡ Some row
    → IsRow pads ids i row
row_at [] ids i row h = absurd (none-some row h)
row_at (p ∷ ps) [] i row h = absurd (none-some row h)
row_at (p ∷ ps) (x ∷ xs) zero row h = record {
  pad = p;
  id = x;
  is_pad = refl;
  is_id = refl;
  same = same_Some (map (pad_spot p x) (range_with_len 0 (pad_bits p))) row h;
}
row_at (p ∷ ps) (x ∷ xs) (suc i) row h =
    let w = row_at ps xs i row h in
    record { pad = w.pad; id = w.id; is_pad = w.is_pad; is_id = w.is_id; same = w.same }

at_row : (pads : List Pad) (ids : List NetId) (i : ℕ) (pad : Pad) (id : NetId) → slice_get pads i ≡ Some pad
    → slice_get ids i ≡ Some id
    → slice_get (rows_at pads ids) i ≡ Some (map (pad_spot pad id) (range_with_len 0 (pad_bits pad)))
at_row [] ids i pad id h k = absurd (none-some pad h)
at_row (p ∷ ps) [] i pad id h k = absurd (none-some id k)
at_row (p ∷ ps) (x ∷ xs) zero pad id h k =
    let a = same_Some p pad h in let b = same_Some x id k in
    λ i. Some (map (pad_spot (a i) (b i)) (range_with_len 0 (pad_bits (a i))))
at_row (p ∷ ps) (x ∷ xs) (suc i) pad id h k = at_row ps xs i pad id h k

pub rows_full : (pads : List Pad) (ids : List NetId) → AreFullRows pads (rows_at pads ids)
rows_full pads ids i pad row h k =
    let w = row_at pads ids i row k in
    sym (ap length w.same) ∙ row_long w.pad w.id ∙ bits_counted w.pad
    ∙ ap (λ (p : Pad). bit_count p.width) (same_Some w.pad pad (sym w.is_pad ∙ h))

-- a place in a row
bit_of_row : (pad : Pad) (id : NetId) (k : ℕ) (s : Spot)
    → slice_get (map (pad_spot pad id) (range_with_len 0 (pad_bits pad))) k ≡ Some s
    → (k < pad_bits pad) × (pad_spot pad id k ≡ s)
bit_of_row pad id k s h =
    let w = slice_get_within (map (pad_spot pad id) (range_with_len 0 (pad_bits pad))) k s h in
    let l = row_long pad id in
    let lt : k < pad_bits pad = omega (arith, w, l) in (
      lt,
      same_Some (pad_spot pad id k) s
          (sym (map_get (pad_spot pad id) (range_with_len 0 (pad_bits pad)) k (0 + k)
          (get_range 0 (pad_bits pad) k lt) ∙ ap (λ j. Some (pad_spot pad id j))
          (let e : 0 + k ≡ k = omega arith in e)) ∙ h),
    )

row_has : (pad : Pad) (id : NetId) (k : ℕ) → k < pad_bits pad
    → Contains (map (pad_spot pad id) (range_with_len 0 (pad_bits pad))) (pad_spot pad id k)
row_has pad id k lt =
    contains_from_get (map (pad_spot pad id) (range_with_len 0 (pad_bits pad))) k (pad_spot pad id k)
    (map_get (pad_spot pad id) (range_with_len 0 (pad_bits pad)) k (0 + k) (get_range 0 (pad_bits pad) k lt)
    ∙ ap (λ j. Some (pad_spot pad id j)) (let e : 0 + k ≡ k = omega arith in e))

-- ---- what is given

-- the pad and the net of an entry
record IsEntry (word : Bool) (pads : List Pad) (ids : List NetId) (n i : ℕ) : Type 0 where
  pad : Pad
  id : NetId
  is_pad : slice_get pads i ≡ Some pad
  is_id : slice_get ids i ≡ Some id
  sort : not (pad.width == 0) ≡ word
  net : id.0 ≡ n

abbrev Found : Bool → List Pad → List NetId → ℕ → Type 0
Found word pads ids n = (i : ℕ) × IsEntry word pads ids n i

found_later : (word : Bool) (p : Pad) (ps : List Pad) (x : NetId) (xs : List NetId) (n : ℕ) → Found word ps xs n
    → Found word (p ∷ ps) (x ∷ xs) n
found_later word p ps x xs n w = (
  suc w.0,
  record {
    pad = w.1.pad;
    id = w.1.id;
    is_pad = w.1.is_pad;
    is_id = w.1.is_id;
    sort = w.1.sort;
    net = w.1.net;
  },
)

-- an entry is that of a pad of its sort
entry_at : (word : Bool) (pads : List Pad) (ids : List NetId) (n : ℕ)
    → Contains (numbers_of (entries_of word pads ids)) n → Found word pads ids n
entry_at word [] ids n c = absurd (let l = c.1 in omega (arith, l))
entry_at word (p ∷ ps) [] n c = absurd (let l = c.1 in omega (arith, l))
entry_at word (p ∷ ps) (x ∷ xs) n c =
    by_sort (not (p.width == 0)) word refl (λ k. entry_at word ps xs n k) c
  where
    here : (v : Bool) → not (p.width == 0) ≡ v → (Contains (numbers_of (entries_of v ps xs)) n → Found v ps xs n)
        → Contains (numbers_of (x ∷ entries_of v ps xs)) n → Found v (p ∷ ps) (x ∷ xs) n
    here v sort again (zero, l, is) =
        (0, record { pad = p; id = x; is_pad = refl; is_id = refl; sort = sort; net = is })
    here v sort again (suc k, l, is) = found_later v p ps x xs n (again (k, omega (arith, l), is))

    by_sort : (b v : Bool) → not (p.width == 0) ≡ b
        → (Contains (numbers_of (entries_of v ps xs)) n → Found v ps xs n)
        → Contains (numbers_of (cond b (cond v (x ∷ entries_of v ps xs) (entries_of v ps xs))
        (cond v (entries_of v ps xs) (x ∷ entries_of v ps xs)))) n → Found v (p ∷ ps) (x ∷ xs) n
    by_sort true true sort again c = here true sort again c
    by_sort true false sort again c = found_later false p ps x xs n (again c)
    by_sort false true sort again c = found_later true p ps x xs n (again c)
    by_sort false false sort again c = here false sort again c

module _ (p : DataPath) where
  abbrev pub ins : List Pad
  ins = (p.pads).inputs

  abbrev pub rows : List (List Spot)
  rows = rows_at ins p.inputs

  row_given : (i : ℕ) (row : List Spot) → slice_get rows i ≡ Some row
      → All (λ k. IsKind (path_nets p) k Given) row
  row_given i row h =
      let w = row_at ins p.inputs i row h in
      subst (All (λ k. IsKind (path_nets p) k Given)) w.same
      (all_from (λ k. IsKind (path_nets p) k Given)
      (map (pad_spot w.pad w.id) (range_with_len 0 (pad_bits w.pad))) (λ k s q.
      let b = bit_of_row w.pad w.id k s q in
      subst (λ s. path_nets p s ≡ Some Given) b.1 (given p i k w.pad w.id w.is_pad w.is_id b.0)))

  pub rows_given : All (λ nets. All (λ k. IsKind (path_nets p) k Given) nets) rows
  rows_given = all_from (λ nets. All (λ k. IsKind (path_nets p) k Given) nets) rows row_given

  -- a net that is given is a bit of a pad
  abbrev pub IsBit : Spot → Type 0
  IsBit s = (nets : List Spot) × Contains rows nets × Contains nets s

  bit_there : (i : ℕ) (pad : Pad) (id : NetId) (k : ℕ) → slice_get ins i ≡ Some pad → slice_get p.inputs i ≡ Some id
      → k < pad_bits pad → IsBit (pad_spot pad id k)
  bit_there i pad id k h q lt = (
    map (pad_spot pad id) (range_with_len 0 (pad_bits pad)),
    contains_from_get rows i (map (pad_spot pad id) (range_with_len 0 (pad_bits pad)))
        (at_row ins p.inputs i pad id h q),
    row_has pad id k lt,
  )

  pub signal_bit : (n : ℕ) → Contains (numbers_of (entries_of false ins p.inputs)) n → IsBit (place 0 n)
  signal_bit n c =
      let w = entry_at false ins p.inputs n c in
      let sort = not-false (w.1.pad.width == 0) w.1.sort in
      let lt : 0 < pad_bits w.1.pad = subst (λ b. 0 < cond b 1 w.1.pad.width) (sym sort) (omega arith) in
      subst IsBit
      (ap (λ b. spot (cond b 0 1) w.1.id) sort ∙ ap (λ m. place 0 m) w.1.net)
      (bit_there w.0 w.1.pad w.1.id 0 w.1.is_pad w.1.is_id lt)

  wide_pad : (i : ℕ) (pad : Pad) → slice_get ins i ≡ Some pad → (pad.width == 0) ≡ false → pad.width ≡ p.width
  wide_pad i pad h sort =
      All-contains (λ (x : Pad). x.width ≢ 0 → x.width ≡ p.width) ins pad p.whole.pads_fit.0
      (contains_from_get ins i pad h)
      (λ z. true≢false (sym (eq-eqb pad.width 0 z) ∙ sort))

  pub word_bit : (k n : ℕ) → k < p.width → Contains (numbers_of (entries_of true ins p.inputs)) n
      → IsBit (place (suc k) n)
  word_bit k n l c =
      let w = entry_at true ins p.inputs n c in
      let sort = not-true (w.1.pad.width == 0) w.1.sort in
      let wide = wide_pad w.0 w.1.pad w.1.is_pad sort in
      let lt : k < pad_bits w.1.pad = subst (λ b. k < cond b 1 w.1.pad.width) (sym sort) (omega (arith, l, wide)) in
      subst IsBit
      (ap (λ b. spot (cond b 0 (suc k)) w.1.id) sort ∙ ap (λ m. place (suc k) m) w.1.net)
      (bit_there w.0 w.1.pad w.1.id k w.1.is_pad w.1.is_id lt)

  -- ---- no two bits are one net

  pub rows_apart : AreRowsApart rows
  rows_apart a b k l n xs ys ha hb hk hl =
      let x = row_at ins p.inputs a xs ha in
      let y = row_at ins p.inputs b ys hb in
      let u = bit_of_row x.pad x.id k n (ap (λ r. slice_get r k) x.same ∙ hk) in
      let v = bit_of_row y.pad y.id l n (ap (λ r. slice_get r l) y.same ∙ hl) in
      one_pad_bit p a b k l x.pad y.pad x.id y.id x.is_pad y.is_pad x.is_id y.is_id u.0 v.0 (u.1 ∙ sym v.1)
