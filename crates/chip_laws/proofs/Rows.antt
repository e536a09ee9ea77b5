-- What rows of nets show of transfers.
use Rattle.std.proofs.Common.{◌≡◌, ◌∙◌, ℕ, zero, suc, ◌+◌, ◌<◌, List, [], ◌∷◌, length, get_or, map, refl, sym, ap}
use Rattle.std.proofs.Common.{arith, Some}
use Rattle.std.specs.Prelude.{◌==◌, All, slice_get, slice_index_or}
use Rattle.std.specs.List.{AllZip, range_with_len}
use Rattle.std.specs.Int.{bit_at}
use Rattle.std.proofs.lemmas.List.{get_or-map, length-map, ext_get_or}
use Rattle.std.proofs.lemmas.Option.{same_Some, slice_get_within, get_or_from_slice_get}
use Rattle.std.proofs.lemmas.Nat.Bits.{bit_at-lt}
use Rattle.std.proofs.lemmas.List.FromFn.{length-range_with_len}
use Rattle.mp_base.specs.declared.value.Trit.{Trit}
use Rattle.mp_base.specs.declared.value.Trit.TheVariants.{X}
use Rattle.mp_base.specs.declared.pad.Pad.{Pad}
use Rattle.mp_base.proofs.Entries.{get_map, some_entry, map_get}
use Rattle.mp_base.proofs.Zips.{zip_at, zip_length, zip_map}
use Rattle.mp_base.proofs.Ranges.{get_range}
use Rattle.mp_base.specs.PadBits.{bit_count, pad_bits}
use Rattle.switch_net.proofs.Labels.{low_bit}
use Rattle.mp_base.proofs.PadBits.{length_bits}
use Rattle.mp_base.specs.PadBits.{value_bits}
use Rattle.nor_net.specs.declared.net.NetId.{NetId}
use Rattle.nor_net.specs.Elements.{Spot}
use Rattle.nor_net.specs.Laws.{bit}
use Rattle.path_form.specs.Showing as path
use Rattle.path_form.specs.Showing.{pad_spot}
use Rattle.drawing.specs.Draws.{OfNet}
use Rattle.drawn_nets.specs.Circuits.{AreGiven, CircuitsAreDrawn}
use Rattle.chip_laws.specs.Rows.{HasRows, AreFullRows, RowsFollow, rows_at, PathsShowRows}
use Rattle.chip_laws.proofs.Following.{
  trit_bit,
  fits,
  shows_all,
  trace_length,
}

-- ---- one pad

bit_given : (v : Spot → Trit) (p : Pad) (w : ℕ) (row : List Spot) (k : ℕ) (s : Spot)
    → AllZip (λ net b. v net ≡ b) row (pad_bits p w)
    → slice_get row k ≡ Some s → v s ≡ bit (bit_at w k == 1)
bit_given v p w row k s z e =
    let inside : k < length row = slice_get_within row k s e in
    let same : length row ≡ length (pad_bits p w) = zip_length (λ net b. v net ≡ b) row (pad_bits p w) z in
    let count : length (pad_bits p w) ≡ bit_count p.width = length_bits (bit_count p.width) w in
    ap v (sym (get_or_from_slice_get row k s s e))
    ∙ zip_at (λ net b. v net ≡ b) row (pad_bits p w) z k s X inside
    ∙ low_bit (bit_count p.width) w k X (omega (arith, inside, same, count)) ∙ trit_bit (bit_at w k) (bit_at-lt w k)

bits_shown : (v : Spot → Trit) (p : Pad) (w : ℕ) (row : List Spot) → length row ≡ bit_count p.width
    → ((k : ℕ) (s : Spot) → slice_get row k ≡ Some s → v s ≡ bit (bit_at w k == 1)) → map v row ≡ pad_bits p w
bits_shown v p w row size h = ext_get_or X (map v row) (pad_bits p w) same each
  where
    same : length (map v row) ≡ length (pad_bits p w)
    same = length-map row v ∙ size ∙ sym (length_bits (bit_count p.width) w)

    each : (k : ℕ) → k < length (map v row) → get_or (map v row) k X ≡ get_or (pad_bits p w) k X
    each k lt =
        let l : length (map v row) ≡ length row = length-map row v in
        let inside : k < length row = omega (arith, lt, l) in
        let here = some_entry row k inside in
        get_or-map v row k here.0 X inside ∙ ap v (get_or_from_slice_get row k here.0 here.0 here.1)
        ∙ h k here.0 here.1 ∙ sym (trit_bit (bit_at w k) (bit_at-lt w k))
        ∙ sym (low_bit (bit_count p.width) w k X (omega (arith, inside, size)))

-- ---- all pads

pads_given : (v : Spot → Trit) (pads : List Pad) (words : List ℕ) (rows : List (List Spot))
    → AreGiven v pads words rows → HasRows pads rows words v
pads_given v [] words rows z i pad row k s is_pad is_row is_s =
    absurd (let w = slice_get_within [] i pad is_pad in omega (arith, w))
pads_given v (p ∷ ps) [] rows z i pad row k s is_pad is_row is_s = absurd z
pads_given v (p ∷ ps) (w ∷ ws) [] z i pad row k s is_pad is_row is_s = absurd z
pads_given v (p ∷ ps) (w ∷ ws) (r ∷ rs) z zero pad row k s is_pad is_row is_s =
    bit_given v p w r k s z.0 (ap (λ x. slice_get x k) (same_Some r row is_row) ∙ is_s)
pads_given v (p ∷ ps) (w ∷ ws) (r ∷ rs) z (suc i) pad row k s is_pad is_row is_s =
    pads_given v ps ws rs z.1 i pad row k s is_pad is_row is_s

pads_shown : (v : Spot → Trit) (pads : List Pad) (words : List ℕ) (rows : List (List Spot))
    → length rows ≡ length pads → length words ≡ length pads
    → AreFullRows pads rows → HasRows pads rows words v → map (λ nets. map v nets) rows ≡ value_bits pads words
pads_shown v [] words [] l m full h = refl
pads_shown v [] words (r ∷ rs) l m full h = absurd (omega (arith, l))
pads_shown v (p ∷ ps) words [] l m full h = absurd (omega (arith, l))
pads_shown v (p ∷ ps) [] (r ∷ rs) l m full h = absurd (omega (arith, m))
pads_shown v (p ∷ ps) (w ∷ ws) (r ∷ rs) l m full h =
    let head = bits_shown v p w r (full 0 p r refl refl) (λ k s e. h 0 p r k s refl refl e) in
    let rest = pads_shown v ps ws rs (omega (arith, l)) (omega (arith, m)) (λ i. full (suc i)) (λ i. h (suc i)) in
    ap (λ x. x ∷ map (λ nets. map v nets) rs) head ∙ ap (λ xs. pad_bits p w ∷ xs) rest

pub rows_follow : CircuitsAreDrawn → RowsFollow
rows_follow law r nets ins outs network node shows size full draws inputs outputs fit trace charge after shown circuit
    k lt settled =
    let here = law network r.pads nets ins outs node draws charge after inputs shown fit circuit in
    let givens = here.0 in
    let showns = here.1 in
    let loose = here.2 in
    let given =
    zip_map (λ words g. AreGiven g (r.pads).inputs words ins) (HasRows (r.pads).inputs ins)
    (λ words g. pads_given g (r.pads).inputs words ins) inputs
    givens here.3 in
    let narrow : All (path.FitPads (r.pads).inputs) inputs =
    λ i d l. fits (r.pads).inputs (slice_index_or inputs i d) (fit i d l) in
    let h = shows inputs outputs narrow trace (λ s. charge (node (OfNet s))) givens showns
    (λ s. after (node (OfNet s))) given loose k lt settled in
    let l1 : length inputs ≡ length givens = zip_length (HasRows (r.pads).inputs ins) inputs givens given in
    let l2 : length givens ≡ length showns = trace_length nets (λ s. charge (node (OfNet s))) givens showns
    (λ s. after (node (OfNet s))) loose in
    ap (λ xs. slice_index_or xs k []) here.4
    ∙ get_or-map (λ v. map (λ nets. map v nets) outs) showns k (λ n. X) [] (omega (arith, lt, l1, l2))
    ∙ pads_shown (slice_index_or showns k (λ n. X)) (r.pads).outputs (slice_index_or outputs k []) outs size
    (shows_all r (_) inputs outputs trace k lt) full h

-- ---- the rows of a path

row_at : (pads : List Pad) (ids : List NetId) (i : ℕ) (pad : Pad) (id : NetId) → slice_get pads i ≡ Some pad
    → slice_get ids i ≡ Some id
    → slice_get (rows_at pads ids) i ≡ Some (map (pad_spot pad id) (range_with_len 0 (path.pad_bits pad)))
row_at [] ids i pad id a b = absurd (let w = slice_get_within [] i pad a in omega (arith, w))
row_at (p ∷ ps) [] i pad id a b = absurd (let w = slice_get_within [] i id b in omega (arith, w))
row_at (p ∷ ps) (d ∷ ds) zero pad id a b =
    let x = same_Some p pad a in
    let y = same_Some d id b in
    ap (λ z. Some (map (pad_spot z d) (range_with_len 0 (path.pad_bits z)))) x
    ∙ ap (λ z. Some (map (pad_spot pad z) (range_with_len 0 (path.pad_bits pad)))) y
row_at (p ∷ ps) (d ∷ ds) (suc i) pad id a b = row_at ps ds i pad id a b

to_pads : (v : Spot → Trit) (pads : List Pad) (ids : List NetId) (values : List ℕ)
    → HasRows pads (rows_at pads ids) values v → path.HasPadValues pads ids values v
to_pads v pads ids values h i pad id k a b lt =
    h i pad (map (pad_spot pad id) (range_with_len 0 (path.pad_bits pad))) k (pad_spot pad id k) a
    (row_at pads ids i pad id a b)
    (map_get (pad_spot pad id) (range_with_len 0 (path.pad_bits pad)) k k
    (get_range 0 (path.pad_bits pad) k lt ∙ ap Some (let e : 0 + k ≡ k = omega arith in e)))

-- the pad and the entry of a row
ids_at : (pads : List Pad) (ids : List NetId) (i : ℕ) (pad : Pad) (row : List Spot) → slice_get pads i ≡ Some pad
    → slice_get (rows_at pads ids) i ≡ Some row
    → (id : NetId) × (slice_get ids i ≡ Some id) × (map (pad_spot pad id) (range_with_len 0 (path.pad_bits pad)) ≡ row)
ids_at [] ids i pad row a b = absurd (let w = slice_get_within [] i pad a in omega (arith, w))
ids_at (p ∷ ps) [] i pad row a b = absurd (let w = slice_get_within [] i row b in omega (arith, w))
ids_at (p ∷ ps) (d ∷ ds) zero pad row a b = (
  d,
  refl,
  ap (λ z. map (pad_spot z d) (range_with_len 0 (path.pad_bits z))) (sym (same_Some p pad a))
      ∙ same_Some (map (pad_spot p d) (range_with_len 0 (path.pad_bits p))) row b,
)
ids_at (p ∷ ps) (d ∷ ds) (suc i) pad row a b = ids_at ps ds i pad row a b

from_pads : (v : Spot → Trit) (pads : List Pad) (ids : List NetId) (values : List ℕ)
    → path.HasPadValues pads ids values v → HasRows pads (rows_at pads ids) values v
from_pads v pads ids values h i pad row k s a b e =
    let w = ids_at pads ids i pad row a b in
    let m = get_map (pad_spot pad w.0) (range_with_len 0 (path.pad_bits pad)) k s (ap (λ x. slice_get x k) w.2 ∙ e) in
    let within = slice_get_within (range_with_len 0 (path.pad_bits pad)) k m.0 m.1 in
    let size = length-range_with_len 0 (path.pad_bits pad) in
    let lt : k < path.pad_bits pad = omega (arith, within, size) in
    let place : m.0 ≡ 0 + k = same_Some m.0 (0 + k) (sym m.1 ∙ get_range 0 (path.pad_bits pad) k lt) in
    let at : pad_spot pad w.0 k ≡ s = ap (pad_spot pad w.0) (let q : k ≡ m.0 = omega (arith, place) in q) ∙ m.2 in
    ap v (sym at) ∙ h i pad w.0 k a w.1 lt

pub paths_show_rows : PathsShowRows
paths_show_rows r p same shows inputs outputs fit trace before givens showns after given loose k lt settled =
    from_pads (slice_index_or showns k (λ n. X)) (r.pads).outputs p.outputs (slice_index_or outputs k [])
    (shows inputs outputs fit trace before givens showns after
    (zip_map (HasRows (r.pads).inputs (rows_at (r.pads).inputs p.inputs))
    (path.HasPadValues (r.pads).inputs p.inputs) (λ words g. to_pads g (r.pads).inputs p.inputs words) inputs
    givens given) loose k lt settled)
