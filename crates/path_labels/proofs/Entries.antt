-- The nets of pads are those of a path, and their segments are there.
use Rattle.std.proofs.Common.{◌≡◌, ◌≢◌, ℕ, ◌+◌, ◌*◌, ◌<◌, ◌≤◌, Some, true, false, not, List, length, get_or}
use Rattle.std.proofs.Common.{sym, ◌∙◌, ap, arith}
use Rattle.std.specs.Prelude.{slice_get}
use Rattle.std.proofs.Math.Nat.{mul-le-mul_right}
use Rattle.std.proofs.lemmas.Bool.{eq-eqb, ne_eqb}
use Rattle.std.proofs.lemmas.List.Elements.{All-contains}
use Rattle.std.proofs.lemmas.Option.{slice_get-get_or}
use Rattle.mp_base.specs.declared.pad.Pad.{Pad}
use Rattle.mp_base.proofs.Entries.{contains_from_get}
use Rattle.nor_net.specs.declared.net.NetId.{NetId}
use Rattle.path_form.specs.declared.path.DataPath.{DataPath}
use Rattle.path_form.specs.Shape.{entries_of}
use Rattle.path_values.proofs.Realized.{in_entries}
use Rattle.path_labels.specs.Labels.{AreEntriesOf, IsEntryOf}

-- a net of a slice has a segment
pub segment_there : (low each width k n : ℕ) → k < width → n < each
    → low + (k * (each + 3) + n) < low + width * (each + 3)
segment_there low each width k n h l =
    let m : (k + 1) * (each + 3) ≤ width * (each + 3) = mul-le-mul_right (each + 3) (omega (arith, h)) in
    omega (arith, m, l)

pub entry_at : (p : DataPath) (pads : List Pad) (ids : List NetId) (i : ℕ) (pad : Pad) (id : NetId)
    → AreEntriesOf p pads ids → slice_get pads i ≡ Some pad → slice_get ids i ≡ Some id → IsEntryOf p pad id
entry_at p pads ids i pad id (fits, (_, signals, words)) is_pad is_id = record {
  signal = λ w.
      All-contains (λ (id : NetId). id.0 < length p.control) (entries_of false pads ids) id signals
      (in_entries false pads ids i pad id is_pad is_id (ap not (eq-eqb pad.width 0 w)));
  wide = All-contains (λ (q : Pad). q.width ≢ 0 → q.width ≡ p.width) pads pad fits
      (contains_from_get pads i pad is_pad);
  word = λ w.
      All-contains (λ (id : NetId). id.0 < length p.slices.net) (entries_of true pads ids) id words
      (in_entries true pads ids i pad id is_pad is_id (ap not (ne_eqb pad.width 0 w)));
}

pub entry_of : (p : DataPath) (pads : List Pad) (ids : List NetId) (i : ℕ) (pad : Pad) (d : NetId)
    → AreEntriesOf p pads ids → i < length pads → pad ≡ get_or pads i pad → IsEntryOf p pad (get_or ids i d)
entry_of p pads ids i pad d fit h e =
    let (_, (long, _, _)) = fit in
    entry_at p pads ids i pad (get_or ids i d) fit (slice_get-get_or pads i pad h ∙ ap Some (sym e))
    (slice_get-get_or ids i d (omega (arith, h, long)))
