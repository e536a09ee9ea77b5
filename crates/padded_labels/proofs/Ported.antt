-- Lists that are made label by label.
use Rattle.std.proofs.Common.{ℕ, zero, suc, ◌≡◌, ◌<◌, ◌+◌, refl, sym, ap, ◌∙◌, arith, List, [], ◌∷◌, ◌++◌, length}
use Rattle.std.proofs.Common.{get_or, take, subst}
use Rattle.std.specs.List.{AllZip}
use Rattle.std.specs.Prelude.{slice_get, Some}
use Rattle.std.proofs.lemmas.List.{take_more}
use Rattle.std.proofs.lemmas.Option.{same_Some, none-some}
use Rattle.mp_base.proofs.Zips.{zip_push}
use Rattle.fabric.specs.declared.chip.ChipLabel.{ChipLabel}
use Rattle.pad_frame.specs.declared.frames.PadSpot.{PadSpot}
use Rattle.pad_order.specs.declared.ports.Port.{Port}
use Rattle.padded_labels.specs.Padded.{IsAtSpot, ports_at}

-- one label more
next_port : (labels : List ChipLabel) (heights : List ℕ) (i : ℕ) (d : ChipLabel) (p : Port) → i < length labels
    → length heights ≡ length labels → p.name ≡ (get_or labels i d).name → p.height ≡ get_or heights i 0
    → ports_at (take (suc i) labels) (take (suc i) heights) ≡ ports_at (take i labels) (take i heights) ++ p ∷ []
next_port [] heights i d p lt e n h = absurd (omega (arith, lt))
next_port (l ∷ ls) [] i d p lt e n h = absurd (omega (arith, e))
next_port (l ∷ ls) (k ∷ ks) zero d p lt e n h = λ j. record { name = (sym n) j; height = (sym h) j } ∷ []
next_port (l ∷ ls) (k ∷ ks) (suc i) d p lt e n h =
    ap (λ z. (record { name = l.name; height = k }) ∷ z)
    (next_port ls ks i d p (omega (arith, lt)) (omega (arith, e)) n h)

pub ports_grown : (labels : List ChipLabel) (heights : List ℕ) (i : ℕ) (d : ChipLabel) (p : Port)
    (was new : List Port) → i < length labels → length heights ≡ length labels → p.name ≡ (get_or labels i d).name
    → p.height ≡ get_or heights i 0 → was ≡ ports_at (take i labels) (take i heights) → new ≡ was ++ p ∷ []
    → new ≡ ports_at (take (i + 1) labels) (take (i + 1) heights)
ports_grown labels heights i d p was new lt e n h before after =
    let s : suc i ≡ i + 1 = omega arith in
    after ∙ ap (λ z. z ++ p ∷ []) before ∙ sym (next_port labels heights i d p lt e n h)
    ∙ ap (λ k. ports_at (take k labels) (take k heights)) s

pub spots_grown : (spots : List PadSpot) (i : ℕ) (d : PadSpot) (was new : List ChipLabel) (label : ChipLabel)
    → i < length spots → AllZip IsAtSpot (take i spots) was → new ≡ was ++ label ∷ []
    → IsAtSpot (get_or spots i d) label → AllZip IsAtSpot (take (i + 1) spots) new
spots_grown spots i d was new label lt before after at =
    subst (λ z. AllZip IsAtSpot z new) (sym (take_more spots i d lt))
    (subst (AllZip IsAtSpot (take i spots ++ get_or spots i d ∷ [])) (sym after)
    (zip_push IsAtSpot (take i spots) was (get_or spots i d) label before at))

pub ports_long : (labels : List ChipLabel) (heights : List ℕ) → length heights ≡ length labels
    → length (ports_at labels heights) ≡ length labels
ports_long [] heights e = refl
ports_long (l ∷ ls) [] e = absurd (omega (arith, e))
ports_long (l ∷ ls) (h ∷ hs) e = let i = ports_long ls hs (omega (arith, e)) in omega (arith, i)

-- the port of a label
pub port_is : (labels : List ChipLabel) (heights : List ℕ) (i : ℕ) (old : ChipLabel) (d : Port)
    → length heights ≡ length labels → slice_get labels i ≡ Some old
    → get_or (ports_at labels heights) i d ≡ record { name = old.name; height = get_or heights i 0 }
port_is [] heights i old d e g = absurd (none-some old g)
port_is (l ∷ ls) [] i old d e g = absurd (omega (arith, e))
port_is (l ∷ ls) (h ∷ hs) zero old d e g =
    let s = same_Some l old g in λ j. record { name = (s j).name; height = h }
port_is (l ∷ ls) (h ∷ hs) (suc i) old d e g = port_is ls hs i old d (omega (arith, e)) g
