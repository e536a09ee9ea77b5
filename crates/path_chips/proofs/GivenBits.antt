-- The nets of a data path that are given are the bits of its pads.
use Rattle.std.proofs.Common.{◌≡◌, zero, suc, refl, arith}
use Rattle.nor_net.specs.Elements.{Spot, Element, Given}
use Rattle.array_form.specs.Wires.{place}
use Rattle.drawn_nets.specs.Law.{IsKind}
use Rattle.path_form.specs.declared.path.DataPath.{DataPath}
use Rattle.path_form.specs.Showing.{path_nets}
use Rattle.slice_form.specs.Path.{IsElement, gate, store, pad, cast, lift, next, open_end, one, zero_bit}
use Rattle.slice_form.specs.Whole.{path_of}
use Rattle.slice_laying.proofs.WholeNets.{from_nets}
use Rattle.path_chips.proofs.PadRows.{IsBit, signal_bit, word_bit}

of_given : (p : DataPath) (t : Spot) (e : Element) → IsElement (path_of p) t e → e ≡ Given → IsBit p t
of_given p t e (gate b n ins le h) q = absurd (cc q)
of_given p t e (store b n ph d le h) q = absurd (cc q)
of_given p t e (pad zero n le h c) q = signal_bit p n c
of_given p t e (pad (suc k) n le h c) q = word_bit p k n (omega (arith, le)) c
of_given p t e (cast i c b h s) q = absurd (cc q)
of_given p t e (lift i l h) q = absurd (cc q)
of_given p t e (next i c a b h f) q = absurd (cc q)
of_given p t e (open_end i c h) q = absurd (cc q)
of_given p t e (one i g b h lt is) q = absurd (cc q)
of_given p t e (zero_bit i g b h lt is) q = absurd (cc q)

pub given_in_rows : (p : DataPath) (k : Spot) → IsKind (path_nets p) k Given → IsBit p k
given_in_rows p k h = of_given p (place k.band k.net) Given (from_nets p k.band k.net Given h) refl
