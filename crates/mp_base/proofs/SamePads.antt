-- Lists of pads that are the same, for all crates above.
use Rattle.std.proofs.Common.{List, ◌≡◌, ap, ◌∙◌, subst}
use Rattle.std.proofs.Props.{props}
use Rattle.mp_base.specs.declared.pad.Pad.{Pad}
use Rattle.mp_base.specs.PadNames.{ArePadNames, names_of}
use Rattle.mp_base.specs.declared.pad.Pads.{Pads}

abbrev pub Lists : Type 0
Lists = List Pad × List Pad

abbrev pub Names : Lists → Type 0
Names l = ArePadNames (names_of l.0 l.1 (λ (pad : Pad). pad.name))

abbrev pub make_pads : (l : Lists) → Names l → Pads
make_pads l h = record { inputs = l.0; outputs = l.1; named = h }

pub one_naming : (l : Lists) → IsProp (Names l)
one_naming l = hlevel props

pub same_pads : (p q : Pads) → p.inputs ≡ q.inputs → p.outputs ≡ q.outputs → p ≡ q
same_pads p q e f =
    let P : Lists → Type 0 = λ l. (h : Names l) → make_pads (p.inputs, p.outputs) p.named ≡ make_pads l h in
    let both : (p.inputs, p.outputs) ≡ (q.inputs, q.outputs) = ap (λ x. let y : Lists = (x, p.outputs) in y) e
    ∙ ap (λ x. let y : Lists = (q.inputs, x) in y) f in
    subst P both (λ h. ap (make_pads (p.inputs, p.outputs)) (one_naming (p.inputs, p.outputs) p.named h)) q.named
