use Rattle.std.proofs.Common.{◌≡◌, ℕ, ◌+◌, ◌<◌, List, [], ◌∷◌, ◌++◌, take, get_or, length, refl, sym, ◌∙◌, ap}
use Rattle.std.proofs.lemmas.List.{take_more}
use Rattle.mp_base.specs.declared.pad.Pad.{Pad}
use Rattle.mp_base.proofs.SamePad.{same_pad}
use Rattle.mp_base.proofs.pad.copy_of.Goals as goal

one_more : (pads copy new : List Pad) (i : ℕ) (p q : Pad) → i < length pads → p ≡ get_or pads i p → copy ≡ take i pads
    → new ≡ copy ++ q ∷ [] → q.name ≡ p.name → q.width ≡ p.width → new ≡ take (i + 1) pads
one_more pads copy new i p q lt is old made e f =
    made ∙ ap (λ ys. ys ++ q ∷ []) old ∙ ap (λ r. take i pads ++ r ∷ []) (same_pad q p e f ∙ is)
    ∙ sym (take_more pads i p lt)

pub loop-pad-preserved : goal.loop-pad-preserved
loop-pad-preserved c =
    one_more c.args.pads.now c.loop-pad.copy c.push.new.self c.loop-pad.pad-index c.pad-item.result _
    c.loop-pad-test.true c.pad-item.is c.loop-pad.invariant c.in_ok-push.ensures.ok
    (c.in_ok-from_slice.ensures ∙ c.bytes.ensures) refl
