use Rattle.std.proofs.Common.{ℕ, [], ◌∷◌, ◌++◌, ◌∙◌, ap, sym, append_assoc}
use Rattle.std.specs.Prelude.{slice_get}
use Rattle.mp_base.proofs.Ranges.{flat_grown}
use Rattle.slice_form.specs.Whole.{path_of}
use Rattle.slice_layout.specs.Pins.{chain_pin}
use Rattle.slice_layout.proofs.pins.push_chains.Goals as goal

pub loop-i-preserved : goal.loop-i-preserved
loop-i-preserved c =
    let p = path_of c.args.path.now in
    let i : ℕ = c.loop-i.i in
    let items = c.loop-i.pins.items in
    let a = c.home_pin.ensures in
    let b = c.home_pin-in-loop-i.ensures in
    flat_grown c.args.pins.now.items (λ i. chain_pin (slice_get p.chains i)) i _ _ c.loop-i.invariant
    (c.in_ok-push-2.ensures.items
    ∙ (ap (λ l. l ++ c.home_pin-in-loop-i.result ∷ []) c.in_ok-push.ensures.items
    ∙ (append_assoc items (c.home_pin.result ∷ []) (c.home_pin-in-loop-i.result ∷ [])
    ∙ ((λ j. items ++ a j ∷ b j ∷ [])
    ∙ ap (λ q. items ++ chain_pin q) (sym c.link_at-link.ensures.is)))))
