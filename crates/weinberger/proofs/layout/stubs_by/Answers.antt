use Rattle.std.proofs.Common.{ℕ, ◌≡◌, ◌<◌, ◌+◌, ◌==◌, ◌∙◌, Bool, List, false, length, map, get_or, sym, ap, subst}
use Rattle.std.proofs.Common.{arith}
use Rattle.std.specs.Prelude.{All}
use Rattle.std.specs.List.{list_any, range_with_len}
use Rattle.nor_net.specs.declared.net.Part.{Part}
use Rattle.array_form.specs.declared.band.Band.{Band}
use Rattle.band_lists.specs.declared.pins.Pin.{Pin}
use Rattle.band_lists.specs.Homed.{is_unpinned}
use Rattle.weinberger.specs.Pins.{band_pins}
use Rattle.weinberger.proofs.Stubs.{stubs_same}
use Rattle.weinberger.proofs.AllPins.{band_pins_on}
use Rattle.weinberger.proofs.layout.stubs_by.Goals as goal

pub pinned-requires : goal.pinned-requires
pinned-requires c =
    subst (λ n. All (λ (p : Pin). p.segment < n + 3) c.args.pins.now) (sym c.len-nets.ensures.len)
    (subst (All (λ (p : Pin). p.segment < length c.args.net.now + 3)) (sym c.requires.pins)
    (band_pins_on c.args.band.now c.args.net.now c.requires.band c.len-nets.ensures.shape))

pub returns : goal.returns
returns c =
    let band : Band = c.args.band.now in
    let parts : List Part = c.args.net.now in
    let flags : List Bool = c.deref.result.now in
    let has : (k : ℕ) → k < length parts + 3
    → get_or flags k false ≡ list_any (λ (p : Pin). p.segment == k) (band_pins band parts) =
    λ k lt. ap (λ l. get_or l k false) c.deref.ensures.value
    ∙ (c.in_ok-pinned.ensures.flags k (omega (arith, c.len-nets.ensures.len))
    ∙ ap (list_any (λ (p : Pin). p.segment == k)) c.requires.pins) in
    c.in_ok-stubs.ensures
    ∙ (ap (λ n. map (is_unpinned flags) (range_with_len 0 n)) c.len-nets.ensures.len
    ∙ stubs_same band parts flags has)
