use Rattle.std.proofs.Common.{ℕ, ◌++◌, ◌∙◌, true, map, sym, ap}
use Rattle.std.proofs.lemmas.Simd.{map-map}
use Rattle.nor_net.specs.declared.net.NetId.{NetId}
use Rattle.band_lists.specs.Pins.{west_pin}
use Rattle.slice_form.specs.Whole.{pad_entries}
use Rattle.slice_layout.specs.Pins.{word_pin}
use Rattle.slice_layout.proofs.pins.push_words.Goals as goal

pub returns : goal.returns
returns c =
    let ids = pad_entries true c.args.path.now in
    c.in_ok-push_west.ensures
    ∙ ap (λ l. c.args.pins.now.items ++ l)
    (ap (map west_pin) (c.as_slice.ensures ∙ c.in_ok-words.ensures)
    ∙ sym (map-map word_pin (λ (id : NetId). id.0) ids))
