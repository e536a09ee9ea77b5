use Rattle.std.proofs.Common.{ℕ, ◌≡◌, ◌<◌, ◌+◌, ◌==◌, ◌∙◌, Bool, List, false, length, map, get_or, sym, ap, subst}
use Rattle.std.proofs.Common.{arith}
use Rattle.std.specs.Prelude.{All}
use Rattle.std.specs.List.{list_any, range_with_len}
use Rattle.slice_form.specs.Whole.{path_of}
use Rattle.band_lists.specs.declared.pins.Pin.{Pin}
use Rattle.band_lists.specs.Homed.{is_unpinned}
use Rattle.slice_layout.specs.Pins.{slice_pins}
use Rattle.slice_layout.proofs.Ends.{has_ends}
use Rattle.slice_layout.proofs.SliceSpans.{slice_pins_on}
use Rattle.slice_layout.proofs.SliceStubs.{stubs_same}
use Rattle.slice_layout.proofs.layout.stubs_by.Goals as goal

pub pinned-requires : goal.pinned-requires
pinned-requires c =
    let p = c.args.path.now in
    subst (λ n. All (λ (q : Pin). q.segment < n + 3) c.args.pins.now) (sym c.len-nets.ensures.len)
    (subst (All (λ (q : Pin). q.segment < length p.slices.net + 3)) (sym c.requires)
    (slice_pins_on (path_of p) (has_ends p) c.len-nets.ensures.shape))

pub returns : goal.returns
returns c =
    let p = c.args.path.now in
    let flags : List Bool = c.deref.result.now in
    let has : (k : ℕ) → k < length p.slices.net + 3
    → get_or flags k false ≡ list_any (λ (q : Pin). q.segment == k) (slice_pins (path_of p)) =
    λ k lt. ap (λ l. get_or l k false) c.deref.ensures.value
    ∙ (c.in_ok-pinned.ensures.flags k (omega (arith, c.len-nets.ensures.len))
    ∙ ap (list_any (λ (q : Pin). q.segment == k)) c.requires) in
    c.in_ok-stubs.ensures
    ∙ (ap (λ n. map (is_unpinned flags) (range_with_len 0 n)) c.len-nets.ensures.len
    ∙ stubs_same (path_of p) (has_ends p) flags has)
