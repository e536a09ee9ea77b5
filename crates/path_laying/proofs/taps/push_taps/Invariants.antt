use Rattle.std.proofs.Common.{◌≡◌, ◌++◌, map, take}
use Rattle.std.specs.Prelude.{slice_index}
use Rattle.array_form.specs.declared.band.Tap.{Tap}
use Rattle.path_laying.specs.Tapped.{tap_mark}
use Rattle.path_laying.proofs.taps.push_taps.Given as goal

abbrev pub invariant-loop-tap : goal.invariant-loop-tap
invariant-loop-tap l =
    l.marks.items ≡ l.fn.marks.items
    ++ map (λ (t : Tap). tap_mark (slice_index l.tracks.row) t.net.0 t.column) (take l.tap-index l.taps)
