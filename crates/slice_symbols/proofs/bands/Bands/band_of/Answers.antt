use Rattle.std.proofs.Common.{ℕ, ◌≡◌, ◌/◌, ◌<◌, ◌≤◌, ◌+◌, ◌*◌, arith, of_z, to_z, w64}
use Rattle.std.specs.Prelude.{ℤ, pos, ◌+ℤ◌, ◌-ℤ◌, ◌<ℤ◌, ◌≤ℤ◌}
use Rattle.std.proofs.lemmas.Int.{ints}
use lib.IntN.{nat_abs}
use Rattle.slice_symbols.proofs.Banded.{stands_by, stands_only, top_there}
use Rattle.slice_symbols.proofs.bands.Bands.band_of.Goals.{else-band-from-via-then-band-from+else-top-band}
use Rattle.slice_symbols.proofs.bands.Bands.band_of.Goals.{else-band-from-via-else-band-from}
use Rattle.slice_symbols.proofs.bands.Bands.band_of.Goals as goal

pub returns-then-top-band : goal.returns-then-top-band
returns-then-top-band c =
    let b = c.args.self in
    let r = c.args.rect.now in
    let near = c.requires.near in
    let y0 = near.y0 in
    let y1 = near.y1 in
    let low = c.requires.usable.low in
    let not_under = c.if-bottom-lt0.false in
    let bottom : ℤ = to_z w64 (of_z w64 (to_z w64 (of_z w64 r.y0) -ℤ to_z w64 (of_z w64 b.low))) in
    let n : ℕ = nat_abs bottom in
    let h : ℕ = c.from-height.result in
    let e : r.y0 ≡ b.low +ℤ pos n = omega (arith, ints, y0, low, not_under) in
    let few : n / h < b.count = let t = c.if-band-from.true in let s = c.from.ensures in omega (arith, t, s) in
    let under : r.y1 ≤ℤ (b.low +ℤ pos ((n / h + 1) * h)) =
    let t = c.if-top-band.true in omega (arith, ints, y1, low, t) in
    (few, stands_by b r n h e c.from-height.ensures c.requires.usable.height under)

clash : (z y : ℤ) → z <ℤ y → y ≤ℤ z → ⊥
clash z y l m = omega (arith, ints)

pub returns-else-band-from : goal.returns-else-band-from
returns-else-band-from c =
    let b = c.args.self in
    let r = c.args.rect.now in
    let near = c.requires.near in
    let y0 = near.y0 in
    let y1 = near.y1 in
    let low = c.requires.usable.low in
    let not_under = c.if-bottom-lt0.false in
    let bottom : ℤ = to_z w64 (of_z w64 (to_z w64 (of_z w64 r.y0) -ℤ to_z w64 (of_z w64 b.low))) in
    let n : ℕ = nat_abs bottom in
    let h : ℕ = c.from-height.result in
    let e : r.y0 ≡ b.low +ℤ pos n = omega (arith, ints, y0, low, not_under) in
    let high = c.requires.usable.height in
    elim c.else-band-from.branch [
      | else-band-from-via-then-band-from+else-top-band w ↦ (
          let t = w.if-top-band.false in
          let over : (b.low +ℤ pos ((n / h + 1) * h)) <ℤ r.y1 = omega (arith, ints, y1, low, t) in
          λ k less s. clash (b.low +ℤ pos ((n / h + 1) * h)) r.y1 over
          (top_there b r n h e c.from-height.ensures high k s))
      | else-band-from-via-else-band-from w ↦ (
          let t = w.if-band-from.false in
          let f = c.from.ensures in
          let many : b.count ≤ n / h = omega (arith, t, f) in
          λ k less s. (let only : n / h ≡ k = stands_only b r n h e c.from-height.ensures high k s in
          omega (arith, many, only, less)))
    ]
