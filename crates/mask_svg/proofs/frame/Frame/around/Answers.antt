use Rattle.std.proofs.Common.{◌≡◌, ◌∙◌, SFits, of_z, rules, to_z, to_z-of_z, w64}
use Rattle.std.specs.Int.{int_max, int_min}
use Rattle.mask_svg.proofs.frame.Frame.around.Goals as goal

pub returns : goal.returns
returns c =
    let f = c.args.self in
    let r = c.args.r.now in
    let f0 : SFits w64 f.left = search rules in
    let f1 : SFits w64 f.bottom = search rules in
    let f2 : SFits w64 f.right = search rules in
    let f3 : SFits w64 f.top = search rules in
    let r0 : SFits w64 r.x0 = search rules in
    let r1 : SFits w64 r.y0 = search rules in
    let r2 : SFits w64 r.x1 = search rules in
    let r3 : SFits w64 r.y1 = search rules in
    let m0 : SFits w64 c.min.result = search rules in
    let m1 : SFits w64 c.min-2.result = search rules in
    let m2 : SFits w64 c.max.result = search rules in
    let m3 : SFits w64 c.max-2.result = search rules in
    let left : to_z w64 (of_z w64 c.min.result) ≡ int_min f.left r.x0 =
    to_z-of_z m0 ∙ (simp to_z-of_z at c.min.ensures.value) in
    let bottom : to_z w64 (of_z w64 c.min-2.result) ≡ int_min f.bottom r.y0 =
    to_z-of_z m1 ∙ (simp to_z-of_z at c.min-2.ensures.value) in
    let right : to_z w64 (of_z w64 c.max.result) ≡ int_max f.right r.x1 =
    to_z-of_z m2 ∙ (simp to_z-of_z at c.max.ensures.value) in
    let top : to_z w64 (of_z w64 c.max-2.result) ≡ int_max f.top r.y1 =
    to_z-of_z m3 ∙ (simp to_z-of_z at c.max-2.ensures.value) in
    λ i. record { left = left i; bottom = bottom i; right = right i; top = top i }
