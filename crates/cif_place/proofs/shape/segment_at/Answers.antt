use Rattle.std.proofs.Common.{ℕ, ◌≡◌, ◌+◌, ◌<◌, List, length, suc, sym, arith, rules}
use Rattle.cif_form.specs.Place.{segments}
use Rattle.lam_geom.specs.declared.place.Point.{Point}
use Rattle.cif_place.proofs.Shapes.{segments_more, the_segment, a_segment}
use Rattle.cif_place.proofs.shape.segment_at.Goals as goal

within : (ps : List Point) (k : ℕ) → 0 < length ps → (length ps ≡ 1 → ⊥) → k < length (segments ps) → suc k < length ps
within ps k some more h = let m = segments_more ps (omega arith) in omega (arith, m)

pub bounds-path-index : goal.bounds-path-index
bounds-path-index c =
    let l = within c.args.path.now c.args.index c.requires.some (λ e. c.if-path-eq1.false e) c.requires.within in
    omega (arith, l)

pub bounds-path-index-2 : goal.bounds-path-index-2
bounds-path-index-2 c =
    let l = within c.args.path.now c.args.index c.requires.some (λ e. c.if-path-eq1.false e) c.requires.within in
    omega (arith, l)

pub offset_bounds-path-index : goal.offset_bounds-path-index
offset_bounds-path-index c =
    let l = within c.args.path.now c.args.index c.requires.some (λ e. c.if-path-eq1.false e) c.requires.within in
    let k : c.args.index < length c.args.path.now = omega (arith, l) in
    search rules

pub overflow_add-result : goal.overflow_add-result
overflow_add-result c =
    let l = within c.args.path.now c.args.index c.requires.some (λ e. c.if-path-eq1.false e) c.requires.within in
    let k : c.args.index < length c.args.path.now = omega (arith, l) in
    search rules

pub offset_bounds-path-index-2 : goal.offset_bounds-path-index-2
offset_bounds-path-index-2 c =
    let l = within c.args.path.now c.args.index c.requires.some (λ e. c.if-path-eq1.false e) c.requires.within in
    let k : c.args.index + 1 < length c.args.path.now = omega (arith, l) in
    search rules

pub returns-then-path-eq1 : goal.returns-then-path-eq1
returns-then-path-eq1 c = sym (the_segment c.args.path.now c.args.index _ _ _ c.if-path-eq1.true c.requires.within)

pub returns : goal.returns
returns c =
    let l = within c.args.path.now c.args.index c.requires.some (λ e. c.if-path-eq1.false e) c.requires.within in
    let e : c.args.index + 1 ≡ suc c.args.index = omega arith in
    rw e (sym (a_segment c.args.path.now c.args.index _ _ _ l))
