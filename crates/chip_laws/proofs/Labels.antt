-- A label on each net of a fabric.
use Rattle.std.proofs.Common.{◌≡◌, ◌+◌, ◌*◌, ◌<◌, ◌≤◌, ℕ, zero, suc, refl, sym, ◌∙◌, ap, subst, arith, Some}
use Rattle.std.specs.Prelude.{◌-◌}
use Rattle.std.proofs.lemmas.Int.{ints}
use Rattle.std.proofs.lemmas.List.Elements.{All-contains}
use Rattle.fabric.specs.Plan.{Plan, IsFabric, IsSegment, IsLine, bands, rows_of}
use Rattle.fabric.specs.Shape.{base}
use Rattle.fabric.specs.Switches.{Net, IsNet}
use Rattle.fabric.specs.Switches.Net.{segment, line, ground, power}
use Rattle.fabric_laws.specs.Theorem.{IsOn}
use Rattle.chip_laws.specs.Labels.{corner_of, LabelsStand}

rises : (f : Plan) (a k : ℕ) → base f a ≤ base f (k + a)
rises f a zero = let e : 0 + a ≡ a = omega arith in subst (λ z. base f a ≤ base f z) (sym e)
    (let r : base f a ≤ base f a = omega arith in r)
rises f a (suc k) =
    let r = rises f a k in
    let e : suc k + a ≡ suc (k + a) = omega arith in
    subst (λ z. base f a ≤ base f z) (sym e) (omega (arith, r))

higher : (f : Plan) (a b : ℕ) → a ≤ b → base f a ≤ base f b
higher f a b h = subst (λ z. base f a ≤ base f z) (let e : (b - a) + a ≡ b = omega arith in e) (rises f a (b - a))

-- a fabric has some height
tall : (f : Plan) → 1 ≤ bands f → 0 < base f (bands f)
tall f h = let t = higher f 1 (bands f) h in let o : base f 1 ≡ 0 + (12 * rows_of f 0 + 36) = refl in
    omega (arith, t, o)

-- the corner is a square of the rectangle
corner : (f : Plan) → IsFabric f → (n : Net) → IsNet f n → IsOn f n (corner_of f n)
corner f is (segment s) h =
    let w = All-contains (IsSegment f) f.segments s is.segments h in
    let o = w.order in
    record {
      same = refl;
      left = omega (arith, ints);
      right = omega (arith, ints, o);
      bottom =
          omega (arith, ints);
      top = omega (arith, ints);
    }
corner f is (line l) h =
    let w = All-contains (IsLine f) f.lines l is.lines h in
    let up = higher f l.first_band l.last_band w.order in
    let rows : 1 ≤ rows_of f l.last_band = is.rows l.last_band 0 w.last in
    record {
      same = refl;
      left = omega (arith, ints);
      right = omega (arith, ints);
      bottom = omega (arith, ints);
      top =
          omega (arith, ints, up, rows);
    }
corner f is ground h =
    let top = tall f (is.bands) in
    record {
      same = refl;
      left = omega (arith, ints);
      right = omega (arith, ints);
      bottom = omega (arith, ints);
      top =
          omega (arith, ints, top);
    }
corner f is power h =
    let top = tall f (is.bands) in
    record {
      same = refl;
      left = omega (arith, ints);
      right = omega (arith, ints);
      bottom = omega (arith, ints);
      top =
          omega (arith, ints, top);
    }

pub labels_stand : LabelsStand
labels_stand f is n h label at flat l = record {
  layer = (corner_of f n).layer;
  named = l.layer ∙ ap (λ layer. Some layer) at.layer;
  on = subst (λ y. IsOn f n (record { layer = (corner_of f n).layer; x = flat.x; y = y })) (sym (l.y ∙ at.y))
      (subst (λ x. IsOn f n (record { layer = (corner_of f n).layer; x = x; y = (corner_of f n).y })) (sym (l.x ∙ at.x))
      (corner f is n h));
}
