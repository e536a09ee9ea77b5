-- Pads with the same name and the same width are the same.
use Rattle.std.proofs.Common.{◌≡◌, ℕ, ◌≤◌, List, ◌∙◌, ap, subst}
use Rattle.std.proofs.Math.Bridge.{le_prop}
use Rattle.mp_base.specs.declared.pad.Pad.{Pad}

abbrev pub make_pad : (name : List ℕ) (width : ℕ) → width ≤ 64 → Pad
make_pad name width h = record { name = name; width = width; narrow = h }

same_width : (name : List ℕ) (v w : ℕ) (h : v ≤ 64) (k : w ≤ 64) → v ≡ w → make_pad name v h ≡ make_pad name w k
same_width name v w h k e =
    let P : ℕ → Type 0 = λ x. (j : x ≤ 64) → make_pad name v h ≡ make_pad name x j in
    subst P e (λ j. ap (make_pad name v) (le_prop {n = v} {m = 64} h j)) k

pub same_pad : (p q : Pad) → p.name ≡ q.name → p.width ≡ q.width → p ≡ q
same_pad p q e f = ap (λ name. make_pad name p.width p.narrow) e ∙ same_width q.name p.width q.width p.narrow q.narrow f
