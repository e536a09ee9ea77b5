-- The parts of a net, and what they read, for all crates above.
use Rattle.std.proofs.Common.{[], ◌≡◌, ℕ, ap, List, Option, ◌<◌, length, None, Some, refl, ◌∷◌, zero}
use Rattle.std.proofs.Common.{inl, suc, inr, subst, arith}
use Rattle.std.specs.Prelude.{slice_get, IfSome}
use Rattle.std.proofs.lemmas.Option.{slice_get_within}
use Rattle.mp_base.proofs.Members.{Member}
use Rattle.nor_net.specs.declared.net.NetId.{NetId}
use Rattle.nor_net.specs.declared.net.Part.{Part}
use Rattle.nor_net.specs.declared.net.Phase.{Phase}
use Rattle.nor_net.specs.Shape.{MayFeed, IsNet, IsFed, Fed}
use Rattle.nor_net.specs.declared.net.Part.TheVariants.{Latch}

pub same_net : (x y : NetId) → x.0 ≡ y.0 → x ≡ y
same_net x y e = let f : ℕ → NetId = λ m. record { 0 = m } in ap f e

pub fed_by : (parts : List Part) (ph : Phase) (d : NetId) (q : Option Part) → slice_get parts d.0 ≡ q → MayFeed ph q
    → d.0 < length parts
fed_by parts ph d None h m = absurd m
fed_by parts ph d (Some q) h m = slice_get_within parts d.0 q h

pub latch_data : (parts : List Part) (n : ℕ) (ph : Phase) (source : Option NetId) → IsNet parts
    → slice_get parts n ≡ Some (Latch ph source) → IfSome source (λ d. d.0 < length parts)
latch_data parts n ph None is_net h = tt
latch_data parts n ph (Some d) is_net h =
    fed_by parts ph d (slice_get parts d.0) refl (is_net.stand n (Latch ph (Some d)) h)

pub part_member : (parts : List Part) (n : ℕ) (q : Part) → slice_get parts n ≡ Some q → Member parts q
part_member [] n q h = absurd (cc h)
part_member (p ∷ ps) zero q h = inl (cc h)
part_member (p ∷ ps) (suc n) q h = inr (part_member ps n q h)

pub fed_parts : (parts : List Part) → IsFed parts → (n : ℕ) (ph : Phase) → slice_get parts n ≡ Some (Latch ph None) → ⊥
fed_parts [] h n ph e = absurd (cc e)
fed_parts (p ∷ ps) h zero ph e =
    let q : p ≡ Latch ph None = cc e in
    let none : Fed (Latch ph None) = subst Fed q (h 0 p (omega arith)) in
    absurd (cc none)
fed_parts (p ∷ ps) h (suc n) ph e = fed_parts ps (λ k d lt. h (suc k) d (omega arith)) n ph e
