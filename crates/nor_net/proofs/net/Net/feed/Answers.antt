use Rattle.std.proofs.Common.{◌≡◌, ℕ, List, Option, Some, None, sym, ◌∙◌, ap, subst, get_or}
use Rattle.std.specs.Prelude.{IfSome, slice_get, slice_set}
use Rattle.std.proofs.lemmas.Option.{get_or_from_slice_get}
use Rattle.nor_net.specs.declared.net.Phase.{Phase}
use Rattle.nor_net.specs.declared.net.NetId.{NetId}
use Rattle.nor_net.specs.declared.net.Part.{Part}
use Rattle.nor_net.specs.declared.net.Part.TheVariants.{Latch}
use Rattle.nor_net.specs.Shape.{IsNet, MayTake, fed}
use Rattle.nor_net.proofs.Adding.{is_net_fed, taken}
use Rattle.nor_net.proofs.net.Net.feed.Goals as goal

same_phase : (p q : Phase) (s t : Option NetId) → Latch p s ≡ Latch q t → p ≡ q
same_phase p q s t e = cc

-- the phase that was read
read : (parts : List Part) (l : ℕ) (x : Part) (p q : Phase) (s : Option NetId)
    → slice_get parts l ≡ Some (Latch p None) → x ≡ get_or parts l x → x ≡ Latch q s → p ≡ q
read parts l x p q s free is e =
    same_phase p q None s (sym (get_or_from_slice_get parts l (Latch p None) x free) ∙ sym is ∙ e)

pub invariant_of-self : goal.invariant_of-self
invariant_of-self c =
    let v : c.self.inside.parts ≡ c.args.self.now = c.self.view_is in
    let h : MayTake (slice_get c.self.inside.parts c.args.latch.0) (slice_get c.self.inside.parts c.args.source.0) =
    subst (λ ps. MayTake (slice_get ps c.args.latch.0) (slice_get ps c.args.source.0)) (sym v) c.requires in
    let t = taken _ _ h in
    let p : t.0 ≡ c.in-Latch.phase =
    read c.self.inside.parts c.args.latch.0 c.at-part.result.now t.0 c.in-Latch.phase c.in-Latch.source t.1
    c.at-part.ensures c.in-Latch.is in
    subst IsNet (sym (c.set.ensures
    ∙ ap (λ q. slice_set c.self.inside.parts c.args.latch.0 (Latch q (Some c.args.source))) (sym p)))
    (is_net_fed c.self.inside.parts c.args.latch.0 t.0 c.args.source t.1 c.self.invariant t.2)

pub returns-in-Latch : goal.returns-in-Latch
returns-in-Latch c =
    let v : c.self.inside.parts ≡ c.args.self.now = c.self.view_is in
    let t = taken _ _ c.requires in
    let is : c.at-part.result.now ≡ get_or c.args.self.now c.args.latch.0 c.at-part.result.now =
    subst (λ ps. c.at-part.result.now ≡ get_or ps c.args.latch.0 c.at-part.result.now) v c.at-part.ensures in
    let p : t.0 ≡ c.in-Latch.phase =
    read c.args.self.now c.args.latch.0 c.at-part.result.now t.0 c.in-Latch.phase c.in-Latch.source t.1 is
    c.in-Latch.is in
    subst (λ o. IfSome o (λ p. c.set.new.self ≡ slice_set c.args.self.now c.args.latch.0 (fed c.args.source p)))
    (sym t.1)
    (c.set.ensures ∙ ap (λ ps. slice_set ps c.args.latch.0 (Latch c.in-Latch.phase (Some c.args.source))) v
    ∙ ap (λ q. slice_set c.args.self.now c.args.latch.0 (Latch q (Some c.args.source))) (sym p))

pub returns-in_default : goal.returns-in_default
returns-in_default c =
    let v : c.self.inside.parts ≡ c.args.self.now = c.self.view_is in
    let t = taken _ _ c.requires in
    let is : c.at-part.result.now ≡ get_or c.args.self.now c.args.latch.0 c.at-part.result.now =
    subst (λ ps. c.at-part.result.now ≡ get_or ps c.args.latch.0 c.at-part.result.now) v c.at-part.ensures in
    absurd (c.in_default.not-Latch t.0 None
    (is ∙ get_or_from_slice_get c.args.self.now c.args.latch.0 (Latch t.0 None) c.at-part.result.now t.1))
