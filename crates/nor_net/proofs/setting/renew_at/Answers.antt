use Rattle.std.proofs.Common.{◌≡◌, true, refl, sym, subst, ◌∙◌, ap, get_or, arith}
use Rattle.std.specs.Prelude.{IfSome, slice_get}
use Rattle.std.proofs.lemmas.Bool.{false≢true}
use Rattle.std.proofs.lemmas.List.{get_or_default}
use Rattle.mp_base.specs.declared.value.Trit.{Trit}
use Rattle.mp_base.specs.declared.value.Trit.TheVariants.{Zero, One, X}
use Rattle.mp_base.specs.contracts.value.Trit as trit
use Rattle.nor_net.specs.Passing.{Renewed, renewed}
use Rattle.nor_net.proofs.Passing.{changed}
use Rattle.nor_net.proofs.setting.renew_at.Goals as goal

itself : (t : Trit) → denote.Enum.Bare.sameb trit.the_type t t ≡ true
itself Zero = refl
itself One = refl
itself X = refl

pub returns-else-eq : goal.returns-else-eq
returns-else-eq c =
    let now : c.at.result.now ≡ get_or c.args.values.now c.args.id.0 X =
    c.at.ensures ∙ get_or_default c.args.values.now c.args.id.0 c.at.result.now X
    (omega (arith, c.requires.size, c.requires.inside)) in
    let differ : c.renew-value.result ≡ get_or c.args.values.now c.args.id.0 X → ⊥ =
    λ e. false≢true (c.if-eq.ensures ∙ ap (denote.Enum.Bare.sameb trit.the_type c.renew-value.result) (now ∙ sym e)
    ∙ itself c.renew-value.result) in
    let r =
    changed c.args.net.now c.args.phase c.requires.fed c.args.id.0 c.args.values.now c.requires.size c.requires.inside
    c.renew-value.result
    (subst (λ vs. IfSome (slice_get c.args.net.now c.args.id.0)
    (λ p. c.renew-value.result ≡ renewed c.args.phase vs c.args.id.0 p)) c.as_slice.ensures c.renew-value.ensures)
    differ in
    subst (λ vs. Renewed c.args.net.now c.args.phase c.args.id.0 c.args.values.now vs true) (sym c.set.ensures) r
