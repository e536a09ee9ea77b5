use Rattle.std.proofs.Common.{◌≡◌, ◌∷◌, [], ◌++◌, ◌∙◌, ap}
use Rattle.cif_form.specs.Turning.{kind_of}
use Rattle.cif_form.proofs.Turning.{pushed}
use Rattle.cif_form.proofs.turns.Turns.push.Goals as goal

pub invariant_of-self-2 : goal.invariant_of-self-2
invariant_of-self-2 c =
    let kinds : c.push_reserved.new.self.items ≡ c.self.inside.kinds.items ++ kind_of c.args.turn ∷ [] =
    cc (c.push_reserved.ensures.items, c.reserve.ensures.items) in
    (pushed _ _ _ _ _ _ c.self.invariant kinds c.in_ok-push_point.ensures.ok).1

pub returns-clause-ok : goal.returns-clause-ok
returns-clause-ok c =
    let kinds : c.push_reserved.new.self.items ≡ c.self.inside.kinds.items ++ kind_of c.args.turn ∷ [] =
    cc (c.push_reserved.ensures.items, c.reserve.ensures.items) in
    (pushed _ _ _ _ _ _ c.self.invariant kinds c.in_ok-push_point.ensures.ok).0
    ∙ ap (λ ts. ts ++ c.args.turn ∷ []) c.self.view_is
