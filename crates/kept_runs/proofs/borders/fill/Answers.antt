use Rattle.std.proofs.Common.{inl, inr, ◌∙◌, arith}
use Rattle.kept_runs.proofs.borders.fill.Goals as goal

-- src/borders.rt
pub returns : goal.returns
returns c = record {
  own = c.put.ensures.own;
  inside = λ d h l. c.put.ensures.others d (λ e. absurd (omega arith)) ∙ c.clear.ensures.inside d (omega arith) l;
  beside =
      λ d h. c.put.ensures.others d
      (λ e. let o = c.requires.order in elim h [ inl m ↦ absurd (omega arith) | inr m ↦ absurd (omega arith) ])
      ∙ c.clear.ensures.beside d h;
  noted = c.put.ensures.noted;
  room = c.put.ensures.room ∙ c.clear.ensures.room;
}
