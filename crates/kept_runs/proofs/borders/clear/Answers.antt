use Rattle.std.proofs.Common.{◌≡◌, false, inl, inr, ◌∙◌, subst, sym, arith}
use Rattle.std.proofs.lemmas.Bool.{cases_lt, cases_eq}
use Rattle.cell_set.specs.Sets.{has}
use Rattle.kept_runs.proofs.borders.clear.Goals as goal

-- src/borders.rt
pub loop-at-preserved : goal.loop-at-preserved
loop-at-preserved c =
    let inv = c.loop-at.invariant in
    let s = c.in-Some.ensures.some in
    let o = s.order in
    record {
      order = let p = inv.order in omega arith;
      inside = λ d h l. elim (cases_eq d c.in-Some.border) [
        | inl e ↦ subst (λ k. has c.remove.new.self k ≡ false) (sym e) c.remove.ensures.own
        | inr n ↦ c.remove.ensures.others d n ∙ elim (cases_lt d c.loop-at.at) [
          | inl m ↦ inv.inside d h m
          | inr m ↦ s.none d m (omega arith)
        ]
      ];
      beside =
          λ d h. c.remove.ensures.others d
          (λ e. let p = inv.order in elim h [ inl m ↦ absurd (omega arith) | inr m ↦ absurd (omega arith) ])
          ∙ inv.beside d h;
      room = c.remove.ensures.room ∙ inv.room;
    }
