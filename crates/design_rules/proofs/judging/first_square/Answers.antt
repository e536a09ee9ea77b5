use Rattle.std.proofs.Common.{arith, ◌≡◌, IfOk, sym, subst}
use Rattle.lam_geom.specs.declared.layer.Layer.TheVariants.{ND, NP, NM}
use Rattle.lam_geom.specs.Squares.{covered}
use Rattle.lam_geom.specs.Rules.{IsTight, IsUnrelated, IsOpenGate, IsBareCut, BreaksRule}
use Rattle.rule_rows.specs.Firsts.{IsFirstOf}
use Rattle.rule_tiles.specs.First.{IsFirst}
use Rattle.std.proofs.lemmas.Result.{IfOk-weaker}
use Rattle.design_rules.proofs.Numbers as numbers
use Rattle.design_rules.proofs.Numbers.{from_rows}
use Rattle.design_rules.proofs.judging.first_square.Goals as goal

pub returns-in-4 : goal.returns-in-4
returns-in-4 c =
    let covers = covered c.args.shapes.now in
    let kind = IsTight (covers ND) 1500 in
    subst (λ k. IfOk c.first_tight.result (IsFirst (BreaksRule covers k))) (sym c.in-4.is)
    (IfOk-weaker c.first_tight.result (IsFirstOf kind) (IsFirst (BreaksRule covers 4))
    (λ o first. numbers.first_4 covers o (from_rows kind o first)) c.first_tight.ensures)

pub returns-in-5 : goal.returns-in-5
returns-in-5 c =
    let covers = covered c.args.shapes.now in
    let kind = IsTight (covers NP) 1000 in
    subst (λ k. IfOk c.first_tight-in-5.result (IsFirst (BreaksRule covers k))) (sym c.in-5.is)
    (IfOk-weaker c.first_tight-in-5.result (IsFirstOf kind) (IsFirst (BreaksRule covers 5))
    (λ o first. numbers.first_5 covers o (from_rows kind o first)) c.first_tight-in-5.ensures)

pub returns-in-6 : goal.returns-in-6
returns-in-6 c =
    let covers = covered c.args.shapes.now in
    let kind = IsTight (covers NM) 1500 in
    subst (λ k. IfOk c.first_tight-in-6.result (IsFirst (BreaksRule covers k))) (sym c.in-6.is)
    (IfOk-weaker c.first_tight-in-6.result (IsFirstOf kind) (IsFirst (BreaksRule covers 6))
    (λ o first. numbers.first_6 covers o (from_rows kind o first)) c.first_tight-in-6.ensures)

pub returns-in-7 : goal.returns-in-7
returns-in-7 c =
    let covers = covered c.args.shapes.now in
    let kind = IsUnrelated covers in
    subst (λ k. IfOk c.first_unrelated.result (IsFirst (BreaksRule covers k))) (sym c.in-7.is)
    (IfOk-weaker c.first_unrelated.result (IsFirstOf kind) (IsFirst (BreaksRule covers 7))
    (λ o first. numbers.first_7 covers o (from_rows kind o first)) c.first_unrelated.ensures)

pub returns-in-8 : goal.returns-in-8
returns-in-8 c =
    let covers = covered c.args.shapes.now in
    let kind = IsOpenGate covers in
    subst (λ k. IfOk c.first_open_gate.result (IsFirst (BreaksRule covers k))) (sym c.in-8.is)
    (IfOk-weaker c.first_open_gate.result (IsFirstOf kind) (IsFirst (BreaksRule covers 8))
    (λ o first. numbers.first_8 covers o (from_rows kind o first)) c.first_open_gate.ensures)

pub returns-in_default : goal.returns-in_default
returns-in_default c =
    let covers = covered c.args.shapes.now in
    let tenth : c.args.rule ≡ 10 = omega (arith, c.in_default) in
    subst (λ k. IfOk c.first_bare_cut.result (IsFirst (BreaksRule covers k))) (sym tenth)
    (IfOk-weaker c.first_bare_cut.result (IsFirst (IsBareCut covers)) (IsFirst (BreaksRule covers 10))
    (numbers.first_10 covers) c.first_bare_cut.ensures)
