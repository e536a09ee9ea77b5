use Rattle.std.proofs.Common.{ℕ, arith, ◌∙◌}
use Rattle.std.proofs.lemmas.List.{get_or_default}
use Rattle.std.proofs.lemmas.Result.{IfOk-weaker}
use Rattle.mp_base.proofs.Entries.{entry}
use Rattle.rtl_form.specs.declared.rtl.RtlExpr.{RtlExpr}
use Rattle.process_enables.specs.Copies.{IsNamedCopy, IsCopyAt}
use Rattle.process_enables.proofs.Copying.{copied_named}
use Rattle.process_enables.proofs.copies.copied.Goals as goal

pub returns-in-Named : goal.returns-in-Named
returns-in-Named c =
    let p = c.args.program.now in
    let roles = c.args.layout.now.roles in
    let e : ℕ = c.args.expr in
    let P : RtlExpr → Type 0 = IsNamedCopy p roles c.at-in-Named.result.now in
    let Q : RtlExpr → Type 0 = IsCopyAt p roles e in
    let d : ℕ = c.at-in-Named.result.now in
    let as_many = c.requires.meanings.as_many_exprs in
    let lt = c.requires.inside in
    let at = entry p.exprs e lt c.at.ensures in
    let index = c.at-in-Named.ensures
    ∙ get_or_default c.args.meanings.now.exprs e d 0 (omega (arith, lt, as_many))
    ∙ c.requires.meanings.exprs e c.at.result.now c.in-Named.field-0 at c.in-Named.is in
    IfOk-weaker c.copied_name.result P Q
    (λ y named. copied_named p roles e c.at.result.now y at c.in-Named.field-0 d c.in-Named.is index named)
    c.copied_name.ensures
