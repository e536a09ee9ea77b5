use Rattle.std.proofs.Common.{rules, arith, inr, ap}
use Rattle.std.proofs.lemmas.Bool.Decides.{nat_tests}
use Rattle.mask_runs.specs.declared.run.Run.{Run}
use Rattle.strip_rows.proofs.Merging.{not_in}
use Rattle.strip_rows.proofs.missing.add_if_missing.Goals as goal
use Rattle.strip_rows.proofs.missing.add_if_missing.Goals.{then-place-among+else-eq, else-place-among}

-- src/missing.rt
pub returns : goal.returns
returns c =
    let none =
    not_in c.args.among.now c.args.place c.args.run c.requires.apart c.requires.behind c.requires.ahead
    (λ l e. elim c.if-place-among.branch [
      | then-place-among+else-eq w ↦
          let h = w.eq.ensures in let f = w.if-eq.false in
          let x = ap (λ (q : Run). q.left) e in let y = ap (λ (q : Run). q.right) e in
          let z = ap (λ (q : Run). q.colour) e in
          absurd (grind (arith, nat_tests))
      | else-place-among w ↦ let h = w.if-place-among.false in absurd (omega arith)
    ]) in record { by = inr (none, search rules) }
