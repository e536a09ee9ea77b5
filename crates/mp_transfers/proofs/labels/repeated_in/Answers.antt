use Rattle.std.proofs.Common.{◌≡◌, ◌∙◌, ◌+◌, ℕ, List, Bor, Bool, true, false, not, Option, Some, arith, sym, subst}
use Rattle.std.specs.Ordering.{nat_cmp}
use Rattle.std.specs.Cmp.Lexicographic.{slice_cmp}
use Rattle.std.specs.BTreeSet.{UpdatesBy}
use Rattle.mp_base.specs.declared.refusal.Place.{Place}
use Rattle.mp_base.proofs.Entries.{entry}
use Rattle.mp_transfers.specs.Labels.{has}
use Rattle.mp_transfers.proofs.Naming.{Told, told_again, told_new, told_all}
use Rattle.mp_transfers.proofs.labels.repeated_in.Goals.{then-not-branch, else-not-branch}
use Rattle.mp_transfers.proofs.labels.repeated_in.Goals as goal

pub loop-label-preserved : goal.loop-label-preserved
loop-label-preserved c =
    let i : ℕ = c.loop-label.label-index in
    let U : List ℕ
    → Type 0 = λ key. UpdatesBy (λ (x y : Bor (List ℕ)). slice_cmp nat_cmp x.now y.now)
    (λ k. slice_cmp nat_cmp key k.now) c.loop-label.names c.insert.new.self true in
    let updates = subst U c.bytes.ensures c.in_ok-insert.ensures.updates in
    let A : Bool → List ℕ → Type 0 = λ added key. added ≡ not (has c.loop-label.names key) in
    let P : Option Place → Type 0 = Told (λ at. c.args.found ≡ Some at) c.insert.new.self c.args.labels.now (i + 1) in
    elim c.if-not-branch.branch [
      | then-not-branch w ↦ subst P (sym (w.found-is ∙ w.earlier-found.ensures))
          (told_again
          (λ at. c.args.found ≡ Some at) c.loop-label.names c.insert.new.self c.args.labels.now i c.loop-label.found
          c.label-item.result c.loop-label.invariant (entry c.args.labels.now i (omega arith) c.label-item.is)
          updates
          (subst (A false) c.bytes.ensures (sym w.if-not-branch.true ∙ c.in_ok-insert.ensures.added)))
      | else-not-branch w ↦ subst P (sym w.found-is)
          (told_new
          (λ at. c.args.found ≡ Some at) c.loop-label.names c.insert.new.self c.args.labels.now i c.loop-label.found
          c.label-item.result c.loop-label.invariant (entry c.args.labels.now i (omega arith) c.label-item.is)
          updates
          (subst (A true) c.bytes.ensures (sym w.if-not-branch.false ∙ c.in_ok-insert.ensures.added)))
    ]

pub returns : goal.returns
returns c =
    told_all
    (λ at. c.args.found ≡ Some at) c.loop-label.names c.args.labels.now c.loop-label.label-index c.loop-label.found
    c.loop-label.invariant (omega arith)
