use Rattle.std.proofs.Common.{[], subst, sym}
use Rattle.std.specs.Prelude.{if◌then◌else◌}
use Rattle.bit_gates.specs.Adding.{IsPair}
use Rattle.bit_gates.specs.Rails.{swapped}
use Rattle.bit_gates.proofs.exprs.lower_truth.Goals as goal

pub returns-then-value : goal.returns-then-value
returns-then-value c =
    let r = c.in_ok-rails.rails in
    subst (λ v. IsPair [] c.args.net.now c.add_pair.new.net (if v then r else swapped r)) (sym c.if-value.true)
    c.in_ok-rails.ensures
