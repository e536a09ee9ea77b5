use Rattle.std.proofs.Common.{◌∙◌, ◌||◌, ap}
use Rattle.cif_flat.specs.Meeting.{was_met, is_name}
use Rattle.cif_flat.proofs.Namings.{met_put}
use Rattle.cif_flat.proofs.way.meet.Goals as goal

pub returns : goal.returns
returns c = λ q.
    met_put c.args.met.now c.insert.new.self c.in_ok-name.name c.in_ok-insert.field-0 c.in_ok-insert.ensures.keys
    c.in_ok-insert.ensures.added q
    ∙ ap (λ n. is_name n q || was_met c.args.met.now q) c.in_ok-name.ensures.items
