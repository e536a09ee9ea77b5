-- A program has the same pads everywhere.
use Rattle.std.proofs.Common.{sym, ◌∙◌}
use Rattle.mp_base.proofs.SamePads.{same_pads}
use Rattle.mp_program.proofs.Faces.{same_list}
use Rattle.replay_run.specs.Laws.{OnePads}

pub one_pads : OnePads
one_pads p pads other a b =
    same_pads pads other (same_list pads.inputs other.inputs (a.inputs ∙ sym b.inputs))
    (same_list pads.outputs other.outputs (a.outputs ∙ sym b.outputs))
