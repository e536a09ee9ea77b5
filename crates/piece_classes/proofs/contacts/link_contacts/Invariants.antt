use Rattle.piece_classes.specs.Linking.{Gains, IsContactLink}
use Rattle.piece_classes.proofs.contacts.link_contacts.Given as goal

abbrev pub invariant-loop-i : goal.invariant-loop-i
invariant-loop-i l = Gains l.fn.links l.links (IsContactLink l.contacts l.metal l.polysilicon l.diffusion l.i)
