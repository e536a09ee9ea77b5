use Rattle.mask_runs.specs.declared.mask.Mask.TheVariants.{Only, Diffusion, Contacts}
use Rattle.cover_tree.specs.Nodes.{layers_of}
use Rattle.cover_tree.specs.Kinds.{further, index, union}
use Rattle.cover_tree.proofs.Sets.{index_small}
use Rattle.cover_tree.proofs.planes.Planes.new.Goals as goal

-- src/planes.rt
pub returns-in-Only : goal.returns-in-Only
returns-in-Only c = λ s.
    rw c.in-Only.is
    (c.only.ensures (index s) (layers_of (further (Only c.in-Only.layer)) (union c.args.known s))
    (c.new-holders.ensures (Only c.in-Only.layer) s))

-- src/planes.rt
pub returns-in-Diffusion : goal.returns-in-Diffusion
returns-in-Diffusion c = λ s.
    rw c.in-Diffusion.is
    (c.diffusion.ensures (index s) (layers_of (further Diffusion) (union c.args.known s)) (index_small s)
    (c.new-holders.ensures Diffusion s))

-- src/planes.rt
pub returns-in-Contacts : goal.returns-in-Contacts
returns-in-Contacts c = λ s.
    rw c.in-Contacts.is
    (c.contacts.ensures (index s) (layers_of (further Contacts) (union c.args.known s)) (index_small s)
    (c.new-holders.ensures Contacts s))
