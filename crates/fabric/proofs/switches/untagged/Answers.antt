use Rattle.std.proofs.Common.{◌≡◌, ◌∙◌, sym, subst}
use Rattle.switch_net.specs.OneNode.{AreAmong}
use Rattle.fabric.proofs.Switching.{no_tags, of_parts}
use Rattle.fabric.proofs.switches.untagged.Goals as goal

pub checked-requires : goal.checked-requires
checked-requires c = no_tags c.new-tags.result c.new-tags.ensures

pub unwrap-requires : goal.unwrap-requires
unwrap-requires c =
    c.checked.ensures.among.1 (subst (AreAmong c.args.nodes c.args.channels) (sym c.new-tags.ensures) c.requires)

pub returns : goal.returns
returns c =
    let parts = of_parts c.checked.result c.unwrap.result (λ net. (net.nodes ≡ c.args.nodes)
    × (net.channels ≡ c.args.channels) × (net.tags ≡ c.new-tags.result)) c.checked.ensures.parts c.unwrap.ensures in
    record { nodes_are = parts.0; channels_are = parts.1; no_tags = parts.2 ∙ c.new-tags.ensures }
