use Rattle.std.proofs.lemmas.Bool.{both_ways}
use Rattle.rtl_check.proofs.Sounding.{contents_of, ports_of, sound_of}
use Rattle.rtl_check.proofs.soundness.is_sound.Goals as goal

pub returns-then-has_ports : goal.returns-then-has_ports
returns-then-has_ports c =
    let r = c.args.rtl.now in (
      (λ h. sound_of r (c.has_ports.ensures.0 c.if-has_ports.true) (c.has_contents.ensures.0 h)),
      (λ sound. c.has_contents.ensures.1 (contents_of r sound)),
    )

pub returns-else-has_ports : goal.returns-else-has_ports
returns-else-has_ports c = (
  (λ h. absurd (both_ways c.has_ports.result c.if-has_ports.false h)),
  (λ sound. c.has_ports.ensures.1 (ports_of c.args.rtl.now sound)),
)
