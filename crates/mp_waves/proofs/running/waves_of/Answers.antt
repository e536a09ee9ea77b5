use Rattle.std.proofs.Common.{Option, None, Some}
use Rattle.std.specs.Prelude.{IfSome}
use Rattle.outside.specs.Outside.{Files, bytes_of}
use Rattle.mp_source.specs.Source.{IsSource}
use Rattle.stimulus.specs.Reading.{IsStimulus}
use Rattle.mp_waves.specs.Running.{AreWavesOf}
use Rattle.mp_waves.proofs.running.waves_of.Goals as goal

both : {X : Type 0} (A B C : X → Type 0) (o : Option X) → ((x : X) → A x → B x → C x) → IfSome o A → IfSome o B
    → IfSome o C
both A B C None f a b = a
both A B C (Some x) f a b = f x a b

pub returns-clause-waves : goal.returns-clause-waves
returns-clause-waves g c =
    let made = c.in_ok-made.made in
    both (λ (files : Files). IsSource (bytes_of files c.args.source.now) made.checked.program)
    (λ (files : Files). IsStimulus (bytes_of files c.args.stimulus.now) (Some made.checked.pads) made.stimulus)
    (λ (files : Files). AreWavesOf (bytes_of files c.args.source.now) (bytes_of files c.args.stimulus.now)
    c.in_ok-waves.field-0.items)
    (g.D.Depot.held c.prepare.new.depot)
    (λ files source stimulus. record {
      program = made.checked.program;
      pads = made.checked.pads;
      given = made.stimulus;
      is_source = source;
      is_stimulus = stimulus;
      waves = c.in_ok-waves.ensures;
    }) c.in_ok-made.ensures.source c.in_ok-made.ensures.stimulus
