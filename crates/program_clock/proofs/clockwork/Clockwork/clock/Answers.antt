use Rattle.std.proofs.Common.{◌≡◌, sym, subst, ◌∙◌, ap, length, rules, arith}
use Rattle.std.proofs.lemmas.List.{with_items_is}
use Rattle.std.specs.Prelude.{filter}
use Rattle.mp_base.proofs.Lists.{length_map}
use Rattle.mp_program.specs.declared.program.Def.{Def}
use Rattle.mp_program.specs.Names.{is_output}
use Rattle.mp_program.specs.Pads.{output_pads, pad_width}
use Rattle.program_clock.specs.Remembered.{state_of}
use Rattle.program_clock.specs.Running.{Running}
use Rattle.program_clock.specs.Settled.{IsSteady}
use Rattle.program_clock.proofs.KindValues.{steady_env}
use Rattle.program_clock.proofs.clockwork.Clockwork.clock.Goals as goal

pub show-requires-clause-pads : goal.show-requires-clause-pads
show-requires-clause-pads c =
    let p = c.self.inside.program.now in
    c.requires.outputs ∙ ap (λ (m : Running). length (output_pads m.program)) (sym c.self.view_is)
    ∙ length_map (λ (x : Def). (x.name, pad_width p.width x.what)) (filter (λ (x : Def). is_output x.what) p.defs)

pub invariant_of-self : goal.invariant_of-self
invariant_of-self c =
    let p = c.self.inside.program.now in
    let st = state_of c.self.inside.memory in
    let long : length c.settle.new.env ≡ c.self.inside.env.len = omega arith in
    record {
      linked = search rules;
      start = search rules;
      state = search rules;
      places = search rules;
      bare = c.step.ensures.bare;
      steady = subst (IsSteady p.defs) (sym (with_items_is c.self.inside.env c.settle.new.env long))
          (steady_env p st c.as_slice-given.result.now c.settle.new.env c.settle.ensures);
      env = search rules;
    }
