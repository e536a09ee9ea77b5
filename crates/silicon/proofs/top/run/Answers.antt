use Rattle.std.proofs.Common.{◌∙◌, ap, map, refl, Some, None}
use Rattle.std.specs.Prelude.{string_bytes}
use Rattle.outcome.specs.declared.status.Status.TheVariants.{NoMemory}
use Rattle.board.specs.Face.{Face}
use Rattle.board_command.specs.Parts.{Lent}
use Rattle.silicon.proofs.Others.{others_same, others_words}
use Rattle.silicon.proofs.Moves.{keeps_all, keeps_words}
use Rattle.command_line.specs.Command.{command_of, seen}
use Rattle.silicon.proofs.RunLemmas.{leaves_command, leaves_no_command, leaves_nothing, tells_usage, tells_nothing}
use Rattle.silicon.proofs.RunLemmas.{causes_no_command, for_words_nothing}
use Rattle.silicon.proofs.Silence.{silent_said, spares_same, spares_command}
use Rattle.silicon.specs.Faults.{target_for}
use Rattle.silicon.proofs.Making.{made_words, wanting_made}
use Rattle.silicon.proofs.top.run.Goals as goal

pub returns-in-Ok-Some-clause-content : goal.returns-in-Ok-Some-clause-content
returns-in-Ok-Some-clause-content g c =
    let lent : Lent = record {
      names = map (λ p. string_bytes p.name) c.args.parts.now.items;
      faces = map (λ p. let f : Face = record {
        state = (g.dyn-1.0.entry p.part.vtable).1.state p.part.value;
        drives = (g.dyn-1.0.entry p.part.vtable).1.driven_in;
        sees = (g.dyn-1.0.entry p.part.vtable).1.after_seeing;
      } in f) c.args.parts.now.items;
    } in
    leaves_command lent _ (command_of c.args.words.now.items) (seen c.in-Ok-Some.command) c.run_command.result _ _
    ((rw (c.in-Ok-Some.field-0-is, c.in-Ok-Some.command-is) at c.in-Ok-Some.ensures)
    ∙ ap command_of c.deref.ensures.value) c.run_command.ensures.content

pub returns-in-Ok-None-clause-content : goal.returns-in-Ok-None-clause-content
returns-in-Ok-None-clause-content g c =
    let lent : Lent = record {
      names = map (λ p. string_bytes p.name) c.args.parts.now.items;
      faces = map (λ p. let f : Face = record {
        state = (g.dyn-1.0.entry p.part.vtable).1.state p.part.value;
        drives = (g.dyn-1.0.entry p.part.vtable).1.driven_in;
        sees = (g.dyn-1.0.entry p.part.vtable).1.after_seeing;
      } in f) c.args.parts.now.items;
    } in
    leaves_no_command lent _ (command_of c.args.words.now.items) c.say.result _ _ _ _
    ((rw c.in-Ok-None.field-0-is at c.in-Ok-None.ensures) ∙ ap command_of c.deref.ensures.value)
    (rw c.as_bytes.ensures.value at c.say.ensures) refl

pub returns-in-Ok-None-clause-causes : goal.returns-in-Ok-None-clause-causes
returns-in-Ok-None-clause-causes g c =
    causes_no_command _ c.say.result _ _ refl refl (rw c.as_bytes.ensures.value at c.say.ensures)

pub returns-in-Ok-None-clause-usage : goal.returns-in-Ok-None-clause-usage
returns-in-Ok-None-clause-usage g c =
    tells_usage (command_of c.args.words.now.items) c.say.result _ _ _ _
    ((rw c.in-Ok-None.field-0-is at c.in-Ok-None.ensures) ∙ ap command_of c.deref.ensures.value)
    (rw c.as_bytes.ensures.value at c.say.ensures)

pub returns-in-Err-clause-content : goal.returns-in-Err-clause-content
returns-in-Err-clause-content g c =
    let lent : Lent = record {
      names = map (λ p. string_bytes p.name) c.args.parts.now.items;
      faces = map (λ p. let f : Face = record {
        state = (g.dyn-1.0.entry p.part.vtable).1.state p.part.value;
        drives = (g.dyn-1.0.entry p.part.vtable).1.driven_in;
        sees = (g.dyn-1.0.entry p.part.vtable).1.after_seeing;
      } in f) c.args.parts.now.items;
    } in
    leaves_nothing lent (command_of c.args.words.now.items) _

pub returns-in-Err-clause-usage : goal.returns-in-Err-clause-usage
returns-in-Err-clause-usage g c = tells_nothing (command_of c.args.words.now.items) _

pub returns-in-Ok-Some-clause-spares : goal.returns-in-Ok-Some-clause-spares
returns-in-Ok-Some-clause-spares g c =
    spares_command (command_of c.args.words.now.items) (seen c.in-Ok-Some.command) _ _ _ _
    ((rw (c.in-Ok-Some.field-0-is, c.in-Ok-Some.command-is) at c.in-Ok-Some.ensures)
    ∙ ap command_of c.deref.ensures.value) c.run_command.ensures.spares

pub returns-in-Ok-None-clause-silent : goal.returns-in-Ok-None-clause-silent
returns-in-Ok-None-clause-silent g c =
    silent_said _ _ _ _ _ c.say.result (rw c.as_bytes.ensures.value at c.say.ensures)

pub returns-in-Ok-None-clause-spares : goal.returns-in-Ok-None-clause-spares
returns-in-Ok-None-clause-spares g c = spares_same (target_for (command_of c.args.words.now.items)) _ _

pub returns-in-Err-clause-spares : goal.returns-in-Err-clause-spares
returns-in-Err-clause-spares g c = spares_same (target_for (command_of c.args.words.now.items)) _ _

pub returns-in-Err-clause-words : goal.returns-in-Err-clause-words
returns-in-Err-clause-words g c = for_words_nothing (command_of c.args.words.now.items)

pub returns-in-Ok-Some-clause-parts : goal.returns-in-Ok-Some-clause-parts
returns-in-Ok-Some-clause-parts g c =
    keeps_words _ _ _ _ _ (command_of c.args.words.now.items) (Some (seen c.in-Ok-Some.command)) c.run_command.result
    ((rw (c.in-Ok-Some.field-0-is, c.in-Ok-Some.command-is) at c.in-Ok-Some.ensures)
    ∙ ap command_of c.deref.ensures.value) c.run_command.ensures.parts

pub returns-in-Ok-None-clause-parts : goal.returns-in-Ok-None-clause-parts
returns-in-Ok-None-clause-parts g c =
    keeps_words _ _ _ _ _ (command_of c.args.words.now.items) None c.say.result
    ((rw c.in-Ok-None.field-0-is at c.in-Ok-None.ensures) ∙ ap command_of c.deref.ensures.value) refl

pub returns-in-Err-clause-parts : goal.returns-in-Err-clause-parts
returns-in-Err-clause-parts g c =
    keeps_all _ _ _ _ _ (command_of c.args.words.now.items) NoMemory (λ e. cc) refl

pub returns-in-Ok-Some-clause-made : goal.returns-in-Ok-Some-clause-made
returns-in-Ok-Some-clause-made g c =
    made_words (command_of c.args.words.now.items) (Some (seen c.in-Ok-Some.command)) c.run_command.result
    ((rw (c.in-Ok-Some.field-0-is, c.in-Ok-Some.command-is) at c.in-Ok-Some.ensures)
    ∙ ap command_of c.deref.ensures.value) c.run_command.ensures.made

pub returns-in-Ok-None-clause-made : goal.returns-in-Ok-None-clause-made
returns-in-Ok-None-clause-made g c =
    made_words (command_of c.args.words.now.items) None c.say.result
    ((rw c.in-Ok-None.field-0-is at c.in-Ok-None.ensures) ∙ ap command_of c.deref.ensures.value) tt

pub returns-in-Err-clause-made : goal.returns-in-Err-clause-made
returns-in-Err-clause-made g c = wanting_made (command_of c.args.words.now.items)

pub returns-in-Ok-Some-clause-others : goal.returns-in-Ok-Some-clause-others
returns-in-Ok-Some-clause-others g c =
    let lent : Lent = record {
      names = map (λ p. string_bytes p.name) c.args.parts.now.items;
      faces = map (λ p. let f : Face = record {
        state = (g.dyn-1.0.entry p.part.vtable).1.state p.part.value;
        drives = (g.dyn-1.0.entry p.part.vtable).1.driven_in;
        sees = (g.dyn-1.0.entry p.part.vtable).1.after_seeing;
      } in f) c.args.parts.now.items;
    } in
    others_words lent _ (command_of c.args.words.now.items) (Some (seen c.in-Ok-Some.command))
    ((rw (c.in-Ok-Some.field-0-is, c.in-Ok-Some.command-is) at c.in-Ok-Some.ensures)
    ∙ ap command_of c.deref.ensures.value) c.run_command.ensures.others

pub returns-in-Ok-None-clause-others : goal.returns-in-Ok-None-clause-others
returns-in-Ok-None-clause-others g c =
    let lent : Lent = record {
      names = map (λ p. string_bytes p.name) c.args.parts.now.items;
      faces = map (λ p. let f : Face = record {
        state = (g.dyn-1.0.entry p.part.vtable).1.state p.part.value;
        drives = (g.dyn-1.0.entry p.part.vtable).1.driven_in;
        sees = (g.dyn-1.0.entry p.part.vtable).1.after_seeing;
      } in f) c.args.parts.now.items;
    } in
    others_same lent (command_of c.args.words.now.items)

pub returns-in-Err-clause-others : goal.returns-in-Err-clause-others
returns-in-Err-clause-others g c =
    let lent : Lent = record {
      names = map (λ p. string_bytes p.name) c.args.parts.now.items;
      faces = map (λ p. let f : Face = record {
        state = (g.dyn-1.0.entry p.part.vtable).1.state p.part.value;
        drives = (g.dyn-1.0.entry p.part.vtable).1.driven_in;
        sees = (g.dyn-1.0.entry p.part.vtable).1.after_seeing;
      } in f) c.args.parts.now.items;
    } in
    others_same lent (command_of c.args.words.now.items)
