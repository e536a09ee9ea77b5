use Rattle.std.proofs.Common.{ap, map, refl, sym, subst, List, ℕ, Some}
use Rattle.std.specs.Prelude.{string_bytes}
use Rattle.command_line.specs.Command.{Trace, Compile, Replay, Sim, Net, Stats, Board, Make, Rules, seen}
use Rattle.outcome.specs.Halt.{status_of}
use Rattle.board.specs.Face.{Face}
use Rattle.board_command.specs.Parts.{Lent}
use Rattle.silicon.specs.Run.{EndsMade}
use Rattle.silicon.proofs.Making.{ends_made}
use Rattle.silicon.proofs.Others.{others_same, others_words}
use Rattle.silicon.proofs.Moves.{leaves_seen, leaves_still, rests_seen}
use Rattle.silicon.proofs.top.perform.Goals as goal

pub returns-in-Trace-clause-content : goal.returns-in-Trace-clause-content
returns-in-Trace-clause-content g c =
    let lent : Lent = record {
      names = map (λ p. string_bytes p.name) c.args.parts.now.items;
      faces = map (λ p. let f : Face = record {
        state = (g.dyn-1.0.entry p.part.vtable).1.state p.part.value;
        drives = (g.dyn-1.0.entry p.part.vtable).1.driven_in;
        sees = (g.dyn-1.0.entry p.part.vtable).1.after_seeing;
      } in f) c.args.parts.now.items;
    } in
    leaves_still lent (seen c.args.command) (Trace c.in-Trace.source.now c.in-Trace.stimulus.now)
    c.trace.result _ _ (ap seen c.in-Trace.is) (λ old printed. refl) c.trace.ensures.content

pub returns-in-Compile-clause-content : goal.returns-in-Compile-clause-content
returns-in-Compile-clause-content g c =
    let lent : Lent = record {
      names = map (λ p. string_bytes p.name) c.args.parts.now.items;
      faces = map (λ p. let f : Face = record {
        state = (g.dyn-1.0.entry p.part.vtable).1.state p.part.value;
        drives = (g.dyn-1.0.entry p.part.vtable).1.driven_in;
        sees = (g.dyn-1.0.entry p.part.vtable).1.after_seeing;
      } in f) c.args.parts.now.items;
    } in
    leaves_still lent (seen c.args.command) (Compile c.in-Compile.source.now c.in-Compile.cif.now)
    c.compile.result _ _ (ap seen c.in-Compile.is) (λ old printed. refl) c.compile.ensures.content

pub returns-in-Replay-clause-content : goal.returns-in-Replay-clause-content
returns-in-Replay-clause-content g c =
    let lent : Lent = record {
      names = map (λ p. string_bytes p.name) c.args.parts.now.items;
      faces = map (λ p. let f : Face = record {
        state = (g.dyn-1.0.entry p.part.vtable).1.state p.part.value;
        drives = (g.dyn-1.0.entry p.part.vtable).1.driven_in;
        sees = (g.dyn-1.0.entry p.part.vtable).1.after_seeing;
      } in f) c.args.parts.now.items;
    } in
    leaves_still lent (seen c.args.command) (Replay c.in-Replay.source.now c.in-Replay.stimulus.now c.in-Replay.cif.now)
    c.replay.result _ _ (ap seen c.in-Replay.is) (λ old printed. refl) c.replay.ensures.content

pub returns-in-Sim-clause-content : goal.returns-in-Sim-clause-content
returns-in-Sim-clause-content g c =
    let lent : Lent = record {
      names = map (λ p. string_bytes p.name) c.args.parts.now.items;
      faces = map (λ p. let f : Face = record {
        state = (g.dyn-1.0.entry p.part.vtable).1.state p.part.value;
        drives = (g.dyn-1.0.entry p.part.vtable).1.driven_in;
        sees = (g.dyn-1.0.entry p.part.vtable).1.after_seeing;
      } in f) c.args.parts.now.items;
    } in
    leaves_still lent (seen c.args.command) (Sim c.in-Sim.cif.now c.in-Sim.stimulus.now)
    c.sim.result _ _ (ap seen c.in-Sim.is) (λ old printed. refl) c.sim.ensures.content

pub returns-in-Net-clause-content : goal.returns-in-Net-clause-content
returns-in-Net-clause-content g c =
    let lent : Lent = record {
      names = map (λ p. string_bytes p.name) c.args.parts.now.items;
      faces = map (λ p. let f : Face = record {
        state = (g.dyn-1.0.entry p.part.vtable).1.state p.part.value;
        drives = (g.dyn-1.0.entry p.part.vtable).1.driven_in;
        sees = (g.dyn-1.0.entry p.part.vtable).1.after_seeing;
      } in f) c.args.parts.now.items;
    } in
    leaves_still lent (seen c.args.command) (Net c.in-Net.cif.now)
    c.net.result _ _ (ap seen c.in-Net.is) (λ old printed. refl) c.net.ensures.content

pub returns-in-Stats-clause-content : goal.returns-in-Stats-clause-content
returns-in-Stats-clause-content g c =
    let lent : Lent = record {
      names = map (λ p. string_bytes p.name) c.args.parts.now.items;
      faces = map (λ p. let f : Face = record {
        state = (g.dyn-1.0.entry p.part.vtable).1.state p.part.value;
        drives = (g.dyn-1.0.entry p.part.vtable).1.driven_in;
        sees = (g.dyn-1.0.entry p.part.vtable).1.after_seeing;
      } in f) c.args.parts.now.items;
    } in
    leaves_still lent (seen c.args.command) (Stats c.in-Stats.source.now)
    c.stats.result _ _ (ap seen c.in-Stats.is) (λ old printed. refl) c.stats.ensures.content

pub returns-in-Board-clause-content : goal.returns-in-Board-clause-content
returns-in-Board-clause-content g c =
    let lent : Lent = record {
      names = map (λ p. string_bytes p.name) c.args.parts.now.items;
      faces = map (λ p. let f : Face = record {
        state = (g.dyn-1.0.entry p.part.vtable).1.state p.part.value;
        drives = (g.dyn-1.0.entry p.part.vtable).1.driven_in;
        sees = (g.dyn-1.0.entry p.part.vtable).1.after_seeing;
      } in f) c.args.parts.now.items;
    } in
    let words : List (List ℕ) = map string_bytes c.in-Board.links.now in
    leaves_seen lent _ (seen c.args.command) (Board c.in-Board.source.now c.in-Board.cif.now c.in-Board.clocks words)
    c.board.result _ _ (ap seen c.in-Board.is) c.board.ensures.content

pub returns-in-Board-clause-rests : goal.returns-in-Board-clause-rests
returns-in-Board-clause-rests g c =
    let words : List (List ℕ) = map string_bytes c.in-Board.links.now in
    rests_seen (λ p. string_bytes p.name) _ _ _ _ (seen c.args.command)
    (Board c.in-Board.source.now c.in-Board.cif.now c.in-Board.clocks words) c.board.result (ap seen c.in-Board.is)
    c.board.ensures.rests

pub returns-in-Make-clause-content : goal.returns-in-Make-clause-content
returns-in-Make-clause-content g c =
    let lent : Lent = record {
      names = map (λ p. string_bytes p.name) c.args.parts.now.items;
      faces = map (λ p. let f : Face = record {
        state = (g.dyn-1.0.entry p.part.vtable).1.state p.part.value;
        drives = (g.dyn-1.0.entry p.part.vtable).1.driven_in;
        sees = (g.dyn-1.0.entry p.part.vtable).1.after_seeing;
      } in f) c.args.parts.now.items;
    } in
    leaves_still lent (seen c.args.command) (Make c.in-Make.number c.in-Make.cif.now)
    c.make.result _ _ (ap seen c.in-Make.is) (λ old printed. refl) c.make.ensures.content

pub returns-in-Rules-clause-content : goal.returns-in-Rules-clause-content
returns-in-Rules-clause-content g c =
    let lent : Lent = record {
      names = map (λ p. string_bytes p.name) c.args.parts.now.items;
      faces = map (λ p. let f : Face = record {
        state = (g.dyn-1.0.entry p.part.vtable).1.state p.part.value;
        drives = (g.dyn-1.0.entry p.part.vtable).1.driven_in;
        sees = (g.dyn-1.0.entry p.part.vtable).1.after_seeing;
      } in f) c.args.parts.now.items;
    } in
    leaves_still lent (seen c.args.command) (Rules c.in-Rules.cif.now)
    c.rules.result _ _ (ap seen c.in-Rules.is) (λ old printed. refl) c.rules.ensures.content

pub returns-in-Make-clause-made : goal.returns-in-Make-clause-made
returns-in-Make-clause-made g c =
    subst (λ k. EndsMade (Some k) (status_of c.make.result)) (sym (ap seen c.in-Make.is))
    (ends_made c.in-Make.number c.in-Make.cif.now c.make.result c.make.ensures.unrefused)

pub returns-in-Trace-clause-others : goal.returns-in-Trace-clause-others
returns-in-Trace-clause-others g c =
    let lent : Lent = record {
      names = map (λ p. string_bytes p.name) c.args.parts.now.items;
      faces = map (λ p. let f : Face = record {
        state = (g.dyn-1.0.entry p.part.vtable).1.state p.part.value;
        drives = (g.dyn-1.0.entry p.part.vtable).1.driven_in;
        sees = (g.dyn-1.0.entry p.part.vtable).1.after_seeing;
      } in f) c.args.parts.now.items;
    } in
    others_same lent (Some (seen c.args.command))

pub returns-in-Compile-clause-others : goal.returns-in-Compile-clause-others
returns-in-Compile-clause-others g c =
    let lent : Lent = record {
      names = map (λ p. string_bytes p.name) c.args.parts.now.items;
      faces = map (λ p. let f : Face = record {
        state = (g.dyn-1.0.entry p.part.vtable).1.state p.part.value;
        drives = (g.dyn-1.0.entry p.part.vtable).1.driven_in;
        sees = (g.dyn-1.0.entry p.part.vtable).1.after_seeing;
      } in f) c.args.parts.now.items;
    } in
    others_same lent (Some (seen c.args.command))

pub returns-in-Replay-clause-others : goal.returns-in-Replay-clause-others
returns-in-Replay-clause-others g c =
    let lent : Lent = record {
      names = map (λ p. string_bytes p.name) c.args.parts.now.items;
      faces = map (λ p. let f : Face = record {
        state = (g.dyn-1.0.entry p.part.vtable).1.state p.part.value;
        drives = (g.dyn-1.0.entry p.part.vtable).1.driven_in;
        sees = (g.dyn-1.0.entry p.part.vtable).1.after_seeing;
      } in f) c.args.parts.now.items;
    } in
    others_same lent (Some (seen c.args.command))

pub returns-in-Sim-clause-others : goal.returns-in-Sim-clause-others
returns-in-Sim-clause-others g c =
    let lent : Lent = record {
      names = map (λ p. string_bytes p.name) c.args.parts.now.items;
      faces = map (λ p. let f : Face = record {
        state = (g.dyn-1.0.entry p.part.vtable).1.state p.part.value;
        drives = (g.dyn-1.0.entry p.part.vtable).1.driven_in;
        sees = (g.dyn-1.0.entry p.part.vtable).1.after_seeing;
      } in f) c.args.parts.now.items;
    } in
    others_same lent (Some (seen c.args.command))

pub returns-in-Net-clause-others : goal.returns-in-Net-clause-others
returns-in-Net-clause-others g c =
    let lent : Lent = record {
      names = map (λ p. string_bytes p.name) c.args.parts.now.items;
      faces = map (λ p. let f : Face = record {
        state = (g.dyn-1.0.entry p.part.vtable).1.state p.part.value;
        drives = (g.dyn-1.0.entry p.part.vtable).1.driven_in;
        sees = (g.dyn-1.0.entry p.part.vtable).1.after_seeing;
      } in f) c.args.parts.now.items;
    } in
    others_same lent (Some (seen c.args.command))

pub returns-in-Stats-clause-others : goal.returns-in-Stats-clause-others
returns-in-Stats-clause-others g c =
    let lent : Lent = record {
      names = map (λ p. string_bytes p.name) c.args.parts.now.items;
      faces = map (λ p. let f : Face = record {
        state = (g.dyn-1.0.entry p.part.vtable).1.state p.part.value;
        drives = (g.dyn-1.0.entry p.part.vtable).1.driven_in;
        sees = (g.dyn-1.0.entry p.part.vtable).1.after_seeing;
      } in f) c.args.parts.now.items;
    } in
    others_same lent (Some (seen c.args.command))

pub returns-in-Make-clause-others : goal.returns-in-Make-clause-others
returns-in-Make-clause-others g c =
    let lent : Lent = record {
      names = map (λ p. string_bytes p.name) c.args.parts.now.items;
      faces = map (λ p. let f : Face = record {
        state = (g.dyn-1.0.entry p.part.vtable).1.state p.part.value;
        drives = (g.dyn-1.0.entry p.part.vtable).1.driven_in;
        sees = (g.dyn-1.0.entry p.part.vtable).1.after_seeing;
      } in f) c.args.parts.now.items;
    } in
    others_same lent (Some (seen c.args.command))

pub returns-in-Rules-clause-others : goal.returns-in-Rules-clause-others
returns-in-Rules-clause-others g c =
    let lent : Lent = record {
      names = map (λ p. string_bytes p.name) c.args.parts.now.items;
      faces = map (λ p. let f : Face = record {
        state = (g.dyn-1.0.entry p.part.vtable).1.state p.part.value;
        drives = (g.dyn-1.0.entry p.part.vtable).1.driven_in;
        sees = (g.dyn-1.0.entry p.part.vtable).1.after_seeing;
      } in f) c.args.parts.now.items;
    } in
    others_same lent (Some (seen c.args.command))

pub returns-in-Board-clause-others : goal.returns-in-Board-clause-others
returns-in-Board-clause-others g c =
    let lent : Lent = record {
      names = map (λ p. string_bytes p.name) c.args.parts.now.items;
      faces = map (λ p. let f : Face = record {
        state = (g.dyn-1.0.entry p.part.vtable).1.state p.part.value;
        drives = (g.dyn-1.0.entry p.part.vtable).1.driven_in;
        sees = (g.dyn-1.0.entry p.part.vtable).1.after_seeing;
      } in f) c.args.parts.now.items;
    } in
    let words : List (List ℕ) = map string_bytes c.in-Board.links.now in
    others_words lent _ (Some (seen c.args.command))
    (Some (Board c.in-Board.source.now c.in-Board.cif.now c.in-Board.clocks words))
    (sym (ap (λ k. Some (seen k)) c.in-Board.is)) c.board.ensures.others
