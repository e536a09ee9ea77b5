use Rattle.std.proofs.Common.{List, ℕ, Err, inl, inr, map, refl}
use Rattle.outcome.specs.declared.halt.Halt.TheVariants.{WriteFault}
use Rattle.outcome.proofs.Causes.{store_failed, print_failed}
use Rattle.outcome.proofs.Silence.{quiet_cut}
use Rattle.board.specs.Face.{Face}
use Rattle.board.specs.Loop.{Exchange}
use Rattle.board_run.specs.Left.{exchange_of, left_of}
use Rattle.board_command.proofs.Given.{stored_in_part, printed_in_part, printed_whole}
use Rattle.board_command.proofs.Endings.{begun_cut}
use Rattle.board_command.proofs.Others.{others_kept}
use Rattle.board_command.proofs.playing.play.Goals as goal

pub returns-in-Err-clause-content : goal.returns-in-Err-clause-content
returns-in-Err-clause-content g c =
    let faces : List Face = map (λ p. let f : Face = record {
      state = (g.dyn-1.0.entry p.part.vtable).1.state p.part.value;
      drives = (g.dyn-1.0.entry p.part.vtable).1.driven_in;
      sees = (g.dyn-1.0.entry p.part.vtable).1.after_seeing;
    } in f) c.args.parts.now.items in
    let swapped : List Exchange = map (exchange_of faces) c.args.swaps.now in
    let others : List Face = left_of c.args.swaps.now faces in
    let clocks : ℕ = c.args.clocks in
    let circuit = c.args.circuit in
    let some = c.swapped_boards_run.ensures swapped circuit.network circuit.wired clocks others c.requires.has_pads in
    stored_in_part c.args.cif.now c.args.chip.now swapped circuit.network circuit.wired clocks faces others some.0
    some.1
    (Err WriteFault) _ _ refl (record {
      later = c.in-Err.ensures.cause.later;
      failed = c.in-Err.ensures.cause.failed;
      prints = refl;
      text = refl;
    }) c.in-Err.ensures.cut

pub returns-in_err-run_left-in-Ok-clause-content : goal.returns-in_err-run_left-in-Ok-clause-content
returns-in_err-run_left-in-Ok-clause-content g c =
    let faces : List Face = map (λ p. let f : Face = record {
      state = (g.dyn-1.0.entry p.part.vtable).1.state p.part.value;
      drives = (g.dyn-1.0.entry p.part.vtable).1.driven_in;
      sees = (g.dyn-1.0.entry p.part.vtable).1.after_seeing;
    } in f) c.args.parts.now.items in
    let swapped : List Exchange = map (exchange_of faces) c.args.swaps.now in
    let others : List Face = left_of c.args.swaps.now faces in
    let clocks : ℕ = c.args.clocks in
    let circuit = c.args.circuit in
    printed_in_part c.args.cif.now c.args.chip.now swapped circuit.network circuit.wired clocks faces others
    c.in_err-run_left-in-Ok.field-0.0 _
    c.from_residual.result _ _ c.from_residual.ensures.1 (record {
      later = c.in_err-run_left-in-Ok.ensures.cause.later;
      failed = c.in_err-run_left-in-Ok.ensures.cause.failed;
      writes = c.in-Ok.ensures.cause.ok;
    }) c.in-Ok.ensures.stored
    c.in_err-run_left-in-Ok.ensures.printed

pub returns-in_ok-run_left-in-Ok-clause-content : goal.returns-in_ok-run_left-in-Ok-clause-content
returns-in_ok-run_left-in-Ok-clause-content g c =
    let faces : List Face = map (λ p. let f : Face = record {
      state = (g.dyn-1.0.entry p.part.vtable).1.state p.part.value;
      drives = (g.dyn-1.0.entry p.part.vtable).1.driven_in;
      sees = (g.dyn-1.0.entry p.part.vtable).1.after_seeing;
    } in f) c.args.parts.now.items in
    let swapped : List Exchange = map (exchange_of faces) c.args.swaps.now in
    let others : List Face = left_of c.args.swaps.now faces in
    let clocks : ℕ = c.args.clocks in
    let circuit = c.args.circuit in
    printed_whole c.args.cif.now c.args.chip.now swapped circuit.network circuit.wired clocks faces others
    c.in_ok-run_left-in-Ok.field-0 _ tt _ _
    c.in-Ok.ensures.stored c.in_ok-run_left-in-Ok.ensures.printed

pub returns-in-Err-clause-causes : goal.returns-in-Err-clause-causes
returns-in-Err-clause-causes g c =
    store_failed (Err WriteFault) ⊥ _ _ refl c.in-Err.ensures.reads c.in-Err.ensures.cause.later
    c.in-Err.ensures.cause.failed refl refl

pub returns-in-Err-clause-silent : goal.returns-in-Err-clause-silent
returns-in-Err-clause-silent g c = tt

pub returns-in-Err-clause-rests : goal.returns-in-Err-clause-rests
returns-in-Err-clause-rests g c = inr (
  record {
    later = c.in-Err.ensures.cause.later;
    failed = c.in-Err.ensures.cause.failed;
    prints = refl;
    text = refl;
  },
  refl,
)

pub returns-in_err-run_left-in-Ok-clause-causes : goal.returns-in_err-run_left-in-Ok-clause-causes
returns-in_err-run_left-in-Ok-clause-causes g c =
    print_failed c.from_residual.result _ _ _ c.from_residual.ensures.1
    c.in-Ok.ensures.reads c.in-Ok.ensures.cause.ok c.in_err-run_left-in-Ok.ensures.cause.later
    c.in_err-run_left-in-Ok.ensures.cause.failed

pub returns-in_ok-run_left-in-Ok-clause-causes : goal.returns-in_ok-run_left-in-Ok-clause-causes
returns-in_ok-run_left-in-Ok-clause-causes g c =
    (c.in-Ok.ensures.reads, c.in-Ok.ensures.cause.ok, c.in_ok-run_left-in-Ok.ensures.cause.ok)

pub returns-in_err-run_left-in-Ok-clause-silent : goal.returns-in_err-run_left-in-Ok-clause-silent
returns-in_err-run_left-in-Ok-clause-silent g c = quiet_cut c.from_residual.result _ _
    c.from_residual.ensures.1

pub returns-in_ok-run_left-in-Ok-clause-silent : goal.returns-in_ok-run_left-in-Ok-clause-silent
returns-in_ok-run_left-in-Ok-clause-silent g c = tt

pub returns-in_err-run_left-in-Ok-clause-rests : goal.returns-in_err-run_left-in-Ok-clause-rests
returns-in_err-run_left-in-Ok-clause-rests g c =
    begun_cut _ _ c.from_residual.result _ _ c.from_residual.ensures.1 (record {
      later = c.in_err-run_left-in-Ok.ensures.cause.later;
      failed = c.in_err-run_left-in-Ok.ensures.cause.failed;
      writes = c.in-Ok.ensures.cause.ok;
    }) c.in_err-run_left-in-Ok.ensures.names

pub returns-in_ok-run_left-in-Ok-clause-rests : goal.returns-in_ok-run_left-in-Ok-clause-rests
returns-in_ok-run_left-in-Ok-clause-rests g c = c.in_ok-run_left-in-Ok.ensures.names

pub returns-in-Err-clause-others : goal.returns-in-Err-clause-others
returns-in-Err-clause-others g c = inl refl

pub returns-in_err-run_left-in-Ok-clause-others : goal.returns-in_err-run_left-in-Ok-clause-others
returns-in_err-run_left-in-Ok-clause-others g c =
    let faces : List Face = map (λ p. let f : Face = record {
      state = (g.dyn-1.0.entry p.part.vtable).1.state p.part.value;
      drives = (g.dyn-1.0.entry p.part.vtable).1.driven_in;
      sees = (g.dyn-1.0.entry p.part.vtable).1.after_seeing;
    } in f) c.args.parts.now.items in
    let swapped : List Exchange = map (exchange_of faces) c.args.swaps.now in
    let others : List Face = left_of c.args.swaps.now faces in
    let circuit = c.args.circuit in
    inr (others_kept swapped circuit.network circuit.wired c.args.clocks others _ _ _ _
    c.in_err-run_left-in-Ok.ensures.printed c.requires.timely.linked)

pub returns-in_ok-run_left-in-Ok-clause-others : goal.returns-in_ok-run_left-in-Ok-clause-others
returns-in_ok-run_left-in-Ok-clause-others g c =
    let faces : List Face = map (λ p. let f : Face = record {
      state = (g.dyn-1.0.entry p.part.vtable).1.state p.part.value;
      drives = (g.dyn-1.0.entry p.part.vtable).1.driven_in;
      sees = (g.dyn-1.0.entry p.part.vtable).1.after_seeing;
    } in f) c.args.parts.now.items in
    let swapped : List Exchange = map (exchange_of faces) c.args.swaps.now in
    let others : List Face = left_of c.args.swaps.now faces in
    let circuit = c.args.circuit in
    inr (others_kept swapped circuit.network circuit.wired c.args.clocks others _ _ _ _
    c.in_ok-run_left-in-Ok.ensures.printed c.requires.timely.linked)
