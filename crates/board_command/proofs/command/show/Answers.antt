use Rattle.std.proofs.Common.{◌<◌, ℕ, List, [], None, Option, length, map, refl, sym, ap, subst, inl}
use Rattle.std.specs.Prelude.{◌≢◌, ◌≤◌, All, AllPairs, string_bytes}
use Rattle.std.specs.Vec.{vec_capacity}
use Rattle.outside.specs.Outside.{Files, bytes_of}
use Rattle.outside.proofs.Told.{keeps_same}
use Rattle.switch_net.specs.Breaks.{HasPads}
use Rattle.outcome.specs.Halt.{halt_of}
use Rattle.outcome.specs.Order.{Fault, OfRule}
use Rattle.outcome.specs.declared.halt.Halt.TheVariants.{NoMemory}
use Rattle.outcome.proofs.Causes.{without_memory}
use Rattle.outcome.proofs.Reasons.{ends_second, if_second}
use Rattle.outcome.proofs.Silence.{quiet_same}
use Rattle.source_files.specs.Faults.{SourceFault}
use Rattle.stages.proofs.Ending.{causes_halted, leaves_on}
use Rattle.board.specs.declared.link.Link.{Link}
use Rattle.board.specs.declared.plan.Swap.{Swap}
use Rattle.board.specs.Face.{Face}
use Rattle.board.specs.Loop.{Wired}
use Rattle.board.specs.Plans.{IsPlan}
use Rattle.board_laws.specs.Laws.{IsBoardOf}
use Rattle.board_run.specs.Left.{exchange_of, exchanges_of, left_of}
use Rattle.board_run.specs.Swaps.{AreTimely}
use Rattle.board_command.specs.Linked.{OfBoard, IsPlanFor, setting_of}
use Rattle.board_command.specs.Parts.{Lent}
use Rattle.board_command.specs.Shown.{Boards}
use Rattle.board_command.proofs.Judging.{plan_end, plan_fits}
use Rattle.board_command.proofs.Leaving.{fresh_within}
use Rattle.board_command.proofs.Known.{Known, Gives, plays_on}
use Rattle.board_command.proofs.Endings.{begun_map, plays_halted, refused_unwritten, rests, wanting_unwritten}
use Rattle.board_command.proofs.Others.{others_planned}
use Rattle.board_command.proofs.command.show.Goals as goal

pub chip_on_board-requires-clause-few : goal.chip_on_board-requires-clause-few
chip_on_board-requires-clause-few g c = c.in_ok-plan.ensures.planned.few

pub chip_on_board-requires-clause-wires : goal.chip_on_board-requires-clause-wires
chip_on_board-requires-clause-wires g c =
    let names : List (List ℕ) = map (λ p. string_bytes p.name) c.args.parts.now.items in
    let told : IsPlanFor names c.args.clocks (map string_bytes c.args.words.now) c.args.checked.now.program
    c.args.checked.now.pads c.in_ok-plan.plan = rw c.deref.ensures.value at c.in_ok-plan.ensures.planned in
    (c.plans_run.ensures (setting_of names c.args.clocks c.args.checked.now.pads) c.in_ok-plan.plan [] told.whole).wires

pub chip_on_board-requires-clause-apart : goal.chip_on_board-requires-clause-apart
chip_on_board-requires-clause-apart g c = c.in_ok-plan.ensures.planned.whole.apart

pub play-requires-clause-has_pads : goal.play-requires-clause-has_pads
play-requires-clause-has_pads g c =
    subst (λ (w : Wired). HasPads c.in_ok-chip.field-0.circuit.network w.pads) (sym c.in_ok-chip.ensures.wired)
    c.in_ok-chip.ensures.has_pads

pub play-requires-clause-fresh : goal.play-requires-clause-fresh
play-requires-clause-fresh g c =
    let old = c.args.parts.now.items in
    let names : List (List ℕ) = map (λ p. string_bytes p.name) old in
    let plan = c.in_ok-plan.plan in
    let checked = c.args.checked.now in
    let told : IsPlanFor names c.args.clocks (map string_bytes c.args.words.now) checked.program checked.pads plan =
    rw c.deref.ensures.value at c.in_ok-plan.ensures.planned in
    subst (λ (ss : List Swap). All (λ (s : Swap). s.fresh < length old) ss) (sym c.as_slice-swaps.ensures)
    (fresh_within (λ p. string_bytes p.name) old plan.swaps (told.whole).fresh)

pub play-requires-clause-apart : goal.play-requires-clause-apart
play-requires-clause-apart g c =
    subst (λ (ss : List Swap). AllPairs (λ (s t : Swap). s.fresh ≢ t.fresh) ss) (sym c.as_slice-swaps.ensures)
    c.in_ok-plan.ensures.planned.whole.apart

pub play-requires-clause-room : goal.play-requires-clause-room
play-requires-clause-room g c =
    subst (λ (ss : List Swap). length ss ≤ vec_capacity c.in_ok-chip.field-0.taken) (sym c.as_slice-swaps.ensures)
    c.in_ok-chip.ensures.room

pub play-requires-clause-parts : goal.play-requires-clause-parts
play-requires-clause-parts g c =
    let old = c.args.parts.now.items in
    let names : List (List ℕ) = map (λ p. string_bytes p.name) old in
    let plan = c.in_ok-plan.plan in
    let checked = c.args.checked.now in
    let told : IsPlanFor names c.args.clocks (map string_bytes c.args.words.now) checked.program checked.pads plan =
    rw c.deref.ensures.value at c.in_ok-plan.ensures.planned in
    let run = c.plans_run.ensures (setting_of names c.args.clocks checked.pads) plan [] told.whole in
    subst (λ (ss : List Swap). All (λ (l : Link). l.part < length (left_of ss names))
    c.in_ok-chip.field-0.circuit.wired.links) (sym c.as_slice-swaps.ensures)
    (subst (λ (w : Wired). All (λ (l : Link). l.part < length (left_of plan.swaps names)) w.links)
    (sym c.in_ok-chip.ensures.wired) run.within)

pub play-requires-clause-timely : goal.play-requires-clause-timely
play-requires-clause-timely g c =
    let old = c.args.parts.now.items in
    let names : List (List ℕ) = map (λ p. string_bytes p.name) old in
    let plan = c.in_ok-plan.plan in
    let checked = c.args.checked.now in
    let told : IsPlanFor names c.args.clocks (map string_bytes c.args.words.now) checked.program checked.pads plan =
    rw c.deref.ensures.value at c.in_ok-plan.ensures.planned in
    let faces : List Face = map (λ p. let f : Face = record {
      state = (g.dyn-1.0.entry p.part.vtable).1.state p.part.value;
      drives = (g.dyn-1.0.entry p.part.vtable).1.driven_in;
      sees = (g.dyn-1.0.entry p.part.vtable).1.after_seeing;
    } in f) old in
    let run = c.plans_run.ensures (setting_of names c.args.clocks checked.pads) plan faces told.whole in
    subst (λ (ss : List Swap). AreTimely c.in_ok-chip.field-0.circuit.wired.links c.args.clocks
    (map (exchange_of faces) ss)) (sym c.as_slice-swaps.ensures)
    (subst (λ (w : Wired). AreTimely w.links c.args.clocks (exchanges_of faces plan)) (sym c.in_ok-chip.ensures.wired)
    run.timely)

pub returns-in_err-plan-clause-content : goal.returns-in_err-plan-clause-content
returns-in_err-plan-clause-content g c = λ source fault is.
    let old = c.args.parts.now.items in
    let lent : Lent = record {
      names = map (λ p. string_bytes p.name) old;
      faces = map (λ p. let f : Face = record {
        state = (g.dyn-1.0.entry p.part.vtable).1.state p.part.value;
        drives = (g.dyn-1.0.entry p.part.vtable).1.driven_in;
        sees = (g.dyn-1.0.entry p.part.vtable).1.after_seeing;
      } in f) old;
    } in
    let words : List (List ℕ) = map string_bytes c.args.words.now in
    let program = c.args.checked.now.program in
    let pads = c.args.checked.now.pads in
    let clocks : ℕ = c.args.clocks in
    let why = c.in_err-plan.field-0.0 in
    let held = g.D.Depot.held c.args.depot.now in
    let reads = g.D.Depot.read_faults c.args.depot.now in
    let F : Files → Option Fault → Type 0 = SourceFault source in
    let G : Files → Option Fault → Type 0 = λ files. OfRule (OfBoard lent.names clocks (bytes_of files source) words) in
    plays_halted lent source c.args.cif.now clocks words (halt_of why) c.from_residual.result _ _ reads reads
    c.from_residual.ensures.1 (keeps_same held) refl
    (ends_second F G held reads reads reads (halt_of why) refl fault
    (plan_end lent.names words clocks source program pads c.in_err-plan.ensures.padded held is reads why
    (rw c.deref.ensures.value at c.in_err-plan.ensures.judged)))

pub returns-in_err-chip-clause-content : goal.returns-in_err-chip-clause-content
returns-in_err-chip-clause-content g c = λ source fault is.
    let old = c.args.parts.now.items in
    let lent : Lent = record {
      names = map (λ p. string_bytes p.name) old;
      faces = map (λ p. let f : Face = record {
        state = (g.dyn-1.0.entry p.part.vtable).1.state p.part.value;
        drives = (g.dyn-1.0.entry p.part.vtable).1.driven_in;
        sees = (g.dyn-1.0.entry p.part.vtable).1.after_seeing;
      } in f) old;
    } in
    let words : List (List ℕ) = map string_bytes c.args.words.now in
    let reads = g.D.Depot.read_faults c.args.depot.now in
    plays_halted lent source c.args.cif.now c.args.clocks words NoMemory c.from_residual-in_err-chip.result _ _ reads
    reads c.from_residual-in_err-chip.ensures.1 (keeps_same (g.D.Depot.held c.args.depot.now)) refl refl

pub returns-clause-content : goal.returns-clause-content
returns-clause-content g c = λ source fault is.
    let old = c.args.parts.now.items in
    let lent : Lent = record {
      names = map (λ p. string_bytes p.name) old;
      faces = map (λ p. let f : Face = record {
        state = (g.dyn-1.0.entry p.part.vtable).1.state p.part.value;
        drives = (g.dyn-1.0.entry p.part.vtable).1.driven_in;
        sees = (g.dyn-1.0.entry p.part.vtable).1.after_seeing;
      } in f) old;
    } in
    let words : List (List ℕ) = map string_bytes c.args.words.now in
    let left : List Face = map (λ p. let f : Face = record {
      state = (g.dyn-1.0.entry p.part.vtable).1.state p.part.value;
      drives = (g.dyn-1.0.entry p.part.vtable).1.driven_in;
      sees = (g.dyn-1.0.entry p.part.vtable).1.after_seeing;
    } in f) c.play.new.parts.items in
    let cif = c.args.cif.now in
    let clocks : ℕ = c.args.clocks in
    let held = g.D.Depot.held c.args.depot.now in
    let F : Files → Option Fault → Type 0 = SourceFault source in
    let G : Files → Option Fault → Type 0 = λ files. OfRule (OfBoard lent.names clocks (bytes_of files source) words) in
    let checked = c.args.checked.now in
    let plan = c.in_ok-plan.plan in
    let told : IsPlanFor lent.names clocks words checked.program checked.pads plan =
    rw c.deref.ensures.value at c.in_ok-plan.ensures.planned in
    let run = c.plans_run.ensures (setting_of lent.names clocks checked.pads) plan lent.faces told.whole in
    let opened = c.in_ok-chip.ensures in
    let circuit = c.in_ok-chip.field-0.circuit in
    let chip = c.in_ok-chip.field-0.chip.items in
    let known : Known lent source words clocks chip held = record {
      program = checked.program;
      wired = circuit.wired;
      plan = plan;
      network = circuit.network;
      is_source = is;
      unbroken = c.unbroken.ensures;
      is_chip = opened.chip;
      is_board = subst (IsBoardOf checked.program) (sym opened.wired)
          (record { are_pads = told.padded; wires = run.wires; stores = refl });
      is_plan =
          subst (λ (w : Wired). IsPlan (setting_of lent.names clocks w.pads) words plan) (sym opened.wired)
          told.is_plan;
      links = ap (λ (w : Wired). w.links) opened.wired;
      drawn = opened.drawn;
    } in
    leaves_on
    (Gives lent source cif clocks words chip c.swapped_boards_follow.ensures known left c.play.result)
    (Boards lent source cif clocks words left c.play.result) _ _ _ (keeps_same held) refl
    (plays_on lent source cif clocks words chip c.swapped_boards_follow.ensures held known
    (if_second F G held None fault
    (plan_fits lent.names words clocks source checked.program checked.pads told.padded held is plan told.is_plan))
    left c.play.result _ _)
    (rw c.as_slice-swaps.ensures at (rw c.deref-2.ensures.value at c.play.ensures.content))

pub returns-in_err-plan-clause-causes : goal.returns-in_err-plan-clause-causes
returns-in_err-plan-clause-causes g c =
    let names : List (List ℕ) = map (λ p. string_bytes p.name) c.args.parts.now.items in
    let words : List (List ℕ) = map string_bytes c.args.words.now in
    let checked = c.args.checked.now in
    let clocks : ℕ = c.args.clocks in
    let why = c.in_err-plan.field-0.0 in
    causes_halted (λ files. OfRule (OfBoard names clocks (bytes_of files []) words)) None (halt_of why)
    c.from_residual.result _ _ c.from_residual.ensures.1
    (plan_end names words clocks [] checked.program checked.pads c.in_err-plan.ensures.padded None tt
    (g.D.Depot.read_faults c.args.depot.now) why (rw c.deref.ensures.value at c.in_err-plan.ensures.judged)) refl refl

pub returns-in_err-chip-clause-causes : goal.returns-in_err-chip-clause-causes
returns-in_err-chip-clause-causes g c =
    without_memory c.from_residual-in_err-chip.result _ _ _ c.from_residual-in_err-chip.ensures.1 refl refl refl

pub returns-clause-causes : goal.returns-clause-causes
returns-clause-causes g c = c.play.ensures.causes

pub returns-in_err-plan-clause-silent : goal.returns-in_err-plan-clause-silent
returns-in_err-plan-clause-silent g c = quiet_same c.from_residual.result _

pub returns-in_err-chip-clause-silent : goal.returns-in_err-chip-clause-silent
returns-in_err-chip-clause-silent g c = quiet_same c.from_residual-in_err-chip.result _

pub returns-clause-silent : goal.returns-clause-silent
returns-clause-silent g c = c.play.ensures.silent

pub returns-in_err-plan-clause-rests : goal.returns-in_err-plan-clause-rests
returns-in_err-plan-clause-rests g c =
    let why = c.in_err-plan.field-0.0 in
    rests _ _ (halt_of why) c.from_residual.result _ _ c.from_residual.ensures.1 (refused_unwritten why)

pub returns-in_err-chip-clause-rests : goal.returns-in_err-chip-clause-rests
returns-in_err-chip-clause-rests g c =
    rests _ _ NoMemory c.from_residual-in_err-chip.result _ _ c.from_residual-in_err-chip.ensures.1
    wanting_unwritten

pub returns-clause-rests : goal.returns-clause-rests
returns-clause-rests g c =
    let names : List (List ℕ) = map (λ p. string_bytes p.name) c.args.parts.now.items in
    let told : IsPlanFor names c.args.clocks (map string_bytes c.args.words.now) c.args.checked.now.program
    c.args.checked.now.pads c.in_ok-plan.plan = rw c.deref.ensures.value at c.in_ok-plan.ensures.planned in
    begun_map c.play.result _ _ (λ out. record {
      pads = c.args.checked.now.pads;
      plan = c.in_ok-plan.plan;
      is_plan = told.is_plan;
      others = out;
    }) (λ same. same) (rw c.as_slice-swaps.ensures at c.play.ensures.rests)

pub returns-in_err-plan-clause-others : goal.returns-in_err-plan-clause-others
returns-in_err-plan-clause-others g c = inl refl

pub returns-in_err-chip-clause-others : goal.returns-in_err-chip-clause-others
returns-in_err-chip-clause-others g c = inl refl

pub returns-clause-others : goal.returns-clause-others
returns-clause-others g c =
    let old = c.args.parts.now.items in
    let lent : Lent = record {
      names = map (λ p. string_bytes p.name) old;
      faces = map (λ p. let f : Face = record {
        state = (g.dyn-1.0.entry p.part.vtable).1.state p.part.value;
        drives = (g.dyn-1.0.entry p.part.vtable).1.driven_in;
        sees = (g.dyn-1.0.entry p.part.vtable).1.after_seeing;
      } in f) old;
    } in
    let words : List (List ℕ) = map string_bytes c.args.words.now in
    let plan = c.in_ok-plan.plan in
    let told : IsPlanFor lent.names c.args.clocks words c.args.checked.now.program c.args.checked.now.pads plan =
    rw c.deref.ensures.value at c.in_ok-plan.ensures.planned in
    others_planned lent words c.args.clocks c.args.checked.now.pads plan _ _ told.is_plan
    (ap (λ (w : Wired). w.links) c.in_ok-chip.ensures.wired) (rw c.as_slice-swaps.ensures at c.play.ensures.others)
