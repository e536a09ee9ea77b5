use Rattle.std.proofs.Common.{ℕ, List, Option, map, refl, inl}
use Rattle.std.specs.Prelude.{string_bytes}
use Rattle.outside.specs.Outside.{Files, bytes_of}
use Rattle.outcome.specs.Order.{Fault, OfRule}
use Rattle.outcome.proofs.Reasons.{ends_first}
use Rattle.outcome.proofs.Silence.{quiet_same}
use Rattle.source_files.specs.Faults.{SourceFault}
use Rattle.stages.proofs.Ending.{causes_as, causes_halted}
use Rattle.board.specs.Face.{Face}
use Rattle.board_command.specs.Linked.{OfBoard}
use Rattle.board_command.specs.Parts.{Lent}
use Rattle.board_command.specs.Work.{work}
use Rattle.board_command.proofs.Endings.{begun_since, ends_unwritten, plays_halted, plays_since, rests}
use Rattle.board_command.proofs.command.board.Goals as goal

pub returns-in_err-checked-clause-content : goal.returns-in_err-checked-clause-content
returns-in_err-checked-clause-content g c =
    let old = c.args.parts.now.items in
    let lent : Lent = record {
      names = map (λ p. string_bytes p.name) old;
      faces = map (λ p. let f : Face = record {
        state = (g.dyn-1.0.entry p.part.vtable).1.state p.part.value;
        drives = (g.dyn-1.0.entry p.part.vtable).1.driven_in;
        sees = (g.dyn-1.0.entry p.part.vtable).1.after_seeing;
      } in f) old;
    } in
    let words : List (List ℕ) = map string_bytes c.args.words.now in
    let source = c.args.source.now in
    let clocks : ℕ = c.args.clocks in
    let why = c.in_err-checked.field-0.0 in
    let F : Files → Option Fault → Type 0 = SourceFault source in
    let G : Files → Option Fault → Type 0 = λ files. OfRule (OfBoard lent.names clocks (bytes_of files source) words) in
    plays_halted lent source c.args.cif.now clocks words why c.from_residual.result _ _ _ _
    c.from_residual.ensures.1 c.in_err-checked.ensures.held refl
    (ends_first F G _ _ _ why c.in_err-checked.ensures.reason)

pub returns-clause-content : goal.returns-clause-content
returns-clause-content g c =
    let old = c.args.parts.now.items in
    let lent : Lent = record {
      names = map (λ p. string_bytes p.name) old;
      faces = map (λ p. let f : Face = record {
        state = (g.dyn-1.0.entry p.part.vtable).1.state p.part.value;
        drives = (g.dyn-1.0.entry p.part.vtable).1.driven_in;
        sees = (g.dyn-1.0.entry p.part.vtable).1.after_seeing;
      } in f) old;
    } in
    let words : List (List ℕ) = map string_bytes c.args.words.now in
    let left : List Face = map (λ p. let f : Face = record {
      state = (g.dyn-1.0.entry p.part.vtable).1.state p.part.value;
      drives = (g.dyn-1.0.entry p.part.vtable).1.driven_in;
      sees = (g.dyn-1.0.entry p.part.vtable).1.after_seeing;
    } in f) c.show-result.new.parts.items in
    let source = c.args.source.now in
    let clocks : ℕ = c.args.clocks in
    let told = c.in_ok-checked.ensures in
    plays_since lent source c.args.cif.now clocks words left c.show-result.result _ _ _ told.held
    (record { writes = told.writes; prints = refl; text = refl })
    (c.show-result.ensures.content source told.reason.1 told.source)

pub returns-in_err-checked-clause-causes : goal.returns-in_err-checked-clause-causes
returns-in_err-checked-clause-causes g c =
    let old = c.args.parts.now.items in
    let lent : Lent = record {
      names = map (λ p. string_bytes p.name) old;
      faces = map (λ p. let f : Face = record {
        state = (g.dyn-1.0.entry p.part.vtable).1.state p.part.value;
        drives = (g.dyn-1.0.entry p.part.vtable).1.driven_in;
        sees = (g.dyn-1.0.entry p.part.vtable).1.after_seeing;
      } in f) old;
    } in
    let words : List (List ℕ) = map string_bytes c.args.words.now in
    let source = c.args.source.now in
    let clocks : ℕ = c.args.clocks in
    let why = c.in_err-checked.field-0.0 in
    let F : Files → Option Fault → Type 0 = SourceFault source in
    let G : Files → Option Fault → Type 0 = λ files. OfRule (OfBoard lent.names clocks (bytes_of files source) words) in
    causes_halted (work lent source c.args.cif.now clocks words).First (g.D.Depot.held c.read_source.new.depot) why
    c.from_residual.result _ _ c.from_residual.ensures.1 (ends_first F G _ _ _ why c.in_err-checked.ensures.reason)
    c.in_err-checked.ensures.writes refl

pub returns-clause-causes : goal.returns-clause-causes
returns-clause-causes g c =
    causes_as c.show-result.result _ _ _ _ c.in_ok-checked.ensures.reason.0
    (record { writes = c.in_ok-checked.ensures.writes; prints = refl; text = refl })
    c.show-result.ensures.causes

pub returns-in_err-checked-clause-silent : goal.returns-in_err-checked-clause-silent
returns-in_err-checked-clause-silent g c = quiet_same c.from_residual.result _

pub returns-clause-silent : goal.returns-clause-silent
returns-clause-silent g c = c.show-result.ensures.silent

pub returns-in_err-checked-clause-rests : goal.returns-in_err-checked-clause-rests
returns-in_err-checked-clause-rests g c =
    let why = c.in_err-checked.field-0.0 in
    rests _ _ why c.from_residual.result _ _ c.from_residual.ensures.1
    (ends_unwritten (SourceFault c.args.source.now) _ _ _ why c.in_err-checked.ensures.reason)

pub returns-clause-rests : goal.returns-clause-rests
returns-clause-rests g c =
    begun_since _ _ c.show-result.result _ _ _
    (record { writes = c.in_ok-checked.ensures.writes; prints = refl; text = refl }) c.show-result.ensures.rests

pub returns-in_err-checked-clause-others : goal.returns-in_err-checked-clause-others
returns-in_err-checked-clause-others g c = inl refl

pub returns-clause-others : goal.returns-clause-others
returns-clause-others g c = c.show-result.ensures.others
