-- What is told of the run of a made chip.
use Rattle.std.proofs.Common.{◌≡◌, ℕ, List, ◌++◌, length, refl, sym, subst, arith}
use Rattle.std.proofs.Common.{Option, Some, None, Result, Ok, Err, IfSome}
use Rattle.std.specs.Prelude.{IsErrAnd}
use Rattle.outside.specs.Outside.{Files}
use Rattle.mp_program.specs.declared.program.Program.{Program}
use Rattle.mp_program.specs.Pads.{ArePadsOf}
use Rattle.mp_program.specs.Weight.{weight}
use Rattle.stimulus.specs.declared.given.Stimulus.{Stimulus}
use Rattle.stimulus.specs.Inputs.{inputs_of}
use Rattle.switch_net.specs.declared.network.Network.{Network}
use Rattle.mask_net.specs.Masks.{IsNetOf}
use Rattle.mask_net.specs.SizeLine.{last_line}
use Rattle.compile_laws.specs.Laws.{IsSmallChipOf}
use Rattle.replay_run.specs.Replay.{IsReplay}
use Rattle.replay_run.specs.Laws.{FollowsProgram, ReplaysFollow}
use Rattle.settled_sum.specs.Sum.{IsSettledSum}
use Rattle.settled_sum.specs.Laws.{SettlesBehindFirst, ShowsTrace, SumsSettle}
use Rattle.made_run.specs.Summary.{IsSummary}
use Rattle.outcome.specs.declared.halt.Halt.{Halt}
use Rattle.outcome.specs.declared.halt.Halt.TheVariants.{WriteFault, NoMemory}
use Rattle.program_maker.specs.Texts.{source_text}
use Rattle.compile_command.specs.Compiled.{IsCompiled}
use Rattle.make_command.specs.Made.{IsMadeRun, TellsRun}
use Rattle.make_command.specs.Work.{work, IsUnrefused}

module _ (p : Program) (given : Stimulus) (chip : List ℕ) (follow : ReplaysFollow) (sums : SumsSettle p)
    (padded : ArePadsOf p given.pads) (one : length (given.pads).outputs ≡ 1) (many : length given.clocks ≡ 65)
    (settled : SettlesBehindFirst p (inputs_of given)) (small : IsSmallChipOf p chip) (net : Network)
    (drawn : IsNetOf chip net) where
  pub tells_run : (text : List ℕ) → IsSummary (weight p) net given text → TellsRun p given chip text
  tells_run text told =
      let run = told.run in
      let shown = (run.transcript).shown in
      let replay : IsReplay net given (run.front ++ last_line net told.end) =
      record { end = told.end; front = run.front; transcript = run.transcript; lines = refl } in
      let follows : FollowsProgram p given shown =
      follow p chip net given (run.front ++ last_line net told.end) small.chip padded drawn replay in
      let shows : ShowsTrace p given shown follows.outputs =
      record { trace = follows.trace; as_many = follows.as_many; agrees = follows.agrees } in
      record {
        outputs = follows.outputs;
        trace = follows.trace;
        sum = told.sum;
        summed = subst (IsSettledSum p (inputs_of given) follows.outputs) (sym run.sum_is)
            (sums given shown follows.outputs padded (omega (arith, one)) (omega (arith, many)) settled
            shows);
        network = net;
        drawn = drawn;
        end = told.end;
        front = run.front;
        transcript = run.transcript;
        lines = told.lines;
      }

-- whatever the files are, no fault is found, and this is what is shown
pub finds_made : (seed : ℕ) (cif chip text : List ℕ) → IsCompiled (source_text seed) chip → IsMadeRun seed chip text
    → (held : Option Files)
    → IfSome held (λ files. (work seed cif).First files None)
    × IfSome held (λ files. (work seed cif).Shows files chip text)
finds_made seed cif chip text compiled run None = (tt, tt)
finds_made seed cif chip text compiled run (Some files) = (refl, (compiled, run))

pub unrefused_memory : (result : Result (Unit {0}) Halt) → IsErrAnd result (λ e. e ≡ NoMemory) → IsUnrefused result
unrefused_memory (Ok v) is = tt
unrefused_memory (Err e) is = subst (λ h. IsUnrefused {T = Unit {0}} (Err h)) (sym is) tt

pub unrefused_write : (result : Result (Unit {0}) Halt) → IsErrAnd result (λ e. e ≡ WriteFault) → IsUnrefused result
unrefused_write (Ok v) is = tt
unrefused_write (Err e) is = subst (λ h. IsUnrefused {T = Unit {0}} (Err h)) (sym is) tt
