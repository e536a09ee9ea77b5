-- The loop of a chip and that of its program.
use Rattle.std.proofs.Common.{◌≡◌, ◌∙◌, ℕ, suc, ◌+◌, List, [], ◌∷◌, length, map, refl, subst, arith, ap}
use Rattle.std.specs.Prelude.{All}
use Rattle.std.proofs.lemmas.List.Elements.{All-nil, All-cons}
use Rattle.mp_base.specs.declared.value.Trit.{Trit}
use Rattle.mp_base.specs.declared.value.Trit.TheVariants.{X}
use Rattle.mp_program.specs.State.{zero_state}
use Rattle.mp_program.proofs.Lengths.{length_trace}
use Rattle.mp_base.specs.PadBits.{Fit, value_bits}
use Rattle.headline.specs.Headline.{Follows}
use Rattle.transcript.specs.Transcript.{RunsAlong}
use Rattle.trace_run.specs.Transcript.{ProgramSteps}
use Rattle.sim_run.proofs.Circuits.{circuit_trace}
use Rattle.board.specs.Face.{Face}
use Rattle.board.specs.Loop.{Wired, Exchange, faces_after, inputs_at, inputs_with, is_settled, made}
use Rattle.board.specs.Laws.{AgreeWhereSettled, InputsFit, SwappedLoopsAgree}
use Rattle.board_laws.specs.Laws.{ChipsLoop, CircuitsLoop, SwappedChipsLoop, SwappedCircuitsLoop}
use Rattle.board_laws.proofs.Runs.{circuit_runs, program_runs, along_many, agree_at}
use Rattle.board_laws.proofs.Resets.{settles}

pub swapped_circuits_loop : SwappedCircuitsLoop
swapped_circuits_loop swaps w clock before after faces later shown same loop = record {
  runs = circuit_runs before.network w.pads before after _ shown refl same loop.runs;
  parts = loop.parts;
}

pub circuits_loop : CircuitsLoop
circuits_loop = swapped_circuits_loop []

all_fit : InputsFit → (swaps : List Exchange) (w : Wired) (clock : ℕ) (faces : List Face)
    (shown : List (List (List Trit)))
    → All (Fit (w.pads).inputs) (inputs_with swaps w clock faces shown)
all_fit fits swaps w clock faces [] = All-nil (Fit (w.pads).inputs)
all_fit fits swaps w clock faces (o ∷ os) =
    let now = made w.links swaps clock faces in
    All-cons (Fit (w.pads).inputs) (inputs_at w clock now) _ (fits w clock now)
    (all_fit fits swaps w (suc clock) (faces_after w clock o now) os)

pub swapped_chips_loop : SwappedLoopsAgree → InputsFit → SwappedChipsLoop
swapped_chips_loop agrees fits swaps p net w faces later shown after unbroken board follows loop =
    let inputs : List (List ℕ) = inputs_with swaps w 0 faces shown in
    let outs = (w.pads).outputs in
    let f : Follows p w.pads net inputs = follows inputs (all_fit fits swaps w 0 faces shown) in
    let many : length inputs ≡ length shown = along_many swaps w 0 faces shown in
    let trace = circuit_trace net w.pads (λ node. X) after inputs shown loop.runs in
    let told : List (List (List Trit)) = map (value_bits outs) f.outputs in
    let same : AgreeWhereSettled w 0 shown told =
    agree_at w 0 shown f.outputs (length_trace p (zero_state p) inputs f.outputs f.program ∙ many)
    (λ k lt s. f.agrees (λ node. X) after shown trace k (omega (arith, lt, many))
    (settles p w unbroken board swaps faces shown k lt
    (let z : k ≡ 0 + k = omega arith in ap (is_settled w) z ∙ s))) in
    let e = agrees swaps w 0 faces shown told same in
    let run = program_runs p outs (zero_state p) inputs f.outputs f.program in (
      told,
      run.0,
      record {
        runs = subst (λ is. RunsAlong (ProgramSteps p outs) (zero_state p) is told run.0) e.0 run.1;
        parts = loop.parts ∙ e.1;
      },
      same,
    )

pub chips_loop : SwappedLoopsAgree → InputsFit → ChipsLoop
chips_loop agrees fits = swapped_chips_loop agrees fits []
