-- The run of a circuit on a board, from its clocks and its last line.
use Rattle.std.proofs.Common.{◌≡◌, ◌∙◌, ℕ, suc, ◌+◌, ◌-◌, ◌<◌, ◌≤◌, List, [], ◌∷◌, ◌++◌, append_assoc, Bool}
use Rattle.std.proofs.Common.{Option, Result, Ok, Err, length, take, refl, sym, ap, subst, arith}
use Rattle.std.specs.Prelude.{OnOk, OnErr}
use Rattle.std.proofs.lemmas.List.{length-append, take_all, take-append-le}
use Rattle.std.proofs.Math.Seq.{take-append-add}
use Rattle.mp_base.specs.declared.value.Trit.{Trit}
use Rattle.mp_base.specs.declared.value.Trit.TheVariants.{X}
use Rattle.mp_base.specs.declared.pad.Pads.{Pads}
use Rattle.outside.specs.Outside.{WhereTold, Gains}
use Rattle.outside.specs.Piece.{TakesAll}
use Rattle.outside.proofs.Told.{gains_twice}
use Rattle.stimulus.specs.Transcript.{line_text, lines_text}
use Rattle.switch_net.specs.declared.network.Network.{Network}
use Rattle.switch_net.specs.Breaks.{HasPads}
use Rattle.board.specs.declared.link.Link.{Link}
use Rattle.switch_net.specs.Clock.{IsClock}
use Rattle.switch_net.specs.Laws.{TraceExists}
use Rattle.switch_net.specs.Values.{value_at}
use Rattle.mask_net.specs.SizeLine.{last_line, size_text}
use Rattle.clock_run.specs.Circuit.{Running}
use Rattle.clock_run.specs.Device.{CircuitSteps}
use Rattle.transcript.specs.Transcript.{RunsAlong}
use Rattle.transcript.proofs.Transcripts.{runs_keep, lines_more}
use Rattle.sim_run.specs.Transcript.{NetworkSteps}
use Rattle.sim_run.proofs.Transcripts.{can_step, steps_on}
use Rattle.board.specs.Boarding.{Boarding}
use Rattle.board.specs.Face.{Face}
use Rattle.board.specs.Loop.{Wired, Exchange, IsSwappedLoop, faces_after, faces_with, inputs_at}
use Rattle.board.specs.Printing.{PrintsLoopWith}
use Rattle.board.specs.Laws.{InputsFit}
use Rattle.board.proofs.SwappedLoops.{IsLoopOn, loop_then, more}
use Rattle.board_laws.specs.Laws.{SwappedCircuitsLoop}
use Rattle.board_run.specs.Boarded.{PrintsBoardWith, whole_lines}
use Rattle.board_run.specs.Laws.{BoardsRun, SwappedBoardsRun}
use Rattle.board_run.specs.Standing.{Standing, IsReady}
use Rattle.board_run.proofs.Feeds.{lines_of_two, lines_counted, no_line}

pub swapped_boards_run : InputsFit → TraceExists → SwappedBoardsRun
swapped_boards_run fits exist swaps net w clocks faces has =
    let all = more swaps (NetworkSteps net w.pads) w fits (steps_on net w.pads exist has) clocks 0 (λ node. X) faces
    (can_step net w.pads exist has (λ node. X)) in (
      lines_text 0 (w.pads).outputs all.shown ++ last_line net all.after,
      record {
        shown = all.shown;
        end = all.after;
        left = all.later;
        loop = all.loop;
        many = all.many;
        lines = refl;
      },
    )

pub boards_run : InputsFit → TraceExists → BoardsRun
boards_run fits exist = swapped_boards_run fits exist []

-- the network and the pads stay the same
kept : (before after : Running) (is : List (List ℕ)) (shown : List (List (List Trit)))
    → RunsAlong CircuitSteps before is shown after
    → (after.network ≡ before.network) × (after.pads ≡ before.pads)
kept before after is shown runs =
    runs_keep CircuitSteps (λ (s : Running). (s.network ≡ before.network) × (s.pads ≡ before.pads))
    (λ s t i o same step. (step.network ∙ same.0, step.pads ∙ same.1)) before after is shown (refl, refl) runs

-- the network after all clocks were run
network_after : {T E : Type 0} (swaps : List Exchange) (w : Wired) (done clocks : ℕ) (before after : Running)
    (faces later : List Face) (x y : Option (List ℕ)) (u : T)
    → PrintsLoopWith swaps {T = T} {E = E} CircuitSteps w 0 done clocks before after faces later x y (Ok u)
    → after.network ≡ before.network
network_after swaps w done clocks before after faces later x y u p =
    ap (λ (s : Running). s.network) p.whole.1 ∙ (kept before p.end _ p.shown ((p.looped).loop).runs).0

-- a step of a circuit is one of its network
circuit_step : (net : Network) (pads : Pads) (s t : Running) (i : List ℕ) (o : List (List Trit)) → s.network ≡ net
    → s.pads ≡ pads → CircuitSteps s i o t
    → NetworkSteps net pads (value_at s.values) i o (value_at t.values)
circuit_step net pads s t i o same own step =
    let P : Network → Type 0 = λ n. IsClock n s.pads i (value_at s.values) o (value_at t.values) in
    let Q : Pads → Type 0 = λ ps. IsClock net ps i (value_at s.values) o (value_at t.values) in
    subst Q own (subst P same step.clock)

-- what stands of the text when its first part ended within this piece
taken_within : (n : ℕ) (a b c : List ℕ) → n ≤ length b → take (length a + n) (a ++ (b ++ c)) ≡ a ++ take n b
taken_within n a b c le = take-append-add a (b ++ c) n ∙ ap (λ t. a ++ t) (take-append-le n b c le)

module _ (fits : InputsFit) (circuits : SwappedCircuitsLoop) (exist : TraceExists) (swaps : List Exchange) (w : Wired)
    (before : Running) (own : before.pads ≡ w.pads)
    (has : HasPads before.network w.pads) (unknown : value_at before.values ≡ (λ node. X)) where
  abbrev net : Network
  net = before.network

  abbrev Steps : (ℕ → Trit) → List ℕ → List (List Trit) → (ℕ → Trit) → Type 0
  Steps = NetworkSteps net w.pads

  -- the loop of the circuit is one of its network, from all values X
  network_loop : (faces later : List Face) (shown : List (List (List Trit))) (end : Running)
      → IsSwappedLoop swaps CircuitSteps w 0 before faces shown end later
      → IsSwappedLoop swaps Steps w 0 (λ node. X) faces shown (value_at end.values) later
  network_loop faces later shown end loop =
      let P : (ℕ → Trit) → Type 0 = λ v. IsSwappedLoop swaps Steps w 0 v faces shown (value_at end.values) later in
      subst P unknown (circuits swaps w 0 before end faces later shown own loop)

  -- so many lines were printed whole: the parts are as after so many clocks
  parts_after : (faces later : List Face) (os us : List (List (List Trit))) (n : ℕ) → n ≡ length os
      → later ≡ faces_with swaps w 0 faces os → later ≡ faces_with swaps w 0 faces (take n (os ++ us))
  parts_after faces later os us n is parts =
      let e : take n (os ++ us) ≡ os =
      take-append-le n os us (omega (arith, is)) ∙ take_all n os (omega (arith, is)) in
      parts ∙ sym (ap (faces_with swaps w 0 faces) e)

  module _ {T E : Type 0} (done clocks : ℕ) (after : Running) (faces later : List Face) (x y : Option (List ℕ)) where
    -- a line was cut short
    cut_in_lines : (e f : E) (r : Result T E) → r ≡ Err f
        → PrintsLoopWith swaps {T = T} {E = E} CircuitSteps w 0 done clocks before after faces later x y (Err e)
        → PrintsBoardWith swaps {T = T} {E = E} net w clocks faces later x y r
    cut_in_lines e f r is p =
        let outs = (w.pads).outputs in
        let os = p.shown in
        let here = p.cut.1 in
        let o = here.shown in
        let same = kept before p.end _ os ((p.looped).loop).runs in
        let step : Steps (value_at (p.end).values) (inputs_at w done later) o (value_at after.values) =
        circuit_step net w.pads p.end after (inputs_at w done later) o same.0 (same.1 ∙ own) here.steps in
        let rest = more swaps Steps w fits (steps_on net w.pads exist has) (clocks - length os - 1) (suc done)
        (value_at after.values) (faces_after w done o later) (can_step net w.pads exist has (value_at after.values)) in
        let us = o ∷ rest.shown in
        let next : IsLoopOn swaps Steps w done (value_at (p.end).values) later us rest.after rest.later =
        record { runs = (value_at after.values, step, (rest.loop).runs); parts = (rest.loop).parts } in
        let a : List ℕ = lines_text 0 outs os in
        let b : List ℕ = line_text done outs o in
        let d : List ℕ = lines_text (suc done) outs rest.shown in
        let last : List ℕ = last_line net rest.after in
        let text : List ℕ = lines_text 0 outs (os ++ us) ++ last in
        let split : text ≡ a ++ (b ++ (d ++ last)) =
        ap (λ t. t ++ last) (lines_more 0 done outs os us p.counted) ∙ append_assoc a (b ++ d) last
        ∙ ap (λ t. a ++ t) (append_assoc b d last) in
        let n = (here.taken).count in
        let within : n < length b = (here.taken).cut in
        let first : take (length a + n) text ≡ a ++ take n b =
        ap (take (length a + n)) split ∙ taken_within n a b (d ++ last) (omega (arith, within)) in
        let lines : whole_lines (take (length a + n) text) ≡ length os =
        ap whole_lines first ∙ lines_of_two a (take n b)
        ∙ (let e1 = lines_counted w.pads 0 os in let e2 = no_line w.pads done n o within in
        omega (arith, e1, e2)) in
        record {
          text = text;
          board = record {
            shown = os ++ us;
            end = rest.after;
            left = rest.later;
            loop = loop_then swaps Steps w 0 done (λ node. X)
                (value_at (p.end).values) rest.after faces later rest.later os us
                p.counted (network_loop faces later os p.end (p.looped).loop) next;
            many = (let q = rest.many in omega (arith, q, p.cut.0, length-append os us));
            lines = refl;
          };
          count = length a + n;
          all = subst (λ q. OnOk q (take (length a + n) text ≡ text)) (sym is) tt;
          cut = subst (λ q. OnErr q (length a + n < length text)) (sym is)
              (let e1 = ap length split in let e2 = length-append a (b ++ (d ++ last)) in
              let e3 = length-append b (d ++ last) in omega (arith, e1, e2, e3, within));
          gained = subst (λ t. WhereTold (Gains t) x y) (sym first)
              (gains_twice a (take n b) x p.told y (p.looped).gained (here.taken).taken);
          parts = parts_after faces later os us _ lines ((p.looped).loop).parts;
        }

    -- all lines were printed, and then the last one, or a part of it
    line_behind : (u : T) (r : Result T E) (z : Option (List ℕ))
        → PrintsLoopWith swaps {T = T} {E = E} CircuitSteps w 0 done clocks before after faces later x y (Ok u)
        → TakesAll {T = T} {E = E} Gains y z (last_line net (value_at after.values)) r
        → PrintsBoardWith swaps {T = T} {E = E} net w clocks faces later x z r
    line_behind u r z p line =
        let outs = (w.pads).outputs in
        let os = p.shown in
        let a : List ℕ = lines_text 0 outs os in
        let last : List ℕ = last_line net (value_at after.values) in
        let text : List ℕ = a ++ last in
        let n = line.count in
        let first : take (length a + n) text ≡ a ++ take n last = take-append-add a last n in
        let lines : length os ≤ whole_lines (take (length a + n) text) =
        (let e0 = ap whole_lines first in let e1 = lines_of_two a (take n last) in
        let e2 = lines_counted w.pads 0 os in omega (arith, e0, e1, e2)) in
        record {
          text = text;
          board = record {
            shown = os;
            end = value_at after.values;
            left = later;
            loop = subst (λ (s : Running). IsSwappedLoop swaps Steps w 0 (λ node. X) faces os (value_at s.values) later)
                (sym p.whole.1) (network_loop faces later os p.end (p.looped).loop);
            many = p.whole.0;
            lines = refl;
          };
          count = length a + n;
          all = whole r a last n line.all first;
          cut = part r a last n line.cut;
          gained = subst (λ t. WhereTold (Gains t) x z) (sym first)
              (gains_twice a (take n last) x y z
              (subst (λ t. WhereTold (Gains a) x t) (sym p.whole.2) (p.looped).gained) line.taken);
          parts = ((p.looped).loop).parts ∙ sym (ap (faces_with swaps w 0 faces) (take_all _ os lines));
        }
      where
        whole : (q : Result T E) (a last : List ℕ) (n : ℕ) → OnOk q (n ≡ length last)
            → take (length a + n) (a ++ last) ≡ a ++ take n last → OnOk q (take (length a + n) (a ++ last) ≡ a ++ last)
        whole (Ok v) a last n all first = first ∙ ap (λ t. a ++ t) (take_all n last (omega (arith, all)))
        whole (Err f) a last n all first = tt

        part : (q : Result T E) (a last : List ℕ) (n : ℕ) → OnErr q (n < length last)
            → OnErr q (length a + n < length (a ++ last))
        part (Ok v) a last n cut = tt
        part (Err f) a last n cut = omega (arith, cut, length-append a last)

abbrev wired_by : Pads → List Link → Bool → Wired
wired_by pads links stores = record { pads = pads; links = links; stores = stores }

-- how a board is wired, by its fields
pub same_wired : (w : Wired) (pads : Pads) (links : List Link) (stores : Bool) → w.pads ≡ pads → w.links ≡ links
    → w.stores ≡ stores → w ≡ wired_by pads links stores
same_wired w pads links stores e f h =
    ap (λ p. wired_by p w.links w.stores) e ∙ ap (λ l. wired_by pads l w.stores) f ∙ ap (wired_by pads links) h

-- what was printed of the same
pub printed_as : {T E : Type 0} (swaps : List Exchange) (s t : Standing) (clocks : ℕ) (faces later : List Face)
    (x y : Option (List ℕ)) (r : Result T E) → s ≡ t
    → PrintsBoardWith swaps {T = T} {E = E} s.network s.wired clocks faces later x y r
    → PrintsBoardWith swaps {T = T} {E = E} t.network t.wired clocks faces later x y r
printed_as {T} {E} swaps s t clocks faces later x y r is prints =
    subst (λ (z : Standing). PrintsBoardWith swaps {T = T} {E = E} z.network z.wired clocks faces later x y r) is prints

-- ---- a circuit that has run no clock

has_its_pads : (circuit : Running) (board : Boarding) (size : List ℕ) → IsReady circuit board size
    → HasPads circuit.network (board.wired).pads
has_its_pads circuit board size ready = subst (HasPads circuit.network) ready.pads ready.has_pads

module _ (fits : InputsFit) (circuits : SwappedCircuitsLoop) (exist : TraceExists) (swaps : List Exchange)
    (circuit : Running) (board : Boarding) (size : List ℕ) (ready : IsReady circuit board size) {T E : Type 0}
    (done clocks : ℕ) (after : Running) (faces later : List Face) (x y : Option (List ℕ)) where
  abbrev Printed : Result T E → Type 0
  Printed r =
      PrintsLoopWith swaps {T = T} {E = E} CircuitSteps board.wired 0 done clocks circuit after faces later x y r

  -- a line was cut short
  pub cut_run : (e f : E) (r : Result T E) → r ≡ Err f → Printed (Err e)
      → PrintsBoardWith swaps {T = T} {E = E} circuit.network board.wired clocks faces later x y r
  cut_run e f r is p =
      cut_in_lines fits circuits exist swaps board.wired circuit ready.pads
      (has_its_pads circuit board size ready) ready.unknown done clocks after faces later x y e f r is p

  -- all lines were printed, and the size line behind them, or a part of it
  pub whole_run : (u : T) (r : Result T E) (z : Option (List ℕ)) → Printed (Ok u)
      → ((net : Network) → size ≡ size_text net → after.network ≡ net
      → TakesAll {T = T} {E = E} Gains y z (last_line net (value_at after.values)) r)
      → PrintsBoardWith swaps {T = T} {E = E} circuit.network board.wired clocks faces later x z r
  whole_run u r z p line =
      line_behind fits circuits exist swaps board.wired circuit ready.pads
      (has_its_pads circuit board size ready) ready.unknown done clocks after faces later x y u r z p
      (line circuit.network ready.sized (network_after swaps board.wired done clocks circuit after faces later x y u p))
