-- How storing a chip's file and running its circuit with parts ends.
use Rattle.std.proofs.Common.{◌≡◌, ◌∙◌, ℕ, List, [], take, refl, sym, ap, subst, inl, inr, Some, Result, Ok, Err}
use Rattle.std.specs.Prelude.{IsErrAnd}
use Rattle.outside.specs.Outside.{Files, WhereTold, Gains}
use Rattle.outside.specs.Transfer.{Holds, HoldsPart}
use Rattle.outside.proofs.Told.{told_map, gains_nothing}
use Rattle.switch_net.specs.declared.network.Network.{Network}
use Rattle.outcome.specs.Work.{Work, IsDone}
use Rattle.outcome.specs.World.{World, Leaves, IsCutShort, StoreFailed, PrintFailed}
use Rattle.outcome.specs.Halt.{Ends}
use Rattle.outcome.specs.declared.halt.Halt.{Halt}
use Rattle.outcome.specs.declared.halt.Halt.TheVariants.{WriteFault}
use Rattle.stages.specs.Stages.{second}
use Rattle.board.specs.Face.{Face}
use Rattle.board.specs.Loop.{Wired, Exchange, faces_with}
use Rattle.board_run.specs.Boarded.{IsBoardedWith, PrintsBoardWith, whole_lines}
use Rattle.board_command.specs.Parts.{AreLeft}
use Rattle.board_command.specs.Work.{Plays, WhereBegun}

-- the parts that are lent, and those that are left when the parts of swaps are taken out
module _ (cif chip : List ℕ) (swaps : List Exchange) (network : Network) (w : Wired) (clocks : ℕ)
    (lent faces : List Face) where
  abbrev Stage : Work
  Stage = second (Some cif) (Plays chip swaps network w clocks faces)

  -- what is given to the files and the output, and how the parts are left
  abbrev pub Given : List Face → Result (Unit {0}) Halt → World → World → Files → Files → List ℕ → Type 0
  Given left result before after old new printed =
      Ends (second (Some cif) (Plays chip swaps network w clocks faces)) result before after old new printed
      × WhereBegun result before after (AreLeft swaps network w clocks faces printed left) (left ≡ lent)

  -- an error that was passed on
  by_err : (left : List Face) (result : Result (Unit {0}) Halt) (before after : World)
      → IsErrAnd result (λ h. h ≡ WriteFault) → Leaves (Given left (Err WriteFault)) before after
      → Leaves (Given left result) before after
  by_err left (Ok v) before after is leaves = absurd is
  by_err left (Err h) before after is leaves = subst (λ e. Leaves (Given left (Err e)) before after) (sym is) leaves

  -- a part of the file was stored
  pub stored_in_part : (text : List ℕ) → IsBoardedWith swaps network w clocks faces text
      → (result : Result (Unit {0}) Halt) (before after : World) → IsErrAnd result (λ h. h ≡ WriteFault)
      → StoreFailed before after → WhereTold (HoldsPart cif chip) before.files after.files
      → Leaves (Given lent result) before after
  stored_in_part text board result before after is why stored =
      let cut : (old new : Files) → HoldsPart cif chip old new → IsCutShort Stage before after old new [] =
      λ old new part. record {
        fault = tt;
        chip = chip;
        text = text;
        shows = (refl, board);
        part = inl (why, refl, part);
      } in
      by_err lent result before after is (record {
        printed = [];
        gained = subst (λ t. WhereTold (Gains []) before.text t) (sym why.text) (gains_nothing before.text);
        told = told_map (HoldsPart cif chip) (λ old new. Given lent (Err WriteFault) before after old new [])
            before.files after.files (λ old new part. (cut old new part, inr (why, refl))) stored;
      })

  -- the file was stored, and a part of the text printed
  pub printed_in_part : {T E : Type 0} (e : E) (left : List Face) (result : Result (Unit {0}) Halt)
      (before after : World) → IsErrAnd result (λ h. h ≡ WriteFault) → PrintFailed before after
      → WhereTold (Holds cif chip) before.files after.files
      → PrintsBoardWith swaps {T = T} {E = E} network w clocks faces left before.text after.text (Err e)
      → Leaves (Given left result) before after
  printed_in_part e left result before after is why stored prints =
      let printed : List ℕ = take prints.count prints.text in
      let are : AreLeft swaps network w clocks faces printed left =
      record { text = prints.text; board = prints.board; parts = prints.parts } in
      let cut : (old new : Files) → Holds cif chip old new → IsCutShort Stage before after old new printed =
      λ old new holds. record {
        fault = tt;
        chip = chip;
        text = prints.text;
        shows = (refl, prints.board);
        part = inr (why, (prints.count, prints.cut, refl), holds);
      } in
      by_err left result before after is (record {
        printed = printed;
        gained = prints.gained;
        told = told_map (Holds cif chip) (λ old new. Given left (Err WriteFault) before after old new printed)
            before.files after.files (λ old new holds. (cut old new holds, inl (why, are))) stored;
      })

  -- the file was stored, and the whole text printed
  pub printed_whole : {T E : Type 0} (v : T) (left : List Face) (u : Unit {0}) (before after : World)
      → WhereTold (Holds cif chip) before.files after.files
      → PrintsBoardWith swaps {T = T} {E = E} network w clocks faces left before.text after.text (Ok v)
      → Leaves (Given left (Ok u)) before after
  printed_whole v left u before after stored prints =
      let text : List ℕ = prints.text in
      let whole : take prints.count text ≡ text = prints.all in
      let are : AreLeft swaps network w clocks faces text left = record {
        text = text;
        board = prints.board;
        parts = prints.parts
            ∙ ap (λ (t : List ℕ). faces_with swaps w 0 faces (take (whole_lines t) (prints.board).shown)) whole;
      } in
      let done : (old new : Files) → Holds cif chip old new → IsDone Stage old new text =
      λ old new holds. record { fault = tt; chip = chip; shows = (refl, prints.board); stored = holds } in
      record {
        printed = text;
        gained = subst (λ t. WhereTold (Gains t) before.text after.text) whole prints.gained;
        told = told_map (Holds cif chip) (λ old new. Given left (Ok u) before after old new text) before.files
            after.files (λ old new holds. (done old new holds, are)) stored;
      }
