-- What a board shows of the chip of a source, and how it leaves the parts.
use Rattle.std.proofs.Common.{◌≡◌, ◌∙◌, ℕ, List, subst, sym, inl, inr, Option, Some, None, Result, Ok, Err, IfSome}
use Rattle.outside.specs.Outside.{Files, bytes_of}
use Rattle.mp_program.specs.declared.program.Program.{Program}
use Rattle.mp_rules.specs.Breaking.{IsUnbroken}
use Rattle.mp_source.specs.Source.{IsSource}
use Rattle.switch_net.specs.declared.network.Network.{Network}
use Rattle.mask_net.specs.Masks.{IsNetOf}
use Rattle.headline.specs.Headline.{IsChipOf}
use Rattle.chip_text.specs.Texts.{IsPlainChipOf}
use Rattle.compile_command.proofs.Compiling.{compiled}
use Rattle.source_files.proofs.Sources.{OneSource, one_program}
use Rattle.outcome.specs.World.{World}
use Rattle.outcome.specs.declared.halt.Halt.{Halt}
use Rattle.outcome.specs.declared.halt.Halt.TheVariants.{Refused, ReadFault, WriteFault, NoMemory}
use Rattle.stages.proofs.Ending.{ends_as}
use Rattle.board.specs.declared.plan.Plan.{Plan}
use Rattle.board.specs.Face.{Face}
use Rattle.board.specs.Loop.{Wired, Exchange}
use Rattle.board.specs.Plans.{IsPlan}
use Rattle.board_laws.specs.Laws.{IsBoardOf}
use Rattle.board_run.specs.Boarded.{whole_lines}
use Rattle.board_run.specs.Laws.{SwappedBoardsFollow}
use Rattle.board_run.specs.Left.{exchanges_of, left_of, links_left}
use Rattle.board_command.specs.Linked.{setting_of}
use Rattle.board_command.specs.Parts.{Lent, AreMoved, AreLeft, IsPlanned}
use Rattle.board_command.specs.Played.{PlaysFollow}
use Rattle.board_command.specs.Shown.{Boards}
use Rattle.board_command.specs.Work.{work, Plays, Moves}
use Rattle.board_command.proofs.Given.{Given}

pub plays_follow : OneSource → SwappedBoardsFollow → PlaysFollow
plays_follow one follow lent source words clocks chip text made told =
    let planned = told.planned in
    let same = one_program one source made.program told.program made.is_source planned.is_source in
    follow (exchanges_of lent.faces told.plan) told.program chip told.network told.wired clocks
    (left_of (told.plan).swaps lent.faces) text (planned.is_source).unbroken
    (subst (λ p. IsChipOf p chip) same made.masks) told.drawn planned.is_board told.board

-- what is known of a source, its chip and its board
pub record Known (lent : Lent) (source : List ℕ) (words : List (List ℕ)) (clocks : ℕ) (chip : List ℕ)
    (held : Option Files) : Type 0 where
  pub program : Program
  pub wired : Wired
  pub plan : Plan
  pub network : Network
  pub is_source : IfSome held (λ files. IsSource (bytes_of files source) program)
  pub unbroken : IsUnbroken program
  pub is_chip : IsPlainChipOf program chip
  pub is_board : IsBoardOf program wired
  pub is_plan : IsPlan (setting_of lent.names clocks wired.pads) words plan
  pub links : wired.links ≡ links_left plan
  pub drawn : IsNetOf chip network

module _ (lent : Lent) (source cif : List ℕ) (clocks : ℕ) (words : List (List ℕ)) where
  module _ (chip : List ℕ) (follow : SwappedBoardsFollow) where
    -- the swaps, and the parts that are left
    abbrev swapped : {held : Option Files} → Known lent source words clocks chip held → List Exchange
    swapped known = exchanges_of lent.faces known.plan

    abbrev others : {held : Option Files} → Known lent source words clocks chip held → List Face
    others known = left_of (known.plan).swaps lent.faces

    -- what the chip's part gives
    abbrev pub Gives : {held : Option Files} → Known lent source words clocks chip held → List Face
        → Result (Unit {0}) Halt → World → World → Files → Files → List ℕ → Type 0
    Gives known =
        Given cif chip (swapped known) known.network known.wired clocks lent.faces (others known)

    module _ (files : Files) (known : Known lent source words clocks chip (Some files)) where
      planned : IsPlanned lent (bytes_of files source) words clocks known.program known.wired known.plan
      planned = record {
        is_source = known.is_source;
        is_board = known.is_board;
        is_plan = known.is_plan;
        links = known.links;
      }

      shows_play : (bytes text : List ℕ)
          → Plays chip (swapped known) known.network known.wired clocks (others known) bytes text
          → (work lent source cif clocks words).Shows files bytes text
      shows_play bytes text plays = subst (λ b. (work lent source cif clocks words).Shows files b text) (sym plays.0) (
        compiled (bytes_of files source) chip known.program known.is_chip known.is_source,
        record {
          program = known.program;
          wired = known.wired;
          plan = known.plan;
          network = known.network;
          planned = planned;
          drawn = known.drawn;
          board = plays.1;
        },
      )

      -- as the loop of the program leaves them
      moved : (printed : List ℕ) (left : List Face)
          → AreLeft (swapped known) known.network known.wired clocks (others known) printed left
          → AreMoved lent (bytes_of files source) words clocks printed left
      moved printed left are =
          let f = follow (swapped known) known.program chip known.network known.wired clocks (others known) are.text
          known.unbroken ((known.is_chip).small).chip known.drawn known.is_board are.board in
          record {
            program = known.program;
            wired = known.wired;
            plan = known.plan;
            told = f.told;
            planned = planned;
            loop = f.loop;
            parts = are.parts ∙ f.alike (whole_lines printed);
          }

      moves : (left : List Face) (result : Result (Unit {0}) Halt) (before after : World) (new : Files)
          (printed : List ℕ) → Gives known left result before after files new printed
          → Moves lent (bytes_of files source) words clocks left result before after printed
      moves left (Ok v) before after new printed given = moved printed left given.1
      moves left (Err (Refused broken)) before after new printed given = given.1
      moves left (Err ReadFault) before after new printed given = given.1
      moves left (Err WriteFault) before after new printed (ends, inl (failed, are)) =
          inl (failed, moved printed left are)
      moves left (Err WriteFault) before after new printed (ends, inr rests) = inr rests
      moves left (Err NoMemory) before after new printed given = given.1

    -- from the chip's part to the whole
    pub plays_on : (held : Option Files) (known : Known lent source words clocks chip held)
        → IfSome held (λ files. (work lent source cif clocks words).First files None) → (left : List Face)
        (result : Result (Unit {0}) Halt) (before after : World)
        → IfSome held (λ files. (new : Files) (printed : List ℕ)
        → Gives known left result before after files new printed
        → Boards lent source cif clocks words left result before after files new printed)
    plays_on None known sound left result before after = tt
    plays_on (Some files) known sound left result before after = λ new printed given. (
      ends_as before after (work lent source cif clocks words)
          (Plays chip (swapped known) known.network known.wired clocks (others known)) files new printed
          (sound, shows_play files known) result given.0,
      moves files known left result before after new printed given,
    )
