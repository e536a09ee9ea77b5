-- What a chip shows on a board follows its program.
use Rattle.std.proofs.Common.{◌≡◌, ◌∙◌, ℕ, zero, suc, List, [], ◌∷◌, length, take, refl, arith}
use Rattle.mp_base.specs.declared.value.Trit.{Trit}
use Rattle.board.specs.Loop.{Wired}
use Rattle.board.specs.Laws.{AgreeWhereSettled, SwappedLoopsAgree}
use Rattle.board_laws.specs.Laws.{SwappedChipsLoop}
use Rattle.mask_net.specs.Laws.{OneNetwork, SoundWithPads}
use Rattle.replay_run.specs.Laws.{OnePads}
use Rattle.board_run.specs.Laws.{BoardsFollow, SwappedBoardsFollow}
use Rattle.board_run.proofs.Chips.{follow}

-- what agrees is as long
as_long : (w : Wired) (clock : ℕ) (shown told : List (List (List Trit))) → AgreeWhereSettled w clock shown told
    → length told ≡ length shown
as_long w clock [] [] h = refl
as_long w clock [] (p ∷ ps) h = absurd h
as_long w clock (o ∷ os) [] h = absurd h
as_long w clock (o ∷ os) (p ∷ ps) h = let e = as_long w (suc clock) os ps h.1 in omega (arith, e)

-- and so do the first clocks
first_agree : (w : Wired) (clock k : ℕ) (shown told : List (List (List Trit))) → AgreeWhereSettled w clock shown told
    → AgreeWhereSettled w clock (take k shown) (take k told)
first_agree w clock zero shown told h = tt
first_agree w clock (suc k) [] [] h = tt
first_agree w clock (suc k) [] (p ∷ ps) h = absurd h
first_agree w clock (suc k) (o ∷ os) [] h = absurd h
first_agree w clock (suc k) (o ∷ os) (p ∷ ps) h = (h.0, first_agree w (suc clock) k os ps h.1)

pub swapped_boards_follow : SwappedChipsLoop → OneNetwork → SoundWithPads → OnePads → SwappedLoopsAgree
    → SwappedBoardsFollow
swapped_boards_follow chips one_network sound one_pads agree swaps p bytes net w clocks faces text unbroken chip drawn
    is board =
    let run = chips swaps p net w faces board.left board.shown board.end unbroken is
    (follow one_network sound one_pads p bytes chip net w.pads is.are_pads drawn) board.loop in
    record {
      told = run.0;
      loop = record {
        end = run.1;
        left = board.left;
        loop = run.2;
        many = as_long w 0 board.shown run.0 run.3 ∙ board.many;
      };
      agrees = run.3;
      alike = λ k.
          (agree swaps w 0 faces (take k board.shown) (take k run.0) (first_agree w 0 k board.shown run.0 run.3)).1;
    }

pub boards_follow : SwappedChipsLoop → OneNetwork → SoundWithPads → OnePads → SwappedLoopsAgree → BoardsFollow
boards_follow chips one_network sound one_pads agree = swapped_boards_follow chips one_network sound one_pads agree []
