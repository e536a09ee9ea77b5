-- How a board ends, and whether printing had begun.
use Rattle.std.proofs.Common.{◌≡◌, ◌∙◌, ◌≤◌, ℕ, List, [], refl, sym, subst, inl, inr, Option, Some, None, Result, Ok}
use Rattle.std.proofs.Common.{Err, IfSome}
use Rattle.std.specs.Prelude.{IsErrAnd}
use Rattle.mp_base.specs.declared.refusal.Refusal.{Refusal}
use Rattle.mp_base.specs.declared.refusal.Refusal.TheVariants as refusals
use Rattle.outside.specs.Outside.{Files, Rose, bytes_of, WhereTold, Keeps, Gains}
use Rattle.outside.proofs.Told.{gains_nothing}
use Rattle.outcome.specs.Order.{Breaks, Fault}
use Rattle.outcome.specs.World.{World, Leaves, PrintFailed}
use Rattle.outcome.specs.Halt.{EndsBy, halt_of}
use Rattle.outcome.specs.declared.halt.Halt.{Halt}
use Rattle.outcome.specs.declared.halt.Halt.TheVariants.{Refused, ReadFault, WriteFault, NoMemory}
use Rattle.stages.proofs.Ending.{OnlyReads, ends_since, leaves_on}
use Rattle.board.specs.Face.{Face}
use Rattle.board_command.specs.Parts.{Lent, AreMoved}
use Rattle.board_command.specs.Work.{work, WhereBegun}
use Rattle.board_command.specs.Shown.{Boards}

-- ---- where printing has begun

-- it had not, where work ended otherwise than by a failed write
pub rests : {P : Type 0} (Q : Type 0) (parts : List P) (halt : Halt) (result : Result (Unit {0}) Halt)
    (before after : World) → IsErrAnd result (λ e. e ≡ halt) → (halt ≡ WriteFault → ⊥) → WhereBegun result before after Q (parts ≡ parts)
rests Q parts halt (Ok v) before after is other = absurd is
rests Q parts halt (Err e) before after is other =
    subst (λ h. WhereBegun {T = Unit {0}} (Err h) before after Q (parts ≡ parts)) (sym is) (by halt other)
  where
    by : (h : Halt) → (h ≡ WriteFault → ⊥) → WhereBegun {T = Unit {0}} (Err h) before after Q (parts ≡ parts)
    by (Refused broken) other = refl
    by ReadFault other = refl
    by WriteFault other = absurd (other refl)
    by NoMemory other = refl

pub ends_unwritten : (First : Files → Option Fault → Type 0) (files : Option Files) (r r' : ℕ) (halt : Halt)
    → EndsBy First files r r' halt → halt ≡ WriteFault → ⊥
ends_unwritten First files r r' halt ends is = subst (EndsBy First files r r') is ends

pub refused_unwritten : (refusal : Refusal) → halt_of refusal ≡ WriteFault → ⊥
refused_unwritten (refusals.Broken broken) is = cc
refused_unwritten refusals.NoMemory is = cc

pub wanting_unwritten : NoMemory ≡ WriteFault → ⊥
wanting_unwritten is = cc

pub begun_map : {T P Q R S : Type 0} (result : Result T Halt) (before after : World) → (P → R) → (Q → S)
    → WhereBegun result before after P Q → WhereBegun result before after R S
begun_map (Ok v) before after f g h = f h
begun_map (Err (Refused broken)) before after f g h = g h
begun_map (Err ReadFault) before after f g h = g h
begun_map (Err WriteFault) before after f g (inl (failed, h)) = inl (failed, f h)
begun_map (Err WriteFault) before after f g (inr (failed, h)) = inr (failed, g h)
begun_map (Err NoMemory) before after f g h = g h

-- a print failed, which was passed on
pub begun_cut : (P Q : Type 0) (result : Result (Unit {0}) Halt) (before after : World)
    → IsErrAnd result (λ e. e ≡ WriteFault) → PrintFailed before after → P → WhereBegun result before after P Q
begun_cut P Q (Ok v) before after is failed p = absurd is
begun_cut P Q (Err e) before after is failed p =
    subst (λ h. WhereBegun {T = Unit {0}} (Err h) before after P Q) (sym is) (inl (failed, p))

-- files were read before
pub begun_since : {T : Type 0} (P Q : Type 0) (result : Result T Halt) (before middle after : World)
    → OnlyReads before middle → WhereBegun result middle after P Q → WhereBegun result before after P Q
begun_since P Q (Ok v) before middle after only h = h
begun_since P Q (Err (Refused broken)) before middle after only h = h
begun_since P Q (Err ReadFault) before middle after only h = h
begun_since P Q (Err WriteFault) before middle after only (inl (why, h)) = inl (
  record {
    later = subst (λ n. n ≤ after.prints) only.prints why.later;
    failed = subst (λ n. Rose n after.prints) only.prints why.failed;
    writes = why.writes ∙ only.writes;
  },
  h,
)
begun_since P Q (Err WriteFault) before middle after only (inr (why, h)) = inr (
  record {
    later = subst (λ n. n ≤ after.writes) only.writes why.later;
    failed = subst (λ n. Rose n after.writes) only.writes why.failed;
    prints = why.prints ∙ only.prints;
    text = why.text ∙ only.text;
  },
  h,
)
begun_since P Q (Err NoMemory) before middle after only h = h

module _ (lent : Lent) (source cif : List ℕ) (clocks : ℕ) (words : List (List ℕ)) where
  -- what is left of files that were only read is left of those at entry
  pub plays_since : (left : List Face) (result : Result (Unit {0}) Halt) (before middle after : World)
      → Keeps before.files middle.files → OnlyReads before middle
      → Leaves (Boards lent source cif clocks words left result) middle after
      → Leaves (Boards lent source cif clocks words left result) before after
  plays_since left result before middle after kept only leaves =
      leaves_on (Boards lent source cif clocks words left result) (Boards lent source cif clocks words left result)
      before middle after kept only.text (since middle.files) leaves
    where
      since : (held : Option Files) → IfSome held (λ files. (new : Files) (printed : List ℕ)
          → Boards lent source cif clocks words left result middle after files new printed
          → Boards lent source cif clocks words left result before after files new printed)
      since None = tt
      since (Some files) = λ new printed told. (
        ends_since before middle after only (work lent source cif clocks words) files new printed result told.0,
        begun_since (AreMoved lent (bytes_of files source) words clocks printed left) (left ≡ lent.faces) result before
            middle after only told.1,
      )

  halted_told : (halt : Halt) (before after : World) (x y : Option Files) (r r' : ℕ) → Keeps x y
      → EndsBy (work lent source cif clocks words).First y r r' halt
      → WhereTold (λ old new. Boards lent source cif clocks words lent.faces (Err halt) before after old new []) x y
  halted_told halt before after x None r r' kept ends = tt
  halted_told halt before after None (Some b) r r' kept ends = absurd kept
  halted_told (Refused broken) before after (Some a) (Some b) r r' kept ends = (
    (subst (λ files. (work lent source cif clocks words).First files (Some (Breaks broken))) kept ends.1, kept, refl),
    refl,
  )
  halted_told ReadFault before after (Some a) (Some b) r r' kept ends = ((kept, refl), refl)
  halted_told WriteFault before after (Some a) (Some b) r r' kept ends = absurd ends
  halted_told NoMemory before after (Some a) (Some b) r r' kept ends = ((kept, refl), refl)

  -- it ended while it read and judged, or for want of memory
  pub plays_halted : (halt : Halt) (result : Result (Unit {0}) Halt) (before after : World) (r r' : ℕ)
      → IsErrAnd result (λ e. e ≡ halt) → Keeps before.files after.files → after.text ≡ before.text
      → EndsBy (work lent source cif clocks words).First after.files r r' halt
      → Leaves (Boards lent source cif clocks words lent.faces result) before after
  plays_halted halt (Ok v) before after r r' is kept same ends = absurd is
  plays_halted halt (Err e) before after r r' is kept same ends =
      subst (λ h. Leaves (Boards lent source cif clocks words lent.faces (Err h)) before after) (sym is) (record {
        printed = [];
        gained = subst (λ text. WhereTold (Gains []) before.text text) (sym same) (gains_nothing before.text);
        told = halted_told halt before after before.files after.files r r' kept ends;
      })
