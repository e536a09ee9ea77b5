-- What is made of a number is never refused, and nothing is read for it.
use Rattle.std.proofs.Common.{◌≡◌, ℕ, List, refl, subst, Option, Some, None, Result, Ok, Err}
use Rattle.command_line.specs.Command.{Command, Trace, Compile, Replay, Sim, Net, Stats, Board, Make, Rules}
use Rattle.outcome.specs.Halt.{status_of}
use Rattle.outcome.specs.declared.halt.Halt.{Halt}
use Rattle.outcome.specs.declared.halt.Halt.TheVariants as halt
use Rattle.outcome.specs.declared.status.Status.{Status}
use Rattle.outcome.specs.declared.status.Status.TheVariants.{Refused, NoMemory}
use Rattle.make_command.specs.Work.{IsUnrefused}
use Rattle.silicon.specs.Run.{EndsMade}

pub ends_made : (number : ℕ) (cif : List ℕ) (result : Result (Unit {0}) Halt) → IsUnrefused result
    → EndsMade (Some (Make number cif)) (status_of result)
ends_made number cif (Ok v) is = (λ e. cc, λ e. cc)
ends_made number cif (Err (halt.Refused broken)) is = absurd is
ends_made number cif (Err halt.ReadFault) is = absurd is
ends_made number cif (Err halt.WriteFault) is = (λ e. cc, λ e. cc)
ends_made number cif (Err halt.NoMemory) is = (λ e. cc, λ e. cc)

-- no refusal is told of what is made
pub refused_made : (words : Option Command) (status : Status) → EndsMade words Refused → EndsMade words status
refused_made None status made = tt
refused_made (Some (Trace source stimulus)) status made = tt
refused_made (Some (Compile source cif)) status made = tt
refused_made (Some (Replay source stimulus cif)) status made = tt
refused_made (Some (Sim cif stimulus)) status made = tt
refused_made (Some (Net cif)) status made = tt
refused_made (Some (Rules cif)) status made = tt
refused_made (Some (Stats source)) status made = tt
refused_made (Some (Board source cif clocks links)) status made = tt
refused_made (Some (Make number cif)) status made = absurd (made.0 refl)

pub wanting_made : (words : Option Command) → EndsMade words NoMemory
wanting_made None = tt
wanting_made (Some (Trace source stimulus)) = tt
wanting_made (Some (Compile source cif)) = tt
wanting_made (Some (Replay source stimulus cif)) = tt
wanting_made (Some (Sim cif stimulus)) = tt
wanting_made (Some (Net cif)) = tt
wanting_made (Some (Rules cif)) = tt
wanting_made (Some (Stats source)) = tt
wanting_made (Some (Board source cif clocks links)) = tt
wanting_made (Some (Make number cif)) = (λ e. cc, λ e. cc)

pub made_words : (words other : Option Command) (status : Status) → other ≡ words → EndsMade other status
    → EndsMade words status
made_words words other status is made = subst (λ o. EndsMade o status) is made
