-- A transcript and the line behind it.
use Rattle.std.proofs.Common.{◌≡◌, ℕ, List, ◌++◌, Option, Result, Ok, Err, refl, subst}
use Rattle.mp_base.specs.declared.value.Trit.{Trit}
use Rattle.mp_base.specs.declared.value.Trit.TheVariants.{X}
use Rattle.outside.specs.Outside.{Gains}
use Rattle.outside.specs.Piece.{TakesAll}
use Rattle.outside.proofs.Written.{written_then}
use Rattle.outside.proofs.CutTexts.{cut_at}
use Rattle.switch_net.specs.Values.{value_at}
use Rattle.switch_net.specs.declared.network.Network.{Network}
use Rattle.stimulus.specs.declared.given.Stimulus.{Stimulus}
use Rattle.transcript.specs.Running.{PrintsTranscript}
use Rattle.mask_net.specs.SizeLine.{last_line}
use Rattle.sim_run.specs.Transcript.{NetworkSteps, IsTranscript}
use Rattle.replay_run.specs.Replay.{PrintsReplay}

from_unknown : (net : Network) (given : Stimulus) (before : ℕ → Trit) → before ≡ (λ node. X) → (end : ℕ → Trit)
    (text : List ℕ) → IsTranscript net given before end text → IsTranscript net given (λ node. X) end text
from_unknown net given before unknown end text =
    let P : (ℕ → Trit) → Type 0 = λ v. IsTranscript net given v end text in subst P unknown

module _ {T E : Type 0} (net : Network) (given : Stimulus) (before : ℕ → Trit) (unknown : before ≡ (λ node. X)) where
  -- the transcript was cut short
  pub cut_in_lines : (after : ℕ → Trit) (x y : Option (List ℕ)) (e f : E) (r : Result T E) → r ≡ Err f
      → PrintsTranscript {T = T} {E = E} (NetworkSteps net given.pads) given before after x y (Err e)
      → PrintsReplay {T = T} {E = E} net given x y r
  cut_in_lines after x y e f r is t = record {
    text = t.text ++ last_line net t.end;
    replay = record {
      end = t.end;
      front = t.text;
      transcript = from_unknown net given before unknown t.end t.text t.transcript;
      lines = refl;
    };
    taken = cut_at x y t.text (last_line net t.end) e f r is t.taken;
  }

  -- it was printed whole, and the last line behind it
  pub line_behind : (values : List Trit) (x y z : Option (List ℕ)) (u : T) (r : Result T E)
      → PrintsTranscript {T = T} {E = E} (NetworkSteps net given.pads) given before (value_at values) x y (Ok u)
      → TakesAll {T = T} {E = E} Gains y z (last_line net (value_at values)) r
      → PrintsReplay {T = T} {E = E} net given x z r
  line_behind values x y z u r t line =
      let P : (ℕ → Trit) → Type 0 = λ v. TakesAll {T = T} {E = E} Gains y z (last_line net v) r in
      record {
        text = t.text ++ last_line net t.end;
        replay = record {
          end = t.end;
          front = t.text;
          transcript = from_unknown net given before unknown t.end t.text t.transcript;
          lines = refl;
        };
        taken = written_then u x y z t.text (last_line net t.end) r t.taken (subst P t.ends line);
      }
