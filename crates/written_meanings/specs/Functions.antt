-- What is noted of functions.
use Rattle.std.specs.Prelude.{◌≡◌, ℕ, List, map, length}
use Rattle.mp_base.specs.Entries.{IsAt}
use Rattle.mp_written.specs.declared.program.Arg.{Arg}
use Rattle.mp_written.specs.Functions.{Function}
use Rattle.written_meanings.specs.declared.firsts.Firsts.{Firsts}
use Rattle.written_meanings.specs.declared.functions.Functions.{Functions}
use Rattle.written_meanings.specs.Firsts.{AreFirsts}
use Rattle.written_meanings.specs.Meanings.{body_of}

-- what is noted is so of these functions
pub record AreFunctions (fs : List Function) (t : Functions) : Type 0 where
  pub numbers : AreFirsts (map (λ (f : Function). f.name) fs) t.numbers
  pub bodies : t.bodies ≡ map body_of fs
  pub as_many : length t.args ≡ length fs
  pub args : (k : ℕ) (f : Function) (a : Firsts) → IsAt fs k f → IsAt t.args k a
      → AreFirsts (map (λ (b : Arg). b.name) f.args) a
