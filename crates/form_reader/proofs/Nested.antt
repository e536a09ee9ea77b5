-- Forms that nest within a depth nest within a greater one, for all crates above.
use Rattle.std.proofs.Common.{ℕ, suc}
use Rattle.form_reader.specs.declared.forms.Forms.{Forms}
use Rattle.form_reader.specs.Sound.{NestsIn, nests}

-- a greater bound
pub deeper : (f : Forms) (d n : ℕ) → NestsIn f d n → NestsIn f (suc d) n
deeper f _ _ (nests d n each) = nests (suc d) n (λ j m it. deeper f d m (each j m it))
