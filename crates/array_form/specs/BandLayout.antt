-- The numbers of a layout, by those of its bands.
use Rattle.std.specs.Prelude.{◌+◌, ℕ, suc, List, length}
use Rattle.fabric.specs.declared.thing.Line.{Line}
use Rattle.nor_net.specs.declared.net.Phase.{Phase}
use Rattle.nor_net.specs.declared.net.Part.{Part}
use Rattle.array_form.specs.Homes.{Columns, home, phase_number, least, greatest}
use Rattle.array_form.specs.Lists.{Layout}

-- what is known of each band: its columns, its parts, the columns of its segments and their rows, and the number of
-- its rows
pub record Bands : Type 0 where
  pub columns : ℕ → Columns
  pub parts : ℕ → List Part
  pub cols : ℕ → ℕ → List ℕ
  pub row : ℕ → ℕ → ℕ
  pub rows : ℕ → ℕ
  pub top : ℕ
  pub trunk_at : Phase → ℕ

abbrev pub layout : (X : Type 0) → Bands → (X → Line) → (X → ℕ) → Layout X
layout X d across ground_at = record {
  rows = d.rows;
  row_at = λ s. suc (d.row s.band s.net);
  first_at = λ s. least (d.cols s.band s.net);
  last_at = λ s. greatest (d.cols s.band s.net);
  beat_row = λ b ph. suc (d.row b (length (d.parts b) + phase_number ph));
  beat_first = λ b ph. least (d.cols b (length (d.parts b) + phase_number ph));
  beat_last = λ b ph. greatest (d.cols b (length (d.parts b) + phase_number ph));
  home = λ s. home (d.columns s.band) s.net;
  trunk_at = d.trunk_at;
  top = d.top;
  across = across;
  ground_at = ground_at;
}
