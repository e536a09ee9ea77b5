use Rattle.path_form.proofs.Growing.{slices_obey}
use Rattle.path_form.proofs.laws.slices_keep_their_values.Goals as goal

pub returns : goal.returns
returns c = slices_obey
