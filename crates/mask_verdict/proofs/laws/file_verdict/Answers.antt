use Rattle.mask_verdict.proofs.Judged.{file_judged}
use Rattle.mask_verdict.proofs.laws.file_verdict.Goals as goal

pub returns : goal.returns
returns c = file_judged (record {
  text = c.text_verdict.ensures;
  fitting = c.scanned_commands_fit.ensures;
  reading = c.scan_is_reading.ensures;
  walk = c.walks_exist.ensures;
  expansion = c.walk_is_expansion.ensures;
  mask = c.masks_are_judged.ensures.mask;
})
