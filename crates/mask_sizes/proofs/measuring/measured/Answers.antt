use Rattle.mask_sizes.proofs.Ready.{is_ready}
use Rattle.mask_sizes.proofs.measuring.measured.Goals as goal

pub cut_masks-requires-clause-metal : goal.cut_masks-requires-clause-metal
cut_masks-requires-clause-metal c = is_ready _ _ _ _ c.requires.metal_swept

pub cut_masks-requires-clause-polysilicon : goal.cut_masks-requires-clause-polysilicon
cut_masks-requires-clause-polysilicon c = is_ready _ _ _ _ c.requires.polysilicon_swept

pub cut_masks-requires-clause-diffusion : goal.cut_masks-requires-clause-diffusion
cut_masks-requires-clause-diffusion c = is_ready _ _ _ _ c.requires.diffusion_swept
