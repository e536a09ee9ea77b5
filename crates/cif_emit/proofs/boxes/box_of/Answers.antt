use Rattle.cif_form.specs.declared.command.Command.TheVariants.{Box}
use Rattle.cif_form.specs.Text.{right}
use Rattle.cif_emit.proofs.Edges.{long_code, center_code}
use Rattle.cif_emit.proofs.boxes.box_of.Goals as goal

pub returns : goal.returns
returns c =
    let r = c.args.r.now in
    let q = c.requires in
    let x0 = q.x0 in let x1 = q.x1 in let y0 = q.y0 in let y1 = q.y1 in
    let long = long_code r.x0 r.x1 x0.small x1.small in
    let wide = long_code r.y0 r.y1 y0.small y1.small in
    let x = center_code r.x0 r.x1 x0.small x1.small in
    let y = center_code r.y0 r.y1 y0.small y1.small in
    λ i. Box (long i) (wide i) (record { x = x i; y = y i }) right
