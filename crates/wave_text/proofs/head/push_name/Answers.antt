use Rattle.std.proofs.Common.{codes, ◌++◌, ◌∙◌, ap}
use Rattle.wave_text.specs.Waves.{name_text}
use Rattle.wave_text.proofs.Numbering.{behind, ended}
use Rattle.wave_text.proofs.head.push_name.Goals as goal

pub returns : goal.returns
unfolding name_text
returns c =
    let old = c.args.text.now.items in
    let front = codes "$timescale 1 us $end\n$scope module " in
    let name = c.args.program.now.name in
    ended c.extend_from_slice-3.result old (front ++ name) (codes " $end\n$var wire 1 c clock $end\n")
    (behind old front name c.in_ok-extend_from_slice.ensures.items
    (c.in_ok-extend_from_slice-2.ensures.items
    ∙ ap (λ t. c.extend_from_slice.new.self.items ++ t) c.bytes.ensures))
    c.extend_from_slice-3.ensures.items
