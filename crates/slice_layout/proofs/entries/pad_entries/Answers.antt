use Rattle.std.proofs.Common.{◌++◌, ◌∙◌, ap, length, sym}
use Rattle.path_form.specs.Shape.{entries_of}
use Rattle.slice_layout.proofs.entries.pad_entries.Goals as goal

pub push_entries-requires : goal.push_entries-requires
push_entries-requires c = ap length c.as_slice-2.ensures
    ∙ (c.args.path.now.whole.entries_fit.0.0 ∙ sym (ap length c.as_slice.ensures))

pub push_entries-requires-2 : goal.push_entries-requires-2
push_entries-requires-2 c = ap length c.as_slice-4.ensures
    ∙ (c.args.path.now.whole.entries_fit.1.0 ∙ sym (ap length c.as_slice-3.ensures))

pub returns : goal.returns
returns c =
    let w = c.args.words in
    let first = c.in_ok-push_entries.ensures
    ∙ (λ i. c.new-nets.ensures i ++ entries_of w (c.as_slice.ensures i) (c.as_slice-2.ensures i)) in
    c.in_ok-push_entries-2.ensures
    ∙ (λ i. first i ++ entries_of w (c.as_slice-3.ensures i) (c.as_slice-4.ensures i))
