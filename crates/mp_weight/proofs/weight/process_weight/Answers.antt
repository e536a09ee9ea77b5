use Rattle.std.proofs.Common.{◌≡◌, ◌+◌, ◌*◌, ℕ, List, length, ap, ◌∙◌, slice_index, min, zero-add}
use Rattle.std.specs.List.{sum_by}
use Rattle.mp_weight.proofs.Capping.{min_add, min_mul}
use Rattle.mp_weight.proofs.weight.process_weight.Goals as goal

pub returns : goal.returns
returns c =
    let cap = c.args.cap in
    let q = c.args.process.now in
    let calls : ℕ = sum_by (slice_index c.args.calls.now) q.forms in
    let places : c.linear-places.result ≡ min cap (10 + 10 * length q.forms) =
    c.linear-places.ensures ∙ ap (λ (fs : List ℕ). min cap (10 + 10 * length fs)) c.as_slice-forms.ensures in
    let sum : c.sum_at.result ≡ min cap calls =
    c.sum_at.ensures
    ∙ ap (λ (fs : List ℕ). min cap (0 + sum_by (slice_index c.args.calls.now) fs)) c.as_slice-forms.ensures
    ∙ ap (min cap) (zero-add calls) in
    let stack : c.times.result ≡ min cap (10 * q.depth * calls) =
    c.times.ensures ∙ ap (λ k. min cap (k * c.sum_at.result)) c.times-stack.ensures
    ∙ ap (λ k. min cap (min cap (10 * q.depth) * k)) sum ∙ min_mul cap (10 * q.depth) calls in
    c.plus.ensures ∙ ap (λ k. min cap (k + c.times.result)) places
    ∙ ap (λ k. min cap (min cap (10 + 10 * length q.forms) + k)) stack
    ∙ min_add cap (10 + 10 * length q.forms) (10 * q.depth * calls)
