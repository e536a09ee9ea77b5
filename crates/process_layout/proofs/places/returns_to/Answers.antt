use Rattle.std.proofs.Common.{◌≡◌, ◌∙◌, ◌-◌, ◌++◌, ◌∷◌, [], ℕ, List, Bool, false, ap, arith, length, sym}
use Rattle.std.specs.Prelude.{if◌then◌else◌, slice_index_or}
use Rattle.std.proofs.lemmas.List.{append-nil}
use Rattle.process_layout.specs.Laying.{returns_to}
use Rattle.process_layout.proofs.Growth.{return_step}
use Rattle.process_layout.proofs.places.returns_to.Goals.{then-is_calling+in_ok-push, else-is_calling}
use Rattle.process_layout.proofs.places.returns_to.Goals as goal

abbrev told : List Bool → ℕ → Bool
told calling f = slice_index_or calling f false

pub loop-place-init : goal.loop-place-init
loop-place-init c = record {
  found = c.new-places.ensures;
  within = omega arith;
}

pub loop-place-preserved : goal.loop-place-preserved
loop-place-preserved c =
    let j = c.loop-place.place in
    let places = c.loop-place.places in
    let more : c.if-is_calling.places ≡ places ++ (if c.is_calling.result then j ∷ [] else []) =
    elim c.if-is_calling.branch [
      | then-is_calling+in_ok-push w ↦ w.places-is ∙ w.in_ok-push.ensures.ok
          ∙ sym (ap (λ b. places ++ (if b then j ∷ [] else [])) w.if-is_calling.true)
      | else-is_calling w ↦ w.places-is ∙ sym (append-nil places)
          ∙ sym (ap (λ b. places ++ (if b then j ∷ [] else [])) w.if-is_calling.false)
    ] in
    record {
      found = return_step (told c.args.calling.now) c.args.forms.now j c.is_calling.result places c.if-is_calling.places
          (omega arith) c.loop-place.invariant.found c.is_calling.ensures more;
      within = omega arith;
    }

pub returns : goal.returns
returns c =
    let size = c.in-Ok.ensures.1 in
    let end : c.loop-place.place - 1 ≡ length c.args.forms.now - 1 =
    omega (arith, size, c.loop-place.invariant.within) in
    c.loop-place.invariant.found ∙ ap (returns_to (told c.args.calling.now) c.args.forms.now) end
