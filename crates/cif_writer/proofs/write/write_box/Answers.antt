use Rattle.std.proofs.Common.{◌≡◌, ℕ, List, [], ◌∷◌, ◌++◌, sym, ◌∙◌, ap, subst, arith, true, false, w64, to_z, of_z}
use Rattle.std.proofs.lemmas.Int.{ints}
use Rattle.std.specs.List.{flat_map}
use Rattle.outside.specs.Outside.{Gains}
use Rattle.outside.specs.Piece.{TakesAll}
use Rattle.outside.specs.declared.calls.Failed.{Failed}
use Rattle.cif_form.specs.Writing.{space, point_text}
use Rattle.cif_writer.specs.Texts.{number_text}
use Rattle.cif_writer.proofs.Numbers.{plain_box, directed_box, direction_is}
use Rattle.cif_writer.proofs.write.write_box.Goals as goal

pub returns-then-eq-clause-taken : goal.returns-then-eq-clause-taken
returns-then-eq-clause-taken g c =
    let l : to_z w64 (of_z w64 c.args.length) ≡ c.args.length = omega (arith, ints) in
    let w : to_z w64 (of_z w64 c.args.width) ≡ c.args.width = omega (arith, ints) in
    let x : to_z w64 (of_z w64 c.args.center.x) ≡ c.args.center.x = omega (arith, ints) in
    let y : to_z w64 (of_z w64 c.args.center.y) ≡ c.args.center.y = omega (arith, ints) in
    let P : List ℕ
    → Type 0 = λ t. TakesAll {T = Unit {0}} {E = Failed} Gains (g.O.Sink.held c.args.out.now)
    (g.O.Sink.held c.write_tagged.new.out) (66 ∷ t) c.write_tagged.result in
    subst P ((λ i. flat_map number_text (l i ∷ w i ∷ x i ∷ y i ∷ []))
    ∙ plain_box c.args.length c.args.width c.args.center
    ∙ ap (λ t. number_text c.args.length ++ (number_text c.args.width ++ (space ++ (point_text c.args.center ++ t))))
    (sym (direction_is c.args.direction true (sym c.eq.ensures ∙ c.if-eq.true))))
    c.write_tagged.ensures.taken

pub returns-else-eq-clause-taken : goal.returns-else-eq-clause-taken
returns-else-eq-clause-taken g c =
    let l : to_z w64 (of_z w64 c.args.length) ≡ c.args.length = omega (arith, ints) in
    let w : to_z w64 (of_z w64 c.args.width) ≡ c.args.width = omega (arith, ints) in
    let x : to_z w64 (of_z w64 c.args.center.x) ≡ c.args.center.x = omega (arith, ints) in
    let y : to_z w64 (of_z w64 c.args.center.y) ≡ c.args.center.y = omega (arith, ints) in
    let u : to_z w64 (of_z w64 c.args.direction.x) ≡ c.args.direction.x = omega (arith, ints) in
    let v : to_z w64 (of_z w64 c.args.direction.y) ≡ c.args.direction.y = omega (arith, ints) in
    let P : List ℕ
    → Type 0 = λ t. TakesAll {T = Unit {0}} {E = Failed} Gains (g.O.Sink.held c.args.out.now)
    (g.O.Sink.held c.write_tagged-else-eq.new.out) (66 ∷ t) c.write_tagged-else-eq.result in
    subst P ((λ i. flat_map number_text (l i ∷ w i ∷ x i ∷ y i ∷ u i ∷ v i ∷ []))
    ∙ directed_box c.args.length c.args.width c.args.center c.args.direction
    ∙ ap (λ t. number_text c.args.length ++ (number_text c.args.width ++ (space ++ (point_text c.args.center ++ t))))
    (sym (direction_is c.args.direction false (sym c.eq.ensures ∙ c.if-eq.false))))
    c.write_tagged-else-eq.ensures.taken
