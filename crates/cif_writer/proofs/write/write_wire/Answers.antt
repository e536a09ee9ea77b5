use Rattle.std.proofs.Common.{◌≡◌, ℕ, List, [], ◌∷◌, ◌++◌, subst, arith, w64, to_z, of_z}
use Rattle.std.proofs.lemmas.Int.{ints}
use Rattle.std.proofs.lemmas.Result.{err_from_is_err_and}
use Rattle.std.specs.List.{flat_map}
use Rattle.outside.specs.Outside.{Gains}
use Rattle.outside.specs.Piece.{TakesAll}
use Rattle.outside.specs.declared.calls.Failed.{Failed}
use Rattle.outside.proofs.Written.{written_then}
use Rattle.outside.proofs.CutTexts.{cut_at}
use Rattle.cif_form.specs.Writing.{path_text}
use Rattle.cif_writer.specs.Texts.{number_text}
use Rattle.cif_writer.proofs.Numbers.{one_text}
use Rattle.cif_writer.proofs.write.write_wire.Goals as goal

pub returns-in_err-write_tagged-clause-taken : goal.returns-in_err-write_tagged-clause-taken
returns-in_err-write_tagged-clause-taken g c =
    let same : to_z w64 (of_z w64 c.args.width) ≡ c.args.width = omega (arith, ints) in
    let P : List ℕ
    → Type 0 = λ t. TakesAll {T = Unit {0}} {E = Failed} Gains (g.O.Sink.held c.args.out.now)
    (g.O.Sink.held c.write_tagged.new.out) (87 ∷ (t ++ path_text c.args.path.now)) c.from_residual.result in
    let p = err_from_is_err_and c.from_residual.result c.from_residual.ensures.1 in
    subst P (one_text _ c.args.width same)
    (cut_at _ _ (87 ∷ flat_map number_text (to_z w64 (of_z w64 c.args.width) ∷ []))
    (path_text c.args.path.now) c.in_err-write_tagged.field-0.0 p.0 c.from_residual.result p.1
    c.in_err-write_tagged.ensures.taken)

pub returns-clause-taken : goal.returns-clause-taken
returns-clause-taken g c =
    let same : to_z w64 (of_z w64 c.args.width) ≡ c.args.width = omega (arith, ints) in
    let P : List ℕ
    → Type 0 = λ t. TakesAll {T = Unit {0}} {E = Failed} Gains (g.O.Sink.held c.args.out.now)
    (g.O.Sink.held c.write_path.new.out) (87 ∷ (t ++ path_text c.args.path.now)) c.write_path.result in
    subst P (one_text _ c.args.width same)
    (written_then c.in_ok-write_tagged.field-0 _ _ _
    (87 ∷ flat_map number_text (to_z w64 (of_z w64 c.args.width) ∷ [])) (path_text c.args.path.now) c.write_path.result
    c.in_ok-write_tagged.ensures.taken c.write_path.ensures.taken)
