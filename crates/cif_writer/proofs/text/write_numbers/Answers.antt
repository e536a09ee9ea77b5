use Rattle.std.proofs.Common.{refl, sym, ◌∙◌, ap, ◌+◌, ◌≡◌, ◌++◌, drop, List, ℕ, get_or, arith, w64, to_z, of_z}
use Rattle.std.specs.Prelude.{ℤ, pos}
use Rattle.std.proofs.lemmas.Int.{ints}
use Rattle.std.proofs.lemmas.Result.{err_from_is_err_and}
use Rattle.std.specs.List.{flat_map}
use Rattle.cif_writer.specs.Texts.{number_text}
use Rattle.cif_writer.proofs.Wrote.{going_on, going_cut, next_of}
use Rattle.cif_writer.proofs.text.write_numbers.Goals as goal

pub returns-in_err-write_number-clause-taken : goal.returns-in_err-write_number-clause-taken
returns-in_err-write_number-clause-taken g c =
    let xs : List ℤ = c.args.numbers.now in
    let i : ℕ = c.loop-number.number-index in
    let same : to_z w64 (of_z w64 (get_or xs i (pos 0))) ≡ get_or xs i (pos 0) = omega (arith, ints) in
    let next : flat_map number_text (drop i xs) ≡ number_text (to_z w64 (of_z w64 (get_or xs i (pos 0))))
    ++ flat_map number_text (drop (i + 1) xs) =
    next_of (flat_map number_text) number_text xs i (pos 0) (λ x ys. refl) c.loop-number-test.true
    ∙ ap (λ z. number_text z ++ flat_map number_text (drop (i + 1) xs)) (sym same) in
    let p = err_from_is_err_and c.from_residual.result c.from_residual.ensures.1 in
    going_cut _ _ _ (flat_map number_text xs) (flat_map number_text (drop i xs)) _
    (flat_map number_text (drop (i + 1) xs))
    c.in_err-write_number.field-0.0 p.0 c.from_residual.result next p.1 c.loop-number.invariant.going
    c.in_err-write_number.ensures.taken

pub loop-number-preserved : goal.loop-number-preserved
loop-number-preserved g c =
    let xs : List ℤ = c.args.numbers.now in
    let i : ℕ = c.loop-number.number-index in
    let same : to_z w64 (of_z w64 (get_or xs i (pos 0))) ≡ get_or xs i (pos 0) = omega (arith, ints) in
    let next : flat_map number_text (drop i xs) ≡ number_text (to_z w64 (of_z w64 (get_or xs i (pos 0))))
    ++ flat_map number_text (drop (i + 1) xs) =
    next_of (flat_map number_text) number_text xs i (pos 0) (λ x ys. refl) c.loop-number-test.true
    ∙ ap (λ z. number_text z ++ flat_map number_text (drop (i + 1) xs)) (sym same) in
    record {
      going = going_on _ _ _ (flat_map number_text xs) (flat_map number_text (drop i xs)) _
          (flat_map number_text (drop (i + 1) xs))
          c.in_ok-write_number.field-0 next c.loop-number.invariant.going c.in_ok-write_number.ensures.taken;
      quiet = c.in_ok-write_number.ensures.cause.ok ∙ c.loop-number.invariant.quiet;
    }
