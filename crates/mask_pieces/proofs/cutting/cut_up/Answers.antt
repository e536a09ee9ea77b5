use Rattle.std.proofs.Common.{subst, subst₂, sym, ◌≢◌, ◌⊎◌}
use Rattle.std.specs.Prelude.{AllPairs, ◌↔◌, Contains, IfOk}
use Rattle.mask_pieces.specs.declared.piece.Piece.{Piece}
use Rattle.lam_geom.specs.declared.layer.Layer.TheVariants.{ND, NP, NM}
use Rattle.mask_pieces.specs.Pieces.{IsBefore, AreApart}
use Rattle.mask_pieces.proofs.Assembling.{pieces_ascending, layers_apart, both_apart, result_cut_up}
use Rattle.mask_pieces.proofs.cutting.cut_up.Goals as goal

pub merge-requires-clause-first : goal.merge-requires-clause-first
merge-requires-clause-first c =
    subst (AllPairs IsBefore) (sym c.as_slice.ensures)
    (pieces_ascending NM c.args.metal.now _ c.in_ok-upper.ensures c.requires.metal)

pub merge-requires-clause-second : goal.merge-requires-clause-second
merge-requires-clause-second c =
    subst (AllPairs IsBefore) (sym c.as_slice-2.ensures)
    (pieces_ascending NP c.args.polysilicon.now _ c.in_ok-middle.ensures c.requires.polysilicon)

pub merge-requires-clause-apart : goal.merge-requires-clause-apart
merge-requires-clause-apart c =
    let n : NM ≢ NP = λ e. cc in
    subst (λ xs. AreApart xs c.as_slice-2.result.now) (sym c.as_slice.ensures)
    (subst (AreApart c.in_ok-upper.upper) (sym c.as_slice-2.ensures)
    (layers_apart NM NP c.args.metal.now c.args.polysilicon.now _ _ n c.in_ok-upper.ensures c.in_ok-middle.ensures))

pub merge-requires-2-clause-second : goal.merge-requires-2-clause-second
merge-requires-2-clause-second c =
    subst (AllPairs IsBefore) (sym c.as_slice-4.ensures)
    (pieces_ascending ND c.args.diffusion.now _ c.in_ok-lower.ensures c.requires.diffusion)

pub merge-requires-2-clause-apart : goal.merge-requires-2-clause-apart
merge-requires-2-clause-apart c =
    let two =
    subst₂ (λ xs ys. (p : Piece) → Contains c.in_ok-both.both p ↔ (Contains xs p ⊎ Contains ys p)) c.as_slice.ensures
    c.as_slice-2.ensures c.in_ok-both.ensures.all in
    subst₂ AreApart (sym c.as_slice-3.ensures) (sym c.as_slice-4.ensures)
    (both_apart c.args.metal.now c.args.polysilicon.now c.args.diffusion.now _ _ _ _ c.in_ok-upper.ensures
    c.in_ok-middle.ensures c.in_ok-lower.ensures two)

pub returns : goal.returns
returns c =
    let two =
    subst₂ (λ xs ys. (p : Piece) → Contains c.in_ok-both.both p ↔ (Contains xs p ⊎ Contains ys p)) c.as_slice.ensures
    c.as_slice-2.ensures c.in_ok-both.ensures.all in
    let three =
    subst₂ (λ xs ys. IfOk c.merge-2.result (λ v. (p : Piece) → Contains v p ↔ (Contains xs p ⊎ Contains ys p)))
    c.as_slice-3.ensures c.as_slice-4.ensures c.merge-2.ensures.all in
    result_cut_up c.args.metal.now c.args.polysilicon.now c.args.diffusion.now _ _ _ _ c.in_ok-upper.ensures
    c.in_ok-middle.ensures c.in_ok-lower.ensures two c.merge-2.result c.merge-2.ensures.ascending three
