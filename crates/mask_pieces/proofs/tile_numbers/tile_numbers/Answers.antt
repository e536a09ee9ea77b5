use Rattle.std.proofs.Common.{◌≡◌, ◌≢◌, ap, subst, sym, rules, set, ◌<◌, arith, ◌+◌, ℕ, List, get_or}
use Rattle.std.proofs.lemmas.Option.{slice_get-get_or}
use Rattle.mask_pieces.specs.declared.piece.Piece.{Piece}
use Rattle.mask_pieces.specs.Pieces.{no_piece, AreTileNumbers}
use Rattle.mask_pieces.proofs.Listing.{numbers_more, numbers_kept}
use Rattle.mask_pieces.proofs.tile_numbers.tile_numbers.Goals as goal
use Rattle.mask_pieces.proofs.tile_numbers.tile_numbers.Goals.{then-eq, else-eq}

pub loop-i-preserved : goal.loop-i-preserved
loop-i-preserved c =
    let i : ℕ = c.loop-i.i in
    let ps : List Piece = c.args.pieces.now in
    let p : Piece = get_or ps i no_piece in
    let at = slice_get-get_or ps i no_piece c.loop-i-test.true in
    elim c.if-eq.branch [
      | then-eq w ↦
          let e : p.rect.layer ≡ c.args.layer = search rules in
          let items : c.if-eq.numbers.items ≡ set c.loop-i.numbers.items p.tile c.in-Ok.number =
          ap (λ v. v.items) w.numbers-is in
          let inside : p.tile < c.args.count = c.requires i p at e in
          let many = c.loop-i.invariant.as_many in
          subst (AreTileNumbers c.args.layer c.args.count ps (i + 1)) (sym items)
          (numbers_more c.args.layer c.args.count ps i c.in-Ok.number p c.loop-i.numbers.items c.loop-i.invariant at e
          c.in-Ok.ensures.1 (omega arith))
      | else-eq w ↦
          let e : p.rect.layer ≢ c.args.layer = search rules in
          subst (AreTileNumbers c.args.layer c.args.count ps (i + 1)) (sym (ap (λ v. v.items) w.numbers-is))
          (numbers_kept c.args.layer c.args.count ps i p c.loop-i.numbers.items c.loop-i.invariant at e)
    ]
