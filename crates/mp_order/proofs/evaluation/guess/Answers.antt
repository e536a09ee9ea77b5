use Rattle.std.proofs.Common.{◌≤◌, ℕ, List, Option, Some, sym, ◌∙◌, subst}
use Rattle.std.specs.Prelude.{MatchOption, slice_index}
use Rattle.mp_base.specs.declared.refusal.Place.{Place}
use Rattle.mp_order.specs.Chains.{SetsFlagged, FlaggedSet}
use Rattle.mp_order.specs.Ranks.{IsRanking, IsListing}
use Rattle.mp_order.proofs.Closing.{closed_earliest, none_broken, none_flagged, reader_set}
use Rattle.mp_order.proofs.Judging.{listing_order, ranking_flags, zero_from}
use Rattle.mp_order.proofs.evaluation.guess.Goals as goal

pub returns-in-Some-2 : goal.returns-in-Some-2
returns-in-Some-2 c =
    let ranking : IsRanking c.args.program.now c.as_slice-2.result.now c.as_slice-loose.result.now =
    c.in_ok-is_ranking.ensures c.if-not-branch.false in
    let none : (at : Place) → FlaggedSet c.args.program.now c.args.meanings.now c.as_slice-loose.result.now at
    → ⊥ = c.in-None.ensures in
    let M : Option (List ℕ)
    → Type 0 = λ o. MatchOption o (Unit {0}) (IsListing c.args.program.now c.as_slice-in-None.result.now) in
    let listed : M (Some c.in-Some-2.order) = subst M c.in-Some-2.is c.in_ok-order-in-None.ensures in
    let L : List ℕ → Type 0 = λ ranks. IsListing c.args.program.now ranks c.in-Some-2.order in
    let listing : L c.as_slice-2.result.now =
    subst L (c.as_slice-in-None.ensures ∙ sym c.as_slice-2.ensures) listed in (
      listing_order c.args.program.now c.as_slice-2.result.now c.as_slice-loose.result.now c.in-Some-2.order ranking
          listing
          (λ a b reads. zero_from (slice_index c.as_slice-loose.result.now a)
          (none_flagged c.args.program.now c.args.meanings.now c.as_slice-loose.result.now none a
          (reader_set c.args.program.now c.args.meanings.now c.sound.ensures c.sets.ensures c.reads.ensures
          c.requires.meant c.requires.own a b reads))),
      none_broken c.args.program.now c.args.meanings.now c.as_slice-loose.result.now c.requires.meant c.requires.own
          (ranking_flags c.args.program.now c.as_slice-2.result.now c.as_slice-loose.result.now ranking) none,
    )

pub returns-then-branch : goal.returns-then-branch
returns-then-branch c =
    let ranking : IsRanking c.args.program.now c.as_slice-2.result.now c.as_slice-loose.result.now =
    c.in_ok-is_ranking.ensures c.if-not-branch.false in
    let found : SetsFlagged c.args.program.now c.args.meanings.now c.as_slice-loose.result.now c.in-Some.setting.target
    c.in-Some.setting.place
    × ((at : Place) → FlaggedSet c.args.program.now c.args.meanings.now c.as_slice-loose.result.now at
    → (c.in-Some.setting.place).offset ≤ at.offset) = c.in-Some.ensures in
    closed_earliest c.args.program.now c.args.meanings.now c.as_slice-loose.result.now c.in-Some.setting
    c.requires.meant c.requires.own
    (ranking_flags c.args.program.now c.as_slice-2.result.now c.as_slice-loose.result.now ranking) found.0 found.1
    (c.in_ok-is_closed-in-Some.ensures c.if-branch.true)
