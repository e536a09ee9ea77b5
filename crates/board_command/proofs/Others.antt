-- Parts to which no link goes stay as they are.
use Rattle.std.proofs.Common.{◌≡◌, ◌∙◌, ◌<◌, ℕ, zero, suc, List, [], ◌∷◌, Bool, true, false, Option, Result, length, ap}
use Rattle.std.proofs.Common.{arith, refl, sym, subst, inl, inr, ◌⊎◌, if◌then◌else◌, ◌==◌}
use Rattle.std.specs.Prelude.{All, ◌≢◌, slice_get, take}
use Rattle.mp_base.specs.declared.value.Trit.{Trit}
use Rattle.switch_net.specs.declared.network.Network.{Network}
use Rattle.board.specs.declared.link.Link.{Link}
use Rattle.board.specs.Face.{Face}
use Rattle.board.specs.Loop.{Wired, Exchange, see_at, all_see, is_settled, faces_after, part_of, put_at, made, faces_with}
use Rattle.board_run.specs.Boarded.{PrintsBoardWith, whole_lines}
use Rattle.mp_base.specs.declared.pad.Pads.{Pads}
use Rattle.board.specs.declared.plan.Plan.{Plan}
use Rattle.board.specs.Plans.{IsPlan}
use Rattle.board_run.specs.Left.{left_of, links_left}
use Rattle.board_command.specs.Linked.{setting_of}
use Rattle.board_command.specs.Parts.{Lent, AreKeptBut, KeepsOthers}

-- at another place than one part
see_other : (seen part place : ℕ) (fs : List Face) → (part ≡ place → ⊥)
    → slice_get (see_at seen part fs) place ≡ slice_get fs place
see_other seen part place [] other = refl
see_other seen zero zero (f ∷ fs) other = absurd (other refl)
see_other seen zero (suc place) (f ∷ fs) other = refl
see_other seen (suc part) zero (f ∷ fs) other = refl
see_other seen (suc part) (suc place) (f ∷ fs) other = see_other seen part place fs (λ e. other (ap suc e))

put_other : (fresh : Face) (part place : ℕ) (fs : List Face) → (part ≡ place → ⊥)
    → slice_get (put_at fresh part fs) place ≡ slice_get fs place
put_other fresh part place [] other = refl
put_other fresh zero zero (f ∷ fs) other = absurd (other refl)
put_other fresh zero (suc place) (f ∷ fs) other = refl
put_other fresh (suc part) zero (f ∷ fs) other = refl
put_other fresh (suc part) (suc place) (f ∷ fs) other = put_other fresh part place fs (λ e. other (ap suc e))

head_is : {X : Type 0} (P : X → Type 0) (x : X) (xs : List X) → All P (x ∷ xs) → P x
head_is P x xs all = all 0 x (omega arith)

tail_are : {X : Type 0} (P : X → Type 0) (x : X) (xs : List X) → All P (x ∷ xs) → All P xs
tail_are P x xs all = λ k d lt. all (suc k) d (omega (arith, lt))

module _ (place : ℕ) where
  abbrev Is : Link → Type 0
  Is l = l.part ≢ place

  seen_other : (ls : List Link) (shown : List (List Trit)) (fs : List Face) → All Is ls
      → slice_get (all_see ls shown fs) place ≡ slice_get fs place
  seen_other [] shown fs others = refl
  seen_other (l ∷ ls) shown fs others =
      seen_other ls shown _ (tail_are Is l ls others) ∙ see_other _ l.part place fs (head_is Is l ls others)

  part_other : (ls : List Link) (link : ℕ) → All Is ls → link < length ls → part_of ls link ≡ place → ⊥
  part_other [] link others lt = absurd (omega (arith, lt))
  part_other (l ∷ ls) zero others lt = head_is Is l ls others
  part_other (l ∷ ls) (suc link) others lt = part_other ls link (tail_are Is l ls others) (omega (arith, lt))

  made_other : (ls : List Link) (ss : List Exchange) (clock : ℕ) (fs : List Face) → All Is ls
      → All (λ (s : Exchange). s.link < length ls) ss → slice_get (made ls ss clock fs) place ≡ slice_get fs place
  made_other ls [] clock fs others linked = refl
  made_other ls (s ∷ ss) clock fs others linked =
      made_other ls ss clock _ others (tail_are (λ (e : Exchange). e.link < length ls) s ss linked) ∙ by (s.clock == clock)
    where
      by : (b : Bool) → slice_get (if b then put_at s.fresh (part_of ls s.link) fs else fs) place ≡ slice_get fs place
      by true = put_other s.fresh (part_of ls s.link) place fs
          (part_other ls s.link others (head_is (λ (e : Exchange). e.link < length ls) s ss linked))
      by false = refl

  after_other : (w : Wired) (clock : ℕ) (shown : List (List Trit)) (fs : List Face) → All Is w.links
      → slice_get (faces_after w clock shown fs) place ≡ slice_get fs place
  after_other w clock shown fs others = by (is_settled w clock)
    where
      by : (b : Bool) → slice_get (if b then all_see w.links shown fs else fs) place ≡ slice_get fs place
      by true = seen_other w.links shown fs others
      by false = refl

  with_other : (ss : List Exchange) (w : Wired) (clock : ℕ) (fs : List Face) (shown : List (List (List Trit)))
      → All Is w.links → All (λ (s : Exchange). s.link < length w.links) ss
      → slice_get (faces_with ss w clock fs shown) place ≡ slice_get fs place
  with_other ss w clock fs [] others linked = made_other w.links ss clock fs others linked
  with_other ss w clock fs (o ∷ os) others linked =
      with_other ss w (suc clock) _ os others linked ∙ after_other w clock o _ others
      ∙ made_other w.links ss clock fs others linked

-- a circuit that ran on a board leaves the parts that no link goes to
pub others_kept : {T E : Type 0} (ss : List Exchange) (net : Network) (w : Wired) (clocks : ℕ)
    (faces later : List Face) (x y : Option (List ℕ)) (result : Result T E)
    → PrintsBoardWith ss net w clocks faces later x y result → All (λ (s : Exchange). s.link < length w.links) ss
    → AreKeptBut w.links faces later
others_kept ss net w clocks faces later x y result prints linked = λ place others.
    let shown : List (List (List Trit)) = take (whole_lines (take prints.count prints.text)) (prints.board).shown in
    ap (λ (fs : List Face). slice_get fs place) prints.parts ∙ with_other place ss w 0 faces shown others linked

-- the links of a board are those of a plan
pub others_planned : (lent : Lent) (words : List (List ℕ)) (clocks : ℕ) (pads : Pads) (plan : Plan) (links : List Link)
    (left : List Face) → IsPlan (setting_of lent.names clocks pads) words plan → links ≡ links_left plan
    → (left ≡ lent.faces) ⊎ AreKeptBut links (left_of plan.swaps lent.faces) left
    → KeepsOthers lent clocks words left
others_planned lent words clocks pads plan links left is_plan is (inl same) = inl same
others_planned lent words clocks pads plan links left is_plan is (inr kept) = inr (record {
  pads = pads;
  plan = plan;
  is_plan = is_plan;
  kept = subst (λ (ls : List Link). AreKeptBut ls (left_of plan.swaps lent.faces) left) is kept;
})
