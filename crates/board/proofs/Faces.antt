-- Parts that see what is shown, one after another.
use Rattle.std.proofs.Common.{
  ◌≡◌,
  ◌∙◌,
  ℕ,
  zero,
  suc,
  ◌+◌,
  ◌<◌,
  ◌≤◌,
  List,
  [],
  ◌∷◌,
  ◌++◌,
  length,
  map,
  set,
  take,
  get_or,
  refl,
  sym,
  ap,
  subst,
  arith,
}
use Rattle.std.specs.Prelude.{All, slice_index_or}
use Rattle.std.proofs.lemmas.List.{length-map, take_all, take_more}
use Rattle.mp_base.specs.declared.value.Trit.{Trit}
use Rattle.stimulus.specs.Transcript.{number_of}
use Rattle.board.specs.declared.link.Link.{Link}
use Rattle.board.specs.Face.{Face, moved}
use Rattle.board.specs.Loop.{Wired, all_see, drives_at, see_at}

-- what is seen of a part that has seen a number, by its kind
pub moved_face : {V : Type 0} (drives : V → List ℕ → ℕ) (sees : V → List ℕ → ℕ → List ℕ) (v w : V)
    (s t : List ℕ) (n : ℕ)
    → w ≡ v → t ≡ sees v s n
    → (let f : Face = record { state = t; drives = drives w; sees = sees w } in f)
    ≡ moved n (record { state = s; drives = drives v; sees = sees v })
moved_face drives sees v w s t n kind state =
    ap (λ x. let f : Face = record { state = t; drives = drives x; sees = sees x } in f) kind
    ∙ ap (λ x. let f : Face = record { state = x; drives = drives v; sees = sees v } in f) state

-- a part that was written over by itself after it had seen a number
see_at_set : {P : Type 0} (face : P → Face) (xs : List P) (k v : ℕ) (x y : P) → k < length xs → x ≡ get_or xs k x
    → face y ≡ moved v (face x) → map face (set xs k y) ≡ see_at v k (map face xs)
see_at_set face [] k v x y lt at is = absurd (omega (arith, lt))
see_at_set face (z ∷ xs) zero v x y lt at is = ap (λ f. f ∷ map face xs) (is ∙ ap (λ p. moved v (face p)) at)
see_at_set face (z ∷ xs) (suc k) v x y lt at is =
    ap (λ fs. face z ∷ fs) (see_at_set face xs k v x y (omega (arith, lt)) at is)

-- what writing a part over doesn't change
pub same_set : {P X : Type 0} (name : P → X) (xs : List P) (k : ℕ) (x y : P) → k < length xs → x ≡ get_or xs k x
    → name y ≡ name x → map name (set xs k y) ≡ map name xs
same_set name [] k x y lt at is = absurd (omega (arith, lt))
same_set name (z ∷ xs) zero x y lt at is = ap (λ f. f ∷ map name xs) (is ∙ ap name at)
same_set name (z ∷ xs) (suc k) x y lt at is =
    ap (λ fs. name z ∷ fs) (same_set name xs k x y (omega (arith, lt)) at is)

pub same_length : {P X : Type 0} (name : P → X) (xs ys : List P) → map name xs ≡ map name ys → length xs ≡ length ys
same_length name xs ys e = sym (length-map xs name) ∙ ap length e ∙ length-map ys name

-- the parts of links are there, where so many are
pub parts_kept : (v w : Wired) (m n : ℕ) → v ≡ w → m ≡ n → All (λ (l : Link). l.part < n) w.links
    → All (λ (l : Link). l.part < m) v.links
parts_kept v w m n same many all =
    let P : Wired → Type 0 = λ x. All (λ (l : Link). l.part < m) x.links in
    subst P (sym same) (λ k d lt. let h = all k d lt in omega (arith, h, many))

-- what a part drives
pub driven_at : {P : Type 0} (face : P → Face) (xs : List P) (k : ℕ) (x : P) → k < length xs → x ≡ get_or xs k x
    → (face x).drives (face x).state ≡ drives_at (map face xs) k
driven_at face [] k x lt at = absurd (omega (arith, lt))
driven_at face (z ∷ xs) zero x lt at = ap (λ p. (face p).drives (face p).state) at
driven_at face (z ∷ xs) (suc k) x lt at = driven_at face xs k x (omega (arith, lt)) at

module _ (shown : List (List Trit)) where
  all_see_then : (ls : List Link) (l : Link) (faces : List Face)
      → all_see (ls ++ l ∷ []) shown faces
      ≡ see_at (number_of (slice_index_or shown l.seen [])) l.part (all_see ls shown faces)
  all_see_then [] l faces = refl
  all_see_then (m ∷ ls) l faces = all_see_then ls l (see_at (number_of (slice_index_or shown m.seen [])) m.part faces)

  -- the parts after one more link
  pub show_more : {P : Type 0} (face : P → Face) (links : List Link) (k : ℕ) (d : Link) (xs old : List P)
      (x y : P) (v : ℕ)
      → k < length links → (get_or links k d).part < length xs → x ≡ get_or xs (get_or links k d).part x
      → face y ≡ moved v (face x) → v ≡ number_of (slice_index_or shown (get_or links k d).seen [])
      → map face xs ≡ all_see (take k links) shown (map face old)
      → map face (set xs (get_or links k d).part y) ≡ all_see (take (k + 1) links) shown (map face old)
  show_more face links k d xs old x y v lt inside at is seen so_far =
      let l = get_or links k d in
      see_at_set face xs l.part v x y inside at is
      ∙ ap (λ n. see_at n l.part (map face xs)) seen
      ∙ ap (see_at (number_of (slice_index_or shown l.seen [])) l.part) so_far
      ∙ sym (ap (λ ls. all_see ls shown (map face old)) (take_more links k d lt)
      ∙ all_see_then (take k links) l (map face old))

  -- and after all of them
  pub all_shown : (links : List Link) (k : ℕ) (faces later : List Face) → length links ≤ k
      → later ≡ all_see (take k links) shown faces → later ≡ all_see links shown faces
  all_shown links k faces later le h = h ∙ ap (λ ls. all_see ls shown faces) (take_all k links le)
