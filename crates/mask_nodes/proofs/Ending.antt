-- The ends of channels in lists.
use Rattle.std.proofs.Common.{◌≡◌, ◌≢◌, ℕ, ◌+◌, ◌<◌, ◌≤◌, ◌⊎◌, inl, inr, List, [], ◌∷◌, ◌++◌, length, get_or, set}
use Rattle.std.proofs.Common.{sym, ◌∙◌, ap, subst, arith, Bool, true, false, eqb, replicate}
use Rattle.std.specs.Prelude.{◌↔◌, AllPairs, Contains, Some, slice_get}
use Rattle.std.specs.List.{dedup}
use Rattle.std.specs.List.Sorted.{IsPermutation, IsNonDecreasingBy, IsSorted}
use Rattle.std.specs.Ordering.{nat_cmp}
use Rattle.std.proofs.Math.ListN.{length-replicate}
use Rattle.std.proofs.lemmas.List.Kept.{AllPairs-from_increasing, Contains-dedup_nat, Contains-from_dedup}
use Rattle.std.proofs.lemmas.Map.Keys.{IsStrictlyIncreasing-dedup}
use Rattle.std.proofs.lemmas.Bool.{both_ways, cases_eq, cases_lt}
use Rattle.std.proofs.lemmas.List.{get_or-set_same, get_or-set_other, length-set, get_or-replicate}
use Rattle.std.proofs.lemmas.List.Sorted.{Contains-permutation, IsPermutation-sym}
use Rattle.std.proofs.lemmas.List.Elements.{Contains-append_left, Contains-append_cases, Contains-push}
use Rattle.std.proofs.lemmas.Option.{same_Some, slice_get_within, slice_get-get_or, get_or_from_slice_get}
use Rattle.mp_base.proofs.Entries.{get_from_contains, contains_from_get}
use Rattle.mp_base.proofs.Contents.{only_one}
use Rattle.union_find.specs.declared.pair.Pair.{Pair}
use Rattle.mask_pieces.specs.declared.piece.Part.{Part}
use Rattle.mask_pieces.specs.declared.piece.Piece.{Piece}
use Rattle.piece_classes.specs.Linking.{Gains}
use Rattle.mask_pieces.specs.Pieces.{conducts_at}
use Rattle.mask_nodes.specs.Ends.{pair_of, IsGivenBy, IsEndAt, IsEndOf, HasPart}
use Rattle.piece_classes.proofs.Gaining.{gains_one, gains_then, gains_none}

-- what one more pair gives
pub given_more : (Gives : Pair → Pair → Type 0) (touching : List Pair) (place : ℕ) (p : Pair)
    → slice_get touching place ≡ Some p → (x : Pair)
    → IsGivenBy Gives touching (place + 1) x ↔ (IsGivenBy Gives touching place x ⊎ Gives p x)
given_more Gives touching place p at x = (
  λ g.
      let b = g.before in
      elim (cases_eq g.at place) [
        | inl e ↦ inr (subst (λ q. Gives q x) (same_Some g.pair p (sym g.is ∙ ap (slice_get touching) e ∙ at)) g.gives)
        | inr n ↦ inl (record { at = g.at; before = omega arith; pair = g.pair; is = g.is; gives = g.gives })
      ],
  λ c. elim c [
    | inl g ↦ let b = g.before in record { at = g.at; before = omega arith; pair = g.pair; is = g.is; gives = g.gives }
    | inr h ↦ record { at = place; before = omega arith; pair = p; is = at; gives = h }
  ],
)

pub given_none : (Gives : Pair → Pair → Type 0) (touching : List Pair) (x : Pair) → IsGivenBy Gives touching 0 x → ⊥
given_none Gives touching x g = let b = g.before in omega arith

-- both ends of one more pair
pub ends_more : (numbers : List ℕ) (pieces : List Piece) (channels nodes : List ℕ) (touching : List Pair) (place : ℕ)
    (p : Pair) (old mid one both : List Pair) → slice_get touching place ≡ Some p
    → Gains old mid (IsGivenBy (IsEndOf numbers pieces channels nodes) touching place)
    → Gains mid one (IsEndAt pieces channels nodes (get_or numbers p.a 0) (get_or numbers p.b 0))
    → Gains one both (IsEndAt pieces channels nodes (get_or numbers p.b 0) (get_or numbers p.a 0))
    → Gains old both (IsGivenBy (IsEndOf numbers pieces channels nodes) touching (place + 1))
ends_more numbers pieces channels nodes touching place p old mid one both at g h k =
    let hk : Gains mid both (IsEndOf numbers pieces channels nodes p) =
    gains_then mid one both (IsEndAt pieces channels nodes (get_or numbers p.a 0) (get_or numbers p.b 0))
    (IsEndAt pieces channels nodes (get_or numbers p.b 0) (get_or numbers p.a 0))
    (IsEndOf numbers pieces channels nodes p) h k (λ x. (λ u. u, λ u. u)) in
    gains_then old mid both (IsGivenBy (IsEndOf numbers pieces channels nodes) touching place)
    (IsEndOf numbers pieces channels nodes p)
    (IsGivenBy (IsEndOf numbers pieces channels nodes) touching (place + 1)) g hk
    (given_more (IsEndOf numbers pieces channels nodes) touching place p at)

-- one end
pub end_added : (pieces : List Piece) (channels nodes : List ℕ) (i j : ℕ) (old : List Pair) (x : Pair)
    → conducts_at pieces i ≡ false → conducts_at pieces j ≡ true → x ≡ pair_of (get_or channels i 0) (get_or nodes j 0)
    → Gains old (old ++ x ∷ []) (IsEndAt pieces channels nodes i j)
end_added pieces channels nodes i j old x a b e =
    gains_then old old (old ++ x ∷ []) (λ y. ⊥) (λ y. x ≡ y) (IsEndAt pieces channels nodes i j)
    (gains_none old (λ y. ⊥) (λ y h. h)) (gains_one old x) (λ y. (
      λ h. inr (e ∙ sym h.same),
      λ c. elim c [
        | inl h ↦ absurd h
        | inr h ↦ subst (IsEndAt pieces channels nodes i j) h (record { channel = a; conductor = b; same = e })
      ],
    ))

pub end_left : (pieces : List Piece) (channels nodes : List ℕ) (i j : ℕ) (old : List Pair)
    → (conducts_at pieces i ≡ true) ⊎ (conducts_at pieces j ≡ false) → Gains old old (IsEndAt pieces channels nodes i j)
end_left pieces channels nodes i j old n =
    gains_none old (IsEndAt pieces channels nodes i j)
    (λ x h. elim n [
      | inl e ↦ both_ways (conducts_at pieces i) h.channel e
      | inr e ↦ both_ways (conducts_at pieces j) e h.conductor
    ])

-- the ends in another order
pub ends_sorted : (P : Pair → Type 0) (old new : List Pair) → Gains [] old P → IsPermutation old new → (x : Pair)
    → Contains new x ↔ P x
ends_sorted P old new g p x = (
  λ c. elim ((g.each x).0 (Contains-permutation new old x (IsPermutation-sym old new p) c)) [
    | inl u ↦ absurd (none x u)
    | inr u ↦ u
  ],
  λ h. Contains-permutation old new x p ((g.each x).1 (inr h)),
)
  where
    none : (y : Pair) → Contains [] y → ⊥
    none y c = let l = c.1 in omega arith

-- ---- the ends of one channel

-- these are the nodes of the ends from the start up to a place
pub record AreTaken (ends : List Pair) (channel start place : ℕ) (nodes : List ℕ) : Type 0 where
  pub above : start ≤ place
  pub within : place ≤ length ends
  pub before : (j : ℕ) → j < place → (get_or ends j (pair_of 0 0)).a ≤ channel
  pub from : (k : ℕ) → Contains nodes k → Contains ends (pair_of channel k)
  pub has : (j : ℕ) → start ≤ j → j < place → Contains nodes (get_or ends j (pair_of 0 0)).b

pub taken_none : (ends : List Pair) (channel start : ℕ) → start ≤ length ends
    → ((j : ℕ) → j < start → (get_or ends j (pair_of 0 0)).a < channel) → AreTaken ends channel start start []
taken_none ends channel start l before = record {
  above = omega arith;
  within = l;
  before = λ j u. let b = before j u in omega arith;
  from = λ k c. let u = c.1 in absurd (omega arith);
  has = λ j u v. absurd (omega arith);
}

pub taken_more : (ends : List Pair) (channel start place : ℕ) (nodes : List ℕ) (n : ℕ)
    → AreTaken ends channel start place nodes → place < length ends → (get_or ends place (pair_of 0 0)).a ≡ channel
    → n ≡ (get_or ends place (pair_of 0 0)).b
    → AreTaken ends channel start (place + 1) (nodes ++ n ∷ [])
taken_more ends channel start place nodes n h l e en =
    let a = h.above in
    record {
      above = omega arith;
      within = omega arith;
      before = λ j u. elim (cases_eq j place) [
        | inl f ↦ let g : (get_or ends j (pair_of 0 0)).a ≡ channel =
            ap (λ i. (get_or ends i (pair_of 0 0)).a) f ∙ e in omega arith
        | inr f ↦ h.before j (omega arith)
      ];
      from = λ k c. elim (Contains-append_cases nodes (n ∷ []) k c) [
        | inl u ↦ h.from k u
        | inr u ↦
            let f : get_or ends place (pair_of 0 0) ≡ pair_of channel k =
            λ i. record { a = e i; b = (sym en ∙ only_one n k u) i } in
            subst (Contains ends) f
            (contains_from_get ends place (get_or ends place (pair_of 0 0))
            (slice_get-get_or ends place (pair_of 0 0) l))
      ];
      has = λ j u v. elim (cases_eq j place) [
        | inl f ↦
            subst (Contains (nodes ++ n ∷ [])) (en ∙ ap (λ i. (get_or ends i (pair_of 0 0)).b) (sym f))
            (Contains-push nodes n)
        | inr f ↦ Contains-append_left nodes (n ∷ []) (get_or ends j (pair_of 0 0)).b (h.has j u (omega arith))
      ];
    }

-- where the next end is another channel's, they are all
pub record AreAllTaken (ends : List Pair) (channel place : ℕ) (nodes : List ℕ) : Type 0 where
  pub within : place ≤ length ends
  pub before : (j : ℕ) → j < place → (get_or ends j (pair_of 0 0)).a ≤ channel
  pub after : (j : ℕ) → place ≤ j → j < length ends → channel < (get_or ends j (pair_of 0 0)).a
  pub each : (k : ℕ) → Contains nodes k ↔ Contains ends (pair_of channel k)

pub all_taken : (ends : List Pair) (channel start place : ℕ) (nodes : List ℕ) → AreTaken ends channel start place nodes
    → IsNonDecreasingBy (λ (x : Pair). x.a) ends → ((j : ℕ) → j < start → (get_or ends j (pair_of 0 0)).a < channel)
    → ((j : ℕ) → start ≤ j → j < length ends → channel ≤ (get_or ends j (pair_of 0 0)).a)
    → (place < length ends → (get_or ends place (pair_of 0 0)).a ≢ channel) → AreAllTaken ends channel place nodes
all_taken ends channel start place nodes h up before after last =
    record { within = h.within; before = h.before; after = later; each = λ k. (h.from k, back k) }
  where
    later : (j : ℕ) → place ≤ j → j < length ends → channel < (get_or ends j (pair_of 0 0)).a
    later j l u =
        let a = h.above in
        let m = up place j (pair_of 0 0) l u in
        let c = after place a (omega arith) in
        let n = last (omega arith) in
        omega arith

    back : (k : ℕ) → Contains ends (pair_of channel k) → Contains nodes k
    back k c =
        let w = get_from_contains ends (pair_of channel k) c in
        let l = slice_get_within ends w.0 (pair_of channel k) w.1 in
        let e : get_or ends w.0 (pair_of 0 0) ≡ pair_of channel k =
        get_or_from_slice_get ends w.0 (pair_of channel k) (pair_of 0 0) w.1 in
        let ea : (get_or ends w.0 (pair_of 0 0)).a ≡ channel = ap (λ (x : Pair). x.a) e in
        elim (cases_lt w.0 start) [
          | inl u ↦ let b = before w.0 u in absurd (omega arith)
          | inr u ↦ elim (cases_lt w.0 place) [
            | inl v ↦ subst (Contains nodes) (ap (λ (x : Pair). x.b) e) (h.has w.0 (omega arith) v)
            | inr v ↦ let b = later w.0 (omega arith) l in absurd (omega arith)
          ]
        ]

-- in order and without doubles
pub nodes_rise : (xs ys : List ℕ) → IsSorted nat_cmp xs → ys ≡ dedup eqb xs → AllPairs (λ i j. i < j) ys
nodes_rise xs ys h e =
    subst (AllPairs (λ i j. i < j)) (sym e) (AllPairs-from_increasing (dedup eqb xs) (IsStrictlyIncreasing-dedup xs h))

pub nodes_same : (old xs ys : List ℕ) (P : ℕ → Type 0) → ((k : ℕ) → Contains old k ↔ P k) → IsPermutation old xs
    → ys ≡ dedup eqb xs → (k : ℕ) → Contains ys k ↔ P k
nodes_same old xs ys P f p e k = (
  λ h. (f k).0
      (Contains-permutation xs old k (IsPermutation-sym old xs p)
      (Contains-from_dedup eqb xs k (subst (λ zs. Contains zs k) e h))),
  λ h. subst (λ zs. Contains zs k) (sym e) (Contains-dedup_nat xs k (Contains-permutation old xs k p ((f k).1 h))),
)

-- ---- the parts of channels

pub record AreMarks (pieces : List Piece) (channels : List ℕ) (part : Part) (count place : ℕ)
    (marks : List Bool) : Type 0 where
  pub as_many : length marks ≡ count
  pub each : (c : ℕ) → c < count → (get_or marks c false ≡ true) ↔ HasPart pieces channels part place c

part_wider : (pieces : List Piece) (channels : List ℕ) (part : Part) (place c : ℕ)
    → HasPart pieces channels part place c → HasPart pieces channels part (place + 1) c
part_wider pieces channels part place c h = let b = h.before in
    record { k = h.k; before = omega arith; piece = h.piece; at = h.at; is = h.is; number = h.number }

pub marks_more : (pieces : List Piece) (channels : List ℕ) (part : Part) (count place n : ℕ) (p : Piece)
    (marks : List Bool) → AreMarks pieces channels part count place marks → slice_get pieces place ≡ Some p
    → p.part ≡ part
    → n ≡ get_or channels place 0 → n < count → AreMarks pieces channels part count (place + 1) (set marks n true)
marks_more pieces channels part count place n p marks h at is en l =
    let many = h.as_many in
    record {
      as_many = length-set marks n true ∙ h.as_many;
      each = λ c u. elim (cases_eq c n) [
        | inl e ↦ (
          λ t. record { k = place; before = omega arith; piece = p; at = at; is = is; number = sym en ∙ sym e },
          λ w. ap (λ m. get_or (set marks n true) m false) e ∙ get_or-set_same marks n true false (omega arith),
        )
        | inr e ↦ (
          λ t. part_wider pieces channels part place c
              ((h.each c u).0 (sym (get_or-set_other marks n c true false e) ∙ t)),
          λ w.
              let b = w.before in
              get_or-set_other marks n c true false e ∙ (h.each c u).1 (record {
                k = w.k;
                before = elim (cases_eq w.k place) as (λ z. w.k < place) [
                  | inl f ↦ absurd (e (sym w.number ∙ ap (λ m. get_or channels m 0) f ∙ sym en))
                  | inr f ↦ omega arith
                ];
                piece = w.piece;
                at = w.at;
                is = w.is;
                number = w.number;
              }),
        )
      ];
    }

pub marks_kept : (pieces : List Piece) (channels : List ℕ) (part : Part) (count place : ℕ) (p : Piece)
    (marks : List Bool) → AreMarks pieces channels part count place marks → slice_get pieces place ≡ Some p
    → p.part ≢ part
    → AreMarks pieces channels part count (place + 1) marks
marks_kept pieces channels part count place p marks h at other = record {
  as_many = h.as_many;
  each = λ c u. (
    λ t. part_wider pieces channels part place c ((h.each c u).0 t),
    λ w.
        let b = w.before in
        (h.each c u).1 (record {
          k = w.k;
          before = elim (cases_eq w.k place) as (λ z. w.k < place) [
            | inl f ↦
                absurd (other
                (ap (λ (x : Piece). x.part) (same_Some p w.piece (sym at ∙ ap (slice_get pieces) (sym f) ∙ w.at))
                ∙ w.is))
            | inr f ↦ omega arith
          ];
          piece = w.piece;
          at = w.at;
          is = w.is;
          number = w.number;
        }),
  );
}

pub marks_none : (pieces : List Piece) (channels : List ℕ) (part : Part) (count : ℕ) (marks : List Bool)
    → marks ≡ replicate count false → AreMarks pieces channels part count 0 marks
marks_none pieces channels part count marks e = record {
  as_many = ap length e ∙ length-replicate count false;
  each = λ c l. (
    λ t. absurd
        (both_ways (get_or marks c false)
        (ap (λ xs. get_or xs c false) e ∙ get_or-replicate count c false false l) t),
    λ w. let b = w.before in absurd (omega arith),
  );
}
