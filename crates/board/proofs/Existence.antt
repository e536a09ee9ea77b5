-- Words stand for links, or break a rule first.
use Rattle.std.proofs.Common.{◌≡◌, ◌∙◌, ◌⊎◌, ℕ, zero, suc, ◌<◌, ◌≤◌, List, [], ◌∷◌, ◌++◌, Option, Some, None, length}
use Rattle.std.proofs.Common.{take, get_or, refl, sym, ap, subst, inl, inr, arith}
use Rattle.std.specs.Prelude.{Any}
use Rattle.std.proofs.Math.Seq.{take-suc}
use Rattle.std.proofs.lemmas.List.{get_or_default, take_all}
use Rattle.std.proofs.lemmas.Option.{slice_get-get_or}
use Rattle.mp_base.specs.declared.pad.Pads.{Pads}
use Rattle.mp_base.specs.declared.refusal.Broken.{Broken}
use Rattle.mp_base.specs.declared.refusal.Rule.{Rule}
use Rattle.mp_base.specs.declared.refusal.Spot.TheVariants.{Named}
use Rattle.mp_base.proofs.Decisions.{Decided, is_number, one_of}
use Rattle.board.specs.declared.link.Link.{Link}
use Rattle.board.specs.declared.link.Naming.{Naming}
use Rattle.board.specs.Laws.{LinksVerdict}
use Rattle.board.specs.Links.{AreLinks, Breaks, BreaksB1, BreaksB2, IsFirstBroken, IsLinkOf, OfWords}
use Rattle.board.specs.Links.{naming, rule_b}
use Rattle.board.proofs.Words.{links_more, links_none}

-- ---- what is decided

pub is_none : (o : Option ℕ) → Decided (o ≡ None)
is_none None = inl refl
is_none (Some v) = inr (λ e. (let some : Some v ≡ None = e in cc))

is_some : (o : Option ℕ) (v : ℕ) → Decided (o ≡ Some v)
is_some None v = inr (λ e. (let none : None ≡ Some v = e in cc))
is_some (Some u) v = elim (is_number u v) [
  | inl same ↦ inl (ap Some same)
  | inr other ↦ inr (λ e. other (let both : Some u ≡ Some v = e in cc))
]

some_of : (o : Option ℕ) → (o ≡ None → ⊥) → (v : ℕ) × (o ≡ Some v)
some_of None none = absurd (none refl)
some_of (Some v) none = (v, refl)

pub any_of : {X : Type 0} (P : X → Type 0) → ((l : X) → Decided (P l)) → (ls : List X) → Decided (Any P ls)
any_of P known [] = inr (λ (k, x, lt, at, p). omega (arith, lt))
any_of {X} P known (l ∷ ls) = by (known l) (any_of P known ls)
  where
    neither : (P l → ⊥) → (Any P ls → ⊥) → (k : ℕ) (x : X) → k < length (l ∷ ls) → get_or (l ∷ ls) k x ≡ x → P x
        → ⊥
    neither none never zero x lt at p = none (subst P (sym at) p)
    neither none never (suc k) x lt at p = never (k, x, omega (arith, lt), at, p)

    by : Decided (P l) → Decided (Any P ls) → Decided (Any P (l ∷ ls))
    by (inl p) other = inl (0, l, omega arith, refl, p)
    by (inr none) (inl (k, x, lt, at, p)) = inl (suc k, x, omega (arith, lt), at, p)
    by (inr none) (inr never) = inr (λ (k, x, lt, at, p). neither none never k x lt at p)

-- ---- a word behind some links

module _ (earlier : List Link) (n : Naming) where
  first : Decided (BreaksB1 earlier n)
  first = one_of (is_none n.part)
      (any_of (λ (l : Link). n.part ≡ Some l.part) (λ (l : Link). is_some n.part l.part) earlier)

  second : Decided (BreaksB2 earlier n)
  second = one_of (is_none n.seen) (one_of (is_none n.driven)
      (any_of (λ (l : Link). n.driven ≡ Some l.driven) (λ (l : Link). is_some n.driven l.driven) earlier))

  -- a word that breaks no rule stands for a link
  whole : (BreaksB1 earlier n → ⊥) → (BreaksB2 earlier n → ⊥) → (l : Link) × IsLinkOf n earlier l
  whole no_first no_second =
      let part = some_of n.part (λ e. no_first (inl e)) in
      let seen = some_of n.seen (λ e. no_second (inl e)) in
      let driven = some_of n.driven (λ e. no_second (inr (inl e))) in (
        record { part = part.0; seen = seen.0; driven = driven.0 },
        record {
          named = λ i. record { part = part.1 i; seen = seen.1 i; driven = driven.1 i };
          follows = λ k d lt.
              let l = get_or earlier k d in
              let at = get_or_default earlier k l d lt in
              record {
                part = λ same. no_first (inr (k, l, lt, at, part.1 ∙ ap Some (sym same)));
                driven = λ same. no_second (inr (inr (k, l, lt, at, driven.1 ∙ ap Some (sym same))));
              };
        },
      )

  pub judged : ((l : Link) × IsLinkOf n earlier l) ⊎ ((rule : Rule) × Breaks earlier n rule)
  judged = by first second
    where
      by : Decided (BreaksB1 earlier n) → Decided (BreaksB2 earlier n)
          → ((l : Link) × IsLinkOf n earlier l) ⊎ ((rule : Rule) × Breaks earlier n rule)
      by (inl broken) other = inr (rule_b 1, inl (broken, refl))
      by (inr kept) (inl broken) = inr (rule_b 2, inr (kept, broken, refl))
      by (inr kept) (inr also) = inl (whole kept also)

-- ---- word by word

module _ (parts : List (List ℕ)) (pads : Pads) (words : List (List ℕ)) where
  -- these words stand for links
  abbrev Linked : List (List ℕ) → Type 0
  Linked some = (links : List Link) × AreLinks parts pads some links

  abbrev Breaking : Type 0
  Breaking = (b : Broken) × IsFirstBroken parts pads words b

  next : (k : ℕ) → k < length words → Linked (take k words) → Linked (take (suc k) words) ⊎ Breaking
  next k lt (links, are) = by (judged links (naming parts pads (get_or words k [])))
    where
      by : ((l : Link) × IsLinkOf (naming parts pads (get_or words k [])) links l)
          ⊎ ((rule : Rule) × Breaks links (naming parts pads (get_or words k [])) rule)
          → Linked (take (suc k) words) ⊎ Breaking
      by (inl (l, is)) = inl (
        links ++ l ∷ [],
        subst (λ some. AreLinks parts pads some (links ++ l ∷ [])) (sym (take-suc words k [] lt))
            (links_more parts pads (take k words) (get_or words k []) links l is.named is.follows are),
      )
      by (inr (rule, breaks)) = inr (
        record { rule = rule; spot = Named (get_or words k []) },
        record {
          k = k;
          word = get_or words k [];
          links = links;
          at = slice_get-get_or words k [] lt;
          before = are;
          breaks = breaks;
          spot = refl;
        },
      )

  so_far : (k : ℕ) → k ≤ length words → Linked (take k words) ⊎ Breaking
  so_far zero le = inl ([], links_none parts pads)
  so_far (suc k) le = elim (so_far k (omega (arith, le))) [
    | inl linked ↦ next k (omega (arith, le)) linked
    | inr breaking ↦ inr breaking
  ]

pub verdict : LinksVerdict
verdict parts words pads = by (so_far parts pads words (length words) (omega arith))
  where
    by : Linked parts pads words (take (length words) words) ⊎ Breaking parts pads words
        → (first : Option Broken) × OfWords parts pads words first
    by (inl (links, are)) =
        let all = take_all (length words) words (omega arith) in
        (None, (links, subst (λ some. AreLinks parts pads some links) all are))
    by (inr (b, is)) = (Some b, is)
