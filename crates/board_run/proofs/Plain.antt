-- Words without swaps.
use Rattle.std.proofs.Common.{◌≡◌, ◌∙◌, ℕ, ◌-◌, List, [], ◌∷◌, ◌++◌, append-nil, append_assoc, Bool, false, map, refl}
use Rattle.std.proofs.Common.{sym, ap, subst, arith}
use Rattle.std.specs.Prelude.{All}
use Rattle.std.proofs.lemmas.List.{map_push}
use Rattle.std.proofs.lemmas.List.Elements.{All-head, All-tail}
use Rattle.std.proofs.lemmas.List.Quantifiers.{all_pairs_push}
use Rattle.board.specs.declared.link.Link.{Link}
use Rattle.board.specs.declared.plan.Plan.{Plan}
use Rattle.board.specs.declared.plan.Swap.{Swap}
use Rattle.board.specs.Boarding.{AreApart}
use Rattle.board.specs.Face.{Face}
use Rattle.board.specs.Links.{AreLinks, naming, naming_of}
use Rattle.board.specs.Plans.{FollowsAs, IsPlan, LeadsTo, Setting, is_swap_word, with_link}
use Rattle.board_run.specs.Laws.{IsPlain, PlainWords}
use Rattle.board_run.specs.Left.{left_of, link_left, links_left}
use Rattle.board_run.proofs.Left.{left_none}

module _ (setting : Setting) where
  abbrev Links : List (List ℕ) → List Link → Type 0
  Links words links = AreLinks setting.parts setting.pads words links

  -- behind links
  plain_behind : (plan whole : Plan) (done words : List (List ℕ)) → plan.swaps ≡ [] → Links done plan.links
      → All (λ (w : List ℕ). is_swap_word w ≡ false) words → LeadsTo setting plan words whole
      → (whole.swaps ≡ []) × Links (done ++ words) whole.links
  plain_behind plan whole done [] none links plain same =
      let P : Plan → Type 0 = λ p. (p.swaps ≡ []) × Links (done ++ []) p.links in
      subst P same (none, subst (λ ws. Links ws plan.links) (sym (append-nil done)) links)
  plain_behind plan whole done (w ∷ ws) none links plain (next, follows, rest) =
      let P : List ℕ → Type 0 = λ w. is_swap_word w ≡ false in
      let link = subst (λ b. FollowsAs b setting plan w next) (All-head P w ws plain) follows in
      let l = link.0 in
      let is = link.1 in
      let more : Links (done ++ w ∷ []) (plan.links ++ l ∷ []) = record {
        named =
            map_push (naming setting.parts setting.pads) done w
            ∙ ap (λ ns. ns ++ naming setting.parts setting.pads w ∷ []) links.named
            ∙ ap (λ n. map naming_of plan.links ++ n ∷ []) is.named ∙ sym (map_push naming_of plan.links l);
        apart = all_pairs_push AreApart plan.links l links.apart is.follows;
      } in
      let here = link.3 in
      let told =
      plain_behind next whole (done ++ w ∷ []) ws (ap (λ (p : Plan). p.swaps) here ∙ none)
      (subst (λ (p : Plan). Links (done ++ w ∷ []) p.links) (sym here) more) (All-tail P w ws plain) rest in
      (told.0, subst (λ ws. Links ws whole.links) (append_assoc done (w ∷ []) ws) told.1)

all_stay : (links : List Link) → map (link_left []) links ≡ links
all_stay [] = refl
all_stay (l ∷ links) =
    let here : link_left [] l ≡ l =
    ap (λ n. let m : Link = record { part = n; seen = l.seen; driven = l.driven } in m) {x = l.part - 0} {y = l.part}
    (omega arith) in
    ap (λ m. m ∷ map (link_left []) links) here ∙ ap (λ ms. l ∷ ms) (all_stay links)

pub plain_words : PlainWords
plain_words setting words plan plain is =
    let told =
    plain_behind setting (record { links = []; swaps = [] }) plan [] words refl
    (record { named = refl; apart = λ i j d lt less. absurd (omega (arith, less)) }) plain is in
    let Q : List Swap → Type 0 = λ ss. map (link_left ss) plan.links ≡ plan.links in
    record {
      links = told.1;
      none = told.0;
      wired = subst Q (sym told.0) (all_stay plan.links);
      names = subst (λ (ss : List Swap). left_of ss setting.parts ≡ setting.parts) (sym told.0)
          (left_none 0 setting.parts);
      faces = λ faces. subst (λ (ss : List Swap). left_of ss faces ≡ faces) (sym told.0) (left_none 0 faces);
    }
