-- Numbers by name, as names are added.
use Rattle.std.proofs.Common.{◌≡◌, ◌≢◌, ◌⊎◌, inl, inr, ◌∙◌, ℕ, ◌+◌, ◌<◌, List, [], ◌∷◌, ◌++◌, length, get_or, take}
use Rattle.std.proofs.Common.{refl, sym, ap, subst, Bool, true, false, cond, Bor, Option, Some, None}
use Rattle.std.specs.Prelude.{Contains, MatchOption, ◌↔◌}
use Rattle.std.specs.Option.{IsSome}
use Rattle.std.specs.Str.{bytes_eq}
use Rattle.std.specs.BTreeMap.{BTreeMap}
use Rattle.std.proofs.lemmas.Slice.Eq.{bytes_eq-Decides}
use Rattle.std.proofs.lemmas.List.{take_more}
use Rattle.std.proofs.lemmas.List.Elements.{Contains-push, Contains-push_cases, Contains-append_left}
use Rattle.switch_net.specs.declared.network.Tag.{Tag}
use Rattle.clock_run.specs.Numbers.{IsTagged, NumberNodes}
use Rattle.switch_net.specs.Names.{number_of}

abbrev pub Numbers : Type 0
Numbers = BTreeMap (Bor (List ℕ)) ℕ

-- the name gained this number
abbrev pub Gained : Numbers → Numbers → List ℕ → ℕ → Type 0
Gained old new key number = (x : List ℕ) → number_of new x ≡ cond (bytes_eq key x) (Some number) (number_of old x)

-- just these names have numbers
abbrev pub Number : List (List ℕ) → Numbers → Type 0
Number names numbers = (x : List ℕ) → IsSome (number_of numbers x) ↔ Contains names x

-- one more of a list's elements
pub take_push : {A : Type 0} (xs : List A) (i : ℕ) (y : A) → i < length xs → y ≡ get_or xs i y
    → take (i + 1) xs ≡ take i xs ++ y ∷ []
take_push {A} xs i y lt is = take_more xs i y lt ∙ ap (λ (z : A). take i xs ++ z ∷ []) (sym is)

name_pushed : (names : List (List ℕ)) (old new : Numbers) (key : List ℕ) (number : ℕ) → Number names old
    → Gained old new key number
    → Number (names ++ key ∷ []) new
name_pushed names old new key number n gained x = by_test (bytes_eq key x) refl
  where
    by_test : (b : Bool) → bytes_eq key x ≡ b → IsSome (number_of new x) ↔ Contains (names ++ key ∷ []) x
    by_test true e =
        let is : key ≡ x = (bytes_eq-Decides key x).0 e in
        let has : number_of new x ≡ Some number = gained x ∙ ap (λ t. cond t (Some number) (number_of old x)) e in (
          λ _. subst (λ z. Contains (names ++ key ∷ []) z) is (Contains-push names key),
          λ _. subst IsSome
              (sym has) refl,
        )
    by_test false e =
        let same : number_of new x ≡ number_of old x =
        gained x ∙ ap (λ t. cond t (Some number) (number_of old x)) e in (
          λ h. Contains-append_left names (key ∷ []) x ((n x).0 (subst IsSome same h)),
          λ c. subst IsSome (sym same) ((n x).1 (earlier (Contains-push_cases names key x c))),
        )
      where
        earlier : Contains names x ⊎ (key ≡ x) → Contains names x
        earlier (inl h) = h
        earlier (inr q) = let yes : bytes_eq key x ≡ true = (bytes_eq-Decides key x).1 q in absurd (cc)

pub names_more : (names : List (List ℕ)) (i : ℕ) (old new : Numbers) (key : List ℕ) (number : ℕ) → i < length names
    → key ≡ get_or names i key
    → Number (take i names) old → Gained old new key number → Number (take (i + 1) names) new
names_more names i old new key number lt is n gained =
    subst (λ xs. Number xs new) (sym (take_push names i key lt is))
    (name_pushed (take i names) old new key number n gained)

-- what NumberNodes says of a name
abbrev pub IsNumberOf : List Tag → List ℕ → Option ℕ → Type 0
IsNumberOf tags x o = MatchOption o ((u : Tag) → Contains tags u → u.name ≢ x) (IsTagged tags x)

tag_pushed : (tags : List Tag) (old new : Numbers) (t : Tag) → NumberNodes tags old → Gained old new t.name t.node
    → NumberNodes (tags ++ t ∷ []) new
tag_pushed tags old new t n gained x = by_test (bytes_eq t.name x) refl
  where
    other : bytes_eq t.name x ≡ false → (u : Tag) → Contains tags u ⊎ (t ≡ u) → (Contains tags u → u.name ≢ x)
        → u.name ≢ x
    other e u (inl c) h q = h c q
    other e u (inr s) h q =
        let yes : bytes_eq t.name x ≡ true = (bytes_eq-Decides t.name x).1 (ap (λ (v : Tag). v.name) s ∙ q) in
        absurd (cc)

    kept : bytes_eq t.name x ≡ false → (o : Option ℕ)
        → MatchOption o ((u : Tag) → Contains tags u → u.name ≢ x) (IsTagged tags x)
        → IsNumberOf (tags ++ t ∷ []) x o
    kept e None h = λ u c. other e u (Contains-push_cases tags t u c) (h u)
    kept e (Some node) h = (h.0, Contains-append_left tags (t ∷ []) h.0 h.1, h.2, h.3)

    by_test : (b : Bool) → bytes_eq t.name x ≡ b → IsNumberOf (tags ++ t ∷ []) x (number_of new x)
    by_test true e =
        subst (IsNumberOf (tags ++ t ∷ []) x) (sym (gained x ∙ ap (λ b. cond b (Some t.node) (number_of old x)) e))
        (t, Contains-push tags t, (bytes_eq-Decides t.name x).0 e, refl)
    by_test false e =
        subst (IsNumberOf (tags ++ t ∷ []) x) (sym (gained x ∙ ap (λ b. cond b (Some t.node) (number_of old x)) e))
        (kept e (number_of old x) (n x))

pub tags_more : (tags : List Tag) (i : ℕ) (old new : Numbers) (t : Tag) → i < length tags → t ≡ get_or tags i t
    → NumberNodes (take i tags) old → Gained old new t.name t.node → NumberNodes (take (i + 1) tags) new
tags_more tags i old new t lt is n gained =
    subst (λ xs. NumberNodes xs new) (sym (take_push tags i t lt is)) (tag_pushed (take i tags) old new t n gained)
