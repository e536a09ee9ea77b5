-- Lemmas of chains, for all crates above: one after another, turned, of other joins, and what they keep.
use Rattle.std.proofs.Common.{◌≡◌, refl, ◌∙◌, subst}
use Rattle.lam_geom.specs.Chains.{Chain}
use Rattle.lam_geom.specs.Chains.Chain.{here, link}

-- one chain after another
pub join_chains : {S : Type 0} {J : S → S → Type 0} {s t u : S} → Chain J s t → Chain J t u → Chain J s u
join_chains here d = d
join_chains (link j c) d = link j (join_chains c d)

-- a join is a chain
pub one_link : {S : Type 0} {J : S → S → Type 0} {s t : S} → J s t → Chain J s t
one_link j = link j here

-- a chain of what is the same is none
pub same_chain : {S : Type 0} {J : S → S → Type 0} {s t : S} → s ≡ t → Chain J s t
same_chain {J = J} {s = s} e = subst (Chain J s) e here

-- where joins go both ways, chains do
pub turn_chain : {S : Type 0} {J : S → S → Type 0} → ((a b : S) → J a b → J b a) → {s t : S} → Chain J s t → Chain J t s
turn_chain flip here = here
turn_chain flip (link {s = s} {t = t} j c) = join_chains (turn_chain flip c) (one_link (flip s t j))

-- where joins of one kind are of another, chains are
pub map_chain : {S : Type 0} {J K : S → S → Type 0} → ((s t : S) → J s t → K s t) → {s t : S} → Chain J s t
    → Chain K s t
map_chain f here = here
map_chain f (link {s = s} {t = t} j c) = link (f s t j) (map_chain f c)

-- what each join keeps, a chain keeps
pub keep_along : {S : Type 0} {J : S → S → Type 0} (P : S → Type 0) → ((a b : S) → J a b → P a → P b)
    → {s t : S} → Chain J s t → P s → P t
keep_along P step here p = p
keep_along P step (link {s = s} {t = t} j c) p = keep_along P step c (step s t j p)

-- a value that each join keeps, a chain keeps
pub keep_chain : {S V : Type 0} {J : S → S → Type 0} (F : S → V) → ((a b : S) → J a b → F a ≡ F b)
    → {s t : S} → Chain J s t → F s ≡ F t
keep_chain F k here = refl
keep_chain F k (link {s = s} {t = t} j c) = k s t j ∙ keep_chain F k c
