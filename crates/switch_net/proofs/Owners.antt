-- Chains of joins, and of what owns the joined things.
use Rattle.lam_geom.specs.Chains.{Chain}
use Rattle.lam_geom.specs.Chains.Chain.{here, link}
use Rattle.lam_geom.proofs.Chains.{join_chains}
use Rattle.lam_geom.proofs.Following.{follow}

-- Chains of owners are followed by chains among what they own.
pub follow_back : {S O : Type 0} {J : S → S → Type 0} {L : O → O → Type 0} (Owns : O → S → Type 0)
    → ((o p : O) (s : S) → L o p → Owns o s → (t : S) × Owns p t × Chain J s t)
    → {o p : O} → Chain L o p → (s : S) → Owns o s → (t : S) × Owns p t × Chain J s t
follow_back Owns step here s h = (s, h, here)
follow_back Owns step (link {s = o} {t = p} l c) s h =
    let a = step o p s l h in
    let b = follow_back Owns step c a.0 a.1 in
    (b.0, b.1, join_chains a.2 b.2)

-- The law of owners: two things that are owned are joined by a chain exactly where their owners are.
pub record Follows {S O : Type 0} (J : S → S → Type 0) (L : O → O → Type 0) (Owns : O → S → Type 0) : Type 0 where
  -- a join stays with an owner, or goes along a chain of owners
  pub join : (s t : S) (o : O) → J s t → Owns o s → (p : O) × Owns p t × Chain L o p
  -- what one owner owns is joined
  pub one : (o : O) (s t : S) → Owns o s → Owns o t → Chain J s t
  -- owners of one thing are joined
  pub shared : (o p : O) (s : S) → Owns o s → Owns p s → Chain L o p
  -- joined owners own joined things
  pub bridge : (o p : O) → L o p → (s : S) × (t : S) × Owns o s × Owns p t × Chain J s t

pub owners_from_things : {S O : Type 0} {J : S → S → Type 0} {L : O → O → Type 0} {Owns : O → S → Type 0}
    → Follows J L Owns → {s t : S} {o p : O} → Owns o s → Owns p t → Chain J s t → Chain L o p
owners_from_things {Owns = Owns} f {t = t} {o = o} {p = p} hs ht c =
    let a = follow Owns f.join c o hs in
    join_chains a.2 (f.shared a.0 p t a.1 ht)

pub things_from_owners : {S O : Type 0} {J : S → S → Type 0} {L : O → O → Type 0} {Owns : O → S → Type 0}
    → Follows J L Owns → {s t : S} {o p : O} → Owns o s → Owns p t → Chain L o p → Chain J s t
things_from_owners {J = J} {Owns = Owns} f {s = s} {t = t} {p = p} hs ht c =
    let a = follow_back Owns
    (λ o q u l h. let b = f.bridge o q l in (b.1, b.3, join_chains (f.one o u b.0 h b.2) b.4)) c s hs in
    join_chains a.2 (f.one p a.0 t a.1 ht)
