-- Chains that follow other chains, for all crates above.
use Rattle.lam_geom.specs.Chains.{Chain}
use Rattle.lam_geom.specs.Chains.Chain.{here, link}
use Rattle.lam_geom.proofs.Chains.{join_chains}

-- Joins of S that lead from what o owns to what p owns are followed by chains among the owners.
pub follow : {S O : Type 0} {J : S → S → Type 0} {L : O → O → Type 0} (Owns : O → S → Type 0)
    → ((s t : S) (o : O) → J s t → Owns o s → (p : O) × Owns p t × Chain L o p)
    → {s t : S} → Chain J s t → (o : O) → Owns o s → (p : O) × Owns p t × Chain L o p
follow Owns step here o h = (o, h, here)
follow Owns step (link {s = s} {t = t} j c) o h =
    let a = step s t o j h in
    let b = follow Owns step c a.0 a.1 in
    (b.0, b.1, join_chains a.2 b.2)
