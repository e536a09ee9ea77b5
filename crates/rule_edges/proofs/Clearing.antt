-- Edges that are clear of each other.
use Rattle.std.proofs.Common.{ℕ, ◌≡◌, ◌+◌, ◌<◌, ◌≤◌, inl, inr, sym, ◌∙◌, subst, arith, List, get_or, length}
use Rattle.std.proofs.Common.{true≢false, true, false}
use Rattle.std.proofs.lemmas.Bool.{cases_lt}
use Rattle.std.proofs.lemmas.List.{get_or_default}
use Rattle.rule_edges.specs.declared.apart.Reached.{Reached}
use Rattle.rule_edges.specs.declared.edge.Edge.{Edge}
use Rattle.rule_edges.specs.Edges.{AreClear, IsOn, Passes}

abbrev pub no_edge : Edge
no_edge = record { from = 0; to = 0; begins = false }

-- where the one ends and the other begins, they have no square in common
abbrev Clear : Edge → Edge → Type 0
Clear e f = e.begins ≡ false → f.begins ≡ true → (n : ℕ) → IsOn e n → ¬ IsOn f n

-- the first n edges are clear of each other, and go so far
pub record AreReached (edges : List Edge) (n : ℕ) (r : Reached) : Type 0 where
  pub ended : (k : ℕ) → k < n → (get_or edges k no_edge).begins ≡ false → (get_or edges k no_edge).to ≤ r.ended
  pub begun : (k : ℕ) → k < n → (get_or edges k no_edge).begins ≡ true → (get_or edges k no_edge).to ≤ r.begun
  pub clear : (i j : ℕ) → i < n → j < n → Clear (get_or edges i no_edge) (get_or edges j no_edge)

pub reached_none : (edges : List Edge) (r : Reached) → AreReached edges 0 r
reached_none edges r = record {
  ended = λ k m. absurd (omega arith);
  begun = λ k m. absurd (omega arith);
  clear = λ i j m. absurd (omega arith);
}

last : (P : ℕ → Type 0) (n k : ℕ) → k < n + 1 → (k < n → P k) → P n → P k
last P n k m f g =
    elim (cases_lt k n) [ inl l ↦ f l | inr l ↦ subst P (let e : n ≡ k = omega arith in e) g ]

pub reached_more : (edges : List Edge) (n : ℕ) (old new : Reached) → AreReached edges n old
    → Passes (get_or edges n no_edge) old new → AreReached edges (n + 1) new
reached_more edges n old new h p = record {
  ended = λ k m. last
      (λ z. (get_or edges z no_edge).begins ≡ false → (get_or edges z no_edge).to ≤ new.ended) n k m
      (λ l s. let a = h.ended k l s in let b = p.ended in omega arith) p.own_end;
  begun = λ k m. last
      (λ z. (get_or edges z no_edge).begins ≡ true → (get_or edges z no_edge).to ≤ new.begun) n k m
      (λ l s. let a = h.begun k l s in let b = p.begun in omega arith) p.own_start;
  clear = λ i j mi mj. last (λ z. Clear (get_or edges z no_edge) (get_or edges j no_edge)) n i mi
      (λ li. last (λ z. Clear (get_or edges i no_edge) (get_or edges z no_edge)) n j mj
      (λ lj. h.clear i j li lj)
      (λ s t m on off. let a = h.ended i li s in let b = p.past_ends t in let c = on.to in let d = off.from in
      omega arith))
      (last (λ z. Clear (get_or edges n no_edge) (get_or edges z no_edge)) n j mj
      (λ lj s t m on off. let a = h.begun j lj t in let b = p.past_starts s in let c = off.to in let d = on.from in
      omega arith)
      (λ s t. absurd (true≢false (sym t ∙ s))));
}

pub all_clear : (edges : List Edge) (n : ℕ) (r : Reached) → length edges ≤ n → AreReached edges n r → AreClear edges
all_clear edges n r all h e f has_e has_f =
    let i = has_e.0 in
    let j = has_f.0 in
    let at_e : get_or edges i no_edge ≡ e = get_or_default edges i no_edge e has_e.1 ∙ has_e.2 in
    let at_f : get_or edges j no_edge ≡ f = get_or_default edges j no_edge f has_f.1 ∙ has_f.2 in
    let a = has_e.1 in
    let b = has_f.1 in
    subst (λ z. Clear z f) at_e (subst (Clear (get_or edges i no_edge)) at_f
    (h.clear i j (omega arith) (omega arith)))
