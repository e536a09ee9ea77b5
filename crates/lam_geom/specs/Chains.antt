-- Things that a relation joins.

-- a finite chain of joins leads from one to the other
pub data Chain {S : Type 0} (Joined : S → S → Type 0) : S → S → Type 0 where
  here : {s : S} → Chain Joined s s
  link : {s t u : S} → Joined s t → Chain Joined t u → Chain Joined s u
