use Rattle.std.proofs.Common.{refl, inl, inr}
use Rattle.source_run.proofs.fit.states_fit.Goals as goal

pub environments_fit-requires-clause-names : goal.environments_fit-requires-clause-names
environments_fit-requires-clause-names c = λ at e. c.requires.unbroken 20 at (inl (refl, e))

pub environments_fit-requires-clause-sorts : goal.environments_fit-requires-clause-sorts
environments_fit-requires-clause-sorts c = λ at e. c.requires.unbroken 22 at (inr (inr (inl (refl, e))))

pub environments_fit-requires-clause-sizes : goal.environments_fit-requires-clause-sizes
environments_fit-requires-clause-sizes c = λ at e. c.requires.unbroken 23 at (inr (inr (inr (inl (refl, e)))))

pub next_states_fit-requires-clause-names : goal.next_states_fit-requires-clause-names
next_states_fit-requires-clause-names c = λ at e. c.requires.unbroken 20 at (inl (refl, e))

pub next_states_fit-requires-clause-sorts : goal.next_states_fit-requires-clause-sorts
next_states_fit-requires-clause-sorts c = λ at e. c.requires.unbroken 22 at (inr (inr (inl (refl, e))))

pub next_states_fit-requires-clause-sizes : goal.next_states_fit-requires-clause-sizes
next_states_fit-requires-clause-sizes c = λ at e. c.requires.unbroken 23 at (inr (inr (inr (inl (refl, e)))))

pub returns : goal.returns
returns c = λ st inputs env state fits given environment.
    c.next_states_fit.ensures st inputs env fits (c.environments_fit.ensures st inputs env state fits given environment)
