use Rattle.process_plan.proofs.Keeping.{keeps_20, keeps_22, keeps_23, keeps_32, keeps_36}
use Rattle.process_plan.proofs.laws.lawful.Goals as goal

pub own_names-requires : goal.own_names-requires
own_names-requires c = keeps_20 c.args.program.now c.requires.unbroken

pub one_move-requires : goal.one_move-requires
one_move-requires c = keeps_32 c.args.program.now c.requires.unbroken

pub zero_is_a_state-requires : goal.zero_is_a_state-requires
zero_is_a_state-requires c = keeps_36 c.args.program.now c.requires.unbroken

pub environments_fit-requires-clause-names : goal.environments_fit-requires-clause-names
environments_fit-requires-clause-names c = keeps_20 c.args.program.now c.requires.unbroken

pub environments_fit-requires-clause-sorts : goal.environments_fit-requires-clause-sorts
environments_fit-requires-clause-sorts c = keeps_22 c.args.program.now c.requires.unbroken

pub environments_fit-requires-clause-sizes : goal.environments_fit-requires-clause-sizes
environments_fit-requires-clause-sizes c = keeps_23 c.args.program.now c.requires.unbroken

pub guards_fit-requires-clause-names : goal.guards_fit-requires-clause-names
guards_fit-requires-clause-names c = keeps_20 c.args.program.now c.requires.unbroken

pub guards_fit-requires-clause-sorts : goal.guards_fit-requires-clause-sorts
guards_fit-requires-clause-sorts c = keeps_22 c.args.program.now c.requires.unbroken

pub guards_fit-requires-clause-sizes : goal.guards_fit-requires-clause-sizes
guards_fit-requires-clause-sizes c = keeps_23 c.args.program.now c.requires.unbroken

pub next_states_fit-requires-clause-names : goal.next_states_fit-requires-clause-names
next_states_fit-requires-clause-names c = keeps_20 c.args.program.now c.requires.unbroken

pub next_states_fit-requires-clause-sorts : goal.next_states_fit-requires-clause-sorts
next_states_fit-requires-clause-sorts c = keeps_22 c.args.program.now c.requires.unbroken

pub next_states_fit-requires-clause-sizes : goal.next_states_fit-requires-clause-sizes
next_states_fit-requires-clause-sizes c = keeps_23 c.args.program.now c.requires.unbroken
