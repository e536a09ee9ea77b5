use Rattle.node_clusters.proofs.give.give.Goals as goal

pub returns-clause-given : goal.returns-clause-given
returns-clause-given c n =
    let all = c.add_unopposed.ensures.given n in (
      λ q. let p = all.0 q in (p.0, (c.tell_given.ensures.given n p.0).0 p.1),
      λ q. all.1 (q.0, (c.tell_given.ensures.given n q.0).1 q.1),
    )
