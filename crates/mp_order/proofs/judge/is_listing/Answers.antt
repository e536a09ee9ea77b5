use Rattle.mp_order.proofs.judge.is_listing.Goals as goal

pub returns-then-lists_all : goal.returns-then-lists_all
returns-then-lists_all c = λ h. record { all = c.lists_all.ensures c.if-lists_all.true; only = c.lists_only.ensures h }
