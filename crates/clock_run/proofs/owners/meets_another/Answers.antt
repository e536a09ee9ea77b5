use Rattle.std.specs.Str.{bytes_eq}
use Rattle.std.proofs.Common.{◌≡◌, ◌∙◌, ◌+◌, ap, sym, subst, set, get_or, Some, None}
use Rattle.std.proofs.lemmas.Slice.Eq.{bytes_eq-Decides}
use Rattle.switch_net.specs.declared.network.Tag.{Tag}
use Rattle.clock_run.specs.Owners.{AreOwners}
use Rattle.clock_run.proofs.Missing.{stands_at}
use Rattle.mp_base.proofs.Entries.{one_value}
use Rattle.clock_run.proofs.Owning.{owners_new, owners_same, owners_meet, have_differed, were_alike}
use Rattle.clock_run.proofs.owners.meets_another.Goals as goal

pub returns-in-None-clause-noted : goal.returns-in-None-clause-noted
returns-in-None-clause-noted c = λ _ drivers t at driver o.
    let tags = c.args.tags.now in
    let owners = c.args.owners.now in
    let here = stands_at tags c.args.i c.index-tags-i.result c.requires.inside c.index-tags-i.is in
    let same : c.index-tags-i.result ≡ t = one_value _ c.index-tags-i.result t here at in
    let room = c.requires.nodes.nodes c.args.i t at in
    let free = ap (λ (x : Tag). get_or owners x.node None) (sym same) ∙ c.in-None.is in
    subst (λ (x : Tag). AreOwners drivers tags (set owners x.node (Some c.args.i)) (c.args.i + 1)) (sym same)
    (owners_new drivers tags c.args.i t at owners o room driver free)

pub returns-in-Some-clause-met : goal.returns-in-Some-clause-met
returns-in-Some-clause-met c = λ differ drivers t at driver o.
    let tags = c.args.tags.now in
    let owners = c.args.owners.now in
    let j = c.in-Some.first in
    let first = c.index-tags-first.result in
    let here = stands_at tags c.args.i c.index-tags-i.result c.requires.inside c.index-tags-i.is in
    let same : c.index-tags-i.result ≡ t = one_value _ c.index-tags-i.result t here at in
    let own = ap (λ (x : Tag). get_or owners x.node None) (sym same) ∙ c.in-Some.is in
    let there = stands_at tags j first (c.requires.nodes.places t.node j own) c.index-tags-first.is in
    let told = c.same_name.ensures ∙ ap (λ (x : Tag). bytes_eq first.name x.name) same in
    owners_meet drivers tags c.args.i t at owners j first o driver own there
    (λ e. have_differed c.same_name.result (bytes_eq first.name t.name) told differ
    ((bytes_eq-Decides first.name t.name).1 e))

pub returns-in-Some-clause-noted : goal.returns-in-Some-clause-noted
returns-in-Some-clause-noted c = λ alike drivers t at driver o.
    let tags = c.args.tags.now in
    let owners = c.args.owners.now in
    let j = c.in-Some.first in
    let first = c.index-tags-first.result in
    let here = stands_at tags c.args.i c.index-tags-i.result c.requires.inside c.index-tags-i.is in
    let same : c.index-tags-i.result ≡ t = one_value _ c.index-tags-i.result t here at in
    let own = ap (λ (x : Tag). get_or owners x.node None) (sym same) ∙ c.in-Some.is in
    let there = stands_at tags j first (c.requires.nodes.places t.node j own) c.index-tags-first.is in
    let told = c.same_name.ensures ∙ ap (λ (x : Tag). bytes_eq first.name x.name) same in
    owners_same drivers tags c.args.i t at owners j first o own there
    ((bytes_eq-Decides first.name t.name).0
    (were_alike c.same_name.result (bytes_eq first.name t.name) told alike))
