use Rattle.std.proofs.Common.{◌≡◌, ◌∙◌, ℕ, List, ap, sym, subst, arith, Some, None, take, ◌+◌}
use Rattle.std.specs.List.{AllZip}
use Rattle.mp_base.specs.declared.refusal.Spot.TheVariants.{Named}
use Rattle.switch_net.specs.declared.network.Tag.{Tag}
use Rattle.switch_net.specs.Clock.{IsLabelled}
use Rattle.switch_net.specs.Breaks.{broken}
use Rattle.switch_net.specs.Names.{number_of}
use Rattle.clock_run.proofs.Missing.{missing_here, labelled_more}
use Rattle.clock_run.proofs.Naming.{IsNumberOf}
use Rattle.clock_run.proofs.resolve.resolve.Goals as goal

pub returns-in-None-clause-err : goal.returns-in-None-clause-err
returns-in-None-clause-err c =
    let name : List ℕ = c.name-item.result in
    let net = c.args.network.now in
    let number : None ≡ number_of c.in_ok-numbers.numbers name =
    c.in-None.ensures ∙ ap (number_of c.in_ok-numbers.numbers) c.bytes.ensures in
    let none : IsNumberOf c.as_slice.result.now name None = subst (IsNumberOf c.as_slice.result.now name) (sym number)
    (c.in_ok-numbers.ensures name) in
    let copied : c.in_ok-from_slice-in-None.field-0 ≡ name =
    c.in_ok-from_slice-in-None.ensures ∙ c.bytes-in-None.ensures in (
      name,
      missing_here net c.args.labels.now c.loop-name.name-index name c.loop-name.nodes
          (omega arith) c.name-item.is c.loop-name.invariant
          (subst (λ (ts : List Tag). IsNumberOf ts name None) c.as_slice.ensures none),
      ap (λ (x : List ℕ). broken 4 (Named x)) copied,
    )

pub loop-name-preserved : goal.loop-name-preserved
loop-name-preserved c =
    let name : List ℕ = c.name-item.result in
    let net = c.args.network.now in
    let node = c.in-Some.node in
    let number : Some node ≡ number_of c.in_ok-numbers.numbers name =
    c.in-Some.ensures ∙ ap (number_of c.in_ok-numbers.numbers)
    c.bytes.ensures in
    let there : IsNumberOf c.as_slice.result.now name (Some node) =
    subst (IsNumberOf c.as_slice.result.now name) (sym number)
    (c.in_ok-numbers.ensures name) in
    subst (λ (ns : List ℕ). AllZip (IsLabelled net) (take (c.loop-name.name-index + 1) c.args.labels.now) ns)
    (sym c.in_ok-push-in-Some.ensures.ok)
    (labelled_more net c.args.labels.now c.loop-name.name-index name c.loop-name.nodes node
    (omega arith) c.name-item.is c.loop-name.invariant
    (subst (λ (ts : List Tag). IsNumberOf ts name (Some node)) c.as_slice.ensures there))
