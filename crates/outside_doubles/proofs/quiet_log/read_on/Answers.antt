use Rattle.std.proofs.Common.{◌∙◌, ◌≡◌, ◌-◌, ◌+◌, ◌++◌, ap, sym, take, drop, length, arith, rules}
use Rattle.std.proofs.lemmas.List.{length-drop, length-take-le}
use Rattle.outside.proofs.FilesLemmas.{rest_of}
use Rattle.outside_doubles.proofs.QuietReadings.{reads_on}
use Rattle.outside_doubles.proofs.quiet_log.read_on.Goals as goal

pub returns-clause-read : goal.returns-clause-read
returns-clause-read c = λ bytes at read.
    let text = c.args.text.now in
    let from = c.min-from.result in
    let n = c.min-count.result in
    let count = c.args.cursor.count in
    let rest : take (length text - from) (drop from text) ≡ drop from text = rest_of text from in
    let size : length (take (length text - from) (drop from text)) ≡ length text - from = ap length rest
    ∙ length-drop from text in
    let copied : length (take n (take (length text - from) (drop from text))) ≡ n =
    length-take-le n (take (length text - from) (drop from text)) (omega arith) in
    reads_on bytes text c.args.buf.now c.copy_at.new.buf at from n c.args.cursor read c.min-from.ensures (omega arith)
    (search rules)
    (ap (λ k. take (count + k) c.copy_at.new.buf) (sym copied) ∙ c.copy_at.ensures
    ∙ ap (λ t. take count c.args.buf.now ++ take n t) rest)
