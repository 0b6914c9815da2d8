use Rattle.std.proofs.Common.{ℕ, ◌<◌, ◌≤◌, List, length, take, drop, subst, arith, length-drop}
use Rattle.std.proofs.lemmas.List.{take_rest}
use Rattle.std.specs.Io.KnownBytes.{Appends}
use Rattle.harm_io.proofs.Pieces.{wrote_more}
use Rattle.harm_io.proofs.outside.write_whole.Goals as goal

pub writing-preserved : goal.writing-preserved
writing-preserved g c =
    let whole = c.args.bytes.now in
    let rest : List ℕ = drop c.writing.written whole in
    let is = take_rest whole c.writing.written in
    let count : c.write_some-count.result ≤ length rest = subst (λ l. c.write_some-count.result ≤ length l) is c.write_some-count.ensures.count in
    let taken : Appends (g.W.Write.contents c.writing.stream) (g.W.Write.contents c.write_some-count.new.stream) (take c.write_some-count.result rest)
    = subst (λ l. Appends (g.W.Write.contents c.writing.stream) (g.W.Write.contents c.write_some-count.new.stream) (take c.write_some-count.result l)) is c.write_some-count.ensures.taken in
    let within : c.writing.written < length whole = c.writing-test.true in
    (omega (arith, count, within, length-drop c.writing.written whole), wrote_more _ _ _ whole c.writing.written c.write_some-count.result c.writing.invariant.1 taken)
