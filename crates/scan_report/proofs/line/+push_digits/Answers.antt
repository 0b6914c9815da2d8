use Rattle.std.proofs.Common.{◌<◌, ◌≤◌, ◌^◌, arith, append_assoc}
use Rattle.scan_report.proofs.Digits.{more_digits, length_more}
use Rattle.scan_report.proofs.line.+push_digits.Goals as goal

pub push-requires-else-number-lt10 : goal.push-requires-else-number-lt10
push-requires-else-number-lt10 t c =
    let big : 10 ≤ c.args.number = omega arith in
    let small : c.args.number < 10 ^ 38 = c.requires.small in
    omega (arith, length_more c.args.number big small, c.push_digits.ensures.len, c.requires.room)

pub returns-else-number-lt10-clause-text : goal.returns-else-number-lt10-clause-text
returns-else-number-lt10-clause-text t c =
    let big : 10 ≤ c.args.number = omega arith in
    let small : c.args.number < 10 ^ 38 = c.requires.small in
    rw (c.push-else-number-lt10.ensures.text, c.push_digits.ensures.text, more_digits c.args.number big small, append_assoc)
