use Rattle.std.proofs.Common.{arith}
use Rattle.sequence_network.proofs.live.first_dead.Goals as goal

pub returns-then-not-live-number : goal.returns-then-not-live-number
returns-then-not-live-number c = record {
  inside = c.loop-number-test.true;
  before = c.loop-number.invariant;
  dead = λ l. let marked = (c.requires.live.each c.loop-number.number (omega (arith, c.requires.within))).1 l in cc (c.if-not-live-number.true, marked);
}
