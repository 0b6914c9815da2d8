use Rattle.std.proofs.Common.{◌<◌, ◌≡◌, length, arith, add-one}
use Rattle.band_subdivision.proofs.Bands.{bands_split, length_bands}
use Rattle.band_subdivision.proofs.stack.Stack.split.Goals as goal

pub returns : goal.returns
returns c =
    let count : length c.args.self.now ≡ c.self.inside.depth = rw (← c.self.view_is) (length_bands c.self.inside.depth c.self.inside.lo c.self.inside.ends) in
    let some : 0 < c.self.inside.depth = omega (arith, count, c.requires.some) in
    let room : c.self.inside.depth < length c.self.inside.ends = omega (arith, count, c.requires.room, c.self.told) in
    rw (← c.self.view_is, add-one) (bands_split c.self.inside.depth c.self.inside.lo c.self.inside.ends c.args.middle some room)
