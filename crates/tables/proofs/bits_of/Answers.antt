use Prim.Native.Nat.{◌+◌, ◌-◌}
use mathlib.Core.Path.{◌≡◌}
use lib.Bits.{bit_or}
use lib.ListN.{take, drop}
use Rattle.std.specs.List.{fold}
use Rattle.std.proofs.Common.{rules}
use Rattle.tables.proofs.Laws.{ored}
use Rattle.tables.proofs.bits_of.Goals as goal

pub returns : goal.returns
returns c = let a = c.args in
    let e : c.fold.result ≡ fold bit_or 0 (take ((a.a + a.n) - a.a) (drop a.a a.t.now)) = search rules in
    ored a.t.now a.a a.n c.requires e
