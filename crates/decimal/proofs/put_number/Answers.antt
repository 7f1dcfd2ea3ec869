use Rattle.std.proofs.Common.{arith, rules}
use Rattle.decimal.proofs.Laws.{decimal_is, written_there}
use Rattle.decimal.proofs.put_number.Goals as goal

pub write_digits-requires : goal.write_digits-requires
write_digits-requires c = let e = decimal_is c.args.n (search rules) in let d = c.digit_count.ensures in rw (e, d) (omega arith, omega arith)

pub returns : goal.returns
returns c = let e = decimal_is c.args.n (search rules) in let d = c.digit_count.ensures in let k = c.write_digits.ensures in
    (written_there c.args.buf.now c.write_digits.new.buf _ c.args.at c.write_digits.result c.requires (rw (e, d) at k.start) (rw (e, d) at k.written) k.before, rw d)
