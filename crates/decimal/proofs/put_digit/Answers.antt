use Rattle.std.proofs.Common.{refl, arith}
use Rattle.model.proofs.Digits.{digits_one}
use Rattle.decimal.proofs.Laws.{count_one}
use Rattle.decimal.proofs.put_digit.Goals as goal

pub bounds-buf-at : goal.bounds-buf-at
bounds-buf-at c = let e = count_one c.args.n c.requires.digit in let r = c.requires.room in omega arith

pub returns : goal.returns
returns c = rw (digits_one c.args.n c.requires.digit) (refl, refl)
