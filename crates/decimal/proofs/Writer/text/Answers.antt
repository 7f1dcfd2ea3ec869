use Rattle.std.proofs.Common.{refl}
use Rattle.decimal.proofs.Writer.text.Goals as goal

pub returns : goal.returns
returns c = record { same = refl; wrote = c.put_text-self.ensures }
